use Rattle.std.proofs.Common.{List, map, ap}
use Rattle.std.specs.Prelude.{slice_get}
use Rattle.kat_design.specs.Designs.{ask_form, design_form}
use Rattle.kat_design.specs.declared.designs.Ask.{Ask}
use Rattle.kat_form.specs.Facts.{fact_of}
use Rattle.kat_type.specs.Types.{query_form, type_form}
use Rattle.kat_symbols.specs.Views.{reader_of}
use Rattle.kat_vc.proofs.Stated.{answers_is}
use Rattle.kat_vc.proofs.statements.state_answers.Goals as goal

pub returns : goal.returns
returns c =
    answers_is c.state_denied.result (type_form c.args.old.now.ty.now) (design_form c.args.old.now.design.now) c.args.conjuncts.now c.args.number (query_form c.args.query.now)
    c.as_slice-params.result.now (slice_get (map ask_form c.as_slice-asks.result.now) c.args.number) (fact_of c.in_ok-same.same)
    (reader_of c.args.reader.now) (reader_of c.state_known.new.reader) (reader_of c.state_kept.new.reader) (reader_of c.answers_of.new.reader) (reader_of c.state_denied.new.reader)
    c.as_slice-params.ensures (ap (λ (xs : List Ask). slice_get (map ask_form xs) c.args.number) c.as_slice-asks.ensures)
    c.in_ok-state_known.ensures c.in_ok-state_kept.ensures c.in_ok-same.ensures c.state_denied.ensures
