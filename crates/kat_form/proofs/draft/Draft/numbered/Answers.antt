use Rattle.std.proofs.Common.{ap, ◌∙◌, sym}
use Rattle.kat_clause.specs.Clauses.{lists}
use Rattle.kat_form.specs.Encodings.{Encoding}
use Rattle.kat_form.specs.Readings.{numbered}
use Rattle.kat_form.specs.Drafts.{sense_in}
use Rattle.kat_form.proofs.Keys.{inserted, gives_variable, gives_pair}
use Rattle.kat_form.proofs.draft.Draft.numbered.Goals as goal

pub returns-clause-gives : goal.returns-clause-gives
returns-clause-gives c =
    let keys = c.self.inside.keys.keys in
    let clauses = lists c.self.inside.clauses.items in
    gives_variable (numbered (sense_in c.args.key) c.args.self.now) c.variable.result _ c.in_ok-place.place c.variable.ensures.is
    (gives_pair keys c.insert_full.new.self.keys clauses c.args.key (numbered (sense_in c.args.key) c.args.self.now) c.in_ok-place.place
    (ap (λ (e : Encoding). numbered (sense_in c.args.key) e) (sym c.self.view_is) ∙ inserted c.args.key keys clauses c.requires) c.in_ok-place.ensures.index c.in_ok-place.ensures.keys)
