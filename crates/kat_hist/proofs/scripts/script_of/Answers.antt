use Rattle.std.proofs.Common.{rules, ◌≡◌}
use Rattle.kat_hist.specs.Scripts.{script_text}
use Rattle.kat_type.specs.Signatures.{signature_of}
use Rattle.kat_type.specs.Types.{type_form}
use Rattle.kat_hist.proofs.HistoryJudged.{text_judged}
use Rattle.kat_hist.proofs.scripts.script_of.Goals as goal

pub returns-clause-judged : goal.returns-clause-judged
returns-clause-judged c =
    let sig = signature_of (type_form c.args.ty.now) in
    let same : c.push_asks.new.into.items ≡ script_text sig c.args.history.now = search rules in
    text_judged sig c.args.history.now c.push_asks.new.into.items same (c.signatures_are_small.ensures (type_form c.args.ty.now) c.requires.sorted)
