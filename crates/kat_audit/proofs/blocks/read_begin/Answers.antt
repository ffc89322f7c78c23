use Rattle.std.proofs.Common.{◌+◌, ◌++◌, ℕ, List, ◌∙◌, ap}
use Rattle.kat_design.specs.Designs.{design_form}
use Rattle.kat_due.specs.Texts.{begin_line}
use Rattle.kat_due.proofs.Refuting.{same_text}
use Rattle.kat_audit.proofs.blocks.read_begin.Goals as goal

pub returns : goal.returns
returns c =
    let old = c.args.reading.now in
    let line = begin_line (old.count + 1) (design_form c.args.design.now) in
    let text = c.deref.ensures.value ∙ c.in_ok-push_begin.ensures ∙ ap (λ (l : List ℕ). l ++ line) c.new-text.ensures.items in
    same_text old c.expect.new.self c.deref.result.now line c.expect.result text c.expect.ensures
