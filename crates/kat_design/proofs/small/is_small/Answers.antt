use Rattle.std.proofs.Common.{sym, ◌∙◌}
use Rattle.kat_design.proofs.SmallParts.{small_complete, small_sound}
use Rattle.kat_design.proofs.small.is_small.Goals as goal

pub returns : goal.returns
returns c =
    let is = rw c.as_slice.ensures at c.are_small.ensures in
    (λ e. small_sound c.args.state.now.parts (sym is ∙ e), λ h. is ∙ small_complete c.args.state.now.parts h)
