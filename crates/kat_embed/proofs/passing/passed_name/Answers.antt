use Rattle.std.proofs.Common.{◌≤◌, ◌∙◌, List, ℕ, length, refl, subst, sym}
use Rattle.kat_design.proofs.ShortNames.{name_short}
use Rattle.kat_embed.proofs.Passed.{name_padded}
use Rattle.kat_embed.proofs.passing.passed_name.Goals as goal

pub padded-name-requires : goal.padded-name-requires
padded-name-requires c = subst (λ (bs : List ℕ). length bs ≤ 15) (sym (c.deref.ensures.value ∙ c.in_ok-bytes.ensures)) (name_short c.args.code)

pub returns : goal.returns
returns c = (refl, name_padded c.deref.result.now c.padded-name.result c.args.code (c.deref.ensures.value ∙ c.in_ok-bytes.ensures) c.padded-name.ensures)
