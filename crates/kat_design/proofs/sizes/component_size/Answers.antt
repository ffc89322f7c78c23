use Rattle.std.proofs.Common.{◌≡◌, ℕ, ◌+◌, min, ap, arith}
use Rattle.std.specs.Prelude.{sum_by}
use Rattle.kat_design.specs.Sizes.{one_leaf}
use Rattle.kat_design.proofs.sizes.component_size.Goals as goal

two_more : (s t n next most : ℕ) → t ≡ s → n ≡ min t most → next ≡ min (n + 2) most → next ≡ min (2 + s) most
two_more s t n next most e h k = omega arith

pub returns-in-Tallies : goal.returns-in-Tallies
returns-in-Tallies c =
    rw c.in-Tallies.is (two_more (sum_by one_leaf c.in-Tallies.effects) (sum_by one_leaf c.as_slice-in-Tallies.result.now) _ _ _
    (ap (λ es. sum_by one_leaf es) c.as_slice-in-Tallies.ensures) c.count_effects-in-Tallies.ensures c.saturating_add-in-Tallies.ensures)
