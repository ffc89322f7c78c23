-- Lists of faults that are empty.
use Rattle.std.proofs.Common.{◌≡◌, ℕ, Bool, true, List, [], ◌++◌, ap, ◌∙◌}
use Rattle.std.specs.Prelude.{not}
use Rattle.kat_design.specs.Faults.{Path, here_if, within}

pub no_both : (xs ys : List Path) → xs ≡ [] → ys ≡ [] → xs ++ ys ≡ []
no_both xs ys e k = ap (λ zs. zs ++ ys) e ∙ k

pub no_within : (i : ℕ) (xs : List Path) → xs ≡ [] → within i xs ≡ []
no_within i xs e = ap (λ ys. within i ys) e

pub no_here : (b : Bool) → b ≡ true → here_if (not b) ≡ []
no_here b e = ap (λ c. here_if (not c)) e
