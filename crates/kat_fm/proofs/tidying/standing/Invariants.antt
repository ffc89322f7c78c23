use Rattle.std.proofs.Common.{◌≡◌, map}
use Rattle.std.specs.Prelude.{not}
use Rattle.kat_fm.specs.Combinations.{counted}
use Rattle.kat_fm.specs.Views.{combinations, is_beaten_at}
use Rattle.kat_fm.proofs.tidying.standing.Given as goal

abbrev pub invariant-loop-place : goal.invariant-loop-place
invariant-loop-place l = l.stays.items ≡ map (λ place. not (is_beaten_at (combinations l.rows) place)) (counted 0 l.place)
