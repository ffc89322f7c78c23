-- Used inside only.
-- What is always so of assumed literals.
use Rattle.std.specs.Prelude.{◌≡◌, ℕ, ℤ, neg_ℤ, pos, List, map, take, Bool, true, Option, Some, None, slice_index_or}
use Rattle.std.specs.List.{Contains}
use Rattle.kat_watch.specs.Watched.{Watched, literals, IsQuiet}
use Rattle.kat_cases.specs.declared.assumptions.Level.{Level}
use Rattle.kat_cases.specs.Levels.{AreLevels}

abbrev pub assumed_in : List Level → List ℤ
assumed_in levels = map (λ (level : Level). level.literal) levels

abbrev pub kept_in : List Level → List ℕ
kept_in levels = map (λ (level : Level). level.kept) levels

-- the literal that clashed isn't the opposite of one that was assumed before it
abbrev pub IsApart : List ℤ → Option ℕ → Type 0
IsApart assumed None = Unit {0}
IsApart assumed (Some c) = Contains (take c assumed) (neg_ℤ (slice_index_or assumed c (pos 0))) → ⊥

pub record IsAssuming (w : Watched) (assumed : List ℤ) (kept : List ℕ) (clash : Option ℕ) (settled : Bool) : Type 0 where
  pub levels : AreLevels assumed kept w.trail clash
  pub apart : IsApart assumed clash
  pub quiet : settled ≡ true → (clash ≡ None) × IsQuiet w.clauses (literals w.trail)
