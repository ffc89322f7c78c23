-- A text that is judged line by line: what is due at a line follows from the lines before it.
use Rattle.std.specs.Prelude.{◌≡◌, ℕ, suc, ◌==◌, if◌then◌else◌, List, [], ◌∷◌, Option, Some, None}
use Rattle.kat_said.specs.declared.judging.Audit.{Audit}
use Rattle.kat_said.specs.declared.judging.Audit.TheVariants.{Bad, WidePoint}
use Rattle.kat_said.specs.declared.judging.Step.{Step}
use Rattle.kat_said.specs.declared.judging.Step.TheVariants.{Due, Fault, Wide}

-- the lines of a text, each with its newline; bytes after the last newline are a line without one
abbrev pub onto_first : ℕ → List (List ℕ) → List (List ℕ)
onto_first b [] = (b ∷ []) ∷ []
onto_first b (l ∷ ls) = (b ∷ l) ∷ ls

abbrev pub lines_of : List ℕ → List (List ℕ)
lines_of [] = []
lines_of (b ∷ bs) = if b == 10 then (10 ∷ []) ∷ lines_of bs else onto_first b (lines_of bs)

-- What comes of the lines from a number on, the number being that of the lines read before. `wide s l` says that the line l of a
-- state s has a point that is too wide, `due s l t` that it is due there and leads to the state t, and `over s v` that nothing more
-- is due in s, and the verdict is v.
pub data Judges {S : Type 0} (wide : S → List ℕ → Type 0) (due : S → List ℕ → S → Type 0) (over : S → Audit → Type 0) : ℕ → S → List (List ℕ) → Audit → Type 0 where
  too_wide : {n : ℕ} {s : S} {l : List ℕ} {ls : List (List ℕ)} → wide s l → Judges wide due over n s (l ∷ ls) (WidePoint (suc n))
  not_due : {n : ℕ} {s : S} {l : List ℕ} {ls : List (List ℕ)} → (wide s l → ⊥) → ((t : S) → due s l t → ⊥) → Judges wide due over n s (l ∷ ls) (Bad (suc n))
  is_due : {n : ℕ} {s t : S} {l : List ℕ} {ls : List (List ℕ)} {v : Audit} → (wide s l → ⊥) → due s l t → Judges wide due over (suc n) t ls v → Judges wide due over n s (l ∷ ls) v
  is_over : {n : ℕ} {s : S} {v : Audit} → over s v → Judges wide due over n s [] v
  is_missing : {n : ℕ} {s : S} → ((v : Audit) → over s v → ⊥) → Judges wide due over n s [] (Bad (suc n))

-- what is reported of a line
abbrev pub Steps : {S : Type 0} → (S → List ℕ → Type 0) → (S → List ℕ → S → Type 0) → S → List ℕ → S → Step → Type 0
Steps wide due old line new Due = (wide old line → ⊥) × due old line new
Steps {S = S} wide due old line new Fault = (wide old line → ⊥) × ((t : S) → due old line t → ⊥)
Steps wide due old line new Wide = wide old line

-- the verdict after the last line
abbrev pub Ends : {S : Type 0} → (S → Audit → Type 0) → S → Option Audit → Type 0
Ends over s (Some v) = over s v
Ends over s None = (v : Audit) → over s v → ⊥

-- lines that are due, one after the other
pub data Reads {S : Type 0} (wide : S → List ℕ → Type 0) (due : S → List ℕ → S → Type 0) : S → List (List ℕ) → S → Type 0 where
  none_read : {s : S} → Reads wide due s [] s
  one_read : {s t u : S} {l : List ℕ} {ls : List (List ℕ)} → (wide s l → ⊥) → due s l t → Reads wide due t ls u → Reads wide due s (l ∷ ls) u

-- at most one state comes after a line, and a state has at most one verdict
pub record IsDetermined {S : Type 0} (due : S → List ℕ → S → Type 0) (over : S → Audit → Type 0) : Type 0 where
  pub one_state : (s : S) (l : List ℕ) (t u : S) → due s l t → due s l u → t ≡ u
  pub one_verdict : (s : S) (v w : Audit) → over s v → over s w → v ≡ w
