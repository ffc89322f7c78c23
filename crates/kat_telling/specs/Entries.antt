-- What is reported of the designs of a listing, one after the other.
use Rattle.std.specs.Prelude.{◌≡◌, ℕ, ◌+◌, List, [], ◌∷◌, ◌++◌, None, Some, slice_get}
use Rattle.kat_design.specs.Designs.{DesignForm}
use Rattle.kat_histories.specs.Differing.{Differs}
use Rattle.kat_hist.specs.Firsts.{IsFirstPlace}
use Rattle.kat_histories.specs.Histories.{histories}
use Rattle.kat_histories.specs.declared.histories.History.{History}
use Rattle.kat_type.specs.Signatures.{signature_of}
use Rattle.kat_type.specs.Types.{TypeForm}
use Rattle.kat_wire.specs.declared.causes.Cause.{Cause}
use Rattle.kat_telling.specs.Evidence.{Evidence, Stands, cause_of}

-- the design answers otherwise than the type on the history
abbrev pub DiffersOn : TypeForm → DesignForm → History → Type 0
DiffersOn ty d history = Differs ty d history

-- the histories that are looked at for a type
abbrev pub histories_for : TypeForm → List History
histories_for ty = histories (signature_of ty)

-- the design differs on none of these histories
abbrev pub AgreesOn : TypeForm → DesignForm → List History → Type 0
AgreesOn ty d hs = IsFirstPlace (DiffersOn ty d) hs None

-- the place is that of the first of these histories on which the design differs
abbrev pub FirstDiffersAt : TypeForm → DesignForm → List History → ℕ → Type 0
FirstDiffersAt ty d hs place = IsFirstPlace (DiffersOn ty d) hs (Some place)

-- the history is the first of these on which the design differs
pub record IsFirstDifference (ty : TypeForm) (d : DesignForm) (hs : List History) (history : History) : Type 0 where
  pub place : ℕ
  pub there : slice_get hs place ≡ Some history
  pub first : FirstDiffersAt ty d hs place

-- a design is refuted if it differs on one of the histories that are looked at
pub record IsRefuted (ty : TypeForm) (d : DesignForm) : Type 0 where
  pub place : ℕ
  pub history : History
  pub there : slice_get (histories_for ty) place ≡ Some history
  pub differs : DiffersOn ty d history

-- What is reported of a design: it is refuted by a history that was cited before, with its number among these from 0; it is refuted
-- by a further history, which is cited from here on; or it is neither refuted nor proved.
pub data Entry : Type 0 where
  again : DesignForm → ℕ → Entry
  newly : DesignForm → History → Entry
  undecided : DesignForm → Evidence → Entry

abbrev pub design_of : Entry → DesignForm
design_of (again d place) = d
design_of (newly d history) = d
design_of (undecided d evidence) = d

-- What was told so far: of how many designs, the histories that are cited, in their order, and the undecided designs with their
-- numbers, from 1, and why each is.
pub record Told : Type 0 where
  pub count : ℕ
  pub cited : List History
  pub passed : List (ℕ × Cause)

abbrev pub nothing_told : Told
nothing_told = record { count = 0; cited = []; passed = [] }

abbrev pub told_behind : Told → Entry → Told
told_behind told (again d place) = record { count = told.count + 1; cited = told.cited; passed = told.passed }
told_behind told (newly d history) = record { count = told.count + 1; cited = told.cited ++ history ∷ []; passed = told.passed }
told_behind told (undecided d evidence) = record { count = told.count + 1; cited = told.cited; passed = told.passed ++ (told.count + 1, cause_of evidence.ending) ∷ [] }

abbrev pub told_by : Told → List Entry → Told
told_by told [] = told
told_by told (e ∷ es) = told_by (told_behind told e) es

-- What is told is so. A design is refuted by the first of the histories on which it differs: first of those cited before, in their
-- order, and then of all. If it differs on none, there is evidence that it is undecided.
abbrev pub IsTold : TypeForm → ℕ → Told → Entry → Type 0
IsTold ty effort told (again d place) = FirstDiffersAt ty d told.cited place
IsTold ty effort told (newly d history) = AgreesOn ty d told.cited × IsFirstDifference ty d (histories_for ty) history
IsTold ty effort told (undecided d evidence) = AgreesOn ty d (histories_for ty) × Stands ty d effort told.passed evidence

abbrev pub AreTold : TypeForm → ℕ → Told → List Entry → Type 0
AreTold ty effort told [] = Unit {0}
AreTold ty effort told (e ∷ es) = IsTold ty effort told e × AreTold ty effort (told_behind told e) es
