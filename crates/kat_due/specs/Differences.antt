-- The histories on which a design differs from its type.
use Rattle.std.specs.Prelude.{◌≡◌, ℕ, List, None, Some, slice_get}
use Rattle.kat_design.specs.Designs.{DesignForm}
use Rattle.kat_histories.specs.Differing.{Differs}
use Rattle.kat_hist.specs.Firsts.{IsFirstPlace}
use Rattle.kat_histories.specs.Histories.{histories}
use Rattle.kat_histories.specs.declared.histories.History.{History}
use Rattle.kat_type.specs.Signatures.{signature_of}
use Rattle.kat_type.specs.Types.{TypeForm}

-- the design answers otherwise than the type on the history
abbrev pub DiffersOn : TypeForm → DesignForm → History → Type 0
DiffersOn ty d history = Differs ty d history

-- the histories that are looked at for a type
abbrev pub histories_for : TypeForm → List History
histories_for ty = histories (signature_of ty)

-- the design differs on none of these histories
abbrev pub AgreesOn : TypeForm → DesignForm → List History → Type 0
AgreesOn ty d hs = IsFirstPlace (DiffersOn ty d) hs None

-- the place is that of the first of these histories on which the design differs
abbrev pub FirstDiffersAt : TypeForm → DesignForm → List History → ℕ → Type 0
FirstDiffersAt ty d hs place = IsFirstPlace (DiffersOn ty d) hs (Some place)

-- the history is the first of these on which the design differs
pub record IsFirstDifference (ty : TypeForm) (d : DesignForm) (hs : List History) (history : History) : Type 0 where
  pub place : ℕ
  pub there : slice_get hs place ≡ Some history
  pub first : FirstDiffersAt ty d hs place
