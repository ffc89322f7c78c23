-- The designs that a file names as passed over.
use Rattle.std.specs.Prelude.{◌≡◌, ◌⊎◌, ℕ, ℤ, List, [], ◌∷◌, ◌++◌, codes, Option, None, Some, slice_get}
use Rattle.std.specs.List.{flat_map}
use Rattle.std.specs.Fmt.{signed_decimal}
use Rattle.serde_json.specs.Data.{Data}
use Rattle.kat_json.specs.Lists.{elements_of, text_of}
use Rattle.kat_json.specs.Texts.{IsJson}
use Rattle.kat_json.specs.Words.{spelled, whole_of}
use Rattle.kat_wire.specs.declared.causes.Cause.{Cause}
use Rattle.kat_wire.specs.declared.causes.Cause.TheVariants as cause

-- the word of a cause
unfoldable pub cause_text : Cause → List ℕ
cause_text cause.OpenCert = codes "open"
cause_text cause.Spent = codes "spent"
cause_text cause.Rows = codes "rows"
cause_text cause.Wide = codes "wide"
cause_text cause.Long = codes "long"

abbrev pub cause_words : List (List ℕ × Cause)
cause_words =
    (codes "open", cause.OpenCert) ∷ (codes "spent", cause.Spent) ∷ (codes "rows", cause.Rows) ∷ (codes "wide", cause.Wide)
    ∷ (codes "long", cause.Long) ∷ []

-- the cause that a text is the word of
abbrev pub spelled_cause : List ℕ → Option Cause
spelled_cause word = spelled cause_words word

abbrev pub named_cause : Option (List ℕ) → Option Cause
named_cause None = None
named_cause (Some word) = spelled_cause word

-- the number and the cause in two places of a list
abbrev pub number_of : Option Data → Option ℤ
number_of None = None
number_of (Some d) = whole_of d

abbrev pub cause_of : Option Data → Option Cause
cause_of None = None
cause_of (Some d) = named_cause (text_of d)

-- `NUMBER CAUSE`, if both are there; anything else is left out
abbrev pub passed_words : ℤ → Cause → List ℕ
passed_words number c = signed_decimal number ++ codes " " ++ cause_text c

abbrev pub passed_text : Option ℤ → Option Cause → List (List ℕ)
passed_text None c = []
passed_text (Some number) None = []
passed_text (Some number) (Some c) = passed_words number c ∷ []

abbrev pub passed_in : Data → List (List ℕ)
passed_in d = passed_text (number_of (slice_get (elements_of d) 0)) (cause_of (slice_get (elements_of d) 1))

-- those of a file, which come seventh in it
abbrev pub named_at : Option Data → List Data
named_at None = []
named_at (Some d) = elements_of d

abbrev pub passed_over : Data → List (List ℕ)
passed_over d = flat_map passed_in (named_at (slice_get (elements_of d) 6))

-- the same for a text: one that is no JSON names none
abbrev pub IsPassedOver : List ℕ → List (List ℕ) → Type 0
IsPassedOver bytes texts =
    ((d : Data) × IsJson bytes d × (texts ≡ passed_over d)) ⊎ (((d : Data) → IsJson bytes d → ⊥) × (texts ≡ []))
