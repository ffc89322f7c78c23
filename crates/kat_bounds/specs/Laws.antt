-- Used inside only.
-- How great the numbers of a condition's facts are.
use Rattle.std.specs.Prelude.{◌≡◌, ℕ, ◌+◌, ◌*◌, ◌<◌, ◌≤◌, ◌^◌, unsigned_abs, List, [], All, length}
use Rattle.kat_linear.specs.Rows.{Form, IsAscending, Term}
use Rattle.kat_form.specs.Encodings.{IsFit}
use Rattle.kat_form.specs.Facts.{AreSized, forms_among}
use Rattle.kat_form.specs.Readings.{encoding_of, numbers_of_facts}
use Rattle.kat_design.specs.Designs.{DesignForm}
use Rattle.kat_design.specs.Faults.{faults_of}
use Rattle.kat_design.specs.Sorted.{EachHas}
use Rattle.kat_relation.specs.Fits.{FitsConjunct}
use Rattle.kat_relation.specs.declared.relations.Conjunct.{Conjunct}
use Rattle.kat_type.specs.Signatures.{signature_of}
use Rattle.kat_type.specs.Types.{TypeForm}
use Rattle.kat_type_file.specs.TypeFiles.{IsTypeFile}
use Rattle.kat_cases.specs.Settings.{IsWalkable}
use Rattle.kat_vc.specs.Conditions.{facts_of_condition}
use Rattle.kat_bounds.specs.Accepted.{AreAccepted}
use Rattle.kat_bounds.specs.Named.{IsNamed}

-- no coefficient and no constant passes 2^125 in absolute value
pub record HasSmallNumbers (form : Form) : Type 0 where
  pub coefficients : All (λ (t : Term). unsigned_abs t.1 ≤ 2 ^ 125) form.terms
  pub constant : unsigned_abs form.constant ≤ 2 ^ 125

-- each variable is below a number
abbrev pub HasVariablesBelow : ℕ → Form → Type 0
HasVariablesBelow count form = All (λ (t : Term). t.0 < count) form.terms

-- the forms in the facts of the condition with a number
abbrev pub forms_of : TypeForm → DesignForm → List Conjunct → ℕ → List Form
forms_of ty design relation k = forms_among (facts_of_condition ty design relation k)

-- Of an accepted type, design and relation, however long: all forms in the facts of each condition have small numbers,
abbrev pub FactsAreSmall : Type 0
FactsAreSmall = (ty : TypeForm) (design : DesignForm) (relation : List Conjunct) → AreAccepted ty design relation → (k : ℕ) → All HasSmallNumbers (forms_of ty design relation k)

-- and their terms ascend.
abbrev pub FactsAscend : Type 0
FactsAscend = (ty : TypeForm) (design : DesignForm) (relation : List Conjunct) → AreAccepted ty design relation → (k : ℕ) → All IsAscending (forms_of ty design relation k)

-- Their variables are below 2^24 and 2,320 for each conjunct.
abbrev pub VariablesAreFew : Type 0
VariablesAreFew = (ty : TypeForm) (design : DesignForm) (relation : List Conjunct) → AreAccepted ty design relation → (k : ℕ) → All (HasVariablesBelow (2 ^ 24 + 2_320 * length relation)) (forms_of ty design relation k)

-- at most as many conjuncts as keep this below 2^32
abbrev pub most_conjuncts : ℕ
most_conjuncts = 1_800_000

-- So the facts are sized if there are at most this many conjuncts,
abbrev pub FactsAreSized : Type 0
FactsAreSized = (ty : TypeForm) (design : DesignForm) (relation : List Conjunct) → AreAccepted ty design relation → length relation ≤ most_conjuncts → (k : ℕ) → AreSized (forms_of ty design relation k)

-- their encoding is fit,
abbrev pub FactsAreFit : Type 0
FactsAreFit = (ty : TypeForm) (design : DesignForm) (relation : List Conjunct) → AreAccepted ty design relation → length relation ≤ most_conjuncts → (k : ℕ) → IsFit (encoding_of (facts_of_condition ty design relation k))

-- and it may be walked, if it has at most 2^28 propositional variables.
abbrev pub FactsAreWalkable : Type 0
FactsAreWalkable = (ty : TypeForm) (design : DesignForm) (relation : List Conjunct) → AreAccepted ty design relation → length relation ≤ most_conjuncts → (k : ℕ)
    → length (encoding_of (facts_of_condition ty design relation k)).senses ≤ 2 ^ 28 → IsWalkable (numbers_of_facts (facts_of_condition ty design relation k)) (encoding_of (facts_of_condition ty design relation k))

-- the names of a type that is read are names;
abbrev pub TypeFilesAreNamed : Type 0
TypeFilesAreNamed = (text : List ℕ) (ty : TypeForm) → IsTypeFile text ty → IsNamed ty

-- and if a design has no faults and the signature of a type that is read, and the conjuncts fit both, they are accepted.
abbrev pub WhatIsReadIsAccepted : Type 0
WhatIsReadIsAccepted = (text : List ℕ) (ty : TypeForm) (design : DesignForm) (relation : List Conjunct) → IsTypeFile text ty → faults_of design ≡ [] → design.sig ≡ signature_of ty
    → EachHas (FitsConjunct ty design.components) relation → AreAccepted ty design relation
