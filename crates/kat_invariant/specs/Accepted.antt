-- If each condition of a relation has a refutation, the relation is an inductive invariant.
use Rattle.std.specs.Prelude.{◌≡◌, ◌≢◌, ℕ, ◌<◌, ◌≤◌, All, List}
use Rattle.kat_num.specs.declared.values.Sort.TheVariants as sort
use Rattle.kat_form.specs.Readings.{encoding_of}
use Rattle.kat_refute.specs.Lines.{AreARefutation, Line}
use Rattle.kat_type.specs.Alike.{HasAlikeRanks}
use Rattle.kat_type.specs.Fits.{IsWellSorted as IsGoodType}
use Rattle.kat_type.specs.Signatures.{signature_of}
use Rattle.kat_type.specs.Types.{TypeForm}
use Rattle.kat_type_file.specs.TypeFiles.{IsTypeFile}
use Rattle.kat_type.specs.declared.done.Done.{Done}
use Rattle.kat_type.specs.declared.types.Field.{Field}
use Rattle.kat_type.specs.declared.types.Field.TheVariants as field
use Rattle.kat_design.specs.Designs.{DesignForm}
use Rattle.kat_design.specs.Sorted.{EachHas, IsWellSorted}
use Rattle.kat_relation.specs.Fits.{FitsConjunct}
use Rattle.kat_relation.specs.declared.relations.Conjunct.{Conjunct}
use Rattle.kat_vc.specs.Conditions.{condition_count, facts_of_condition}
use Rattle.kat_invariant.specs.Inductive.{IsInductive}
use Rattle.kat_invariant.specs.Legal.{IsLegal, MayFollow}
use Rattle.kat_invariant.specs.Situations.{Situation, after, start_of}

-- the keys of a table are numbers or names
abbrev pub HasKeys : Field → Type 0
HasKeys (field.Plain name s start) = Unit {0}
HasKeys (field.Keyed name key s start) = key ≢ sort.Bool

-- a type as every file of a type says one, and an accepted design with its signature
pub record GoTogether (ty : TypeForm) (d : DesignForm) : Type 0 where
  pub type_sorted : IsGoodType ty
  pub ranks : HasAlikeRanks ty
  pub keys : All HasKeys ty.fields
  pub design_sorted : IsWellSorted d
  pub signed : d.sig ≡ signature_of ty

-- each condition, from 1 on, is refuted by some lines
abbrev pub HaveRefutations : TypeForm → DesignForm → List Conjunct → Type 0
HaveRefutations ty d relation =
    (k : ℕ) → 0 < k → k ≤ condition_count ty relation → (lines : List Line) × AreARefutation (encoding_of (facts_of_condition ty d relation k)) lines

-- If all conditions of a relation are refuted, the relation holds at the start, every operation that may follow keeps
-- it, and if it holds all queries have the same answers on both sides: over all whole numbers and at every key.
abbrev pub RefutedConditionsHold : Type 0
RefutedConditionsHold = (ty : TypeForm) (d : DesignForm) (relation : List Conjunct) → GoTogether ty d → EachHas (FitsConjunct ty d.components) relation → HaveRefutations ty d relation → IsInductive ty d relation

-- the start is legal, and so is the situation after each operation that may follow
abbrev pub StartsAreLegal : Type 0
StartsAreLegal = (ty : TypeForm) (d : DesignForm) → IsGoodType ty → IsLegal ty d (start_of ty d)

abbrev pub SituationsStayLegal : Type 0
SituationsStayLegal = (ty : TypeForm) (d : DesignForm) (s : Situation) (done : Done) → GoTogether ty d → IsLegal ty d s → MayFollow ty done s → IsLegal ty d (after ty d done s)

-- the tables of a type that a file says have such keys
abbrev pub TypeFilesHaveKeys : Type 0
TypeFilesHaveKeys = (text : List ℕ) (ty : TypeForm) → IsTypeFile text ty → All HasKeys ty.fields
