-- Operations or queries that are read one after the other.
use Rattle.std.proofs.Common.{◌≡◌, ℕ, ◌+◌, List, ◌++◌, map, [], refl, ◌∷◌, sym, ap, ◌∙◌, append_assoc, append-nil, ◌≤◌, Bool, true, false, length, take, Some}
use Rattle.std.specs.Prelude.{nat_lt, unwrap_or}
use Rattle.std.proofs.lemmas.Bool.{ltb-false}
use Rattle.std.proofs.lemmas.List.{take_all}
use Rattle.kat_design.specs.Faults.{Path, within, here_if}
use Rattle.serde_json.specs.Data.{Data}
use Rattle.kat_design_json.specs.DesignFaults.{items_faults, item_name, few_items_faults}
use Rattle.kat_json.proofs.Refusing.{within_none, refused_front, refused_same}
use Rattle.kat_json.specs.Refused.{IsRefused}
use Rattle.kat_json.specs.declared.errors.WireError.{WireError}
use Rattle.kat_json.specs.FormFaults.{past_faults}
use Rattle.kat_json.specs.Lists.{list_of}
use Rattle.kat_type.specs.Limits.{item_limit}
use Rattle.kat_json.specs.Parts.{list_said}
use Rattle.kat_design_json.specs.DesignParts.{operation_said}
use Rattle.kat_type.specs.declared.signatures.OpSig.{OpSig}

pub record NamedSoFar {A : Type 0} (faults : List ℕ → Data → List Path) (said : Data → A) (first : List ℕ) (whole : List Data) (i : ℕ) (left : List Data) (used : List ℕ) (items : List A) : Type 0 where
  pub same : items_faults faults first 0 whole ≡ items_faults faults used i left
  pub so_far : map said whole ≡ items ++ map said left

pub named_none : {A : Type 0} (faults : List ℕ → Data → List Path) (said : Data → A) (first : List ℕ) (whole : List Data) → NamedSoFar faults said first whole 0 whole first []
named_none faults said first whole = record { same = refl; so_far = refl }

pub named_next : {A : Type 0} (faults : List ℕ → Data → List Path) (said : Data → A) (first : List ℕ) (whole : List Data) (i : ℕ) (left rest : List Data) (used : List ℕ) (items : List A) (d : Data) (x : A) (name : ℕ)
    → NamedSoFar faults said first whole i left used items → left ≡ d ∷ rest → faults used d ≡ [] → x ≡ said d → name ≡ item_name d
    → NamedSoFar faults said first whole (i + 1) rest (used ++ name ∷ []) (items ++ x ∷ [])
named_next faults said first whole i left rest used items d x name so next none is called = record {
  same = so.same ∙ ap (λ ds. items_faults faults used i ds) next ∙ ap (λ ps. ps ++ items_faults faults (used ++ item_name d ∷ []) (i + 1) rest) (within_none i (faults used d) none)
      ∙ ap (λ n. items_faults faults (used ++ n ∷ []) (i + 1) rest) (sym called);
  so_far = so.so_far ∙ ap (λ ds. items ++ map said ds) next ∙ ap (λ y. items ++ (y ∷ map said rest)) (sym is) ∙ sym (append_assoc items (x ∷ []) (map said rest));
}

pub named_refused : {A : Type 0} (faults : List ℕ → Data → List Path) (said : Data → A) (first : List ℕ) (whole : List Data) (i : ℕ) (left rest : List Data) (used : List ℕ) (items : List A) (d : Data) (e : WireError)
    → NamedSoFar faults said first whole i left used items → left ≡ d ∷ rest → IsRefused (within i (faults used d)) e → IsRefused (items_faults faults first 0 whole) e
named_refused faults said first whole i left rest used items d e so next h =
    refused_same (items_faults faults first 0 whole) (within i (faults used d) ++ items_faults faults (used ++ item_name d ∷ []) (i + 1) rest) e (so.same ∙ ap (λ ds. items_faults faults used i ds) next)
    (refused_front (within i (faults used d)) (items_faults faults (used ++ item_name d ∷ []) (i + 1) rest) e h)

pub named_all : {A : Type 0} (faults : List ℕ → Data → List Path) (said : Data → A) (first : List ℕ) (whole : List Data) (i : ℕ) (left : List Data) (used : List ℕ) (items : List A)
    → NamedSoFar faults said first whole i left used items → left ≡ [] → (items_faults faults first 0 whole ≡ []) × (items ≡ map said whole)
named_all faults said first whole i left used items so ended =
    (so.same ∙ ap (λ ds. items_faults faults used i ds) ended, sym (so.so_far ∙ ap (λ ds. items ++ map said ds) ended ∙ append-nil items))

-- if nothing is past a limit, the part within it is the whole
front_whole : (n : ℕ) (ds : List Data) (more : Bool) → nat_lt n (length ds) ≡ more → within n (here_if more) ≡ [] → length ds ≤ n
front_whole n ds true is none = absurd (cc)
front_whole n ds false is none = ltb-false n (length ds) is

pub whole_front : (n : ℕ) (ds : List Data) → past_faults n ds ≡ [] → take n ds ≡ ds
whole_front n ds none = take_all n ds (front_whole n ds (nat_lt n (length ds)) refl none)

-- a list of operations or queries
pub few_refused : (f : List ℕ → Data → List Path) (used : List ℕ) (d : Data) (ds : List Data) (e : WireError) → Some ds ≡ list_of d
    → IsRefused (items_faults f used 0 (take item_limit ds)) e → IsRefused (few_items_faults f used d) e
few_refused f used d ds e is h =
    refused_same (few_items_faults f used d) (items_faults f used 0 (take item_limit ds) ++ past_faults item_limit ds) e (rw (sym is) refl)
    (refused_front (items_faults f used 0 (take item_limit ds)) (past_faults item_limit ds) e h)

pub few_said : {A : Type 0} (f : List ℕ → Data → List Path) (said : Data → A) (used : List ℕ) (d : Data) (ds : List Data) (items : List A) → Some ds ≡ list_of d
    → items_faults f used 0 (take item_limit ds) ≡ [] → items ≡ map said (take item_limit ds) → past_faults item_limit ds ≡ []
    → (few_items_faults f used d ≡ []) × (items ≡ list_said said d)
few_said f said used d ds items is none read past = (
  rw (sym is, none) past,
  read ∙ ap (λ es. map said es) (whole_front item_limit ds past) ∙ ap (λ o. map said (unwrap_or o [])) is,
)

-- the names of operations are those that they are read with
pub names_said : (ds : List Data) → map (λ (op : OpSig). op.name) (map operation_said ds) ≡ map item_name ds
names_said [] = refl
names_said (d ∷ ds) = ap (λ names. item_name d ∷ names) (names_said ds)
