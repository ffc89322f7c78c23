-- A value that isn't refused is that of a file, and the first refusal of others.
use Rattle.std.proofs.Common.{inl, inr, ◌≡◌, true, List, [], ◌∷◌, refl, None, Bool, false, Some, cond, sym, ap, ◌∙◌, subst, Result, ℕ, Option, ℤ, pos, ◌+◌, map, ap₂, codes, Ok, Err}
use Rattle.std.specs.Prelude.{not, option_map, IfErr, unwrap_or, IfOk, IsErrAnd}
use Rattle.std.specs.Option.{option_or}
use Rattle.std.proofs.lemmas.Bool.Decides.{Decides-int_eq}
use Rattle.std.specs.Ordering.{int_eq}
use Rattle.std.specs.Prelude.{option_and_then}
use Rattle.std.proofs.lemmas.Slice.Eq.{bytes_eq-Decides}
use Rattle.kat_design.specs.Faults.{faults_of, Path, first_of, each_faults, within}
use Rattle.serde_json.specs.Data.{Data, string}
use Rattle.kat_wire.specs.Files.{is_katara, refusal_of, IsFileRefusal, IsFile, IsWrittenFile}
use Rattle.kat_wire.specs.FileFaults.{file_faults, proof_faults, relation_faults, rest_faults}
use Rattle.kat_wire.specs.FileParts.{design_said, file_said, proof_said, relation_said}
use Rattle.kat_json.specs.declared.errors.WireError.TheVariants.{Form, Version, BadDesign, Json, Memory}
use Rattle.kat_wire.specs.Refused.{IsRefusalOf}
use Rattle.kat_json.specs.Refused.{IsRefused}
use Rattle.kat_json.specs.declared.errors.WireError.{WireError}
use Rattle.kat_wire.specs.FileForms.{IsVersion, FileForm, file_form}
use Rattle.kat_wire.specs.Versions.{has_version, is_version, version_in, version_said}
use Rattle.kat_wire.specs.Words.{line_words}
use Rattle.kat_wire.specs.Builtins.{builtin_of}
use Rattle.kat_json.specs.Texts.{IsJson}
use Rattle.kat_json.specs.Lists.{elements_of, list, list_of, at_place, tag_of}
use Rattle.kat_json.proofs.Backwards.{list_back, within_back, each_back, in_list_back, part_back, past_back, two_parts, seven_parts}
use Rattle.kat_json.specs.Printed.{natural}
use Rattle.kat_json.specs.Words.{whole_of}
use Rattle.kat_json.proofs.AtomsBack.{whole_data}
use Rattle.kat_design.specs.Sorted.{EachHas}
use Rattle.kat_design.proofs.Accepted.{none_left, none_right, well_sorted}
use Rattle.kat_design_json.specs.DesignFaults.{ask_faults, component_faults, design_faults, design_parts_faults, signature_faults}
use Rattle.kat_design_json.specs.DesignParts.{ask_said, body_said, component_said, signature_said}
use Rattle.kat_design_json.specs.PrintedDesigns.{ask_data, component_data, design_data, signature_data}
use Rattle.kat_design_json.proofs.AsksBack.{HasSmallNumbers, ask_back}
use Rattle.kat_json.specs.FormFaults.{list_of_faults, part_faults, past_faults, any_value_faults}
use Rattle.kat_json.specs.Parts.{list_said, part_said}
use Rattle.kat_design_json.proofs.ComponentsBack.{component_goes_back}
use Rattle.kat_json.proofs.PartsBack.{none_three, parts_two, none_four, tag_back}
use Rattle.kat_wire.specs.Printed.{file_data, proof_data, relation_data}
use Rattle.kat_wire.proofs.RelationsBack.{proof_fits, proof_goes_back, relation_goes_back, relation_has_indices}
use Rattle.kat_design_json.proofs.SignaturesBack.{signature_back}
use Rattle.kat_design_json.proofs.SmallAsks.{design_small}
use Rattle.kat_design.specs.Designs.{design_form}
use Rattle.kat_wire.specs.declared.files.DesignFile.{DesignFile}

-- a value without refusal passes each rule
pub record Passes (ds : List Data) : Type 0 where
  pub katara : is_katara ds ≡ true
  pub version : has_version ds ≡ true
  pub formed : file_faults ds ≡ []
  pub accepted : faults_of (design_said ds) ≡ []

first_none : (xs : List Path) → first_of xs ≡ None → xs ≡ []
first_none [] h = refl
first_none (x ∷ xs) h = absurd (cc)

passes_by : (k v : Bool) (f d : List Path)
    → cond (not k) (Some (Form [])) (cond (not v) (Some Version) (option_or (option_map Form (first_of f)) (option_map BadDesign (first_of d)))) ≡ None
    → (k ≡ true) × (v ≡ true) × (f ≡ []) × (d ≡ [])
passes_by false v f d h = absurd (cc)
passes_by true false f d h = absurd (cc)
passes_by true true (x ∷ f) d h = absurd (cc)
passes_by true true [] (x ∷ d) h = absurd (cc)
passes_by true true [] [] h = (refl, refl, refl, refl)

pub passes : (ds : List Data) → refusal_of ds ≡ None → Passes ds
passes ds h =
    let all = passes_by (is_katara ds) (has_version ds) (file_faults ds) (faults_of (design_said ds)) h in
    record { katara = all.0; version = all.1; formed = all.2; accepted = all.3 }

-- the refusal by each rule, provided that those before it are kept
pub refused_form : (ds : List Data) (e : WireError) → is_katara ds ≡ true → has_version ds ≡ true → IsRefused (file_faults ds) e → IsRefusalOf (refusal_of ds) e
refused_form ds Json k v h = absurd h
refused_form ds (Form place) k v h = rw (k, v, h) refl
refused_form ds Version k v h = absurd h
refused_form ds (BadDesign place) k v h = absurd h
refused_form ds Memory k v h = tt

pub refusal_bad : (ds : List Data) → is_katara ds ≡ true → has_version ds ≡ true → file_faults ds ≡ [] → refusal_of ds ≡ option_map BadDesign (first_of (faults_of (design_said ds)))
refusal_bad ds k v f = rw (k, v, f) refl

pub checked_refused : {T : Type 0} (r : Result T WireError) (ds : List Data) (x : FileForm) → is_katara ds ≡ true → has_version ds ≡ true → file_faults ds ≡ []
    → x ≡ file_said ds → IfErr r (IsRefusalOf (option_map BadDesign (first_of (faults_of x.design)))) → IfErr r (IsRefusalOf (refusal_of ds))
checked_refused r ds x k v f same h =
    let all : refusal_of ds ≡ option_map BadDesign (first_of (faults_of x.design)) = refusal_bad ds k v f ∙ ap (λ (y : FileForm). option_map BadDesign (first_of (faults_of y.design))) (sym same) in
    subst (λ o. IfErr r (IsRefusalOf o)) (sym all) h

pub refusal_none : (ds : List Data) (x : FileForm) → is_katara ds ≡ true → has_version ds ≡ true → file_faults ds ≡ [] → x ≡ file_said ds → faults_of x.design ≡ [] → refusal_of ds ≡ None
refusal_none ds x k v f same none =
    refusal_bad ds k v f ∙ ap (λ (y : FileForm). option_map BadDesign (first_of (faults_of y.design))) (sym same) ∙ ap (λ ps. option_map BadDesign (first_of ps)) none

-- a text that isn't built in is refused as its value is
pub json_refused : (bytes : List ℕ) (d : Data) (e : WireError) → builtin_of bytes ≡ None → IsJson bytes d → IsRefusalOf (refusal_of (elements_of d)) e → IsFileRefusal bytes e
json_refused bytes d Json none json h = absurd h
json_refused bytes d (Form place) none json h = (none, record { value = d; json = json; refused = h })
json_refused bytes d Version none json h = (none, record { value = d; json = json; refused = h })
json_refused bytes d (BadDesign place) none json h = (none, record { value = d; json = json; refused = h })
json_refused bytes d Memory none json h = tt

-- what begins with `"katara"` is a list
listed : (d : Data) (o : Option (List Data)) → list_of d ≡ o → is_katara (unwrap_or o []) ≡ true → d ≡ list (unwrap_or o [])
listed d None is k = absurd (cc)
listed d (Some ds) is k = list_back d ds is

-- the version is what is printed of what it says
version_by : (z : ℤ) (a b : Bool) → int_eq z (pos 1) ≡ a → int_eq z (pos 2) ≡ b → is_version (cond a (Some 1) (cond b (Some 2) None)) ≡ true
    → (z ≡ pos (unwrap_or (cond a (Some 1) (cond b (Some 2) None)) 1)) × IsVersion (unwrap_or (cond a (Some 1) (cond b (Some 2) None)) 1)
version_by z true b one two h = ((Decides-int_eq z (pos 1)).0 one, inl refl)
version_by z false true one two h = ((Decides-int_eq z (pos 2)).0 two, inr refl)
version_by z false false one two h = absurd (cc)

version_back : (d : Data) (o : Option ℤ) → whole_of d ≡ o → is_version (option_and_then version_in o) ≡ true
    → (natural (unwrap_or (option_and_then version_in o) 1) ≡ d) × IsVersion (unwrap_or (option_and_then version_in o) 1)
version_back d None is h = absurd (cc)
version_back d (Some z) is h =
    let got = version_by z (int_eq z (pos 1)) (int_eq z (pos 2)) refl refl h in
    (whole_data d (pos (unwrap_or (version_in z) 1)) (is ∙ ap Some got.0), got.1)

-- asks with small numbers
asks_back : (i : ℕ) (ds : List Data) → each_faults ask_faults i ds ≡ [] → EachHas HasSmallNumbers (map ask_said ds) → map ask_data (map ask_said ds) ≡ ds
asks_back i [] none small = refl
asks_back i (d ∷ ds) none small =
    ap₂ (λ x xs. x ∷ xs) (ask_back d (within_back i (ask_faults d) (none_left (within i (ask_faults d)) (each_faults ask_faults (i + 1) ds) none)) small.0)
    (asks_back (i + 1) ds (none_right (within i (ask_faults d)) (each_faults ask_faults (i + 1) ds) none) small.1)

design_back : (d : Data) → design_faults d ≡ [] → EachHas HasSmallNumbers (body_said d).1 → list (list (map component_data (body_said d).0) ∷ list (map ask_data (body_said d).1) ∷ []) ≡ d
design_back d none small =
    let got = in_list_back design_parts_faults d none in
    let ds = elements_of d in
    let parts = none_three (part_faults (list_of_faults component_faults) 0 ds) (part_faults (list_of_faults ask_faults) 1 ds) (past_faults 2 ds) got.1 in
    let components_there = part_back (list_of_faults component_faults) 0 ds parts.0 in
    let asks_there = part_back (list_of_faults ask_faults) 1 ds parts.1 in
    let components = in_list_back (each_faults component_faults 0) (at_place ds 0) components_there.1 in
    let asks = in_list_back (each_faults ask_faults 0) (at_place ds 1) asks_there.1 in
    parts_two (list (map component_data (list_said component_said (at_place ds 0)))) (list (map ask_data (list_said ask_said (at_place ds 1)))) (at_place ds 0) (at_place ds 1)
    (ap list (each_back component_faults component_said component_data 0 (elements_of (at_place ds 0)) component_goes_back components.1) ∙ sym components.0)
    (ap list (asks_back 0 (elements_of (at_place ds 1)) asks.1 small) ∙ sym asks.0)
    ∙ sym (ap list (two_parts ds asks_there.0 (past_back 2 ds parts.2))) ∙ sym got.0

seven_same : (a b c d e f g s t u v w x : Data) → a ≡ s → b ≡ t → c ≡ u → d ≡ v → e ≡ w → f ≡ x → list (a ∷ b ∷ c ∷ d ∷ e ∷ f ∷ g ∷ []) ≡ list (s ∷ t ∷ u ∷ v ∷ w ∷ x ∷ g ∷ [])
seven_same a b c d e f g s t u v w x h i j k l m = rw (h, i, j, k, l, m) refl

-- the value of a file that isn't refused
pub record IsPrinted (d : Data) : Type 0 where
  pub printed : d ≡ file_data (file_said (elements_of d)) (at_place (elements_of d) 6)
  pub file : IsFile (file_said (elements_of d))

pub file_back : (d : Data) → refusal_of (elements_of d) ≡ None → IsPrinted d
file_back d none =
    let ds = elements_of d in
    let all = passes ds none in
    let whole = listed d (list_of d) refl all.katara in
    let tag = tag_back ds _ _ ((bytes_eq-Decides (tag_of ds) (codes "katara")).0 all.katara) in
    let version = version_back (at_place ds 1) (whole_of (at_place ds 1)) refl all.version in
    let number = version_said ds in
    let words = line_words number in
    let parts = none_three (part_faults signature_faults 2 ds) (part_faults design_faults 3 ds) (rest_faults ds) all.formed in
    let rest = none_four (part_faults relation_faults 4 ds) (part_faults (proof_faults words) 5 ds) (part_faults any_value_faults 6 ds) (past_faults 7 ds) parts.2 in
    let signature = signature_back (at_place ds 2) (part_back signature_faults 2 ds parts.0).1 in
    let small = design_small (design_said ds) (well_sorted (design_said ds) all.accepted) signature.1.small in
    let design = design_back (at_place ds 3) (part_back design_faults 3 ds parts.1).1 small in
    let relation_there = part_back relation_faults 4 ds rest.0 in
    let proof_there = part_back (proof_faults words) 5 ds rest.1 in
    let relation = relation_goes_back (at_place ds 4) relation_there.1 in
    let proof = proof_goes_back number version.1 (at_place ds 5) proof_there.1 in
    let last = part_back any_value_faults 6 ds rest.2 in
    record {
      printed = whole ∙ ap list (seven_parts ds last.0 (past_back 7 ds rest.3))
          ∙ sym (seven_same (string (codes "katara")) (natural number) (signature_data (signature_said (at_place ds 2))) (design_data (design_said ds))
          (relation_data (part_said relation_said 4 ds)) (proof_data (part_said (proof_said words) 5 ds)) (at_place ds 6)
          (at_place ds 0) (at_place ds 1) (at_place ds 2) (at_place ds 3) (at_place ds 4) (at_place ds 5) (sym tag) version.0 signature.0 design relation proof);
      file = record {
        version = version.1;
        signature = signature.1;
        accepted = all.accepted;
        indices = relation_has_indices (at_place ds 4) relation_there.1;
        lines = proof_fits number version.1 (at_place ds 5) proof_there.1;
      };
    }

pub text_of_file : (bytes : List ℕ) (d : Data) (ds : List Data) (x : FileForm) → IsJson bytes d → ds ≡ elements_of d → refusal_of ds ≡ None → x ≡ file_said ds → IsWrittenFile bytes x
text_of_file bytes d ds x json same none is =
    let back = file_back d (ap refusal_of (sym same) ∙ none) in
    let made : IsWrittenFile bytes (file_said (elements_of d)) = record {
      earlier = at_place (elements_of d) 6;
      json = subst (λ v. IsJson bytes v) back.printed json;
      file = back.file;
    } in
    subst (λ y. IsWrittenFile bytes y) (sym (is ∙ ap file_said same)) made

pub checked_read : (r : Result DesignFile WireError) (given : DesignFile) (ds : List Data) → is_katara ds ≡ true → has_version ds ≡ true → file_faults ds ≡ []
    → file_form given ≡ file_said ds → IfOk r (λ same. (faults_of (design_form given.design) ≡ []) × (same ≡ given)) → IfOk r (λ file. (refusal_of ds ≡ None) × (file_form file ≡ file_said ds))
checked_read (Ok x) given ds k v f is h = (refusal_none ds (file_form given) k v f is h.0, ap file_form h.1 ∙ is)
checked_read (Err e) given ds k v f is h = tt

-- an error that is handed on, of a text
pub handed_refusal : {T : Type 0} (r : Result T WireError) (e : WireError) (bytes : List ℕ) → IsErrAnd r (λ x. x ≡ e) → IsFileRefusal bytes e → IfErr r (IsFileRefusal bytes)
handed_refusal (Ok x) e bytes is h = absurd is
handed_refusal (Err x) e bytes is h = subst (λ y. IsFileRefusal bytes y) (sym is) h
