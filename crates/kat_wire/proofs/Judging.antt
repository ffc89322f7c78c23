-- Each text has one judgement.
use Rattle.std.proofs.Common.{pos, ◌≡◌, None, List, [], ◌∷◌, codes, refl, sym, ap, ◌∙◌, ◌++◌, map, ap₂, ℕ, Option, Some, ◌⊎◌, inl, inr, subst, Bool, true, false, cond}
use Rattle.std.specs.Prelude.{unwrap_or, not, option_map, IsUtf8}
use Rattle.std.specs.Option.{option_or}
use Rattle.std.specs.Str.{is_utf8}
use Rattle.std.proofs.lemmas.Bool.{false≢true}
use Rattle.std.proofs.lemmas.Str.{IsUtf8-from_is_utf8, is_utf8-from_IsUtf8}
use Rattle.serde_json.specs.Data.{Data, string}
use Rattle.kat_wire.specs.Files.{refusal_of, IsFile, IsWrittenFile, IsFileOf, IsFileText, IsRefusedAs, is_katara}
use Rattle.kat_wire.specs.FileForms.{IsVersion, FileForm}
use Rattle.kat_json.specs.Lists.{elements_of, list}
use Rattle.kat_wire.specs.FileParts.{file_said, design_said, proof_said, relation_said}
use Rattle.kat_wire.specs.Printed.{file_data, proof_data, relation_data}
use Rattle.kat_json.specs.Printed.{natural}
use Rattle.kat_design.specs.Designs.{DesignForm, AskForm, ComponentForm}
use Rattle.kat_design.specs.Faults.{faults_of, within, Path, first_of}
use Rattle.kat_design_json.specs.DesignFaults.{design_faults, signature_faults, ask_faults, component_faults}
use Rattle.kat_wire.specs.FileFaults.{proof_faults, relation_faults, file_faults}
use Rattle.kat_type.specs.declared.signatures.Signature.{Signature}
use Rattle.kat_refute.specs.Lines.{Line}
use Rattle.kat_relation.specs.declared.relations.Conjunct.{Conjunct}
use Rattle.kat_design.proofs.Accepted.{well_sorted}
use Rattle.kat_design_json.specs.DesignParts.{ask_said, component_said, signature_said}
use Rattle.kat_json.specs.Parts.{list_said}
use Rattle.kat_design_json.specs.PrintedDesigns.{ask_data, component_data, design_data, signature_data}
use Rattle.kat_design_json.proofs.DesignsForth.{asks_forth, components_forth, signature_forth}
use Rattle.kat_json.proofs.Forwards.{list_forth}
use Rattle.kat_design_json.proofs.PrintedDesigns.{asks_written}
use Rattle.kat_wire.proofs.RelationsForth.{proof_forth, relation_forth}
use Rattle.kat_design_json.proofs.SmallAsks.{design_small}
use Rattle.kat_json.proofs.Backwards.{some_same, none_some}
use Rattle.kat_wire.specs.declared.builtin.Builtin.{Builtin}
use Rattle.kat_wire.specs.Versions.{has_version, is_version, version_in, version_said}
use Rattle.kat_wire.specs.Words.{line_words}
use Rattle.kat_wire.specs.Builtins.{builtin_of, builtin_file}
use Rattle.kat_json.specs.Texts.{IsJson}
use Rattle.kat_json.specs.declared.errors.WireError.{WireError}
use Rattle.kat_json.specs.declared.errors.WireError.TheVariants.{Json, Form, Version, BadDesign, Memory}
use Rattle.kat_wire.specs.Judgements.{IsRefusal, IsJudged}
use Rattle.kat_wire.proofs.FilesBack.{refusal_none, text_of_file}
use Rattle.serde_json.specs.Read.{read}

-- the value of a file
pub record FileForth (f : FileForm) (earlier : Data) : Type 0 where
  pub accepted : refusal_of (elements_of (file_data f earlier)) ≡ None
  pub back : file_said (elements_of (file_data f earlier)) ≡ f

-- a version is read again
known_version : (version : ℕ) → IsVersion version → version_in (pos version) ≡ Some version
known_version version (inl is) = subst (λ (v : ℕ). version_in (pos v) ≡ Some v) (sym is) refl
known_version version (inr is) = subst (λ (v : ℕ). version_in (pos v) ≡ Some v) (sym is) refl

-- the parts of a file
abbrev parts_of : ℕ → (signature design relation proof earlier : Data) → List Data
parts_of version signature design relation proof earlier = string (codes "katara") ∷ natural version ∷ signature ∷ design ∷ relation ∷ proof ∷ earlier ∷ []

accepted_by : (version : ℕ) (signature design relation proof earlier : Data) (x : FileForm) → IsVersion version → signature_faults signature ≡ [] → design_faults design ≡ [] → relation_faults relation ≡ []
    → proof_faults (line_words version) proof ≡ [] → x ≡ file_said (parts_of version signature design relation proof earlier) → faults_of x.design ≡ []
    → refusal_of (parts_of version signature design relation proof earlier) ≡ None
accepted_by version signature design relation proof earlier x of_version f g h k is none =
    let ds = parts_of version signature design relation proof earlier in
    let known = known_version version of_version in
    let there : has_version ds ≡ true = ap is_version known in
    let same : version_said ds ≡ version = ap (λ (o : Option ℕ). unwrap_or o 1) known in
    let lines : proof_faults (line_words (version_said ds)) proof ≡ [] = ap (λ (v : ℕ). proof_faults (line_words v) proof) same ∙ k in
    refusal_none ds x refl there (rw (f, g, h, lines) refl) is none

design_same : (sig s : Signature) (cs components : List ComponentForm) (xs asks : List AskForm) → s ≡ sig → cs ≡ components → xs ≡ asks
    → ◌≡◌ {A = DesignForm} (record { sig = s; components = cs; asks = xs }) (record { sig = sig; components = components; asks = asks })
design_same sig s cs components xs asks e f g = λ i. record { sig = e i; components = f i; asks = g i }

file_same : (v version : ℕ) (d design : DesignForm) (r relation : List Conjunct) (p proof : List (List Line)) → v ≡ version → d ≡ design → r ≡ relation → p ≡ proof
    → ◌≡◌ {A = FileForm} (record { version = v; design = d; relation = r; proof = p }) (record { version = version; design = design; relation = relation; proof = proof })
file_same v version d design r relation p proof h e f g = λ i. record { version = h i; design = e i; relation = f i; proof = g i }

pub file_forth : (f : FileForm) (earlier : Data) → IsFile f → FileForth f earlier
file_forth f earlier is =
    let d = f.design in
    let sorted = well_sorted d is.accepted in
    let sig = signature_forth d.sig is.signature in
    let components = list_forth component_faults component_said component_data d.components (components_forth d.sig.ops d.components is.signature.small.ops sorted.components) in
    let asks = list_forth ask_faults ask_said ask_data d.asks (asks_forth d.asks (design_small d sorted is.signature.small) (asks_written d.components d.asks d.sig.queries sorted.asks)) in
    let relation = relation_forth f.relation is.indices in
    let proof = proof_forth f.version is.version f.proof is.lines in
    let formed : design_faults (design_data d) ≡ [] = ap₂ (λ ps qs. within 0 ps ++ within 1 qs ++ []) components.none asks.none in
    let back = design_same d.sig (signature_said (signature_data d.sig)) (list_said component_said (list (map component_data d.components))) d.components (list_said ask_said (list (map ask_data d.asks))) d.asks sig.back components.back asks.back in
    let ds = elements_of (file_data f earlier) in
    let version : version_said ds ≡ f.version = ap (λ (o : Option ℕ). unwrap_or o 1) (known_version f.version is.version) in
    let lines : proof_said (line_words (version_said ds)) (proof_data f.proof) ≡ f.proof = ap (λ (v : ℕ). proof_said (line_words v) (proof_data f.proof)) version ∙ proof.back in
    let same : file_said ds ≡ f = file_same (version_said ds) f.version (design_said ds) d (relation_said (relation_data f.relation)) f.relation
    (proof_said (line_words (version_said ds)) (proof_data f.proof)) f.proof version back relation.back lines in
    record {
      accepted = accepted_by f.version (signature_data d.sig) (design_data d) (relation_data f.relation) (proof_data f.proof) earlier f is.version sig.none formed relation.none proof.none (sym same) is.accepted;
      back = same;
    }

-- one file
text_once : (bytes : List ℕ) (some other : FileForm) → IsWrittenFile bytes some → IsWrittenFile bytes other → some ≡ other
text_once bytes some other one two =
    let first = file_forth some one.earlier one.file in
    let second = file_forth other two.earlier two.file in
    let same : file_data some one.earlier ≡ file_data other two.earlier = some_same (file_data some one.earlier) (file_data other two.earlier) (sym one.json.is_read ∙ two.json.is_read) in
    sym first.back ∙ ap (λ v. file_said (elements_of v)) same ∙ second.back

file_once : (o : Option Builtin) (bytes : List ℕ) (some other : FileForm) → IsFileOf o bytes some → IsFileOf o bytes other → some ≡ other
file_once (Some b) bytes some other one two = one ∙ sym two
file_once None bytes some other one two = text_once bytes some other one two

pub one_file : (bytes : List ℕ) (some other : FileForm) → IsFileText bytes some → IsFileText bytes other → some ≡ other
one_file bytes some other one two = file_once (builtin_of bytes) bytes some other one two

-- a refusal is that of no JSON, or that of a value
abbrev IsTold : List ℕ → WireError → Type 0
IsTold bytes e = ((e ≡ Json) × ((d : Data) → IsJson bytes d → ⊥)) ⊎ IsRefusedAs bytes e

told : (bytes : List ℕ) (e : WireError) → IsRefusal bytes e → (builtin_of bytes ≡ None) × IsTold bytes e
told bytes Json h = let r = h.refused in (r.0, inl (refl, r.1))
told bytes (Form place) h = let r = h.refused in (r.0, inr r.1)
told bytes Version h = let r = h.refused in (r.0, inr r.1)
told bytes (BadDesign place) h = let r = h.refused in (r.0, inr r.1)
told bytes Memory h = absurd (h.told refl)

told_once : (bytes : List ℕ) (e f : WireError) → IsTold bytes e → IsTold bytes f → e ≡ f
told_once bytes e f (inl one) (inl two) = one.0 ∙ sym two.0
told_once bytes e f (inl one) (inr two) = absurd (one.1 two.value two.json)
told_once bytes e f (inr one) (inl two) = absurd (two.1 one.value one.json)
told_once bytes e f (inr one) (inr two) =
    let same : one.value ≡ two.value = some_same one.value two.value (sym one.json.is_read ∙ two.json.is_read) in
    some_same e f (sym one.refused ∙ ap (λ v. refusal_of (elements_of v)) same ∙ two.refused)

pub one_refusal : (bytes : List ℕ) (some other : WireError) → IsRefusal bytes some → IsRefusal bytes other → some ≡ other
one_refusal bytes some other one two = told_once bytes some other (told bytes some one).1 (told bytes other two).1

-- never both
text_told : (bytes : List ℕ) (f : FileForm) (e : WireError) → IsWrittenFile bytes f → IsTold bytes e → ⊥
text_told bytes f e text (inl one) = one.1 (file_data f text.earlier) text.json
text_told bytes f e text (inr one) =
    let forth = file_forth f text.earlier text.file in
    let same : file_data f text.earlier ≡ one.value = some_same (file_data f text.earlier) one.value (sym text.json.is_read ∙ one.json.is_read) in
    none_some e (sym forth.accepted ∙ ap (λ v. refusal_of (elements_of v)) same ∙ one.refused)

pub never_both : (bytes : List ℕ) (f : FileForm) (e : WireError) → IsFileText bytes f → IsRefusal bytes e → ⊥
never_both bytes f e text refusal =
    let t = told bytes e refusal in
    let json : IsWrittenFile bytes f = subst (λ o. IsFileOf o bytes f) t.0 text in
    text_told bytes f e json t.1

-- the refusal of a value is of it alone
abbrev IsOwn : WireError → Type 0
IsOwn Json = ⊥
IsOwn (Form place) = Unit {0}
IsOwn Version = Unit {0}
IsOwn (BadDesign place) = Unit {0}
IsOwn Memory = ⊥

own_by : (k v : Bool) (f d : List Path) (e : WireError)
    → cond (not k) (Some (Form [])) (cond (not v) (Some Version) (option_or (option_map Form (first_of f)) (option_map BadDesign (first_of d)))) ≡ Some e → IsOwn e
own_by false v f d e h = subst IsOwn (some_same (Form []) e h) tt
own_by true false f d e h = subst IsOwn (some_same Version e h) tt
own_by true true (x ∷ f) d e h = subst IsOwn (some_same (Form x) e h) tt
own_by true true [] (x ∷ d) e h = subst IsOwn (some_same (BadDesign x) e h) tt
own_by true true [] [] e h = none_some e h

refused_told : (bytes : List ℕ) (v : Data) (e : WireError) → builtin_of bytes ≡ None → IsJson bytes v → refusal_of (elements_of v) ≡ Some e → IsOwn e → IsRefusal bytes e
refused_told bytes v Json none json h own = absurd own
refused_told bytes v (Form place) none json h own = record { refused = (none, record { value = v; json = json; refused = h }); told = λ is. cc }
refused_told bytes v Version none json h own = record { refused = (none, record { value = v; json = json; refused = h }); told = λ is. cc }
refused_told bytes v (BadDesign place) none json h own = record { refused = (none, record { value = v; json = json; refused = h }); told = λ is. cc }
refused_told bytes v Memory none json h own = absurd own

value_judged : (bytes : List ℕ) (v : Data) (o : Option WireError) → builtin_of bytes ≡ None → IsJson bytes v → refusal_of (elements_of v) ≡ o → IsJudged bytes
value_judged bytes v None none json is =
    let f = file_said (elements_of v) in
    inl (f, subst (λ o. IsFileOf o bytes f) (sym none) (text_of_file bytes v (elements_of v) f json refl is refl))
value_judged bytes v (Some e) none json is =
    inr (e, refused_told bytes v e none json is (own_by (is_katara (elements_of v)) (has_version (elements_of v)) (file_faults (elements_of v)) (faults_of (design_said (elements_of v))) e is))

unread : (bytes : List ℕ) → builtin_of bytes ≡ None → ((d : Data) → IsJson bytes d → ⊥) → IsJudged bytes
unread bytes none no_json = inr (Json, record { refused = (none, no_json); told = λ is. cc })

read_judged : (bytes : List ℕ) (o : Option Data) → builtin_of bytes ≡ None → IsUtf8 bytes → read bytes ≡ o → IsJudged bytes
read_judged bytes None none utf8 is = unread bytes none (λ d json. none_some d (sym is ∙ json.is_read))
read_judged bytes (Some v) none utf8 is = value_judged bytes v (refusal_of (elements_of v)) none (record { utf8 = utf8; is_read = is }) refl

bytes_judged : (bytes : List ℕ) (utf8 : Bool) → builtin_of bytes ≡ None → is_utf8 bytes ≡ utf8 → IsJudged bytes
bytes_judged bytes true none is = read_judged bytes (read bytes) none (IsUtf8-from_is_utf8 bytes is) refl
bytes_judged bytes false none is = unread bytes none (λ d json. absurd (false≢true (sym is ∙ is_utf8-from_IsUtf8 bytes json.utf8)))

built_judged : (bytes : List ℕ) (o : Option Builtin) → builtin_of bytes ≡ o → IsJudged bytes
built_judged bytes (Some b) is = inl (builtin_file b, subst (λ o. IsFileOf o bytes (builtin_file b)) (sym is) refl)
built_judged bytes None is = bytes_judged bytes (is_utf8 bytes) is refl

pub every_text : (bytes : List ℕ) → IsJudged bytes
every_text bytes = built_judged bytes (builtin_of bytes) refl
