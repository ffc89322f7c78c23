-- A file that isn't refused is the text of a node, and the refusals of others.
use Rattle.std.proofs.Common.{◌≡◌, ℕ, ◌+◌, ◌^◌, ℤ, pos, Bool, true, false, cond, List, [], ◌∷◌, ◌++◌, codes, length, map, refl, sym, ap, ap₂, ◌∙◌, Option, None, Some, subst, Result, Ok, Err, arith}
use Rattle.std.specs.Prelude.{◌==◌, IfErr, IfOk, IsErrAnd, not, option_map, unwrap_or}
use Rattle.std.specs.Option.{option_or}
use Rattle.std.specs.Cmp.{IsTotalOrder}
use Rattle.std.proofs.lemmas.Bool.{eqb-true}
use Rattle.std.proofs.lemmas.Bool.Decides.{Decides-int_eq}
use Rattle.std.proofs.lemmas.Slice.Eq.{bytes_eq-Decides}
use Rattle.kat_num.specs.Orders.{value_order}
use Rattle.kat_design.specs.Designs.{ComponentForm, DesignForm}
use Rattle.kat_design.specs.Faults.{Path, each_faults, first_of, here_if, within}
use Rattle.kat_design.specs.Sorted.{AreMatched, EachHas}
use Rattle.kat_design.proofs.Accepted.{none_left, none_right}
use Rattle.kat_replica.specs.Starting.{HasStarts}
use Rattle.serde_json.specs.Data.{Data, string}
use Rattle.kat_json.specs.FormFaults.{part_faults, past_faults}
use Rattle.kat_json.specs.Lists.{at_place, elements_of, list, list_of, tag_of}
use Rattle.kat_json.specs.Printed.{natural as natural_data}
use Rattle.kat_json.specs.Refused.{IsSaid}
use Rattle.kat_json.specs.declared.errors.WireError.{WireError}
use Rattle.kat_json.specs.Texts.{IsJson}
use Rattle.kat_json.specs.Words.{whole_of}
use Rattle.kat_json.proofs.AtomsBack.{whole_data}
use Rattle.kat_json.proofs.Backwards.{five_parts, here_back, in_list_back, list_back, part_back, past_back, within_back}
use Rattle.kat_json.proofs.PartsBack.{none_four, none_three, tag_back}
use Rattle.kat_node.specs.NodeFiles.{IsNodeRefusal, IsNodeText, IsRefusalOf, has_version, is_one, is_state, refusal_of}
use Rattle.kat_node.specs.Nodes.{IsNode, IsPart}
use Rattle.kat_node.specs.Possible.{node_made, pair_faults, parts_made, possible_faults, range_faults}
use Rattle.kat_node.specs.StateData.{node_data, part_data, state_data}
use Rattle.kat_node.specs.StateForms.{extra_parts_faults, node_faults, node_said, pair_stated_faults, pair_stated_said, parts_faults, state_faults, stated_parts_faults, stated_said, whole_faults, zipped}
use Rattle.kat_node.specs.declared.errors.NodeError.{NodeError}
use Rattle.kat_node.specs.declared.errors.NodeError.TheVariants.{Json, Form, Version, BadState, Memory}
use Rattle.kat_node.specs.declared.nodes.Node.{Node}
use Rattle.kat_node.specs.declared.stated.NodeStated.{NodeStated}
use Rattle.kat_node.proofs.Judged.{first_none, not_back, rest_none, said_by}
use Rattle.kat_node.proofs.PossibleBack.{natural_between, natural_printed, part_back as possible_back}
use Rattle.kat_node.proofs.StatedBack.{stated_goes_back, whole_goes_back}
use Rattle.kat_node.proofs.Sums.{range_back}

-- a file without refusal passes each rule
pub record Passes (components : List ComponentForm) (ds : List Data) : Type 0 where
  pub state : is_state ds ≡ true
  pub version : has_version ds ≡ true
  pub formed : node_faults components ds ≡ []
  pub possible : possible_faults components (node_said components ds) ≡ []

passes_by : (k v : Bool) (f p : List Path)
    → cond (not k) (Some (Form [])) (cond (not v) (Some Version) (option_or (option_map Form (first_of f)) (option_map BadState (first_of p)))) ≡ None
    → (k ≡ true) × (v ≡ true) × (f ≡ []) × (p ≡ [])
passes_by false v f p h = absurd (cc)
passes_by true false f p h = absurd (cc)
passes_by true true (x ∷ f) p h = absurd (cc)
passes_by true true [] (x ∷ p) h = absurd (cc)
passes_by true true [] [] h = (refl, refl, refl, refl)

passes : (components : List ComponentForm) (ds : List Data) → refusal_of components ds ≡ None → Passes components ds
passes components ds h =
    let all = passes_by (is_state ds) (has_version ds) (node_faults components ds) (possible_faults components (node_said components ds)) h in
    record { state = all.0; version = all.1; formed = all.2; possible = all.3 }

pub passed : (components : List ComponentForm) (ds : List Data) → Passes components ds → refusal_of components ds ≡ None
passed components ds all = let k = all.state in let v = all.version in let f = all.formed in let p = all.possible in rw (k, v, f, p) refl

-- the refusal by each rule, provided that those before it are kept
refused_by_form : (k v : Bool) (f p : List Path) (e : NodeError) → k ≡ true → v ≡ true → IsRefusalOf (option_map Form (first_of f)) e
    → IsRefusalOf (cond (not k) (Some (Form [])) (cond (not v) (Some Version) (option_or (option_map Form (first_of f)) (option_map BadState (first_of p))))) e
refused_by_form k v f p Json is known h = absurd h
refused_by_form k v f p (Form place) is known h = rw (is, known, h) refl
refused_by_form k v f p Version is known h = rw (is, known, h) refl
refused_by_form k v f p (BadState place) is known h = rw (is, known, h) refl
refused_by_form k v f p Memory is known h = tt

pub refused_form : (components : List ComponentForm) (ds : List Data) (e : NodeError) → is_state ds ≡ true → has_version ds ≡ true
    → IsRefusalOf (option_map Form (first_of (node_faults components ds))) e → IsRefusalOf (refusal_of components ds) e
refused_form components ds e k v h =
    refused_by_form (is_state ds) (has_version ds) (node_faults components ds) (possible_faults components (node_said components ds)) e k v h

pub refused_state : (components : List ComponentForm) (ds : List Data) (e : NodeError) → is_state ds ≡ true → has_version ds ≡ true → node_faults components ds ≡ []
    → IsRefusalOf (option_map BadState (first_of (possible_faults components (node_said components ds)))) e → IsRefusalOf (refusal_of components ds) e
refused_state components ds e k v f h =
    let same : refusal_of components ds ≡ option_map BadState (first_of (possible_faults components (node_said components ds))) = rw (k, v, f) refl in
    subst (λ (o : Option NodeError). IsRefusalOf o e) (sym same) h

pub refused_said : (components : List ComponentForm) (ds : List Data) (stated : NodeStated) (e : NodeError) → is_state ds ≡ true → has_version ds ≡ true
    → IsSaid (node_faults components ds) (node_said components ds) stated → IsRefusalOf (option_map BadState (first_of (possible_faults components stated))) e
    → IsRefusalOf (refusal_of components ds) e
refused_said components ds stated e k v said h =
    refused_state components ds e k v said.0 (subst (λ (s : NodeStated). IsRefusalOf (option_map BadState (first_of (possible_faults components s))) e) said.1 h)

-- what is said, and can be
pub passed_by : (components : List ComponentForm) (ds : List Data) (stated : NodeStated) (r : Result Node WireError) (node : Node) → is_state ds ≡ true → has_version ds ≡ true
    → IsSaid (node_faults components ds) (node_said components ds) stated → r ≡ Ok node → IfOk r (IsSaid (possible_faults components stated) (node_made components stated))
    → refusal_of components ds ≡ None
passed_by components ds stated r node k v said is made =
    let possible = said_by r node (IsSaid (possible_faults components stated) (node_made components stated)) is made in
    passed components ds (record { state = k; version = v; formed = said.0; possible = ap (λ (s : NodeStated). possible_faults components s) (sym said.1) ∙ possible.0 })

pub accepted_said : (components : List ComponentForm) (ds : List Data) (stated : NodeStated) (r : Result Node WireError) (node : Node)
    → IsSaid (node_faults components ds) (node_said components ds) stated → r ≡ Ok node → IfOk r (IsSaid (possible_faults components stated) (node_made components stated))
    → node ≡ node_made components (node_said components ds)
accepted_said components ds stated r node said is made =
    (said_by r node (IsSaid (possible_faults components stated) (node_made components stated)) is made).1 ∙ ap (λ (s : NodeStated). node_made components s) said.1

-- a text is refused as its value is
pub json_refused : (d : DesignForm) (bytes : List ℕ) (value : Data) (e : NodeError) → IsJson bytes value → IsRefusalOf (refusal_of d.components (elements_of value)) e
    → IsNodeRefusal d bytes e
json_refused d bytes value Json json h = absurd h
json_refused d bytes value (Form place) json h = record { value = value; json = json; refused = h }
json_refused d bytes value Version json h = record { value = value; json = json; refused = h }
json_refused d bytes value (BadState place) json h = record { value = value; json = json; refused = h }
json_refused d bytes value Memory json h = tt

pub handed_node : {T : Type 0} (r : Result T NodeError) (e : NodeError) (P : NodeError → Type 0) → IsErrAnd r (λ x. x ≡ e) → P e → IfErr r P
handed_node (Ok x) e P is h = absurd is
handed_node (Err x) e P is h = subst P (sym is) h

-- what begins with `"state"` is a list
listed : (d : Data) (o : Option (List Data)) → list_of d ≡ o → is_state (unwrap_or o []) ≡ true → d ≡ list (unwrap_or o [])
listed d None is k = absurd (cc)
listed d (Some ds) is k = list_back d ds is

version_back : (d : Data) (o : Option ℤ) → whole_of d ≡ o → is_one o ≡ true → natural_data 1 ≡ d
version_back d None is h = absurd (cc)
version_back d (Some z) is h = whole_data d (pos 1) (is ∙ ap Some ((Decides-int_eq z (pos 1)).0 h))

-- as many parts as components
record StateBack (components : List ComponentForm) (ds : List Data) : Type 0 where
  is : AreMatched IsPart components (parts_made components (map pair_stated_said (zipped components ds)))
  printed : map part_data (parts_made components (map pair_stated_said (zipped components ds))) ≡ ds

state_back : IsTotalOrder value_order → (components : List ComponentForm) (ds : List Data) (i : ℕ) → length ds ≡ length components → EachHas HasStarts components
    → each_faults pair_stated_faults i (zipped components ds) ≡ []
    → each_faults pair_faults i (zipped components (map pair_stated_said (zipped components ds))) ≡ [] → StateBack components ds
state_back total [] [] i even each formed possible = record { is = tt; printed = refl }
state_back total [] (d ∷ ds) i even each formed possible = absurd (omega arith)
state_back total (component ∷ components) [] i even each formed possible = absurd (omega arith)
state_back total (component ∷ components) (d ∷ ds) i even each formed possible =
    let said = stated_said component d in
    let back = stated_goes_back component d (first_none pair_stated_faults i (component, d) (zipped components ds) formed) in
    let part = possible_back total component said each.0 (first_none pair_faults i (component, said) (zipped components (map pair_stated_said (zipped components ds))) possible) in
    let rest = state_back total components ds (i + 1) (omega arith) each.1 (rest_none pair_stated_faults i (component, d) (zipped components ds) formed)
    (rest_none pair_faults i (component, said) (zipped components (map pair_stated_said (zipped components ds))) possible) in
    record { is = (part.is, rest.is); printed = ap₂ (λ x xs. x ∷ xs) (part.printed ∙ back) rest.printed }

five_same : (a b c d e s t u v w : Data) → a ≡ s → b ≡ t → c ≡ u → d ≡ v → e ≡ w → list (a ∷ b ∷ c ∷ d ∷ e ∷ []) ≡ list (s ∷ t ∷ u ∷ v ∷ w ∷ [])
five_same a b c d e s t u v w h i j k l = rw (h, i, j, k, l) refl

-- the value of a file that isn't refused
pub record IsPrinted (d : DesignForm) (value : Data) : Type 0 where
  pub printed : value ≡ node_data (node_made d.components (node_said d.components (elements_of value)))
  pub node : IsNode d (node_made d.components (node_said d.components (elements_of value)))

pub node_back : IsTotalOrder value_order → (d : DesignForm) (value : Data) → EachHas HasStarts d.components → refusal_of d.components (elements_of value) ≡ None
    → IsPrinted d value
node_back total d value each none =
    let components = d.components in
    let ds = elements_of value in
    let all = passes components ds none in
    let whole = listed value (list_of value) refl all.state in
    let tag = tag_back ds _ _ ((bytes_eq-Decides (tag_of ds) (codes "state")).0 all.state) in
    let version = version_back (at_place ds 1) (whole_of (at_place ds 1)) refl all.version in
    let said = node_said components ds in
    let forms = none_four (part_faults whole_faults 2 ds) (part_faults whole_faults 3 ds) (part_faults (state_faults components) 4 ds) (past_faults 5 ds) all.formed in
    let number = part_back whole_faults 2 ds forms.0 in
    let clock = part_back whole_faults 3 ds forms.1 in
    let state = part_back (state_faults components) 4 ds forms.2 in
    let parts = in_list_back (parts_faults components) (at_place ds 4) state.1 in
    let stated = none_left (stated_parts_faults components (elements_of (at_place ds 4))) (extra_parts_faults (length components) (elements_of (at_place ds 4))) parts.1 in
    let inner = here_if (not (said.count == length components)) ++ each_faults pair_faults 0 (zipped components said.parts) in
    let states = none_three (within 2 (range_faults 1 32 said.number)) (within 3 (range_faults 0 (10 ^ 9) said.clock)) (within 4 inner) all.possible in
    let numbered = range_back 1 32 said.number (within_back 2 (range_faults 1 32 said.number) states.0) in
    let timed = range_back 0 (10 ^ 9) said.clock (within_back 3 (range_faults 0 (10 ^ 9) said.clock) states.1) in
    let inside = within_back 4 inner states.2 in
    let counted = none_left (here_if (not (said.count == length components))) (each_faults pair_faults 0 (zipped components said.parts)) inside in
    let even = eqb-true said.count (length components) (not_back (said.count == length components) (here_back (not (said.count == length components)) counted)) in
    let back = state_back total components (elements_of (at_place ds 4)) 0 even each stated
    (none_right (here_if (not (said.count == length components))) (each_faults pair_faults 0 (zipped components said.parts)) inside) in
    let made = node_made components said in
    let number_is = natural_between 1 32 said.number numbered.0 numbered.1 in
    let clock_is = natural_between 0 (10 ^ 9) said.clock timed.0 timed.1 in
    record {
      printed = whole ∙ ap list (five_parts ds state.0 (past_back 5 ds forms.3))
          ∙ sym (five_same (string (codes "state")) (natural_data 1) (natural_data made.number) (natural_data made.replica.clock) (state_data made.replica.state.parts)
          (at_place ds 0) (at_place ds 1) (at_place ds 2) (at_place ds 3) (at_place ds 4) (sym tag) version
          (natural_printed 1 said.number numbered.0 ∙ whole_goes_back (at_place ds 2) number.1) (natural_printed 0 said.clock timed.0 ∙ whole_goes_back (at_place ds 3) clock.1)
          (ap list back.printed ∙ sym parts.0));
      node = record { least = number_is.0; most = number_is.1; clock = clock_is.1; parts = back.is };
    }

pub text_of_node : IsTotalOrder value_order → (d : DesignForm) (bytes : List ℕ) (value : Data) (ds : List Data) (node : Node) → EachHas HasStarts d.components → IsJson bytes value
    → ds ≡ elements_of value → refusal_of d.components ds ≡ None → node ≡ node_made d.components (node_said d.components ds) → IsNodeText d bytes node
text_of_node total d bytes value ds node each json same none is =
    let back = node_back total d value each (ap (λ (es : List Data). refusal_of d.components es) (sym same) ∙ none) in
    let text : IsNodeText d bytes (node_made d.components (node_said d.components (elements_of value))) = record { json = subst (λ (v : Data). IsJson bytes v) back.printed json; possible = back.node } in
    subst (λ (n : Node). IsNodeText d bytes n) (sym (is ∙ ap (λ (es : List Data). node_made d.components (node_said d.components es)) same)) text
