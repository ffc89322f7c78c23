-- Each text has one judgement.
use Rattle.std.proofs.Common.{◌≡◌, ℕ, ◌+◌, ◌^◌, ℤ, pos, drop, None, List, [], ◌∷◌, ◌++◌, refl, sym, ap, ap₂, ◌∙◌, map, length, Option, Some, ◌⊎◌, inl, inr, subst, Bool, true, false, cond, arith}
use Rattle.std.specs.Prelude.{◌==◌, not, option_map, IsUtf8}
use Rattle.std.specs.Option.{option_or}
use Rattle.std.specs.Str.{is_utf8}
use Rattle.std.specs.Cmp.{IsTotalOrder}
use Rattle.std.proofs.lemmas.Bool.{eq-eqb, false≢true}
use Rattle.std.proofs.lemmas.List.{drop_all}
use Rattle.std.proofs.lemmas.Str.{IsUtf8-from_is_utf8, is_utf8-from_IsUtf8}
use Rattle.kat_num.specs.Orders.{value_order}
use Rattle.serde_json.specs.Data.{Data}
use Rattle.serde_json.specs.Read.{read}
use Rattle.kat_design.specs.Designs.{ComponentForm, DesignForm}
use Rattle.kat_design.specs.Faults.{Path, each_faults, first_of, here_if, within}
use Rattle.kat_design.specs.Sorted.{AreMatched, EachHas, IsWellSorted}
use Rattle.kat_design.specs.declared.states.Part.{Part}
use Rattle.kat_json.specs.Lists.{elements_of}
use Rattle.kat_json.specs.Texts.{IsJson}
use Rattle.kat_json.proofs.Backwards.{none_some, some_same}
use Rattle.kat_json.proofs.Forwards.{elements_known, in_list_none}
use Rattle.kat_replica.specs.Starting.{HasStarts}
use Rattle.kat_node.specs.Judgements.{IsJudged, IsRefusal}
use Rattle.kat_node.specs.NodeFiles.{IsNodeText, IsRefusedAs, has_version, is_state, refusal_of}
use Rattle.kat_node.specs.Nodes.{IsNode, IsPart}
use Rattle.kat_node.specs.Possible.{node_made, pair_faults, parts_made, possible_faults, range_faults}
use Rattle.kat_node.specs.StateData.{node_data, part_data, state_data}
use Rattle.kat_node.specs.StateForms.{extra_faults, extra_parts_faults, node_faults, node_said, pair_stated_faults, pair_stated_said, parts_faults, stated_parts_faults, zipped}
use Rattle.kat_node.specs.declared.errors.NodeError.{NodeError}
use Rattle.kat_node.specs.declared.errors.NodeError.TheVariants.{Json, Form, Version, BadState, Memory}
use Rattle.kat_node.specs.declared.nodes.Node.{Node}
use Rattle.kat_node.specs.declared.stated.NodeStated.{NodeStated}
use Rattle.kat_node.specs.declared.stated.Stated.{Stated}
use Rattle.kat_node.proofs.NodesBack.{passed, text_of_node}
use Rattle.kat_node.proofs.Starts.{each_start}
use Rattle.kat_node.proofs.Empty.{no_both, no_here, no_within}
use Rattle.kat_node.proofs.PossibleForth.{part_forth, range_right}
use Rattle.kat_node.proofs.StatedForth.{part_same, part_stated, stated_forth}

-- the parts of a state, side by side with the components
pub record StateForth (components : List ComponentForm) (parts : List Part) (i : ℕ) : Type 0 where
  pub even : length (map part_data parts) ≡ length components
  pub formed : each_faults pair_stated_faults i (zipped components (map part_data parts)) ≡ []
  pub said : map pair_stated_said (zipped components (map part_data parts)) ≡ map part_stated parts
  pub possible : each_faults pair_faults i (zipped components (map part_stated parts)) ≡ []
  pub again : parts_made components (map part_stated parts) ≡ parts

state_forth : (components : List ComponentForm) (parts : List Part) (i : ℕ) → AreMatched IsPart components parts → StateForth components parts i
state_forth [] [] i is = record { even = refl; formed = refl; said = refl; possible = refl; again = refl }
state_forth [] (p ∷ parts) i is = absurd is
state_forth (component ∷ components) [] i is = absurd is
state_forth (component ∷ components) (p ∷ parts) i is =
    let form = stated_forth component p is.0 in
    let same = part_same p in
    let first = part_forth component p is.0 in
    let rest = state_forth components parts (i + 1) is.1 in
    record {
      even = (let e = rest.even in omega (arith, e));
      formed = no_both (within i (pair_stated_faults (component, part_data p))) (each_faults pair_stated_faults (i + 1) (zipped components (map part_data parts)))
          (no_within i (pair_stated_faults (component, part_data p)) (ap (λ d. pair_stated_faults (component, d)) same ∙ form.none)) rest.formed;
      said = ap₂ (λ s ss. s ∷ ss) (ap (λ d. pair_stated_said (component, d)) same ∙ form.back) rest.said;
      possible = no_both (within i (pair_faults (component, part_stated p))) (each_faults pair_faults (i + 1) (zipped components (map part_stated parts)))
          (no_within i (pair_faults (component, part_stated p)) first.none) rest.possible;
      again = ap₂ (λ q qs. q ∷ qs) first.again rest.again;
    }

-- the value of a node
pub record NodeForth (d : DesignForm) (node : Node) : Type 0 where
  pub accepted : refusal_of d.components (elements_of (node_data node)) ≡ None
  pub back : node_made d.components (node_said d.components (elements_of (node_data node))) ≡ node

node_same : (number clock : ℕ) (made : List Part) (node : Node) → number ≡ node.number → clock ≡ node.replica.clock → made ≡ node.replica.state.parts
    → ◌≡◌ {A = Node} (record { number = number; replica = record { clock = clock; state = record { parts = made } } }) node
node_same number clock made node e f g = λ i. record { number = e i; replica = record { clock = f i; state = record { parts = g i } } }

said_same : (number clock : ℤ) (n count : ℕ) (ps parts : List Stated) → n ≡ count → ps ≡ parts
    → ◌≡◌ {A = NodeStated} (record { number = number; clock = clock; count = n; parts = ps }) (record { number = number; clock = clock; count = count; parts = parts })
said_same number clock n count ps parts e f = λ i. record { number = number; clock = clock; count = e i; parts = f i }

-- there is no part past the components
all_formed : (components : List ComponentForm) (ds : List Data) → stated_parts_faults components ds ≡ [] → length ds ≡ length components → parts_faults components ds ≡ []
all_formed components ds none even =
    let past : drop (length components) ds ≡ [] = drop_all (length components) ds (omega (arith, even)) in
    no_both (stated_parts_faults components ds) (extra_parts_faults (length components) ds) none (ap (λ es. each_faults extra_faults (length components) es) past)

-- what is said of a node
abbrev node_stated : DesignForm → Node → NodeStated
node_stated d node = record { number = pos node.number; clock = pos node.replica.clock; count = length d.components; parts = map part_stated node.replica.state.parts }

all_right : (d : DesignForm) (node : Node) → IsNode d node → each_faults pair_faults 0 (zipped d.components (map part_stated node.replica.state.parts)) ≡ []
    → possible_faults d.components (node_stated d node) ≡ []
all_right d node is none =
    let n = length d.components in
    let inner = here_if (not (n == n)) ++ each_faults pair_faults 0 (zipped d.components (map part_stated node.replica.state.parts)) in
    no_both (within 2 (range_faults 1 32 (pos node.number)) ++ within 3 (range_faults 0 (10 ^ 9) (pos node.replica.clock))) (within 4 inner)
    (no_both (within 2 (range_faults 1 32 (pos node.number))) (within 3 (range_faults 0 (10 ^ 9) (pos node.replica.clock)))
    (no_within 2 (range_faults 1 32 (pos node.number)) (range_right 1 32 node.number is.least is.most))
    (no_within 3 (range_faults 0 (10 ^ 9) (pos node.replica.clock)) (range_right 0 (10 ^ 9) node.replica.clock (omega arith) is.clock)))
    (no_within 4 inner (no_both (here_if (not (n == n))) (each_faults pair_faults 0 (zipped d.components (map part_stated node.replica.state.parts))) (no_here (n == n) (eq-eqb n n refl)) none))

pub node_forth : (d : DesignForm) (node : Node) → IsNode d node → NodeForth d node
node_forth d node is =
    let components = d.components in
    let parts = node.replica.state.parts in
    let ds = elements_of (node_data node) in
    let state = state_forth components parts 0 is.parts in
    let known = elements_known (map part_data parts) in
    let formed : node_faults components ds ≡ [] =
    ap (λ fs. within 4 fs ++ []) (in_list_none (parts_faults components) (map part_data parts) (all_formed components (map part_data parts) state.formed state.even)) in
    let said : node_said components ds ≡ node_stated d node =
    said_same (pos node.number) (pos node.replica.clock) (length (elements_of (state_data parts))) (length components) (map pair_stated_said (zipped components (elements_of (state_data parts)))) (map part_stated parts)
    (ap (λ es. length es) known ∙ state.even) (ap (λ es. map pair_stated_said (zipped components es)) known ∙ state.said) in
    let possible : possible_faults components (node_said components ds) ≡ [] = ap (λ s. possible_faults components s) said ∙ all_right d node is state.possible in
    record {
      accepted = passed components ds (record { state = refl; version = refl; formed = formed; possible = possible });
      back = ap (λ s. node_made components s) said ∙ node_same node.number node.replica.clock (parts_made components (map part_stated parts)) node refl refl state.again;
    }

-- one node
pub one_node : (d : DesignForm) (bytes : List ℕ) (some other : Node) → IsNodeText d bytes some → IsNodeText d bytes other → some ≡ other
one_node d bytes some other one two =
    let first = node_forth d some one.possible in
    let second = node_forth d other two.possible in
    let same : node_data some ≡ node_data other = some_same (node_data some) (node_data other) (sym one.json.is_read ∙ two.json.is_read) in
    sym first.back ∙ ap (λ v. node_made d.components (node_said d.components (elements_of v))) same ∙ second.back

-- a refusal is that of no JSON, or that of a value
abbrev IsTold : DesignForm → List ℕ → NodeError → Type 0
IsTold d bytes e = ((e ≡ Json) × ((v : Data) → IsJson bytes v → ⊥)) ⊎ IsRefusedAs d bytes e

told : (d : DesignForm) (bytes : List ℕ) (e : NodeError) → IsRefusal d bytes e → IsTold d bytes e
told d bytes Json h = inl (refl, h.refused)
told d bytes (Form place) h = inr h.refused
told d bytes Version h = inr h.refused
told d bytes (BadState place) h = inr h.refused
told d bytes Memory h = absurd (h.told refl)

told_once : (d : DesignForm) (bytes : List ℕ) (e f : NodeError) → IsTold d bytes e → IsTold d bytes f → e ≡ f
told_once d bytes e f (inl one) (inl two) = one.0 ∙ sym two.0
told_once d bytes e f (inl one) (inr two) = absurd (one.1 two.value two.json)
told_once d bytes e f (inr one) (inl two) = absurd (two.1 one.value one.json)
told_once d bytes e f (inr one) (inr two) =
    let same : one.value ≡ two.value = some_same one.value two.value (sym one.json.is_read ∙ two.json.is_read) in
    some_same e f (sym one.refused ∙ ap (λ v. refusal_of d.components (elements_of v)) same ∙ two.refused)

pub one_refusal : (d : DesignForm) (bytes : List ℕ) (some other : NodeError) → IsRefusal d bytes some → IsRefusal d bytes other → some ≡ other
one_refusal d bytes some other one two = told_once d bytes some other (told d bytes some one) (told d bytes other two)

-- never both
node_told : (d : DesignForm) (bytes : List ℕ) (node : Node) (e : NodeError) → IsNodeText d bytes node → IsTold d bytes e → ⊥
node_told d bytes node e text (inl one) = one.1 (node_data node) text.json
node_told d bytes node e text (inr one) =
    let forth = node_forth d node text.possible in
    let same : node_data node ≡ one.value = some_same (node_data node) one.value (sym text.json.is_read ∙ one.json.is_read) in
    none_some e (sym forth.accepted ∙ ap (λ v. refusal_of d.components (elements_of v)) same ∙ one.refused)

pub never_both : (d : DesignForm) (bytes : List ℕ) (node : Node) (e : NodeError) → IsNodeText d bytes node → IsRefusal d bytes e → ⊥
never_both d bytes node e text refusal = node_told d bytes node e text (told d bytes e refusal)

-- the refusal of a value is of it alone
abbrev IsOwn : NodeError → Type 0
IsOwn Json = ⊥
IsOwn (Form place) = Unit {0}
IsOwn Version = Unit {0}
IsOwn (BadState place) = Unit {0}
IsOwn Memory = ⊥

own_by : (k v : Bool) (f p : List Path) (e : NodeError)
    → cond (not k) (Some (Form [])) (cond (not v) (Some Version) (option_or (option_map Form (first_of f)) (option_map BadState (first_of p)))) ≡ Some e → IsOwn e
own_by false v f p e h = subst IsOwn (some_same (Form []) e h) tt
own_by true false f p e h = subst IsOwn (some_same Version e h) tt
own_by true true (x ∷ f) p e h = subst IsOwn (some_same (Form x) e h) tt
own_by true true [] (x ∷ p) e h = subst IsOwn (some_same (BadState x) e h) tt
own_by true true [] [] e h = none_some e h

refused_told : (d : DesignForm) (bytes : List ℕ) (v : Data) (e : NodeError) → IsJson bytes v → refusal_of d.components (elements_of v) ≡ Some e → IsOwn e → IsRefusal d bytes e
refused_told d bytes v Json json h own = absurd own
refused_told d bytes v (Form place) json h own = record { refused = record { value = v; json = json; refused = h }; told = λ is. cc }
refused_told d bytes v Version json h own = record { refused = record { value = v; json = json; refused = h }; told = λ is. cc }
refused_told d bytes v (BadState place) json h own = record { refused = record { value = v; json = json; refused = h }; told = λ is. cc }
refused_told d bytes v Memory json h own = absurd own

value_judged : IsTotalOrder value_order → (d : DesignForm) → EachHas HasStarts d.components → (bytes : List ℕ) (v : Data) (o : Option NodeError) → IsJson bytes v
    → refusal_of d.components (elements_of v) ≡ o → IsJudged d bytes
value_judged total d each bytes v None json is =
    let node = node_made d.components (node_said d.components (elements_of v)) in
    inl (node, text_of_node total d bytes v (elements_of v) node each json refl is refl)
value_judged total d each bytes v (Some e) json is =
    let ds = elements_of v in
    inr (e, refused_told d bytes v e json is (own_by (is_state ds) (has_version ds) (node_faults d.components ds) (possible_faults d.components (node_said d.components ds)) e is))

unread : (d : DesignForm) (bytes : List ℕ) → ((v : Data) → IsJson bytes v → ⊥) → IsJudged d bytes
unread d bytes no_json = inr (Json, record { refused = no_json; told = λ is. cc })

read_judged : IsTotalOrder value_order → (d : DesignForm) → EachHas HasStarts d.components → (bytes : List ℕ) (o : Option Data) → IsUtf8 bytes → read bytes ≡ o → IsJudged d bytes
read_judged total d each bytes None utf8 is = unread d bytes (λ v json. none_some v (sym is ∙ json.is_read))
read_judged total d each bytes (Some v) utf8 is = value_judged total d each bytes v (refusal_of d.components (elements_of v)) (record { utf8 = utf8; is_read = is }) refl

bytes_judged : IsTotalOrder value_order → (d : DesignForm) → EachHas HasStarts d.components → (bytes : List ℕ) (utf8 : Bool) → is_utf8 bytes ≡ utf8 → IsJudged d bytes
bytes_judged total d each bytes true is = read_judged total d each bytes (read bytes) (IsUtf8-from_is_utf8 bytes is) refl
bytes_judged total d each bytes false is = unread d bytes (λ v json. absurd (false≢true (sym is ∙ is_utf8-from_IsUtf8 bytes json.utf8)))

pub every_text : IsTotalOrder value_order → (d : DesignForm) → IsWellSorted d → (bytes : List ℕ) → IsJudged d bytes
every_text total d sorted bytes = bytes_judged total d (each_start d.sig.ops d.components sorted.components) bytes (is_utf8 bytes) refl
