-- The text of a state, as reports show it, is the compact JSON text of its value: no byte of a name is escaped.
use Rattle.std.proofs.Common.{◌≡◌, ℕ, ◌≤◌, pos, negsuc, true, false, List, [], ◌∷◌, ◌++◌, map, flat_map, codes, decimal, refl, sym, ap, ap₂, ◌∙◌, subst, arith, append_assoc}
use Rattle.std.specs.List.{list_all}
use Rattle.std.proofs.lemmas.Fmt.{decimal_digit}
use Rattle.json.specs.Print.{escape, escape_byte}
use Rattle.json.proofs.Printed.Strings.{escape_byte_plain}
use Rattle.serde_json.specs.Data.{Data}
use Rattle.serde_json.specs.View.{items_of}
use Rattle.serde_json.specs.Written.{compact_text, items_text}
use Rattle.kat_num.specs.Bytes.{is_name_byte}
use Rattle.kat_num.specs.Names.{IsNameCode, name_of_code}
use Rattle.kat_num.specs.Values.{value_text}
use Rattle.kat_num.specs.declared.values.Value.{Value}
use Rattle.kat_num.specs.declared.values.Value.TheVariants as value
use Rattle.kat_num.proofs.NameCodes.{and_parts, name_of_code-code_of}
use Rattle.kat_lattice.specs.Tallies.{Sums}
use Rattle.kat_shape.specs.Values.{Filled, leaves_of}
use Rattle.kat_design.specs.Sorted.{EachHas, IsWritten}
use Rattle.kat_design.specs.declared.states.Part.{Part}
use Rattle.kat_design.specs.declared.states.Part.TheVariants as part
use Rattle.kat_replica.specs.Texts.{cell_text, entry_text, listed, part_text, state_text, sum_text, tally_text}
use Rattle.kat_json.specs.Lists.{list}
use Rattle.kat_json.specs.Printed.{natural, value_data}
use Rattle.kat_node.specs.StateData.{cell_data, entry_data, node_text, part_data, state_data, sum_data, tally_data}
use Rattle.kat_node.specs.Written.{IsWrittenCell, IsWrittenEntry, IsWrittenPart, IsWrittenSum, IsWrittenTally}
use Rattle.kat_node.specs.declared.nodes.Node.{Node}

-- names
name_least : (byte : ℕ) → is_name_byte byte ≡ true → 45 ≤ byte
name_least byte h = grind arith

no_quote : (byte : ℕ) → is_name_byte byte ≡ true → byte ≡ 34 → ⊥
no_quote byte h e = let least = name_least byte h in omega (arith, least, e)

no_slash : (byte : ℕ) → is_name_byte byte ≡ true → byte ≡ 92 → ⊥
no_slash byte h e = let it : is_name_byte 92 ≡ true = subst (λ b. is_name_byte b ≡ true) e h in absurd (cc)

name_kept : (name : List ℕ) → list_all is_name_byte name ≡ true → escape name ≡ name
name_kept [] h = refl
name_kept (byte ∷ bytes) h =
    let both = and_parts (is_name_byte byte) (list_all is_name_byte bytes) h in
    let least = name_least byte both.0 in
    ap₂ (λ (a b : List ℕ). a ++ b) (escape_byte_plain byte (no_quote byte both.0) (no_slash byte both.0) (omega (arith, least))) (name_kept bytes both.1)

name_text : (code : ℕ) → IsNameCode code → escape (name_of_code code) ≡ name_of_code code
name_text code is =
    let same : name_of_code code ≡ is.name = ap name_of_code (sym is.coded) ∙ name_of_code-code_of is.name is.is_name in
    subst (λ name. escape name ≡ name) (sym same) (name_kept is.name is.is_name.each)

written_text : (v : Value) → IsWritten v → compact_text (value_data v) ≡ value_text v
written_text (value.Bool true) is = refl
written_text (value.Bool false) is = refl
written_text (value.Num (pos n)) is = refl
written_text (value.Num (negsuc n)) is = refl
written_text (value.Name code) is = ap (λ name. 34 ∷ (name ++ 34 ∷ [])) (name_text code is)

-- lists
rest_text : {A : Type 0} (P : A → Type 0) (f : A → Data) (g : A → List ℕ) → ((x : A) → P x → compact_text (f x) ≡ g x) → (xs : List A) → EachHas P xs
    → items_text true (items_of (map f xs)) ≡ flat_map (λ next. 44 ∷ next) (map g xs) ++ 93 ∷ []
rest_text P f g same [] each = refl
rest_text P f g same (x ∷ xs) each =
    ap (λ (text : List ℕ). 44 ∷ text)
    (ap₂ (λ (a b : List ℕ). a ++ b) (same x each.0) (rest_text P f g same xs each.1) ∙ sym (append_assoc (g x) (flat_map (λ next. 44 ∷ next) (map g xs)) (93 ∷ [])))

list_text : {A : Type 0} (P : A → Type 0) (f : A → Data) (g : A → List ℕ) → ((x : A) → P x → compact_text (f x) ≡ g x) → (xs : List A) → EachHas P xs
    → compact_text (list (map f xs)) ≡ listed (map g xs)
list_text P f g same [] each = refl
list_text P f g same (x ∷ xs) each =
    ap (λ (text : List ℕ). 91 ∷ text)
    (ap₂ (λ (a b : List ℕ). a ++ b) (same x each.0) (rest_text P f g same xs each.1) ∙ sym (append_assoc (g x) (flat_map (λ next. 44 ∷ next) (map g xs)) (93 ∷ [])))

-- a list of two
pair_text : (d e : Data) (t u : List ℕ) → compact_text d ≡ t → compact_text e ≡ u → compact_text (list (d ∷ e ∷ [])) ≡ listed (t ∷ u ∷ [])
pair_text d e t u first second =
    list_text (λ (both : Data × List ℕ). compact_text both.0 ≡ both.1) (λ (both : Data × List ℕ). both.0) (λ (both : Data × List ℕ). both.1) (λ both is. is) ((d, t) ∷ (e, u) ∷ []) (first, (second, tt))

-- parts
cell_same : (cell : Filled) → IsWrittenCell cell → compact_text (cell_data cell) ≡ cell_text cell
cell_same cell is = list_text IsWritten value_data value_text written_text (leaves_of cell) is

sum_same : (sum : ℕ × ℕ) → IsWrittenSum sum → compact_text (sum_data sum) ≡ sum_text sum
sum_same sum is = pair_text (natural sum.0) (natural sum.1) (decimal sum.0) (decimal sum.1) refl refl

tally_same : (sums : Sums) → IsWrittenTally sums → compact_text (tally_data sums) ≡ tally_text sums
tally_same sums is = list_text IsWrittenSum sum_data sum_text sum_same sums is

entry_same : {V : Type 0} (P : V → Type 0) (f : V → Data) (g : V → List ℕ) → ((v : V) → P v → compact_text (f v) ≡ g v) → (e : Value × V) → IsWrittenEntry P e
    → compact_text (entry_data f e) ≡ entry_text g e
entry_same P f g same e is = pair_text (value_data e.0) (f e.1) (value_text e.0) (g e.1) (written_text e.0 is.0) (same e.1 is.1)

part_same : (p : Part) → IsWrittenPart p → compact_text (part_data p) ≡ part_text p
part_same (part.Cell cell) is = cell_same cell is
part_same (part.Table table) is = list_text (IsWrittenEntry IsWrittenCell) (entry_data cell_data) (entry_text cell_text) (entry_same IsWrittenCell cell_data cell_text cell_same) table.entries is
part_same (part.Set keys) is = list_text IsWritten value_data value_text written_text keys is
part_same (part.Tally sums) is = tally_same sums is
part_same (part.Tallies table) is = list_text (IsWrittenEntry IsWrittenTally) (entry_data tally_data) (entry_text tally_text) (entry_same IsWrittenTally tally_data tally_text tally_same) table.entries is

pub state_same : (parts : List Part) → EachHas IsWrittenPart parts → compact_text (state_data parts) ≡ state_text parts
state_same parts each = list_text IsWrittenPart part_data part_text part_same parts each

-- a state file: its head, the state, and the end
head_then : (a n c rest : List ℕ) → (a ++ (n ++ 44 ∷ (c ++ 44 ∷ []))) ++ rest ≡ a ++ (n ++ 44 ∷ (c ++ 44 ∷ rest))
head_then a n c rest =
    append_assoc a (n ++ 44 ∷ (c ++ 44 ∷ [])) rest
    ∙ ap (λ (t : List ℕ). a ++ t) (append_assoc n (44 ∷ (c ++ 44 ∷ [])) rest ∙ ap (λ (t : List ℕ). n ++ 44 ∷ t) (append_assoc c (44 ∷ []) rest))

whole_then : (a n c s rest : List ℕ) → (a ++ (n ++ 44 ∷ (c ++ 44 ∷ s))) ++ rest ≡ a ++ (n ++ 44 ∷ (c ++ 44 ∷ (s ++ rest)))
whole_then a n c s rest =
    append_assoc a (n ++ 44 ∷ (c ++ 44 ∷ s)) rest
    ∙ ap (λ (t : List ℕ). a ++ t) (append_assoc n (44 ∷ (c ++ 44 ∷ s)) rest ∙ ap (λ (t : List ℕ). n ++ 44 ∷ t) (append_assoc c (44 ∷ s) rest))

pieces : (a n c s : List ℕ) → ((a ++ (n ++ 44 ∷ (c ++ 44 ∷ []))) ++ s) ++ 93 ∷ 10 ∷ [] ≡ (a ++ (n ++ 44 ∷ (c ++ 44 ∷ (s ++ 93 ∷ [])))) ++ 10 ∷ []
pieces a n c s =
    append_assoc (a ++ (n ++ 44 ∷ (c ++ 44 ∷ []))) s (93 ∷ 10 ∷ []) ∙ head_then a n c (s ++ 93 ∷ 10 ∷ [])
    ∙ ap (λ (t : List ℕ). a ++ (n ++ 44 ∷ (c ++ 44 ∷ t))) (sym (append_assoc s (93 ∷ []) (10 ∷ []))) ∙ sym (whole_then a n c (s ++ 93 ∷ []) (10 ∷ []))

node_same : (node : Node) → EachHas IsWrittenPart node.replica.state.parts
    → node_text node ≡ (codes "[\"state\",1," ++ (decimal node.number ++ 44 ∷ (decimal node.replica.clock ++ 44 ∷ (state_text node.replica.state.parts ++ 93 ∷ [])))) ++ 10 ∷ []
unfolding escape_byte
node_same node each =
    ap₂ (λ (one state : List ℕ). (codes "[\"state\"," ++ (one ++ 44 ∷ (decimal node.number ++ 44 ∷ (decimal node.replica.clock ++ 44 ∷ (state ++ 93 ∷ []))))) ++ 10 ∷ [])
    (decimal_digit 1 (omega arith)) (state_same node.replica.state.parts each)

pub written : (node : Node) (head text line : List ℕ) → EachHas IsWrittenPart node.replica.state.parts
    → head ≡ codes "[\"state\",1," ++ (decimal node.number ++ 44 ∷ (decimal node.replica.clock ++ 44 ∷ [])) → text ≡ head ++ state_text node.replica.state.parts → line ≡ text ++ 93 ∷ 10 ∷ []
    → line ≡ node_text node
written node head text line each first second third =
    third ∙ ap (λ (t : List ℕ). t ++ 93 ∷ 10 ∷ []) (second ∙ ap (λ (t : List ℕ). t ++ state_text node.replica.state.parts) first)
    ∙ pieces (codes "[\"state\",1,") (decimal node.number) (decimal node.replica.clock) (state_text node.replica.state.parts) ∙ sym (node_same node each)
