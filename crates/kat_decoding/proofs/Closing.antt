-- The components that the token list of a design stands for are those of the design.
use Rattle.std.proofs.Common.{◌≡◌, ℕ, zero, suc, ◌^◌, ◌<◌, ◌≤◌, true, false, List, [], ◌∷◌, ◌++◌, map, length, refl, sym, ◌∙◌, ap, subst, append_assoc, append-nil, arith, Option, None, Some}
use Rattle.std.specs.Prelude.{◌==◌, nat_lt, slice_get, sum_by}
use Rattle.std.proofs.lemmas.Grind.{common_steps}
use Rattle.std.proofs.lemmas.Option.{slice_get_within}
use Rattle.kat_num.specs.declared.values.Sort.{Sort}
use Rattle.kat_num.specs.declared.values.Value.{Value}
use Rattle.kat_num.specs.declared.values.Value.TheVariants as value
use Rattle.kat_shape.specs.Forms.{CellForm, lex, names, numbers, pair, truths}
use Rattle.kat_walk.specs.Machines.{IsOneOf}
use Rattle.kat_design.specs.Designs.{AskForm, ComponentForm, DesignForm}
use Rattle.kat_design.specs.Designs.ComponentForm.{a_cell, a_table, a_set, a_tally, tallies}
use Rattle.kat_design.specs.Designs.AskForm.{leaf, parameter, constant, negation, both, either, less, sum, difference}
use Rattle.kat_design.specs.Kinds.{kinds_of, value_kind, component_kinds}
use Rattle.kat_design.specs.Sorted.{AreMatched, EachHas, FitsCell, GivesKind, IsComponent, IsStart, Answers, HasKind}
use Rattle.kat_design.specs.declared.designs.Leaf.{Leaf}
use Rattle.kat_design.specs.declared.designs.Leaf.TheVariants as given
use Rattle.kat_design.specs.declared.kinds.Kind.{Kind}
use Rattle.kat_type.specs.declared.signatures.OpSig.{OpSig}
use Rattle.kat_rules.specs.Constants.{of_kind, place_of, value_at}
use Rattle.kat_decoding.specs.Decoded.{ReadParts, Grouped, cell_group, cell_groups, decoded, decoded_asks, decoded_parts, is_narrow, nothing_read, push_part, set_groups, start_values, table_group, table_groups, tallies_group, tallies_groups, tally_groups}
use Rattle.kat_rules.specs.Listed.{AreStarts, KeepsRules}
use Rattle.kat_rules.specs.Tokens.{ask_tokens, asks_tokens, cell_effect, component_tokens, components_tokens, constant_token, design_tokens, effect_tokens, effects_of, effects_tokens, head_tokens, set_effect, shape_tokens, start_token, starts_of, table_effect, tallies_effect, tally_effect}
use Rattle.kat_rules.specs.declared.constants.Constants.{Constants}
use Rattle.kat_rules.specs.declared.constants.Setting.{Setting}
use Rattle.kat_rules.specs.declared.tokens.Token.{Token}
use Rattle.kat_rules.specs.declared.tokens.Token.TheVariants as token
use Rattle.kat_design.specs.Sorted.HasKind.{read, given as given_argument, written, denied, and_of, or_of, numbers_less, names_less, sum_of, difference_of}
use Rattle.kat_design.specs.Sizes.{component_size, size_of}
use Rattle.std.proofs.lemmas.List.Sums.{sum_by-cons}
use Rattle.kat_type.specs.declared.signatures.QuerySig.{QuerySig}
use Rattle.kat_type.specs.declared.signatures.Signature.{Signature}
use Rattle.kat_rules.proofs.Lengths.{some_kinds, few_kinds, matched_long}
use Rattle.kat_rules.proofs.Values.{place_value}
use Rattle.kat_decoding.proofs.Decodes.{IsNarrow, asks_decoded, passed_components}

-- what was read of a component
abbrev begun : List ComponentForm → List CellForm → List ℕ → List Token → List Sort → ReadParts
begun components shapes starts parts keys = record { components = components; shapes = shapes; starts = starts; parts = parts; keys = keys }

-- asks are passed over
constant_passed : (cs : Constants) (v : Value) (b : ReadParts) → push_part cs (constant_token cs v) b ≡ b
constant_passed cs (value.Num z) b = refl
constant_passed cs (value.Name code) b = refl
constant_passed cs (value.Bool t) b = refl

two_passed : (cs : Constants) (a b : AskForm) (w : List Token) → ((v : List Token) → decoded_parts cs (ask_tokens cs a ++ v) ≡ decoded_parts cs v) → ((v : List Token) → decoded_parts cs (ask_tokens cs b ++ v) ≡ decoded_parts cs v)
    → decoded_parts cs ((ask_tokens cs a ++ ask_tokens cs b) ++ w) ≡ decoded_parts cs w
two_passed cs a b w p q = ap (decoded_parts cs) (append_assoc (ask_tokens cs a) (ask_tokens cs b) w) ∙ p (ask_tokens cs b ++ w) ∙ q w

ask_passed : (cs : Constants) (a : AskForm) (w : List Token) → decoded_parts cs (ask_tokens cs a ++ w) ≡ decoded_parts cs w
ask_passed cs (leaf component place key) w = refl
ask_passed cs (parameter place) w = refl
ask_passed cs (constant v) w = constant_passed cs v (decoded_parts cs w)
ask_passed cs (negation a) w = ask_passed cs a w
ask_passed cs (both a b) w = two_passed cs a b w (λ v. ask_passed cs a v) (λ v. ask_passed cs b v)
ask_passed cs (either a b) w = two_passed cs a b w (λ v. ask_passed cs a v) (λ v. ask_passed cs b v)
ask_passed cs (less a b) w = two_passed cs a b w (λ v. ask_passed cs a v) (λ v. ask_passed cs b v)
ask_passed cs (sum a b) w = two_passed cs a b w (λ v. ask_passed cs a v) (λ v. ask_passed cs b v)
ask_passed cs (difference a b) w = two_passed cs a b w (λ v. ask_passed cs a v) (λ v. ask_passed cs b v)

asks_passed : (cs : Constants) (asks : List AskForm) → decoded_parts cs (asks_tokens cs asks) ≡ nothing_read
asks_passed cs [] = refl
asks_passed cs (a ∷ asks) = ask_passed cs a (asks_tokens cs asks) ∙ asks_passed cs asks

-- the tokens of effects are kept
abbrev AreKept : Constants → List Token → Type 0
AreKept cs v = (w : List Token) (components : List ComponentForm) (parts : List Token) → decoded_parts cs w ≡ begun components [] [] parts [] → decoded_parts cs (v ++ w) ≡ begun components [] [] (v ++ parts) []

kept_both : (cs : Constants) (u v : List Token) → AreKept cs u → AreKept cs v → AreKept cs (u ++ v)
kept_both cs u v p q = λ w components parts e.
    ap (decoded_parts cs) (append_assoc u v w) ∙ p (v ++ w) components (v ++ parts) (q w components parts e) ∙ ap (λ (l : List Token). begun components [] [] l []) (sym (append_assoc u v parts))

kept_leaves : (cs : Constants) (leaves : List Leaf) → AreKept cs (map token.Effect leaves)
kept_leaves cs [] = λ w components parts e. e
kept_leaves cs (l ∷ leaves) = λ w components parts e. ap (push_part cs (token.Effect l)) (kept_leaves cs leaves w components parts e)

kept_nothing : (cs : Constants) → AreKept cs (token.Nothing ∷ [])
kept_nothing cs = λ w components parts e. ap (push_part cs token.Nothing) e

kept_effects : {A : Type 0} (cs : Constants) (g : A → Option (List Token)) → ((e : A) → AreKept cs (effect_tokens (g e))) → (es : List A) → AreKept cs (effects_tokens (map g es))
kept_effects cs g h [] = λ w components parts e. e
kept_effects cs g h (e ∷ es) = kept_both cs (effect_tokens (g e)) (effects_tokens (map g es)) (h e) (kept_effects cs g h es)

kept_cell : (cs : Constants) (e : Option (List Leaf)) → AreKept cs (effect_tokens (cell_effect e))
kept_cell cs None = kept_nothing cs
kept_cell cs (Some leaves) = kept_leaves cs leaves

kept_table : (cs : Constants) (e : Option (ℕ × List Leaf)) → AreKept cs (effect_tokens (table_effect e))
kept_table cs None = kept_nothing cs
kept_table cs (Some f) = λ w components parts e. ap (push_part cs (token.At f.0)) (kept_leaves cs f.1 w components parts e)

kept_set : (cs : Constants) (e : Option ℕ) → AreKept cs (effect_tokens (set_effect e))
kept_set cs None = kept_nothing cs
kept_set cs (Some place) = λ w components parts e. ap (push_part cs (token.Effect (given.Arg place))) e

kept_tally : (cs : Constants) (e : Option Leaf) → AreKept cs (effect_tokens (tally_effect e))
kept_tally cs None = kept_nothing cs
kept_tally cs (Some weight) = λ w components parts e. ap (push_part cs (token.Effect weight)) e

kept_tallies : (cs : Constants) (e : Option (ℕ × Leaf)) → AreKept cs (effect_tokens (tallies_effect e))
kept_tallies cs None = kept_nothing cs
kept_tallies cs (Some f) = λ w components parts e. ap (λ (b : ReadParts). push_part cs (token.At f.0) (push_part cs (token.Effect f.1) b)) e

kept_all : (cs : Constants) (c : ComponentForm) → AreKept cs (effects_tokens (effects_of c))
kept_all cs (a_cell shape starts effects) = kept_effects cs cell_effect (kept_cell cs) effects
kept_all cs (a_table key shape starts effects) = kept_effects cs table_effect (kept_table cs) effects
kept_all cs (a_set key effects) = kept_effects cs set_effect (kept_set cs) effects
kept_all cs (a_tally effects) = kept_effects cs tally_effect (kept_tally cs) effects
kept_all cs (tallies key effects) = kept_effects cs tallies_effect (kept_tallies cs) effects

-- starts and shapes
abbrev start_place : Constants → Value → ℕ
start_place cs v = place_of v (of_kind cs (value_kind v))

starts_kept : (cs : Constants) (vs : List Value) (w : List Token) (components : List ComponentForm) (parts : List Token) → decoded_parts cs w ≡ begun components [] [] parts []
    → decoded_parts cs (map (start_token cs) vs ++ w) ≡ begun components [] (map (start_place cs) vs) parts []
starts_kept cs [] w components parts e = e
starts_kept cs (v ∷ vs) w components parts e = ap (push_part cs (start_token cs v)) (starts_kept cs vs w components parts e)

shape_kept : (cs : Constants) (s : CellForm) (w : List Token) (components : List ComponentForm) (shapes : List CellForm) (starts : List ℕ) (parts : List Token)
    → decoded_parts cs w ≡ begun components shapes starts parts [] → decoded_parts cs (shape_tokens s ++ w) ≡ begun components (s ∷ shapes) starts parts []
shape_kept cs numbers w components shapes starts parts e = ap (push_part cs token.Max) e
shape_kept cs names w components shapes starts parts e = ap (push_part cs token.Name) e
shape_kept cs truths w components shapes starts parts e = ap (push_part cs token.Or) e
shape_kept cs (lex a b) w components shapes starts parts e =
    ap (push_part cs token.Lex)
    (ap (decoded_parts cs) (append_assoc (shape_tokens a) (shape_tokens b) w) ∙ shape_kept cs a (shape_tokens b ++ w) components (b ∷ shapes) starts parts (shape_kept cs b w components shapes starts parts e))
shape_kept cs (pair a b) w components shapes starts parts e =
    ap (push_part cs token.Pair)
    (ap (decoded_parts cs) (append_assoc (shape_tokens a) (shape_tokens b) w) ∙ shape_kept cs a (shape_tokens b ++ w) components (b ∷ shapes) starts parts (shape_kept cs b w components shapes starts parts e))

-- starts from their places
start_back : (cs : Constants) (v : Value) (k : Kind) → value_kind v ≡ k → IsOneOf v (of_kind cs (value_kind v)) → value_at (of_kind cs k) (start_place cs v) ≡ v
start_back cs v k is h = subst (λ (j : Kind). value_at (of_kind cs j) (start_place cs v) ≡ v) is (place_value v (of_kind cs (value_kind v)) h)

starts_back : (cs : Constants) (starts : List Value) (kinds : List Kind) → AreMatched IsStart starts kinds → EachHas (λ (v : Value). IsOneOf v (of_kind cs (value_kind v))) starts
    → start_values cs kinds (map (start_place cs) starts) ≡ starts
starts_back cs [] [] a h = refl
starts_back cs [] (k ∷ kinds) a h = absurd a
starts_back cs (v ∷ starts) [] a h = absurd a
starts_back cs (v ∷ starts) (k ∷ kinds) a h =
    ap (λ (u : Value). u ∷ start_values cs kinds (map (start_place cs) starts)) (start_back cs v k a.0.kind_is h.0) ∙ ap (λ (l : List Value). v ∷ l) (starts_back cs starts kinds a.1 h.1)

-- effects from their tokens
abbrev grouped : {A : Type 0} → List Leaf → List A → Grouped A
grouped leaves es = record { open_leaves = leaves; effects = es }

not_yet : (a n : ℕ) → a < n → a == n ≡ false
not_yet a n h = grind (arith, common_steps)

just : (a n : ℕ) → a ≡ n → a == n ≡ true
just a n h = grind (arith, common_steps)

open_cells : (n : ℕ) (v : List Leaf) (w : List Token) (es : List (Option (List Leaf))) → length v < n → cell_groups n w ≡ grouped [] es → cell_groups n (map token.Effect v ++ w) ≡ grouped v es
open_cells n [] w es h e = e
open_cells n (l ∷ v) w es h e =
    ap (cell_group n (token.Effect l)) (open_cells n v w es (omega (arith, h)) e) ∙ (let f = not_yet (length (l ∷ v)) n h in rw f refl)

closed_cells : (n : ℕ) (v : List Leaf) (w : List Token) (es : List (Option (List Leaf))) → 0 < n → length v ≡ n → cell_groups n w ≡ grouped [] es
    → cell_groups n (map token.Effect v ++ w) ≡ grouped [] (Some v ∷ es)
closed_cells n [] w es some h e = absurd (omega (arith, some, h))
closed_cells n (l ∷ v) w es some h e =
    ap (cell_group n (token.Effect l)) (open_cells n v w es (omega (arith, h)) e) ∙ (let f = just (length (l ∷ v)) n h in rw f refl)

cells_back : (kinds : List Kind) (es : List (Option (List Leaf))) (ops : List OpSig) → 0 < length kinds → AreMatched (FitsCell kinds) es ops
    → cell_groups (length kinds) (effects_tokens (map cell_effect es)) ≡ grouped [] es
cells_back kinds [] ops some h = refl
cells_back kinds (f ∷ es) [] some h = absurd h
cells_back kinds (None ∷ es) (op ∷ ops) some h = ap (cell_group (length kinds) token.Nothing) (cells_back kinds es ops some h.1)
cells_back kinds (Some leaves ∷ es) (op ∷ ops) some h =
    closed_cells (length kinds) leaves (effects_tokens (map cell_effect es)) es some (matched_long (GivesKind op.sorts) leaves kinds h.0) (cells_back kinds es ops some h.1)

open_tables : (v : List Leaf) (w : List Token) (es : List (Option (ℕ × List Leaf))) → table_groups w ≡ grouped [] es → table_groups (map token.Effect v ++ w) ≡ grouped v es
open_tables [] w es e = e
open_tables (l ∷ v) w es e = ap (table_group (token.Effect l)) (open_tables v w es e)

tables_back : (es : List (Option (ℕ × List Leaf))) → table_groups (effects_tokens (map table_effect es)) ≡ grouped [] es
tables_back [] = refl
tables_back (None ∷ es) = ap (table_group token.Nothing) (tables_back es)
tables_back (Some f ∷ es) = ap (table_group (token.At f.0)) (open_tables f.1 (effects_tokens (map table_effect es)) es (tables_back es))

sets_back : (es : List (Option ℕ)) → set_groups (effects_tokens (map set_effect es)) ≡ es
sets_back [] = refl
sets_back (None ∷ es) = ap (λ (l : List (Option ℕ)). None ∷ l) (sets_back es)
sets_back (Some place ∷ es) = ap (λ (l : List (Option ℕ)). Some place ∷ l) (sets_back es)

tally_back : (es : List (Option Leaf)) → tally_groups (effects_tokens (map tally_effect es)) ≡ es
tally_back [] = refl
tally_back (None ∷ es) = ap (λ (l : List (Option Leaf)). None ∷ l) (tally_back es)
tally_back (Some weight ∷ es) = ap (λ (l : List (Option Leaf)). Some weight ∷ l) (tally_back es)

tallies_back : (es : List (Option (ℕ × Leaf))) → tallies_groups (effects_tokens (map tallies_effect es)) ≡ grouped [] es
tallies_back [] = refl
tallies_back (None ∷ es) = ap (tallies_group token.Nothing) (tallies_back es)
tallies_back (Some f ∷ es) = ap (λ (g : Grouped (Option (ℕ × Leaf))). tallies_group (token.At f.0) (tallies_group (token.Effect f.1) g)) (tallies_back es)

-- a component is closed at its first token
abbrev clean : List ComponentForm → ReadParts
clean components = begun components [] [] [] []

effects_there : (cs : Constants) (c : ComponentForm) (w : List Token) (more : List ComponentForm) → decoded_parts cs w ≡ clean more
    → decoded_parts cs ((map (start_token cs) (starts_of c) ++ effects_tokens (effects_of c)) ++ w) ≡ begun more [] (map (start_place cs) (starts_of c)) (effects_tokens (effects_of c)) []
effects_there cs c w more e =
    ap (decoded_parts cs) (append_assoc (map (start_token cs) (starts_of c)) (effects_tokens (effects_of c)) w)
    ∙ starts_kept cs (starts_of c) (effects_tokens (effects_of c) ++ w) more (effects_tokens (effects_of c))
    (kept_all cs c w more [] e ∙ ap (λ (l : List Token). begun more [] [] l []) (append-nil (effects_tokens (effects_of c))))

head_closes : (cs : Constants) (ops : List OpSig) (c : ComponentForm) (u : List Token) (more : List ComponentForm) → IsComponent ops c → AreStarts cs c
    → decoded_parts cs u ≡ begun more [] (map (start_place cs) (starts_of c)) (effects_tokens (effects_of c)) [] → decoded_parts cs (head_tokens c ++ u) ≡ clean (c ∷ more)
head_closes cs ops (a_cell shape starts effects) u more h s e =
    ap (push_part cs token.Cell) (shape_kept cs shape u more [] (map (start_place cs) starts) (effects_tokens (map cell_effect effects)) e)
    ∙ ap (λ (v : List Value). clean (a_cell shape v (cell_groups (length (kinds_of shape)) (effects_tokens (map cell_effect effects))).effects ∷ more)) (starts_back cs starts (kinds_of shape) h.1 s)
    ∙ ap (λ (g : Grouped (Option (List Leaf))). clean (a_cell shape starts g.effects ∷ more)) (cells_back (kinds_of shape) effects ops (some_kinds shape) h.2)
head_closes cs ops (a_table key shape starts effects) u more h s e =
    ap (λ (b : ReadParts). push_part cs token.Table (push_part cs (token.Keys key) b)) (shape_kept cs shape u more [] (map (start_place cs) starts) (effects_tokens (map table_effect effects)) e)
    ∙ ap (λ (v : List Value). clean (a_table key shape v (table_groups (effects_tokens (map table_effect effects))).effects ∷ more)) (starts_back cs starts (kinds_of shape) h.2 s)
    ∙ ap (λ (g : Grouped (Option (ℕ × List Leaf))). clean (a_table key shape starts g.effects ∷ more)) (tables_back effects)
head_closes cs ops (a_set key effects) u more h s e =
    ap (λ (b : ReadParts). push_part cs token.Set (push_part cs (token.Keys key) b)) e ∙ ap (λ (es : List (Option ℕ)). clean (a_set key es ∷ more)) (sets_back effects)
head_closes cs ops (a_tally effects) u more h s e = ap (push_part cs token.Tally) e ∙ ap (λ (es : List (Option Leaf)). clean (a_tally es ∷ more)) (tally_back effects)
head_closes cs ops (tallies key effects) u more h s e =
    ap (λ (b : ReadParts). push_part cs token.Tallies (push_part cs (token.Keys key) b)) e ∙ ap (λ (g : Grouped (Option (ℕ × Leaf))). clean (tallies key g.effects ∷ more)) (tallies_back effects)

component_back : (cs : Constants) (ops : List OpSig) (c : ComponentForm) (w : List Token) (more : List ComponentForm) → IsComponent ops c → AreStarts cs c → decoded_parts cs w ≡ clean more
    → decoded_parts cs (component_tokens cs c ++ w) ≡ clean (c ∷ more)
component_back cs ops c w more h s e =
    ap (decoded_parts cs) (append_assoc (head_tokens c) (map (start_token cs) (starts_of c) ++ effects_tokens (effects_of c)) w)
    ∙ head_closes cs ops c ((map (start_token cs) (starts_of c) ++ effects_tokens (effects_of c)) ++ w) more h s (effects_there cs c w more e)

components_back : (cs : Constants) (ops : List OpSig) (components : List ComponentForm) (w : List Token) → EachHas (IsComponent ops) components → EachHas (AreStarts cs) components
    → decoded_parts cs w ≡ clean [] → decoded_parts cs (components_tokens cs components ++ w) ≡ clean components
components_back cs ops [] w h s e = e
components_back cs ops (c ∷ more) w h s e =
    ap (decoded_parts cs) (append_assoc (component_tokens cs c) (components_tokens cs more) w)
    ∙ component_back cs ops c (components_tokens cs more ++ w) more h.0 s.0 (components_back cs ops more w h.1 s.1 e)

-- numbers of components and leaves are small in a small design
narrow : (n most : ℕ) → n ≤ most → most < 2 ^ 32 → is_narrow n ≡ true
narrow n most h k = less_true n (2 ^ 32) (omega (arith, h, k))
  where
    less_true : (a b : ℕ) → a < b → nat_lt a b ≡ true
    less_true a b h = grind (arith, common_steps)

some_size : (c : ComponentForm) → (1 ≤ component_size c) × (length (component_kinds c) ≤ component_size c)
some_size (a_cell shape starts effects) = let k = few_kinds shape in let s = some_kinds shape in (omega (arith, k, s), omega (arith, k))
some_size (a_table key shape starts effects) = let k = few_kinds shape in (omega arith, omega (arith, k))
some_size (a_set key effects) = (omega arith, omega arith)
some_size (a_tally effects) = (omega arith, omega arith)
some_size (tallies key effects) = (omega arith, omega arith)

inside_sizes : (components : List ComponentForm) (p : ℕ) (c : ComponentForm) → slice_get components p ≡ Some c → (component_size c ≤ sum_by component_size components) × (p < sum_by component_size components)
inside_sizes [] p c e = absurd cc
inside_sizes (d ∷ components) zero c e =
    let same : d ≡ c = cc in
    let is = ap component_size same in
    let z = some_size d in
    (omega (arith, is, sum_by-cons component_size d components), omega (arith, z.0, sum_by-cons component_size d components))
inside_sizes (d ∷ components) (suc p) c e =
    let more = inside_sizes components p c e in
    let z = some_size d in
    (omega (arith, more.0, sum_by-cons component_size d components), omega (arith, more.1, z.0, sum_by-cons component_size d components))

narrow_ask : (components : List ComponentForm) (sorts : List Sort) (a : AskForm) (k : Kind) → sum_by component_size components < 2 ^ 32 → HasKind components sorts a k → IsNarrow a
narrow_ask components sorts a k most (read p n key c j e there fits) =
    let i = inside_sizes components p c e in
    let l = slice_get_within (component_kinds c) n j there in
    let z = some_size c in
    (narrow p (sum_by component_size components) (omega (arith, i.1)) most, narrow n (sum_by component_size components) (omega (arith, l, z.1, i.0)) most)
narrow_ask components sorts a k most (given_argument p s e) = tt
narrow_ask components sorts a k most (written v is) = tt
narrow_ask components sorts _ k most (denied {a = a} p) = narrow_ask components sorts a _ most p
narrow_ask components sorts _ k most (and_of {a = a} {b = b} p q) = (narrow_ask components sorts a _ most p, narrow_ask components sorts b _ most q)
narrow_ask components sorts _ k most (or_of {a = a} {b = b} p q) = (narrow_ask components sorts a _ most p, narrow_ask components sorts b _ most q)
narrow_ask components sorts _ k most (numbers_less {a = a} {b = b} p q) = (narrow_ask components sorts a _ most p, narrow_ask components sorts b _ most q)
narrow_ask components sorts _ k most (names_less {a = a} {b = b} p q) = (narrow_ask components sorts a _ most p, narrow_ask components sorts b _ most q)
narrow_ask components sorts _ k most (sum_of {a = a} {b = b} p q) = (narrow_ask components sorts a _ most p, narrow_ask components sorts b _ most q)
narrow_ask components sorts _ k most (difference_of {a = a} {b = b} p q) = (narrow_ask components sorts a _ most p, narrow_ask components sorts b _ most q)

narrow_asks : (components : List ComponentForm) (asks : List AskForm) (queries : List QuerySig) → sum_by component_size components < 2 ^ 32 → AreMatched (Answers components) asks queries → EachHas IsNarrow asks
narrow_asks components [] queries most h = tt
narrow_asks components (a ∷ asks) [] most h = absurd h
narrow_asks components (a ∷ asks) (query ∷ queries) most h = (narrow_ask components query.sorts a _ most h.0, narrow_asks components asks queries most h.1)

-- the design that a design's tokens stand for is that design
pub design_back : (x : Setting) (d : DesignForm) → KeepsRules x d → size_of d < 2 ^ 32 → decoded x (design_tokens x.constants d) ≡ d
design_back x d h most =
    let cs = x.constants in
    let parts = components_back cs x.sig.ops d.components (token.End ∷ asks_tokens cs d.asks) h.components h.starts (asks_passed cs d.asks) in
    let asks = passed_components cs d.components (token.End ∷ asks_tokens cs d.asks) ∙ asks_decoded cs d.asks h.constants (narrow_asks d.components d.asks x.sig.queries (omega (arith, most)) h.asks) in
    made x.sig (decoded_parts cs (design_tokens cs d)).components (decoded_asks cs (design_tokens cs d)) d (sym h.signature) (ap (λ (b : ReadParts). b.components) parts) asks
  where
    made : (sig : Signature) (components : List ComponentForm) (asks : List AskForm) (d : DesignForm) → sig ≡ d.sig → components ≡ d.components → asks ≡ d.asks → (record { sig = sig; components = components; asks = asks }) ≡ d
    made sig components asks d a b c = rw (a, b, c) refl
