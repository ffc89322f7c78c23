-- Each component of a listed design has a leaf that has an effect and is read, so that leaving others throws none away.
use Rattle.std.proofs.Common.{◌≡◌, ℕ, zero, suc, inl, inr, Bool, true, false, ◌&&◌, ◌||◌, List, [], ◌∷◌, ◌++◌, map, refl, sym, ◌∙◌, ap, subst, arith, Option, None, Some}
use Rattle.std.specs.Prelude.{slice_get}
use Rattle.std.proofs.lemmas.Option.{slice_get_within}
use Rattle.kat_num.specs.declared.values.Sort.{Sort}
use Rattle.kat_num.specs.declared.values.Sort.TheVariants as sort
use Rattle.kat_num.specs.declared.values.Value.{Value}
use Rattle.kat_num.specs.declared.values.Value.TheVariants as value
use Rattle.kat_shape.specs.Forms.{CellForm, lex, names, numbers, pair, truths}
use Rattle.kat_walk.specs.Machines.{IsOneOf}
use Rattle.kat_walk.specs.Pruning.{total}
use Rattle.kat_walk.proofs.Pruned.{total_append}
use Rattle.kat_type.specs.declared.signatures.OpSig.{OpSig}
use Rattle.kat_type.specs.declared.signatures.QuerySig.{QuerySig}
use Rattle.kat_design.specs.Designs.{AskForm, ComponentForm, DesignForm}
use Rattle.kat_design.specs.Designs.ComponentForm.{a_cell, a_table, a_set, a_tally, tallies}
use Rattle.kat_design.specs.Designs.AskForm.{leaf, parameter, constant, negation, both, either, less, sum, difference}
use Rattle.kat_design.specs.Faults.{is_sort}
use Rattle.kat_design.specs.Kinds.{component_kinds, key_sort, kinds_of, sort_kind}
use Rattle.kat_design.specs.Sorted.{AreMatched, Answers, EachHas, FitsCell, FitsKey, FitsSet, FitsTable, FitsTallies, FitsTally, GivesKind, HasKind, IsComponent, IsParameter}
use Rattle.kat_design.specs.Sorted.GivesKind.{argument, time, replica, zero_leaf, one, above, below, false_leaf, true_leaf}
use Rattle.kat_design.specs.Sorted.HasKind.{read, given, written, denied, and_of, or_of, numbers_less, names_less, sum_of, difference_of}
use Rattle.kat_design.specs.declared.designs.Leaf.{Leaf}
use Rattle.kat_design.specs.declared.kinds.Kind.{Kind}
use Rattle.kat_design.specs.declared.kinds.Kind.TheVariants as kind
use Rattle.kat_design.proofs.Converse.{sort_itself}
use Rattle.kat_rules.specs.Listed.{HasEffect, HasSome, KeepsRules, Reads, SomeReads}
use Rattle.kat_machine.specs.Usable.{has_usable_leaf, is_usable_leaf, gives_some, has_key, has_parameter, reaches, may_be_used, some_op, some_query}
use Rattle.kat_rules.specs.Tokens.{ask_tokens, asks_tokens, cell_effect, component_tokens, components_tokens, constant_token, design_tokens, effect_tokens, effects_of, effects_tokens, head_tokens, set_effect, shape_tokens, start_token, starts_of, table_effect, tallies_effect, tally_effect}
use Rattle.kat_rules.specs.declared.constants.Constants.{Constants}
use Rattle.kat_rules.specs.declared.constants.Setting.{Setting}
use Rattle.kat_rules.specs.declared.tokens.Token.{Token}
use Rattle.kat_rules.specs.declared.tokens.Token.TheVariants as token

first_true : (a b : Bool) → a ≡ true → a || b ≡ true
first_true true b h = refl
first_true false b h = absurd cc

pub second_true : (a b : Bool) → b ≡ true → a || b ≡ true
second_true true b h = refl
second_true false b h = h

both_true : (a b : Bool) → a ≡ true → b ≡ true → a && b ≡ true
both_true true b h k = k
both_true false b h k = absurd cc

at_place : {A : Type 0} (xs : List A) (i : ℕ) (a : A) → slice_get xs i ≡ Some a → IsOneOf a xs
at_place [] i a h = absurd (none i h)
  where
    none : {A : Type 0} {a : A} (i : ℕ) → slice_get {X = A} [] i ≡ Some a → ⊥
    none zero h = cc
    none (suc i) h = cc
at_place (x ∷ xs) zero a h = inl cc
at_place (x ∷ xs) (suc i) a h = inr (at_place xs i a h)

each_there : {A : Type 0} (Has : A → Type 0) (xs : List A) (i : ℕ) (a : A) → EachHas Has xs → slice_get xs i ≡ Some a → Has a
each_there Has [] i a h e = absurd (at_place [] i a e)
each_there Has (x ∷ xs) zero a h e = let f : x ≡ a = cc in subst Has f h.0
each_there Has (x ∷ xs) (suc i) a h e = each_there Has xs i a h.1 e

-- parameters
parameter_there : (sorts : List Sort) (p : ℕ) (s : Sort) → slice_get sorts p ≡ Some s → has_parameter s sorts ≡ true
parameter_there [] p s h = absurd (at_place [] p s h)
parameter_there (t ∷ sorts) zero s h =
    let e : t ≡ s = cc in
    first_true (is_sort s t) (has_parameter s sorts) (ap (is_sort s) e ∙ sort_itself s)
parameter_there (t ∷ sorts) (suc p) s h = second_true (is_sort s t) (has_parameter s sorts) (parameter_there sorts p s h)

key_there : (sorts : List Sort) (key : Option Sort) (place : Option ℕ) → FitsKey sorts key place → has_key key sorts ≡ true
key_there sorts None None h = refl
key_there sorts None (Some p) h = absurd h
key_there sorts (Some s) None h = absurd h
key_there sorts (Some s) (Some p) h = parameter_there sorts p s h

-- what an ask reads
reaches_itself : (k : Kind) → reaches k k ≡ true
reaches_itself kind.Number = refl
reaches_itself kind.Name = refl
reaches_itself kind.Truth = refl

record IsReached (c : ComponentForm) (sorts : List Sort) (result : Kind) : Type 0 where
  leaf_kind : Kind
  there : IsOneOf leaf_kind (component_kinds c)
  keyed : has_key (key_sort c) sorts ≡ true
  reached : reaches result leaf_kind ≡ true

-- a truth value comes of all kinds
in_truth : {c : ComponentForm} {sorts : List Sort} {k : Kind} → IsReached c sorts k → IsReached c sorts kind.Truth
in_truth h = record { leaf_kind = h.leaf_kind; there = h.there; keyed = h.keyed; reached = refl }

one_component : (components : List ComponentForm) (i j : ℕ) (c d : ComponentForm) → i ≡ j → slice_get components i ≡ Some c → slice_get components j ≡ Some d → d ≡ c
one_component components i j c d e f g = cc

ask_reaches : (components : List ComponentForm) (sorts : List Sort) (i : ℕ) (c : ComponentForm) (a : AskForm) (k : Kind) → slice_get components i ≡ Some c → HasKind components sorts a k → Reads i a → IsReached c sorts k
ask_reaches components sorts i c a k e (read place n key d j f g fits) r =
    subst (λ (b : ComponentForm). IsReached b sorts j) (one_component components i place c d r e f)
    (record { leaf_kind = j; there = at_place (component_kinds d) n j g; keyed = key_there sorts (key_sort d) key fits; reached = reaches_itself j })
ask_reaches components sorts i c a k e (given p s h) r = absurd r
ask_reaches components sorts i c a k e (written v h) r = absurd r
ask_reaches components sorts i c _ k e (denied {a = a} h) r = ask_reaches components sorts i c a kind.Truth e h r
ask_reaches components sorts i c _ k e (and_of {a = a} {b = b} h g) (inl r) = ask_reaches components sorts i c a kind.Truth e h r
ask_reaches components sorts i c _ k e (and_of {a = a} {b = b} h g) (inr r) = ask_reaches components sorts i c b kind.Truth e g r
ask_reaches components sorts i c _ k e (or_of {a = a} {b = b} h g) (inl r) = ask_reaches components sorts i c a kind.Truth e h r
ask_reaches components sorts i c _ k e (or_of {a = a} {b = b} h g) (inr r) = ask_reaches components sorts i c b kind.Truth e g r
ask_reaches components sorts i c _ k e (numbers_less {a = a} {b = b} h g) (inl r) = in_truth (ask_reaches components sorts i c a kind.Number e h r)
ask_reaches components sorts i c _ k e (numbers_less {a = a} {b = b} h g) (inr r) = in_truth (ask_reaches components sorts i c b kind.Number e g r)
ask_reaches components sorts i c _ k e (names_less {a = a} {b = b} h g) (inl r) = in_truth (ask_reaches components sorts i c a kind.Name e h r)
ask_reaches components sorts i c _ k e (names_less {a = a} {b = b} h g) (inr r) = in_truth (ask_reaches components sorts i c b kind.Name e g r)
ask_reaches components sorts i c _ k e (sum_of {a = a} {b = b} h g) (inl r) = ask_reaches components sorts i c a kind.Number e h r
ask_reaches components sorts i c _ k e (sum_of {a = a} {b = b} h g) (inr r) = ask_reaches components sorts i c b kind.Number e g r
ask_reaches components sorts i c _ k e (difference_of {a = a} {b = b} h g) (inl r) = ask_reaches components sorts i c a kind.Number e h r
ask_reaches components sorts i c _ k e (difference_of {a = a} {b = b} h g) (inr r) = ask_reaches components sorts i c b kind.Number e g r

record IsAsked (queries : List QuerySig) (c : ComponentForm) : Type 0 where
  leaf_kind : Kind
  there : IsOneOf leaf_kind (component_kinds c)
  asked : some_query queries (key_sort c) leaf_kind ≡ true

all_asked : (components : List ComponentForm) (i : ℕ) (c : ComponentForm) (asks : List AskForm) (queries : List QuerySig) → slice_get components i ≡ Some c
    → AreMatched (Answers components) asks queries → SomeReads i asks → IsAsked queries c
all_asked components i c [] queries e m r = absurd r
all_asked components i c (a ∷ asks) [] e m r = absurd m
all_asked components i c (a ∷ asks) (q ∷ queries) e m (inl r) =
    let h = ask_reaches components q.sorts i c a (sort_kind q.sort) e m.0 r in
    record {
      leaf_kind = h.leaf_kind;
      there = h.there;
      asked =
          first_true (has_key (key_sort c) q.sorts && reaches (sort_kind q.sort) h.leaf_kind) (some_query queries (key_sort c) h.leaf_kind)
          (both_true (has_key (key_sort c) q.sorts) (reaches (sort_kind q.sort) h.leaf_kind) h.keyed h.reached);
    }
all_asked components i c (a ∷ asks) (q ∷ queries) e m (inr r) =
    let h = all_asked components i c asks queries e m.1 r in
    record {
      leaf_kind = h.leaf_kind;
      there = h.there;
      asked = second_true (has_key (key_sort c) q.sorts && reaches (sort_kind q.sort) h.leaf_kind) (some_query queries (key_sort c) h.leaf_kind) h.asked;
    }

-- what an operation gives
sort_gives : (sorts : List Sort) (p : ℕ) (s : Sort) → IsParameter sorts p s → gives_some sorts (sort_kind s) ≡ true
sort_gives sorts p sort.Int h = refl
sort_gives sorts p sort.Nat h = refl
sort_gives sorts p sort.Bool h = refl
sort_gives sorts p sort.Name h = parameter_there sorts p sort.Name h

leaf_gives : (sorts : List Sort) (l : Leaf) (k : Kind) → GivesKind sorts l k → gives_some sorts k ≡ true
leaf_gives sorts l k (argument p s h) = sort_gives sorts p s h
leaf_gives sorts l k time = refl
leaf_gives sorts l k replica = refl
leaf_gives sorts l k zero_leaf = refl
leaf_gives sorts l k one = refl
leaf_gives sorts l k (above p h) = refl
leaf_gives sorts l k (below p h) = refl
leaf_gives sorts l k false_leaf = refl
leaf_gives sorts l k true_leaf = refl

leaves_give : (sorts : List Sort) (leaves : List Leaf) (kinds : List Kind) (k : Kind) → AreMatched (GivesKind sorts) leaves kinds → IsOneOf k kinds → gives_some sorts k ≡ true
leaves_give sorts [] [] k m o = absurd o
leaves_give sorts [] (j ∷ kinds) k m o = absurd m
leaves_give sorts (l ∷ leaves) [] k m o = absurd m
leaves_give sorts (l ∷ leaves) (j ∷ kinds) k m (inl e) = ap (gives_some sorts) e ∙ leaf_gives sorts l j m.0
leaves_give sorts (l ∷ leaves) (j ∷ kinds) k m (inr o) = leaves_give sorts leaves kinds k m.1 o

-- some operation has an effect, so some operation gives a leaf something
given_by : {E : Type 0} (Fits : Option E → OpSig → Type 0) (tokens : Option E → Option (List Token)) (key : Option Sort) (k : Kind)
    → (tokens None ≡ None) → ((e : E) (o : OpSig) → Fits (Some e) o → has_key key o.sorts && gives_some o.sorts k ≡ true)
    → (effects : List (Option E)) (ops : List OpSig) → AreMatched Fits effects ops → HasSome (map tokens effects) → some_op ops key k ≡ true
given_by Fits tokens key k n f [] ops m h = absurd h
given_by Fits tokens key k n f (e ∷ effects) [] m h = absurd m
given_by Fits tokens key k n f (Some e ∷ effects) (o ∷ ops) m h = first_true (has_key key o.sorts && gives_some o.sorts k) (some_op ops key k) (f e o m.0)
given_by Fits tokens key k n f (None ∷ effects) (o ∷ ops) m h =
    second_true (has_key key o.sorts && gives_some o.sorts k) (some_op ops key k)
    (given_by Fits tokens key k n f effects ops m.1 (subst (λ (t : Option (List Token)). HasSome (t ∷ map tokens effects)) n h))

op_there : (ops : List OpSig) (c : ComponentForm) (k : Kind) → IsComponent ops c → HasEffect c → IsOneOf k (component_kinds c) → some_op ops (key_sort c) k ≡ true
op_there ops (a_cell shape starts effects) k fits some o =
    given_by (FitsCell (kinds_of shape)) cell_effect None k refl (λ leaves op m. leaves_give op.sorts leaves (kinds_of shape) k m o) effects ops fits.2 some
op_there ops (a_table key shape starts effects) k fits some o =
    given_by (FitsTable key (kinds_of shape)) table_effect (Some key) k refl
    (λ e op m. both_true (has_parameter key op.sorts) (gives_some op.sorts k) (parameter_there op.sorts e.0 key m.0) (leaves_give op.sorts e.1 (kinds_of shape) k m.1 o)) effects ops fits.3 some
op_there ops (a_set key effects) k fits some (inl e) =
    subst (λ (j : Kind). some_op ops (Some key) j ≡ true) (sym e)
    (given_by (FitsSet key) set_effect (Some key) kind.Truth refl (λ p op m. both_true (has_parameter key op.sorts) true (parameter_there op.sorts p key m) refl) effects ops fits.1 some)
op_there ops (a_set key effects) k fits some (inr o) = absurd o
op_there ops (a_tally effects) k fits some (inl e) =
    subst (λ (j : Kind). some_op ops None j ≡ true) (sym e) (given_by FitsTally tally_effect None kind.Number refl (λ l op m. refl) effects ops fits some)
op_there ops (a_tally effects) k fits some (inr o) = absurd o
op_there ops (tallies key effects) k fits some (inl e) =
    subst (λ (j : Kind). some_op ops (Some key) j ≡ true) (sym e)
    (given_by (FitsTallies key) tallies_effect (Some key) kind.Number refl (λ f op m. both_true (has_parameter key op.sorts) true (parameter_there op.sorts f.0 key m.0) refl) effects ops fits.1 some)
op_there ops (tallies key effects) k fits some (inr o) = absurd o

-- a token at which no component can be used is missed
abbrev pub misses : Bool → ℕ
misses true = 0
misses false = 1

abbrev pub unusable : Setting → Token → ℕ
unusable x t = misses (may_be_used x t)

none_missed : (b : Bool) → b ≡ true → misses b ≡ 0
none_missed true h = refl
none_missed false h = absurd cc

pub used_then : (b : Bool) → misses b ≡ 0 → b ≡ true
used_then true h = refl
used_then false h = absurd (omega (arith, h))

used : (x : Setting) (key : Option Sort) (k : Kind) → is_usable_leaf x key k ≡ true → has_usable_leaf x key ≡ true
used x key kind.Number h = first_true (is_usable_leaf x key kind.Number) (is_usable_leaf x key kind.Name || is_usable_leaf x key kind.Truth) h
used x key kind.Name h =
    second_true (is_usable_leaf x key kind.Number) (is_usable_leaf x key kind.Name || is_usable_leaf x key kind.Truth) (first_true (is_usable_leaf x key kind.Name) (is_usable_leaf x key kind.Truth) h)
used x key kind.Truth h =
    second_true (is_usable_leaf x key kind.Number) (is_usable_leaf x key kind.Name || is_usable_leaf x key kind.Truth) (second_true (is_usable_leaf x key kind.Name) (is_usable_leaf x key kind.Truth) h)

shape_missed : (x : Setting) (s : CellForm) → total (unusable x) (shape_tokens s) ≡ 0
shape_missed x numbers = refl
shape_missed x names = refl
shape_missed x truths = refl
shape_missed x (lex a b) = omega (arith, total_append (unusable x) (shape_tokens a) (shape_tokens b), shape_missed x a, shape_missed x b)
shape_missed x (pair a b) = omega (arith, total_append (unusable x) (shape_tokens a) (shape_tokens b), shape_missed x a, shape_missed x b)

head_missed : (x : Setting) (c : ComponentForm) (k : Kind) → IsOneOf k (component_kinds c) → is_usable_leaf x (key_sort c) k ≡ true → total (unusable x) (head_tokens c) ≡ 0
head_missed x (a_cell shape starts effects) k o h = omega (arith, none_missed (has_usable_leaf x None) (used x None k h), shape_missed x shape)
head_missed x (a_table key shape starts effects) k o h = omega (arith, none_missed (has_usable_leaf x (Some key)) (used x (Some key) k h), shape_missed x shape)
head_missed x (a_set key effects) k o h = omega (arith, none_missed (has_usable_leaf x (Some key)) (used x (Some key) k h))
head_missed x (a_tally effects) k (inl e) h = omega (arith, none_missed (is_usable_leaf x None kind.Number) (ap (is_usable_leaf x None) (sym e) ∙ h))
head_missed x (a_tally effects) k (inr o) h = absurd o
head_missed x (tallies key effects) k o h = omega (arith, none_missed (has_usable_leaf x (Some key)) (used x (Some key) k h))

starts_missed : (x : Setting) (cs : Constants) (vs : List Value) → total (unusable x) (map (start_token cs) vs) ≡ 0
starts_missed x cs [] = refl
starts_missed x cs (v ∷ vs) = omega (arith, starts_missed x cs vs)

leaves_missed : (x : Setting) (leaves : List Leaf) → total (unusable x) (map token.Effect leaves) ≡ 0
leaves_missed x [] = refl
leaves_missed x (l ∷ leaves) = omega (arith, leaves_missed x leaves)

effects_missed : {A : Type 0} (x : Setting) (g : A → Option (List Token)) → ((e : A) → total (unusable x) (effect_tokens (g e)) ≡ 0) → (es : List A) → total (unusable x) (effects_tokens (map g es)) ≡ 0
effects_missed x g h [] = refl
effects_missed x g h (e ∷ es) = omega (arith, total_append (unusable x) (effect_tokens (g e)) (effects_tokens (map g es)), h e, effects_missed x g h es)

cell_missed : (x : Setting) (e : Option (List Leaf)) → total (unusable x) (effect_tokens (cell_effect e)) ≡ 0
cell_missed x None = refl
cell_missed x (Some leaves) = leaves_missed x leaves

table_missed : (x : Setting) (e : Option (ℕ × List Leaf)) → total (unusable x) (effect_tokens (table_effect e)) ≡ 0
table_missed x None = refl
table_missed x (Some e) = omega (arith, leaves_missed x e.1)

set_missed : (x : Setting) (e : Option ℕ) → total (unusable x) (effect_tokens (set_effect e)) ≡ 0
set_missed x None = refl
set_missed x (Some p) = refl

tally_missed : (x : Setting) (e : Option Leaf) → total (unusable x) (effect_tokens (tally_effect e)) ≡ 0
tally_missed x None = refl
tally_missed x (Some l) = refl

tallies_missed : (x : Setting) (e : Option (ℕ × Leaf)) → total (unusable x) (effect_tokens (tallies_effect e)) ≡ 0
tallies_missed x None = refl
tallies_missed x (Some e) = refl

all_missed : (x : Setting) (c : ComponentForm) → total (unusable x) (effects_tokens (effects_of c)) ≡ 0
all_missed x (a_cell shape starts effects) = effects_missed x cell_effect (cell_missed x) effects
all_missed x (a_table key shape starts effects) = effects_missed x table_effect (table_missed x) effects
all_missed x (a_set key effects) = effects_missed x set_effect (set_missed x) effects
all_missed x (a_tally effects) = effects_missed x tally_effect (tally_missed x) effects
all_missed x (tallies key effects) = effects_missed x tallies_effect (tallies_missed x) effects

component_missed : (x : Setting) (cs : Constants) (c : ComponentForm) (k : Kind) → IsOneOf k (component_kinds c) → is_usable_leaf x (key_sort c) k ≡ true → total (unusable x) (component_tokens cs c) ≡ 0
component_missed x cs c k o h =
    omega (
      arith,
      total_append (unusable x) (head_tokens c) (map (start_token cs) (starts_of c) ++ effects_tokens (effects_of c)),
      total_append (unusable x) (map (start_token cs) (starts_of c)) (effects_tokens (effects_of c)),
      head_missed x c k o h,
      starts_missed x cs (starts_of c),
      all_missed x c,
    )

components_missed : (x : Setting) (cs : Constants) (components : List ComponentForm)
    → ((i : ℕ) (c : ComponentForm) → slice_get components i ≡ Some c → total (unusable x) (component_tokens cs c) ≡ 0) → total (unusable x) (components_tokens cs components) ≡ 0
components_missed x cs [] h = refl
components_missed x cs (c ∷ more) h =
    omega (arith, total_append (unusable x) (component_tokens cs c) (components_tokens cs more), h zero c refl, components_missed x cs more (λ i d e. h (suc i) d e))

constant_missed : (x : Setting) (cs : Constants) (v : Value) → unusable x (constant_token cs v) ≡ 0
constant_missed x cs (value.Num z) = refl
constant_missed x cs (value.Name code) = refl
constant_missed x cs (value.Bool b) = refl

ask_missed : (x : Setting) (cs : Constants) (a : AskForm) → total (unusable x) (ask_tokens cs a) ≡ 0
ask_missed x cs (leaf component place key) = refl
ask_missed x cs (parameter place) = refl
ask_missed x cs (constant v) = omega (arith, constant_missed x cs v)
ask_missed x cs (negation a) = omega (arith, ask_missed x cs a)
ask_missed x cs (both a b) = omega (arith, total_append (unusable x) (ask_tokens cs a) (ask_tokens cs b), ask_missed x cs a, ask_missed x cs b)
ask_missed x cs (either a b) = omega (arith, total_append (unusable x) (ask_tokens cs a) (ask_tokens cs b), ask_missed x cs a, ask_missed x cs b)
ask_missed x cs (less a b) = omega (arith, total_append (unusable x) (ask_tokens cs a) (ask_tokens cs b), ask_missed x cs a, ask_missed x cs b)
ask_missed x cs (sum a b) = omega (arith, total_append (unusable x) (ask_tokens cs a) (ask_tokens cs b), ask_missed x cs a, ask_missed x cs b)
ask_missed x cs (difference a b) = omega (arith, total_append (unusable x) (ask_tokens cs a) (ask_tokens cs b), ask_missed x cs a, ask_missed x cs b)

asks_missed : (x : Setting) (cs : Constants) (asks : List AskForm) → total (unusable x) (asks_tokens cs asks) ≡ 0
asks_missed x cs [] = refl
asks_missed x cs (a ∷ asks) = omega (arith, total_append (unusable x) (ask_tokens cs a) (asks_tokens cs asks), ask_missed x cs a, asks_missed x cs asks)

pub all_usable : (x : Setting) (d : DesignForm) → KeepsRules x d → total (unusable x) (design_tokens x.constants d) ≡ 0
all_usable x d rules =
    omega (
      arith,
      total_append (unusable x) (components_tokens x.constants d.components) (token.End ∷ asks_tokens x.constants d.asks),
      asks_missed x x.constants d.asks,
      components_missed x x.constants d.components (λ i c e.
          let l = slice_get_within d.components i c e in
          let a = all_asked d.components i c d.asks x.sig.queries e rules.asks (rules.reads i l) in
          let fits = each_there (IsComponent x.sig.ops) d.components i c rules.components e in
          let some = each_there HasEffect d.components i c rules.effects e in
          component_missed x x.constants c a.leaf_kind a.there
          (both_true (some_query x.sig.queries (key_sort c) a.leaf_kind) (some_op x.sig.ops (key_sort c) a.leaf_kind) a.asked (op_there x.sig.ops c a.leaf_kind fits some a.there))),
    )
