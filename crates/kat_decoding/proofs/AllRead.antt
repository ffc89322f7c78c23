-- Each component of a listed design is read, so that leaving what can't be read throws none away.
use Rattle.std.proofs.Common.{◌≡◌, ℕ, zero, suc, ◌+◌, ◌<◌, ◌≤◌, ◌⊎◌, inl, inr, Bool, true, false, List, [], ◌∷◌, ◌++◌, map, length, refl, sym, ◌∙◌, ap, subst, arith, Option, None, Some, if◌then◌else◌}
use Rattle.std.specs.Prelude.{nat_lt, slice_get, slice_set}
use Rattle.std.proofs.lemmas.Grind.{common_steps}
use Rattle.std.proofs.lemmas.List.{length-append}
use Rattle.kat_num.specs.declared.values.Value.{Value}
use Rattle.kat_num.specs.declared.values.Value.TheVariants as value
use Rattle.kat_shape.specs.Forms.{CellForm, lex, names, numbers, pair, truths}
use Rattle.kat_walk.specs.Pruning.{total}
use Rattle.kat_walk.proofs.Pruned.{total_append}
use Rattle.kat_design.specs.Designs.{AskForm, ComponentForm, DesignForm}
use Rattle.kat_design.specs.Designs.ComponentForm.{a_cell, a_table, a_set, a_tally, tallies}
use Rattle.kat_design.specs.Designs.AskForm.{leaf, parameter, constant, negation, both, either, less, sum, difference}
use Rattle.kat_design.specs.declared.designs.Leaf.{Leaf}
use Rattle.kat_rules.specs.Listed.{KeepsRules, Reads, SomeReads}
use Rattle.kat_rules.specs.Tokens.{ask_tokens, asks_tokens, cell_effect, component_tokens, components_tokens, constant_token, design_tokens, effect_tokens, effects_of, effects_tokens, head_tokens, set_effect, shape_tokens, start_token, starts_of, table_effect, tallies_effect, tally_effect}
use Rattle.kat_decoding.specs.Unread.{count_unread, noted, one_less, unread_behind}
use Rattle.kat_rules.specs.declared.constants.Constants.{Constants}
use Rattle.kat_rules.specs.declared.constants.Setting.{Setting}
use Rattle.kat_rules.specs.declared.tokens.Token.{Token}
use Rattle.kat_rules.specs.declared.tokens.Token.TheVariants as token

abbrev pub is_read : Token → ℕ
is_read (token.Read component place key) = 1
is_read _ = 0

abbrev opens : Token → ℕ
opens token.Cell = 1
opens token.Table = 1
opens token.Set = 1
opens token.Tally = 1
opens token.Tallies = 1
opens _ = 0

abbrev pub flags_after : List Bool → List Token → List Bool
flags_after flags [] = flags
flags_after flags (t ∷ w) = flags_after (noted flags t) w

flags_joined : (flags : List Bool) (u w : List Token) → flags_after flags (u ++ w) ≡ flags_after (flags_after flags u) w
flags_joined flags [] w = refl
flags_joined flags (t ∷ u) w = flags_joined (noted flags t) u w

-- flags that are set, one by one
unread_set : (flags : List Bool) (i : ℕ) → count_unread flags ≤ suc (count_unread (slice_set flags i true))
unread_set [] i = omega arith
unread_set (true ∷ flags) zero = omega arith
unread_set (false ∷ flags) zero = omega arith
unread_set (true ∷ flags) (suc i) = unread_set flags i
unread_set (false ∷ flags) (suc i) = let h = unread_set flags i in omega (arith, h)

unread_marked : (flags : List Bool) (i : ℕ) (b : Bool) → count_unread flags ≤ suc (count_unread (if b then slice_set flags i true else flags))
unread_marked flags i true = unread_set flags i
unread_marked flags i false = omega arith

unread_same : (flags : List Bool) (i : ℕ) → one_less (slice_get flags i) (count_unread flags) ≤ count_unread (slice_set flags i true)
unread_same [] i = omega arith
unread_same (true ∷ flags) zero = omega arith
unread_same (false ∷ flags) zero = omega arith
unread_same (true ∷ flags) (suc i) = unread_same flags i
unread_same (false ∷ flags) (suc i) = step_over (slice_get flags i) (count_unread flags) (count_unread (slice_set flags i true)) (unread_same flags i)
  where
    step_over : (o : Option Bool) (n m : ℕ) → one_less o n ≤ m → one_less o (suc n) ≤ suc m
    step_over None n m h = omega (arith, h)
    step_over (Some true) n m h = omega (arith, h)
    step_over (Some false) n m h = omega (arith, h)

less_at_most : (o : Option Bool) (n : ℕ) → one_less o n ≤ n
less_at_most None n = omega arith
less_at_most (Some true) n = omega arith
less_at_most (Some false) n = omega arith

told_marked : (flags : List Bool) (i : ℕ) (b : Bool) → one_less (slice_get flags i) (count_unread flags) ≤ count_unread (if b then slice_set flags i true else flags)
told_marked flags i true = unread_same flags i
told_marked flags i false = less_at_most (slice_get flags i) (count_unread flags)

one_more : (flags : List Bool) → count_unread (flags ++ false ∷ []) ≡ count_unread flags + 1
one_more [] = refl
one_more (true ∷ flags) = one_more flags
one_more (false ∷ flags) = let h = one_more flags in omega (arith, h)

-- what is counted after a token is no more than what is unread there
told_unread : (flags : List Bool) (t : Token) → unread_behind flags t ≤ count_unread (noted flags t)
told_unread flags token.End = omega arith
told_unread flags token.Cell = let h = one_more flags in omega (arith, h)
told_unread flags token.Table = let h = one_more flags in omega (arith, h)
told_unread flags token.Set = let h = one_more flags in omega (arith, h)
told_unread flags token.Tally = let h = one_more flags in omega (arith, h)
told_unread flags token.Tallies = let h = one_more flags in omega (arith, h)
told_unread flags (token.Keys s) = omega arith
told_unread flags token.Max = omega arith
told_unread flags token.Name = omega arith
told_unread flags token.Or = omega arith
told_unread flags token.Lex = omega arith
told_unread flags token.Pair = omega arith
told_unread flags (token.Start place) = omega arith
told_unread flags token.Nothing = omega arith
told_unread flags (token.At place) = omega arith
told_unread flags (token.Effect l) = omega arith
told_unread flags (token.Read component place key) = told_marked flags component (nat_lt component (length flags))
told_unread flags (token.Arg place) = omega arith
told_unread flags (token.NumberConstant place) = omega arith
told_unread flags (token.NameConstant place) = omega arith
told_unread flags (token.Truth b) = omega arith
told_unread flags token.Not = omega arith
told_unread flags token.And = omega arith
told_unread flags token.Either = omega arith
told_unread flags token.Less = omega arith
told_unread flags token.Plus = omega arith
told_unread flags token.Minus = omega arith

-- a token makes at most one more component read, and only if it reads one
unread_falls : (flags : List Bool) (t : Token) → count_unread flags ≤ is_read t + count_unread (noted flags t)
unread_falls flags token.End = omega arith
unread_falls flags token.Cell = let h = one_more flags in omega (arith, h)
unread_falls flags token.Table = let h = one_more flags in omega (arith, h)
unread_falls flags token.Set = let h = one_more flags in omega (arith, h)
unread_falls flags token.Tally = let h = one_more flags in omega (arith, h)
unread_falls flags token.Tallies = let h = one_more flags in omega (arith, h)
unread_falls flags (token.Keys s) = omega arith
unread_falls flags token.Max = omega arith
unread_falls flags token.Name = omega arith
unread_falls flags token.Or = omega arith
unread_falls flags token.Lex = omega arith
unread_falls flags token.Pair = omega arith
unread_falls flags (token.Start place) = omega arith
unread_falls flags token.Nothing = omega arith
unread_falls flags (token.At place) = omega arith
unread_falls flags (token.Effect l) = omega arith
unread_falls flags (token.Read component place key) = let h = unread_marked flags component (nat_lt component (length flags)) in omega (arith, h)
unread_falls flags (token.Arg place) = omega arith
unread_falls flags (token.NumberConstant place) = omega arith
unread_falls flags (token.NameConstant place) = omega arith
unread_falls flags (token.Truth b) = omega arith
unread_falls flags token.Not = omega arith
unread_falls flags token.And = omega arith
unread_falls flags token.Either = omega arith
unread_falls flags token.Less = omega arith
unread_falls flags token.Plus = omega arith
unread_falls flags token.Minus = omega arith

pub unread_all : (flags : List Bool) (w : List Token) → count_unread flags ≤ total is_read w + count_unread (flags_after flags w)
unread_all flags [] = omega arith
unread_all flags (t ∷ w) = let h = unread_falls flags t in let k = unread_all (noted flags t) w in omega (arith, h, k)

pub unread_told : (flags : List Bool) (t : Token) (w : List Token) → count_unread (flags_after flags (t ∷ w)) ≡ 0 → unread_behind flags t ≤ total is_read w
unread_told flags t w e = let h = told_unread flags t in let k = unread_all (noted flags t) w in omega (arith, h, k, e)

-- how many flags there are
length_set : (flags : List Bool) (i : ℕ) → length (slice_set flags i true) ≡ length flags
length_set [] i = refl
length_set (f ∷ flags) zero = refl
length_set (f ∷ flags) (suc i) = ap suc (length_set flags i)

length_marked : (flags : List Bool) (i : ℕ) (b : Bool) → length (if b then slice_set flags i true else flags) ≡ length flags
length_marked flags i true = length_set flags i
length_marked flags i false = refl

length_noted : (flags : List Bool) (t : Token) → length (noted flags t) ≡ length flags + opens t
length_noted flags token.End = omega arith
length_noted flags token.Cell = length-append flags (false ∷ [])
length_noted flags token.Table = length-append flags (false ∷ [])
length_noted flags token.Set = length-append flags (false ∷ [])
length_noted flags token.Tally = length-append flags (false ∷ [])
length_noted flags token.Tallies = length-append flags (false ∷ [])
length_noted flags (token.Keys s) = omega arith
length_noted flags token.Max = omega arith
length_noted flags token.Name = omega arith
length_noted flags token.Or = omega arith
length_noted flags token.Lex = omega arith
length_noted flags token.Pair = omega arith
length_noted flags (token.Start place) = omega arith
length_noted flags token.Nothing = omega arith
length_noted flags (token.At place) = omega arith
length_noted flags (token.Effect l) = omega arith
length_noted flags (token.Read component place key) = let h = length_marked flags component (nat_lt component (length flags)) in omega (arith, h)
length_noted flags (token.Arg place) = omega arith
length_noted flags (token.NumberConstant place) = omega arith
length_noted flags (token.NameConstant place) = omega arith
length_noted flags (token.Truth b) = omega arith
length_noted flags token.Not = omega arith
length_noted flags token.And = omega arith
length_noted flags token.Either = omega arith
length_noted flags token.Less = omega arith
length_noted flags token.Plus = omega arith
length_noted flags token.Minus = omega arith

length_after : (flags : List Bool) (w : List Token) → length (flags_after flags w) ≡ length flags + total opens w
length_after flags [] = omega arith
length_after flags (t ∷ w) = let h = length_noted flags t in let k = length_after (noted flags t) w in omega (arith, h, k)

-- the tokens that open a component
open_shape : (s : CellForm) → total opens (shape_tokens s) ≡ 0
open_shape numbers = refl
open_shape names = refl
open_shape truths = refl
open_shape (lex a b) = omega (arith, total_append opens (shape_tokens a) (shape_tokens b), open_shape a, open_shape b)
open_shape (pair a b) = omega (arith, total_append opens (shape_tokens a) (shape_tokens b), open_shape a, open_shape b)

open_head : (c : ComponentForm) → total opens (head_tokens c) ≡ 1
open_head (a_cell shape starts effects) = omega (arith, open_shape shape)
open_head (a_table key shape starts effects) = omega (arith, open_shape shape)
open_head (a_set key effects) = refl
open_head (a_tally effects) = refl
open_head (tallies key effects) = refl

open_starts : (cs : Constants) (vs : List Value) → total opens (map (start_token cs) vs) ≡ 0
open_starts cs [] = refl
open_starts cs (v ∷ vs) = omega (arith, open_starts cs vs)

open_leaves : (leaves : List Leaf) → total opens (map token.Effect leaves) ≡ 0
open_leaves [] = refl
open_leaves (l ∷ leaves) = omega (arith, open_leaves leaves)

open_effects : {A : Type 0} (g : A → Option (List Token)) → ((e : A) → total opens (effect_tokens (g e)) ≡ 0) → (es : List A) → total opens (effects_tokens (map g es)) ≡ 0
open_effects g h [] = refl
open_effects g h (e ∷ es) = omega (arith, total_append opens (effect_tokens (g e)) (effects_tokens (map g es)), h e, open_effects g h es)

open_cell : (e : Option (List Leaf)) → total opens (effect_tokens (cell_effect e)) ≡ 0
open_cell None = refl
open_cell (Some leaves) = open_leaves leaves

open_table : (e : Option (ℕ × List Leaf)) → total opens (effect_tokens (table_effect e)) ≡ 0
open_table None = refl
open_table (Some e) = omega (arith, open_leaves e.1)

open_set : (e : Option ℕ) → total opens (effect_tokens (set_effect e)) ≡ 0
open_set None = refl
open_set (Some place) = refl

open_tally : (e : Option Leaf) → total opens (effect_tokens (tally_effect e)) ≡ 0
open_tally None = refl
open_tally (Some weight) = refl

open_tallies : (e : Option (ℕ × Leaf)) → total opens (effect_tokens (tallies_effect e)) ≡ 0
open_tallies None = refl
open_tallies (Some e) = refl

open_all : (c : ComponentForm) → total opens (effects_tokens (effects_of c)) ≡ 0
open_all (a_cell shape starts effects) = open_effects cell_effect open_cell effects
open_all (a_table key shape starts effects) = open_effects table_effect open_table effects
open_all (a_set key effects) = open_effects set_effect open_set effects
open_all (a_tally effects) = open_effects tally_effect open_tally effects
open_all (tallies key effects) = open_effects tallies_effect open_tallies effects

open_components : (cs : Constants) (components : List ComponentForm) → total opens (components_tokens cs components) ≡ length components
open_components cs [] = refl
open_components cs (c ∷ more) =
    omega (
      arith,
      total_append opens (component_tokens cs c) (components_tokens cs more),
      total_append opens (head_tokens c) (map (start_token cs) (starts_of c) ++ effects_tokens (effects_of c)),
      total_append opens (map (start_token cs) (starts_of c)) (effects_tokens (effects_of c)),
      open_head c,
      open_starts cs (starts_of c),
      open_all c,
      open_components cs more,
    )

open_constant : (cs : Constants) (v : Value) → opens (constant_token cs v) ≡ 0
open_constant cs (value.Num z) = refl
open_constant cs (value.Name code) = refl
open_constant cs (value.Bool b) = refl

open_ask : (cs : Constants) (a : AskForm) → total opens (ask_tokens cs a) ≡ 0
open_ask cs (leaf component place key) = refl
open_ask cs (parameter place) = refl
open_ask cs (constant v) = omega (arith, open_constant cs v)
open_ask cs (negation a) = omega (arith, open_ask cs a)
open_ask cs (both a b) = omega (arith, total_append opens (ask_tokens cs a) (ask_tokens cs b), open_ask cs a, open_ask cs b)
open_ask cs (either a b) = omega (arith, total_append opens (ask_tokens cs a) (ask_tokens cs b), open_ask cs a, open_ask cs b)
open_ask cs (less a b) = omega (arith, total_append opens (ask_tokens cs a) (ask_tokens cs b), open_ask cs a, open_ask cs b)
open_ask cs (sum a b) = omega (arith, total_append opens (ask_tokens cs a) (ask_tokens cs b), open_ask cs a, open_ask cs b)
open_ask cs (difference a b) = omega (arith, total_append opens (ask_tokens cs a) (ask_tokens cs b), open_ask cs a, open_ask cs b)

open_asks_none : (cs : Constants) (asks : List AskForm) → total opens (asks_tokens cs asks) ≡ 0
open_asks_none cs [] = refl
open_asks_none cs (a ∷ asks) = omega (arith, total_append opens (ask_tokens cs a) (asks_tokens cs asks), open_ask cs a, open_asks_none cs asks)

-- a flag that is set stays so
abbrev IsSet : ℕ → List Bool → Type 0
IsSet i flags = slice_get flags i ≡ Some true

stays_set : (i j : ℕ) (flags : List Bool) → IsSet i flags → IsSet i (slice_set flags j true)
stays_set i j [] h = h
stays_set zero zero (f ∷ flags) h = refl
stays_set zero (suc j) (f ∷ flags) h = h
stays_set (suc i) zero (f ∷ flags) h = h
stays_set (suc i) (suc j) (f ∷ flags) h = stays_set i j flags h

stays_marked : (i j : ℕ) (flags : List Bool) (b : Bool) → IsSet i flags → IsSet i (if b then slice_set flags j true else flags)
stays_marked i j flags true h = stays_set i j flags h
stays_marked i j flags false h = h

stays_front : (i : ℕ) (flags more : List Bool) → IsSet i flags → IsSet i (flags ++ more)
stays_front i [] more h = absurd (none_set i h)
  where
    none_set : (i : ℕ) → slice_get {X = Bool} [] i ≡ Some true → ⊥
    none_set zero h = cc
    none_set (suc i) h = cc
stays_front zero (f ∷ flags) more h = h
stays_front (suc i) (f ∷ flags) more h = stays_front i flags more h

stays_noted : (i : ℕ) (flags : List Bool) (t : Token) → IsSet i flags → IsSet i (noted flags t)
stays_noted i flags token.End h = h
stays_noted i flags token.Cell h = stays_front i flags (false ∷ []) h
stays_noted i flags token.Table h = stays_front i flags (false ∷ []) h
stays_noted i flags token.Set h = stays_front i flags (false ∷ []) h
stays_noted i flags token.Tally h = stays_front i flags (false ∷ []) h
stays_noted i flags token.Tallies h = stays_front i flags (false ∷ []) h
stays_noted i flags (token.Keys s) h = h
stays_noted i flags token.Max h = h
stays_noted i flags token.Name h = h
stays_noted i flags token.Or h = h
stays_noted i flags token.Lex h = h
stays_noted i flags token.Pair h = h
stays_noted i flags (token.Start place) h = h
stays_noted i flags token.Nothing h = h
stays_noted i flags (token.At place) h = h
stays_noted i flags (token.Effect l) h = h
stays_noted i flags (token.Read component place key) h = stays_marked i component flags (nat_lt component (length flags)) h
stays_noted i flags (token.Arg place) h = h
stays_noted i flags (token.NumberConstant place) h = h
stays_noted i flags (token.NameConstant place) h = h
stays_noted i flags (token.Truth b) h = h
stays_noted i flags token.Not h = h
stays_noted i flags token.And h = h
stays_noted i flags token.Either h = h
stays_noted i flags token.Less h = h
stays_noted i flags token.Plus h = h
stays_noted i flags token.Minus h = h

stays_after : (i : ℕ) (flags : List Bool) (w : List Token) → IsSet i flags → IsSet i (flags_after flags w)
stays_after i flags [] h = h
stays_after i flags (t ∷ w) h = stays_after i (noted flags t) w (stays_noted i flags t h)

is_set : (i : ℕ) (flags : List Bool) → i < length flags → IsSet i (slice_set flags i true)
is_set i [] l = absurd (omega (arith, l))
is_set zero (f ∷ flags) l = refl
is_set (suc i) (f ∷ flags) l = is_set i flags (omega (arith, l))

is_marked : (i j : ℕ) (flags : List Bool) (b : Bool) → nat_lt j (length flags) ≡ b → i ≡ j → i < length flags → IsSet i (if b then slice_set flags j true else flags)
is_marked i j flags true t e l = subst (λ (k : ℕ). IsSet i (slice_set flags k true)) e (is_set i flags l)
is_marked i j flags false t e l = absurd (grind (arith, common_steps))

-- an ask sets the flags of what it reads
two_set : (cs : Constants) (i : ℕ) (a b : AskForm) (flags : List Bool) → i < length flags → ((fs : List Bool) → i < length fs → Reads i a → IsSet i (flags_after fs (ask_tokens cs a)))
    → ((fs : List Bool) → i < length fs → Reads i b → IsSet i (flags_after fs (ask_tokens cs b))) → Reads i a ⊎ Reads i b → IsSet i (flags_after flags (ask_tokens cs a ++ ask_tokens cs b))
two_set cs i a b flags l f g (inl r) =
    subst (λ (fs : List Bool). IsSet i fs) (sym (flags_joined flags (ask_tokens cs a) (ask_tokens cs b))) (stays_after i (flags_after flags (ask_tokens cs a)) (ask_tokens cs b) (f flags l r))
two_set cs i a b flags l f g (inr r) =
    let n = length_after flags (ask_tokens cs a) in
    subst (λ (fs : List Bool). IsSet i fs) (sym (flags_joined flags (ask_tokens cs a) (ask_tokens cs b))) (g (flags_after flags (ask_tokens cs a)) (omega (arith, n, l)) r)

ask_sets : (cs : Constants) (i : ℕ) (a : AskForm) (flags : List Bool) → i < length flags → Reads i a → IsSet i (flags_after flags (ask_tokens cs a))
ask_sets cs i (leaf component place key) flags l r = is_marked i component flags (nat_lt component (length flags)) refl r l
ask_sets cs i (parameter place) flags l r = absurd r
ask_sets cs i (constant v) flags l r = absurd r
ask_sets cs i (negation a) flags l r = ask_sets cs i a flags l r
ask_sets cs i (both a b) flags l r = two_set cs i a b flags l (λ fs k h. ask_sets cs i a fs k h) (λ fs k h. ask_sets cs i b fs k h) r
ask_sets cs i (either a b) flags l r = two_set cs i a b flags l (λ fs k h. ask_sets cs i a fs k h) (λ fs k h. ask_sets cs i b fs k h) r
ask_sets cs i (less a b) flags l r = two_set cs i a b flags l (λ fs k h. ask_sets cs i a fs k h) (λ fs k h. ask_sets cs i b fs k h) r
ask_sets cs i (sum a b) flags l r = two_set cs i a b flags l (λ fs k h. ask_sets cs i a fs k h) (λ fs k h. ask_sets cs i b fs k h) r
ask_sets cs i (difference a b) flags l r = two_set cs i a b flags l (λ fs k h. ask_sets cs i a fs k h) (λ fs k h. ask_sets cs i b fs k h) r

asks_set : (cs : Constants) (i : ℕ) (asks : List AskForm) (flags : List Bool) → i < length flags → SomeReads i asks → IsSet i (flags_after flags (asks_tokens cs asks))
asks_set cs i [] flags l r = absurd r
asks_set cs i (a ∷ asks) flags l (inl r) =
    subst (λ (fs : List Bool). IsSet i fs) (sym (flags_joined flags (ask_tokens cs a) (asks_tokens cs asks))) (stays_after i (flags_after flags (ask_tokens cs a)) (asks_tokens cs asks) (ask_sets cs i a flags l r))
asks_set cs i (a ∷ asks) flags l (inr r) =
    let n = length_after flags (ask_tokens cs a) in
    subst (λ (fs : List Bool). IsSet i fs) (sym (flags_joined flags (ask_tokens cs a) (asks_tokens cs asks))) (asks_set cs i asks (flags_after flags (ask_tokens cs a)) (omega (arith, n, l)) r)

none_unread : (flags : List Bool) → ((i : ℕ) → i < length flags → IsSet i flags) → count_unread flags ≡ 0
none_unread [] h = refl
none_unread (true ∷ flags) h = none_unread flags (λ i l. h (suc i) (omega (arith, l)))
none_unread (false ∷ flags) h = absurd (not_set (h zero (omega arith)))
  where
    not_set : Some false ≡ Some true → ⊥
    not_set e = cc

pub all_read : (x : Setting) (d : DesignForm) → KeepsRules x d → count_unread (flags_after [] (design_tokens x.constants d)) ≡ 0
all_read x d rules =
    let parts = components_tokens x.constants d.components in
    let asks = asks_tokens x.constants d.asks in
    let flags = flags_after [] parts in
    let whole : flags_after [] (design_tokens x.constants d) ≡ flags_after flags asks = flags_joined [] parts (token.End ∷ asks) in
    let many = length_after [] parts in
    let each = open_components x.constants d.components in
    let same = length_after flags asks in
    let none = open_asks_none x.constants d.asks in
    ap count_unread whole
    ∙ none_unread (flags_after flags asks) (λ i l. asks_set x.constants i d.asks flags (omega (arith, l, many, each, same, none)) (rules.reads i (omega (arith, l, many, each, same, none))))
