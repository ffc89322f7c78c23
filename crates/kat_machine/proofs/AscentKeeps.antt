-- The components of a listed design ascend and have effects, so that leaving what doesn't throws none away.
use Rattle.std.proofs.Common.{◌≡◌, ℕ, inl, inr, Bool, true, false, List, [], ◌∷◌, ◌++◌, map, refl, sym, ◌∙◌, ap, subst, arith, append_assoc, append-nil, Option, None, Some, if◌then◌else◌}
use Rattle.std.specs.Prelude.{not}
use Rattle.kat_num.specs.declared.values.Value.{Value}
use Rattle.kat_num.specs.declared.values.Value.TheVariants as value
use Rattle.kat_shape.specs.Forms.{CellForm, lex, names, numbers, pair, truths}
use Rattle.kat_walk.specs.Machines.{Ascends, Machine}
use Rattle.kat_walk.specs.Pruning.{KeepsAll, total}
use Rattle.kat_walk.specs.Ties.{KeepsTie, tie_keeps, tie_next}
use Rattle.kat_walk.proofs.Pruned.{total_append}
use Rattle.kat_walk.proofs.TieLemmas.{IsOrder, tie_kept}
use Rattle.kat_design.specs.Designs.{AskForm, ComponentForm, DesignForm}
use Rattle.kat_design.specs.Designs.ComponentForm.{a_cell, a_table, a_set, a_tally, tallies}
use Rattle.kat_design.specs.Designs.AskForm.{leaf, parameter, constant, negation, both, either, less, sum, difference}
use Rattle.kat_design.specs.Sorted.{EachHas, IsComponent}
use Rattle.kat_type.specs.declared.signatures.OpSig.{OpSig}
use Rattle.kat_design.specs.declared.designs.Leaf.{Leaf}
use Rattle.kat_machine.specs.Ascent.{at_least, begins, component_begun, by_ascent, is_inside, is_whole, may_end, component_continued, no_component, may_ascend, latest_behind}
use Rattle.kat_rules.specs.Listed.{HasEffect, KeepsRules}
use Rattle.kat_rules.specs.Orders.{before, come_before}
use Rattle.kat_rules.specs.Tests.{is_before}
use Rattle.kat_rules.specs.Tokens.{ask_tokens, asks_tokens, cell_effect, component_tokens, components_tokens, constant_token, design_tokens, effect_tokens, effects_of, effects_tokens, head_tokens, set_effect, shape_tokens, start_token, starts_of, table_effect, tallies_effect, tally_effect}
use Rattle.kat_rules.specs.declared.constants.Constants.{Constants}
use Rattle.kat_rules.specs.declared.constants.Setting.{Setting}
use Rattle.kat_machine.specs.declared.ascent.LatestComponent.{LatestComponent}
use Rattle.kat_rules.specs.declared.tokens.Token.{Token}
use Rattle.kat_rules.specs.declared.tokens.Token.TheVariants as token
use Rattle.kat_rules.proofs.Ranked.{before_tested, before_told, one_token}
use Rattle.kat_machine.proofs.WholeParts.{component_whole}
use Rattle.kat_rules.proofs.Comparing.{never_both}

-- the order
below_or : (b : Bool) → not b ≡ false → b ≡ true
below_or true h = refl
below_or false h = absurd cc

not_or : (b : Bool) → not b ≡ true → b ≡ false
not_or true h = absurd cc
not_or false h = refl

is_order : IsOrder before at_least
is_order = record {
  above = λ t u h. before_tested t u (below_or (is_before t u) h);
  same = λ t u h k. one_token t u (not_or (is_before t u) h) (not_or (is_before u t) k);
}

-- which tokens a component and an ask have
abbrev count_outside : Token → ℕ
count_outside t = if is_inside t then 0 else 1

abbrev count_parts : Token → ℕ
count_parts t = if begins t then 1 else (if is_inside t then 1 else 0)

inside_of : (t : Token) → count_outside t ≡ 0 → (begins t ≡ false) × (is_inside t ≡ true)
inside_of token.End h = absurd (omega (arith, h))
inside_of token.Cell h = absurd (omega (arith, h))
inside_of token.Table h = absurd (omega (arith, h))
inside_of token.Set h = absurd (omega (arith, h))
inside_of token.Tally h = absurd (omega (arith, h))
inside_of token.Tallies h = absurd (omega (arith, h))
inside_of (token.Keys s) h = (refl, refl)
inside_of token.Max h = (refl, refl)
inside_of token.Name h = (refl, refl)
inside_of token.Or h = (refl, refl)
inside_of token.Lex h = (refl, refl)
inside_of token.Pair h = (refl, refl)
inside_of (token.Start place) h = (refl, refl)
inside_of token.Nothing h = (refl, refl)
inside_of (token.At place) h = (refl, refl)
inside_of (token.Effect l) h = (refl, refl)
inside_of (token.Read component place key) h = absurd (omega (arith, h))
inside_of (token.Arg place) h = absurd (omega (arith, h))
inside_of (token.NumberConstant place) h = absurd (omega (arith, h))
inside_of (token.NameConstant place) h = absurd (omega (arith, h))
inside_of (token.Truth b) h = absurd (omega (arith, h))
inside_of token.Not h = absurd (omega (arith, h))
inside_of token.And h = absurd (omega (arith, h))
inside_of token.Either h = absurd (omega (arith, h))
inside_of token.Less h = absurd (omega (arith, h))
inside_of token.Plus h = absurd (omega (arith, h))
inside_of token.Minus h = absurd (omega (arith, h))

outside_of : (t : Token) → count_parts t ≡ 0 → (begins t ≡ false) × (is_inside t ≡ false)
outside_of token.End h = (refl, refl)
outside_of token.Cell h = absurd (omega (arith, h))
outside_of token.Table h = absurd (omega (arith, h))
outside_of token.Set h = absurd (omega (arith, h))
outside_of token.Tally h = absurd (omega (arith, h))
outside_of token.Tallies h = absurd (omega (arith, h))
outside_of (token.Keys s) h = absurd (omega (arith, h))
outside_of token.Max h = absurd (omega (arith, h))
outside_of token.Name h = absurd (omega (arith, h))
outside_of token.Or h = absurd (omega (arith, h))
outside_of token.Lex h = absurd (omega (arith, h))
outside_of token.Pair h = absurd (omega (arith, h))
outside_of (token.Start place) h = absurd (omega (arith, h))
outside_of token.Nothing h = absurd (omega (arith, h))
outside_of (token.At place) h = absurd (omega (arith, h))
outside_of (token.Effect l) h = absurd (omega (arith, h))
outside_of (token.Read component place key) h = (refl, refl)
outside_of (token.Arg place) h = (refl, refl)
outside_of (token.NumberConstant place) h = (refl, refl)
outside_of (token.NameConstant place) h = (refl, refl)
outside_of (token.Truth b) h = (refl, refl)
outside_of token.Not h = (refl, refl)
outside_of token.And h = (refl, refl)
outside_of token.Either h = (refl, refl)
outside_of token.Less h = (refl, refl)
outside_of token.Plus h = (refl, refl)
outside_of token.Minus h = (refl, refl)

begun_outside : (t : Token) → begins t ≡ true → is_inside t ≡ false
begun_outside token.Cell h = refl
begun_outside token.Table h = refl
begun_outside token.Set h = refl
begun_outside token.Tally h = refl
begun_outside token.Tallies h = refl
begun_outside token.End h = absurd cc
begun_outside (token.Keys s) h = absurd cc
begun_outside token.Max h = absurd cc
begun_outside token.Name h = absurd cc
begun_outside token.Or h = absurd cc
begun_outside token.Lex h = absurd cc
begun_outside token.Pair h = absurd cc
begun_outside (token.Start place) h = absurd cc
begun_outside token.Nothing h = absurd cc
begun_outside (token.At place) h = absurd cc
begun_outside (token.Effect l) h = absurd cc
begun_outside (token.Read component place key) h = absurd cc
begun_outside (token.Arg place) h = absurd cc
begun_outside (token.NumberConstant place) h = absurd cc
begun_outside (token.NameConstant place) h = absurd cc
begun_outside (token.Truth b) h = absurd cc
begun_outside token.Not h = absurd cc
begun_outside token.And h = absurd cc
begun_outside token.Either h = absurd cc
begun_outside token.Less h = absurd cc
begun_outside token.Plus h = absurd cc
begun_outside token.Minus h = absurd cc

in_shape : (s : CellForm) → total count_outside (shape_tokens s) ≡ 0
in_shape numbers = refl
in_shape names = refl
in_shape truths = refl
in_shape (lex a b) = omega (arith, total_append count_outside (shape_tokens a) (shape_tokens b), in_shape a, in_shape b)
in_shape (pair a b) = omega (arith, total_append count_outside (shape_tokens a) (shape_tokens b), in_shape a, in_shape b)

in_starts : (cs : Constants) (vs : List Value) → total count_outside (map (start_token cs) vs) ≡ 0
in_starts cs [] = refl
in_starts cs (v ∷ vs) = omega (arith, in_starts cs vs)

in_leaves : (leaves : List Leaf) → total count_outside (map token.Effect leaves) ≡ 0
in_leaves [] = refl
in_leaves (l ∷ leaves) = omega (arith, in_leaves leaves)

in_effects : {A : Type 0} (g : A → Option (List Token)) → ((e : A) → total count_outside (effect_tokens (g e)) ≡ 0) → (es : List A) → total count_outside (effects_tokens (map g es)) ≡ 0
in_effects g h [] = refl
in_effects g h (e ∷ es) = omega (arith, total_append count_outside (effect_tokens (g e)) (effects_tokens (map g es)), h e, in_effects g h es)

in_cell : (e : Option (List Leaf)) → total count_outside (effect_tokens (cell_effect e)) ≡ 0
in_cell None = refl
in_cell (Some leaves) = in_leaves leaves

in_table : (e : Option (ℕ × List Leaf)) → total count_outside (effect_tokens (table_effect e)) ≡ 0
in_table None = refl
in_table (Some e) = omega (arith, in_leaves e.1)

in_set : (e : Option ℕ) → total count_outside (effect_tokens (set_effect e)) ≡ 0
in_set None = refl
in_set (Some place) = refl

in_tally : (e : Option Leaf) → total count_outside (effect_tokens (tally_effect e)) ≡ 0
in_tally None = refl
in_tally (Some weight) = refl

in_tallies : (e : Option (ℕ × Leaf)) → total count_outside (effect_tokens (tallies_effect e)) ≡ 0
in_tallies None = refl
in_tallies (Some e) = refl

in_all : (c : ComponentForm) → total count_outside (effects_tokens (effects_of c)) ≡ 0
in_all (a_cell shape starts effects) = in_effects cell_effect in_cell effects
in_all (a_table key shape starts effects) = in_effects table_effect in_table effects
in_all (a_set key effects) = in_effects set_effect in_set effects
in_all (a_tally effects) = in_effects tally_effect in_tally effects
in_all (tallies key effects) = in_effects tallies_effect in_tallies effects

-- a component begins with its kind, and the others are inside
record Begins (w : List Token) : Type 0 where
  kind : Token
  others : List Token
  whole : w ≡ kind ∷ others
  first : begins kind ≡ true
  inside : total count_outside others ≡ 0

head_begins : (c : ComponentForm) → Begins (head_tokens c)
head_begins (a_cell shape starts effects) = record { kind = token.Cell; others = shape_tokens shape; whole = refl; first = refl; inside = in_shape shape }
head_begins (a_table key shape starts effects) = record { kind = token.Table; others = token.Keys key ∷ shape_tokens shape; whole = refl; first = refl; inside = omega (arith, in_shape shape) }
head_begins (a_set key effects) = record { kind = token.Set; others = token.Keys key ∷ []; whole = refl; first = refl; inside = refl }
head_begins (a_tally effects) = record { kind = token.Tally; others = []; whole = refl; first = refl; inside = refl }
head_begins (tallies key effects) = record { kind = token.Tallies; others = token.Keys key ∷ []; whole = refl; first = refl; inside = refl }

component_begins : (cs : Constants) (c : ComponentForm) → Begins (component_tokens cs c)
component_begins cs c =
    let h = head_begins c in
    let rest = map (start_token cs) (starts_of c) ++ effects_tokens (effects_of c) in
    let i = h.inside in
    record {
      kind = h.kind;
      others = h.others ++ rest;
      whole = ap (λ (w : List Token). w ++ rest) h.whole;
      first = h.first;
      inside =
          omega (
            arith,
            i,
            total_append count_outside h.others rest,
            total_append count_outside (map (start_token cs) (starts_of c)) (effects_tokens (effects_of c)),
            in_starts cs (starts_of c),
            in_all c,
          );
    }

out_constant : (cs : Constants) (v : Value) → count_parts (constant_token cs v) ≡ 0
out_constant cs (value.Num z) = refl
out_constant cs (value.Name code) = refl
out_constant cs (value.Bool b) = refl

out_ask : (cs : Constants) (a : AskForm) → total count_parts (ask_tokens cs a) ≡ 0
out_ask cs (leaf component place key) = refl
out_ask cs (parameter place) = refl
out_ask cs (constant v) = omega (arith, out_constant cs v)
out_ask cs (negation a) = omega (arith, out_ask cs a)
out_ask cs (both a b) = omega (arith, total_append count_parts (ask_tokens cs a) (ask_tokens cs b), out_ask cs a, out_ask cs b)
out_ask cs (either a b) = omega (arith, total_append count_parts (ask_tokens cs a) (ask_tokens cs b), out_ask cs a, out_ask cs b)
out_ask cs (less a b) = omega (arith, total_append count_parts (ask_tokens cs a) (ask_tokens cs b), out_ask cs a, out_ask cs b)
out_ask cs (sum a b) = omega (arith, total_append count_parts (ask_tokens cs a) (ask_tokens cs b), out_ask cs a, out_ask cs b)
out_ask cs (difference a b) = omega (arith, total_append count_parts (ask_tokens cs a) (ask_tokens cs b), out_ask cs a, out_ask cs b)

out_asks : (cs : Constants) (asks : List AskForm) → total count_parts (asks_tokens cs asks) ≡ 0
out_asks cs [] = refl
out_asks cs (a ∷ asks) = omega (arith, total_append count_parts (ask_tokens cs a) (asks_tokens cs asks), out_ask cs a, out_asks cs asks)

-- what is left of a tie after tokens: nothing after a list that is greater
abbrev tie_after : Option (List Token) → List Token → Option (List Token)
tie_after tie [] = tie
tie_after tie (t ∷ w) = tie_after (tie_next at_least tie t) w

none_after : (w : List Token) → tie_after None w ≡ None
none_after [] = refl
none_after (t ∷ w) = none_after w

freed : (u v : List Token) (b : Bool) → tie_after (Some u) v ≡ None → tie_after (if b then Some u else None) v ≡ None
freed u v true h = h
freed u v false h = none_after v

not_true : (b : Bool) → b ≡ true → not b ≡ false
not_true true h = refl
not_true false h = absurd cc

greater_free : (u w : List Token) → come_before u w → tie_after (Some u) w ≡ None
greater_free [] [] h = absurd h
greater_free [] (b ∷ v) h = none_after v
greater_free (a ∷ u) [] h = absurd h
greater_free (a ∷ u) (b ∷ v) (inl l) = let e : at_least a b ≡ false = not_true (is_before a b) (before_told a b l) in rw e (none_after v)
greater_free (a ∷ u) (b ∷ v) (inr l) = freed u v (at_least a b) (greater_free u v l.1)

-- what is kept
abbrev Goes : {S : Type 0} → Machine S Token → S → LatestComponent → List Token → Type 0
Goes m s latest w = KeepsAll m by_ascent s latest w

asks_keep : {S : Type 0} (m : Machine S Token) (s : S) (latest : LatestComponent) (w : List Token) → may_end latest ≡ true → total count_parts w ≡ 0 → Goes m s latest w
asks_keep m s latest [] e h = tt
asks_keep m s latest (t ∷ w) e h =
    let o = outside_of t (omega (arith, h)) in
    let f = o.0 in
    let g = o.1 in
    let keeps : may_ascend latest t ≡ true = rw (f, g, e) refl in
    let next : latest_behind latest t ≡ no_component = rw (f, g) refl in
    (keeps, asks_keep m (m.step s t) (latest_behind latest t) w (ap may_end next) (omega (arith, h)))

inside_keeps : {S : Type 0} (m : Machine S Token) (s : S) (latest : LatestComponent) (u more : List Token) → total count_outside u ≡ 0 → KeepsTie at_least latest.tie u
    → ((s' : S) → Goes m s' (record { read = latest.read ++ u; tie = tie_after latest.tie u }) more) → Goes m s latest (u ++ more)
inside_keeps m s latest [] more h k f = subst (λ (now : List Token). Goes m s (record { read = now; tie = latest.tie }) more) (append-nil latest.read) (f s)
inside_keeps m s latest (t ∷ u) more h k f =
    let o = inside_of t (omega (arith, h)) in
    let e : begins t ≡ false = o.0 in
    let i : is_inside t ≡ true = o.1 in
    let keeps : may_ascend latest t ≡ tie_keeps at_least latest.tie t = rw (e, i) refl in
    let next : latest_behind latest t ≡ component_continued latest t = rw (e, i) refl in (
      keeps ∙ k.0,
      subst (λ (r : LatestComponent). Goes m (m.step s t) r (u ++ more)) (sym next)
          (inside_keeps m (m.step s t) (component_continued latest t) u more (omega (arith, h)) k.1
          (λ s'. subst (λ (now : List Token). Goes m s' (record { read = now; tie = tie_after (tie_next at_least latest.tie t) u }) more) (sym (append_assoc latest.read (t ∷ []) u)) (f s'))),
    )

begun_keeps : {S : Type 0} (m : Machine S Token) (s : S) (latest : LatestComponent) (t : Token) (u more : List Token) → begins t ≡ true → total count_outside u ≡ 0 → may_end latest ≡ true → come_before latest.read (t ∷ u)
    → ((s' : S) → Goes m s' (record { read = t ∷ u; tie = None }) more) → Goes m s latest (t ∷ (u ++ more))
begun_keeps m s latest t u more e h ends above f =
    let k : KeepsTie at_least (Some latest.read) (t ∷ u) = tie_kept before at_least is_order latest.read (t ∷ u) (never_both latest.read (t ∷ u) above) in
    let out : is_inside t ≡ false = begun_outside t e in
    let keeps : may_ascend latest t ≡ tie_keeps at_least (Some latest.read) t = rw (out, ends, e) refl in
    let next : latest_behind latest t ≡ component_begun latest t = rw e refl in
    let free : tie_after (tie_next at_least (Some latest.read) t) u ≡ None = greater_free latest.read (t ∷ u) above in (
      keeps ∙ k.0,
      subst (λ (r : LatestComponent). Goes m (m.step s t) r (u ++ more)) (sym next)
          (inside_keeps m (m.step s t) (component_begun latest t) u more h k.1
          (λ s'. subst (λ (tie : Option (List Token)). Goes m s' (record { read = t ∷ u; tie = tie }) more) (sym free) (f s'))),
    )

component_keeps : {S : Type 0} (m : Machine S Token) (s : S) (latest : LatestComponent) (w more : List Token) → Begins w → may_end latest ≡ true → come_before latest.read w
    → ((s' : S) → Goes m s' (record { read = w; tie = None }) more) → Goes m s latest (w ++ more)
component_keeps m s latest w more b ends above f =
    subst (λ (v : List Token). Goes m s latest (v ++ more)) (sym b.whole)
    (begun_keeps m s latest b.kind b.others more b.first b.inside ends (subst (λ (v : List Token). come_before latest.read v) b.whole above)
    (λ s'. subst (λ (v : List Token). Goes m s' (record { read = v; tie = None }) more) b.whole (f s')))

-- the first component comes after these tokens
abbrev IsAbove : Constants → List Token → List ComponentForm → Type 0
IsAbove cs now [] = Unit {0}
IsAbove cs now (c ∷ more) = come_before now (component_tokens cs c)

abbrev AreAscending : Constants → List ComponentForm → Type 0
AreAscending cs components = Ascends (λ (a : ComponentForm) (b : ComponentForm). come_before (component_tokens cs a) (component_tokens cs b)) components

next_above : (cs : Constants) (c : ComponentForm) (more : List ComponentForm) → AreAscending cs (c ∷ more) → IsAbove cs (component_tokens cs c) more
next_above cs c [] a = tt
next_above cs c (d ∷ more) a = a.0 d (inl refl)

components_keep : {S : Type 0} (m : Machine S Token) (cs : Constants) (s : S) (latest : LatestComponent) (ops : List OpSig) (components : List ComponentForm) (w : List Token) → AreAscending cs components
    → EachHas (IsComponent ops) components → EachHas HasEffect components → IsAbove cs latest.read components → may_end latest ≡ true
    → ((s' : S) (latest' : LatestComponent) → may_end latest' ≡ true → Goes m s' latest' w) → Goes m s latest (components_tokens cs components ++ w)
components_keep m cs s latest ops [] w a fits some b ends f = f s latest ends
components_keep m cs s latest ops (c ∷ more) w a fits some b ends f =
    let whole : is_whole (component_tokens cs c) ≡ true = component_whole ops cs c fits.0 some.0 in
    let behind : may_end (record { read = component_tokens cs c; tie = None }) ≡ true = rw whole refl in
    subst (λ (v : List Token). Goes m s latest v) (sym (append_assoc (component_tokens cs c) (components_tokens cs more) w))
    (component_keeps m s latest (component_tokens cs c) (components_tokens cs more ++ w) (component_begins cs c) ends b
    (λ s'. components_keep m cs s' (record { read = component_tokens cs c; tie = None }) ops more w a.1 fits.1 some.1 (next_above cs c more a) behind f))

first_above : (cs : Constants) (components : List ComponentForm) → IsAbove cs [] components
first_above cs [] = tt
first_above cs (c ∷ more) = let b = component_begins cs c in subst (λ (w : List Token). come_before [] w) (sym b.whole) tt

pub ascent_keeps : {S : Type 0} (m : Machine S Token) (s : S) (x : Setting) (d : DesignForm) → KeepsRules x d → KeepsAll m by_ascent s no_component (design_tokens x.constants d)
ascent_keeps m s x d rules =
    components_keep m x.constants s no_component x.sig.ops d.components (token.End ∷ asks_tokens x.constants d.asks) rules.ascend rules.components rules.effects (first_above x.constants d.components) refl
    (λ s' latest' ends. asks_keep m s' latest' (token.End ∷ asks_tokens x.constants d.asks) ends (omega (arith, out_asks x.constants d.asks)))
