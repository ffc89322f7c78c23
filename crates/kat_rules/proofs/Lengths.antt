-- How long a token list can be.
use Rattle.std.proofs.Common.{◌≡◌, ℕ, ◌+◌, ◌*◌, ◌≤◌, List, [], ◌∷◌, ◌++◌, map, length, refl, arith, Option, None, Some, ◌<◌}
use Rattle.std.specs.Prelude.{sum_by, ◌≤◌}
use Rattle.std.proofs.lemmas.List.{length-append, length-map}
use Rattle.std.proofs.lemmas.List.Sums.{sum_by-cons}
use Rattle.kat_shape.specs.Forms.{CellForm, lex, names, nodes_of, numbers, pair, truths}
use Rattle.kat_type.specs.declared.signatures.OpSig.{OpSig}
use Rattle.kat_walk.specs.Pruning.{total}
use Rattle.kat_walk.proofs.Pruned.{total_append}
use Rattle.kat_design.specs.Designs.{AskForm, ComponentForm, DesignForm}
use Rattle.kat_design.specs.Designs.ComponentForm.{a_cell, a_table, a_set, a_tally, tallies}
use Rattle.kat_design.specs.Designs.AskForm.{leaf, parameter, constant, negation, both, either, less, sum, difference}
use Rattle.kat_design.specs.Kinds.{kinds_of}
use Rattle.kat_design.specs.Sizes.{ask_nodes, component_size, size_of}
use Rattle.kat_design.specs.Sorted.{AreMatched, EachHas, FitsCell, FitsSet, FitsTable, FitsTallies, FitsTally, IsComponent, IsStart}
use Rattle.kat_design.specs.declared.designs.Leaf.{Leaf}
use Rattle.kat_rules.specs.Costs.{cost}
use Rattle.kat_rules.specs.Tokens.{ask_tokens, asks_tokens, cell_effect, component_tokens, components_tokens, design_tokens, effect_tokens, effects_of, effects_tokens, head_tokens, set_effect, shape_tokens, start_token, starts_of, table_effect, tallies_effect, tally_effect}
use Rattle.kat_rules.specs.declared.constants.Constants.{Constants}
use Rattle.kat_rules.specs.declared.tokens.Token.{Token}
use Rattle.kat_rules.specs.declared.tokens.Token.TheVariants as token
use Rattle.kat_rules.proofs.Totals.{cost_component, cost_leaves, cost_parts, cost_shape}

long_shape : (s : CellForm) → length (shape_tokens s) ≡ nodes_of s
long_shape numbers = refl
long_shape names = refl
long_shape truths = refl
long_shape (lex a b) = omega (arith, length-append (shape_tokens a) (shape_tokens b), long_shape a, long_shape b)
long_shape (pair a b) = omega (arith, length-append (shape_tokens a) (shape_tokens b), long_shape a, long_shape b)

pub few_kinds : (s : CellForm) → length (kinds_of s) ≤ nodes_of s
few_kinds numbers = omega arith
few_kinds names = omega arith
few_kinds truths = omega arith
few_kinds (lex a b) = omega (arith, length-append (kinds_of a) (kinds_of b), few_kinds a, few_kinds b)
few_kinds (pair a b) = omega (arith, length-append (kinds_of a) (kinds_of b), few_kinds a, few_kinds b)

pub matched_long : {A B : Type 0} (Match : A → B → Type 0) (xs : List A) (ys : List B) → AreMatched Match xs ys → length xs ≡ length ys
matched_long Match [] [] h = refl
matched_long Match [] (y ∷ ys) h = absurd h
matched_long Match (x ∷ xs) [] h = absurd h
matched_long Match (x ∷ xs) (y ∷ ys) h = omega (arith, matched_long Match xs ys h.1)

-- an effect has at most one token that counts nothing
abbrev IsShort : Option (List Token) → Type 0
IsShort e = length (effect_tokens e) ≤ 1 + total cost (effect_tokens e)

short_effects : {A : Type 0} (g : A → Option (List Token)) → ((e : A) → IsShort (g e)) → (es : List A) → length (effects_tokens (map g es)) ≤ length es + total cost (effects_tokens (map g es))
short_effects g h [] = omega arith
short_effects g h (e ∷ es) =
    omega (arith, length-append (effect_tokens (g e)) (effects_tokens (map g es)), total_append cost (effect_tokens (g e)) (effects_tokens (map g es)), h e, short_effects g h es)

short_cell : (e : Option (List Leaf)) → IsShort (cell_effect e)
short_cell None = omega arith
short_cell (Some leaves) = let f = length-map leaves token.Effect in omega (arith, f, cost_leaves leaves)

short_table : (e : Option (ℕ × List Leaf)) → IsShort (table_effect e)
short_table None = omega arith
short_table (Some e) = let f = length-map e.1 token.Effect in omega (arith, f, cost_leaves e.1)

short_set : (e : Option ℕ) → IsShort (set_effect e)
short_set None = omega arith
short_set (Some place) = omega arith

short_tally : (e : Option Leaf) → IsShort (tally_effect e)
short_tally None = omega arith
short_tally (Some weight) = omega arith

short_tallies : (e : Option (ℕ × Leaf)) → IsShort (tallies_effect e)
short_tallies None = omega arith
short_tallies (Some e) = omega arith

-- the head and the starts
short_head : (ops : List OpSig) (c : ComponentForm) → IsComponent ops c → length (head_tokens c) + length (starts_of c) ≤ 2 + 2 * total cost (head_tokens c)
short_head ops (a_cell shape starts effects) h = omega (arith, long_shape shape, few_kinds shape, matched_long IsStart starts (kinds_of shape) h.1, cost_shape shape)
short_head ops (a_table key shape starts effects) h = omega (arith, long_shape shape, few_kinds shape, matched_long IsStart starts (kinds_of shape) h.2, cost_shape shape)
short_head ops (a_set key effects) h = omega arith
short_head ops (a_tally effects) h = omega arith
short_head ops (tallies key effects) h = omega arith

short_all : (ops : List OpSig) (c : ComponentForm) → IsComponent ops c → length (effects_tokens (effects_of c)) ≤ length ops + total cost (effects_tokens (effects_of c))
short_all ops (a_cell shape starts effects) h = omega (arith, short_effects cell_effect short_cell effects, matched_long (FitsCell (kinds_of shape)) effects ops h.2)
short_all ops (a_table key shape starts effects) h = omega (arith, short_effects table_effect short_table effects, matched_long (FitsTable key (kinds_of shape)) effects ops h.3)
short_all ops (a_set key effects) h = omega (arith, short_effects set_effect short_set effects, matched_long (FitsSet key) effects ops h.1)
short_all ops (a_tally effects) h = omega (arith, short_effects tally_effect short_tally effects, matched_long FitsTally effects ops h)
short_all ops (tallies key effects) h = omega (arith, short_effects tallies_effect short_tallies effects, matched_long (FitsTallies key) effects ops h.1)

pub some_nodes : (s : CellForm) → 1 ≤ nodes_of s
some_nodes numbers = omega arith
some_nodes names = omega arith
some_nodes truths = omega arith
some_nodes (lex a b) = omega arith
some_nodes (pair a b) = omega arith

some_head : (c : ComponentForm) → 1 ≤ total cost (head_tokens c)
some_head (a_cell shape starts effects) = omega (arith, cost_shape shape, some_nodes shape)
some_head (a_table key shape starts effects) = omega arith
some_head (a_set key effects) = omega arith
some_head (a_tally effects) = omega arith
some_head (tallies key effects) = omega arith

short_component : (cs : Constants) (ops : List OpSig) (c : ComponentForm) → length ops ≤ 12 → IsComponent ops c → length (component_tokens cs c) ≤ 16 * component_size c
short_component cs ops c few h =
    omega (
      arith,
      few,
      length-append (head_tokens c) (map (start_token cs) (starts_of c) ++ effects_tokens (effects_of c)),
      length-append (map (start_token cs) (starts_of c)) (effects_tokens (effects_of c)),
      length-map (starts_of c) (start_token cs),
      short_head ops c h,
      short_all ops c h,
      some_head c,
      cost_component cs c,
      cost_parts cs c,
    )

short_components : (cs : Constants) (ops : List OpSig) (components : List ComponentForm) → length ops ≤ 12 → EachHas (IsComponent ops) components
    → length (components_tokens cs components) ≤ 16 * sum_by component_size components
short_components cs ops [] few h = omega arith
short_components cs ops (c ∷ more) few h =
    omega (arith, length-append (component_tokens cs c) (components_tokens cs more), short_component cs ops c few h.0, short_components cs ops more few h.1, sum_by-cons component_size c more)

long_ask : (cs : Constants) (a : AskForm) → length (ask_tokens cs a) ≡ ask_nodes a
long_ask cs (leaf component place key) = refl
long_ask cs (parameter place) = refl
long_ask cs (constant v) = refl
long_ask cs (negation a) = omega (arith, long_ask cs a)
long_ask cs (both a b) = omega (arith, length-append (ask_tokens cs a) (ask_tokens cs b), long_ask cs a, long_ask cs b)
long_ask cs (either a b) = omega (arith, length-append (ask_tokens cs a) (ask_tokens cs b), long_ask cs a, long_ask cs b)
long_ask cs (less a b) = omega (arith, length-append (ask_tokens cs a) (ask_tokens cs b), long_ask cs a, long_ask cs b)
long_ask cs (sum a b) = omega (arith, length-append (ask_tokens cs a) (ask_tokens cs b), long_ask cs a, long_ask cs b)
long_ask cs (difference a b) = omega (arith, length-append (ask_tokens cs a) (ask_tokens cs b), long_ask cs a, long_ask cs b)

long_asks : (cs : Constants) (asks : List AskForm) → length (asks_tokens cs asks) ≡ sum_by ask_nodes asks
long_asks cs [] = refl
long_asks cs (a ∷ asks) = omega (arith, length-append (ask_tokens cs a) (asks_tokens cs asks), long_ask cs a, long_asks cs asks, sum_by-cons ask_nodes a asks)

pub short_design : (cs : Constants) (ops : List OpSig) (d : DesignForm) → length ops ≤ 12 → EachHas (IsComponent ops) d.components → length (design_tokens cs d) ≤ 17 * size_of d + 1
short_design cs ops d few h =
    omega (arith, length-append (components_tokens cs d.components) (token.End ∷ asks_tokens cs d.asks), short_components cs ops d.components few h, long_asks cs d.asks)

-- each component has something to give
pub some_kinds : (s : CellForm) → 0 < length (kinds_of s)
some_kinds numbers = omega arith
some_kinds names = omega arith
some_kinds truths = omega arith
some_kinds (lex a b) = omega (arith, some_kinds a, length-append (kinds_of a) (kinds_of b))
some_kinds (pair a b) = omega (arith, some_kinds a, length-append (kinds_of a) (kinds_of b))
