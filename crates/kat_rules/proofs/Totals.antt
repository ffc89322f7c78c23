-- The size of a design is what its tokens count.
use Rattle.std.proofs.Common.{◌≡◌, ℕ, ◌+◌, List, [], ◌∷◌, ◌++◌, map, length, refl, arith, Option, None, Some}
use Rattle.std.specs.Prelude.{sum_by}
use Rattle.std.proofs.lemmas.List.Sums.{sum_by-cons}
use Rattle.kat_num.specs.declared.values.Value.{Value}
use Rattle.kat_num.specs.declared.values.Value.TheVariants as value
use Rattle.kat_shape.specs.Forms.{CellForm, lex, names, nodes_of, numbers, pair, truths}
use Rattle.kat_walk.specs.Pruning.{total}
use Rattle.kat_walk.proofs.Pruned.{total_append}
use Rattle.kat_design.specs.Designs.{AskForm, ComponentForm, DesignForm}
use Rattle.kat_design.specs.Designs.ComponentForm.{a_cell, a_table, a_set, a_tally, tallies}
use Rattle.kat_design.specs.Designs.AskForm.{leaf, parameter, constant, negation, both, either, less, sum, difference}
use Rattle.kat_design.specs.Sizes.{ask_nodes, cell_leaves, component_size, one_leaf, size_of, table_leaves}
use Rattle.kat_design.specs.declared.designs.Leaf.{Leaf}
use Rattle.kat_rules.specs.Costs.{cost}
use Rattle.kat_rules.specs.Tokens.{cell_effect, set_effect, table_effect, tallies_effect, tally_effect, ask_tokens, asks_tokens, component_tokens, components_tokens, constant_token, design_tokens, effects_of, effects_tokens, head_tokens, shape_tokens, start_token, starts_of}
use Rattle.kat_rules.specs.declared.constants.Constants.{Constants}
use Rattle.kat_rules.specs.declared.tokens.Token.TheVariants as token

pub cost_shape : (s : CellForm) → total cost (shape_tokens s) ≡ nodes_of s
cost_shape numbers = refl
cost_shape names = refl
cost_shape truths = refl
cost_shape (lex a b) = omega (arith, total_append cost (shape_tokens a) (shape_tokens b), cost_shape a, cost_shape b)
cost_shape (pair a b) = omega (arith, total_append cost (shape_tokens a) (shape_tokens b), cost_shape a, cost_shape b)

cost_starts : (cs : Constants) (vs : List Value) → total cost (map (start_token cs) vs) ≡ 0
cost_starts cs [] = refl
cost_starts cs (v ∷ vs) = omega (arith, cost_starts cs vs)

pub cost_leaves : (leaves : List Leaf) → total cost (map token.Effect leaves) ≡ length leaves
cost_leaves [] = refl
cost_leaves (l ∷ leaves) = omega (arith, cost_leaves leaves)

cost_cells : (es : List (Option (List Leaf))) → total cost (effects_tokens (map cell_effect es)) ≡ sum_by cell_leaves es
cost_cells [] = refl
cost_cells (None ∷ es) = omega (arith, sum_by-cons cell_leaves None es, cost_cells es)
cost_cells (Some leaves ∷ es) =
    omega (arith, total_append cost (map token.Effect leaves) (effects_tokens (map cell_effect es)), cost_leaves leaves, sum_by-cons cell_leaves (Some leaves) es, cost_cells es)

cost_tables : (es : List (Option (ℕ × List Leaf))) → total cost (effects_tokens (map table_effect es)) ≡ sum_by table_leaves es
cost_tables [] = refl
cost_tables (None ∷ es) = omega (arith, sum_by-cons table_leaves None es, cost_tables es)
cost_tables (Some f ∷ es) =
    omega (arith, total_append cost (map token.Effect f.1) (effects_tokens (map table_effect es)), cost_leaves f.1, sum_by-cons table_leaves (Some f) es, cost_tables es)

cost_sets : (es : List (Option ℕ)) → total cost (effects_tokens (map set_effect es)) ≡ sum_by one_leaf es
cost_sets [] = refl
cost_sets (None ∷ es) = omega (arith, sum_by-cons (one_leaf {A = ℕ}) None es, cost_sets es)
cost_sets (Some place ∷ es) = omega (arith, sum_by-cons (one_leaf {A = ℕ}) (Some place) es, cost_sets es)

cost_tally : (es : List (Option Leaf)) → total cost (effects_tokens (map tally_effect es)) ≡ sum_by one_leaf es
cost_tally [] = refl
cost_tally (None ∷ es) = omega (arith, sum_by-cons (one_leaf {A = Leaf}) None es, cost_tally es)
cost_tally (Some l ∷ es) = omega (arith, sum_by-cons (one_leaf {A = Leaf}) (Some l) es, cost_tally es)

cost_tallies : (es : List (Option (ℕ × Leaf))) → total cost (effects_tokens (map tallies_effect es)) ≡ sum_by one_leaf es
cost_tallies [] = refl
cost_tallies (None ∷ es) = omega (arith, sum_by-cons (one_leaf {A = ℕ × Leaf}) None es, cost_tallies es)
cost_tallies (Some f ∷ es) = omega (arith, sum_by-cons (one_leaf {A = ℕ × Leaf}) (Some f) es, cost_tallies es)

-- the head, the starts and the effects
pub cost_parts : (cs : Constants) (c : ComponentForm) → total cost (component_tokens cs c) ≡ total cost (head_tokens c) + total cost (effects_tokens (effects_of c))
cost_parts cs c =
    omega (arith, total_append cost (head_tokens c) (map (start_token cs) (starts_of c) ++ effects_tokens (effects_of c)), total_append cost (map (start_token cs) (starts_of c)) (effects_tokens (effects_of c)), cost_starts cs (starts_of c))

pub cost_component : (cs : Constants) (c : ComponentForm) → total cost (component_tokens cs c) ≡ component_size c
cost_component cs (a_cell shape starts effects) = omega (arith, cost_parts cs (a_cell shape starts effects), cost_shape shape, cost_cells effects)
cost_component cs (a_table key shape starts effects) = omega (arith, cost_parts cs (a_table key shape starts effects), cost_shape shape, cost_tables effects)
cost_component cs (a_set key effects) = omega (arith, cost_parts cs (a_set key effects), cost_sets effects)
cost_component cs (a_tally effects) = omega (arith, cost_parts cs (a_tally effects), cost_tally effects)
cost_component cs (tallies key effects) = omega (arith, cost_parts cs (tallies key effects), cost_tallies effects)

cost_components : (cs : Constants) (components : List ComponentForm) → total cost (components_tokens cs components) ≡ sum_by component_size components
cost_components cs [] = refl
cost_components cs (c ∷ more) = omega (arith, total_append cost (component_tokens cs c) (components_tokens cs more), cost_component cs c, sum_by-cons component_size c more, cost_components cs more)

cost_constant : (cs : Constants) (v : Value) → cost (constant_token cs v) ≡ 1
cost_constant cs (value.Num z) = refl
cost_constant cs (value.Name code) = refl
cost_constant cs (value.Bool b) = refl

cost_ask : (cs : Constants) (a : AskForm) → total cost (ask_tokens cs a) ≡ ask_nodes a
cost_ask cs (leaf component place key) = refl
cost_ask cs (parameter place) = refl
cost_ask cs (constant v) = omega (arith, cost_constant cs v)
cost_ask cs (negation a) = omega (arith, cost_ask cs a)
cost_ask cs (both a b) = omega (arith, total_append cost (ask_tokens cs a) (ask_tokens cs b), cost_ask cs a, cost_ask cs b)
cost_ask cs (either a b) = omega (arith, total_append cost (ask_tokens cs a) (ask_tokens cs b), cost_ask cs a, cost_ask cs b)
cost_ask cs (less a b) = omega (arith, total_append cost (ask_tokens cs a) (ask_tokens cs b), cost_ask cs a, cost_ask cs b)
cost_ask cs (sum a b) = omega (arith, total_append cost (ask_tokens cs a) (ask_tokens cs b), cost_ask cs a, cost_ask cs b)
cost_ask cs (difference a b) = omega (arith, total_append cost (ask_tokens cs a) (ask_tokens cs b), cost_ask cs a, cost_ask cs b)

cost_asks : (cs : Constants) (asks : List AskForm) → total cost (asks_tokens cs asks) ≡ sum_by ask_nodes asks
cost_asks cs [] = refl
cost_asks cs (a ∷ asks) = omega (arith, total_append cost (ask_tokens cs a) (asks_tokens cs asks), cost_ask cs a, sum_by-cons ask_nodes a asks, cost_asks cs asks)

pub cost_design : (cs : Constants) (d : DesignForm) → total cost (design_tokens cs d) ≡ size_of d
cost_design cs d = omega (arith, total_append cost (components_tokens cs d.components) (token.End ∷ asks_tokens cs d.asks), cost_components cs d.components, cost_asks cs d.asks)
