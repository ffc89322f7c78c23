-- Used inside only.
-- Used by kat_decoding, kat_gram, kat_machine and inside only: the rules of a listing as tests.
use Rattle.std.specs.Prelude.{ℕ, ◌==◌, nat_lt, Bool, true, false, not, ◌&&◌, ◌||◌, List, [], ◌∷◌, map, length, Option, None, Some}
use Rattle.std.specs.List.{list_all, range_with_len}
use Rattle.kat_num.specs.declared.values.Value.{Value}
use Rattle.kat_num.specs.declared.values.Value.TheVariants as value
use Rattle.kat_design.specs.Designs.{ComponentForm, AskForm, DesignForm}
use Rattle.kat_design.specs.Designs.ComponentForm.{a_cell, a_table, a_set, a_tally, tallies}
use Rattle.kat_design.specs.Designs.AskForm.{leaf, parameter, constant, negation, both, either, less, sum, difference}
use Rattle.kat_design.specs.Faults.{Path, faults_of}
use Rattle.kat_design.specs.Kinds.{value_kind}
use Rattle.kat_design.specs.Sizes.{size_of}
use Rattle.kat_rules.specs.Constants.{has_value, of_kind}
use Rattle.kat_rules.specs.Orders.{rank}
use Rattle.kat_rules.specs.Tokens.{ask_tokens, component_tokens, design_tokens, starts_of}
use Rattle.kat_rules.specs.declared.constants.Constants.{Constants}
use Rattle.kat_rules.specs.declared.constants.Setting.{Setting}
use Rattle.kat_rules.specs.declared.kind_sets.Kinds.{Kinds}
use Rattle.kat_rules.specs.declared.tokens.Token.{Token}

-- the order of tokens and of their lists
abbrev pub is_less : List ℕ → List ℕ → Bool
is_less [] [] = false
is_less [] (b ∷ v) = true
is_less (a ∷ u) [] = false
is_less (a ∷ u) (b ∷ v) = nat_lt a b || (a == b && is_less u v)

abbrev pub is_before : Token → Token → Bool
is_before t u = is_less (rank t) (rank u)

abbrev pub is_below : List Token → List Token → Bool
is_below [] [] = false
is_below [] (b ∷ v) = true
is_below (a ∷ u) [] = false
is_below (a ∷ u) (b ∷ v) = is_before a b || (not (is_before b a) && is_below u v)

abbrev pub is_same_list : List Token → List Token → Bool
is_same_list u v = not (is_below u v) && not (is_below v u)

-- each list comes before those after it
abbrev pub is_ascending : List (List Token) → Bool
is_ascending [] = true
is_ascending (w ∷ ws) = list_all (is_below w) ws && is_ascending ws

-- the rules
abbrev pub has_kind_of : Kinds → ComponentForm → Bool
has_kind_of kinds (a_cell shape starts effects) = kinds.cell
has_kind_of kinds (a_table key shape starts effects) = kinds.table
has_kind_of kinds (a_set key effects) = kinds.set
has_kind_of kinds (a_tally effects) = kinds.tally
has_kind_of kinds (tallies key effects) = kinds.tallies

abbrev pub has_some : {A : Type 0} → List (Option A) → Bool
has_some [] = false
has_some (None ∷ es) = has_some es
has_some (Some e ∷ es) = true

abbrev pub has_effect : ComponentForm → Bool
has_effect (a_cell shape starts effects) = has_some effects
has_effect (a_table key shape starts effects) = has_some effects
has_effect (a_set key effects) = has_some effects
has_effect (a_tally effects) = has_some effects
has_effect (tallies key effects) = has_some effects

abbrev pub reads : ℕ → AskForm → Bool
reads i (leaf component place key) = i == component
reads i (parameter place) = false
reads i (constant v) = false
reads i (negation a) = reads i a
reads i (both a b) = reads i a || reads i b
reads i (either a b) = reads i a || reads i b
reads i (less a b) = reads i a || reads i b
reads i (sum a b) = reads i a || reads i b
reads i (difference a b) = reads i a || reads i b

abbrev pub some_reads : ℕ → List AskForm → Bool
some_reads i [] = false
some_reads i (a ∷ asks) = reads i a || some_reads i asks

abbrev pub are_read : ℕ → List AskForm → Bool
are_read n asks = list_all (λ (i : ℕ). some_reads i asks) (range_with_len 0 n)

-- the operands of an operator are in order
abbrev pub in_order : Constants → AskForm → AskForm → Bool
in_order cs a b = not (is_below (ask_tokens cs b) (ask_tokens cs a))

abbrev pub is_ordered : Constants → AskForm → Bool
is_ordered cs (leaf component place key) = true
is_ordered cs (parameter place) = true
is_ordered cs (constant v) = true
is_ordered cs (negation a) = is_ordered cs a
is_ordered cs (both a b) = in_order cs a b && (is_ordered cs a && is_ordered cs b)
is_ordered cs (either a b) = in_order cs a b && (is_ordered cs a && is_ordered cs b)
is_ordered cs (less a b) = is_ordered cs a && is_ordered cs b
is_ordered cs (sum a b) = in_order cs a b && (is_ordered cs a && is_ordered cs b)
is_ordered cs (difference a b) = is_ordered cs a && is_ordered cs b

abbrev pub is_start : Constants → Value → Bool
is_start cs v = has_value (of_kind cs (value_kind v)) v

abbrev pub are_starts : Constants → ComponentForm → Bool
are_starts cs c = list_all (is_start cs) (starts_of c)

abbrev pub is_constant : Constants → Value → Bool
is_constant cs (value.Bool b) = true
is_constant cs (value.Num z) = has_value cs.numbers (value.Num z)
is_constant cs (value.Name code) = has_value cs.names (value.Name code)

abbrev pub has_constants : Constants → AskForm → Bool
has_constants cs (leaf component place key) = true
has_constants cs (parameter place) = true
has_constants cs (constant v) = is_constant cs v
has_constants cs (negation a) = has_constants cs a
has_constants cs (both a b) = has_constants cs a && has_constants cs b
has_constants cs (either a b) = has_constants cs a && has_constants cs b
has_constants cs (less a b) = has_constants cs a && has_constants cs b
has_constants cs (sum a b) = has_constants cs a && has_constants cs b
has_constants cs (difference a b) = has_constants cs a && has_constants cs b

abbrev pub are_none : List Path → Bool
are_none [] = true
are_none (p ∷ ps) = false

-- what is asked of components, and of asks
abbrev pub are_good_components : Setting → List ComponentForm → Bool
are_good_components x components =
    list_all (has_kind_of x.kinds) components && (list_all has_effect components && (list_all (are_starts x.constants) components && is_ascending (map (component_tokens x.constants) components)))

abbrev pub are_good_asks : Setting → List AskForm → Bool
are_good_asks x asks = list_all (has_constants x.constants) asks && list_all (is_ordered x.constants) asks

abbrev pub keeps_rules : Setting → DesignForm → Bool
keeps_rules x d = are_read (length d.components) d.asks && (are_good_components x d.components && (are_good_asks x d.asks && are_none (faults_of d)))

-- the list is that of a design of this size that keeps the rules
abbrev pub is_word_of : Setting → ℕ → List Token → DesignForm → Bool
is_word_of x n w d = size_of d == n && (is_same_list (design_tokens x.constants d) w && keeps_rules x d)
