-- How two states are merged, in pseudo-code.
use Rattle.std.specs.Prelude.{ℕ, List, [], ◌++◌, codes, ◌&&◌, if◌then◌else◌}
use Rattle.kat_num.specs.declared.values.Sort.{Sort}
use Rattle.kat_design.specs.Designs.{ComponentForm}
use Rattle.kat_design.specs.Designs.ComponentForm.{a_cell, a_table, a_set, a_tally, tallies}
use Rattle.kat_design.specs.Kinds.{is_chain}
use Rattle.kat_pseudocode.specs.Phrases.{say}
use Rattle.kat_pseudocode.specs.declared.phrases.Phrase.TheVariants as phrase
use Rattle.kat_pseudocode.specs.Effects.{joined_text}
use Rattle.kat_pseudocode.specs.Leaves.{deciding, has_value, leaf_words}
use Rattle.kat_pseudocode.specs.Texts.{at_key, others, own, sort_word, tuple}
use Rattle.kat_shape.specs.Forms.{CellForm}
use Rattle.kat_type.specs.Types.{OperationForm}

-- which of two values with another value under them wins
unfoldable pub wins_text : CellForm → List ℕ → List ℕ
wins_text shape words =
    if is_chain shape && has_value words then say phrase.GreaterOne ++ tuple (deciding words) ++ codes " wins" else []

-- a value of a shape at a place of both states
abbrev pub value_merge : CellForm → List ℕ → List ℕ → List ℕ → List ℕ
value_merge shape words mine theirs = mine ++ codes " = " ++ joined_text shape mine theirs ++ wins_text shape words ++ codes "\n"

-- a sum at a place of both states
abbrev pub sum_merge : List ℕ → List ℕ → List ℕ
sum_merge mine theirs = mine ++ codes " = max(" ++ mine ++ codes ", " ++ theirs ++ codes ")\n"

-- each kind of component at its place of both states
abbrev pub keyed_merge : Sort → CellForm → List ℕ → List ℕ → List ℕ → List ℕ
keyed_merge key shape words mine theirs =
    say phrase.EachKey ++ sort_word key ++ codes " k: " ++ value_merge shape words (at_key mine (codes "k")) (at_key theirs (codes "k"))

abbrev pub set_merge : List ℕ → List ℕ → List ℕ
set_merge mine theirs = codes "    " ++ mine ++ say phrase.UnionOf ++ mine ++ codes ", " ++ theirs ++ codes ")\n"

abbrev pub tally_merge : List ℕ → List ℕ → List ℕ
tally_merge mine theirs = say phrase.EachReplica ++ sum_merge (at_key mine (codes "r")) (at_key theirs (codes "r"))

-- the sum of each replica at each key
unfoldable pub each_sum : List ℕ → List ℕ
each_sum place = at_key (at_key place (codes "k")) (codes "r")

abbrev pub keyed_sums_merge : Sort → List ℕ → List ℕ → List ℕ
keyed_sums_merge key mine theirs =
    say phrase.EachKey ++ sort_word key ++ say phrase.KeyAndReplica
    ++ sum_merge (each_sum mine) (each_sum theirs)

-- how a component of this name is merged
abbrev pub merge_text : List OperationForm → List ℕ → ComponentForm → List ℕ
merge_text ops name (a_cell shape starts effects) =
    codes "    " ++ value_merge shape (leaf_words ops (a_cell shape starts effects)) (own name) (others name)
merge_text ops name (a_table key shape starts effects) =
    keyed_merge key shape (leaf_words ops (a_table key shape starts effects)) (own name) (others name)
merge_text ops name (a_set key effects) = set_merge (own name) (others name)
merge_text ops name (a_tally effects) = tally_merge (own name) (others name)
merge_text ops name (tallies key effects) = keyed_sums_merge key (own name) (others name)
