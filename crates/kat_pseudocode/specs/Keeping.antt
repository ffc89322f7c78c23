-- What each replica keeps, in words.
use Rattle.std.specs.Prelude.{ℕ, Bool, true, false, not, ◌&&◌, List, [], ◌∷◌, ◌++◌, map, codes, if◌then◌else◌}
use Rattle.kat_num.specs.Values.{value_text}
use Rattle.kat_num.specs.declared.values.Sort.{Sort}
use Rattle.kat_num.specs.declared.values.Value.{Value}
use Rattle.kat_num.specs.declared.values.Value.TheVariants as value
use Rattle.kat_design.specs.Designs.{ComponentForm}
use Rattle.kat_design.specs.Designs.ComponentForm.{a_cell, a_table, a_set, a_tally, tallies}
use Rattle.kat_design.specs.Kinds.{is_chain}
use Rattle.kat_pseudocode.specs.Phrases.{say}
use Rattle.kat_pseudocode.specs.declared.phrases.Phrase.TheVariants as phrase
use Rattle.kat_pseudocode.specs.Leaves.{deciding, distinct, has_value, leaf_words, value_name}
use Rattle.kat_pseudocode.specs.Naming.{acts}
use Rattle.kat_pseudocode.specs.Texts.{at_key, own, sort_word, tuple}
use Rattle.kat_shape.specs.Forms.{CellForm}
use Rattle.kat_shape.specs.Forms.CellForm.{numbers, names, truths, lex, pair}
use Rattle.kat_type.specs.Types.{OperationForm}

-- how a shape joins
abbrev pub shape_text : CellForm → List ℕ
shape_text numbers = codes "max"
shape_text names = codes "max"
shape_text truths = codes "or"
shape_text (lex a b) = codes "lex(" ++ shape_text a ++ codes ", " ++ shape_text b ++ codes ")"
shape_text (pair a b) = codes "pair(" ++ shape_text a ++ codes ", " ++ shape_text b ++ codes ")"

-- a truth value alone
abbrev pub is_or : CellForm → Bool
is_or numbers = false
is_or names = false
is_or truths = true
is_or (lex a b) = false
is_or (pair a b) = false

-- a truth value that is true at first
abbrev pub starts_true : List Value → Bool
starts_true (value.Bool b ∷ starts) = b
starts_true _ = false

-- values that no operation touches
abbrev pub fixed_text : List ℕ → List ℕ
fixed_text words = codes "`" ++ tuple (distinct words) ++ say phrase.AsAtFirst

-- the value that is under what decides
unfoldable pub under_text : List ℕ → List ℕ
under_text words =
    if has_value words then say phrase.WithIts ++ value_name words ++ say phrase.OfTwoAlike ++ value_name words ++ codes "`" else []

-- values of a chain, of which the greatest is kept
abbrev pub greatest_text : List ℕ → List ℕ
greatest_text words = say phrase.TheGreatest ++ tuple (deciding words) ++ codes "`" ++ under_text words

-- values that are joined in parts
abbrev pub parts_text : CellForm → List ℕ → List ℕ
parts_text shape words =
    codes "`" ++ tuple (distinct words) ++ say phrase.JoinedBy ++ shape_text shape
    ++ say phrase.HowPartsJoin

-- what is kept of a shape, if some operation touches it or if none does, and with these starts
unfoldable pub kept_text : Bool → CellForm → List ℕ → List Value → List ℕ
kept_text touched shape words starts =
    if is_or shape && starts_true starts then say phrase.AlwaysTrue
    else if not touched then fixed_text words
    else if is_or shape then say phrase.OnceTrue
    else if is_chain shape then greatest_text words
    else parts_text shape words

abbrev pub start_text : List Value → List ℕ
start_text starts = say phrase.AtFirst ++ tuple (map value_text starts) ++ codes "`.\n"

abbrev pub values_text : Bool → CellForm → List ℕ → List Value → List ℕ
values_text touched shape words starts = kept_text touched shape words starts ++ start_text starts

-- a sum
abbrev pub sum_words : List ℕ
sum_words = say phrase.AddedBy

-- each kind of component that is kept at a place: a cell and a table of such values
abbrev pub cell_text : List ℕ → List ℕ → List ℕ
cell_text place values = codes "- `" ++ place ++ codes "`: " ++ values

abbrev pub table_text : List ℕ → Sort → List ℕ → List ℕ
table_text place key values =
    codes "- `" ++ at_key place (codes "k") ++ say phrase.ForEvery ++ sort_word key ++ codes " k: " ++ values

abbrev pub set_text : List ℕ → Sort → List ℕ
set_text place key = codes "- `" ++ place ++ say phrase.SetOf ++ sort_word key ++ say phrase.EmptyAtFirst

abbrev pub tally_text : List ℕ → List ℕ
tally_text place = codes "- `" ++ at_key place (codes "r") ++ say phrase.ForEvery ++ sum_words

abbrev pub tallies_text : List ℕ → Sort → List ℕ
tallies_text place key =
    codes "- `" ++ at_key (at_key place (codes "k")) (codes "r") ++ say phrase.ForEvery ++ sort_word key ++ codes " k and " ++ sum_words

-- what a component of this name keeps
abbrev pub keeps_text : List OperationForm → List ℕ → ComponentForm → List ℕ
keeps_text ops name (a_cell shape starts effects) =
    cell_text (own name) (values_text (acts effects) shape (leaf_words ops (a_cell shape starts effects)) starts)
keeps_text ops name (a_table key shape starts effects) =
    table_text (own name) key (values_text (acts effects) shape (leaf_words ops (a_table key shape starts effects)) starts)
keeps_text ops name (a_set key effects) = set_text (own name) key
keeps_text ops name (a_tally effects) = tally_text (own name)
keeps_text ops name (tallies key effects) = tallies_text (own name) key
