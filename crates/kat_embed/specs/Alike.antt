-- Designs that keep the same, and those that don't.
use Rattle.std.specs.Prelude.{◌≡◌, Bool, true, false, ◌&&◌, List, [], ◌∷◌}
use Rattle.kat_design.specs.Designs.{ComponentForm}
use Rattle.kat_design.specs.Designs.ComponentForm.{a_cell, a_table, a_set, a_tally, tallies}
use Rattle.kat_design.specs.Faults.{is_sort}
use Rattle.kat_shape.specs.Forms.{CellForm}
use Rattle.kat_shape.specs.Forms.CellForm.{numbers, names, truths, lex, pair}
use Rattle.kat_type.specs.Unions.{are_same_values}
use Rattle.kat_embed.specs.Contents.{design_of}
use Rattle.kat_embed.specs.declared.contents.Contents.{Contents}
use Rattle.kat_embed.specs.declared.errors.MergeError.{MergeError}
use Rattle.kat_embed.specs.declared.errors.MergeError.TheVariants.{OtherDesign, Memory}

-- why a replica isn't merged with another one: they have different designs; out of memory tells nothing
abbrev pub AreApart : Contents → Contents → MergeError → Type 0
AreApart c other OtherDesign = design_of c ≡ design_of other → ⊥
AreApart c other Memory = Unit {0}

-- used inside only: two shapes are one
abbrev pub same_form : CellForm → CellForm → Bool
same_form numbers numbers = true
same_form names names = true
same_form truths truths = true
same_form (lex a b) (lex c d) = same_form a c && same_form b d
same_form (pair a b) (pair c d) = same_form a c && same_form b d
same_form _ _ = false

-- used inside only: two components keep the same, whatever their effects are
abbrev pub keep_alike : ComponentForm → ComponentForm → Bool
keep_alike (a_cell shape starts effects) (a_cell form begins others) = same_form shape form && are_same_values starts begins
keep_alike (a_table key shape starts effects) (a_table sort form begins others) = is_sort key sort && (same_form shape form && are_same_values starts begins)
keep_alike (a_set key effects) (a_set sort others) = is_sort key sort
keep_alike (a_tally effects) (a_tally others) = true
keep_alike (tallies key effects) (tallies sort others) = is_sort key sort
keep_alike _ _ = false

abbrev pub all_alike : List ComponentForm → List ComponentForm → Bool
all_alike [] [] = true
all_alike (x ∷ xs) (y ∷ ys) = keep_alike x y && all_alike xs ys
all_alike _ _ = false
