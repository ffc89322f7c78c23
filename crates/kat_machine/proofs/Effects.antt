-- The effects of a component whose sorts fit are among the choices for its parts.
use Rattle.std.proofs.Common.{ℕ, suc, ◌<◌, List, [], ◌∷◌, map, length, arith, Option, None, Some}
use Rattle.std.specs.Prelude.{All, ◌≤◌}
use Rattle.kat_num.specs.declared.values.Sort.{Sort}
use Rattle.kat_design.specs.Designs.{ComponentForm}
use Rattle.kat_design.specs.Designs.ComponentForm.{a_cell, a_table, a_set, a_tally, tallies}
use Rattle.kat_design.specs.Kinds.{kinds_of}
use Rattle.kat_design.specs.Sorted.{AreMatched, FitsCell, FitsSet, FitsTable, FitsTallies, FitsTally, GivesKind, IsComponent}
use Rattle.kat_design.specs.declared.designs.Leaf.{Leaf}
use Rattle.kat_design.specs.declared.kinds.Kind.{Kind}
use Rattle.kat_type.specs.declared.signatures.OpSig.{OpSig}
use Rattle.kat_machine.specs.Choices.{row_of}
use Rattle.kat_machine.specs.Picked.{AreChosen, ArePicked, IsPicked}
use Rattle.kat_rules.specs.Tokens.{cell_effect, effects_of, set_effect, table_effect, tallies_effect, tally_effect}
use Rattle.kat_machine.specs.declared.modes.Want.TheVariants as want
use Rattle.kat_rules.specs.declared.tokens.Token.TheVariants as token
use Rattle.kat_machine.proofs.Members.{key_chosen, leaf_chosen, member_chosen, weight_chosen}
use Rattle.kat_rules.proofs.Lengths.{some_kinds}

abbrev pub IsFew : OpSig → Type 0
IsFew op = length op.sorts ≤ 4

pub all_first : {A : Type 0} (P : A → Type 0) (x : A) (xs : List A) → All P (x ∷ xs) → P x
all_first P x xs h = h 0 x (omega arith)

pub all_rest : {A : Type 0} (P : A → Type 0) (x : A) (xs : List A) → All P (x ∷ xs) → All P xs
all_rest P x xs h = λ k d l. h (suc k) d (omega (arith, l))

-- each effect that fits is picked
matched_mapped : {A B C : Type 0} (Fits : A → C → Type 0) (Has : B → C → Type 0) (Small : C → Type 0) (g : A → B) → ((x : A) (y : C) → Small y → Fits x y → Has (g x) y) → (xs : List A) (ys : List C) → All Small ys → AreMatched Fits xs ys → AreMatched Has (map g xs) ys
matched_mapped Fits Has Small g f [] [] few h = tt
matched_mapped Fits Has Small g f [] (y ∷ ys) few h = absurd h
matched_mapped Fits Has Small g f (x ∷ xs) [] few h = absurd h
matched_mapped Fits Has Small g f (x ∷ xs) (y ∷ ys) few h = (f x y (all_first Small y ys few) h.0, matched_mapped Fits Has Small g f xs ys (all_rest Small y ys few) h.1)

leaves_chosen : (sorts : List Sort) (leaves : List Leaf) (kinds : List Kind) → length sorts ≤ 4 → AreMatched (GivesKind sorts) leaves kinds → AreChosen sorts (map want.Leaf kinds) (map token.Effect leaves)
leaves_chosen sorts [] [] few h = tt
leaves_chosen sorts [] (k ∷ kinds) few h = absurd h
leaves_chosen sorts (l ∷ leaves) [] few h = absurd h
leaves_chosen sorts (l ∷ leaves) (k ∷ kinds) few h = (leaf_chosen sorts l k few h.0, leaves_chosen sorts leaves kinds few h.1)

cell_picked : (kinds : List Kind) (e : Option (List Leaf)) (op : OpSig) → IsFew op → FitsCell kinds e op → IsPicked (map want.Leaf kinds) (cell_effect e) op
cell_picked kinds None op few h = tt
cell_picked kinds (Some leaves) op few h = leaves_chosen op.sorts leaves kinds few h

table_picked : (key : Sort) (kinds : List Kind) (e : Option (ℕ × List Leaf)) (op : OpSig) → IsFew op → FitsTable key kinds e op
    → IsPicked (want.Key key ∷ map want.Leaf kinds) (table_effect e) op
table_picked key kinds None op few h = tt
table_picked key kinds (Some f) op few h = (key_chosen op.sorts key f.0 few h.0, leaves_chosen op.sorts f.1 kinds few h.1)

set_picked : (key : Sort) (e : Option ℕ) (op : OpSig) → IsFew op → FitsSet key e op → IsPicked (want.Member key ∷ []) (set_effect e) op
set_picked key None op few h = tt
set_picked key (Some place) op few h = (member_chosen op.sorts key place few h, tt)

tally_picked : (e : Option Leaf) (op : OpSig) → IsFew op → FitsTally e op → IsPicked (want.Weight ∷ []) (tally_effect e) op
tally_picked None op few h = tt
tally_picked (Some l) op few h = (weight_chosen op.sorts l few h, tt)

tallies_picked : (key : Sort) (e : Option (ℕ × Leaf)) (op : OpSig) → IsFew op → FitsTallies key e op → IsPicked (want.Key key ∷ want.Weight ∷ []) (tallies_effect e) op
tallies_picked key None op few h = tt
tallies_picked key (Some f) op few h = (key_chosen op.sorts key f.0 few h.0, (weight_chosen op.sorts f.1 few h.1, tt))

pub effects_picked : (ops : List OpSig) (c : ComponentForm) → All IsFew ops → IsComponent ops c → ArePicked (row_of c).wants (effects_of c) ops
effects_picked ops (a_cell shape starts effects) few h =
    matched_mapped (FitsCell (kinds_of shape)) (IsPicked (map want.Leaf (kinds_of shape))) IsFew cell_effect
    (λ e op few f. cell_picked (kinds_of shape) e op few f) effects ops few h.2
effects_picked ops (a_table key shape starts effects) few h =
    matched_mapped (FitsTable key (kinds_of shape)) (IsPicked (want.Key key ∷ map want.Leaf (kinds_of shape))) IsFew table_effect
    (λ e op few f. table_picked key (kinds_of shape) e op few f) effects ops few h.3
effects_picked ops (a_set key effects) few h =
    matched_mapped (FitsSet key) (IsPicked (want.Member key ∷ [])) IsFew set_effect (λ e op few f. set_picked key e op few f) effects ops few h.1
effects_picked ops (a_tally effects) few h =
    matched_mapped FitsTally (IsPicked (want.Weight ∷ [])) IsFew tally_effect (λ e op few f. tally_picked e op few f) effects ops few h
effects_picked ops (tallies key effects) few h =
    matched_mapped (FitsTallies key) (IsPicked (want.Key key ∷ want.Weight ∷ [])) IsFew tallies_effect
    (λ e op few f. tallies_picked key e op few f) effects ops few h.1

some_leaves : (kinds : List Kind) → 0 < length kinds → 0 < length (map want.Leaf kinds)
some_leaves [] h = absurd (omega (arith, h))
some_leaves (k ∷ kinds) h = omega arith

pub some_wants : (c : ComponentForm) → 0 < length (row_of c).wants
some_wants (a_cell shape starts effects) = some_leaves (kinds_of shape) (some_kinds shape)
some_wants (a_table key shape starts effects) = omega arith
some_wants (a_set key effects) = omega arith
some_wants (a_tally effects) = omega arith
some_wants (tallies key effects) = omega arith
