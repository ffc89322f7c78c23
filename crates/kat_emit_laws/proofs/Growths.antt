-- The sums that grow, and the first one that is too great.
use Rattle.std.proofs.Common.{◌≡◌, ℕ, suc, ◌+◌, ◌<◌, ◌≤◌, Bool, true, false, cond, List, [], ◌∷◌, ⊎_elim, refl, sym, ◌∙◌, ap, subst, arith, Option, None, Some}
use Rattle.std.specs.Prelude.{◌==◌, ◌||◌, nat_lt, slice_get}
use Rattle.std.specs.Ordering.{nat_cmp}
use Rattle.std.proofs.lemmas.Bool.{cases_Bool, eq-eqb, eqb-true, ltb-true}
use Rattle.kat_num.specs.Orders.{value_order}
use Rattle.kat_num.specs.declared.values.Sort.{Sort}
use Rattle.kat_num.specs.declared.values.Value.{Value}
use Rattle.kat_expr.specs.Slots.{argument}
use Rattle.kat_lattice.specs.Maps.{Table, at_key}
use Rattle.kat_lattice.specs.Tallies.{Sums, sum_of}
use Rattle.kat_type.specs.declared.done.Done.{Done}
use Rattle.kat_design.specs.Denotations.{weight_of}
use Rattle.kat_design.specs.Designs.{ComponentForm}
use Rattle.kat_design.specs.Designs.ComponentForm.{a_cell, a_table, a_set, a_tally, tallies}
use Rattle.kat_design.specs.Effects.{effect_of}
use Rattle.kat_design.specs.Sorted.{AreMatched, EachHas}
use Rattle.kat_design.specs.declared.designs.Leaf.{Leaf}
use Rattle.kat_design.specs.declared.designs.Leaf.TheVariants as leaf
use Rattle.kat_design.specs.declared.states.Part.{Part}
use Rattle.kat_design.specs.declared.states.Part.TheVariants as part
use Rattle.kat_node.specs.Nodes.{AreSums, IsEntry, IsPart, IsSum}
use Rattle.kat_step.specs.Limits.{passes_in, passes_limit, tallies_pass, tally_passes}
use Rattle.kat_step.specs.declared.steps.TheConstants.{SUM_LIMIT}
use Rattle.kat_step.proofs.Growing.{at_key_sums, found_has}
use Rattle.kat_emit.specs.Statements.{Stated, grows, growth_of, is_zero, tallies_growth, tally_growth, weighing}
use Rattle.kat_emit_laws.specs.Meanings.{Doing, Ending, and_then, doing, ending_of, full, goes, if_sum, own_sum, refused, runs, with_sum}
use Rattle.kat_emit_laws.proofs.Followed.{all_grown, grown}
use Rattle.kat_emit_laws.proofs.Vain.{zero_is}

-- the sums of a state file are within the limit
most_sums : (sums : Sums) → EachHas IsSum sums → EachHas (λ (e : ℕ × ℕ). e.1 ≤ SUM_LIMIT) sums
most_sums [] each = tt
most_sums (s ∷ sums) each = (each.0.most, most_sums sums each.1)

own_low : (sums : Sums) (replica : ℕ) → AreSums sums → sum_of sums replica ≤ SUM_LIMIT
own_low sums replica h = found_has (λ n. n ≤ SUM_LIMIT) 0 (λ (e : ℕ × ℕ). nat_cmp replica e.0) sums (omega arith) (most_sums sums h.each)

table_low : (key : Sort) (table : Table Value Sums) (k : Value) → table.start ≡ [] → EachHas (IsEntry key AreSums) table.entries → AreSums (at_key value_order table k)
table_low key table k none each =
    let same : ◌≡◌ {A = Table Value Sums} (record { start = []; entries = table.entries }) table = λ i. record { start = sym none i; entries = table.entries } in
    subst (λ (t : Table Value Sums). AreSums (at_key value_order t k)) same (at_key_sums key table.entries k each)

not_beyond : (most s : ℕ) → s ≤ most → most < s + 0 → ⊥
not_beyond most s h l = omega arith

without_weight : (s : ℕ) → s ≤ SUM_LIMIT → nat_lt SUM_LIMIT (s + 0) ≡ false
without_weight s h =
    ⊎_elim (λ (t : nat_lt SUM_LIMIT (s + 0) ≡ true). absurd (not_beyond SUM_LIMIT s h (ltb-true SUM_LIMIT (s + 0) t))) (λ (f : nat_lt SUM_LIMIT (s + 0) ≡ false). f)
    (cases_Bool (nat_lt SUM_LIMIT (s + 0)))

-- weights
some_none : {X : Type 0} (x : X) → Some x ≡ None → ⊥
some_none x e = cc

same_some : {X : Type 0} (x y : X) → Some x ≡ Some y → x ≡ y
same_some x y e = cc

abbrev weighed : Option ℕ → Leaf → Option ℕ × Leaf
weighed key w = (key, w)

none_by : (key : Option ℕ) (w : Leaf) (b : Bool) → is_zero w ≡ b → cond {A = Option (Option ℕ × Leaf)} b None (Some (weighed key w)) ≡ None → w ≡ leaf.Zero
none_by key w true z e = zero_is w z
none_by key w false z e = absurd (some_none (weighed key w) e)

weighs_none : (key : Option ℕ) (w : Leaf) → weighing key w ≡ None → w ≡ leaf.Zero
weighs_none key w e = none_by key w (is_zero w) refl e

some_by : (key : Option ℕ) (w : Leaf) (given : Option ℕ × Leaf) (b : Bool) → cond {A = Option (Option ℕ × Leaf)} b None (Some (weighed key w)) ≡ Some given → weighed key w ≡ given
some_by key w given true e = absurd (some_none given (sym e))
some_by key w given false e = same_some (weighed key w) given e

weighs_some : (key : Option ℕ) (w : Leaf) (given : Option ℕ × Leaf) → weighing key w ≡ Some given → weighed key w ≡ given
weighs_some key w given e = some_by key w given (is_zero w) e

-- whether a sum is too great
abbrev too_great : Part → Option ℕ × Leaf → Done → Bool
too_great p given one = nat_lt SUM_LIMIT (own_sum (Some p) given.0 one + weight_of (Some given.1) one)

tally_quiet : (effect : Option Leaf) (sums : Sums) (one : Done) → AreSums sums → tally_growth effect ≡ None → tally_passes effect sums one ≡ false
tally_quiet None sums one h e = refl
tally_quiet (Some w) sums one h e =
    subst (λ (l : Leaf). tally_passes (Some l) sums one ≡ false) (sym (weighs_none None w e)) (without_weight (sum_of sums one.replica) (own_low sums one.replica h))

tally_loud : (effect : Option Leaf) (sums : Sums) (one : Done) (given : Option ℕ × Leaf) → tally_growth effect ≡ Some given → tally_passes effect sums one ≡ too_great (part.Tally sums) given one
tally_loud None sums one given e = absurd (some_none given (sym e))
tally_loud (Some w) sums one given e = ap (λ (g : Option ℕ × Leaf). too_great (part.Tally sums) g one) (weighs_some None w given e)

tallies_quiet : (key : Sort) (effect : Option (ℕ × Leaf)) (table : Table Value Sums) (one : Done) → table.start ≡ [] → EachHas (IsEntry key AreSums) table.entries → tallies_growth effect ≡ None
    → tallies_pass effect table one ≡ false
tallies_quiet key None table one none each e = refl
tallies_quiet key (Some effect) table one none each e =
    let at = at_key value_order table (argument one.args effect.0) in
    let still : nat_lt SUM_LIMIT (sum_of at one.replica + weight_of (Some leaf.Zero) one) ≡ false = without_weight (sum_of at one.replica) (own_low at one.replica (table_low key table (argument one.args effect.0) none each)) in
    subst (λ (l : Leaf). nat_lt SUM_LIMIT (sum_of at one.replica + weight_of (Some l) one) ≡ false) (sym (weighs_none (Some effect.0) effect.1 e)) still

tallies_loud : (effect : Option (ℕ × Leaf)) (table : Table Value Sums) (one : Done) (given : Option ℕ × Leaf) → tallies_growth effect ≡ Some given → tallies_pass effect table one ≡ too_great (part.Tallies table) given one
tallies_loud None table one given e = absurd (some_none given (sym e))
tallies_loud (Some effect) table one given e = ap (λ (g : Option ℕ × Leaf). too_great (part.Tallies table) g one) (weighs_some (Some effect.0) effect.1 given e)

part_quiet : (component : ComponentForm) (p : Part) (one : Done) → IsPart component p → growth_of component one.op ≡ None → passes_in component p one ≡ false
part_quiet (a_cell shape starts effects) p one is e = refl
part_quiet (a_table key shape starts effects) p one is e = refl
part_quiet (a_set key effects) p one is e = refl
part_quiet (a_tally effects) (part.Tally sums) one is e = tally_quiet (effect_of effects one) sums one is e
part_quiet (tallies key effects) (part.Tallies table) one is e = tallies_quiet key (effect_of effects one) table one is.start_is is.each e
part_quiet (a_tally effects) _ one is e = absurd is
part_quiet (tallies key effects) _ one is e = absurd is

part_loud : (component : ComponentForm) (p : Part) (one : Done) (given : Option ℕ × Leaf) → IsPart component p → growth_of component one.op ≡ Some given → passes_in component p one ≡ too_great p given one
part_loud (a_cell shape starts effects) p one given is e = absurd (some_none given (sym e))
part_loud (a_table key shape starts effects) p one given is e = absurd (some_none given (sym e))
part_loud (a_set key effects) p one given is e = absurd (some_none given (sym e))
part_loud (a_tally effects) (part.Tally sums) one given is e = tally_loud (effect_of effects one) sums one given e
part_loud (tallies key effects) (part.Tallies table) one given is e = tallies_loud (effect_of effects one) table one given e
part_loud (a_tally effects) _ one given is e = absurd is
part_loud (tallies key effects) _ one given is e = absurd is

-- sums by place
same_place : (sums : ℕ → ℕ) (place sum : ℕ) → with_sum sums place sum place ≡ sum
same_place sums place sum = ap (λ b. cond b sum (sums place)) (eq-eqb place place refl)

below_itself : (k place : ℕ) → k < place → k ≡ place → ⊥
below_itself k place l e = omega arith

other_place : (sums : ℕ → ℕ) (place sum k : ℕ) → k < place → with_sum sums place sum k ≡ sums k
other_place sums place sum k l =
    ⊎_elim (λ (t : (k == place) ≡ true). absurd (below_itself k place l (eqb-true k place t))) (λ (f : (k == place) ≡ false). ap (λ b. cond b sum (sums k)) f) (cases_Bool (k == place))

next_place : (k place : ℕ) → k < place → k < suc place
next_place k place l = omega arith

this_place : (place : ℕ) → place < suc place
this_place place = omega arith

-- the parts from a place on
abbrev pub Stand : List Part → ℕ → List Part → Type 0
Stand parts place [] = Unit {0}
Stand parts place (p ∷ ps) = (slice_get parts place ≡ Some p) × Stand parts (suc place) ps

stand_later : (x : Part) (parts : List Part) (place : ℕ) (ps : List Part) → Stand parts place ps → Stand (x ∷ parts) (suc place) ps
stand_later x parts place [] h = tt
stand_later x parts place (p ∷ ps) h = (h.0, stand_later x parts (suc place) ps h.1)

pub stand_all : (parts : List Part) → Stand parts 0 parts
stand_all [] = tt
stand_all (p ∷ ps) = (refl, stand_later p ps 0 ps (stand_all ps))

-- what was found of a sum that grows
abbrev pub HeldAt : Option (Option ℕ × Leaf) → Part → Done → ℕ → Type 0
HeldAt None p one n = Unit {0}
HeldAt (Some given) p one n = n ≡ own_sum (Some p) given.0 one + weight_of (Some given.1) one

abbrev pub Held : (ℕ → ℕ) → ℕ → List ComponentForm → List Part → Done → Type 0
Held sums place [] ps one = Unit {0}
Held sums place (component ∷ components) [] one = Unit {0}
Held sums place (component ∷ components) (p ∷ ps) one = HeldAt (growth_of component one.op) p one (sums place) × Held sums (suc place) components ps one

abbrev pub too_full : ℕ → List Part → Ending
too_full clock parts = record { refusal = Some full; clock = clock; parts = parts }

-- the statements of a list, before others, find the sums, or one of them is too great
pub record Grows (passes : ℕ → Bool) (clock : ℕ) (parts : List Part) (one : Done) (sums : ℕ → ℕ) (place : ℕ) (Holds : (ℕ → ℕ) → Type 0) (limit : Bool) (list more : List Stated) : Type 0 where
  pub found : ℕ → ℕ
  pub before : (k : ℕ) → k < place → found k ≡ sums k
  pub held : Holds found
  pub ends : limit ≡ true → ending_of (runs passes list (doing clock parts one sums)) ≡ too_full clock parts
  pub continues : limit ≡ false → runs passes list (doing clock parts one sums) ≡ runs passes more (doing clock parts one found)

false_true : false ≡ true → ⊥
false_true e = cc

-- one sum, and those after it
grows_some : (passes : ℕ → Bool) (clock : ℕ) (parts : List Part) (one : Done) (sums : ℕ → ℕ) (place : ℕ) (p : Part) (given : Option ℕ × Leaf) (here limit : Bool) (Rest : (ℕ → ℕ) → Type 0) (list more : List Stated)
    → here ≡ too_great p given one → slice_get parts place ≡ Some p
    → Grows passes clock parts one (with_sum sums place (own_sum (Some p) given.0 one + weight_of (Some given.1) one)) (suc place) Rest limit list more
    → Grows passes clock parts one sums place (λ s. HeldAt (Some given) p one (s place) × Rest s) (here || limit) (grown place (Some given) list) more
grows_some passes clock parts one sums place p given here limit Rest list more loud there rest =
    let sum = own_sum (Some p) given.0 one + weight_of (Some given.1) one in
    let now = doing clock parts one sums in
    let next = doing clock parts one (with_sum sums place sum) in
    let run : runs passes (grows place given.0 given.1 ∷ list) now ≡ and_then (if_sum place sum now) (λ (later : Doing). runs passes list later) =
    ap (λ (o : Option Part). and_then (if_sum place (own_sum o given.0 one + weight_of (Some given.1) one) now) (λ (later : Doing). runs passes list later)) there in
    let when : (b : Bool) → too_great p given one ≡ b → runs passes (grows place given.0 given.1 ∷ list) now ≡ and_then (cond b (refused full now) (goes next)) (λ (later : Doing). runs passes list later) =
    λ b e. run ∙ ap (λ (c : Bool). and_then (cond c (refused full now) (goes next)) (λ (later : Doing). runs passes list later)) e in
    record {
      found = rest.found;
      before = λ k l. rest.before k (next_place k place l) ∙ other_place sums place sum k l;
      held = (rest.before place (this_place place) ∙ same_place sums place sum, rest.held);
      ends = λ e. ⊎_elim (λ (t : too_great p given one ≡ true). ap ending_of (when true t))
          (λ (f : too_great p given one ≡ false). ap ending_of (when false f) ∙ rest.ends (sym (ap (λ b. b || limit) (loud ∙ f)) ∙ e)) (cases_Bool (too_great p given one));
      continues = λ e. ⊎_elim (λ (t : too_great p given one ≡ true). absurd (false_true (sym e ∙ ap (λ b. b || limit) (loud ∙ t))))
          (λ (f : too_great p given one ≡ false). when false f ∙ rest.continues (sym (ap (λ b. b || limit) (loud ∙ f)) ∙ e)) (cases_Bool (too_great p given one));
    }

grows_none : (passes : ℕ → Bool) (clock : ℕ) (parts : List Part) (one : Done) (sums : ℕ → ℕ) (place : ℕ) (p : Part) (here limit : Bool) (Rest : (ℕ → ℕ) → Type 0) (list more : List Stated)
    → here ≡ false → Grows passes clock parts one sums (suc place) Rest limit list more
    → Grows passes clock parts one sums place (λ s. HeldAt None p one (s place) × Rest s) (here || limit) (grown place None list) more
grows_none passes clock parts one sums place p here limit Rest list more quiet rest = record {
  found = rest.found;
  before = λ k l. rest.before k (next_place k place l);
  held = (tt, rest.held);
  ends = λ e. rest.ends (sym (ap (λ b. b || limit) quiet) ∙ e);
  continues = λ e. rest.continues (sym (ap (λ b. b || limit) quiet) ∙ e);
}

grows_by : (passes : ℕ → Bool) (clock : ℕ) (parts : List Part) (one : Done) (sums : ℕ → ℕ) (place : ℕ) (component : ComponentForm) (p : Part) (growth : Option (Option ℕ × Leaf)) (limit : Bool) (Rest : (ℕ → ℕ) → Type 0)
    (list more : List Stated) → growth_of component one.op ≡ growth → IsPart component p → slice_get parts place ≡ Some p
    → ((other : ℕ → ℕ) → Grows passes clock parts one other (suc place) Rest limit list more)
    → Grows passes clock parts one sums place (λ s. HeldAt growth p one (s place) × Rest s) (passes_in component p one || limit) (grown place growth list) more
grows_by passes clock parts one sums place component p None limit Rest list more e is there rest =
    grows_none passes clock parts one sums place p (passes_in component p one) limit Rest list more (part_quiet component p one is e) (rest sums)
grows_by passes clock parts one sums place component p (Some given) limit Rest list more e is there rest =
    grows_some passes clock parts one sums place p given (passes_in component p one) limit Rest list more (part_loud component p one given is e) there
    (rest (with_sum sums place (own_sum (Some p) given.0 one + weight_of (Some given.1) one)))

pub grow_all : (passes : ℕ → Bool) (clock : ℕ) (parts : List Part) (one : Done) (sums : ℕ → ℕ) (place : ℕ) (components : List ComponentForm) (ps : List Part) (more : List Stated) → AreMatched IsPart components ps
    → Stand parts place ps
    → Grows passes clock parts one sums place (λ s. Held s place components ps one) (passes_limit components ps one) (all_grown place components one.op more) more
grow_all passes clock parts one sums place [] [] more is stand =
    record { found = sums; before = λ k l. refl; held = tt; ends = λ e. absurd (false_true e); continues = λ e. refl }
grow_all passes clock parts one sums place [] (p ∷ ps) more is stand = absurd is
grow_all passes clock parts one sums place (component ∷ components) [] more is stand = absurd is
grow_all passes clock parts one sums place (component ∷ components) (p ∷ ps) more is stand =
    grows_by passes clock parts one sums place component p (growth_of component one.op) (passes_limit components ps one) (λ s. Held s (suc place) components ps one)
    (all_grown (suc place) components one.op more) more refl is.0 stand.0
    (λ other. grow_all passes clock parts one other (suc place) components ps more is.1 stand.1)
