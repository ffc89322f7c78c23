-- An operation passes the limit of sums if and only if the state with it has a sum past the limit.
use Rattle.std.proofs.Common.{◌≡◌, ◌≢◌, ℕ, ◌+◌, ◌<◌, ◌≤◌, max, ◌⊎◌, inl, inr, ⊎_elim, ◌↔◌, Bool, true, false, cond, List, [], ◌∷◌, map, refl, sym, ◌∙◌, ap, subst, arith, Option, None, Some}
use Rattle.std.specs.Prelude.{◌==◌, ◌||◌, option_map}
use Rattle.std.specs.Cmp.{IsTotalOrder}
use Rattle.std.specs.Ordering.{is_eq, nat_cmp}
use Rattle.std.proofs.lemmas.Bool.{cases_Bool, eq-eqb, eqb-true, ltb-true}
use Rattle.std.proofs.lemmas.Cmp.{tied_itself}
use Rattle.kat_num.specs.Orders.{value_order}
use Rattle.kat_num.specs.declared.values.Sort.{Sort}
use Rattle.kat_num.specs.declared.values.Value.{Value}
use Rattle.kat_lattice.specs.Keyed.{value_or}
use Rattle.kat_lattice.specs.MapLaws.{at_key-joined}
use Rattle.kat_lattice.specs.Maps.{IsMap, MapsKin, Table, at_key, maps_joined}
use Rattle.kat_lattice.specs.Sets.{TellsApart}
use Rattle.kat_lattice.specs.Tallies.{IsTally, Sums, TalliesKin, sum_of, tallies_joined, tally_laws}
use Rattle.kat_lattice.proofs.Readings.{takes_greater_sums}
use Rattle.kat_script.specs.declared.rules.TheConstants.{TIME_LIMIT}
use Rattle.kat_type.specs.Lists.{Has}
use Rattle.kat_type.specs.declared.done.Done.{Done}
use Rattle.kat_design.specs.Denotations.{component_meaning, key_given, part_added, part_of, weight_of}
use Rattle.kat_design.specs.Designs.{ComponentForm, DesignForm}
use Rattle.kat_design.specs.Designs.ComponentForm.{a_cell, a_table, a_set, a_tally, tallies}
use Rattle.kat_design.specs.Effects.{effect_of}
use Rattle.kat_design.specs.KeyedTallies.{bumped_at, single}
use Rattle.kat_design.specs.Meanings.{added_each, are_kin, states_of}
use Rattle.kat_design.specs.Parts.{PartsKin}
use Rattle.kat_design.specs.Sorted.{AreMatched, EachHas, IsWellSorted}
use Rattle.kat_design.specs.Tallied.{bumped}
use Rattle.kat_design.specs.declared.designs.Leaf.{Leaf}
use Rattle.kat_design.specs.declared.states.Part.{Part}
use Rattle.kat_design.specs.declared.states.Part.TheVariants as part
use Rattle.kat_design.proofs.KeyedTallying.{not_empty}
use Rattle.kat_design.proofs.Tallies.{bumped_is, empty_is, sum_bumped}
use Rattle.kat_actions.specs.Texts as calls
use Rattle.kat_actions.specs.declared.calls.Call.{Call}
use Rattle.kat_actions.specs.declared.calls.Verb.TheVariants.{Do}
use Rattle.kat_node.specs.Nodes.{AreSums, IsEntry, IsNode, IsPart, IsSum}
use Rattle.kat_node.specs.Packets.{parts_of}
use Rattle.kat_node.specs.declared.nodes.Node.{Node}
use Rattle.kat_node.proofs.Going.{parts_go}
use Rattle.kat_step.specs.Limits.{HasSumPast, IsPartPast, IsStatePast, passes_in, passes_limit, tallies_pass, tally_passes}
use Rattle.kat_step.specs.Steps.{done_by, with_action}
use Rattle.kat_step.specs.declared.steps.TheConstants.{SUM_LIMIT}
use Rattle.kat_step.proofs.Acting.{action_kept}
use Rattle.kat_step.proofs.Growing.{at_key_sums, found_has}

-- a sum that grows past the limit
past_by : (most s w a : ℕ) → most < s + w → a ≡ w + s → most < a
past_by most s w a l e = omega arith

past_without : (most s w : ℕ) → most < s + w → w ≡ 0 → most < s
past_without most s w l e = omega arith

past_greater : (most a b c : ℕ) → most < b → c ≡ max a b → most < c
past_greater most a b c l e = omega arith

bumped_past : (sums : Sums) (replica w : ℕ) → IsTally sums → SUM_LIMIT < sum_of sums replica + w → SUM_LIMIT < sum_of (bumped sums replica w) replica
bumped_past sums replica w h l =
    past_by SUM_LIMIT (sum_of sums replica) w (sum_of (bumped sums replica w) replica) l
    (sum_bumped sums replica w replica h ∙ ap (λ b. cond b w 0 + sum_of sums replica) (eq-eqb replica replica refl))

tally_past : (effect : Option Leaf) (sums : Sums) (done : Done) → IsTally sums → tally_passes effect sums done ≡ true → HasSumPast (bumped sums done.replica (weight_of effect done))
tally_past None sums done h e = absurd cc
tally_past (Some leaf) sums done h e =
    (done.replica, bumped_past sums done.replica (weight_of (Some leaf) done) h (ltb-true SUM_LIMIT (sum_of sums done.replica + weight_of (Some leaf) done) e))

-- at a key
value_cond : (b : Bool) (key : Value) (v : Sums) → value_or [] (cond {A = Option (Value × Sums)} b (Some (key, v)) None) ≡ cond b v []
value_cond true key v = refl
value_cond false key v = refl

single_at : (key k : Value) (v : Sums) → at_key value_order (single key v) k ≡ cond (is_eq (value_order k key)) v []
single_at key k v = value_cond (is_eq (value_order k key)) key v

tally_if : (b : Bool) (v : Sums) → IsTally v → IsTally (cond b v [])
tally_if true v h = h
tally_if false v h = empty_is

single_is : (key : Value) (v : Sums) → IsTally v → v ≢ [] → IsMap value_order TalliesKin tallies_joined (single key v)
single_is key v h n = record {
  ascending = (tt, tt);
  kept = (record { goes = record { left = empty_is; right = h }; own = tally_laws.comm [] v (record { left = empty_is; right = h }); differs = n }, tt);
}

-- the tables of no operation
abbrev no_tallies : Table Value Sums
no_tallies = record { start = []; entries = [] }

table_past : IsTotalOrder value_order → (table : Table Value Sums) (k : Value) (replica w : ℕ) (b : Bool) → (w == 0) ≡ b → MapsKin value_order TalliesKin tallies_joined table no_tallies
    → SUM_LIMIT < sum_of (at_key value_order table k) replica + w
    → HasSumPast (at_key value_order (cond b table (maps_joined value_order tallies_joined table (single k (bumped (at_key value_order table k) replica w)))) k)
table_past total table k replica w true e kin l = (replica, past_without SUM_LIMIT (sum_of (at_key value_order table k) replica) w l (eqb-true w 0 e))
table_past total table k replica w false e kin l =
    let old = at_key value_order table k in
    let h : IsTally old = (kin.values k).left in
    let v = bumped old replica w in
    let is : IsTally v = bumped_is old replica w h in
    let goes : MapsKin value_order TalliesKin tallies_joined table (single k v) = record {
      tells_apart = kin.tells_apart;
      left = kin.left;
      right = single_is k v is (not_empty old replica w h e);
      starts = kin.starts;
      values = λ q. record { left = (kin.values q).left; right = subst IsTally (sym (single_at k q v)) (tally_if (is_eq (value_order q k)) v is) };
    } in
    let there : at_key value_order (single k v) k ≡ v = single_at k k v ∙ ap (λ o. cond (is_eq o) v []) (tied_itself total k) in
    let both : at_key value_order (maps_joined value_order tallies_joined table (single k v)) k ≡ tallies_joined old v =
    at_key-joined total tally_laws table (single k v) goes k ∙ ap (λ s. tallies_joined old s) there in (
      replica,
      past_greater SUM_LIMIT (sum_of old replica) (sum_of v replica) (sum_of (at_key value_order (maps_joined value_order tallies_joined table (single k v)) k) replica) (bumped_past old replica w h l)
          (ap (λ s. sum_of s replica) both ∙ takes_greater_sums old v (record { left = h; right = is }) replica),
    )

tallies_past : IsTotalOrder value_order → (effect : Option (ℕ × Leaf)) (table : Table Value Sums) (done : Done) → MapsKin value_order TalliesKin tallies_joined table no_tallies → tallies_pass effect table done ≡ true
    → (key : Value) × HasSumPast (at_key value_order (bumped_at value_order table (key_given effect done) done.replica (weight_of (option_map (λ (e : ℕ × Leaf). e.1) effect) done)) key)
tallies_past total None table done kin e = absurd cc
tallies_past total (Some effect) table done kin e =
    let k = key_given (Some effect) done in
    let w = weight_of (Some effect.1) done in
    (k, table_past total table k done.replica w (w == 0) refl kin (ltb-true SUM_LIMIT (sum_of (at_key value_order table k) done.replica + w) e))

part_past : IsTotalOrder value_order → (component : ComponentForm) (p : Part) (done : Done) → PartsKin p (part_of component []) → passes_in component p done ≡ true
    → IsPartPast (part_added component p done)
part_past total (a_cell shape starts effects) p done kin e = absurd cc
part_past total (a_table key shape starts effects) p done kin e = absurd cc
part_past total (a_set key effects) p done kin e = absurd cc
part_past total (a_tally effects) (part.Tally sums) done kin e = tally_past (effect_of effects done) sums done kin.left e
part_past total (tallies key effects) (part.Tallies table) done kin e = tallies_past total (effect_of effects done) table done kin e
part_past total (a_tally effects) _ done kin e = absurd cc
part_past total (tallies key effects) _ done kin e = absurd cc

either : (a b : Bool) → (a || b) ≡ true → (a ≡ true) ⊎ (b ≡ true)
either true b e = inl refl
either false b e = inr e

parts_past : IsTotalOrder value_order → (components : List ComponentForm) (parts : List Part) (done : Done) → are_kin PartsKin parts (states_of (map component_meaning components) [])
    → passes_limit components parts done ≡ true → IsStatePast (added_each (map component_meaning components) parts done)
parts_past total [] [] done kin e = absurd cc
parts_past total [] (p ∷ parts) done kin e = absurd kin
parts_past total (component ∷ components) [] done kin e = absurd kin
parts_past total (component ∷ components) (p ∷ parts) done kin e =
    ⊎_elim (λ (here : passes_in component p done ≡ true). (part_added component p done, inl refl, part_past total component p done kin.0 here))
    (λ (there : passes_limit components parts done ≡ true). let more = parts_past total components parts done kin.1 there in (more.0, inr more.1, more.2))
    (either (passes_in component p done) (passes_limit components parts done) e)

-- the sums of a state file are within the limit
not_past : (most s : ℕ) → s ≤ most → most < s → ⊥
not_past most s m l = omega arith

most_sums : (sums : Sums) → EachHas IsSum sums → EachHas (λ (e : ℕ × ℕ). e.1 ≤ SUM_LIMIT) sums
most_sums [] each = tt
most_sums (s ∷ sums) each = (each.0.most, most_sums sums each.1)

sums_within : (sums : Sums) → AreSums sums → HasSumPast sums → ⊥
sums_within sums h past =
    not_past SUM_LIMIT (sum_of sums past.0) (found_has (λ n. n ≤ SUM_LIMIT) 0 (λ (e : ℕ × ℕ). nat_cmp past.0 e.0) sums (omega arith) (most_sums sums h.each)) past.1

table_within : (key : Sort) (table : Table Value Sums) (k : Value) → table.start ≡ [] → EachHas (IsEntry key AreSums) table.entries → AreSums (at_key value_order table k)
table_within key table k none each =
    let same : ◌≡◌ {A = Table Value Sums} (record { start = []; entries = table.entries }) table = λ i. record { start = sym none i; entries = table.entries } in
    subst (λ (t : Table Value Sums). AreSums (at_key value_order t k)) same (at_key_sums key table.entries k each)

part_within : (component : ComponentForm) (p : Part) → IsPart component p → IsPartPast p → ⊥
part_within (a_tally effects) (part.Tally sums) is past = sums_within sums is past
part_within (tallies key effects) (part.Tallies table) is past = sums_within (at_key value_order table past.0) (table_within key table past.0 is.start_is is.each) past.1
part_within (a_cell shape starts effects) (part.Cell cell) is past = past
part_within (a_table key shape starts effects) (part.Table table) is past = past
part_within (a_set key effects) (part.Set keys) is past = past
part_within (a_cell shape starts effects) _ is past = is
part_within (a_table key shape starts effects) _ is past = is
part_within (a_set key effects) _ is past = is
part_within (a_tally effects) _ is past = is
part_within (tallies key effects) _ is past = is

parts_within : (components : List ComponentForm) (parts : List Part) → AreMatched IsPart components parts → IsStatePast parts → ⊥
parts_within [] [] is past = past.1
parts_within [] (p ∷ parts) is past = is
parts_within (component ∷ components) [] is past = is
parts_within (component ∷ components) (p ∷ parts) is past =
    ⊎_elim (λ (same : p ≡ past.0). part_within component p is.0 (subst IsPartPast (sym same) past.2))
    (λ (rest : Has parts past.0). parts_within components parts is.1 (past.0, rest, past.2)) past.1

pub passes_means : IsTotalOrder value_order → TellsApart value_order → (d : DesignForm) (node : Node) (call : Call) → IsWellSorted d → IsNode d node → calls.FitsSignature Do d.sig call → node.replica.clock < TIME_LIMIT
    → (passes_limit d.components (parts_of node) (done_by node call) ≡ true) ↔ IsStatePast (parts_of (with_action d node call))
passes_means total apart d node call sorted is fits early =
    let done = done_by node call in (
      λ e. parts_past total d.components (parts_of node) done (parts_go apart d.sig.ops d.components (parts_of node) sorted.components is.parts) e,
      λ past. ⊎_elim (λ (e : passes_limit d.components (parts_of node) done ≡ true). e)
          (λ (within : passes_limit d.components (parts_of node) done ≡ false).
          absurd (parts_within d.components (parts_of (with_action d node call)) (action_kept total apart d node call sorted is fits early within).parts past))
          (cases_Bool (passes_limit d.components (parts_of node) done)),
    )
