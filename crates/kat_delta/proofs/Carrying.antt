-- What one operation adds to a delta: its effects, with the sums that are carried over.
use Rattle.std.proofs.Common.{◌≡◌, ℕ, ◌+◌, Bool, true, false, inl, inr, ⊎_elim, List, [], ◌∷◌, map, refl, sym, ◌∙◌, ap, subst, cond, arith, Option, None, Some}
use Rattle.std.specs.Prelude.{◌==◌, ◌||◌, ◌&&◌, option_map}
use Rattle.std.specs.List.{list_all}
use Rattle.std.specs.Option.{is_some, unwrap_or}
use Rattle.std.specs.Cmp.{IsTotalOrder}
use Rattle.std.specs.Ordering.{is_eq}
use Rattle.std.specs.declared.cmp.Ordering.{Ordering}
use Rattle.std.specs.declared.cmp.Ordering.TheVariants.{Less, Equal, Greater}
use Rattle.std.proofs.lemmas.Bool.{eqb-true, eq-eqb, false≢true}
use Rattle.kat_num.specs.Orders.{value_order}
use Rattle.kat_num.specs.declared.values.Sort.{Sort}
use Rattle.kat_num.specs.declared.values.Value.{Value}
use Rattle.kat_type.specs.Lists.{Has, IsOnce}
use Rattle.kat_type.specs.declared.done.Done.{Done}
use Rattle.kat_type.specs.declared.signatures.OpSig.{OpSig}
use Rattle.kat_expr.specs.Slots.{argument}
use Rattle.kat_lattice.specs.MapLaws.{map_laws}
use Rattle.kat_lattice.specs.Maps.{Table, at_key}
use Rattle.kat_lattice.specs.Sets.{TellsApart}
use Rattle.kat_lattice.specs.Tallies.{Sums, sum_of, tally_laws}
use Rattle.kat_lattice.proofs.Readings.{same_sums_same_tally, same_values_same_map}
use Rattle.kat_design.specs.Denotations.{bumped_key, component_meaning, key_given, keyed_weight, part_added, part_of, tally_weight}
use Rattle.kat_design.specs.Designs.{ComponentForm, component_form}
use Rattle.kat_design.specs.declared.designs.Component.{Component}
use Rattle.kat_design.specs.Designs.ComponentForm.{a_cell, a_table, a_set, a_tally, tallies}
use Rattle.kat_design.specs.Effects.{effect_of}
use Rattle.kat_design.specs.KeyedTallies.{bumped_at, table_of, weight_at}
use Rattle.kat_design.specs.Meanings.{added_each, are_kin, states_of}
use Rattle.kat_design.specs.Parts.{PartsKin}
use Rattle.kat_design.specs.Readings.{is_given}
use Rattle.kat_design.specs.Small.{is_roomy_part}
use Rattle.kat_design.specs.Sorted.{EachHas, IsComponent}
use Rattle.kat_design.specs.Tallied.{bumped, share, sum_done, tally_of}
use Rattle.kat_type.specs.Unions.{AreAmong}
use Rattle.kat_design.specs.declared.designs.Leaf.{Leaf}
use Rattle.kat_design.specs.declared.states.Part.{Part}
use Rattle.kat_design.specs.declared.states.Part.TheVariants as part
use Rattle.kat_design.proofs.KeyedTallying.{keyed_tallies_mean, table_reads}
use Rattle.kat_design.proofs.Tallies.{bumped_is, empty_is, sum_bumped, tally_is, tally_sum}
use Rattle.kat_design.proofs.Tallying.{same_sum_done, share_cases}
use Rattle.kat_design.proofs.WholeDesigns.{component_means}
use Rattle.kat_delta.specs.Carrying.{carried, carried_each, late_part, no_tallies, own_sum, own_sum_at, told_by}
use Rattle.kat_delta.specs.Deltas.{act_at, acts}
use Rattle.kat_delta.proofs.Sending.{share_none, tally_as}
use Rattle.kat_delta.proofs.Telling.{kept_sum, table_as, tallies_tell, tally_tells, weight_there}

-- own operations, with what is known of them
pub record Mine (r : ℕ) (own all : List Done) : Type 0 where
  pub once : IsOnce own
  pub twice : IsOnce all
  pub placed : (one : Done) → Has own one → one.replica ≡ r
  pub there : AreAmong r own all
  pub back : AreAmong r all own

no_share_there : (weight : Done → ℕ) (r q : ℕ) (one : Done) → one.replica ≡ r → (r == q) ≡ false → share weight q one ≡ 0
no_share_there weight r q one is e =
    ⊎_elim (λ (none : share weight q one ≡ 0). none) (λ (there : one.replica ≡ q). absurd (false≢true (sym e ∙ eq-eqb r q (sym is ∙ there)))) (share_cases weight q one)

two_none : (a b : ℕ) → a ≡ 0 → b ≡ 0 → a + b ≡ 0
two_none a b e f = omega arith

pub others_none : (weight : Done → ℕ) (r q : ℕ) (ones : List Done) → ((one : Done) → Has ones one → one.replica ≡ r) → (r == q) ≡ false → sum_done weight q ones ≡ 0
others_none weight r q [] placed e = refl
others_none weight r q (one ∷ ones) placed e =
    two_none (share weight q one) (sum_done weight q ones) (no_share_there weight r q one (placed one (inl refl)) e) (others_none weight r q ones (λ x h. placed x (inr h)) e)

-- the sum of a replica in all is that of its own, and its own have no other sum
own_total_from : (weight : Done → ℕ) (r q : ℕ) (own all : List Done) → Mine r own all → (b : Bool) → (r == q) ≡ b → cond b (sum_done weight r all) 0 ≡ sum_done weight q own
own_total_from weight r q own all m true e =
    let same : r ≡ q = eqb-true r q e in
    same_sum_done weight r all own m.twice m.once m.back m.there ∙ ap (λ n. sum_done weight n own) same
own_total_from weight r q own all m false e = sym (others_none weight r q own m.placed e)

own_total : (weight : Done → ℕ) (r q : ℕ) (own all : List Done) → Mine r own all → cond (r == q) (sum_done weight r all) 0 ≡ sum_done weight q own
own_total weight r q own all m = own_total_from weight r q own all m (r == q) refl

-- a tally
tally_also : (weight other : Done → ℕ) (xs ys : List Done) → ((q : ℕ) → sum_done weight q xs ≡ sum_done other q ys) → tally_of weight xs ≡ tally_of other ys
tally_also weight other xs ys e =
    same_sums_same_tally (tally_of weight xs) (tally_of other ys) (record { left = tally_is weight xs; right = tally_is other ys })
    (λ q. tally_sum weight xs q ∙ e q ∙ sym (tally_sum other ys q))

plus_none : (n : ℕ) → n + 0 ≡ n
plus_none n = omega arith

none_plus_none : (n : ℕ) → n ≡ 0 → n + 0 ≡ 0
none_plus_none n e = omega arith

-- with the choice that is made in the code, on any effects
tally_late : (effects : List (Option Leaf)) (own all : List Done) (done : Done) → Mine done.replica own all → (e : Bool) → acts effects done ≡ e
    → unwrap_or (cond {A = Option Part} e (Some (part.Tally (own_sum (tally_of (tally_weight effects) all) done.replica))) None) (part_added (a_tally effects) (part.Tally []) done)
    ≡ part.Tally (tally_of (tally_weight effects) (cond (e || false) own []))
tally_late effects own all done m true is =
    let w = tally_weight effects in
    let r = done.replica in
    let s = sum_of (tally_of w all) r in
    ap part.Tally (same_sums_same_tally (bumped [] r s) (tally_of w own) (record { left = bumped_is [] r s empty_is; right = tally_is w own })
    (λ q. sum_bumped [] r s q empty_is ∙ plus_none (cond (r == q) s 0) ∙ ap (λ n. cond (r == q) n 0) (tally_sum w all r) ∙ own_total w r q own all m ∙ sym (tally_sum w own q)))
tally_late effects own all done m false is =
    let w = tally_weight effects in
    ap part.Tally (tally_as w (done ∷ []) [] (λ q. none_plus_none (share w q done) (share_none w q done ((tally_tells effects).quiet done is))))

-- tallies by key
there_from : (key : Value) (effect : Option (ℕ × Leaf)) (done : Done) → is_some effect ≡ true
    → is_given key (option_map (λ (e : ℕ × Leaf). argument done.args e.0) effect) ≡ is_eq (value_order key (key_given effect done))
there_from key None done e = absurd cc
there_from key (Some effect) done e = refl

nowhere_from : (key : Value) (effect : Option (ℕ × Leaf)) (done : Done) → is_some effect ≡ false
    → is_given key (option_map (λ (e : ℕ × Leaf). argument done.args e.0) effect) ≡ false
nowhere_from key None done e = refl
nowhere_from key (Some effect) done e = absurd cc

equal_from : (o : Ordering) → is_eq o ≡ true → o ≡ Equal
equal_from Less e = absurd cc
equal_from Equal e = refl
equal_from Greater e = absurd cc

-- at a key that is the operation's, the sum that is carried is the sum there
carried_here : IsTotalOrder value_order → TellsApart value_order → (effects : List (Option (ℕ × Leaf))) (all : List Done) (r : ℕ) (key there : Value) (e : Bool) → is_eq (value_order key there) ≡ e
    → cond e (sum_of (at_key value_order (table_of value_order (bumped_key effects) (keyed_weight effects) all) there) r) 0 ≡ cond e (sum_done (weight_there effects key) r all) 0
carried_here o tells effects all r key there true e =
    let same : key ≡ there = tells key there (equal_from _ e) in
    ap (λ (k : Value). sum_of (at_key value_order (table_of value_order (bumped_key effects) (keyed_weight effects) all) k) r) (sym same)
    ∙ ap (λ (s : Sums). sum_of s r) (table_reads o tells (bumped_key effects) (keyed_weight effects) all key)
    ∙ tally_sum (weight_there effects key) all r
carried_here o tells effects all r key there false e = refl

turned_conds : (e b : Bool) (s t : ℕ) → cond b s 0 ≡ t → cond b (cond e s 0) 0 + 0 ≡ cond (e || false) t 0
turned_conds true b s t h = plus_none (cond b s 0) ∙ h
turned_conds false true s t h = refl
turned_conds false false s t h = refl

tallies_late : IsTotalOrder value_order → TellsApart value_order → (sort : Sort) (effects : List (Option (ℕ × Leaf))) (own all : List Done) (done : Done) → Mine done.replica own all → (e : Bool) → acts effects done ≡ e
    → unwrap_or (cond {A = Option Part} e (Some (part.Tallies (own_sum_at (table_of value_order (bumped_key effects) (keyed_weight effects) all) (bumped_key effects done) done.replica))) None) (part_added (tallies sort effects) (part.Tallies no_tallies) done)
    ≡ part.Tallies (table_of value_order (bumped_key effects) (keyed_weight effects) (told_by (tallies sort effects) (done ∷ []) own))
tallies_late o tells sort effects own all done m true is =
    let key = bumped_key effects done in
    let r = done.replica in
    let s = sum_of (at_key value_order (table_of value_order (bumped_key effects) (keyed_weight effects) all) key) r in
    let sent = told_by (tallies sort effects) (done ∷ []) own in
    let mine : Table Value Sums = table_of value_order (λ (one : Done). key) (λ (one : Done). s) (done ∷ []) in
    let there : Table Value Sums = table_of value_order (bumped_key effects) (keyed_weight effects) sent in
    let laws = map_laws {cmp = value_order} o tally_laws in
    let kin = laws.kin_trans mine no_tallies there ((keyed_tallies_mean value_order o tells (λ (one : Done). key) (λ (one : Done). s)).goes (done ∷ []) [])
    ((keyed_tallies_mean value_order o tells (bumped_key effects) (keyed_weight effects)).goes [] sent) in
    ap part.Tallies (same_values_same_map o mine there kin
    (λ k. table_reads o tells (λ (one : Done). key) (λ (one : Done). s) (done ∷ []) k
    ∙ tally_also (weight_at value_order (λ (one : Done). key) (λ (one : Done). s) k) (weight_there effects k) (done ∷ []) sent
    (λ q. ap (λ n. cond (r == q) n 0 + 0) (carried_here o tells effects all r k key (is_eq (value_order k key)) refl)
    ∙ turned_conds (is_eq (value_order k key)) (r == q) (sum_done (weight_there effects k) r all) (sum_done (weight_there effects k) q own) (own_total (weight_there effects k) r q own all m)
    ∙ ap (λ b. cond (b || false) (sum_done (weight_there effects k) q own) 0) (sym (there_from k (effect_of effects done) done is))
    ∙ sym (kept_sum tells (bumped_key effects) (keyed_weight effects) (act_at effects (done ∷ [])) k q own))
    ∙ sym (table_reads o tells (bumped_key effects) (keyed_weight effects) sent k)))
tallies_late o tells sort effects own all done m false is =
    let sent = told_by (tallies sort effects) (done ∷ []) own in
    ap part.Tallies (table_as o tells (bumped_key effects) (keyed_weight effects) (done ∷ []) sent
    (λ k q. none_plus_none (share (weight_there effects k) q done) (share_none (weight_there effects k) q done ((tallies_tell tells sort effects k).quiet done (nowhere_from k (effect_of effects done) done is)))
    ∙ sym (kept_sum tells (bumped_key effects) (keyed_weight effects) (act_at effects (done ∷ [])) k q own
    ∙ ap (λ b. cond (b || false) (sum_done (weight_there effects k) q own) 0) (nowhere_from k (effect_of effects done) done is))))

-- a part of each kind
part_late : IsTotalOrder value_order → TellsApart value_order → (ops : List OpSig) (component : ComponentForm) → IsComponent ops component → (own all : List Done) (done : Done) → Mine done.replica own all
    → unwrap_or (carried component (part_of component all) done) (part_added component (part_of component []) done) ≡ late_part component (done ∷ []) own
part_late o tells ops (a_cell shape starts effects) is own all done m = (component_means o tells ops (a_cell shape starts effects) is).adds [] done
part_late o tells ops (a_table key shape starts effects) is own all done m = (component_means o tells ops (a_table key shape starts effects) is).adds [] done
part_late o tells ops (a_set key effects) is own all done m = (component_means o tells ops (a_set key effects) is).adds [] done
part_late o tells ops (a_tally effects) is own all done m = tally_late effects own all done m (acts effects done) refl
part_late o tells ops (tallies sort effects) is own all done m = tallies_late o tells sort effects own all done m (acts effects done) refl

two : {A : Type 0} (x y : A) (xs ys : List A) → x ≡ y → xs ≡ ys → x ∷ xs ≡ y ∷ ys
two x y xs ys e f = cc

late_is : IsTotalOrder value_order → TellsApart value_order → (ops : List OpSig) (components : List ComponentForm) → EachHas (IsComponent ops) components → (own all : List Done) (done : Done) → Mine done.replica own all
    → carried_each components (added_each (map component_meaning components) (states_of (map component_meaning components) []) done) (states_of (map component_meaning components) all) done
    ≡ map (λ component. late_part component (done ∷ []) own) components
late_is o tells ops [] is own all done m = refl
late_is o tells ops (component ∷ components) is own all done m = two _ _ _ _ (part_late o tells ops component is.0 own all done m) (late_is o tells ops components is.1 own all done m)

-- what is carried goes with the starts
tally_kin : (sums other : Sums) (r : ℕ) (e : Bool) → PartsKin (part.Tally other) (part.Tally []) → PartsKin (unwrap_or (cond {A = Option Part} e (Some (part.Tally (own_sum sums r))) None) (part.Tally other)) (part.Tally [])
tally_kin sums other r true h = record { left = bumped_is [] r (sum_of sums r) empty_is; right = empty_is }
tally_kin sums other r false h = h

tallies_kin_at : IsTotalOrder value_order → TellsApart value_order → (other : Table Value Sums) (key : Value) (s : ℕ) (done : Done) (e : Bool) → PartsKin (part.Tallies other) (part.Tallies no_tallies)
    → PartsKin (unwrap_or (cond {A = Option Part} e (Some (part.Tallies (bumped_at value_order no_tallies key done.replica s))) None) (part.Tallies other)) (part.Tallies no_tallies)
tallies_kin_at o tells other key s done true h = (keyed_tallies_mean value_order o tells (λ (one : Done). key) (λ (one : Done). s)).goes (done ∷ []) []
tallies_kin_at o tells other key s done false h = h

carried_part_kin : IsTotalOrder value_order → TellsApart value_order → (component : ComponentForm) (p other : Part) (done : Done) → PartsKin other (part_of component []) → PartsKin (unwrap_or (carried component p done) other) (part_of component [])
carried_part_kin o tells (a_cell shape starts effects) p other done h = h
carried_part_kin o tells (a_table key shape starts effects) p other done h = h
carried_part_kin o tells (a_set key effects) p other done h = h
carried_part_kin o tells (a_tally effects) (part.Tally sums) (part.Tally other) done h = tally_kin sums other done.replica (acts effects done) h
carried_part_kin o tells (a_tally effects) (part.Tally sums) _ done h = absurd h
carried_part_kin o tells (a_tally effects) _ other done h = h
carried_part_kin o tells (tallies key effects) (part.Tallies table) (part.Tallies other) done h =
    tallies_kin_at o tells other (bumped_key effects done) (sum_of (at_key value_order table (bumped_key effects done)) done.replica) done (acts effects done) h
carried_part_kin o tells (tallies key effects) (part.Tallies table) _ done h = absurd h
carried_part_kin o tells (tallies key effects) _ other done h = h

carried_kin : IsTotalOrder value_order → TellsApart value_order → (components : List ComponentForm) (starts parts : List Part) (done : Done) → are_kin PartsKin starts (states_of (map component_meaning components) [])
    → are_kin PartsKin (carried_each components starts parts done) (states_of (map component_meaning components) [])
carried_kin o tells [] [] parts done h = h
carried_kin o tells [] (start ∷ starts) parts done h = absurd h
carried_kin o tells (component ∷ components) [] parts done h = absurd h
carried_kin o tells (component ∷ components) (start ∷ starts) [] done h = h
carried_kin o tells (component ∷ components) (start ∷ starts) (p ∷ parts) done h =
    (carried_part_kin o tells component p start done h.0, carried_kin o tells components starts parts done h.1)

-- at the start there is room
start_roomy : (component : ComponentForm) → is_roomy_part (part_of component []) ≡ true
start_roomy (a_cell shape starts effects) = refl
start_roomy (a_table key shape starts effects) = refl
start_roomy (a_set key effects) = refl
start_roomy (a_tally effects) = refl
start_roomy (tallies key effects) = refl

and_true : (a b : Bool) → a ≡ true → b ≡ true → (a && b) ≡ true
and_true a b e f = cc

pub starts_roomy : (components : List ComponentForm) → list_all is_roomy_part (states_of (map component_meaning components) []) ≡ true
starts_roomy [] = refl
starts_roomy (component ∷ components) =
    and_true (is_roomy_part (part_of component [])) (list_all is_roomy_part (states_of (map component_meaning components) [])) (start_roomy component) (starts_roomy components)

pub carried_as : (components others : List Component) (starts first parts old new : List Part) (done : Done) → others ≡ components → starts ≡ first → parts ≡ old
    → new ≡ carried_each (map component_form others) starts parts done → new ≡ carried_each (map component_form components) first old done
carried_as components others starts first parts old new done e f g is =
    is ∙ ap (λ (cs : List Component). carried_each (map component_form cs) starts parts done) e ∙ ap (λ (ps : List Part). carried_each (map component_form components) ps parts done) f
    ∙ ap (λ (ps : List Part). carried_each (map component_form components) first ps done) g

pub kin_as : IsTotalOrder value_order → TellsApart value_order → (components : List ComponentForm) (starts parts new : List Part) (done : Done)
    → new ≡ carried_each components starts parts done → are_kin PartsKin starts (states_of (map component_meaning components) []) → are_kin PartsKin new (states_of (map component_meaning components) [])
kin_as o tells components starts parts new done e h =
    subst (λ (ps : List Part). are_kin PartsKin ps (states_of (map component_meaning components) [])) (sym e) (carried_kin o tells components starts parts done h)

pub late_as : IsTotalOrder value_order → TellsApart value_order → (ops : List OpSig) (components : List ComponentForm) → EachHas (IsComponent ops) components → (starts parts new : List Part) (own all : List Done) (done : Done) → Mine done.replica own all
    → new ≡ carried_each components starts parts done → starts ≡ added_each (map component_meaning components) (states_of (map component_meaning components) []) done
    → parts ≡ states_of (map component_meaning components) all → new ≡ map (λ component. late_part component (done ∷ []) own) components
late_as o tells ops components is starts parts new own all done m e f g =
    e ∙ ap (λ (ps : List Part). carried_each components ps parts done) f
    ∙ ap (λ (ps : List Part). carried_each components (added_each (map component_meaning components) (states_of (map component_meaning components) []) done) ps done) g
    ∙ late_is o tells ops components is own all done m
