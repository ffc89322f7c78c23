-- A design whose relation is an inductive invariant gives sequential answers.
use Rattle.std.proofs.Common.{◌≤◌, ◌≡◌, ◌≢◌, ℕ, suc, not, List, [], ◌∷◌, Option, Some, None, inl, inr, refl, sym, ap, subst, ◌∙◌, arith, All}
use Rattle.std.specs.Prelude.{MatchOption, slice_get}
use Rattle.std.specs.List.{AllPairs}
use Rattle.std.specs.Cmp.{IsTotalOrder}
use Rattle.std.specs.declared.cmp.Ordering.TheVariants.{Less}
use Rattle.std.proofs.lemmas.List.Elements.{All-head, All-tail, All-cons, All-nil}
use Rattle.std.proofs.lemmas.Option.{get_or_from_slice_get}
use Rattle.kat_num.specs.Orders.{value_order}
use Rattle.kat_num.specs.Values.{HasSort}
use Rattle.kat_num.specs.declared.values.Sort.{Sort}
use Rattle.kat_num.specs.declared.values.Value.{Value}
use Rattle.kat_num.specs.declared.values.Value.TheVariants as value
use Rattle.kat_expr.specs.Evaluation.{truth_of}
use Rattle.kat_expr.specs.Slots.{absent, argument}
use Rattle.kat_lattice.specs.Sets.{TellsApart}
use Rattle.kat_type.specs.Alike.{FitsType}
use Rattle.kat_type.specs.Arrangements.{AreApart}
use Rattle.kat_type.specs.Lists.{Has, IsOnce}
use Rattle.kat_type.specs.Ranks.{rank_cmp, rank_of}
use Rattle.kat_type.specs.Signatures.{param_sorts}
use Rattle.kat_type.specs.Types.{TypeForm}
use Rattle.kat_type.specs.declared.done.Done.{Done}
use Rattle.kat_type.specs.declared.types.Param.{Param}
use Rattle.kat_seq.specs.States.{answer_of, stepped_by}
use Rattle.kat_seq.proofs.Sorting.{got_made}
use Rattle.kat_design.specs.Answers.{answer_of as design_answer_of, ask_at, ask_value}
use Rattle.kat_design.specs.Denotations.{denotation_of, part_of}
use Rattle.kat_design.specs.Designs.{AskForm, ComponentForm, DesignForm}
use Rattle.kat_design.specs.Designs.ComponentForm.{a_cell, a_table, a_set, a_tally, tallies}
use Rattle.kat_design.specs.Kinds.{key_sort}
use Rattle.kat_design.specs.Sorted.{FitsKey, HasKind, IsParameter}
use Rattle.kat_design.specs.Sorted.HasKind.{read, given, written, denied, and_of, or_of, numbers_less, names_less, sum_of, difference_of}
use Rattle.kat_design.specs.declared.kinds.Kind.{Kind}
use Rattle.kat_design.specs.declared.states.Part.{Part}
use Rattle.kat_design.proofs.WholeDesigns.{designs_mean}
use Rattle.kat_relation.specs.declared.relations.Conjunct.{Conjunct}
use Rattle.kat_invariant.specs.Accepted.{GoTogether}
use Rattle.kat_invariant.specs.Asked.{ArePartsOf, IsPartOf, ask_held, key_given, parts_held}
use Rattle.kat_invariant.specs.Inductive.{IsInductive}
use Rattle.kat_invariant.specs.Legal.{ComesBehind, IsLegal, MayFollow}
use Rattle.kat_invariant.specs.Relations.{Holds}
use Rattle.kat_invariant.specs.Runs.{InductiveDesignsAnswerAsType, IsKeyFor, behind}
use Rattle.kat_invariant.specs.Situations.{Held, Last, Situation, after, leaf_in, start_of}
use Rattle.kat_invariant.proofs.Answering.{query_asked}
use Rattle.kat_invariant.proofs.Held.{asks_held}
use Rattle.kat_invariant.proofs.HeldRuns.{denotations_are_held, part_there}
use Rattle.kat_invariant.proofs.Relating.{start_legal}
use Rattle.kat_invariant.proofs.StayLegal.{stays_legal}

-- the last operation, as a situation keeps it
abbrev last_of : TypeForm → Done → Last
last_of ty one = record { rank = rank_of ty one; time = one.time; replica = one.replica }

-- an operation of the type, whose time and replica are numbered from 1
record IsStamped (ty : TypeForm) (done : Done) : Type 0 where
  fits : FitsType ty done
  time : 1 ≤ done.time
  replica : 1 ≤ done.replica

-- operations that may follow one another
abbrev Chain : TypeForm → Option Last → List Done → Type 0
Chain ty last [] = Unit {0}
Chain ty last (one ∷ rest) = IsStamped ty one × MatchOption last (Unit {0}) (ComesBehind ty one) × Chain ty (Some (last_of ty one)) rest

record StandsWell (ty : TypeForm) (d : DesignForm) (relation : List Conjunct) (s : Situation) : Type 0 where
  legal : IsLegal ty d s
  holds : Holds ty d relation s

run_keeps : (ty : TypeForm) (d : DesignForm) (relation : List Conjunct) → GoTogether ty d → IsInductive ty d relation → (dones : List Done) (s : Situation) → StandsWell ty d relation s → Chain ty s.last dones → StandsWell ty d relation (behind ty d s dones)
run_keeps ty d relation go inductive [] s h chain = h
run_keeps ty d relation go inductive (one ∷ rest) s h chain =
    let follows : MayFollow ty one s = record { fits = chain.0.fits; time = chain.0.time; replica = chain.0.replica; behind = chain.1 } in
    run_keeps ty d relation go inductive rest (after ty d one s) (record { legal = stays_legal ty d go s h.legal one follows; holds = inductive.kept s one h.legal h.holds follows }) chain.2

state_run : (ty : TypeForm) (d : DesignForm) (dones : List Done) (s : Situation) → (behind ty d s dones).state ≡ stepped_by ty s.state dones
state_run ty d [] s = refl
state_run ty d (one ∷ rest) s = state_run ty d rest (after ty d one s)

-- a list that respects the ranks, whose operations have different stamps
abbrev Respects : TypeForm → Done → Done → Type 0
Respects ty earlier later = rank_cmp (rank_of ty later) (rank_of ty earlier) ≢ Less

pairs_tail : (ty : TypeForm) (x : Done) (xs : List Done) → AllPairs (Respects ty) (x ∷ xs) → AllPairs (Respects ty) xs
pairs_tail ty x xs h = λ i j d lt within. h (suc i) (suc j) d (omega (arith, lt)) (omega (arith, within))

pairs_first : (ty : TypeForm) (x y : Done) (xs : List Done) → AllPairs (Respects ty) (x ∷ y ∷ xs) → Respects ty x y
pairs_first ty x y xs h = h 0 1 x (omega arith) (omega arith)

chain_behind : (ty : TypeForm) (prev : Done) (rest : List Done) → All (IsStamped ty) rest → AllPairs (Respects ty) (prev ∷ rest) → IsOnce (prev ∷ rest) → AreApart (prev ∷ rest) → Chain ty (Some (last_of ty prev)) rest
chain_behind ty prev [] stamped pairs once apart = tt
chain_behind ty prev (one ∷ rest) stamped pairs once apart = (
  All-head (IsStamped ty) one rest stamped,
  record {
    ranked = pairs_first ty prev one rest pairs;
    other = λ same. once.0 (inl (sym (apart prev one (inl refl) (inr (inl refl)) (sym same.1) (sym same.0))));
  },
  chain_behind ty one rest (All-tail (IsStamped ty) one rest stamped) (pairs_tail ty prev (one ∷ rest) pairs) once.1 (λ x y hx hy. apart x y (inr hx) (inr hy)),
)

chain_of : (ty : TypeForm) (dones : List Done) → All (IsStamped ty) dones → AllPairs (Respects ty) dones → IsOnce dones → AreApart dones → Chain ty None dones
chain_of ty [] stamped pairs once apart = tt
chain_of ty (one ∷ rest) stamped pairs once apart = (All-head (IsStamped ty) one rest stamped, tt, chain_behind ty one rest (All-tail (IsStamped ty) one rest stamped) pairs once apart)

-- what all members have
has_all : {X : Type 0} (P : X → Type 0) (xs : List X) → ((x : X) → Has xs x → P x) → All P xs
has_all P [] h = All-nil P
has_all P (x ∷ xs) h = All-cons P x xs (h x (inl refl)) (has_all P xs (λ y e. h y (inr e)))

-- an ask depends on what is held at the keys that it reads
asks_same : (components : List ComponentForm) (sorts : List Sort) (held other : ℕ → Value → Held) (args : List Value) → ((j : ℕ) (s : Sort) → IsParameter sorts j s → HasSort s (argument args j))
    → ((c : ℕ) (component : ComponentForm) (key : Value) → slice_get components c ≡ Some component → IsKeyFor (key_sort component) key → held c key ≡ other c key)
    → (a : AskForm) (k : Kind) → HasKind components sorts a k → ask_held a held args ≡ ask_held a other args
asks_same components sorts held other args fit same a k (read c n key component j there found fits) = by_key (key_sort component) refl key fits
  where
    by_key : (o : Option Sort) → key_sort component ≡ o → (i : Option ℕ) → FitsKey sorts o i → leaf_in (held c (key_given i args)) n ≡ leaf_in (other c (key_given i args)) n
    by_key None e None h = ap (λ x. leaf_in x n) (same c component absent there (subst (λ o. IsKeyFor o absent) (sym e) refl))
    by_key (Some s) e (Some i) h = ap (λ x. leaf_in x n) (same c component (argument args i) there (subst (λ o. IsKeyFor o (argument args i)) (sym e) (fit i s h)))
    by_key None e (Some i) h = absurd h
    by_key (Some s) e None h = absurd h
asks_same components sorts held other args fit same a k (given place s is) = refl
asks_same components sorts held other args fit same a k (written v is) = refl
asks_same components sorts held other args fit same a k (denied {a = x} h) = ap (λ v. value.Bool (not (truth_of v))) (asks_same components sorts held other args fit same x _ h)
asks_same components sorts held other args fit same a k (and_of {a = x} {b = y} h i) = let p = asks_same components sorts held other args fit same x _ h in let q = asks_same components sorts held other args fit same y _ i in rw (p, q) refl
asks_same components sorts held other args fit same a k (or_of {a = x} {b = y} h i) = let p = asks_same components sorts held other args fit same x _ h in let q = asks_same components sorts held other args fit same y _ i in rw (p, q) refl
asks_same components sorts held other args fit same a k (numbers_less {a = x} {b = y} h i) = let p = asks_same components sorts held other args fit same x _ h in let q = asks_same components sorts held other args fit same y _ i in rw (p, q) refl
asks_same components sorts held other args fit same a k (names_less {a = x} {b = y} h i) = let p = asks_same components sorts held other args fit same x _ h in let q = asks_same components sorts held other args fit same y _ i in rw (p, q) refl
asks_same components sorts held other args fit same a k (sum_of {a = x} {b = y} h i) = let p = asks_same components sorts held other args fit same x _ h in let q = asks_same components sorts held other args fit same y _ i in rw (p, q) refl
asks_same components sorts held other args fit same a k (difference_of {a = x} {b = y} h i) = let p = asks_same components sorts held other args fit same x _ h in let q = asks_same components sorts held other args fit same y _ i in rw (p, q) refl

module _ (ordered : IsTotalOrder value_order) (tells : TellsApart value_order) where
  part_fits : (component : ComponentForm) (ones : List Done) → IsPartOf (key_sort component) (part_of component ones)
  part_fits (a_cell shape starts effects) ones = tt
  part_fits (a_table key shape starts effects) ones = tt
  part_fits (a_set key effects) ones = tt
  part_fits (a_tally effects) ones = tt
  part_fits (tallies key effects) ones = tt

  some_one : (p q : Part) → ◌≡◌ {A = Option Part} (Some p) (Some q) → p ≡ q
  some_one p q e = cc

  parts_fit : (d : DesignForm) (ones : List Done) → ArePartsOf d.components (denotation_of d ones)
  parts_fit d ones place component there p at =
      subst (IsPartOf (key_sort component)) (some_one (part_of component ones) p (sym (part_there ordered tells d.components ones place component there) ∙ at)) (part_fits component ones)

  pub inductive_designs_answer : InductiveDesignsAnswerAsType
  inductive_designs_answer ty d relation go inductive ones can query q args there fit arranged arranges respects =
      let members = arranges.same in
      let apart' : AreApart arranged = λ x y hx hy. can.apart x y (members.0 x hx) (members.0 y hy) in
      let stamped' : All (IsStamped ty) arranged = has_all (IsStamped ty) arranged (λ x e. let there' = members.0 x e in record { fits = can.fit x there'; time = can.timed x there'; replica = can.numbered x there' }) in
      let chain = chain_of ty arranged stamped' respects arranges.once apart' in
      let s = behind ty d (start_of ty d) arranged in
      let well = run_keeps ty d relation go inductive arranged (start_of ty d) (record { legal = start_legal ty d go.type_sorted; holds = inductive.start }) chain in
      let agrees = inductive.answers s query q args well.legal well.holds there fit in
      let has = query_asked ty d query q go.design_sorted go.signed there in
      let sorts_fit : (j : ℕ) (t : Sort) → IsParameter (param_sorts q.params) j t → HasSort t (argument args j) =
      λ j t e. let made = got_made (λ (p : Param). p.sort) q.params j t e in subst (λ x. HasSort x (argument args j)) made.2 (fit j made.0 made.1) in
      let ask_is : ask_at d query ≡ has.ask = get_or_from_slice_get d.asks query has.ask _ has.there in
      let one_state : denotation_of d arranged ≡ denotation_of d ones = (designs_mean ordered tells d go.design_sorted).same arranged ones arranges.once can.once members in
      let held_is : ask_held has.ask s.held args ≡ ask_held has.ask (parts_held (denotation_of d arranged)) args =
      asks_same d.components (param_sorts q.params) s.held (parts_held (denotation_of d arranged)) args sorts_fit
      (λ c component key at h. denotations_are_held ordered tells ty d arranged c component key go.design_sorted at h) has.ask _ has.answers in
      let value_is : ask_value has.ask (denotation_of d arranged) args ≡ ask_held has.ask (parts_held (denotation_of d arranged)) args =
      asks_held d.components (param_sorts q.params) has.ask _ (denotation_of d arranged) args has.answers (parts_fit d arranged) in
      ap (λ parts. design_answer_of d parts query args) (sym one_state)
      ∙ ap (λ a. ask_value a (denotation_of d arranged) args) ask_is
      ∙ value_is ∙ sym held_is ∙ ap (λ a. ask_held a s.held args) (sym ask_is)
      ∙ sym agrees ∙ ap (λ state. answer_of ty state query args) (state_run ty d arranged (start_of ty d))
