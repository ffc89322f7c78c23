-- A search from turn to turn, and its hints shortened.
use Rattle.std.proofs.Common.{◌≡◌, ◌≢◌, ℕ, ◌+◌, ◌-◌, ◌<◌, ◌≤◌, ℤ, neg_ℤ, List, [], ◌∷◌, ◌++◌, length, get_or, take, reverse, Bool, true, false, Option, Some, None, Ok, Err, Vec, ◌⊎◌, inl, inr, ⊎_elim, refl, sym, ap, ◌∙◌, subst, arith, Contains}
use Rattle.std.specs.List.{list_any}
use Rattle.std.specs.Global.{Global}
use Rattle.std.specs.Result.{IfOk}
use Rattle.std.specs.Option.{MatchOption}
use Rattle.std.specs.declared.result.Result.{Result}
use Rattle.std.specs.declared.alloc.AllocError.{AllocError}
use Rattle.std.proofs.lemmas.Bool.{cases_lt}
use Rattle.std.proofs.lemmas.List.{length_push, get_or_append_left, get_or_push, take_more, reverse-append}
use Rattle.std.proofs.lemmas.List.Elements.{Contains-append_left}
use Rattle.kat_clause.specs.declared.finding.Place.{Place}
use Rattle.kat_clause.specs.declared.finding.Step.{Step}
use Rattle.kat_clause.specs.declared.finding.Walk.{Walk}
use Rattle.kat_clause.specs.Clauses.{Follows, SameMembers, opposites}
use Rattle.kat_clause.specs.Literals.{code_of}
use Rattle.kat_clause.specs.Tables.{IsMarked, AreBelow, clause_at}
use Rattle.kat_clause.specs.Propagations.{IsSet}
use Rattle.kat_clause.specs.Hints.{numbered, has_literal, put_before, hints_of}
use Rattle.kat_clause.specs.Choices.{IsUnit, Gives, IsNone, IsFirst, Chooses}
use Rattle.kat_clause.specs.Choices.Chooses.{ends, goes}
use Rattle.kat_clause.specs.Findings.{IsPlace, start, place_of, IsWalk, IsNoticed, AreNoticed, HasTwo, AreShortAmong, restored, IsNeeded, IsHintsOf}
use Rattle.kat_clause.specs.Walkings.{Goes}
use Rattle.kat_clause.proofs.Codes.{cases_literal}
use Rattle.kat_clause.proofs.HintTests.{cases_cons, in_nothing, here, behind, falsified_once}
use Rattle.kat_clause.proofs.HintLemmas.{hinted_follows}
use Rattle.kat_clause.proofs.WalkSteps.{unfalsified}
use Rattle.kat_clause.proofs.HintChoices.{unfollowed, hints_are, chosen_same, chosen_leads, is_used, used_is}

-- at a clause's start nothing is passed
pub start_place : (marks : List Bool) (clause : List ℤ) → IsPlace marks clause start
start_place marks clause = record { first = λ j l. absurd (omega (arith, l)); second = λ j l. absurd (omega (arith, l)) }

-- a search begins
pub fresh_walk : (clauses : List (List ℤ)) (walk : Walk) → IsSet walk.set → walk.set.trail.items ≡ [] → ((i : ℕ) → place_of walk.places i ≡ start) → walk.falsified ≡ None → IsWalk clauses walk
fresh_walk clauses walk is_set trail places falsified = record {
  is_set = is_set;
  placed = λ i h. let P : Place → Type 0 = IsPlace walk.set.marks.items (clause_at clauses i) in subst P (sym (places i)) (start_place walk.set.marks.items (clause_at clauses i));
  ending = λ i e. absurd (none_some i (sym falsified ∙ e));
}
  where
    none_some : (i : ℕ) → None ≡ Some i → ⊥
    none_some i e = cc

-- at first just the short clauses want a look
two_apart : (clause : List ℤ) (m : ℤ) → HasTwo clause → ((k : ℤ) → Contains clause k → k ≢ m → ⊥) → ⊥
two_apart clause m (k, l, has_k, has_l, apart) none = ⊎_elim
    (λ (e : k ≡ m). ⊎_elim
    (λ (f : l ≡ m). apart (e ∙ sym f))
    (λ (ne : l ≢ m). none l has_l ne)
    (cases_literal l m))
    (λ (ne : k ≢ m). none k has_k ne)
    (cases_literal k m)

fresh_two : (clause : List ℤ) (i : ℕ) (walk : Walk) → walk.set.trail.items ≡ [] → HasTwo clause → IsNoticed clause i walk
fresh_two clause i walk trail two =
    let nothing : (k : ℤ) → Contains walk.set.trail.items k → ⊥ = λ k has. in_nothing k (rw trail at has) in
    record {
      ended = λ falsified. absurd (nothing (neg_ℤ two.0) (falsified two.0 two.2));
      queued = λ m unit. absurd (two_apart clause m two (λ k has ne. nothing (neg_ℤ k) (unit.only.others k has ne)));
    }

pub fresh_noticed : (clauses : List (List ℤ)) (short : List ℕ) (walk : Walk) → walk.set.trail.items ≡ [] → AreShortAmong clauses short → AreNoticed clauses short walk
fresh_noticed clauses short walk trail are i h once = ⊎_elim
    (λ (has : Contains short i). inl has)
    (λ (two : HasTwo (clause_at clauses i)). inr (fresh_two (clause_at clauses i) i walk trail two))
    (are i h once)

-- the turns begin
pub goes_begin : (clauses : List (List ℤ)) (line : List ℤ) (size : ℕ) (walk : Walk) → length walk.set.marks.items ≡ size → IsWalk clauses walk → AreNoticed clauses [] walk
    → SameMembers walk.set.trail.items (opposites line) → Goes clauses line size [] walk
goes_begin clauses line size walk marks is_walk noticed members = record {
  marks = marks;
  is_walk = is_walk;
  noticed = noticed;
  starts = λ k has. (members k).1 has;
  are_steps = λ i d h. absurd (omega (arith, h));
  below = λ i d h. absurd (omega (arith, h));
  goes_on = λ later chosen. chosen_same clauses walk.set.trail.items (opposites line) later members chosen;
}

-- one more step
restored_push : (clauses : List (List ℤ)) (steps : List Step) (step : Step) (later : List ℕ) → restored clauses (steps ++ step ∷ []) later ≡ restored clauses steps (put_before clauses (step.number + 1) step.literal later)
restored_push clauses [] step later = refl
restored_push clauses (s ∷ steps) step later = ap (put_before clauses (s.number + 1) s.literal) (restored_push clauses steps step later)

each_push : (P : Step → Type 0) (steps : List Step) (step : Step) → ((i : ℕ) (d : Step) → i < length steps → P (get_or steps i d)) → P step → (i : ℕ) (d : Step) → i < length (steps ++ step ∷ []) → P (get_or (steps ++ step ∷ []) i d)
each_push P steps step before now i d h = ⊎_elim
    (λ (l : i < length steps). subst P (sym (get_or_append_left steps (step ∷ []) d i l)) (before i d l))
    (λ (l : length steps ≤ i). subst P (sym (get_or_push steps step d i (omega (arith, h, l, length_push steps step)))) now)
    (cases_lt i (length steps))

pub goes_more : (clauses : List (List ℤ)) (line : List ℤ) (size : ℕ) (steps : List Step) (step : Step) (old new : Walk) → Goes clauses line size steps old
    → AreBelow size clauses → old.falsified ≡ None
    → IsFirst (Gives old.set.trail.items) clauses step.number → IsUnit old.set.trail.items (clause_at clauses step.number) step.literal
    → length new.set.marks.items ≡ size → IsWalk clauses new → SameMembers new.set.trail.items (old.set.trail.items ++ step.literal ∷ []) → AreNoticed clauses [] new
    → Goes clauses line size (steps ++ step ∷ []) new
goes_more clauses line size steps step old new before below none first unit marks is_walk members noticed = record {
  marks = marks;
  is_walk = is_walk;
  noticed = noticed;
  starts = λ k has. (members k).1 (Contains-append_left old.set.trail.items (step.literal ∷ []) k (before.starts k has));
  are_steps = each_push (λ s. s.number < length clauses) steps step before.are_steps first.within;
  below = each_push (λ s. code_of (neg_ℤ s.literal) < size) steps step before.below ((below step.number first.within step.literal unit.only.has).1);
  goes_on = λ later chosen.
      let P : List ℕ → Type 0 = Chooses clauses (opposites line) in
      let Q : List ℕ → Type 0 = Chooses clauses (opposites line) in
      let whole : Chooses clauses (old.set.trail.items ++ step.literal ∷ []) later = chosen_same clauses new.set.trail.items (old.set.trail.items ++ step.literal ∷ []) later members chosen in
      subst P (sym (restored_push clauses steps step later))
      (before.goes_on (put_before clauses (step.number + 1) step.literal later) (goes old.set.trail.items step.number step.literal later (unfalsified clauses old before.noticed none) first unit whole));
}

-- the turns end with a falsified clause, the first one
some_same : (a b : ℕ) → Some a ≡ Some b → a ≡ b
some_same a b e = cc

pub goes_end : (clauses : List (List ℤ)) (line : List ℤ) (size : ℕ) (steps : List Step) (walk : Walk) (last : ℕ) → Goes clauses line size steps walk → walk.falsified ≡ Some last → Chooses clauses (opposites line) (restored clauses steps ((last + 1) ∷ []))
goes_end clauses line size steps walk last goes' e = goes'.goes_on ((last + 1) ∷ []) (ends walk.set.trail.items last (record {
  within = (goes'.is_walk.ending last e).0;
  here = (goes'.is_walk.ending last e).1;
  before = λ j less falsified.
      let first = falsified_once walk.set.trail.items clauses j (omega (arith, less, (goes'.is_walk.ending last e).0)) falsified in
      ⊎_elim
      (λ (has : Contains [] first.0). in_nothing first.0 has)
      (λ (noticed : IsNoticed (clause_at clauses first.0) first.0 walk).
      let r = noticed.ended first.1.here in
      let same : last ≡ r.0 = some_same last r.0 (sym e ∙ r.1) in
      absurd (omega (arith, less, first.2, r.2, same)))
      (goes'.noticed first.0 first.1.within first.3);
}))

pub chosen_answer : (clauses : List (List ℤ)) (line : List ℤ) (hints : List ℕ) → Chooses clauses (opposites line) hints → Follows clauses line × (hints ≡ hints_of clauses line)
chosen_answer clauses line hints chosen =
    let r = chosen_leads clauses (opposites line) hints chosen in
    (hinted_follows clauses line hints r.0 r.1, hints_are clauses line hints chosen)

-- or with nothing that could be given
pub goes_out : (clauses : List (List ℤ)) (line : List ℤ) (size : ℕ) (steps : List Step) (walk : Walk) → Goes clauses line size steps walk → walk.falsified ≡ None → IsNone (Gives walk.set.trail.items) clauses → Follows clauses line → ⊥
goes_out clauses line size steps walk before none settled = unfollowed clauses line walk.set.trail.items (unfalsified clauses walk before.noticed none) settled before.starts

-- hints that are kept
pub needed_more : (clauses : List (List ℤ)) (old new : List Bool) (number : ℕ) (hints : List ℕ)
    → ((k : ℤ) → IsMarked old (code_of k) ⊎ Contains (clause_at clauses number) k → IsMarked new (code_of k))
    → ((k : ℤ) → IsMarked new (code_of k) → IsMarked old (code_of k) ⊎ Contains (clause_at clauses number) k)
    → IsNeeded clauses old hints → IsNeeded clauses new ((number + 1) ∷ hints)
needed_more clauses old new number hints on only before =
    let at : numbered clauses (number + 1) ≡ clause_at clauses number = let e : number + 1 - 1 ≡ number = omega arith in ap (clause_at clauses) e in
    record {
      into = λ k marked. ⊎_elim
          (λ (was : IsMarked old (code_of k)). let r = before.into k was in (r.0, behind (number + 1) r.0 hints r.1, r.2))
          (λ (has : Contains (clause_at clauses number) k). (number + 1, here (number + 1) hints, rw at has))
          (only k marked);
      from = λ k n has in'. on k (⊎_elim
          (λ (e : number + 1 ≡ n). inr (rw at at (rw (sym e) at in')))
          (λ (later : Contains hints n). inl (before.from k n later in'))
          (cases_cons (number + 1) n hints has));
    }

pub needed_none : (clauses : List (List ℤ)) (needed : List Bool) → ((i : ℕ) → IsMarked needed i → ⊥) → IsNeeded clauses needed []
needed_none clauses needed none = record {
  into = λ k marked. absurd (none (code_of k) marked);
  from = λ k n has in'. absurd (in_nothing n has);
}

-- the last of this many steps
step_at : (steps : List Step) (done : ℕ) (d : Step) → done < length steps → take (length steps - done) steps ≡ take (length steps - (done + 1)) steps ++ get_or steps (length steps - 1 - done) d ∷ []
step_at steps done d h =
    let n = length steps - (done + 1) in
    let at : length steps - done ≡ n + 1 = omega arith in
    let place : length steps - 1 - done ≡ n = omega arith in
    rw (at, place) (take_more steps n d (omega arith))

pub kept_less : (clauses : List (List ℤ)) (steps : List Step) (done : ℕ) (step : Step) (needed : List Bool) (kept whole : List ℕ) → done < length steps → step ≡ get_or steps (length steps - 1 - done) step
    → (IsMarked needed (code_of (neg_ℤ step.literal)) → ⊥) → IsNeeded clauses needed kept
    → restored clauses (take (length steps - done) steps) kept ≡ whole → restored clauses (take (length steps - (done + 1)) steps) kept ≡ whole
kept_less clauses steps done step needed kept whole h is unmarked needs before =
    let front = take (length steps - (done + 1)) steps in
    let same : take (length steps - done) steps ≡ front ++ step ∷ [] = step_at steps done step h ∙ ap (λ (s : Step). front ++ s ∷ []) (sym is) in
    let test : list_any (λ n. has_literal (numbered clauses n) (neg_ℤ step.literal)) kept ≡ false = not_used' clauses needed kept (neg_ℤ step.literal) needs unmarked in
    let put : put_before clauses (step.number + 1) step.literal kept ≡ kept = rw test refl in
    sym (ap (restored clauses front) put) ∙ sym (restored_push clauses front step kept) ∙ ap (λ (s : List Step). restored clauses s kept) (sym same) ∙ before
  where
    is_no : (b : Bool) → (b ≡ true → ⊥) → b ≡ false
    is_no true f = absurd (f refl)
    is_no false f = refl

    not_used' : (clauses : List (List ℤ)) (needed : List Bool) (kept : List ℕ) (k : ℤ) → IsNeeded clauses needed kept → (IsMarked needed (code_of k) → ⊥) → list_any (λ n. has_literal (numbered clauses n) k) kept ≡ false
    not_used' clauses needed kept k needs unmarked = is_no (list_any (λ n. has_literal (numbered clauses n) k) kept) (λ e. let r = is_used clauses kept k e in unmarked (needs.from k r.0 r.1 r.2))

pub kept_more : (clauses : List (List ℤ)) (steps : List Step) (done : ℕ) (step : Step) (needed : List Bool) (kept whole : List ℕ) → done < length steps → step ≡ get_or steps (length steps - 1 - done) step
    → IsMarked needed (code_of (neg_ℤ step.literal)) → IsNeeded clauses needed kept
    → restored clauses (take (length steps - done) steps) kept ≡ whole → restored clauses (take (length steps - (done + 1)) steps) ((step.number + 1) ∷ kept) ≡ whole
kept_more clauses steps done step needed kept whole h is marked needs before =
    let front = take (length steps - (done + 1)) steps in
    let same : take (length steps - done) steps ≡ front ++ step ∷ [] = step_at steps done step h ∙ ap (λ (s : Step). front ++ s ∷ []) (sym is) in
    let r = needs.into (neg_ℤ step.literal) marked in
    let test : list_any (λ n. has_literal (numbered clauses n) (neg_ℤ step.literal)) kept ≡ true = used_is clauses kept (neg_ℤ step.literal) r.0 r.1 r.2 in
    let put : put_before clauses (step.number + 1) step.literal kept ≡ (step.number + 1) ∷ kept = rw test refl in
    sym (ap (restored clauses front) put) ∙ sym (restored_push clauses front step kept) ∙ ap (λ (s : List Step). restored clauses s kept) (sym same) ∙ before

-- what was kept, the other way round
pub turned_push : (kept : List ℕ) (hint : ℕ) → reverse (kept ++ hint ∷ []) ≡ hint ∷ reverse kept
turned_push kept hint = reverse-append kept (hint ∷ [])

-- the answer of hints that were shortened
pub shortened_answer : (r : Result (Option (Vec ℕ Global)) AllocError) (clauses : List (List ℤ)) (line : List ℤ) (whole : List ℕ) → Chooses clauses (opposites line) whole → IfOk r (λ o. MatchOption o ⊥ (λ hints. hints.items ≡ whole)) → IfOk r (IsHintsOf clauses line)
shortened_answer (Ok None) clauses line whole chosen h = absurd h
shortened_answer (Ok (Some hints)) clauses line whole chosen h = let a = chosen_answer clauses line whole chosen in (a.0, h ∙ a.1)
shortened_answer (Err e) clauses line whole chosen h = h
