-- What is found for sets is found for the clauses whose sets they are.
use Rattle.std.proofs.Common.{◌≡◌, ◌≢◌, ℕ, ◌+◌, ◌-◌, ◌<◌, ◌≤◌, ℤ, neg_ℤ, List, [], ◌∷◌, ◌++◌, length, Bool, true, false, ◌||◌, if◌then◌else◌, Option, Some, None, Ok, Err, Vec, ⊎_elim, refl, sym, ap, ◌∙◌, subst, arith}
use Rattle.std.specs.Global.{Global}
use Rattle.std.specs.List.{list_any}
use Rattle.std.specs.Result.{IfOk}
use Rattle.std.specs.declared.result.Result.{Result}
use Rattle.std.specs.declared.alloc.AllocError.{AllocError}
use Rattle.std.proofs.lemmas.Bool.{false≢true, cases_Bool, cases_eq, cases_lt}
use Rattle.std.proofs.lemmas.List.{get_or_default, length_push, get_or_append_left, get_or_push, get_or_past}
use Rattle.kat_clause.specs.Clauses.{SameMembers, AreAmong, opposites}
use Rattle.kat_clause.specs.Tables.{AreSetsOf, clause_at}
use Rattle.kat_clause.specs.Hints.{numbered, Falsifies, IsOnlyOpen, Leads, has_literal, put_before, hints_of}
use Rattle.kat_clause.specs.Choices.{IsUnit, Gives, IsNone, IsFirst, Chooses}
use Rattle.kat_clause.specs.Choices.Chooses.{ends, goes}
use Rattle.kat_clause.specs.Findings.{IsHintsOf}
use Rattle.kat_clause.proofs.Runs.{Contains-clause}
use Rattle.kat_clause.proofs.Laws.{same_members, follows_sets}
use Rattle.kat_clause.proofs.HintTests.{has_in, in_has, not_in, falsified_up}
use Rattle.kat_clause.proofs.HintChoices.{hints_are, hints_chosen}

-- the sets stay the clauses'
pub sets_push : (clauses sets : List (List ℤ)) (clause set : List ℤ) → SameMembers set clause → AreSetsOf clauses sets → AreSetsOf (clauses ++ clause ∷ []) (sets ++ set ∷ [])
sets_push clauses sets clause set same are = record {
  count = omega (arith, length_push clauses clause, length_push sets set, are.count);
  each = λ i. ⊎_elim
      (λ (l : i < length sets). rw (get_or_append_left sets (set ∷ []) [] i l, get_or_append_left clauses (clause ∷ []) [] i (omega (arith, l, are.count))) (are.each i))
      (λ (l : length sets ≤ i). ⊎_elim
      (λ (e : i ≡ length sets). rw (get_or_push sets set [] i (sym e), get_or_push clauses clause [] i (sym (e ∙ are.count))) same)
      (λ (ne : i ≢ length sets). rw (
        get_or_past (sets ++ set ∷ []) i [] (omega (arith, l, ne, length_push sets set)),
        get_or_past (clauses ++ clause ∷ []) i [] (omega (arith, l, ne, length_push clauses clause, are.count)),
      ) (λ k. (λ has. has, λ has. has)))
      (cases_eq i (length sets)))
      (cases_lt i (length sets));
}

-- no clauses, and clauses that are sets themselves
pub sets_same : (clauses : List (List ℤ)) → AreSetsOf clauses clauses
sets_same clauses = record { count = refl; each = λ i k. (λ has. has, λ has. has) }

-- either way
pub sets_turned : (clauses sets : List (List ℤ)) → AreSetsOf clauses sets → AreSetsOf sets clauses
sets_turned clauses sets are = record { count = sym are.count; each = λ i k. ((are.each i k).1, (are.each i k).0) }

pub sets_among : (clauses sets : List (List ℤ)) → AreSetsOf clauses sets → AreAmong sets clauses
sets_among clauses sets are set has =
    let at : clause_at sets has.0 ≡ set = get_or_default sets has.0 [] set has.1 ∙ has.2 in
    let P : List ℤ → Type 0 = λ s. SameMembers s (clause_at clauses has.0) in
    (clause_at clauses has.0, Contains-clause clauses has.0 (clause_at clauses has.0) (omega (arith, has.1, are.count)) refl, subst P at (are.each has.0))

-- a set has a literal to give if the clause has
open_same : (known a b : List ℤ) (m : ℤ) → SameMembers a b → IsOnlyOpen known a m → IsOnlyOpen known b m
open_same known a b m same only = record { has = (same m).0 only.has; free = only.free; others = λ k has ne. only.others k ((same k).1 has) ne }

unit_same : (known a b : List ℤ) (m : ℤ) → SameMembers a b → IsUnit known a m → IsUnit known b m
unit_same known a b m same unit = record { only = open_same known a b m same unit.only; fresh = unit.fresh }

-- the first clause, and that there is none
first_set : (P : List ℤ → Type 0) → ((a b : List ℤ) → SameMembers a b → P a → P b) → (clauses sets : List (List ℤ)) → AreSetsOf clauses sets → (i : ℕ) → IsFirst P sets i → IsFirst P clauses i
first_set P kept clauses sets are i first = record {
  within = omega (arith, first.within, are.count);
  here = kept (clause_at sets i) (clause_at clauses i) (are.each i) first.here;
  before = λ j less passes. first.before j less (kept (clause_at clauses j) (clause_at sets j) ((sets_turned clauses sets are).each j) passes);
}

no_set : (P : List ℤ → Type 0) → ((a b : List ℤ) → SameMembers a b → P a → P b) → (clauses sets : List (List ℤ)) → AreSetsOf clauses sets → IsNone P sets → IsNone P clauses
no_set P kept clauses sets are none j h passes = none j (omega (arith, h, are.count)) (kept (clause_at clauses j) (clause_at sets j) ((sets_turned clauses sets are).each j) passes)

falsified_same : (known a b : List ℤ) → SameMembers a b → Falsifies known a → Falsifies known b
falsified_same known a b same falsified = falsified_up known b a (λ k. (same k).1) falsified

gives_same : (known a b : List ℤ) → SameMembers a b → Gives known a → Gives known b
gives_same known a b same (m, unit) = (m, unit_same known a b m same unit)

-- a hint stays before others by the sets if it does by the clauses
has_same : (a b : List ℤ) (k : ℤ) → SameMembers a b → has_literal a k ≡ has_literal b k
has_same a b k same = ⊎_elim
    (λ (e : has_literal a k ≡ true). e ∙ sym (in_has b k ((same k).0 (has_in a k e))))
    (λ (e : has_literal a k ≡ false). e ∙ sym (not_in b k (λ has. false≢true (sym e ∙ in_has a k ((same k).1 has)))))
    (cases_Bool (has_literal a k))

any_same : (f g : ℕ → Bool) → ((n : ℕ) → f n ≡ g n) → (ns : List ℕ) → list_any f ns ≡ list_any g ns
any_same f g e [] = refl
any_same f g e (n ∷ ns) = ap (λ (b : Bool). b || list_any f ns) (e n) ∙ ap (λ (b : Bool). g n || b) (any_same f g e ns)

put_same : (clauses sets : List (List ℤ)) → AreSetsOf clauses sets → (hint : ℕ) (m : ℤ) (later : List ℕ) → put_before sets hint m later ≡ put_before clauses hint m later
put_same clauses sets are hint m later = ap (λ (b : Bool). if b then hint ∷ later else later)
    (any_same (λ n. has_literal (numbered sets n) (neg_ℤ m)) (λ n. has_literal (numbered clauses n) (neg_ℤ m)) (λ n. has_same (numbered sets n) (numbered clauses n) (neg_ℤ m) (are.each (n - 1))) later)

chosen_sets : (clauses sets : List (List ℤ)) → AreSetsOf clauses sets → (known : List ℤ) (hints : List ℕ) → Chooses sets known hints → Chooses clauses known hints
chosen_sets clauses sets are known _ (ends _ i first) = ends known i (first_set (Falsifies known) (falsified_same known) clauses sets are i first)
chosen_sets clauses sets are known _ (goes _ i m later none first unit chosen) =
    let P : List ℕ → Type 0 = Chooses clauses known in
    subst P (sym (put_same clauses sets are (i + 1) m later)) (goes known i m later
    (no_set (Falsifies known) (falsified_same known) clauses sets are none)
    (first_set (Gives known) (gives_same known) clauses sets are i first)
    (unit_same known (clause_at sets i) (clause_at clauses i) m (are.each i) unit)
    (chosen_sets clauses sets are (known ++ m ∷ []) later chosen))

-- hints that lead on
pub leads_sets : (clauses sets : List (List ℤ)) → AreSetsOf clauses sets → (known : List ℤ) (hints : List ℕ) → Leads sets known hints → Leads clauses known hints
leads_sets clauses sets are known [] leads = leads
leads_sets clauses sets are known (hint ∷ []) leads = falsified_same known (numbered sets hint) (numbered clauses hint) (are.each (hint - 1)) leads
leads_sets clauses sets are known (hint ∷ next ∷ more) (m, only, rest) =
    (m, open_same known (numbered sets hint) (numbered clauses hint) m (are.each (hint - 1)) only, leads_sets clauses sets are (known ++ m ∷ []) (next ∷ more) rest)

-- the answer for a line
answer_of_sets : (clauses sets : List (List ℤ)) (line : List ℤ) (o : Option (Vec ℕ Global)) → AreSetsOf clauses sets → IsHintsOf sets line o → IsHintsOf clauses line o
answer_of_sets clauses sets line None are never = λ follows.
    never (follows_sets clauses sets line line (sets_among sets clauses (sets_turned clauses sets are)) (sets_among clauses sets are) (same_members line) follows)
answer_of_sets clauses sets line (Some hints) are (follows, is) = (
  follows_sets sets clauses line line (sets_among clauses sets are) (sets_among sets clauses (sets_turned clauses sets are)) (same_members line) follows,
  is ∙ hints_are clauses line (hints_of sets line) (chosen_sets clauses sets are (opposites line) (hints_of sets line) (hints_chosen sets line follows)),
)

pub result_of_sets : (clauses sets : List (List ℤ)) (line : List ℤ) (r : Result (Option (Vec ℕ Global)) AllocError) → AreSetsOf clauses sets → IfOk r (IsHintsOf sets line) → IfOk r (IsHintsOf clauses line)
result_of_sets clauses sets line (Ok o) are h = answer_of_sets clauses sets line o are h
result_of_sets clauses sets line (Err e) are h = h
