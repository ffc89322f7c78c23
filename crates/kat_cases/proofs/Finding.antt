-- What a further search finds is a decision.
use Rattle.std.proofs.Common.{◌≡◌, ℕ, zero, suc, ◌*◌, ◌<◌, ◌≤◌, ◌⊎◌, inl, inr, ℤ, pos, negsuc, neg_ℤ, unsigned_abs, List, length, get_or, refl, sym, ap, ◌∙◌, subst, arith}
use Rattle.std.specs.List.{All, AllPairs}
use Rattle.std.proofs.lemmas.Bool.{cases_lt}
use Rattle.std.proofs.lemmas.List.Elements.{All-contains}
use Rattle.kat_clause.proofs.Codes.{at-Contains}
use Rattle.kat_form.specs.Encodings.{encoding}
use Rattle.kat_form.specs.declared.Encoded.{Encoded}
use Rattle.kat_refute.specs.Lines.{AreARefutation}
use Rattle.kat_watch.specs.Watched.{IsLiteral}
use Rattle.kat_cases.specs.Nodes.End.{spent, at_point, at_rows, at_wide}
use Rattle.kat_cases.specs.Walks.{Answer, WalkGives, IfRefuted}
use Rattle.kat_cases.specs.Walks.Answer.{refuted, stopped}
use Rattle.kat_cases.specs.Settings.{setting_of, IsWalkable}
use Rattle.kat_cases.specs.Decisions.{HasNarrowNumbers, IsDecision, IsFurther}
use Rattle.kat_cases.specs.Further.{GivesUp, IsAnswered, IsFound}
use Rattle.kat_cases.specs.Guests.{MayBeAssumed}
use Rattle.kat_cases.proofs.Deciding.{walk_decides}
use Rattle.kat_cases.proofs.Decisions.{point_is}
use Rattle.kat_cases.proofs.NarrowNumbers.{numbers_narrow}
use Rattle.kat_cases.proofs.Soundness.{refuted_is, unspent_is}

-- the walk's own answer
pub walk_answers : (e : Encoded) → IsWalkable e.numbers (encoding e) → (effort : ℕ) (answer : Answer) → WalkGives (setting_of e) effort answer → IsAnswered e effort answer
walk_answers e w effort answer gives = record {
  walk = walk_decides (setting_of e) effort answer gives;
  refutes = refuted_is e w effort answer gives;
  point = point_is e w effort answer gives;
  narrow = numbers_narrow e w effort answer gives;
  unspent = λ most. unspent_is e w effort most answer gives;
}

-- what is found if the walk gives up
follows_further : (effort : ℕ) (walk answer : Answer) → GivesUp walk → IsFurther effort answer → IsDecision effort walk answer
follows_further effort (refuted lines) answer given found = absurd given
follows_further effort (stopped spent) answer given found = inr found
follows_further effort (stopped (at_point den nums truths)) answer given found = absurd given
follows_further effort (stopped (at_rows lits plus minus rest)) answer given found = inr found
follows_further effort (stopped (at_wide lits left right)) answer given found = inr found

few_refute : (e : Encoded) (effort : ℕ) (answer : Answer) → 1 ≤ effort → IsFurther effort answer → IfRefuted answer (AreARefutation (encoding e)) → IfRefuted answer (λ lines. AreARefutation (encoding e) lines × (length lines < 3 * effort))
few_refute e effort (refuted lines) some found refutes = (refutes, omega (arith, some, found.0))
few_refute e effort (stopped end) some found refutes = tt

further_narrow : (effort : ℕ) (answer : Answer) → IsFurther effort answer → HasNarrowNumbers answer
further_narrow effort (refuted lines) found = tt
further_narrow effort (stopped spent) found = tt
further_narrow effort (stopped (at_point den nums truths)) found = tt
further_narrow effort (stopped (at_rows lits plus minus rest)) found = tt
further_narrow effort (stopped (at_wide lits left right)) found = absurd found

further_unspent : (effort : ℕ) (answer : Answer) → IsFurther effort answer → answer ≡ stopped spent → ⊥
further_unspent effort answer found is = let P : Answer → Type 0 = IsFurther effort in subst P is found

pub found_answers : (e : Encoded) (effort : ℕ) (walk answer : Answer) → 1 ≤ effort → WalkGives (setting_of e) effort walk → GivesUp walk → IsFound e effort answer → IsAnswered e effort answer
found_answers e effort walk answer some gives given found = record {
  walk = record { walk = walk; gives = gives; follows = follows_further effort walk answer given found.further };
  refutes = few_refute e effort answer some found.further found.refutes;
  point = found.point;
  narrow = further_narrow effort answer found.further;
  unspent = λ most. further_unspent effort answer found.further;
}

-- literals of different variables may be assumed
abs_opposite : (x : ℤ) → unsigned_abs (neg_ℤ x) ≡ unsigned_abs x
abs_opposite (pos zero) = refl
abs_opposite (pos (suc n)) = refl
abs_opposite (negsuc n) = refl

own_opposite : (x : ℤ) → x ≡ neg_ℤ x → unsigned_abs x ≡ 0
own_opposite (pos zero) e = refl
own_opposite (pos (suc n)) e = absurd (cc)
own_opposite (negsuc n) e = absurd (cc)

apart_by : (literals : List ℤ) (k : ℤ) → 0 < unsigned_abs k → AllPairs (λ (k l : ℤ). unsigned_abs k ≡ unsigned_abs l → ⊥) literals → (i j : ℕ) → i < length literals → j < length literals
    → get_or literals i (pos 0) ≡ k → get_or literals j (pos 0) ≡ neg_ℤ k → (i < j) ⊎ (j ≤ i) → (j < i) ⊎ (i ≤ j) → ⊥
apart_by literals k some once i j in_i in_j a b (inl low) other = once i j (pos 0) low in_j (ap unsigned_abs a ∙ sym (abs_opposite k) ∙ sym (ap unsigned_abs b))
apart_by literals k some once i j in_i in_j a b (inr high) (inl low) = once j i (pos 0) low in_i (ap unsigned_abs b ∙ abs_opposite k ∙ sym (ap unsigned_abs a))
apart_by literals k some once i j in_i in_j a b (inr high) (inr low) =
    let one : i ≡ j = omega (arith, high, low) in
    let none : unsigned_abs k ≡ 0 = own_opposite k (sym a ∙ ap (λ n. get_or literals n (pos 0)) one ∙ b) in
    omega (arith, some, none)

pub may_be : (greatest : ℕ) (literals : List ℤ) → All (IsLiteral greatest) literals → AllPairs (λ (k l : ℤ). unsigned_abs k ≡ unsigned_abs l → ⊥) literals → MayBeAssumed greatest literals
may_be greatest literals are once = record {
  are = λ k has. All-contains (IsLiteral greatest) literals k are has;
  apart = λ k has opposite. apart_by literals k (All-contains (IsLiteral greatest) literals k are has).0 once has.0 opposite.0 has.1 opposite.1
      (at-Contains literals k has) (at-Contains literals (neg_ℤ k) opposite) (cases_lt has.0 opposite.0) (cases_lt opposite.0 has.0);
}
