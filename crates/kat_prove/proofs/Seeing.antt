-- What was found of conditions, when one more is noted or one is taken out.
use Rattle.std.proofs.Common.{◌≡◌, ℕ, zero, suc, ◌+◌, ◌<◌, ◌⊎◌, inl, inr, ⊎_elim, List, [], ◌∷◌, ◌++◌, length, set, Option, Some, None, Result, Ok, Err, IfOk, refl, sym, ap, subst, ◌∙◌, arith}
use Rattle.std.specs.Prelude.{IfSome, slice_index_or}
use Rattle.kat_relation.specs.declared.relations.Conjunct.{Conjunct}
use Rattle.kat_cases.specs.declared.decision.Point.{Point}
use Rattle.kat_prove.specs.Trials.{TrialForm, AreSeen, Holds, IsFailed, IsFound, IsNoLonger, IsSkim, condition_facts}
use Rattle.kat_prove.specs.declared.skims.Failed.{Failed}
use Rattle.kat_prove.specs.declared.skims.Failed.TheVariants.{Query as OfQuery, Dropped}
use Rattle.kat_prove.specs.declared.skims.Skim.{Skim}
use Rattle.kat_prove.specs.declared.trials.Kept.{Kept}
use Rattle.kat_prove.specs.declared.seen.Seen.{Seen}
use Rattle.kat_prove.specs.declared.surveys.Found.{Found}

abbrev pub IsFoundAt : TrialForm → List Conjunct → ℕ → Found → Type 0
IsFoundAt trial relation number found = IsFound (condition_facts trial relation number) trial.effort found

some_same : (a b : Found) → Some a ≡ Some b → a ≡ b
some_same a b e = cc

none_some : (a : Found) → None ≡ Some a → ⊥
none_some a e = cc

pub none_seen : (trial : TrialForm) (relation : List Conjunct) (seen : Seen) → seen.found.items ≡ [] → AreSeen trial relation seen
none_seen trial relation seen none i found is = absurd (none_some found (ap (λ (xs : List (Option Found)). slice_index_or xs i None) (sym none) ∙ is))

-- the last one, or one before
push_cases : (xs : List (Option Found)) (y : Found) (i : ℕ) (found : Found) → slice_index_or (xs ++ Some y ∷ []) i None ≡ Some found → (slice_index_or xs i None ≡ Some found) ⊎ ((i ≡ length xs) × (y ≡ found))
push_cases [] y zero found e = inr (refl, some_same y found e)
push_cases [] y (suc i) found e = absurd (none_some found e)
push_cases (x ∷ xs) y zero found e = inl e
push_cases (x ∷ xs) y (suc i) found e = ⊎_elim (λ (k : slice_index_or xs i None ≡ Some found). inl k) (λ (k : (i ≡ length xs) × (y ≡ found)). inr (ap suc k.0, k.1)) (push_cases xs y i found e)

pub seen_more : (trial : TrialForm) (relation : List Conjunct) (old new : Seen) (number : ℕ) (found : Found) → new.from ≡ old.from → new.found.items ≡ old.found.items ++ Some found ∷ [] → number ≡ old.from + length old.found.items
    → AreSeen trial relation old → IsFoundAt trial relation number found → AreSeen trial relation new
seen_more trial relation old new number found from items at h last i f is = ⊎_elim
    (λ (k : slice_index_or old.found.items i None ≡ Some f). (let P : ℕ → Type 0 = λ n. IsFoundAt trial relation (n + i) f in subst P (sym from) (h i f k)))
    (λ (k : (i ≡ length old.found.items) × (found ≡ f)).
    let place : number ≡ new.from + i = (let a = k.0 in omega (arith, at, from, a)) in
    let P : ℕ → Type 0 = λ n. IsFoundAt trial relation n f in
    subst P place (subst (IsFoundAt trial relation number) k.1 last))
    (push_cases old.found.items found i f (ap (λ (xs : List (Option Found)). slice_index_or xs i None) (sym items) ∙ is))

pub seen_first : (trial : TrialForm) (relation : List Conjunct) (new : Seen) (number : ℕ) (found : Found) → new.from ≡ number → new.found.items ≡ Some found ∷ [] → IsFoundAt trial relation number found → AreSeen trial relation new
seen_first trial relation new number found from items first i f is = ⊎_elim
    (λ (k : slice_index_or [] i None ≡ Some f). absurd (none_some f k))
    (λ (k : (i ≡ 0) × (found ≡ f)).
    let place : number ≡ new.from + i = (let a = k.0 in omega (arith, from, a)) in
    let P : ℕ → Type 0 = λ n. IsFoundAt trial relation n f in
    subst P place (subst (IsFoundAt trial relation number) k.1 first))
    (push_cases [] found i f (ap (λ (xs : List (Option Found)). slice_index_or xs i None) (sym items) ∙ is))

-- one is taken out
left_there : (xs : List (Option Found)) (place i : ℕ) (found : Found) → slice_index_or (set xs place None) i None ≡ Some found → slice_index_or xs i None ≡ Some found
left_there [] place i found e = e
left_there (x ∷ xs) zero zero found e = absurd (none_some found e)
left_there (x ∷ xs) zero (suc i) found e = e
left_there (x ∷ xs) (suc place) zero found e = e
left_there (x ∷ xs) (suc place) (suc i) found e = left_there xs place i found e

pub seen_less : (trial : TrialForm) (relation : List Conjunct) (old new : Seen) (place : ℕ) → new.from ≡ old.from → new.found.items ≡ set old.found.items place None → AreSeen trial relation old → AreSeen trial relation new
seen_less trial relation old new place from items h i f is =
    let P : ℕ → Type 0 = λ n. IsFoundAt trial relation (n + i) f in
    subst P (sym from) (h i f (left_there old.found.items place i f (ap (λ (xs : List (Option Found)). slice_index_or xs i None) (sym items) ∙ is)))

pub seen_at : (trial : TrialForm) (relation : List Conjunct) (seen : Seen) (place number : ℕ) (o : Option Found) → slice_index_or seen.found.items place None ≡ o → seen.from + place ≡ number → AreSeen trial relation seen
    → IfSome o (IsFoundAt trial relation number)
seen_at trial relation seen place number None is at h = tt
seen_at trial relation seen place number (Some found) is at h = let P : ℕ → Type 0 = λ n. IsFoundAt trial relation n found in subst P at (h place found is)

-- what is at a place within, whatever the default
pub at_any : (xs : List (Option Found)) (i : ℕ) (d e : Option Found) → i < length xs → slice_index_or xs i d ≡ slice_index_or xs i e
at_any [] i d e h = absurd (omega (arith, h))
at_any (x ∷ xs) zero d e h = refl
at_any (x ∷ xs) (suc i) d e h = at_any xs i d e (omega (arith, h))

pub always : {A E : Type 0} (r : Result A E) (P : Type 0) → P → IfOk r (λ (a : A). P)
always (Ok a) P h = h
always (Err e) P h = tt

-- what is kept after a condition that fails
pub kept_after_query : (trial : TrialForm) (kept same next : Kept) (number : ℕ) (point p : Point) (query : ℕ) (failed : Failed) → failed ≡ OfQuery same query p → IsFailed trial kept number point failed → Holds trial kept → next ≡ same
    → IsNoLonger trial (length kept.numbers.items) next
kept_after_query trial kept same next number point p query failed is h holds e =
    let f = subst (IsFailed trial kept number point) is h in
    let P : Kept → Type 0 = IsNoLonger trial (length kept.numbers.items) in
    subst P (sym (e ∙ f.0)) (holds, omega arith)

pub kept_after_drop : (trial : TrialForm) (kept fewer next : Kept) (number at : ℕ) (point : Point) (failed : Failed) → failed ≡ Dropped fewer at → IsFailed trial kept number point failed → next ≡ fewer
    → IsNoLonger trial (length kept.numbers.items) next
kept_after_drop trial kept fewer next number at point failed is h e =
    let f = subst (IsFailed trial kept number point) is h in
    let P : Kept → Type 0 = IsNoLonger trial (length kept.numbers.items) in
    let less = f.1 in
    subst P (sym e) (f.0, omega (arith, less))

pub kept_still : (trial : TrialForm) (kept next : Kept) → Holds trial kept → next ≡ kept → IsNoLonger trial (length kept.numbers.items) next
kept_still trial kept next holds e = let P : Kept → Type 0 = IsNoLonger trial (length kept.numbers.items) in subst P (sym e) (holds, omega arith)

pub skim_goes : {E : Type 0} (trial : TrialForm) (skim : Skim) (found : Found) (r : Result Skim E) → Holds trial skim.kept → AreSeen trial skim.kept.relation.conjuncts skim.seen → IsFoundAt trial skim.kept.relation.conjuncts skim.next found
    → IfOk r (λ more. more.kept ≡ skim.kept)
    → IfOk r (λ more. (t : TrialForm) (relation : List Conjunct) → AreSeen t relation skim.seen → IsFound (condition_facts t relation skim.next) t.effort found → AreSeen t relation more.seen)
    → IfOk r (IsSkim trial (length skim.kept.numbers.items))
skim_goes trial skim found (Ok more) holds seen is same on = (
  kept_still trial skim.kept more.kept holds same,
  let P : Kept → Type 0 = λ kept. AreSeen trial kept.relation.conjuncts more.seen in subst P (sym same) (on trial skim.kept.relation.conjuncts seen is),
)
skim_goes trial skim found (Err e) holds seen is same on = tt
