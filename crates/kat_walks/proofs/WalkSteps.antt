-- One step of a walk.
use Rattle.std.proofs.Common.{◌≡◌, ℕ, zero, suc, ◌-◌, ℤ, neg_ℤ, ⊎_elim, Bool, true, false, if◌then◌else◌, List, [], ◌∷◌, ◌++◌, Contains, length, reverse, take, Option, Vec, Result, Ok, Err, IfOk, refl, sym, ap, ◌∙◌, subst, arith}
use Rattle.std.specs.Global.{Global}
use Rattle.std.proofs.lemmas.List.{take_at}
use Rattle.std.proofs.lemmas.List.Elements.{Contains-push_cases}
use Rattle.kat_clause.specs.Known.{AreUpTo, Known}
use Rattle.kat_clause.specs.Literals.{IsUpTo}
use Rattle.kat_form.specs.Encodings.{Encoding}
use Rattle.kat_walks.specs.Stands.{HasLiteral, IsNodeAt, StandsAt, added_by, end_of, judgement_of, outcome_of}
use Rattle.kat_walks.specs.Walks.{Comes, Outcome, Stays, of_both, uses}
use Rattle.kat_walks.specs.Walks.Comes.{stops_here, none_left, is_closed, first_stops, first_alone, second_stops, second_alone, joins}
use Rattle.kat_walks.specs.Walks.End.{used_up}
use Rattle.kat_walks.specs.Walks.Judgement.{closes, stops, branches}
use Rattle.kat_walks.specs.Walks.Outcome.{core_of, ends_so}
use Rattle.kat_walks.specs.declared.walking.Judged.{Judged}
use Rattle.kat_walks.specs.declared.walking.Judged.TheVariants.{Stops, Branches}
use Rattle.kat_walks.specs.declared.walking.Reached.{Reached}
use Rattle.kat_walks.specs.declared.walking.Reached.TheVariants.{Core, Ended}
use Rattle.kat_walks.specs.declared.walking.WalkEnd.{WalkEnd}

-- leaves
pub leaf_spent : (e : Encoding) (n : ℕ) (path : List ℤ) (left : ℕ) (own : Option (Vec ℤ Global)) → left ≡ 0 → IsNodeAt e n path (closes (added_by own)) → Comes e n (reverse path) left (ends_so used_up)
leaf_spent e n path left own none node = let P : ℕ → Type 0 = λ k. Comes e n (reverse path) k (ends_so used_up) in subst P (sym none) (none_left node)

pub leaf_closed : (e : Encoding) (n : ℕ) (path : List ℤ) (left : ℕ) (own : Option (Vec ℤ Global)) (c : List ℤ) → (left ≡ 0 → ⊥) → IsNodeAt e n path (closes (added_by own)) → Stays (e.clauses ++ added_by own) (reverse path) [] c
    → Comes e n (reverse path) left (core_of c (left - 1))
leaf_closed e n path zero own c some node stay = absurd (some refl)
leaf_closed e n path (suc k) own c some node stay =
    let back : k ≡ suc k - 1 = omega arith in
    let P : ℕ → Type 0 = λ m. Comes e n (reverse path) (suc k) (core_of c m) in
    subst P back (is_closed node stay)

-- a literal more is assumed, and taken back
pub assumed_stands : (e : Encoding) (n : ℕ) (known new : Known) (path longer : List ℤ) (l l1 l2 : ℤ) → StandsAt e n known path → IsUpTo (length e.senses) l → l1 ≡ l → l2 ≡ l
    → new ≡ record known { assumed = known.assumed ++ l1 ∷ []; settled = false } → longer ≡ path ++ l2 ∷ [] → StandsAt e n new longer
assumed_stands e n known new path longer l l1 l2 at small same1 same2 is push =
    let P : Known → Type 0 = λ k. StandsAt e n k longer in
    let Q : List ℤ → Type 0 = StandsAt e n (record known { assumed = known.assumed ++ l1 ∷ []; settled = false }) in
    subst P (sym is) (subst Q (sym push) (record {
      walkable = at.walkable;
      greatest = at.greatest;
      among = at.among;
      all = at.all;
      assumed = ap (λ xs. xs ++ l1 ∷ []) at.assumed ∙ ap (λ x. path ++ x ∷ []) (same1 ∙ sym same2);
      up_to = λ k has.
          let R : ℤ → Type 0 = IsUpTo known.greatest in
          let S : ℕ → Type 0 = λ g. IsUpTo g l in
          ⊎_elim
          (λ (old : Contains path k). at.up_to k old)
          (λ (e' : l2 ≡ k). subst R (sym same2 ∙ e') (subst S (sym at.greatest) small))
          (Contains-push_cases path l2 k has);
    }))

pub undone_stands : (e : Encoding) (numbers : ℕ) (old known new : Known) (path longer : List ℤ) (l : ℤ) (n : ℕ) → StandsAt e numbers old path → StandsAt e numbers known longer → longer ≡ path ++ l ∷ [] → n ≡ length path
    → new ≡ record known { assumed = take n known.assumed; settled = false } → StandsAt e numbers new path
undone_stands e numbers old known new path longer l n before at push size is =
    let P : Known → Type 0 = λ k. StandsAt e numbers k path in
    let Q : ℕ → Type 0 = λ g. AreUpTo g path in
    subst P (sym is) (record {
      walkable = at.walkable;
      greatest = at.greatest;
      among = at.among;
      all = at.all;
      assumed = ap (take n) (at.assumed ∙ push) ∙ take_at path (l ∷ []) n (sym size);
      up_to = subst Q (before.greatest ∙ sym at.greatest) before.up_to;
    })

-- what a node is told to be
pub told_stops : (e : Encoding) (n : ℕ) (seen path : List ℤ) (left : ℕ) (j : Judged) (end : WalkEnd) → seen ≡ path → j ≡ Stops end → IsNodeAt e n seen (judgement_of j) → Comes e n (reverse path) left (ends_so (end_of end))
told_stops e n seen path left j end same is node =
    let P : Judged → Type 0 = λ x. IsNodeAt e n seen (judgement_of x) in
    let Q : List ℤ → Type 0 = λ p. IsNodeAt e n p (stops (end_of end)) in
    stops_here (subst Q same (subst P is node))

pub told_branches : (e : Encoding) (n g : ℕ) (known : Known) (seen path : List ℤ) (j : Judged) (l shown : ℤ) → seen ≡ path → j ≡ Branches l → shown ≡ l → IsNodeAt e n seen (judgement_of j) → HasLiteral g j → StandsAt e n known seen
    → StandsAt e n known path × (IsUpTo g shown × IsNodeAt e n path (branches shown))
told_branches e n g known seen path j l shown same is as_shown node literal at =
    let P : Judged → Type 0 = λ x. IsNodeAt e n seen (judgement_of x) in
    let Q : List ℤ → Type 0 = λ p. IsNodeAt e n p (branches l) in
    let R : ℤ → Type 0 = λ k. IsNodeAt e n path (branches k) in
    let S : Judged → Type 0 = HasLiteral g in
    let T : ℤ → Type 0 = IsUpTo g in
    let U : List ℤ → Type 0 = StandsAt e n known in
    (subst U same at, (subst T (sym as_shown) (subst S is literal), subst R (sym as_shown) (subst Q same (subst P is node))))

pub still_branches : (e : Encoding) (n g : ℕ) (known : Known) (path seen : List ℤ) (l shown : ℤ) → seen ≡ path → shown ≡ l → StandsAt e n known path → IsUpTo g l → IsNodeAt e n path (branches l) → StandsAt e n known seen × (IsUpTo g shown × IsNodeAt e n seen (branches shown))
still_branches e n g known path seen l shown same as_shown at literal node =
    let Q : List ℤ → Type 0 = λ p. IsNodeAt e n p (branches shown) in
    let R : ℤ → Type 0 = λ k. IsNodeAt e n path (branches k) in
    let T : ℤ → Type 0 = IsUpTo g in
    let U : List ℤ → Type 0 = StandsAt e n known in
    (subst U (sym same) at, (subst T (sym as_shown) literal, subst Q (sym same) (subst R (sym as_shown) node)))

reached_by : (e : Encoding) (n : ℕ) (path : List ℤ) (left : ℕ) (l shown : ℤ) (r s : Reached) → shown ≡ l → r ≡ s → Comes e n (shown ∷ path) left (outcome_of r) → Comes e n (l ∷ path) left (outcome_of s)
reached_by e n path left l shown r s as_shown is comes =
    let P : Reached → Type 0 = λ x. Comes e n (shown ∷ path) left (outcome_of x) in
    let Q : ℤ → Type 0 = λ k. Comes e n (k ∷ path) left (outcome_of s) in
    subst Q as_shown (subst P is comes)

-- the first node ends
pub split_stops : (e : Encoding) (n : ℕ) (path : List ℤ) (left : ℕ) (l shown : ℤ) (r : Reached) (end : WalkEnd) → shown ≡ l → r ≡ Ended end → IsNodeAt e n path (branches l) → Comes e n (shown ∷ reverse path) left (outcome_of r) → Comes e n (reverse path) left (ends_so (end_of end))
split_stops e n path left l shown r end as_shown is node comes = first_stops node (reached_by e n (reverse path) left l shown r (Ended end) as_shown is comes)

used_as : (l shown : ℤ) (core seen : List ℤ) (b c : Bool) → shown ≡ l → seen ≡ core → b ≡ uses shown seen → b ≡ c → uses l core ≡ c
used_as l shown core seen b c as_shown same is e = sym (ap (λ k. uses k seen) as_shown ∙ ap (uses l) same) ∙ sym is ∙ e

-- the first core serves
pub first_serves : (e : Encoding) (n : ℕ) (path first seen : List ℤ) (behind : ℕ) (l shown : ℤ) (b : Bool) → shown ≡ l → seen ≡ first → b ≡ uses shown seen → b ≡ false → IsNodeAt e n path (branches l)
    → (left : ℕ) → Comes e n (l ∷ reverse path) left (core_of first behind) → Comes e n (reverse path) left (core_of first behind)
first_serves e n path first seen behind l shown b as_shown same is unused node left comes = first_alone node comes (used_as l shown first seen b false as_shown same is unused)

-- the second node ends
pub second_ends : (e : Encoding) (n : ℕ) (path first seen : List ℤ) (behind : ℕ) (l shown other : ℤ) (b : Bool) (r : Reached) (end : WalkEnd) → shown ≡ l → seen ≡ first → b ≡ uses shown seen → b ≡ true → IsNodeAt e n path (branches l)
    → other ≡ neg_ℤ l → r ≡ Ended end → Comes e n (other ∷ reverse path) behind (outcome_of r)
    → (left : ℕ) → Comes e n (l ∷ reverse path) left (core_of first behind) → Comes e n (reverse path) left (ends_so (end_of end))
second_ends e n path first seen behind l shown other b r end as_shown same is used node opposite told second left comes =
    second_stops node comes (used_as l shown first seen b true as_shown same is used) (reached_by e n (reverse path) behind (neg_ℤ l) other r (Ended end) opposite told second)

-- both nodes have their cores
by_use : (e : Encoding) (n : ℕ) (path first second : List ℤ) (l : ℤ) (left behind last : ℕ) (u : Bool) → uses (neg_ℤ l) second ≡ u → IsNodeAt e n path (branches l)
    → Comes e n (l ∷ reverse path) left (core_of first behind) → uses l first ≡ true → Comes e n (neg_ℤ l ∷ reverse path) behind (core_of second last)
    → Comes e n (reverse path) left (core_of (if u then of_both (reverse path) first second else second) last)
by_use e n path first second l left behind last true used node comes used_first more = joins node comes used_first more used
by_use e n path first second l left behind last false used node comes used_first more = second_alone node comes used_first more used

pub both_ok : {E : Type 0} (e : Encoding) (n : ℕ) (path first seen : List ℤ) (behind last : ℕ) (l shown other told : ℤ) (second : Vec ℤ Global) (b : Bool) (r : Reached) (result : Result Reached E) (here : List ℤ)
    → shown ≡ l → seen ≡ first → b ≡ uses shown seen → b ≡ true → IsNodeAt e n path (branches l)
    → other ≡ neg_ℤ l → told ≡ neg_ℤ l → r ≡ Core second last → here ≡ path → Comes e n (other ∷ reverse path) behind (outcome_of r)
    → IfOk result (λ x. outcome_of x ≡ core_of (if uses told second.items then of_both (reverse here) first second.items else second.items) last)
    → IfOk result (λ x. (left : ℕ) → Comes e n (l ∷ reverse path) left (core_of first behind) → Comes e n (reverse path) left (outcome_of x))
both_ok e n path first seen behind last l shown other told second b r (Err x) here as_shown same is used node opposite opposite' core here_is comes joined = joined
both_ok e n path first seen behind last l shown other told second b r (Ok x) here as_shown same is used node opposite opposite' core here_is comes joined = λ left before.
    let P : Outcome → Type 0 = Comes e n (reverse path) left in
    let whole : outcome_of x ≡ core_of (if uses (neg_ℤ l) second.items then of_both (reverse path) first second.items else second.items) last =
    joined ∙ ap (λ k. core_of (if uses k second.items then of_both (reverse here) first second.items else second.items) last) opposite'
    ∙ ap (λ p. core_of (if uses (neg_ℤ l) second.items then of_both (reverse p) first second.items else second.items) last) here_is in
    subst P (sym whole) (by_use e n path first second.items l left behind last (uses (neg_ℤ l) second.items) refl node before (used_as l shown first seen b true as_shown same is used)
    (reached_by e n (reverse path) behind (neg_ℤ l) other r (Core second last) opposite core comes))
