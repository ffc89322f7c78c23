-- Two holders with the same clock and the same operations, and what a delivery makes of them.
use Rattle.std.proofs.Common.{◌≡◌, ℕ, ◌<◌, ◌≤◌, max, ◌⊎◌, inl, inr, ⊎_elim, List, [], ◌∷◌, ◌++◌, refl, sym, ◌∙◌, ap, subst, arith}
use Rattle.std.specs.Prelude.{nat_lt}
use Rattle.std.proofs.lemmas.Bool.{cases_Bool, ltb-true, ltb-false}
use Rattle.kat_script.specs.Facts.{IsFront}
use Rattle.kat_script.specs.World.{Holder, after_doing, merged}
use Rattle.kat_type.specs.Unions.{united}
use Rattle.kat_type.proofs.Unions.{has_mine, has_theirs, has_united}
use Rattle.kat_type.specs.Lists.{Has, HaveSame}
use Rattle.kat_type.specs.declared.done.Done.{Done}
use Rattle.kat_type.proofs.Lists.{either_last, has_front, has_last}

-- the same clock, and the same operations
pub record AreAlike (one other : Holder) : Type 0 where
  pub clocks : one.clock ≡ other.clock
  pub same : HaveSame one.absorbed other.absorbed

pub alike_itself : (one : Holder) → AreAlike one one
alike_itself one = record { clocks = refl; same = (λ done has. has, λ done has. has) }

-- the elements of the one list are among those of the other
abbrev AreIn : List Done → List Done → Type 0
AreIn xs ys = (one : Done) → Has xs one → Has ys one

united_in : (xs ys zs ws : List Done) → AreIn xs zs → AreIn ys ws → AreIn (united xs ys) (united zs ws)
united_in xs ys zs ws h k one has = ⊎_elim (λ i. has_mine zs ws one (h one i)) (λ i. has_theirs zs ws one (k one i)) (has_united xs ys one has)

pub merged_alike : (a b p q : Holder) → AreAlike a b → AreAlike p q → AreAlike (merged a p) (merged b q)
merged_alike a b p q h k = record {
  clocks = ap (λ (n : ℕ). max n p.clock) h.clocks ∙ ap (λ (n : ℕ). max b.clock n) k.clocks;
  same = (united_in a.absorbed p.absorbed b.absorbed q.absorbed h.same.0 k.same.0, united_in b.absorbed q.absorbed a.absorbed p.absorbed h.same.1 k.same.1);
}

last_in : (xs ys : List Done) (new : Done) → AreIn xs ys → AreIn (xs ++ new ∷ []) (ys ++ new ∷ [])
last_in xs ys new h one has =
    ⊎_elim (λ i. has_front ys (new ∷ []) one (h one i)) (λ (e : new ≡ one). subst (λ (x : Done). Has (ys ++ new ∷ []) x) e (has_last ys new)) (either_last xs new one has)

pub did_alike : (a b : Holder) (new : Done) → AreAlike a b → AreAlike (after_doing a new) (after_doing b new)
did_alike a b new h = record { clocks = refl; same = (last_in a.absorbed b.absorbed new h.same.0, last_in b.absorbed a.absorbed new h.same.1) }

-- two packets in either order
max_turned : (a p q : ℕ) → max (max a p) q ≡ max (max a q) p
max_turned a p q = omega arith

turned_in : (xs ys zs : List Done) → AreIn (united (united xs ys) zs) (united (united xs zs) ys)
turned_in xs ys zs one has =
    ⊎_elim
    (λ i. ⊎_elim (λ j. has_mine (united xs zs) ys one (has_mine xs zs one j)) (λ j. has_theirs (united xs zs) ys one j) (has_united xs ys one i))
    (λ i. has_mine (united xs zs) ys one (has_theirs xs zs one i))
    (has_united (united xs ys) zs one has)

pub turned_alike : (a p q : Holder) → AreAlike (merged (merged a p) q) (merged (merged a q) p)
turned_alike a p q = record {
  clocks = max_turned a.clock p.clock q.clock;
  same = (turned_in a.absorbed p.absorbed q.absorbed, turned_in a.absorbed q.absorbed p.absorbed);
}

-- the clock is 0 or the time of an operation that is absorbed
abbrev pub HasLatest : Holder → Type 0
HasLatest holder = (holder.clock ≡ 0) ⊎ ((one : Done) × Has holder.absorbed one × (one.time ≡ holder.clock))

pub latest_did : (holder : Holder) (new : Done) → HasLatest (after_doing holder new)
latest_did holder new = inr (new, has_last holder.absorbed new, refl)

lt_or_le : (a b : ℕ) → (a < b) ⊎ (b ≤ a)
lt_or_le a b = ⊎_elim (λ e. inl (ltb-true a b e)) (λ e. inr (ltb-false a b e)) (cases_Bool (nat_lt a b))

right_max : (a b : ℕ) → a < b → b ≡ max a b
right_max a b l = omega arith

left_max : (a b : ℕ) → b ≤ a → a ≡ max a b
left_max a b l = omega arith

latest_of : (mine theirs one : Holder) → one.clock ≡ max mine.clock theirs.clock → AreIn one.absorbed (united mine.absorbed theirs.absorbed) → HasLatest one → HasLatest (merged mine theirs)
latest_of mine theirs one e among h = ⊎_elim (λ none. inl (sym e ∙ none)) (λ some. inr (some.0, among some.0 some.1, some.2 ∙ e)) h

pub latest_merged : (mine theirs : Holder) → HasLatest mine → HasLatest theirs → HasLatest (merged mine theirs)
latest_merged mine theirs h k =
    ⊎_elim
    (λ (l : mine.clock < theirs.clock). latest_of mine theirs theirs (right_max mine.clock theirs.clock l) (has_theirs mine.absorbed theirs.absorbed) k)
    (λ (l : theirs.clock ≤ mine.clock). latest_of mine theirs mine (left_max mine.clock theirs.clock l) (has_mine mine.absorbed theirs.absorbed) h)
    (lt_or_le mine.clock theirs.clock)

at_least_none : (a b : ℕ) → b ≡ 0 → max a b ≡ a
at_least_none a b e = omega arith

at_least_one : (a b c : ℕ) → c ≡ b → c ≤ a → max a b ≡ a
at_least_one a b c e l = omega arith

-- what is absorbed already changes nothing
pub absorbed_alike : (past : List Done) (mine theirs : Holder) → IsFront past mine → HasLatest theirs → ((one : Done) → Has theirs.absorbed one → Has mine.absorbed one)
    → AreAlike (merged mine theirs) mine
absorbed_alike past mine theirs front latest among = record {
  clocks =
      ⊎_elim (λ none. at_least_none mine.clock theirs.clock none)
      (λ some. at_least_one mine.clock theirs.clock some.0.time some.2 (front.within some.0 (among some.0 some.1))) latest;
  same = (
    λ one has. ⊎_elim (λ i. i) (λ i. among one i) (has_united mine.absorbed theirs.absorbed one has),
    λ one has. has_mine mine.absorbed theirs.absorbed one has,
  );
}
