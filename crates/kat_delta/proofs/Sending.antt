-- Sums that are told whole: what a tally keeps when it joins them.
use Rattle.std.proofs.Common.{◌≡◌, ℕ, ◌+◌, ◌≤◌, max, length, Bool, true, false, ◌⊎◌, inl, inr, ⊎_elim, List, [], ◌∷◌, ◌++◌, take, drop, refl, sym, ◌∙◌, ap, subst, cond, arith}
use Rattle.std.specs.Prelude.{◌==◌, ◌||◌}
use Rattle.std.specs.List.{list_any}
use Rattle.std.proofs.Math.Seq.{drop-append_seam}
use Rattle.std.proofs.lemmas.List.{take-append-drop, drop-append-le}
use Rattle.std.proofs.lemmas.List.Folds.{list_any-append}
use Rattle.kat_type.specs.Lists.{Has, IsOnce}
use Rattle.kat_type.specs.declared.done.Done.{Done}
use Rattle.kat_lattice.specs.Tallies.{sum_of, tallies_joined, tally_joined}
use Rattle.kat_lattice.proofs.Readings.{same_sums_same_tally, takes_greater_sums}
use Rattle.kat_type.specs.Unions.{AreNested, united}
use Rattle.kat_design.specs.Tallied.{share, sum_done, tally_of}
use Rattle.kat_type.proofs.Lists.{has_either}
use Rattle.kat_design.proofs.Lists.{total_among}
use Rattle.kat_type.proofs.Unions.{has_mine, has_united}
use Rattle.kat_design.proofs.Tallying.{sum_among, sum_append, sums_unite}
use Rattle.kat_design.proofs.Tallies.{tallies_kin, tally_is, tally_sum}

-- the sum that is told: of all, if one after the first c acts
abbrev pub told_sum : (Done → ℕ) → (Done → Bool) → ℕ → List Done → ℕ → ℕ
told_sum weight acts r ones c = cond (list_any acts (drop c ones)) (sum_done weight r ones) 0

-- an operation that doesn't act weighs nothing, and of the operations that are told the sums are those
pub record Tells (weight : Done → ℕ) (acts : Done → Bool) (of : List Done → ℕ → List Done) : Type 0 where
  pub quiet : (one : Done) → acts one ≡ false → weight one ≡ 0
  pub sums : (r : ℕ) (ones : List Done) (c : ℕ) → sum_done weight r (of ones c) ≡ told_sum weight acts r ones c

share_none_from : (b : Bool) (w : ℕ) → w ≡ 0 → cond b w 0 ≡ 0
share_none_from true w e = e
share_none_from false w e = refl

pub share_none : (weight : Done → ℕ) (r : ℕ) (one : Done) → weight one ≡ 0 → share weight r one ≡ 0
share_none weight r one e = share_none_from (one.replica == r) (weight one) e

two_none : (a b : ℕ) → a ≡ 0 → b ≡ 0 → a + b ≡ 0
two_none a b e f = omega arith

pub none_weighs : (weight : Done → ℕ) (r : ℕ) (ones : List Done) → ((one : Done) → Has ones one → weight one ≡ 0) → sum_done weight r ones ≡ 0
none_weighs weight r [] none = refl
none_weighs weight r (one ∷ ones) none =
    two_none (share weight r one) (sum_done weight r ones) (share_none weight r one (none one (inl refl))) (none_weighs weight r ones (λ x h. none x (inr h)))

any_or : (a b : Bool) → (a || b) ≡ false → (a ≡ false) × (b ≡ false)
any_or true b e = absurd cc
any_or false b e = (refl, e)

pub none_acts : {X : Type 0} (acts : X → Bool) (ones : List X) → list_any acts ones ≡ false → (one : X) → Has ones one → acts one ≡ false
none_acts acts [] e one h = absurd h
none_acts {X} acts (x ∷ ones) e one (inl i) = subst (λ (y : X). acts y ≡ false) i (any_or (acts x) (list_any acts ones) e).0
none_acts acts (x ∷ ones) e one (inr h) = none_acts acts ones (any_or (acts x) (list_any acts ones) e).1 one h

-- the first c or those after
pub early_or_late : {X : Type 0} (c : ℕ) (ones : List X) (one : X) → Has ones one → Has (take c ones) one ⊎ Has (drop c ones) one
early_or_late {X} c ones one h = has_either (take c ones) (drop c ones) one (subst (λ (xs : List X). Has xs one) (sym (take-append-drop c ones)) h)

greater_none : (s : ℕ) → max s 0 ≡ s
greater_none s = omega arith

both_ways : (a b : ℕ) → a ≤ b → b ≤ a → a ≡ b
both_ways a b h k = omega arith

-- operations without a weight change no sum
pub united_none : (weight : Done → ℕ) (r : ℕ) (ys ones : List Done) (c : ℕ) → IsOnce ys → IsOnce (united ys ones)
    → ((one : Done) → Has (take c ones) one → Has ys one) → ((one : Done) → Has (drop c ones) one → weight one ≡ 0)
    → sum_done weight r ys ≡ sum_done weight r (united ys ones)
united_none weight r ys ones c once all_once early none =
    both_ways (sum_done weight r ys) (sum_done weight r (united ys ones))
    (sum_among weight r ys (united ys ones) once (λ one is has. has_mine ys ones one has))
    (total_among (share weight r) (united ys ones) ys all_once
    (λ one has. ⊎_elim (λ h. inr h)
    (λ h. ⊎_elim (λ k. inr (early one k)) (λ k. inl (share_none weight r one (none one k))) (early_or_late c ones one h))
    (has_united ys ones one has)))

joins_from : (weight : Done → ℕ) (acts : Done → Bool) → ((one : Done) → acts one ≡ false → weight one ≡ 0) → (r : ℕ) (ys ones : List Done) (c : ℕ) → IsOnce ys → IsOnce ones → IsOnce (united ys ones) → AreNested ys ones
    → ((one : Done) → Has (take c ones) one → Has ys one) → (b : Bool) → list_any acts (drop c ones) ≡ b
    → max (sum_done weight r ys) (cond b (sum_done weight r ones) 0) ≡ sum_done weight r (united ys ones)
joins_from weight acts quiet r ys ones c once twice all_once nested early true e = sym (sums_unite weight r ys ones once twice nested)
joins_from weight acts quiet r ys ones c once twice all_once nested early false e =
    greater_none (sum_done weight r ys)
    ∙ united_none weight r ys ones c once all_once early (λ one h. quiet one (none_acts acts (drop c ones) e one h))

-- the greater of the sum that is kept and the one that is told is that of all
pub sums_join : {weight : Done → ℕ} {acts : Done → Bool} {of : List Done → ℕ → List Done} → Tells weight acts of → (r : ℕ) (ys ones : List Done) (c : ℕ) → IsOnce ys → IsOnce ones → IsOnce (united ys ones) → AreNested ys ones
    → ((one : Done) → Has (take c ones) one → Has ys one) → max (sum_done weight r ys) (sum_done weight r (of ones c)) ≡ sum_done weight r (united ys ones)
sums_join {weight} {acts} {of} tells r ys ones c once twice all_once nested early =
    ap (λ s. max (sum_done weight r ys) s) (tells.sums r ones c)
    ∙ joins_from weight acts tells.quiet r ys ones c once twice all_once nested early (list_any acts (drop c ones)) refl

-- one operation more
more_from : (b a : Bool) (s h : ℕ) → (a ≡ false → h ≡ 0) → max (cond b s 0) (cond (a || false) (s + h) 0) ≡ cond (b || (a || false)) (s + h) 0
more_from true true s h none = omega arith
more_from true false s h none = let e : h ≡ 0 = none refl in omega arith
more_from false true s h none = omega arith
more_from false false s h none = refl

plus_none : (s a : ℕ) → s + (a + 0) ≡ s + a
plus_none s a = omega arith

pub sum_last : (weight : Done → ℕ) (r : ℕ) (ones : List Done) (x : Done) → sum_done weight r (ones ++ x ∷ []) ≡ sum_done weight r ones + share weight r x
sum_last weight r ones x = sum_append weight r ones (x ∷ []) ∙ plus_none (sum_done weight r ones) (share weight r x)

late_last : (acts : Done → Bool) (ones : List Done) (x : Done) (c : ℕ) → c ≤ length ones → list_any acts (drop c (ones ++ x ∷ [])) ≡ (list_any acts (drop c ones) || list_any acts (x ∷ []))
late_last acts ones x c l = ap (list_any acts) (drop-append-le c ones (x ∷ []) l) ∙ list_any-append acts (drop c ones) (x ∷ [])

only_last : (acts : Done → Bool) (ones : List Done) (x : Done) → list_any acts (drop (length ones) (ones ++ x ∷ [])) ≡ list_any acts (x ∷ [])
only_last acts ones x = ap (list_any acts) (drop-append_seam ones (x ∷ []))

two_conds : (b d : Bool) (s t : ℕ) → b ≡ d → s ≡ t → cond b s 0 ≡ cond d t 0
two_conds b d s t e f = cc

two_max : (a b c d : ℕ) → a ≡ c → b ≡ d → max a b ≡ max c d
two_max a b c d e f = cc

pub sums_more : {weight : Done → ℕ} {acts : Done → Bool} {of : List Done → ℕ → List Done} → Tells weight acts of → (r : ℕ) (ones : List Done) (x : Done) (c : ℕ) → c ≤ length ones
    → max (sum_done weight r (of ones c)) (sum_done weight r (of (ones ++ x ∷ []) (length ones))) ≡ sum_done weight r (of (ones ++ x ∷ []) c)
sums_more {weight} {acts} {of} tells r ones x c l =
    let s = sum_done weight r ones in
    let h = share weight r x in
    let b = list_any acts (drop c ones) in
    two_max (sum_done weight r (of ones c)) (sum_done weight r (of (ones ++ x ∷ []) (length ones))) (cond b s 0) (cond (acts x || false) (s + h) 0)
    (tells.sums r ones c)
    (tells.sums r (ones ++ x ∷ []) (length ones) ∙ two_conds _ (acts x || false) _ (s + h) (only_last acts ones x) (sum_last weight r ones x))
    ∙ more_from b (acts x) s h (λ e. share_none weight r x (tells.quiet x e))
    ∙ sym (tells.sums r (ones ++ x ∷ []) c ∙ two_conds _ (b || (acts x || false)) _ (s + h) (late_last acts ones x c l) (sum_last weight r ones x))

-- nothing after the end
pub sums_end : {weight : Done → ℕ} {acts : Done → Bool} {of : List Done → ℕ → List Done} → Tells weight acts of → (r : ℕ) (ones : List Done) (c : ℕ) → drop c ones ≡ [] → sum_done weight r (of ones c) ≡ 0
sums_end {weight} {acts} tells r ones c e = tells.sums r ones c ∙ ap (λ (late : List Done). cond (list_any acts late) (sum_done weight r ones) 0) e

-- tallies with such sums
pub tallies_join_as : (weight : Done → ℕ) (us vs ws : List Done) → ((r : ℕ) → max (sum_done weight r us) (sum_done weight r vs) ≡ sum_done weight r ws)
    → tallies_joined (tally_of weight us) (tally_of weight vs) ≡ tally_of weight ws
tallies_join_as weight us vs ws e =
    same_sums_same_tally (tallies_joined (tally_of weight us) (tally_of weight vs)) (tally_of weight ws)
    (record { left = tally_joined (tally_of weight us) (tally_of weight vs) (tally_is weight us) (tally_is weight vs); right = tally_is weight ws })
    (λ r. takes_greater_sums (tally_of weight us) (tally_of weight vs) (tallies_kin weight us vs) r
    ∙ two_max (sum_of (tally_of weight us) r) (sum_of (tally_of weight vs) r) (sum_done weight r us) (sum_done weight r vs) (tally_sum weight us r) (tally_sum weight vs r)
    ∙ e r ∙ sym (tally_sum weight ws r))

pub tally_as : (weight : Done → ℕ) (us vs : List Done) → ((r : ℕ) → sum_done weight r us ≡ sum_done weight r vs) → tally_of weight us ≡ tally_of weight vs
tally_as weight us vs e = same_sums_same_tally (tally_of weight us) (tally_of weight vs) (tallies_kin weight us vs) (λ r. tally_sum weight us r ∙ e r ∙ sym (tally_sum weight vs r))
