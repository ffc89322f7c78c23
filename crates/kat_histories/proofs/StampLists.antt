-- The lists of stamps, by trying all of them.
use Rattle.std.proofs.Common.{◌≡◌, ℕ, suc, ◌≤◌, inl, inr, Bool, true, false, List, [], ◌∷◌, map, length, arith, refl, sym, ◌∙◌, ap, subst}
use Rattle.std.specs.Prelude.{nat_le, ◌&&◌, ◌||◌, ◌==◌, not}
use Rattle.std.specs.Bool.{Decides}
use Rattle.std.specs.List.{AllPairs, list_all, list_any}
use Rattle.std.specs.declared.cmp.Ordering.{Ordering}
use Rattle.std.specs.declared.cmp.Ordering.TheVariants.{Less, Equal, Greater}
use Rattle.std.proofs.lemmas.Bool.{eqb-true, leb-true}
use Rattle.kat_num.specs.declared.values.TheConstants.{NUMBER_LIMIT}
use Rattle.kat_design.specs.Sorted.{AreMatched}
use Rattle.kat_type.specs.Lists.{Has}
use Rattle.kat_histories.specs.Choices.{headed, one_of_each}
use Rattle.kat_histories.specs.Histories.{stamp, stamp_lists, stamps}
use Rattle.kat_histories.specs.Laws.{stamp_cmp}
use Rattle.kat_histories.specs.Orders.{each_pair, is_less}
use Rattle.kat_histories.specs.Stamping.{are_same_stamps, is_before, is_good, is_in_range, is_listed, is_same_stamp, short_lists}
use Rattle.kat_histories.specs.declared.stamps.Stamp.{Stamp}
use Rattle.kat_histories.proofs.Members.{at_any, has_flat, has_map}
use Rattle.kat_histories.proofs.Tests.{both_true, pairs_decided}

all_good : list_all is_good stamp_lists ≡ true
unfolding stamp_lists stamps
all_good = refl

all_listed : list_all is_listed short_lists ≡ true
unfolding stamp_lists stamps
all_listed = refl

all_in_range : list_all is_in_range stamps ≡ true
unfolding stamps
all_in_range = refl

pub all_at : {X : Type 0} (p : X → Bool) (xs : List X) (x : X) → list_all p xs ≡ true → Has xs x → p x ≡ true
all_at p [] x e h = absurd h
all_at p (y ∷ xs) x e (inl i) = ap p (sym i) ∙ (both_true (p y) (list_all p xs) e).0
all_at p (y ∷ xs) x e (inr h) = all_at p xs x (both_true (p y) (list_all p xs) e).1 h

pub less_decided : (o : Ordering) → Decides (is_less o) (o ≡ Less)
less_decided Less = (λ e. refl, λ e. refl)
less_decided Equal = (λ e. absurd (cc e), λ e. absurd (cc e))
less_decided Greater = (λ e. absurd (cc e), λ e. absurd (cc e))

pub before_decided : (ats : List Stamp) → Decides (each_pair is_before ats) (AllPairs (λ some other. stamp_cmp some other ≡ Less) ats)
before_decided ats = pairs_decided is_before (λ some other. stamp_cmp some other ≡ Less) ats (λ some other. less_decided (stamp_cmp some other))

same_stamp : (a b : Stamp) → is_same_stamp a b ≡ true → a ≡ b
same_stamp a b e =
    let parts = both_true (a.replica == b.replica) (a.time == b.time) e in
    made a.replica a.time b.replica b.time (eqb-true a.replica b.replica parts.0) (eqb-true a.time b.time parts.1) where
      made : (r t s u : ℕ) → r ≡ s → t ≡ u → stamp r t ≡ stamp s u
      made r t s u i j = cc

same_stamps : (ats others : List Stamp) → are_same_stamps ats others ≡ true → ats ≡ others
same_stamps [] [] e = refl
same_stamps [] (b ∷ others) e = absurd (cc e)
same_stamps (a ∷ ats) [] e = absurd (cc e)
same_stamps (a ∷ ats) (b ∷ others) e =
    let parts = both_true (is_same_stamp a b) (are_same_stamps ats others) e in
    let first : a ≡ b = same_stamp a b parts.0 in
    let rest : ats ≡ others = same_stamps ats others parts.1 in
    cc

-- what each of the lists is
pub record IsGood (ats : List Stamp) : Type 0 where
  pub few : length ats ≤ 3
  pub among : (at : Stamp) → Has ats at → Has stamps at
  pub ascending : AllPairs (λ some other. stamp_cmp some other ≡ Less) ats

pub good_list : (ats : List Stamp) → Has stamp_lists ats → IsGood ats
good_list ats h =
    let good : is_good ats ≡ true = all_at is_good stamp_lists ats all_good h in
    let parts = both_true (nat_le (length ats) 3) (list_all (λ at. list_any (is_same_stamp at) stamps) ats && each_pair is_before ats) good in
    let more = both_true (list_all (λ at. list_any (is_same_stamp at) stamps) ats) (each_pair is_before ats) parts.1 in
    record {
      few = leb-true (length ats) 3 parts.0;
      among = λ at has. there at (all_at (λ at. list_any (is_same_stamp at) stamps) ats at more.0 has);
      ascending = (before_decided ats).0 more.1;
    } where
      there : (at : Stamp) → list_any (is_same_stamp at) stamps ≡ true → Has stamps at
      there at e = let r = at_any (is_same_stamp at) stamps e in subst (λ s. Has stamps s) (sym (same_stamp at r.0 r.2)) r.1

-- one element of each list makes one of the choices
pub choice_has : {X : Type 0} (lists : List (List X)) (xs : List X) → AreMatched (λ (x : X) (list : List X). Has list x) xs lists → Has (one_of_each lists) xs
choice_has [] [] m = inl refl
choice_has [] (x ∷ xs) m = absurd m
choice_has (list ∷ lists) [] m = absurd m
choice_has (list ∷ lists) (x ∷ xs) m =
    has_flat (λ y. map (headed y) (one_of_each lists)) list x (x ∷ xs) m.0 (has_map (headed x) (one_of_each lists) xs (choice_has lists xs m.1))

abbrev lengths : List (List (List Stamp))
lengths = [] ∷ (stamps ∷ []) ∷ (stamps ∷ stamps ∷ []) ∷ (stamps ∷ stamps ∷ stamps ∷ []) ∷ []

short_at : (lists : List (List Stamp)) (ats : List Stamp) → Has lengths lists → AreMatched (λ (at : Stamp) (list : List Stamp). Has list at) ats lists → Has short_lists ats
short_at lists ats h m = has_flat one_of_each lengths lists ats h (choice_has lists ats m)

-- all lists of at most three stamps
short : (ats : List Stamp) → length ats ≤ 3 → ((at : Stamp) → Has ats at → Has stamps at) → Has short_lists ats
short [] few among = short_at [] [] (inl refl) tt
short (a ∷ []) few among = short_at (stamps ∷ []) (a ∷ []) (inr (inl refl)) (among a (inl refl), tt)
short (a ∷ b ∷ []) few among = short_at (stamps ∷ stamps ∷ []) (a ∷ b ∷ []) (inr (inr (inl refl))) (among a (inl refl), (among b (inr (inl refl)), tt))
short (a ∷ b ∷ c ∷ []) few among =
    short_at (stamps ∷ stamps ∷ stamps ∷ []) (a ∷ b ∷ c ∷ []) (inr (inr (inr (inl refl)))) (among a (inl refl), (among b (inr (inl refl)), (among c (inr (inr (inl refl))), tt)))
short (a ∷ b ∷ c ∷ d ∷ ats) few among = absurd (none (length ats) few) where
  none : (n : ℕ) → suc (suc (suc (suc n))) ≤ 3 → ⊥
  none n h = omega (arith, h)

-- an ascending list of at most three stamps is one of the lists
pub good_has : (ats : List Stamp) → IsGood ats → Has stamp_lists ats
good_has ats good =
    let listed : is_listed ats ≡ true = all_at is_listed short_lists ats all_listed (short ats good.few good.among) in
    let found = at_any (are_same_stamps ats) stamp_lists (second (each_pair is_before ats) (list_any (are_same_stamps ats) stamp_lists) ((before_decided ats).1 good.ascending) listed) in
    subst (λ l. Has stamp_lists l) (sym (same_stamps ats found.0 found.2)) found.1 where
      second : (a b : Bool) → a ≡ true → (not a || b) ≡ true → b ≡ true
      second true b e h = h
      second false b e h = absurd (cc e)

-- replicas and times of stamps
pub record IsInRange (at : Stamp) : Type 0 where
  pub numbered : 1 ≤ at.replica
  pub few : at.replica ≤ 32
  pub timed : 1 ≤ at.time
  pub time : at.time ≤ NUMBER_LIMIT

pub in_range : (at : Stamp) → Has stamps at → IsInRange at
in_range at h =
    let first = both_true (nat_le 1 at.replica) (nat_le at.replica 32 && (nat_le 1 at.time && nat_le at.time NUMBER_LIMIT)) (all_at is_in_range stamps at all_in_range h) in
    let second = both_true (nat_le at.replica 32) (nat_le 1 at.time && nat_le at.time NUMBER_LIMIT) first.1 in
    let third = both_true (nat_le 1 at.time) (nat_le at.time NUMBER_LIMIT) second.1 in
    record { numbered = leb-true 1 at.replica first.0; few = leb-true at.replica 32 second.0; timed = leb-true 1 at.time third.0; time = leb-true at.time NUMBER_LIMIT third.1 }
