-- Components that mean what they should, together do.
use Rattle.std.proofs.Common.{◌≡◌, List, [], ◌∷◌, ◌++◌, refl}
use Rattle.std.specs.List.{AllByRecursion}
use Rattle.kat_type.specs.Lists.{HaveSame, IsOnce}
use Rattle.kat_type.specs.declared.done.Done.{Done}
use Rattle.kat_design.specs.Meanings.{Meaning, Means, added_each, all_of, are_kin, joined_each, states_of}
use Rattle.kat_type.specs.Unions.{AreNested, united}

two : {S : Type 0} (x y : S) (xs ys : List S) → x ≡ y → xs ≡ ys → x ∷ xs ≡ y ∷ ys
two x y xs ys e f = cc

-- components, each of which means what it should
goes_each : {S : Type 0} (kin : S → S → Type 0) (ms : List (Meaning S)) → AllByRecursion (λ m. Means kin m) ms → (xs ys : List Done) → are_kin kin (states_of ms xs) (states_of ms ys)
goes_each kin [] h xs ys = tt
goes_each kin (m ∷ ms) h xs ys = (h.0.goes xs ys, goes_each kin ms h.1 xs ys)

same_each : {S : Type 0} (kin : S → S → Type 0) (ms : List (Meaning S)) → AllByRecursion (λ m. Means kin m) ms → (xs ys : List Done) → IsOnce xs → IsOnce ys → HaveSame xs ys → states_of ms xs ≡ states_of ms ys
same_each kin [] h xs ys i j same = refl
same_each kin (m ∷ ms) h xs ys i j same = two (m.state_of xs) (m.state_of ys) (states_of ms xs) (states_of ms ys) (h.0.same xs ys i j same) (same_each kin ms h.1 xs ys i j same)

adds_each : {S : Type 0} (kin : S → S → Type 0) (ms : List (Meaning S)) → AllByRecursion (λ m. Means kin m) ms → (xs : List Done) (one : Done) → added_each ms (states_of ms xs) one ≡ states_of ms (xs ++ one ∷ [])
adds_each kin [] h xs one = refl
adds_each kin (m ∷ ms) h xs one = two (m.added (m.state_of xs) one) (m.state_of (xs ++ one ∷ [])) (added_each ms (states_of ms xs) one) (states_of ms (xs ++ one ∷ [])) (h.0.adds xs one) (adds_each kin ms h.1 xs one)

unites_each : {S : Type 0} (kin : S → S → Type 0) (ms : List (Meaning S)) → AllByRecursion (λ m. Means kin m) ms → (xs ys : List Done) → IsOnce xs → IsOnce ys → AreNested xs ys → joined_each ms (states_of ms xs) (states_of ms ys) ≡ states_of ms (united xs ys)
unites_each kin [] h xs ys i j n = refl
unites_each kin (m ∷ ms) h xs ys i j n = two (m.joined (m.state_of xs) (m.state_of ys)) (m.state_of (united xs ys)) (joined_each ms (states_of ms xs) (states_of ms ys)) (states_of ms (united xs ys)) (h.0.unites xs ys i j n) (unites_each kin ms h.1 xs ys i j n)

pub all_mean : {S : Type 0} (kin : S → S → Type 0) (ms : List (Meaning S)) → AllByRecursion (λ m. Means kin m) ms
    → Means (are_kin kin) (all_of ms)
all_mean kin ms h = record {
  goes = goes_each kin ms h;
  same = same_each kin ms h;
  adds = adds_each kin ms h;
  unites = unites_each kin ms h;
}
