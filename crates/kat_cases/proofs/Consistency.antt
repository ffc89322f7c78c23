-- If no clause is falsified, the known literals of a path without opposites have no opposites.
use Rattle.std.proofs.Common.{◌≡◌, ◌≢◌, ℤ, neg_ℤ, List, map, ⊎_elim, refl, sym, ap, ◌∙◌, subst, Contains}
use Rattle.std.proofs.Math.IntN.{neg_ℤ-neg_ℤ}
use Rattle.kat_clause.specs.Clauses.{Derived, IsFalsified}
use Rattle.kat_clause.specs.Clauses.Derived.{denied, forced}
use Rattle.kat_clause.proofs.Codes.{cases_literal}
use Rattle.kat_cases.proofs.Members.{opposites_back, in_map}

falsified_by : (clauses : List (List ℤ)) (line : List ℤ) (m : ℤ) (clause : List ℤ) → ((k : ℤ) → Contains clause k → k ≢ m → Derived clauses line (neg_ℤ k)) → Derived clauses line (neg_ℤ m) → IsFalsified clauses line clause
falsified_by clauses line m clause others this k has = ⊎_elim
    (λ (e : k ≡ m). let P : ℤ → Type 0 = λ x. Derived clauses line (neg_ℤ x) in subst P (sym e) this)
    (λ (ne : k ≢ m). others k has ne)
    (cases_literal k m)

on_path : (path : List ℤ) (m l : ℤ) → Contains (map neg_ℤ path) l → m ≡ neg_ℤ l → Contains path m
on_path path m l has e = let P : ℤ → Type 0 = Contains path in subst P (sym e) (opposites_back path l has)

second_way : (clauses : List (List ℤ)) (path : List ℤ) → ((c : List ℤ) → Contains clauses c → IsFalsified clauses (map neg_ℤ path) c → ⊥) → ((k : ℤ) → Contains path k → Contains path (neg_ℤ k) → ⊥)
    → (m n : ℤ) → n ≡ neg_ℤ m → Contains path m → Derived clauses (map neg_ℤ path) n → ⊥
second_way clauses path none apart m n e on (denied _ l has is) = let P : ℤ → Type 0 = Contains path in apart m on (subst P e (on_path path n l has is))
second_way clauses path none apart m n e on (forced _ c among has others) =
    let P : ℤ → Type 0 = Derived clauses (map neg_ℤ path) in
    let opposite : m ≡ neg_ℤ n = sym (neg_ℤ-neg_ℤ m) ∙ ap neg_ℤ (sym e) in
    let is_on : Contains (map neg_ℤ path) (neg_ℤ m) = in_map neg_ℤ path m on in
    let this : P m = denied m (neg_ℤ m) is_on (sym (neg_ℤ-neg_ℤ m)) in
    none c among (falsified_by clauses (map neg_ℤ path) n c others (subst P opposite this))

pub consistent : (clauses : List (List ℤ)) (path : List ℤ) → ((c : List ℤ) → Contains clauses c → IsFalsified clauses (map neg_ℤ path) c → ⊥) → ((k : ℤ) → Contains path k → Contains path (neg_ℤ k) → ⊥)
    → (m : ℤ) → Derived clauses (map neg_ℤ path) m → Derived clauses (map neg_ℤ path) (neg_ℤ m) → ⊥
consistent clauses path none apart m (denied _ l has is) other = second_way clauses path none apart m (neg_ℤ m) refl (on_path path m l has is) other
consistent clauses path none apart m (forced _ c among has others) other = none c among (falsified_by clauses (map neg_ℤ path) m c others other)
