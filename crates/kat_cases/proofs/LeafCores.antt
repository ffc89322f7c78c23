-- Cores: what they have, and that their lines follow.
use Rattle.std.proofs.Common.{◌≡◌, ◌≢◌, ℤ, neg_ℤ, List, [], ◌∷◌, ◌++◌, map, false, ⊎_elim, sym, ap, ◌∙◌, subst, arith, Contains}
use Rattle.std.proofs.Math.IntN.{neg_ℤ-neg_ℤ}
use Rattle.std.proofs.lemmas.Bool.{false≢true}
use Rattle.std.proofs.lemmas.List.Elements.{Contains-append_left, Contains-append_right, Contains-append_cases}
use Rattle.kat_clause.specs.Clauses.{Derived}
use Rattle.kat_clause.specs.Clauses.Derived.{denied, forced}
use Rattle.kat_cases.specs.Nodes.{denies}
use Rattle.kat_cases.specs.Walks.{Shrinks, ascending, has_literal, joined}
use Rattle.kat_cases.specs.Walks.Shrinks.{done, left_out, kept}
use Rattle.kat_resolution.proofs.Members.{IsWithin, behind, cases_cons, in_nothing}
use Rattle.kat_cases.proofs.Members.{in_map, ascending_has, ascending_from, opposites_back, denies_more, in_has, joined_first, joined_second}

-- what is tried and stays, after what is still to be tried
around : (l : ℤ) (rest stay : List ℤ) → IsWithin ((l ∷ rest) ++ stay) (rest ++ (stay ++ l ∷ []))
around l rest stay x has = ⊎_elim
    (λ (e : l ≡ x). Contains-append_right rest (stay ++ l ∷ []) x (Contains-append_right stay (l ∷ []) x (0, omega arith, e)))
    (λ (later : Contains (rest ++ stay) x). ⊎_elim
    (λ (h : Contains rest x). Contains-append_left rest (stay ++ l ∷ []) x h)
    (λ (h : Contains stay x). Contains-append_right rest (stay ++ l ∷ []) x (Contains-append_left stay (l ∷ []) x h))
    (Contains-append_cases rest stay x later))
    (cases_cons l x (rest ++ stay) has)

around_back : (l : ℤ) (rest stay : List ℤ) → IsWithin (rest ++ (stay ++ l ∷ [])) ((l ∷ rest) ++ stay)
around_back l rest stay x has = ⊎_elim
    (λ (h : Contains rest x). behind l x (rest ++ stay) (Contains-append_left rest stay x h))
    (λ (h : Contains (stay ++ l ∷ []) x). ⊎_elim
    (λ (later : Contains stay x). behind l x (rest ++ stay) (Contains-append_right rest stay x later))
    (λ (e : Contains (l ∷ []) x). ⊎_elim (λ (f : l ≡ x). (0, omega arith, f)) (λ (n : Contains [] x). absurd (in_nothing x n)) (cases_cons l x [] e))
    (Contains-append_cases stay (l ∷ []) x h))
    (Contains-append_cases rest (stay ++ l ∷ []) x has)

-- a leaf's core is within what was tried, and the line of its opposites follows
pub shrinks_within : {clauses : List (List ℤ)} {rest stay core : List ℤ} → Shrinks clauses rest stay core → IsWithin core (rest ++ stay)
shrinks_within done x has = has
shrinks_within (left_out {l = l} {rest = rest} {stay = stay} h more) x has = behind l x (rest ++ stay) (shrinks_within more x has)
shrinks_within (kept {l = l} {rest = rest} {stay = stay} h more) x has = around_back l rest stay x (shrinks_within more x has)

pub shrinks_denies : {clauses : List (List ℤ)} {rest stay core : List ℤ} → denies clauses (rest ++ stay) → Shrinks clauses rest stay core → denies clauses core
shrinks_denies all done = all
shrinks_denies all (left_out h more) = shrinks_denies h more
shrinks_denies {clauses} all (kept {l = l} {rest = rest} {stay = stay} h more) = shrinks_denies (denies_more clauses clauses ((l ∷ rest) ++ stay) (rest ++ (stay ++ l ∷ [])) (λ x in'. in') (around l rest stay) all) more

-- the literal is not among them if the other one isn't
pub without : (l : ℤ) (path c : List ℤ) → IsWithin c (l ∷ path) → has_literal l c ≡ false → IsWithin c path
without l path c within none x has = ⊎_elim
    (λ (e : l ≡ x). let P : ℤ → Type 0 = Contains c in absurd (false≢true (sym none ∙ in_has l c (subst P (sym e) has))))
    (λ later. later)
    (cases_cons l x path (within x has))

-- The line of the joined core's opposites follows from the lines of the two cores' opposites.
pub resolved : (clauses : List (List ℤ)) (l : ℤ) (path c d : List ℤ) → IsWithin c (l ∷ path) → IsWithin d (neg_ℤ l ∷ path)
    → Contains c l
    → Contains clauses (ascending (map neg_ℤ c)) → Contains clauses (ascending (map neg_ℤ d)) → denies clauses (joined path c d)
resolved clauses l path c d in_c in_d has_l first second =
    let line : List ℤ = map neg_ℤ (joined path c d) in
    let D : ℤ → Type 0 = Derived clauses line in
    let given : (k : ℤ) → Contains (joined path c d) k → D k = λ k h. denied k (neg_ℤ k) (in_map neg_ℤ (joined path c d) k h) (sym (neg_ℤ-neg_ℤ k)) in
    let from_c : (x : ℤ) → Contains (ascending (map neg_ℤ c)) x → x ≢ neg_ℤ l → D (neg_ℤ x) = λ x h ne.
    let member : Contains c (neg_ℤ x) = opposites_back c x (ascending_from (map neg_ℤ c) x h) in
    ⊎_elim
    (λ (e : l ≡ neg_ℤ x). absurd (ne (sym (neg_ℤ-neg_ℤ x) ∙ ap neg_ℤ (sym e))))
    (λ (later : Contains path (neg_ℤ x)). given (neg_ℤ x) (joined_first path c d (neg_ℤ x) later member))
    (cases_cons l (neg_ℤ x) path (in_c (neg_ℤ x) member)) in
    let opposite : D (neg_ℤ l) = forced (neg_ℤ l) (ascending (map neg_ℤ c)) first (ascending_has (map neg_ℤ c) (neg_ℤ l) (in_map neg_ℤ c l has_l)) from_c in
    let from_d : (x : ℤ) → Contains (ascending (map neg_ℤ d)) x → D (neg_ℤ x) = λ x h.
    let member : Contains d (neg_ℤ x) = opposites_back d x (ascending_from (map neg_ℤ d) x h) in
    ⊎_elim
    (λ (e : neg_ℤ l ≡ neg_ℤ x). subst D e opposite)
    (λ (later : Contains path (neg_ℤ x)). given (neg_ℤ x) (joined_second path c d (neg_ℤ x) later member))
    (cases_cons (neg_ℤ l) (neg_ℤ x) path (in_d (neg_ℤ x) member)) in
    (ascending (map neg_ℤ d), second, from_d)
