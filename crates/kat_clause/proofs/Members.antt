-- Lists with the same literals.
use Rattle.std.proofs.Common.{◌≡◌, ℤ, List, [], ◌∷◌, ◌++◌, ⊎_elim, subst, Contains}
use Rattle.std.proofs.lemmas.List.Elements.{Contains-push, Contains-push_cases, Contains-append_left}
use Rattle.kat_clause.specs.Clauses.{SameMembers}

-- a literal that is there again changes nothing
pub members_again : (once front : List ℤ) (l : ℤ) → Contains once l → SameMembers once front → SameMembers once (front ++ l ∷ [])
members_again once front l there same k = (
  λ has. Contains-append_left front (l ∷ []) k ((same k).0 has),
  λ has. ⊎_elim (λ was. (same k).1 was) (λ (e : l ≡ k). let P : ℤ → Type 0 = Contains once in subst P e there) (Contains-push_cases front l k has),
)

pub members_more : (once front : List ℤ) (l : ℤ) → SameMembers once front → SameMembers (once ++ l ∷ []) (front ++ l ∷ [])
members_more once front l same k = (
  λ has. ⊎_elim (λ was. Contains-append_left front (l ∷ []) k ((same k).0 was)) (λ (e : l ≡ k). let P : ℤ → Type 0 = Contains (front ++ l ∷ []) in subst P e (Contains-push front l)) (Contains-push_cases once l k has),
  λ has. ⊎_elim (λ was. Contains-append_left once (l ∷ []) k ((same k).1 was)) (λ (e : l ≡ k). let P : ℤ → Type 0 = Contains (once ++ l ∷ []) in subst P e (Contains-push once l)) (Contains-push_cases front l k has),
)

pub members_trans : (a b c : List ℤ) → SameMembers a b → SameMembers b c → SameMembers a c
members_trans a b c first second k = (λ has. (second k).0 ((first k).0 has), λ has. (first k).1 ((second k).1 has))
