-- What hints lead to.
use Rattle.std.proofs.Common.{◌≡◌, ◌≢◌, ℕ, suc, ◌-◌, ◌<◌, ◌≤◌, ℤ, neg_ℤ, List, [], ◌∷◌, ◌++◌, ◌↔◌, length, ◌⊎◌, inl, inr, ⊎_elim, refl, sym, ap, ◌∙◌, subst, arith, Contains}
use Rattle.std.proofs.Math.IntN.{neg_ℤ-neg_ℤ}
use Rattle.std.proofs.lemmas.List.Elements.{All-head, All-tail, Contains-append_left, Contains-push, Contains-push_cases}
use Rattle.kat_clause.specs.Clauses.{Derived, Follows, SameMembers, opposites}
use Rattle.kat_clause.specs.Clauses.Derived.{denied, forced}
use Rattle.kat_clause.specs.Hints.{numbered, AreNumbers, Falsifies, IsOnlyOpen, Leads, IsHinted}
use Rattle.kat_clause.proofs.Codes.{cases_literal}
use Rattle.kat_clause.proofs.Members.{members_more}
use Rattle.kat_clause.proofs.Runs.{Contains-clause, opposite_back}

-- a clause has one only open literal at most
pub only_one : (known clause : List ℤ) (m n : ℤ) → IsOnlyOpen known clause m → IsOnlyOpen known clause n → m ≡ n
only_one known clause m n one other = ⊎_elim
    (λ (e : m ≡ n). e)
    (λ (ne : m ≢ n). absurd (one.free (other.others m one.has ne)))
    (cases_literal m n)

-- a set with the same literals does the same
pub falsifies_same : (known same clause : List ℤ) → SameMembers known same → Falsifies known clause → Falsifies same clause
falsifies_same known same clause members falsified k has = (members (neg_ℤ k)).0 (falsified k has)

pub only_same : (known same clause : List ℤ) (m : ℤ) → SameMembers known same → IsOnlyOpen known clause m → IsOnlyOpen same clause m
only_same known same clause m members only = record {
  has = only.has;
  free = λ h. only.free ((members (neg_ℤ m)).1 h);
  others = λ k has ne. (members (neg_ℤ k)).0 (only.others k has ne);
}

pub leads_same : (clauses : List (List ℤ)) (known same : List ℤ) (hints : List ℕ) → SameMembers known same → Leads clauses known hints → Leads clauses same hints
leads_same clauses known same [] members leads = leads
leads_same clauses known same (x ∷ []) members leads = falsifies_same known same (numbered clauses x) members leads
leads_same clauses known same (x ∷ y ∷ more) members (m, only, rest) = (
  m,
  only_same known same (numbered clauses x) m members only,
  leads_same clauses (known ++ m ∷ []) (same ++ m ∷ []) (y ∷ more) (members_more known same m members) rest,
)

-- the clause of a number is there
pub number_in : (clauses : List (List ℤ)) (hint : ℕ) → (0 < hint) × (hint ≤ length clauses) → Contains clauses (numbered clauses hint)
number_in clauses hint h = Contains-clause clauses (hint - 1) (numbered clauses hint) (omega (arith, h.0, h.1)) refl

-- what hints lead to from derived literals follows
leads_follow : (clauses : List (List ℤ)) (line known : List ℤ) (hints : List ℕ) → AreNumbers (length clauses) hints → ((k : ℤ) → Contains known k → Derived clauses line k) → Leads clauses known hints → Follows clauses line
leads_follow clauses line known [] numbers sound leads = absurd leads
leads_follow clauses line known (x ∷ []) numbers sound leads =
    (numbered clauses x, number_in clauses x (All-head (λ h. (0 < h) × (h ≤ length clauses)) x [] numbers), λ k has. sound (neg_ℤ k) (leads k has))
leads_follow clauses line known (x ∷ y ∷ more) numbers sound (m, only, rest) =
    let there : Contains clauses (numbered clauses x) = number_in clauses x (All-head (λ h. (0 < h) × (h ≤ length clauses)) x (y ∷ more) numbers) in
    let given : Derived clauses line m = forced m (numbered clauses x) there only.has (λ k has ne. sound (neg_ℤ k) (only.others k has ne)) in
    leads_follow clauses line (known ++ m ∷ []) (y ∷ more) (All-tail (λ h. (0 < h) × (h ≤ length clauses)) x (y ∷ more) numbers)
    (λ k has. ⊎_elim (sound k) (λ (e : m ≡ k). let P : ℤ → Type 0 = Derived clauses line in subst P e given) (Contains-push_cases known m k has))
    rest

-- the opposites of the line's literals are derived
pub line_derived : (clauses : List (List ℤ)) (line : List ℤ) (k : ℤ) → Contains (opposites line) k → Derived clauses line k
line_derived clauses line k has = denied k (neg_ℤ k) (opposite_back line k has) (sym (neg_ℤ-neg_ℤ k))

pub hinted_follows : (clauses : List (List ℤ)) (line : List ℤ) (hints : List ℕ) → AreNumbers (length clauses) hints → IsHinted clauses line hints → Follows clauses line
hinted_follows clauses line hints numbers hinted = leads_follow clauses line (opposites line) hints numbers (line_derived clauses line) hinted

-- what a clause is to a set decides how its hint goes on
pub leads_gives : (clauses : List (List ℤ)) (known more : List ℤ) (hint : ℕ) (later : List ℕ) (m : ℤ) → IsOnlyOpen known (numbered clauses hint) m → SameMembers more (known ++ m ∷ []) → Leads clauses known (hint ∷ later) ↔ Leads clauses more later
leads_gives clauses known more hint [] m only members = (λ h. only.free (h m only.has), λ h. absurd h)
leads_gives clauses known more hint (y ∷ later) m only members = (
  λ h.
      let e : h.0 ≡ m = only_one known (numbered clauses hint) h.0 m h.1 only in
      let P : ℤ → Type 0 = λ u. Leads clauses (known ++ u ∷ []) (y ∷ later) in
      leads_same clauses (known ++ m ∷ []) more (y ∷ later) (λ k. ((members k).1, (members k).0)) (subst P e h.2),
  λ h. (m, only, leads_same clauses more (known ++ m ∷ []) (y ∷ later) members h),
)

pub leads_put : (clauses : List (List ℤ)) (known : List ℤ) (hint : ℕ) (later : List ℕ) (m : ℤ) → IsOnlyOpen known (numbered clauses hint) m → Leads clauses (known ++ m ∷ []) later → Leads clauses known (hint ∷ later)
leads_put clauses known hint later m only h = (leads_gives clauses known (known ++ m ∷ []) hint later m only (λ k. (λ has. has, λ has. has))).1 h

pub leads_end : (clauses : List (List ℤ)) (known : List ℤ) (hint : ℕ) (later : List ℕ) → Falsifies known (numbered clauses hint) → Leads clauses known (hint ∷ later) ↔ (later ≡ [])
leads_end clauses known hint [] falsified = (λ h. refl, λ e. falsified)
leads_end clauses known hint (y ∷ later) falsified = (λ h. absurd (h.1.free (falsified h.0 h.1.has)), λ e. absurd (not_empty e))
  where
    not_empty : (y ∷ later) ≡ [] → ⊥
    not_empty e' = cc

pub leads_nowhere : (clauses : List (List ℤ)) (known : List ℤ) (hint : ℕ) (later : List ℕ) → (Falsifies known (numbered clauses hint) → ⊥) → ((m : ℤ) → IsOnlyOpen known (numbered clauses hint) m → ⊥) → Leads clauses known (hint ∷ later) → ⊥
leads_nowhere clauses known hint [] unfalsified many h = unfalsified h
leads_nowhere clauses known hint (y ∷ later) unfalsified many h = many h.0 h.1

-- a literal whose opposite is in none of the clauses may be left out
opposite_of : (k m : ℤ) → neg_ℤ k ≡ m → k ≡ neg_ℤ m
opposite_of k m e = sym (neg_ℤ-neg_ℤ k) ∙ ap neg_ℤ e

pub not_used : (known bigger clause : List ℤ) (m : ℤ) → ((k : ℤ) → Contains bigger k → Contains known k ⊎ (k ≡ m)) → (Contains clause (neg_ℤ m) → ⊥) → (k : ℤ) → Contains clause k → Contains bigger (neg_ℤ k) → Contains known (neg_ℤ k)
not_used known bigger clause m down unused k has there = ⊎_elim
    (λ (was : Contains known (neg_ℤ k)). was)
    (λ (e : neg_ℤ k ≡ m). absurd (unused (let P : ℤ → Type 0 = Contains clause in subst P (opposite_of k m e) has)))
    (down (neg_ℤ k) there)

push_down : (known bigger : List ℤ) (m u : ℤ) → ((k : ℤ) → Contains bigger k → Contains known k ⊎ (k ≡ m)) → (k : ℤ) → Contains (bigger ++ u ∷ []) k → Contains (known ++ u ∷ []) k ⊎ (k ≡ m)
push_down known bigger m u down k has = ⊎_elim
    (λ (was : Contains bigger k). ⊎_elim (λ (h : Contains known k). inl (Contains-append_left known (u ∷ []) k h)) (λ (e : k ≡ m). inr e) (down k was))
    (λ (e : u ≡ k). inl (let P : ℤ → Type 0 = Contains (known ++ u ∷ []) in subst P e (Contains-push known u)))
    (Contains-push_cases bigger u k has)

push_up : (known bigger : List ℤ) (u : ℤ) → ((k : ℤ) → Contains known k → Contains bigger k) → (k : ℤ) → Contains (known ++ u ∷ []) k → Contains (bigger ++ u ∷ []) k
push_up known bigger u up k has = ⊎_elim
    (λ (was : Contains known k). Contains-append_left bigger (u ∷ []) k (up k was))
    (λ (e : u ≡ k). let P : ℤ → Type 0 = Contains (bigger ++ u ∷ []) in subst P e (Contains-push bigger u))
    (Contains-push_cases known u k has)

pub leads_without : (clauses : List (List ℤ)) (known bigger : List ℤ) (m : ℤ) (hints : List ℕ) → ((k : ℤ) → Contains bigger k → Contains known k ⊎ (k ≡ m)) → ((k : ℤ) → Contains known k → Contains bigger k)
    → ((n : ℕ) → Contains hints n → Contains (numbered clauses n) (neg_ℤ m) → ⊥) → Leads clauses bigger hints → Leads clauses known hints
leads_without clauses known bigger m [] down up unused leads = leads
leads_without clauses known bigger m (x ∷ []) down up unused leads =
    λ k has. not_used known bigger (numbered clauses x) m down (unused x (0, omega arith, refl)) k has (leads k has)
leads_without clauses known bigger m (x ∷ y ∷ more) down up unused (u, only, rest) = (
  u,
  record {
    has = only.has;
    free = λ h. only.free (up (neg_ℤ u) h);
    others = λ k has ne. not_used known bigger (numbered clauses x) m down (unused x (0, omega arith, refl)) k has (only.others k has ne);
  },
  leads_without clauses (known ++ u ∷ []) (bigger ++ u ∷ []) m (y ∷ more) (push_down known bigger m u down) (push_up known bigger u up)
      (λ n has. unused n (suc has.0, omega (arith, has.1), has.2)) rest,
)
