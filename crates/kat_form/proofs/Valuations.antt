-- Values of propositional variables, as clauses and variables are added.
use Rattle.std.proofs.Common.{◌≡◌, ◌≢◌, ℕ, zero, suc, ◌<◌, ◌≤◌, ◌⊎◌, inl, inr, ⊎_elim, ℤ, pos, neg_ℤ, Bool, true, false, not, Option, Some, None, option_map, List, [], ◌∷◌, ◌++◌, length, refl, sym, ap, ◌∙◌, arith, All, eqb, if◌then◌else◌}
use Rattle.std.proofs.lemmas.List.Elements.{All-push, All-cons}
use Rattle.std.proofs.lemmas.Bool.{eqb-true}
use Rattle.std.proofs.lemmas.Bool.Decides.{Decides-eqb}
use Rattle.kat_clause.specs.Valuations.{literal_value, IsTrueClause, AreTrueClauses}
use Rattle.kat_form.specs.Encodings.{Encoding, Sense, sense_at}
use Rattle.kat_form.specs.Encodings.Sense.{truth, atom, gate}
use Rattle.kat_form.specs.Readings.{same_sense, place_of, added, number_at, numbered, with_clause}
use Rattle.kat_form.specs.Meanings.{Reads}
use Rattle.kat_form.proofs.Places.{same_form}

senses_same : (s t : Sense) → same_sense s t ≡ true → s ≡ t
senses_same (truth v) (truth w) e = ap truth (eqb-true v w e)
senses_same (truth v) (atom g) e = absurd (cc)
senses_same (truth v) gate e = absurd (cc)
senses_same (atom f) (truth w) e = absurd (cc)
senses_same (atom f) (atom g) e = ap atom (sym (same_form f g e))
senses_same (atom f) gate e = absurd (cc)
senses_same gate t e = absurd (cc)

-- if a sense has a place, the list has it there
pub sense_placed : (s : Sense) (senses : List Sense) (k : ℕ) → place_of s senses ≡ Some k → sense_at senses k ≡ Some s
sense_placed s [] k e = absurd (cc)
sense_placed s (t ∷ ts) k e = by_test (same_sense s t) refl (λ j. sense_placed s ts j)
  where
    first : (k' : ℕ) → Some 1 ≡ Some k' → same_sense s t ≡ true → sense_at (t ∷ ts) k' ≡ Some s
    first k' e' same = let one : k' ≡ 1 = cc in rw (one, senses_same s t same) refl

    step : ((j : ℕ) → place_of s ts ≡ Some j → sense_at ts j ≡ Some s) → (o : Option ℕ) → place_of s ts ≡ o → option_map suc o ≡ Some k → sense_at (t ∷ ts) k ≡ Some s
    step rest None is e' = absurd (cc)
    step rest (Some zero) is e' = absurd (let h = rest zero is in cc)
    step rest (Some (suc j)) is e' = let at : k ≡ suc (suc j) = cc in rw at (rest (suc j) is)

    place_first : same_sense s t ≡ true → place_of s (t ∷ ts) ≡ Some 1
    place_first h = rw h refl

    place_next : same_sense s t ≡ false → place_of s (t ∷ ts) ≡ option_map suc (place_of s ts)
    place_next h = rw h refl

    by_test : (b : Bool) → same_sense s t ≡ b → ((j : ℕ) → place_of s ts ≡ Some j → sense_at ts j ≡ Some s) → sense_at (t ∷ ts) k ≡ Some s
    by_test true same rest = first k (sym (place_first same) ∙ e) same
    by_test false same rest = step rest (place_of s ts) refl (sym (place_next same) ∙ e)

pub sense_before : (senses : List Sense) (s : Sense) (v : ℕ) (t : Sense) → sense_at senses v ≡ Some t → sense_at (senses ++ s ∷ []) v ≡ Some t
sense_before senses s zero t e = absurd (cc)
sense_before [] s (suc v) t e = absurd (cc)
sense_before (x ∷ xs) s (suc zero) t e = e
sense_before (x ∷ xs) s (suc (suc v)) t e = sense_before xs s (suc v) t e

pub sense_last : (senses : List Sense) (s : Sense) → sense_at (senses ++ s ∷ []) (suc (length senses)) ≡ Some s
sense_last [] s = refl
sense_last (x ∷ xs) s = sense_last xs s

pub sense_cases : (senses : List Sense) (s : Sense) (v : ℕ) (t : Sense) → sense_at (senses ++ s ∷ []) v ≡ Some t → (sense_at senses v ≡ Some t) ⊎ ((v ≡ suc (length senses)) × (s ≡ t))
sense_cases senses s zero t e = absurd (cc)
sense_cases [] s (suc zero) t e = inr (refl, cc)
sense_cases [] s (suc (suc v)) t e = absurd (cc)
sense_cases (x ∷ xs) s (suc zero) t e = inl e
sense_cases (x ∷ xs) s (suc (suc v)) t e = ⊎_elim
    (λ h. inl h)
    (λ h. inr (ap suc h.0, h.1))
    (sense_cases xs s (suc v) t e)

pub sense_within : (senses : List Sense) (v : ℕ) (t : Sense) → sense_at senses v ≡ Some t → (0 < v) × (v ≤ length senses)
sense_within senses zero t e = absurd (cc)
sense_within [] (suc v) t e = absurd (cc)
sense_within (x ∷ xs) (suc zero) t e = (omega arith, omega arith)
sense_within (x ∷ xs) (suc (suc v)) t e = (omega arith, omega (arith, (sense_within xs (suc v) t e).1))

-- Values read an encoding, and make its clauses true.
pub record Fits (values : ℕ → Bool) (model : Sense → Bool) (e : Encoding) : Type 0 where
  pub reads : Reads values model e.senses
  pub clauses : AreTrueClauses values e.clauses

abbrev pub SameUpTo : ℕ → (ℕ → Bool) → (ℕ → Bool) → Type 0
SameUpTo n a b = (v : ℕ) → v ≤ n → a v ≡ b v

-- whatever the values of later variables are
abbrev pub Good : (ℕ → Bool) → (Sense → Bool) → Encoding → Type 0
Good values model e = (w : ℕ → Bool) → SameUpTo (length e.senses) values w → Fits w model e

-- a literal's value, and that of its opposite
pub record Has (values : ℕ → Bool) (l : ℤ) (b : Bool) : Type 0 where
  pub is : literal_value values l ≡ b
  pub opposite : literal_value values (neg_ℤ l) ≡ not b

-- later values
pub record Onward (values : ℕ → Bool) (model : Sense → Bool) (e e' : Encoding) : Type 0 where
  pub later : ℕ → Bool
  pub same : SameUpTo (length e.senses) values later
  pub longer : length e.senses ≤ length e'.senses
  pub good : Good later model e'

pub record OnwardTo (values : ℕ → Bool) (model : Sense → Bool) (e : Encoding) (p : ℤ × Encoding) (b : Bool) : Type 0 where
  pub onward : Onward values model e p.1
  pub has : (w : ℕ → Bool) → SameUpTo (length p.1.senses) onward.later w → Has w p.0 b

-- the values with one more
abbrev pub put : ℕ → Bool → (ℕ → Bool) → ℕ → Bool
put n b values v = if eqb v n then b else values v

pub put_there : (n : ℕ) (b : Bool) (values : ℕ → Bool) → put n b values n ≡ b
put_there n b values = rw (eqb_itself n) refl
  where
    eqb_itself : (k : ℕ) → eqb k k ≡ true
    eqb_itself k = (Decides-eqb k k).1 refl

pub put_else : (n : ℕ) (b : Bool) (values : ℕ → Bool) (v : ℕ) → v < n → put n b values v ≡ values v
put_else n b values v h = by_test (eqb v n) refl
  where
    by_test : (c : Bool) → eqb v n ≡ c → put n b values v ≡ values v
    by_test true e = absurd (let same : v ≡ n = eqb-true v n e in omega (arith, h, same))
    by_test false e = rw e refl

-- clauses before the last
pub all_before : (P : List ℤ → Type 0) (xs : List (List ℤ)) (x : List ℤ) → All P (xs ++ x ∷ []) → All P xs × P x
all_before P [] x h = let f : P x = h 0 x (omega arith) in (λ i d below. absurd (omega (arith, below)), f)
all_before P (y ∷ ys) x h =
    let rest = all_before P ys x (λ i d below. h (suc i) d (omega (arith, below))) in
    (All-cons P y ys (h 0 y (omega arith)) rest.0, rest.1)

pub clause_back : (values : ℕ → Bool) (model : Sense → Bool) (clause : List ℤ) (e : Encoding) → Fits values model (with_clause clause e) → Fits values model e × IsTrueClause values clause
clause_back values model clause e fits =
    let parts = all_before (IsTrueClause values) e.clauses clause fits.clauses in
    (record { reads = fits.reads; clauses = parts.0 }, parts.1)

pub clause_on : (values : ℕ → Bool) (model : Sense → Bool) (clause : List ℤ) (e : Encoding) → Good values model e → ((w : ℕ → Bool) → SameUpTo (length e.senses) values w → IsTrueClause w clause) → Good values model (with_clause clause e)
clause_on values model clause e good true_there w same = record {
  reads = (good w same).reads;
  clauses = All-push (IsTrueClause w) e.clauses clause (good w same).clauses (true_there w same);
}

pub sense_back : (values : ℕ → Bool) (model : Sense → Bool) (s : Sense) (e : Encoding) → Fits values model (added s e).1 → Fits values model e
sense_back values model s e fits = record { reads = λ v t at not_gate. fits.reads v t (sense_before e.senses s v t at) not_gate; clauses = fits.clauses }

-- what the new variable has
pub sense_has : (values : ℕ → Bool) (s : Sense) (b : Bool) (e : Encoding) (w : ℕ → Bool) → SameUpTo (length (added s e).1.senses) (put (suc (length e.senses)) b values) w → Has w (pos (suc (length e.senses))) b
sense_has values s b e w same =
    let at : w (suc (length e.senses)) ≡ b = sym (same (suc (length e.senses)) (all_of e.senses s)) ∙ put_there (suc (length e.senses)) b values in
    record { is = at; opposite = ap not at }
  where
    all_of : (xs : List Sense) (x : Sense) → suc (length xs) ≤ length (xs ++ x ∷ [])
    all_of [] x = omega arith
    all_of (y ∷ ys) x = omega (arith, all_of ys x)

-- one variable more, with any value that its sense allows
pub sense_on : (values : ℕ → Bool) (model : Sense → Bool) (s : Sense) (b : Bool) (e : Encoding) → Good values model e → (s ≢ gate → b ≡ model s) → OnwardTo values model e (added s e) b
sense_on values model s b e good allowed = record { onward = one_more; has = λ w same. sense_has values s b e w same }
  where
    longer_one : (xs : List Sense) (x : Sense) → length xs ≤ length (xs ++ x ∷ [])
    longer_one [] x = omega arith
    longer_one (y ∷ ys) x = omega (arith, longer_one ys x)

    all_of : (xs : List Sense) (x : Sense) → suc (length xs) ≤ length (xs ++ x ∷ [])
    all_of [] x = omega arith
    all_of (y ∷ ys) x = omega (arith, all_of ys x)

    before : (w : ℕ → Bool) → SameUpTo (length (e.senses ++ s ∷ [])) (put (suc (length e.senses)) b values) w → SameUpTo (length e.senses) values w
    before w same v h = sym (put_else (suc (length e.senses)) b values v (omega (arith, h))) ∙ same v (omega (arith, h, longer_one e.senses s))

    last : (w : ℕ → Bool) → SameUpTo (length (e.senses ++ s ∷ [])) (put (suc (length e.senses)) b values) w → (v : ℕ) (t : Sense) → (v ≡ suc (length e.senses)) × (s ≡ t) → t ≢ gate → w v ≡ model t
    last w same v t h not_gate =
        let at : w (suc (length e.senses)) ≡ b = sym (same (suc (length e.senses)) (all_of e.senses s)) ∙ put_there (suc (length e.senses)) b values in
        let plain : s ≢ gate = λ g. not_gate (sym h.1 ∙ g) in
        ap w h.0 ∙ at ∙ allowed plain ∙ ap model h.1

    one_more : Onward values model e (added s e).1
    one_more = record {
      later = put (suc (length e.senses)) b values;
      same = λ v h. sym (put_else (suc (length e.senses)) b values v (omega (arith, h)));
      longer = longer_one e.senses s;
      good = λ w same. record {
        reads = λ v t at not_gate. ⊎_elim
            (λ (h : sense_at e.senses v ≡ Some t). (good w (before w same)).reads v t h not_gate)
            (λ (h : (v ≡ suc (length e.senses)) × (s ≡ t)). last w same v t h not_gate)
            (sense_cases e.senses s v t at);
        clauses = (good w (before w same)).clauses;
      };
    }

has_there : (w : ℕ → Bool) (k : ℕ) (b : Bool) → 0 < k → w k ≡ b → Has w (pos k) b
has_there w zero b h e = absurd (omega (arith, h))
has_there w (suc k) b h e = record { is = e; opposite = ap not e }

-- the variable with a sense
pub numbered_back : (values : ℕ → Bool) (model : Sense → Bool) (s : Sense) (e : Encoding) → s ≢ gate → Fits values model (numbered s e).1 → Fits values model e × Has values (numbered s e).0 (model s)
numbered_back values model s e plain = by_place (place_of s e.senses) refl
  where
    by_place : (o : Option ℕ) → place_of s e.senses ≡ o → Fits values model (number_at o s e).1 → Fits values model e × Has values (number_at o s e).0 (model s)
    by_place None is fits =
        let at : values (suc (length e.senses)) ≡ model s = fits.reads (suc (length e.senses)) s (sense_last e.senses s) plain in
        (sense_back values model s e fits, record { is = at; opposite = ap not at })
    by_place (Some k) is fits =
        let placed = sense_placed s e.senses k is in
        (fits, has_there values k (model s) (sense_within e.senses k s placed).0 (fits.reads k s placed plain))

pub numbered_on : (values : ℕ → Bool) (model : Sense → Bool) (s : Sense) (e : Encoding) → s ≢ gate → Good values model e → OnwardTo values model e (numbered s e) (model s)
numbered_on values model s e plain good = by_place (place_of s e.senses) refl
  where
    by_place : (o : Option ℕ) → place_of s e.senses ≡ o → OnwardTo values model e (number_at o s e) (model s)
    by_place None is = sense_on values model s (model s) e good (λ p. refl)
    by_place (Some k) is =
        let placed = sense_placed s e.senses k is in
        let within = sense_within e.senses k s placed in
        record {
          onward = record { later = values; same = λ v h. refl; longer = omega arith; good = good };
          has = λ w same. has_there w k (model s) within.0 ((good w same).reads k s placed plain);
        }
