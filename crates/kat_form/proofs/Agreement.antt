-- An encoding's clauses say what its facts say.
use Rattle.std.proofs.Common.{◌≡◌, ◌≢◌, ℕ, zero, suc, ◌⊎◌, inl, inr, ⊎_elim, ℤ, pos, negsuc, Bool, true, false, not, Option, Some, None, is_some, List, [], ◌∷◌, ◌++◌, length, refl, sym, ap, ◌∙◌, arith, subst, All, ◌&&◌, ◌||◌}
use Rattle.std.proofs.lemmas.Bool.{false≢true}
use Rattle.std.proofs.lemmas.List.Elements.{All-nil, All-cons, All-head, All-tail, All-append}
use Rattle.kat_clause.specs.Valuations.{literal_value, IsTrueClause, AreTrueClauses}
use Rattle.kat_form.specs.Encodings.{Encoding, Sense}
use Rattle.kat_form.specs.Encodings.Sense.{gate}
use Rattle.kat_form.specs.Readings.{Reading, added, with_clauses, state_by, unit_clause, literal_reading, both, either, value_of_all, value_of_any, kept, kept_by, literals_of, all_clauses, any_clauses, gated, state_each, state_any, all_reading, any_reading}
use Rattle.kat_form.specs.Meanings.{all_true, any_true}
use Rattle.kat_form.proofs.Valuations.{Fits, Good, SameUpTo, Has, Onward, OnwardTo, clause_back, clause_on, sense_back, sense_on}

-- A reading means a value: it folds to that alone, its literal is true only if the value is and can be made so, and
-- stating it says that the value is true.
pub record Meant (model : Sense → Bool) (r : Reading) (b : Bool) : Type 0 where
  pub folds : (c : Bool) → r.constant ≡ Some c → b ≡ c
  pub literal_back : r.constant ≡ None → (values : ℕ → Bool) (e : Encoding) → Fits values model (r.literal e).1 → Fits values model e × (literal_value values (r.literal e).0 ≡ true → b ≡ true)
  pub literal_on : r.constant ≡ None → (values : ℕ → Bool) (e : Encoding) → Good values model e → OnwardTo values model e (r.literal e) b
  pub stated_back : (values : ℕ → Bool) (e : Encoding) → Fits values model (r.stated e) → Fits values model e × (b ≡ true)
  pub stated_on : b ≡ true → (values : ℕ → Bool) (e : Encoding) → Good values model e → Onward values model e (r.stated e)

-- nothing is left to do
stay : (values : ℕ → Bool) (model : Sense → Bool) (e : Encoding) → Good values model e → Onward values model e e
stay values model e good = record { later = values; same = λ v h. refl; longer = omega arith; good = good }

-- one way after the other
onwards : (values : ℕ → Bool) (model : Sense → Bool) (a b c : Encoding) → (first : Onward values model a b) → Onward first.later model b c → Onward values model a c
onwards values model a b c first second = record {
  later = second.later;
  same = λ v h. first.same v h ∙ second.same v (omega (arith, h, first.longer));
  longer = omega (arith, first.longer, second.longer);
  good = second.good;
}

none_in : (P : Type 0) (values : ℕ → Bool) → IsTrueClause values [] → P
none_in P values h = absurd (omega (arith, h.1.1))

-- a clause of one literal
one_true : (values : ℕ → Bool) (l : ℤ) → IsTrueClause values (l ∷ []) → literal_value values l ≡ true
one_true values l (k, (zero, h, is), e) = ap (literal_value values) is ∙ e
one_true values l (k, (suc j, h, is), e) = absurd (omega (arith, h))

head_true : (values : ℕ → Bool) (l : ℤ) (ls : List ℤ) → literal_value values l ≡ true → IsTrueClause values (l ∷ ls)
head_true values l ls e = (l, (0, omega arith, refl), e)

tail_true : (values : ℕ → Bool) (l : ℤ) (ls : List ℤ) → IsTrueClause values ls → IsTrueClause values (l ∷ ls)
tail_true values l ls found = (found.0, (suc found.1.0, omega (arith, found.1.1), found.1.2), found.2)

clause_cases : (values : ℕ → Bool) (l : ℤ) (ls : List ℤ) → IsTrueClause values (l ∷ ls) → (literal_value values l ≡ true) ⊎ IsTrueClause values ls
clause_cases values l ls (k, (zero, h, is), e) = inl (ap (literal_value values) is ∙ e)
clause_cases values l ls (k, (suc j, h, is), e) = inr (k, (j, omega (arith, h), is), e)

-- stating by the folded value, or else by the other way
by_constant_back : (values : ℕ → Bool) (model : Sense → Bool) (constant : Option Bool) (state : Encoding → Encoding) (b : Bool) (e : Encoding) → ((c : Bool) → constant ≡ Some c → b ≡ c) → (constant ≡ None → Fits values model (state e) → Fits values model e × (b ≡ true)) → Fits values model (state_by constant state e) → Fits values model e × (b ≡ true)
by_constant_back values model (Some true) state b e folds back fits = (fits, folds true refl)
by_constant_back values model (Some false) state b e folds back fits = none_in (Fits values model e × (b ≡ true)) values (clause_back values model [] e fits).1
by_constant_back values model None state b e folds back fits = back refl fits

by_constant_on : (values : ℕ → Bool) (model : Sense → Bool) (constant : Option Bool) (state : Encoding → Encoding) (b : Bool) (e : Encoding) → ((c : Bool) → constant ≡ Some c → b ≡ c) → (constant ≡ None → Onward values model e (state e)) → b ≡ true → Good values model e → Onward values model e (state_by constant state e)
by_constant_on values model (Some true) state b e folds on is good = stay values model e good
by_constant_on values model (Some false) state b e folds on is good = absurd (false≢true (sym (folds false refl) ∙ is))
by_constant_on values model None state b e folds on is good = on refl

unit_back : (values : ℕ → Bool) (model : Sense → Bool) (p : ℤ × Encoding) → Fits values model (unit_clause p) → Fits values model p.1 × (literal_value values p.0 ≡ true)
unit_back values model (l, e) fits = let h = clause_back values model (l ∷ []) e fits in (h.0, one_true values l h.1)

unit_on : (values : ℕ → Bool) (model : Sense → Bool) (e : Encoding) (p : ℤ × Encoding) → OnwardTo values model e p true → Onward values model e (unit_clause p)
unit_on values model e (l, e') to = record {
  later = to.onward.later;
  same = to.onward.same;
  longer = to.onward.longer;
  good = clause_on to.onward.later model (l ∷ []) e' to.onward.good (λ w same. head_true w l [] (to.has w same).is);
}

-- a formula that is one literal
pub meant_literal : (model : Sense → Bool) (constant : Option Bool) (numbers : ℕ) (literal : Encoding → ℤ × Encoding) (b : Bool) → ((c : Bool) → constant ≡ Some c → b ≡ c)
    → (constant ≡ None → (values : ℕ → Bool) (e : Encoding) → Fits values model (literal e).1 → Fits values model e × Has values (literal e).0 b)
    → (constant ≡ None → (values : ℕ → Bool) (e : Encoding) → Good values model e → OnwardTo values model e (literal e) b)
    → Meant model (literal_reading constant numbers literal) b
meant_literal model constant numbers literal b folds back on = record {
  folds = folds;
  literal_back = λ open' values e fits. let h = back open' values e fits in (h.0, λ is. sym h.1.is ∙ is);
  literal_on = on;
  stated_back = λ values e fits. by_constant_back values model constant (λ x. unit_clause (literal x)) b e folds
      (λ open' fits'. let u = unit_back values model (literal e) fits' in let h = back open' values e u.0 in (h.0, sym h.1.is ∙ u.1)) fits;
  stated_on = λ is values e good. by_constant_on values model constant (λ x. unit_clause (literal x)) b e folds
      (λ open'. unit_on values model e (literal e) (to_true values e (literal e) is (on open' values e good))) is good;
}
  where
    to_true : (values : ℕ → Bool) (e : Encoding) (p : ℤ × Encoding) → b ≡ true → OnwardTo values model e p b → OnwardTo values model e p true
    to_true values e p is to = subst (OnwardTo values model e p) is to

-- readings mean values, one by one
abbrev pub MeantAll : (Sense → Bool) → List Reading → List Bool → Type 0
MeantAll model [] [] = Unit {0}
MeantAll model [] (b ∷ bs) = ⊥
MeantAll model (r ∷ rs) [] = ⊥
MeantAll model (r ∷ rs) (b ∷ bs) = Meant model r b × MeantAll model rs bs

abbrev pub OpenAll : List Reading → Type 0
OpenAll [] = Unit {0}
OpenAll (r ∷ rs) = (r.constant ≡ None) × OpenAll rs

pub and_true : (a b : Bool) → (a && b) ≡ true → (a ≡ true) × (b ≡ true)
and_true true b e = (refl, e)
and_true false b e = absurd (cc)

pub and_of : (a b : Bool) → a ≡ true → b ≡ true → (a && b) ≡ true
and_of true b p q = q
and_of false b p q = absurd (cc)

-- stating each
pub each_back : (values : ℕ → Bool) (model : Sense → Bool) (rs : List Reading) (bs : List Bool) (e : Encoding) → MeantAll model rs bs → Fits values model (state_each rs e) → Fits values model e × (all_true bs ≡ true)
each_back values model [] [] e meant fits = (fits, refl)
each_back values model [] (b ∷ bs) e meant fits = absurd meant
each_back values model (r ∷ rs) [] e meant fits = absurd meant
each_back values model (r ∷ rs) (b ∷ bs) e meant fits =
    let rest = each_back values model rs bs (r.stated e) meant.1 fits in
    let first = meant.0.stated_back values e rest.0 in
    (first.0, and_of b (all_true bs) first.1 rest.1)

pub each_on : (values : ℕ → Bool) (model : Sense → Bool) (rs : List Reading) (bs : List Bool) (e : Encoding) → MeantAll model rs bs → all_true bs ≡ true → Good values model e → Onward values model e (state_each rs e)
each_on values model [] [] e meant is good = stay values model e good
each_on values model [] (b ∷ bs) e meant is good = absurd meant
each_on values model (r ∷ rs) [] e meant is good = absurd meant
each_on values model (r ∷ rs) (b ∷ bs) e meant is good =
    let parts = and_true b (all_true bs) is in
    let first = meant.0.stated_on parts.0 values e good in
    onwards values model e (r.stated e) (state_each rs (r.stated e)) first (each_on first.later model rs bs (r.stated e) meant.1 parts.1 first.good)

-- if literals are true their values are
abbrev Implied : (ℕ → Bool) → List ℤ → List Bool → Type 0
Implied values [] [] = Unit {0}
Implied values [] (b ∷ bs) = ⊥
Implied values (l ∷ ls) [] = ⊥
Implied values (l ∷ ls) (b ∷ bs) = (literal_value values l ≡ true → b ≡ true) × Implied values ls bs

abbrev HasAll : (ℕ → Bool) → List ℤ → List Bool → Type 0
HasAll values [] [] = Unit {0}
HasAll values [] (b ∷ bs) = ⊥
HasAll values (l ∷ ls) [] = ⊥
HasAll values (l ∷ ls) (b ∷ bs) = Has values l b × HasAll values ls bs

literals_back : (values : ℕ → Bool) (model : Sense → Bool) (rs : List Reading) (bs : List Bool) (e : Encoding) → MeantAll model rs bs → OpenAll rs → Fits values model (literals_of rs e).1 → Fits values model e × Implied values (literals_of rs e).0 bs
literals_back values model [] [] e meant opens fits = (fits, tt)
literals_back values model [] (b ∷ bs) e meant opens fits = absurd meant
literals_back values model (r ∷ rs) [] e meant opens fits = absurd meant
literals_back values model (r ∷ rs) (b ∷ bs) e meant opens fits =
    let rest = literals_back values model rs bs (r.literal e).1 meant.1 opens.1 fits in
    let first = meant.0.literal_back opens.0 values e rest.0 in
    (first.0, (first.1, rest.1))

record OnwardAll (values : ℕ → Bool) (model : Sense → Bool) (e : Encoding) (p : List ℤ × Encoding) (bs : List Bool) : Type 0 where
  onward : Onward values model e p.1
  has : (w : ℕ → Bool) → SameUpTo (length p.1.senses) onward.later w → HasAll w p.0 bs

literals_on : (values : ℕ → Bool) (model : Sense → Bool) (rs : List Reading) (bs : List Bool) (e : Encoding) → MeantAll model rs bs → OpenAll rs → Good values model e → OnwardAll values model e (literals_of rs e) bs
literals_on values model [] [] e meant opens good = record { onward = stay values model e good; has = λ w same. tt }
literals_on values model [] (b ∷ bs) e meant opens good = absurd meant
literals_on values model (r ∷ rs) [] e meant opens good = absurd meant
literals_on values model (r ∷ rs) (b ∷ bs) e meant opens good =
    let first = meant.0.literal_on opens.0 values e good in
    let rest = literals_on first.onward.later model rs bs (r.literal e).1 meant.1 opens.1 first.onward.good in
    record {
      onward = record {
        later = rest.onward.later;
        same = λ v h. first.onward.same v h ∙ rest.onward.same v (omega (arith, h, first.onward.longer));
        longer = omega (arith, first.onward.longer, rest.onward.longer);
        good = rest.onward.good;
      };
      has = λ w same. (first.has w (λ v h. rest.onward.same v h ∙ same v (omega (arith, h, rest.onward.longer))), rest.has w same);
    }

-- clauses after the others
split_all : (P : List ℤ → Type 0) (xs ys : List (List ℤ)) → All P (xs ++ ys) → All P xs × All P ys
split_all P [] ys h = (All-nil P, h)
split_all P (x ∷ xs) ys h =
    let rest = split_all P xs ys (All-tail P x (xs ++ ys) h) in
    (All-cons P x xs (All-head P x (xs ++ ys) h) rest.0, rest.1)

-- a gate stands for literals
gate_fits : (values : ℕ → Bool) (model : Sense → Bool) (clauses : ℤ → List ℤ → List (List ℤ)) (p : List ℤ × Encoding) → Fits values model (gated clauses p).1 → Fits values model p.1
gate_fits values model clauses ([], e) fits = fits
gate_fits values model clauses (l ∷ [], e) fits = fits
gate_fits values model clauses (l ∷ m ∷ ls, e) fits =
    let g = pos (suc (length e.senses)) in
    let parts = split_all (IsTrueClause values) e.clauses (clauses g (l ∷ m ∷ ls)) fits.clauses in
    sense_back values model gate e (record { reads = fits.reads; clauses = parts.0 })

-- what a gate says
GateSays : (ℕ → Bool) → (ℤ → List ℤ → List (List ℤ)) → (List Bool → Bool) → Type 0
GateSays values clauses of = (n : ℕ) (ls : List ℤ) (bs : List Bool) → AreTrueClauses values (clauses (pos (suc n)) ls) → Implied values ls bs → values (suc n) ≡ true → of bs ≡ true

all_says : (values : ℕ → Bool) (n : ℕ) (ls : List ℤ) (bs : List Bool) → AreTrueClauses values (all_clauses (pos (suc n)) ls) → Implied values ls bs → values (suc n) ≡ true → all_true bs ≡ true
all_says values n [] [] hold implied is = refl
all_says values n [] (b ∷ bs) hold implied is = absurd implied
all_says values n (l ∷ ls) [] hold implied is = absurd implied
all_says values n (l ∷ ls) (b ∷ bs) hold implied is =
    let here = All-head (IsTrueClause values) (negsuc n ∷ l ∷ []) (all_clauses (pos (suc n)) ls) hold in
    let first : literal_value values l ≡ true = ⊎_elim
    (λ (no' : not (values (suc n)) ≡ true). absurd (false≢true (sym (ap not is) ∙ no')))
    (λ (h : IsTrueClause values (l ∷ [])). one_true values l h)
    (clause_cases values (negsuc n) (l ∷ []) here) in
    and_of b (all_true bs) (implied.0 first) (all_says values n ls bs (All-tail (IsTrueClause values) (negsuc n ∷ l ∷ []) (all_clauses (pos (suc n)) ls) hold) implied.1 is)

or_left : (a b : Bool) → a ≡ true → (a || b) ≡ true
or_left true b e = refl
or_left false b e = absurd (cc)

or_right : (a b : Bool) → b ≡ true → (a || b) ≡ true
or_right true b e = refl
or_right false b e = e

some_implied : (values : ℕ → Bool) (ls : List ℤ) (bs : List Bool) → IsTrueClause values ls → Implied values ls bs → any_true bs ≡ true
some_implied values [] [] hold implied = none_in (any_true [] ≡ true) values hold
some_implied values [] (b ∷ bs) hold implied = absurd implied
some_implied values (l ∷ ls) [] hold implied = absurd implied
some_implied values (l ∷ ls) (b ∷ bs) hold implied = ⊎_elim
    (λ (h : literal_value values l ≡ true). or_left b (any_true bs) (implied.0 h))
    (λ (h : IsTrueClause values ls). or_right b (any_true bs) (some_implied values ls bs h implied.1))
    (clause_cases values l ls hold)

any_says : (values : ℕ → Bool) (n : ℕ) (ls : List ℤ) (bs : List Bool) → AreTrueClauses values (any_clauses (pos (suc n)) ls) → Implied values ls bs → values (suc n) ≡ true → any_true bs ≡ true
any_says values n ls bs hold implied is = ⊎_elim
    (λ (no' : not (values (suc n)) ≡ true). absurd (false≢true (sym (ap not is) ∙ no')))
    (λ (h : IsTrueClause values ls). some_implied values ls bs h implied)
    (clause_cases values (negsuc n) ls (All-head (IsTrueClause values) (negsuc n ∷ ls) [] hold))

-- a gate of the values, given that each literal has its value
all_met : (w : ℕ → Bool) (n : ℕ) (c : Bool) (ls : List ℤ) (bs : List Bool) → (c ≡ true → all_true bs ≡ true) → HasAll w ls bs → Has w (pos (suc n)) c → AreTrueClauses w (all_clauses (pos (suc n)) ls)
all_met w n c [] [] says has gate_has = All-nil (IsTrueClause w)
all_met w n c [] (b ∷ bs) says has gate_has = absurd has
all_met w n c (l ∷ ls) [] says has gate_has = absurd has
all_met w n true (l ∷ ls) (b ∷ bs) says has gate_has =
    let parts = and_true b (all_true bs) (says refl) in
    All-cons (IsTrueClause w) (negsuc n ∷ l ∷ []) (all_clauses (pos (suc n)) ls)
    (tail_true w (negsuc n) (l ∷ []) (head_true w l [] (has.0.is ∙ parts.0)))
    (all_met w n true ls bs (λ h. parts.1) has.1 gate_has)
all_met w n false (l ∷ ls) (b ∷ bs) says has gate_has =
    All-cons (IsTrueClause w) (negsuc n ∷ l ∷ []) (all_clauses (pos (suc n)) ls)
    (head_true w (negsuc n) (l ∷ []) gate_has.opposite)
    (all_met w n false ls bs (λ h. absurd (false≢true h)) has.1 gate_has)

some_met : (w : ℕ → Bool) (ls : List ℤ) (bs : List Bool) → any_true bs ≡ true → HasAll w ls bs → IsTrueClause w ls
some_met w [] [] is has = absurd (false≢true is)
some_met w [] (b ∷ bs) is has = absurd has
some_met w (l ∷ ls) [] is has = absurd has
some_met w (l ∷ ls) (true ∷ bs) is has = head_true w l ls has.0.is
some_met w (l ∷ ls) (false ∷ bs) is has = tail_true w l ls (some_met w ls bs is has.1)

any_met : (w : ℕ → Bool) (n : ℕ) (c : Bool) (ls : List ℤ) (bs : List Bool) → (c ≡ true → any_true bs ≡ true) → HasAll w ls bs → Has w (pos (suc n)) c → AreTrueClauses w (any_clauses (pos (suc n)) ls)
any_met w n true ls bs says has gate_has = All-cons (IsTrueClause w) (negsuc n ∷ ls) [] (tail_true w (negsuc n) ls (some_met w ls bs (says refl) has)) (All-nil (IsTrueClause w))
any_met w n false ls bs says has gate_has = All-cons (IsTrueClause w) (negsuc n ∷ ls) [] (head_true w (negsuc n) ls gate_has.opposite) (All-nil (IsTrueClause w))

-- a gate after the others, with the value of its literals
gate_on : (values : ℕ → Bool) (model : Sense → Bool) (clauses : ℤ → List ℤ → List (List ℤ)) (e : Encoding) (c : Bool) (ls : List ℤ) (bs : List Bool) → Good values model e
    → ((w : ℕ → Bool) → SameUpTo (length e.senses) values w → HasAll w ls bs)
    → ((w : ℕ → Bool) → HasAll w ls bs → Has w (pos (suc (length e.senses))) c → AreTrueClauses w (clauses (pos (suc (length e.senses))) ls))
    → OnwardTo values model e (pos (suc (length e.senses)), with_clauses (clauses (pos (suc (length e.senses))) ls) (added gate e).1) c
gate_on values model clauses e c ls bs good has met =
    let new = sense_on values model gate c e good (λ plain. absurd (plain refl)) in
    record {
      onward = record {
        later = new.onward.later;
        same = new.onward.same;
        longer = new.onward.longer;
        good = λ w same. record {
          reads = (new.onward.good w same).reads;
          clauses = All-append (IsTrueClause w) e.clauses (clauses (pos (suc (length e.senses))) ls) (new.onward.good w same).clauses
              (met w (has w (λ v h. new.onward.same v h ∙ same v (omega (arith, h, new.onward.longer)))) (new.has w same));
        };
      };
      has = new.has;
    }

-- the literal of the literals
gated_on : (values : ℕ → Bool) (model : Sense → Bool) (clauses : ℤ → List ℤ → List (List ℤ)) (of : List Bool → Bool) (e : Encoding) (p : List ℤ × Encoding) (bs : List Bool)
    → (p.0 ≢ []) → ((b : Bool) → of (b ∷ []) ≡ b)
    → ((w : ℕ → Bool) (n : ℕ) (ls : List ℤ) → HasAll w ls bs → Has w (pos (suc n)) (of bs) → AreTrueClauses w (clauses (pos (suc n)) ls))
    → OnwardAll values model e p bs → OnwardTo values model e (gated clauses p) (of bs)
gated_on values model clauses of e ([], e') bs some one met to = absurd (some refl)
gated_on values model clauses of e (l ∷ [], e') [] some one met to = absurd (to.has to.onward.later (λ v h. refl))
gated_on values model clauses of e (l ∷ [], e') (b ∷ []) some one met to = subst (OnwardTo values model e (l, e')) (sym (one b)) (record { onward = to.onward; has = λ w same. (to.has w same).0 })
gated_on values model clauses of e (l ∷ [], e') (b ∷ c ∷ bs) some one met to = absurd ((to.has to.onward.later (λ v h. refl)).1)
gated_on values model clauses of e (l ∷ m ∷ ls, e') bs some one met to =
    let new = gate_on to.onward.later model clauses e' (of bs) (l ∷ m ∷ ls) bs to.onward.good to.has (λ w has gate_has. met w (length e'.senses) (l ∷ m ∷ ls) has gate_has) in
    record {
      onward = record {
        later = new.onward.later;
        same = λ v h. to.onward.same v h ∙ new.onward.same v (omega (arith, h, to.onward.longer));
        longer = omega (arith, to.onward.longer, new.onward.longer);
        good = new.onward.good;
      };
      has = new.has;
    }

-- the literal is true only if the value is
gated_back : (values : ℕ → Bool) (model : Sense → Bool) (clauses : ℤ → List ℤ → List (List ℤ)) (of : List Bool → Bool) (p : List ℤ × Encoding) (bs : List Bool)
    → (p.0 ≢ []) → ((b : Bool) → of (b ∷ []) ≡ b)
    → ((n : ℕ) (ls : List ℤ) → AreTrueClauses values (clauses (pos (suc n)) ls) → Implied values ls bs → values (suc n) ≡ true → of bs ≡ true)
    → Implied values p.0 bs → Fits values model (gated clauses p).1 → literal_value values (gated clauses p).0 ≡ true → of bs ≡ true
gated_back values model clauses of ([], e) bs some one says implied fits is = absurd (some refl)
gated_back values model clauses of (l ∷ [], e) [] some one says implied fits is = absurd implied
gated_back values model clauses of (l ∷ [], e) (b ∷ []) some one says implied fits is = one b ∙ implied.0 is
gated_back values model clauses of (l ∷ [], e) (b ∷ c ∷ bs) some one says implied fits is = absurd implied.1
gated_back values model clauses of (l ∷ m ∷ ls, e) bs some one says implied fits is =
    says (length e.senses) (l ∷ m ∷ ls) (split_all (IsTrueClause values) e.clauses (clauses (pos (suc (length e.senses))) (l ∷ m ∷ ls)) fits.clauses).1 implied is

-- the values of the parts that don't fold away
record Kept (model : Sense → Bool) (rs : List Reading) (of : List Bool → Bool) (bs : List Bool) : Type 0 where
  values : List Bool
  meant : MeantAll model (kept rs) values
  opens : OpenAll (kept rs)
  same : of values ≡ of bs

keep_one : (model : Sense → Bool) (of : List Bool → Bool) (step : Bool → Bool → Bool) → ((b : Bool) (bs : List Bool) → of (b ∷ bs) ≡ step b (of bs)) → (o : Option Bool) (r : Reading) (rs : List Reading) (b : Bool) (bs : List Bool)
    → r.constant ≡ o → Meant model r b → Kept model rs of bs → (is_some o ≡ true → step b (of bs) ≡ of bs) → kept (r ∷ rs) ≡ kept_by o r (kept rs) → Kept model (r ∷ rs) of (b ∷ bs)
keep_one model of step steps (Some c) r rs b bs is meant rest away kept_is = record {
  values = rest.values;
  meant = subst (λ (ks : List Reading). MeantAll model ks rest.values) (sym kept_is) rest.meant;
  opens = subst OpenAll (sym kept_is) rest.opens;
  same = rest.same ∙ sym (away refl) ∙ sym (steps b bs);
}
keep_one model of step steps None r rs b bs is meant rest away kept_is = record {
  values = b ∷ rest.values;
  meant = subst (λ (ks : List Reading). MeantAll model ks (b ∷ rest.values)) (sym kept_is) (meant, rest.meant);
  opens = subst OpenAll (sym kept_is) (is, rest.opens);
  same = steps b rest.values ∙ ap (step b) rest.same ∙ sym (steps b bs);
}

kept_is_by : (r : Reading) (rs : List Reading) (o : Option Bool) → r.constant ≡ o → kept (r ∷ rs) ≡ kept_by o r (kept rs)
kept_is_by r rs o is = ap (λ x. kept_by x r (kept rs)) is

and_open_rest : (o rest : Option Bool) → (both o rest ≡ Some false → ⊥) → rest ≡ Some false → ⊥
and_open_rest (Some false) rest h e = h refl
and_open_rest (Some true) rest h e = h e
and_open_rest None rest h e = h (ap (both None) e)

and_away : (o rest : Option Bool) (b x : Bool) → (both o rest ≡ Some false → ⊥) → ((c : Bool) → o ≡ Some c → b ≡ c) → is_some o ≡ true → (b && x) ≡ x
and_away (Some true) rest b x h folds e = ap (λ c. c && x) (folds true refl)
and_away (Some false) rest b x h folds e = absurd (h refl)
and_away None rest b x h folds e = absurd (cc)

keep_all : (model : Sense → Bool) (rs : List Reading) (bs : List Bool) → MeantAll model rs bs → (value_of_all rs ≡ Some false → ⊥) → Kept model rs all_true bs
keep_all model [] [] meant h = record { values = []; meant = tt; opens = tt; same = refl }
keep_all model [] (b ∷ bs) meant h = absurd meant
keep_all model (r ∷ rs) [] meant h = absurd meant
keep_all model (r ∷ rs) (b ∷ bs) meant h =
    keep_one model all_true (λ x y. x && y) (λ x xs. refl) r.constant r rs b bs refl meant.0
    (keep_all model rs bs meant.1 (and_open_rest r.constant (value_of_all rs) h))
    (and_away r.constant (value_of_all rs) b (all_true bs) h meant.0.folds)
    (kept_is_by r rs r.constant refl)

or_open_rest : (o rest : Option Bool) → (either o rest ≡ Some true → ⊥) → rest ≡ Some true → ⊥
or_open_rest (Some true) rest h e = h refl
or_open_rest (Some false) rest h e = h e
or_open_rest None rest h e = h (ap (either None) e)

or_away : (o rest : Option Bool) (b x : Bool) → (either o rest ≡ Some true → ⊥) → ((c : Bool) → o ≡ Some c → b ≡ c) → is_some o ≡ true → (b || x) ≡ x
or_away (Some false) rest b x h folds e = ap (λ c. c || x) (folds false refl)
or_away (Some true) rest b x h folds e = absurd (h refl)
or_away None rest b x h folds e = absurd (cc)

keep_any : (model : Sense → Bool) (rs : List Reading) (bs : List Bool) → MeantAll model rs bs → (value_of_any rs ≡ Some true → ⊥) → Kept model rs any_true bs
keep_any model [] [] meant h = record { values = []; meant = tt; opens = tt; same = refl }
keep_any model [] (b ∷ bs) meant h = absurd meant
keep_any model (r ∷ rs) [] meant h = absurd meant
keep_any model (r ∷ rs) (b ∷ bs) meant h =
    keep_one model any_true (λ x y. x || y) (λ x xs. refl) r.constant r rs b bs refl meant.0
    (keep_any model rs bs meant.1 (or_open_rest r.constant (value_of_any rs) h))
    (or_away r.constant (value_of_any rs) b (any_true bs) h meant.0.folds)
    (kept_is_by r rs r.constant refl)

-- what folds means its value
all_folds : (model : Sense → Bool) (rs : List Reading) (bs : List Bool) → MeantAll model rs bs → (c : Bool) → value_of_all rs ≡ Some c → all_true bs ≡ c
all_folds model [] [] meant c e = cc
all_folds model [] (b ∷ bs) meant c e = absurd meant
all_folds model (r ∷ rs) [] meant c e = absurd meant
all_folds model (r ∷ rs) (b ∷ bs) meant c e = fold_and r.constant (value_of_all rs) b (all_true bs) c meant.0.folds (all_folds model rs bs meant.1) e
  where
    fold_and : (o rest : Option Bool) (b' x c' : Bool) → ((d : Bool) → o ≡ Some d → b' ≡ d) → ((d : Bool) → rest ≡ Some d → x ≡ d) → both o rest ≡ Some c' → (b' && x) ≡ c'
    fold_and (Some false) rest b' x c' f g e' = ap (λ d. d && x) (f false refl) ∙ cc
    fold_and (Some true) rest b' x c' f g e' = ap (λ d. d && x) (f true refl) ∙ g c' e'
    fold_and None (Some false) b' x c' f g e' = ap (λ d. b' && d) (g false refl) ∙ and_false b' ∙ cc
      where
        and_false : (d : Bool) → (d && false) ≡ false
        and_false true = refl
        and_false false = refl
    fold_and None (Some true) b' x c' f g e' = absurd (cc)
    fold_and None None b' x c' f g e' = absurd (cc)

any_folds : (model : Sense → Bool) (rs : List Reading) (bs : List Bool) → MeantAll model rs bs → (c : Bool) → value_of_any rs ≡ Some c → any_true bs ≡ c
any_folds model [] [] meant c e = cc
any_folds model [] (b ∷ bs) meant c e = absurd meant
any_folds model (r ∷ rs) [] meant c e = absurd meant
any_folds model (r ∷ rs) (b ∷ bs) meant c e = fold_or r.constant (value_of_any rs) b (any_true bs) c meant.0.folds (any_folds model rs bs meant.1) e
  where
    or_true : (d : Bool) → (d || true) ≡ true
    or_true true = refl
    or_true false = refl

    fold_or : (o rest : Option Bool) (b' x c' : Bool) → ((d : Bool) → o ≡ Some d → b' ≡ d) → ((d : Bool) → rest ≡ Some d → x ≡ d) → either o rest ≡ Some c' → (b' || x) ≡ c'
    fold_or (Some true) rest b' x c' f g e' = ap (λ d. d || x) (f true refl) ∙ cc
    fold_or (Some false) rest b' x c' f g e' = ap (λ d. d || x) (f false refl) ∙ g c' e'
    fold_or None (Some true) b' x c' f g e' = ap (λ d. b' || d) (g true refl) ∙ or_true b' ∙ cc
    fold_or None (Some false) b' x c' f g e' = absurd (cc)
    fold_or None None b' x c' f g e' = absurd (cc)

-- some part is left if the whole doesn't fold
both_open : (o rest : Option Bool) → both o rest ≡ None → (o ≡ None) ⊎ (rest ≡ None)
both_open (Some false) rest e = absurd (cc)
both_open (Some true) rest e = inr e
both_open None rest e = inl refl

either_open : (o rest : Option Bool) → either o rest ≡ None → (o ≡ None) ⊎ (rest ≡ None)
either_open (Some true) rest e = absurd (cc)
either_open (Some false) rest e = inr e
either_open None rest e = inl refl

left_by : (o : Option Bool) (r : Reading) (ks : List Reading) → (o ≡ None) ⊎ (ks ≢ []) → kept_by o r ks ≢ []
left_by (Some c) r ks h = ⊎_elim (λ (e : Some c ≡ None). absurd (cc)) (λ (e : ks ≢ []). e) h
left_by None r ks h = λ e. absurd (cc)

pub some_left_all : (rs : List Reading) → value_of_all rs ≡ None → kept rs ≢ []
some_left_all [] e = absurd (cc)
some_left_all (r ∷ rs) e = left_by r.constant r (kept rs) (⊎_elim (λ h. inl h) (λ h. inr (some_left_all rs h)) (both_open r.constant (value_of_all rs) e))

pub some_left_any : (rs : List Reading) → value_of_any rs ≡ None → kept rs ≢ []
some_left_any [] e = absurd (cc)
some_left_any (r ∷ rs) e = left_by r.constant r (kept rs) (⊎_elim (λ h. inl h) (λ h. inr (some_left_any rs h)) (either_open r.constant (value_of_any rs) e))

pub literals_some : (ks : List Reading) (e : Encoding) → ks ≢ [] → (literals_of ks e).0 ≢ []
literals_some [] e h = absurd (h refl)
literals_some (k ∷ ks) e h = λ e'. absurd (cc)

and_one : (b : Bool) → all_true (b ∷ []) ≡ b
and_one true = refl
and_one false = refl

or_one : (b : Bool) → any_true (b ∷ []) ≡ b
or_one true = refl
or_one false = refl

open_not : (o : Option Bool) (c : Bool) → o ≡ None → o ≡ Some c → ⊥
open_not o c e e' = absurd (cc)

-- "and" means that all parts are true
pub meant_all : (model : Sense → Bool) (rs : List Reading) (bs : List Bool) → MeantAll model rs bs → Meant model (all_reading rs) (all_true bs)
meant_all model rs bs meant = record {
  folds = all_folds model rs bs meant;
  literal_back = λ open' values e fits.
      let k = keep_all model rs bs meant (open_not (value_of_all rs) false open') in
      let ls = literals_back values model (kept rs) k.values e k.meant k.opens (gate_fits values model all_clauses (literals_of (kept rs) e) fits) in
      (ls.0, λ is. sym k.same ∙ gated_back values model all_clauses all_true (literals_of (kept rs) e) k.values (literals_some (kept rs) e (some_left_all rs open')) and_one (λ n xs. all_says values n xs k.values) ls.1 fits is);
  literal_on = λ open' values e good.
      let k = keep_all model rs bs meant (open_not (value_of_all rs) false open') in
      let ls = literals_on values model (kept rs) k.values e k.meant k.opens good in
      subst (OnwardTo values model e (gated all_clauses (literals_of (kept rs) e))) k.same
      (gated_on values model all_clauses all_true e (literals_of (kept rs) e) k.values (literals_some (kept rs) e (some_left_all rs open')) and_one (λ w n xs. all_met w n (all_true k.values) xs k.values (λ h. h)) ls);
  stated_back = λ values e fits. by_constant_back values model (value_of_all rs) (state_each (kept rs)) (all_true bs) e (all_folds model rs bs meant)
      (λ open' fits'.
      let k = keep_all model rs bs meant (open_not (value_of_all rs) false open') in
      let h = each_back values model (kept rs) k.values e k.meant fits' in
      (h.0, sym k.same ∙ h.1)) fits;
  stated_on = λ is values e good. by_constant_on values model (value_of_all rs) (state_each (kept rs)) (all_true bs) e (all_folds model rs bs meant)
      (λ open'.
      let k = keep_all model rs bs meant (open_not (value_of_all rs) false open') in
      each_on values model (kept rs) k.values e k.meant (k.same ∙ is) good) is good;
}

-- stating that some literal is true
any_back : (values : ℕ → Bool) (model : Sense → Bool) (ks : List Reading) (bs : List Bool) (e : Encoding) → MeantAll model ks bs → OpenAll ks → Fits values model (state_any ks e) → Fits values model e × (any_true bs ≡ true)
any_back values model [] [] e meant opens fits = none_in (Fits values model e × (any_true [] ≡ true)) values (clause_back values model [] e fits).1
any_back values model [] (b ∷ bs) e meant opens fits = absurd meant
any_back values model (r ∷ rs) [] e meant opens fits = absurd meant
any_back values model (r ∷ []) (b ∷ []) e meant opens fits = let h = meant.0.stated_back values e fits in (h.0, or_one b ∙ h.1)
any_back values model (r ∷ []) (b ∷ c ∷ bs) e meant opens fits = absurd meant.1
any_back values model (r ∷ s ∷ rs) (b ∷ bs) e meant opens fits =
    let p = literals_of (r ∷ s ∷ rs) e in
    let h = clause_back values model p.0 p.1 fits in
    let ls = literals_back values model (r ∷ s ∷ rs) (b ∷ bs) e meant opens h.0 in
    (ls.0, some_implied values p.0 (b ∷ bs) h.1 ls.1)

any_on : (values : ℕ → Bool) (model : Sense → Bool) (ks : List Reading) (bs : List Bool) (e : Encoding) → MeantAll model ks bs → OpenAll ks → any_true bs ≡ true → Good values model e → Onward values model e (state_any ks e)
any_on values model [] [] e meant opens is good = absurd (false≢true is)
any_on values model [] (b ∷ bs) e meant opens is good = absurd meant
any_on values model (r ∷ rs) [] e meant opens is good = absurd meant
any_on values model (r ∷ []) (b ∷ []) e meant opens is good = meant.0.stated_on (sym (or_one b) ∙ is) values e good
any_on values model (r ∷ []) (b ∷ c ∷ bs) e meant opens is good = absurd meant.1
any_on values model (r ∷ s ∷ rs) (b ∷ bs) e meant opens is good =
    let p = literals_of (r ∷ s ∷ rs) e in
    let ls = literals_on values model (r ∷ s ∷ rs) (b ∷ bs) e meant opens good in
    record {
      later = ls.onward.later;
      same = ls.onward.same;
      longer = ls.onward.longer;
      good = clause_on ls.onward.later model p.0 p.1 ls.onward.good (λ w same. some_met w p.0 (b ∷ bs) is (ls.has w same));
    }

-- "or" means that some part is true
pub meant_any : (model : Sense → Bool) (rs : List Reading) (bs : List Bool) → MeantAll model rs bs → Meant model (any_reading rs) (any_true bs)
meant_any model rs bs meant = record {
  folds = any_folds model rs bs meant;
  literal_back = λ open' values e fits.
      let k = keep_any model rs bs meant (open_not (value_of_any rs) true open') in
      let ls = literals_back values model (kept rs) k.values e k.meant k.opens (gate_fits values model any_clauses (literals_of (kept rs) e) fits) in
      (ls.0, λ is. sym k.same ∙ gated_back values model any_clauses any_true (literals_of (kept rs) e) k.values (literals_some (kept rs) e (some_left_any rs open')) or_one (λ n xs. any_says values n xs k.values) ls.1 fits is);
  literal_on = λ open' values e good.
      let k = keep_any model rs bs meant (open_not (value_of_any rs) true open') in
      let ls = literals_on values model (kept rs) k.values e k.meant k.opens good in
      subst (OnwardTo values model e (gated any_clauses (literals_of (kept rs) e))) k.same
      (gated_on values model any_clauses any_true e (literals_of (kept rs) e) k.values (literals_some (kept rs) e (some_left_any rs open')) or_one (λ w n xs. any_met w n (any_true k.values) xs k.values (λ h. h)) ls);
  stated_back = λ values e fits. by_constant_back values model (value_of_any rs) (state_any (kept rs)) (any_true bs) e (any_folds model rs bs meant)
      (λ open' fits'.
      let k = keep_any model rs bs meant (open_not (value_of_any rs) true open') in
      let h = any_back values model (kept rs) k.values e k.meant k.opens fits' in
      (h.0, sym k.same ∙ h.1)) fits;
  stated_on = λ is values e good. by_constant_on values model (value_of_any rs) (state_any (kept rs)) (any_true bs) e (any_folds model rs bs meant)
      (λ open'.
      let k = keep_any model rs bs meant (open_not (value_of_any rs) true open') in
      any_on values model (kept rs) k.values e k.meant k.opens (k.same ∙ is) good) is good;
}
