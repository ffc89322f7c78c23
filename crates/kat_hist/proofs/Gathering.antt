-- What the orders of operations tell of designs, gathered order by order.
use Rattle.std.proofs.Common.{◌≡◌, ℕ, suc, ◌+◌, ◌<◌, ◌≤◌, inl, inr, ⊎_elim, Bool, true, false, ◌||◌, List, [], ◌∷◌, ◌++◌, length, map, drop, take, get_or, arith, refl, sym, ◌∙◌, ap, subst, None, Some}
use Rattle.std.specs.Prelude.{not, ◌&&◌, ◌==◌}
use Rattle.std.proofs.lemmas.Bool.{eqb-true}
use Rattle.std.specs.List.{list_any}
use Rattle.std.proofs.lemmas.List.{length-map, map_more, take-append-drop, take-map, take_all}
use Rattle.std.proofs.lemmas.List.Folds.{list_any-append}
use Rattle.kat_num.specs.declared.values.Value.{Value}
use Rattle.kat_design.specs.Answers as design
use Rattle.kat_design.specs.Designs.{DesignForm}
use Rattle.kat_type.specs.Unions.{are_same_values, is_same_value}
use Rattle.kat_design.specs.declared.states.Part.{Part}
use Rattle.kat_type.proofs.Same.{same-values}
use Rattle.kat_expr.specs.declared.expressions.Slot.{Slot}
use Rattle.kat_seq.specs.States.{state_after}
use Rattle.kat_type.specs.Types.{TypeForm}
use Rattle.kat_type.specs.declared.done.Done.{Done}
use Rattle.kat_histories.specs.declared.calls.Call.{Call}
use Rattle.kat_histories.specs.Answering.{answer_in, is_other}
use Rattle.kat_histories.specs.Places.{ordered}
use Rattle.kat_hist.specs.Arranging.{is_unlike, respects_ranks, tells_apart}
use Rattle.kat_hist.specs.Trials.{Gathers, IsGathered, Tells, answers_in, are_known, some_other}
use Rattle.kat_histories.proofs.SameValues.{value_itself, value_same}

or_false : (a : Bool) → (a || false) ≡ a
or_false true = refl
or_false false = refl

or_true : (a : Bool) → (a || true) ≡ true
or_true true = refl
or_true false = refl

or_itself : (a b : Bool) → a ≡ b → (a || b) ≡ a
or_itself true b e = refl
or_itself false b e = sym e

-- one order more
any_end : {X : Type 0} (p : X → Bool) (xs : List X) (x : X) → list_any p (xs ++ x ∷ []) ≡ (list_any p xs || p x)
any_end p xs x = list_any-append p xs (x ∷ []) ∙ ap (λ b. list_any p xs || b) (or_false (p x))

-- no answers are known: nothing is answered otherwise
none_other : (d : DesignForm) (parts : List Part) (asks : List Call) → some_other d parts asks [] ≡ false
none_other d parts [] = refl
none_other d parts (ask ∷ asks) = refl

-- the answers in a state
other_any : (ty : TypeForm) (d : DesignForm) (parts : List Part) (state : List Slot) (asks : List Call)
    → some_other d parts asks (answers_in ty state asks) ≡ list_any (is_unlike ty d parts state) asks
other_any ty d parts state [] = refl
other_any ty d parts state (ask ∷ asks) = ap (λ b. is_unlike ty d parts state ask || b) (other_any ty d parts state asks)

-- an order that respects the ranks, and one that doesn't
told_by : (ty : TypeForm) (d : DesignForm) (parts : List Part) (asks : List Call) (arranged : List Done) → respects_ranks ty arranged ≡ true
    → some_other d parts asks (answers_in ty (state_after ty arranged) asks) ≡ tells_apart ty d parts asks arranged
told_by ty d parts asks arranged e =
    other_any ty d parts (state_after ty arranged) asks
    ∙ sym (ap (λ b. b && list_any (is_unlike ty d parts (state_after ty arranged)) asks) e)

not_told : (ty : TypeForm) (d : DesignForm) (parts : List Part) (asks : List Call) (arranged : List Done) → respects_ranks ty arranged ≡ false
    → tells_apart ty d parts asks arranged ≡ false
not_told ty d parts asks arranged e = ap (λ b. b && list_any (is_unlike ty d parts (state_after ty arranged)) asks) e

-- before any order
pub gathers_none : (ty : TypeForm) (asks : List Call) → Gathers ty asks [] []
gathers_none ty asks = record { long = inl refl; tells = record { each = λ d parts. none_other d parts asks } }

-- an order that doesn't respect the ranks tells nothing
pub gathers_past : (ty : TypeForm) (asks : List Call) (orders : List (List Done)) (arranged : List Done) (answers : List Value) → respects_ranks ty arranged ≡ false
    → Gathers ty asks orders answers → Gathers ty asks (orders ++ arranged ∷ []) answers
gathers_past ty asks orders arranged answers e g = record {
  long = g.long;
  tells = record {
    each = λ d parts.
        g.tells.each d parts ∙ sym (any_end (tells_apart ty d parts asks) orders arranged
        ∙ ap (λ b. list_any (tells_apart ty d parts asks) orders || b) (not_told ty d parts asks arranged e) ∙ or_false (list_any (tells_apart ty d parts asks) orders));
  };
}

-- the first one that does gives the answers
pub gathers_first : (ty : TypeForm) (asks : List Call) (orders : List (List Done)) (arranged : List Done) (answers : List Value) → respects_ranks ty arranged ≡ true
    → Gathers ty asks orders [] → answers ≡ answers_in ty (state_after ty arranged) asks → Gathers ty asks (orders ++ arranged ∷ []) answers
gathers_first ty asks orders arranged answers e g is = record {
  long = inr (ap length is ∙ length-map asks (answer_in ty (state_after ty arranged)));
  tells = record {
    each = λ d parts.
        ap (some_other d parts asks) is ∙ told_by ty d parts asks arranged e
        ∙ ap (λ b. b || tells_apart ty d parts asks arranged) (sym (none_other d parts asks) ∙ g.tells.each d parts)
        ∙ sym (any_end (tells_apart ty d parts asks) orders arranged);
  };
}

-- a further one gives the same
pub gathers_same : (ty : TypeForm) (asks : List Call) (orders : List (List Done)) (arranged : List Done) (answers : List Value) → respects_ranks ty arranged ≡ true
    → Gathers ty asks orders answers → are_same_values answers (answers_in ty (state_after ty arranged) asks) ≡ true → Gathers ty asks (orders ++ arranged ∷ []) answers
gathers_same ty asks orders arranged answers e g same = record {
  long = g.long;
  tells = record {
    each = λ d parts.
        let before = g.tells.each d parts in
        let here : some_other d parts asks answers ≡ tells_apart ty d parts asks arranged =
        ap (some_other d parts asks) (same-values answers (answers_in ty (state_after ty arranged) asks) same) ∙ told_by ty d parts asks arranged e in
        before ∙ sym (any_end (tells_apart ty d parts asks) orders arranged
        ∙ or_itself (list_any (tells_apart ty d parts asks) orders) (tells_apart ty d parts asks arranged) (sym before ∙ here));
  };
}

-- what a design answers isn't both of two values
not_both : (a b c : Value) → is_same_value a b ≡ false → (not (is_same_value a c) || not (is_same_value b c)) ≡ true
not_both a b c unlike = cases (is_same_value a c) (is_same_value b c) refl refl where
  clash : (t : Bool) → t ≡ true → t ≡ false → ⊥
  clash true p q = absurd (cc q)
  clash false p q = absurd (cc p)

  cases : (s t : Bool) → is_same_value a c ≡ s → is_same_value b c ≡ t → (not s || not t) ≡ true
  cases false t p q = refl
  cases true false p q = refl
  cases true true p q =
      absurd (clash (is_same_value a b) (ap (is_same_value a) (value_same b c q ∙ sym (value_same a c p)) ∙ value_itself a) unlike)

-- so it answers otherwise than after one of two orders
either_other : (d : DesignForm) (parts : List Part) (asks : List Call) (known answers : List Value) → length known ≡ length asks → length answers ≡ length asks
    → are_same_values known answers ≡ false → (some_other d parts asks known || some_other d parts asks answers) ≡ true
either_other d parts [] [] [] m n e = absurd (cc e)
either_other d parts [] [] (b ∷ answers) m n e = absurd (none (length answers) n) where
  none : (k : ℕ) → suc k ≡ 0 → ⊥
  none k h = omega (arith, h)
either_other d parts [] (a ∷ known) answers m n e = absurd (none (length known) m) where
  none : (k : ℕ) → suc k ≡ 0 → ⊥
  none k h = omega (arith, h)
either_other d parts (ask ∷ asks) [] answers m n e = absurd (none (length asks) m) where
  none : (k : ℕ) → 0 ≡ suc k → ⊥
  none k h = omega (arith, h)
either_other d parts (ask ∷ asks) (a ∷ known) [] m n e = absurd (none (length asks) n) where
  none : (k : ℕ) → 0 ≡ suc k → ⊥
  none k h = omega (arith, h)
either_other d parts (ask ∷ asks) (a ∷ known) (b ∷ answers) m n e =
    step (is_same_value a b) (are_same_values known answers) (is_other d parts ask a) (is_other d parts ask b) (some_other d parts asks known) (some_other d parts asks answers)
    e (not_both a b (design.answer_of d parts ask.number ask.args)) (either_other d parts asks known answers (less m) (less n)) where
      less : {j k : ℕ} → suc j ≡ suc k → j ≡ k
      less h = omega (arith, h)

      front : (p q ps qs : Bool) → (p || q) ≡ true → ((p || ps) || (q || qs)) ≡ true
      front true q ps qs h = refl
      front false true ps qs h = or_true ps
      front false false ps qs h = absurd (cc h)

      behind : (p q ps qs : Bool) → (ps || qs) ≡ true → ((p || ps) || (q || qs)) ≡ true
      behind true q ps qs h = refl
      behind false true ps qs h = or_true ps
      behind false false ps qs h = h

      step : (s t p q ps qs : Bool) → (s && t) ≡ false → (s ≡ false → (p || q) ≡ true) → (t ≡ false → (ps || qs) ≡ true) → ((p || ps) || (q || qs)) ≡ true
      step false t p q ps qs h first rest = front p q ps qs (first refl)
      step true t p q ps qs h first rest = behind p q ps qs (rest h)

-- a further one gives others: every design answers otherwise than after one of them
pub gathers_other : (ty : TypeForm) (asks : List Call) (orders : List (List Done)) (arranged : List Done) (answers : List Value) → respects_ranks ty arranged ≡ true
    → Gathers ty asks orders answers → 1 ≤ length answers → are_same_values answers (answers_in ty (state_after ty arranged) asks) ≡ false → Tells ty asks (orders ++ arranged ∷ []) None
gathers_other ty asks orders arranged answers e g some other = record {
  each = λ d parts.
      let long : length answers ≡ length asks = ⊎_elim (λ (i : answers ≡ []). absurd (none (length answers) some (ap length i))) (λ l. l) g.long in
      sym (any_end (tells_apart ty d parts asks) orders arranged
      ∙ sym (ap (λ b. b || tells_apart ty d parts asks arranged) (g.tells.each d parts))
      ∙ sym (ap (λ b. some_other d parts asks answers || b) (told_by ty d parts asks arranged e))
      ∙ either_other d parts asks answers (answers_in ty (state_after ty arranged) asks) long (length-map asks (answer_in ty (state_after ty arranged))) other);
} where
  none : (k : ℕ) → 1 ≤ k → k ≡ 0 → ⊥
  none k h i = omega (arith, h, i)

-- one more order that respects the ranks, when answers are known
known_same : (ty : TypeForm) (state : List Slot) (asks : List Call) (known : List Value) → length known ≡ length asks → are_known ty state asks known ≡ are_same_values known (answers_in ty state asks)
known_same ty state [] [] m = refl
known_same ty state [] (a ∷ known) m = absurd (none (length known) m) where
  none : (k : ℕ) → suc k ≡ 0 → ⊥
  none k h = omega (arith, h)
known_same ty state (ask ∷ asks) [] m = absurd (none (length asks) m) where
  none : (k : ℕ) → 0 ≡ suc k → ⊥
  none k h = omega (arith, h)
known_same ty state (ask ∷ asks) (a ∷ known) m = ap (λ b. is_same_value a (answer_in ty state ask) && b) (known_same ty state asks known (less m)) where
  less : {j k : ℕ} → suc j ≡ suc k → j ≡ k
  less h = omega (arith, h)

pub gathers_more : (ty : TypeForm) (asks : List Call) (orders : List (List Done)) (arranged : List Done) (answers : List Value) (b : Bool) → respects_ranks ty arranged ≡ true → 1 ≤ length answers
    → b ≡ are_known ty (state_after ty arranged) asks answers → Gathers ty asks orders answers → IsGathered ty asks (orders ++ arranged ∷ []) b answers
gathers_more ty asks orders arranged answers b e some is g =
    let long : length answers ≡ length asks = ⊎_elim (λ (i : answers ≡ []). absurd (none (length answers) some (ap length i))) (λ l. l) g.long in
    cases b (is ∙ known_same ty (state_after ty arranged) asks answers long) where
      none : (k : ℕ) → 1 ≤ k → k ≡ 0 → ⊥
      none k h i = omega (arith, h, i)

      cases : (b : Bool) → b ≡ are_same_values answers (answers_in ty (state_after ty arranged) asks) → IsGathered ty asks (orders ++ arranged ∷ []) b answers
      cases true i = gathers_same ty asks orders arranged answers e g (sym i)
      cases false i = gathers_other ty asks orders arranged answers e g some (sym i)

pub gathers_known : (ty : TypeForm) (asks : List Call) (orders : List (List Done)) (arranged : List Done) (answers : List Value) (slots state : List Slot) (known : List Value) (b : Bool)
    → respects_ranks ty arranged ≡ true → 1 ≤ length answers → slots ≡ state_after ty arranged → state ≡ slots → known ≡ answers → b ≡ are_known ty state asks known → Gathers ty asks orders answers
    → IsGathered ty asks (orders ++ arranged ∷ []) b answers
gathers_known ty asks orders arranged answers slots state known b e some is at same found g =
    gathers_more ty asks orders arranged answers b e some
    (found ∙ ap (λ (l : List Value). are_known ty state asks l) same ∙ ap (λ (s : List Slot). are_known ty s asks answers) (at ∙ is)) g

-- a test that isn't passed over
pub true_by : (a b : Bool) → a ≡ b → a ≡ true → b ≡ true
true_by a b is e = sym is ∙ e

-- whether answers are known
pub none_known : (n : ℕ) (known : List Value) (b : Bool) → n ≡ length known → b ≡ (n == 0) → b ≡ true → known ≡ []
none_known n [] b long is e = refl
none_known n (a ∷ known) b long is e = absurd (none (length known) (sym long ∙ eqb-true n 0 (sym is ∙ e))) where
  none : (k : ℕ) → suc k ≡ 0 → ⊥
  none k h = omega (arith, h)

pub some_known : (n : ℕ) (known : List Value) (b : Bool) → n ≡ length known → b ≡ (n == 0) → b ≡ false → 1 ≤ length known
some_known n [] b long is e = absurd (clash b (is ∙ ap (λ k. k == 0) long) e) where
  clash : (t : Bool) → t ≡ true → t ≡ false → ⊥
  clash true p q = absurd (cc q)
  clash false p q = absurd (cc p)
some_known n (a ∷ known) b long is e = omega arith

-- the first one gives them
pub gathers_new : (ty : TypeForm) (asks : List Call) (orders : List (List Done)) (arranged : List Done) (old new : List Value) (state : List Slot) → respects_ranks ty arranged ≡ true
    → old ≡ [] → state ≡ state_after ty arranged → new ≡ old ++ answers_in ty state asks → Gathers ty asks orders old → Gathers ty asks (orders ++ arranged ∷ []) new
gathers_new ty asks orders arranged old new state e none is got g =
    gathers_first ty asks orders arranged new e (subst (λ (l : List Value). Gathers ty asks orders l) none g)
    (got ∙ ap (λ (l : List Value). l ++ answers_in ty state asks) none ∙ ap (λ (s : List Slot). answers_in ty s asks) is)

pub gathered_off : (ty : TypeForm) (asks : List Call) (orders : List (List Done)) (answers : List Value) (b : Bool) → b ≡ false → IsGathered ty asks orders b answers → Tells ty asks orders None
gathered_off ty asks orders answers true e g = absurd (cc e)
gathered_off ty asks orders answers false e g = g

-- the orders up to a place, and all of them
pub gathers_on : (ty : TypeForm) (asks : List Call) (ones : List Done) (items : List (List ℕ)) (i : ℕ) (d : List ℕ) (answers : List Value) → i < length items
    → Gathers ty asks (map (ordered ones) (take i items) ++ ordered ones (get_or items i d) ∷ []) answers → Gathers ty asks (map (ordered ones) (take (i + 1) items)) answers
gathers_on ty asks ones items i d answers lt g = subst (λ (orders : List (List Done)). Gathers ty asks orders answers) (sym (map_more (ordered ones) items i d lt)) g

any_front : {X : Type 0} (p : X → Bool) (xs : List X) (n : ℕ) → list_any p (take n xs) ≡ true → list_any p xs ≡ true
any_front p xs n e =
    ap (list_any p) (sym (take-append-drop n xs)) ∙ list_any-append p (take n xs) (drop n xs) ∙ ap (λ b. b || list_any p (drop n xs)) e

pub tells_all : (ty : TypeForm) (asks : List Call) (ones : List Done) (items : List (List ℕ)) (all : List (List Done)) (i : ℕ) (d : List ℕ) → i < length items → map (ordered ones) items ≡ all
    → Tells ty asks (map (ordered ones) (take i items) ++ ordered ones (get_or items i d) ∷ []) None → Tells ty asks all None
tells_all ty asks ones items all i d lt is t = record {
  each = λ dd parts.
      let front : list_any (tells_apart ty dd parts asks) (take (i + 1) (map (ordered ones) items)) ≡ true =
      ap (list_any (tells_apart ty dd parts asks)) (take-map (ordered ones) (i + 1) items ∙ map_more (ordered ones) items i d lt) ∙ sym (t.each dd parts) in
      sym (ap (list_any (tells_apart ty dd parts asks)) (sym is) ∙ any_front (tells_apart ty dd parts asks) (map (ordered ones) items) (i + 1) front);
}

pub tells_end : (ty : TypeForm) (asks : List Call) (ones : List Done) (items : List (List ℕ)) (all : List (List Done)) (i : ℕ) (answers : List Value) → length items ≤ i
    → map (ordered ones) items ≡ all → Gathers ty asks (map (ordered ones) (take i items)) answers → Tells ty asks all (Some answers)
tells_end ty asks ones items all i answers past is g =
    subst (λ (orders : List (List Done)). Tells ty asks orders (Some answers)) (ap (map (ordered ones)) (take_all i items past) ∙ is) g.tells
