-- What encodings are always like: literals of their variables, each sense once, and atoms as the facts have them.
use Rattle.std.proofs.Common.{◌≡◌, ◌≢◌, ℕ, zero, suc, ◌+◌, ◌≤◌, ⊎_elim, ℤ, pos, negsuc, neg_ℤ, Bool, true, false, Option, Some, None, List, [], ◌∷◌, ◌++◌, length, map, All, Contains, refl, sym, ap, ◌∙◌, arith, subst, option_map, if◌then◌else◌}
use Rattle.std.proofs.lemmas.Bool.Decides.{Decides-eqb, Decides-int_eq}
use Rattle.std.proofs.lemmas.List.{length_push}
use Rattle.std.proofs.lemmas.List.Elements.{All-nil, All-cons, All-push, All-append, All-weaker}
use Rattle.kat_linear.specs.Rows.{Form, Term, negated_form}
use Rattle.kat_form.specs.Encodings.{Encoding, Sense, IsLiteral, HasLiterals, sense_at, StandOnce}
use Rattle.kat_form.specs.Encodings.Sense.{truth, atom, gate}
use Rattle.kat_form.specs.Facts.{Fact, Facts}
use Rattle.kat_form.specs.Facts.Fact.{known, truth_is, at_most, above, all_of, any_of}
use Rattle.kat_form.specs.Facts.Facts.{none, more}
use Rattle.kat_form.specs.Readings.{same_terms, same_sense, place_of, added, number_at, numbered, opposite, leads_negative, atom_literal, constant_form, with_clause, Reading, unit_clause, state_constant, state_by, literal_reading, variable_literal, at_most_reading, above_reading, value_of_all, value_of_any, kept, kept_by, literals_of, all_clauses, any_clauses, gated, state_each, state_any, all_reading, any_reading, nothing, encoded_readings, fact_reading, fact_readings}
use Rattle.kat_form.proofs.Valuations.{sense_placed, sense_cases, sense_within}
use Rattle.kat_form.proofs.Agreement.{OpenAll, some_left_all, some_left_any, literals_some}

-- a literal of the variables
more_literal : (n m : ℕ) (k : ℤ) → n ≤ m → IsLiteral n k → IsLiteral m k
more_literal n m k h is = (is.0, omega (arith, h, is.1))

more_literals : (n m : ℕ) (clauses : List (List ℤ)) → n ≤ m → All (HasLiterals n) clauses → All (HasLiterals m) clauses
more_literals n m clauses h = All-weaker (HasLiterals n) (HasLiterals m) (λ clause has k in'. more_literal n m k h (has k in')) clauses

opposite_literal : (n : ℕ) (k : ℤ) → IsLiteral n k → IsLiteral n (neg_ℤ k)
opposite_literal n (pos zero) is = is
opposite_literal n (pos (suc k)) is = is
opposite_literal n (negsuc k) is = is

no_literals : (n : ℕ) → HasLiterals n []
no_literals n k has = absurd (omega (arith, has.1))

literals_first : (n : ℕ) (l : ℤ) (ls : List ℤ) → IsLiteral n l → HasLiterals n ls → HasLiterals n (l ∷ ls)
literals_first n l ls first rest k (zero, h, e) = let P : ℤ → Type 0 = IsLiteral n in subst P e first
literals_first n l ls first rest k (suc j, h, e) = rest k (j, omega (arith, h), e)

-- an encoding that is whole: literals of its variables, senses with P, each sense once
pub record Built (P : Sense → Type 0) (e : Encoding) : Type 0 where
  pub literals : All (HasLiterals (length e.senses)) e.clauses
  pub senses : All P e.senses
  pub once : StandOnce e.senses

-- a step that gives a literal; one that gives several; one that gives none
record Step (P : Sense → Type 0) (e : Encoding) (p : ℤ × Encoding) : Type 0 where
  built : Built P p.1
  literal : IsLiteral (length p.1.senses) p.0
  longer : length e.senses ≤ length p.1.senses

record Steps (P : Sense → Type 0) (e : Encoding) (p : List ℤ × Encoding) : Type 0 where
  built : Built P p.1
  literals : HasLiterals (length p.1.senses) p.0
  longer : length e.senses ≤ length p.1.senses

-- equal senses are one
same_terms_refl : (ts : List Term) → same_terms ts ts ≡ true
same_terms_refl [] = refl
same_terms_refl (t ∷ ts) = rw ((Decides-eqb t.0 t.0).1 refl, (Decides-int_eq t.1 t.1).1 refl, same_terms_refl ts) refl

same_itself : (s : Sense) → s ≢ gate → same_sense s s ≡ true
same_itself (truth v) ne = (Decides-eqb v v).1 refl
same_itself (atom f) ne = rw (same_terms_refl f.terms, (Decides-int_eq f.constant f.constant).1 refl) refl
same_itself gate ne = absurd (ne refl)

-- a sense that has no place isn't in the list
pub no_place : (s : Sense) (senses : List Sense) (v : ℕ) → s ≢ gate → place_of s senses ≡ None → sense_at senses v ≡ Some s → ⊥
no_place s senses zero ne e at = absurd (cc)
no_place s [] (suc v) ne e at = absurd (cc)
no_place s (t ∷ ts) (suc zero) ne e at =
    let is : t ≡ s = cc in
    let same : same_sense s t ≡ true = rw is (same_itself s ne) in
    found (same_sense s t) same e
  where
    found : (b : Bool) → b ≡ true → (if b then Some 1 else option_map suc (place_of s ts)) ≡ None → ⊥
    found true p q = absurd (cc)
    found false p q = absurd (cc)
no_place s (t ∷ ts) (suc (suc v)) ne e at = no_place s ts (suc v) ne (rest (same_sense s t) (place_of s ts) e) at
  where
    rest : (b : Bool) (o : Option ℕ) → (if b then Some 1 else option_map suc o) ≡ None → o ≡ None
    rest true o p = absurd (cc)
    rest false (Some n) p = absurd (cc)
    rest false None p = refl

-- one sense more
once_added : (senses : List Sense) (s : Sense) → (s ≢ gate → (v : ℕ) → sense_at senses v ≡ Some s → ⊥) → StandOnce senses → StandOnce (senses ++ s ∷ [])
once_added senses s fresh once sense plain v w at_v at_w = ⊎_elim
    (λ (early : sense_at senses v ≡ Some sense). ⊎_elim
    (λ (also : sense_at senses w ≡ Some sense). once sense plain v w early also)
    (λ (late : (w ≡ suc (length senses)) × (s ≡ sense)). absurd (fresh (λ g. plain (sym late.1 ∙ g)) v (early ∙ ap Some (sym late.1))))
    (sense_cases senses s w sense at_w))
    (λ (late : (v ≡ suc (length senses)) × (s ≡ sense)). ⊎_elim
    (λ (early : sense_at senses w ≡ Some sense). absurd (fresh (λ g. plain (sym late.1 ∙ g)) w (early ∙ ap Some (sym late.1))))
    (λ (also : (w ≡ suc (length senses)) × (s ≡ sense)). late.0 ∙ sym also.0)
    (sense_cases senses s w sense at_w))
    (sense_cases senses s v sense at_v)

built_added : (P : Sense → Type 0) (s : Sense) (e : Encoding) → P s → (s ≢ gate → (v : ℕ) → sense_at e.senses v ≡ Some s → ⊥) → Built P e → Step P e (added s e)
built_added P s e holds fresh built = record {
  built = record {
    literals = more_literals (length e.senses) (length (e.senses ++ s ∷ [])) e.clauses (omega (arith, length_push e.senses s)) built.literals;
    senses = All-push P e.senses s built.senses holds;
    once = once_added e.senses s fresh built.once;
  };
  literal = (omega arith, omega (arith, length_push e.senses s));
  longer = omega (arith, length_push e.senses s);
}

numbered_step : (P : Sense → Type 0) (s : Sense) (e : Encoding) → P s → s ≢ gate → Built P e → Step P e (numbered s e)
numbered_step P s e holds plain built = by_place (place_of s e.senses) refl
  where
    found_within : (k : ℕ) → place_of s e.senses ≡ Some k → IsLiteral (length e.senses) (pos k)
    found_within k is = sense_within e.senses k s (sense_placed s e.senses k is)

    by_place : (o : Option ℕ) → place_of s e.senses ≡ o → Step P e (number_at o s e)
    by_place None is = built_added P s e holds (λ ne v at. no_place s e.senses v plain is at) built
    by_place (Some k) is = record { built = built; literal = found_within k is; longer = omega arith }

opposite_step : (P : Sense → Type 0) (e : Encoding) (p : ℤ × Encoding) → Step P e p → Step P e (opposite p)
opposite_step P e (l, e') step = record { built = step.built; literal = opposite_literal (length e'.senses) l step.literal; longer = step.longer }

-- what a form's atom needs, as it is or turned
abbrev pub Turns : (Sense → Type 0) → Form → Type 0
Turns P form = P (atom form) × P (atom (negated_form form))

turned_step : (P : Sense → Type 0) (form : Form) (e : Encoding) (b : Bool) → Turns P form → Built P e → Step P e (if b then opposite (numbered (atom (negated_form form)) e) else numbered (atom form) e)
turned_step P form e true holds built = opposite_step P e (numbered (atom (negated_form form)) e) (numbered_step P (atom (negated_form form)) e holds.1 (λ g. absurd (cc)) built)
turned_step P form e false holds built = numbered_step P (atom form) e holds.0 (λ g. absurd (cc)) built

atom_step : (P : Sense → Type 0) (form : Form) (e : Encoding) → Turns P form → Built P e → Step P e (atom_literal form e)
atom_step P form e holds built = turned_step P form e (leads_negative form.terms) holds built

variable_step : (P : Sense → Type 0) (v : ℕ) (positive : Bool) (e : Encoding) → P (truth v) → Built P e → Step P e (variable_literal v positive e)
variable_step P v true e holds built = numbered_step P (truth v) e holds (λ g. absurd (cc)) built
variable_step P v false e holds built = opposite_step P e (numbered (truth v) e) (numbered_step P (truth v) e holds (λ g. absurd (cc)) built)

-- a clause more
built_clause : (P : Sense → Type 0) (clause : List ℤ) (e : Encoding) → HasLiterals (length e.senses) clause → Built P e → Built P (with_clause clause e)
built_clause P clause e has built = record { literals = All-push (HasLiterals (length e.senses)) e.clauses clause built.literals has; senses = built.senses; once = built.once }

-- an encoding that has grown by stating
record Grown (P : Sense → Type 0) (e e' : Encoding) : Type 0 where
  built : Built P e'
  longer : length e.senses ≤ length e'.senses

-- a reading that keeps encodings whole
record Keeps (P : Sense → Type 0) (r : Reading) : Type 0 where
  literal : r.constant ≡ None → (e : Encoding) → Built P e → Step P e (r.literal e)
  stated : (e : Encoding) → Built P e → Grown P e (r.stated e)

grown_constant : (P : Sense → Type 0) (b : Bool) (e : Encoding) → Built P e → Grown P e (state_constant b e)
grown_constant P true e built = record { built = built; longer = omega arith }
grown_constant P false e built = record { built = built_clause P [] e (no_literals (length e.senses)) built; longer = omega arith }

grown_by : (P : Sense → Type 0) (constant : Option Bool) (state : Encoding → Encoding) (e : Encoding) → Built P e → (constant ≡ None → Grown P e (state e)) → Grown P e (state_by constant state e)
grown_by P (Some b) state e built open' = grown_constant P b e built
grown_by P None state e built open' = open' refl

unit_grown : (P : Sense → Type 0) (e : Encoding) (p : ℤ × Encoding) → Step P e p → Grown P e (unit_clause p)
unit_grown P e (l, e') step = record { built = built_clause P (l ∷ []) e' (literals_first (length e'.senses) l [] step.literal (no_literals (length e'.senses))) step.built; longer = step.longer }

keeps_literal : (P : Sense → Type 0) (constant : Option Bool) (numbers : ℕ) (literal : Encoding → ℤ × Encoding) → (constant ≡ None → (e : Encoding) → Built P e → Step P e (literal e)) → Keeps P (literal_reading constant numbers literal)
keeps_literal P constant numbers literal step = record {
  literal = step;
  stated = λ e built. grown_by P constant (λ x. unit_clause (literal x)) e built (λ open'. unit_grown P e (literal e) (step open' e built));
}

abbrev KeepsAll : (Sense → Type 0) → List Reading → Type 0
KeepsAll P [] = Unit {0}
KeepsAll P (r ∷ rs) = Keeps P r × KeepsAll P rs

kept_keeps_by : (P : Sense → Type 0) (o : Option Bool) (r : Reading) (ks : List Reading) → r.constant ≡ o → Keeps P r → KeepsAll P ks × OpenAll ks → KeepsAll P (kept_by o r ks) × OpenAll (kept_by o r ks)
kept_keeps_by P (Some b) r ks is first rest = rest
kept_keeps_by P None r ks is first rest = ((first, rest.0), (is, rest.1))

kept_keeps : (P : Sense → Type 0) (rs : List Reading) → KeepsAll P rs → KeepsAll P (kept rs) × OpenAll (kept rs)
kept_keeps P [] keeps = (tt, tt)
kept_keeps P (r ∷ rs) keeps = kept_keeps_by P r.constant r (kept rs) refl keeps.0 (kept_keeps P rs keeps.1)

-- the literals of open parts
literals_steps : (P : Sense → Type 0) (ks : List Reading) (e : Encoding) → KeepsAll P ks → OpenAll ks → Built P e → Steps P e (literals_of ks e)
literals_steps P [] e keeps opens built = record { built = built; literals = no_literals (length e.senses); longer = omega arith }
literals_steps P (r ∷ rs) e keeps opens built =
    let first = keeps.0.literal opens.0 e built in
    let rest = literals_steps P rs (r.literal e).1 keeps.1 opens.1 first.built in
    let m = length (literals_of rs (r.literal e).1).1.senses in
    record {
      built = rest.built;
      literals = literals_first m (r.literal e).0 (literals_of rs (r.literal e).1).0 (more_literal (length (r.literal e).1.senses) m (r.literal e).0 rest.longer first.literal) rest.literals;
      longer = omega (arith, first.longer, rest.longer);
    }

all_literals : (n : ℕ) (g : ℤ) (ls : List ℤ) → IsLiteral n g → HasLiterals n ls → All (HasLiterals n) (all_clauses g ls)
all_literals n g [] is has = All-nil (HasLiterals n)
all_literals n g (l ∷ ls) is has =
    All-cons (HasLiterals n) (neg_ℤ g ∷ l ∷ []) (all_clauses g ls)
    (literals_first n (neg_ℤ g) (l ∷ []) (opposite_literal n g is) (literals_first n l [] (has l (0, omega arith, refl)) (no_literals n)))
    (all_literals n g ls is (λ k in'. has k (suc in'.0, omega (arith, in'.1), in'.2)))

any_literals : (n : ℕ) (g : ℤ) (ls : List ℤ) → IsLiteral n g → HasLiterals n ls → All (HasLiterals n) (any_clauses g ls)
any_literals n g ls is has = All-cons (HasLiterals n) (neg_ℤ g ∷ ls) [] (literals_first n (neg_ℤ g) ls (opposite_literal n g is) has) (All-nil (HasLiterals n))

-- a gate of literals
gated_step : (P : Sense → Type 0) → P gate → (clauses : ℤ → List ℤ → List (List ℤ)) → ((n : ℕ) (g : ℤ) (ls : List ℤ) → IsLiteral n g → HasLiterals n ls → All (HasLiterals n) (clauses g ls))
    → (e : Encoding) (p : List ℤ × Encoding) → p.0 ≢ [] → Steps P e p → Step P e (gated clauses p)
gated_step P holds clauses has e ([], e') some steps = absurd (some refl)
gated_step P holds clauses has e (l ∷ [], e') some steps = record { built = steps.built; literal = steps.literals l (0, omega arith, refl); longer = steps.longer }
gated_step P holds clauses has e (l ∷ m ∷ ls, e') some steps =
    let n = length e'.senses in
    let g = pos (suc n) in
    let new = built_added P gate e' holds (λ ne. absurd (ne refl)) steps.built in
    let grown : length (e'.senses ++ gate ∷ []) ≡ n + 1 = length_push e'.senses gate in
    record {
      built = record {
        literals = All-append (HasLiterals (length (e'.senses ++ gate ∷ []))) e'.clauses (clauses g (l ∷ m ∷ ls)) new.built.literals
            (has (length (e'.senses ++ gate ∷ [])) g (l ∷ m ∷ ls) new.literal (λ k in'. more_literal n (length (e'.senses ++ gate ∷ [])) k (omega (arith, grown)) (steps.literals k in')));
        senses = new.built.senses;
        once = new.built.once;
      };
      literal = new.literal;
      longer = omega (arith, steps.longer, grown);
    }

each_grown : (P : Sense → Type 0) (rs : List Reading) (e : Encoding) → KeepsAll P rs → Built P e → Grown P e (state_each rs e)
each_grown P [] e keeps built = record { built = built; longer = omega arith }
each_grown P (r ∷ rs) e keeps built =
    let first = keeps.0.stated e built in
    let rest = each_grown P rs (r.stated e) keeps.1 first.built in
    record { built = rest.built; longer = omega (arith, first.longer, rest.longer) }

any_grown : (P : Sense → Type 0) (ks : List Reading) (e : Encoding) → KeepsAll P ks → OpenAll ks → Built P e → Grown P e (state_any ks e)
any_grown P [] e keeps opens built = record { built = built_clause P [] e (no_literals (length e.senses)) built; longer = omega arith }
any_grown P (r ∷ []) e keeps opens built = keeps.0.stated e built
any_grown P (r ∷ s ∷ rs) e keeps opens built =
    let p = literals_of (r ∷ s ∷ rs) e in
    let steps = literals_steps P (r ∷ s ∷ rs) e keeps opens built in
    record { built = built_clause P p.0 p.1 steps.literals steps.built; longer = steps.longer }

keeps_all : (P : Sense → Type 0) → P gate → (rs : List Reading) → (value_of_all rs ≡ None → KeepsAll P rs) → Keeps P (all_reading rs)
keeps_all P holds rs keeps = record {
  literal = λ open' e built.
      let k = kept_keeps P rs (keeps open') in
      gated_step P holds all_clauses all_literals e (literals_of (kept rs) e) (literals_some (kept rs) e (some_left_all rs open')) (literals_steps P (kept rs) e k.0 k.1 built);
  stated = λ e built. grown_by P (value_of_all rs) (state_each (kept rs)) e built (λ open'. each_grown P (kept rs) e (kept_keeps P rs (keeps open')).0 built);
}

keeps_any : (P : Sense → Type 0) → P gate → (rs : List Reading) → (value_of_any rs ≡ None → KeepsAll P rs) → Keeps P (any_reading rs)
keeps_any P holds rs keeps = record {
  literal = λ open' e built.
      let k = kept_keeps P rs (keeps open') in
      gated_step P holds any_clauses any_literals e (literals_of (kept rs) e) (literals_some (kept rs) e (some_left_any rs open')) (literals_steps P (kept rs) e k.0 k.1 built);
  stated = λ e built. grown_by P (value_of_any rs) (state_any (kept rs)) e built (λ open'. let k = kept_keeps P rs (keeps open') in any_grown P (kept rs) e k.0 k.1 built);
}

-- what a fact's truth variables and open forms need
abbrev mutual
  pub Allows : (Sense → Type 0) → Fact → Type 0
  Allows P (known b) = Unit {0}
  Allows P (truth_is v positive) = P (truth v)
  Allows P (at_most form) = constant_form form ≡ None → Turns P form
  Allows P (above form) = constant_form form ≡ None → Turns P form
  Allows P (all_of fs) = value_of_all (fact_readings fs) ≡ None → AllowsAll P fs
  Allows P (any_of fs) = value_of_any (fact_readings fs) ≡ None → AllowsAll P fs

  pub AllowsAll : (Sense → Type 0) → Facts → Type 0
  AllowsAll P none = Unit {0}
  AllowsAll P (more f fs) = Allows P f × AllowsAll P fs

open_negation : (o : Option Bool) (f : Bool → Bool) → option_map f o ≡ None → o ≡ None
open_negation (Some b) f e = absurd (cc)
open_negation None f e = refl

mutual
  fact_keeps : (P : Sense → Type 0) → P gate → (f : Fact) → Allows P f → Keeps P (fact_reading f)
  fact_keeps P holds (known b) allows = keeps_literal P (Some b) 0 (λ e. (pos 0, e)) (λ open'. absurd (cc))
  fact_keeps P holds (truth_is v positive) allows = keeps_literal P None 0 (variable_literal v positive) (λ open' e built. variable_step P v positive e allows built)
  fact_keeps P holds (at_most form) allows = keeps_literal P (constant_form form) (at_most_reading form).numbers (atom_literal form) (λ open' e built. atom_step P form e (allows open') built)
  fact_keeps P holds (above form) allows = keeps_literal P (above_reading form).constant (above_reading form).numbers (λ e. opposite (atom_literal form e))
      (λ open' e built. opposite_step P e (atom_literal form e) (atom_step P form e (allows (open_negation (constant_form form) _ open')) built))
  fact_keeps P holds (all_of fs) allows = keeps_all P holds (fact_readings fs) (λ open'. facts_keep P holds fs (allows open'))
  fact_keeps P holds (any_of fs) allows = keeps_any P holds (fact_readings fs) (λ open'. facts_keep P holds fs (allows open'))

  facts_keep : (P : Sense → Type 0) → P gate → (fs : Facts) → AllowsAll P fs → KeepsAll P (fact_readings fs)
  facts_keep P holds none allows = tt
  facts_keep P holds (more f fs) allows = (fact_keeps P holds f allows.0, facts_keep P holds fs allows.1)

built_nothing : (P : Sense → Type 0) → Built P nothing
built_nothing P = record { literals = All-nil _; senses = All-nil P; once = λ sense plain v w at_v. absurd (nowhere v sense at_v) }
  where
    nowhere : (v : ℕ) (sense : Sense) → sense_at [] v ≡ Some sense → ⊥
    nowhere zero sense e = absurd (cc)
    nowhere (suc v) sense e = absurd (cc)

list_keeps : (P : Sense → Type 0) → P gate → (facts : List Fact) → ((f : Fact) → Contains facts f → Allows P f) → KeepsAll P (map fact_reading facts)
list_keeps P holds [] allows = tt
list_keeps P holds (f ∷ fs) allows = (fact_keeps P holds f (allows f (0, omega arith, refl)), list_keeps P holds fs (λ g has. allows g (suc has.0, omega (arith, has.1), has.2)))

-- the encoding of facts is whole
pub built_facts : (P : Sense → Type 0) → P gate → (facts : List Fact) → ((f : Fact) → Contains facts f → Allows P f) → Built P (encoded_readings (map fact_reading facts))
built_facts P holds facts allows = (each_grown P (map fact_reading facts) nothing (list_keeps P holds facts allows) (built_nothing P)).built
