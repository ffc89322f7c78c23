-- The hints of a line, by turns.
use Rattle.std.proofs.Common.{◌≡◌, ◌≢◌, ℕ, zero, suc, ◌+◌, ◌-◌, ◌<◌, ◌≤◌, ℤ, neg_ℤ, List, [], ◌∷◌, ◌++◌, length, true, false, if◌then◌else◌, Option, Some, None, inl, inr, ⊎_elim, refl, sym, ap, ◌∙◌, subst, arith, Contains}
use Rattle.std.specs.List.{list_any}
use Rattle.std.proofs.lemmas.Bool.{false≢true, cases_Bool}
use Rattle.std.proofs.lemmas.List.{get_or_default}
use Rattle.std.proofs.lemmas.List.Elements.{All-nil, All-cons, Contains-append_left, Contains-append_right, Contains-push, Contains-push_cases}
use Rattle.kat_clause.specs.Clauses.{Derived, Follows, SameMembers, opposites}
use Rattle.kat_clause.specs.Clauses.Derived.{denied, forced}
use Rattle.kat_clause.specs.Hints.{numbered, AreNumbers, Falsifies, IsOnlyOpen, Leads, IsHinted, has_literal, is_falsified, is_unit, open_literal, first_place, put_before, at_turn, hints_in, hints_of, literals_in}
use Rattle.kat_clause.specs.Choices.{IsUnit, Gives, IsNone, IsFirst, Chooses}
use Rattle.kat_clause.specs.Choices.Chooses.{ends, goes}
use Rattle.kat_clause.specs.Tables.{clause_at}
use Rattle.kat_clause.proofs.Codes.{cases_literal}
use Rattle.kat_clause.proofs.Members.{members_more}
use Rattle.kat_clause.proofs.Runs.{Contains-clause, opposite_there}
use Rattle.kat_clause.proofs.HintTests.{cases_cons, in_nothing, any_of, of_any, has_in, in_has, cases_in, not_in, falsified_true, true_falsified, open_is, unit_true, gives_unit, first_is, none_is, find_first}
use Rattle.kat_clause.proofs.HintLemmas.{only_same, falsifies_same, leads_put, leads_without, line_derived}

-- how many of the literals aren't in the set
abbrev pub unknown : List ℤ → List ℤ → ℕ
unknown known [] = 0
unknown known (k ∷ ks) = (if has_literal known k then 0 else 1) + unknown known ks

unknown_most : (known literals : List ℤ) → unknown known literals ≤ length literals
unknown_most known [] = omega arith
unknown_most known (k ∷ ks) = let rest = unknown_most known ks in ⊎_elim
    (λ (e : has_literal known k ≡ true). rw e (omega arith))
    (λ (e : has_literal known k ≡ false). rw e (omega arith))
    (cases_Bool (has_literal known k))

test_kept : (known more : List ℤ) → ((k : ℤ) → Contains known k → Contains more k) → (k : ℤ) → (if has_literal more k then 0 else 1) ≤ (if has_literal known k then 0 else 1)
test_kept known more up k = ⊎_elim
    (λ (e : has_literal known k ≡ true). rw (e, in_has more k (up k (has_in known k e))) (omega arith))
    (λ (e : has_literal known k ≡ false). ⊎_elim
    (λ (f : has_literal more k ≡ true). rw (e, f) (omega arith))
    (λ (f : has_literal more k ≡ false). rw (e, f) (omega arith))
    (cases_Bool (has_literal more k)))
    (cases_Bool (has_literal known k))

unknown_kept : (known more : List ℤ) → ((k : ℤ) → Contains known k → Contains more k) → (literals : List ℤ) → unknown more literals ≤ unknown known literals
unknown_kept known more up [] = omega arith
unknown_kept known more up (k ∷ ks) = let rest = unknown_kept known more up ks in let first = test_kept known more up k in omega arith

pub unknown_less : (known more : List ℤ) (m : ℤ) → ((k : ℤ) → Contains known k → Contains more k) → Contains more m → (Contains known m → ⊥) → (literals : List ℤ) → Contains literals m → unknown more literals < unknown known literals
unknown_less known more m up there fresh [] has = absurd (in_nothing m has)
unknown_less known more m up there fresh (k ∷ ks) has = ⊎_elim
    (λ (e : k ≡ m).
    let rest = unknown_kept known more up ks in
    let now : has_literal more k ≡ true = rw e (in_has more m there) in
    let was : has_literal known k ≡ false = rw e (not_in known m fresh) in
    rw (now, was) (omega arith))
    (λ (later : Contains ks m). let rest = unknown_less known more m up there fresh ks later in let first = test_kept known more up k in omega arith)
    (cases_cons k m ks has)

-- a clause's literals are among all
literal_in : (clauses : List (List ℤ)) (i : ℕ) (m : ℤ) → i < length clauses → Contains (clause_at clauses i) m → Contains (literals_in clauses) m
literal_in [] i m h has = absurd (omega (arith, h))
literal_in (clause ∷ clauses) zero m h has = Contains-append_left clause (literals_in clauses) m has
literal_in (clause ∷ clauses) (suc i) m h has = Contains-append_right clause (literals_in clauses) m (literal_in clauses i m (omega arith) has)

pub pushed : (known : List ℤ) (m k : ℤ) → Contains known k → Contains (known ++ m ∷ []) k
pushed known m k has = Contains-append_left known (m ∷ []) k has

gives_less : (clauses : List (List ℤ)) (known : List ℤ) (i : ℕ) (m : ℤ) → i < length clauses → IsUnit known (clause_at clauses i) m → unknown (known ++ m ∷ []) (literals_in clauses) < unknown known (literals_in clauses)
gives_less clauses known i m h unit =
    unknown_less known (known ++ m ∷ []) m (pushed known m) (Contains-push known m) unit.fresh (literals_in clauses) (literal_in clauses i m h unit.only.has)

-- the turns' values
at_end : (clauses : List (List ℤ)) (known : List ℤ) (f u : Option ℕ) (rest : ℤ → List ℕ) (i : ℕ) → f ≡ Some i → at_turn clauses known f u rest ≡ (i + 1) ∷ []
at_end clauses known f u rest i e = rw e refl

at_unit : (clauses : List (List ℤ)) (known : List ℤ) (f u : Option ℕ) (rest : ℤ → List ℕ) (i : ℕ) (m : ℤ) (later : List ℕ) → f ≡ None → u ≡ Some i → open_literal known (clause_at clauses i) ≡ m → rest m ≡ later → at_turn clauses known f u rest ≡ put_before clauses (i + 1) m later
at_unit clauses known f u rest i m later e g o r = rw (e, g, o, r) refl

at_nothing : (clauses : List (List ℤ)) (known : List ℤ) (f u : Option ℕ) (rest : ℤ → List ℕ) → f ≡ None → u ≡ None → at_turn clauses known f u rest ≡ []
at_nothing clauses known f u rest e g = rw (e, g) refl

-- this many turns find the hints
pub chosen_is : (clauses : List (List ℤ)) (known : List ℤ) (hints : List ℕ) → Chooses clauses known hints → (turns : ℕ) → unknown known (literals_in clauses) < turns → hints_in turns clauses known ≡ hints
unfolding hints_in
chosen_is clauses known hints chosen zero h = absurd (omega (arith, h))
chosen_is clauses known _ (ends _ i first) (suc turns) h =
    at_end clauses known (first_place (is_falsified known) clauses) (first_place (is_unit known) clauses) (λ m. hints_in turns clauses (known ++ m ∷ [])) i
    (first_is (Falsifies known) (is_falsified known) (falsified_true known) (true_falsified known) clauses i first)
chosen_is clauses known _ (goes _ i m later none first unit chosen) (suc turns) h =
    let less = gives_less clauses known i m first.within unit in
    at_unit clauses known (first_place (is_falsified known) clauses) (first_place (is_unit known) clauses) (λ u. hints_in turns clauses (known ++ u ∷ [])) i m later
    (none_is (Falsifies known) (is_falsified known) (falsified_true known) clauses none)
    (first_is (Gives known) (is_unit known) (unit_true known) (gives_unit known) clauses i first)
    (open_is known (clause_at clauses i) m unit.only)
    (chosen_is clauses (known ++ m ∷ []) later chosen turns (omega arith))

-- if no clause is falsified and none has a literal to give, the set has all that is derived
derived_known : (clauses : List (List ℤ)) (line known : List ℤ) → IsNone (Falsifies known) clauses → IsNone (Gives known) clauses → ((k : ℤ) → Contains (opposites line) k → Contains known k) → (m : ℤ) → Derived clauses line m → Contains known m
derived_known clauses line known unfalsified settled starts m (denied _ l has e) = let P : ℤ → Type 0 = Contains known in subst P (sym e) (starts (neg_ℤ l) (opposite_there line l has))
derived_known clauses line known unfalsified settled starts m (forced _ clause among has others) =
    let at : clause_at clauses among.0 ≡ clause = get_or_default clauses among.0 [] clause among.1 ∙ among.2 in
    let rest : (k : ℤ) → Contains clause k → k ≢ m → Contains known (neg_ℤ k) = λ k in' ne. derived_known clauses line known unfalsified settled starts (neg_ℤ k) (others k in' ne) in
    ⊎_elim
    (λ (denial : Contains known (neg_ℤ m)).
    let falsified : Falsifies known clause = λ k in'. ⊎_elim
    (λ (e : k ≡ m). let P : ℤ → Type 0 = λ x. Contains known (neg_ℤ x) in subst P (sym e) denial)
    (λ (ne : k ≢ m). rest k in' ne)
    (cases_literal k m) in
    absurd (unfalsified among.0 among.1 (rw at falsified)))
    (λ (free : Contains known (neg_ℤ m) → ⊥). ⊎_elim
    (λ (there : Contains known m). there)
    (λ (fresh : Contains known m → ⊥).
    let gives : Gives known clause = (m, record { only = record { has = has; free = free; others = rest }; fresh = fresh }) in
    absurd (settled among.0 among.1 (rw at gives)))
    (cases_in known m))
    (cases_in known (neg_ℤ m))

pub unfollowed : (clauses : List (List ℤ)) (line known : List ℤ) → IsNone (Falsifies known) clauses → IsNone (Gives known) clauses → ((k : ℤ) → Contains (opposites line) k → Contains known k) → Follows clauses line → ⊥
unfollowed clauses line known unfalsified settled starts (clause, among, falsified) =
    let at : clause_at clauses among.0 ≡ clause = get_or_default clauses among.0 [] clause among.1 ∙ among.2 in
    let all : Falsifies known clause = λ k has. derived_known clauses line known unfalsified settled starts (neg_ℤ k) (falsified k has) in
    unfalsified among.0 among.1 (rw at all)

-- a line that follows has hints
finds : (clauses : List (List ℤ)) (line : List ℤ) → Follows clauses line → (turns : ℕ) (known : List ℤ) → unknown known (literals_in clauses) < turns → ((k : ℤ) → Contains (opposites line) k → Contains known k) → (hints : List ℕ) × Chooses clauses known hints
finds clauses line follows zero known h starts = absurd (omega (arith, h))
finds clauses line follows (suc turns) known h starts = ⊎_elim
    (λ (found : (i : ℕ) × IsFirst (Falsifies known) clauses i). ((found.0 + 1) ∷ [], ends known found.0 found.1))
    (λ (unfalsified : IsNone (Falsifies known) clauses). ⊎_elim
    (λ (found : (i : ℕ) × IsFirst (Gives known) clauses i).
    let i = found.0 in
    let m = found.1.here.0 in
    let unit : IsUnit known (clause_at clauses i) m = found.1.here.1 in
    let less = gives_less clauses known i m found.1.within unit in
    let later = finds clauses line follows turns (known ++ m ∷ []) (omega arith) (λ k has. pushed known m k (starts k has)) in
    (put_before clauses (i + 1) m later.0, goes known i m later.0 unfalsified found.1 unit later.1))
    (λ (settled : IsNone (Gives known) clauses). absurd (unfollowed clauses line known unfalsified settled starts follows))
    (find_first (Gives known) (is_unit known) (unit_true known) (gives_unit known) clauses))
    (find_first (Falsifies known) (is_falsified known) (falsified_true known) (true_falsified known) clauses)

turns_enough : (clauses : List (List ℤ)) (known : List ℤ) → unknown known (literals_in clauses) < suc (length (literals_in clauses))
turns_enough clauses known = let most = unknown_most known (literals_in clauses) in omega arith

pub hints_are : (clauses : List (List ℤ)) (line : List ℤ) (hints : List ℕ) → Chooses clauses (opposites line) hints → hints ≡ hints_of clauses line
unfolding hints_of
hints_are clauses line hints chosen = sym (chosen_is clauses (opposites line) hints chosen (suc (length (literals_in clauses))) (turns_enough clauses (opposites line)))

pub hints_chosen : (clauses : List (List ℤ)) (line : List ℤ) → Follows clauses line → Chooses clauses (opposites line) (hints_of clauses line)
hints_chosen clauses line follows =
    let found = finds clauses line follows (suc (length (literals_in clauses))) (opposites line) (turns_enough clauses (opposites line)) (λ k has. has) in
    let P : List ℕ → Type 0 = Chooses clauses (opposites line) in
    subst P (hints_are clauses line found.0 found.1) found.1

-- sets with the same literals find the same hints
first_same : (P Q : List ℤ → Type 0) → ((clause : List ℤ) → P clause → Q clause) → ((clause : List ℤ) → Q clause → P clause) → (clauses : List (List ℤ)) (i : ℕ) → IsFirst P clauses i → IsFirst Q clauses i
first_same P Q on back clauses i first = record {
  within = first.within;
  here = on (clause_at clauses i) first.here;
  before = λ j less h. first.before j less (back (clause_at clauses j) h);
}

unit_same : (known same clause : List ℤ) (m : ℤ) → SameMembers known same → IsUnit known clause m → IsUnit same clause m
unit_same known same clause m members unit = record { only = only_same known same clause m members unit.only; fresh = λ h. unit.fresh ((members m).1 h) }

members_turned : (a b : List ℤ) → SameMembers a b → SameMembers b a
members_turned a b members k = ((members k).1, (members k).0)

pub chosen_same : (clauses : List (List ℤ)) (known same : List ℤ) (hints : List ℕ) → SameMembers known same → Chooses clauses known hints → Chooses clauses same hints
chosen_same clauses known same _ members (ends _ i first) = ends same i (first_same (Falsifies known) (Falsifies same) (λ clause. falsifies_same known same clause members) (λ clause. falsifies_same same known clause (members_turned known same members)) clauses i first)
chosen_same clauses known same _ members (goes _ i m later none first unit chosen) = goes same i m later
    (λ j h falsified. none j h (falsifies_same same known (clause_at clauses j) (members_turned known same members) falsified))
    (first_same (Gives known) (Gives same) (λ clause g. (g.0, unit_same known same clause g.0 members g.1)) (λ clause g. (g.0, unit_same same known clause g.0 (members_turned known same members) g.1)) clauses i first)
    (unit_same known same (clause_at clauses i) m members unit)
    (chosen_same clauses (known ++ m ∷ []) (same ++ m ∷ []) later (members_more known same m members) chosen)

-- hints that are found lead on, and are numbers of clauses
numbered_next : (clauses : List (List ℤ)) (i : ℕ) → numbered clauses (i + 1) ≡ clause_at clauses i
numbered_next clauses i = let e : i + 1 - 1 ≡ i = omega arith in ap (clause_at clauses) e

-- whether a literal is in the clause of one of the hints
pub is_used : (clauses : List (List ℤ)) (later : List ℕ) (k : ℤ) → list_any (λ n. has_literal (numbered clauses n) k) later ≡ true → (n : ℕ) × Contains later n × Contains (numbered clauses n) k
is_used clauses later k e = let r = any_of (λ n. has_literal (numbered clauses n) k) later e in (r.0, r.1, has_in (numbered clauses r.0) k r.2)

pub used_is : (clauses : List (List ℤ)) (later : List ℕ) (k : ℤ) (n : ℕ) → Contains later n → Contains (numbered clauses n) k → list_any (λ n. has_literal (numbered clauses n) k) later ≡ true
used_is clauses later k n has in' = of_any (λ n. has_literal (numbered clauses n) k) later n has (in_has (numbered clauses n) k in')

put_leads : (clauses : List (List ℤ)) (known : List ℤ) (hint : ℕ) (m : ℤ) (later : List ℕ) → IsOnlyOpen known (numbered clauses hint) m → Leads clauses (known ++ m ∷ []) later → Leads clauses known (put_before clauses hint m later)
put_leads clauses known hint m later only leads = ⊎_elim
    (λ (e : list_any (λ n. has_literal (numbered clauses n) (neg_ℤ m)) later ≡ true). rw e (leads_put clauses known hint later m only leads))
    (λ (e : list_any (λ n. has_literal (numbered clauses n) (neg_ℤ m)) later ≡ false). rw e (leads_without clauses known (known ++ m ∷ []) m later
    (λ k has. ⊎_elim inl (λ (f : m ≡ k). inr (sym f)) (Contains-push_cases known m k has))
    (pushed known m)
    (λ n has in'. false≢true (sym e ∙ used_is clauses later (neg_ℤ m) n has in'))
    leads))
    (cases_Bool (list_any (λ n. has_literal (numbered clauses n) (neg_ℤ m)) later))

put_numbers : (clauses : List (List ℤ)) (hint : ℕ) (m : ℤ) (later : List ℕ) → (0 < hint) × (hint ≤ length clauses) → AreNumbers (length clauses) later → AreNumbers (length clauses) (put_before clauses hint m later)
put_numbers clauses hint m later here' rest = ⊎_elim
    (λ (e : list_any (λ n. has_literal (numbered clauses n) (neg_ℤ m)) later ≡ true). rw e (All-cons (λ h. (0 < h) × (h ≤ length clauses)) hint later here' rest))
    (λ (e : list_any (λ n. has_literal (numbered clauses n) (neg_ℤ m)) later ≡ false). rw e rest)
    (cases_Bool (list_any (λ n. has_literal (numbered clauses n) (neg_ℤ m)) later))

pub chosen_leads : (clauses : List (List ℤ)) (known : List ℤ) (hints : List ℕ) → Chooses clauses known hints → AreNumbers (length clauses) hints × Leads clauses known hints
chosen_leads clauses known _ (ends _ i first) = (
  All-cons (λ h. (0 < h) × (h ≤ length clauses)) (i + 1) [] (omega arith, omega (arith, first.within)) (All-nil (λ h. (0 < h) × (h ≤ length clauses))),
  rw (numbered_next clauses i) first.here,
)
chosen_leads clauses known _ (goes _ i m later none first unit chosen) =
    let rest = chosen_leads clauses (known ++ m ∷ []) later chosen in
    let P : List ℤ → Type 0 = λ clause. IsOnlyOpen known clause m in (
      put_numbers clauses (i + 1) m later (omega arith, omega (arith, first.within)) rest.0,
      put_leads clauses known (i + 1) m later (subst P (sym (numbered_next clauses i)) unit.only) rest.1,
    )

pub hints_hinted : (clauses : List (List ℤ)) (line : List ℤ) → Follows clauses line → AreNumbers (length clauses) (hints_of clauses line) × IsHinted clauses line (hints_of clauses line)
hints_hinted clauses line follows = chosen_leads clauses (opposites line) (hints_of clauses line) (hints_chosen clauses line follows)

-- a line that doesn't follow has no hints
finds_none : (clauses : List (List ℤ)) (line : List ℤ) → (Follows clauses line → ⊥) → (turns : ℕ) (known : List ℤ) → ((k : ℤ) → Contains known k → Derived clauses line k) → hints_in turns clauses known ≡ []
unfolding hints_in
finds_none clauses line never zero known sound = refl
finds_none clauses line never (suc turns) known sound =
    let unfalsified : IsNone (Falsifies known) clauses = λ j h falsified. never (clause_at clauses j, Contains-clause clauses j (clause_at clauses j) h refl, λ k has. sound (neg_ℤ k) (falsified k has)) in
    let first : first_place (is_falsified known) clauses ≡ None = none_is (Falsifies known) (is_falsified known) (falsified_true known) clauses unfalsified in
    let rest : ℤ → List ℕ = λ u. hints_in turns clauses (known ++ u ∷ []) in
    ⊎_elim {C = hints_in (suc turns) clauses known ≡ []}
    (λ (found : (i : ℕ) × IsFirst (Gives known) clauses i).
    let i = found.0 in
    let m = found.1.here.0 in
    let unit : IsUnit known (clause_at clauses i) m = found.1.here.1 in
    let given : Derived clauses line m = forced m (clause_at clauses i) (Contains-clause clauses i (clause_at clauses i) found.1.within refl) unit.only.has (λ k has ne. sound (neg_ℤ k) (unit.only.others k has ne)) in
    let later : hints_in turns clauses (known ++ m ∷ []) ≡ [] = finds_none clauses line never turns (known ++ m ∷ [])
    (λ k has. ⊎_elim (sound k) (λ (e : m ≡ k). let P : ℤ → Type 0 = Derived clauses line in subst P e given) (Contains-push_cases known m k has)) in
    at_unit clauses known (first_place (is_falsified known) clauses) (first_place (is_unit known) clauses) rest i m [] first
    (first_is (Gives known) (is_unit known) (unit_true known) (gives_unit known) clauses i found.1)
    (open_is known (clause_at clauses i) m unit.only)
    later)
    (λ (settled : IsNone (Gives known) clauses). at_nothing clauses known (first_place (is_falsified known) clauses) (first_place (is_unit known) clauses) rest first (none_is (Gives known) (is_unit known) (unit_true known) clauses settled))
    (find_first (Gives known) (is_unit known) (unit_true known) (gives_unit known) clauses)

pub hints_none : (clauses : List (List ℤ)) (line : List ℤ) → (Follows clauses line → ⊥) → hints_of clauses line ≡ []
unfolding hints_of
hints_none clauses line never = finds_none clauses line never (suc (length (literals_in clauses))) (opposites line) (line_derived clauses line)
