-- How the code judges a node, against the definition.
use Rattle.std.proofs.Common.{◌≡◌, ℕ, zero, suc, ◌+◌, ◌<◌, ◌≤◌, ◌^◌, ℤ, pos, negsuc, neg_ℤ, int_lt, unsigned_abs, List, [], ◌∷◌, ◌++◌, length, map, get_or, reverse, Bool, true, false, if◌then◌else◌, ◌||◌, IsTrue, Option, Some, None, option_map, Result, Ok, Err, IfOk, Vec, refl, sym, ap, ◌∙◌, subst, arith, Contains, All, ⊎_elim}
use Rattle.std.specs.Global.{Global}
use Rattle.std.proofs.Math.IntN.{neg_ℤ-neg_ℤ}
use Rattle.std.proofs.lemmas.List.{length-map, get_or-map}
use Rattle.std.proofs.lemmas.List.Elements.{All-nil, All-cons, All-append, All-contains, Contains-get_or}
use Rattle.kat_linear.specs.Rows.{Form, Term, IsAscending, IsSmall, negated_form}
use Rattle.kat_linear.specs.Widths.{widths}
use Rattle.kat_clause.specs.Clauses.{AreAmong, Derived, Follows, lists, opposites}
use Rattle.kat_clause.specs.Known.{AreUpTo, Known}
use Rattle.kat_clause.specs.Literals.{IsUpTo}
use Rattle.kat_clause.proofs.Laws.{derived_more}
use Rattle.kat_form.specs.Encodings.{Encoding, Sense, form_in, atom_at, IsFitSense, IsBelow, HasLiterals, IsLiteral}
use Rattle.kat_form.specs.Encodings.Sense.{truth, atom, gate}
use Rattle.kat_refute.specs.Lines.{denial_form, denial_forms}
use Rattle.kat_refute.proofs.Atoms.{denials_are_ascending, denials_are_literals}
use Rattle.kat_fm.specs.Eliminations.{Solution, elim_of}
use Rattle.kat_fm.specs.Eliminations.Solution.{met_at, refuted_by, crowded, goes_wide}
use Rattle.kat_fm.specs.Answers.{HasVariablesBelow}
use Rattle.kat_walks.specs.Stands.{Keeps, HasLiteral, IsNodeAt, StandsAt, judgement_of}
use Rattle.kat_walks.specs.Walkable.{HasNarrowNegation, IsWalkable}
use Rattle.kat_walks.specs.Walks.{Bound, blamed, IsClosed, Judgement, Tests, bound_of, bounds_from, by_open, by_solution, by_widths, first_free, first_unset, is_bare, last_bare, later_or, literals_in, opened, rows_in}
use Rattle.kat_walks.specs.Walks.IsNode.{closed, not_closed}
use Rattle.kat_walks.specs.Walks.Judgement.{closes, stops, branches}
use Rattle.kat_walks.specs.declared.walking.Judged.{Judged}
use Rattle.kat_walks.specs.declared.walking.Judged.TheVariants.{Closes, Stops, Branches}
use Rattle.kat_walks.proofs.WalkMembers.{IsWithin, behind, cases_cons, in_map, in_nothing, map_within}
use Rattle.kat_walks.proofs.WalkPaths.{from_reverse, in_reverse, follows_among}

denials_cons : (senses : List Sense) (k : ℤ) (r : Form) (held : List Bound) → denial_form senses (neg_ℤ k) ≡ Some r → denial_forms senses (map neg_ℤ (literals_in held)) ≡ Some (rows_in held)
    → denial_forms senses (map neg_ℤ (literals_in (record { literal = k; row = r } ∷ held))) ≡ Some (rows_in (record { literal = k; row = r } ∷ held))
denials_cons senses k r held e f = rw (e, f) refl

denials_one : (senses : List Sense) (i : ℕ) (form : Form) (a b : Bool) (rest : List Bound) → atom_at senses (suc i) ≡ Some form → denial_forms senses (map neg_ℤ (literals_in rest)) ≡ Some (rows_in rest)
    → let front : List Bound = if a then record { literal = pos (suc i); row = form } ∷ [] else if b then record { literal = negsuc i; row = negated_form form } ∷ [] else [] in
    denial_forms senses (map neg_ℤ (literals_in (front ++ rest))) ≡ Some (rows_in (front ++ rest))
denials_one senses i form true b rest e f = denials_cons senses (pos (suc i)) form rest e f
denials_one senses i form false true rest e f = denials_cons senses (negsuc i) (negated_form form) rest (ap (option_map negated_form) e) f
denials_one senses i form false false rest e f = f

denials_option : (senses : List Sense) (has : ℤ → Bool) (i : ℕ) (o : Option Form) (rest : List Bound) → atom_at senses (suc i) ≡ o → denial_forms senses (map neg_ℤ (literals_in rest)) ≡ Some (rows_in rest)
    → denial_forms senses (map neg_ℤ (literals_in (bound_of has (suc i) o ++ rest))) ≡ Some (rows_in (bound_of has (suc i) o ++ rest))
denials_option senses has i None rest e f = f
denials_option senses has i (Some form) rest e f = denials_one senses i form (has (pos (suc i))) (has (negsuc i)) rest e f

pub held_denials : (senses : List Sense) (has : ℤ → Bool) (i : ℕ) (ss : List Sense) → ((w : ℕ) → atom_at senses (suc (i + w)) ≡ atom_at ss (suc w))
    → denial_forms senses (map neg_ℤ (literals_in (bounds_from has (suc i) ss))) ≡ Some (rows_in (bounds_from has (suc i) ss))
held_denials senses has i [] same = refl
held_denials senses has i (s ∷ ss) same =
    let at : suc (i + 0) ≡ suc i = omega arith in
    denials_option senses has i (form_in s) (bounds_from has (suc (suc i)) ss) (ap (atom_at senses) (sym at) ∙ same 0)
    (held_denials senses has (suc i) ss (λ w. let on : suc (suc i + w) ≡ suc (i + suc w) = omega arith in ap (atom_at senses) on ∙ same (suc w)))

-- the length of the rows is that of the literals
pub literals-length : (held : List Bound) → length (literals_in held) ≡ length (rows_in held)
literals-length [] = refl
literals-length (h ∷ hs) = ap suc (literals-length hs)

-- the rows of held literals are fit for elimination
abbrev pub HasBoth : (Form → Type 0) → Sense → Type 0
HasBoth P (truth v) = Unit {0}
HasBoth P (atom form) = P form × P (negated_form form)
HasBoth P gate = Unit {0}

if_rows : (P : Form → Type 0) (a b : Bool) (k l : ℤ) (form other : Form) → P form → P other → All P (rows_in (if a then record { literal = k; row = form } ∷ [] else if b then record { literal = l; row = other } ∷ [] else []))
if_rows P true b k l form other h g = All-cons P form [] h (All-nil P)
if_rows P false true k l form other h g = All-cons P other [] g (All-nil P)
if_rows P false false k l form other h g = All-nil P

one_rows : (P : Form → Type 0) (has : ℤ → Bool) (v : ℕ) (s : Sense) → HasBoth P s → All P (rows_in (bound_of has v (form_in s)))
one_rows P has v (truth t) h = All-nil P
one_rows P has v (atom form) h = if_rows P (has (pos v)) (has (neg_ℤ (pos v))) (pos v) (neg_ℤ (pos v)) form (negated_form form) h.0 h.1
one_rows P has v gate h = All-nil P

pub map-append : {A B : Type 0} (f : A → B) (xs ys : List A) → map f (xs ++ ys) ≡ map f xs ++ map f ys
map-append f [] ys = refl
map-append f (x ∷ xs) ys = ap (λ zs. f x ∷ zs) (map-append f xs ys)

pub all_rows : (P : Form → Type 0) (has : ℤ → Bool) (v : ℕ) (ss : List Sense) → ((s : Sense) → Contains ss s → HasBoth P s) → All P (rows_in (bounds_from has v ss))
all_rows P has v [] h = All-nil P
all_rows P has v (s ∷ ss) h =
    let Q : List Form → Type 0 = All P in
    subst Q (sym (map-append (λ (x : Bound). x.row) (bound_of has v (form_in s)) (bounds_from has (suc v) ss)))
    (All-append P (rows_in (bound_of has v (form_in s))) (rows_in (bounds_from has (suc v) ss)) (one_rows P has v s (h s (0, omega arith, refl))) (all_rows P has (suc v) ss (λ t in'. h t (suc in'.0, omega (arith, in'.1), in'.2))))

abs_opposite : (x : ℤ) → unsigned_abs (neg_ℤ x) ≡ unsigned_abs x
abs_opposite (pos zero) = refl
abs_opposite (pos (suc n)) = refl
abs_opposite (negsuc n) = refl

negated_coefficients : (n : ℕ) (ts : List Term) → All (λ (t : Term). unsigned_abs t.1 ≤ n) ts → All (λ (t : Term). unsigned_abs t.1 ≤ n) (map (λ (t : Term). (t.0, neg_ℤ t.1)) ts)
negated_coefficients n [] h = All-nil (λ (t : Term). unsigned_abs t.1 ≤ n)
negated_coefficients n (t ∷ ts) h =
    All-cons (λ (u : Term). unsigned_abs u.1 ≤ n) (t.0, neg_ℤ t.1) (map (λ (u : Term). (u.0, neg_ℤ u.1)) ts) (let first = h 0 t (omega arith) in omega (arith, abs_opposite t.1, first)) (negated_coefficients n ts (λ i d below. h (suc i) d (omega arith)))

negated_below : (n : ℕ) (ts : List Term) → All (λ (t : Term). t.0 < n) ts → All (λ (t : Term). t.0 < n) (map (λ (t : Term). (t.0, neg_ℤ t.1)) ts)
negated_below n [] h = All-nil (λ (t : Term). t.0 < n)
negated_below n (t ∷ ts) h =
    All-cons (λ (u : Term). u.0 < n) (t.0, neg_ℤ t.1) (map (λ (u : Term). (u.0, neg_ℤ u.1)) ts) (h 0 t (omega arith)) (negated_below n ts (λ i d below. h (suc i) d (omega arith)))

both_small : (s : Sense) → IsFitSense s → HasNarrowNegation s → HasBoth IsSmall s
both_small (truth v) fit narrow = tt
both_small (atom form) fit narrow = (
  record { coefficients = fit.coefficients; constant = fit.constant },
  record { coefficients = negated_coefficients (2 ^ 126) form.terms fit.coefficients; constant = narrow },
)
both_small gate fit narrow = tt

pub both_below : (n : ℕ) (s : Sense) → IsBelow n s → HasBoth (HasVariablesBelow n) s
both_below n (truth v) below = tt
both_below n (atom form) below = (below, negated_below n form.terms below)
both_below n gate below = tt

pub rows_small : (n : ℕ) (e : Encoding) (has : ℤ → Bool) → IsWalkable n e → All IsSmall (rows_in (bounds_from has 1 e.senses))
rows_small n e has w = all_rows IsSmall has 1 e.senses (λ t in'. both_small t (All-contains IsFitSense e.senses t w.fit.atoms in') (All-contains HasNarrowNegation e.senses t w.narrow in'))

pub rows_below : (n : ℕ) (e : Encoding) (has : ℤ → Bool) → IsWalkable n e → All (HasVariablesBelow n) (rows_in (bounds_from has 1 e.senses))
rows_below n e has w = all_rows (HasVariablesBelow n) has 1 e.senses (λ t in'. both_below n t (All-contains (IsBelow n) e.senses t w.below in'))

denied_rows : (e : Encoding) (has : ℤ → Bool) → denial_forms e.senses (map neg_ℤ (literals_in (bounds_from has 1 e.senses))) ≡ Some (rows_in (bounds_from has 1 e.senses))
denied_rows e has = held_denials e.senses has 0 e.senses (λ w. let at : suc (0 + w) ≡ suc w = omega arith in ap (atom_at e.senses) at)

pub rows_ascending : (n : ℕ) (e : Encoding) (has : ℤ → Bool) → IsWalkable n e → All IsAscending (rows_in (bounds_from has 1 e.senses))
rows_ascending n e has w = denials_are_ascending e.senses w.fit.atoms (map neg_ℤ (literals_in (bounds_from has 1 e.senses))) (rows_in (bounds_from has 1 e.senses)) (denied_rows e has)

-- the held literals are the encoding's
pub held_small : (e : Encoding) (has : ℤ → Bool) → length e.senses ≤ 2 ^ 28 → All (λ k. unsigned_abs k ≤ 2 ^ 28) (literals_in (bounds_from has 1 e.senses))
held_small e has few = λ i d below.
    let k = get_or (literals_in (bounds_from has 1 e.senses)) i d in
    let on : Contains (literals_in (bounds_from has 1 e.senses)) k = Contains-get_or (literals_in (bounds_from has 1 e.senses)) i d below in
    let is : IsLiteral (length e.senses) (neg_ℤ k) = denials_are_literals e.senses (map neg_ℤ (literals_in (bounds_from has 1 e.senses))) (rows_in (bounds_from has 1 e.senses)) (denied_rows e has) (neg_ℤ k) (in_map neg_ℤ (literals_in (bounds_from has 1 e.senses)) k on) in
    omega (arith, is.1, few, abs_opposite k)

-- the literals of a clause that is fit
pub clauses_small : (n : ℕ) (clauses : List (Vec ℤ Global)) → n ≤ 2 ^ 28 → All (HasLiterals n) (lists clauses) → All (λ (c : Vec ℤ Global). All (λ k. unsigned_abs k ≤ 2 ^ 28) c.items) clauses
clauses_small n clauses few all = λ i d below.
    let c = get_or clauses i d in
    let at : get_or (lists clauses) i [] ≡ c.items = get_or-map (λ (v : Vec ℤ Global). v.items) clauses i d [] below in
    let P : List ℤ → Type 0 = HasLiterals n in
    let fit : HasLiterals n c.items = subst P at (all i [] (omega (arith, below, length-map clauses (λ (v : Vec ℤ Global). v.items)))) in
    λ j e low. let is = fit (get_or c.items j e) (Contains-get_or c.items j e low) in omega (arith, is.1, few)

-- the assumed literals and those of the path, last first, are the same
assumed_in_path : (assumed path : List ℤ) → assumed ≡ path → IsWithin assumed (reverse path)
assumed_in_path assumed path is x has = let P : List ℤ → Type 0 = λ xs. Contains xs x in in_reverse path x (subst P is has)

path_in_assumed : (assumed path : List ℤ) → assumed ≡ path → IsWithin (reverse path) assumed
path_in_assumed assumed path is x has = let P : List ℤ → Type 0 = λ xs. Contains xs x in subst P (sym is) (from_reverse path x has)

pub closed_node : (e : Encoding) (n : ℕ) (known : Known) (path : List ℤ) → StandsAt e n known path → Follows known.clauses (opposites known.assumed) → IsNodeAt e n path (closes [])
closed_node e n known path at f = closed (follows_among known.clauses e.clauses known.assumed (reverse path) at.among (assumed_in_path known.assumed path at.assumed) f) refl

pub never_closed : (e : Encoding) (n : ℕ) (known : Known) (path : List ℤ) → StandsAt e n known path → (Follows known.clauses (opposites known.assumed) → ⊥) → IsClosed e.clauses (reverse path) → ⊥
never_closed e n known path at never d = never (follows_among e.clauses known.clauses (reverse path) known.assumed at.all (path_in_assumed known.assumed path at.assumed) d)

pub tests_of : (e : Encoding) (n : ℕ) (known : Known) (path : List ℤ) (has : ℤ → Bool) → StandsAt e n known path → ((k : ℤ) → (IsTrue (has k) → Derived known.clauses (opposites known.assumed) k) × (Derived known.clauses (opposites known.assumed) k → IsTrue (has k))) → Tests e (reverse path) has
tests_of e n known path has at marks k = (
  λ h. derived_more known.clauses e.clauses (opposites known.assumed) (opposites (reverse path)) at.among (map_within neg_ℤ known.assumed (reverse path) (assumed_in_path known.assumed path at.assumed)) k ((marks k).0 h),
  λ d. (marks k).1 (derived_more e.clauses known.clauses (opposites (reverse path)) (opposites known.assumed) at.all (map_within neg_ℤ (reverse path) known.assumed (path_in_assumed known.assumed path at.assumed)) k d),
)

pub node_ok : {E : Type 0} (e : Encoding) (n : ℕ) (path : List ℤ) (has : ℤ → Bool) (r : Result Judged E) → Tests e (reverse path) has → (IsClosed e.clauses (reverse path) → ⊥) → IfOk r (λ j. judgement_of j ≡ opened e n has) → IfOk r (λ j. IsNodeAt e n path (judgement_of j))
node_ok e n path has (Ok j) tests never is = not_closed never has tests is
node_ok e n path has (Err x) tests never is = is

-- the literal of a split is one of the encoding
abbrev IsSomeUpTo : ℕ → Option ℤ → Type 0
IsSomeUpTo n None = Unit {0}
IsSomeUpTo n (Some k) = IsUpTo n k

either_up_to : (n : ℕ) (b : Bool) (x y : Option ℤ) → IsSomeUpTo n x → IsSomeUpTo n y → IsSomeUpTo n (if b then x else y)
either_up_to n true x y h g = h
either_up_to n false x y h g = g

free_up_to : (has : ℤ → Bool) (n : ℕ) (ks : List ℤ) → ((k : ℤ) → Contains ks k → IsUpTo n k) → IsSomeUpTo n (first_free has ks)
free_up_to has n [] all = tt
free_up_to has n (k ∷ ks) all = either_up_to n (has (neg_ℤ k)) (first_free has ks) (Some k) (free_up_to has n ks (λ j h. all j (suc h.0, omega (arith, h.1), h.2))) (all k (0, omega arith, refl))

later_up_to : (n : ℕ) (a b : Option ℤ) → IsSomeUpTo n a → IsSomeUpTo n b → IsSomeUpTo n (later_or a b)
later_up_to n (Some k) b h g = h
later_up_to n None b h g = g

bare_up_to : (has : ℤ → Bool) (n : ℕ) (cs : List (List ℤ)) → ((c : List ℤ) → Contains cs c → (k : ℤ) → Contains c k → IsUpTo n k) → IsSomeUpTo n (last_bare has cs)
bare_up_to has n [] all = tt
bare_up_to has n (c ∷ cs) all =
    later_up_to n (last_bare has cs) (if is_bare has c then first_free has c else None) (bare_up_to has n cs (λ d h. all d (suc h.0, omega (arith, h.1), h.2))) (pick (is_bare has c))
  where
    pick : (b : Bool) → IsSomeUpTo n (if b then first_free has c else None)
    pick true = free_up_to has n c (all c (0, omega arith, refl))
    pick false = tt

unset_up_to : (has : ℤ → Bool) (v n : ℕ) (ss : List Sense) → v + length ss ≤ n + 1 → IsSomeUpTo n (first_unset has v ss)
unset_up_to has v n [] h = tt
unset_up_to has v n (s ∷ ss) h =
    either_up_to n (has (pos v) || has (neg_ℤ (pos v))) (first_unset has (suc v) ss) (Some (pos v)) (unset_up_to has (suc v) n ss (omega (arith, h))) (omega (arith, h))

-- a judgement's literal
abbrev IsSmallJudgement : ℕ → Judgement → Type 0
IsSmallJudgement n (closes own) = Unit {0}
IsSmallJudgement n (stops end) = Unit {0}
IsSmallJudgement n (branches l) = IsUpTo n l

by_open_small : (n : ℕ) (a b : Option ℤ) → IsSomeUpTo n a → IsSomeUpTo n b → IsSmallJudgement n (by_open a b)
by_open_small n a None h g = tt
by_open_small n (Some l) (Some v) h g = h
by_open_small n None (Some v) h g = g

by_widths_small : (n : ℕ) (ks ms : List ℤ) (o : Option (ℤ × ℤ)) → IsSmallJudgement n (by_widths ks ms o)
by_widths_small n ks ms None = tt
by_widths_small n ks ms (Some (left, right)) = tt

by_solution_small : (e : Encoding) (has : ℤ → Bool) (bounds : List Bound) (x : Solution) → ((c : List ℤ) → Contains e.clauses c → (k : ℤ) → Contains c k → IsUpTo (length e.senses) k) → IsSmallJudgement (length e.senses) (by_solution e has bounds x)
by_solution_small e has bounds (met_at den nums) all = by_open_small (length e.senses) (last_bare has e.clauses) (first_unset has 1 e.senses) (bare_up_to has (length e.senses) e.clauses all) (unset_up_to has 1 (length e.senses) e.senses (omega arith))
by_solution_small e has bounds (refuted_by ms) all = by_widths_small (length e.senses) (literals_in bounds) ms (widths (rows_in bounds) ms)
by_solution_small e has bounds (crowded plus minus rest) all = tt
by_solution_small e has bounds (goes_wide left right) all = tt

told_small : (n : ℕ) (j : Judged) → IsSmallJudgement n (judgement_of j) → HasLiteral n j
told_small n (Closes own) h = tt
told_small n (Stops end) h = tt
told_small n (Branches l) h = h

fit_small : (e : Encoding) (n : ℕ) → IsWalkable n e → (c : List ℤ) → Contains e.clauses c → (k : ℤ) → Contains c k → IsUpTo (length e.senses) k
fit_small e n w c among k has = (All-contains (HasLiterals (length e.senses)) e.clauses c w.fit.literals among k has).1

pub literal_ok : {E : Type 0} (e : Encoding) (n : ℕ) (has : ℤ → Bool) (r : Result Judged E) → IsWalkable n e → IfOk r (λ j. judgement_of j ≡ opened e n has) → IfOk r (HasLiteral (length e.senses))
unfolding opened
literal_ok e n has (Ok j) w is =
    let P : Judgement → Type 0 = IsSmallJudgement (length e.senses) in
    told_small (length e.senses) j (subst P (sym is) (by_solution_small e has (bounds_from has 1 e.senses) (elim_of (rows_in (bounds_from has 1 e.senses)) n) (fit_small e n w)))
literal_ok e n has (Err x) w is = is

-- a judgement by the solution
pub solved_as : (e : Encoding) (n : ℕ) (has : ℤ → Bool) (given : List Form) (x : Solution) → given ≡ rows_in (bounds_from has 1 e.senses) → elim_of given n ≡ x → opened e n has ≡ by_solution e has (bounds_from has 1 e.senses) x
unfolding opened
solved_as e n has given x is e' = ap (λ r. by_solution e has (bounds_from has 1 e.senses) (elim_of r n)) (sym is) ∙ ap (by_solution e has (bounds_from has 1 e.senses)) e'

pub ok_along : {E : Type 0} (r : Result Judged E) (a b : Judgement) → a ≡ b → IfOk r (λ j. judgement_of j ≡ a) → IfOk r (λ j. judgement_of j ≡ b)
ok_along r a b e h = let P : Judgement → Type 0 = λ x. IfOk r (λ j. judgement_of j ≡ x) in subst P e h

-- only the settled mark changes
pub settled_stands : (e : Encoding) (n : ℕ) (known new : Known) (path : List ℤ) (b : Bool) → StandsAt e n known path → new ≡ record known { settled = b } → StandsAt e n new path
settled_stands e n known new path b at is = let P : Known → Type 0 = λ k. StandsAt e n k path in subst P (sym is) (record { walkable = at.walkable; greatest = at.greatest; among = at.among; all = at.all; assumed = at.assumed; up_to = at.up_to })

-- a literal that is blamed is of an atom
if_from : (b : Bool) (k x : ℤ) (rest ks : List ℤ) → (Contains rest x → Contains ks (neg_ℤ x)) → Contains (if b then neg_ℤ k ∷ rest else rest) x → Contains (k ∷ ks) (neg_ℤ x)
if_from true k x rest ks back has = ⊎_elim
    (λ (e : neg_ℤ k ≡ x). (0, omega arith, sym (neg_ℤ-neg_ℤ k) ∙ ap neg_ℤ e))
    (λ (later : Contains rest x). behind k (neg_ℤ x) ks (back later))
    (cases_cons (neg_ℤ k) x rest has)
if_from false k x rest ks back has = behind k (neg_ℤ x) ks (back has)

blamed_from : (ks ms : List ℤ) (x : ℤ) → Contains (blamed ks ms) x → Contains ks (neg_ℤ x)
blamed_from [] ms x has = absurd (in_nothing x has)
blamed_from (k ∷ ks) [] x has = absurd (in_nothing x has)
blamed_from (k ∷ ks) (m ∷ ms) x has = if_from (int_lt (pos 0) m) k x (blamed ks ms) ks (blamed_from ks ms x) has

blamed_small : (e : Encoding) (has : ℤ → Bool) (ms : List ℤ) → AreUpTo (length e.senses) (blamed (literals_in (bounds_from has 1 e.senses)) ms)
blamed_small e has ms k on =
    let lits = literals_in (bounds_from has 1 e.senses) in
    let Q : ℤ → Type 0 = Contains (map neg_ℤ lits) in
    let there : Contains (map neg_ℤ lits) k = subst Q (neg_ℤ-neg_ℤ k) (in_map neg_ℤ lits (neg_ℤ k) (blamed_from lits ms k on)) in
    (denials_are_literals e.senses (map neg_ℤ lits) (rows_in (bounds_from has 1 e.senses)) (denied_rows e has) k there).1

widths_clause : (e : Encoding) (has : ℤ → Bool) (ms clause : List ℤ) (o : Option (ℤ × ℤ)) → closes (clause ∷ []) ≡ by_widths (literals_in (bounds_from has 1 e.senses)) ms o → AreUpTo (length e.senses) clause
widths_clause e has ms clause None is =
    let same : blamed (literals_in (bounds_from has 1 e.senses)) ms ≡ clause = cc in
    let P : List ℤ → Type 0 = AreUpTo (length e.senses) in subst P same (blamed_small e has ms)
widths_clause e has ms clause (Some (left, right)) is = absurd (cc)

open_clause : (clause : List ℤ) (a b : Option ℤ) → closes (clause ∷ []) ≡ by_open a b → ⊥
open_clause clause a None is = cc
open_clause clause (Some l) (Some v) is = cc
open_clause clause None (Some v) is = cc

solution_clause : (e : Encoding) (has : ℤ → Bool) (clause : List ℤ) (x : Solution) → closes (clause ∷ []) ≡ by_solution e has (bounds_from has 1 e.senses) x → AreUpTo (length e.senses) clause
solution_clause e has clause (met_at den nums) is = absurd (open_clause clause (last_bare has e.clauses) (first_unset has 1 e.senses) is)
solution_clause e has clause (refuted_by ms) is = widths_clause e has ms clause (widths (rows_in (bounds_from has 1 e.senses)) ms) is
solution_clause e has clause (crowded plus minus rest) is = absurd (cc)
solution_clause e has clause (goes_wide left right) is = absurd (cc)

pub own_up_to : (e : Encoding) (n : ℕ) (path clause : List ℤ) → IsNodeAt e n path (closes (clause ∷ [])) → AreUpTo (length e.senses) clause
unfolding opened
own_up_to e n path clause (closed d is) = absurd (cc)
own_up_to e n path clause (not_closed never has tests is) = solution_clause e has clause (elim_of (rows_in (bounds_from has 1 e.senses)) n) is

-- the path is assumed again
pub again_stands : (e : Encoding) (n : ℕ) (old new : Known) (path : List ℤ) → StandsAt e n old path → new.clauses ≡ old.clauses → new.greatest ≡ old.greatest → new.assumed ≡ path → StandsAt e n new path
again_stands e n old new path at clauses greatest assumed =
    let P : List (List ℤ) → Type 0 = λ cs. AreAmong cs e.clauses in
    let Q : List (List ℤ) → Type 0 = AreAmong e.clauses in
    let R : ℕ → Type 0 = λ g. AreUpTo g path in
    record {
      walkable = at.walkable;
      greatest = greatest ∙ at.greatest;
      among = subst P (sym clauses) at.among;
      all = subst Q (sym clauses) at.all;
      assumed = assumed;
      up_to = subst R (sym greatest) at.up_to;
    }

pub ok_always : {X E : Type 0} (r : Result X E) (P : Type 0) → P → IfOk r (λ x. P)
ok_always (Ok x) P h = h
ok_always (Err e) P h = tt

-- nothing is assumed at first
pub first_stands : (e : Encoding) (n : ℕ) (known : Known) → IsWalkable n e → Keeps e known → known.assumed ≡ [] → StandsAt e n known []
first_stands e n known w keeps none = record {
  walkable = w;
  greatest = keeps.greatest;
  among = keeps.among;
  all = keeps.all;
  assumed = none;
  up_to = λ k has. absurd (in_nothing k has);
}
