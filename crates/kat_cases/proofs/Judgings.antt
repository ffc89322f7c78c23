-- How the code judges a node, against the definition.
use Rattle.std.proofs.Common.{◌≡◌, ℕ, zero, suc, ◌+◌, ◌<◌, ◌≤◌, ◌^◌, ℤ, pos, negsuc, neg_ℤ, unsigned_abs, List, [], ◌∷◌, ◌++◌, length, map, get_or, reverse, Bool, true, false, if◌then◌else◌, IsTrue, Option, Some, None, Result, Ok, Err, IfOk, Vec, refl, sym, ap, ◌∙◌, subst, arith, Contains, All}
use Rattle.std.specs.Prelude.{IfSome}
use Rattle.std.specs.Global.{Global}
use Rattle.std.proofs.lemmas.List.{length-map, get_or-map}
use Rattle.std.proofs.lemmas.List.Elements.{All-nil, All-cons, All-append, All-contains, All-weaker, Contains-get_or}
use Rattle.kat_linear.specs.Rows.{Form, Term, IsAscending, IsMet, IsSmall, negated_form}
use Rattle.kat_clause.specs.Clauses.{Derived, Follows, opposites, lists}
use Rattle.kat_clause.specs.Known.{Known}
use Rattle.kat_watch.specs.Watched.{AreLiterals}
use Rattle.kat_clause.proofs.Laws.{derived_more}
use Rattle.kat_form.specs.Encodings.{Sense, encoding, form_in, atom_at, IsFitSense, IsBelow, HasLiterals, IsLiteral}
use Rattle.kat_form.specs.Encodings.Sense.{truth, atom, gate}
use Rattle.kat_refute.specs.Lines.{Line, literals_of, denial_forms}
use Rattle.kat_refute.proofs.Atoms.{denials_are_ascending, denials_are_literals}
use Rattle.kat_fm.specs.Eliminations.{Solution}
use Rattle.kat_fm.specs.Eliminations.Solution.{met_at}
use Rattle.kat_fm.specs.Answers.{HasVariablesBelow}
use Rattle.kat_form.specs.declared.Encoded.{Encoded}
use Rattle.kat_potential.specs.Differences.{IsDifference, IsMetApart, values_over}
use Rattle.kat_potential.proofs.Ends.{differences_end_at_points}
use Rattle.kat_cases.specs.declared.judging.Judged.{Judged}
use Rattle.kat_cases.specs.declared.judging.Kept.{Kept}
use Rattle.kat_cases.specs.Nodes.{Setting, End, Held, Judgement, IsTable, IsJudged, denies, judged, judged_open, judged_solution, held_of, held_from, held_in, last_unmet, literals, lowest_open, rows, truths_from}
use Rattle.kat_cases.specs.Nodes.End.{at_point}
use Rattle.kat_cases.specs.Nodes.IsJudged.{falsified, not_falsified}
use Rattle.kat_cases.specs.Nodes.Judgement.{leaf, splits}
use Rattle.kat_cases.specs.Walks.{own}
use Rattle.kat_cases.specs.Settings.{HasNarrowNegation, IsWalkable, setting_of}
use Rattle.kat_cases.specs.Stacks.{judgement_of, Keeps, GivesPoint, Recalls}
use Rattle.kat_cases.proofs.Members.{in_map, map_within}
use Rattle.kat_cases.proofs.Paths.{in_reverse, from_reverse, follows_among}
use Rattle.kat_cases.proofs.Leaves.{held_denials, leaf_literals}

-- a node with a falsified clause
pub judged_falsified : (s : Setting) (known : Known) → Keeps s.encoding known → Follows known.clauses (opposites known.assumed) → IsJudged s (reverse known.assumed) (leaf None)
judged_falsified s known keeps f = falsified (follows_among known.clauses s.encoding.clauses known.assumed (reverse known.assumed) keeps.among (in_reverse known.assumed) f) refl

-- the marks are a table of the known literals
pub is_table : (s : Setting) (known : Known) (has : ℤ → Bool) → Keeps s.encoding known → ((k : ℤ) → (IsTrue (has k) → Derived known.clauses (opposites known.assumed) k) × (Derived known.clauses (opposites known.assumed) k → IsTrue (has k))) → IsTable s.encoding (reverse known.assumed) has
is_table s known has keeps marks k = (
  λ h. derived_more known.clauses s.encoding.clauses (opposites known.assumed) (opposites (reverse known.assumed)) keeps.among (map_within neg_ℤ known.assumed (reverse known.assumed) (in_reverse known.assumed)) k ((marks k).0 h),
  λ d. (marks k).1 (derived_more s.encoding.clauses known.clauses (opposites (reverse known.assumed)) (opposites known.assumed) keeps.all (map_within neg_ℤ (reverse known.assumed) known.assumed (from_reverse known.assumed)) k d),
)

pub judged_ok : {E : Type 0} (s : Setting) (path : List ℤ) (has : ℤ → Bool) (r : Result Judged E) → IsTable s.encoding path has → (denies s.encoding.clauses path → ⊥) → IfOk r (λ j. judgement_of j ≡ judged s has) → IfOk r (λ j. IsJudged s path (judgement_of j))
judged_ok s path has (Ok j) table never e = not_falsified never has table e
judged_ok s path has (Err x) table never e = e

-- none is falsified, said of the encoding
pub never_denies : (s : Setting) (known : Known) → Keeps s.encoding known → (Follows known.clauses (opposites known.assumed) → ⊥) → denies s.encoding.clauses (reverse known.assumed) → ⊥
never_denies s known keeps never d = never (follows_among s.encoding.clauses known.clauses (reverse known.assumed) known.assumed keeps.all (from_reverse known.assumed) d)

-- a judgement by the solution
pub judged_by : (s : Setting) (has : ℤ → Bool) (x : Solution) → s.solve (rows (held_in s has)) ≡ x → judged s has ≡ judged_solution s has (held_in s has) x
unfolding judged
judged_by s has x e = ap (judged_solution s has (held_in s has)) e

pub ok_along : {E : Type 0} (r : Result Judged E) (a b : Judgement) → a ≡ b → IfOk r (λ j. judgement_of j ≡ a) → IfOk r (λ j. judgement_of j ≡ b)
ok_along r a b e h = let P : Judgement → Type 0 = λ x. IfOk r (λ j. judgement_of j ≡ x) in subst P e h

-- the rows of held literals are fit for elimination
abbrev pub HasBoth : (Form → Type 0) → Sense → Type 0
HasBoth P (truth v) = Unit {0}
HasBoth P (atom form) = P form × P (negated_form form)
HasBoth P gate = Unit {0}

if_rows : (P : Form → Type 0) (a b : Bool) (k l : ℤ) (form other : Form) → P form → P other → All P (rows (if a then record { literal = k; row = form } ∷ [] else if b then record { literal = l; row = other } ∷ [] else []))
if_rows P true b k l form other h g = All-cons P form [] h (All-nil P)
if_rows P false true k l form other h g = All-cons P other [] g (All-nil P)
if_rows P false false k l form other h g = All-nil P

one_rows : (P : Form → Type 0) (has : ℤ → Bool) (v : ℕ) (s : Sense) → HasBoth P s → All P (rows (held_of has v (form_in s)))
one_rows P has v (truth t) h = All-nil P
one_rows P has v (atom form) h = if_rows P (has (pos v)) (has (neg_ℤ (pos v))) (pos v) (neg_ℤ (pos v)) form (negated_form form) h.0 h.1
one_rows P has v gate h = All-nil P

pub map-append : {A B : Type 0} (f : A → B) (xs ys : List A) → map f (xs ++ ys) ≡ map f xs ++ map f ys
map-append f [] ys = refl
map-append f (x ∷ xs) ys = ap (λ zs. f x ∷ zs) (map-append f xs ys)

pub all_rows : (P : Form → Type 0) (has : ℤ → Bool) (v : ℕ) (ss : List Sense) → ((s : Sense) → Contains ss s → HasBoth P s) → All P (rows (held_from has v ss))
all_rows P has v [] h = All-nil P
all_rows P has v (s ∷ ss) h =
    let Q : List Form → Type 0 = All P in
    subst Q (sym (map-append (λ (x : Held). x.row) (held_of has v (form_in s)) (held_from has (suc v) ss)))
    (All-append P (rows (held_of has v (form_in s))) (rows (held_from has (suc v) ss)) (one_rows P has v s (h s (0, omega arith, refl))) (all_rows P has (suc v) ss (λ t in'. h t (suc in'.0, omega (arith, in'.1), in'.2))))

abs_opposite : (x : ℤ) → unsigned_abs (neg_ℤ x) ≡ unsigned_abs x
abs_opposite (pos zero) = refl
abs_opposite (pos (suc n)) = refl
abs_opposite (negsuc n) = refl

negated_coefficients : (n : ℕ) (ts : List Term) → All (λ (t : Term). unsigned_abs t.1 ≤ n) ts → All (λ (t : Term). unsigned_abs t.1 ≤ n) (map (λ (t : Term). (t.0, neg_ℤ t.1)) ts)
negated_coefficients n [] h = All-nil (λ (t : Term). unsigned_abs t.1 ≤ n)
negated_coefficients n (t ∷ ts) h =
    All-cons (λ (u : Term). unsigned_abs u.1 ≤ n) (t.0, neg_ℤ t.1) (map (λ (u : Term). (u.0, neg_ℤ u.1)) ts) (let first = h 0 t (omega arith) in omega (arith, abs_opposite t.1, first)) (negated_coefficients n ts (λ i d below. h (suc i) d (omega arith)))

negated_below : (n : ℕ) (ts : List Term) → All (λ (t : Term). t.0 < n) ts → All (λ (t : Term). t.0 < n) (map (λ (t : Term). (t.0, neg_ℤ t.1)) ts)
negated_below n [] h = All-nil (λ (t : Term). t.0 < n)
negated_below n (t ∷ ts) h =
    All-cons (λ (u : Term). u.0 < n) (t.0, neg_ℤ t.1) (map (λ (u : Term). (u.0, neg_ℤ u.1)) ts) (h 0 t (omega arith)) (negated_below n ts (λ i d below. h (suc i) d (omega arith)))

both_small : (s : Sense) → IsFitSense s → HasNarrowNegation s → HasBoth IsSmall s
both_small (truth v) fit narrow = tt
both_small (atom form) fit narrow = (
  record { coefficients = fit.coefficients; constant = fit.constant },
  record { coefficients = negated_coefficients (2 ^ 126) form.terms fit.coefficients; constant = narrow },
)
both_small gate fit narrow = tt

pub both_below : (n : ℕ) (s : Sense) → IsBelow n s → HasBoth (HasVariablesBelow n) s
both_below n (truth v) below = tt
both_below n (atom form) below = (below, negated_below n form.terms below)
both_below n gate below = tt

pub rows_small : (n : ℕ) (s : Setting) (has : ℤ → Bool) → IsWalkable n s.encoding → All IsSmall (rows (held_in s has))
rows_small n s has w = all_rows IsSmall has 1 s.encoding.senses (λ t in'. both_small t (All-contains IsFitSense s.encoding.senses t w.fit.atoms in') (All-contains HasNarrowNegation s.encoding.senses t w.narrow in'))

pub rows_below : (n : ℕ) (s : Setting) (has : ℤ → Bool) → IsWalkable n s.encoding → All (HasVariablesBelow n) (rows (held_in s has))
rows_below n s has w = all_rows (HasVariablesBelow n) has 1 s.encoding.senses (λ t in'. both_below n t (All-contains (IsBelow n) s.encoding.senses t w.below in'))

denied_rows : (s : Setting) (has : ℤ → Bool) → denial_forms s.encoding.senses (map neg_ℤ (literals (held_in s has))) ≡ Some (rows (held_in s has))
denied_rows s has = held_denials s.encoding.senses has 0 s.encoding.senses (λ w. let at : suc (0 + w) ≡ suc w = omega arith in ap (atom_at s.encoding.senses) at)

pub rows_ascending : (n : ℕ) (s : Setting) (has : ℤ → Bool) → IsWalkable n s.encoding → All IsAscending (rows (held_in s has))
rows_ascending n s has w = denials_are_ascending s.encoding.senses w.fit.atoms (map neg_ℤ (literals (held_in s has))) (rows (held_in s has)) (denied_rows s has)

-- the held literals are the encoding's
pub held_small : (s : Setting) (has : ℤ → Bool) → length s.encoding.senses ≤ 2 ^ 28 → All (λ k. unsigned_abs k ≤ 2 ^ 28) (literals (held_in s has))
held_small s has few = λ i d below.
    let k = get_or (literals (held_in s has)) i d in
    let on : Contains (literals (held_in s has)) k = Contains-get_or (literals (held_in s has)) i d below in
    let is : IsLiteral (length s.encoding.senses) (neg_ℤ k) = denials_are_literals s.encoding.senses (map neg_ℤ (literals (held_in s has))) (rows (held_in s has)) (denied_rows s has) (neg_ℤ k) (in_map neg_ℤ (literals (held_in s has)) k on) in
    omega (arith, is.1, few, abs_opposite k)

-- the literals of a clause that is fit
pub clauses_small : (n : ℕ) (clauses : List (Vec ℤ Global)) → n ≤ 2 ^ 28 → All (HasLiterals n) (lists clauses) → All (λ (c : Vec ℤ Global). All (λ k. unsigned_abs k ≤ 2 ^ 28) c.items) clauses
clauses_small n clauses few all = λ i d below.
    let c = get_or clauses i d in
    let at : get_or (lists clauses) i [] ≡ c.items = get_or-map (λ (v : Vec ℤ Global). v.items) clauses i d [] below in
    let P : List ℤ → Type 0 = HasLiterals n in
    let fit : HasLiterals n c.items = subst P at (all i [] (omega (arith, below, length-map clauses (λ (v : Vec ℤ Global). v.items)))) in
    λ j e low. let is = fit (get_or c.items j e) (Contains-get_or c.items j e low) in omega (arith, is.1, few)

-- a leaf's own line has literals of the encoding
pub line_literals : (s : Setting) (path : List ℤ) (line : Option Line) (g : ℕ) → g ≡ length s.encoding.senses → IsJudged s path (leaf line) → All (λ l. AreLiterals g (literals_of l)) (own line)
line_literals s path None g e j = All-nil (λ l. AreLiterals g (literals_of l))
line_literals s path (Some line) g e j =
    All-cons (λ l. AreLiterals g (literals_of l)) line [] (λ k has. let is = leaf_literals s path line j k has in (is.0, omega (arith, is.1, e))) (All-nil (λ l. AreLiterals g (literals_of l)))

pub solved_as : (s : Setting) (has : ℤ → Bool) (given : List Form) (x : Solution) → given ≡ rows (held_in s has) → s.solve given ≡ x → judged s has ≡ judged_solution s has (held_in s has) x
solved_as s has given x is e = judged_by s has x (ap s.solve (sym is) ∙ e)

-- the rows of the same literals have the same point
pub gives_point : (s : Setting) (has : ℤ → Bool) (lits : List ℤ) (given : List Form) (den : ℤ) (nums : List ℤ) → lits ≡ literals (held_in s has) → given ≡ rows (held_in s has) → s.solve given ≡ met_at den nums → GivesPoint s lits den nums
gives_point s has lits given den nums e is solved forms denied =
    let same : Some forms ≡ Some (rows (held_in s has)) = sym denied ∙ ap (λ ls. denial_forms s.encoding.senses (map neg_ℤ ls)) e ∙ denied_rows s has in
    ap s.solve (some_same forms (rows (held_in s has)) same ∙ sym is) ∙ solved
  where
    some_same : (a b : List Form) → Some a ≡ Some b → a ≡ b
    some_same a b h = cc

pub judged_again : (s : Setting) (has : ℤ → Bool) (last : Option Kept) (kept : Kept) → Recalls s last → last ≡ Some kept → kept.literals.items ≡ literals (held_in s has) → judged s has ≡ judged_solution s has (held_in s has) (met_at kept.den kept.nums.items)
judged_again s has last kept h e same =
    let gives : GivesPoint s kept.literals.items kept.den kept.nums.items = subst (Recalls s) e h in
    judged_by s has (met_at kept.den kept.nums.items) (gives (rows (held_in s has)) (ap (λ ls. denial_forms s.encoding.senses (map neg_ℤ ls)) same ∙ denied_rows s has))

-- a node splits, if its rows are differences in few variables that some values meet, and a variable is open
pub splits_at_values : (e : Encoded) (has : ℤ → Bool) (values : List ℤ) (l : ℤ) → e.numbers ≤ 60 → IsWalkable e.numbers (encoding e) → All (IsMetApart e.numbers values) (rows (held_from has 1 (encoding e).senses))
    → ((end : End) → judged_open (last_unmet has (encoding e).clauses) end (lowest_open has 1 (encoding e).senses) ≡ splits l) → splits l ≡ judged (setting_of e) has
splits_at_values e has values l few walkable all on =
    let s = setting_of e in
    let given = rows (held_in (setting_of e) has) in
    let P : Form → Type 0 = IsMetApart e.numbers values in
    let found = differences_end_at_points given e.numbers few (rows_below e.numbers s has walkable)
    (All-weaker P (IsDifference e.numbers) (λ form h. h.0) given all) (values_over values e.numbers) (All-weaker P (IsMet 1 (values_over values e.numbers)) (λ form h. h.1) given all) in
    sym (judged_by s has (met_at found.0 found.1) found.2 ∙ on (at_point found.0 found.1 (truths_from has 1 (encoding e).senses)))

pub split_at : (e : Encoded) (has : ℤ → Bool) (values : List ℤ) (o : Option ℤ) → e.numbers ≤ 60 → IsWalkable e.numbers (encoding e) → All (IsMetApart e.numbers values) (rows (held_from has 1 (encoding e).senses))
    → IfSome o (λ l. (end : End) → judged_open (last_unmet has (encoding e).clauses) end (lowest_open has 1 (encoding e).senses) ≡ splits l) → IfSome o (λ l. splits l ≡ judged (setting_of e) has)
split_at e has values None few walkable all on = tt
split_at e has values (Some l) few walkable all on = splits_at_values e has values l few walkable all on
