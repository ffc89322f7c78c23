-- What a node that is judged a leaf has: its path's opposites follow, and its own line is accepted.
use Rattle.std.proofs.Common.{◌≡◌, ℕ, suc, ◌+◌, ℤ, pos, negsuc, neg_ℤ, List, [], ◌∷◌, ◌++◌, length, map, Bool, true, false, if◌then◌else◌, ⊎_elim, refl, sym, ap, ◌∙◌, subst, arith, Contains, Option, Some, None, option_map}
use Rattle.std.proofs.Math.IntN.{neg_ℤ-neg_ℤ}
use Rattle.std.proofs.lemmas.List.Elements.{Contains-append_left, Contains-append_right, Contains-append_cases}
use Rattle.kat_linear.specs.Rows.{Form, negated_form}
use Rattle.kat_clause.specs.Clauses.{Derived}
use Rattle.kat_form.specs.Encodings.{Encoding, Sense, atom_at, form_in, IsLiteral}
use Rattle.kat_refute.specs.Lines.{Line, literals_of, added, denial_form, denial_forms, IsLinear}
use Rattle.kat_refute.proofs.Atoms.{denials_are_literals}
use Rattle.kat_fm.specs.Eliminations.{Solution}
use Rattle.kat_fm.specs.Eliminations.Solution.{met_at, refuted_by, crowded, goes_wide}
use Rattle.kat_cases.specs.Nodes.{Setting, End, Held, IsTable, IsJudged, denies, judged, judged_solution, judged_open, judged_width, held_of, held_from, held_in, literals, rows, used_literals, used_multipliers, last_unmet, lowest_open, truths_from}
use Rattle.kat_cases.specs.Nodes.IsJudged.{falsified, not_falsified}
use Rattle.kat_refute.specs.Lines.Line.{linear}
use Rattle.kat_cases.specs.Nodes.End.{at_point}
use Rattle.kat_cases.specs.Nodes.Judgement.{leaf}
use Rattle.kat_cases.specs.Walks.{own}
use Rattle.kat_cases.specs.Laws.{IsSound}
use Rattle.kat_resolution.proofs.Members.{here, cases_cons, in_nothing}
use Rattle.kat_cases.proofs.Members.{in_map, derived_more, denies_more}
use Rattle.kat_cases.proofs.Used.{used_linear, used_from}

-- no clause of a leaf with its own line, or of an open node, is falsified; a leaf without a line has a falsified one
open_is_no_leaf : (a : Option ℤ) (end : End) (b : Option ℤ) (line : Option Line) → judged_open a end b ≡ leaf line → ⊥
open_is_no_leaf a end None line e = cc
open_is_no_leaf None end (Some v) line e = cc
open_is_no_leaf (Some l) end (Some v) line e = cc

width_has_line : (lits ms : List ℤ) (w : Option (ℤ × ℤ)) → judged_width lits ms w ≡ leaf None → ⊥
width_has_line lits ms None e = cc
width_has_line lits ms (Some (left, right)) e = cc

solution_has_line : (s : Setting) (has : ℤ → Bool) (held : List Held) (x : Solution) → judged_solution s has held x ≡ leaf None → ⊥
solution_has_line s has held (met_at den nums) e = open_is_no_leaf (last_unmet has s.encoding.clauses) (at_point den nums (truths_from has 1 s.encoding.senses)) (lowest_open has 1 s.encoding.senses) None e
solution_has_line s has held (refuted_by ms) e = width_has_line (literals held) ms (s.wide (rows held) ms) e
solution_has_line s has held (crowded a b c) e = cc
solution_has_line s has held (goes_wide a b) e = cc

-- the multipliers of a leaf's own line
pub record IsOwn (s : Setting) (held : List Held) (x : Solution) (line : Line) : Type 0 where
  pub multipliers : List ℤ
  pub given : x ≡ refuted_by multipliers
  pub narrow' : s.wide (rows held) multipliers ≡ None
  pub is : line ≡ linear (used_literals (literals held) multipliers) (used_multipliers multipliers)

own_width : (s : Setting) (held : List Held) (ms : List ℤ) (line : Line) (w : Option (ℤ × ℤ)) → s.wide (rows held) ms ≡ w → judged_width (literals held) ms w ≡ leaf (Some line) → IsOwn s held (refuted_by ms) line
own_width s held ms line None f e = record { multipliers = ms; given = refl; narrow' = f; is = cc }
own_width s held ms line (Some (left, right)) f e = absurd (cc)

pub own_line : (s : Setting) (has : ℤ → Bool) (held : List Held) (x : Solution) (line : Line) → judged_solution s has held x ≡ leaf (Some line) → IsOwn s held x line
own_line s has held (met_at den nums) line e = absurd (open_is_no_leaf (last_unmet has s.encoding.clauses) (at_point den nums (truths_from has 1 s.encoding.senses)) (lowest_open has 1 s.encoding.senses) (Some line) e)
own_line s has held (refuted_by ms) line e = own_width s held ms line (s.wide (rows held) ms) refl e
own_line s has held (crowded a b c) line e = absurd (cc)
own_line s has held (goes_wide a b) line e = absurd (cc)

-- held literals are known
held_one : (has : ℤ → Bool) (i : ℕ) (form : Form) (a b : Bool) → a ≡ has (pos (suc i)) → b ≡ has (negsuc i) → (k : ℤ)
    → Contains (literals (if a then record { literal = pos (suc i); row = form } ∷ [] else if b then record { literal = negsuc i; row = negated_form form } ∷ [] else [])) k → has k ≡ true
held_one has i form true b e f k h = ⊎_elim (λ (is : pos (suc i) ≡ k). ap has (sym is) ∙ sym e) (λ (h' : Contains [] k). absurd (in_nothing k h')) (cases_cons (pos (suc i)) k [] h)
held_one has i form false true e f k h = ⊎_elim (λ (is : negsuc i ≡ k). ap has (sym is) ∙ sym f) (λ (h' : Contains [] k). absurd (in_nothing k h')) (cases_cons (negsuc i) k [] h)
held_one has i form false false e f k h = absurd (in_nothing k h)

held_option : (has : ℤ → Bool) (i : ℕ) (o : Option Form) (k : ℤ) → Contains (literals (held_of has (suc i) o)) k → has k ≡ true
held_option has i None k h = absurd (in_nothing k h)
held_option has i (Some form) k h = held_one has i form (has (pos (suc i))) (has (negsuc i)) refl refl k h

literals-append : (a b : List Held) → literals (a ++ b) ≡ literals a ++ literals b
literals-append [] b = refl
literals-append (x ∷ xs) b = ap (λ ks. x.literal ∷ ks) (literals-append xs b)

held_known : (has : ℤ → Bool) (i : ℕ) (ss : List Sense) (k : ℤ) → Contains (literals (held_from has (suc i) ss)) k → has k ≡ true
held_known has i [] k h = absurd (in_nothing k h)
held_known has i (s ∷ ss) k h =
    let P : List ℤ → Type 0 = λ ks. Contains ks k in
    ⊎_elim
    (held_option has i (form_in s) k)
    (held_known has (suc i) ss k)
    (Contains-append_cases (literals (held_of has (suc i) (form_in s))) (literals (held_from has (suc (suc i)) ss)) k (subst P (literals-append (held_of has (suc i) (form_in s)) (held_from has (suc (suc i)) ss)) h))

-- the rows of held literals are their opposites' denials

denials_cons : (senses : List Sense) (k : ℤ) (r : Form) (held : List Held) → denial_form senses (neg_ℤ k) ≡ Some r → denial_forms senses (map neg_ℤ (literals held)) ≡ Some (rows held)
    → denial_forms senses (map neg_ℤ (literals (record { literal = k; row = r } ∷ held))) ≡ Some (rows (record { literal = k; row = r } ∷ held))
denials_cons senses k r held e f = rw (e, f) refl

denials_one : (senses : List Sense) (i : ℕ) (form : Form) (a b : Bool) (rest : List Held) → atom_at senses (suc i) ≡ Some form → denial_forms senses (map neg_ℤ (literals rest)) ≡ Some (rows rest)
    → let front : List Held = if a then record { literal = pos (suc i); row = form } ∷ [] else if b then record { literal = negsuc i; row = negated_form form } ∷ [] else [] in
    denial_forms senses (map neg_ℤ (literals (front ++ rest))) ≡ Some (rows (front ++ rest))
denials_one senses i form true b rest e f = denials_cons senses (pos (suc i)) form rest e f
denials_one senses i form false true rest e f = denials_cons senses (negsuc i) (negated_form form) rest (ap (option_map negated_form) e) f
denials_one senses i form false false rest e f = f

denials_option : (senses : List Sense) (has : ℤ → Bool) (i : ℕ) (o : Option Form) (rest : List Held) → atom_at senses (suc i) ≡ o → denial_forms senses (map neg_ℤ (literals rest)) ≡ Some (rows rest)
    → denial_forms senses (map neg_ℤ (literals (held_of has (suc i) o ++ rest))) ≡ Some (rows (held_of has (suc i) o ++ rest))
denials_option senses has i None rest e f = f
denials_option senses has i (Some form) rest e f = denials_one senses i form (has (pos (suc i))) (has (negsuc i)) rest e f

pub held_denials : (senses : List Sense) (has : ℤ → Bool) (i : ℕ) (ss : List Sense) → ((w : ℕ) → atom_at senses (suc (i + w)) ≡ atom_at ss (suc w))
    → denial_forms senses (map neg_ℤ (literals (held_from has (suc i) ss))) ≡ Some (rows (held_from has (suc i) ss))
held_denials senses has i [] same = refl
held_denials senses has i (s ∷ ss) same =
    let at : suc (i + 0) ≡ suc i = omega arith in
    denials_option senses has i (form_in s) (held_from has (suc (suc i)) ss) (ap (atom_at senses) (sym at) ∙ same 0)
    (held_denials senses has (suc i) ss (λ w. let on : suc (suc i + w) ≡ suc (i + suc w) = omega arith in ap (atom_at senses) on ∙ same (suc w)))

-- the length of the rows is that of the literals
pub literals-length : (held : List Held) → length (literals held) ≡ length (rows held)
literals-length [] = refl
literals-length (h ∷ hs) = ap suc (literals-length hs)

-- the clauses of a leaf
abbrev pub leaf_clauses : Encoding → Option Line → List (List ℤ)
leaf_clauses e line = e.clauses ++ added (own line)

more_denies : (s : Setting) (path : List ℤ) → denies s.encoding.clauses path → denies (leaf_clauses s.encoding None) path
more_denies s path d = denies_more s.encoding.clauses (s.encoding.clauses ++ []) path path (λ c h. Contains-append_left s.encoding.clauses [] c h) (λ x h. h) d

pub leaf_none : (s : Setting) (path : List ℤ) → IsJudged s path (leaf None) → denies (leaf_clauses s.encoding None) path
unfolding judged
leaf_none s path (falsified d e) = more_denies s path d
leaf_none s path (not_falsified never has table e) = absurd (solution_has_line s has (held_in s has) (s.solve (rows (held_in s has))) (sym e))

leaf_open : (s : Setting) → IsSound s → (path : List ℤ) (line : Line) (has : ℤ → Bool) → IsTable s.encoding path has → leaf (Some line) ≡ judged s has
    → denies (leaf_clauses s.encoding (Some line)) path × ((lits ms : List ℤ) × (line ≡ linear lits ms) × IsLinear s.encoding.senses lits ms)
unfolding judged
leaf_open s sound path line has table e' =
    let held = held_in s has in
    let o : IsOwn s held (s.solve (rows held)) line = own_line s has held (s.solve (rows held)) line (sym e') in
    let senses = s.encoding.senses in
    let ms = o.multipliers in
    let used = used_literals (literals held) ms in
    let e : denial_forms senses (map neg_ℤ (literals held)) ≡ Some (rows held) = held_denials senses has 0 senses (λ w. let at : suc (0 + w) ≡ suc w = omega arith in ap (atom_at senses) at) in
    let shown = sound (map neg_ℤ (literals held)) (rows held) ms e o.given o.narrow' in
    let sizes : length (literals held) ≡ length ms = literals-length held ∙ shown.0 in
    let clauses = s.encoding.clauses ++ literals_of line ∷ [] in
    let lits : literals_of line ≡ used = ap literals_of o.is in
    let P : List ℤ → Type 0 = λ ks. Contains clauses ks in
    let among : Contains clauses used = subst P lits (Contains-append_right s.encoding.clauses (literals_of line ∷ []) (literals_of line) (here (literals_of line) [])) in
    let all : (x : ℤ) → Contains used x → Derived clauses (map neg_ℤ path) (neg_ℤ x) = λ x h.
    derived_more s.encoding.clauses clauses (map neg_ℤ path) (map neg_ℤ path) (λ c in'. Contains-append_left s.encoding.clauses (literals_of line ∷ []) c in') (λ y in'. in') (neg_ℤ x)
    ((table (neg_ℤ x)).0 (held_known has 0 senses (neg_ℤ x) (used_from (literals held) ms x h))) in
    ((used, among, all), (used, used_multipliers ms, o.is, used_linear senses (literals held) (rows held) ms e sizes shown.1 shown.2 shown.3))

line_apart : (line : Line) → leaf (Some line) ≡ leaf None → ⊥
line_apart line e = cc

pub leaf_some : (s : Setting) → IsSound s → (path : List ℤ) (line : Line) → IsJudged s path (leaf (Some line))
    → denies (leaf_clauses s.encoding (Some line)) path × ((lits ms : List ℤ) × (line ≡ linear lits ms) × IsLinear s.encoding.senses lits ms)
leaf_some s sound path line (falsified d e) = absurd (line_apart line e)
leaf_some s sound path line (not_falsified never has table e) = leaf_open s sound path line has table e

own_literals : (s : Setting) (held : List Held) (x : Solution) (line : Line) → denial_forms s.encoding.senses (map neg_ℤ (literals held)) ≡ Some (rows held) → IsOwn s held x line → (k : ℤ) → Contains (literals_of line) k → IsLiteral (length s.encoding.senses) k
own_literals s held x line e o k has =
    let P : List ℤ → Type 0 = λ ks. Contains ks k in
    let used : Contains (used_literals (literals held) o.multipliers) k = subst P (ap literals_of o.is) has in
    let Q : ℤ → Type 0 = Contains (map neg_ℤ (literals held)) in
    let on : Contains (map neg_ℤ (literals held)) k = subst Q (neg_ℤ-neg_ℤ k) (in_map neg_ℤ (literals held) (neg_ℤ k) (used_from (literals held) o.multipliers k used)) in
    denials_are_literals s.encoding.senses (map neg_ℤ (literals held)) (rows held) e k on

-- a leaf's own line has literals of the encoding
pub leaf_literals : (s : Setting) (path : List ℤ) (line : Line) → IsJudged s path (leaf (Some line)) → (k : ℤ) → Contains (literals_of line) k → IsLiteral (length s.encoding.senses) k
unfolding judged
leaf_literals s path line (falsified d e) = absurd (line_apart line e)
leaf_literals s path line (not_falsified never has table e) =
    let held = held_in s has in
    own_literals s held (s.solve (rows held)) line (held_denials s.encoding.senses has 0 s.encoding.senses (λ w. let at : suc (0 + w) ≡ suc w = omega arith in ap (atom_at s.encoding.senses) at)) (own_line s has held (s.solve (rows held)) line (sym e))
