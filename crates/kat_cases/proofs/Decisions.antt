-- A walk that ends at a point ends at one that decides the encoding.
use Rattle.std.proofs.Common.{◌≡◌, ℕ, zero, suc, ◌+◌, ◌<◌, ◌≤◌, ℤ, pos, negsuc, neg_ℤ, unsigned_abs, List, [], ◌∷◌, ◌++◌, length, get_or, Bool, true, false, not, ◌||◌, if◌then◌else◌, Option, Some, None, refl, sym, ap, ◌∙◌, subst, arith, Contains, ◌⊎◌, inl, inr, ⊎_elim}
use Rattle.std.proofs.lemmas.Bool.{cases_Bool, false≢true}
use Rattle.std.proofs.lemmas.List.Elements.{All-contains, Contains-append_left, Contains-append_right, Contains-get_or}
use Rattle.kat_linear.specs.Rows.{Form, IsMet, negated_form}
use Rattle.kat_clause.specs.Valuations.{literal_value, IsTrueClause}
use Rattle.kat_form.specs.Encodings.{encoding, Sense, form_in, atom_at, IsFit, IsLiteral, HasLiterals}
use Rattle.kat_form.specs.declared.Encoded.{Encoded}
use Rattle.kat_refute.specs.Laws.{ReadsAtomsAt}
use Rattle.kat_fm.specs.Eliminations.{Solution}
use Rattle.kat_fm.specs.Eliminations.Solution.{met_at, refuted_by, crowded, goes_wide}
use Rattle.kat_fm.specs.Laws.{IsPoint}
use Rattle.kat_fm.proofs.PointsMeet.{points_meet}
use Rattle.kat_cases.specs.Nodes.{Setting, End, Held, IsTable, IsJudged, denies, judged, judged_solution, judged_open, judged_width, held_of, held_from, held_in, literals, rows, last_unmet, lowest_open, truths_from, is_truth_sense}
use Rattle.kat_cases.specs.Nodes.End.{spent, at_point}
use Rattle.kat_cases.specs.Nodes.IsJudged.{falsified, not_falsified}
use Rattle.kat_cases.specs.Nodes.Judgement.{leaf, ends}
use Rattle.kat_cases.specs.Walks.{Walks, Answer, WalkGives}
use Rattle.kat_cases.specs.Walks.Outcome.{ended}
use Rattle.kat_cases.specs.Walks.Answer.{refuted, stopped}
use Rattle.kat_cases.specs.Walks.Walks.{ends_here, is_spent, first_ends, second_ends}
use Rattle.kat_cases.specs.Points.{IsDecisive, IfPoint}
use Rattle.kat_cases.specs.Settings.{setting_of, IsWalkable}
use Rattle.kat_resolution.proofs.Members.{here, behind, cases_cons, in_nothing}
use Rattle.kat_cases.proofs.Judgings.{map-append, rows_below}

-- an end is that of some node, or the leaves are used up
pub record EndsAt (s : Setting) (end : End) : Type 0 where
  pub path : List ℤ
  pub judged' : IsJudged s path (ends end)

pub end_at : {s : Setting} {path : List ℤ} {left : ℕ} {end : End} → Walks s path left (ended end) → EndsAt s end ⊎ (end ≡ spent)
end_at (ends_here {path = p} j) = inl (record { path = p; judged' = j })
end_at (is_spent j) = inr refl
end_at (first_ends j w) = end_at w
end_at (second_ends j u h w) = end_at w

-- what a node's judgement says if it is a point
record PointAt (s : Setting) (has : ℤ → Bool) (den : ℤ) (nums : List ℤ) (truths : List Bool) : Type 0 where
  pub solved : s.solve (rows (held_in s has)) ≡ met_at den nums
  pub whole : lowest_open has 1 s.encoding.senses ≡ None
  pub told : truths ≡ truths_from has 1 s.encoding.senses

same_point : (a b : ℤ) (c d : List ℤ) (e f : List Bool) → ends (at_point a c e) ≡ ends (at_point b d f) → (a ≡ b) × (c ≡ d) × (e ≡ f)
same_point a b c d e f h = (cc, cc, cc)

open_point : (s : Setting) (has : ℤ → Bool) (den d : ℤ) (nums ns : List ℤ) (truths : List Bool) (chosen lowest : Option ℤ) → lowest_open has 1 s.encoding.senses ≡ lowest → s.solve (rows (held_in s has)) ≡ met_at d ns
    → ends (at_point den nums truths) ≡ judged_open chosen (at_point d ns (truths_from has 1 s.encoding.senses)) lowest → PointAt s has den nums truths
open_point s has den d nums ns truths chosen None e f h =
    let same = same_point den d nums ns truths (truths_from has 1 s.encoding.senses) h in
    record { solved = f ∙ ap (λ x. met_at x ns) (sym same.0) ∙ ap (met_at den) (sym same.1); whole = e; told = same.2 }
open_point s has den d nums ns truths (Some l) (Some v) e f h = absurd (cc)
open_point s has den d nums ns truths None (Some v) e f h = absurd (cc)

width_point : (den : ℤ) (nums : List ℤ) (truths : List Bool) (lits ms : List ℤ) (w : Option (ℤ × ℤ)) → ends (at_point den nums truths) ≡ judged_width lits ms w → ⊥
width_point den nums truths lits ms None e = cc
width_point den nums truths lits ms (Some (a, b)) e = cc

solution_point : (s : Setting) (has : ℤ → Bool) (den : ℤ) (nums : List ℤ) (truths : List Bool) (x : Solution) → s.solve (rows (held_in s has)) ≡ x → ends (at_point den nums truths) ≡ judged_solution s has (held_in s has) x → PointAt s has den nums truths
solution_point s has den nums truths (met_at d ns) e h = open_point s has den d nums ns truths (last_unmet has s.encoding.clauses) (lowest_open has 1 s.encoding.senses) refl e h
solution_point s has den nums truths (refuted_by ms) e h = absurd (width_point den nums truths (literals (held_in s has)) ms (s.wide (rows (held_in s has)) ms) h)
solution_point s has den nums truths (crowded a b c) e h = absurd (cc)
solution_point s has den nums truths (goes_wide a b) e h = absurd (cc)

-- every variable has a known literal
decided_pick : (b : Bool) (rest : Option ℤ) (v : ℕ) → (if b then rest else Some (pos v)) ≡ None → (b ≡ true) × (rest ≡ None)
decided_pick true rest v e = (refl, e)
decided_pick false rest v e = absurd (cc)

decided_at : (has : ℤ → Bool) (v : ℕ) (ss : List Sense) → lowest_open has v ss ≡ None → (w : ℕ) → w < length ss → (has (pos (v + w)) || has (neg_ℤ (pos (v + w)))) ≡ true
decided_at has v [] e w h = absurd (omega arith)
decided_at has v (s ∷ ss) e zero h =
    let at : v + 0 ≡ v = omega arith in
    let P : ℕ → Type 0 = λ n. (has (pos n) || has (neg_ℤ (pos n))) ≡ true in
    subst P (sym at) (decided_pick (has (pos v) || has (neg_ℤ (pos v))) (lowest_open has (suc v) ss) v e).0
decided_at has v (s ∷ ss) e (suc w) h =
    let on : suc v + w ≡ v + suc w = omega arith in
    let P : ℕ → Type 0 = λ n. (has (pos n) || has (neg_ℤ (pos n))) ≡ true in
    subst P on (decided_at has (suc v) ss (decided_pick (has (pos v) || has (neg_ℤ (pos v))) (lowest_open has (suc v) ss) v e).1 w (omega arith))

-- a clause that isn't falsified has a literal whose opposite isn't known
some_open : (has : ℤ → Bool) (c : List ℤ) → ((k : ℤ) × Contains c k × (has (neg_ℤ k) ≡ false)) ⊎ ((k : ℤ) → Contains c k → has (neg_ℤ k) ≡ true)
some_open has [] = inr (λ k in'. absurd (in_nothing k in'))
some_open has (x ∷ xs) = ⊎_elim
    (λ (on : has (neg_ℤ x) ≡ true). ⊎_elim
    (λ (found : (k : ℤ) × Contains xs k × (has (neg_ℤ k) ≡ false)). inl (found.0, behind x found.0 xs found.1, found.2))
    (λ (all : (k : ℤ) → Contains xs k → has (neg_ℤ k) ≡ true). inr (λ k in'. ⊎_elim
    (λ (e : x ≡ k). let P : ℤ → Type 0 = λ y. has (neg_ℤ y) ≡ true in subst P e on)
    (λ (later : Contains xs k). all k later)
    (cases_cons x k xs in')))
    (some_open has xs))
    (λ (off : has (neg_ℤ x) ≡ false). inl (x, here x xs, off))
    (cases_Bool (has (neg_ℤ x)))

-- the values of the variables: that of a known literal
abbrev values_by : (ℤ → Bool) → ℕ → Bool
values_by has v = has (pos v)

or_false : (a b : Bool) → (a || b) ≡ true → b ≡ false → a ≡ true
or_false true b h e = refl
or_false false b h e = absurd (false≢true (sym e ∙ h))

or_other : (a b : Bool) → (a || b) ≡ true → a ≡ false → b ≡ true
or_other true b h e = absurd (false≢true (sym e))
or_other false b h e = h

known_at : (has : ℤ → Bool) (ss : List Sense) → lowest_open has 1 ss ≡ None → (n : ℕ) → 0 < n → n ≤ length ss → (has (pos n) || has (neg_ℤ (pos n))) ≡ true
known_at has ss e zero low high = absurd (omega arith)
known_at has ss e (suc w) low high =
    let at : 1 + w ≡ suc w = omega arith in
    let P : ℕ → Type 0 = λ n. (has (pos n) || has (neg_ℤ (pos n))) ≡ true in
    subst P at (decided_at has 1 ss e w (omega arith))

true_literal : (has : ℤ → Bool) (ss : List Sense) → lowest_open has 1 ss ≡ None → (k : ℤ) → IsLiteral (length ss) k → has (neg_ℤ k) ≡ false → literal_value (values_by has) k ≡ true
true_literal has ss e (pos n) is off = or_false (has (pos n)) (has (neg_ℤ (pos n))) (known_at has ss e n is.0 is.1) off
true_literal has ss e (negsuc n) is off = ap not off

true_clause : (s : Setting) (path : List ℤ) (has : ℤ → Bool) → IsTable s.encoding path has → (denies s.encoding.clauses path → ⊥) → lowest_open has 1 s.encoding.senses ≡ None → (c : List ℤ) → Contains s.encoding.clauses c → HasLiterals (length s.encoding.senses) c → IsTrueClause (values_by has) c
true_clause s path has table never whole c among fit = ⊎_elim
    (λ (found : (k : ℤ) × Contains c k × (has (neg_ℤ k) ≡ false)). (found.0, found.1, true_literal has s.encoding.senses whole found.0 (fit found.0 found.1) found.2))
    (λ (all : (k : ℤ) → Contains c k → has (neg_ℤ k) ≡ true). absurd (never (c, among, λ k in'. (table (neg_ℤ k)).0 (all k in'))))
    (some_open has c)

-- the rows of known literals are among the held ones
row_first : (a b : Bool) (k l : ℤ) (form other : Form) → a ≡ true → Contains (rows (if a then record { literal = k; row = form } ∷ [] else if b then record { literal = l; row = other } ∷ [] else [])) form
row_first true b k l form other e = here form []
row_first false b k l form other e = absurd (false≢true e)

row_second : (a b : Bool) (k l : ℤ) (form other : Form) → a ≡ false → b ≡ true → Contains (rows (if a then record { literal = k; row = form } ∷ [] else if b then record { literal = l; row = other } ∷ [] else [])) other
row_second true b k l form other e f = absurd (false≢true (sym e))
row_second false true k l form other e f = here other []
row_second false false k l form other e f = absurd (false≢true f)

-- a held row of the variable: the form if it is true, and its negation if it is false
abbrev pub HoldsRow : (ℤ → Bool) → ℕ → Form → List Held → Type 0
HoldsRow has n form held = (has (pos n) ≡ true → Contains (rows held) form) × (has (pos n) ≡ false → has (neg_ℤ (pos n)) ≡ true → Contains (rows held) (negated_form form))

of_one : (has : ℤ → Bool) (v : ℕ) (o : Option Form) (form : Form) → o ≡ Some form → HoldsRow has v form (held_of has v o)
of_one has v None form e = absurd (cc)
of_one has v (Some f) form e =
    let is : f ≡ form = some_form f form e in
    let P : Form → Type 0 = λ x. HoldsRow has v x (held_of has v (Some f)) in
    subst P is (
      λ on. row_first (has (pos v)) (has (neg_ℤ (pos v))) (pos v) (neg_ℤ (pos v)) f (negated_form f) on,
      λ off other. row_second (has (pos v)) (has (neg_ℤ (pos v))) (pos v) (neg_ℤ (pos v)) f (negated_form f) off other,
    )
  where
    some_form : (a b : Form) → Some a ≡ Some b → a ≡ b
    some_form a b g = cc

in_front : (xs ys : List Held) (form : Form) → Contains (rows xs) form → Contains (rows (xs ++ ys)) form
in_front xs ys form h = let P : List Form → Type 0 = λ fs. Contains fs form in subst P (sym (map-append (λ (x : Held). x.row) xs ys)) (Contains-append_left (rows xs) (rows ys) form h)

in_back : (xs ys : List Held) (form : Form) → Contains (rows ys) form → Contains (rows (xs ++ ys)) form
in_back xs ys form h = let P : List Form → Type 0 = λ fs. Contains fs form in subst P (sym (map-append (λ (x : Held). x.row) xs ys)) (Contains-append_right (rows xs) (rows ys) form h)

holds_row : (has : ℤ → Bool) (v : ℕ) (ss : List Sense) (w : ℕ) (form : Form) → atom_at ss (suc w) ≡ Some form → HoldsRow has (v + w) form (held_from has v ss)
holds_row has v [] w form e = absurd (cc)
holds_row has v (s ∷ ss) zero form e =
    let at : v + 0 ≡ v = omega arith in
    let P : ℕ → Type 0 = λ n. HoldsRow has n form (held_of has v (form_in s) ++ held_from has (suc v) ss) in
    let one = of_one has v (form_in s) form e in
    subst P (sym at) (λ on. in_front (held_of has v (form_in s)) (held_from has (suc v) ss) form (one.0 on), λ off other. in_front (held_of has v (form_in s)) (held_from has (suc v) ss) (negated_form form) (one.1 off other))
holds_row has v (s ∷ ss) (suc w) form e =
    let on' : suc v + w ≡ v + suc w = omega arith in
    let P : ℕ → Type 0 = λ n. HoldsRow has n form (held_of has v (form_in s) ++ held_from has (suc v) ss) in
    let rest = holds_row has (suc v) ss w form e in
    subst P on' (λ on. in_back (held_of has v (form_in s)) (held_from has (suc v) ss) form (rest.0 on), λ off other. in_back (held_of has v (form_in s)) (held_from has (suc v) ss) (negated_form form) (rest.1 off other))

atom_within : (ss : List Sense) (w : ℕ) (form : Form) → atom_at ss (suc w) ≡ Some form → w < length ss
atom_within [] w form e = absurd (cc)
atom_within (s ∷ ss) zero form e = omega arith
atom_within (s ∷ ss) (suc w) form e = let h = atom_within ss w form e in omega (arith, h)

-- each atom's form is met if its variable is true, and its negation if it is false
reads : (s : Setting) (has : ℤ → Bool) (numbers : ℕ) (den : ℤ) (nums : List ℤ) → lowest_open has 1 s.encoding.senses ≡ None → IsPoint (rows (held_in s has)) numbers den nums → ReadsAtomsAt (values_by has) (unsigned_abs den) (λ v. get_or nums v (pos 0)) s.encoding.senses
reads s has numbers den nums whole point zero form e = absurd (cc)
reads s has numbers den nums whole point (suc w) form e =
    let P : Form → Type 0 = IsMet (unsigned_abs den) (λ v. get_or nums v (pos 0)) in
    let at : 1 + w ≡ suc w = omega arith in
    let Q : ℕ → Type 0 = λ n. HoldsRow has n form (held_in s has) in
    let row : HoldsRow has (suc w) form (held_in s has) = subst Q at (holds_row has 1 s.encoding.senses w form e) in
    let within : w < length s.encoding.senses = atom_within s.encoding.senses w form e in
    let known = known_at has s.encoding.senses whole (suc w) (omega arith) (omega (arith, within)) in (
      λ on. All-contains P (rows (held_in s has)) form point.met (row.0 on),
      λ off. All-contains P (rows (held_in s has)) (negated_form form) point.met (row.1 off (or_other (has (pos (suc w))) (has (neg_ℤ (pos (suc w)))) known off)),
    )

-- the truth values are those of the variables
told_same : (has : ℤ → Bool) (v : ℕ) (ss : List Sense) → truths_from has v ss ≡ truths_from (literal_value (values_by has)) v ss
told_same has v [] = refl
told_same has v (s ∷ ss) = pick (is_truth_sense s) (told_same has (suc v) ss)
  where
    pick : (b : Bool) → truths_from has (suc v) ss ≡ truths_from (literal_value (values_by has)) (suc v) ss → (if b then has (pos v) ∷ truths_from has (suc v) ss else truths_from has (suc v) ss) ≡ (if b then has (pos v) ∷ truths_from (literal_value (values_by has)) (suc v) ss else truths_from (literal_value (values_by has)) (suc v) ss)
    pick true e = ap (λ xs. has (pos v) ∷ xs) e
    pick false e = e

decisive_at : (s : Setting) (numbers : ℕ) (path : List ℤ) (has : ℤ → Bool) (den : ℤ) (nums : List ℤ) (truths : List Bool) → IsFit s.encoding → IsTable s.encoding path has → (denies s.encoding.clauses path → ⊥) → PointAt s has den nums truths → IsPoint (rows (held_in s has)) numbers den nums → IsDecisive s.encoding numbers den nums truths
decisive_at s numbers path has den nums truths fit table never at point = record {
  positive = point.above;
  count = point.count;
  den_narrow = point.small;
  nums_narrow = point.nums_small;
  values = values_by has;
  told = at.told ∙ told_same has 1 s.encoding.senses;
  atoms = reads s has numbers den nums at.whole point;
  clauses = λ i d below. true_clause s path has table never at.whole (get_or s.encoding.clauses i d) (Contains-get_or s.encoding.clauses i d below) (fit.literals i d below);
}

end_apart : (den : ℤ) (nums : List ℤ) (truths : List Bool) → ends (at_point den nums truths) ≡ leaf None → ⊥
end_apart den nums truths e = cc

point_spent : (den : ℤ) (nums : List ℤ) (truths : List Bool) → at_point den nums truths ≡ spent → ⊥
point_spent den nums truths e = cc

pub judged_decisive : (e : Encoded) → IsWalkable e.numbers (encoding e) → (path : List ℤ) (den : ℤ) (nums : List ℤ) (truths : List Bool) → IsJudged (setting_of e) path (ends (at_point den nums truths)) → IsDecisive (encoding e) e.numbers den nums truths
unfolding judged
judged_decisive e w path den nums truths (falsified d h) = absurd (end_apart den nums truths h)
judged_decisive e w path den nums truths (not_falsified never has table h) =
    let s = setting_of e in
    let at : PointAt (setting_of e) has den nums truths = solution_point s has den nums truths (s.solve (rows (held_in s has))) refl h in
    decisive_at s e.numbers path has den nums truths w.fit table never at (points_meet (rows (held_in s has)) e.numbers den nums (rows_below e.numbers s has w) at.solved)

pub point_is : (e : Encoded) → IsWalkable e.numbers (encoding e) → (effort : ℕ) (d : Answer) → WalkGives (setting_of e) effort d → IfPoint d (IsDecisive (encoding e) e.numbers)
point_is e w effort (refuted lines) h = tt
point_is e w effort (stopped end) h = by_end end h
  where
    by_end : (end : End) → Walks (setting_of e) [] effort (ended end) → IfPoint (stopped end) (IsDecisive (encoding e) e.numbers)
    by_end spent h' = tt
    by_end (at_point den nums truths) h' = ⊎_elim
        (λ (at : EndsAt (setting_of e) (at_point den nums truths)). judged_decisive e w at.path den nums truths at.judged')
        (λ (is : at_point den nums truths ≡ spent). absurd (point_spent den nums truths is))
        (end_at h')
    by_end _ h' = tt
