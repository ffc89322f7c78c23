-- The lines of a walk are accepted.
use Rattle.std.proofs.Common.{◌≡◌, ℕ, zero, suc, ◌+◌, ◌<◌, ◌≤◌, ℤ, pos, negsuc, neg_ℤ, unsigned_abs, List, [], ◌∷◌, ◌++◌, length, map, get_or, Bool, true, false, ◌||◌, if◌then◌else◌, ◌⊎◌, inl, inr, ⊎_elim, refl, sym, ap, ◌∙◌, subst, arith, Contains, Option, Some, None, append_assoc}
use Rattle.std.proofs.Math.IntN.{neg_ℤ-neg_ℤ}
use Rattle.std.proofs.lemmas.List.Elements.{All-contains, Contains-get_or, Contains-append_left, Contains-append_right, Contains-append_cases}
use Rattle.kat_form.specs.Encodings.{Encoding, Sense, IsLiteral, HasLiterals, IsFit}
use Rattle.kat_fm.specs.Eliminations.{Solution}
use Rattle.kat_fm.specs.Eliminations.Solution.{met_at, refuted_by, crowded, goes_wide}
use Rattle.kat_cases.specs.Nodes.{Setting, End, Held, IsTable, IsJudged, denies, judged, judged_solution, judged_open, judged_width, held_in, literals, rows, is_unmet, first_open, last_unmet, lowest_open, or_else, truths_from}
use Rattle.kat_cases.specs.Nodes.IsJudged.{falsified, not_falsified}
use Rattle.kat_refute.specs.Lines.Line.{rup}
use Rattle.kat_cases.specs.Nodes.End.{at_point}
use Rattle.kat_cases.specs.Nodes.Judgement.{leaf, splits}
use Rattle.kat_refute.specs.Lines.{Line, literals_of, IsAcceptedLine}
use Rattle.kat_cases.specs.Walks.{Shrinks, own, core_line, ascending, has_literal, joined, Walks}
use Rattle.kat_cases.specs.Walks.Outcome.{core}
use Rattle.kat_cases.specs.Walks.Walks.{is_leaf, first_serves, second_serves, both}
use Rattle.kat_cases.specs.Laws.{IsSound}
use Rattle.kat_resolution.proofs.Members.{IsWithin, here, behind, cases_cons, in_nothing, filter_within}
use Rattle.kat_cases.proofs.Members.{ascending_has, ascending_from, opposites_back, follows_more, denies_more, has_in}
use Rattle.kat_cases.proofs.LeafCores.{shrinks_within, shrinks_denies, without, resolved}
use Rattle.kat_cases.proofs.Leaves.{leaf_clauses, leaf_none, leaf_some}

-- the literal that a node splits on is one of the encoding's
pub first_open_is : (has : ℤ → Bool) (c : List ℤ) (l : ℤ) → first_open has c ≡ Some l → Contains c l
first_open_is has [] l e = absurd (cc)
first_open_is has (k ∷ ks) l e = pick (has (neg_ℤ k)) e (first_open_is has ks l)
  where
    pick : (b : Bool) → (if b then first_open has ks else Some k) ≡ Some l → (first_open has ks ≡ Some l → Contains ks l) → Contains (k ∷ ks) l
    pick true f on = behind k l ks (on f)
    pick false f on = (0, omega arith, some_int k l f)
      where
        some_int : (a b : ℤ) → Some a ≡ Some b → a ≡ b
        some_int a b g = cc

last_unmet_is : (has : ℤ → Bool) (cs : List (List ℤ)) (l : ℤ) → last_unmet has cs ≡ Some l → (c : List ℤ) × Contains cs c × Contains c l
last_unmet_is has [] l e = absurd (cc)
last_unmet_is has (c ∷ cs) l e = pick (last_unmet has cs) (is_unmet has c) e (last_unmet_is has cs l)
  where
    pick : (o : Option ℤ) (b : Bool) → or_else o (if b then first_open has c else None) ≡ Some l → (o ≡ Some l → (d : List ℤ) × Contains cs d × Contains d l) → (d : List ℤ) × Contains (c ∷ cs) d × Contains d l
    pick (Some k) b f on = let r = on f in (r.0, behind c r.0 cs r.1, r.2)
    pick None true f on = (c, here c cs, first_open_is has c l f)
    pick None false f on = absurd (cc)

lowest_open_is : (has : ℤ → Bool) (v : ℕ) (ss : List Sense) (l : ℤ) → lowest_open has v ss ≡ Some l → (n : ℕ) × (v ≤ n) × (n < v + length ss) × (l ≡ pos n)
lowest_open_is has v [] l e = absurd (cc)
lowest_open_is has v (s ∷ ss) l e = pick (has (pos v) || has (neg_ℤ (pos v))) e (lowest_open_is has (suc v) ss l)
  where
    pick : (b : Bool) → (if b then lowest_open has (suc v) ss else Some (pos v)) ≡ Some l → (lowest_open has (suc v) ss ≡ Some l → (n : ℕ) × (suc v ≤ n) × (n < suc v + length ss) × (l ≡ pos n)) → (n : ℕ) × (v ≤ n) × (n < v + suc (length ss)) × (l ≡ pos n)
    pick true f on = let r = on f in (r.0, omega (arith, r.1), omega (arith, r.2), r.3)
    pick false f on = (v, omega arith, omega arith, cc)

-- what a split's judgement says
open_splits : (a : Option ℤ) (end : End) (b : Option ℤ) (l : ℤ) → judged_open a end b ≡ splits l → (a ≡ Some l) ⊎ (b ≡ Some l)
open_splits a end None l e = absurd (cc)
open_splits (Some k) end (Some v) l e = inl (cc)
open_splits None end (Some v) l e = inr (cc)

width_splits : (lits ms : List ℤ) (w : Option (ℤ × ℤ)) (l : ℤ) → judged_width lits ms w ≡ splits l → ⊥
width_splits lits ms None l e = cc
width_splits lits ms (Some (a, b)) l e = cc

pub solution_splits : (s : Setting) (has : ℤ → Bool) (held : List Held) (x : Solution) (l : ℤ) → judged_solution s has held x ≡ splits l → (last_unmet has s.encoding.clauses ≡ Some l) ⊎ (lowest_open has 1 s.encoding.senses ≡ Some l)
solution_splits s has held (met_at den nums) l e = open_splits (last_unmet has s.encoding.clauses) (at_point den nums (truths_from has 1 s.encoding.senses)) (lowest_open has 1 s.encoding.senses) l e
solution_splits s has held (refuted_by ms) l e = absurd (width_splits (literals held) ms (s.wide (rows held) ms) l e)
solution_splits s has held (crowded a b c) l e = absurd (cc)
solution_splits s has held (goes_wide a b) l e = absurd (cc)

-- how the literal of a split is chosen
pub record IsSplit (s : Setting) (path : List ℤ) (l : ℤ) : Type 0 where
  pub has : ℤ → Bool
  pub table : IsTable s.encoding path has
  pub choice : (last_unmet has s.encoding.clauses ≡ Some l) ⊎ (lowest_open has 1 s.encoding.senses ≡ Some l)

split_apart : (l : ℤ) → splits l ≡ leaf None → ⊥
split_apart l e = cc

pub split_of : (s : Setting) (path : List ℤ) (l : ℤ) → IsJudged s path (splits l) → IsSplit s path l
unfolding judged
split_of s path l (falsified d e) = absurd (split_apart l e)
split_of s path l (not_falsified never has table e) = record { has = has; table = table; choice = solution_splits s has (held_in s has) (s.solve (rows (held_in s has))) l (sym e) }

pub split_is_literal : (s : Setting) → IsFit s.encoding → (path : List ℤ) (l : ℤ) → IsJudged s path (splits l) → IsLiteral (length s.encoding.senses) l
split_is_literal s fit path l judged' =
    let j : IsSplit s path l = split_of s path l judged' in
    let n = length s.encoding.senses in
    ⊎_elim
    (λ (e : last_unmet j.has s.encoding.clauses ≡ Some l).
    let r = last_unmet_is j.has s.encoding.clauses l e in
    All-contains (HasLiterals n) s.encoding.clauses r.0 fit.literals r.1 l r.2)
    (λ (e : lowest_open j.has 1 s.encoding.senses ≡ Some l).
    let r = lowest_open_is j.has 1 s.encoding.senses l e in
    let P : ℤ → Type 0 = IsLiteral n in
    subst P (sym r.3) (omega (arith, r.1), omega (arith, r.2)))
    j.choice

abs_opposite : (x : ℤ) → unsigned_abs (neg_ℤ x) ≡ unsigned_abs x
abs_opposite (pos zero) = refl
abs_opposite (pos (suc n)) = refl
abs_opposite (negsuc n) = refl

opposite_literal : (n : ℕ) (x : ℤ) → IsLiteral n (neg_ℤ x) → IsLiteral n x
opposite_literal n x h = let e : unsigned_abs (neg_ℤ x) ≡ unsigned_abs x = abs_opposite x in (omega (arith, h.0, e), omega (arith, h.1, e))

-- the path's literals are the encoding's
abbrev pub AreLiterals : Encoding → List ℤ → Type 0
AreLiterals e path = (k : ℤ) → Contains path k → IsLiteral (length e.senses) k

pub literals_more : (e : Encoding) (path : List ℤ) (l : ℤ) → AreLiterals e path → IsLiteral (length e.senses) l → AreLiterals e (l ∷ path)
literals_more e path l all this k has = ⊎_elim
    (λ (same : l ≡ k). let P : ℤ → Type 0 = IsLiteral (length e.senses) in subst P same this)
    (λ (later : Contains path k). all k later)
    (cases_cons l k path has)

-- the line of a core's opposites is accepted
core_accepted : (e : Encoding) (clauses : List (List ℤ)) (path c : List ℤ) → AreLiterals e path → IsWithin c path → denies clauses c → IsAcceptedLine e clauses (core_line c)
core_accepted e clauses path c all within follows = (
  λ i d below. opposite_literal (length e.senses) (get_or (ascending (map neg_ℤ c)) i d)
      (all _ (within _ (opposites_back c (get_or (ascending (map neg_ℤ c)) i d) (ascending_from (map neg_ℤ c) _ (Contains-get_or (ascending (map neg_ℤ c)) i d below))))),
  follows_more clauses clauses (map neg_ℤ c) (ascending (map neg_ℤ c)) (λ x h. h) (ascending_has (map neg_ℤ c)) follows,
)

-- each line is accepted with the clauses before it
abbrev pub AreAcceptedFrom : Encoding → List (List ℤ) → List Line → Type 0
AreAcceptedFrom e clauses [] = Unit {0}
AreAcceptedFrom e clauses (line ∷ lines) = IsAcceptedLine e clauses line × AreAcceptedFrom e (clauses ++ literals_of line ∷ []) lines

-- the lines of a walk of the first node are accepted, and the last one's clause is empty
abbrev pub WalksAreAccepted : Type 0
WalksAreAccepted = (s : Setting) → IsFit s.encoding → IsSound s → (left behind : ℕ) (c : List ℤ) (lines : List Line) → Walks s [] left (core c lines behind)
    → (c ≡ []) × AreAcceptedFrom s.encoding s.encoding.clauses lines × ((front : List Line) × (lines ≡ front ++ rup [] ∷ []))

-- lines after lines
abbrev pub with_lines : List (List ℤ) → List Line → List (List ℤ)
with_lines clauses [] = clauses
with_lines clauses (line ∷ lines) = with_lines (clauses ++ literals_of line ∷ []) lines

with_lines_within : (clauses : List (List ℤ)) (lines : List Line) → IsWithin clauses (with_lines clauses lines)
with_lines_within clauses [] x has = has
with_lines_within clauses (line ∷ lines) x has = with_lines_within (clauses ++ literals_of line ∷ []) lines x (Contains-append_left clauses (literals_of line ∷ []) x has)

with_lines_has : (clauses : List (List ℤ)) (front : List Line) (line : Line) (more : List Line) → Contains (with_lines clauses (front ++ line ∷ more)) (literals_of line)
with_lines_has clauses [] line more = with_lines_within (clauses ++ literals_of line ∷ []) more (literals_of line) (Contains-append_right clauses (literals_of line ∷ []) (literals_of line) (here (literals_of line) []))
with_lines_has clauses (x ∷ xs) line more = with_lines_has (clauses ++ literals_of x ∷ []) xs line more

accepted_append : (e : Encoding) (clauses : List (List ℤ)) (lines more : List Line) → AreAcceptedFrom e clauses lines → AreAcceptedFrom e (with_lines clauses lines) more → AreAcceptedFrom e clauses (lines ++ more)
accepted_append e clauses [] more a b = b
accepted_append e clauses (line ∷ lines) more a b = (a.0, accepted_append e (clauses ++ literals_of line ∷ []) lines more a.1 b)

with_lines-append : (clauses : List (List ℤ)) (lines more : List Line) → with_lines clauses (lines ++ more) ≡ with_lines (with_lines clauses lines) more
with_lines-append clauses [] more = refl
with_lines-append clauses (line ∷ lines) more = with_lines-append (clauses ++ literals_of line ∷ []) lines more

-- What a node's lines are: accepted after any clauses that have the encoding's, and the last is its core's.
pub record AreGood (s : Setting) (path c : List ℤ) (lines : List Line) : Type 0 where
  pub within : IsWithin c path
  pub accepted : (clauses : List (List ℤ)) → IsWithin s.encoding.clauses clauses → AreAcceptedFrom s.encoding clauses lines
  pub front : List Line
  pub ends : lines ≡ front ++ core_line c ∷ []

-- the path, read as what is tried, with nothing that stays
pub within_nil : (path c : List ℤ) → IsWithin c (path ++ []) → IsWithin c path
within_nil path c h x has = ⊎_elim (λ (k : Contains path x). k) (λ (k : Contains [] x). absurd (in_nothing x k)) (Contains-append_cases path [] x (h x has))

good_leaf : (s : Setting) → IsFit s.encoding → IsSound s → (path c : List ℤ) (line : Option Line) → AreLiterals s.encoding path → IsJudged s path (leaf line) → Shrinks (leaf_clauses s.encoding line) path [] c → AreGood s path c (own line ++ core_line c ∷ [])
good_leaf s fit sound path c None all j shrinks =
    let within : IsWithin c path = within_nil path c (shrinks_within shrinks) in
    let F = leaf_clauses s.encoding None in
    let follows : denies F c = shrinks_denies (denies_more F F path (path ++ []) (λ x h. h) (λ x h. Contains-append_left path [] x h) (leaf_none s path j)) shrinks in
    record {
      within = within;
      accepted = λ clauses has. (core_accepted s.encoding clauses path c all within (denies_more F clauses c c (λ x h. has x (nil_back x h)) (λ x h. h) follows), tt);
      front = [];
      ends = refl;
    }
  where
    nil_back : (x : List ℤ) → Contains (s.encoding.clauses ++ []) x → Contains s.encoding.clauses x
    nil_back x h = ⊎_elim (λ (k : Contains s.encoding.clauses x). k) (λ (k : Contains [] x). absurd (in_nothing x k)) (Contains-append_cases s.encoding.clauses [] x h)
good_leaf s fit sound path c (Some line) all j shrinks =
    let within : IsWithin c path = within_nil path c (shrinks_within shrinks) in
    let F = leaf_clauses s.encoding (Some line) in
    let r = leaf_some s sound path line j in
    let follows : denies F c = shrinks_denies (denies_more F F path (path ++ []) (λ x h. h) (λ x h. Contains-append_left path [] x h) r.0) shrinks in
    let P : List (List ℤ) → Line → Type 0 = IsAcceptedLine s.encoding in
    record {
      within = within;
      accepted = λ clauses has. (
        subst (λ (x : Line). P clauses x) (sym r.1.2) r.1.3,
        (
          core_accepted s.encoding (clauses ++ literals_of line ∷ []) path c all within (denies_more F (clauses ++ literals_of line ∷ []) c c (λ x h. ⊎_elim
              (λ (k : Contains s.encoding.clauses x). Contains-append_left clauses (literals_of line ∷ []) x (has x k))
              (λ (k : Contains (literals_of line ∷ []) x). Contains-append_right clauses (literals_of line ∷ []) x k)
              (Contains-append_cases s.encoding.clauses (literals_of line ∷ []) x h)) (λ x h. h) follows),
          tt,
        ),
      );
      front = line ∷ [];
      ends = refl;
    }

-- a good node's last line is among the clauses after it
good_has : (s : Setting) (path c : List ℤ) (lines : List Line) → AreGood s path c lines → (clauses : List (List ℤ)) → Contains (with_lines clauses lines) (ascending (map neg_ℤ c))
good_has s path c lines good clauses =
    let P : List Line → Type 0 = λ x. Contains (with_lines clauses x) (ascending (map neg_ℤ c)) in
    subst P (sym good.ends) (with_lines_has clauses good.front (core_line c) [])

good_second : (s : Setting) (l : ℤ) (path c d : List ℤ) (lines more : List Line) → AreGood s (l ∷ path) c lines → AreGood s (neg_ℤ l ∷ path) d more → has_literal (neg_ℤ l) d ≡ false → AreGood s path d (lines ++ more)
good_second s l path c d lines more a b none = record {
  within = without (neg_ℤ l) path d b.within none;
  accepted = λ clauses has. accepted_append s.encoding clauses lines more (a.accepted clauses has) (b.accepted (with_lines clauses lines) (λ x h. with_lines_within clauses lines x (has x h)));
  front = lines ++ b.front;
  ends = ap (λ x. lines ++ x) b.ends ∙ sym (append_assoc lines b.front (core_line d ∷ []));
}

good_both : (s : Setting) (l : ℤ) (path c d : List ℤ) (lines more : List Line) → AreLiterals s.encoding path → AreGood s (l ∷ path) c lines → AreGood s (neg_ℤ l ∷ path) d more → has_literal l c ≡ true → AreGood s path (joined path c d) (lines ++ more ++ core_line (joined path c d) ∷ [])
good_both s l path c d lines more all a b used =
    let j = joined path c d in
    let within : IsWithin j path = filter_within (λ k. has_literal k c || has_literal k d) path in
    record {
      within = within;
      accepted = λ clauses has.
          let G = with_lines clauses lines in
          let H = with_lines G more in
          let same : with_lines clauses (lines ++ more) ≡ H = with_lines-append clauses lines more in
          let first : Contains H (ascending (map neg_ℤ c)) = with_lines_within G more (ascending (map neg_ℤ c)) (good_has s (l ∷ path) c lines a clauses) in
          let second : Contains H (ascending (map neg_ℤ d)) = good_has s (neg_ℤ l ∷ path) d more b G in
          let follows : denies H j = resolved H l path c d a.within b.within (has_in l c used) first second in
          let P : List (List ℤ) → Type 0 = λ x. AreAcceptedFrom s.encoding x (core_line j ∷ []) in
          accepted_append s.encoding clauses (lines ++ more) (core_line j ∷ [])
          (accepted_append s.encoding clauses lines more (a.accepted clauses has) (b.accepted G (λ x h. with_lines_within clauses lines x (has x h))))
          (subst P (sym same) (core_accepted s.encoding H path j all within follows, tt));
      front = lines ++ more;
      ends = refl;
    }

pub good : (s : Setting) → IsFit s.encoding → IsSound s → {path : List ℤ} {left behind : ℕ} {c : List ℤ} {lines : List Line} → AreLiterals s.encoding path → Walks s path left (core c lines behind) → AreGood s path c lines
good s fit sound {path} all (is_leaf {line = line} {c = c} j shrinks) = good_leaf s fit sound path c line all j shrinks
good s fit sound {path} all (first_serves {l = l} {c = c} {lines = lines} j u h) =
    let a : AreGood s (l ∷ path) c lines = good s fit sound (literals_more s.encoding path l all (split_is_literal s fit path l j)) u in
    record { within = without l path c a.within h; accepted = a.accepted; front = a.front; ends = a.ends }
good s fit sound {path} all (second_serves {l = l} {c = c} {d = d} {lines = lines} {more = more} j u h x g) =
    let this : IsLiteral (length s.encoding.senses) l = split_is_literal s fit path l j in
    let a : AreGood s (l ∷ path) c lines = good s fit sound (literals_more s.encoding path l all this) u in
    let b : AreGood s (neg_ℤ l ∷ path) d more = good s fit sound (literals_more s.encoding path (neg_ℤ l) all (opposite_of s l this)) x in
    good_second s l path c d lines more a b g
  where
    opposite_of : (s : Setting) (l : ℤ) → IsLiteral (length s.encoding.senses) l → IsLiteral (length s.encoding.senses) (neg_ℤ l)
    opposite_of s l h = let P : ℤ → Type 0 = IsLiteral (length s.encoding.senses) in opposite_literal (length s.encoding.senses) (neg_ℤ l) (subst P (sym (neg_ℤ-neg_ℤ l)) h)
good s fit sound {path} all (both {l = l} {c = c} {d = d} {lines = lines} {more = more} j u h x g) =
    let this : IsLiteral (length s.encoding.senses) l = split_is_literal s fit path l j in
    let a : AreGood s (l ∷ path) c lines = good s fit sound (literals_more s.encoding path l all this) u in
    let b : AreGood s (neg_ℤ l ∷ path) d more = good s fit sound (literals_more s.encoding path (neg_ℤ l) all (opposite_of s l this)) x in
    good_both s l path c d lines more all a b h
  where
    opposite_of : (s : Setting) (l : ℤ) → IsLiteral (length s.encoding.senses) l → IsLiteral (length s.encoding.senses) (neg_ℤ l)
    opposite_of s l h = let P : ℤ → Type 0 = IsLiteral (length s.encoding.senses) in opposite_literal (length s.encoding.senses) (neg_ℤ l) (subst P (sym (neg_ℤ-neg_ℤ l)) h)

pub nothing_in : (c : List ℤ) → IsWithin c [] → c ≡ []
nothing_in [] h = refl
nothing_in (k ∷ ks) h = absurd (in_nothing k (h k (here k ks)))

pub walks_accepted : WalksAreAccepted
walks_accepted s fit sound left behind c lines w =
    let g : AreGood s [] c lines = good s fit sound (λ k has. absurd (in_nothing k has)) w in
    let e : c ≡ [] = nothing_in c g.within in
    (e, g.accepted s.encoding.clauses (λ x h. h), (g.front, g.ends ∙ ap (λ x. g.front ++ core_line x ∷ []) e))
