-- Lines with hints: one clause, one hint, one line more.
use Rattle.std.proofs.Common.{◌≡◌, ℕ, zero, suc, ◌+◌, ◌<◌, ◌≤◌, ◌++◌, ◌∷◌, [], length, take, drop, get_or, List, ℤ, false, Option, Some, None, option_map, Result, Ok, Err, IfOk, Vec, ◌↔◌, refl, sym, ap, ◌∙◌, arith, subst, add-one, drop-cons, eqb}
use Rattle.std.specs.Bool.{IsTrue}
use Rattle.std.proofs.lemmas.Bool.{eqb-true, eq-eqb, false≢true}
use Rattle.std.proofs.lemmas.List.{take_all, append-nil, append_assoc, drop_all}
use Rattle.std.proofs.lemmas.List.Elements.{All-get_or, All-more}
use Rattle.kat_clause.specs.declared.reading.HintStep.TheVariants.{Falsified, Useless}
use Rattle.kat_clause.specs.Hints.{numbered, AreNumbers, Leads, IsHinted}
use Rattle.kat_clause.specs.Readings.{Reads}
use Rattle.kat_clause.proofs.HintChoices.{hints_hinted}
use Rattle.kat_clause.proofs.ReadingSteps.{hinted_ends, hinted_fails}
use Rattle.kat_form.specs.Encodings.{Encoding}
use Rattle.kat_refute.specs.declared.ProofLine.{ProofLine}
use Rattle.kat_refute.specs.Lines.{Line, line_of, literals_of, added, IsAcceptedLine, AreARefutation, EndsEmpty, clauses_before}
use Rattle.kat_refute.specs.Lines.Line.{rup, linear, hinted}
use Rattle.kat_refute.specs.declared.ProofLine.TheVariants.{Rup}
use Rattle.kat_refute.specs.HintedLines.{IsShown, GivesHints, GivesLine, hinted_line, hinted_lines}
use Rattle.std.specs.Global.{Global}
use Rattle.std.specs.declared.alloc.AllocError.{AllocError}

-- a hint that is no number
pub shown_not : (clauses : List (List ℤ)) (literals : List ℤ) (hints : List ℕ) (i : ℕ) → i < length hints → ((0 < get_or hints i 0) × (get_or hints i 0 ≤ length clauses) → ⊥) → IsTrue false ↔ IsShown clauses literals hints
shown_not clauses literals hints i h never = (λ e. absurd (false≢true e), λ shown. absurd (never (All-get_or (λ x. (0 < x) × (x ≤ length clauses)) hints i 0 h shown.0)))

-- a hint that ends, or fails
pub shown_ends : (clauses : List (List ℤ)) (literals known new : List ℤ) (hints : List ℕ) (i : ℕ) → i < length hints → Reads (numbered clauses (get_or hints i 0)) known new Falsified → (0 < get_or hints i 0) × (get_or hints i 0 ≤ length clauses)
    → AreNumbers (length clauses) (take i hints) → Leads clauses known (drop i hints) ↔ IsHinted clauses literals hints → IsTrue (eqb (i + 1) (length hints)) ↔ IsShown clauses literals hints
shown_ends clauses literals known new hints i h read number numbers before =
    let is = hinted_ends clauses literals known new hints i h read before in
    let more : AreNumbers (length clauses) (take (i + 1) hints) = All-more (λ x. (0 < x) × (x ≤ length clauses)) hints i 0 h numbers number in (
      λ e.
          let last : i + 1 ≡ length hints = eqb-true (i + 1) (length hints) e in
          let P : List ℕ → Type 0 = AreNumbers (length clauses) in
          (subst P (take_all (i + 1) hints (omega (arith, last))) more, is.0 last),
      λ shown. eq-eqb (i + 1) (length hints) (is.1 shown.1),
    )

pub shown_fails : (clauses : List (List ℤ)) (literals known new : List ℤ) (hints : List ℕ) (i : ℕ) → i < length hints → Reads (numbered clauses (get_or hints i 0)) known new Useless
    → Leads clauses known (drop i hints) ↔ IsHinted clauses literals hints → IsTrue false ↔ IsShown clauses literals hints
shown_fails clauses literals known new hints i h read before = (λ e. absurd (false≢true e), λ shown. absurd (hinted_fails clauses literals known new hints i h read before shown.1))

pub shown_out : (clauses : List (List ℤ)) (literals known : List ℤ) (hints : List ℕ) (i : ℕ) → length hints ≤ i → Leads clauses known (drop i hints) ↔ IsHinted clauses literals hints → IsTrue false ↔ IsShown clauses literals hints
shown_out clauses literals known hints i h before =
    let P : List ℕ → Type 0 = Leads clauses known in
    (λ e. absurd (false≢true e), λ shown. absurd (subst P (drop_all i hints h) (before.1 shown.1)))

-- lines with hints
pub literals_same : (clauses : List (List ℤ)) (line : Line) → literals_of (hinted_line clauses line) ≡ literals_of line
literals_same clauses (rup literals) = refl
literals_same clauses (linear literals ms) = refl
literals_same clauses (hinted literals hints) = refl

pub accepted_hinted : (e : Encoding) (clauses : List (List ℤ)) (line : Line) → IsAcceptedLine e clauses line → IsAcceptedLine e clauses (hinted_line clauses line)
accepted_hinted e clauses (rup literals) accepted = let shown = hints_hinted clauses literals accepted.1 in (accepted.0, shown.0, shown.1)
accepted_hinted e clauses (linear literals ms) accepted = accepted
accepted_hinted e clauses (hinted literals hints) accepted = accepted

hinted_at : (clauses : List (List ℤ)) (lines : List Line) (j : ℕ) (d : Line) → j < length lines → get_or (hinted_lines clauses lines) j d ≡ hinted_line (clauses ++ added (take j lines)) (get_or lines j d)
hinted_at clauses [] j d h = absurd (omega (arith, h))
hinted_at clauses (x ∷ xs) zero d h = ap (λ (cs : List (List ℤ)). hinted_line cs x) (sym (append-nil clauses))
hinted_at clauses (x ∷ xs) (suc j) d h =
    hinted_at (clauses ++ literals_of x ∷ []) xs j d (omega arith) ∙ ap (λ (cs : List (List ℤ)). hinted_line cs (get_or xs j d)) (append_assoc clauses (literals_of x ∷ []) (added (take j xs)))

added_front : (clauses : List (List ℤ)) (lines : List Line) (j : ℕ) → added (take j (hinted_lines clauses lines)) ≡ added (take j lines)
added_front clauses lines zero = refl
added_front clauses [] (suc j) = refl
added_front clauses (x ∷ xs) (suc j) = let first = literals_same clauses x in let rest = added_front (clauses ++ literals_of x ∷ []) xs j in cc

added_same : (clauses : List (List ℤ)) (lines : List Line) → added (hinted_lines clauses lines) ≡ added lines
added_same clauses [] = refl
added_same clauses (x ∷ xs) = let first = literals_same clauses x in let rest = added_same (clauses ++ literals_of x ∷ []) xs in cc

hinted_length : (clauses : List (List ℤ)) (lines : List Line) → length (hinted_lines clauses lines) ≡ length lines
hinted_length clauses [] = refl
hinted_length clauses (x ∷ xs) = ap suc (hinted_length (clauses ++ literals_of x ∷ []) xs)

pub hinted_refute : (e : Encoding) (lines : List Line) → AreARefutation e lines → AreARefutation e (hinted_lines e.clauses lines)
hinted_refute e lines shown = record {
  accepted = λ j h d.
      let within : j < length lines = omega (arith, h, hinted_length e.clauses lines) in
      let now : IsAcceptedLine e (clauses_before e lines j) (hinted_line (clauses_before e lines j) (get_or lines j d)) = accepted_hinted e (clauses_before e lines j) (get_or lines j d) (shown.accepted j within d) in
      let P : Line → Type 0 = IsAcceptedLine e (clauses_before e lines j) in
      let Q : List (List ℤ) → Type 0 = λ cs. IsAcceptedLine e (e.clauses ++ cs) (get_or (hinted_lines e.clauses lines) j d) in
      subst Q (sym (added_front e.clauses lines j)) (subst P (sym (hinted_at e.clauses lines j d within)) now);
  ends = let P : List (List ℤ) → Type 0 = EndsEmpty in subst P (sym (added_same e.clauses lines)) shown.ends;
}

-- one more line has its hints
pub hinted_more : (clauses next : List (List ℤ)) (lines : List Line) (whole front : List Line) (i : ℕ) (line new : Line) → line ≡ get_or lines i line → i < length lines → next ≡ clauses ++ literals_of line ∷ [] → new ≡ hinted_line clauses line
    → front ++ hinted_lines clauses (drop i lines) ≡ whole → (front ++ new ∷ []) ++ hinted_lines next (drop (i + 1) lines) ≡ whole
hinted_more clauses next lines whole front i line new is h same made before =
    let rest = drop (i + 1) lines in
    let at : drop i lines ≡ line ∷ rest = (let step : i + 1 ≡ suc i = add-one i in rw step (drop-cons lines i line h)) ∙ ap (λ (l : Line). l ∷ rest) (sym is) in
    append_assoc front (new ∷ []) (hinted_lines next rest)
    ∙ ap (λ (l : Line). front ++ (l ∷ hinted_lines next rest)) made
    ∙ ap (λ (cs : List (List ℤ)). front ++ (hinted_line clauses line ∷ hinted_lines cs rest)) same
    ∙ ap (λ (ls : List Line). front ++ hinted_lines clauses ls) (sym at)
    ∙ before

-- a line by propagation
gives_line : (e : Encoding) (clauses : List (List ℤ)) (literals : List ℤ) (o : Option Line) → GivesHints (length e.senses) clauses literals o → GivesLine e clauses (rup literals) o
gives_line e clauses literals None h = λ accepted. h accepted.0 accepted.1
gives_line e clauses literals (Some line) (all, follows, is) = ((all, follows), is)

each_gives : (e : Encoding) (clauses : List (List ℤ)) (literals : List ℤ) (r : Result (Option ProofLine) AllocError) → IfOk r (λ o. GivesHints (length e.senses) clauses literals (option_map line_of o)) → IfOk r (λ o. GivesLine e clauses (rup literals) (option_map line_of o))
each_gives e clauses literals (Ok o) h = gives_line e clauses literals (option_map line_of o) h
each_gives e clauses literals (Err x) h = h

pub rup_gives : (e : Encoding) (known clauses : List (List ℤ)) (line : ProofLine) (lits : Vec ℤ Global) (count : ℕ) (literals : List ℤ) (r : Result (Option ProofLine) AllocError) → line ≡ Rup lits → literals ≡ lits.items → count ≡ length e.senses → known ≡ clauses
    → IfOk r (λ o. GivesHints count known literals (option_map line_of o)) → IfOk r (λ o. GivesLine e clauses (line_of line) (option_map line_of o))
rup_gives e known clauses line lits count literals r is same size all h =
    let P : ProofLine → Type 0 = λ x. IfOk r (λ o. GivesLine e clauses (line_of x) (option_map line_of o)) in
    let Q : List ℤ → Type 0 = λ x. IfOk r (λ o. GivesLine e clauses (rup x) (option_map line_of o)) in
    let R : ℕ → Type 0 = λ x. IfOk r (λ o. GivesHints x clauses literals (option_map line_of o)) in
    let S : List (List ℤ) → Type 0 = λ x. IfOk r (λ o. GivesHints count x literals (option_map line_of o)) in
    subst P (sym is) (subst Q same (each_gives e clauses literals r (subst R size (subst S all h))))

-- all lines have their hints
pub hinted_all : (clauses : List (List ℤ)) (lines front whole : List Line) (i : ℕ) → length lines ≤ i → front ++ hinted_lines clauses (drop i lines) ≡ whole → front ≡ whole
hinted_all clauses lines front whole i h before =
    sym (append-nil front) ∙ ap (λ (ls : List Line). front ++ hinted_lines clauses ls) (sym (drop_all i lines h)) ∙ before
