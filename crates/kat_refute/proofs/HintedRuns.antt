-- What goes by from line to line.
use Rattle.std.proofs.Common.{◌≡◌, ℕ, ◌+◌, ◌<◌, ◌≤◌, ◌++◌, ◌∷◌, [], length, take, get_or, List, ℤ, sym, ap, ◌∙◌, arith, subst, All, Contains, below_more, add-one, Vec}
use Rattle.std.proofs.lemmas.List.{get_or_default, get_or-map, length-map, append-nil, take_all}
use Rattle.std.proofs.lemmas.List.Elements.{All-push, All-weaker}
use Rattle.std.specs.Global.{Global}
use Rattle.kat_clause.specs.Clauses.{lists, opposites}
use Rattle.kat_clause.specs.Hints.{AreNumbers}
use Rattle.kat_clause.specs.Tables.{AreSetsOf, clause_at}
use Rattle.kat_clause.specs.Known.{AreUpTo}
use Rattle.kat_clause.specs.Numberings.{Numbering}
use Rattle.kat_clause.proofs.HintSets.{sets_turned, sets_among, leads_sets}
use Rattle.kat_clause.proofs.Laws.{follows_sets, same_members}
use Rattle.kat_clause.proofs.Runs.{clause_lists, below_lists}
use Rattle.kat_clause.specs.Readings.{Given}
use Rattle.kat_form.specs.Encodings.{Encoding, HasLiterals}
use Rattle.kat_refute.specs.declared.ProofLine.{ProofLine}
use Rattle.kat_refute.specs.Lines.{Line, line_of, lines_of, IsAcceptedLine, IsHintedLine, AreAccepted, added, literals_of, clauses_before}
use Rattle.kat_refute.specs.Lines.Line.{rup, linear, hinted}
use Rattle.kat_refute.proofs.Refutations.{accepted_literals, added_more}

-- the line that the loop has reached, by its place
pub line_at : (lines : List ProofLine) (i : ℕ) (line : ProofLine) → i < length lines → line ≡ get_or lines i line → line_of line ≡ get_or (lines_of lines) i (line_of line)
line_at lines i line h is = ap line_of is ∙ sym (get_or-map line_of lines i line (line_of line) h)

-- one more accepted line
pub accepted_more : (e : Encoding) (lines : List Line) (i : ℕ) (line : Line) → line ≡ get_or lines i line → i < length lines → AreAccepted e lines i → IsAcceptedLine e (e.clauses ++ added (take i lines)) line → AreAccepted e lines (i + 1)
accepted_more e lines i line is h before here =
    let Q : Line → Type 0 = IsAcceptedLine e (e.clauses ++ added (take i lines)) in
    below_more (λ j. (d : Line) → IsAcceptedLine e (e.clauses ++ added (take j lines)) (get_or lines j d)) i before
    (λ d. subst Q (is ∙ get_or_default lines i line d h) here)

-- the clauses with one more line
pub clauses_more : (e : Encoding) (lines : List Line) (i : ℕ) (line : Line) → line ≡ get_or lines i line → i < length lines → e.clauses ++ added (take (i + 1) lines) ≡ (e.clauses ++ added (take i lines)) ++ literals_of line ∷ []
clauses_more e lines i line is h =
    ap (λ (n : ℕ). e.clauses ++ added (take n lines)) (add-one i) ∙ added_more e.clauses lines i line h ∙ ap (λ (l : Line). (e.clauses ++ added (take i lines)) ++ literals_of l ∷ []) (sym is)

-- the clauses have literals of the encoding's variables
pub own_literals : (e : Encoding) (clauses : List (List ℤ)) (line : Line) → IsAcceptedLine e clauses line → AreUpTo (length e.senses) (literals_of line)
own_literals e clauses line accepted k has = (accepted_literals e clauses line accepted k has).1

pub own_start : (e : Encoding) → All (HasLiterals (length e.senses)) e.clauses → All (AreUpTo (length e.senses)) (e.clauses ++ [])
own_start e own =
    let P : List (List ℤ) → Type 0 = All (AreUpTo (length e.senses)) in
    subst P (sym (append-nil e.clauses)) (All-weaker (HasLiterals (length e.senses)) (AreUpTo (length e.senses)) (λ clause literals k has. (literals k has).1) e.clauses own)

pub own_more : (e : Encoding) (lines : List Line) (i : ℕ) (line : Line) → line ≡ get_or lines i line → i < length lines → All (AreUpTo (length e.senses)) (clauses_before e lines i) → AreUpTo (length e.senses) (literals_of line) → All (AreUpTo (length e.senses)) (clauses_before e lines (i + 1))
own_more e lines i line is h own here =
    let P : List (List ℤ) → Type 0 = All (AreUpTo (length e.senses)) in
    subst P (sym (clauses_more e lines i line is h)) (All-push (AreUpTo (length e.senses)) (clauses_before e lines i) (literals_of line) own here)

-- the sets of clauses have the same variables, and accept the same lines
pub own_sets : (count : ℕ) (clauses sets : List (List ℤ)) → AreSetsOf clauses sets → All (AreUpTo count) clauses → All (AreUpTo count) sets
own_sets count clauses sets are own i d h k has =
    let P : List ℤ → Type 0 = λ set. Contains set k in
    own i [] (omega (arith, h, are.count)) k ((are.each i k).0 (subst P (get_or_default sets i d [] h) has))

pub hinted_sets : (count : ℕ) (clauses sets : List (List ℤ)) → AreSetsOf clauses sets → (literals : List ℤ) (hints : List ℕ) → IsHintedLine count sets literals hints → IsHintedLine count clauses literals hints
hinted_sets count clauses sets are literals hints (all, numbers, shown) =
    let P : ℕ → Type 0 = λ n. AreNumbers n hints in
    (all, subst P are.count numbers, leads_sets clauses sets are (opposites literals) hints shown)

pub accepted_sets : (e : Encoding) (clauses sets : List (List ℤ)) → AreSetsOf clauses sets → (line : Line) → IsAcceptedLine e sets line → IsAcceptedLine e clauses line
accepted_sets e clauses sets are (rup literals) (all, follows) =
    (all, follows_sets sets clauses literals literals (sets_among clauses sets are) (sets_among sets clauses (sets_turned clauses sets are)) (same_members literals) follows)
accepted_sets e clauses sets are (linear literals multipliers) accepted = accepted
accepted_sets e clauses sets are (hinted literals hints) accepted = hinted_sets (length e.senses) clauses sets are literals hints accepted

-- a reader with nothing known
abbrev empty_reader : ℕ → Given
empty_reader n = record { greatest = n; known = [] }

pub reader_start : (reader : Given) (count size : ℕ) → reader ≡ record { greatest = count; known = [] } → count ≡ size → reader ≡ record { greatest = size; known = [] }
reader_start reader count size is same = is ∙ ap empty_reader same

-- the clause that a loop over clauses has reached
pub reached : (all items : List (Vec ℤ Global)) (i : ℕ) (clause : Vec ℤ Global) (literals : List ℤ) → items ≡ all → i < length items → clause ≡ get_or items i clause → literals ≡ clause.items → (i < length (lists all)) × (clause_at (lists all) i ≡ literals)
reached all items i clause literals same h is e =
    let P : List (Vec ℤ Global) → Type 0 = λ list. (i < length (lists list)) × (clause_at (lists list) i ≡ literals) in
    subst P same (below_lists items i h, clause_lists items i clause h is ∙ sym e)

-- all clauses have been added
pub all_clauses : (items : List (Vec ℤ Global)) (all : List (Vec ℤ Global)) (i : ℕ) → items ≡ all → length items ≤ i → take i (lists all) ≡ lists all
all_clauses items all i same h = take_all i (lists all) (omega (arith, h, ap length same, length-map all (λ (v : Vec ℤ Global). v.items)))

-- clauses by number, with one more
abbrev numbering : ℕ → List (List ℤ) → Numbering
numbering n clauses = record { greatest = n; clauses = clauses }

abbrev with_clause : List ℤ → Numbering → Numbering
with_clause clause old = record { greatest = old.greatest; clauses = old.clauses ++ clause ∷ [] }

pub numbering_more : (old new : Numbering) (n : ℕ) (front next : List (List ℤ)) (clause : List ℤ) → old ≡ record { greatest = n; clauses = front } → new ≡ record { greatest = old.greatest; clauses = old.clauses ++ clause ∷ [] } → next ≡ front ++ clause ∷ [] → new ≡ record { greatest = n; clauses = next }
numbering_more old new n front next clause was is same = is ∙ ap (with_clause clause) was ∙ ap (numbering n) (sym same)

pub numbering_same : (old : Numbering) (n : ℕ) (clauses same : List (List ℤ)) → old ≡ record { greatest = n; clauses = clauses } → clauses ≡ same → old ≡ record { greatest = n; clauses = same }
numbering_same old n clauses same is e = is ∙ ap (numbering n) e
