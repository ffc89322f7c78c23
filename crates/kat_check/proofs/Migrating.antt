-- Laws of migrated files.
use Rattle.std.proofs.Common.{◌≡◌, ℕ, zero, suc, ◌+◌, ◌-◌, ◌<◌, ◌≤◌, ℤ, List, [], ◌∷◌, ◌++◌, length, take, get_or, refl, sym, ap, ◌∙◌, subst, add-one, arith}
use Rattle.std.proofs.Math.Seq.{take-suc}
use Rattle.std.proofs.lemmas.List.{take_all}
use Rattle.kat_design.specs.Sorted.{EachHas}
use Rattle.kat_refute.specs.HintedLines.{hinted_line, hinted_lines}
use Rattle.kat_refute.proofs.HintedSteps.{hinted_refute}
use Rattle.kat_refute.specs.Lines.{AreARefutation, Line, literals_of, rup, linear, hinted}
use Rattle.kat_type.specs.Types.{TypeForm}
use Rattle.kat_wire.specs.FileForms.{AreOfVersion, FileForm, HaveNoZero, HasNoZero, IsOfVersion}
use Rattle.kat_check.specs.Acceptance.{IsAcceptedFile, encoding_at, lines_at}
use Rattle.kat_check.specs.Migration.{hinted_lists, migrated_file}

one_more : (n : ℕ) → 1 + n ≡ n + 1
one_more n = omega arith

-- the lines for a condition
lists_there : (ty : TypeForm) (f : FileForm) (lists : List (List Line)) (n k : ℕ) → get_or (hinted_lists ty f k lists) n [] ≡ hinted_lines (encoding_at ty f (k + n)).clauses (get_or lists n [])
lists_there ty f [] n k = refl
lists_there ty f (lines ∷ lists) zero k = ap (λ m. hinted_lines (encoding_at ty f m).clauses lines) (omega arith)
lists_there ty f (lines ∷ lists) (suc n) k = lists_there ty f lists n (suc k) ∙ ap (λ m. hinted_lines (encoding_at ty f m).clauses (get_or lists n [])) (omega arith)

-- for each condition the file has exactly the lines with their hints
pub lines_migrated : (ty : TypeForm) (f : FileForm) (k : ℕ) → 0 < k → lines_at (migrated_file ty f) k ≡ hinted_lines (encoding_at ty f k).clauses (lines_at f k)
lines_migrated ty f k above = lists_there ty f f.proof (k - 1) 1 ∙ ap (λ m. hinted_lines (encoding_at ty f m).clauses (lines_at f k)) (omega (arith, above))

lists_kept : (ty : TypeForm) (f : FileForm) (k : ℕ) (lists : List (List Line)) → length (hinted_lists ty f k lists) ≡ length lists
lists_kept ty f k [] = refl
lists_kept ty f k (lines ∷ lists) = ap suc (lists_kept ty f (suc k) lists)

pub migrated_accepted : (ty : TypeForm) (f : FileForm) → IsAcceptedFile ty f → IsAcceptedFile ty (migrated_file ty f)
migrated_accepted ty f accepted = record {
  fits = accepted.fits;
  as_many = lists_kept ty f 1 f.proof ∙ accepted.as_many;
  proved = λ k above few. subst (λ (lines : List Line). AreARefutation (encoding_at ty f k) lines) (sym (lines_migrated ty f k above))
      (hinted_refute (encoding_at ty f k) (lines_at f k) (accepted.proved k above few));
}

-- what holds of each line with its hints
line_of_two : (clauses : List (List ℤ)) (line : Line) → IsOfVersion 2 (hinted_line clauses line)
line_of_two clauses (rup literals) = refl
line_of_two clauses (linear literals multipliers) = tt
line_of_two clauses (hinted literals hints) = refl

lines_of_two : (clauses : List (List ℤ)) (lines : List Line) → EachHas (IsOfVersion 2) (hinted_lines clauses lines)
lines_of_two clauses [] = tt
lines_of_two clauses (line ∷ lines) = (line_of_two clauses line, lines_of_two (clauses ++ literals_of line ∷ []) lines)

lists_of_two : (ty : TypeForm) (f : FileForm) (k : ℕ) (lists : List (List Line)) → AreOfVersion 2 (hinted_lists ty f k lists)
lists_of_two ty f k [] = tt
lists_of_two ty f k (lines ∷ lists) = (lines_of_two (encoding_at ty f k).clauses lines, lists_of_two ty f (suc k) lists)

pub migrated_of_two : (ty : TypeForm) (f : FileForm) → AreOfVersion 2 (migrated_file ty f).proof
migrated_of_two ty f = lists_of_two ty f 1 f.proof

line_nonzero : (clauses : List (List ℤ)) (line : Line) → HasNoZero line → HasNoZero (hinted_line clauses line)
line_nonzero clauses (rup literals) h = h
line_nonzero clauses (linear literals multipliers) h = h
line_nonzero clauses (hinted literals hints) h = h

lines_nonzero : (clauses : List (List ℤ)) (lines : List Line) → EachHas HasNoZero lines → EachHas HasNoZero (hinted_lines clauses lines)
lines_nonzero clauses [] h = tt
lines_nonzero clauses (line ∷ lines) h = (line_nonzero clauses line h.0, lines_nonzero (clauses ++ literals_of line ∷ []) lines h.1)

lists_nonzero : (ty : TypeForm) (f : FileForm) (k : ℕ) (lists : List (List Line)) → HaveNoZero lists → HaveNoZero (hinted_lists ty f k lists)
lists_nonzero ty f k [] h = tt
lists_nonzero ty f k (lines ∷ lists) h = (lines_nonzero (encoding_at ty f k).clauses lines h.0, lists_nonzero ty f (suc k) lists h.1)

pub migrated_nonzero : (ty : TypeForm) (f : FileForm) → HaveNoZero f.proof → HaveNoZero (migrated_file ty f).proof
migrated_nonzero ty f h = lists_nonzero ty f 1 f.proof h

-- The lists with hints so far are the first of them all.
pub hinted_on : (ty : TypeForm) (f : FileForm) (i : ℕ) (lines new : List Line) (front : List (List Line)) → i < length f.proof → lines ≡ get_or f.proof i [] → new ≡ hinted_lines (encoding_at ty f (i + 1)).clauses lines
    → front ≡ take i (hinted_lists ty f 1 f.proof) → front ++ new ∷ [] ≡ take (i + 1) (hinted_lists ty f 1 f.proof)
hinted_on ty f i lines new front inside there is before =
    let all = hinted_lists ty f 1 f.proof in
    let many : length all ≡ length f.proof = lists_kept ty f 1 f.proof in
    let here : get_or all i [] ≡ new =
    lists_there ty f f.proof i 1 ∙ (λ j. hinted_lines (encoding_at ty f (one_more i j)).clauses (sym there j)) ∙ sym is in
    (λ j. before j ++ sym here j ∷ []) ∙ sym (take-suc all i [] (omega (arith, many, inside))) ∙ ap (λ n. take n all) (sym (add-one i))

pub hinted_whole : (ty : TypeForm) (f : FileForm) (count : ℕ) (lists : List (List Line)) → length f.proof ≤ count → lists ≡ take count (hinted_lists ty f 1 f.proof) → lists ≡ hinted_lists ty f 1 f.proof
hinted_whole ty f count lists few is =
    let all = hinted_lists ty f 1 f.proof in
    let many : length all ≡ length f.proof = lists_kept ty f 1 f.proof in is ∙ take_all count all (omega (arith, many, few))
