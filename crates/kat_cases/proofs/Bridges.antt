-- Lines accepted one after the other are a refutation in the checker's sense.
use Rattle.std.proofs.Common.{◌≡◌, ℕ, zero, suc, ◌+◌, ◌-◌, ◌<◌, ℤ, List, [], ◌∷◌, ◌++◌, length, map, take, get_or, refl, sym, ap, ◌∙◌, subst, arith, append_assoc}
use Rattle.std.proofs.lemmas.List.{append-nil, length_push}
use Rattle.kat_form.specs.Encodings.{Encoding}
use Rattle.kat_refute.specs.Lines.{Line, literals_of, added, IsAcceptedLine, EndsEmpty}
use Rattle.kat_refute.specs.Lines.Line.{rup}
use Rattle.kat_cases.specs.Laws.{WalksRefute}
use Rattle.kat_cases.proofs.Acceptances.{AreAcceptedFrom, walks_accepted}

accepted_lines : (e : Encoding) (clauses : List (List ℤ)) (lines : List Line) → AreAcceptedFrom e clauses lines → (j : ℕ) → j < length lines → (d : Line) → IsAcceptedLine e (clauses ++ added (take j lines)) (get_or lines j d)
accepted_lines e clauses [] h j below d = absurd (omega arith)
accepted_lines e clauses (x ∷ xs) h zero below d = let P : List (List ℤ) → Type 0 = λ c. IsAcceptedLine e c x in subst P (sym (append-nil clauses)) h.0
accepted_lines e clauses (x ∷ xs) h (suc j) below d =
    let P : List (List ℤ) → Type 0 = λ c. IsAcceptedLine e c (get_or xs j d) in
    let more : (clauses ++ literals_of x ∷ []) ++ added (take j xs) ≡ clauses ++ (literals_of x ∷ added (take j xs)) = append_assoc clauses (literals_of x ∷ []) (added (take j xs)) in
    subst P more (accepted_lines e (clauses ++ literals_of x ∷ []) xs h.1 j (omega arith) d)

last_is : (ys : List (List ℤ)) → get_or (ys ++ [] ∷ []) (length ys) [] ≡ []
last_is [] = refl
last_is (y ∷ ys) = last_is ys

ends_empty : (xs ys : List (List ℤ)) → xs ≡ ys ++ [] ∷ [] → EndsEmpty xs
ends_empty xs ys e =
    let size : length xs ≡ length ys + 1 = ap length e ∙ length_push ys [] in
    let at : length xs - 1 ≡ length ys = omega (arith, size) in
    (omega (arith, size), ap (λ k. get_or xs k []) at ∙ ap (λ x. get_or x (length ys) []) e ∙ last_is ys)

map-push : (front : List Line) (line : Line) → map literals_of (front ++ line ∷ []) ≡ map literals_of front ++ literals_of line ∷ []
map-push [] line = refl
map-push (x ∷ xs) line = ap (λ m. literals_of x ∷ m) (map-push xs line)

-- If the walk of the first node has its core, the lines recorded refute the encoding.
pub refuting : WalksRefute
refuting s fit sound effort lines (behind, w) =
    let r = walks_accepted s fit sound effort behind [] lines w in
    record {
      accepted = λ j below d. accepted_lines s.encoding s.encoding.clauses lines r.1 j below d;
      ends = ends_empty (added lines) (added r.2.0) (ap added r.2.1 ∙ map-push r.2.0 (rup []));
    }
