-- What a line says can be read off its marks, so that each line says one thing or nothing.
use Rattle.std.proofs.Common.{◌≡◌, ℕ, Bool, true, false, List, [], ◌∷◌, ◌++◌, refl, sym, ◌∙◌, ap, append-nil, eqb, eq-eqb, cond, Option, None, Some}
use Rattle.std.proofs.lemmas.Bool.{eqb-true}
use Rattle.std.specs.Prelude.{◌&&◌, codes}
use Rattle.kat_num.specs.Names.{code_of}
use Rattle.kat_lex.specs.declared.lexer.Token.{Token}
use Rattle.kat_script.specs.Grammar.{Says, constants_marks, line_marks, time_marks}
use Rattle.kat_script.specs.Marks.{marks_of, some_touch}
use Rattle.kat_script.specs.declared.marks.Mark.{Mark}
use Rattle.kat_script.specs.declared.marks.Mark.TheVariants.{Word, Number, Name, True, False, At, Minus, Other}
use Rattle.kat_script.specs.declared.said.Constant.{Constant}
use Rattle.kat_script.specs.declared.said.Constant.TheVariants.{Natural, Negated, Named, Truth}
use Rattle.kat_script.specs.declared.said.Said.{Said}
use Rattle.kat_script.specs.declared.said.Said.TheVariants.{Replicas, Does, Ships, Delivers, Asks, Shows}

abbrev pub first_of : List Mark → Mark
first_of [] = Other
first_of (mark ∷ marks) = mark

abbrev pub rest_of : List Mark → List Mark
rest_of [] = []
rest_of (mark ∷ marks) = marks

abbrev pub word_of : Mark → ℕ
word_of (Word word) = word
word_of mark = 0

abbrev pub number_of : Mark → ℕ
number_of (Number n) = n
number_of mark = 0

-- the constants at the beginning, and what comes after them
abbrev constants_of : List Mark → List Constant
constants_of (Number n ∷ marks) = Natural n ∷ constants_of marks
constants_of (Minus ∷ Number n ∷ marks) = Negated n ∷ constants_of marks
constants_of (Name name ∷ marks) = Named name ∷ constants_of marks
constants_of (True ∷ marks) = Truth true ∷ constants_of marks
constants_of (False ∷ marks) = Truth false ∷ constants_of marks
constants_of marks = []

abbrev behind_constants : List Mark → List Mark
behind_constants (Number n ∷ marks) = behind_constants marks
behind_constants (Minus ∷ Number n ∷ marks) = behind_constants marks
behind_constants (Name name ∷ marks) = behind_constants marks
behind_constants (True ∷ marks) = behind_constants marks
behind_constants (False ∷ marks) = behind_constants marks
behind_constants marks = marks

abbrev time_in : List Mark → Option ℕ
time_in [] = None
time_in (mark ∷ marks) = Some (number_of (first_of marks))

constants_found : (xs : List Constant) (time : Option ℕ) → constants_of (constants_marks xs ++ time_marks time) ≡ xs
constants_found [] None = refl
constants_found [] (Some t) = refl
constants_found (Natural n ∷ xs) time = ap (λ ys. Natural n ∷ ys) (constants_found xs time)
constants_found (Negated n ∷ xs) time = ap (λ ys. Negated n ∷ ys) (constants_found xs time)
constants_found (Named n ∷ xs) time = ap (λ ys. Named n ∷ ys) (constants_found xs time)
constants_found (Truth true ∷ xs) time = ap (λ ys. Truth true ∷ ys) (constants_found xs time)
constants_found (Truth false ∷ xs) time = ap (λ ys. Truth false ∷ ys) (constants_found xs time)

behind_found : (xs : List Constant) (time : Option ℕ) → behind_constants (constants_marks xs ++ time_marks time) ≡ time_marks time
behind_found [] None = refl
behind_found [] (Some t) = refl
behind_found (Natural n ∷ xs) time = behind_found xs time
behind_found (Negated n ∷ xs) time = behind_found xs time
behind_found (Named n ∷ xs) time = behind_found xs time
behind_found (Truth true ∷ xs) time = behind_found xs time
behind_found (Truth false ∷ xs) time = behind_found xs time

time_found : (time : Option ℕ) → time_in (time_marks time) ≡ time
time_found None = refl
time_found (Some t) = refl

-- what the marks say, if they say something: by their first word, and by the places of the parts
abbrev guess_by : ℕ → List Mark → Said
guess_by head rest =
    cond (eqb head (code_of (codes "replicas"))) (Replicas (number_of (first_of rest)))
    (cond (eqb head (code_of (codes "do"))) (Does (number_of (first_of rest)) (word_of (first_of (rest_of rest)))
    (constants_of (rest_of (rest_of rest))) (time_in (behind_constants (rest_of (rest_of rest)))))
    (cond (eqb head (code_of (codes "ship"))) (Ships (number_of (first_of rest)) (word_of (first_of (rest_of rest))))
    (cond (eqb head (code_of (codes "deliver"))) (Delivers (word_of (first_of rest)) (number_of (first_of (rest_of rest))))
    (cond (eqb head (code_of (codes "ask"))) (Asks (number_of (first_of rest)) (word_of (first_of (rest_of rest))) (constants_of (rest_of (rest_of rest))))
    (Shows (number_of (first_of rest)))))))

abbrev guess : List Mark → Said
guess marks = guess_by (word_of (first_of marks)) (rest_of marks)

-- what is written is read back
guess_line : (said : Said) → guess (line_marks said) ≡ said
guess_line (Replicas n) = refl
guess_line (Does r op args time) =
    let found = constants_found args time in
    let behind = ap time_in (behind_found args time) ∙ time_found time in
    λ i. Does r op (found i) (behind i)
guess_line (Ships r packet) = refl
guess_line (Delivers packet r) = refl
guess_line (Asks r query args) = ap (λ xs. Asks r query xs) (ap constants_of (sym (append-nil (constants_marks args))) ∙ constants_found args None)
guess_line (Shows r) = refl

-- marks by two numbers
abbrev pub kind_of : Mark → ℕ
kind_of (Word word) = 0
kind_of (Number n) = 1
kind_of (Name name) = 2
kind_of True = 3
kind_of False = 4
kind_of At = 5
kind_of Minus = 6
kind_of Other = 7

abbrev pub part_of : Mark → ℕ
part_of (Word word) = word
part_of (Number n) = n
part_of (Name name) = name
part_of mark = 0

abbrev mark_from : ℕ → ℕ → Mark
mark_from kind part =
    cond (eqb kind 0) (Word part) (cond (eqb kind 1) (Number part) (cond (eqb kind 2) (Name part)
    (cond (eqb kind 3) True (cond (eqb kind 4) False (cond (eqb kind 5) At (cond (eqb kind 6) Minus Other))))))

mark_back : (mark : Mark) → mark_from (kind_of mark) (part_of mark) ≡ mark
mark_back (Word word) = refl
mark_back (Number n) = refl
mark_back (Name name) = refl
mark_back True = refl
mark_back False = refl
mark_back At = refl
mark_back Minus = refl
mark_back Other = refl

abbrev pub are_same : List Mark → List Mark → Bool
are_same [] [] = true
are_same (a ∷ as') (b ∷ bs) = eqb (kind_of a) (kind_of b) && (eqb (part_of a) (part_of b) && are_same as' bs)
are_same marks others = false

mark_same : (a b : Mark) → eqb (kind_of a) (kind_of b) ≡ true → eqb (part_of a) (part_of b) ≡ true → a ≡ b
mark_same a b k p =
    let kinds : kind_of a ≡ kind_of b = eqb-true (kind_of a) (kind_of b) k in
    let parts : part_of a ≡ part_of b = eqb-true (part_of a) (part_of b) p in
    sym (mark_back a) ∙ (λ i. mark_from (kinds i) (parts i)) ∙ mark_back b

both_true : (x y z : Bool) → (x && (y && z)) ≡ true → (x ≡ true) × (y ≡ true) × (z ≡ true)
both_true true true true e = (refl, refl, refl)
both_true true true false e = absurd cc
both_true true false z e = absurd cc
both_true false y z e = absurd cc

pub same_sound : (some other : List Mark) → are_same some other ≡ true → some ≡ other
same_sound [] [] e = refl
same_sound [] (b ∷ bs) e = absurd cc
same_sound (a ∷ marks) [] e = absurd cc
same_sound (a ∷ marks) (b ∷ bs) e =
    let each = both_true (eqb (kind_of a) (kind_of b)) (eqb (part_of a) (part_of b)) (are_same marks bs) e in
    let first = mark_same a b each.0 each.1 in
    let more = same_sound marks bs each.2 in
    λ i. first i ∷ more i

pub same_self : (marks : List Mark) → are_same marks marks ≡ true
same_self [] = refl
same_self (a ∷ marks) = rw (eq-eqb (kind_of a) (kind_of a) refl, eq-eqb (part_of a) (part_of a) refl) (same_self marks)

-- the tokens of a line say one thing
pub one_said : (tokens : List Token) (some other : Said) → Says tokens some → Says tokens other → some ≡ other
one_said tokens some other a b = sym (guess_line some) ∙ ap guess (sym a.written ∙ b.written) ∙ guess_line other

-- they say something, or nothing
pub data SaysOrNot (tokens : List Token) : Type 0 where
  something : (said : Said) → Says tokens said → SaysOrNot tokens
  nothing : ((said : Said) → Says tokens said → ⊥) → SaysOrNot tokens

by_tests : (tokens : List Token) (same touch : Bool) → are_same (marks_of tokens) (line_marks (guess (marks_of tokens))) ≡ same
    → some_touch tokens ≡ touch → SaysOrNot tokens
by_tests tokens true false e f = something (guess (marks_of tokens)) (record { written = same_sound (marks_of tokens) (line_marks (guess (marks_of tokens))) e; apart = f })
by_tests tokens true true e f = nothing (λ said s. let t : true ≡ false = sym f ∙ s.apart in cc)
by_tests tokens false touch e f = nothing (λ said s.
    let g : guess (marks_of tokens) ≡ said = ap guess s.written ∙ guess_line said in
    let h : marks_of tokens ≡ line_marks (guess (marks_of tokens)) = s.written ∙ ap line_marks (sym g) in
    let t : are_same (marks_of tokens) (line_marks (guess (marks_of tokens))) ≡ true =
    ap (λ marks. are_same (marks_of tokens) marks) (sym h) ∙ same_self (marks_of tokens) in
    let u : true ≡ false = sym t ∙ e in cc)

pub says_or_not : (tokens : List Token) → SaysOrNot tokens
says_or_not tokens = by_tests tokens _ _ refl refl

-- no tokens say nothing
pub no_tokens : (said : Said) → Says [] said → ⊥
no_tokens (Replicas n) s = let e = s.written in cc
no_tokens (Does r op args time) s = let e = s.written in cc
no_tokens (Ships r packet) s = let e = s.written in cc
no_tokens (Delivers packet r) s = let e = s.written in cc
no_tokens (Asks r query args) s = let e = s.written in cc
no_tokens (Shows r) s = let e = s.written in cc
