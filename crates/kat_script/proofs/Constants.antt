-- The constants of a line are read in one way only.
use Rattle.std.proofs.Common.{◌≡◌, ℕ, List, [], ◌∷◌, ◌++◌, refl, sym, ◌∙◌, ap, append_assoc, append-nil, eqb, eq-eqb, true, false, Option, None, Some}
use Rattle.std.specs.Prelude.{codes}
use Rattle.kat_num.specs.Names.{code_of}
use Rattle.kat_num.specs.One.{IsTheOne}
use Rattle.kat_script.specs.Grammar.{constant_marks, constants_marks, time_marks}
use Rattle.kat_script.specs.Front.{HasNoCallee, IsTime, IsWritten, Stops}
use Rattle.kat_script.specs.declared.marks.Mark.{Mark}
use Rattle.kat_script.specs.declared.marks.Mark.TheVariants.{Word, Number}
use Rattle.kat_lex.specs.declared.words.TheConstants.{ASK, DO}
use Rattle.kat_script.specs.declared.said.Constant.{Constant}
use Rattle.kat_script.specs.declared.said.Constant.TheVariants.{Natural, Negated, Named, Truth}
use Rattle.kat_script.specs.declared.said.Said.{Said}
use Rattle.kat_script.specs.declared.said.Said.TheVariants.{Replicas, Does, Ships, Delivers, Asks, Shows}

-- two constants at the same beginning are one
one_constant : (x y : Constant) (a b : List Mark) → constant_marks x ++ a ≡ constant_marks y ++ b → (x ≡ y) × (a ≡ b)
one_constant (Natural n) (Natural m) a b e = (cc, cc)
one_constant (Natural n) (Negated m) a b e = absurd cc
one_constant (Natural n) (Named m) a b e = absurd cc
one_constant (Natural n) (Truth true) a b e = absurd cc
one_constant (Natural n) (Truth false) a b e = absurd cc
one_constant (Negated n) (Natural m) a b e = absurd cc
one_constant (Negated n) (Negated m) a b e = (cc, cc)
one_constant (Negated n) (Named m) a b e = absurd cc
one_constant (Negated n) (Truth true) a b e = absurd cc
one_constant (Negated n) (Truth false) a b e = absurd cc
one_constant (Named n) (Natural m) a b e = absurd cc
one_constant (Named n) (Negated m) a b e = absurd cc
one_constant (Named n) (Named m) a b e = (cc, cc)
one_constant (Named n) (Truth true) a b e = absurd cc
one_constant (Named n) (Truth false) a b e = absurd cc
one_constant (Truth true) (Natural m) a b e = absurd cc
one_constant (Truth true) (Negated m) a b e = absurd cc
one_constant (Truth true) (Named m) a b e = absurd cc
one_constant (Truth true) (Truth true) a b e = (refl, cc)
one_constant (Truth true) (Truth false) a b e = absurd cc
one_constant (Truth false) (Natural m) a b e = absurd cc
one_constant (Truth false) (Negated m) a b e = absurd cc
one_constant (Truth false) (Named m) a b e = absurd cc
one_constant (Truth false) (Truth true) a b e = absurd cc
one_constant (Truth false) (Truth false) a b e = (refl, cc)

-- as many constants as there are, and what comes after them
pub one_split : (xs ys : List Constant) (a b : List Mark) → Stops a → Stops b
    → constants_marks xs ++ a ≡ constants_marks ys ++ b → (xs ≡ ys) × (a ≡ b)
one_split [] [] a b s t e = (refl, e)
one_split [] (y ∷ ys) a b s t e = absurd (s y (constants_marks ys ++ b) (e ∙ append_assoc (constant_marks y) (constants_marks ys) b))
one_split (x ∷ xs) [] a b s t e = absurd (t x (constants_marks xs ++ a) (sym e ∙ append_assoc (constant_marks x) (constants_marks xs) a))
one_split (x ∷ xs) (y ∷ ys) a b s t e =
    let f : constant_marks x ++ (constants_marks xs ++ a) ≡ constant_marks y ++ (constants_marks ys ++ b) =
    sym (append_assoc (constant_marks x) (constants_marks xs) a) ∙ e ∙ append_assoc (constant_marks y) (constants_marks ys) b in
    let one = one_constant x y (constants_marks xs ++ a) (constants_marks ys ++ b) f in
    let more = one_split xs ys a b s t one.1 in
    let same : x ≡ y = one.0 in
    let others : xs ≡ ys = more.0 in
    (cc, more.1)

nothing_stops : Stops []
nothing_stops (Natural n) rest e = cc
nothing_stops (Negated n) rest e = cc
nothing_stops (Named n) rest e = cc
nothing_stops (Truth true) rest e = cc
nothing_stops (Truth false) rest e = cc

time_stops : (time : Option ℕ) → Stops (time_marks time)
time_stops None c rest e = nothing_stops c rest e
time_stops (Some t) (Natural n) rest e = cc
time_stops (Some t) (Negated n) rest e = cc
time_stops (Some t) (Named n) rest e = cc
time_stops (Some t) (Truth true) rest e = cc
time_stops (Some t) (Truth false) rest e = cc

same_word : (a b : ℕ) (l m : List Mark) → Word a ∷ l ≡ Word b ∷ m → a ≡ b
same_word a b l m e = cc

eqb-same : (a b : ℕ) → a ≡ b → eqb a b ≡ true
eqb-same a b e = rw e (eq-eqb b b refl)

behind_word : (a b : ℕ) (l m : List Mark) → Word a ∷ l ≡ Word b ∷ m → l ≡ m
behind_word a b l m e = cc

-- lines that begin with different words are different
other_word : (a b : ℕ) (l m : List Mark) → eqb a b ≡ false → Word a ∷ l ≡ Word b ∷ m → ⊥
other_word a b l m d e = let t : eqb a b ≡ true = eqb-same a b (same_word a b l m e) in let f : true ≡ false = sym t ∙ d in cc

-- a line that begins so is an ask with these arguments, and nothing comes after them
pub asked : (r q : ℕ) (xs : List Constant) (rest : List Mark) → Stops rest → (said : Said)
    → IsWritten (Word ASK ∷ Number r ∷ Word q ∷ constants_marks xs ++ rest) said → (rest ≡ []) × (said ≡ Asks r q xs)
asked r q xs rest s (Replicas n) e = absurd (other_word ASK (code_of (codes "replicas")) _ _ refl e)
asked r q xs rest s (Does r' op args time) e = absurd (other_word ASK (code_of (codes "do")) _ _ refl e)
asked r q xs rest s (Ships r' packet) e = absurd (other_word ASK (code_of (codes "ship")) _ _ refl e)
asked r q xs rest s (Delivers packet r') e = absurd (other_word ASK (code_of (codes "deliver")) _ _ refl e)
asked r q xs rest s (Asks r' q' ys) e =
    let f : constants_marks xs ++ rest ≡ constants_marks ys = cc in
    let one = one_split xs ys rest [] s nothing_stops (f ∙ sym (append-nil (constants_marks ys))) in
    let others : xs ≡ ys = one.0 in
    (one.1, cc)
asked r q xs rest s (Shows r') e = absurd (other_word ASK (code_of (codes "show")) _ _ refl e)

-- a line that begins so does an operation with these arguments, and its time comes after them
pub done : (r op : ℕ) (xs : List Constant) (rest : List Mark) → Stops rest → (said : Said)
    → IsWritten (Word DO ∷ Number r ∷ Word op ∷ constants_marks xs ++ rest) said
    → (time : Option ℕ) × (rest ≡ time_marks time) × (said ≡ Does r op xs time)
done r op xs rest s (Replicas n) e = absurd (other_word DO (code_of (codes "replicas")) _ _ refl e)
done r op xs rest s (Does r' op' ys time) e =
    let f : constants_marks xs ++ rest ≡ constants_marks ys ++ time_marks time = cc in
    let one = one_split xs ys rest (time_marks time) s (time_stops time) f in
    let others : xs ≡ ys = one.0 in
    (time, one.1, cc)
done r op xs rest s (Ships r' packet) e = absurd (other_word DO (code_of (codes "ship")) _ _ refl e)
done r op xs rest s (Delivers packet r') e = absurd (other_word DO (code_of (codes "deliver")) _ _ refl e)
done r op xs rest s (Asks r' q ys) e = absurd (other_word DO (code_of (codes "ask")) _ _ refl e)
done r op xs rest s (Shows r') e = absurd (other_word DO (code_of (codes "show")) _ _ refl e)

-- an ask whose arguments end the line is the only thing that the line says
pub one_ask : (r q : ℕ) (xs : List Constant) (front tail : List Mark) → front ≡ Number r ∷ Word q ∷ tail → tail ≡ constants_marks xs
    → IsTheOne (IsWritten (Word ASK ∷ front)) (Some (Asks r q xs))
one_ask r q xs front tail e f =
    let all : front ≡ Number r ∷ Word q ∷ constants_marks xs ++ [] = e ∙ ap (λ m. Number r ∷ Word q ∷ m) (f ∙ sym (append-nil (constants_marks xs))) in
    (rw e (rw f refl), λ said w. (asked r q xs [] nothing_stops said (sym (ap (λ m. Word ASK ∷ m) all) ∙ w)).1)

-- if something else comes after the arguments, the line says nothing
pub no_ask : (r q : ℕ) (xs : List Constant) (front tail rest : List Mark) → front ≡ Number r ∷ Word q ∷ tail → tail ≡ constants_marks xs ++ rest
    → Stops rest → (rest ≡ [] → ⊥) → IsTheOne (IsWritten (Word ASK ∷ front)) None
no_ask r q xs front tail rest e f s some said w =
    let all : front ≡ Number r ∷ Word q ∷ constants_marks xs ++ rest = e ∙ ap (λ m. Number r ∷ Word q ∷ m) f in
    some (asked r q xs rest s said (sym (ap (λ m. Word ASK ∷ m) all) ∙ w)).0

pub no_callee_asked : (front : List Mark) → HasNoCallee front → IsTheOne (IsWritten (Word ASK ∷ front)) None
no_callee_asked front h (Replicas n) w = other_word ASK (code_of (codes "replicas")) _ _ refl w
no_callee_asked front h (Does r op args time) w = other_word ASK (code_of (codes "do")) _ _ refl w
no_callee_asked front h (Ships r packet) w = other_word ASK (code_of (codes "ship")) _ _ refl w
no_callee_asked front h (Delivers packet r) w = other_word ASK (code_of (codes "deliver")) _ _ refl w
no_callee_asked front h (Asks r q xs) w = h r q (constants_marks xs) (behind_word _ _ _ _ w)
no_callee_asked front h (Shows r) w = other_word ASK (code_of (codes "show")) _ _ refl w

pub no_callee_done : (front : List Mark) → HasNoCallee front → IsTheOne (IsWritten (Word DO ∷ front)) None
no_callee_done front h (Replicas n) w = other_word DO (code_of (codes "replicas")) _ _ refl w
no_callee_done front h (Does r op args time) w = h r op (constants_marks args ++ time_marks time) (behind_word _ _ _ _ w)
no_callee_done front h (Ships r packet) w = other_word DO (code_of (codes "ship")) _ _ refl w
no_callee_done front h (Delivers packet r) w = other_word DO (code_of (codes "deliver")) _ _ refl w
no_callee_done front h (Asks r q xs) w = other_word DO (code_of (codes "ask")) _ _ refl w
no_callee_done front h (Shows r) w = other_word DO (code_of (codes "show")) _ _ refl w

same_time : (a b : Option ℕ) → time_marks a ≡ time_marks b → a ≡ b
same_time None None e = refl
same_time None (Some b) e = absurd cc
same_time (Some a) None e = absurd cc
same_time (Some a) (Some b) e = cc

-- an operation whose arguments and time end the line is the only thing that the line says
pub one_do : (r op : ℕ) (xs : List Constant) (time : Option ℕ) (front tail rest : List Mark) → front ≡ Number r ∷ Word op ∷ tail
    → tail ≡ constants_marks xs ++ rest → rest ≡ time_marks time → IsTheOne (IsWritten (Word DO ∷ front)) (Some (Does r op xs time))
one_do r op xs time front tail rest e f t =
    let all : front ≡ Number r ∷ Word op ∷ constants_marks xs ++ time_marks time = e ∙ ap (λ m. Number r ∷ Word op ∷ m) (f ∙ ap (λ m. constants_marks xs ++ m) t) in (
      rw all refl,
      λ said w.
          let found = done r op xs (time_marks time) (time_stops time) said (sym (ap (λ m. Word DO ∷ m) all) ∙ w) in
          found.2 ∙ ap (λ o. Does r op xs o) (sym (same_time time found.0 found.1)),
    )

-- if something else comes after the arguments, the line says nothing
pub no_do : (r op : ℕ) (xs : List Constant) (front tail rest : List Mark) → front ≡ Number r ∷ Word op ∷ tail → tail ≡ constants_marks xs ++ rest
    → Stops rest → ((time : Option ℕ) → IsTime rest time → ⊥) → IsTheOne (IsWritten (Word DO ∷ front)) None
no_do r op xs front tail rest e f s some said w =
    let all : front ≡ Number r ∷ Word op ∷ constants_marks xs ++ rest = e ∙ ap (λ m. Number r ∷ Word op ∷ m) f in
    let found = done r op xs rest s said (sym (ap (λ m. Word DO ∷ m) all) ∙ w) in
    some found.0 found.1
