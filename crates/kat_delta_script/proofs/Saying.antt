-- The tokens of a line of a script with deltas say one thing or nothing.
use Rattle.std.proofs.Common.{◌≡◌, ℕ, Bool, true, false, List, [], ◌∷◌, refl, sym, ◌∙◌, ap, subst, eqb, eq-eqb, Option, None, Some}
use Rattle.std.specs.Prelude.{codes}
use Rattle.kat_num.specs.Names.{code_of}
use Rattle.kat_num.specs.One.{IsTheOne}
use Rattle.kat_lex.specs.declared.lexer.Token.{Token}
use Rattle.kat_script.specs.Grammar.{Says, line_marks}
use Rattle.kat_script.specs.Marks.{marks_of}
use Rattle.kat_script.specs.declared.marks.Mark.{Mark}
use Rattle.kat_script.specs.declared.marks.Mark.TheVariants.{Word, Number}
use Rattle.kat_script.specs.declared.said.Said.{Said}
use Rattle.kat_script.specs.declared.said.Said.TheVariants.{Replicas, Does, Ships, Delivers, Asks, Shows}
use Rattle.kat_script.proofs.Saying.{SaysOrNot, are_same, first_of, no_tokens, nothing, number_of, one_said, rest_of, same_self, same_sound, says_or_not, something, word_of}
use Rattle.kat_delta_script.specs.Grammar.{AreDeltaMarks, IsDelta, SaysEither, SaysSo, delta_marks}
use Rattle.kat_delta_script.specs.declared.statement.Statement.{Statement}

same_word : (a b : ℕ) (l m : List Mark) → Word a ∷ l ≡ Word b ∷ m → a ≡ b
same_word a b l m e = cc

eqb_same : (a b : ℕ) → a ≡ b → eqb a b ≡ true
eqb_same a b e = eq-eqb a b e

-- lines that begin with different words are different
other_word : (a b : ℕ) (l m : List Mark) → eqb a b ≡ false → Word a ∷ l ≡ Word b ∷ m → ⊥
other_word a b l m d e = let t : eqb a b ≡ true = eqb_same a b (same_word a b l m e) in let f : true ≡ false = sym t ∙ d in cc

-- no line of scripts makes a delta
no_line : (said : Said) (r packet from : ℕ) → line_marks said ≡ delta_marks r packet from → ⊥
no_line (Replicas n) r packet from e = other_word (code_of (codes "replicas")) (code_of (codes "delta")) _ _ refl e
no_line (Does q op args time) r packet from e = other_word (code_of (codes "do")) (code_of (codes "delta")) _ _ refl e
no_line (Ships q word) r packet from e = other_word (code_of (codes "ship")) (code_of (codes "delta")) _ _ refl e
no_line (Delivers word q) r packet from e = other_word (code_of (codes "deliver")) (code_of (codes "delta")) _ _ refl e
no_line (Asks q query args) r packet from e = other_word (code_of (codes "ask")) (code_of (codes "delta")) _ _ refl e
no_line (Shows q) r packet from e = other_word (code_of (codes "show")) (code_of (codes "delta")) _ _ refl e

not_both : (tokens : List Token) (plain said : Said) (from : ℕ) → Says tokens plain → AreDeltaMarks (marks_of tokens) said (Some from) → ⊥
not_both tokens plain (Replicas n) from h k = k
not_both tokens plain (Does r op args time) from h k = k
not_both tokens plain (Ships r packet) from h k = no_line plain r packet from (sym h.written ∙ k)
not_both tokens plain (Delivers packet r) from h k = k
not_both tokens plain (Asks r query args) from h k = k
not_both tokens plain (Shows r) from h k = k

-- the parts of such marks
parts_at : (a b r p c s q d : ℕ) → Word a ∷ Number r ∷ Word p ∷ Word b ∷ Number c ∷ [] ≡ Word a ∷ Number s ∷ Word q ∷ Word b ∷ Number d ∷ [] → (r ≡ s) × (p ≡ q) × (c ≡ d)
parts_at a b r p c s q d e = (cc, cc, cc)

same_ship : (r p s q c d : ℕ) → (r ≡ s) × (p ≡ q) × (c ≡ d) → (Ships r p ≡ Ships s q) × (◌≡◌ {A = Option ℕ} (Some c) (Some d))
same_ship r p s q c d h =
    let a : r ≡ s = h.0 in
    let b : p ≡ q = h.1 in
    let e : c ≡ d = h.2 in
    (λ i. Ships (a i) (b i), λ i. Some (e i))

one_delta : (marks : List Mark) (some other : Said) (c d : ℕ) → AreDeltaMarks marks some (Some c) → AreDeltaMarks marks other (Some d) → (some ≡ other) × (◌≡◌ {A = Option ℕ} (Some c) (Some d))
one_delta marks (Replicas n) other c d h k = absurd h
one_delta marks (Does r op args time) other c d h k = absurd h
one_delta marks (Ships r p) (Replicas n) c d h k = absurd k
one_delta marks (Ships r p) (Does s op args time) c d h k = absurd k
one_delta marks (Ships r p) (Ships s q) c d h k = same_ship r p s q c d (parts_at (code_of (codes "delta")) (code_of (codes "from")) r p c s q d (sym h ∙ k))
one_delta marks (Ships r p) (Delivers word s) c d h k = absurd k
one_delta marks (Ships r p) (Asks s query args) c d h k = absurd k
one_delta marks (Ships r p) (Shows s) c d h k = absurd k
one_delta marks (Delivers word r) other c d h k = absurd h
one_delta marks (Asks r query args) other c d h k = absurd h
one_delta marks (Shows r) other c d h k = absurd h

one_of : (tokens : List Token) (some other : Said) (f g : Option ℕ) → SaysEither tokens some f → SaysEither tokens other g → (some ≡ other) × (f ≡ g)
one_of tokens some other None None h k = (one_said tokens some other h k, refl)
one_of tokens some other None (Some d) h k = absurd (not_both tokens some other d h k)
one_of tokens some other (Some c) None h k = absurd (not_both tokens other some c k h)
one_of tokens some other (Some c) (Some d) h k = one_delta (marks_of tokens) some other c d h k

same_statement : (some other : Statement) → (some.said ≡ other.said) × (some.from ≡ other.from) → some ≡ other
same_statement some other h =
    let a : some.said ≡ other.said = h.0 in
    let b : some.from ≡ other.from = h.1 in
    λ i. record { said = a i; from = b i }

-- the tokens of a line say one thing
pub one_statement : (tokens : List Token) (some other : Statement) → SaysSo tokens some → SaysSo tokens other → some ≡ other
one_statement tokens some other h k = same_statement some other (one_of tokens some.said other.said some.from other.from h k)

-- they say something, or nothing
pub data StatedOrNot (tokens : List Token) : Type 0 where
  stated : (statement : Statement) → SaysSo tokens statement → StatedOrNot tokens
  not_stated : ((statement : Statement) → SaysSo tokens statement → ⊥) → StatedOrNot tokens

abbrev pub plain : Said → Statement
plain said = record { said = said; from = None }

abbrev pub making : ℕ → ℕ → ℕ → Statement
making r packet from = record { said = Ships r packet; from = Some from }

-- the tokens at the places of a delta's parts
abbrev replica_in : List Mark → ℕ
replica_in marks = number_of (first_of (rest_of marks))

abbrev packet_in : List Mark → ℕ
packet_in marks = word_of (first_of (rest_of (rest_of marks)))

abbrev from_in : List Mark → ℕ
from_in marks = number_of (first_of (rest_of (rest_of (rest_of (rest_of marks)))))

abbrev guessed : List Mark → List Mark
guessed marks = delta_marks (replica_in marks) (packet_in marks) (from_in marks)

guess_delta : (marks : List Mark) (said : Said) (from : Option ℕ) → AreDeltaMarks marks said from → marks ≡ guessed marks
guess_delta marks (Ships r packet) (Some from) h = h ∙ ap guessed (sym h)
guess_delta marks (Ships r packet) None h = absurd h
guess_delta marks (Replicas n) from h = absurd h
guess_delta marks (Does r op args time) from h = absurd h
guess_delta marks (Delivers packet r) from h = absurd h
guess_delta marks (Asks r query args) from h = absurd h
guess_delta marks (Shows r) from h = absurd h

either : (tokens : List Token) (said : Said) (from : Option ℕ) → ((s : Said) → Says tokens s → ⊥) → SaysEither tokens said from → AreDeltaMarks (marks_of tokens) said from
either tokens said None none h = absurd (none said h)
either tokens said (Some from) none h = h

by_test : (tokens : List Token) (same : Bool) → are_same (marks_of tokens) (guessed (marks_of tokens)) ≡ same → ((s : Said) → Says tokens s → ⊥) → StatedOrNot tokens
by_test tokens true e none =
    let marks = marks_of tokens in
    stated (making (replica_in marks) (packet_in marks) (from_in marks)) (same_sound marks (guessed marks) e)
by_test tokens false e none = not_stated (λ statement h.
    let marks = marks_of tokens in
    let g : marks ≡ guessed marks = guess_delta marks statement.said statement.from (either tokens statement.said statement.from none h) in
    let t : are_same marks (guessed marks) ≡ true = ap (λ ms. are_same marks ms) (sym g) ∙ same_self marks in
    let u : true ≡ false = sym t ∙ e in cc)

by_line : (tokens : List Token) → SaysOrNot tokens → StatedOrNot tokens
by_line tokens (something said s) = stated (plain said) s
by_line tokens (nothing none) = by_test tokens (are_same (marks_of tokens) (guessed (marks_of tokens))) refl none

pub stated_or_not : (tokens : List Token) → StatedOrNot tokens
stated_or_not tokens = by_line tokens (says_or_not tokens)

-- no tokens say nothing
no_marks : (said : Said) (from : ℕ) → AreDeltaMarks [] said (Some from) → ⊥
no_marks (Replicas n) from h = h
no_marks (Does r op args time) from h = h
no_marks (Ships r packet) from h = cc
no_marks (Delivers packet r) from h = h
no_marks (Asks r query args) from h = h
no_marks (Shows r) from h = h

nothing_from : (said : Said) (from : Option ℕ) → SaysEither [] said from → ⊥
nothing_from said None h = no_tokens said h
nothing_from said (Some from) h = no_marks said from h

pub no_statement : (statement : Statement) → SaysSo [] statement → ⊥
no_statement statement h = nothing_from statement.said statement.from h

-- what the code finds
pub the_plain : (tokens : List Token) (said : Said) → Says tokens said → IsTheOne (SaysSo tokens) (Some (plain said))
the_plain tokens said h = (h, λ other k. one_statement tokens other (plain said) k h)

so_said : (tokens : List Token) (said : Said) (from : Option ℕ) → AreDeltaMarks (marks_of tokens) said from → SaysEither tokens said from
so_said tokens said (Some from) h = h
so_said tokens (Replicas n) None h = absurd h
so_said tokens (Does r op args time) None h = absurd h
so_said tokens (Ships r packet) None h = absurd h
so_said tokens (Delivers packet r) None h = absurd h
so_said tokens (Asks r query args) None h = absurd h
so_said tokens (Shows r) None h = absurd h

pub the_delta : (tokens : List Token) (marks : List Mark) (o : Option Statement) → marks ≡ marks_of tokens → ((said : Said) → Says tokens said → ⊥) → IsTheOne (IsDelta marks) o → IsTheOne (SaysSo tokens) o
the_delta tokens marks None same none h = λ statement k. h statement (subst (λ (ms : List Mark). AreDeltaMarks ms statement.said statement.from) (sym same) (either tokens statement.said statement.from none k))
the_delta tokens marks (Some found) same none h =
    let says : SaysSo tokens found = so_said tokens found.said found.from (subst (λ (ms : List Mark). AreDeltaMarks ms found.said found.from) same h.0) in
    (says, λ other k. one_statement tokens other found k says)
