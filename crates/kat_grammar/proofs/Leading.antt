-- An expression that is formed is read whole, whatever encloses it.
use Rattle.std.proofs.Common.{◌≡◌, ℕ, ◌<◌, ◌≤◌, Bool, true, false, List, [], ◌∷◌, ◌++◌, refl, ◌∙◌, ap, arith, Option, Some}
use Rattle.std.specs.Prelude.{nat_le, if◌then◌else◌}
use Rattle.kat_grammar.specs.Phrases.{Form, IsFormed, constant_tokens, form_tokens, left_level, level_of, level_of_operator, right_level, token, word_token}
use Rattle.kat_grammar.specs.Phrases.Form.{constant, word, entry, negation, joined, chosen, branches, parens}
use Rattle.kat_grammar.specs.Sizes.{Load, constant_loads, form_loads, other}
use Rattle.kat_grammar.specs.Stacks.{Part, Reading, around, attach, begin_operand, close, depth, ended, go_else, go_second, go_then, load_read, place, read_on, wanted}
use Rattle.kat_grammar.specs.Stacks.Part.{left_part, not_part, open_part, first_part, second_part, if_part, then_part, else_part}
use Rattle.kat_grammar.specs.Stacks.Reading.{want, have}
use Rattle.kat_grammar.specs.declared.marks.Operator.{Operator}
use Rattle.kat_grammar.specs.declared.marks.Operator.TheVariants as operator
use Rattle.kat_grammar.specs.declared.marks.Mark.TheVariants as mark
use Rattle.kat_grammar.specs.declared.marks.Placed.{Placed}
use Rattle.kat_grammar.specs.declared.phrases.Constant.{Constant}
use Rattle.kat_grammar.specs.declared.phrases.Constant.TheVariants.{Natural, Negative, Literal, Truth}

-- tokens lead from one reading to another, and add so much
pub data Runs : Reading → List Placed → List Load → Reading → Type 0 where
  rests : {r : Reading} → Runs r [] [] r
  takes : {r s u : Reading} {ts : List Placed} {ls : List Load} (t : Placed) → read_on r t.mark t.at ≡ Some s → Runs s ts ls u → Runs r (t ∷ ts) (load_read s ∷ ls) u

pub runs_on : {r s u : Reading} {ts us : List Placed} {ls ms : List Load} → Runs r ts ls s → Runs s us ms u → Runs r (ts ++ us) (ls ++ ms) u
runs_on rests b = b
runs_on (takes t e a) b = takes t e (runs_on a b)

-- an operand in its stack is this one in that stack, once what ends with it has ended
pub data Stands : Form → List Part → Form → List Part → Type 0 where
  here : {f : Form} {s : List Part} → Stands f s f s
  past_left : {f g : Form} {s r : List Part} (op : Operator) (at : ℕ) (a : Form) → right_level op ≤ level_of f
      → Stands (joined op at a f) s g r → Stands f (left_part op at a ∷ s) g r
  past_not : {f g : Form} {s r : List Part} (at : ℕ) → 3 ≤ level_of f → Stands (negation at f) s g r → Stands f (not_part at ∷ s) g r
  past_else : {f g : Form} {s r : List Part} (at : ℕ) (c : Form) (then_at : ℕ) (a : Form) (else_at : ℕ)
      → Stands (branches at c then_at a else_at f) s g r → Stands f (else_part at c then_at a else_at ∷ s) g r

stands_on : {f g h : Form} {s r q : List Part} → Stands f s g r → Stands g r h q → Stands f s h q
stands_on here b = b
stands_on (past_left op at a l x) b = past_left op at a l (stands_on x b)
stands_on (past_not at l x) b = past_not at l (stands_on x b)
stands_on (past_else at c then_at a else_at x) b = past_else at c then_at a else_at (stands_on x b)

pub stands_ended : {f g : Form} {s r : List Part} → Stands f s g r → ended f s ≡ ended g r
stands_ended here = refl
stands_ended (past_left op at a l x) = stands_ended x
stands_ended (past_not at l x) = stands_ended x
stands_ended (past_else at c then_at a else_at x) = stands_ended x

pub stands_around : {f g : Form} {s r : List Part} → Stands f s g r → around s ≡ around r
stands_around here = refl
stands_around (past_left op at a l x) = stands_around x
stands_around (past_not at l x) = stands_around x
stands_around (past_else at c then_at a else_at x) = stands_around x

-- what has ended binds no tighter than its last operand
looser : {f g : Form} {s r : List Part} → Stands f s g r → level_of g ≤ level_of f
looser here = omega arith
looser (past_left op at a l x) = let h = looser x in omega (arith, h, l)
looser (past_not at l x) = let h = looser x in omega (arith, h, l)
looser (past_else at c then_at a else_at x) = let h = looser x in omega (arith, h)

operator_at_most : (op : Operator) → level_of_operator op ≤ left_level op
operator_at_most operator.Or = omega arith
operator_at_most operator.And = omega arith
operator_at_most operator.Less = omega arith
operator_at_most operator.AtMost = omega arith
operator_at_most operator.Same = omega arith
operator_at_most operator.Plus = omega arith
operator_at_most operator.Minus = omega arith

operator_some : (op : Operator) → 1 ≤ level_of_operator op
operator_some operator.Or = omega arith
operator_some operator.And = omega arith
operator_some operator.Less = omega arith
operator_some operator.AtMost = omega arith
operator_some operator.Same = omega arith
operator_some operator.Plus = omega arith
operator_some operator.Minus = omega arith

-- an operator that takes a negation to its left binds less tightly
behind_not : (op : Operator) → left_level op ≤ 3 → level_of_operator op < 3
behind_not operator.Or h = omega arith
behind_not operator.And h = omega arith
behind_not operator.Less h = absurd (omega (arith, h))
behind_not operator.AtMost h = absurd (omega (arith, h))
behind_not operator.Same h = absurd (omega (arith, h))
behind_not operator.Plus h = absurd (omega (arith, h))
behind_not operator.Minus h = absurd (omega (arith, h))

pub le_true : (a b : ℕ) → a ≤ b → nat_le a b ≡ true
le_true a b h = grind (arith, h)

pub le_false : (a b : ℕ) → b < a → nat_le a b ≡ false
le_false a b h = grind (arith, h)

pub choose_true : {A : Type 0} (b : Bool) (x y : A) → b ≡ true → (if b then x else y) ≡ x
choose_true true x y e = refl
choose_true false x y e = absurd cc

pub choose_false : {A : Type 0} (b : Bool) (x y : A) → b ≡ false → (if b then x else y) ≡ y
choose_false true x y e = absurd cc
choose_false false x y e = refl

placed_here : (op : Operator) (at : ℕ) (f : Form) (s : List Part) → left_level op ≤ level_of f → place op at f s ≡ Some (want (left_part op at f ∷ s))
placed_here op at f s h = choose_true (nat_le (left_level op) (level_of f)) _ _ (le_true _ _ h)

attach_here : (op : Operator) (at : ℕ) (f : Form) (s : List Part) → left_level op ≤ level_of f → wanted s ≤ level_of_operator op
    → attach op at f s ≡ Some (want (left_part op at f ∷ s))
attach_here op at f [] h w = placed_here op at f [] h
attach_here op at f (left_part other other_at a ∷ s) h w =
    choose_true (nat_le (right_level other) (level_of_operator op)) _ _ (le_true _ _ w) ∙ placed_here op at f (left_part other other_at a ∷ s) h
attach_here op at f (not_part not_at ∷ s) h w =
    choose_true (nat_le 3 (level_of_operator op)) _ _ (le_true _ _ w) ∙ placed_here op at f (not_part not_at ∷ s) h
attach_here op at f (open_part x ∷ s) h w = placed_here op at f (open_part x ∷ s) h
attach_here op at f (first_part x y z ∷ s) h w = placed_here op at f (first_part x y z ∷ s) h
attach_here op at f (second_part x y z u v ∷ s) h w = placed_here op at f (second_part x y z u v ∷ s) h
attach_here op at f (if_part x ∷ s) h w = placed_here op at f (if_part x ∷ s) h
attach_here op at f (then_part x y z ∷ s) h w = placed_here op at f (then_part x y z ∷ s) h
attach_here op at f (else_part x y z u v ∷ s) h w = placed_here op at f (else_part x y z u v ∷ s) h

-- an operator is attached to what has ended before it
attach_stands : {f g : Form} {s r : List Part} (op : Operator) (at : ℕ) → Stands f s g r → left_level op ≤ level_of g → wanted r ≤ level_of_operator op
    → attach op at f s ≡ Some (want (left_part op at g ∷ r))
attach_stands {g = g} {r = r} op at here h w = attach_here op at g r h w
attach_stands op at (past_left other other_at a l x) h w =
    let down = looser x in
    let less = operator_at_most op in
    choose_false (nat_le (right_level other) (level_of_operator op)) _ _ (le_false _ _ (omega (arith, down, less, h))) ∙ attach_stands op at x h w
attach_stands op at (past_not not_at l x) h w =
    let down = looser x in
    let less = behind_not op (omega (arith, down, h)) in
    choose_false (nat_le 3 (level_of_operator op)) _ _ (le_false _ _ less) ∙ attach_stands op at x h w
attach_stands op at (past_else x1 c x2 a x3 x) h w =
    let down = looser x in
    let least = operator_some op in
    let less = operator_at_most op in
    absurd (omega (arith, down, h, least, less))

-- the operand of a stack, read whole
pub record Leads (s : List Part) (w : List Placed) (ls : List Load) (f : Form) : Type 0 where
  pub form : Form
  pub stack : List Part
  pub stands : Stands form stack f s
  pub runs : Runs (want s) w ls (have form stack)

at_once : (s : List Part) (w : List Placed) (ls : List Load) (f : Form) → Runs (want s) w ls (have f s) → Leads s w ls f
at_once s w ls f r = record { form = f; stack = s; stands = here; runs = r }

leads_constant : (c : Constant) (s : List Part) → Leads s (constant_tokens c) (constant_loads (depth s) c) (constant c)
leads_constant (Natural at n) s = at_once s _ _ _ (takes (token (mark.Number n) at) refl rests)
leads_constant (Negative at number_at n) s =
    at_once s _ _ _ (takes (token (mark.Operator operator.Minus) at) refl (takes (token (mark.Number n) number_at) refl rests))
leads_constant (Literal at name) s = at_once s _ _ _ (takes (token (mark.Literal name) at) refl rests)
leads_constant (Truth at b) s = at_once s _ _ _ (takes (token (mark.Truth b) at) refl rests)

if_opens : (s : List Part) (at : ℕ) → wanted s ≤ 0 → begin_operand s mark.If at ≡ Some (want (if_part at ∷ s))
if_opens s at h = choose_true (nat_le (wanted s) 0) _ _ (le_true _ _ h)

not_opens : (s : List Part) (at : ℕ) → wanted s ≤ 3 → begin_operand s mark.Not at ≡ Some (want (not_part at ∷ s))
not_opens s at h = choose_true (nat_le (wanted s) 3) _ _ (le_true _ _ h)

-- a token that ends what has ended before it
closes : (f g : Form) (s r : List Part) {o : Option Reading} (goes : Form → List Part → Option Reading) → Stands f s g r → goes (ended g r) (around r) ≡ o
    → goes (ended f s) (around s) ≡ o
closes f g s r goes x e = ap (λ h. goes h (around s)) (stands_ended x) ∙ ap (goes (ended g r)) (stands_around x) ∙ e

pub leads : (f : Form) → IsFormed f → (s : List Part) → wanted s ≤ level_of f → Leads s (form_tokens f) (form_loads (depth s) f) f
leads (constant c) i s h = leads_constant c s
leads (word w) i s h = at_once s _ _ _ (takes (word_token w) refl rests)
leads (entry table open_at key close_at) i s h =
    at_once s _ _ _ (takes (word_token table) refl (takes (token mark.OpenBracket open_at) refl (takes (word_token key) refl (takes (token mark.CloseBracket close_at) refl rests))))
leads (negation at a) i s h =
    let inner = leads a i.0 (not_part at ∷ s) i.1 in
    record {
      form = inner.form;
      stack = inner.stack;
      stands = stands_on inner.stands (past_not at i.1 here);
      runs = takes (token mark.Not at) (not_opens s at h) inner.runs;
    }
leads (joined op at a b) i s h =
    let left = leads a i.0 s (omega (arith, h, i.2, operator_at_most op)) in
    let right = leads b i.1 (left_part op at a ∷ s) i.3 in
    record {
      form = right.form;
      stack = right.stack;
      stands = stands_on right.stands (past_left op at a i.3 here);
      runs = runs_on left.runs (takes (token (mark.Operator op) at) (attach_stands op at left.stands i.2 h) right.runs);
    }
leads (chosen e at open_at a comma b close_at) i s h =
    let left = leads a i.0 (first_part e at open_at ∷ s) (omega arith) in
    let right = leads b i.1 (second_part e at open_at a comma ∷ s) (omega arith) in
    at_once s _ _ _
    (takes (token (mark.Extreme e) at) refl
    (takes (token mark.Open open_at) refl
    (runs_on (runs_on left.runs
    (takes (token mark.Comma comma) (closes left.form a left.stack (first_part e at open_at ∷ s) (λ f r. go_second f r comma) left.stands refl) right.runs))
    (takes (token mark.Close close_at) (closes right.form b right.stack (second_part e at open_at a comma ∷ s) (λ f r. close f r close_at) right.stands refl) rests))))
leads (branches at c then_at a else_at b) i s h =
    let test = leads c i.0 (if_part at ∷ s) (omega arith) in
    let left = leads a i.1 (then_part at c then_at ∷ s) (omega arith) in
    let right = leads b i.2 (else_part at c then_at a else_at ∷ s) (omega arith) in
    record {
      form = right.form;
      stack = right.stack;
      stands = stands_on right.stands (past_else at c then_at a else_at here);
      runs = takes (token mark.If at) (if_opens s at h)
          (runs_on (runs_on test.runs
          (takes (token mark.Then then_at) (closes test.form c test.stack (if_part at ∷ s) (λ f r. go_then f r then_at) test.stands refl) left.runs))
          (takes (token mark.Else else_at) (closes left.form a left.stack (then_part at c then_at ∷ s) (λ f r. go_else f r else_at) left.stands refl) right.runs));
    }
leads (parens open_at a close_at) i s h =
    let inner = leads a i (open_part open_at ∷ s) (omega arith) in
    at_once s _ _ _
    (takes (token mark.Open open_at) refl
    (runs_on inner.runs
    (takes (token mark.Close close_at) (closes inner.form a inner.stack (open_part open_at ∷ s) (λ f r. close f r close_at) inner.stands refl) rests)))
