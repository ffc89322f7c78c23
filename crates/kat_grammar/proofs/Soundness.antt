-- What was read of an expression is what its reading says, and each reading can be completed.
use Rattle.std.proofs.Common.{◌≡◌, ℕ, ◌≤◌, Bool, true, false, List, [], ◌∷◌, ◌++◌, refl, sym, ◌∙◌, ap, subst, arith, append_assoc, Option, None, Some}
use Rattle.std.specs.Prelude.{nat_le, unwrap_or, if◌then◌else◌}
use Rattle.std.proofs.lemmas.Bool.{leb-true}
use Rattle.kat_grammar.specs.Phrases.{Form, IsFormed, form_tokens, left_level, level_of, level_of_operator, right_level, token, word_token}
use Rattle.kat_grammar.specs.Phrases.Form.{constant, word, entry, negation, joined, chosen, branches, parens}
use Rattle.kat_grammar.specs.Stacks.{Part, Reading, after_extreme, after_key, after_minus, after_operand, after_table, around, attach, begin_operand, close, ended, go_else, go_second, go_then, open_entry, place, read_on, wanted}
use Rattle.kat_grammar.specs.Stacks.Part.{left_part, not_part, open_part, first_part, second_part, if_part, then_part, else_part}
use Rattle.kat_grammar.specs.Stacks.Reading.{want, minus_read, extreme_read, table_read, key_read, have}
use Rattle.kat_grammar.specs.declared.marks.Extreme.{Extreme}
use Rattle.kat_grammar.specs.declared.marks.Operator.{Operator}
use Rattle.kat_grammar.specs.declared.marks.Operator.TheVariants as operator
use Rattle.kat_grammar.specs.declared.marks.Mark.{Mark}
use Rattle.kat_grammar.specs.declared.marks.Mark.TheVariants as mark
use Rattle.kat_grammar.specs.declared.marks.Placed.{Placed}
use Rattle.kat_grammar.specs.declared.phrases.Constant.TheVariants.{Natural, Negative, Literal, Truth}
use Rattle.kat_grammar.specs.declared.phrases.Word.{Word}

abbrev op_token : Operator → ℕ → Placed
op_token op at = token (mark.Operator op) at

-- the tokens of what is open
abbrev pub part_tokens : Part → List Placed
part_tokens (left_part op at a) = form_tokens a ++ op_token op at ∷ []
part_tokens (not_part at) = token mark.Not at ∷ []
part_tokens (open_part open_at) = token mark.Open open_at ∷ []
part_tokens (first_part e at open_at) = token (mark.Extreme e) at ∷ token mark.Open open_at ∷ []
part_tokens (second_part e at open_at a comma) = token (mark.Extreme e) at ∷ token mark.Open open_at ∷ (form_tokens a ++ token mark.Comma comma ∷ [])
part_tokens (if_part at) = token mark.If at ∷ []
part_tokens (then_part at c then_at) = token mark.If at ∷ (form_tokens c ++ token mark.Then then_at ∷ [])
part_tokens (else_part at c then_at a else_at) =
    token mark.If at ∷ (form_tokens c ++ (token mark.Then then_at ∷ (form_tokens a ++ token mark.Else else_at ∷ [])))

abbrev pub before : List Part → List Placed
before [] = []
before (part ∷ s) = before s ++ part_tokens part

-- the tokens that were read
abbrev pub written : Reading → List Placed
written (want s) = before s
written (minus_read at s) = before s ++ op_token operator.Minus at ∷ []
written (extreme_read e at s) = before s ++ token (mark.Extreme e) at ∷ []
written (table_read table open_at s) = before s ++ word_token table ∷ token mark.OpenBracket open_at ∷ []
written (key_read table open_at key s) = before s ++ word_token table ∷ token mark.OpenBracket open_at ∷ word_token key ∷ []
written (have f s) = before s ++ form_tokens f

-- each part fits where it is
abbrev pub IsPart : Part → List Part → Type 0
IsPart (left_part op at a) s = IsFormed a × (left_level op ≤ level_of a) × (wanted s ≤ level_of_operator op)
IsPart (not_part at) s = wanted s ≤ 3
IsPart (second_part e at open_at a comma) s = IsFormed a
IsPart (if_part at) s = wanted s ≤ 0
IsPart (then_part at c then_at) s = (wanted s ≤ 0) × IsFormed c
IsPart (else_part at c then_at a else_at) s = (wanted s ≤ 0) × IsFormed c × IsFormed a
IsPart part s = Unit {0}

abbrev pub IsStack : List Part → Type 0
IsStack [] = Unit {0}
IsStack (part ∷ s) = IsStack s × IsPart part s

abbrev pub IsReading : Reading → Type 0
IsReading (want s) = IsStack s
IsReading (minus_read at s) = IsStack s
IsReading (extreme_read e at s) = IsStack s
IsReading (table_read table open_at s) = IsStack s
IsReading (key_read table open_at key s) = IsStack s
IsReading (have f s) = IsStack s × IsFormed f × (wanted s ≤ level_of f)

-- a reading that is good, and has read these tokens
pub record Sound (w : List Placed) (r : Reading) : Type 0 where
  pub good : IsReading r
  pub says : w ≡ written r

some_is : {A : Type 0} {a b : A} → Some a ≡ Some b → a ≡ b
some_is {a = a} e = ap (λ o. unwrap_or o a) e

along : {w : List Placed} {r s : Reading} → Some r ≡ Some s → Sound w r → Sound w s
along {w = w} e x = subst (Sound w) (some_is e) x

moved : {w v : List Placed} {r : Reading} → w ≡ v → Sound v r → Sound w r
moved e x = record { good = x.good; says = e ∙ x.says }

guarded : {w : List Placed} {r s : Reading} (b : Bool) → (if b then Some r else None) ≡ Some s → (b ≡ true → Sound w r) → Sound w s
guarded true e x = along e (x refl)
guarded false e x = absurd cc

wanted_at_most : (s : List Part) → wanted s ≤ 6
wanted_at_most [] = omega arith
wanted_at_most (left_part operator.Or at a ∷ s) = omega arith
wanted_at_most (left_part operator.And at a ∷ s) = omega arith
wanted_at_most (left_part operator.Less at a ∷ s) = omega arith
wanted_at_most (left_part operator.AtMost at a ∷ s) = omega arith
wanted_at_most (left_part operator.Same at a ∷ s) = omega arith
wanted_at_most (left_part operator.Plus at a ∷ s) = omega arith
wanted_at_most (left_part operator.Minus at a ∷ s) = omega arith
wanted_at_most (not_part at ∷ s) = omega arith
wanted_at_most (open_part x ∷ s) = omega arith
wanted_at_most (first_part x y z ∷ s) = omega arith
wanted_at_most (second_part x y z u v ∷ s) = omega arith
wanted_at_most (if_part x ∷ s) = omega arith
wanted_at_most (then_part x y z ∷ s) = omega arith
wanted_at_most (else_part x y z u v ∷ s) = omega arith

-- a primary
whole : {w : List Placed} (f : Form) (s : List Part) → IsStack s → IsFormed f → 6 ≤ level_of f → w ≡ before s ++ form_tokens f → Sound w (have f s)
whole f s g i h e = let most = wanted_at_most s in record { good = (g, i, omega (arith, most, h)); says = e }

begin_sound : (s : List Part) (m : Mark) (at : ℕ) (r : Reading) → IsStack s → begin_operand s m at ≡ Some r → Sound (before s ++ token m at ∷ []) r
begin_sound s (mark.Number n) at r g e = along e (whole (constant (Natural at n)) s g tt (omega arith) refl)
begin_sound s (mark.Literal n) at r g e = along e (whole (constant (Literal at n)) s g tt (omega arith) refl)
begin_sound s (mark.Truth b) at r g e = along e (whole (constant (Truth at b)) s g tt (omega arith) refl)
begin_sound s (mark.Word code) at r g e = along e (whole (word (record { at = at; code = code })) s g tt (omega arith) refl)
begin_sound s (mark.Operator operator.Minus) at r g e = along e (record { good = g; says = refl })
begin_sound s (mark.Extreme x) at r g e = along e (record { good = g; says = refl })
begin_sound s mark.If at r g e = guarded (nat_le (wanted s) 0) e (λ b. record { good = (g, leb-true (wanted s) 0 b); says = refl })
begin_sound s mark.Not at r g e = guarded (nat_le (wanted s) 3) e (λ b. record { good = (g, leb-true (wanted s) 3 b); says = refl })
begin_sound s mark.Open at r g e = along e (record { good = (g, tt); says = refl })
begin_sound s m at r g e = absurd cc

-- how tokens are put together
joins : (x a f : List Placed) (t : Placed) → x ++ (a ++ t ∷ []) ++ f ≡ x ++ (a ++ t ∷ f)
joins x a f t = append_assoc x (a ++ t ∷ []) f ∙ ap (λ l. x ++ l) (append_assoc a (t ∷ []) f)

joins_if : (x c a f : List Placed) (i t e : Placed) → x ++ (i ∷ (c ++ (t ∷ (a ++ e ∷ [])))) ++ f ≡ x ++ (i ∷ (c ++ t ∷ a ++ e ∷ f))
joins_if x c a f i t e =
    append_assoc x (i ∷ (c ++ (t ∷ (a ++ e ∷ [])))) f
    ∙ ap (λ l. x ++ (i ∷ l)) (append_assoc c (t ∷ (a ++ e ∷ [])) f ∙ ap (λ l. c ++ t ∷ l) (append_assoc a (e ∷ []) f) ∙ sym (append_assoc c (t ∷ a) (e ∷ f)))

ends_parens : (x f : List Placed) (o c : Placed) → x ++ o ∷ [] ++ f ++ c ∷ [] ≡ x ++ (o ∷ (f ++ c ∷ []))
ends_parens x f o c = append_assoc (x ++ o ∷ []) f (c ∷ []) ∙ append_assoc x (o ∷ []) (f ++ c ∷ [])

ends_first : (x f : List Placed) (m o c : Placed) → x ++ (m ∷ o ∷ []) ++ f ++ c ∷ [] ≡ x ++ (m ∷ o ∷ (f ++ c ∷ []))
ends_first x f m o c = append_assoc (x ++ m ∷ o ∷ []) f (c ∷ []) ∙ append_assoc x (m ∷ o ∷ []) (f ++ c ∷ [])

ends_second : (x a f : List Placed) (m o t c : Placed) → x ++ (m ∷ o ∷ (a ++ t ∷ [])) ++ f ++ c ∷ [] ≡ x ++ (m ∷ o ∷ (a ++ t ∷ f ++ c ∷ []))
ends_second x a f m o t c =
    append_assoc (x ++ (m ∷ o ∷ (a ++ t ∷ []))) f (c ∷ []) ∙ append_assoc x (m ∷ o ∷ (a ++ t ∷ [])) (f ++ c ∷ [])
    ∙ ap (λ l. x ++ (m ∷ o ∷ l)) (append_assoc a (t ∷ []) (f ++ c ∷ []) ∙ sym (append_assoc a (t ∷ f) (c ∷ [])))

ends_then : (x c f : List Placed) (i t e : Placed) → x ++ (i ∷ (c ++ t ∷ [])) ++ f ++ e ∷ [] ≡ x ++ (i ∷ (c ++ (t ∷ (f ++ e ∷ []))))
ends_then x c f i t e =
    append_assoc (x ++ (i ∷ (c ++ t ∷ []))) f (e ∷ []) ∙ append_assoc x (i ∷ (c ++ t ∷ [])) (f ++ e ∷ [])
    ∙ ap (λ l. x ++ (i ∷ l)) (append_assoc c (t ∷ []) (f ++ e ∷ []))

-- what has ended
pub ended_sound : {w : List Placed} (f : Form) (s : List Part) → Sound w (have f s) → Sound w (have (ended f s) (around s))
ended_sound f [] x = x
ended_sound f (left_part op at a ∷ s) x =
    let g = x.good in
    ended_sound (joined op at a f) s
    (record { good = (g.0.0, (g.0.1.0, g.1, g.0.1.1, g.2), g.0.1.2); says = x.says ∙ joins (before s) (form_tokens a) (form_tokens f) (op_token op at) })
ended_sound f (not_part at ∷ s) x =
    let g = x.good in
    ended_sound (negation at f) s (record { good = (g.0.0, (g.1, g.2), g.0.1); says = x.says ∙ append_assoc (before s) (token mark.Not at ∷ []) (form_tokens f) })
ended_sound f (else_part at c then_at a else_at ∷ s) x =
    let g = x.good in
    ended_sound (branches at c then_at a else_at f) s
    (record {
      good = (g.0.0, (g.0.1.1, g.0.1.2, g.1), g.0.1.0);
      says = x.says ∙ joins_if (before s) (form_tokens c) (form_tokens a) (form_tokens f) (token mark.If at) (token mark.Then then_at) (token mark.Else else_at);
    })
ended_sound f (open_part p ∷ s) x = x
ended_sound f (first_part p q o ∷ s) x = x
ended_sound f (second_part p q o u v ∷ s) x = x
ended_sound f (if_part p ∷ s) x = x
ended_sound f (then_part p q o ∷ s) x = x

-- tokens, and one more
pushed : {w v : List Placed} (t : Placed) → w ≡ v → w ++ t ∷ [] ≡ v ++ t ∷ []
pushed t e = ap (λ l. l ++ t ∷ []) e

place_sound : {w : List Placed} (op : Operator) (at : ℕ) (f : Form) (s : List Part) (r : Reading) → wanted s ≤ level_of_operator op → Sound w (have f s)
    → place op at f s ≡ Some r → Sound (w ++ op_token op at ∷ []) r
place_sound op at f s r h x e =
    guarded (nat_le (left_level op) (level_of f)) e (λ b.
    record {
      good = (x.good.0, (x.good.1, leb-true (left_level op) (level_of f) b, h));
      says = pushed (op_token op at) x.says ∙ append_assoc (before s) (form_tokens f) (op_token op at ∷ []);
    })

attach_left : {A : Type 0} (b : Bool) {x y : Option A} {r : A} {Q : Type 0} → (if b then x else y) ≡ Some r → (b ≡ true → x ≡ Some r → Q) → (y ≡ Some r → Q) → Q
attach_left true e yes_case no_case = yes_case refl e
attach_left false e yes_case no_case = no_case e

attach_sound : {w : List Placed} (op : Operator) (at : ℕ) (f : Form) (s : List Part) (r : Reading) → Sound w (have f s)
    → attach op at f s ≡ Some r → Sound (w ++ op_token op at ∷ []) r
attach_sound op at f [] r x e = place_sound op at f [] r (omega arith) x e
attach_sound {w = w} op at f (left_part other other_at a ∷ s) r x e =
    let g = x.good in
    attach_left (nat_le (right_level other) (level_of_operator op)) e
    (λ b h. place_sound op at f (left_part other other_at a ∷ s) r (leb-true (right_level other) (level_of_operator op) b) x h)
    (λ h.
    attach_sound {w = w} op at (joined other other_at a f) s r
    (record { good = (g.0.0, (g.0.1.0, g.1, g.0.1.1, g.2), g.0.1.2); says = x.says ∙ joins (before s) (form_tokens a) (form_tokens f) (op_token other other_at) })
    h)
attach_sound {w = w} op at f (not_part not_at ∷ s) r x e =
    let g = x.good in
    attach_left (nat_le 3 (level_of_operator op)) e
    (λ b h. place_sound op at f (not_part not_at ∷ s) r (leb-true 3 (level_of_operator op) b) x h)
    (λ h.
    attach_sound {w = w} op at (negation not_at f) s r
    (record { good = (g.0.0, (g.1, g.2), g.0.1); says = x.says ∙ append_assoc (before s) (token mark.Not not_at ∷ []) (form_tokens f) })
    h)
attach_sound op at f (open_part p ∷ s) r x e = place_sound op at f (open_part p ∷ s) r (omega arith) x e
attach_sound op at f (first_part p q o ∷ s) r x e = place_sound op at f (first_part p q o ∷ s) r (omega arith) x e
attach_sound op at f (second_part p q o u v ∷ s) r x e = place_sound op at f (second_part p q o u v ∷ s) r (omega arith) x e
attach_sound op at f (if_part p ∷ s) r x e = place_sound op at f (if_part p ∷ s) r (omega arith) x e
attach_sound op at f (then_part p q o ∷ s) r x e = place_sound op at f (then_part p q o ∷ s) r (omega arith) x e
attach_sound op at f (else_part p q o u v ∷ s) r x e = place_sound op at f (else_part p q o u v ∷ s) r (omega arith) x e

close_sound : {w : List Placed} (f : Form) (s : List Part) (at : ℕ) (r : Reading) → Sound w (have f s) → close f s at ≡ Some r → Sound (w ++ token mark.Close at ∷ []) r
close_sound f (open_part o ∷ s) at r x e =
    along e (whole (parens o f at) s x.good.0.0 x.good.1 (omega arith) (pushed _ x.says ∙ ends_parens (before s) (form_tokens f) (token mark.Open o) (token mark.Close at)))
close_sound f (second_part k k_at o a comma ∷ s) at r x e =
    along e
    (whole (chosen k k_at o a comma f at) s x.good.0.0 (x.good.0.1, x.good.1) (omega arith)
    (pushed _ x.says ∙ ends_second (before s) (form_tokens a) (form_tokens f) (token (mark.Extreme k) k_at) (token mark.Open o) (token mark.Comma comma) (token mark.Close at)))
close_sound f s at r x e = absurd cc

second_sound : {w : List Placed} (f : Form) (s : List Part) (at : ℕ) (r : Reading) → Sound w (have f s) → go_second f s at ≡ Some r → Sound (w ++ token mark.Comma at ∷ []) r
second_sound f (first_part k k_at o ∷ s) at r x e =
    along e
    (record {
      good = (x.good.0.0, x.good.1);
      says = pushed _ x.says ∙ ends_first (before s) (form_tokens f) (token (mark.Extreme k) k_at) (token mark.Open o) (token mark.Comma at);
    })
second_sound f s at r x e = absurd cc

then_sound : {w : List Placed} (f : Form) (s : List Part) (at : ℕ) (r : Reading) → Sound w (have f s) → go_then f s at ≡ Some r → Sound (w ++ token mark.Then at ∷ []) r
then_sound f (if_part if_at ∷ s) at r x e =
    along e
    (record {
      good = (x.good.0.0, (x.good.0.1, x.good.1));
      says = pushed _ x.says ∙ ends_parens (before s) (form_tokens f) (token mark.If if_at) (token mark.Then at);
    })
then_sound f s at r x e = absurd cc

else_sound : {w : List Placed} (f : Form) (s : List Part) (at : ℕ) (r : Reading) → Sound w (have f s) → go_else f s at ≡ Some r → Sound (w ++ token mark.Else at ∷ []) r
else_sound f (then_part if_at c then_at ∷ s) at r x e =
    along e
    (record {
      good = (x.good.0.0, (x.good.0.1.0, x.good.0.1.1, x.good.1));
      says = pushed _ x.says ∙ ends_then (before s) (form_tokens c) (form_tokens f) (token mark.If if_at) (token mark.Then then_at) (token mark.Else at);
    })
else_sound f s at r x e = absurd cc

entry_sound : {w : List Placed} (f : Form) (s : List Part) (at : ℕ) (r : Reading) → Sound w (have f s) → open_entry f s at ≡ Some r → Sound (w ++ token mark.OpenBracket at ∷ []) r
entry_sound (word v) s at r x e =
    along e (record { good = x.good.0; says = pushed _ x.says ∙ append_assoc (before s) (word_token v ∷ []) (token mark.OpenBracket at ∷ []) })
entry_sound f s at r x e = absurd cc

operand_sound : {w : List Placed} (f : Form) (s : List Part) (m : Mark) (at : ℕ) (r : Reading) → Sound w (have f s) → after_operand f s m at ≡ Some r → Sound (w ++ token m at ∷ []) r
operand_sound f s (mark.Operator op) at r x e = attach_sound op at f s r x e
operand_sound f s mark.OpenBracket at r x e = entry_sound f s at r x e
operand_sound f s mark.Close at r x e = close_sound (ended f s) (around s) at r (ended_sound f s x) e
operand_sound f s mark.Comma at r x e = second_sound (ended f s) (around s) at r (ended_sound f s x) e
operand_sound f s mark.Then at r x e = then_sound (ended f s) (around s) at r (ended_sound f s x) e
operand_sound f s mark.Else at r x e = else_sound (ended f s) (around s) at r (ended_sound f s x) e
operand_sound f s m at r x e = absurd cc

minus_sound : {w : List Placed} (minus_at : ℕ) (s : List Part) (m : Mark) (at : ℕ) (r : Reading) → Sound w (minus_read minus_at s) → after_minus minus_at s m at ≡ Some r → Sound (w ++ token m at ∷ []) r
minus_sound minus_at s (mark.Number n) at r x e =
    along e
    (whole (constant (Negative minus_at at n)) s x.good tt (omega arith)
    (pushed _ x.says ∙ append_assoc (before s) (op_token operator.Minus minus_at ∷ []) (token (mark.Number n) at ∷ [])))
minus_sound minus_at s m at r x e = absurd cc

extreme_sound : {w : List Placed} (k : Extreme) (k_at : ℕ) (s : List Part) (m : Mark) (at : ℕ) (r : Reading) → Sound w (extreme_read k k_at s) → after_extreme k k_at s m at ≡ Some r
    → Sound (w ++ token m at ∷ []) r
extreme_sound k k_at s mark.Open at r x e =
    along e (record { good = (x.good, tt); says = pushed _ x.says ∙ append_assoc (before s) (token (mark.Extreme k) k_at ∷ []) (token mark.Open at ∷ []) })
extreme_sound k k_at s m at r x e = absurd cc

table_sound : {w : List Placed} (table : Word) (o : ℕ) (s : List Part) (m : Mark) (at : ℕ) (r : Reading) → Sound w (table_read table o s) → after_table table o s m at ≡ Some r
    → Sound (w ++ token m at ∷ []) r
table_sound table o s (mark.Word code) at r x e =
    along e
    (record {
      good = x.good;
      says = pushed _ x.says ∙ append_assoc (before s) (word_token table ∷ token mark.OpenBracket o ∷ []) (token (mark.Word code) at ∷ []);
    })
table_sound table o s m at r x e = absurd cc

key_sound : {w : List Placed} (table : Word) (o : ℕ) (key : Word) (s : List Part) (m : Mark) (at : ℕ) (r : Reading) → Sound w (key_read table o key s) → after_key table o key s m at ≡ Some r
    → Sound (w ++ token m at ∷ []) r
key_sound table o key s mark.CloseBracket at r x e =
    along e
    (whole (entry table o key at) s x.good tt (omega arith)
    (pushed _ x.says ∙ append_assoc (before s) (word_token table ∷ token mark.OpenBracket o ∷ word_token key ∷ []) (token mark.CloseBracket at ∷ [])))
key_sound table o key s m at r x e = absurd cc

-- a token more is read
pub read_sound : {w : List Placed} (r : Reading) (t : Placed) (q : Reading) → Sound w r → read_on r t.mark t.at ≡ Some q → Sound (w ++ t ∷ []) q
read_sound (want s) t q x e = moved (pushed t x.says) (begin_sound s t.mark t.at q x.good e)
read_sound (minus_read at s) t q x e = minus_sound at s t.mark t.at q x e
read_sound (extreme_read k at s) t q x e = extreme_sound k at s t.mark t.at q x e
read_sound (table_read table o s) t q x e = table_sound table o s t.mark t.at q x e
read_sound (key_read table o key s) t q x e = key_sound table o key s t.mark t.at q x e
read_sound (have f s) t q x e = operand_sound f s t.mark t.at q x e
