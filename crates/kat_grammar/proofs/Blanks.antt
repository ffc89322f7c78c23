-- Whether tokens are those of a text of format 2 is found after its blank lines.
use Rattle.std.proofs.Common.{◌≡◌, ℕ, ◌+◌, ◌<◌, ◌≤◌, Bool, true, false, List, ◌∷◌, length, drop, get_or, refl, sym, ◌∙◌, ap}
use Rattle.std.proofs.lemmas.List.{drop_all, drop_more}
use Rattle.std.specs.Prelude.{if◌then◌else◌}
use Rattle.kat_lex.specs.declared.lexer.Token.{Token}
use Rattle.kat_grammar.specs.Marks.{begins_second, is_newline, is_second, mark_of}

choose_true : {A : Type 0} (b : Bool) (x y : A) → b ≡ true → (if b then x else y) ≡ x
choose_true true x y e = refl
choose_true false x y e = absurd cc

choose_false : {A : Type 0} (b : Bool) (x y : A) → b ≡ false → (if b then x else y) ≡ y
choose_false true x y e = absurd cc
choose_false false x y e = refl

pub second_next : (tokens : List Token) (i : ℕ) (d : Token) → i < length tokens → is_newline (mark_of (get_or tokens i d).kind) ≡ true
    → is_second (drop i tokens) ≡ is_second tokens → is_second (drop (i + 1) tokens) ≡ is_second tokens
second_next tokens i d h n e =
    let t : Token = get_or tokens i d in
    let more : List Token = drop (i + 1) tokens in
    sym (ap is_second (drop_more tokens i d h) ∙ choose_true (is_newline (mark_of t.kind)) (is_second more) (begins_second (t ∷ more)) n) ∙ e

pub second_here : (tokens : List Token) (i : ℕ) (d : Token) → i < length tokens → is_newline (mark_of (get_or tokens i d).kind) ≡ false
    → is_second (drop i tokens) ≡ is_second tokens → begins_second (drop i tokens) ≡ is_second tokens
second_here tokens i d h n e =
    let t : Token = get_or tokens i d in
    let more : List Token = drop (i + 1) tokens in
    ap begins_second (drop_more tokens i d h) ∙ sym (choose_false (is_newline (mark_of t.kind)) (is_second more) (begins_second (t ∷ more)) n)
    ∙ sym (ap is_second (drop_more tokens i d h)) ∙ e

pub second_past : (tokens : List Token) (i : ℕ) → length tokens ≤ i → is_second (drop i tokens) ≡ is_second tokens → false ≡ is_second tokens
second_past tokens i h e = sym (ap is_second (drop_all i tokens h)) ∙ e
