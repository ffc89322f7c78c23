use Rattle.std.proofs.Common.{◌≡◌, ◌++◌, true, List, ℕ, ap, sym, ◌∙◌, subst, arith}
use Rattle.std.specs.Fmt.{decimal}
use Rattle.std.specs.String.{string_bytes}
use Rattle.kat_emit_words.specs.Kept.{kept}
use Rattle.kat_emit_words.specs.Naming.{is_identifier, names_in}
use Rattle.kat_emit_words.proofs.NameLemmas.{identifier_number, new_if_free}
use Rattle.kat_emit_words.proofs.scopes.free_name.Goals as goal

pub returns-then-is_free : goal.returns-then-is_free
returns-then-is_free c =
    let named : is_identifier (string_bytes c.in_ok-name.name) ≡ true = subst (λ (x : List ℕ). is_identifier x ≡ true) (sym c.in_ok-name.ensures.ok) c.requires in
    new_if_free
    (kept c.args.scope.now.language c.args.scope.now.named) (names_in c.args.scope.now.outer.now) (names_in c.args.scope.now.taken.now)
    (string_bytes c.in_ok-name.name) c.as_str.result.now c.is_free.result named c.as_str.ensures.value c.is_free.ensures c.if-is_free.true

pub returns-then-is_free-2 : goal.returns-then-is_free-2
returns-then-is_free-2 c =
    new_if_free
    (kept c.args.scope.now.language c.args.scope.now.named) (names_in c.args.scope.now.outer.now) (names_in c.args.scope.now.taken.now)
    (string_bytes c.numbers.name) c.as_str-in-numbers.result.now c.is_free-in-numbers.result c.numbers.invariant
    c.as_str-in-numbers.ensures.value c.is_free-in-numbers.ensures c.if-is_free-2.true

pub numbers-preserved : goal.numbers-preserved
numbers-preserved c =
    let word : string_bytes c.push_str.new.self ≡ c.args.word.now = c.in_ok-push_str.ensures.bytes ∙ ap (λ x. x ++ c.args.word.now) c.clear.ensures.bytes in
    let number : c.format.result.now ≡ decimal c.numbers.number = c.format.ensures.text ∙ ap decimal c.from.ensures in
    let whole : string_bytes c.push_str-in-numbers.new.self ≡ c.args.word.now ++ decimal c.numbers.number =
    c.in_ok-push_str-2.ensures.bytes ∙ (ap (λ x. x ++ c.format.result.now) word ∙ ap (λ x. c.args.word.now ++ x) number) in
    subst (λ (x : List ℕ). is_identifier x ≡ true) (sym whole) (identifier_number c.args.word.now c.numbers.number c.requires (omega arith))
