use Rattle.std.proofs.Common.{◌≡◌, ◌++◌, ◌∷◌, [], ap, ◌∙◌, arith}
use Rattle.std.specs.String.{string_bytes}
use Rattle.kat_emit_words.specs.Kept.{kept}
use Rattle.kat_emit_words.specs.Naming.{names_in}
use Rattle.kat_emit_words.proofs.NameLemmas.{new_if_free, pushed_is_nearer}
use Rattle.kat_emit_words.proofs.scopes.longer_name.Goals as goal

pub longer-smaller : goal.longer-smaller
longer-smaller c =
    let pushed : string_bytes c.push.new.self ≡ string_bytes c.longer.name ++ 95 ∷ [] =
    c.in_ok-push.ensures.bytes ∙ ap (λ x. string_bytes c.longer.name ++ x) (c.in_ok-push.ensures.ascii (omega arith)) in
    pushed_is_nearer
    (kept c.args.scope.now.language c.args.scope.now.named) (names_in c.args.scope.now.outer.now) (names_in c.args.scope.now.taken.now)
    (string_bytes c.longer.name) c.as_str.result.now (string_bytes c.push.new.self) c.is_free.result
    c.as_str.ensures.value c.is_free.ensures c.if-is_free.false pushed

pub returns-then-is_free : goal.returns-then-is_free
returns-then-is_free c =
    new_if_free
    (kept c.args.scope.now.language c.args.scope.now.named) (names_in c.args.scope.now.outer.now) (names_in c.args.scope.now.taken.now)
    (string_bytes c.longer.name) c.as_str.result.now c.is_free.result c.longer.invariant c.as_str.ensures.value c.is_free.ensures c.if-is_free.true
