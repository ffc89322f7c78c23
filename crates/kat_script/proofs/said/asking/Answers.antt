use Rattle.std.proofs.Common.{◌≡◌, ◌++◌, [], ◌∙◌, sym, ap, true, false, append-nil, rules, length}
use Rattle.std.specs.Prelude.{◌==◌}
use Rattle.std.proofs.lemmas.List.{nil_from_length}
use Rattle.kat_script.specs.Grammar.{constants_marks}
use Rattle.kat_script.proofs.Constants.{one_ask, no_ask}
use Rattle.kat_script.proofs.said.asking.Goals as goal

pub returns-then-is_empty : goal.returns-then-is_empty
returns-then-is_empty c =
    let zero : length c.in_ok-args.rest.now ≡ 0 = search rules in
    let none : c.in_ok-args.rest.now ≡ [] = nil_from_length _ zero in
    one_ask _ _ _ _ _ c.in-Some.ensures (c.in_ok-args.ensures.0 ∙ ap (λ m. constants_marks c.in_ok-args.args ++ m) none ∙ append-nil _)

pub returns-else-is_empty : goal.returns-else-is_empty
returns-else-is_empty c =
    no_ask _ _ _ _ _ _ c.in-Some.ensures c.in_ok-args.ensures.0 c.in_ok-args.ensures.1
    (λ none. let e : false ≡ true = sym c.if-is_empty.false ∙ c.is_empty.ensures ∙ ap (λ m. length m == 0) none in cc)
