use Rattle.std.proofs.Common.{◌≤◌, rules}
use Rattle.kat_type_file.proofs.Lookups.{small_place}
use Rattle.kat_type_file.proofs.expressions.place_of.Goals as goal

pub overflow_cast-result : goal.overflow_cast-result
overflow_cast-result g c =
    let small : c.in-Some.found.place ≤ 16 =
    small_place (λ it. (g.T.Named.word it).code) c.args.code 16 c.args.list.now c.first_named.result c.in-Some.found c.requires c.first_named.ensures c.in-Some.is in
    search (rules, small)
