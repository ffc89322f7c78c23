use Rattle.std.proofs.Common.{rules, ◌≡◌, ◌-◌}
use Rattle.kat_type.specs.Types.{type_form}
use Rattle.kat_vc.proofs.Numbering.{all_found, start_found}
use Rattle.kat_vc.proofs.by_number.numbered.Goals as goal

pub returns-in-Some : goal.returns-in-Some
returns-in-Some c =
    let place : c.saturating_sub-place.result ≡ c.args.k - 1 = search rules in
    start_found (type_form c.args.ty.now) c.args.conjuncts.now (c.args.k - 1) c.in-Some.claim.now (rw place at c.in-Some.ensures.found)

pub returns-in-None : goal.returns-in-None
returns-in-None c =
    let place : c.saturating_sub-place.result ≡ c.args.k - 1 = search rules in
    all_found c.later.result (type_form c.args.ty.now) c.args.conjuncts.now c.saturating_sub-place.result (c.args.k - 1) c.behind-left.result place c.in-None.ensures.past c.behind-left.ensures (search (rules, c.later.ensures, c.as_slice.ensures, c.as_slice-in-None.ensures))
