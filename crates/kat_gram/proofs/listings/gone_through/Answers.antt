use Rattle.std.proofs.Common.{◌≡◌, ◌∙◌, arith, false, rules, true}
use Rattle.kat_design.specs.Designs.{design_form}
use Rattle.kat_gram.proofs.Resuming.{is_last, not_among, not_listed}
use Rattle.kat_gram.proofs.listings.gone_through.Goals as goal

pub returns-then-not-branch-clause-found : goal.returns-then-not-branch-clause-found
returns-then-not-branch-clause-found c =
    let off : c.in_ok-may_be_listed.field-0 ≡ false = search rules in
    not_listed c.args.course.now (design_form c.args.after.now) _ c.in_ok-may_be_listed.field-0 c.in_ok-may_be_listed.ensures (let e = c.from-most.ensures in omega (arith, e)) off

pub returns-then-not-branch-2-clause-found : goal.returns-then-not-branch-2-clause-found
returns-then-not-branch-2-clause-found c =
    let off : c.in_ok-go_through.field-0 ≡ false = search rules in
    not_among c.args.course.now c.go_through.new.course (design_form c.args.after.now) c.as_slice-wanted.result.now c.in_ok-go_through.field-0 c.go_through.ensures.alike (c.as_slice-wanted.ensures.value ∙ c.in_ok-tokens.ensures)
    c.in_ok-go_through.ensures.found off

pub returns-clause-found : goal.returns-clause-found
returns-clause-found c =
    let listed : c.in_ok-may_be_listed.field-0 ≡ true = search rules in
    let on : c.in_ok-go_through.field-0 ≡ true = search rules in
    is_last c.args.course.now c.go_through.new.course (design_form c.args.after.now) _ c.as_slice-wanted.result.now c.in_ok-may_be_listed.field-0 c.in_ok-go_through.field-0 c.in_ok-last.last c.in_ok-may_be_listed.ensures
    (let e = c.from-most.ensures in omega (arith, e)) listed c.go_through.ensures.alike (c.as_slice-wanted.ensures.value ∙ c.in_ok-tokens.ensures) c.in_ok-go_through.ensures.found on c.in_ok-last.ensures
