use Rattle.std.proofs.Common.{refl, arith}
use Rattle.kat_design.specs.Designs.{design_form}
use Rattle.kat_gram.specs.Listings.{designs_of, given_of, to_come}
use Rattle.kat_type.specs.Types.{type_form}
use Rattle.kat_audit.specs.Audits.{ask_of}
use Rattle.kat_due.specs.Dues.Phase.{at_design}
use Rattle.kat_due.specs.Readings.{state_at}
use Rattle.kat_due.proofs.Coming.{comes_fault, comes_none}
use Rattle.kat_audit.proofs.Going.{audited, ended_so, few_given, few_ops, few_passed, few_queries, few_read, goes_first, goes_on, is_next, next_tryable, none_next, some_given, some_next, stepped, stopped_so}
use Rattle.kat_audit.proofs.auditing.judge_report.Goals as goal

pub designs-init : goal.designs-init
designs-init c = record {
  goes = goes_first (type_form c.args.ty.now) c.args.options.now c.args.sig.now c.args.listing.now c.args.reading.now.left.now c.args.reading.now c.requires.listed c.requires.none c.requires.first;
  of_type = c.requires.of_type;
}

pub advance-requires : goal.advance-requires
advance-requires c = few_given (type_form c.args.ty.now) c.args.options.now c.args.sig.now c.designs.listing c.args.reading.now.left.now c.designs.reading c.requires.ranges c.designs.invariant.goes

pub returns-then-is_over : goal.returns-then-is_over
returns-then-is_over c =
    let next = some_next (to_come c.designs.listing) (to_come c.advance.new.self) c.in_ok-advance.field-0 c.if-branch.true c.in_ok-advance.ensures.more c.in_ok-advance.ensures.given in
    stopped_so c.judge_stopped.result (type_form c.args.ty.now) c.args.options.now c.args.sig.now c.designs.listing c.args.reading.now.left.now c.designs.reading next.0 (to_come c.advance.new.self)
    next.1 (c.is_over.ensures.over c.if-is_over.true) c.designs.invariant.goes c.judge_stopped.ensures

pub judge_design-requires-clause-ops : goal.judge_design-requires-clause-ops
judge_design-requires-clause-ops c = few_ops c.args.ty.now c.requires.sorted.few_operations

pub judge_design-requires-clause-queries : goal.judge_design-requires-clause-queries
judge_design-requires-clause-queries c = few_queries c.args.ty.now c.requires.sorted.few_queries

pub judge_design-requires-clause-tryable : goal.judge_design-requires-clause-tryable
judge_design-requires-clause-tryable c =
    let step = stepped (to_come c.designs.listing) (to_come c.advance.new.self) (given_of c.designs.listing) (given_of c.advance.new.self) c.in_ok-advance.field-0 (design_form c.last_given.result.now) c.if-branch.true c.in_ok-advance.ensures.more c.in_ok-advance.ensures.given c.in_ok-advance.ensures.behind c.last_given.ensures in
    next_tryable (type_form c.args.ty.now) c.args.options.now c.args.sig.now c.designs.listing c.args.reading.now.left.now c.designs.reading (design_form c.last_given.result.now) (to_come c.advance.new.self)
    c.requires.ranges step.next c.designs.invariant.goes

pub judge_design-requires-clause-few : goal.judge_design-requires-clause-few
judge_design-requires-clause-few c = few_read (type_form c.args.ty.now) c.args.options.now c.args.sig.now c.designs.listing c.args.reading.now.left.now c.designs.reading c.requires.ranges c.designs.invariant.goes

pub judge_design-requires-clause-few_passed : goal.judge_design-requires-clause-few_passed
judge_design-requires-clause-few_passed c = few_passed (type_form c.args.ty.now) c.args.options.now c.args.sig.now c.designs.listing c.args.reading.now.left.now c.designs.reading c.designs.invariant.goes

pub returns-in-Some : goal.returns-in-Some
returns-in-Some c =
    let ty = type_form c.args.ty.now in
    let options = c.args.options.now in
    let g = c.designs.listing in
    let r = c.designs.reading in
    let s = c.judge_design.new.reading in
    let sig = c.args.sig.now in
    let d = design_form c.last_given.result.now in
    let ask = ask_of ty options (designs_of g) in
    let step = stepped (to_come c.designs.listing) (to_come c.advance.new.self) (given_of c.designs.listing) (given_of c.advance.new.self) c.in_ok-advance.field-0 (design_form c.last_given.result.now) c.if-branch.true c.in_ok-advance.ensures.more c.in_ok-advance.ensures.given c.in_ok-advance.ensures.behind c.last_given.ensures in
    audited ty options sig g c.args.reading.now.left.now r c.in-Some.fault c.designs.invariant.goes
    (comes_fault ask (state_at sig r at_design) (state_at sig s at_design) r.left.now s.left.now _ c.in-Some.fault c.in-Some.is
    (c.in_ok-fault.ensures.comes ask (record { of_type = refl; of_effort = refl })
    (is_next ty options sig g c.args.reading.now.left.now r d (to_come c.advance.new.self) step.next (c.is_over.ensures.going c.if-is_over.false) c.designs.invariant.goes)))

pub last_given-requires : goal.last_given-requires
last_given-requires c = some_given (to_come c.designs.listing) (given_of c.designs.listing) (given_of c.advance.new.self) c.in_ok-advance.field-0 c.if-branch.true c.in_ok-advance.ensures.more c.in_ok-advance.ensures.behind

pub designs-preserved : goal.designs-preserved
designs-preserved c =
    let ty = type_form c.args.ty.now in
    let options = c.args.options.now in
    let g = c.designs.listing in
    let r = c.designs.reading in
    let s = c.judge_design.new.reading in
    let sig = c.args.sig.now in
    let d = design_form c.last_given.result.now in
    let ask = ask_of ty options (designs_of g) in
    let going = c.is_over.ensures.going c.if-is_over.false in
    let step = stepped (to_come c.designs.listing) (to_come c.advance.new.self) (given_of c.designs.listing) (given_of c.advance.new.self) c.in_ok-advance.field-0 (design_form c.last_given.result.now) c.if-branch.true c.in_ok-advance.ensures.more c.in_ok-advance.ensures.given c.in_ok-advance.ensures.behind c.last_given.ensures in
    let is = is_next ty options sig g c.args.reading.now.left.now r d (to_come c.advance.new.self) step.next going c.designs.invariant.goes in
    record {
      goes =
          goes_on ty options sig g c.advance.new.self c.args.reading.now.left.now r s d c.in_ok-advance.ensures.whole step.given_then going (c.in_ok-fault.ensures.behind c.in_default.is) (c.in_ok-fault.ensures.numbers c.in_default.is)
          (comes_none ask (state_at sig r at_design) (state_at sig s at_design) r.left.now s.left.now _ c.in_default.is (c.in_ok-fault.ensures.comes ask (record { of_type = refl; of_effort = refl }) is))
          c.designs.invariant.goes;
      of_type = c.judge_design.ensures.of_type;
    }

pub returns : goal.returns
returns c =
    let none = none_next (to_come c.designs.listing) c.in_ok-advance.field-0 c.if-branch.false c.in_ok-advance.ensures.more in
    ended_so c.judge_end.result (type_form c.args.ty.now) c.args.options.now c.args.sig.now c.designs.listing c.args.reading.now.left.now c.designs.reading none c.designs.invariant.goes c.judge_end.ensures

pub judge_design-requires-clause-sig : goal.judge_design-requires-clause-sig
judge_design-requires-clause-sig c = c.requires.sig

pub judge_design-requires-clause-of_type : goal.judge_design-requires-clause-of_type
judge_design-requires-clause-of_type c = c.designs.invariant.of_type

pub judge_design-requires-clause-numbers : goal.judge_design-requires-clause-numbers
judge_design-requires-clause-numbers c = c.designs.invariant.goes.numbers

pub judge_stopped-requires : goal.judge_stopped-requires
judge_stopped-requires c = let room = c.designs.invariant.goes.room in let small = c.requires.room in omega (arith, room, small)

pub judge_design-requires-clause-room : goal.judge_design-requires-clause-room
judge_design-requires-clause-room c = let room = c.designs.invariant.goes.room in let small = c.requires.room in omega (arith, room, small)

pub judge_end-requires : goal.judge_end-requires
judge_end-requires c = let room = c.designs.invariant.goes.room in let small = c.requires.room in omega (arith, room, small)
