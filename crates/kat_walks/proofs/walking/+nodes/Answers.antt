use Rattle.std.proofs.Common.{◌≡◌, ◌∙◌, ap, arith, length, rules, FitsSigned, neg_ℤ, to_z, of_z}
use Rattle.std.specs.Int.{w32}
use Rattle.std.proofs.lemmas.Int.{to_z-of_z}
use Rattle.kat_form.specs.Encodings.{encoding}
use Rattle.kat_walks.proofs.WalkSteps.{assumed_stands, both_ok, first_serves, second_ends, split_stops, still_branches, told_branches, told_stops, undone_stands}
use Rattle.kat_walks.proofs.walking.+nodes.Goals as goal

pub node-returns-in-Stops-clause-comes : goal.node-returns-in-Stops-clause-comes
node-returns-in-Stops-clause-comes t c =
    told_stops (encoding c.args.encoded.now) c.args.encoded.now.numbers c.deref.result.now c.args.path.now.items c.args.left c.in_ok-end.field-0 c.in-Stops.end c.deref.ensures.value c.in-Stops.is c.in_ok-end.ensures.node

pub node-split-requires : goal.node-split-requires
node-split-requires t c =
    let fits : FitsSigned w32 c.in-Branches.literal = search rules in (
      omega (arith, c.decreases),
      told_branches (encoding c.args.encoded.now) c.args.encoded.now.numbers (length (encoding c.args.encoded.now).senses) c.judge.new.known c.deref.result.now c.args.path.now.items c.in_ok-end.field-0 c.in-Branches.literal (to_z w32 (of_z w32 c.in-Branches.literal))
          c.deref.ensures.value c.in-Branches.is (to_z-of_z w32 c.in-Branches.literal fits) c.in_ok-end.ensures.node c.in_ok-end.ensures.literal c.in_ok-end.ensures.stands,
    )

pub split-go_on-requires : goal.split-go_on-requires
split-go_on-requires t c =
    let fits : FitsSigned w32 c.args.literal = c.ranges.literal in (
      omega (arith, c.decreases),
      still_branches (encoding c.args.encoded.now) c.args.encoded.now.numbers (length (encoding c.args.encoded.now).senses) c.descend.new.known c.args.path.now.items c.descend.new.path.items c.args.literal (to_z w32 (of_z w32 c.args.literal))
          c.in_ok-end.ensures.path (to_z-of_z w32 c.args.literal fits) c.in_ok-end.ensures.stands c.requires.literal c.requires.node,
    )

pub split-returns-in-Ended-clause-comes : goal.split-returns-in-Ended-clause-comes
split-returns-in-Ended-clause-comes t c =
    let fits : FitsSigned w32 c.args.literal = c.ranges.literal in
    split_stops (encoding c.args.encoded.now) c.args.encoded.now.numbers c.args.path.now.items c.args.left c.args.literal (to_z w32 (of_z w32 c.args.literal)) c.in_ok-end.field-0 c.in-Ended.end (to_z-of_z w32 c.args.literal fits) c.in-Ended.is c.requires.node c.in_ok-end.ensures.comes

pub descend-node-requires : goal.descend-node-requires
descend-node-requires t c =
    let fits : FitsSigned w32 c.args.literal = c.ranges.literal in
    let same = to_z-of_z w32 c.args.literal fits in (
      omega (arith, c.decreases, c.if-depth-eq0.false),
      assumed_stands (encoding c.args.encoded.now) c.args.encoded.now.numbers c.args.known.now c.assume.new.self c.args.path.now.items c.push.new.self.items c.args.literal (to_z w32 (of_z w32 c.args.literal)) (to_z w32 (of_z w32 c.args.literal)) c.requires.stands c.requires.literal same same
          c.in_ok-assume.ensures.ok c.in_ok-push.ensures.items,
    )

pub descend-returns-clause-stands : goal.descend-returns-clause-stands
descend-returns-clause-stands t c =
    let size : c.len-kept.result ≡ length c.args.path.now.items = search rules in
    undone_stands (encoding c.args.encoded.now) c.args.encoded.now.numbers c.args.known.now c.node.new.known c.undo.new.self c.args.path.now.items c.push.new.self.items (to_z w32 (of_z w32 c.args.literal)) c.len-kept.result c.requires.stands c.in_ok-reached.ensures.stands c.in_ok-push.ensures.items size c.undo.ensures

pub go_on-returns-then-not-has-clause-comes : goal.go_on-returns-then-not-has-clause-comes
go_on-returns-then-not-has-clause-comes t c =
    let fits : FitsSigned w32 c.args.literal = c.ranges.literal in
    first_serves (encoding c.args.encoded.now) c.args.encoded.now.numbers c.args.path.now.items c.args.first.items c.deref.result.now c.args.behind c.args.literal (to_z w32 (of_z w32 c.args.literal)) c.has.result (to_z-of_z w32 c.args.literal fits) c.deref.ensures.value c.has.ensures c.if-not-has.true c.requires.node

pub go_on-returns-in-Ended-clause-comes : goal.go_on-returns-in-Ended-clause-comes
go_on-returns-in-Ended-clause-comes t c =
    let fits : FitsSigned w32 c.args.literal = c.ranges.literal in
    let same = to_z-of_z w32 c.args.literal fits in
    let o_fits : FitsSigned w32 c.opposite-other.result = search rules in
    let other = to_z-of_z w32 c.opposite-other.result o_fits ∙ c.opposite-other.ensures ∙ ap neg_ℤ same in
    second_ends (encoding c.args.encoded.now) c.args.encoded.now.numbers c.args.path.now.items c.args.first.items c.deref.result.now c.args.behind c.args.literal (to_z w32 (of_z w32 c.args.literal)) (to_z w32 (of_z w32 c.opposite-other.result)) c.has.result c.in_ok-end.field-0 c.in-Ended.end
    same c.deref.ensures.value c.has.ensures c.if-not-has.false c.requires.node other c.in-Ended.is c.in_ok-end.ensures.comes

pub go_on-returns-in-Core-clause-comes : goal.go_on-returns-in-Core-clause-comes
go_on-returns-in-Core-clause-comes t c =
    let fits : FitsSigned w32 c.args.literal = c.ranges.literal in
    let same = to_z-of_z w32 c.args.literal fits in
    let o_fits : FitsSigned w32 c.opposite-other.result = search rules in
    let other = to_z-of_z w32 c.opposite-other.result o_fits ∙ c.opposite-other.ensures ∙ ap neg_ℤ same in
    both_ok (encoding c.args.encoded.now) c.args.encoded.now.numbers c.args.path.now.items c.args.first.items c.deref.result.now c.args.behind c.in-Core.left c.args.literal (to_z w32 (of_z w32 c.args.literal)) (to_z w32 (of_z w32 c.opposite-other.result)) (to_z w32 (of_z w32 c.opposite-other.result))
    c.in-Core.core c.has.result c.in_ok-end.field-0 c.join.result c.deref-in-Core.result.now same c.deref.ensures.value c.has.ensures c.if-not-has.false c.requires.node other other c.in-Core.is (c.deref-in-Core.ensures.value ∙ c.in_ok-end.ensures.path) c.in_ok-end.ensures.comes c.join.ensures
