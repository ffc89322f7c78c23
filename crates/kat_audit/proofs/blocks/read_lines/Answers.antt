use Rattle.std.proofs.Common.{refl, ◌∙◌, arith}
use Rattle.kat_design.specs.Designs.{design_form}
use Rattle.kat_said.specs.Sayings.{said_form}
use Rattle.kat_type.specs.Types.{type_form}
use Rattle.kat_due.proofs.Ending.{is_nothing}
use Rattle.kat_due.proofs.Within.{closed_behind, each_said, lines_close, lines_fault, lines_first, lines_missing, lines_on, said_cut}
use Rattle.kat_audit.proofs.blocks.read_lines.Goals as goal

pub lines-init : goal.lines-init
lines-init c = lines_first (type_form c.args.ty.now) c.args.sig.now c.args.effort (design_form c.args.design.now) c.args.first c.args.reading.now c.requires.block

pub judge_line-requires-clause-block : goal.judge_line-requires-clause-block
judge_line-requires-clause-block c = c.lines.invariant.is_block

pub judge_line-requires-clause-room : goal.judge_line-requires-clause-room
judge_line-requires-clause-room c = let room = c.lines.invariant.room in let small = c.requires.room in omega (arith, room, small)

pub returns-in-Err-clause-comes : goal.returns-in-Err-clause-comes
returns-in-Err-clause-comes c = λ ask asked next.
    lines_fault (type_form c.args.ty.now) c.args.sig.now c.args.effort (design_form c.args.design.now) c.args.first c.args.reading.now c.lines.block c.lines.reading c.judge_line.new.reading _ c.in-Err.fault c.in-Err.is
    c.in_ok-said.ensures.told c.lines.invariant ask asked next

pub drop_at-requires : goal.drop_at-requires
drop_at-requires c = c.lines.invariant.is_block

pub lines-preserved : goal.lines-preserved
lines-preserved c =
    let ty = type_form c.args.ty.now in
    let d = design_form c.args.design.now in
    let cut = said_cut c.lines.reading c.judge_line.new.reading _ c.in-Ok.said c.in-Ok.is c.in_ok-said.ensures.cut in
    lines_on ty c.args.sig.now c.args.effort d c.args.first c.args.reading.now c.lines.block c.in_ok-block-in-Some.block c.lines.reading c.judge_line.new.reading cut.0 (said_form c.in-Ok.said) c.in-Some.at cut.1
    c.in-Some.ensures c.in_ok-block-in-Some.ensures.block c.in_ok-block-in-Some.ensures.candidates c.in_ok-block-in-Some.ensures.dropped
    (each_said ty c.args.sig.now c.args.effort d c.lines.block c.lines.reading c.judge_line.new.reading _ c.in-Ok.said c.in-Ok.is c.in_ok-said.ensures.told) c.lines.invariant

pub close-requires-clause-few : goal.close-requires-clause-few
close-requires-clause-few c =
    let cut = said_cut c.lines.reading c.judge_line.new.reading _ c.in-Ok.said c.in-Ok.is c.in_ok-said.ensures.cut in
    let same = cut.1.count ∙ c.lines.invariant.count in
    let few = c.requires.few in
    omega (arith, same, few)

pub close-requires-clause-few_passed : goal.close-requires-clause-few_passed
close-requires-clause-few_passed c =
    let cut = said_cut c.lines.reading c.judge_line.new.reading _ c.in-Ok.said c.in-Ok.is c.in_ok-said.ensures.cut in
    let same = cut.1.passed ∙ c.lines.invariant.passed in
    let few = c.requires.few_passed in
    omega (arith, same, few)

pub returns-in-None-clause-comes : goal.returns-in-None-clause-comes
returns-in-None-clause-comes c = λ ask asked next.
    let ty = type_form c.args.ty.now in
    let d = design_form c.args.design.now in
    let cut = said_cut c.lines.reading c.judge_line.new.reading _ c.in-Ok.said c.in-Ok.is c.in_ok-said.ensures.cut in
    lines_close ty c.args.sig.now c.args.effort d c.args.first c.args.reading.now c.lines.block c.lines.reading c.judge_line.new.reading c.close.new.self cut.0 (said_form c.in-Ok.said) cut.1 c.in-None.ensures c.close.ensures
    (each_said ty c.args.sig.now c.args.effort d c.lines.block c.lines.reading c.judge_line.new.reading _ c.in-Ok.said c.in-Ok.is c.in_ok-said.ensures.told) c.lines.invariant ask asked next

pub returns-in-None-clause-behind : goal.returns-in-None-clause-behind
returns-in-None-clause-behind c = λ none.
    let cut = said_cut c.lines.reading c.judge_line.new.reading _ c.in-Ok.said c.in-Ok.is c.in_ok-said.ensures.cut in
    closed_behind (type_form c.args.ty.now) c.args.sig.now c.args.effort (design_form c.args.design.now) c.args.first c.args.reading.now c.lines.block c.lines.reading c.judge_line.new.reading c.close.new.self cut.0
    (said_form c.in-Ok.said) cut.1 c.close.ensures c.lines.invariant

pub returns-in-None-clause-cited : goal.returns-in-None-clause-cited
returns-in-None-clause-cited c = λ none.
    let cut = said_cut c.lines.reading c.judge_line.new.reading _ c.in-Ok.said c.in-Ok.is c.in_ok-said.ensures.cut in
    c.close.ensures.cited ∙ cut.1.cited ∙ c.lines.invariant.cited

pub overflow_add-result : goal.overflow_add-result
overflow_add-result c = let room = c.lines.invariant.room in let small = c.requires.room in omega (arith, room, small)

pub returns-clause-comes : goal.returns-clause-comes
returns-clause-comes c = λ ask asked next.
    lines_missing (type_form c.args.ty.now) c.args.sig.now c.args.effort (design_form c.args.design.now) c.args.first c.args.reading.now c.lines.block c.lines.reading _
    (is_nothing c.lines.reading.left.now c.is_empty.result c.is_empty.ensures c.lines-test.false) refl c.lines.invariant ask asked next
