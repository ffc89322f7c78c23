use Rattle.std.proofs.Common.{◌+◌}
use Rattle.kat_design.specs.Designs.{design_form}
use Rattle.kat_type.specs.Types.{type_form}
use Rattle.kat_due.specs.Texts.{begin_line}
use Rattle.kat_due.proofs.Coming.{met_cut}
use Rattle.kat_due.proofs.Judged.{begin_fault, block_done, if_behind, if_kept}
use Rattle.kat_audit.proofs.blocks.read_block.Goals as goal

pub returns-in-Some-clause-comes : goal.returns-in-Some-clause-comes
returns-in-Some-clause-comes c =
    begin_fault (type_form c.args.ty.now) c.args.effort c.args.sig.now (design_form c.args.design.now) c.args.reading.now c.read_begin.new.reading _ c.in-Some.fault c.in-Some.is c.in_ok-fault.ensures

pub returns-clause-comes : goal.returns-clause-comes
returns-clause-comes c =
    let old = c.args.reading.now in
    let mid = c.read_begin.new.reading in
    let d = design_form c.args.design.now in
    let cut = met_cut old mid (begin_line (old.count + 1) d) _ c.in_default.is c.in_ok-fault.ensures in
    block_done c.read_lines.result (type_form c.args.ty.now) c.args.effort c.args.sig.now d c.in_ok-block.block old mid c.read_lines.new.reading c.in_ok-block.ensures.candidates c.in_ok-block.ensures.none cut c.read_lines.ensures.comes

pub returns-clause-behind : goal.returns-clause-behind
returns-clause-behind c =
    let old = c.args.reading.now in
    let mid = c.read_begin.new.reading in
    let line = begin_line (old.count + 1) (design_form c.args.design.now) in
    if_behind c.read_lines.result old mid c.read_lines.new.reading line 1 1 (met_cut old mid line _ c.in_default.is c.in_ok-fault.ensures) c.read_lines.ensures.behind

pub returns-clause-cited : goal.returns-clause-cited
returns-clause-cited c =
    let old = c.args.reading.now in
    let mid = c.read_begin.new.reading in
    let cut = met_cut old mid (begin_line (old.count + 1) (design_form c.args.design.now)) _ c.in_default.is c.in_ok-fault.ensures in
    if_kept c.read_lines.result old.cited.items mid.cited.items c.read_lines.new.reading.cited.items cut.cited c.read_lines.ensures.cited
