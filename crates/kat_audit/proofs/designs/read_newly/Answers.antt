use Rattle.std.proofs.Common.{◌+◌, [], ◌∷◌, length}
use Rattle.kat_design.specs.Designs.{design_form}
use Rattle.kat_due.specs.Dues.{goes_to}
use Rattle.kat_due.specs.Dues.Phase.{at_design, cites}
use Rattle.kat_due.specs.Readings.{state_at}
use Rattle.kat_due.specs.Texts.{history_line}
use Rattle.kat_due.proofs.Coming.{comes_fault, met_cut}
use Rattle.kat_due.proofs.Judged.{if_behind, if_cited, newly_done}
use Rattle.kat_due.proofs.Refuting.{history_comes}
use Rattle.kat_audit.proofs.designs.read_newly.Goals as goal

pub returns-in-Some-clause-comes : goal.returns-in-Some-clause-comes
returns-in-Some-clause-comes c = λ ask same next agrees first.
    let old = c.args.reading.now in
    let mid = c.read_history.new.reading in
    let s = state_at c.args.sig.now old at_design in
    comes_fault ask s (goes_to s (cites c.args.history.now)) old.left.now mid.left.now _ c.in-Some.fault c.in-Some.is
    (history_comes ask c.args.sig.now (design_form c.args.design.now) c.args.history.now old mid _ same next agrees first c.in_ok-fault.ensures)

pub returns-clause-comes : goal.returns-clause-comes
returns-clause-comes c =
    let old = c.args.reading.now in
    let mid = c.read_history.new.reading in
    let cut = met_cut old mid (history_line c.args.sig.now (length old.cited.items + 1) c.args.history.now) _ c.in_default.is c.in_ok-fault.ensures in
    newly_done c.read_cited.result c.args.sig.now (design_form c.args.design.now) c.args.history.now c.args.number old mid c.read_cited.new.reading c.requires.numbered cut c.read_cited.ensures.comes

pub returns-clause-behind : goal.returns-clause-behind
returns-clause-behind c =
    let old = c.args.reading.now in
    let mid = c.read_history.new.reading in
    let line = history_line c.args.sig.now (length old.cited.items + 1) c.args.history.now in
    if_behind c.read_cited.result old mid c.read_cited.new.reading line 1 1 (met_cut old mid line _ c.in_default.is c.in_ok-fault.ensures) c.read_cited.ensures.behind

pub returns-clause-cited : goal.returns-clause-cited
returns-clause-cited c =
    let old = c.args.reading.now in
    let mid = c.read_history.new.reading in
    let cut = met_cut old mid (history_line c.args.sig.now (length old.cited.items + 1) c.args.history.now) _ c.in_default.is c.in_ok-fault.ensures in
    if_cited c.read_cited.result old.cited.items mid.cited.items c.read_cited.new.reading.cited.items (c.args.number ∷ []) cut.cited c.read_cited.ensures.cited
