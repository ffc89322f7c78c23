use Rattle.std.proofs.Common.{◌+◌, ◌++◌, ℕ, List, ◌∙◌, ap}
use Rattle.kat_design.specs.Designs.{design_form}
use Rattle.kat_due.specs.Dues.{behind_refuted}
use Rattle.kat_due.specs.Dues.Phase.{at_design}
use Rattle.kat_due.specs.Readings.{histories_at, state_at}
use Rattle.kat_due.specs.Texts.{differs_line}
use Rattle.kat_due.proofs.Coming.{comes_fault, met_cut}
use Rattle.kat_due.proofs.Refuting.{again_comes, again_on, counted, one_counted, same_text}
use Rattle.kat_audit.proofs.designs.read_again.Goals as goal

pub returns-in-Some-clause-comes : goal.returns-in-Some-clause-comes
returns-in-Some-clause-comes c = λ ask sig next first.
    let old = c.args.reading.now in
    let mid = c.expect.new.self in
    let d = design_form c.args.design.now in
    let line = differs_line (old.count + 1) (c.args.place + 1) d in
    let text = c.deref.ensures.value ∙ c.in_ok-push_differs.ensures ∙ ap (λ (l : List ℕ). l ++ line) c.new-text.ensures.items in
    let s = state_at sig old at_design in
    comes_fault ask s (behind_refuted s (histories_at sig old.cited.items)) old.left.now mid.left.now c.expect.result c.in-Some.fault c.in-Some.is
    (again_comes ask sig d c.args.place old mid c.expect.result next first (same_text old mid c.deref.result.now line c.expect.result text c.expect.ensures))

pub returns-clause-comes : goal.returns-clause-comes
returns-clause-comes c = λ ask sig next first.
    let old = c.args.reading.now in
    let mid = c.expect.new.self in
    let d = design_form c.args.design.now in
    let line = differs_line (old.count + 1) (c.args.place + 1) d in
    let text = c.deref.ensures.value ∙ c.in_ok-push_differs.ensures ∙ ap (λ (l : List ℕ). l ++ line) c.new-text.ensures.items in
    let cut = met_cut old mid line c.expect.result c.in_default.is (same_text old mid c.deref.result.now line c.expect.result text c.expect.ensures) in
    again_on ask sig d c.args.place old mid (counted mid) next first cut (one_counted old mid line cut)
