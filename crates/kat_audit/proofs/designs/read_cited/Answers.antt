use Rattle.std.proofs.Common.{rules, ◌≡◌, ◌+◌, ◌++◌, [], ◌∷◌, ℕ, List, ◌∙◌, ap, length, refl}
use Rattle.kat_design.specs.Designs.{design_form}
use Rattle.kat_due.specs.Dues.{behind_refuted}
use Rattle.kat_due.specs.Dues.Phase.{cites}
use Rattle.kat_due.specs.Readings.{histories_at, state_at}
use Rattle.kat_due.specs.Texts.{differs_line}
use Rattle.kat_due.specs.declared.reading.Reading.{Reading}
use Rattle.kat_due.proofs.Coming.{comes_fault, met_cut}
use Rattle.kat_due.proofs.Refuting.{its_comes, its_on, same_text}
use Rattle.kat_audit.proofs.designs.read_cited.Goals as goal

pub returns-in-Some-clause-comes : goal.returns-in-Some-clause-comes
returns-in-Some-clause-comes c = λ ask sig history there next.
    let old = c.args.reading.now in
    let mid = c.expect.new.self in
    let d = design_form c.args.design.now in
    let as_many : c.len.result ≡ length c.args.reading.now.cited.items = search rules in
    let line = differs_line (old.count + 1) (length old.cited.items + 1) d in
    let text =
    c.deref.ensures.value ∙ c.in_ok-push_differs.ensures ∙ ap (λ (l : List ℕ). l ++ differs_line (old.count + 1) (c.len.result + 1) d) c.new-text.ensures.items
    ∙ ap (λ (n : ℕ). differs_line (old.count + 1) (n + 1) d) as_many in
    let s = state_at sig old (cites history) in
    comes_fault ask s (behind_refuted s (histories_at sig old.cited.items ++ history ∷ [])) old.left.now mid.left.now c.expect.result c.in-Some.fault c.in-Some.is
    (its_comes ask sig d history old mid c.expect.result next (same_text old mid c.deref.result.now line c.expect.result text c.expect.ensures))

pub returns-clause-comes : goal.returns-clause-comes
returns-clause-comes c = λ ask sig history there next.
    let old = c.args.reading.now in
    let mid = c.expect.new.self in
    let d = design_form c.args.design.now in
    let as_many : c.len.result ≡ length c.args.reading.now.cited.items = search rules in
    let line = differs_line (old.count + 1) (length old.cited.items + 1) d in
    let text =
    c.deref.ensures.value ∙ c.in_ok-push_differs.ensures ∙ ap (λ (l : List ℕ). l ++ differs_line (old.count + 1) (c.len.result + 1) d) c.new-text.ensures.items
    ∙ ap (λ (n : ℕ). differs_line (old.count + 1) (n + 1) d) as_many in
    let cut = met_cut old mid line c.expect.result c.in_default.is (same_text old mid c.deref.result.now line c.expect.result text c.expect.ensures) in
    let new : Reading = record { left = mid.left; lines = mid.lines; count = mid.count + 1; cited = c.push.new.self; passed = mid.passed; hidden = mid.hidden } in
    its_on ask sig d history c.args.number old mid new next there cut
    (record { left = refl; lines = refl; count = refl; cited_too = c.in_ok-push.ensures.items ∙ ap (λ (l : List ℕ). l ++ c.args.number ∷ []) cut.cited; passed = refl; hidden = refl })

pub returns-clause-cited : goal.returns-clause-cited
returns-clause-cited c = λ none.
    let cut = met_cut c.args.reading.now c.expect.new.self c.deref.result.now c.expect.result c.in_default.is c.expect.ensures in
    c.in_ok-push.ensures.items ∙ ap (λ (l : List ℕ). l ++ c.args.number ∷ []) cut.cited
