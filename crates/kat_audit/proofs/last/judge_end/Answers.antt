use Rattle.std.proofs.Common.{rules, ◌≡◌, ◌++◌, ℕ, List, ◌∙◌, ap, sym}
use Rattle.std.specs.Prelude.{codes}
use Rattle.kat_hist.specs.Scripts.{number_text}
use Rattle.kat_due.specs.Dues.Phase.{at_design}
use Rattle.kat_due.specs.Readings.{state_at}
use Rattle.kat_due.specs.Texts.{none_line, undecided_line}
use Rattle.kat_due.proofs.Ending.{last_none, last_undecided}
use Rattle.kat_audit.proofs.last.judge_end.Goals as goal

pub returns-then-reading-eq0 : goal.returns-then-reading-eq0
returns-then-reading-eq0 c = λ ask sig size all none.
    let same : c.from.result ≡ c.args.size = search rules in
    let text = c.deref.ensures.value ∙ c.in_ok-push_number.ensures ∙ ap (λ (l : List ℕ). l ++ number_text (codes "none up to ") c.from.result (codes "\n")) c.new-text.ensures.items in
    c.read_last.ensures ask sig (last_none ask (state_at sig c.args.reading.now at_design) all c.if-reading-eq0.true ∙ ap (λ (n : ℕ). none_line n) (size ∙ sym same) ∙ sym text) none

pub returns : goal.returns
returns c = λ ask sig size all none.
    let same : c.from-2.result ≡ c.args.size = search rules in
    let text = c.deref-2.ensures.value ∙ c.in_ok-push_number-2.ensures ∙ ap (λ (l : List ℕ). l ++ number_text (codes "undecided up to ") c.from-2.result (codes "\n")) c.new-text.ensures.items in
    c.read_last-2.ensures ask sig (last_undecided ask (state_at sig c.args.reading.now at_design) all c.if-reading-eq0.false ∙ ap (λ (n : ℕ). undecided_line n) (size ∙ sym same) ∙ sym text) none
