use Rattle.std.proofs.Common.{rules, ◌≡◌, ◌++◌, ℕ, List, [], ◌∙◌, ap, sym}
use Rattle.std.specs.Prelude.{codes}
use Rattle.kat_hist.specs.Scripts.{number_text}
use Rattle.kat_due.specs.Dues.Phase.{at_design}
use Rattle.kat_due.specs.Readings.{state_at}
use Rattle.kat_due.specs.Texts.{stopped_line}
use Rattle.kat_due.proofs.Ending.{last_stopped}
use Rattle.kat_audit.proofs.last.judge_stopped.Goals as goal

pub returns : goal.returns
returns c = λ ask sig size more none.
    let count = c.args.reading.now.count in
    let first = number_text (codes "stopped after ") count (codes " up to ") in
    let same : c.from.result ≡ c.args.size = search rules in
    let text =
    c.deref.ensures.value ∙ c.in_ok-push_number-2.ensures ∙ ap (λ (l : List ℕ). l ++ number_text [] c.from.result (codes "\n")) (c.in_ok-push_number.ensures ∙ ap (λ (l : List ℕ). l ++ first) c.new-text.ensures.items) in
    c.read_last.ensures ask sig (last_stopped ask (state_at sig c.args.reading.now at_design) more ∙ ap (λ (n : ℕ). stopped_line count n) (size ∙ sym same) ∙ sym text) none
