use Rattle.std.proofs.Common.{rules, ◌≡◌, ◌+◌, ◌++◌, ℕ, List, ◌∙◌, ap, length}
use Rattle.kat_due.specs.Texts.{history_line}
use Rattle.kat_due.proofs.Refuting.{same_text}
use Rattle.kat_audit.proofs.designs.read_history.Goals as goal

pub returns : goal.returns
returns c =
    let old = c.args.reading.now in
    let as_many : c.len.result ≡ length c.args.reading.now.cited.items = search rules in
    let text =
    c.deref.ensures.value ∙ c.in_ok-push_history.ensures ∙ ap (λ (l : List ℕ). l ++ history_line c.args.sig.now (c.len.result + 1) c.args.history.now) c.new-text.ensures.items
    ∙ ap (λ (n : ℕ). history_line c.args.sig.now (n + 1) c.args.history.now) as_many in
    same_text old c.expect.new.self c.deref.result.now (history_line c.args.sig.now (length old.cited.items + 1) c.args.history.now) c.expect.result text c.expect.ensures
