use Rattle.std.proofs.Common.{ℕ, List, [], Bor, drop, map}
use Rattle.kat_passed.specs.Passing.{named}
use Rattle.kat_passed.proofs.PieceLemmas.{files_whole, not_all_text}
use Rattle.kat_passed.proofs.files.paired.Goals as goal

pub returns-in_default : goal.returns-in_default
returns-in_default c =
    files_whole (map (λ (name : Bor (List ℕ)). name.now) (drop c.loop-name.name-index c.args.names.now)) c.loop-name.counts.now c.loop-name.rest.now
    (map named c.loop-name.files.items) _ c.in_default.ensures c.loop-name.invariant

pub returns-in_default-2 : goal.returns-in_default-2
returns-in_default-2 c =
    not_all_text (λ (name : Bor (List ℕ)). name.now) c.args.names.now c.loop-name.name-index (record { ref_ptr = (0, 0); now = [] }) c.loop-name-test.true
    (rw c.in_default-2.is at c.in_ok-file.ensures)
