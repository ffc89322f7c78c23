use Rattle.std.proofs.Common.{ℕ, List, [], Bor}
use Rattle.kat_passed.proofs.PieceLemmas.{not_all_text}
use Rattle.kat_passed.proofs.words.texts_of.Goals as goal

pub returns-in_default : goal.returns-in_default
returns-in_default c =
    not_all_text (λ (piece : Bor (List ℕ)). piece.now) c.args.said.now c.loop-piece.piece-index (record { ref_ptr = (0, 0); now = [] }) c.loop-piece-test.true
    (rw c.in_default.is at c.in_ok-text.ensures)
