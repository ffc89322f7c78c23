use Rattle.std.proofs.Common.{length}
use Rattle.kat_histories.proofs.answers.+is_answer_in_all.Given as goal

abbrev pub decreases-is_answer_in_all : goal.decreases-is_answer_in_all
decreases-is_answer_in_all l = length l.states.now
