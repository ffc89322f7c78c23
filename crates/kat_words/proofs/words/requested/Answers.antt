use Rattle.std.proofs.Common.{◌∙◌}
use Rattle.std.proofs.lemmas.Result.{IfOk-weaker}
use Rattle.clap.specs.Matches.{found_of}
use Rattle.kat_words.proofs.Verdicts.{request_met}
use Rattle.kat_words.proofs.words.requested.Goals as goal

pub returns-in-Some-clause-is : goal.returns-in-Some-clause-is
returns-in-Some-clause-is c = λ name rows parts met holds.
    IfOk-weaker c.requested_by.result _ _
    (λ found h. h ∙ request_met c.args.matches.now (found_of c.in-Some.found.now) c.in-Some.name.now c.in-Some.ensures.rows c.in-Some.ensures.name name rows parts met holds)
    c.requested_by.ensures.is
