use Rattle.std.proofs.Common.{◌≡◌, ◌<◌, ◌*◌, length}
use Rattle.kat_form.specs.Encodings.{encoding}
use Rattle.kat_refute.specs.Lines.{AreARefutation}
use Rattle.kat_cases.specs.declared.decision.Decision.{Decision}
use Rattle.kat_cases.specs.Nodes.End.{spent}
use Rattle.kat_cases.specs.Walks.{IfRefuted}
use Rattle.kat_cases.specs.Walks.Answer.{stopped}
use Rattle.kat_cases.specs.Settings.{setting_of}
use Rattle.kat_cases.specs.Answers.{answer_of}
use Rattle.kat_cases.specs.Decisions.{Decides, HasNarrowNumbers}
use Rattle.kat_cases.specs.Further.{IsAnswered}
use Rattle.kat_cases.specs.Points.{IsDecisive, IfPoint}
use Rattle.kat_cases.proofs.Soundness.{ok_map}
use Rattle.kat_sat.proofs.decide.Goals as goal

pub returns-clause-walk : goal.returns-clause-walk
returns-clause-walk c =
    ok_map (λ (d : Decision). IsAnswered c.args.encoded.now c.args.effort (answer_of d)) (λ (d : Decision). Decides (setting_of c.args.encoded.now) c.args.effort (answer_of d))
    c.go_on.result (λ d h. h.walk) c.go_on.ensures

pub returns-clause-refutes : goal.returns-clause-refutes
returns-clause-refutes c =
    ok_map (λ (d : Decision). IsAnswered c.args.encoded.now c.args.effort (answer_of d)) (λ (d : Decision). IfRefuted (answer_of d) (λ lines. AreARefutation (encoding c.args.encoded.now) lines × (length lines < 3 * c.args.effort)))
    c.go_on.result (λ d h. h.refutes) c.go_on.ensures

pub returns-clause-point : goal.returns-clause-point
returns-clause-point c =
    ok_map (λ (d : Decision). IsAnswered c.args.encoded.now c.args.effort (answer_of d)) (λ (d : Decision). IfPoint (answer_of d) (IsDecisive (encoding c.args.encoded.now) c.args.encoded.now.numbers))
    c.go_on.result (λ d h. h.point) c.go_on.ensures

pub returns-clause-narrow : goal.returns-clause-narrow
returns-clause-narrow c =
    ok_map (λ (d : Decision). IsAnswered c.args.encoded.now c.args.effort (answer_of d)) (λ (d : Decision). HasNarrowNumbers (answer_of d))
    c.go_on.result (λ d h. h.narrow) c.go_on.ensures

pub returns-clause-unspent : goal.returns-clause-unspent
returns-clause-unspent c = λ most.
    ok_map (λ (d : Decision). IsAnswered c.args.encoded.now c.args.effort (answer_of d)) (λ (d : Decision). answer_of d ≡ stopped spent → ⊥)
    c.go_on.result (λ d h. h.unspent most) c.go_on.ensures
