use Rattle.std.proofs.Common.{◌∙◌, ap, List, [], ◌∷◌, codes}
use Rattle.std.proofs.lemmas.Result.{IfOk-weaker}
use Rattle.clap.specs.Simple.{App}
use Rattle.kat_words.specs.Parsers.{with_command}
use Rattle.kat_words.proofs.program.program.Goals as goal

pub returns : goal.returns
returns c =
    IfOk-weaker c.with_command-13.result _ _
    (λ program is. is
    ∙ ap (λ (app : App). with_command app (codes "sample", codes "lines" ∷ [])) (c.in_ok-list.ensures
    ∙ ap (λ (app : App). with_command app (codes "list", codes "size" ∷ codes "designs" ∷ codes "kinds" ∷ [])) (c.in_ok-node_ask.ensures
    ∙ ap (λ (app : App). with_command app (codes "node-ask", [])) (c.in_ok-node_step.ensures
    ∙ ap (λ (app : App). with_command app (codes "node-step", [])) (c.in_ok-node_new.ensures
    ∙ ap (λ (app : App). with_command app (codes "node-new", codes "replica" ∷ [])) (c.in_ok-model.ensures
    ∙ ap (λ (app : App). with_command app (codes "model", [])) (c.in_ok-converge.ensures
    ∙ ap (λ (app : App). with_command app (codes "converge", [])) (c.in_ok-deltas.ensures
    ∙ ap (λ (app : App). with_command app (codes "deltas", [])) (c.in_ok-run.ensures
    ∙ ap (λ (app : App). with_command app (codes "run", [])) (c.in_ok-migrate.ensures
    ∙ ap (λ (app : App). with_command app (codes "migrate", [])) (c.in_ok-check.ensures
    ∙ ap (λ (app : App). with_command app (codes "check", [])) (c.in_ok-audit.ensures
    ∙ ap (λ (app : App). with_command app (codes "audit", codes "size" ∷ codes "effort" ∷ codes "designs" ∷ codes "kinds" ∷ [])) (c.in_ok-synth.ensures
    ∙ ap (λ (app : App). with_command app (codes "synth", codes "size" ∷ codes "effort" ∷ codes "designs" ∷ codes "kinds" ∷ [])) c.bare_program-bare.ensures)))))))))))))
    c.with_command-13.ensures
