use Rattle.std.proofs.Common.{◌≡◌, ℕ, List, length, map, true, ◌∙◌, refl, sym, ap, subst}
use Rattle.std.specs.Option.{option_map}
use Rattle.kat_words.specs.Words.{said_by, texts}
use Rattle.kat_words.specs.declared.words.Command.{Command}
use Rattle.kat_cli.specs.Commands.{has_files}
use Rattle.kat_cli.specs.Outcome.{Verdict}
use Rattle.kat_cli.proofs.Answered.{wrote_answers}
use Rattle.kat_cli.proofs.Asked.{command_is, fits_too, paths_are}
use Rattle.kat_cli.proofs.Ending.{ended_asked, some_same, verdict}
use Rattle.kat_cli.proofs.call.katara.Goals as goal

pub run-requires-clause-paths : goal.run-requires-clause-paths
run-requires-clause-paths g c =
    subst (λ paths. has_files c.in-Ok-Some.request.command (length paths) ≡ true) (sym c.deref.ensures.value)
    (fits_too (λ path. path.now) (texts c.args.words.now) c.in-Ok-Some.request.command c.in-Ok-Some.request.paths.items
    (ap (λ found. option_map said_by found) (sym c.in-Ok-Some.field-0-is) ∙ c.in-Ok-Some.ensures.is))

pub returns-in-Ok-Some-clause-ended : goal.returns-in-Ok-Some-clause-ended
returns-in-Ok-Some-clause-ended g c =
    λ command asked is.
    ended_asked c.in-Ok-Some.request.command command _ _ _ c.run.result
    (some_same c.in-Ok-Some.request.command command
    (sym (command_is (texts c.args.words.now) c.in-Ok-Some.request.command _
    (ap (λ found. option_map said_by found) (sym c.in-Ok-Some.field-0-is) ∙ c.in-Ok-Some.ensures.is)) ∙ asked))
    (ap (λ (paths : List (List ℕ)). map (g.F.Files.holds c.args.files.now) paths)
    (ap (λ paths. map (λ path. path.now) paths) c.deref.ensures.value
    ∙ sym (paths_are (texts c.args.words.now) c.in-Ok-Some.request.command _
    (ap (λ found. option_map said_by found) (sym c.in-Ok-Some.field-0-is) ∙ c.in-Ok-Some.ensures.is))))
    is c.run.ensures.outcome

pub returns-in-Ok-Some-clause-complete : goal.returns-in-Ok-Some-clause-complete
returns-in-Ok-Some-clause-complete g c =
    λ command told asked is reads writes.
    subst (λ (one : Command). Verdict one told c.run.result)
    (some_same c.in-Ok-Some.request.command command
    (sym (command_is (texts c.args.words.now) c.in-Ok-Some.request.command _
    (ap (λ found. option_map said_by found) (sym c.in-Ok-Some.field-0-is) ∙ c.in-Ok-Some.ensures.is)) ∙ asked))
    (verdict c.in-Ok-Some.request.command _ _ told c.run.result
    (ap (λ (paths : List (List ℕ)). map (g.F.Files.holds c.args.files.now) paths)
    (ap (λ paths. map (λ path. path.now) paths) c.deref.ensures.value
    ∙ sym (paths_are (texts c.args.words.now) c.in-Ok-Some.request.command _
    (ap (λ found. option_map said_by found) (sym c.in-Ok-Some.field-0-is) ∙ c.in-Ok-Some.ensures.is)))
    ∙ is) reads writes c.run.ensures.outcome)

pub returns-in-Ok-Some-clause-answers : goal.returns-in-Ok-Some-clause-answers
returns-in-Ok-Some-clause-answers g c =
    λ first second third plain done.
    wrote_answers (g.F.Files.holds c.args.files.now) (texts c.args.words.now) first second third
    (c.in-Ok-Some.request.command, map (λ path. path.now) c.in-Ok-Some.request.paths.items) _ _ _ c.run.result plain
    (ap (λ found. option_map said_by found) (sym c.in-Ok-Some.field-0-is) ∙ c.in-Ok-Some.ensures.is)
    (ap (λ paths. map (g.F.Files.holds c.args.files.now) (map (λ path. path.now) paths)) c.deref.ensures.value)
    refl done c.run.ensures.outcome
