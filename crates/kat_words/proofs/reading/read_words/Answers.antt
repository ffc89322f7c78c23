use Rattle.std.proofs.Common.{ap, ◌∙◌}
use Rattle.clap.specs.Simple.{app_of}
use Rattle.clap.specs.Faults.{is_simple_and_free}
use Rattle.kat_words.proofs.Judging.{is_free_program}
use Rattle.kat_words.proofs.Verdicts.{refused_words, taken_words}
use Rattle.kat_words.proofs.reading.read_words.Goals as goal

pub returns-in-Ok-clause-is : goal.returns-in-Ok-clause-is
returns-in-Ok-clause-is c =
    taken_words c.args.words.now (app_of c.in_ok-program.program) c.in-Ok.matches c.requested.result c.in_ok-program.ensures c.in-Ok.ensures.matches
    (c.in-Ok.ensures.kinds (ap is_simple_and_free c.in_ok-program.ensures ∙ is_free_program)) c.requested.ensures.is

pub returns : goal.returns
returns c = record {
  is = refused_words c.args.words.now (app_of c.in_ok-program.program) c.in-Err.error c.in_ok-program.ensures
      (c.in-Err.ensures.kinds (ap is_simple_and_free c.in_ok-program.ensures ∙ is_free_program)) (λ e. c.in_default.not-OutOfMemory (c.kind.ensures ∙ e));
  within = tt;
}
