use Rattle.std.proofs.Common.{◌≡◌, ◌++◌}
use Rattle.kat_form.specs.Encodings.{senses_of}
use Rattle.kat_form.specs.Drafts.{senses_in}
use Rattle.kat_form.proofs.draft.Draft.finish.Given as goal

abbrev pub invariant-loop-key : goal.invariant-loop-key
invariant-loop-key l = senses_of l.meanings.items ++ senses_in l.key-iterator ≡ l.fn.self.senses
