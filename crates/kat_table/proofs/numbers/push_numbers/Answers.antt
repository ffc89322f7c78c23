use Rattle.std.proofs.Common.{◌≡◌, [], OnErr, rules, ℕ, List}
use Rattle.std.specs.Prelude.{Result, Ok, Err}
use Rattle.kat_table.specs.Numbers.{IsCutShort}
use Rattle.kat_table.proofs.numbers.push_numbers.Goals as goal

-- nothing of the text is there
none_pushed : {T E : Type 0} (r : Result T E) (old new text : List ℕ) → new ≡ old → OnErr r (IsCutShort old new text)
none_pushed (Ok x) old new text is = tt
none_pushed (Err e) old new text is = ([], text, search rules, search rules)

pub returns-in_err-extend_from_slice-clause-err : goal.returns-in_err-extend_from_slice-clause-err
returns-in_err-extend_from_slice-clause-err g c = none_pushed c.from_residual.result c.args.into.now.items c.extend_from_slice.new.self.items _ c.in_err-extend_from_slice.ensures.items
