use Rattle.std.proofs.Common.{map, take}
use Rattle.kat_words.specs.Parsers.{IsCommand}
use Rattle.kat_words.proofs.program.new_command.Given as goal

abbrev pub invariant-each : goal.invariant-each
invariant-each l = IsCommand l.fn.name (map (λ option. option.now) (take l.option-index l.fn.options)) l.command
