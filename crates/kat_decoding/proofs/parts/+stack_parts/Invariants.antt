use Rattle.std.proofs.Common.{length}
use Rattle.kat_decoding.proofs.parts.+stack_parts.Given as goal

abbrev pub decreases-stack_parts : goal.decreases-stack_parts
decreases-stack_parts l = length l.tokens.now
