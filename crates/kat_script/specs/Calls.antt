-- Used inside only.
-- What a line calls, by its number.
use Rattle.std.specs.Prelude.{ℕ, length, unwrap_or}
use Rattle.kat_script.specs.Rules.{op_of, query_of}
use Rattle.kat_script.specs.declared.said.Said.{Said}
use Rattle.kat_script.specs.declared.said.Said.TheVariants.{Does, Asks}
use Rattle.kat_type.specs.declared.signatures.Signature.{Signature}

-- the number of the operation or query that a line calls; if there is none, how many there are; and 0 for any other
-- line
abbrev pub call_in : Signature → Said → ℕ
call_in sig (Does r op args time) = unwrap_or (op_of sig op args) (length sig.ops)
call_in sig (Asks r query args) = unwrap_or (query_of sig query args) (length sig.queries)
call_in sig said = 0
