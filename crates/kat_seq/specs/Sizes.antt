-- Used inside only.
-- How great the numbers of a state grow.
use Rattle.std.specs.Prelude.{ℕ, ◌+◌, ◌*◌, List, All}
use Rattle.kat_num.specs.declared.values.TheConstants.{NUMBER_LIMIT}
use Rattle.kat_expr.specs.Limits.{IsAtMost}
use Rattle.kat_type.specs.declared.done.Done.{Done}

-- the arguments of operations are within the limit of arguments
abbrev pub HaveSmallArguments : List Done → Type 0
HaveSmallArguments dones = All (λ (done : Done). All (IsAtMost NUMBER_LIMIT) done.args) dones

-- after this many operations, no number of a state is greater than this
abbrev pub most_after : ℕ → ℕ
most_after count = NUMBER_LIMIT + count * (400 * NUMBER_LIMIT)
