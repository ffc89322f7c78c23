-- Operations that can have been done together.
use Rattle.std.specs.Prelude.{◌≤◌, List}
use Rattle.kat_type.specs.Alike.{FitsType}
use Rattle.kat_type.specs.Arrangements.{AreApart}
use Rattle.kat_type.specs.Lists.{Has, IsOnce}
use Rattle.kat_type.specs.Types.{TypeForm}
use Rattle.kat_type.specs.declared.done.Done.{Done}

-- Each is one of the type's with fitting arguments, times and replicas are numbered from 1, no operation is there twice,
-- and no two have the same time and replica.
pub record CanBeDone (ty : TypeForm) (ones : List Done) : Type 0 where
  pub fit : (one : Done) → Has ones one → FitsType ty one
  pub timed : (one : Done) → Has ones one → 1 ≤ one.time
  pub numbered : (one : Done) → Has ones one → 1 ≤ one.replica
  pub once : IsOnce ones
  pub apart : AreApart ones
