-- Used inside only.
-- What a join takes before it changes anything.
use Rattle.std.specs.Prelude.{Option, Some, None}

-- what holds after the commit: what was staged, or the value itself if nothing was
abbrev pub after : {A : Type 0} → A → Option A → A
after a None = a
after a (Some b) = b
