-- What a handle owns: nothing at null, and otherwise a box with a replica.
use Rattle.std.specs.Prelude.{Option, None, Some}
use Rattle.std.specs.Global.{Global}
use Rattle.std.specs.Box.Ownership.{box_owns}
use Rattle.std.specs.contracts.impls.GlobalAllocator.TheImpl.{ghosts}
use base.Fml.{Fml, feq}
use denote.RawPtr.{Ptr, null_ptr}
use Rattle.kat_embed.specs.declared.contents.Contents.{Contents}
use Rattle.kat_embed.specs.contracts.embedded.Embedded.{the_row}

-- there is one allocator of this kind
abbrev pub heap : Global
heap = record { memory = record { seal = tt } }

abbrev pub holds : Ptr → Option Contents → Fml
holds p None = feq Ptr p null_ptr
holds p (Some replica) = box_owns (ghosts.dealloc_token heap) the_row p replica
