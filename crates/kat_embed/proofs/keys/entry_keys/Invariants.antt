use Rattle.std.proofs.Common.{◌≡◌, take}
use Rattle.kat_embed.specs.KeyLists.{entry_keys}
use Rattle.kat_embed.proofs.keys.entry_keys.Given as goal

abbrev pub invariant-loop-entry : goal.invariant-loop-entry
invariant-loop-entry g l = l.keys.items ≡ entry_keys (take l.entry-index l.entries)
