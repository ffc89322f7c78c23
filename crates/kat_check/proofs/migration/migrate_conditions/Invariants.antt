use Rattle.std.proofs.Common.{◌≡◌, map, take}
use Rattle.kat_refute.specs.Lines.{lines_of}
use Rattle.kat_type.specs.Types.{type_form}
use Rattle.kat_wire.specs.FileForms.{file_form}
use Rattle.kat_check.specs.Migration.{hinted_lists}
use Rattle.kat_check.proofs.Checking.{ProvedSoFar}
use Rattle.kat_check.proofs.migration.migrate_conditions.Given as goal

abbrev pub invariant-loop-i : goal.invariant-loop-i
invariant-loop-i l =
    ProvedSoFar (type_form l.ty) (file_form l.file) l.i
    × (map lines_of l.hinted.items ≡ take l.i (hinted_lists (type_form l.ty) (file_form l.file) 1 (file_form l.file).proof))
