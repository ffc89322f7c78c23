use Rattle.std.proofs.Common.{◌≡◌, drop, map}
use Rattle.kat_form.specs.Readings.{kept, literals_of}
use Rattle.kat_form.specs.Folds.{reading_of}
use Rattle.kat_form.proofs.Parts.{behind}
use Rattle.kat_form.proofs.encode.+encode.Given as goal

abbrev pub invariant-literals-loop-part : goal.invariant-literals-loop-part
invariant-literals-loop-part l = behind l.literals.items (literals_of (kept (map reading_of (drop l.part-index l.parts))) l.draft) ≡ literals_of (kept (map reading_of l.parts)) l.fn.draft
