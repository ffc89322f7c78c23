use Rattle.std.proofs.Common.{◌≡◌, ◌++◌, map, take}
use Rattle.kat_replica.specs.Printing.{Grows}
use Rattle.kat_replica.specs.Texts.{separated}
use Rattle.kat_replica.proofs.texts.push_list.Given as goal

abbrev pub invariant-loop-place : goal.invariant-loop-place
invariant-loop-place g l = record {
  text : l.into.items ≡ l.initial.into.items ++ separated (map g.T.Shown.text (take l.place l.items));
  grows : Grows l.fn.into.items l.into.items;
}
