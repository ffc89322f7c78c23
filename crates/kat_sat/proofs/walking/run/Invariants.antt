use Rattle.std.proofs.Common.{◌≡◌, ◌+◌, ◌*◌, length, reverse}
use Rattle.kat_form.specs.Encodings.{encoding}
use Rattle.kat_cases.specs.Frees.{free}
use Rattle.kat_cases.specs.Settings.{setting_of}
use Rattle.kat_cases.specs.Stacks.{Keeps, Recalls, Stands, path_of}
use Rattle.kat_sat.proofs.walking.run.Given as goal

abbrev pub invariant-nodes : goal.invariant-nodes
invariant-nodes l = record {
  keeps : Keeps (encoding l.encoded) l.known;
  assumed : reverse l.known.assumed ≡ path_of l.walk.steps;
  stands : Stands (setting_of l.encoded) l.fn.effort l.walk.steps l.walk.left l.walk.lines;
  recalls : Recalls (setting_of l.encoded) l.last;
}

abbrev pub decreases-nodes : goal.decreases-nodes
decreases-nodes l = l.walk.left * (length (encoding l.encoded).senses + 1) + free (setting_of l.encoded) (path_of l.walk.steps)
