use Rattle.std.proofs.Common.{rules, ◌≡◌, length, sym}
use Rattle.kat_shape.specs.Values.{leaves_of}
use Rattle.kat_node.proofs.Alike.{fit_even, fit_uneven}
use Rattle.kat_node.proofs.tables.fit.Goals as goal

pub returns-then-leaves : goal.returns-then-leaves
returns-then-leaves c =
    let other : length (leaves_of c.args.start.now) ≡ length c.args.leaves.now → ⊥ = rw c.leaves.ensures at c.if-leaves.true in
    sym (fit_uneven c.args.start.now c.args.leaves.now other)

pub returns : goal.returns
returns c =
    let even : length (leaves_of c.args.start.now) ≡ length c.args.leaves.now = search rules in
    rw (fit_even c.args.start.now c.args.leaves.now even) (rw c.leaves-2.ensures at c.each_fits.ensures)
