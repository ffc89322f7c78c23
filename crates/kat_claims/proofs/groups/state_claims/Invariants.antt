use Rattle.std.proofs.Common.{◌≡◌, drop}
use Rattle.kat_design.specs.Designs.{design_form}
use Rattle.kat_type.specs.Types.{type_form}
use Rattle.kat_claims.specs.Groups.{claim_each}
use Rattle.kat_symbols.specs.Views.{reader_of}
use Rattle.kat_claims.proofs.groups.state_claims.Given as goal

abbrev pub invariant-loop-at : goal.invariant-loop-at
invariant-loop-at g l =
    claim_each (type_form l.old.ty.now) (design_form l.old.design.now) (g.S.ReadSide.side l.side) l.conjunct (drop l.at-index l.ats) (reader_of l.reader)
    ≡ claim_each (type_form l.old.ty.now) (design_form l.old.design.now) (g.S.ReadSide.side l.side) l.conjunct l.ats (reader_of l.fn.reader)
