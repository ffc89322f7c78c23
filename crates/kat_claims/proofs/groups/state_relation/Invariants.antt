use Rattle.std.proofs.Common.{◌≡◌, drop}
use Rattle.kat_design.specs.Designs.{design_form}
use Rattle.kat_type.specs.Types.{type_form}
use Rattle.kat_claims.specs.Groups.{relation_stated}
use Rattle.kat_symbols.specs.Views.{reader_of}
use Rattle.kat_claims.proofs.groups.state_relation.Given as goal

abbrev pub invariant-loop-conjunct : goal.invariant-loop-conjunct
invariant-loop-conjunct g l =
    relation_stated (type_form l.old.ty.now) (design_form l.old.design.now) (g.S.ReadSide.side l.side) l.keys (drop l.conjunct-index l.conjuncts) (reader_of l.reader)
    ≡ relation_stated (type_form l.old.ty.now) (design_form l.old.design.now) (g.S.ReadSide.side l.side) l.keys l.conjuncts (reader_of l.fn.reader)
