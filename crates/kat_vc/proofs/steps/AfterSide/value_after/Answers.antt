use Rattle.std.proofs.Common.{map, ap}
use Rattle.kat_design.specs.Designs.{component_form, design_form}
use Rattle.kat_type.specs.Types.{operation_form, type_form}
use Rattle.kat_symbols.specs.Views.{reader_of}
use Rattle.kat_vc.proofs.Values.{value_is}
use Rattle.kat_vc.proofs.steps.AfterSide.value_after.Goals as goal

pub returns-in-Leaf : goal.returns-in-Leaf
returns-in-Leaf c =
    value_is c.leaf_after.result (reader_of c.leaf_after.new.reader) (type_form c.args.self.now.old.ty.now) (design_form c.args.self.now.old.design.now) c.args.self.now.number
    (operation_form c.args.self.now.op.now) c.args.place c.in-Leaf.component c.in-Leaf.leaf c.args.at c.as_slice-in-Leaf.result.now (map component_form c.as_slice-in-Leaf-2.result.now)
    (reader_of c.args.reader.now) c.in-Leaf.is c.as_slice-in-Leaf.ensures (ap (map component_form) c.as_slice-in-Leaf-2.ensures) c.leaf_after.ensures
