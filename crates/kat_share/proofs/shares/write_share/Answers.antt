use Rattle.std.proofs.Common.{ℕ, List, ◌++◌, ◌∙◌, ap}
use Rattle.kat_design.specs.Designs.{design_form}
use Rattle.kat_share.proofs.Lines.{share_read}
use Rattle.kat_share.specs.MarksTexts.{marks_design, marks_node}
use Rattle.kat_share.proofs.shares.write_share.Goals as goal

pub write_node-requires : goal.write_node-requires
write_node-requires c = c.nodes_go_with_designs.ensures.written (design_form c.args.design.now) c.args.node.now c.requires.node

pub returns-clause-read : goal.returns-clause-read
returns-clause-read c =
    share_read (design_form c.args.design.now) c.in_ok-text.text.items c.in_ok-marks.marks.items c.in_ok-state.state.items c.args.node.now c.args.marks.now c.requires.marks
    (c.nodes_go_with_designs.ensures.written marks_design (marks_node c.args.node.now.number c.args.node.now.replica.clock c.args.marks.now) c.requires.marks) c.in_ok-marks.ensures.text (c.in_ok-text.ensures ∙ ap (λ (t : List ℕ). c.in_ok-marks.marks.items ++ t) c.as_slice.ensures.value) c.in_ok-marks.ensures.read (c.in_ok-state.ensures.read (design_form c.args.design.now) c.requires.node)
