use Rattle.std.proofs.Common.{◌≡◌, ◌<◌, ◌∙◌, false, map, subst, sym}
use Rattle.kat_num.specs.contracts.values.ValueOrd.TheImpl.Laws.{total-law}
use Rattle.kat_script.specs.declared.rules.TheConstants.{TIME_LIMIT}
use Rattle.kat_design.specs.Designs.{component_form, design_form}
use Rattle.kat_design.specs.Fitting.{FitsSignature}
use Rattle.kat_design.proofs.LowCells.{args_low}
use Rattle.kat_node.specs.Nodes.{IsNode}
use Rattle.kat_step.specs.Limits.{passes_limit}
use Rattle.kat_step.specs.Steps.{done_by}
use Rattle.kat_step.proofs.Acting.{action_fits, node_acted, none_refused, passed_kept}
use Rattle.kat_embed.proofs.steps.act_on.Goals as goal

pub passes_limit-requires : goal.passes_limit-requires
passes_limit-requires c =
    let early : c.args.node.now.replica.clock < TIME_LIMIT = c.if-node-ge-TIME_LIMIT.false in
    args_low c.args.design.now.sig c.done_at-done.result
    (subst (FitsSignature c.args.design.now.sig) (sym c.done_at-done.ensures)
    (action_fits c.args.design.now.sig c.args.call c.args.node.now.number c.args.node.now.replica.clock c.requires.fits c.requires.node.least c.requires.node.most early))

pub apply-requires-clause-kin : goal.apply-requires-clause-kin
apply-requires-clause-kin c = c.nodes_go_with_designs.ensures.goes (design_form c.args.design.now) c.args.node.now c.requires.sorted c.requires.node

pub apply-requires-clause-room : goal.apply-requires-clause-room
apply-requires-clause-room c = c.nodes_go_with_designs.ensures.room (design_form c.args.design.now) c.args.node.now c.requires.node

pub apply-requires-clause-fits : goal.apply-requires-clause-fits
apply-requires-clause-fits c =
    let early : c.args.node.now.replica.clock < TIME_LIMIT = c.if-node-ge-TIME_LIMIT.false in
    subst (FitsSignature c.args.design.now.sig) (sym c.done_at-done.ensures)
    (action_fits c.args.design.now.sig c.args.call c.args.node.now.number c.args.node.now.replica.clock c.requires.fits c.requires.node.least c.requires.node.most early)

pub returns-clause-kept : goal.returns-clause-kept
returns-clause-kept c =
    let d = design_form c.args.design.now in
    let components : c.as_slice.result.now ≡ c.args.design.now.components = c.as_slice.ensures in
    let parts : c.as_slice-parts.result.now ≡ c.args.node.now.replica.state.parts = c.as_slice-parts.ensures in
    let same : c.done_at-done.result ≡ done_by c.args.node.now c.args.call = c.done_at-done.ensures in
    let within : passes_limit d.components c.args.node.now.replica.state.parts (done_by c.args.node.now c.args.call) ≡ false =
    (λ i. passes_limit (map component_form (sym components i)) (sym parts i) (sym same i)) ∙ sym c.passes_limit.ensures ∙ c.if-passes_limit.false in
    subst (IsNode d) (node_acted d c.args.node.now c.args.call c.done_at-done.result c.apply.new.self same c.in_ok-apply.ensures.adds c.in_ok-apply.ensures.clock)
    (passed_kept total-law c.tells_values_apart.ensures d c.args.node.now c.args.call c.requires.sorted c.requires.node c.requires.fits
    (none_refused d c.args.node.now c.args.call c.if-node-ge-TIME_LIMIT.false within))
