use Rattle.std.proofs.Common.{sym, ◌∙◌}
use Rattle.kat_design.specs.Designs.{design_form}
use Rattle.kat_design.specs.Faults.{component_faults, each_faults, faults_of, first_of, is_too_large, list_faults, query_faults, within}
use Rattle.kat_sort_check.specs.Places.{placed}
use Rattle.kat_sort_check.proofs.Firsts.{design_first, ok_to, placed_first}
use Rattle.kat_sort_check.proofs.checking.first_fault.Goals as goal

pub returns : goal.returns
returns c =
    let d = design_form c.args.design.now in
    let components = each_faults (component_faults d.sig.ops) 0 d.components in
    let asks = list_faults (query_faults d.components) d.asks d.sig.queries in
    let in_components = rw (c.as_slice-ops.ensures, c.as_slice-components.ensures) at c.in_ok-components_fault.ensures in
    let in_asks = rw (c.as_slice-components.ensures, c.as_slice.ensures, c.as_slice-queries.ensures) at c.in_ok-asks.ensures in
    ok_to c.within-4.result (placed 3 c.earlier.result) (first_of (faults_of d)) c.within-4.ensures
    (design_first (is_too_large d) (within 0 components) (within 1 asks) _ _ c.earlier.result (sym c.is_too_large.ensures ∙ c.if-is_too_large.false)
    (placed_first 0 components _ _ c.in_ok-first.ensures in_components) (placed_first 1 asks _ _ c.in_ok-second.ensures in_asks) c.earlier.ensures)
