use Rattle.std.proofs.Common.{List, refl, subst, sym, ◌∙◌, arith}
use Rattle.kat_design.specs.Designs.{DesignForm, design_form}
use Rattle.kat_rules.specs.Listed.{IsListing}
use Rattle.kat_gram.specs.Listings.{designs_of, to_come}
use Rattle.kat_type.specs.Types.{type_form}
use Rattle.kat_search.specs.Answers.{IsEndWith, IsStoppedWith}
use Rattle.kat_search.specs.Findings.{Tries}
use Rattle.kat_search.specs.NarrowVerdicts.{IsNarrowVerdict}
use Rattle.kat_search.proofs.Going.{Goes, emitted, ends_so, few_given, few_tried, goes_first, goes_on, if_ok, if_verdict, next_is, next_tryable, none_next, not_over, stops_so}
use Rattle.kat_search.proofs.search.try_designs.Goals as goal

pub designs-init : goal.designs-init
designs-init c =
    let ty = type_form c.args.ty.now in
    let options = c.args.options.now in
    let designs = designs_of c.args.listing.now in
    record {
      listed = c.requires.listed;
      goes = subst (λ (ds : List DesignForm). Goes ty options designs ds c.in_ok-findings.findings) (sym c.requires.first) (goes_first ty options designs c.in_ok-findings.findings c.in_ok-findings.ensures.empty);
      is_for = c.in_ok-findings.ensures.is_for;
      of_type = c.requires.of_type;
    }

pub next-requires : goal.next-requires
next-requires c = few_given (type_form c.args.ty.now) c.args.options.now c.designs.listing c.designs.findings c.requires.ranges c.designs.invariant.goes

pub returns-then-is_over-clause-narrow : goal.returns-then-is_over-clause-narrow
returns-then-is_over-clause-narrow c =
    let ty = type_form c.args.ty.now in
    let options = c.args.options.now in
    let next = next_is design_form (to_come c.designs.listing) (to_come c.next.new.self) c.in_ok-design.field-0 c.in-Some.design c.in-Some.is c.in_ok-design.ensures.given in
    if_ok c.stopped.result (IsStoppedWith c.designs.findings options.size) (IsNarrowVerdict ty options) c.stopped.ensures
    (λ answer h. stops_so ty options (designs_of c.designs.listing) (to_come c.designs.listing) (to_come c.next.new.self) (design_form c.in-Some.design) c.designs.findings answer
    c.designs.invariant.listed next (sym c.is_over.ensures ∙ c.if-is_over.true) c.designs.invariant.goes h)

pub returns-then-is_over-clause-verdict : goal.returns-then-is_over-clause-verdict
returns-then-is_over-clause-verdict c =
    if_verdict (type_form c.args.ty.now) c.args.options.now c.stopped.result (returns-then-is_over-clause-narrow c)

pub try_design-requires-clause-tryable : goal.try_design-requires-clause-tryable
try_design-requires-clause-tryable c =
    let next = next_is design_form (to_come c.designs.listing) (to_come c.next.new.self) c.in_ok-design.field-0 c.in-Some.design c.in-Some.is c.in_ok-design.ensures.given in
    next_tryable (type_form c.args.ty.now) c.args.options.now (designs_of c.designs.listing) (to_come c.designs.listing) (to_come c.next.new.self) (design_form c.in-Some.design) c.designs.findings
    c.requires.ranges c.designs.invariant.listed next c.designs.invariant.goes

pub try_design-requires-clause-few : goal.try_design-requires-clause-few
try_design-requires-clause-few c =
    few_tried (type_form c.args.ty.now) c.args.options.now (designs_of c.designs.listing) (to_come c.designs.listing) c.designs.findings c.requires.ranges c.designs.invariant.goes

pub returns-in-Some-2-clause-narrow : goal.returns-in-Some-2-clause-narrow
returns-in-Some-2-clause-narrow c =
    let ty = type_form c.args.ty.now in
    let options = c.args.options.now in
    let next = next_is design_form (to_come c.designs.listing) (to_come c.next.new.self) c.in_ok-design.field-0 c.in-Some.design c.in-Some.is c.in_ok-design.ensures.given in
    emitted ty options (designs_of c.designs.listing) (to_come c.designs.listing) (to_come c.next.new.self) (design_form c.in-Some.design) c.designs.findings _ c.in-Some-2.file.items
    c.designs.invariant.listed next (not_over _ _ _ (sym c.is_over.ensures ∙ c.if-is_over.false)) c.designs.invariant.goes
    (subst (λ o. Tries ty options.effort (design_form c.in-Some.design) c.designs.findings c.try_design.new.findings o) c.in-Some-2.is c.in_ok-file.ensures.tries) refl

pub returns-in-Some-2-clause-verdict : goal.returns-in-Some-2-clause-verdict
returns-in-Some-2-clause-verdict c = (returns-in-Some-2-clause-narrow c).0

pub designs-preserved : goal.designs-preserved
designs-preserved c =
    let ty = type_form c.args.ty.now in
    let options = c.args.options.now in
    let next = next_is design_form (to_come c.designs.listing) (to_come c.next.new.self) c.in_ok-design.field-0 c.in-Some.design c.in-Some.is c.in_ok-design.ensures.given in
    record {
      listed = subst (λ (ds : List DesignForm). IsListing ty options.size options.kinds ds) (sym c.in_ok-design.ensures.whole) c.designs.invariant.listed;
      goes =
          subst (λ (ds : List DesignForm). Goes ty options ds (to_come c.next.new.self) c.try_design.new.findings) (sym c.in_ok-design.ensures.whole)
          (goes_on ty options (designs_of c.designs.listing) (to_come c.designs.listing) (to_come c.next.new.self) (design_form c.in-Some.design) c.designs.findings c.try_design.new.findings
          next c.designs.invariant.is_for (not_over _ _ _ (sym c.is_over.ensures ∙ c.if-is_over.false))
          (subst (λ o. Tries ty options.effort (design_form c.in-Some.design) c.designs.findings c.try_design.new.findings o) c.in_default-2.is c.in_ok-file.ensures.tries)
          c.designs.invariant.goes);
      is_for = c.in_ok-file.ensures.is_for;
      of_type = c.try_design.ensures.of_type;
    }

pub overflow_add-number : goal.overflow_add-number
overflow_add-number c =
    let few = few_tried (type_form c.args.ty.now) c.args.options.now (designs_of c.designs.listing) (to_come c.designs.listing) c.designs.findings c.requires.ranges c.designs.invariant.goes in
    omega (arith, few)

pub returns-clause-narrow : goal.returns-clause-narrow
returns-clause-narrow c =
    let ty = type_form c.args.ty.now in
    let options = c.args.options.now in
    let none = none_next design_form (to_come c.designs.listing) (to_come c.next.new.self) c.in_ok-design.field-0 c.in_default.is c.in_ok-design.ensures.given in
    if_ok c.at_end.result (IsEndWith c.designs.findings options.size) (IsNarrowVerdict ty options) c.at_end.ensures
    (λ answer h. ends_so ty options (designs_of c.designs.listing) (to_come c.designs.listing) c.designs.findings answer c.designs.invariant.listed none c.designs.invariant.goes h)

pub returns-clause-verdict : goal.returns-clause-verdict
returns-clause-verdict c =
    if_verdict (type_form c.args.ty.now) c.args.options.now c.at_end.result (returns-clause-narrow c)
