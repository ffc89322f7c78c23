use Rattle.std.proofs.Common.{rules, ◌<◌, ◌≤◌, ◌∙◌, length}
use Rattle.kat_design.specs.Designs.{design_form}
use Rattle.kat_type.specs.Types.{type_form}
use Rattle.kat_due.proofs.Citing.{cited_found, cited_on, none_cited}
use Rattle.kat_audit.proofs.designs.first_cited.Goals as goal

pub returns-then-branch-clause-first : goal.returns-then-branch-clause-first
returns-then-branch-clause-first c =
    let within : c.loop-place.place < length c.args.cited.now = search rules in
    cited_found c.loop-place.trials c.args.ty.now (design_form c.args.design.now) c.args.cited.now c.loop-place.place c.in_ok-differs.field-0
    c.loop-place.invariant.of_type within c.requires.numbers c.in_ok-differs.ensures.decides c.if-branch.true c.loop-place.invariant.none

pub loop-place-preserved : goal.loop-place-preserved
loop-place-preserved c =
    let within : c.loop-place.place < length c.args.cited.now = search rules in
    record {
      none =
          cited_on c.loop-place.trials c.args.ty.now (design_form c.args.design.now) c.args.cited.now c.loop-place.place c.in_ok-differs.field-0
          c.loop-place.invariant.of_type within c.requires.numbers c.in_ok-differs.ensures.decides c.if-branch.false c.loop-place.invariant.none;
      of_type = c.differs.ensures.same ∙ c.loop-place.invariant.of_type;
    }

pub returns-clause-first : goal.returns-clause-first
returns-clause-first c =
    let past : length c.args.cited.now ≤ c.loop-place.place = search rules in
    none_cited (type_form c.args.ty.now) (design_form c.args.design.now) c.args.cited.now c.loop-place.place past c.loop-place.invariant.none
