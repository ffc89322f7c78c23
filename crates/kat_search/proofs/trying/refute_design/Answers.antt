use Rattle.std.proofs.Common.{◌≡◌, ℕ, ◌<◌, ◌∙◌, List, None, Option, Some, length, refl, subst, sym}
use Rattle.std.specs.Prelude.{slice_get}
use Rattle.kat_design.specs.Designs.{design_form}
use Rattle.kat_hist.specs.Firsts.{IsFirstPlace}
use Rattle.kat_type.specs.Signatures.{signature_of}
use Rattle.kat_type.specs.Types.{type_form}
use Rattle.kat_type.specs.declared.types.SeqType.{SeqType}
use Rattle.kat_telling.specs.Entries.{AgreesOn, DiffersOn, FirstDiffersAt, histories_for}
use Rattle.kat_telling.specs.Entries.Entry.{newly}
use Rattle.kat_search.specs.Findings.{histories_at}
use Rattle.kat_search.proofs.Citing.{first_for}
use Rattle.kat_search.proofs.Telling.{first_within, for_on, tells_again, tells_newly}
use Rattle.kat_search.proofs.trying.refute_design.Goals as goal

pub returns-in-Some-clause-refutes : goal.returns-in-Some-clause-refutes
returns-in-Some-clause-refutes c =
    let ty = type_form c.args.ty.now in
    let d = design_form c.args.design.now in
    λ effort. tells_again ty effort d c.in-Some.place c.args.findings.now c.cite_again.new.self c.requires.is_for
    (subst (λ (numbers : List ℕ). FirstDiffersAt ty d (histories_at (signature_of ty) numbers) c.in-Some.place) c.deref.ensures.value
    (subst (λ (o : Option ℕ). IsFirstPlace (DiffersOn ty d) (histories_at (signature_of ty) c.deref.result.now) o) c.in-Some.is c.in_ok-place.ensures.first))
    c.in_ok-cite_again.ensures

pub history-requires : goal.history-requires
history-requires c =
    let held = type_form c.first_cited.new.trials in
    let d = design_form c.args.design.now in
    subst (λ (t : SeqType). c.in-Some-2.number < length (histories_for (type_form t))) (sym c.first_difference.ensures.same)
    (first_within (DiffersOn held d) (histories_for held) c.in-Some-2.number
    (subst (λ (o : Option ℕ). IsFirstPlace (DiffersOn held d) (histories_for held) o) c.in-Some-2.is c.in_ok-number.ensures.first))

pub returns-in-Some-2-clause-refutes : goal.returns-in-Some-2-clause-refutes
returns-in-Some-2-clause-refutes c =
    let ty = type_form c.args.ty.now in
    let d = design_form c.args.design.now in
    let held = type_form c.first_cited.new.trials in
    λ effort. tells_newly ty effort d c.in-Some-2.number c.in_ok-history.history c.args.findings.now c.cite_newly.new.self c.requires.is_for
    (subst (λ (numbers : List ℕ). AgreesOn ty d (histories_at (signature_of ty) numbers)) c.deref.ensures.value
    (subst (λ (o : Option ℕ). IsFirstPlace (DiffersOn ty d) (histories_at (signature_of ty) c.deref.result.now) o) c.in_default.is c.in_ok-place.ensures.first))
    (subst (λ (t : SeqType). slice_get (histories_for (type_form t)) c.in-Some-2.number ≡ Some c.in_ok-history.history) (c.first_difference.ensures.same ∙ c.first_cited.ensures.of_type)
    c.in_ok-history.ensures)
    (first_for c.first_cited.new.trials c.args.ty.now d (Some c.in-Some-2.number) c.first_cited.ensures.of_type
    (subst (λ (o : Option ℕ). IsFirstPlace (DiffersOn held d) (histories_for held) o) c.in-Some-2.is c.in_ok-number.ensures.first))
    c.in_ok-cite_newly.ensures

pub returns-in-Some-2-clause-of_type : goal.returns-in-Some-2-clause-of_type
returns-in-Some-2-clause-of_type c = c.first_difference.ensures.same ∙ c.first_cited.ensures.of_type

pub returns-in-Some-2-clause-is_for : goal.returns-in-Some-2-clause-is_for
returns-in-Some-2-clause-is_for c =
    for_on (type_form c.args.ty.now) (newly (design_form c.args.design.now) c.in_ok-history.history) c.args.findings.now c.cite_newly.new.self c.requires.is_for c.in_ok-cite_newly.ensures

pub returns-clause-refutes : goal.returns-clause-refutes
returns-clause-refutes c =
    let held = type_form c.first_cited.new.trials in
    let d = design_form c.args.design.now in (
      first_for c.first_cited.new.trials c.args.ty.now d None c.first_cited.ensures.of_type
          (subst (λ (o : Option ℕ). IsFirstPlace (DiffersOn held d) (histories_for held) o) c.in_default-2.is c.in_ok-number.ensures.first),
      refl,
    )
