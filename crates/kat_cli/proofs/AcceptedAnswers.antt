-- An accepted file's design answers as its type does.
use Rattle.std.proofs.Common.{ℕ, List, sym, rules}
use Rattle.kat_check.specs.Acceptance.{IsAcceptedFile, lines_at}
use Rattle.kat_invariant.specs.Accepted.{GoTogether}
use Rattle.kat_invariant.specs.Inductive.{IsInductive}
use Rattle.kat_invariant.proofs.Keys.{type_files_have_keys}
use Rattle.kat_invariant.proofs.Refuted.{refuted_conditions_hold}
use Rattle.kat_invariant.proofs.Sequential.{inductive_designs_answer}
use Rattle.kat_lattice.specs.Sets.{TellsApart}
use Rattle.kat_num.specs.Orders.{value_order}
use Rattle.kat_num.specs.contracts.values.ValueOrd.TheImpl.Laws.{total-law}
use Rattle.kat_type.specs.Types.{TypeForm}
use Rattle.kat_type_file.proofs.Alike.{file_alike}
use Rattle.kat_type_file.proofs.Limiting.{file_sorted}
use Rattle.kat_wire.specs.FileForms.{FileForm}
use Rattle.kat_world.specs.AsType.{AnswersAsType}
use Rattle.kat_cli.specs.CheckCommand.{IsFileFor}
use Rattle.kat_cli.proofs.DesignFiles.{well_sorted_file}

-- values that compare equal are one
pub tells_apart : TellsApart value_order
tells_apart = search rules

go_together : (first second : List ℕ) (ty : TypeForm) (file : FileForm) → IsFileFor first second ty file → GoTogether ty file.design
go_together first second ty file is = record {
  type_sorted = file_sorted first ty is.says;
  ranks = file_alike first ty is.says;
  keys = type_files_have_keys first ty is.says;
  design_sorted = well_sorted_file second file is.is_file;
  signed = sym is.agree;
}

-- if the conditions of a file that goes with the type are proved, its relation is an inductive invariant
inductive_by : (ty : TypeForm) (file : FileForm) → GoTogether ty file.design → IsAcceptedFile ty file → IsInductive ty file.design file.relation
inductive_by ty file together accepted =
    refuted_conditions_hold ty file.design file.relation together accepted.fits (λ k from to. (lines_at file k, accepted.proved k from to))

pub answers_by : (ty : TypeForm) (file : FileForm) → GoTogether ty file.design → IsAcceptedFile ty file → AnswersAsType ty file.design
answers_by ty file together accepted =
    λ ones can query q args there fit arranged arranges ranked.
    inductive_designs_answer total-law tells_apart ty file.design file.relation together
    (inductive_by ty file together accepted)
    ones (record { fit = can.fit; timed = can.timed; numbered = can.numbered; once = can.once; apart = can.apart }) query q args there fit arranged arranges ranked

pub is_inductive : (first second : List ℕ) (ty : TypeForm) (file : FileForm) → IsFileFor first second ty file → IsAcceptedFile ty file → IsInductive ty file.design file.relation
is_inductive first second ty file is accepted = inductive_by ty file (go_together first second ty file is) accepted

pub answers_as_type : (first second : List ℕ) (ty : TypeForm) (file : FileForm) → IsFileFor first second ty file → IsAcceptedFile ty file → AnswersAsType ty file.design
answers_as_type first second ty file is accepted = answers_by ty file (go_together first second ty file is) accepted
