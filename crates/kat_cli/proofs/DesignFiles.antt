-- What the design of a file has.
use Rattle.std.proofs.Common.{ℕ, List}
use Rattle.kat_design.specs.Sorted.{IsWellSorted}
use Rattle.kat_design.proofs.Accepted.{well_sorted}
use Rattle.kat_script.specs.Rules.{HasFewCalls}
use Rattle.kat_wire.specs.FileForms.{FileForm}
use Rattle.kat_wire.specs.Files.{IsFileText}
use Rattle.kat_wire.proofs.AcceptedFiles.{file_accepted}

-- it has no wrong place, and few calls
pub well_sorted_file : (text : List ℕ) (f : FileForm) → IsFileText text f → IsWellSorted f.design
well_sorted_file text f is = well_sorted f.design (file_accepted text f is).accepted

pub few_calls_file : (text : List ℕ) (f : FileForm) → IsFileText text f → HasFewCalls f.design.sig
few_calls_file text f is =
    let small = (file_accepted text f is).signature.small in record { few_ops = small.few_ops; few_queries = small.few_queries }
