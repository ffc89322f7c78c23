use Rattle.std.proofs.Common.{ℕ, List, IfOk, ap, map, subst, ◌∙◌}
use Rattle.kat_passed.specs.Passing.{AreFiles}
use Rattle.kat_passed.proofs.files.files_in.Goals as goal

pub returns : goal.returns
returns c =
    subst (λ (names : List (List ℕ)). IfOk c.paired.result (λ found. AreFiles names c.args.lengths.now c.args.bytes.now found))
    (ap (map (λ name. name.now)) c.deref.ensures.value ∙ c.in_ok-names.ensures)
    c.paired.ensures
