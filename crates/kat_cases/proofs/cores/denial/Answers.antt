use Rattle.std.proofs.Common.{◌∙◌, ◌-◌, ap, arith, get_or, pos, neg_ℤ, rules, FitsSigned, to_z, of_z}
use Rattle.std.specs.Int.{w32}
use Rattle.std.proofs.lemmas.Int.{to_z-of_z}
use Rattle.kat_cases.proofs.Loops.{ascending_turn, small_at}
use Rattle.kat_cases.proofs.cores.denial.Goals as goal

pub opposite-requires : goal.opposite-requires
opposite-requires c =
    let fits : FitsSigned w32 (get_or c.args.core.now (c.back.i - 1) (pos 0)) = search rules in
    rw (to_z-of_z w32 (get_or c.args.core.now (c.back.i - 1) (pos 0)) fits) (small_at c.args.core.now (c.back.i - 1) c.requires (omega arith))

pub back-preserved : goal.back-preserved
back-preserved c =
    let k = get_or c.args.core.now (c.back.i - 1) (pos 0) in
    let fits : FitsSigned w32 (get_or c.args.core.now (c.back.i - 1) (pos 0)) = search rules in
    let fits_o : FitsSigned w32 c.opposite.result = search rules in (
      omega arith,
      ascending_turn c.args.core.now c.back.lits.items c.put_in.new.lits.items (c.back.i - 1) c.back.i (to_z w32 (of_z w32 c.opposite.result)) (omega arith) (omega arith)
          (to_z-of_z w32 c.opposite.result fits_o ∙ c.opposite.ensures ∙ ap neg_ℤ (to_z-of_z w32 k fits)) c.in_ok-put_in.ensures c.back.invariant.1,
    )
