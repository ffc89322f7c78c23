use Rattle.std.proofs.Common.{rules, FitsSigned}
use Rattle.std.specs.Int.{w32}
use Rattle.std.proofs.lemmas.Int.{to_z-of_z}
use Rattle.kat_cases.proofs.stack.Walk.leave.Goals as goal

pub returns-in-First : goal.returns-in-First
returns-in-First c =
    let fits : FitsSigned w32 c.in-First.literal = search rules in
    let left = rw (to_z-of_z w32 c.in-First.literal fits) at c.leave_first.ensures.left in
    let path = rw (to_z-of_z w32 c.in-First.literal fits) at c.leave_first.ensures.path in
    rw c.in-First.is (record { left = left; path = path; leaves = c.leave_first.ensures.leaves; steps = c.leave_first.ensures.steps })

pub returns-in-Second : goal.returns-in-Second
returns-in-Second c =
    let fits : FitsSigned w32 c.in-Second.literal = search rules in
    let left = rw (to_z-of_z w32 c.in-Second.literal fits, c.deref.ensures.value) at c.leave_second.ensures.left in
    let path = rw (to_z-of_z w32 c.in-Second.literal fits) at c.leave_second.ensures.path in
    rw c.in-Second.is (record { left = left; path = path; leaves = c.leave_second.ensures.leaves; steps = c.leave_second.ensures.steps })
