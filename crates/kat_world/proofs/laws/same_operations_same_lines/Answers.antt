use Rattle.kat_world.proofs.Convergence.{print_alike, replicas_alike}
use Rattle.kat_world.proofs.DesignLaws.{lawful}
use Rattle.kat_world.proofs.laws.same_operations_same_lines.Goals as goal

pub returns-clause-operations : goal.returns-clause-operations
returns-clause-operations c = λ d some others sorted once once' same. print_alike d some others (lawful d sorted) once once' same

pub returns-clause-replicas : goal.returns-clause-replicas
returns-clause-replicas c = λ d n m lines others r s sorted judged judged' same. replicas_alike d n m lines others r s (lawful d sorted) judged judged' same
