use Rattle.kat_num.specs.declared.values.Sort.TheVariants.{Bool as OfBool, Int as OfInt, Nat as OfNat, Name as OfName}
use Rattle.kat_num.proofs.Arguments.{read_again}
use Rattle.kat_num.proofs.reads.read_value.Goals as goal

pub returns-in-Bool-clause-again : goal.returns-in-Bool-clause-again
returns-in-Bool-clause-again c = rw c.in-Bool.is (read_again OfBool c.args.bytes.now c.truth.result c.truth.ensures)

pub returns-in-Int-clause-again : goal.returns-in-Int-clause-again
returns-in-Int-clause-again c = rw c.in-Int.is (read_again OfInt c.args.bytes.now c.whole.result c.whole.ensures)

pub returns-in-Nat-clause-again : goal.returns-in-Nat-clause-again
returns-in-Nat-clause-again c = rw c.in-Nat.is (read_again OfNat c.args.bytes.now c.natural.result c.natural.ensures)

pub returns-in-Name-clause-again : goal.returns-in-Name-clause-again
returns-in-Name-clause-again c = rw c.in-Name.is (read_again OfName c.args.bytes.now c.name.result c.name.ensures)
