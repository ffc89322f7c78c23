use Rattle.kat_num.proofs.Codes.{power_of_two}
use Rattle.kat_node.proofs.written.byte_at.Goals as goal

pub returns : goal.returns
returns c = rw (power_of_two c.args.place)
