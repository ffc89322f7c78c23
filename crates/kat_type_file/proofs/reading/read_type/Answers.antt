use Rattle.kat_type_file.proofs.Files.{refused_by_grammar, refused_by_rule}
use Rattle.kat_type_file.proofs.Limiting.{read_alike, read_file, read_limited, read_sorted}
use Rattle.kat_type_file.proofs.reading.read_type.Goals as goal

pub returns-in-Ok-clause-says : goal.returns-in-Ok-clause-says
returns-in-Ok-clause-says c = read_file c.args.bytes.now c.in-Ok.text c.type_of.result c.in-Ok.ensures.text c.type_of.ensures.says c.type_of.ensures.accepted

pub returns-in-Ok-clause-refused : goal.returns-in-Ok-clause-refused
returns-in-Ok-clause-refused c = refused_by_rule c.args.bytes.now c.in-Ok.text c.type_of.result c.in-Ok.ensures.text c.type_of.ensures.refused

pub returns-in-Err-clause-refused : goal.returns-in-Err-clause-refused
returns-in-Err-clause-refused c = rw c.type_error.ensures (refused_by_grammar c.args.bytes.now c.in-Err.error c.in-Err.ensures.refusal)

pub returns-in-Ok-clause-sorted : goal.returns-in-Ok-clause-sorted
returns-in-Ok-clause-sorted c = read_sorted c.args.bytes.now c.in-Ok.text c.type_of.result c.in-Ok.ensures.text c.type_of.ensures.says c.type_of.ensures.accepted

pub returns-in-Ok-clause-limits : goal.returns-in-Ok-clause-limits
returns-in-Ok-clause-limits c = read_limited c.args.bytes.now c.in-Ok.text c.type_of.result c.in-Ok.ensures.text c.type_of.ensures.says c.type_of.ensures.accepted

pub returns-in-Ok-clause-ranks : goal.returns-in-Ok-clause-ranks
returns-in-Ok-clause-ranks c = read_alike c.args.bytes.now c.in-Ok.text c.type_of.result c.in-Ok.ensures.text c.type_of.ensures.says c.type_of.ensures.accepted
