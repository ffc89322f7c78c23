use Rattle.kat_wire.proofs.AcceptedFiles.{read_accepted, read_nonzero, read_signature, read_version, read_versioned}
use Rattle.kat_wire.proofs.files.read_file.Goals as goal

pub returns-clause-signature : goal.returns-clause-signature
returns-clause-signature c = read_signature c.read_text.result c.args.bytes.now c.read_text.ensures.read

pub returns-clause-accepted : goal.returns-clause-accepted
returns-clause-accepted c = read_accepted c.read_text.result c.args.bytes.now c.read_text.ensures.read

pub returns-clause-literals : goal.returns-clause-literals
returns-clause-literals c = read_nonzero c.read_text.result c.args.bytes.now c.read_text.ensures.read

pub returns-clause-version : goal.returns-clause-version
returns-clause-version c = read_version c.read_text.result c.args.bytes.now c.read_text.ensures.read

pub returns-clause-lines : goal.returns-clause-lines
returns-clause-lines c = read_versioned c.read_text.result c.args.bytes.now c.read_text.ensures.read
