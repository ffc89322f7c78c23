use Rattle.kat_script.proofs.Following.{a_script, script_read}
use Rattle.kat_script.proofs.laws.scripts_are_what_reads_well.Goals as goal

pub returns-clause-read : goal.returns-clause-read
returns-clause-read c = script_read

pub returns-clause-script : goal.returns-clause-script
returns-clause-script c = a_script
