use Rattle.std.proofs.Common.{◌∙◌, sym}
use Rattle.kat_num.proofs.NameCodes.{no_name}
use Rattle.kat_num.proofs.names.name_of.Goals as goal

pub returns-else-eq : goal.returns-else-eq
returns-else-eq c =
    no_name c.deref.result.now c.args.code c.code.result (c.deref.ensures.value ∙ c.in_ok-name.ensures) c.code.ensures (sym c.if-eq.ensures)
