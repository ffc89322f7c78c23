use Rattle.std.proofs.Common.{sym, ap, ◌∙◌}
use Rattle.kat_num.specs.Names.{name_of_code}
use Rattle.kat_num.proofs.NameCodes.{name_of_code-code_of}
use Rattle.kat_num.proofs.Order.{code_of_cmp, code_of-lt}
use Rattle.kat_num.proofs.laws.codes_and_names.Goals as goal

pub returns-clause-name : goal.returns-clause-name
returns-clause-name c = name_of_code-code_of

pub returns-clause-small : goal.returns-clause-small
returns-clause-small c = code_of-lt

pub returns-clause-one_code : goal.returns-clause-one_code
returns-clause-one_code c = λ some other s o e.
    sym (name_of_code-code_of some s) ∙ ap name_of_code e ∙ name_of_code-code_of other o

pub returns-clause-order : goal.returns-clause-order
returns-clause-order c = code_of_cmp
