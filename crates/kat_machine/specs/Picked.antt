-- Used inside only.
-- Effects as lists of tokens, each among the choices for its part.
use Rattle.std.specs.Prelude.{List, Option, None, Some}
use Rattle.kat_num.specs.declared.values.Sort.{Sort}
use Rattle.kat_walk.specs.Machines.{IsOneOf}
use Rattle.kat_design.specs.Sorted.{AreMatched}
use Rattle.kat_type.specs.declared.signatures.OpSig.{OpSig}
use Rattle.kat_machine.specs.Choices.{choices_for}
use Rattle.kat_machine.specs.declared.modes.Want.{Want}
use Rattle.kat_rules.specs.declared.tokens.Token.{Token}

abbrev pub AreChosen : List Sort → List Want → List Token → Type 0
AreChosen sorts wants tokens = AreMatched (λ (w : Want) (t : Token). IsOneOf t (choices_for sorts w)) wants tokens

abbrev pub IsPicked : List Want → Option (List Token) → OpSig → Type 0
IsPicked wants None op = Unit {0}
IsPicked wants (Some tokens) op = AreChosen op.sorts wants tokens

abbrev pub ArePicked : List Want → List (Option (List Token)) → List OpSig → Type 0
ArePicked wants effects ops = AreMatched (IsPicked wants) effects ops
