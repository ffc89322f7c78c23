use Rattle.std.proofs.Common.{◌≡◌, take, map}
use Rattle.kat_design.specs.Designs.{ask_form}
use Rattle.kat_design.proofs.copies.copied_asks.Given as goal

abbrev pub invariant-loop-ask : goal.invariant-loop-ask
invariant-loop-ask l = map ask_form l.copies.items ≡ map ask_form (take l.ask-index l.asks)
