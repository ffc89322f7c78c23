use Rattle.std.proofs.Common.{◌≡◌, ◌-◌, ◌^◌, min, take}
use Rattle.std.specs.Prelude.{sum_by}
use Rattle.kat_design.specs.Sizes.{ask_nodes}
use Rattle.kat_design.specs.Designs.{ask_form}
use Rattle.kat_design.proofs.sizes.asks_size.Given as goal

abbrev pub invariant-loop-ask : goal.invariant-loop-ask
invariant-loop-ask l = l.total ≡ min (sum_by (λ x. ask_nodes (ask_form x)) (take l.ask-index l.asks)) (2 ^ 64 - 1)
