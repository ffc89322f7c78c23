use Rattle.std.proofs.Common.{◌∙◌, ap, List}
use Rattle.kat_design.specs.declared.designs.Component.{Component}
use Rattle.kat_replica.proofs.Afterwards.{starts_from}
use Rattle.kat_replica.proofs.Suits.{all_start_in}
use Rattle.kat_replica.proofs.replicas.Replica.new.Goals as goal

pub start_parts-requires : goal.start_parts-requires
start_parts-requires c = all_start_in c.args.design.now.sig.ops c.args.design.now.components c.as_slice.result.now c.as_slice.ensures c.requires.sorted.components

pub returns-clause-state : goal.returns-clause-state
returns-clause-state c =
    c.from_vec.ensures ∙ starts_from c.args.design.now.components c.as_slice.result.now c.in_ok-parts.parts.items c.as_slice.ensures c.in_ok-parts.ensures
