-- A design that doesn't answer as a sequential type does.
use Rattle.std.specs.Prelude.{◌≢◌, List}
use Rattle.kat_design.specs.Answers as design
use Rattle.kat_design.specs.Denotations.{denotation_of}
use Rattle.kat_design.specs.Designs.{DesignForm}
use Rattle.kat_seq.specs.States.{state_after}
use Rattle.kat_seq.specs.States as sequential
use Rattle.kat_type.specs.Arrangements.{Arranges, RespectsRanks}
use Rattle.kat_type.specs.Lists.{Has}
use Rattle.kat_type.specs.Signatures.{signature_of}
use Rattle.kat_type.specs.Types.{TypeForm}
use Rattle.kat_type.specs.declared.done.Done.{Done}
use Rattle.kat_histories.specs.Pools.{asks_of}
use Rattle.kat_histories.specs.declared.calls.Call.{Call}
use Rattle.kat_histories.specs.declared.histories.History.{History}

-- For some query with arguments of the pools, and some arrangement of the operations that respects the ranks, the answer of the
-- design in the state that these operations give isn't that of the type after the arrangement.
pub record Differs (ty : TypeForm) (d : DesignForm) (history : History) : Type 0 where
  pub ask : Call
  pub asked : Has (asks_of (signature_of ty)) ask
  pub arranged : List Done
  pub arranges : Arranges arranged history.ops
  pub respects : RespectsRanks ty arranged
  pub unlike : design.answer_of d (denotation_of d history.ops) ask.number ask.args
      ≢ sequential.answer_of ty (state_after ty arranged) ask.number ask.args
