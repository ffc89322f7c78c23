-- Used inside only.
-- Operations that lead to the same lines.
use Rattle.std.specs.Prelude.{◌≡◌, ℕ, List}
use Rattle.kat_design.specs.Answers.{answer_of}
use Rattle.kat_design.specs.Denotations.{denotation_of}
use Rattle.kat_design.specs.Designs.{DesignForm}
use Rattle.kat_num.specs.declared.values.Value.{Value}
use Rattle.kat_replica.specs.Texts.{state_text}
use Rattle.kat_type.specs.declared.done.Done.{Done}

-- if the one or the other operations are absorbed, each query has the same answer, and the state has the same text
pub record PrintAlike (d : DesignForm) (some others : List Done) : Type 0 where
  pub answers : (query : ℕ) (args : List Value) → answer_of d (denotation_of d some) query args ≡ answer_of d (denotation_of d others) query args
  pub states : state_text (denotation_of d some) ≡ state_text (denotation_of d others)
