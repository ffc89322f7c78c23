-- The judgement of a text.
use Rattle.std.specs.Prelude.{◌≢◌, ℕ, List, ◌⊎◌}
use Rattle.kat_design.specs.Designs.{DesignForm}
use Rattle.kat_node.specs.NodeFiles.{IsNodeRefusal, IsNodeText}
use Rattle.kat_node.specs.declared.errors.NodeError.{NodeError}
use Rattle.kat_node.specs.declared.errors.NodeError.TheVariants.{Memory}
use Rattle.kat_node.specs.declared.nodes.Node.{Node}

-- a refusal other than out of memory
pub record IsRefusal (d : DesignForm) (bytes : List ℕ) (error : NodeError) : Type 0 where
  pub refused : IsNodeRefusal d bytes error
  pub told : error ≢ Memory

-- a text has a node or a refusal
abbrev pub IsJudged : DesignForm → List ℕ → Type 0
IsJudged d bytes = ((node : Node) × IsNodeText d bytes node) ⊎ ((error : NodeError) × IsRefusal d bytes error)
