-- Share files of one design: what one can have, and what one has beyond another.
use Rattle.std.specs.Prelude.{◌≡◌, ℕ, List, [], ◌∷◌}
use Rattle.std.specs.List.{AllByRecursion}
use Rattle.kat_design.specs.Denotations.{denotation_of}
use Rattle.kat_design.specs.Designs.{DesignForm}
use Rattle.kat_design.specs.Parts.{parts_joined}
use Rattle.kat_difference.specs.States.{IsExact}
use Rattle.kat_node.specs.Nodes.{AreSums, IsNode}
use Rattle.kat_node.specs.Packets.{parts_of}
use Rattle.kat_node.specs.declared.nodes.Node.{Node}
use Rattle.kat_share.specs.ShareTexts.{IsPacketText, IsShareText}
use Rattle.kat_share.specs.declared.packets.SharePacket.{SharePacket}
use Rattle.kat_share.specs.declared.shares.Share.{Share}
use Rattle.kat_step.specs.Steps.{first_node}

-- a node of the design, and marks that a text can have
pub record IsShare (d : DesignForm) (share : Share) : Type 0 where
  pub node : IsNode d share.node
  pub marks : AreSums share.marks

-- the same of a packet, whose base are such marks too
pub record IsPacket (d : DesignForm) (packet : SharePacket) : Type 0 where
  pub base : AreSums packet.base
  pub told : IsShare d packet.told

-- a replica that did nothing has no marks
abbrev pub first_share : DesignForm → ℕ → Share
first_share d number = record { node = first_node d number; marks = [] }

-- the bytes are the share file of a share, or a packet
abbrev pub SaysShare : DesignForm → List ℕ → Share → Type 0
SaysShare d bytes share = IsShareText d bytes share.node share.marks

abbrev pub SaysPacket : DesignForm → List ℕ → SharePacket → Type 0
SaysPacket d bytes packet = IsPacketText d bytes packet.base packet.told.node packet.told.marks

-- what is known: what a share file has; if there are no bytes, a replica that did nothing
abbrev pub SaysKnown : DesignForm → ℕ → List ℕ → Share → Type 0
SaysKnown d number [] share = share ≡ first_share d number
SaysKnown d number (byte ∷ bytes) share = SaysShare d (byte ∷ bytes) share

-- the state of the node is at or above what no operation gives
abbrev pub IsFromStart : DesignForm → Node → Type 0
IsFromStart d node = parts_joined (denotation_of d []) (parts_of node) ≡ parts_of node

-- What is told of a node beyond a known one has the number and the clock of the node, and joined to the known one it gives what the node
-- gives there. Of states at or above what no operation gives, it is that as soon as the node has nothing new; and if no cell's shape has
-- a pair, it is at or below each other state that does so much.
pub record IsToldBeyond (d : DesignForm) (known whole told : Node) : Type 0 where
  pub number : told.number ≡ whole.number
  pub clock : told.replica.clock ≡ whole.replica.clock
  pub same : parts_joined (parts_of known) (parts_of told) ≡ parts_joined (parts_of known) (parts_of whole)
  pub nothing : IsFromStart d known → IsFromStart d whole → parts_joined (parts_of whole) (parts_of known) ≡ parts_of known
      → parts_of told ≡ denotation_of d []
  pub least : AllByRecursion IsExact (denotation_of d []) → IsFromStart d known → IsFromStart d whole → (other : Node) → IsNode d other → IsFromStart d other
      → parts_joined (parts_of known) (parts_of other) ≡ parts_joined (parts_of known) (parts_of whole)
      → parts_joined (parts_of told) (parts_of other) ≡ parts_of other

-- what a share has beyond a known one: the marks of the known one as the base, what is told of the node, and the marks of the share
pub record IsBeyond (d : DesignForm) (known whole : Share) (packet : SharePacket) : Type 0 where
  pub base : packet.base ≡ known.marks
  pub node : IsToldBeyond d known.node whole.node packet.told.node
  pub marks : packet.told.marks ≡ whole.marks
