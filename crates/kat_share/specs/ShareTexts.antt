-- Share files: a line with marks, and then a state file. Packets: a line with the marks of what is known, and then a share file.
use Rattle.std.specs.Prelude.{◌≡◌, ℕ, ◌+◌, ◌==◌, List, take, drop}
use Rattle.std.specs.List.{position_or_len}
use Rattle.kat_lattice.specs.Tallies.{Sums}
use Rattle.kat_design.specs.Designs.{DesignForm}
use Rattle.kat_node.specs.NodeFiles.{IsNodeRefusal, IsNodeText}
use Rattle.kat_node.specs.declared.nodes.Node.{Node}
use Rattle.kat_share.specs.MarksTexts.{IsMarksText, marks_design}
use Rattle.kat_share.specs.declared.packets.PacketError.{PacketError}
use Rattle.kat_share.specs.declared.packets.PacketError.TheVariants.{BadBase, BadShare}
use Rattle.kat_share.specs.declared.shares.ShareError.{ShareError}
use Rattle.kat_share.specs.declared.shares.ShareError.TheVariants.{BadMarks, BadState}

-- how many bytes there are up to the first newline, with it
abbrev pub line_end : List ℕ → ℕ
line_end bytes = position_or_len (λ byte. byte == 10) bytes + 1

-- these bytes, and those after them
abbrev pub first_line : List ℕ → List ℕ
first_line bytes = take (line_end bytes) bytes

abbrev pub after_line : List ℕ → List ℕ
after_line bytes = drop (line_end bytes) bytes

-- the first line says the marks, and what follows is the state file of the node
pub record IsShareText (d : DesignForm) (bytes : List ℕ) (node : Node) (marks : Sums) : Type 0 where
  pub marks_are : IsMarksText (first_line bytes) marks
  pub state : IsNodeText d (after_line bytes) node

-- how a share file is refused: by its first line, or else by what follows
abbrev pub IsShareRefusal : DesignForm → List ℕ → ShareError → Type 0
IsShareRefusal d bytes (BadMarks error) = IsNodeRefusal marks_design (first_line bytes) error
IsShareRefusal d bytes (BadState error) = IsNodeRefusal d (after_line bytes) error

-- the first line says the marks of what is known, and what follows is a share file
pub record IsPacketText (d : DesignForm) (bytes : List ℕ) (base : Sums) (node : Node) (marks : Sums) : Type 0 where
  pub base_is : IsMarksText (first_line bytes) base
  pub told : IsShareText d (after_line bytes) node marks

-- how a packet is refused: by its first line, or else by what follows
abbrev pub IsPacketRefusal : DesignForm → List ℕ → PacketError → Type 0
IsPacketRefusal d bytes (BadBase error) = IsNodeRefusal marks_design (first_line bytes) error
IsPacketRefusal d bytes (BadShare error) = IsShareRefusal d (after_line bytes) error

-- A text is at most one share file, and at most one packet.
abbrev pub SharesAreOne : Type 0
SharesAreOne = (d : DesignForm) (bytes : List ℕ) (node other : Node) (marks others : Sums) → IsShareText d bytes node marks → IsShareText d bytes other others
    → (node ≡ other) × (marks ≡ others)

abbrev pub PacketsAreOne : Type 0
PacketsAreOne = (d : DesignForm) (bytes : List ℕ) (base bases : Sums) (node other : Node) (marks others : Sums) → IsPacketText d bytes base node marks → IsPacketText d bytes bases other others
    → (base ≡ bases) × (node ≡ other) × (marks ≡ others)
