-- What a call wrote for the files at its paths, by the command that the first word begins.
use Rattle.std.specs.Prelude.{◌≡◌, ◌≤◌, ℕ, List, [], ◌∷◌, Option, codes}
use Rattle.kat_design.specs.Sorted.{AreMatched}
use Rattle.kat_io.specs.Outside.{Tells}
use Rattle.kat_share_call.specs.Written.{HasGap, Took, WroteDifference, WroteNew}
use Rattle.kat_share_call.specs.declared.words.Command.{Command}
use Rattle.kat_share_call.specs.declared.words.Command.TheVariants.{Begin, Difference, DifferenceBeyond, Take}

-- the texts are those of the files at these paths, as far as they are told
abbrev pub IsAt : (List ℕ → Option (List ℕ)) → List ℕ → List ℕ → Type 0
IsAt holds path text = Tells (holds path) text

abbrev pub AreAt : (List ℕ → Option (List ℕ)) → List (List ℕ) → List (List ℕ) → Type 0
AreAt holds paths texts = AreMatched (IsAt holds) paths texts

-- a file is a design, and the share file of a new replica was written
pub record BeganFile (holds : List ℕ → Option (List ℕ)) (design : List ℕ) (before after : Option (List ℕ)) : Type 0 where
  pub number : ℕ
  pub least : 1 ≤ number
  pub most : number ≤ 32
  pub design_text : List ℕ
  pub is_design : IsAt holds design design_text
  pub wrote : WroteNew design_text number before after

-- a file is a design, another a share file of it, and what is known is a third one, or nothing
pub record DifferedFiles (holds : List ℕ → Option (List ℕ)) (design share : List ℕ) (known_text : List ℕ) (before after : Option (List ℕ)) : Type 0 where
  pub design_text : List ℕ
  pub is_design : IsAt holds design design_text
  pub share_text : List ℕ
  pub is_share : IsAt holds share share_text
  pub wrote : WroteDifference design_text share_text known_text before after

pub record DifferedBeyondFile (holds : List ℕ → Option (List ℕ)) (design share known : List ℕ) (before after : Option (List ℕ)) : Type 0 where
  pub known_text : List ℕ
  pub is_known : IsAt holds known known_text
  pub wrote : DifferedFiles holds design share known_text before after

-- the files of a step
pub record StepTexts (holds : List ℕ → Option (List ℕ)) (design share actions : List ℕ) (packets : List (List ℕ)) : Type 0 where
  pub design_text : List ℕ
  pub is_design : IsAt holds design design_text
  pub share_text : List ℕ
  pub is_share : IsAt holds share share_text
  pub actions_text : List ℕ
  pub are_actions : IsAt holds actions actions_text
  pub packet_texts : List (List ℕ)
  pub are_packets : AreAt holds packets packet_texts

-- the step was done, or a packet has a gap
pub record TookFiles (holds : List ℕ → Option (List ℕ)) (design share actions : List ℕ) (packets : List (List ℕ)) (before after : Option (List ℕ)) : Type 0 where
  pub texts : StepTexts holds design share actions packets
  pub took : Took texts.design_text texts.share_text texts.actions_text texts.packet_texts before after

pub record HaveGap (holds : List ℕ → Option (List ℕ)) (design share actions : List ℕ) (packets : List (List ℕ)) (packet : ℕ) : Type 0 where
  pub texts : StepTexts holds design share actions packets
  pub gap : HasGap texts.design_text texts.share_text texts.actions_text texts.packet_texts packet

-- what each command wrote for the files at some paths
abbrev pub Writes : Command → (List ℕ → Option (List ℕ)) → Option (List ℕ) → Option (List ℕ) → Type 0
Writes Begin holds before after = (design : List ℕ) × BeganFile holds design before after
Writes Difference holds before after = (design share : List ℕ) × DifferedFiles holds design share [] before after
Writes DifferenceBeyond holds before after = (design share known : List ℕ) × DifferedBeyondFile holds design share known before after
Writes Take holds before after = (design share actions : List ℕ) × (packets : List (List ℕ)) × TookFiles holds design share actions packets before after

-- a step of files at some paths met a gap
abbrev pub MeetsGap : (List ℕ → Option (List ℕ)) → ℕ → Type 0
MeetsGap holds packet = (design share actions : List ℕ) × (packets : List (List ℕ)) × HaveGap holds design share actions packets packet

-- the word that a command begins with
abbrev pub word_of : Command → List ℕ
word_of Begin = codes "node-share"
word_of Difference = codes "node-difference"
word_of DifferenceBeyond = codes "node-difference"
word_of Take = codes "node-take"

-- the first word is this one
abbrev pub BeginsWith : List (List ℕ) → List ℕ → Type 0
BeginsWith [] word = ⊥
BeginsWith (first ∷ rest) word = first ≡ word

-- what was written, by the command that the first word begins
pub record Shared (words : List (List ℕ)) (holds : List ℕ → Option (List ℕ)) (before after : Option (List ℕ)) : Type 0 where
  pub command : Command
  pub begins : BeginsWith words (word_of command)
  pub writes : Writes command holds before after
