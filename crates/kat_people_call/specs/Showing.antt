-- What a call that ends well showed of the files at its paths.
use Rattle.std.specs.Prelude.{◌≡◌, ℕ, Bool, List, [], ◌∷◌, Option, Some, codes}
use Rattle.kat_io.specs.Outside.{Tells}
use Rattle.kat_picture.specs.Histories.{cited}
use Rattle.kat_people_call.specs.Emissions.{EmittedTexts}
use Rattle.kat_people_call.specs.Explanations.{ExplainedTexts}
use Rattle.kat_people_call.specs.Pictures.{DrewScript, DrewTexts}
use Rattle.kat_people_call.specs.declared.words.Command.{Command}
use Rattle.kat_people_call.specs.declared.words.Command.TheVariants.{Picture, Answers, History, Explain, Emit}

-- a file, if it is told, is a script, and it was drawn
pub record DrewFile (holds : List ℕ → Option (List ℕ)) (path : List ℕ) (as_text : Bool) (before after : Option (List ℕ))
    : Type 0 where
  pub text : List ℕ
  pub is_told : Tells (holds path) text
  pub drew : DrewScript text as_text before after

-- a file is a script, another a type, and a third a design that is accepted for it: the script was drawn with the design's answers
pub record DrewFiles (holds : List ℕ → Option (List ℕ)) (script ty design : List ℕ) (as_text : Bool) (before after : Option (List ℕ))
    : Type 0 where
  pub text : List ℕ
  pub is_told : Tells (holds script) text
  pub type_text : List ℕ
  pub is_type : Tells (holds ty) type_text
  pub design_text : List ℕ
  pub is_design : Tells (holds design) design_text
  pub drew : DrewTexts type_text design_text text as_text before after

-- a report cites a history of this number, and the script of the first such was drawn
pub record DrewCited (report number : List ℕ) (as_text : Bool) (before after : Option (List ℕ))
    : Type 0 where
  pub text : List ℕ
  pub is_cited : cited report number ≡ Some text
  pub drew : DrewScript text as_text before after

-- the same of the report of a file
pub record DrewCitedFile (holds : List ℕ → Option (List ℕ)) (path number : List ℕ) (as_text : Bool) (before after : Option (List ℕ))
    : Type 0 where
  pub report : List ℕ
  pub is_told : Tells (holds path) report
  pub drew : DrewCited report number as_text before after

-- a file is a type, and another a design of its signature, which was explained
pub record ExplainedFiles (holds : List ℕ → Option (List ℕ)) (ty design : List ℕ) (as_markdown : Bool) (before after : Option (List ℕ))
    : Type 0 where
  pub type_text : List ℕ
  pub is_type : Tells (holds ty) type_text
  pub design_text : List ℕ
  pub is_design : Tells (holds design) design_text
  pub explained : ExplainedTexts type_text design_text as_markdown before after

-- a file is a type, and another a design that is accepted for it, which was written as code
pub record EmittedFiles (holds : List ℕ → Option (List ℕ)) (ty design : List ℕ) (before after : Option (List ℕ)) : Type 0 where
  pub type_text : List ℕ
  pub is_type : Tells (holds ty) type_text
  pub design_text : List ℕ
  pub is_design : Tells (holds design) design_text
  pub emitted : EmittedTexts type_text design_text before after

-- what each command shows of the files at some paths
abbrev pub Shows : Command → (List ℕ → Option (List ℕ)) → Option (List ℕ) → Option (List ℕ) → Type 0
Shows Picture holds before after = (path : List ℕ) × (as_text : Bool) × DrewFile holds path as_text before after
Shows Answers holds before after =
    (script ty design : List ℕ) × (as_text : Bool) × DrewFiles holds script ty design as_text before after
Shows History holds before after = (path number : List ℕ) × (as_text : Bool) × DrewCitedFile holds path number as_text before after
Shows Explain holds before after = (ty design : List ℕ) × (as_markdown : Bool) × ExplainedFiles holds ty design as_markdown before after
Shows Emit holds before after = (ty design : List ℕ) × EmittedFiles holds ty design before after

-- the word that a command begins with
abbrev pub word_of : Command → List ℕ
word_of Picture = codes "picture"
word_of Answers = codes "picture"
word_of History = codes "picture"
word_of Explain = codes "explain"
word_of Emit = codes "emit"

-- the first word is this one
abbrev pub BeginsWith : List (List ℕ) → List ℕ → Type 0
BeginsWith [] word = ⊥
BeginsWith (first ∷ rest) word = first ≡ word

-- what was shown, by the command that the first word begins
pub record Showed (words : List (List ℕ)) (holds : List ℕ → Option (List ℕ)) (before after : Option (List ℕ))
    : Type 0 where
  pub command : Command
  pub begins : BeginsWith words (word_of command)
  pub shows : Shows command holds before after
