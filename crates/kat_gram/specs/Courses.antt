-- Used inside only.
-- How far a listing has come, and its marks.
use Rattle.std.specs.Prelude.{◌≡◌, ◌≢◌, ℕ, ◌-◌, ◌<◌, ◌≤◌, Bool, true, false, List, ◌++◌, drop, length, map, take, Option, None, Some, option_map, slice_get}
use Rattle.kat_design.specs.Designs.{DesignForm, design_form}
use Rattle.kat_design.specs.Sizes.{size_of}
use Rattle.kat_design.specs.declared.designs.Design.{Design}
use Rattle.kat_decoding.specs.Decoded.{decoded, is_listed_word}
use Rattle.kat_gram.specs.Enumerations.{left_of, most_of, words_behind}
use Rattle.kat_gram.specs.Listings.{IsLast, Stream, last_number}
use Rattle.kat_decoding.specs.Words.{listing_machine, listing_start, longest}
use Rattle.kat_gram.specs.declared.courses.Course.{Course}
use Rattle.kat_gram.specs.declared.courses.Mark.{Mark}
use Rattle.kat_gram.specs.declared.enumerating.Enumeration.{Enumeration}
use Rattle.kat_machine.specs.declared.ascent.LatestComponent.{LatestComponent}
use Rattle.kat_machine.specs.declared.modes.Place.{Place}
use Rattle.kat_rules.specs.Listed.{KeepsRules}
use Rattle.kat_rules.specs.Tokens.{design_tokens}
use Rattle.kat_rules.specs.declared.constants.Setting.{Setting}
use Rattle.kat_rules.specs.declared.tokens.Token.{Token}
use Rattle.kat_walk.specs.Machines.{Held, Machine, coming}
use Rattle.kat_walk.specs.Marks.{AreOpen, AreTaken, IsMark}
use Rattle.kat_walk.specs.Walks.{Pending}

-- what the machine of a listing notes
abbrev pub Noted : Type 0
Noted = (((Place × ℕ) × List Bool) × LatestComponent) × List Token

abbrev pub machine_at : Setting → ℕ → Machine Noted Token
machine_at x n = listing_machine x (is_listed_word x n)

-- the walk of an enumeration is one over the lists of its size, and has just given a list if one was found
abbrev pub StandsBy : Option (List Token) → Machine Noted Token → ℕ → List (Held Noted Token) → Type 0
StandsBy None m n stack = AreOpen m (listing_start n) stack
StandsBy (Some w) m n stack = AreTaken m (listing_start n) stack

pub record IsSoundAt (x : Setting) (n : ℕ) (found : Option (List Token)) (walk : Pending Noted Token) : Type 0 where
  pub most : walk.most ≡ longest n
  pub places : StandsBy found (machine_at x n) n walk.stack

abbrev pub IsSound : Enumeration → Type 0
IsSound h = IsSoundAt h.search.setting h.search.size h.found h.walk

-- the token lists of all designs of an enumeration
abbrev pub words_in : Enumeration → List (List Token)
words_in h = words_behind h.search.setting 0 (most_of h)

-- this many were passed
pub record HasPassed (h : Enumeration) (number : ℕ) : Type 0 where
  pub sound : IsSound h
  pub left : left_of h ≡ drop number (words_in h)
  pub within : number ≤ length (words_in h)

-- a mark says where a walk over a size is once this many were passed
pub record IsMarkOf (x : Setting) (most : ℕ) (mark : Mark) : Type 0 where
  pub stack : List (Held Noted Token)
  pub stands : IsMark (machine_at x mark.size) (listing_start mark.size) mark.places stack
  pub left : coming (machine_at x mark.size) (longest mark.size) stack ++ words_behind x mark.size (most - mark.size) ≡ drop mark.number (words_behind x 0 most)

abbrev pub AreMarksOf : Setting → ℕ → List Mark → Type 0
AreMarksOf x most marks = (place : ℕ) (mark : Mark) → slice_get marks place ≡ Some mark → IsMarkOf x most mark

pub record IsOnCourse (course : Course) : Type 0 where
  pub at : HasPassed course.enumeration course.number
  pub marks : AreMarksOf course.enumeration.search.setting (most_of course.enumeration) course.marks.items

-- what contracts see of a listing that has come so far
abbrev pub stream_on : Course → Stream
stream_on course = record {
  setting = course.enumeration.search.setting;
  given = take course.number (words_in course.enumeration);
  left = drop course.number (words_in course.enumeration);
}

-- the last design is that of the last token list that was passed
abbrev pub IsLastOf : Course → Option Design → Type 0
IsLastOf course last = IsLast (option_map design_form last) (map (decoded course.enumeration.search.setting) (take course.number (words_in course.enumeration)))

-- two enumerations of one listing
pub record AreAlike (old new : Enumeration) : Type 0 where
  pub setting : new.search.setting ≡ old.search.setting
  pub beyond : new.beyond ≡ old.beyond

-- a list was passed last, or isn't among the first ones
abbrev pub IsGoneThrough : Course → List Token → Bool → Type 0
IsGoneThrough course w true = IsLast (Some w) (take course.number (words_in course.enumeration)) × (course.number ≤ last_number)
IsGoneThrough course w false = (place : ℕ) → place < last_number → slice_get (words_in course.enumeration) place ≢ Some w

-- a design keeps the rules of a course, and isn't too great for it
abbrev pub MayHave : Course → DesignForm → Type 0
MayHave course d = KeepsRules course.enumeration.search.setting d × (size_of d ≤ most_of course.enumeration)

abbrev pub word_in : Course → DesignForm → List Token
word_in course d = design_tokens course.enumeration.search.setting.constants d

-- a design was passed last, and is given; none is given if the course may not have it, or its list isn't among the first ones
abbrev pub IsGoneThroughTo : Course → DesignForm → Option Design → Type 0
IsGoneThroughTo course d None = MayHave course d → IsGoneThrough course (word_in course d) false
IsGoneThroughTo course d (Some last) = MayHave course d × IsGoneThrough course (word_in course d) true × IsLastOf course (Some last)
