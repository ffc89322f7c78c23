-- Laws of what a search answers.
use Rattle.std.specs.Prelude.{ℕ, ◌≤◌, ◌↔◌, List, length}
use Rattle.kat_design.specs.Designs.{DesignForm}
use Rattle.kat_rules.specs.Listed.{IsListed, IsListing}
use Rattle.kat_type.specs.Types.{TypeForm}
use Rattle.kat_telling.specs.Entries.{IsRefuted}
use Rattle.kat_search.specs.Verdicts.{HasNone, IsCutOff, IsEmitted, IsLeftOpen, IsVerdict}
use Rattle.kat_search.specs.declared.options.Options.{Options}
use Rattle.kat_search.specs.declared.outcome.Outcome.{Outcome}
use Rattle.kat_search.specs.declared.outcome.Outcome.TheVariants as outcome

-- the listing has at most as many designs as were asked
abbrev pub HasFew : TypeForm → Options → Type 0
HasFew ty options = (designs : List DesignForm) → IsListing ty options.size options.kinds designs → length designs ≤ options.designs

-- each of its designs is refuted
abbrev pub AreRefuted : TypeForm → Options → Type 0
AreRefuted ty options = (d : DesignForm) → IsListed ty options.size options.kinds d → IsRefuted ty d

abbrev pub IsNone : Outcome → Type 0
IsNone (outcome.Emitted number file) = ⊥
IsNone (outcome.NoDesign report) = Unit {0}
IsNone (outcome.Undecided report) = ⊥
IsNone (outcome.Stopped report) = ⊥

-- a search ends in no other way than with none: no design is proved, none is left open, and no listing goes on after those that were tried
pub record HasNothingElse (ty : TypeForm) (options : Options) : Type 0 where
  pub proved : (number : ℕ) (file : List ℕ) → IsEmitted ty options number file → ⊥
  pub left : (report : List ℕ) → IsLeftOpen ty options report → ⊥
  pub behind : (report : List ℕ) → IsCutOff ty options report → ⊥

-- if none is answered, the listing has no more designs than were asked, and each is refuted
abbrev pub NoneMeansRefuted : Type 0
NoneMeansRefuted = (ty : TypeForm) (options : Options) (report : List ℕ) → HasNone ty options report → HasFew ty options × AreRefuted ty options

-- and if that is so, nothing else is answered
abbrev pub RefutedMeansNone : Type 0
RefutedMeansNone = (ty : TypeForm) (options : Options) → HasFew ty options → AreRefuted ty options → HasNothingElse ty options

-- the same of an answer: it is none exactly there
abbrev pub IsNoneExactly : Type 0
IsNoneExactly = (ty : TypeForm) (options : Options) (answer : Outcome) → IsVerdict ty options answer → IsNone answer ↔ (HasFew ty options × AreRefuted ty options)
