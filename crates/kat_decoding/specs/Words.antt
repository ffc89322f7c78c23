-- Used inside only.
-- The machine of a listing: it keeps to the size, leaves what can't be read any more and components that don't
-- ascend, and a list counts only if it passes a test
-- at its end.
use Rattle.std.specs.Prelude.{◌≡◌, ◌↔◌, ℕ, ◌+◌, ◌*◌, Bool, true, List, []}
use Rattle.kat_walk.specs.Machines.{Ascends, IsLess, IsOneOf, Machine, words}
use Rattle.kat_walk.specs.Pruning.{pruned, tested}
use Rattle.kat_design.specs.Designs.{DesignForm}
use Rattle.kat_design.specs.Sizes.{size_of}
use Rattle.kat_machine.specs.Ascent.{by_ascent, no_component}
use Rattle.kat_decoding.specs.Room.{by_size}
use Rattle.kat_machine.specs.Grammar.{first_place, grammar}
use Rattle.kat_rules.specs.Listed.{KeepsRules}
use Rattle.kat_rules.specs.Orders.{before}
use Rattle.kat_rules.specs.Tokens.{design_tokens}
use Rattle.kat_decoding.specs.Unread.{by_reads}
use Rattle.kat_rules.specs.declared.constants.Setting.{Setting}
use Rattle.kat_machine.specs.declared.modes.Place.{Place}
use Rattle.kat_machine.specs.declared.ascent.LatestComponent.{LatestComponent}
use Rattle.kat_rules.specs.declared.tokens.Token.{Token}

-- the list is that of a design of this size that keeps the rules
abbrev pub IsListedWord : Setting → ℕ → List Token → Type 0
IsListedWord x n w = (d : DesignForm) × (w ≡ design_tokens x.constants d) × KeepsRules x d × (size_of d ≡ n)

abbrev pub within_size : Setting → Machine (Place × ℕ) Token
within_size x = pruned (grammar x) (by_size x)

abbrev pub all_readable : Setting → Machine ((Place × ℕ) × List Bool) Token
all_readable x = pruned (within_size x) (by_reads x)

abbrev pub searched : Setting → Machine (((Place × ℕ) × List Bool) × LatestComponent) Token
searched x = pruned (all_readable x) by_ascent

abbrev pub listing_machine : Setting → (List Token → Bool) → Machine ((((Place × ℕ) × List Bool) × LatestComponent) × List Token) Token
listing_machine x test = tested (searched x) test

abbrev pub listing_start : ℕ → (((Place × ℕ) × List Bool) × LatestComponent) × List Token
listing_start n = ((((first_place, n), []), no_component), [])

-- no list of a design of this size is longer
abbrev pub longest : ℕ → ℕ
longest n = 17 * n + 1

abbrev pub listing_words : Setting → (List Token → Bool) → ℕ → List (List Token)
listing_words x test n = words (listing_machine x test) (longest n) (listing_start n)

-- a test that tells the lists of the designs of this size that keep the rules
abbrev pub TellsListed : Setting → ℕ → (List Token → Bool) → Type 0
TellsListed x n test = (w : List Token) → (test w ≡ true) ↔ IsListedWord x n w

-- with such a test the machine's lists are exactly the token lists of these designs, ascending
pub record AreListed (x : Setting) (n : ℕ) (test : List Token → Bool) : Type 0 where
  pub exactly : (w : List Token) → IsOneOf w (listing_words x test n) ↔ IsListedWord x n w
  pub ascend : Ascends (IsLess before) (listing_words x test n)
