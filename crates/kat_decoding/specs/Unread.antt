-- Used inside only.
-- A list isn't continued if more components are unread than can still be read.
use Rattle.std.specs.Prelude.{ℕ, suc, ◌+◌, ◌-◌, ◌*◌, nat_le, nat_lt, Bool, true, false, List, [], ◌∷◌, ◌++◌, length, Option, Some, if◌then◌else◌, slice_get, slice_set}
use Rattle.kat_walk.specs.Pruning.{Pruner}
use Rattle.kat_design.specs.declared.kinds.Wanted.{Wanted}
use Rattle.kat_design.specs.declared.kinds.Wanted.TheVariants.{Exactly, Ordered}
use Rattle.kat_rules.specs.Costs.{cost}
use Rattle.kat_machine.specs.Grammar.{operands}
use Rattle.kat_rules.specs.declared.constants.Setting.{Setting}
use Rattle.kat_machine.specs.declared.modes.Mode.{Mode}
use Rattle.kat_machine.specs.declared.modes.Mode.TheVariants as mode
use Rattle.kat_machine.specs.declared.modes.Place.{Place}
use Rattle.kat_rules.specs.declared.tokens.Token.{Token}
use Rattle.kat_rules.specs.declared.tokens.Token.TheVariants as token

-- for each component whether a leaf of it was read
abbrev pub marked : List Bool → ℕ → List Bool
marked flags i = if nat_lt i (length flags) then slice_set flags i true else flags

abbrev pub noted : List Bool → Token → List Bool
noted flags token.Cell = flags ++ false ∷ []
noted flags token.Table = flags ++ false ∷ []
noted flags token.Set = flags ++ false ∷ []
noted flags token.Tally = flags ++ false ∷ []
noted flags token.Tallies = flags ++ false ∷ []
noted flags (token.Read component place key) = marked flags component
noted flags _ = flags

-- how many aren't read yet, now and after a token
abbrev pub count_unread : List Bool → ℕ
count_unread [] = 0
count_unread (true ∷ flags) = count_unread flags
count_unread (false ∷ flags) = suc (count_unread flags)

abbrev pub one_less : Option Bool → ℕ → ℕ
one_less (Some false) n = n - 1
one_less _ n = n

abbrev pub unread_behind : List Bool → Token → ℕ
unread_behind flags token.Cell = count_unread flags + 1
unread_behind flags token.Table = count_unread flags + 1
unread_behind flags token.Set = count_unread flags + 1
unread_behind flags token.Tally = count_unread flags + 1
unread_behind flags token.Tallies = count_unread flags + 1
unread_behind flags (token.Read component place key) = one_less (slice_get flags component) (count_unread flags)
unread_behind flags _ = count_unread flags

-- the asks that are open: `<` opens two
abbrev pub open_asks : List Wanted → ℕ
open_asks [] = 0
open_asks (Exactly k ∷ wants) = 1 + open_asks wants
open_asks (Ordered ∷ wants) = 2 + open_asks wants

abbrev pub asks_open : Mode → Token → ℕ
asks_open (mode.Asking wants left) t = open_asks (operands t) + (open_asks wants - 1)
asks_open _ t = 0

abbrev pub asks_to_come : ℕ → Mode → ℕ
asks_to_come n (mode.Asking wants left) = left - 1
asks_to_come n mode.Finished = 0
asks_to_come n mode.Nowhere = 0
asks_to_come n _ = n

-- of this many tokens, with this many asks open, at most half of both together are leaves of components
abbrev pub can_be_read : Setting → Place → ℕ → List Bool → Token → Bool
can_be_read x p left flags t = nat_le (2 * unread_behind flags t) ((left - cost t) + (asks_open p.mode t + asks_to_come (length x.sig.queries) p.mode))

abbrev pub by_reads : Setting → Pruner (Place × ℕ) (List Bool) Token
by_reads x = record { keeps = λ s flags t. can_be_read x s.0 s.1 flags t; notes = λ s flags t. noted flags t }
