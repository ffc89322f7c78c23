-- Used inside only.
-- How much of the size has to be left after a token.
use Rattle.std.specs.Prelude.{ℕ, ◌+◌, ◌-◌, ◌==◌, ◌&&◌, Bool, true, false, List, [], ◌∷◌, filter, length, min, nat_le, if◌then◌else◌}
use Rattle.kat_walk.specs.Pruning.{Pruner}
use Rattle.kat_design.specs.declared.kinds.Wanted.{Wanted}
use Rattle.kat_design.specs.declared.kinds.Wanted.TheVariants.{Exactly}
use Rattle.kat_machine.specs.Grammar.{is_nothing, operands, tail_of}
use Rattle.kat_machine.specs.Usable.{may_be_used}
use Rattle.kat_rules.specs.declared.constants.Setting.{Setting}
use Rattle.kat_machine.specs.declared.modes.Keyed.{Keyed}
use Rattle.kat_machine.specs.declared.modes.Keyed.TheVariants as keyed
use Rattle.kat_machine.specs.declared.modes.Mode.{Mode}
use Rattle.kat_machine.specs.declared.modes.Mode.TheVariants as mode
use Rattle.kat_machine.specs.declared.modes.Place.{Place}
use Rattle.kat_machine.specs.declared.modes.Want.{Want}
use Rattle.kat_machine.specs.declared.modes.Want.TheVariants as want
use Rattle.kat_rules.specs.declared.tokens.Token.{Token}
use Rattle.kat_rules.specs.declared.tokens.Token.TheVariants as token
use Rattle.kat_rules.specs.Costs.{cost}

abbrev pub want_cost : Want → ℕ
want_cost (want.Key s) = 0
want_cost _ = 1

abbrev pub wants_cost : List Want → ℕ
wants_cost [] = 0
wants_cost (w ∷ wants) = want_cost w + wants_cost wants

-- each query needs a token, each shape that is open, each leaf of an effect that was begun, and each part of an ask that is wanted
abbrev pub needs_in : Setting → Mode → ℕ
needs_in x mode.Opening = length x.sig.queries
needs_in x (mode.Keying k) = length x.sig.queries
needs_in x (mode.Shaping key chains kinds) = length chains + length x.sig.queries
needs_in x (mode.Starting row todo) = length x.sig.queries
needs_in x (mode.Effecting row left) = length x.sig.queries
needs_in x (mode.Filling row left todo) = wants_cost todo + length x.sig.queries
needs_in x (mode.Asking wants left) = length wants + (min left (length x.sig.queries) - 1)
needs_in x mode.Finished = 0
needs_in x mode.Nowhere = 0

abbrev pub needs : Setting → Place → ℕ
needs x p = needs_in x p.mode

-- the same after a token, without the place there
abbrev pub counts : Want → Bool
counts (want.Key s) = false
counts _ = true

abbrev pub counted_behind : List Want → ℕ
counted_behind wants = length (filter counts (tail_of wants))

abbrev pub shapes_opened : Token → ℕ
shapes_opened token.Cell = 1
shapes_opened token.Lex = 2
shapes_opened token.Pair = 2
shapes_opened _ = 0

abbrev pub keys_open : Keyed → ℕ
keys_open keyed.Table = 1
keys_open _ = 0

abbrev pub effect_opened : Token → List Want → ℕ
effect_opened t wants = if is_nothing t then 0 else counted_behind wants

abbrev pub opened : Mode → Token → ℕ
opened mode.Opening t = shapes_opened t
opened (mode.Keying k) t = keys_open k
opened (mode.Shaping key chains kinds) t = shapes_opened t + (length chains - 1)
opened (mode.Starting row todo) t = 0
opened (mode.Effecting row left) t = effect_opened t row.wants
opened (mode.Filling row left todo) t = counted_behind todo
opened (mode.Asking wants left) t = length (operands t) + (length wants - 1)
opened mode.Finished t = 0
opened mode.Nowhere t = 0

-- the queries whose asks are still to come
abbrev pub to_be_asked : ℕ → Mode → ℕ
to_be_asked n (mode.Asking wants left) = min left n - 1
to_be_asked n mode.Finished = 0
to_be_asked n mode.Nowhere = 0
to_be_asked n _ = n

abbrev pub needs_behind : Setting → Place → Token → ℕ
needs_behind x p t = opened p.mode t + to_be_asked (length x.sig.queries) p.mode

-- the token ends the last ask, so that it has to take all that is left
abbrev pub is_alone : List Wanted → Bool
is_alone (Exactly k ∷ []) = true
is_alone _ = false

abbrev pub is_last : Mode → Token → Bool
is_last (mode.Asking wants left) t = is_alone wants && (left == 1 && length (operands t) == 0)
is_last _ t = false

abbrev pub is_exact : Mode → ℕ → Token → Bool
is_exact m left t = if is_last m t then cost t == left else true

-- what is left after a token has to be enough, nothing is left after the last one, and each component can have an effect and be read
abbrev pub has_room : Setting → Place → ℕ → Token → Bool
has_room x p left t = nat_le (cost t + needs_behind x p t) left && (is_exact p.mode left t && may_be_used x t)

abbrev pub by_size : Setting → Pruner Place ℕ Token
by_size x = record { keeps = λ p left t. has_room x p left t; notes = λ p left t. left - cost t }
