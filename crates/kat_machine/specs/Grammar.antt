-- Used inside only.
-- Used by kat_decoding and inside only: the machine that reads the token lists of designs whose sorts fit. It only has to read
-- each of them; what it reads beside them is judged at the end.
use Rattle.std.specs.Prelude.{ℕ, ◌-◌, nat_lt, Bool, true, false, List, [], ◌∷◌, ◌++◌, map, length, filter, Option, None, Some, if◌then◌else◌, slice_get}
use Rattle.std.specs.List.{range_with_len}
use Rattle.kat_num.specs.declared.values.Sort.{Sort}
use Rattle.kat_num.specs.declared.values.Sort.TheVariants as sort
use Rattle.kat_walk.specs.Machines.{Machine}
use Rattle.kat_design.specs.Kinds.{sort_kind}
use Rattle.kat_design.specs.declared.kinds.Kind.{Kind}
use Rattle.kat_design.specs.declared.kinds.Kind.TheVariants as kind
use Rattle.kat_design.specs.declared.kinds.Wanted.{Wanted}
use Rattle.kat_design.specs.declared.kinds.Wanted.TheVariants.{Exactly, Ordered}
use Rattle.kat_type.specs.declared.signatures.QuerySig.{QuerySig}
use Rattle.kat_machine.specs.Choices.{ask_choices, choices_for, op_sorts, query_sorts, set_row, shaped_row, tallies_row, tally_row, token_kind}
use Rattle.kat_rules.specs.Constants.{of_kind}
use Rattle.kat_rules.specs.declared.constants.Setting.{Setting}
use Rattle.kat_rules.specs.declared.kind_sets.Kinds.{Kinds}
use Rattle.kat_machine.specs.declared.modes.Keyed.{Keyed}
use Rattle.kat_machine.specs.declared.modes.Keyed.TheVariants as keyed
use Rattle.kat_machine.specs.declared.modes.Mode.{Mode}
use Rattle.kat_machine.specs.declared.modes.Mode.TheVariants as mode
use Rattle.kat_machine.specs.declared.modes.Place.{Place}
use Rattle.kat_machine.specs.declared.modes.Row.{Row}
use Rattle.kat_machine.specs.declared.modes.Want.{Want}
use Rattle.kat_rules.specs.declared.tokens.Token.{Token}
use Rattle.kat_rules.specs.declared.tokens.Token.TheVariants as token

abbrev pub tail_of : {A : Type 0} → List A → List A
tail_of [] = []
tail_of (x ∷ xs) = xs

-- the operation whose effect is read, and the query whose ask is read, when this many are left
abbrev pub sorts_of_op : Setting → ℕ → List Sort
sorts_of_op x left = op_sorts (slice_get x.sig.ops (length x.sig.ops - left))

abbrev pub sorts_of_query : Setting → ℕ → List Sort
sorts_of_query x left = query_sorts (slice_get x.sig.queries (length x.sig.queries - left))

-- where each part begins; a part that has nothing to read is passed over
abbrev pub at_effect : Row → ℕ → List Row → Place
at_effect row left rows = if nat_lt 0 left then record { mode = mode.Effecting row left; rows = rows } else record { mode = mode.Opening; rows = rows ++ row ∷ [] }

abbrev pub at_starts : Setting → Row → List Kind → List Row → Place
at_starts x row [] rows = at_effect row (length x.sig.ops) rows
at_starts x row (k ∷ kinds) rows = record { mode = mode.Starting row (k ∷ kinds); rows = rows }

abbrev pub at_shape : Setting → Option Sort → List Bool → List Kind → List Row → Place
at_shape x key [] kinds rows = at_starts x (shaped_row key kinds) kinds rows
at_shape x key (c ∷ chains) kinds rows = record { mode = mode.Shaping key (c ∷ chains) kinds; rows = rows }

abbrev pub at_parts : Row → ℕ → List Want → List Row → Place
at_parts row left [] rows = at_effect row (left - 1) rows
at_parts row left (w ∷ todo) rows = record { mode = mode.Filling row left (w ∷ todo); rows = rows }

abbrev pub asked_kind : Option QuerySig → Option Kind
asked_kind None = None
asked_kind (Some query) = Some (sort_kind query.sort)

abbrev pub ask_at : Option Kind → ℕ → List Row → Place
ask_at None left rows = record { mode = mode.Finished; rows = rows }
ask_at (Some k) left rows = record { mode = mode.Asking (Exactly k ∷ []) left; rows = rows }

abbrev pub at_ask : Setting → ℕ → List Row → Place
at_ask x left rows = ask_at (asked_kind (slice_get x.sig.queries (length x.sig.queries - left))) left rows

abbrev pub at_wants : Setting → List Wanted → ℕ → List Row → Place
at_wants x [] left rows = at_ask x (left - 1) rows
at_wants x (w ∷ wants) left rows = record { mode = mode.Asking (w ∷ wants) left; rows = rows }

-- which tokens may follow
abbrev pub is_of : Kinds → Token → Bool
is_of kinds token.Cell = kinds.cell
is_of kinds token.Table = kinds.table
is_of kinds token.Set = kinds.set
is_of kinds token.Tally = kinds.tally
is_of kinds token.Tallies = kinds.tallies
is_of kinds _ = true

abbrev pub opening_tokens : List Token
opening_tokens = token.End ∷ token.Cell ∷ token.Table ∷ token.Set ∷ token.Tally ∷ token.Tallies ∷ []

abbrev pub shape_choices : List Bool → List Token
shape_choices [] = []
shape_choices (true ∷ chains) = token.Max ∷ token.Name ∷ token.Or ∷ token.Lex ∷ []
shape_choices (false ∷ chains) = token.Max ∷ token.Name ∷ token.Or ∷ token.Lex ∷ token.Pair ∷ []

abbrev pub start_choices : Setting → List Kind → List Token
start_choices x [] = []
start_choices x (k ∷ kinds) = map token.Start (range_with_len 0 (length (of_kind x.constants k)))

abbrev pub part_choices : List Sort → List Want → List Token
part_choices sorts [] = []
part_choices sorts (w ∷ todo) = choices_for sorts w

abbrev pub asked_choices : Setting → List Row → ℕ → List Wanted → List Token
asked_choices x rows left [] = []
asked_choices x rows left (w ∷ wants) = ask_choices x.constants (sorts_of_query x left) rows w

abbrev pub may_follow : Setting → Mode → List Row → List Token
may_follow x mode.Opening rows = filter (is_of x.kinds) opening_tokens
may_follow x (mode.Keying k) rows = token.Keys sort.Int ∷ token.Keys sort.Nat ∷ token.Keys sort.Name ∷ []
may_follow x (mode.Shaping key chains kinds) rows = shape_choices chains
may_follow x (mode.Starting row todo) rows = start_choices x todo
may_follow x (mode.Effecting row left) rows = token.Nothing ∷ part_choices (sorts_of_op x left) row.wants
may_follow x (mode.Filling row left todo) rows = part_choices (sorts_of_op x left) todo
may_follow x (mode.Asking wants left) rows = asked_choices x rows left wants
may_follow x mode.Finished rows = []
may_follow x mode.Nowhere rows = []

-- what each leads to
abbrev pub operands : Token → List Wanted
operands token.Not = Exactly kind.Truth ∷ []
operands token.And = Exactly kind.Truth ∷ Exactly kind.Truth ∷ []
operands token.Either = Exactly kind.Truth ∷ Exactly kind.Truth ∷ []
operands token.Less = Ordered ∷ []
operands token.Plus = Exactly kind.Number ∷ Exactly kind.Number ∷ []
operands token.Minus = Exactly kind.Number ∷ Exactly kind.Number ∷ []
operands _ = []

-- the first operand of `<` decides what the second one is
abbrev pub compared : Kind → List Wanted → List Wanted
compared k [] = []
compared k (Exactly j ∷ wants) = wants
compared k (Ordered ∷ wants) = Exactly k ∷ wants

abbrev pub wants_behind : List Sort → List Row → Token → List Wanted → List Wanted
wants_behind sorts rows t wants = operands t ++ compared (token_kind sorts rows t) wants

abbrev pub chain_parts : List Bool → List Bool
chain_parts [] = []
chain_parts (c ∷ chains) = true ∷ c ∷ chains

abbrev pub pair_parts : List Bool → List Bool
pair_parts [] = []
pair_parts (c ∷ chains) = false ∷ false ∷ chains

abbrev pub at_nowhere : List Row → Place
at_nowhere rows = record { mode = mode.Nowhere; rows = rows }

abbrev pub from_opening : Setting → List Row → Token → Place
from_opening x rows token.End = at_ask x (length x.sig.queries) rows
from_opening x rows token.Cell = at_shape x None (false ∷ []) [] rows
from_opening x rows token.Table = record { mode = mode.Keying keyed.Table; rows = rows }
from_opening x rows token.Set = record { mode = mode.Keying keyed.Set; rows = rows }
from_opening x rows token.Tally = at_effect tally_row (length x.sig.ops) rows
from_opening x rows token.Tallies = record { mode = mode.Keying keyed.Tallies; rows = rows }
from_opening x rows _ = at_nowhere rows

abbrev pub with_keys : Setting → Keyed → Sort → List Row → Place
with_keys x keyed.Table s rows = at_shape x (Some s) (false ∷ []) [] rows
with_keys x keyed.Set s rows = at_effect (set_row s) (length x.sig.ops) rows
with_keys x keyed.Tallies s rows = at_effect (tallies_row s) (length x.sig.ops) rows

abbrev pub from_keying : Setting → Keyed → List Row → Token → Place
from_keying x k rows (token.Keys s) = with_keys x k s rows
from_keying x k rows _ = at_nowhere rows

abbrev pub from_shaping : Setting → Option Sort → List Bool → List Kind → List Row → Token → Place
from_shaping x key chains kinds rows token.Max = at_shape x key (tail_of chains) (kinds ++ kind.Number ∷ []) rows
from_shaping x key chains kinds rows token.Name = at_shape x key (tail_of chains) (kinds ++ kind.Name ∷ []) rows
from_shaping x key chains kinds rows token.Or = at_shape x key (tail_of chains) (kinds ++ kind.Truth ∷ []) rows
from_shaping x key chains kinds rows token.Lex = at_shape x key (chain_parts chains) kinds rows
from_shaping x key chains kinds rows token.Pair = at_shape x key (pair_parts chains) kinds rows
from_shaping x key chains kinds rows _ = at_nowhere rows

abbrev pub is_nothing : Token → Bool
is_nothing token.Nothing = true
is_nothing _ = false

abbrev pub from_effecting : Row → ℕ → List Row → Token → Place
from_effecting row left rows t = if is_nothing t then at_effect row (left - 1) rows else at_parts row left (tail_of row.wants) rows

abbrev pub goes_to : Setting → Mode → List Row → Token → Place
goes_to x mode.Opening rows t = from_opening x rows t
goes_to x (mode.Keying k) rows t = from_keying x k rows t
goes_to x (mode.Shaping key chains kinds) rows t = from_shaping x key chains kinds rows t
goes_to x (mode.Starting row todo) rows t = at_starts x row (tail_of todo) rows
goes_to x (mode.Effecting row left) rows t = from_effecting row left rows t
goes_to x (mode.Filling row left todo) rows t = at_parts row left (tail_of todo) rows
goes_to x (mode.Asking wants left) rows t = at_wants x (wants_behind (sorts_of_query x left) rows t wants) left rows
goes_to x mode.Finished rows t = at_nowhere rows
goes_to x mode.Nowhere rows t = at_nowhere rows

abbrev pub is_finished : Mode → Bool
is_finished mode.Finished = true
is_finished _ = false

abbrev pub grammar : Setting → Machine Place Token
grammar x = record {
  allowed = λ p. may_follow x p.mode p.rows;
  step = λ p t. goes_to x p.mode p.rows t;
  done = λ p. is_finished p.mode;
}

abbrev pub first_place : Place
first_place = record { mode = mode.Opening; rows = [] }
