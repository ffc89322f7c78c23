-- The rules that a line has to keep, given the lines before it.
use Rattle.std.specs.Prelude.{◌≡◌, ℕ, ◌+◌, ◌-◌, ◌≤◌, Bool, true, false, not, ◌&&◌, ◌||◌, ◌==◌, nat_lt, nat_le, List, [], ◌∷◌, length, map, find, position, unwrap_or, if◌then◌else◌, Option, None, Some, is_none, is_some, pos, neg_ℤ}
use Rattle.std.specs.List.{slice_index_or}
use Rattle.kat_num.specs.declared.values.Sort.{Sort}
use Rattle.kat_num.specs.declared.values.Sort.TheVariants as sort
use Rattle.kat_num.specs.declared.values.Value.{Value}
use Rattle.kat_num.specs.declared.values.Value.TheVariants as value
use Rattle.kat_script.specs.declared.said.Constant.{Constant}
use Rattle.kat_script.specs.declared.said.Constant.TheVariants.{Natural, Negated, Named, Truth}
use Rattle.kat_script.specs.declared.said.Said.{Said}
use Rattle.kat_script.specs.declared.said.Said.TheVariants.{Replicas, Does, Ships, Delivers, Asks, Shows}
use Rattle.kat_type.specs.declared.signatures.Signature.{Signature}
use Rattle.kat_script.specs.declared.script.Line.{Line}
use Rattle.kat_script.specs.declared.script.Line.TheVariants.{Do, Ship, Deliver, Ask, Show}
use Rattle.kat_script.specs.declared.rules.Rule.{Rule}
use Rattle.kat_script.specs.declared.rules.Rule.TheVariants.{Syntax, NoReplica, NoPacket, Late, BadCall, TooLarge}
use Rattle.kat_script.specs.declared.rules.TheConstants.{REPLICA_LIMIT, PACKET_LIMIT, TIME_LIMIT, LINE_LIMIT, CALL_LIMIT}

-- what the lines before a line have settled: the clocks of the replicas, the words of the packets in
-- the order of their first use, and how many lines there were
pub record Known : Type 0 where
  pub clocks : List ℕ
  pub words : List ℕ
  pub lines : ℕ

-- the value of an argument as it is written
abbrev pub value_of : Constant → Value
value_of (Natural n) = value.Num (pos n)
value_of (Negated n) = value.Num (neg_ℤ (pos n))
value_of (Named name) = value.Name name
value_of (Truth truth) = value.Bool truth

-- a number without a sign is of sort `nat` and fits `int` too; one with a sign is an `int`
abbrev pub has_sort : Constant → Sort → Bool
has_sort (Natural n) sort.Nat = true
has_sort (Natural n) sort.Int = true
has_sort (Negated n) sort.Int = true
has_sort (Named name) sort.Name = true
has_sort (Truth truth) sort.Bool = true
has_sort constant asked = false

-- as many arguments as sorts, each of its sort
abbrev pub fit : List Constant → List Sort → Bool
fit [] [] = true
fit (arg ∷ args) (asked ∷ sorts) = has_sort arg asked && fit args sorts
fit args sorts = false

-- the number of the operation of this name, which takes these arguments
abbrev pub op_of : Signature → ℕ → List Constant → Option ℕ
op_of sig name args = position (λ op. (op.name == name) && fit args op.sorts) sig.ops

-- the number of the query of this name, which takes these arguments
abbrev pub query_of : Signature → ℕ → List Constant → Option ℕ
query_of sig name args = position (λ query. (query.name == name) && fit args query.sorts) sig.queries

-- a number from 1 to that of the replicas
abbrev pub is_replica : Known → ℕ → Bool
is_replica known r = nat_le 1 r && nat_le r (length known.clocks)

-- replicas are numbered from 1
abbrev pub clock_of : Known → ℕ → ℕ
clock_of known r = slice_index_or known.clocks (r - 1) 0

-- the time that is written, or the clock's next
abbrev pub time_of : Known → ℕ → Option ℕ → ℕ
time_of known r None = clock_of known r + 1
time_of known r (Some time) = time

-- the place of a packet's word among the words
abbrev pub place_of : Known → ℕ → Option ℕ
place_of known packet = position (λ word. word == packet) known.words

-- a packet's word is among the words
abbrev pub is_shipped : Known → ℕ → Bool
is_shipped known packet = is_some (place_of known packet)

-- the number of a packet: the place of its word, or the next one
abbrev pub packet_of : Known → ℕ → ℕ
packet_of known packet = unwrap_or (place_of known packet) (length known.words)

-- one word more would pass the limit
abbrev pub is_one_too_many : Known → ℕ → Bool
is_one_too_many known packet = not (is_shipped known packet) && nat_le PACKET_LIMIT (length known.words)

abbrev pub is_past_limit : Known → Said → Bool
is_past_limit known (Replicas n) = not (nat_le 1 n && nat_le n REPLICA_LIMIT)
is_past_limit known (Does r op args time) = nat_lt TIME_LIMIT (time_of known r time)
is_past_limit known (Ships r packet) = is_one_too_many known packet
is_past_limit known said = false

abbrev pub is_late : Known → Said → Bool
is_late known (Does r op args (Some time)) = nat_le time (clock_of known r)
is_late known said = false

abbrev pub is_bad_call : Signature → Said → Bool
is_bad_call sig (Does r op args time) = is_none (op_of sig op args)
is_bad_call sig (Asks r query args) = is_none (query_of sig query args)
is_bad_call sig said = false

abbrev pub is_unknown_packet : Known → Said → Bool
is_unknown_packet known (Delivers packet r) = not (is_shipped known packet)
is_unknown_packet known said = false

abbrev pub is_opening : Said → Bool
is_opening (Replicas n) = true
is_opening said = false

-- the first line says how many replicas there are, and no other line does
abbrev pub is_misplaced : Known → Said → Bool
is_misplaced known said = if known.lines == 0 then not (is_opening said) else is_opening said

abbrev pub is_no_replica : Known → Said → Bool
is_no_replica known (Replicas n) = false
is_no_replica known (Does r op args time) = not (is_replica known r)
is_no_replica known (Ships r packet) = not (is_replica known r)
is_no_replica known (Delivers packet r) = not (is_replica known r)
is_no_replica known (Asks r query args) = not (is_replica known r)
is_no_replica known (Shows r) = not (is_replica known r)

-- a line breaks a rule
abbrev pub is_broken : Signature → Known → Said → Rule → Bool
-- it isn't the first line and says how many replicas there are, or it is and doesn't
is_broken sig known said Syntax = is_misplaced known said
-- its replica is none of them
is_broken sig known said NoReplica = is_no_replica known said
-- its packet wasn't shipped before
is_broken sig known said NoPacket = is_unknown_packet known said
-- its time doesn't exceed the replica's clock
is_broken sig known said Late = is_late known said
-- there is no such operation or query, or it takes other arguments
is_broken sig known said BadCall = is_bad_call sig said
-- no replica or too many, a time, a packet or a line past its limit
is_broken sig known said TooLarge = is_past_limit known said || nat_le LINE_LIMIT known.lines

-- the first rule, in the order of their numbers, that a line breaks
abbrev pub first_broken : Signature → Known → Said → Option Rule
first_broken sig known said =
    find (is_broken sig known said) (Syntax ∷ NoReplica ∷ NoPacket ∷ Late ∷ BadCall ∷ TooLarge ∷ [])

-- a replica of the script, once a line has said how many there are
abbrev pub is_there : Known → ℕ → Bool
is_there known r = not (known.lines == 0) && is_replica known r

-- The first line says how many replicas there are, and the others are of one of them. A time is later than the replica's clock, a
-- call is one of the signature's with arguments that fit, and a packet that is delivered was shipped.
abbrev pub is_kept : Signature → Known → Said → Bool
is_kept sig known (Replicas n) = (known.lines == 0) && (nat_le 1 n && nat_le n REPLICA_LIMIT)
is_kept sig known (Does r op args time) =
    is_there known r && (is_some (op_of sig op args) && (nat_lt (clock_of known r) (time_of known r time) && nat_le (time_of known r time) TIME_LIMIT))
is_kept sig known (Ships r packet) = is_there known r && not (is_one_too_many known packet)
is_kept sig known (Delivers packet r) = is_there known r && is_shipped known packet
is_kept sig known (Asks r query args) = is_there known r && is_some (query_of sig query args)
is_kept sig known (Shows r) = is_there known r

-- a line that breaks no rule
pub record Keeps (sig : Signature) (known : Known) (said : Said) : Type 0 where
  pub placed : is_misplaced known said ≡ false
  pub replica : is_no_replica known said ≡ false
  pub packet : is_unknown_packet known said ≡ false
  pub timely : is_late known said ≡ false
  pub called : is_bad_call sig said ≡ false
  pub within : is_past_limit known said ≡ false
  pub room : nat_le LINE_LIMIT known.lines ≡ false

-- as many operations and queries as a type may have at most
pub record HasFewCalls (sig : Signature) : Type 0 where
  pub few_ops : length sig.ops ≤ CALL_LIMIT
  pub few_queries : length sig.queries ≤ CALL_LIMIT

-- the line that is said, with its time filled in, and operations, queries and packets by their numbers
abbrev pub line_of : Signature → Known → Said → Option Line
line_of sig known (Replicas n) = None
line_of sig known (Does r op args time) = Some (Do (record {
  replica = r;
  time = time_of known r time;
  op = unwrap_or (op_of sig op args) 0;
  args = map value_of args;
}))
line_of sig known (Ships r packet) = Some (Ship r (packet_of known packet))
line_of sig known (Delivers packet r) = Some (Deliver (packet_of known packet) r)
line_of sig known (Asks r query args) = Some (Ask r (unwrap_or (query_of sig query args) 0) (map value_of args))
line_of sig known (Shows r) = Some (Show r)
