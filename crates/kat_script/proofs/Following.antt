-- The lines of a text keep the rules exactly if none is refused.
use Rattle.std.proofs.Common.{◌≡◌, ℕ, ◌+◌, ◌<◌, Bool, true, false, List, [], ◌∷◌, length, refl, ap, cond, arith, Option, Some, None}
use Rattle.std.specs.Prelude.{◌==◌, ◌&&◌, ◌||◌, not, find, nat_le, nat_lt, is_none, is_some, if◌then◌else◌}
use Rattle.std.proofs.lemmas.Bool.{and_from, and_parts, leb-false, lt-ltb}
use Rattle.kat_lex.specs.declared.lexer.Token.{Token}
use Rattle.kat_script.specs.Rules.{Keeps, Known, clock_of, first_broken, is_broken, is_kept, is_late, is_one_too_many, is_past_limit, is_replica, is_shipped, is_there, op_of, query_of, time_of}
use Rattle.kat_script.specs.Script.{Follows, IsScript, Place, Reads, behind, below, blank, ends, goes, good, keeps, known_at, skips, start, stops}
use Rattle.kat_script.specs.declared.rules.Rule.{Rule}
use Rattle.kat_script.specs.declared.rules.Rule.TheVariants.{Syntax, NoReplica, NoPacket, Late, BadCall, TooLarge}
use Rattle.kat_script.specs.declared.rules.TheConstants.{LINE_LIMIT, REPLICA_LIMIT, TIME_LIMIT}
use Rattle.kat_script.specs.declared.said.Constant.{Constant}
use Rattle.kat_script.specs.declared.said.Said.{Said}
use Rattle.kat_script.specs.declared.said.Said.TheVariants.{Replicas, Does, Ships, Delivers, Asks, Shows}
use Rattle.kat_script.specs.declared.script.Line.{Line}
use Rattle.kat_script.specs.declared.script.Script.{Script}
use Rattle.kat_type.specs.declared.signatures.Signature.{Signature}

-- no rule is broken first
not_found : (b : Bool) (x : Rule) (o : Option Rule) → cond b (Some x) o ≡ None → (b ≡ false) × (o ≡ None)
not_found true x o e = absurd cc
not_found false x o e = (refl, e)

find_none : (p : Rule → Bool) (x : Rule) (xs : List Rule) → find p (x ∷ xs) ≡ None → (p x ≡ false) × (find p xs ≡ None)
find_none p x xs e = not_found (p x) x (find p xs) e

either_false : (a b : Bool) → (a || b) ≡ false → (a ≡ false) × (b ≡ false)
either_false true b e = absurd cc
either_false false b e = (refl, e)

pub keeps_rules : (sig : Signature) (known : Known) (said : Said) → first_broken sig known said ≡ None → Keeps sig known said
keeps_rules sig known said e =
    let p = is_broken sig known said in
    let a = find_none p Syntax (NoReplica ∷ NoPacket ∷ Late ∷ BadCall ∷ TooLarge ∷ []) e in
    let b = find_none p NoReplica (NoPacket ∷ Late ∷ BadCall ∷ TooLarge ∷ []) a.1 in
    let c = find_none p NoPacket (Late ∷ BadCall ∷ TooLarge ∷ []) b.1 in
    let d = find_none p Late (BadCall ∷ TooLarge ∷ []) c.1 in
    let f = find_none p BadCall (TooLarge ∷ []) d.1 in
    let g = find_none p TooLarge [] f.1 in
    let h = either_false (is_past_limit known said) (nat_le LINE_LIMIT known.lines) g.0 in
    record { placed = a.0; replica = b.0; packet = c.0; timely = d.0; called = f.0; within = h.0; room = h.1 }

pub none_broken : (sig : Signature) (known : Known) (said : Said) → Keeps sig known said → first_broken sig known said ≡ None
none_broken sig known said k = rw (k.placed, k.replica, k.packet, k.timely, k.called, k.within, k.room) refl

-- tests and their opposites
pub not_false : (b : Bool) → not b ≡ false → b ≡ true
not_false true e = refl
not_false false e = absurd cc

true_not : (b : Bool) → b ≡ true → not b ≡ false
true_not b e = ap not e

not_true : (b : Bool) → not b ≡ true → b ≡ false
not_true true e = absurd cc
not_true false e = refl

opening_placed : (b : Bool) → (if b then false else true) ≡ false → b ≡ true
opening_placed true e = refl
opening_placed false e = absurd cc

placed_opening : (b : Bool) → b ≡ true → (if b then false else true) ≡ false
placed_opening true e = refl
placed_opening false e = absurd cc

other_placed : (b : Bool) → (if b then true else false) ≡ false → not b ≡ true
other_placed true e = absurd cc
other_placed false e = refl

placed_other : (b : Bool) → not b ≡ true → (if b then true else false) ≡ false
placed_other true e = absurd cc
placed_other false e = refl

found : (o : Option ℕ) → is_none o ≡ false → is_some o ≡ true
found None e = absurd cc
found (Some n) e = refl

not_none : (o : Option ℕ) → is_some o ≡ true → is_none o ≡ false
not_none None e = absurd cc
not_none (Some n) e = refl

room_below : (lines : ℕ) → nat_le LINE_LIMIT lines ≡ false → lines < LINE_LIMIT
room_below lines e = leb-false LINE_LIMIT lines e

below_room : (most lines : ℕ) → lines < most → nat_le most lines ≡ false
below_room most lines e = grind arith

within_limit : (most time : ℕ) → nat_lt most time ≡ false → nat_le time most ≡ true
within_limit most time e = grind arith

limit_within : (most time : ℕ) → nat_le time most ≡ true → nat_lt most time ≡ false
limit_within most time e = grind arith

next_later : (clock : ℕ) → nat_lt clock (clock + 1) ≡ true
next_later clock = lt-ltb clock (clock + 1) (omega arith)

given_later : (clock time : ℕ) → nat_le time clock ≡ false → nat_lt clock time ≡ true
given_later clock time e = grind arith

later_given : (clock time : ℕ) → nat_lt clock time ≡ true → nat_le time clock ≡ false
later_given clock time e = grind arith

later : (known : Known) (r op : ℕ) (args : List Constant) (time : Option ℕ) → is_late known (Does r op args time) ≡ false → nat_lt (clock_of known r) (time_of known r time) ≡ true
later known r op args None e = next_later (clock_of known r)
later known r op args (Some time) e = given_later (clock_of known r) time e

not_late : (known : Known) (r op : ℕ) (args : List Constant) (time : Option ℕ) → nat_lt (clock_of known r) (time_of known r time) ≡ true → is_late known (Does r op args time) ≡ false
not_late known r op args None e = refl
not_late known r op args (Some time) e = later_given (clock_of known r) time e

there : (known : Known) (r : ℕ) → (if known.lines == 0 then true else false) ≡ false → not (is_replica known r) ≡ false → is_there known r ≡ true
there known r placed replica = and_from (not (known.lines == 0)) (is_replica known r) (other_placed (known.lines == 0) placed) (not_false (is_replica known r) replica)

-- a line that breaks no rule is kept
kept_is : (sig : Signature) (known : Known) (said : Said) → Keeps sig known said → is_kept sig known said ≡ true
kept_is sig known (Replicas n) k =
    and_from (known.lines == 0) (nat_le 1 n && nat_le n REPLICA_LIMIT) (opening_placed (known.lines == 0) k.placed) (not_false (nat_le 1 n && nat_le n REPLICA_LIMIT) k.within)
kept_is sig known (Does r op args time) k =
    let timely : Bool = nat_lt (clock_of known r) (time_of known r time) in
    let early : Bool = nat_le (time_of known r time) TIME_LIMIT in
    and_from (is_there known r) (is_some (op_of sig op args) && (timely && early)) (there known r k.placed k.replica)
    (and_from (is_some (op_of sig op args)) (timely && early) (found (op_of sig op args) k.called)
    (and_from timely early (later known r op args time k.timely) (within_limit TIME_LIMIT (time_of known r time) k.within)))
kept_is sig known (Ships r packet) k =
    and_from (is_there known r) (not (is_one_too_many known packet)) (there known r k.placed k.replica) (ap not k.within)
kept_is sig known (Delivers packet r) k =
    and_from (is_there known r) (is_shipped known packet) (there known r k.placed k.replica) (not_false (is_shipped known packet) k.packet)
kept_is sig known (Asks r query args) k =
    and_from (is_there known r) (is_some (query_of sig query args)) (there known r k.placed k.replica) (found (query_of sig query args) k.called)
kept_is sig known (Shows r) k = there known r k.placed k.replica

-- and back
record IsThere (known : Known) (r : ℕ) : Type 0 where
  placed : (if known.lines == 0 then true else false) ≡ false
  replica : not (is_replica known r) ≡ false

from_there : (known : Known) (r : ℕ) → is_there known r ≡ true → IsThere known r
from_there known r e =
    let parts = and_parts (not (known.lines == 0)) (is_replica known r) e in
    record { placed = placed_other (known.lines == 0) parts.0; replica = true_not (is_replica known r) parts.1 }

is_keeping : (sig : Signature) (known : Known) (said : Said) → is_kept sig known said ≡ true → nat_le LINE_LIMIT known.lines ≡ false → Keeps sig known said
is_keeping sig known (Replicas n) e room =
    let parts = and_parts (known.lines == 0) (nat_le 1 n && nat_le n REPLICA_LIMIT) e in
    record {
      placed = placed_opening (known.lines == 0) parts.0;
      replica = refl;
      packet = refl;
      timely = refl;
      called = refl;
      within = true_not (nat_le 1 n && nat_le n REPLICA_LIMIT) parts.1;
      room = room;
    }
is_keeping sig known (Does r op args time) e room =
    let timely : Bool = nat_lt (clock_of known r) (time_of known r time) in
    let early : Bool = nat_le (time_of known r time) TIME_LIMIT in
    let parts = and_parts (is_there known r) (is_some (op_of sig op args) && (timely && early)) e in
    let call = and_parts (is_some (op_of sig op args)) (timely && early) parts.1 in
    let times = and_parts timely early call.1 in
    let at = from_there known r parts.0 in
    record {
      placed = at.placed;
      replica = at.replica;
      packet = refl;
      timely = not_late known r op args time times.0;
      called = not_none (op_of sig op args) call.0;
      within = limit_within TIME_LIMIT (time_of known r time) times.1;
      room = room;
    }
is_keeping sig known (Ships r packet) e room =
    let parts = and_parts (is_there known r) (not (is_one_too_many known packet)) e in
    let at = from_there known r parts.0 in
    record { placed = at.placed; replica = at.replica; packet = refl; timely = refl; called = refl; within = not_true (is_one_too_many known packet) parts.1; room = room }
is_keeping sig known (Delivers packet r) e room =
    let parts = and_parts (is_there known r) (is_shipped known packet) e in
    let at = from_there known r parts.0 in
    record { placed = at.placed; replica = at.replica; packet = true_not (is_shipped known packet) parts.1; timely = refl; called = refl; within = refl; room = room }
is_keeping sig known (Asks r query args) e room =
    let parts = and_parts (is_there known r) (is_some (query_of sig query args)) e in
    let at = from_there known r parts.0 in
    record { placed = at.placed; replica = at.replica; packet = refl; timely = refl; called = not_none (query_of sig query args) parts.1; within = refl; room = room }
is_keeping sig known (Shows r) e room =
    let at = from_there known r e in
    record { placed = at.placed; replica = at.replica; packet = refl; timely = refl; called = refl; within = refl; room = room }

-- lines that end well
pub record IsRead (sig : Signature) (place : Place) (rest : List (List Token)) (lines : List Line) (last : Place) : Type 0 where
  pub follows : Follows sig place rest lines last
  pub some : 0 < last.lines

pub follows_of : (sig : Signature) (place : Place) (rest : List (List Token)) (lines : List Line) (last : Place) → Reads sig place rest lines (good last) → IsRead sig place rest lines last
follows_of sig place _ _ _ (ends some) = record { follows = stops; some = some }
follows_of sig place _ _ last (blank {rest = rest} {lines = lines} read) =
    let more = follows_of sig (below place) rest lines last read in
    record { follows = skips more.follows; some = more.some }
follows_of sig place _ _ last (keeps {rest = rest} {lines = lines} said says none read) =
    let k = keeps_rules sig (known_at place) said none in
    let more = follows_of sig (behind sig place said) rest lines last read in
    record { follows = goes said says (kept_is sig (known_at place) said k) (room_below place.lines k.room) more.follows; some = more.some }

pub reads_of : (sig : Signature) (place : Place) (rest : List (List Token)) (lines : List Line) (last : Place) → Follows sig place rest lines last → 0 < last.lines → Reads sig place rest lines (good last)
reads_of sig place _ _ _ stops some = ends some
reads_of sig place _ _ last (skips {rest = rest} {lines = lines} more) some = blank (reads_of sig (below place) rest lines last more some)
reads_of sig place _ _ last (goes {rest = rest} {lines = lines} said says kept room more) some =
    keeps said says (none_broken sig (known_at place) said (is_keeping sig (known_at place) said kept (below_room LINE_LIMIT place.lines room)))
    (reads_of sig (behind sig place said) rest lines last more some)

-- what is read as a script
pub a_script : (sig : Signature) (lines : List (List Token)) (script : Script) (last : Place) → Reads sig start lines script.lines (good last)
    → script.replicas ≡ length last.world.replicas → script.packets ≡ length last.words → IsScript sig lines script
a_script sig lines script last read replicas packets =
    let is = follows_of sig start lines script.lines last read in
    record { last = last; follows = is.follows; some = is.some; replicas = replicas; packets = packets }

pub script_read : (sig : Signature) (lines : List (List Token)) (script : Script) (is : IsScript sig lines script) → Reads sig start lines script.lines (good is.last)
script_read sig lines script is = reads_of sig start lines script.lines is.last is.follows is.some
