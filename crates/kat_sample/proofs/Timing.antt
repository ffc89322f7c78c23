-- The clocks that are kept are those of the world, and grow by at most one with each command.
use Rattle.std.proofs.Common.{◌≡◌, ℕ, zero, suc, ◌+◌, ◌-◌, ◌<◌, ◌≤◌, Bool, true, false, cond, List, [], ◌∷◌, ◌++◌, length, drop, get_or, set, max, refl, sym, ◌∙◌, ap, subst, arith, append_assoc, append-nil}
use Rattle.std.specs.Prelude.{map, nat_lt, replicate}
use Rattle.std.proofs.Math.ListN.{get_or-map}
use Rattle.std.proofs.lemmas.List.{at_drop_more, map-set}
use Rattle.kat_script.proofs.Matching.{map-put}
use Rattle.kat_script.specs.World.{Holder, World, after, first_world, fresh, put, replica_at}
use Rattle.kat_script.specs.declared.script.Line.{Line}
use Rattle.kat_type.proofs.Lists.{set_all, snoc_all}
use Rattle.kat_sample.specs.Clocks.{Times, clock_at, times_after, times_of}
use Rattle.kat_sample.specs.Commands.{replica_of}
use Rattle.kat_sample.specs.Scripts.{line_at, line_in, lines_from}
use Rattle.kat_sample.specs.declared.commands.Command.{Command}
use Rattle.kat_sample.specs.declared.commands.Command.TheVariants.{Add, Ship, Deliver, Ask}

abbrev clock : Holder → ℕ
clock holder = holder.clock

abbrev pub times : List ℕ → List ℕ → Times
times replicas packets = record { replicas = replicas; packets = packets }

-- the clock of a holder is what the clocks say at its place
clock_there : (holders : List Holder) (i : ℕ) → get_or (map clock holders) i 0 ≡ (get_or holders i fresh).clock
clock_there holders i = get_or-map clock holders i fresh

pub clock_is : (world : World) (r : ℕ) → clock_at (times_of world) r ≡ (replica_at world r).clock
clock_is world r = clock_there world.replicas (r - 1)

-- the clocks after a command are those of the world after its line
pub times_on : (world : World) (command : Command) → times_after (times_of world) command ≡ times_of (after world (line_in world command))
times_on world (Add r thing amount) =
    ap (λ t. times (set (map clock world.replicas) (r - 1) (t + 1)) (map clock world.packets)) (clock_is world r)
    ∙ ap (λ rs. times rs (map clock world.packets)) (sym (map-set clock world.replicas (r - 1) _))
times_on world (Ship r) =
    ap (λ t. times (map clock world.replicas) (put (map clock world.packets) (r - 1) t)) (clock_is world r)
    ∙ ap (λ ps. times (map clock world.replicas) ps) (sym (map-put clock world.packets (r - 1) (replica_at world r)))
times_on world (Deliver sender r) =
    ap (λ t. times (set (map clock world.replicas) (r - 1) (max t (get_or (map clock world.packets) (sender - 1) 0))) (map clock world.packets)) (clock_is world r)
    ∙ ap (λ t. times (set (map clock world.replicas) (r - 1) (max (replica_at world r).clock t)) (map clock world.packets)) (clock_there world.packets (sender - 1))
    ∙ ap (λ rs. times rs (map clock world.packets)) (sym (map-set clock world.replicas (r - 1) _))
times_on world (Ask r thing) = refl

put_from : (P : ℕ → Type 0) (xs : List ℕ) (i x d : ℕ) (b : Bool) → ((k : ℕ) → P (get_or xs k d)) → P x → (k : ℕ) → P (get_or (cond b (set xs i x) (xs ++ x ∷ [])) k d)
put_from P xs i x d true h p = set_all P xs i x d h p
put_from P xs i x d false h p = snoc_all P xs x d h p

put_all : (P : ℕ → Type 0) (xs : List ℕ) (i x d : ℕ) → ((k : ℕ) → P (get_or xs k d)) → P x → (k : ℕ) → P (get_or (put xs i x) k d)
put_all P xs i x d h p = put_from P xs i x d (nat_lt i (length xs)) h p

-- no clock is past this
pub record AreUpTo (most : ℕ) (t : Times) : Type 0 where
  pub replicas : (i : ℕ) → get_or t.replicas i 0 ≤ most
  pub packets : (i : ℕ) → get_or t.packets i 0 ≤ most

one_more : (a most : ℕ) → a ≤ most → a + 1 ≤ most + 1
one_more a most h = omega arith

still : (a most : ℕ) → a ≤ most → a ≤ most + 1
still a most h = omega arith

both_still : (a b most : ℕ) → a ≤ most → b ≤ most → max a b ≤ most + 1
both_still a b most h k = omega arith

pub up_to_on : (most : ℕ) (t : Times) (command : Command) → AreUpTo most t → AreUpTo (most + 1) (times_after t command)
up_to_on most t (Add r thing amount) h = record {
  replicas = set_all (λ a. a ≤ most + 1) t.replicas (r - 1) (clock_at t r + 1) 0 (λ i. still (get_or t.replicas i 0) most (h.replicas i)) (one_more (clock_at t r) most (h.replicas (r - 1)));
  packets = λ i. still (get_or t.packets i 0) most (h.packets i);
}
up_to_on most t (Ship r) h = record {
  replicas = λ i. still (get_or t.replicas i 0) most (h.replicas i);
  packets = put_all (λ a. a ≤ most + 1) t.packets (r - 1) (clock_at t r) 0 (λ i. still (get_or t.packets i 0) most (h.packets i)) (still (clock_at t r) most (h.replicas (r - 1)));
}
up_to_on most t (Deliver sender r) h = record {
  replicas = set_all (λ a. a ≤ most + 1) t.replicas (r - 1) (max (clock_at t r) (get_or t.packets (sender - 1) 0)) 0 (λ i. still (get_or t.replicas i 0) most (h.replicas i))
      (both_still (clock_at t r) (get_or t.packets (sender - 1) 0) most (h.replicas (r - 1)) (h.packets (sender - 1)));
  packets = λ i. still (get_or t.packets i 0) most (h.packets i);
}
up_to_on most t (Ask r thing) h = record {
  replicas = λ i. still (get_or t.replicas i 0) most (h.replicas i);
  packets = λ i. still (get_or t.packets i 0) most (h.packets i);
}

-- at the start
none_later : (n k : ℕ) → get_or (replicate n 0) k 0 ≤ 0
none_later zero k = omega arith
none_later (suc n) zero = omega arith
none_later (suc n) (suc k) = none_later n k

pub first_times : times_of (first_world 3) ≡ times (replicate 3 0) []
first_times = refl

pub first_up_to : AreUpTo 0 (times (replicate 3 0) [])
first_up_to = record { replicas = λ i. none_later 3 i; packets = λ i. none_later 0 i }

-- this many commands are made, and these are left: the clocks are those of a world after them, and the lines made and those of
-- the commands left are all lines
pub record Makes (commands left : List Command) (lines : List Line) (t : Times) (count : ℕ) : Type 0 where
  pub world : World
  pub clocks : t ≡ times_of world
  pub within : AreUpTo count t
  pub all : lines ++ lines_from world left ≡ lines_from (first_world 3) commands

pub makes_none : (commands : List Command) (t : Times) → t ≡ times (replicate 3 0) [] → Makes commands commands [] t 0
makes_none commands t is = record {
  world = first_world 3;
  clocks = is;
  within = subst (λ (u : Times). AreUpTo 0 u) (sym is) first_up_to;
  all = refl;
}

pub makes_next : (commands left rest : List Command) (command : Command) (lines lines' : List Line) (t t' : Times) (count : ℕ) → Makes commands left lines t count
    → left ≡ command ∷ rest → lines' ≡ lines ++ line_at (clock_at t (replica_of command)) command ∷ [] → t' ≡ times_after t command
    → Makes commands rest lines' t' (count + 1)
makes_next commands left rest command lines lines' t t' count m split line behind = record {
  world = after m.world (line_in m.world command);
  clocks = behind ∙ ap (λ u. times_after u command) m.clocks ∙ times_on m.world command;
  within = subst (λ (u : Times). AreUpTo (count + 1) u) (sym behind) (up_to_on count t command m.within);
  all =
      ap (λ ls. ls ++ lines_from (after m.world (line_in m.world command)) rest)
      (line ∙ ap (λ c. lines ++ line_at c command ∷ []) (ap (λ u. clock_at u (replica_of command)) m.clocks ∙ clock_is m.world (replica_of command)))
      ∙ append_assoc lines (line_in m.world command ∷ []) (lines_from (after m.world (line_in m.world command)) rest)
      ∙ ap (λ cs. lines ++ lines_from m.world cs) (sym split)
      ∙ m.all;
}

pub makes_all : (commands : List Command) (lines : List Line) (t : Times) (count : ℕ) → Makes commands [] lines t count → lines ≡ lines_from (first_world 3) commands
makes_all commands lines t count m = sym (append-nil lines) ∙ m.all

early : (a count : ℕ) → a ≤ count → count < 100_000 → a < 1_000_000_000
early a count h k = omega arith

pub still_early : (commands left : List Command) (lines : List Line) (t : Times) (count r : ℕ) → Makes commands left lines t count → count < 100_000 → clock_at t r < 1_000_000_000
still_early commands left lines t count r m few = early (clock_at t r) count (m.within.replicas (r - 1)) few

pub next_command : (commands : List Command) (i : ℕ) (d command : Command) → i < length commands → command ≡ get_or commands i d → drop i commands ≡ command ∷ drop (i + 1) commands
next_command commands i d command lt is = at_drop_more (λ left. left) commands i d lt ∙ ap (λ one. one ∷ drop (i + 1) commands) (sym is)

pub same_times : (a b c d : List ℕ) → a ≡ c → b ≡ d → times a b ≡ times c d
same_times a b c d e f = λ i. record { replicas = e i; packets = f i }
