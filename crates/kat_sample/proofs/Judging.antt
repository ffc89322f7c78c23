-- The lines of drawn commands are judged good for the cart.
use Rattle.std.proofs.Common.{◌≡◌, ℕ, zero, suc, ◌+◌, ◌-◌, ◌/◌, ◌%◌, ◌==◌, ◌<◌, ◌≤◌, Bool, true, false, cond, List, [], ◌∷◌, ◌++◌, length, get_or, set, refl, sym, ◌∙◌, ap, subst, arith, append_assoc}
use Rattle.std.proofs.lemmas.Int.{ints}
use Rattle.std.specs.Prelude.{map, nat_lt, pos}
use Rattle.std.specs.List.{flat_map, list_all}
use Rattle.std.proofs.lemmas.Bool.{false≢true, lt-ltb}
use Rattle.std.proofs.lemmas.List.{length-append, length-map, length-set}
use Rattle.kat_num.specs.Bytes.{is_name_byte}
use Rattle.kat_num.specs.Names.{IsNameCode}
use Rattle.kat_num.specs.Values.{IsArgument}
use Rattle.kat_num.specs.declared.values.Sort.TheVariants as sort
use Rattle.kat_num.specs.declared.values.Value.TheVariants as value
use Rattle.kat_script.specs.Judged.{AreJudged, IsJudged, IsJudgedLine}
use Rattle.kat_script.specs.World.{Holder, World, after, first_world, fresh, put, replica_at, world_after}
use Rattle.kat_script.specs.declared.script.Line.{Line}
use Rattle.kat_type.specs.Signatures.{signature_of}
use Rattle.kat_type.specs.declared.signatures.Signature.{Signature}
use Rattle.kat_sample.specs.Carts.{cart}
use Rattle.kat_sample.specs.Clocks.{Times, clock_at, times_of}
use Rattle.kat_sample.specs.Commands.{all_replicas, asks_at, command_of, commands, deliveries_to, ships, thing_of}
use Rattle.kat_sample.specs.Draws.{draws, next}
use Rattle.kat_sample.specs.Scripts.{line_in, lines_from, sample_script}
use Rattle.kat_sample.specs.declared.commands.Command.{Command}
use Rattle.kat_sample.specs.declared.commands.Command.TheVariants.{Add, Ship, Deliver, Ask}
use Rattle.kat_sample.proofs.Timing.{AreUpTo, clock_is, times_on, up_to_on}

abbrev sig : Signature
sig = signature_of cart

-- the three replicas
abbrev IsOne : ℕ → Type 0
IsOne r = (1 ≤ r) × (r ≤ 3)

-- a command names replicas that there are, things by their names, and amounts within the limit
abbrev IsGood : Command → Type 0
IsGood (Add r thing amount) = IsOne r × IsNameCode thing × (amount ≤ 1_000_000_000_000)
IsGood (Ship r) = IsOne r
IsGood (Deliver sender r) = IsOne sender × IsOne r
IsGood (Ask r thing) = IsOne r × IsNameCode thing

abbrev AreGood : List Command → Type 0
AreGood [] = Unit {0}
AreGood (command ∷ commands) = IsGood command × AreGood commands

good_append : (xs ys : List Command) → AreGood xs → AreGood ys → AreGood (xs ++ ys)
good_append [] ys h k = k
good_append (x ∷ xs) ys h k = (h.0, good_append xs ys h.1 k)

-- three replicas and three packets, whose clocks aren't past this
record Stands (most : ℕ) (world : World) : Type 0 where
  pub replicas : length world.replicas ≡ 3
  pub packets : length world.packets ≡ 3
  pub within : AreUpTo most (times_of world)

within_on : (most : ℕ) (world : World) (command : Command) → AreUpTo most (times_of world) → AreUpTo (most + 1) (times_of (after world (line_in world command)))
within_on most world command within = subst (λ (t : Times). AreUpTo (most + 1) t) (times_on world command) (up_to_on most (times_of world) command within)

put_there : (xs : List Holder) (i : ℕ) (x : Holder) (b : Bool) → b ≡ true → length (cond b (set xs i x) (xs ++ x ∷ [])) ≡ length xs
put_there xs i x true e = length-set xs i x
put_there xs i x false e = absurd (false≢true e)

put_length : (xs : List Holder) (i : ℕ) (x : Holder) → i < length xs → length (put xs i x) ≡ length xs
put_length xs i x lt = put_there xs i x (nat_lt i (length xs)) (lt-ltb i (length xs) lt)

place_within : (r n : ℕ) → 1 ≤ r → r ≤ 3 → n ≡ 3 → r - 1 < n
place_within r n h k e = omega (arith, h, k, e)

one_within : (r n : ℕ) → IsOne r → n ≡ 3 → (1 ≤ r) × (r ≤ n)
one_within r n is e = (is.0, omega (arith, is.1, e))

at_most_there : (r n : ℕ) → 1 ≤ r → r ≤ 3 → n ≡ 3 → r - 1 ≤ n
at_most_there r n h k e = omega (arith, h, k, e)

few_packets : (r : ℕ) → r ≤ 3 → r - 1 < 32
few_packets r h = omega (arith, h)

stands_on : (most : ℕ) (world : World) (command : Command) → Stands most world → IsGood command → Stands (most + 1) (after world (line_in world command))
stands_on most world (Add r thing amount) s good = record {
  replicas = length-set world.replicas (r - 1) _ ∙ s.replicas;
  packets = s.packets;
  within = within_on most world (Add r thing amount) s.within;
}
stands_on most world (Ship r) s good = record {
  replicas = s.replicas;
  packets = put_length world.packets (r - 1) _ (place_within r (length world.packets) good.0 good.1 s.packets) ∙ s.packets;
  within = within_on most world (Ship r) s.within;
}
stands_on most world (Deliver sender r) s good = record {
  replicas = length-set world.replicas (r - 1) _ ∙ s.replicas;
  packets = s.packets;
  within = within_on most world (Deliver sender r) s.within;
}
stands_on most world (Ask r thing) s good = record { replicas = s.replicas; packets = s.packets; within = within_on most world (Ask r thing) s.within }

-- an argument that is a thing, and one that is an amount
thing_fits : (thing : ℕ) → IsNameCode thing → IsArgument sort.Name (value.Name thing)
thing_fits thing is = record { fits = tt; named = is; within = tt }

amount_fits : (amount : ℕ) → amount ≤ 1_000_000_000_000 → IsArgument sort.Nat (value.Num (pos amount))
amount_fits amount le = record { fits = omega (arith, ints); named = tt; within = le }

next_exceeds : (a : ℕ) → a < a + 1
next_exceeds a = omega arith

time_small : (a b most : ℕ) → a ≡ b → a ≤ most → most < 100_000 → b + 1 ≤ 1_000_000_000
time_small a b most e h k = omega (arith, e, h, k)

line_judged : (most : ℕ) (world : World) (command : Command) → Stands most world → most < 100_000 → IsGood command → IsJudgedLine sig world (line_in world command)
line_judged most world (Add r thing amount) s few good = (
  one_within r (length world.replicas) good.0 s.replicas,
  next_exceeds (replica_at world r).clock,
  time_small (clock_at (times_of world) r) (replica_at world r).clock most (clock_is world r) (s.within.replicas (r - 1)) few,
  (thing_fits thing good.1, (amount_fits amount good.2, tt)),
)
line_judged most world (Ship r) s few good = (
  one_within r (length world.replicas) good s.replicas,
  at_most_there r (length world.packets) good.0 good.1 s.packets,
  few_packets r good.1,
)
line_judged most world (Deliver sender r) s few good =
    (one_within r (length world.replicas) good.1 s.replicas, place_within sender (length world.packets) good.0.0 good.0.1 s.packets)
line_judged most world (Ask r thing) s few good = (one_within r (length world.replicas) good.0 s.replicas, (thing_fits thing good.1, tt))

-- good commands are judged wherever there are three replicas and three packets
record Judged (world : World) (lines : List Line) : Type 0 where
  pub judged : AreJudged sig world lines
  pub packets : length (world_after world lines).packets ≡ 3

fewer : (most n : ℕ) → most + suc n < 100_000 → most + 1 + n < 100_000
fewer most n h = omega (arith, h)

front_few : (most n : ℕ) → most + suc n < 100_000 → most < 100_000
front_few most n h = omega (arith, h)

lines_judged : (most : ℕ) (world : World) (commands : List Command) → Stands most world → most + length commands < 100_000 → AreGood commands
    → Judged world (lines_from world commands)
lines_judged most world [] s few good = record { judged = tt; packets = s.packets }
lines_judged most world (command ∷ commands) s few good =
    let rest = lines_judged (most + 1) (after world (line_in world command)) commands (stands_on most world command s good.0) (fewer most (length commands) few) good.1 in
    record {
      judged = (line_judged most world command s (front_few most (length commands) few) good.0, rest.judged);
      packets = rest.packets;
    }

-- the first three packets, and what is drawn after them
abbrev shipped : World
shipped = record { replicas = fresh ∷ fresh ∷ fresh ∷ []; packets = fresh ∷ fresh ∷ fresh ∷ [] }

shipped_stands : Stands 3 shipped
shipped_stands = record { replicas = refl; packets = refl; within = record { replicas = λ i. at_start i; packets = λ i. at_start i } } where
  at_start : (i : ℕ) → get_or (0 ∷ 0 ∷ 0 ∷ []) i 0 ≤ 3
  at_start zero = omega arith
  at_start (suc zero) = omega arith
  at_start (suc (suc zero)) = omega arith
  at_start (suc (suc (suc i))) = omega arith

-- what is drawn is good
letter_is_name : (k : ℕ) → k < 8 → list_all is_name_byte ((97 + k) ∷ []) ≡ true
letter_is_name zero lt = refl
letter_is_name (suc zero) lt = refl
letter_is_name (suc (suc zero)) lt = refl
letter_is_name (suc (suc (suc zero))) lt = refl
letter_is_name (suc (suc (suc (suc zero)))) lt = refl
letter_is_name (suc (suc (suc (suc (suc zero))))) lt = refl
letter_is_name (suc (suc (suc (suc (suc (suc zero)))))) lt = refl
letter_is_name (suc (suc (suc (suc (suc (suc (suc zero))))))) lt = refl
letter_is_name (suc (suc (suc (suc (suc (suc (suc (suc k)))))))) lt = absurd (omega (arith, lt))

thing_is_name : (k : ℕ) → k < 8 → IsNameCode (thing_of k)
thing_is_name k lt = record { name = (97 + k) ∷ []; is_name = record { short = omega arith; each = letter_is_name k lt }; coded = refl }

drawn_replica : (n : ℕ) → IsOne (n % 3 + 1)
drawn_replica n = (omega arith, omega arith)

drawn_kind : (u : ℕ) (a b c : Bool)
    → IsGood (cond a (Add (u / 8 % 3 + 1) (thing_of (u / 24 % 8)) (u / 192 % 10))
    (cond b (Ship (u / 8 % 3 + 1)) (cond c (Deliver (u / 24 % 3 + 1) (u / 8 % 3 + 1)) (Ask (u / 8 % 3 + 1) (thing_of (u / 24 % 8))))))
drawn_kind u true b c = (drawn_replica (u / 8), thing_is_name (u / 24 % 8) (omega arith), omega arith)
drawn_kind u false true c = drawn_replica (u / 8)
drawn_kind u false false true = (drawn_replica (u / 24), drawn_replica (u / 8))
drawn_kind u false false false = (drawn_replica (u / 8), thing_is_name (u / 24 % 8) (omega arith))

drawn_good : (us : List ℕ) → AreGood (map command_of us)
drawn_good [] = tt
drawn_good (u ∷ us) = (drawn_kind u (nat_lt (u % 8) 5) (u % 8 == 5) (u % 8 == 6), drawn_good us)

-- and so is the end
is_first : IsOne 1
is_first = (omega arith, omega arith)

is_second : IsOne 2
is_second = (omega arith, omega arith)

is_third : IsOne 3
is_third = (omega arith, omega arith)

ships_good : AreGood ships
ships_good = (is_first, (is_second, (is_third, tt)))

deliveries_good : (r : ℕ) → IsOne r → AreGood (deliveries_to r)
deliveries_good r is = ((is_first, is), ((is_second, is), ((is_third, is), tt)))

asks_good : (r : ℕ) → IsOne r → AreGood (asks_at r)
asks_good r is =
    let named : (k : ℕ) → k < 8 → IsOne r × IsNameCode (thing_of k) = λ k lt. (is, thing_is_name k lt) in (
      named 0 (omega arith),
      (
        named 1 (omega arith),
        (
          named 2 (omega arith),
          (
            named 3 (omega arith),
            (named 4 (omega arith), (named 5 (omega arith), (named 6 (omega arith), (named 7 (omega arith), tt)))),
          ),
        ),
      ),
    )

all_deliveries_good : AreGood (flat_map deliveries_to all_replicas)
all_deliveries_good =
    good_append (deliveries_to 1) (deliveries_to 2 ++ deliveries_to 3 ++ []) (deliveries_good 1 is_first)
    (good_append (deliveries_to 2) (deliveries_to 3 ++ []) (deliveries_good 2 is_second) (good_append (deliveries_to 3) [] (deliveries_good 3 is_third) tt))

all_asks_good : AreGood (flat_map asks_at all_replicas)
all_asks_good =
    good_append (asks_at 1) (asks_at 2 ++ asks_at 3 ++ []) (asks_good 1 is_first)
    (good_append (asks_at 2) (asks_at 3 ++ []) (asks_good 2 is_second) (good_append (asks_at 3) [] (asks_good 3 is_third) tt))

-- the commands after the first three
abbrev rest_of : ℕ → ℕ → List Command
rest_of seed lines = map command_of (draws seed lines) ++ ships ++ flat_map deliveries_to all_replicas ++ flat_map asks_at all_replicas

rest_good : (seed lines : ℕ) → AreGood (rest_of seed lines)
rest_good seed lines =
    good_append (map command_of (draws seed lines) ++ ships ++ flat_map deliveries_to all_replicas) (flat_map asks_at all_replicas)
    (good_append (map command_of (draws seed lines) ++ ships) (flat_map deliveries_to all_replicas)
    (good_append (map command_of (draws seed lines)) ships (drawn_good (draws seed lines)) ships_good) all_deliveries_good) all_asks_good

draws_length : (lines seed : ℕ) → length (draws seed lines) ≡ lines
draws_length zero seed = refl
draws_length (suc lines) seed = ap suc (draws_length lines (next seed))

rest_length : (seed lines : ℕ) → length (rest_of seed lines) ≡ lines + 36
rest_length seed lines =
    let drawn = map command_of (draws seed lines) in
    let deliveries = flat_map deliveries_to all_replicas in
    let asks = flat_map asks_at all_replicas in
    let all : length (drawn ++ ships ++ deliveries ++ asks) ≡ length (drawn ++ ships ++ deliveries) + 24 = length-append (drawn ++ ships ++ deliveries) asks in
    let three : length (drawn ++ ships ++ deliveries) ≡ length (drawn ++ ships) + 9 = length-append (drawn ++ ships) deliveries in
    let two : length (drawn ++ ships) ≡ length drawn + 3 = length-append drawn ships in
    let one : length drawn ≡ lines = length-map (draws seed lines) command_of ∙ draws_length lines seed in
    omega (arith, all, three, two, one)

lines_length : (world : World) (commands : List Command) → length (lines_from world commands) ≡ length commands
lines_length world [] = refl
lines_length world (command ∷ commands) = ap suc (lines_length (after world (line_in world command)) commands)

few_rest : (lines n : ℕ) → lines ≤ 90_000 → n ≡ lines + 36 → 3 + n < 100_000
few_rest lines n h e = omega (arith, h, e)

split : (seed lines : ℕ) → commands seed lines ≡ Ship 1 ∷ Ship 2 ∷ Ship 3 ∷ rest_of seed lines
split seed lines =
    let drawn = map command_of (draws seed lines) in
    let deliveries = flat_map deliveries_to all_replicas in
    ap (λ cs. cs ++ deliveries ++ flat_map asks_at all_replicas) (append_assoc ships drawn ships)
    ∙ ap (λ cs. cs ++ flat_map asks_at all_replicas) (append_assoc ships (drawn ++ ships) deliveries)
    ∙ append_assoc ships (drawn ++ ships ++ deliveries) (flat_map asks_at all_replicas)

judged_from : (rest : List Command) → Judged shipped (lines_from shipped rest) → Judged (first_world 3) (lines_from (first_world 3) (Ship 1 ∷ Ship 2 ∷ Ship 3 ∷ rest))
judged_from rest j = record {
  judged = (
    (is_first, omega arith, omega arith),
    (
      (is_second, omega arith, omega arith),
      (
        (is_third, omega arith, omega arith),
        j.judged,
      ),
    ),
  );
  packets = j.packets;
}

three_more : (n : ℕ) → suc (suc (suc n)) ≡ 3 + n
three_more n = omega arith

pub sample_judged : (seed lines : ℕ) → lines ≤ 90_000 → IsJudged sig (sample_script seed lines)
sample_judged seed lines h =
    let rest = rest_of seed lines in
    let few : 3 + length rest < 100_000 = few_rest lines (length rest) h (rest_length seed lines) in
    let j : Judged (first_world 3) (lines_from (first_world 3) (commands seed lines)) =
    subst (λ (cs : List Command). Judged (first_world 3) (lines_from (first_world 3) cs)) (sym (split seed lines))
    (judged_from rest (lines_judged 3 shipped rest shipped_stands few (rest_good seed lines))) in
    let count : length (lines_from (first_world 3) (commands seed lines)) ≡ 3 + length rest = lines_length (first_world 3) (commands seed lines) ∙ ap length (split seed lines) ∙ three_more (length rest) in
    record {
      some_replica = omega arith;
      few_replicas = omega arith;
      packets = sym j.packets;
      few_lines = omega (arith, few, count);
      lines = j.judged;
    }

-- how many commands there are
pub commands_few : (seed lines : ℕ) → lines ≤ 90_000 → length (commands seed lines) ≤ 100_000
commands_few seed lines h =
    let e : length (commands seed lines) ≡ 3 + length (rest_of seed lines) = ap length (split seed lines) ∙ three_more (length (rest_of seed lines)) in
    omega (arith, e, h, rest_length seed lines)
