-- The commands of a script, as they are drawn.
use Rattle.std.specs.Prelude.{ℕ, ◌+◌, ◌/◌, ◌%◌, ◌==◌, nat_lt, List, [], ◌∷◌, ◌++◌, map, if◌then◌else◌}
use Rattle.std.specs.List.{flat_map, range_with_len}
use Rattle.kat_num.specs.Names.{code_of}
use Rattle.kat_sample.specs.Draws.{draws}
use Rattle.kat_sample.specs.declared.commands.Command.{Command}
use Rattle.kat_sample.specs.declared.commands.Command.TheVariants.{Add, Ship, Deliver, Ask}

-- the replica at which a command happens
abbrev pub replica_of : Command → ℕ
replica_of (Add replica thing amount) = replica
replica_of (Ship replica) = replica
replica_of (Deliver sender replica) = replica
replica_of (Ask replica thing) = replica

-- the thing with this number, by the code of its name: a letter, from `a` on
abbrev pub thing_of : ℕ → ℕ
thing_of number = code_of ((97 + number) ∷ [])

-- The command that is drawn with a number: of eight five add, one ships, one delivers and one asks. There are three replicas,
-- numbered from 1, and eight things, and amounts are 0 to 9.
abbrev pub command_of : ℕ → Command
command_of u =
    if nat_lt (u % 8) 5 then Add (u / 8 % 3 + 1) (thing_of (u / 24 % 8)) (u / 192 % 10)
    else if u % 8 == 5 then Ship (u / 8 % 3 + 1)
    else if u % 8 == 6 then Deliver (u / 24 % 3 + 1) (u / 8 % 3 + 1)
    else Ask (u / 8 % 3 + 1) (thing_of (u / 24 % 8))

abbrev pub all_replicas : List ℕ
all_replicas = 1 ∷ 2 ∷ 3 ∷ []

-- each replica ships
abbrev pub ships : List Command
ships = map Ship all_replicas

-- what each replica shipped is delivered to one
abbrev pub deliveries_to : ℕ → List Command
deliveries_to replica = map (λ sender. Deliver sender replica) all_replicas

-- a replica is asked for every count
abbrev pub asks_at : ℕ → List Command
asks_at replica = map (λ number. Ask replica (thing_of number)) (range_with_len 0 8)

-- all commands of a script: this many are drawn, and at the end each replica absorbs what all of them did and is asked for
-- every count
abbrev pub commands : ℕ → ℕ → List Command
commands seed lines =
    ships ++ map command_of (draws seed lines) ++ ships ++ flat_map deliveries_to all_replicas ++ flat_map asks_at all_replicas
