-- The rules that a line of a script with deltas has to keep, given the lines before it: those of scripts, with a delta judged as a line
-- that ships, and then two for the counts of operations.
use Rattle.std.specs.Prelude.{ℕ, Option, None, Some, List, nat_lt, if◌then◌else◌}
use Rattle.std.specs.List.{slice_index_or}
use Rattle.kat_script.specs.Rules.{Known, first_broken, packet_of}
use Rattle.kat_script.specs.Script.{Place, known_at, refusal_of}
use Rattle.kat_script.specs.World.{replica_at}
use Rattle.kat_script.specs.declared.rules.Rule.{Rule}
use Rattle.kat_script.specs.declared.said.Said.{Said}
use Rattle.kat_script.specs.declared.said.Said.TheVariants.{Delivers, Ships}
use Rattle.kat_type.specs.declared.signatures.Signature.{Signature}
use Rattle.kat_delta.specs.Standing.{count_of}
use Rattle.kat_delta.specs.Worlds.{DeltaWorld, Made}
use Rattle.kat_delta_script.specs.declared.error.DeltaScriptError.{DeltaScriptError}
use Rattle.kat_delta_script.specs.declared.error.DeltaScriptError.TheVariants.{Script, NoCount, Gap}
use Rattle.kat_delta_script.specs.declared.statement.Statement.{Statement}

-- a place in a script with deltas: the number of the line there, counted over all lines of the text from 1; how many lines
-- before it weren't blank; the words of the packets so far; and the world before it
pub record DeltaPlace : Type 0 where
  pub number : ℕ
  pub lines : ℕ
  pub words : List ℕ
  pub w : DeltaWorld

-- what a script without deltas knows there
abbrev pub plain_place : DeltaPlace → Place
plain_place place = record { number = place.number; lines = place.lines; words = place.words; world = place.w.world }

abbrev pub known_there : DeltaPlace → Known
known_there place = known_at (plain_place place)

-- how many operations of an origin a replica absorbed
abbrev pub count_there : DeltaWorld → ℕ → ℕ → ℕ
count_there w r origin = count_of origin (replica_at w.world r).absorbed

-- a delta is from no more operations than its replica did so far
abbrev pub no_count : ℕ → ℕ → ℕ → Option DeltaScriptError
no_count number did from = if nat_lt did from then Some (NoCount number) else None

abbrev pub gap_of : ℕ → ℕ → ℕ → ℕ → Option DeltaScriptError
gap_of number origin have need = if nat_lt have need then Some (Gap number origin have need) else None

-- a delta is delivered only if at least as many operations of its origin are absorbed as it begins after
abbrev pub gap : ℕ → (ℕ → ℕ) → Option Made → Option DeltaScriptError
gap number count None = None
gap number count (Some made) = gap_of number made.origin (count made.origin) made.from

-- how counts refuse a line, if these are the counts of a replica, and a packet was made so
abbrev pub refused_by_counts : ℕ → (ℕ → ℕ → ℕ) → Option Made → Said → Option ℕ → Option DeltaScriptError
refused_by_counts number count made (Ships r packet) (Some from) = no_count number (count r r) from
refused_by_counts number count made (Delivers packet r) None = gap number (count r) made
refused_by_counts number count made said from = None

-- how the packet that a line names was made
abbrev pub made_in : DeltaPlace → Said → Option Made
made_in place (Delivers packet r) = slice_index_or place.w.made (packet_of (known_there place) packet) None
made_in place said = None

abbrev pub counts_refuse : DeltaPlace → Statement → Option DeltaScriptError
counts_refuse place statement = refused_by_counts place.number (count_there place.w) (made_in place statement.said) statement.said statement.from

abbrev pub refused_first : DeltaPlace → Statement → Option Rule → Option DeltaScriptError
refused_first place statement (Some rule) = Some (Script (refusal_of place.number (known_there place) statement.said rule))
refused_first place statement None = counts_refuse place statement

-- the refusal of a line by the first rule that it breaks, in the order of their numbers
abbrev pub first_refusal : Signature → DeltaPlace → Statement → Option DeltaScriptError
first_refusal sig place statement = refused_first place statement (first_broken sig (known_there place) statement.said)
