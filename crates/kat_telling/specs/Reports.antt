-- The text of a report.
use Rattle.std.specs.Prelude.{ℕ, ◌+◌, ℤ, Bool, true, false, List, [], ◌∷◌, ◌++◌, codes, length}
use Rattle.std.specs.Fmt.{signed_decimal}
use Rattle.std.specs.List.{flat_map}
use Rattle.kat_type.specs.declared.done.Done.{Done}
use Rattle.kat_type.specs.declared.signatures.Signature.{Signature}
use Rattle.kat_design.specs.Designs.{DesignForm}
use Rattle.kat_hist.specs.Scripts.{args_text, number_text, op_name}
use Rattle.kat_histories.specs.declared.histories.History.{History}
use Rattle.kat_design_json.specs.PrintedDesigns.{design_text}
use Rattle.kat_drop.specs.Certificates.{DropForm, PointForm}
use Rattle.kat_candidate.specs.declared.places.Place1.{Place1}
use Rattle.kat_candidate.specs.declared.places.Place1.TheVariants.{Start, Step, Query}
use Rattle.kat_telling.specs.Entries.{Entry, Told, nothing_told, told_behind}
use Rattle.kat_telling.specs.Entries.Entry.{again, newly, undecided}
use Rattle.kat_telling.specs.Evidence.{Ending, Evidence}
use Rattle.kat_telling.specs.Evidence.Ending.{fails, is_crowded, is_long, is_spent, is_wide}

-- `do R OP ARGS at T`
abbrev pub done_text : Signature → Done → List ℕ
done_text sig done = number_text (codes "do ") done.replica (codes " ") ++ op_name sig done.op ++ args_text done.args ++ number_text (codes " at ") done.time []

-- a further one
abbrev pub further_text : Signature → Done → List ℕ
further_text sig done = codes "; " ++ done_text sig done

-- operations after a blank, with `; ` between each two
abbrev pub dones_text : Signature → List Done → List ℕ
dones_text sig [] = []
dones_text sig (done ∷ more) = codes " " ++ done_text sig done ++ flat_map (further_text sig) more

-- `history H:` and its operations
abbrev pub history_line : Signature → ℕ → History → List ℕ
history_line sig number history = number_text (codes "history ") number (codes ":") ++ dones_text sig history.ops ++ codes "\n"

-- `design K differs H DESIGN`
abbrev pub differs_line : ℕ → ℕ → DesignForm → List ℕ
differs_line number history d = number_text (codes "design ") number (codes " differs ") ++ number_text [] history (codes " ") ++ design_text d ++ codes "\n"

-- `start J`, `step O J` or `query Q`
abbrev pub place_text : Place1 → List ℕ
place_text (Start conjunct) = number_text (codes "start ") conjunct []
place_text (Step op conjunct) = number_text (codes "step ") op (codes " ") ++ number_text [] conjunct []
place_text (Query query) = number_text (codes "query ") query []

-- whole numbers, each after a blank
abbrev pub behind_blank : ℤ → List ℕ
behind_blank z = 32 ∷ signed_decimal z

abbrev pub wholes_text : List ℤ → List ℕ
wholes_text zs = flat_map behind_blank zs

-- truth values as 0 or 1, each after a blank
abbrev pub bit_text : Bool → List ℕ
bit_text true = codes " 1"
bit_text false = codes " 0"

-- the denominator, the numerators and the truth values: `D; N N; T T`
abbrev pub point_text : PointForm → List ℕ
point_text point = signed_decimal point.den ++ codes ";" ++ wholes_text point.nums ++ codes ";" ++ flat_map bit_text point.truths

-- `drop PLACE at POINT`
abbrev pub drop_line : DropForm → List ℕ
drop_line drop = codes "drop " ++ place_text drop.at ++ codes " at " ++ point_text drop.point ++ codes "\n"

-- ` P M R LITS`, and ` A B LITS`
abbrev pub crowd_text : ℕ → ℕ → ℕ → List ℤ → List ℕ
crowd_text plus minus rest lits = number_text (codes " ") plus (codes " ") ++ number_text [] minus (codes " ") ++ number_text [] rest [] ++ wholes_text lits ++ codes "\n"

abbrev pub width_text : ℤ → ℤ → List ℤ → List ℕ
width_text left right lits = behind_blank left ++ behind_blank right ++ wholes_text lits ++ codes "\n"

-- `fail query Q at POINT`, `spent PLACE`, `rows PLACE P M R LITS`, `wide PLACE A B LITS` or `long BYTES`
abbrev pub ending_line : Ending → List ℕ
ending_line (fails query point) = number_text (codes "fail query ") query (codes " at ") ++ point_text point ++ codes "\n"
ending_line (is_spent place) = codes "spent " ++ place_text place ++ codes "\n"
ending_line (is_crowded place plus minus rest lits) = codes "rows " ++ place_text place ++ crowd_text plus minus rest lits
ending_line (is_wide place left right lits) = codes "wide " ++ place_text place ++ width_text left right lits
ending_line (is_long bytes) = number_text (codes "long ") bytes (codes "\n")

-- what is reported of an undecided design: `design K undecided DESIGN`, a line for each candidate that was dropped, and one line
-- that says how it ended
abbrev pub undecided_block : ℕ → DesignForm → Evidence → List ℕ
undecided_block number d evidence =
    number_text (codes "design ") number (codes " undecided ") ++ design_text d ++ codes "\n" ++ flat_map drop_line evidence.drops ++ ending_line evidence.ending

-- What is reported of a design, after what was told before: a history that is cited for the first time comes before the design.
abbrev pub entry_text : Signature → Told → Entry → List ℕ
entry_text sig told (again d place) = differs_line (told.count + 1) (place + 1) d
entry_text sig told (newly d history) = history_line sig (length told.cited + 1) history ++ differs_line (told.count + 1) (length told.cited + 1) d
entry_text sig told (undecided d evidence) = undecided_block (told.count + 1) d evidence

abbrev pub entries_text : Signature → Told → List Entry → List ℕ
entries_text sig told [] = []
entries_text sig told (e ∷ es) = entry_text sig told e ++ entries_text sig (told_behind told e) es

-- what is reported of the first designs of a listing
abbrev pub told_text : Signature → List Entry → List ℕ
told_text sig entries = entries_text sig nothing_told entries

-- the last line of a report: `none up to N`, `undecided up to N` or `stopped after D up to N`
abbrev pub none_line : ℕ → List ℕ
none_line size = number_text (codes "none up to ") size (codes "\n")

abbrev pub undecided_line : ℕ → List ℕ
undecided_line size = number_text (codes "undecided up to ") size (codes "\n")

abbrev pub stopped_line : ℕ → ℕ → List ℕ
stopped_line tried size = number_text (codes "stopped after ") tried (codes " up to ") ++ number_text [] size (codes "\n")
