-- The line that sums a script up.
use Rattle.std.specs.Prelude.{ℕ, ℤ, pos, ◌+ℤ◌, List, [], ◌∷◌, ◌++◌, codes, length}
use Rattle.std.specs.Fmt.{decimal, signed_decimal}
use Rattle.kat_expr.specs.Evaluation.{number_of}
use Rattle.kat_num.specs.declared.values.Value.{Value}
use Rattle.kat_script.specs.Facts.{done_in}
use Rattle.kat_script.specs.declared.script.Script.{Script}

-- the sum of the numbers among answers
abbrev pub total_of : List Value → ℤ
total_of [] = pos 0
total_of (value ∷ values) = number_of value +ℤ total_of values

-- `operations O asks A total C`: how many operations the script does, how many answers there are, one for each ask, and the sum of
-- all answers
abbrev pub summary_text : Script → List Value → List ℕ
summary_text script answers =
    codes "operations " ++ decimal (length (done_in script.lines)) ++ codes " asks " ++ decimal (length answers) ++ codes " total "
    ++ signed_decimal (total_of answers) ++ codes "\n"
