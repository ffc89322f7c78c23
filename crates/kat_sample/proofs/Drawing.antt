-- One draw more.
use Rattle.std.proofs.Common.{◌≡◌, ℕ, suc, ◌+◌, ◌-◌, ◌<◌, ◌≤◌, List, [], ◌∷◌, ◌++◌, sym, ◌∙◌, ap, arith, append_assoc, append-nil}
use Rattle.std.specs.Prelude.{map}
use Rattle.kat_sample.specs.Commands.{command_of}
use Rattle.kat_sample.specs.Draws.{drawn, draws, next}
use Rattle.kat_sample.specs.declared.commands.Command.{Command}

one_left : (lines i : ℕ) → i < lines → lines - i ≡ suc (lines - (i + 1))
one_left lines i lt = omega (arith, lt)

none_left : (lines i : ℕ) → lines ≤ i → lines - i ≡ 0
none_left lines i le = omega (arith, le)

-- what was drawn, and what is still to be drawn, is all
pub drawn_on : (all all' old : List Command) (seed lines x x' i : ℕ) → i < lines
    → all ++ map command_of (draws x (lines - i)) ≡ old ++ map command_of (draws seed lines)
    → x' ≡ next x → all' ≡ all ++ command_of (drawn x') ∷ []
    → all' ++ map command_of (draws x' (lines - (i + 1))) ≡ old ++ map command_of (draws seed lines)
drawn_on all all' old seed lines x x' i lt before is pushed =
    ap (λ cs. cs ++ map command_of (draws x' (lines - (i + 1)))) pushed
    ∙ append_assoc all (command_of (drawn x') ∷ []) (map command_of (draws x' (lines - (i + 1))))
    ∙ ap (λ y. all ++ command_of (drawn y) ∷ map command_of (draws y (lines - (i + 1)))) is
    ∙ ap (λ n. all ++ map command_of (draws x n)) (sym (one_left lines i lt))
    ∙ before

pub drawn_all : (all old : List Command) (seed lines x i : ℕ) → lines ≤ i
    → all ++ map command_of (draws x (lines - i)) ≡ old ++ map command_of (draws seed lines) → all ≡ old ++ map command_of (draws seed lines)
drawn_all all old seed lines x i le before =
    sym (append-nil all) ∙ ap (λ n. all ++ map command_of (draws x n)) (sym (none_left lines i le)) ∙ before
