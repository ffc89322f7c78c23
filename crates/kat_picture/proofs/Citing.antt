-- The lines of a report, and the script of a history.
use Rattle.std.proofs.Common.{◌≡◌, ◌∙◌, ℕ, ◌+◌, ◌-◌, ◌<◌, ◌≤◌, List, [], ◌∷◌, ◌++◌, length, take, drop, ap, arith, subst, sym}
use Rattle.std.specs.List.{position_or_len}
use Rattle.std.specs.Prelude.{◌==◌, codes, map}
use Rattle.std.proofs.lemmas.List.{length-drop, take_all}
use Rattle.std.proofs.lemmas.List.Splits.{slice_split_first, slice_split_none}
use Rattle.std.proofs.lemmas.List.Sums.{fails_before_first}
use Rattle.kat_picture.specs.Histories.{lines_of, script_byte, script_of}

all_behind : (n : ℕ) (text : List ℕ) → take (length text - n) (drop n text) ≡ drop n text
all_behind n text = let e = length-drop n text in take_all (length text - n) (drop n text) (omega (arith, e))

-- the text has a newline where its first line ends
pub cut_here : (text : List ℕ) (end : ℕ) → end ≡ position_or_len (λ byte. byte == 10) text → end < length text
    → lines_of text ≡ take end text ∷ lines_of (take (length text - (end + 1)) (drop (end + 1) text))
cut_here text end is lt =
    subst (λ n. lines_of text ≡ take n text ∷ lines_of (drop (n + 1) text)) (sym is)
    (slice_split_first (λ byte. byte == 10) text 0 (subst (λ n. n < length text) is lt))
    ∙ ap (λ (behind : List ℕ). take end text ∷ lines_of behind) (sym (all_behind (end + 1) text))

before_end : (k l n : ℕ) → k < l → l ≤ n → k < n
before_end k l n lt le = omega arith

-- it has none
pub cut_none : (text : List ℕ) (end : ℕ) → end ≡ position_or_len (λ byte. byte == 10) text → length text ≤ end → lines_of text ≡ text ∷ []
cut_none text end is past =
    slice_split_none (λ byte. byte == 10) text
    (λ k d lt. fails_before_first (λ byte. byte == 10) text k d
    (before_end k (length text) (position_or_len (λ byte. byte == 10) text) lt (subst (λ n. length text ≤ n) is past)))

-- the script of operations, which were gone through to their end
pub scripted : (operations front whole : List ℕ) (n : ℕ) → length operations ≤ n → front ≡ codes "replicas 2\n" ++ map script_byte (take n operations)
    → whole ≡ front ++ codes "\nship 1 one\nship 2 two\ndeliver one 2\ndeliver two 1\n" → whole ≡ script_of operations
scripted operations front whole n all has adds =
    adds
    ∙ ap (λ (text : List ℕ). text ++ codes "\nship 1 one\nship 2 two\ndeliver one 2\ndeliver two 1\n")
    (has ∙ ap (λ (done : List ℕ). codes "replicas 2\n" ++ map script_byte done) (take_all n operations all))
