-- Pieces, texts and files, one after the other.
use Rattle.std.proofs.Common.{◌≡◌, ℕ, zero, suc, ◌<◌, List, [], ◌∷◌, ◌++◌, All, IsUtf8, append-nil, arith, drop, get_or, length, map, refl, sym, ap, ◌∙◌}
use Rattle.kat_passed.specs.Passing.{files_said}

-- all pieces but the first
pub all_but_first : {A : Type 0} (say : A → List ℕ) (said rest : List A) (whole : List (List ℕ)) → map say said ≡ whole → rest ≡ drop 1 said
    → map say rest ≡ drop 1 whole
all_but_first say [] rest whole is behind_is = ap (map say) behind_is ∙ ap (drop 1) is
all_but_first say (p ∷ said) rest whole is behind_is = ap (map say) behind_is ∙ ap (drop 1) is

-- a piece that isn't text
pub not_all_text : {A : Type 0} (say : A → List ℕ) (said : List A) (i : ℕ) (d : A) → i < length said → (IsUtf8 (say (get_or said i d)) → ⊥)
    → All IsUtf8 (map say said) → ⊥
not_all_text say [] i d lt bad all = absurd (omega (arith, lt))
not_all_text say (p ∷ said) zero d lt bad all = bad (all zero (say d) (omega arith))
not_all_text say (p ∷ said) (suc i) d lt bad all = not_all_text say said i d (omega (arith, lt)) bad (λ k e l. all (suc k) e (omega (arith, l)))

-- no file without a length
pub files_end : (names : List (List ℕ)) (bytes : List ℕ) → files_said names [] bytes ≡ []
files_end [] bytes = refl
files_end (name ∷ names) bytes = refl

-- where the lengths end there are no more files
pub files_whole : (names : List (List ℕ)) (counts rest : List ℕ) (files all : List (List ℕ × List ℕ)) → counts ≡ []
    → files ++ files_said names counts rest ≡ all → files ≡ all
files_whole names counts rest files all none before =
    sym (append-nil files)
    ∙ sym (ap (λ (left : List (List ℕ × List ℕ)). files ++ left) (ap (λ (c : List ℕ). files_said names c rest) none ∙ files_end names rest))
    ∙ before
