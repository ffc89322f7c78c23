-- What a step of a enumeration leaves to be found.
use Rattle.std.proofs.Common.{◌≡◌, ℕ, suc, ◌+◌, ◌-◌, ◌<◌, ◌≤◌, List, [], ◌++◌, drop, refl, sym, ◌∙◌, ap, arith, Option, None, Some}
use Rattle.std.proofs.Math.Seq.{drop-nil}
use Rattle.std.proofs.lemmas.List.{drop-drop}
use Rattle.kat_gram.specs.Enumerations.{Enumerated, IsFound, stream_of, passed, with_found, words_behind, words_of_size}
use Rattle.kat_rules.specs.declared.constants.Setting.{Setting}
use Rattle.kat_rules.specs.declared.tokens.Token.{Token}

behind_more : (x : Setting) (n most : ℕ) → n < most → words_behind x n (most - n) ≡ words_of_size x (n + 1) ++ words_behind x (n + 1) (most - (n + 1))
behind_more x n most l =
    let e : most - n ≡ suc (most - (n + 1)) = omega (arith, l) in
    let f : suc n ≡ n + 1 = omega arith in
    ap (words_behind x n) e ∙ ap (λ (k : ℕ). words_of_size x k ++ words_behind x k (most - (n + 1))) f

-- the next size begins
pub next_size : (x : Setting) (n most : ℕ) (found : Option (List Token)) (old new : List (List Token)) → n < most → old ≡ [] → new ≡ words_of_size x (n + 1)
    → stream_of x most (with_found found (new ++ words_behind x (n + 1) (most - (n + 1)))) ≡ stream_of x most (with_found found (old ++ words_behind x n (most - n)))
next_size x n most found old new l e f =
    ap (λ (ws : List (List Token)). stream_of x most (with_found found ws))
    (ap (λ (ws : List (List Token)). ws ++ words_behind x (n + 1) (most - (n + 1))) f ∙ sym (behind_more x n most l) ∙ ap (λ (ws : List (List Token)). ws ++ words_behind x n (most - n)) (sym e))

-- the first size begins
pub first_size : (x : Setting) (most : ℕ) (new : List (List Token)) → 1 ≤ most → new ≡ words_of_size x 1 → stream_of x most (new ++ words_behind x 1 (most - 1)) ≡ stream_of x most (words_behind x 0 most)
first_size x most new l e =
    ap (stream_of x most)
    (ap (λ (ws : List (List Token)). ws ++ words_behind x 1 (most - 1)) e ∙ ap (λ (k : ℕ). words_behind x 0 k) (one_more most l))
  where
    one_more : (most : ℕ) → 1 ≤ most → suc (most - 1) ≡ most
    one_more most l = omega (arith, l)

-- a list is passed
pub one_passed : (x : Setting) (most : ℕ) (found : Option (List Token)) (rest : List (List Token)) → IsFound found (with_found found rest) → stream_of x most rest ≡ passed 1 (stream_of x most (with_found found rest))
one_passed x most None rest h = ap (stream_of x most) h ∙ ap (λ (ws : List (List Token)). stream_of x most (drop 1 ws)) (sym h)
one_passed x most (Some w) rest h = refl

pub passed_on : (n k : ℕ) (g : Enumerated) → passed n (passed k g) ≡ passed (k + n) g
passed_on n k g = ap (λ (ws : List (List Token)). record { setting = g.setting; words = g.words; left = ws }) (drop-drop n k g.left)

pub passed_more : (n : ℕ) (g : Enumerated) → passed 1 (passed n g) ≡ passed (n + 1) g
passed_more n g = ap (λ (ws : List (List Token)). record { setting = g.setting; words = g.words; left = ws }) (drop-drop 1 n g.left)

-- if none is left, more can't be passed
pub all_passed : (n k : ℕ) (g h : Enumerated) → k ≤ n → h ≡ passed k g → h.left ≡ [] → h ≡ passed n g
all_passed n k g h le is none =
    let there : passed (n - k) h ≡ h = ap (λ (ws : List (List Token)). record { setting = h.setting; words = h.words; left = ws }) (ap (drop (n - k)) none ∙ drop-nil (n - k) ∙ sym none) in
    let sum : k + (n - k) ≡ n = omega arith in
    sym there ∙ ap (passed (n - k)) is ∙ passed_on (n - k) k g ∙ ap (λ (m : ℕ). passed m g) sum
