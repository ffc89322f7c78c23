-- What is said of texts is said of the rooms that they are passed to.
use Rattle.std.proofs.Common.{◌≡◌, ℕ, ◌<◌, List, arith, subst, sym}

pub said_in_rooms : (Says : ℕ → List ℕ → List ℕ → Type 0) (code code' : ℕ) (written written' line line' : List ℕ) → code' ≡ code
    → written' ≡ written → line' ≡ line → Says code written line → Says code' written' line'
said_in_rooms Says code code' written written' line line' code_is written_is line_is says =
    subst (λ (c : ℕ). Says c written' line') (sym code_is)
    (subst (λ (w : List ℕ). Says code w line') (sym written_is) (subst (λ (l : List ℕ). Says code written l) (sym line_is) says))

-- a code that is such a number
pub below : (code number : ℕ) → code ≡ number → number < 10 → code < 10
below code number is lt = omega (arith, is, lt)
