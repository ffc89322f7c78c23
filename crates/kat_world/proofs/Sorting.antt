-- The operations of lines, one line after the other.
use Rattle.std.proofs.Common.{◌≡◌, ℕ, zero, suc, ◌<◌, List, [], ◌∷◌, ◌++◌, length, get_or, take, sym, ◌∙◌, ap, arith}
use Rattle.kat_script.specs.Facts.{done_in}
use Rattle.kat_script.specs.declared.script.Line.{Line}
use Rattle.kat_script.specs.declared.script.Line.TheVariants.{Do, Ship, Deliver, Ask, Show}
use Rattle.kat_type.specs.declared.done.Done.{Done}

-- what one line more does
pub done_next : (lines : List Line) (i n : ℕ) (line : Line) → n ≡ suc i → i < length lines → line ≡ get_or lines i line
    → done_in (take n lines) ≡ done_in (take i lines) ++ done_in (line ∷ [])
done_next lines i n line m h e = ap (λ (k : ℕ). done_in (take k lines)) m ∙ done_more lines i line h e where
  done_more : (lines : List Line) (i : ℕ) (line : Line) → i < length lines → line ≡ get_or lines i line
      → done_in (take (suc i) lines) ≡ done_in (take i lines) ++ done_in (line ∷ [])
  done_more [] i line h e = absurd (omega arith)
  done_more (x ∷ lines) zero line h e = ap (λ (l : Line). done_in (l ∷ [])) (sym e)
  done_more (Do done ∷ lines) (suc i) line h e = ap (λ (dones : List Done). done ∷ dones) (done_more lines i line (omega arith) e)
  done_more (Ship r p ∷ lines) (suc i) line h e = done_more lines i line (omega arith) e
  done_more (Deliver p r ∷ lines) (suc i) line h e = done_more lines i line (omega arith) e
  done_more (Ask r q args ∷ lines) (suc i) line h e = done_more lines i line (omega arith) e
  done_more (Show r ∷ lines) (suc i) line h e = done_more lines i line (omega arith) e
