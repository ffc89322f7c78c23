-- Runs of bytes at a place of a text.
use Rattle.std.proofs.Common.{◌≡◌, ℕ, zero, suc, ◌+◌, ◌-◌, ◌<◌, ◌≤◌, Bool, true, false, List, [], ◌∷◌, ◌++◌, length, drop, take, get_or, refl, sym, ◌∙◌, ap, subst, arith, length-drop, length-append, take-append-drop}
use Rattle.std.proofs.lemmas.List.{get_or-drop, get_or_append_left, length-take-le}
use Rattle.std.proofs.Math.Seq.{drop-append-add, drop-append_seam, take-append_seam}
use Rattle.std.specs.Prelude.{◌&&◌, slice_range}
use Rattle.std.specs.List.{list_all}
use Rattle.kat_lex.specs.Classes.{byte_at}
use Rattle.kat_lex.specs.Pieces.{IsRun}

drop_sum : (at n : ℕ) (text : List ℕ) → at ≤ length text → drop (at + n) text ≡ drop n (drop at text)
drop_sum at n text within =
    ap (λ (l : List ℕ). drop (at + n) l) (sym (take-append-drop at text))
    ∙ ap (λ k. drop (k + n) (take at text ++ drop at text)) (sym (length-take-le at text within))
    ∙ drop-append-add (take at text) (drop at text) n

pub next_left : (text : List ℕ) (at : ℕ) (xs rest : List ℕ) → at ≤ length text → drop at text ≡ xs ++ rest → drop (at + length xs) text ≡ rest
next_left text at xs rest within e = drop_sum at (length xs) text within ∙ ap (λ (l : List ℕ). drop (length xs) l) e ∙ drop-append_seam xs rest

pub next_within : (text : List ℕ) (at : ℕ) (xs rest : List ℕ) → at ≤ length text → drop at text ≡ xs ++ rest → at + length xs ≤ length text
next_within text at xs rest within e =
    let n = length-drop at text in
    let m : length (drop at text) ≡ length (xs ++ rest) = ap length e in
    let k = length-append xs rest in
    omega (arith, n, m, k)

pub byte_there : (text : List ℕ) (at : ℕ) (xs : List ℕ) (k : ℕ) → drop at text ≡ xs → byte_at text (at + k) ≡ get_or xs k 0
byte_there text at xs k e = sym (get_or-drop at text k 0) ∙ ap (λ (l : List ℕ). get_or l k 0) e

pub byte_here : (text : List ℕ) (at : ℕ) (xs : List ℕ) → drop at text ≡ xs → byte_at text at ≡ get_or xs 0 0
byte_here text at xs e = ap (λ k. byte_at text k) (plus_none at) ∙ byte_there text at xs 0 e where
  plus_none : (n : ℕ) → n ≡ n + 0
  plus_none n = omega arith

pub both_true : (a b : Bool) → (a && b) ≡ true → (a ≡ true) × (b ≡ true)
both_true true true e = (refl, refl)
both_true true false e = absurd cc
both_true false b e = absurd cc

pub passes_at : (passes : ℕ → Bool) (xs : List ℕ) (k : ℕ) → list_all passes xs ≡ true → k < length xs → passes (get_or xs k 0) ≡ true
passes_at passes [] k e h = absurd (omega (arith, h))
passes_at passes (x ∷ xs) zero e h = (both_true (passes x) (list_all passes xs) e).0
passes_at passes (x ∷ xs) (suc k) e h = passes_at passes xs k (both_true (passes x) (list_all passes xs) e).1 (omega (arith, h))

pub run_is : (passes : ℕ → Bool) (text : List ℕ) (at : ℕ) (xs rest : List ℕ) → at ≤ length text → drop at text ≡ xs ++ rest → list_all passes xs ≡ true
    → passes (get_or rest 0 0) ≡ false → IsRun passes text at (at + length xs)
run_is passes text at xs rest within e all stops = record {
  ordered = omega arith;
  within = next_within text at xs rest within e;
  each = λ place low high.
      let there : at + (place - at) ≡ place = omega (arith, low) in
      let inside : place - at < length xs = omega (arith, low, high) in
      subst (λ k. passes (byte_at text k) ≡ true) there
      (subst (λ byte. passes byte ≡ true) (sym (byte_there text at (xs ++ rest) (place - at) e ∙ get_or_append_left xs rest 0 (place - at) inside))
      (passes_at passes xs (place - at) all inside));
  longest = λ h. subst (λ byte. passes byte ≡ false) (sym (byte_here text (at + length xs) rest (next_left text at xs rest within e))) stops;
}

pub slice_is : (text : List ℕ) (at : ℕ) (xs rest : List ℕ) → drop at text ≡ xs ++ rest → slice_range text at (at + length xs) ≡ xs
slice_is text at xs rest e =
    ap (λ n. take n (drop at text)) (less at (length xs)) ∙ ap (λ (l : List ℕ). take (length xs) l) e ∙ take-append_seam xs rest where
      less : (a n : ℕ) → a + n - a ≡ n
      less a n = omega arith

pub inside_text : (text : List ℕ) (at : ℕ) (xs rest : List ℕ) → at ≤ length text → drop at text ≡ xs ++ rest → 0 < length xs → at < length text
inside_text text at xs rest within e some = let h = next_within text at xs rest within e in omega (arith, h, some)
