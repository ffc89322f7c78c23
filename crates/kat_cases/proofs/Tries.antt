-- One more literal of a leaf's path is tried.
use Rattle.std.proofs.Common.{◌≡◌, ℕ, ◌+◌, ◌<◌, ℤ, pos, List, [], ◌∷◌, ◌++◌, length, take, get_or, reverse, Bool, true, false, IsTrue, sym, ap, ◌∙◌, subst, arith}
use Rattle.std.proofs.lemmas.Bool.{false≢true}
use Rattle.std.proofs.lemmas.List.{take_more, reverse-append, take_all}
use Rattle.kat_cases.specs.Nodes.{denies}
use Rattle.kat_cases.specs.Walks.{Shrinks}
use Rattle.kat_cases.specs.Walks.Shrinks.{done, left_out, kept}

-- what is left to be tried gives what the whole gives
abbrev pub GoesBack : List (List ℤ) → List ℤ → ℕ → List ℤ → Type 0
GoesBack clauses path n stay = (core : List ℤ) → Shrinks clauses (reverse (take n path)) stay core → Shrinks clauses (reverse path) [] core

tried : (path : List ℤ) (i n : ℕ) → i < length path → n ≡ i + 1 → reverse (take n path) ≡ get_or path i (pos 0) ∷ reverse (take i path)
tried path i n h e =
    ap (λ k. reverse (take k path)) e ∙ ap reverse (take_more path i (pos 0) h) ∙ reverse-append (take i path) (get_or path i (pos 0) ∷ [])

pub tries_out : (clauses : List (List ℤ)) (path : List ℤ) (i n : ℕ) (stay xs : List ℤ) (b : Bool) → i < length path → n ≡ i + 1 → (IsTrue b → denies clauses (reverse (take i path) ++ xs)) → xs ≡ stay → b ≡ true → GoesBack clauses path n stay → GoesBack clauses path i stay
tries_out clauses path i n stay xs b h e decides same is before core rest =
    let P : List ℤ → Type 0 = λ r. Shrinks clauses r stay core in
    let Q : List ℤ → Type 0 = λ x. denies clauses (reverse (take i path) ++ x) in
    before core (subst P (sym (tried path i n h e)) (left_out (subst Q same (decides is)) rest))

pub tries_kept : (clauses : List (List ℤ)) (path : List ℤ) (i n : ℕ) (stay xs new : List ℤ) (x : ℤ) (b : Bool) → i < length path → n ≡ i + 1 → (denies clauses (reverse (take i path) ++ xs) → IsTrue b) → xs ≡ stay → b ≡ false → x ≡ get_or path i (pos 0) → new ≡ stay ++ x ∷ [] → GoesBack clauses path n stay → GoesBack clauses path i new
tries_kept clauses path i n stay xs new x b h e decides same is at push before core rest =
    let P : List ℤ → Type 0 = λ r. Shrinks clauses r stay core in
    let Q : List ℤ → Type 0 = λ y. denies clauses (reverse (take i path) ++ y) in
    let R : List ℤ → Type 0 = λ y. Shrinks clauses (reverse (take i path)) y core in
    before core (subst P (sym (tried path i n h e)) (kept (λ d. false≢true (sym is ∙ decides (subst Q (sym same) d))) (subst R (push ∙ ap (λ y. stay ++ y ∷ []) at) rest)))

pub tried_all : (clauses : List (List ℤ)) (path : List ℤ) (n : ℕ) (stay : List ℤ) → n ≡ 0 → GoesBack clauses path n stay → Shrinks clauses (reverse path) [] stay
tried_all clauses path n stay e before =
    let P : ℕ → Type 0 = λ k. Shrinks clauses (reverse (take k path)) stay stay in
    before stay (subst P (sym e) done)

pub tries_start : (clauses : List (List ℤ)) (path : List ℤ) → GoesBack clauses path (length path) []
tries_start clauses path core h = let P : List ℤ → Type 0 = λ r. Shrinks clauses (reverse r) [] core in subst P (take_all (length path) path (omega arith)) h
