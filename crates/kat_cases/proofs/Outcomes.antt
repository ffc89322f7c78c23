-- A walk has one outcome, and few lines.
use Rattle.std.proofs.Common.{◌≡◌, ℕ, zero, suc, ◌+◌, ◌*◌, ◌<◌, ◌≤◌, ℤ, neg_ℤ, List, [], ◌∷◌, ◌++◌, length, Bool, true, false, IsTrue, Option, Some, None, ◌⊎◌, inl, inr, length-append, refl, sym, ap, ◌∙◌, subst, arith}
use Rattle.std.proofs.lemmas.Bool.{false≢true}
use Rattle.std.proofs.lemmas.List.{length_push}
use Rattle.kat_refute.specs.Lines.{Line, added}
use Rattle.kat_cases.specs.Nodes.{Setting, End, Judgement, IsTable, IsJudged, judged}
use Rattle.kat_cases.specs.Nodes.IsJudged.{falsified, not_falsified}
use Rattle.kat_cases.specs.Nodes.Judgement.{leaf, ends, splits}
use Rattle.kat_cases.specs.Nodes.End.{spent}
use Rattle.kat_cases.specs.Walks.{Shrinks, Outcome, Walks, own, core_line, has_literal, joined}
use Rattle.kat_cases.specs.Walks.Answer.{refuted, stopped}
use Rattle.kat_cases.specs.Walks.Shrinks.{done, left_out, kept}
use Rattle.kat_cases.specs.Walks.Outcome.{core, ended}
use Rattle.kat_cases.specs.Walks.Walks.{ends_here, is_spent, is_leaf, first_ends, first_serves, second_ends, second_serves, both}
use Rattle.kat_cases.specs.Laws.{OneAnswer}

-- two tests that are true together are equal
same_bool : (a b : Bool) → (IsTrue a → IsTrue b) → (IsTrue b → IsTrue a) → a ≡ b
same_bool true true f g = refl
same_bool true false f g = sym (f refl)
same_bool false true f g = g refl
same_bool false false f g = refl

-- a node has one table
table_one : (s : Setting) (path : List ℤ) (f g : ℤ → Bool) → IsTable s.encoding path f → IsTable s.encoding path g → f ≡ g
table_one s path f g a b = λ i k. same_bool (f k) (g k) (λ h. (b k).1 ((a k).0 h)) (λ h. (a k).1 ((b k).0 h)) i

-- a node is judged in one way
pub judged_one : (s : Setting) (path : List ℤ) (j k : Judgement) → IsJudged s path j → IsJudged s path k → j ≡ k
judged_one s path j k (falsified d e) (falsified f g) = e ∙ sym g
judged_one s path j k (falsified d e) (not_falsified never has table g) = absurd (never d)
judged_one s path j k (not_falsified never has table g) (falsified d e) = absurd (never d)
judged_one s path j k (not_falsified never has table g) (not_falsified other had same e) = g ∙ ap (judged s) (table_one s path has had table same) ∙ sym e

pub shrinks_one : (clauses : List (List ℤ)) (rest stay c d : List ℤ) → Shrinks clauses rest stay c → Shrinks clauses rest stay d → c ≡ d
shrinks_one clauses [] stay c d done done = refl
shrinks_one clauses (l ∷ rest) stay c d (left_out h a) (left_out k b) = shrinks_one clauses rest stay c d a b
shrinks_one clauses (l ∷ rest) stay c d (left_out h a) (kept k b) = absurd (k h)
shrinks_one clauses (l ∷ rest) stay c d (kept h a) (left_out k b) = absurd (h k)
shrinks_one clauses (l ∷ rest) stay c d (kept h a) (kept k b) = shrinks_one clauses rest (stay ++ l ∷ []) c d a b

leaf_same : (a b : Option Line) → leaf a ≡ leaf b → a ≡ b
leaf_same a b e = cc

splits_same : (a b : ℤ) → splits a ≡ splits b → a ≡ b
splits_same a b e = cc

ends_same : (a b : End) → ends a ≡ ends b → a ≡ b
ends_same a b e = cc

-- what comes of a leaf
abbrev pub AfterLeaf : Setting → List ℤ → Option Line → ℕ → Outcome → Type 0
AfterLeaf s path line zero o = o ≡ ended spent
AfterLeaf s path line (suc left) o = (c : List ℤ) × Shrinks (s.encoding.clauses ++ added (own line)) path [] c × (o ≡ core c (own line ++ core_line c ∷ []) left)

-- what comes of a split after its second node
abbrev pub AfterSecond : List ℤ → ℤ → List ℤ → List Line → Outcome → Outcome → Type 0
AfterSecond path l c lines (ended end) o = o ≡ ended end
AfterSecond path l c lines (core d more last) o =
    ((has_literal (neg_ℤ l) d ≡ false) × (o ≡ core d (lines ++ more) last))
    ⊎ ((has_literal (neg_ℤ l) d ≡ true) × (o ≡ core (joined path c d) (lines ++ more ++ core_line (joined path c d) ∷ []) last))

-- and after its first node
abbrev pub AfterFirst : Setting → List ℤ → ℤ → Outcome → Outcome → Type 0
AfterFirst s path l (ended end) o = o ≡ ended end
AfterFirst s path l (core c lines behind) o =
    ((has_literal l c ≡ false) × (o ≡ core c lines behind))
    ⊎ ((has_literal l c ≡ true) × ((second : Outcome) × Walks s (neg_ℤ l ∷ path) behind second × AfterSecond path l c lines second o))

abbrev pub Splits : Setting → List ℤ → ℤ → ℕ → Outcome → Type 0
Splits s path l left o = (first : Outcome) × Walks s (l ∷ path) left first × AfterFirst s path l first o

leaf_apart : {l : ℤ} {line : Option Line} {A : Type 0} → leaf line ≡ splits l → A
leaf_apart e = absurd (cc)

leaf_or_end : {end : End} {line : Option Line} {A : Type 0} → leaf line ≡ ends end → A
leaf_or_end e = absurd (cc)

end_apart : {l : ℤ} {end : End} {A : Type 0} → ends end ≡ splits l → A
end_apart e = absurd (cc)

pub at_end : {s : Setting} {path : List ℤ} {left : ℕ} {o : Outcome} {end : End} → IsJudged s path (ends end) → Walks s path left o → o ≡ ended end
at_end {s} {path} {left} {o} {end} j (ends_here k) = ap ended (ends_same _ _ (judged_one s path _ _ k j))
at_end {s} {path} {left} {o} {end} j (is_spent k) = leaf_or_end (judged_one s path _ _ k j)
at_end {s} {path} {left} {o} {end} j (is_leaf k w) = leaf_or_end (judged_one s path _ _ k j)
at_end {s} {path} {left} {o} {end} j (first_ends k w) = end_apart (judged_one s path _ _ j k)
at_end {s} {path} {left} {o} {end} j (first_serves k w h) = end_apart (judged_one s path _ _ j k)
at_end {s} {path} {left} {o} {end} j (second_ends k w h v) = end_apart (judged_one s path _ _ j k)
at_end {s} {path} {left} {o} {end} j (second_serves k w h v g) = end_apart (judged_one s path _ _ j k)
at_end {s} {path} {left} {o} {end} j (both k w h v g) = end_apart (judged_one s path _ _ j k)

pub at_leaf : {s : Setting} {path : List ℤ} {left : ℕ} {o : Outcome} {line : Option Line} → IsJudged s path (leaf line) → Walks s path left o → AfterLeaf s path line left o
at_leaf {s} {path} {left} {o} {line} j (ends_here k) = leaf_or_end (judged_one s path _ _ j k)
at_leaf {s} {path} {left} {o} {line} j (is_spent k) = refl
at_leaf {s} {path} {left} {o} {line} j (is_leaf {left = more} {line = own_line} {c = c} k w) =
    let P : Option Line → Type 0 = λ x. AfterLeaf s path x (suc more) (core c (own own_line ++ core_line c ∷ []) more) in
    subst P (leaf_same own_line line (judged_one s path _ _ k j)) (c, w, refl)
at_leaf {s} {path} {left} {o} {line} j (first_ends k w) = leaf_apart (judged_one s path _ _ j k)
at_leaf {s} {path} {left} {o} {line} j (first_serves k w h) = leaf_apart (judged_one s path _ _ j k)
at_leaf {s} {path} {left} {o} {line} j (second_ends k w h v) = leaf_apart (judged_one s path _ _ j k)
at_leaf {s} {path} {left} {o} {line} j (second_serves k w h v g) = leaf_apart (judged_one s path _ _ j k)
at_leaf {s} {path} {left} {o} {line} j (both k w h v g) = leaf_apart (judged_one s path _ _ j k)

-- a split of one literal is a split of an equal one
splits_along : (s : Setting) (path : List ℤ) (k l : ℤ) (left : ℕ) (o : Outcome) → k ≡ l → Splits s path k left o → Splits s path l left o
splits_along s path k l left o e h = let P : ℤ → Type 0 = λ x. Splits s path x left o in subst P e h

pub at_split : {s : Setting} {path : List ℤ} {left : ℕ} {o : Outcome} {l : ℤ} → IsJudged s path (splits l) → Walks s path left o → Splits s path l left o
at_split {s} {path} {left} {o} {l} j (ends_here k) = end_apart (judged_one s path _ _ k j)
at_split {s} {path} {left} {o} {l} j (is_spent k) = leaf_apart (judged_one s path _ _ k j)
at_split {s} {path} {left} {o} {l} j (is_leaf k w) = leaf_apart (judged_one s path _ _ k j)
at_split {s} {path} {left} {o} {l} j (first_ends {l = m} k w) = splits_along s path m l left o (splits_same m l (judged_one s path _ _ k j)) (_, w, refl)
at_split {s} {path} {left} {o} {l} j (first_serves {l = m} k w h) = splits_along s path m l left o (splits_same m l (judged_one s path _ _ k j)) (_, w, inl (h, refl))
at_split {s} {path} {left} {o} {l} j (second_ends {l = m} k w h v) = splits_along s path m l left o (splits_same m l (judged_one s path _ _ k j)) (_, w, inr (h, (_, v, refl)))
at_split {s} {path} {left} {o} {l} j (second_serves {l = m} k w h v g) = splits_along s path m l left o (splits_same m l (judged_one s path _ _ k j)) (_, w, inr (h, (_, v, inl (g, refl))))
at_split {s} {path} {left} {o} {l} j (both {l = m} k w h v g) = splits_along s path m l left o (splits_same m l (judged_one s path _ _ k j)) (_, w, inr (h, (_, v, inr (g, refl))))

-- the literal is in the core or not
serves : {b : Bool} {A B : Type 0} → b ≡ false → (b ≡ false) × A ⊎ (b ≡ true) × B → A
serves h (inl x) = x.1
serves h (inr y) = absurd (false≢true (sym h ∙ y.0))

goes_on : {b : Bool} {A B : Type 0} → b ≡ true → (b ≡ false) × A ⊎ (b ≡ true) × B → B
goes_on h (inl x) = absurd (false≢true (sym x.0 ∙ h))
goes_on h (inr y) = y.1

-- what comes of the first node, by what that is
after_first : (s : Setting) (path : List ℤ) (l : ℤ) (a b o : Outcome) → a ≡ b → AfterFirst s path l b o → AfterFirst s path l a o
after_first s path l a b o e h = let P : Outcome → Type 0 = λ x. AfterFirst s path l x o in subst P (sym e) h

after_second : (path : List ℤ) (l : ℤ) (c : List ℤ) (lines : List Line) (a b o : Outcome) → a ≡ b → AfterSecond path l c lines b o → AfterSecond path l c lines a o
after_second path l c lines a b o e h = let P : Outcome → Type 0 = λ x. AfterSecond path l c lines x o in subst P (sym e) h

core_same : (s : Setting) (path : List ℤ) (line : Option Line) (left : ℕ) (c : List ℤ) (o : Outcome) → Shrinks (s.encoding.clauses ++ added (own line)) path [] c → AfterLeaf s path line (suc left) o → core c (own line ++ core_line c ∷ []) left ≡ o
core_same s path line left c o shrinks (d, other, is) =
    ap (λ x. core x (own line ++ core_line x ∷ []) left) (shrinks_one (s.encoding.clauses ++ added (own line)) path [] c d shrinks other) ∙ sym is

pub one_outcome : {s : Setting} {path : List ℤ} {left : ℕ} {a b : Outcome} → Walks s path left a → Walks s path left b → a ≡ b
one_outcome (ends_here j) w = sym (at_end j w)
one_outcome (is_spent j) w = sym (at_leaf j w)
one_outcome {s} {path} {left} {a} {b} (is_leaf {left = more} {line = line} {c = c} j shrinks) w = core_same s path line more c b shrinks (at_leaf j w)
one_outcome {s} {path} {left} {a} {b} (first_ends {l = l} {end = end} j u) w =
    let v = at_split j w in
    sym (after_first s path l (ended end) v.0 b (one_outcome u v.1) v.2)
one_outcome {s} {path} {left} {a} {b} (first_serves {behind = behind} {l = l} {c = c} {lines = lines} j u h) w =
    let v = at_split j w in
    sym (serves h (after_first s path l (core c lines behind) v.0 b (one_outcome u v.1) v.2))
one_outcome {s} {path} {left} {a} {b} (second_ends {behind = behind} {l = l} {c = c} {lines = lines} {end = end} j u h x) w =
    let v = at_split j w in
    let y = goes_on h (after_first s path l (core c lines behind) v.0 b (one_outcome u v.1) v.2) in
    sym (after_second path l c lines (ended end) y.0 b (one_outcome x y.1) y.2)
one_outcome {s} {path} {left} {a} {b} (second_serves {behind = behind} {last = last} {l = l} {c = c} {d = d} {lines = lines} {more = more} j u h x g) w =
    let v = at_split j w in
    let y = goes_on h (after_first s path l (core c lines behind) v.0 b (one_outcome u v.1) v.2) in
    sym (serves g (after_second path l c lines (core d more last) y.0 b (one_outcome x y.1) y.2))
one_outcome {s} {path} {left} {a} {b} (both {behind = behind} {last = last} {l = l} {c = c} {d = d} {lines = lines} {more = more} j u h x g) w =
    let v = at_split j w in
    let y = goes_on h (after_first s path l (core c lines behind) v.0 b (one_outcome u v.1) v.2) in
    sym (goes_on g (after_second path l c lines (core d more last) y.0 b (one_outcome x y.1) y.2))

-- fewer than three lines for each leaf
own_short : (line : Option Line) → length (own line) ≤ 1
own_short None = omega arith
own_short (Some l) = omega arith

pub few_lines : {s : Setting} {path : List ℤ} {left behind : ℕ} {c : List ℤ} {lines : List Line} → Walks s path left (core c lines behind) → (behind < left) × (length lines + 3 * behind < 3 * left)
few_lines (is_leaf {left = left} {line = line} {c = c} j shrinks) = (omega arith, omega (arith, own_short line, length_push (own line) (core_line c)))
few_lines (first_serves j u h) = few_lines u
few_lines (second_serves {lines = lines} {more = more} j u h x g) =
    let a = few_lines u in let b = few_lines x in (omega (arith, a, b), omega (arith, a, b, length-append lines more))
few_lines (both {path = path} {c = c} {d = d} {lines = lines} {more = more} j u h x g) =
    let a = few_lines u in let b = few_lines x in (omega (arith, a, b), omega (arith, a, b, length-append lines more, length_push (lines ++ more) (core_line (joined path c d))))

refuted_same : (c d : List ℤ) (lines more : List Line) (behind last : ℕ) → core c lines behind ≡ core d more last → refuted lines ≡ refuted more
refuted_same c d lines more behind last e = cc

core_apart : (c : List ℤ) (lines : List Line) (behind : ℕ) (end : End) → core c lines behind ≡ ended end → ⊥
core_apart c lines behind end e = cc

stopped_same : (a b : End) → ended a ≡ ended b → stopped a ≡ stopped b
stopped_same a b e = cc

pub one_answer : OneAnswer
one_answer s effort (refuted lines) (refuted more) u v = refuted_same [] [] lines more u.0 v.0 (one_outcome u.1 v.1)
one_answer s effort (refuted lines) (stopped end) u v = absurd (core_apart [] lines u.0 end (one_outcome u.1 v))
one_answer s effort (stopped end) (refuted lines) u v = absurd (core_apart [] lines v.0 end (one_outcome v.1 u))
one_answer s effort (stopped a) (stopped b) u v = stopped_same a b (one_outcome u v)
