-- What comes of the lines of a text, from one line to the next.
use Rattle.std.proofs.Common.{◌≡◌, ℕ, suc, ◌+◌, List, [], ◌∷◌, Option, None, Some, ◌<◌, ◌≤◌, refl, sym, ap, ◌∙◌, subst, arith, drop, length, length-drop, take}
use Rattle.kat_said.specs.Judging.{Judges, lines_of}
use Rattle.kat_said.specs.Judging.Judges.{not_due, is_due, is_missing}
use Rattle.kat_said.specs.declared.judging.Audit.{Audit}
use Rattle.kat_said.specs.declared.judging.Audit.TheVariants.{Bad}
use Rattle.kat_due.specs.Dues.{Ask, Due, IsOver, IsWide, State}
use Rattle.kat_due.specs.Readings.{ComesTo, Expects, IsCut, IsMet, JudgesFrom}
use Rattle.kat_due.specs.declared.reading.Reading.{Reading}

-- what comes of a text at lines that are equal
pub at_lines : (ask : Ask) (s : State) (n m : ℕ) (ls ms : List (List ℕ)) (v : Audit) → n ≡ m → ls ≡ ms → Judges (IsWide ask) (Due ask) IsOver n s ls v → Judges (IsWide ask) (Due ask) IsOver m s ms v
at_lines ask s n m ls ms v e f h =
    let P : ℕ → Type 0 = λ k. Judges (IsWide ask) (Due ask) IsOver k s ls v in
    let Q : List (List ℕ) → Type 0 = λ xs. Judges (IsWide ask) (Due ask) IsOver m s xs v in
    subst Q f (subst P e h)

pub of_verdict : (ask : Ask) (s : State) (left : List ℕ) (v w : Audit) → v ≡ w → JudgesFrom ask s left v → JudgesFrom ask s left w
of_verdict ask s left v w e h = let P : Audit → Type 0 = λ x. JudgesFrom ask s left x in subst P e h

-- a line that is due
pub one_due : (ask : Ask) (s t : State) (line left rest : List ℕ) → lines_of left ≡ line ∷ lines_of rest → (IsWide ask s line → ⊥) → Due ask s line t → t.lines ≡ suc s.lines
    → (v : Audit) → JudgesFrom ask t rest v → JudgesFrom ask s left v
one_due ask s t line left rest cut narrow due next v h =
    at_lines ask s s.lines s.lines (line ∷ lines_of rest) (lines_of left) v refl (sym cut) (is_due narrow due (at_lines ask t t.lines (suc s.lines) (lines_of rest) (lines_of rest) v next refl h))

-- a line that isn't, or that isn't there
pub one_fault : (ask : Ask) (s : State) (ls : List (List ℕ)) → ((v : Audit) → IsOver s v → ⊥)
    → ((l : List ℕ) (rest : List (List ℕ)) → ls ≡ l ∷ rest → (IsWide ask s l → ⊥) × ((u : State) → Due ask s l u → ⊥)) → Judges (IsWide ask) (Due ask) IsOver s.lines s ls (Bad (suc s.lines))
one_fault ask s [] going wrong = is_missing going
one_fault ask s (l ∷ rest) going wrong = let w = wrong l rest refl in not_due w.0 w.1

-- what a line that alone is due comes to
pub met : (ask : Ask) (s t : State) (line : List ℕ) (old new : Reading) → s.lines ≡ old.lines → Expects ask s line t → (o : Option Audit) → IsMet old new line o
    → ComesTo ask s old.left.now t new.left.now o
met ask s t line old new same x None m = one_due ask s t line old.left.now new.left.now m.cut (x.narrow line) x.due x.next
met ask s t line old new same x (Some v) m =
    of_verdict ask s old.left.now (Bad (suc s.lines)) v (sym (m.0 ∙ ap (λ (n : ℕ). Bad (suc n)) (sym same)))
    (one_fault ask s (lines_of old.left.now) x.going
    (λ l rest e. (x.narrow l, λ u due. m.1 rest (e ∙ ap (λ (k : List ℕ). k ∷ rest) (x.only l u due).0))))

-- the same at a state that is equal
pub comes_at : (ask : Ask) (s t u : State) (left rest : List ℕ) (o : Option Audit) → t ≡ u → ComesTo ask s left t rest o → ComesTo ask s left u rest o
comes_at ask s t u left rest o e h = subst (λ (x : State). ComesTo ask s left x rest o) e h

-- more lines
pub comes_on : (ask : Ask) (s t u : State) (left rest end : List ℕ) (o : Option Audit) → ((v : Audit) → JudgesFrom ask t rest v → JudgesFrom ask s left v) → ComesTo ask t rest u end o
    → ComesTo ask s left u end o
comes_on ask s t u left rest end None first more = λ v h. first v (more v h)
comes_on ask s t u left rest end (Some v) first more = first v more

-- there is a fault
pub comes_fault : (ask : Ask) (s t : State) (left rest : List ℕ) (o : Option Audit) (v : Audit) → o ≡ Some v → ComesTo ask s left t rest o → JudgesFrom ask s left v
comes_fault ask s t left rest o v e h = subst (λ (x : Option Audit). ComesTo ask s left t rest x) e h

-- there is none
pub comes_none : (ask : Ask) (s t : State) (left rest : List ℕ) (o : Option Audit) → o ≡ None → ComesTo ask s left t rest o → (v : Audit) → JudgesFrom ask t rest v → JudgesFrom ask s left v
comes_none ask s t left rest o e h = subst (λ (x : Option Audit). ComesTo ask s left t rest x) e h

pub met_cut : (old new : Reading) (line : List ℕ) (o : Option Audit) → o ≡ None → IsMet old new line o → IsCut old new line
met_cut old new line o e m = subst (λ (x : Option Audit). IsMet old new line x) e m

-- a line was cut off
pub cut_off : (old new : Reading) (line : List ℕ) (end : ℕ) → lines_of old.left.now ≡ take end old.left.now ∷ lines_of (drop end old.left.now) → line ≡ take end old.left.now → new.left.now ≡ drop end old.left.now
    → 0 < end → end ≤ length old.left.now → new.lines ≡ old.lines + 1 → new.count ≡ old.count → new.cited.items ≡ old.cited.items → new.passed ≡ old.passed → new.hidden ≡ old.hidden → IsCut old new line
cut_off old new line end cut is rest some within lines count cited passed hidden =
    let size = ap length rest ∙ length-drop end old.left.now in
    record {
      cut = cut ∙ ap (λ (l : List ℕ). l ∷ lines_of (drop end old.left.now)) (sym is) ∙ ap (λ (l : List ℕ). line ∷ lines_of l) (sym rest);
      lines = lines;
      room = omega (arith, size, some, within, lines);
      count = count;
      cited = cited;
      passed = passed;
      hidden = hidden;
    }

-- the next line is another one, or there is none
pub other_line : (old new : Reading) (line other : List ℕ) → IsCut old new line → (line ≡ other → ⊥) → (ls : List (List ℕ)) → lines_of old.left.now ≡ other ∷ ls → ⊥
other_line old new line other cut apart ls e = apart (heads line other (lines_of new.left.now) ls (sym cut.cut ∙ e))
  where
    heads : (l k : List ℕ) (xs ys : List (List ℕ)) → l ∷ xs ≡ k ∷ ys → l ≡ k
    heads l k xs ys e = cc e

pub no_line : (old : Reading) (other : List ℕ) → old.left.now ≡ [] → (ls : List (List ℕ)) → lines_of old.left.now ≡ other ∷ ls → ⊥
no_line old other empty ls e = nothing other ls (sym (ap lines_of empty) ∙ e)
  where
    nothing : (k : List ℕ) (more : List (List ℕ)) → lines_of [] ≡ k ∷ more → ⊥
    nothing k more e = absurd (cc e)
