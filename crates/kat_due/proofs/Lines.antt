-- The lines of a block.
use Rattle.std.proofs.Common.{◌≡◌, ℕ, suc, ◌+◌, List, [], ◌∷◌, refl, sym, ap, ◌∙◌, subst, arith}
use Rattle.kat_block.specs.Blocks.{IsDueIn, IsWideIn}
use Rattle.kat_design.specs.Designs.{DesignForm}
use Rattle.kat_relation.specs.declared.relations.Conjunct.{Conjunct}
use Rattle.kat_said.specs.Judging.Judges.{too_wide}
use Rattle.kat_said.specs.Judging.{lines_of}
use Rattle.kat_said.specs.Sayings.{IsLineOf, SaidForm}
use Rattle.kat_said.specs.Sayings.SaidForm.{drops, fails, spends, crowds, widens, is_long}
use Rattle.kat_said.specs.declared.judging.Audit.{Audit}
use Rattle.kat_said.specs.declared.judging.Audit.TheVariants.{Bad, WidePoint}
use Rattle.kat_said.proofs.Lines.{one_saying}
use Rattle.kat_due.specs.Dues.{Ask, Due, IsNext, IsWide, State, behind_block, behind_said}
use Rattle.kat_due.specs.Dues.Due.{same_history, new_history, its_design, begins, says, last}
use Rattle.kat_due.specs.Dues.Phase.{in_block}
use Rattle.kat_due.specs.Readings.{IsEnding, JudgesFrom, hidden_behind}
use Rattle.kat_due.proofs.Coming.{at_lines, one_due, one_fault}
use Rattle.kat_due.proofs.States.{block_not_finished, cites_no_block, next_same, not_in_block, one_dropped, one_list}

-- one line further
pub one_further : (s : State) (cs : List Conjunct) (dropped : List ℕ) (said : SaidForm) → (behind_said s cs dropped said).lines ≡ suc s.lines
one_further s cs dropped (drops at point) = omega arith
one_further s cs dropped (fails query point) = omega arith
one_further s cs dropped (spends at) = omega arith
one_further s cs dropped (crowds at plus minus rest lits) = omega arith
one_further s cs dropped (widens at left right lits) = omega arith
one_further s cs dropped (is_long bytes) = omega arith

-- after a line that ends a block
pub behind_end : (s : State) (cs : List Conjunct) (dropped : List ℕ) (said : SaidForm) → IsEnding said → behind_said s cs dropped said ≡ behind_block s (hidden_behind s.hidden (s.lines + 1) said)
behind_end s cs dropped (drops at point) is = absurd is
behind_end s cs dropped (fails query point) is = refl
behind_end s cs dropped (spends at) is = refl
behind_end s cs dropped (crowds at plus minus rest lits) is = refl
behind_end s cs dropped (widens at left right lits) is = refl
behind_end s cs dropped (is_long bytes) is = refl

-- what a line says is too wide there if the line is
wide_said : (ask : Ask) (s : State) (d : DesignForm) (cs : List Conjunct) (dropped : List ℕ) (l : List ℕ) (said : SaidForm) → s.phase ≡ in_block cs dropped → IsNext ask s d → IsLineOf l said
    → IsWide ask s l → IsWideIn ask.ty d cs dropped said
wide_said ask s d cs dropped l said phase next line w =
    let P : DesignForm → Type 0 = λ x. IsWideIn ask.ty x w.candidates w.dropped w.said in
    let Q : List Conjunct → Type 0 = λ x. IsWideIn ask.ty d x w.dropped w.said in
    let R : List ℕ → Type 0 = λ x. IsWideIn ask.ty d cs x w.said in
    let S : SaidForm → Type 0 = λ x. IsWideIn ask.ty d cs dropped x in
    subst S (one_saying l w.said said w.line line)
    (subst R (one_dropped s.phase w.candidates cs w.dropped dropped w.place phase)
    (subst Q (one_list s.phase w.candidates cs w.dropped dropped w.place phase)
    (subst P (next_same ask s w.d d w.next next) w.wide)))

-- and due
same_due : (ask : Ask) (d e : DesignForm) (cs ds : List Conjunct) (m n : List ℕ) (x y : SaidForm) → d ≡ e → cs ≡ ds → m ≡ n → x ≡ y → IsDueIn ask.ty d cs ask.effort m x → IsDueIn ask.ty e ds ask.effort n y
same_due ask d e cs ds m n x y a b c f h =
    let P : DesignForm → Type 0 = λ k. IsDueIn ask.ty k cs ask.effort m x in
    let Q : List Conjunct → Type 0 = λ k. IsDueIn ask.ty e k ask.effort m x in
    let R : List ℕ → Type 0 = λ k. IsDueIn ask.ty e ds ask.effort k x in
    let S : SaidForm → Type 0 = λ k. IsDueIn ask.ty e ds ask.effort n k in
    subst S f (subst R c (subst Q b (subst P a h)))

due_said : (ask : Ask) (s : State) (d : DesignForm) (cs : List Conjunct) (dropped : List ℕ) (l : List ℕ) (said : SaidForm) → s.phase ≡ in_block cs dropped → IsNext ask s d → IsLineOf l said
    → (u : State) → Due ask s l u → IsDueIn ask.ty d cs ask.effort dropped said
due_said ask s d cs dropped l said phase next line u (same_history e other p n f t) = absurd (not_in_block s.phase cs dropped p phase)
due_said ask s d cs dropped l said phase next line u (new_history e k p n a f t) = absurd (not_in_block s.phase cs dropped p phase)
due_said ask s d cs dropped l said phase next line u (its_design e k p n t) = absurd (cites_no_block s.phase k cs dropped p phase)
due_said ask s d cs dropped l said phase next line u (begins e ds p n a all are t) = absurd (not_in_block s.phase cs dropped p phase)
due_said ask s d cs dropped l said phase next line u (says e ds m told p n due t) =
    same_due ask e d ds cs m dropped told said (next_same ask s e d n next) (one_list s.phase ds cs m dropped p phase) (one_dropped s.phase ds cs m dropped p phase) (one_saying l told said t line) due
due_said ask s d cs dropped l said phase next line u (last p none t) = absurd (not_in_block s.phase cs dropped p phase)

-- a line that is due says something
line_said : (ask : Ask) (s : State) (cs : List Conjunct) (dropped : List ℕ) (l : List ℕ) → s.phase ≡ in_block cs dropped → (u : State) → Due ask s l u → (said : SaidForm) × IsLineOf l said
line_said ask s cs dropped l phase u (same_history e other p n f t) = absurd (not_in_block s.phase cs dropped p phase)
line_said ask s cs dropped l phase u (new_history e k p n a f t) = absurd (not_in_block s.phase cs dropped p phase)
line_said ask s cs dropped l phase u (its_design e k p n t) = absurd (cites_no_block s.phase k cs dropped p phase)
line_said ask s cs dropped l phase u (begins e ds p n a all are t) = absurd (not_in_block s.phase cs dropped p phase)
line_said ask s cs dropped l phase u (says e ds m told p n due t) = (told, t)
line_said ask s cs dropped l phase u (last p none t) = absurd (not_in_block s.phase cs dropped p phase)

-- a line that is due in a block
pub block_due : (ask : Ask) (s : State) (d : DesignForm) (cs : List Conjunct) (dropped : List ℕ) (said : SaidForm) (l left rest : List ℕ) → s.phase ≡ in_block cs dropped → IsNext ask s d
    → lines_of left ≡ l ∷ lines_of rest → IsLineOf l said → (IsWideIn ask.ty d cs dropped said → ⊥) → IsDueIn ask.ty d cs ask.effort dropped said
    → (v : Audit) → JudgesFrom ask (behind_said s cs dropped said) rest v → JudgesFrom ask s left v
block_due ask s d cs dropped said l left rest phase next cut line narrow due =
    one_due ask s (behind_said s cs dropped said) l left rest cut (λ w. narrow (wide_said ask s d cs dropped l said phase next line w)) (says d cs dropped said phase next due line) (one_further s cs dropped said)

-- one that isn't
same_line : (l k left rest : List ℕ) (more : List (List ℕ)) → lines_of left ≡ l ∷ lines_of rest → lines_of left ≡ k ∷ more → l ≡ k
same_line l k left rest more e f = heads l k (lines_of rest) more (sym e ∙ f)
  where
    heads : (l k : List ℕ) (xs ys : List (List ℕ)) → l ∷ xs ≡ k ∷ ys → l ≡ k
    heads l k xs ys e = cc e

pub block_fault : (ask : Ask) (s : State) (d : DesignForm) (cs : List Conjunct) (dropped : List ℕ) (said : SaidForm) (l left rest : List ℕ) → s.phase ≡ in_block cs dropped → IsNext ask s d
    → lines_of left ≡ l ∷ lines_of rest → IsLineOf l said → (IsWideIn ask.ty d cs dropped said → ⊥) → (IsDueIn ask.ty d cs ask.effort dropped said → ⊥) → JudgesFrom ask s left (Bad (suc s.lines))
block_fault ask s d cs dropped said l left rest phase next cut line narrow wrong =
    one_fault ask s (lines_of left) (λ v over. block_not_finished s.phase cs dropped phase over.ended)
    (λ k more e.
    let is : IsLineOf k said = subst (λ (x : List ℕ). IsLineOf x said) (same_line l k left rest more cut e) line in
    (λ w. narrow (wide_said ask s d cs dropped k said phase next is w), λ u due. wrong (due_said ask s d cs dropped k said phase next is u due)))

-- one that says nothing
pub block_none : (ask : Ask) (s : State) (cs : List Conjunct) (dropped : List ℕ) (l left rest : List ℕ) → s.phase ≡ in_block cs dropped → lines_of left ≡ l ∷ lines_of rest
    → ((said : SaidForm) → IsLineOf l said → ⊥) → JudgesFrom ask s left (Bad (suc s.lines))
block_none ask s cs dropped l left rest phase cut none =
    one_fault ask s (lines_of left) (λ v over. block_not_finished s.phase cs dropped phase over.ended)
    (λ k more e.
    let no_line : (said : SaidForm) → IsLineOf k said → ⊥ = subst (λ (x : List ℕ). (said : SaidForm) → IsLineOf x said → ⊥) (same_line l k left rest more cut e) none in
    (λ w. no_line w.said w.line, λ u due. let says = line_said ask s cs dropped k phase u due in no_line says.0 says.1))

-- one that isn't there
pub block_missing : (ask : Ask) (s : State) (cs : List Conjunct) (dropped : List ℕ) (left : List ℕ) → s.phase ≡ in_block cs dropped → left ≡ [] → JudgesFrom ask s left (Bad (suc s.lines))
block_missing ask s cs dropped left phase empty =
    one_fault ask s (lines_of left) (λ v over. block_not_finished s.phase cs dropped phase over.ended)
    (λ k more e. absurd (no_lines k more (sym (ap lines_of empty) ∙ e)))
  where
    no_lines : (k : List ℕ) (more : List (List ℕ)) → lines_of [] ≡ k ∷ more → ⊥
    no_lines k more e = absurd (cc e)

-- one whose point is too wide
pub block_wide : (ask : Ask) (s : State) (d : DesignForm) (cs : List Conjunct) (dropped : List ℕ) (said : SaidForm) (l left rest : List ℕ) → s.phase ≡ in_block cs dropped → IsNext ask s d
    → lines_of left ≡ l ∷ lines_of rest → IsLineOf l said → IsWideIn ask.ty d cs dropped said → JudgesFrom ask s left (WidePoint (suc s.lines))
block_wide ask s d cs dropped said l left rest phase next cut line wide =
    at_lines ask s s.lines s.lines (l ∷ lines_of rest) (lines_of left) (WidePoint (suc s.lines)) refl (sym cut)
    (too_wide (record { d = d; candidates = cs; dropped = dropped; said = said; place = phase; next = next; line = line; wide = wide }))
