-- One state comes after a line of a report, and a report has one verdict.
use Rattle.std.proofs.Common.{◌≡◌, ℕ, suc, ◌<◌, ◌⊎◌, ⊎_elim, Some, None, List, [], ◌∷◌, ◌++◌, refl, sym, ap, ◌∙◌, subst, arith}
use Rattle.std.specs.Prelude.{slice_get}
use Rattle.kat_candidate.specs.Candidates.{AreCandidates}
use Rattle.kat_candidate.proofs.Determined.{one_candidates}
use Rattle.kat_design.specs.Designs.{DesignForm}
use Rattle.kat_gram.proofs.OneListing.{one_listing}
use Rattle.kat_hist.specs.Firsts.{IsFirstPlace}
use Rattle.kat_histories.specs.declared.histories.History.{History}
use Rattle.kat_relation.specs.declared.relations.Conjunct.{Conjunct}
use Rattle.kat_said.specs.Judging.{Judges, lines_of}
use Rattle.kat_said.specs.Judging.Judges.{too_wide, not_due, is_due, is_over, is_missing}
use Rattle.kat_said.specs.Sayings.{SaidForm}
use Rattle.kat_said.specs.declared.judging.Audit.{Audit}
use Rattle.kat_said.proofs.Lines.{one_saying}
use Rattle.kat_type.specs.Types.{TypeForm}
use Rattle.kat_audit.specs.Audits.{IsAudited, ask_of}
use Rattle.kat_due.specs.Differences.{AgreesOn, DiffersOn, FirstDiffersAt, IsFirstDifference, histories_for}
use Rattle.kat_due.specs.Dues.{Ask, Due, IsNext, IsOver, IsWide, Phase, State, behind_refuted, behind_said, first_state, goes_to}
use Rattle.kat_due.specs.Dues.Due.{same_history, new_history, its_design, begins, says, last}
use Rattle.kat_due.specs.Dues.Phase.{at_design, cites, in_block, finished}
use Rattle.kat_audit.specs.declared.options.Options.{Options}

-- the first place is one
three_ways : (a b : ℕ) → (a < b) ⊎ (b < a) ⊎ (a ≡ b)
three_ways a b = grind arith

one_place : {X : Type 0} (Fact : X → Type 0) (xs : List X) (a b : ℕ) → IsFirstPlace Fact xs (Some a) → IsFirstPlace Fact xs (Some b) → a ≡ b
one_place Fact xs a b p q = ⊎_elim
    (λ (less : a < b). absurd (q.1 a p.0.0 less p.0.1 p.0.2))
    (⊎_elim (λ (less : b < a). absurd (p.1 b q.0.0 less q.0.1 q.0.2)) (λ (same : a ≡ b). same))
    (three_ways a b)

some_or_none : {X : Type 0} (Fact : X → Type 0) (xs : List X) (a : ℕ) → IsFirstPlace Fact xs (Some a) → IsFirstPlace Fact xs None → ⊥
some_or_none Fact xs a p none = none a p.0.0 p.0.1 p.0.2

same_got : {X : Type 0} (xs : List X) (i j : ℕ) (x y : X) → i ≡ j → slice_get xs i ≡ Some x → slice_get xs j ≡ Some y → x ≡ y
same_got xs i j x y same p q = some_same x y (sym p ∙ ap (slice_get xs) same ∙ q)
  where
    some_same : {A : Type 0} (a b : A) → Some a ≡ Some b → a ≡ b
    some_same a b e = cc

one_difference : (ty : TypeForm) (d : DesignForm) (hs : List History) (h k : History) → IsFirstDifference ty d hs h → IsFirstDifference ty d hs k → h ≡ k
one_difference ty d hs h k p q = same_got hs p.place q.place h k (one_place (DiffersOn ty d) hs p.place q.place p.first q.first) p.there q.there

difference_or_none : (ty : TypeForm) (d : DesignForm) (hs : List History) (h : History) → IsFirstDifference ty d hs h → AgreesOn ty d hs → ⊥
difference_or_none ty d hs h p none = some_or_none (DiffersOn ty d) hs p.place p.first none

-- the places of rules
data Class : Type 0 where
  before_design : Class
  behind_history : Class
  inside_block : Class
  behind_all : Class

abbrev class_at : Phase → Class
class_at at_design = before_design
class_at (cites h) = behind_history
class_at (in_block cs dropped) = inside_block
class_at finished = behind_all

abbrev class_of : {ask : Ask} {s : State} {l : List ℕ} {t : State} → Due ask s l t → Class
class_of (same_history d place at next first is) = before_design
class_of (new_history d h at next agrees first is) = before_design
class_of (its_design d h at next is) = behind_history
class_of (begins d cs at next cited agrees candidates is) = before_design
class_of (says d cs dropped said at next due line) = inside_block
class_of (last at none is) = before_design

class_is : (ask : Ask) (s : State) (l : List ℕ) (t : State) (due : Due ask s l t) → class_at s.phase ≡ class_of due
class_is ask s l _ (same_history d place at next first is) = ap class_at at
class_is ask s l _ (new_history d h at next agrees first is) = ap class_at at
class_is ask s l _ (its_design d h at next is) = ap class_at at
class_is ask s l _ (begins d cs at next cited agrees candidates is) = ap class_at at
class_is ask s l _ (says d cs dropped said at next due line) = ap class_at at
class_is ask s l _ (last at none is) = ap class_at at

pub one_design : (ask : Ask) (s : State) (d e : DesignForm) → IsNext ask s d → IsNext ask s e → d ≡ e
one_design ask s d e a b = same_got ask.designs s.count s.count d e refl a.there b.there

same_cited : (p : Phase) (h k : History) → p ≡ cites h → p ≡ cites k → h ≡ k
same_cited p h k a b = cc

pub same_block : (p : Phase) (cs ds : List Conjunct) (ns ms : List ℕ) → p ≡ in_block cs ns → p ≡ in_block ds ms → (cs ≡ ds) × (ns ≡ ms)
same_block p cs ds ns ms a b = (cc, cc)

differs_and_agrees : (ask : Ask) (s : State) (d e : DesignForm) (place : ℕ) → IsNext ask s d → IsNext ask s e → FirstDiffersAt ask.ty d s.cited place → AgreesOn ask.ty e s.cited → ⊥
differs_and_agrees ask s d e place a b first agrees =
    let P : DesignForm → Type 0 = λ x. AgreesOn ask.ty x s.cited in
    some_or_none (DiffersOn ask.ty d) s.cited place first (subst P (sym (one_design ask s d e a b)) agrees)

differs_and_agrees_all : (ask : Ask) (s : State) (d e : DesignForm) (h : History) → IsNext ask s d → IsNext ask s e → IsFirstDifference ask.ty d (histories_for ask.ty) h → AgreesOn ask.ty e (histories_for ask.ty) → ⊥
differs_and_agrees_all ask s d e h a b first agrees =
    let P : DesignForm → Type 0 = λ x. AgreesOn ask.ty x (histories_for ask.ty) in
    difference_or_none ask.ty d (histories_for ask.ty) h first (subst P (sym (one_design ask s d e a b)) agrees)

pub one_state : (ask : Ask) (s : State) (l : List ℕ) (t u : State) → Due ask s l t → Due ask s l u → t ≡ u
one_state ask s l _ _ (same_history d place at next first is) (same_history e other at' next' first' is') = refl
one_state ask s l _ _ (same_history d place at next first is) (new_history e h at' next' agrees first' is') = absurd (differs_and_agrees ask s d e place next next' first agrees)
one_state ask s l _ _ (same_history d place at next first is) (begins e cs at' next' cited agrees candidates is') = absurd (differs_and_agrees ask s d e place next next' first cited)
one_state ask s l _ _ (same_history d place at next first is) (last at' none is') = absurd (none d next)
one_state ask s l _ _ (new_history d h at next agrees first is) (same_history e other at' next' first' is') = absurd (differs_and_agrees ask s e d other next' next first' agrees)
one_state ask s l _ _ (new_history d h at next agrees first is) (new_history e k at' next' agrees' first' is') =
    let P : DesignForm → Type 0 = λ x. IsFirstDifference ask.ty x (histories_for ask.ty) k in
    let same : h ≡ k = one_difference ask.ty d (histories_for ask.ty) h k first (subst P (sym (one_design ask s d e next next')) first') in
    ap (λ (x : History). goes_to s (cites x)) same
one_state ask s l _ _ (new_history d h at next agrees first is) (begins e cs at' next' cited agrees' candidates is') = absurd (differs_and_agrees_all ask s d e h next next' first agrees')
one_state ask s l _ _ (new_history d h at next agrees first is) (last at' none is') = absurd (none d next)
one_state ask s l _ _ (begins d cs at next cited agrees candidates is) (same_history e other at' next' first' is') = absurd (differs_and_agrees ask s e d other next' next first' cited)
one_state ask s l _ _ (begins d cs at next cited agrees candidates is) (new_history e k at' next' agrees' first' is') = absurd (differs_and_agrees_all ask s e d k next' next first' agrees)
one_state ask s l _ _ (begins d cs at next cited agrees candidates is) (begins e ds at' next' cited' agrees' candidates' is') =
    let P : DesignForm → Type 0 = λ x. AreCandidates ask.ty x ds in
    let same : cs ≡ ds = one_candidates ask.ty d cs ds candidates (subst P (sym (one_design ask s d e next next')) candidates') in
    ap (λ (x : List Conjunct). goes_to s (in_block x [])) same
one_state ask s l _ _ (begins d cs at next cited agrees candidates is) (last at' none is') = absurd (none d next)
one_state ask s l _ _ (last at none is) (same_history e other at' next' first' is') = absurd (none e next')
one_state ask s l _ _ (last at none is) (new_history e k at' next' agrees' first' is') = absurd (none e next')
one_state ask s l _ _ (last at none is) (begins e ds at' next' cited' agrees' candidates' is') = absurd (none e next')
one_state ask s l _ _ (last at none is) (last at' none' is') = refl
one_state ask s l _ _ (its_design d h at next is) (its_design e k at' next' is') = ap (λ (x : History). behind_refuted s (s.cited ++ x ∷ [])) (same_cited s.phase h k at at')
one_state ask s l _ _ (says d cs dropped said at next due line) (says e ds dropped' other at' next' due' line') =
    let block = same_block s.phase cs ds dropped dropped' at at' in
    let same : said ≡ other = one_saying l said other line line' in
    ap (λ (c : List Conjunct). behind_said s c dropped said) block.0
    ∙ ap (λ (n : List ℕ). behind_said s ds n said) block.1
    ∙ ap (λ (z : SaidForm). behind_said s ds dropped' z) same
one_state ask s l t u a b = let x = class_is ask s l t a in let y = class_is ask s l u b in absurd (cc)

pub one_over : (s : State) (v w : Audit) → IsOver s v → IsOver s w → v ≡ w
one_over s v w a b = a.told ∙ sym b.told

-- so lines have one verdict
pub one_judgement : (ask : Ask) (n : ℕ) (s : State) (ls : List (List ℕ)) (v w : Audit) → Judges (IsWide ask) (Due ask) IsOver n s ls v → Judges (IsWide ask) (Due ask) IsOver n s ls w → v ≡ w
one_judgement ask n s _ _ _ (too_wide a) (too_wide b) = refl
one_judgement ask n s _ _ _ (too_wide a) (not_due slim none) = absurd (slim a)
one_judgement ask n s _ _ w (too_wide a) (is_due slim due more) = absurd (slim a)
one_judgement ask n s _ _ _ (not_due slim none) (too_wide b) = absurd (slim b)
one_judgement ask n s _ _ _ (not_due slim none) (not_due slim' none') = refl
one_judgement ask n s _ _ w (not_due slim none) (is_due {t = t} slim' due more) = absurd (none t due)
one_judgement ask n s _ v _ (is_due slim due more) (too_wide b) = absurd (slim b)
one_judgement ask n s _ v _ (is_due {t = t} slim due more) (not_due slim' none) = absurd (none t due)
one_judgement ask n s _ v w (is_due {t = t} {l = l} {ls = ls} slim due more) (is_due {t = u} slim' due' more') =
    let P : State → Type 0 = λ x. Judges (IsWide ask) (Due ask) IsOver (suc n) x ls w in
    one_judgement ask (suc n) t ls v w more (subst P (sym (one_state ask s l t u due due')) more')
one_judgement ask n s _ v w (is_over a) (is_over b) = one_over s v w a b
one_judgement ask n s _ v _ (is_over a) (is_missing none) = absurd (none v a)
one_judgement ask n s _ _ w (is_missing none) (is_over b) = absurd (none w b)
one_judgement ask n s _ _ _ (is_missing none) (is_missing none') = refl

pub one_audit : (ty : TypeForm) (options : Options) (bytes : List ℕ) (v w : Audit) → IsAudited ty options bytes v → IsAudited ty options bytes w → v ≡ w
one_audit ty options bytes v w a b =
    let same : a.designs ≡ b.designs = one_listing ty options.size options.kinds a.designs b.designs a.listing b.listing in
    let P : List DesignForm → Type 0 = λ ds. Judges (IsWide (ask_of ty options ds)) (Due (ask_of ty options ds)) IsOver 0 first_state (lines_of bytes) w in
    one_judgement (ask_of ty options a.designs) 0 first_state (lines_of bytes) v w a.judges (subst P (sym same) b.judges)
