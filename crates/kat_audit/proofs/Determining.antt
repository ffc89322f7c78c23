-- A text has one verdict.
use Rattle.std.proofs.Common.{◌≡◌, ◌↔◌, ℕ, suc, List, refl, sym, ap, ◌∙◌, subst}
use Rattle.kat_design.specs.Designs.{DesignForm}
use Rattle.kat_gram.proofs.OneListing.{one_listing}
use Rattle.kat_relation.specs.declared.relations.Conjunct.{Conjunct}
use Rattle.kat_said.specs.Judging.{IsDetermined, Judges, Reads, lines_of}
use Rattle.kat_said.specs.Judging.Judges.{too_wide, not_due, is_due, is_over, is_missing}
use Rattle.kat_said.specs.Judging.Reads.{none_read, one_read}
use Rattle.kat_said.specs.Sayings.{IsLineOf, SaidForm}
use Rattle.kat_said.specs.declared.judging.Audit.{Audit}
use Rattle.kat_said.specs.declared.judging.Audit.TheVariants.{Confirmed, Bad, NotShown, WidePoint}
use Rattle.kat_said.proofs.Lines.{one_saying}
use Rattle.kat_type.specs.Types.{TypeForm}
use Rattle.kat_audit.specs.Audits.{IsAudited, ask_of}
use Rattle.kat_due.specs.Dues.{Ask, Due, IsOver, IsWide, State, behind_said, first_state}
use Rattle.kat_due.specs.Dues.Due.{same_history, new_history, its_design, begins, says, last}
use Rattle.kat_due.specs.Dues.Phase.{in_block}
use Rattle.kat_audit.specs.Laws.{AreRead}
use Rattle.kat_audit.specs.declared.options.Options.{Options}
use Rattle.kat_due.proofs.Expecting.{expects_again, expects_begin, expects_history, expects_its, expects_last}
use Rattle.kat_due.proofs.States.{cites_no_block, not_in_block, one_dropped, one_list}

-- after a line of a block
same_behind : (s : State) (cs ds : List Conjunct) (m n : List ℕ) (x y : SaidForm) → cs ≡ ds → m ≡ n → x ≡ y → behind_said s cs m x ≡ behind_said s ds n y
same_behind s cs ds m n x y a b c = ap (λ (k : List Conjunct). behind_said s k m x) a ∙ ap (λ (k : List ℕ). behind_said s ds k x) b ∙ ap (λ (k : SaidForm). behind_said s ds n k) c

one_behind : (ask : Ask) (s : State) (cs : List Conjunct) (dropped : List ℕ) (said : SaidForm) (l : List ℕ) → s.phase ≡ in_block cs dropped → IsLineOf l said
    → (u : State) → Due ask s l u → behind_said s cs dropped said ≡ u
one_behind ask s cs dropped said l phase line u (same_history e other p n f t) = absurd (not_in_block s.phase cs dropped p phase)
one_behind ask s cs dropped said l phase line u (new_history e k p n a f t) = absurd (not_in_block s.phase cs dropped p phase)
one_behind ask s cs dropped said l phase line u (its_design e k p n t) = absurd (cites_no_block s.phase k cs dropped p phase)
one_behind ask s cs dropped said l phase line u (begins e ds p n a all are t) = absurd (not_in_block s.phase cs dropped p phase)
one_behind ask s cs dropped said l phase line u (says e ds m told p n due t) =
    same_behind s cs ds dropped m said told (one_list s.phase cs ds dropped m phase p) (one_dropped s.phase cs ds dropped m phase p) (one_saying l said told line t)
one_behind ask s cs dropped said l phase line u (last p none t) = absurd (not_in_block s.phase cs dropped p phase)

-- one state comes after a line
one_state : (ask : Ask) (s : State) (l : List ℕ) (t u : State) → Due ask s l t → Due ask s l u → t ≡ u
one_state ask s l t u (same_history d place p n f e) other = sym ((expects_again ask s d place p n f).only l u other).1
one_state ask s l t u (new_history d h p n a f e) other = sym ((expects_history ask s d h p n a f).only l u other).1
one_state ask s l t u (its_design d h p n e) other = sym ((expects_its ask s d h p n).only l u other).1
one_state ask s l t u (begins d cs p n a all are e) other = sym ((expects_begin ask s d cs p n a all are).only l u other).1
one_state ask s l t u (says d cs dropped said p n due line) other = one_behind ask s cs dropped said l p line u other
one_state ask s l t u (last p none e) other = sym ((expects_last ask s p none).only l u other).1

pub determined : (ask : Ask) → IsDetermined (Due ask) IsOver
determined ask = record { one_state = one_state ask; one_verdict = λ s v w a b. a.told ∙ sym b.told }

-- a text has one verdict
one_verdict : (ask : Ask) (n : ℕ) (s : State) (ls : List (List ℕ)) (v w : Audit) → Judges (IsWide ask) (Due ask) IsOver n s ls v → Judges (IsWide ask) (Due ask) IsOver n s ls w → v ≡ w
one_verdict ask n s ls v w (too_wide a) (too_wide b) = refl
one_verdict ask n s ls v w (too_wide a) (not_due b f) = absurd (b a)
one_verdict ask n s ls v w (too_wide a) (is_due b f more) = absurd (b a)
one_verdict ask n s ls v w (not_due a f) (too_wide b) = absurd (a b)
one_verdict ask n s ls v w (not_due a f) (not_due b g) = refl
one_verdict ask n s ls v w (not_due a f) (is_due {t = t} b g more) = absurd (f t g)
one_verdict ask n s ls v w (is_due a f more) (too_wide b) = absurd (a b)
one_verdict ask n s ls v w (is_due {t = t} a f more) (not_due b g) = absurd (g t f)
one_verdict ask n s ls v w (is_due {t = t} {l = l} {ls = rest} a f more) (is_due {t = u} b g other) =
    let P : State → Type 0 = λ x. Judges (IsWide ask) (Due ask) IsOver (suc n) x rest w in
    one_verdict ask (suc n) t rest v w more (subst P (one_state ask s l u t g f) other)
one_verdict ask n s ls v w (is_over f) (is_over g) = f.told ∙ sym g.told
one_verdict ask n s ls v w (is_over {v = a} f) (is_missing g) = absurd (g a f)
one_verdict ask n s ls v w (is_missing f) (is_over {v = b} g) = absurd (f b g)
one_verdict ask n s ls v w (is_missing f) (is_missing g) = refl

pub one_audit : (ty : TypeForm) (options : Options) (bytes : List ℕ) (v w : Audit) → IsAudited ty options bytes v → IsAudited ty options bytes w → v ≡ w
one_audit ty options bytes v w a b =
    let same = one_listing ty options.size options.kinds b.designs a.designs b.listing a.listing in
    let P : List DesignForm → Type 0 = λ ds. Judges (IsWide (ask_of ty options ds)) (Due (ask_of ty options ds)) IsOver 0 first_state (lines_of bytes) w in
    one_verdict (ask_of ty options a.designs) 0 first_state (lines_of bytes) v w a.judges (subst P same b.judges)

-- lines that are due are read, and the verdict after them is that of the whole
pub read_on : (ask : Ask) (n : ℕ) (s u : State) (ls : List (List ℕ)) (v : Audit) → Reads (IsWide ask) (Due ask) s ls u → IsOver u v → Judges (IsWide ask) (Due ask) IsOver n s ls v
read_on ask n s u ls v none_read end = is_over end
read_on ask n s u ls v (one_read {t = t} {ls = rest} a f more) end = is_due a f (read_on ask (suc n) t u rest v more end)

-- and conversely: if the verdict is that nothing is wrong, all lines are due
abbrev IsFault : Audit → Type 0
IsFault Confirmed = ⊥
IsFault (Bad n) = Unit {0}
IsFault (NotShown n) = ⊥
IsFault (WidePoint n) = Unit {0}

pub read_back : (ask : Ask) (n : ℕ) (s : State) (ls : List (List ℕ)) (v : Audit) → (IsFault v → ⊥) → Judges (IsWide ask) (Due ask) IsOver n s ls v
    → (u : State) × Reads (IsWide ask) (Due ask) s ls u × IsOver u v
read_back ask n s ls v sound (too_wide a) = absurd (sound tt)
read_back ask n s ls v sound (not_due a f) = absurd (sound tt)
read_back ask n s ls v sound (is_due {t = t} {ls = rest} a f more) = let b = read_back ask (suc n) t rest v sound more in (b.0, one_read a f b.1, b.2)
read_back ask n s ls v sound (is_over f) = (s, none_read, f)
read_back ask n s ls v sound (is_missing f) = absurd (sound tt)

pub confirmed_read : (ask : Ask) (bytes : List ℕ) → Judges (IsWide ask) (Due ask) IsOver 0 first_state (lines_of bytes) Confirmed ↔ AreRead ask (lines_of bytes)
confirmed_read ask bytes = (
  λ h. let b = read_back ask 0 first_state (lines_of bytes) Confirmed (λ f. f) h in record { end = b.0; read = b.1; over = b.2 },
  λ r. read_on ask 0 first_state r.end (lines_of bytes) Confirmed r.read r.over,
)
