-- Lines that alone are due.
use Rattle.std.proofs.Common.{◌≡◌, ℕ, ◌+◌, ◌<◌, ◌≤◌, ◌⊎◌, inl, inr, List, [], ◌∷◌, ◌++◌, length, None, Some, refl, sym, ap, ◌∙◌, subst, arith, slice_get}
use Rattle.std.proofs.lemmas.Bool.{cases_lt}
use Rattle.std.proofs.lemmas.Option.{same_Some}
use Rattle.kat_candidate.specs.Candidates.{AreCandidates}
use Rattle.kat_candidate.proofs.Determined.{one_candidates}
use Rattle.kat_design.specs.Designs.{DesignForm}
use Rattle.kat_hist.specs.Firsts.{IsFirstPlace}
use Rattle.kat_histories.specs.declared.histories.History.{History}
use Rattle.kat_relation.specs.declared.relations.Conjunct.{Conjunct}
use Rattle.kat_type.specs.Signatures.{signature_of}
use Rattle.kat_type.specs.Types.{TypeForm}
use Rattle.kat_due.specs.Differences.{AgreesOn, DiffersOn, FirstDiffersAt, IsFirstDifference, histories_for}
use Rattle.kat_due.specs.Dues.{Ask, Due, IsNext, IsWide, State, behind_refuted, goes_to, last_line}
use Rattle.kat_due.specs.Dues.Due.{same_history, new_history, its_design, begins, says, last}
use Rattle.kat_due.specs.Dues.Phase.{at_design, cites, in_block, finished}
use Rattle.kat_due.specs.Readings.{Expects}
use Rattle.kat_due.specs.Texts.{begin_line, differs_line, history_line}
use Rattle.kat_due.proofs.States.{cites_no_block, cites_not_finished, next_same, not_cites, not_finished, not_in_block, one_cited}

-- a first place is one
pub one_place : {X : Type 0} (Fact : X → Type 0) (xs : List X) (a b : ℕ) → IsFirstPlace Fact xs (Some a) → IsFirstPlace Fact xs (Some b) → a ≡ b
one_place {X} Fact xs a b f g = by_order (cases_lt a b) (cases_lt b a)
  where
    by_order : (a < b) ⊎ (b ≤ a) → (b < a) ⊎ (a ≤ b) → a ≡ b
    by_order (inl below) other = absurd (g.1 a f.0.0 below f.0.1 f.0.2)
    by_order (inr least) (inl above) = absurd (f.1 b g.0.0 above g.0.1 g.0.2)
    by_order (inr least) (inr most) = omega (arith, least, most)

pub not_both : {X : Type 0} (Fact : X → Type 0) (xs : List X) (a : ℕ) → IsFirstPlace Fact xs (Some a) → IsFirstPlace Fact xs None → ⊥
not_both Fact xs a f none = none a f.0.0 f.0.1 f.0.2

pub one_history : (ty : TypeForm) (d : DesignForm) (hs : List History) (h k : History) → IsFirstDifference ty d hs h → IsFirstDifference ty d hs k → h ≡ k
one_history ty d hs h k f g =
    same_Some h k (sym f.there ∙ ap (λ (n : ℕ). slice_get hs n) (one_place (DiffersOn ty d) hs f.place g.place f.first g.first) ∙ g.there)

-- the same of a design that is equal
pub same_place : (ty : TypeForm) (d e : DesignForm) (hs : List History) (a b : ℕ) → d ≡ e → FirstDiffersAt ty d hs a → FirstDiffersAt ty e hs b → a ≡ b
same_place ty d e hs a b same f g = one_place (DiffersOn ty d) hs a b f (subst (λ (x : DesignForm). FirstDiffersAt ty x hs b) (sym same) g)

pub no_both : (ty : TypeForm) (d e : DesignForm) (hs : List History) (a : ℕ) → d ≡ e → FirstDiffersAt ty d hs a → AgreesOn ty e hs → ⊥
no_both ty d e hs a same f none = not_both (DiffersOn ty d) hs a f (subst (λ (x : DesignForm). AgreesOn ty x hs) (sym same) none)

pub same_first : (ty : TypeForm) (d e : DesignForm) (hs : List History) (h k : History) → d ≡ e → IsFirstDifference ty d hs h → IsFirstDifference ty e hs k → h ≡ k
same_first ty d e hs h k same f g = one_history ty d hs h k f (subst (λ (x : DesignForm). IsFirstDifference ty x hs k) (sym same) g)

-- a design that is refuted by a cited history
only_again : (ask : Ask) (s : State) (d : DesignForm) (place : ℕ) → s.phase ≡ at_design → IsNext ask s d → FirstDiffersAt ask.ty d s.cited place
    → (l : List ℕ) (u : State) → Due ask s l u → (l ≡ differs_line (s.count + 1) (place + 1) d) × (u ≡ behind_refuted s s.cited)
only_again ask s d place phase next first l u (same_history e other p n f t) =
    let same = next_same ask s d e next n in (
      t ∙ ap (λ (x : DesignForm). differs_line (s.count + 1) (other + 1) x) (sym same) ∙ ap (λ (k : ℕ). differs_line (s.count + 1) (k + 1) d) (sym (same_place ask.ty d e s.cited place other same first f)),
      refl,
    )
only_again ask s d place phase next first l u (new_history e h p n agrees f t) = absurd (no_both ask.ty d e s.cited place (next_same ask s d e next n) first agrees)
only_again ask s d place phase next first l u (its_design e h p n t) = absurd (not_cites s.phase h phase p)
only_again ask s d place phase next first l u (begins e cs p n agrees all are t) = absurd (no_both ask.ty d e s.cited place (next_same ask s d e next n) first agrees)
only_again ask s d place phase next first l u (says e cs dropped said p n due t) = absurd (not_in_block s.phase cs dropped phase p)
only_again ask s d place phase next first l u (last p none t) = absurd (none d next)

at_design_narrow : (ask : Ask) (s : State) → s.phase ≡ at_design → (l : List ℕ) → IsWide ask s l → ⊥
at_design_narrow ask s phase l w = not_in_block s.phase w.candidates w.dropped phase w.place

pub expects_again : (ask : Ask) (s : State) (d : DesignForm) (place : ℕ) → s.phase ≡ at_design → IsNext ask s d → FirstDiffersAt ask.ty d s.cited place
    → Expects ask s (differs_line (s.count + 1) (place + 1) d) (behind_refuted s s.cited)
expects_again ask s d place phase next first = record {
  due = same_history d place phase next first refl;
  only = only_again ask s d place phase next first;
  narrow = at_design_narrow ask s phase;
  going = λ v over. not_finished s.phase phase over.ended;
  next = omega arith;
}

-- one that a further history refutes
only_history : (ask : Ask) (s : State) (d : DesignForm) (h : History) → s.phase ≡ at_design → IsNext ask s d → AgreesOn ask.ty d s.cited → IsFirstDifference ask.ty d (histories_for ask.ty) h
    → (l : List ℕ) (u : State) → Due ask s l u → (l ≡ history_line (signature_of ask.ty) (length s.cited + 1) h) × (u ≡ goes_to s (cites h))
only_history ask s d h phase next agrees first l u (same_history e other p n f t) =
    absurd (no_both ask.ty e d s.cited other (next_same ask s e d n next) f agrees)
only_history ask s d h phase next agrees first l u (new_history e k p n a f t) =
    let same = sym (same_first ask.ty d e (histories_for ask.ty) h k (next_same ask s d e next n) first f) in
    (t ∙ ap (λ (x : History). history_line (signature_of ask.ty) (length s.cited + 1) x) same, ap (λ (x : History). goes_to s (cites x)) same)
only_history ask s d h phase next agrees first l u (its_design e k p n t) = absurd (not_cites s.phase k phase p)
only_history ask s d h phase next agrees first l u (begins e cs p n a all are t) =
    absurd (no_both ask.ty d e (histories_for ask.ty) first.place (next_same ask s d e next n) first.first all)
only_history ask s d h phase next agrees first l u (says e cs dropped said p n due t) = absurd (not_in_block s.phase cs dropped phase p)
only_history ask s d h phase next agrees first l u (last p none t) = absurd (none d next)

pub expects_history : (ask : Ask) (s : State) (d : DesignForm) (h : History) → s.phase ≡ at_design → IsNext ask s d → AgreesOn ask.ty d s.cited → IsFirstDifference ask.ty d (histories_for ask.ty) h
    → Expects ask s (history_line (signature_of ask.ty) (length s.cited + 1) h) (goes_to s (cites h))
expects_history ask s d h phase next agrees first = record {
  due = new_history d h phase next agrees first refl;
  only = only_history ask s d h phase next agrees first;
  narrow = at_design_narrow ask s phase;
  going = λ v over. not_finished s.phase phase over.ended;
  next = omega arith;
}

only_its : (ask : Ask) (s : State) (d : DesignForm) (h : History) → s.phase ≡ cites h → IsNext ask s d → (l : List ℕ) (u : State) → Due ask s l u → (l ≡ differs_line (s.count + 1) (length s.cited + 1) d) × (u ≡ behind_refuted s (s.cited ++ h ∷ []))
only_its ask s d h phase next l u (same_history e other p n f t) = absurd (not_cites s.phase h p phase)
only_its ask s d h phase next l u (new_history e k p n a f t) = absurd (not_cites s.phase h p phase)
only_its ask s d h phase next l u (its_design e k p n t) = (
  t ∙ ap (λ (x : DesignForm). differs_line (s.count + 1) (length s.cited + 1) x) (sym (next_same ask s d e next n)),
  ap (λ (x : History). behind_refuted s (s.cited ++ x ∷ [])) (one_cited s.phase k h p phase),
)
only_its ask s d h phase next l u (begins e cs p n a all are t) = absurd (not_cites s.phase h p phase)
only_its ask s d h phase next l u (says e cs dropped said p n due t) = absurd (cites_no_block s.phase h cs dropped phase p)
only_its ask s d h phase next l u (last p none t) = absurd (not_cites s.phase h p phase)

pub expects_its : (ask : Ask) (s : State) (d : DesignForm) (h : History) → s.phase ≡ cites h → IsNext ask s d
    → Expects ask s (differs_line (s.count + 1) (length s.cited + 1) d) (behind_refuted s (s.cited ++ h ∷ []))
expects_its ask s d h phase next = record {
  due = its_design d h phase next refl;
  only = only_its ask s d h phase next;
  narrow = λ l w. cites_no_block s.phase h w.candidates w.dropped phase w.place;
  going = λ v over. cites_not_finished s.phase h phase over.ended;
  next = omega arith;
}

-- one that no history refutes
only_begin : (ask : Ask) (s : State) (d : DesignForm) (cs : List Conjunct) → s.phase ≡ at_design → IsNext ask s d → AgreesOn ask.ty d s.cited → AgreesOn ask.ty d (histories_for ask.ty) → AreCandidates ask.ty d cs
    → (l : List ℕ) (u : State) → Due ask s l u → (l ≡ begin_line (s.count + 1) d) × (u ≡ goes_to s (in_block cs []))
only_begin ask s d cs phase next agrees all are l u (same_history e other p n f t) = absurd (no_both ask.ty e d s.cited other (next_same ask s e d n next) f agrees)
only_begin ask s d cs phase next agrees all are l u (new_history e k p n a f t) =
    absurd (no_both ask.ty e d (histories_for ask.ty) f.place (next_same ask s e d n next) f.first all)
only_begin ask s d cs phase next agrees all are l u (its_design e k p n t) = absurd (not_cites s.phase k phase p)
only_begin ask s d cs phase next agrees all are l u (begins e ds p n a b too t) =
    let same = next_same ask s e d n next in (
      t ∙ ap (λ (x : DesignForm). begin_line (s.count + 1) x) same,
      ap (λ (x : List Conjunct). goes_to s (in_block x [])) (one_candidates ask.ty d ds cs (subst (λ (x : DesignForm). AreCandidates ask.ty x ds) same too) are),
    )
only_begin ask s d cs phase next agrees all are l u (says e ds dropped said p n due t) = absurd (not_in_block s.phase ds dropped phase p)
only_begin ask s d cs phase next agrees all are l u (last p none t) = absurd (none d next)

-- the same before the candidates are made
begin_only : (ask : Ask) (s : State) (d : DesignForm) → s.phase ≡ at_design → IsNext ask s d → AgreesOn ask.ty d s.cited → AgreesOn ask.ty d (histories_for ask.ty) → (l : List ℕ) (u : State) → Due ask s l u → l ≡ begin_line (s.count + 1) d
begin_only ask s d phase next agrees all l u (same_history e other p n f t) = absurd (no_both ask.ty e d s.cited other (next_same ask s e d n next) f agrees)
begin_only ask s d phase next agrees all l u (new_history e k p n a f t) = absurd (no_both ask.ty e d (histories_for ask.ty) f.place (next_same ask s e d n next) f.first all)
begin_only ask s d phase next agrees all l u (its_design e k p n t) = absurd (not_cites s.phase k phase p)
begin_only ask s d phase next agrees all l u (begins e ds p n a b too t) = t ∙ ap (λ (x : DesignForm). begin_line (s.count + 1) x) (next_same ask s e d n next)
begin_only ask s d phase next agrees all l u (says e ds dropped said p n due t) = absurd (not_in_block s.phase ds dropped phase p)
begin_only ask s d phase next agrees all l u (last p none t) = absurd (none d next)

pub no_begin : (ask : Ask) (s : State) (d : DesignForm) → s.phase ≡ at_design → IsNext ask s d → AgreesOn ask.ty d s.cited → AgreesOn ask.ty d (histories_for ask.ty)
    → (l : List ℕ) → (l ≡ begin_line (s.count + 1) d → ⊥) → (IsWide ask s l → ⊥) × ((u : State) → Due ask s l u → ⊥)
no_begin ask s d phase next agrees all l other = (at_design_narrow ask s phase l, λ u due. other (begin_only ask s d phase next agrees all l u due))

pub expects_begin : (ask : Ask) (s : State) (d : DesignForm) (cs : List Conjunct) → s.phase ≡ at_design → IsNext ask s d → AgreesOn ask.ty d s.cited → AgreesOn ask.ty d (histories_for ask.ty)
    → AreCandidates ask.ty d cs → Expects ask s (begin_line (s.count + 1) d) (goes_to s (in_block cs []))
expects_begin ask s d cs phase next agrees all are = record {
  due = begins d cs phase next agrees all are refl;
  only = only_begin ask s d cs phase next agrees all are;
  narrow = at_design_narrow ask s phase;
  going = λ v over. not_finished s.phase phase over.ended;
  next = omega arith;
}

-- the last line
only_last : (ask : Ask) (s : State) → s.phase ≡ at_design → ((d : DesignForm) → IsNext ask s d → ⊥) → (l : List ℕ) (u : State) → Due ask s l u → (l ≡ last_line ask s) × (u ≡ goes_to s finished)
only_last ask s phase none l u (same_history e other p n f t) = absurd (none e n)
only_last ask s phase none l u (new_history e k p n a f t) = absurd (none e n)
only_last ask s phase none l u (its_design e k p n t) = absurd (none e n)
only_last ask s phase none l u (begins e cs p n a b are t) = absurd (none e n)
only_last ask s phase none l u (says e cs dropped said p n due t) = absurd (none e n)
only_last ask s phase none l u (last p others t) = (t, refl)

pub expects_last : (ask : Ask) (s : State) → s.phase ≡ at_design → ((d : DesignForm) → IsNext ask s d → ⊥) → Expects ask s (last_line ask s) (goes_to s finished)
expects_last ask s phase none = record {
  due = last phase none refl;
  only = only_last ask s phase none;
  narrow = at_design_narrow ask s phase;
  going = λ v over. not_finished s.phase phase over.ended;
  next = omega arith;
}
