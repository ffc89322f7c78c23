-- The operations that a sharer has, at first and after each call.
use Rattle.std.proofs.Common.{◌≡◌, ◌⊎◌, ℕ, ◌≤◌, ◌<◌, max, List, [], ◌∷◌, ◌++◌, refl, sym, ◌∙◌, ap, subst, inl, inr, arith}
use Rattle.kat_lattice.specs.Tallies.{IsTally, Sums, TalliesKin, tallies_joined, tally_joined}
use Rattle.kat_type.specs.Lists.{Has}
use Rattle.kat_type.specs.Unions.{AreAmong, AreNested, united}
use Rattle.kat_type.specs.declared.done.Done.{Done}
use Rattle.kat_type.proofs.Lists.{has_either, once_last}
use Rattle.kat_type.proofs.Unions.{has_united, once_united}
use Rattle.kat_design.specs.Denotations.{denotation_of, design_meaning}
use Rattle.kat_design.specs.Designs.{DesignForm}
use Rattle.kat_design.specs.Meanings.{Means, are_kin}
use Rattle.kat_design.specs.Parts.{PartsKin, parts_joined}
use Rattle.kat_design.specs.Sorted.{IsWellSorted}
use Rattle.kat_design.specs.declared.states.Part.{Part}
use Rattle.kat_difference.specs.Marks.{AreMarks}
use Rattle.kat_difference.specs.Near.{AreNear, AreTimed}
use Rattle.kat_difference.specs.Sharing.{SharersAct, SharersBegin, SharersDeliver}
use Rattle.kat_difference.specs.States.{IsDifference}
use Rattle.kat_difference.specs.Uniting.{DifferencesUnite}
use Rattle.kat_difference.proofs.Covering.{marks_tell}
use Rattle.kat_difference.proofs.Latest.{marks_last, marks_unite, one_tally}

near_nested : (xs ys : List Done) → AreNear xs ys → AreNested xs ys
near_nested xs ys near origin =
    elim (near origin) as (λ _. AreAmong origin xs ys ⊎ AreAmong origin ys xs) [ inl mine ↦ inl mine.among | inr theirs ↦ inr theirs.among ]

timed_united : (xs ys : List Done) → AreTimed xs → AreTimed ys → AreTimed (united xs ys)
timed_united xs ys h k = record {
  once = once_united xs ys h.once k.once;
  timed = λ one has. elim (has_united xs ys one has) as (λ _. 1 ≤ one.time) [ inl mine ↦ h.timed one mine | inr theirs ↦ k.timed one theirs ];
}

-- the same with states and marks that are equal to those
pub sharers_deliver : DifferencesUnite → SharersDeliver
sharers_deliver unites d old known whole new difference mine theirs all sorted has_old has_known has_whole near_known near_whole made below taken =
    let kin : TalliesKin difference.base old.marks = record { left = subst IsTally (sym made.base) has_known.tally; right = has_old.tally } in
    let base : AreMarks difference.base theirs = subst (λ (t : Sums). AreMarks t theirs) (sym made.base) has_known.marks in
    let covered : (one : Done) → Has theirs one → Has mine one = marks_tell theirs mine difference.base old.marks has_known.timed near_known kin base has_old.marks below in
    let told : IsDifference (denotation_of d []) (denotation_of d theirs) (denotation_of d all) difference.state.parts =
    subst (λ (t : List Part). IsDifference (denotation_of d []) t (denotation_of d all) difference.state.parts) has_known.state
    (subst (λ (t : List Part). IsDifference (denotation_of d []) known.replica.state.parts t difference.state.parts) has_whole.state made.state) in
    let given : parts_joined (denotation_of d mine) difference.state.parts ≡ denotation_of d (united mine all) =
    unites d theirs all mine difference.state.parts sorted has_known.timed.once has_whole.timed.once has_old.timed.once (near_nested mine all near_whole) covered told in
    let both : TalliesKin old.marks whole.marks = record { left = has_old.tally; right = has_whole.tally } in
    let marks : new.marks ≡ tallies_joined old.marks whole.marks = taken.marks ∙ ap (tallies_joined old.marks) made.marks in
    let clock : new.replica.clock ≡ max old.replica.clock whole.replica.clock = taken.clock ∙ ap (max old.replica.clock) made.clock in
    record {
      timed = timed_united mine all has_old.timed has_whole.timed;
      state = taken.state ∙ (ap (λ (t : List Part). parts_joined t difference.state.parts) has_old.state ∙ given);
      tally = subst IsTally (sym marks) (tally_joined old.marks whole.marks has_old.tally has_whole.tally);
      marks = subst (λ (t : Sums). AreMarks t (united mine all)) (sym marks) (marks_unite mine all old.marks whole.marks both has_old.marks has_whole.marks);
      within = λ one has.
          elim (has_united mine all one has) as (λ _. one.time ≤ new.replica.clock) [
            | inl here ↦ (let l : one.time ≤ old.replica.clock = has_old.within one here in omega (arith, clock, l))
            | inr there ↦ (let l : one.time ≤ whole.replica.clock = has_whole.within one there in omega (arith, clock, l))
          ];
    }

at_last : (done one : Done) (clock : ℕ) → clock ≡ done.time → Has (done ∷ []) one → one.time ≤ clock
at_last done one clock e (inl same) = (let t : done.time ≡ one.time = ap (λ (x : Done). x.time) same in omega (arith, e, t))
at_last done one clock e (inr none) = absurd none

last_time : (one other : Done) (clock : ℕ) → clock < one.time → Has (one ∷ []) other → 1 ≤ other.time
last_time one other clock later (inl same) = (let t : one.time ≡ other.time = ap (λ (x : Done). x.time) same in omega (arith, later, t))
last_time one other clock later (inr none) = absurd none

timed_last : (xs : List Done) (one : Done) (clock : ℕ) → AreTimed xs → ((other : Done) → Has xs other → other.time ≤ clock) → clock < one.time → AreTimed (xs ++ one ∷ [])
timed_last xs one clock h within later = record {
  once = once_last xs one h.once (λ has. let l : one.time ≤ clock = within one has in omega (arith, l, later));
  timed = λ other has. elim (has_either xs (one ∷ []) other has) as (λ _. 1 ≤ other.time) [
    | inl before ↦ h.timed other before
    | inr last ↦ last_time one other clock later last
  ];
}

pub sharers_act : ((d : DesignForm) → IsWellSorted d → Means (are_kin PartsKin) (design_meaning d)) → SharersAct
sharers_act mean d old new has done sorted has_old later did = record {
  timed = timed_last has done old.replica.clock has_old.timed has_old.within later;
  state = did.state ∙ (ap (λ (t : List Part). (design_meaning d).added t done) has_old.state ∙ (mean d sorted).adds has done);
  tally = subst IsTally (sym did.marks) (tally_joined old.marks ((done.replica, done.time) ∷ []) has_old.tally (one_tally done.replica done.time (omega (arith, later))));
  marks = subst (λ (t : Sums). AreMarks t (has ++ done ∷ [])) (sym did.marks) (marks_last has old.marks done has_old.tally (omega (arith, later)) has_old.marks);
  within = λ one is.
      elim (has_either has (done ∷ []) one is) as (λ _. one.time ≤ new.replica.clock) [
        | inl before ↦ (let l : one.time ≤ old.replica.clock = has_old.within one before in let c : new.replica.clock ≡ done.time = did.clock in omega (arith, l, c, later))
        | inr last ↦ (let c : new.replica.clock ≡ done.time = did.clock in at_last done one new.replica.clock c last)
      ];
}

pub sharers_begin : SharersBegin
sharers_begin d sharer new = record {
  timed = record { once = tt; timed = λ one has. absurd has };
  state = new.state;
  tally = subst IsTally (sym new.marks) (record { ascending = tt; counted = tt });
  marks = subst (λ (t : Sums). AreMarks t []) (sym new.marks) (record { each = λ replica. refl });
  within = λ one has. absurd has;
}
