-- A run goes on as the world does: what each line makes of one replica and of one packet.
use Rattle.std.proofs.Common.{◌≡◌, ℕ, ◌≤◌, max, length, Bool, true, false, inl, inr, ⊎_elim, List, [], ◌∷◌, ◌++◌, refl, sym, ◌∙◌, ap, subst, cond, Option, Some, append-nil}
use Rattle.std.specs.Prelude.{◌==◌, not, filter}
use Rattle.std.specs.List.{list_any}
use Rattle.std.specs.Cmp.{IsTotalOrder}
use Rattle.std.proofs.lemmas.Bool.{cases_Bool, eq-eqb, eqb-true}
use Rattle.kat_num.specs.Orders.{value_order}
use Rattle.kat_type.specs.Lists.{Has}
use Rattle.kat_type.specs.declared.done.Done.{Done}
use Rattle.kat_lattice.specs.Sets.{TellsApart}
use Rattle.kat_design.specs.Denotations.{denotation_of}
use Rattle.kat_design.specs.Designs.{DesignForm}
use Rattle.kat_design.specs.Meanings.{are_kin}
use Rattle.kat_design.specs.Parts.{PartsKin}
use Rattle.kat_design.specs.Sorted.{IsWellSorted}
use Rattle.kat_type.specs.Unions.{is_same, united}
use Rattle.kat_design.specs.declared.states.Part.{Part}
use Rattle.kat_design.proofs.Kinship.{states_chained, states_turned}
use Rattle.kat_type.proofs.Unions.{filter_has, has_any}
use Rattle.kat_design.proofs.WholeDesigns.{designs_mean}
use Rattle.kat_replica.specs.declared.replicas.Packet.{Packet}
use Rattle.kat_script.specs.World.{Holder, after_doing, merged}
use Rattle.kat_delta.specs.Deltas.{delta_of}
use Rattle.kat_delta.specs.Following.{CarriesAs, Follows}
use Rattle.kat_delta.specs.Standing.{AreCounts, CarriesDelta, CarriesWhole, StandsFor, count_at, count_of}
use Rattle.kat_delta.specs.Worlds.{Made, done_by, own_part}
use Rattle.kat_delta.specs.declared.replicas.DeltaPacket.{DeltaPacket}
use Rattle.kat_delta.specs.declared.replicas.DeltaReplica.{DeltaReplica}
use Rattle.kat_delta.specs.declared.running.Sent.TheVariants.{Own}
use Rattle.kat_delta.proofs.Joining.{states_kin}
use Rattle.kat_delta.proofs.Standing.{own_counted}

kept_first : {X : Type 0} (b : Bool) (x : X) (xs ys : List X) → cond b (x ∷ xs ++ ys) (xs ++ ys) ≡ cond b (x ∷ xs) xs ++ ys
kept_first true x xs ys = refl
kept_first false x xs ys = refl

not_true : (b : Bool) → b ≡ true → not b ≡ true → ⊥
not_true true e f = cc
not_true false e f = cc

two_max : (a b c d : ℕ) → a ≡ c → b ≡ d → max a b ≡ max c d
two_max a b c d e f = cc

made_same : (o f p q : ℕ) → p ≡ o → q ≡ f → ◌≡◌ {A = Option Made} (Some (record { origin = o; from = f })) (Some (record { origin = p; from = q }))
made_same o f p q e g = cc

-- filters
filter_append : {X : Type 0} (p : X → Bool) (xs ys : List X) → filter p (xs ++ ys) ≡ filter p xs ++ filter p ys
filter_append p [] ys = refl
filter_append {X} p (x ∷ xs) ys = ap (λ (zs : List X). cond (p x) (x ∷ zs) zs) (filter_append p xs ys) ∙ kept_first (p x) x (filter p xs) (filter p ys)

pub filter_none : {X : Type 0} (p : X → Bool) (xs : List X) → ((x : X) → Has xs x → p x ≡ false) → filter p xs ≡ []
filter_none p [] none = refl
filter_none {X} p (x ∷ xs) none = ap (λ b. cond b (x ∷ filter p xs) (filter p xs)) (none x (inl refl)) ∙ filter_none p xs (λ y h. none y (inr h))

-- a replica's own operations, with one more of it, and with operations of which its own are there
pub done_by_last : (r : ℕ) (ones : List Done) (done : Done) → done.replica ≡ r → done_by r (ones ++ done ∷ []) ≡ done_by r ones ++ done ∷ []
done_by_last r ones done is =
    filter_append (λ (one : Done). one.replica == r) ones (done ∷ []) ∙ ap (λ b. done_by r ones ++ cond b (done ∷ []) []) (eq-eqb done.replica r is)

not_own : (r : ℕ) (xs ys : List Done) → ((one : Done) → Has ys one → one.replica ≡ r → Has xs one) → (one : Done) → Has (filter (λ done. not (list_any (is_same done) xs)) ys) one → (one.replica == r) ≡ false
not_own r xs ys there one has =
    let new = filter_has (λ done. not (list_any (is_same done) xs)) ys one has in
    ⊎_elim (λ (e : (one.replica == r) ≡ true). absurd (not_true (list_any (is_same one) xs) (has_any xs one (there one new.0 (eqb-true one.replica r e))) new.1))
    (λ e. e) (cases_Bool (one.replica == r))

pub done_by_united : (r : ℕ) (xs ys : List Done) → ((one : Done) → Has ys one → one.replica ≡ r → Has xs one) → done_by r (united xs ys) ≡ done_by r xs
done_by_united r xs ys there =
    filter_append (λ (one : Done). one.replica == r) xs (filter (λ done. not (list_any (is_same done) xs)) ys)
    ∙ ap (λ (more : List Done). done_by r xs ++ more) (filter_none (λ (one : Done). one.replica == r) (filter (λ done. not (list_any (is_same done) xs)) ys) (not_own r xs ys there))
    ∙ append-nil (done_by r xs)

-- a replica that did an operation
pub follows_done : (d : DesignForm) (n number : ℕ) (old new : DeltaReplica) (holder : Holder) (done : Done) → Follows d n old number holder → done.replica ≡ old.number
    → ((own all : List Done) → StandsFor d old own all → StandsFor d new (own ++ done ∷ []) (all ++ done ∷ [])) → new.base.clock ≡ done.time → new.number ≡ old.number
    → length new.counts.items ≡ length old.counts.items → Follows d n new number (after_doing holder done)
follows_done d n number old new holder done f is stands clock same width = record {
  numbered = same ∙ f.numbered;
  clock = clock;
  width = width ∙ f.width;
  stands = subst (λ (own : List Done). StandsFor d new own (holder.absorbed ++ done ∷ [])) (sym (done_by_last number holder.absorbed done (is ∙ f.numbered)))
      (stands (done_by number holder.absorbed) holder.absorbed f.stands);
}

-- a replica that took a packet in
pub follows_taken : (d : DesignForm) (n number clock : ℕ) (old new : DeltaReplica) (holder theirs : Holder) → Follows d n old number holder → clock ≡ theirs.clock
    → ((one : Done) → Has theirs.absorbed one → one.replica ≡ number → Has holder.absorbed one)
    → StandsFor d new (done_by number holder.absorbed) (united holder.absorbed theirs.absorbed) → new.base.clock ≡ max old.base.clock clock → new.number ≡ old.number
    → length new.counts.items ≡ length old.counts.items → Follows d n new number (merged holder theirs)
follows_taken d n number clock old new holder theirs f sent there stands later same width = record {
  numbered = same ∙ f.numbered;
  clock = later ∙ two_max old.base.clock clock holder.clock theirs.clock f.clock sent;
  width = width ∙ f.width;
  stands = subst (λ (own : List Done). StandsFor d new own (united holder.absorbed theirs.absorbed)) (sym (done_by_united number holder.absorbed theirs.absorbed there)) stands;
}

-- what a replica ships: the whole state
pub carries_whole : (d : DesignForm) (n number : ℕ) (replica : DeltaReplica) (holder : Holder) (packet : Packet) (counts : List ℕ) → Follows d n replica number holder
    → packet.clock ≡ replica.base.clock → packet.state.parts ≡ replica.base.state.parts → counts ≡ replica.counts.items → CarriesWhole d packet counts holder.absorbed
carries_whole d n number replica holder packet counts f clock state same = record {
  once = f.stands.once;
  within = λ one has. subst (λ c. one.time ≤ c) (sym clock) (f.stands.within one has);
  state = state ∙ f.stands.state;
  counts_are = subst (λ (cs : List ℕ). AreCounts cs holder.absorbed) (sym same) f.stands.counts;
}

-- or a delta
pub carries_part : (d : DesignForm) (n number from : ℕ) (replica : DeltaReplica) (holder : Holder) (packet : DeltaPacket) → Follows d n replica number holder → 1 ≤ number → number ≤ n
    → ((own all : List Done) → StandsFor d replica own all → CarriesDelta d packet own) → packet.clock ≡ replica.base.clock → packet.origin ≡ replica.number → packet.from ≡ from
    → CarriesAs d n (Own packet) (own_part number holder) (Some (record { origin = number; from = from }))
carries_part d n number from replica holder packet f low high carries clock origin is =
    let number_is : packet.origin ≡ number = origin ∙ f.numbered in (
      made_same number from packet.origin packet.from number_is is,
      clock ∙ f.clock,
      subst (λ r. 1 ≤ r) (sym number_is) low,
      subst (λ r. r ≤ n) (sym number_is) high,
      carries (done_by number holder.absorbed) holder.absorbed f.stands,
    )

-- its own count, which is what its log has, and what the rules of scripts count
pub follows_count : (d : DesignForm) (n number : ℕ) (replica : DeltaReplica) (holder : Holder) → Follows d n replica number holder → 1 ≤ number → number ≤ n
    → (count_at replica.counts.items replica.number ≡ count_of number holder.absorbed) × (length replica.log.items ≡ count_at replica.counts.items replica.number)
follows_count d n number replica holder f low high =
    let one_low : 1 ≤ replica.number = subst (λ r. 1 ≤ r) (sym f.numbered) low in
    let one_high : replica.number ≤ length replica.counts.items = subst (λ m. replica.number ≤ m) (sym f.width) (subst (λ r. r ≤ n) (sym f.numbered) high) in (
      f.stands.counts replica.number one_low one_high ∙ ap (λ r. count_of r holder.absorbed) f.numbered,
      ap length f.stands.log ∙ sym (own_counted d replica (done_by number holder.absorbed) holder.absorbed f.stands one_low one_high),
    )

-- the states go together
pub follows_kin : IsTotalOrder value_order → TellsApart value_order → (d : DesignForm) → IsWellSorted d → (n number : ℕ) (replica : DeltaReplica) (holder : Holder) → Follows d n replica number holder → (xs : List Done)
    → are_kin PartsKin replica.base.state.parts (denotation_of d xs)
follows_kin o tells d sorted n number replica holder f xs =
    subst (λ (ps : List Part). are_kin PartsKin ps (denotation_of d xs)) (sym f.stands.state) ((designs_mean o tells d sorted).goes holder.absorbed xs)

pub delta_kin : IsTotalOrder value_order → TellsApart value_order → (d : DesignForm) → IsWellSorted d → (n number : ℕ) (replica : DeltaReplica) (holder : Holder) (packet : DeltaPacket) (ones : List Done) → Follows d n replica number holder
    → CarriesDelta d packet ones → are_kin PartsKin replica.base.state.parts packet.state.parts
delta_kin o tells d sorted n number replica holder packet ones f p =
    subst (λ (ps : List Part). are_kin PartsKin replica.base.state.parts ps) (sym p.state)
    (states_chained o replica.base.state.parts (denotation_of d []) (delta_of d ones packet.from) (follows_kin o tells d sorted n number replica holder f [])
    (states_turned o (delta_of d ones packet.from) (denotation_of d []) (states_kin o tells d.sig.ops d.components sorted.components ones [] packet.from)))
