-- What a replica or a packet of a judged world absorbed: it fits the signature, and isn't too much.
use Rattle.std.proofs.Common.{◌≡◌, ℕ, ◌-◌, ◌≤◌, inl, inr, ⊎_elim, List, [], ◌∷◌, length, All, Option, Some, None, refl, sym, subst, arith}
use Rattle.std.specs.Prelude.{MatchOption, slice_get}
use Rattle.std.proofs.lemmas.List.Elements.{All-nil, All-cons}
use Rattle.std.proofs.lemmas.List.{length-set, length-replicate}
use Rattle.kat_num.specs.Values.{IsArgument}
use Rattle.kat_num.specs.declared.values.Sort.{Sort}
use Rattle.kat_num.specs.declared.values.TheConstants.{NUMBER_LIMIT}
use Rattle.kat_num.specs.declared.values.Value.{Value}
use Rattle.kat_design.specs.Fitting.{FitsSignature}
use Rattle.kat_design.specs.Sorted.{AreMatched}
use Rattle.kat_design.specs.Tallied.{total}
use Rattle.kat_design.proofs.Lists.{total_among}
use Rattle.kat_script.specs.Facts.{HoldsFronts, IsFront}
use Rattle.kat_script.specs.Judged.{AreArguments, IsJudgedLine}
use Rattle.kat_script.specs.World.{Holder, World, after, after_doing, first_world, fresh, merged, packet_at, replica_at}
use Rattle.kat_script.specs.declared.rules.TheConstants.{REPLICA_LIMIT, TIME_LIMIT}
use Rattle.kat_script.specs.declared.script.Line.{Line}
use Rattle.kat_script.specs.declared.script.Line.TheVariants.{Do, Ship, Deliver, Ask, Show}
use Rattle.kat_script.proofs.Worlds.{facts_first}
use Rattle.kat_type.specs.Lists.{Has, IsOnce}
use Rattle.kat_type.specs.declared.done.Done.{Done}
use Rattle.kat_type.specs.declared.signatures.OpSig.{OpSig}
use Rattle.kat_type.specs.declared.signatures.Signature.{Signature}
use Rattle.kat_type.proofs.Lists.{either_last}
use Rattle.kat_world.proofs.Going.{facts_on}
use Rattle.kat_world.proofs.Tracking.{done_with}

-- the world after judged lines, once these operations were done, each of which fits the signature
pub record Stands (sig : Signature) (past : List Done) (world : World) : Type 0 where
  pub facts : HoldsFronts past world
  pub fit : (one : Done) → Has past one → FitsSignature sig one
  pub few_replicas : length world.replicas ≤ REPLICA_LIMIT

-- arguments of sorts, said in two ways
matched : (sorts : List Sort) (args : List Value) → AreArguments sorts args → AreMatched (λ (value : Value) (sort : Sort). IsArgument sort value) args sorts
matched [] [] h = tt
matched [] (v ∷ args) h = absurd h
matched (s ∷ sorts) [] h = absurd h
matched (s ∷ sorts) (v ∷ args) h = (h.0, matched sorts args h.1)

up_to : (a b c : ℕ) → a ≤ b → b ≤ c → a ≤ c
up_to a b c h k = omega arith

time_fits : (time : ℕ) → time ≤ TIME_LIMIT → time ≤ NUMBER_LIMIT
time_fits time h = omega arith

found_op : (o : Option OpSig) (args : List Value) → MatchOption o ⊥ (λ (it : OpSig). AreArguments it.sorts args) → (it : OpSig) × (o ≡ Some it) × AreArguments it.sorts args
found_op None args h = absurd h
found_op (Some it) args h = (it, refl, h)

-- an operation of a judged line fits
pub done_fits : (sig : Signature) (world : World) (done : Done) → length world.replicas ≤ REPLICA_LIMIT → IsJudgedLine sig world (Do done) → FitsSignature sig done
done_fits sig world done few judged =
    let it = found_op (slice_get sig.ops done.op) done.args judged.3 in
    record {
      op = it.0;
      found = it.1;
      args = matched it.0.sorts done.args it.2;
      numbered = judged.0.0;
      few = up_to done.replica (length world.replicas) 32 judged.0.1 few;
      time = time_fits done.time judged.2;
    }

pub count_stays : (world : World) (line : Line) → length (after world line).replicas ≡ length world.replicas
count_stays world (Do done) = length-set world.replicas (done.replica - 1) (after_doing (replica_at world done.replica) done)
count_stays world (Ship r p) = refl
count_stays world (Deliver p r) = length-set world.replicas (r - 1) (merged (replica_at world r) (packet_at world p))
count_stays world (Ask r query args) = refl
count_stays world (Show r) = refl

pub stands_first : (sig : Signature) (n : ℕ) → n ≤ REPLICA_LIMIT → Stands sig [] (first_world n)
stands_first sig n few = record {
  facts = facts_first n;
  fit = λ one has. absurd has;
  few_replicas = subst (λ (m : ℕ). m ≤ REPLICA_LIMIT) (sym (length-replicate {A = Holder} n fresh)) few;
}

fit_with : (sig : Signature) (past : List Done) (world : World) (line : Line) → Stands sig past world → IsJudgedLine sig world line
    → (one : Done) → Has (done_with past line) one → FitsSignature sig one
fit_with sig past world (Do done) s judged one has =
    ⊎_elim (λ (old : Has past one). s.fit one old) (λ (same : done ≡ one). subst (λ (d : Done). FitsSignature sig d) same (done_fits sig world done s.few_replicas judged)) (either_last past done one has)
fit_with sig past world (Ship r p) s judged one has = s.fit one has
fit_with sig past world (Deliver p r) s judged one has = s.fit one has
fit_with sig past world (Ask r query args) s judged one has = s.fit one has
fit_with sig past world (Show r) s judged one has = s.fit one has

pub stands_on : (sig : Signature) (past : List Done) (world : World) (line : Line) → Stands sig past world → IsJudgedLine sig world line → Stands sig (done_with past line) (after world line)
stands_on sig past world line s judged = record {
  facts = facts_on sig past world line s.facts judged;
  fit = fit_with sig past world line s judged;
  few_replicas = subst (λ (m : ℕ). m ≤ REPLICA_LIMIT) (sym (count_stays world line)) s.few_replicas;
}

pub all_of_has : {X : Type 0} (P : X → Type 0) (xs : List X) → ((x : X) → Has xs x → P x) → All P xs
all_of_has P [] h = All-nil P
all_of_has P (x ∷ xs) h = All-cons P x xs (h x (inl refl)) (all_of_has P xs (λ y has. h y (inr has)))

counted : {X : Type 0} (xs : List X) → total (λ (x : X). 1) xs ≡ length xs
counted [] = refl
counted (x ∷ xs) = (let h = counted xs in omega arith)

-- a list without repeats isn't longer than one that has all of it
pub not_longer : {X : Type 0} (xs ys : List X) → IsOnce xs → ((x : X) → Has xs x → Has ys x) → length xs ≤ length ys
not_longer {X} xs ys once among =
    let h = total_among (λ (x : X). 1) xs ys once (λ x has. inr (among x has)) in
    let mine = counted xs in
    let theirs = counted ys in
    omega arith

-- what a holder absorbed fits
pub absorbed_fit : (sig : Signature) (past : List Done) (world : World) (holder : Holder) → Stands sig past world → IsFront past holder → All (FitsSignature sig) holder.absorbed
absorbed_fit sig past world holder s front = all_of_has (FitsSignature sig) holder.absorbed (λ one has. s.fit one (front.was_done one has))

pub absorbed_few : (past : List Done) (holder : Holder) (most : ℕ) → length past ≤ most → IsFront past holder → length holder.absorbed ≤ most
absorbed_few past holder most few front = up_to (length holder.absorbed) (length past) most (not_longer holder.absorbed past front.once front.was_done) few
