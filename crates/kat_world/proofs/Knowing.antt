-- Of all operations in the canonical order, those that are known are what a replica absorbed, arranged.
use Rattle.std.proofs.Common.{◌≡◌, ℕ, zero, suc, ◌-◌, ◌<◌, ◌≤◌, ◌⊎◌, inl, inr, ⊎_elim, List, [], ◌∷◌, ◌++◌, get_or, set, subst, arith}
use Rattle.std.specs.Prelude.{◌↔◌}
use Rattle.std.specs.declared.cmp.Ordering.TheVariants.{Less}
use Rattle.std.proofs.lemmas.Bool.{leb-true, le-leb}
use Rattle.std.proofs.lemmas.List.Kept.{AllPairs-filter}
use Rattle.kat_script.specs.Facts.{HoldsFronts, IsFront, done_in}
use Rattle.kat_script.specs.Judged.{AreJudged, IsJudgedLine}
use Rattle.kat_script.specs.World.{Holder, World, after, fresh, merged, packet_at, replica_at}
use Rattle.kat_script.specs.declared.script.Line.{Line}
use Rattle.kat_script.specs.declared.script.Line.TheVariants.{Do, Ship, Deliver, Ask, Show}
use Rattle.kat_type.proofs.Unions.{filter_has, has_filter, once_filter}
use Rattle.kat_type.specs.Arrangements.{AreApart, IsCanonical, canonical, canonical_cmp}
use Rattle.kat_type.specs.Lists.{Has, IsOnce}
use Rattle.kat_type.specs.Types.{TypeForm}
use Rattle.kat_type.specs.declared.done.Done.{Done}
use Rattle.kat_type.specs.declared.signatures.Signature.{Signature}
use Rattle.kat_type.proofs.Arranging.{one_canonical, order_canonical, sorted_canonical}
use Rattle.kat_world.specs.Tracked.{IsOrder, Times, Tracks, is_known, known_of, latest, times_at}

-- what is done later is later than the clock of its replica
clock_grows : (replicas : List Holder) (i : ℕ) (holder : Holder) → (get_or replicas i fresh).clock ≤ holder.clock
    → (j : ℕ) → (get_or replicas j fresh).clock ≤ (get_or (set replicas i holder) j fresh).clock
clock_grows [] i holder h j = omega arith
clock_grows (x ∷ replicas) zero holder h zero = h
clock_grows (x ∷ replicas) zero holder h (suc j) = omega arith
clock_grows (x ∷ replicas) (suc i) holder h zero = omega arith
clock_grows (x ∷ replicas) (suc i) holder h (suc j) = clock_grows replicas i holder h j

weaken : (a b : ℕ) → a < b → a ≤ b
weaken a b h = omega arith

clocks_grow : (sig : Signature) (world : World) (line : Line) → IsJudgedLine sig world line → (j : ℕ)
    → (get_or world.replicas j fresh).clock ≤ (get_or (after world line).replicas j fresh).clock
clocks_grow sig world (Do done) fit j =
    clock_grows world.replicas (done.replica - 1) (record { clock = done.time; absorbed = (replica_at world done.replica).absorbed ++ done ∷ [] })
    (weaken (replica_at world done.replica).clock done.time fit.1) j
clocks_grow sig world (Ship r p) fit j = omega arith
clocks_grow sig world (Deliver p r) fit j =
    clock_grows world.replicas (r - 1) (merged (replica_at world r) (packet_at world p)) (omega arith) j
clocks_grow sig world (Ask r query args) fit j = omega arith
clocks_grow sig world (Show r) fit j = omega arith

through : (a b c : ℕ) → a ≤ b → b < c → a < c
through a b c h k = omega arith

pub later_done : (sig : Signature) (world : World) (lines : List Line) → AreJudged sig world lines → (one : Done) → Has (done_in lines) one
    → (replica_at world one.replica).clock < one.time
later_done sig world [] judged one has = absurd has
later_done sig world (Do done ∷ lines) judged one (inl e) = subst (λ (d : Done). (replica_at world d.replica).clock < d.time) e judged.0.1
later_done sig world (Do done ∷ lines) judged one (inr has) =
    through (replica_at world one.replica).clock (replica_at (after world (Do done)) one.replica).clock one.time
    (clocks_grow sig world (Do done) judged.0 (one.replica - 1)) (later_done sig (after world (Do done)) lines judged.1 one has)
later_done sig world (Ship r p ∷ lines) judged one has =
    through (replica_at world one.replica).clock (replica_at (after world (Ship r p)) one.replica).clock one.time
    (clocks_grow sig world (Ship r p) judged.0 (one.replica - 1)) (later_done sig (after world (Ship r p)) lines judged.1 one has)
later_done sig world (Deliver p r ∷ lines) judged one has =
    through (replica_at world one.replica).clock (replica_at (after world (Deliver p r)) one.replica).clock one.time
    (clocks_grow sig world (Deliver p r) judged.0 (one.replica - 1)) (later_done sig (after world (Deliver p r)) lines judged.1 one has)
later_done sig world (Ask r q args ∷ lines) judged one has = later_done sig world lines judged.1 one has
later_done sig world (Show r ∷ lines) judged one has = later_done sig world lines judged.1 one has

not_both : (a b c : ℕ) → a ≤ b → b ≤ c → c < a → ⊥
not_both a b c h k l = omega arith

pub apart_in : (past : List Done) (world : World) (holder : Holder) → HoldsFronts past world → IsFront past holder → AreApart holder.absorbed
apart_in past world holder f front = λ one other has also r t. f.apart one other (front.was_done one has) (front.was_done other also) r t

-- all operations are those that were done and those that will be
Told : List Done → List Done → List Line → Type 0
Told all past left = (one : Done) → Has all one ↔ (Has past one ⊎ Has (done_in left) one)

pub known_arranged : (sig : Signature) (ty : TypeForm) (lines left : List Line) (order past : List Done) (world : World) (t : Times) (i : ℕ) → IsOnce (done_in lines) → AreApart (done_in lines)
    → IsOrder ty lines order → ((one : Done) → Has (done_in lines) one ↔ (Has past one ⊎ Has (done_in left) one)) → AreJudged sig world left
    → HoldsFronts past world → Tracks past world t
    → known_of (times_at t.replicas i) order ≡ canonical ty (get_or world.replicas i fresh).absorbed
known_arranged sig ty lines left order past world t i once apart sorted told judged f tr =
    let all : IsCanonical ty order (done_in lines) = sorted_canonical ty order (done_in lines) once apart sorted.moved sorted.sorted in
    let holder : Holder = get_or world.replicas i fresh in
    let times : List ℕ = times_at t.replicas i in
    let front : IsFront past holder = f.replicas i in
    one_canonical ty (known_of times order) (canonical ty holder.absorbed) holder.absorbed
    (record {
      arranges = record {
        once = once_filter (is_known times) order all.arranges.once;
        same = (
          λ one has.
              let kept = filter_has (is_known times) order one has in
              let early : one.time ≤ latest times one.replica = leb-true one.time (latest times one.replica) kept.1 in
              ⊎_elim
              (λ (was : Has past one). (tr.replicas i one was).1 early)
              (λ (will : Has (done_in left) one). absurd (not_both one.time (latest times one.replica) (replica_at world one.replica).clock early
              (tr.replicas_within i (one.replica - 1)) (later_done sig world left judged one will)))
              ((told one).0 (all.arranges.same.0 one kept.0)),
          λ one has.
              has_filter (is_known times) order one (all.arranges.same.1 one ((told one).1 (inl (front.was_done one has))))
              (le-leb one.time (latest times one.replica) ((tr.replicas i one (front.was_done one has)).0 has)),
        );
      };
      ascending = AllPairs-filter (λ earlier later. canonical_cmp ty earlier later ≡ Less) (is_known times) order all.ascending;
    })
    (order_canonical ty holder.absorbed (apart_in past world holder f front))
