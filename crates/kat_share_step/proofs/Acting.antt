-- The marks of a replica after its actions.
use Rattle.std.proofs.Common.{◌≡◌, ℕ, suc, ◌+◌, ◌≤◌, ◌==◌, max, Bool, true, false, cond, List, [], ◌∷◌, ◌++◌, length, refl, sym, ◌∙◌, ap, subst, append-nil, arith, None}
use Rattle.std.specs.List.{AllByRecursion}
use Rattle.kat_actions.specs.Texts.{FitsSignature}
use Rattle.kat_actions.specs.declared.calls.Call.{Call}
use Rattle.kat_actions.specs.declared.calls.Verb.TheVariants.{Do}
use Rattle.kat_design.specs.Designs.{DesignForm}
use Rattle.kat_design.specs.Sorted.{IsWellSorted}
use Rattle.kat_difference.specs.Marks.{AreMarks, latest}
use Rattle.kat_difference.proofs.Latest.{marks_last}
use Rattle.kat_lattice.specs.Tallies.{Sums, sum_of, tallies_joined}
use Rattle.kat_node.specs.Nodes.{AreSums, IsNode}
use Rattle.kat_node.specs.declared.nodes.Node.{Node}
use Rattle.kat_share.specs.declared.shares.Share.{Share}
use Rattle.kat_step.specs.Limits.{first_refusal}
use Rattle.kat_step.specs.Steps.{done_from, with_actions}
use Rattle.kat_type.specs.declared.done.Done.{Done}
use Rattle.kat_share_step.specs.Keeping.{HasOperations}
use Rattle.kat_share_step.specs.Steps.{marks_after, with_share_actions}
use Rattle.kat_share_step.proofs.Merging.{Known}
use Rattle.kat_share_step.proofs.Sums.{one_mark, sums_joined, sums_tally}

-- what is known of actions (kat_step)
pub record ActionsKeep : Type 0 where
  pub number : (d : DesignForm) (node : Node) (actions : List Call) → (with_actions d node actions).number ≡ node.number
  pub clock : (d : DesignForm) (node : Node) (actions : List Call) → (with_actions d node actions).replica.clock ≡ node.replica.clock + length actions

-- what an operation adds to the latest times
abbrev told : ℕ → Done → ℕ
told replica one = cond (one.replica == replica) one.time 0

latest_both : (replica : ℕ) (xs ys : List Done) → latest replica (xs ++ ys) ≡ max (latest replica xs) (latest replica ys)
latest_both replica [] ys = (let z : latest replica ys ≡ max 0 (latest replica ys) = omega arith in z)
latest_both replica (x ∷ xs) ys =
    let rest : latest replica (xs ++ ys) ≡ max (latest replica xs) (latest replica ys) = latest_both replica xs ys in
    let z : max (told replica x) (latest replica (xs ++ ys)) ≡ max (max (told replica x) (latest replica xs)) (latest replica ys) = omega (arith, rest) in
    z

-- the last of the operations of some actions
abbrev last_at : ℕ → ℕ → Call → ℕ → Done
last_at number clock call more = record { replica = number; time = (clock + 1) + more; op = call.item; args = call.args }

-- a time of a replica, seen from any replica
seen : (b : Bool) (time more : ℕ) → max (cond b time 0) (cond b (time + more) 0) ≡ cond b (time + more) 0
seen true time more = (let z : max time (time + more) ≡ time + more = omega arith in z)
seen false time more = (let z : max 0 0 ≡ 0 = omega arith in z)

nothing_more : (time : ℕ) → time ≡ time + 0
nothing_more time = omega arith

one_more : (time more : ℕ) → ((time + 1) + more) ≡ time + suc more
one_more time more = omega arith

latest_from : (replica number clock : ℕ) (call : Call) (calls : List Call)
    → latest replica (done_from number clock (call ∷ calls)) ≡ cond (number == replica) ((clock + 1) + length calls) 0
latest_from replica number clock call [] =
    let z : max (cond (number == replica) (clock + 1) 0) 0 ≡ cond (number == replica) (clock + 1) 0 = omega arith in
    z ∙ ap (λ (n : ℕ). cond (number == replica) n 0) (nothing_more (clock + 1))
latest_from replica number clock call (next ∷ calls) =
    let rest : latest replica (done_from number (clock + 1) (next ∷ calls)) ≡ cond (number == replica) (((clock + 1) + 1) + length calls) 0 = latest_from replica number (clock + 1) next calls in
    ap (max (cond (number == replica) (clock + 1) 0)) (rest ∙ ap (λ (n : ℕ). cond (number == replica) n 0) (one_more (clock + 1) (length calls)))
    ∙ seen (number == replica) (clock + 1) (suc (length calls))

-- the marks with the replica's clock as its own mark
marks_acted : (xs : List Done) (marks : Sums) (number clock : ℕ) (call : Call) (calls : List Call) (n time : ℕ) → AreSums marks → n ≡ number → time ≡ clock + length (call ∷ calls)
    → AreMarks marks xs → AreMarks (tallies_joined marks ((n, time) ∷ [])) (xs ++ done_from number clock (call ∷ calls))
marks_acted xs marks number clock call calls n time sums n_is time_is h =
    let one : Done = last_at number clock call (length calls) in
    let last : AreMarks (tallies_joined marks ((one.replica, one.time) ∷ [])) (xs ++ one ∷ []) = marks_last xs marks one (sums_tally marks sums) (omega arith) h in
    let time_one : time ≡ one.time = (let e : time ≡ clock + suc (length calls) = time_is in omega (arith, e)) in
    let same : ◌≡◌ {A = Sums} ((n, time) ∷ []) ((one.replica, one.time) ∷ []) = (λ i. (n_is i, time_one i) ∷ []) in
    record {
      each = λ replica.
          let a : sum_of (tallies_joined marks ((one.replica, one.time) ∷ [])) replica ≡ latest replica (xs ++ one ∷ []) = last.each replica in
          let b : latest replica (xs ++ one ∷ []) ≡ max (latest replica xs) (max (told replica one) 0) = latest_both replica xs (one ∷ []) in
          let c : latest replica (xs ++ done_from number clock (call ∷ calls)) ≡ max (latest replica xs) (latest replica (done_from number clock (call ∷ calls))) =
          latest_both replica xs (done_from number clock (call ∷ calls)) in
          let e : latest replica (done_from number clock (call ∷ calls)) ≡ told replica one = latest_from replica number clock call calls in
          ap (λ (t : Sums). sum_of (tallies_joined marks t) replica) same ∙ (let z : sum_of (tallies_joined marks ((one.replica, one.time) ∷ [])) replica ≡ latest replica (xs ++ done_from number clock (call ∷ calls)) = omega (arith, a, b, c, e) in z);
    }

-- the marks of a replica after its actions
pub marks_after_has : ActionsKeep → (d : DesignForm) (node : Node) (marks : Sums) (has : List Done) (actions : List Call) → AreSums marks → AreMarks marks has
    → AreMarks (marks_after marks (with_actions d node actions) actions) (has ++ done_from node.number node.replica.clock actions)
marks_after_has act d node marks has [] sums h = subst (λ (xs : List Done). AreMarks marks xs) (sym (append-nil has)) h
marks_after_has act d node marks has (call ∷ calls) sums h =
    let after : Node = with_actions d node (call ∷ calls) in
    marks_acted has marks node.number node.replica.clock call calls after.number after.replica.clock sums (act.number d node (call ∷ calls)) (act.clock d node (call ∷ calls)) h

pub marks_after_sums : Known → ActionsKeep → (d : DesignForm) (node : Node) (marks : Sums) (actions : List Call) → IsNode d (with_actions d node actions) → AreSums marks
    → AreSums (marks_after marks (with_actions d node actions) actions)
marks_after_sums k act d node marks [] is sums = sums
marks_after_sums k act d node marks (call ∷ calls) is sums =
    let after : Node = with_actions d node (call ∷ calls) in
    let clock : after.replica.clock ≡ node.replica.clock + length (call ∷ calls) = act.clock d node (call ∷ calls) in
    let begun : 1 ≤ after.replica.clock = (let e : after.replica.clock ≡ node.replica.clock + suc (length calls) = clock in omega (arith, e)) in
    sums_joined k.kept marks ((after.number, after.replica.clock) ∷ []) (tallies_joined marks ((after.number, after.replica.clock) ∷ [])) sums
    (one_mark after.number after.replica.clock is.least is.most begun is.clock) refl

-- a share after its actions has them too
pub acted_has : Known → ActionsKeep → (d : DesignForm) (share : Share) (has : List Done) (actions : List Call) → IsWellSorted d → HasOperations d share has
    → AllByRecursion (FitsSignature Do d.sig) actions → first_refusal d share.node actions ≡ None
    → HasOperations d (with_share_actions d share actions) (has ++ done_from share.node.number share.node.replica.clock actions)
acted_has k act d share has actions sorted is fit passed =
    let after = k.steps d (record { node = share.node; has = has }) [] actions sorted (is.state, tt) (tt, tt) fit passed in
    record {
      state = after;
      marks = marks_after_has act d share.node share.marks has actions is.sums is.marks;
      sums = marks_after_sums k act d share.node share.marks actions after.node is.sums;
    }
