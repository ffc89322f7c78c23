-- What the replica of a step has, of all that was done so far, action by action.
use Rattle.std.proofs.Common.{◌≡◌, ℕ, ◌+◌, ◌<◌, ◌≤◌, ⊎_elim, List, [], ◌∷◌, ◌++◌, sym, ◌∙◌, ap, subst, append_assoc, append-nil, arith, None}
use Rattle.std.specs.Cmp.{IsTotalOrder}
use Rattle.std.specs.List.{AllByRecursion}
use Rattle.kat_num.specs.Orders.{value_order}
use Rattle.kat_lattice.specs.Sets.{TellsApart}
use Rattle.kat_script.specs.Facts.{IsFront}
use Rattle.kat_script.specs.World.{Holder, after_doing}
use Rattle.kat_script.proofs.Fronts.{front_did, front_merged, front_more}
use Rattle.kat_type.specs.Lists.{Has}
use Rattle.kat_type.specs.Unions.{united}
use Rattle.kat_type.specs.declared.done.Done.{Done}
use Rattle.kat_type.specs.declared.signatures.Signature.{Signature}
use Rattle.kat_type.proofs.Lists.{either_last, has_front, has_last}
use Rattle.kat_type.proofs.Unions.{has_mine}
use Rattle.kat_design.specs.Designs.{DesignForm}
use Rattle.kat_design.specs.Fitting.{FitsSignature}
use Rattle.kat_design.specs.Sorted.{EachHas, IsWellSorted}
use Rattle.kat_actions.specs.Texts as calls
use Rattle.kat_actions.specs.declared.calls.Call.{Call}
use Rattle.kat_actions.specs.declared.calls.Verb.TheVariants.{Do}
use Rattle.kat_node.specs.Nodes.{IsNode}
use Rattle.kat_node.specs.Packets.{all_united, with_packet, with_packets}
use Rattle.kat_node.specs.declared.nodes.Node.{Node}
use Rattle.kat_step.specs.Limits.{first_refusal}
use Rattle.kat_step.specs.Runs.{File, lists_of, nodes_of, with_actions_done}
use Rattle.kat_step.specs.Steps.{done_by, done_from, with_action, with_actions}
use Rattle.kat_step.proofs.Acting.{action_fits, first_none, passed_early, passed_kept}

-- a node with the operations that it has
abbrev pub held : Node → List Done → Holder
held node has = record { clock = node.replica.clock; absorbed = has }

abbrev pub holder : File → Holder
holder file = held file.node file.has

-- Once these operations were done: they fit, their times are above 0, time and replica tell them apart; the replica of
-- this number has all that it did, and a prefix of them; and each file has a prefix of them.
pub record Stands (sig : Signature) (files : List File) (number : ℕ) (past : List Done) (mine : Holder) : Type 0 where
  pub fits : (one : Done) → Has past one → FitsSignature sig one
  pub timed : (one : Done) → Has past one → 0 < one.time
  pub apart : (one other : Done) → Has past one → Has past other → one.replica ≡ other.replica → one.time ≡ other.time → one ≡ other
  pub own : (one : Done) → Has past one → one.replica ≡ number → Has mine.absorbed one
  pub front : IsFront past mine
  pub fronts : (file : File) → Has files file → IsFront past (holder file)

at_most_then : (a b c : ℕ) → a ≤ b → b < c → a < c
at_most_then a b c l m = omega arith

not_before_itself : (a b : ℕ) → a < b → a ≡ b → ⊥
not_before_itself a b l e = omega arith

above : (a b : ℕ) → a < b → 0 < b
above a b l = omega arith

-- one operation more at the replica
one_more : (sig : Signature) (files : List File) (past : List Done) (mine : Holder) (new : Done) → Stands sig files new.replica past mine → FitsSignature sig new → mine.clock < new.time
    → Stands sig files new.replica (past ++ new ∷ []) (after_doing mine new)
one_more sig files past mine new s fits later =
    let before : (one : Done) → Has past one → one.replica ≡ new.replica → one.time < new.time =
    λ one has same. at_most_then one.time mine.clock new.time (s.front.within one (s.own one has same)) later in
    record {
      fits = λ one has. ⊎_elim (λ (old : Has past one). s.fits one old) (λ (same : new ≡ one). subst (FitsSignature sig) same fits) (either_last past new one has);
      timed = λ one has. ⊎_elim (λ (old : Has past one). s.timed one old) (λ (same : new ≡ one). subst (λ (d : Done). 0 < d.time) same (above mine.clock new.time later)) (either_last past new one has);
      apart = λ one other h k r t. ⊎_elim
          (λ (old : Has past one). ⊎_elim (λ (old_too : Has past other). s.apart one other old old_too r t)
          (λ (same : new ≡ other). absurd (not_before_itself one.time new.time (before one old (r ∙ ap (λ (d : Done). d.replica) (sym same))) (t ∙ ap (λ (d : Done). d.time) (sym same))))
          (either_last past new other k))
          (λ (same : new ≡ one). ⊎_elim
          (λ (old : Has past other). absurd (not_before_itself other.time new.time (before other old (sym r ∙ ap (λ (d : Done). d.replica) (sym same))) (sym t ∙ ap (λ (d : Done). d.time) (sym same))))
          (λ (same_too : new ≡ other). sym same ∙ same_too)
          (either_last past new other k))
          (either_last past new one h);
      own = λ one has is. ⊎_elim (λ (old : Has past one). has_front mine.absorbed (new ∷ []) one (s.own one old is))
          (λ (same : new ≡ one). subst (λ (d : Done). Has (mine.absorbed ++ new ∷ []) d) same (has_last mine.absorbed new)) (either_last past new one has);
      front = front_did past mine new s.front later s.own;
      fronts = λ file has. front_more past (holder file) new (s.fronts file has) before;
    }

next_time : (clock : ℕ) → clock < clock + 1
next_time clock = omega arith

-- all actions
pub record Acted (d : DesignForm) (files : List File) (past : List Done) (node : Node) (has : List Done) (actions : List Call) : Type 0 where
  pub stands : Stands d.sig files node.number (past ++ done_from node.number node.replica.clock actions) (holder (with_actions_done d node has actions))
  pub is : IsNode d (with_actions d node actions)

regrouped : (sig : Signature) (files : List File) (number clock : ℕ) (past has : List Done) (new : Done) (more : List Done) → Stands sig files number ((past ++ new ∷ []) ++ more) (record { clock = clock; absorbed = (has ++ new ∷ []) ++ more })
    → Stands sig files number (past ++ new ∷ more) (record { clock = clock; absorbed = has ++ new ∷ more })
regrouped sig files number clock past has new more s =
    subst (λ (l : List Done). Stands sig files number (past ++ new ∷ more) (record { clock = clock; absorbed = l })) (append_assoc has (new ∷ []) more)
    (subst (λ (l : List Done). Stands sig files number l (record { clock = clock; absorbed = (has ++ new ∷ []) ++ more })) (append_assoc past (new ∷ []) more) s)

pub acted : IsTotalOrder value_order → TellsApart value_order → (d : DesignForm) (files : List File) (past : List Done) (node : Node) (has : List Done) (actions : List Call) → IsWellSorted d → IsNode d node
    → AllByRecursion (calls.FitsSignature Do d.sig) actions → first_refusal d node actions ≡ None → Stands d.sig files node.number past (held node has)
    → Acted d files past node has actions
acted total apart d files past node has [] sorted is fit none s = record {
  stands = subst (λ (l : List Done). Stands d.sig files node.number (past ++ []) (held node l)) (sym (append-nil has))
      (subst (λ (l : List Done). Stands d.sig files node.number l (held node has)) (sym (append-nil past)) s);
  is = is;
}
acted total apart d files past node has (call ∷ actions) sorted is fit none s =
    let new = done_by node call in
    let both = first_none d node call actions none in
    let early = passed_early d node call both.0 in
    let step = one_more d.sig files past (held node has) new s (action_fits d.sig call node.number node.replica.clock fit.0 is.least is.most early) (next_time node.replica.clock) in
    let more = acted total apart d files (past ++ new ∷ []) (with_action d node call) (has ++ new ∷ []) actions sorted (passed_kept total apart d node call sorted is fit.0 both.0) fit.1 both.1 step in
    record {
      stands = regrouped d.sig files node.number (with_actions d node (call ∷ actions)).replica.clock past has new (done_from node.number (node.replica.clock + 1) actions) more.stands;
      is = more.is;
    }

-- packets
pub packets_front : (past : List Done) (node : Node) (has : List Done) (packets : List File) → IsFront past (held node has) → EachHas (λ (p : File). IsFront past (holder p)) packets
    → IsFront past (held (with_packets node (nodes_of packets)) (all_united has (lists_of packets)))
packets_front past node has [] h each = h
packets_front past node has (p ∷ packets) h each =
    packets_front past (with_packet node p.node) (united has p.has) packets (front_merged past (held node has) (holder p) h each.0) each.1

pub has_all : (xs : List Done) (lists : List (List Done)) (one : Done) → Has xs one → Has (all_united xs lists) one
has_all xs [] one has = has
has_all xs (ys ∷ lists) one has = has_all (united xs ys) lists one (has_mine xs ys one has)
