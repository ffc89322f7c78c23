-- The file of a step is the state of what it has, if the files that it read are such states and near.
use Rattle.std.proofs.Common.{◌≡◌, ℕ, ◌+◌, ◌<◌, ◌≤◌, max, ◌⊎◌, inl, inr, ⊎_elim, ◌↔◌, List, [], ◌∷◌, length, refl, sym, ◌∙◌, ap, subst, arith, None}
use Rattle.std.specs.Cmp.{IsTotalOrder}
use Rattle.std.specs.List.{AllByRecursion}
use Rattle.kat_num.specs.Orders.{value_order}
use Rattle.kat_lattice.specs.Leaves.{max-assoc}
use Rattle.kat_lattice.specs.Sets.{TellsApart}
use Rattle.kat_type.specs.Lists.{Has, IsOnce}
use Rattle.kat_type.specs.Unions.{AreAmong, AreNested, united}
use Rattle.kat_type.specs.declared.done.Done.{Done}
use Rattle.kat_type.specs.declared.signatures.Signature.{Signature}
use Rattle.kat_type.proofs.Lists.{has_behind, has_either, has_front}
use Rattle.kat_type.proofs.Unions.{has_theirs, has_united, once_united}
use Rattle.kat_design.specs.Denotations.{denotation_of, design_meaning}
use Rattle.kat_design.specs.Designs.{DesignForm}
use Rattle.kat_design.specs.Meanings.{Means, are_kin}
use Rattle.kat_design.specs.Parts.{PartsKin}
use Rattle.kat_design.specs.Sorted.{EachHas, IsWellSorted}
use Rattle.kat_actions.specs.Texts as calls
use Rattle.kat_actions.specs.declared.calls.Call.{Call}
use Rattle.kat_actions.specs.declared.calls.Verb.TheVariants.{Do}
use Rattle.kat_node.specs.Nodes.{IsNode}
use Rattle.kat_node.specs.Packets.{AreAllNested, EachNested, all_united, parts_of, with_packet, with_packets}
use Rattle.kat_node.specs.declared.nodes.Node.{Node}
use Rattle.kat_node.proofs.Each.{each_by}
use Rattle.kat_node.proofs.Uniting.{all_operations, with_packets_are}
use Rattle.kat_step.specs.Limits.{first_refusal}
use Rattle.kat_step.specs.Runs.{AreAllNear, AreNear, File, IsLegal, IsStateFile, WasRead, greatest_clock, lists_of, nodes_of, stepped_file}
use Rattle.kat_step.specs.Steps.{done_from}
use Rattle.kat_step.proofs.Acting.{actions_clock, actions_denote, actions_number, packets_number}
use Rattle.kat_step.proofs.Files.{nodes_each, same_lists}
use Rattle.kat_step.proofs.Fronts.{Stands, acted, has_all, held}

-- near lists are nested
nested_of : {xs ys : List Done} → AreNear xs ys → AreNested xs ys
nested_of near origin = ⊎_elim (λ less. inl less.among) (λ more. inr more.among) (near origin)

each_nested : (d : DesignForm) (xs : List Done) (packets : List File) → EachHas (IsStateFile d) packets → EachHas (AreNear xs) (lists_of packets) → EachNested xs (lists_of packets)
each_nested d xs [] each near = tt
each_nested d xs (p ∷ packets) each near = (each.0.legal.once, nested_of near.0, each_nested d xs packets each.1 near.1)

all_nested : (d : DesignForm) (file : File) (packets : List File) → EachHas (IsStateFile d) packets → AreAllNear (lists_of (file ∷ packets)) → AreAllNested file.has (lists_of packets)
all_nested d file [] each near = tt
all_nested d file (p ∷ packets) each near =
    (each.0.legal.once, nested_of near.0.0, each_nested d file.has packets each.1 near.0.1, all_nested d p packets each.1 near.1)

-- any two files
turned : (xs ys : List Done) → AreNested xs ys → AreNested ys xs
turned xs ys nested origin = ⊎_elim (λ less. inr less) (λ more. inl more) (nested origin)

nested_with : (xs : List Done) (files : List File) → EachHas (AreNear xs) (lists_of files) → (other : File) → Has files other → AreNested xs other.has
nested_with xs (f ∷ files) near other (inl same) = subst (λ (g : File). AreNested xs g.has) same (nested_of near.0)
nested_with xs (f ∷ files) near other (inr rest) = nested_with xs files near.1 other rest
nested_with xs [] near other has = absurd has

any_two : (files : List File) → AreAllNear (lists_of files) → (some other : File) → Has files some → Has files other → AreNested some.has other.has
any_two [] near some other h k = absurd h
any_two (f ∷ files) near some other (inl same) (inl too) = subst (λ (g : File). AreNested some.has g.has) (sym same ∙ too) (λ origin. inl (λ one mine has. has))
any_two (f ∷ files) near some other (inl same) (inr k) = subst (λ (g : File). AreNested g.has other.has) same (nested_with f.has files near.0 other k)
any_two (f ∷ files) near some other (inr h) (inl too) = turned other.has some.has (subst (λ (g : File). AreNested g.has some.has) too (nested_with f.has files near.0 some h))
any_two (f ∷ files) near some other (inr h) (inr k) = any_two files near.1 some other h k

-- time and replica tell operations of two nested lists apart: both are in one of the two
told_apart : (sig : Signature) (xs ys : List Done) → IsLegal sig xs → IsLegal sig ys → AreNested xs ys → (one other : Done) → Has xs one → Has ys other → one.replica ≡ other.replica → one.time ≡ other.time → one ≡ other
told_apart sig xs ys legal legal_too nested one other h k r t =
    ⊎_elim (λ (less : AreAmong one.replica xs ys). legal_too.apart one other (less one refl h) k r t)
    (λ (more : AreAmong one.replica ys xs). legal.apart one other h (more other (sym r) k) r t) (nested one.replica)

-- clocks
max_none : (a : ℕ) → a ≡ max a 0
max_none a = omega arith

pub clock_united : (node : Node) (packets : List File) → (with_packets node (nodes_of packets)).replica.clock ≡ max node.replica.clock (greatest_clock packets)
clock_united node [] = max_none node.replica.clock
clock_united node (p ∷ packets) = clock_united (with_packet node p.node) packets ∙ max-assoc node.replica.clock p.node.replica.clock (greatest_clock packets)

-- the union of files has what one of them has
in_file : (xs : List Done) (packets : List File) (one : Done) → Has (all_united xs (lists_of packets)) one → Has xs one ⊎ WasRead packets one
in_file xs [] one h = inl h
in_file xs (p ∷ packets) one h =
    ⊎_elim (λ i. ⊎_elim (λ j. inl j) (λ j. inr (p, inl refl, j)) (has_united xs p.has one i)) (λ r. inr (r.0, inr r.1, r.2))
    (in_file (united xs p.has) packets one h)

was_read : (file : File) (packets : List File) (one : Done) → Has (all_united file.has (lists_of packets)) one → WasRead (file ∷ packets) one
was_read file packets one h = ⊎_elim (λ i. (file, inl refl, i)) (λ r. (r.0, inr r.1, r.2)) (in_file file.has packets one h)

in_union : (xs : List Done) (packets : List File) (read : File) (one : Done) → Has packets read → Has read.has one → Has (all_united xs (lists_of packets)) one
in_union xs [] read one there h = absurd there
in_union xs (p ∷ packets) read one (inl same) h =
    has_all (united xs p.has) (lists_of packets) one (has_theirs xs p.has one (subst (λ (f : File). Has f.has one) (sym same) h))
in_union xs (p ∷ packets) read one (inr there) h = in_union (united xs p.has) packets read one there h

read_united : (file : File) (packets : List File) (read : File) (one : Done) → Has (file ∷ packets) read → Has read.has one → Has (all_united file.has (lists_of packets)) one
read_united file packets read one there h =
    ⊎_elim (λ (same : file ≡ read). has_all file.has (lists_of packets) one (subst (λ (f : File). Has f.has one) (sym same) h))
    (λ (rest : Has packets read). in_union file.has packets read one rest h) there

pub stepped_has : (d : DesignForm) (file : File) (packets : List File) (actions : List Call) (one : Done)
    → Has (stepped_file d file packets actions).has one ↔ (WasRead (file ∷ packets) one ⊎ Has (done_from file.node.number (greatest_clock (file ∷ packets)) actions) one)
stepped_has d file packets actions one =
    let united = with_packets file.node (nodes_of packets) in
    let all = all_united file.has (lists_of packets) in
    let new = done_from united.number united.replica.clock actions in
    let same : new ≡ done_from file.node.number (greatest_clock (file ∷ packets)) actions =
    (λ i. done_from (packets_number file.node (nodes_of packets) i) (clock_united file.node packets i) actions) in (
      λ h. ⊎_elim (λ (old : Has all one). inl (was_read file packets one old)) (λ (done : Has new one). inr (subst (λ (l : List Done). Has l one) same done)) (has_either all new one h),
      λ h. ⊎_elim (λ (read : WasRead (file ∷ packets) one). has_front all new one (read_united file packets read.0 one read.1 read.2))
          (λ done. has_behind all new one (subst (λ (l : List Done). Has l one) (sym same) done)) h,
    )

once_all : (d : DesignForm) (xs : List Done) (packets : List File) → IsOnce xs → EachHas (IsStateFile d) packets → IsOnce (all_united xs (lists_of packets))
once_all d xs [] once each = once
once_all d xs (p ∷ packets) once each = once_all d (united xs p.has) packets (once_united xs p.has once each.0.legal.once) each.1

pub stepped_clock : (d : DesignForm) (file : File) (packets : List File) (actions : List Call)
    → (stepped_file d file packets actions).node.replica.clock ≡ greatest_clock (file ∷ packets) + length actions
stepped_clock d file packets actions =
    actions_clock d (with_packets file.node (nodes_of packets)) actions ∙ ap (λ n. n + length actions) (clock_united file.node packets)

pub stepped_number : (d : DesignForm) (file : File) (packets : List File) (actions : List Call) → (stepped_file d file packets actions).node.number ≡ file.node.number
stepped_number d file packets actions = actions_number d (with_packets file.node (nodes_of packets)) actions ∙ packets_number file.node (nodes_of packets)

below_left : (a b c : ℕ) → a ≤ b → a ≤ max b c
below_left a b c l = omega arith

below_right : (a b c : ℕ) → a ≤ c → a ≤ max b c
below_right a b c l = omega arith

up_to_greatest : (files : List File) (file : File) (time : ℕ) → Has files file → time ≤ file.node.replica.clock → time ≤ greatest_clock files
up_to_greatest [] file time there l = absurd there
up_to_greatest (f ∷ files) file time (inl same) l = below_left time f.node.replica.clock (greatest_clock files) (subst (λ (g : File). time ≤ g.node.replica.clock) (sym same) l)
up_to_greatest (f ∷ files) file time (inr there) l = below_right time f.node.replica.clock (greatest_clock files) (up_to_greatest files file time there l)

-- what holds of each file
of_each : {A : Type 0} (P : A → Type 0) (xs : List A) → EachHas P xs → (x : A) → Has xs x → P x
of_each P [] each x h = absurd h
of_each P (y ∷ xs) each x (inl same) = subst P same each.0
of_each P (y ∷ xs) each x (inr h) = of_each P xs each.1 x h

above_none : (a : ℕ) → 1 ≤ a → 0 < a
above_none a l = omega arith

least : (a : ℕ) → 0 < a → 1 ≤ a
least a l = omega arith

-- the replica has all operations of the union, and these are all that was done
stands : (d : DesignForm) (file : File) (packets : List File) → EachHas (IsStateFile d) (file ∷ packets) → AreAllNear (lists_of (file ∷ packets))
    → let united = with_packets file.node (nodes_of packets) in let all = all_united file.has (lists_of packets) in Stands d.sig [] united.number all (held united all)
stands d file packets each near =
    let united = with_packets file.node (nodes_of packets) in
    let all = all_united file.has (lists_of packets) in
    let of = of_each (IsStateFile d) (file ∷ packets) each in
    record {
      fits = λ one h. let read = was_read file packets one h in (of read.0 read.1).legal.fits one read.2;
      timed = λ one h. let read = was_read file packets one h in above_none one.time ((of read.0 read.1).legal.timed one read.2);
      apart = λ one other h k r t.
          let read = was_read file packets one h in
          let also = was_read file packets other k in
          told_apart d.sig read.0.has also.0.has (of read.0 read.1).legal (of also.0 also.1).legal (any_two (file ∷ packets) near read.0 also.0 read.1 also.1) one other read.2 also.2 r t;
      own = λ one h same. h;
      front = record {
        within = λ one h.
            let read = was_read file packets one h in
            subst (λ n. one.time ≤ n) (sym (clock_united file.node packets)) (up_to_greatest (file ∷ packets) read.0 one.time read.1 ((of read.0 read.1).within one read.2));
        was_done = λ one h. h;
        closed = λ one early h k r t. k;
        once = once_all d file.has packets each.0.legal.once each.1;
      };
      fronts = λ f h. absurd h;
    }

pub stepped_is : IsTotalOrder value_order → TellsApart value_order → (d : DesignForm) → Means (are_kin PartsKin) (design_meaning d) → (file : File) (packets : List File) (actions : List Call) → IsWellSorted d
    → EachHas (IsStateFile d) (file ∷ packets) → AreAllNear (lists_of (file ∷ packets)) → AllByRecursion (calls.FitsSignature Do d.sig) actions
    → first_refusal d (with_packets file.node (nodes_of packets)) actions ≡ None → IsStateFile d (stepped_file d file packets actions)
stepped_is total tells d means file packets actions sorted each near fit passed =
    let united = with_packets file.node (nodes_of packets) in
    let all = all_united file.has (lists_of packets) in
    let is = with_packets_are total d file.node (nodes_of packets) sorted each.0.node (nodes_each d packets (each_by (IsStateFile d) (λ (p : File). IsNode d p.node) (λ p h. h.node) packets each.1)) in
    let done = acted total tells d [] all united all actions sorted is fit passed (stands d file packets each near) in
    let state : parts_of united ≡ denotation_of d all =
    all_operations d means file.has (lists_of packets) file.node (nodes_of packets) each.0.legal.once (all_nested d file packets each.1 near) each.0.state
    (same_lists d packets (each_by (IsStateFile d) (λ (p : File). parts_of p.node ≡ denotation_of d p.has) (λ p h. h.state) packets each.1)) in
    record {
      node = done.is;
      legal = record {
        once = done.stands.front.once;
        fits = done.stands.fits;
        timed = λ one h. least one.time (done.stands.timed one h);
        apart = done.stands.apart;
      };
      within = done.stands.front.within;
      state = actions_denote d means all united actions state;
    }
