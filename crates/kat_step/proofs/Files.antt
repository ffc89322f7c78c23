-- Files that calls alone wrote are the states of the operations that they have.
use Rattle.std.proofs.Common.{◌≡◌, ℕ, ◌+◌, ◌<◌, ◌≤◌, inl, inr, ⊎_elim, Bool, true, false, cond, List, [], ◌∷◌, ◌++◌, map, refl, sym, ◌∙◌, ap, subst, arith, None, Some}
use Rattle.std.specs.Prelude.{◌==◌}
use Rattle.std.specs.Cmp.{IsTotalOrder}
use Rattle.std.specs.List.{AllByRecursion}
use Rattle.std.proofs.lemmas.Bool.{eqb-true, eq-eqb}
use Rattle.kat_num.specs.Orders.{value_order}
use Rattle.kat_lattice.specs.Sets.{TellsApart}
use Rattle.kat_script.specs.Facts.{IsFront}
use Rattle.kat_script.specs.World.{Holder}
use Rattle.kat_script.proofs.Fronts.{fronts_nest, front_fresh}
use Rattle.kat_type.specs.Lists.{Has}
use Rattle.kat_type.specs.Unions.{AreAmong}
use Rattle.kat_type.specs.declared.done.Done.{Done}
use Rattle.kat_type.proofs.Lists.{has_either}
use Rattle.kat_design.specs.Denotations.{denotation_of, design_meaning}
use Rattle.kat_design.specs.Designs.{DesignForm}
use Rattle.kat_design.specs.Fitting.{FitsSignature}
use Rattle.kat_design.specs.Meanings.{Means, are_kin}
use Rattle.kat_design.specs.Parts.{PartsKin}
use Rattle.kat_design.specs.Sorted.{EachHas, IsWellSorted}
use Rattle.kat_actions.specs.Texts as calls
use Rattle.kat_actions.specs.declared.calls.Call.{Call}
use Rattle.kat_actions.specs.declared.calls.Verb.TheVariants.{Do}
use Rattle.kat_node.specs.Nodes.{IsNode}
use Rattle.kat_node.specs.Packets.{AreAllNested, EachNested, all_united, parts_of, with_packets}
use Rattle.kat_node.proofs.Each.{each_by}
use Rattle.kat_node.proofs.Uniting.{all_operations, with_packets_are}
use Rattle.kat_step.specs.Limits.{first_refusal}
use Rattle.kat_step.specs.Runs.{AreNear, AreWritten, File, IsPrefix, IsStateFile, begun, last_of, lists_of, new_file, nodes_of, none, stepped, stepped_file}
use Rattle.kat_step.specs.Steps.{done_at, done_from}
use Rattle.kat_step.proofs.Acting.{actions_denote, actions_number, begins, packets_number}
use Rattle.kat_step.proofs.Fronts.{Stands, acted, has_all, held, holder, packets_front}

-- all that was done so far, by files that were written
pub record Keeps (d : DesignForm) (files : List File) : Type 0 where
  pub past : List Done
  pub fits : (one : Done) → Has past one → FitsSignature d.sig one
  pub timed : (one : Done) → Has past one → 0 < one.time
  pub apart : (one other : Done) → Has past one → Has past other → one.replica ≡ other.replica → one.time ≡ other.time → one ≡ other
  pub own : (file : File) (one : Done) → last_of one.replica files ≡ Some file → Has past one → Has file.has one
  pub known : (one : Done) → Has past one → last_of one.replica files ≡ None → ⊥
  pub fronts : (file : File) → Has files file → IsFront past (holder file)
  pub nodes : (file : File) → Has files file → IsNode d file.node
  pub states : (file : File) → Has files file → parts_of file.node ≡ denotation_of d file.has

none_kept : (d : DesignForm) → Keeps d []
none_kept d = record {
  past = [];
  fits = λ one h. absurd h;
  timed = λ one h. absurd h;
  apart = λ one other h k r t. absurd h;
  own = λ file one e h. absurd h;
  known = λ one h e. absurd h;
  fronts = λ file h. absurd h;
  nodes = λ file h. absurd h;
  states = λ file h. absurd h;
}

some_none : {X : Type 0} (x : X) → Some x ≡ None → ⊥
some_none x e = cc

-- the newest file is the last of its number, and no other is
last_by : (P : File → Type 0) (new : File) (files : List File) (number : ℕ) (file : File) (b : Bool) → (new.node.number == number) ≡ b → cond b (Some new) (last_of number files) ≡ Some file
    → (new.node.number ≡ number → P new) → ((number ≡ new.node.number → ⊥) → last_of number files ≡ Some file → P file) → P file
last_by P new files number file true e is here there = let same : new ≡ file = cc in subst P same (here (eqb-true new.node.number number e))
last_by P new files number file false e is here there =
    there (λ same. let t : true ≡ false = sym (eq-eqb new.node.number number (sym same)) ∙ e in cc) is

none_by : (new : File) (files : List File) (number : ℕ) (b : Bool) → (new.node.number == number) ≡ b → cond b (Some new) (last_of number files) ≡ None → (last_of number files ≡ None) × (number ≡ new.node.number → ⊥)
none_by new files number true e is = absurd (some_none new is)
none_by new files number false e is = (is, λ same. let t : true ≡ false = sym (eq-eqb new.node.number number (sym same)) ∙ e in cc)

-- a new replica
begun_kept : (d : DesignForm) (files : List File) (number : ℕ) → IsWellSorted d → Keeps d files → 1 ≤ number → number ≤ 32 → last_of number files ≡ None → Keeps d (new_file d number ∷ files)
begun_kept d files number sorted k low high unused =
    let new = new_file d number in
    record {
      past = k.past;
      fits = k.fits;
      timed = k.timed;
      apart = k.apart;
      own = λ file one e h. last_by (λ (f : File). Has f.has one) new files one.replica file (number == one.replica) refl e
          (λ same. absurd (k.known one h (subst (λ n. last_of n files ≡ None) same unused)))
          (λ other is. k.own file one is h);
      known = λ one h e. k.known one h (none_by new files one.replica (number == one.replica) refl e).0;
      fronts = λ file h. ⊎_elim (λ (same : new ≡ file). subst (λ (f : File). IsFront k.past (holder f)) same (front_fresh k.past)) (λ (old : Has files file). k.fronts file old) h;
      nodes = λ file h. ⊎_elim (λ (same : new ≡ file). subst (λ (f : File). IsNode d f.node) same (begins d number sorted low high)) (λ (old : Has files file). k.nodes file old) h;
      states = λ file h. ⊎_elim (λ (same : new ≡ file). subst (λ (f : File). parts_of f.node ≡ denotation_of d f.has) same refl) (λ (old : Has files file). k.states file old) h;
    }

-- lists of files are nested
each_nested : (past : List Done) → ((one : Done) → Has past one → 0 < one.time) → (mine : Holder) (packets : List File) → IsFront past mine → EachHas (λ (p : File). IsFront past (holder p)) packets → EachNested mine.absorbed (lists_of packets)
each_nested past timed mine [] h each = tt
each_nested past timed mine (p ∷ packets) h each = (each.0.once, fronts_nest past mine (holder p) timed h each.0, each_nested past timed mine packets h each.1)

all_nested : (past : List Done) → ((one : Done) → Has past one → 0 < one.time) → (mine : Holder) (packets : List File) → IsFront past mine → EachHas (λ (p : File). IsFront past (holder p)) packets → AreAllNested mine.absorbed (lists_of packets)
all_nested past timed mine [] h each = tt
all_nested past timed mine (p ∷ packets) h each =
    (each.0.once, fronts_nest past mine (holder p) timed h each.0, each_nested past timed mine packets h each.1, all_nested past timed (holder p) packets each.0 each.1)

pub same_lists : (d : DesignForm) (packets : List File) → EachHas (λ (p : File). parts_of p.node ≡ denotation_of d p.has) packets → map parts_of (nodes_of packets) ≡ map (denotation_of d) (lists_of packets)
same_lists d [] each = refl
same_lists d (p ∷ packets) each =
    let first = each.0 in
    let rest = same_lists d packets each.1 in
    λ i. first i ∷ rest i

pub nodes_each : (d : DesignForm) (packets : List File) → EachHas (λ (p : File). IsNode d p.node) packets → EachHas (IsNode d) (nodes_of packets)
nodes_each d [] each = tt
nodes_each d (p ∷ packets) each = (each.0, nodes_each d packets each.1)

done_replica : (number clock : ℕ) (actions : List Call) (one : Done) → Has (done_from number clock actions) one → one.replica ≡ number
done_replica number clock [] one h = absurd h
done_replica number clock (call ∷ actions) one h = ⊎_elim (λ (same : done_at number clock call ≡ one). ap (λ (d : Done). d.replica) (sym same)) (λ rest. done_replica number (clock + 1) actions one rest) h

found_by : (new : File) (files : List File) (number : ℕ) (file : File) (b : Bool) → (new.node.number == number) ≡ b → cond b (Some new) (last_of number files) ≡ Some file
    → (last_of number files ≡ Some file → Has files file × (file.node.number ≡ number)) → Has (new ∷ files) file × (file.node.number ≡ number)
found_by new files number file true e is rest = let same : new ≡ file = cc in (inl same, ap (λ (f : File). f.node.number) (sym same) ∙ eqb-true new.node.number number e)
found_by new files number file false e is rest = let more = rest is in (inr more.0, more.1)

found_has : (files : List File) (number : ℕ) (file : File) → last_of number files ≡ Some file → Has files file × (file.node.number ≡ number)
found_has [] number file e = absurd cc
found_has (new ∷ files) number file e = found_by new files number file (new.node.number == number) refl e (λ is. found_has files number file is)

-- a replica that steps
pub stepped_kept : IsTotalOrder value_order → TellsApart value_order → (d : DesignForm) → Means (are_kin PartsKin) (design_meaning d) → (files : List File) (file : File) (packets : List File) (actions : List Call) → IsWellSorted d
    → Keeps d files → last_of file.node.number files ≡ Some file → EachHas (Has files) packets → AllByRecursion (calls.FitsSignature Do d.sig) actions
    → first_refusal d (with_packets file.node (nodes_of packets)) actions ≡ None → Keeps d (stepped_file d file packets actions ∷ files)
stepped_kept total tells d means files file packets actions sorted k last each fit passed =
    let old = (found_has files file.node.number file last).0 in
    let united = with_packets file.node (nodes_of packets) in
    let has = all_united file.has (lists_of packets) in
    let fronts = each_by (Has files) (λ (p : File). IsFront k.past (holder p)) (λ p h. k.fronts p h) packets each in
    let number : united.number ≡ file.node.number = packets_number file.node (nodes_of packets) in
    let is = with_packets_are total d file.node (nodes_of packets) sorted (k.nodes file old) (nodes_each d packets (each_by (Has files) (λ (p : File). IsNode d p.node) (λ p h. k.nodes p h) packets each)) in
    let stands : Stands d.sig files united.number k.past (held united has) = record {
      fits = k.fits;
      timed = k.timed;
      apart = k.apart;
      own = λ one h same. has_all file.has (lists_of packets) one (k.own file one (subst (λ n. last_of n files ≡ Some file) (sym (same ∙ number)) last) h);
      front = packets_front k.past file.node file.has packets (k.fronts file old) fronts;
      fronts = k.fronts;
    } in
    let done = acted total tells d files k.past united has actions sorted is fit passed stands in
    let new = stepped_file d file packets actions in
    let named : new.node.number ≡ united.number = actions_number d united actions in
    let state : parts_of united ≡ denotation_of d has =
    all_operations d means file.has (lists_of packets) file.node (nodes_of packets) (k.fronts file old).once (all_nested k.past k.timed (holder file) packets (k.fronts file old) fronts)
    (k.states file old) (same_lists d packets (each_by (Has files) (λ (p : File). parts_of p.node ≡ denotation_of d p.has) (λ p h. k.states p h) packets each)) in
    let more = done_from united.number united.replica.clock actions in
    record {
      past = k.past ++ more;
      fits = done.stands.fits;
      timed = done.stands.timed;
      apart = done.stands.apart;
      own = λ f one e h. last_by (λ (g : File). Has g.has one) new files one.replica f (new.node.number == one.replica) refl e
          (λ same. done.stands.own one h (sym same ∙ named))
          (λ other found. ⊎_elim (λ (before : Has k.past one). k.own f one found before)
          (λ (now : Has more one). absurd (other (done_replica united.number united.replica.clock actions one now ∙ sym named))) (has_either k.past more one h));
      known = λ one h e.
          let nothing = none_by new files one.replica (new.node.number == one.replica) refl e in
          ⊎_elim (λ (before : Has k.past one). k.known one before nothing.0)
          (λ (now : Has more one). nothing.1 (done_replica united.number united.replica.clock actions one now ∙ sym named)) (has_either k.past more one h);
      fronts = λ f h. ⊎_elim (λ (same : new ≡ f). subst (λ (g : File). IsFront (k.past ++ more) (holder g)) same done.stands.front) (λ (before : Has files f). done.stands.fronts f before) h;
      nodes = λ f h. ⊎_elim (λ (same : new ≡ f). subst (λ (g : File). IsNode d g.node) same done.is) (λ (before : Has files f). k.nodes f before) h;
      states = λ f h. ⊎_elim (λ (same : new ≡ f). subst (λ (g : File). parts_of g.node ≡ denotation_of d g.has) same (actions_denote d means has united actions state)) (λ (before : Has files f). k.states f before) h;
    }

written_keep : IsTotalOrder value_order → TellsApart value_order → (d : DesignForm) → Means (are_kin PartsKin) (design_meaning d) → IsWellSorted d → (files : List File) → AreWritten d files → Keeps d files
written_keep total tells d means sorted _ none = none_kept d
written_keep total tells d means sorted _ (begun {files = files} number before low high unused) =
    begun_kept d files number sorted (written_keep total tells d means sorted files before) low high unused
written_keep total tells d means sorted _ (stepped {files = files} file packets actions before last each fit passed) =
    stepped_kept total tells d means files file packets actions sorted (written_keep total tells d means sorted files before) last each fit passed

pub files_are_states : IsTotalOrder value_order → TellsApart value_order → (d : DesignForm) → Means (are_kin PartsKin) (design_meaning d) → IsWellSorted d → (files : List File) → AreWritten d files
    → (file : File) → Has files file → IsStateFile d file
files_are_states total tells d means sorted files written file h =
    let k = written_keep total tells d means sorted files written in
    let front = k.fronts file h in
    record {
      node = k.nodes file h;
      legal = record {
        once = front.once;
        fits = λ one has. k.fits one (front.was_done one has);
        timed = λ one has. let some = k.timed one (front.was_done one has) in omega (arith, some);
        apart = λ one other has too. k.apart one other (front.was_done one has) (front.was_done other too);
      };
      within = front.within;
      state = k.states file h;
    }

-- one of two prefixes is a prefix of the other, origin by origin
prefix_of : (past : List Done) (a b : Holder) (origin : ℕ) → IsFront past a → IsFront past b → AreAmong origin a.absorbed b.absorbed → IsPrefix origin a.absorbed b.absorbed
prefix_of past a b origin h k among = record { among = among; closed = λ one early is also has there before. h.closed one early has (k.was_done early there) (also ∙ sym is) before }

pub files_are_near : IsTotalOrder value_order → TellsApart value_order → (d : DesignForm) → Means (are_kin PartsKin) (design_meaning d) → IsWellSorted d → (files : List File) → AreWritten d files
    → (some other : File) → Has files some → Has files other → AreNear some.has other.has
files_are_near total tells d means sorted files written some other h k origin =
    let all = written_keep total tells d means sorted files written in
    let a = all.fronts some h in
    let b = all.fronts other k in
    ⊎_elim (λ among. inl (prefix_of all.past (holder some) (holder other) origin a b among)) (λ among. inr (prefix_of all.past (holder other) (holder some) origin b a among))
    (fronts_nest all.past (holder some) (holder other) all.timed a b origin)
