-- What the code keeps is what the world has, and each judged line is ready.
use Rattle.std.proofs.Common.{◌≡◌, ℕ, zero, suc, ◌-◌, ◌^◌, ◌<◌, ◌≤◌, true, max, List, [], ◌∷◌, length, set, get_or, All, refl, sym, ◌∙◌, ap, subst, arith}
use Rattle.std.specs.Prelude.{map, replicate}
use Rattle.std.specs.List.{list_all}
use Rattle.std.proofs.lemmas.List as lists
use Rattle.std.proofs.lemmas.List.{length-map, map-set}
use Rattle.kat_num.specs.declared.values.TheConstants.{NUMBER_LIMIT}
use Rattle.kat_num.specs.declared.values.Value.{Value}
use Rattle.kat_design.specs.Answers.{answer_of}
use Rattle.kat_design.specs.Denotations.{component_meaning, denotation_of, design_meaning, part_of}
use Rattle.kat_design.specs.Designs.{ComponentForm, DesignForm}
use Rattle.kat_design.specs.Fitting.{FitsSignature}
use Rattle.kat_design.specs.Meanings.{Means, are_kin, joined_each, states_of}
use Rattle.kat_design.specs.Parts.{PartsKin, part_joined, parts_joined}
use Rattle.kat_design.specs.Small.{IsSmallPart, is_roomy_part}
use Rattle.kat_expr.proofs.Limits.{more_value}
use Rattle.kat_replica.specs.Texts.{state_text}
use Rattle.kat_replica.specs.declared.replicas.Packet.{Packet}
use Rattle.kat_replica.specs.declared.replicas.Replica.{Replica}
use Rattle.kat_script.specs.Judged.{HasQuery, IsJudgedLine, IsReplica}
use Rattle.kat_script.specs.World.{Holder, World, after, after_doing, first_world, fresh, merged, put, replica_at}
use Rattle.kat_script.specs.declared.script.Line.{Line}
use Rattle.kat_script.specs.declared.script.Line.TheVariants.{Do, Ship, Deliver, Ask, Show}
use Rattle.kat_script.proofs.Fronts.{fronts_nest}
use Rattle.kat_script.proofs.Matching.{map-put}
use Rattle.kat_type.specs.declared.done.Done.{Done}
use Rattle.kat_world.specs.Kept.{CanAsk, CanDo, IsReady, Keeps, did, first_keeps, kept_after, kept_at, kept_packet, kept_replica, kept_text, kept_world, replica_with, packet_with, shipped, shipped_at, took}
use Rattle.kat_world.specs.Lines.{line_text, show_text}
use Rattle.kat_world.specs.Texts.{ask_text}
use Rattle.kat_world.proofs.Going.{query_small}
use Rattle.kat_world.proofs.Standing.{Stands, absorbed_few, absorbed_fit, done_fits}

-- what is used of a design: its states mean what they should, and those of few operations that fit have small numbers
pub record Lawful (d : DesignForm) : Type 0 where
  pub means : Means (are_kin PartsKin) (design_meaning d)
  pub small : (ones : List Done) → All (FitsSignature d.sig) ones → length ones ≤ 100_000 → All IsSmallPart (denotation_of d ones)
  pub roomy : (ones : List Done) → All (FitsSignature d.sig) ones → length ones ≤ 100_000 → list_all is_roomy_part (denotation_of d ones) ≡ true

place_fits : (r n : ℕ) → 1 ≤ r → r ≤ n → r - 1 < n
place_fits r n h k = omega arith

along : (i a b : ℕ) → a ≡ b → i < b → i < a
along i a b e h = omega arith

-- what is kept at a place is kept of the holder there
kept_there : (d : DesignForm) (holders : List Holder) (i : ℕ) → i < length holders
    → kept_at (map (kept_replica d) holders) i ≡ kept_replica d (get_or holders i fresh)
kept_there d holders i within = lists.get_or-map (kept_replica d) holders i fresh (replica_with 0 []) within

shipped_there : (d : DesignForm) (holders : List Holder) (i : ℕ) → i < length holders
    → shipped_at (map (kept_packet d) holders) i ≡ kept_packet d (get_or holders i fresh)
shipped_there d holders i within = lists.get_or-map (kept_packet d) holders i fresh (packet_with 0 []) within

place_kept : (d : DesignForm) (world : World) (r : ℕ) → IsReplica world r → r - 1 < length (map (kept_replica d) world.replicas)
place_kept d world r is =
    along (r - 1) (length (map (kept_replica d) world.replicas)) (length world.replicas) (length-map world.replicas (kept_replica d)) (place_fits r (length world.replicas) is.0 is.1)

pub replica_kept : (d : DesignForm) (world : World) (r : ℕ) → IsReplica world r
    → kept_at (map (kept_replica d) world.replicas) (r - 1) ≡ kept_replica d (replica_at world r)
replica_kept d world r is = kept_there d world.replicas (r - 1) (place_fits r (length world.replicas) is.0 is.1)

-- at the start
map_replicate : {X Y : Type 0} (f : X → Y) (n : ℕ) (x : X) → map f (replicate n x) ≡ replicate n (f x)
map_replicate f zero x = refl
map_replicate f (suc n) x = ap (λ xs. f x ∷ xs) (map_replicate f n x)

abbrev keeping : List Replica → List Packet → Keeps
keeping replicas packets = record { replicas = replicas; packets = packets }

pub kept_first : (d : DesignForm) (n : ℕ) → first_keeps d n ≡ kept_world d (first_world n)
kept_first d n = ap (λ rs. keeping rs []) (sym (map_replicate (kept_replica d) n fresh))

-- the join of two denotations, part by part
parts_join : (cs : List ComponentForm) (xs ys : List Done)
    → joined_each (map component_meaning cs) (states_of (map component_meaning cs) xs) (states_of (map component_meaning cs) ys)
    ≡ parts_joined (states_of (map component_meaning cs) xs) (states_of (map component_meaning cs) ys)
parts_join [] xs ys = refl
parts_join (c ∷ cs) xs ys = ap (λ ps. part_joined (part_of c xs) (part_of c ys) ∷ ps) (parts_join cs xs ys)

-- an operation more, and a union
pub denotes_more : (d : DesignForm) (holder : Holder) (done : Done) → Lawful d
    → did d (kept_replica d holder) done ≡ kept_replica d (after_doing holder done)
denotes_more d holder done laws = ap (λ parts. replica_with done.time parts) (laws.means.adds holder.absorbed done)

pub denotes_both : (d : DesignForm) (past : List Done) (world : World) (r p : ℕ) → Lawful d → Stands d.sig past world
    → took (kept_replica d (get_or world.replicas r fresh)) (kept_packet d (get_or world.packets p fresh))
    ≡ kept_replica d (merged (get_or world.replicas r fresh) (get_or world.packets p fresh))
denotes_both d past world r p laws s =
    let mine : Holder = get_or world.replicas r fresh in
    let theirs : Holder = get_or world.packets p fresh in
    let f = s.facts.replicas r in
    let g = s.facts.packets p in
    ap (λ parts. replica_with (max mine.clock theirs.clock) parts)
    (sym (parts_join d.components mine.absorbed theirs.absorbed)
    ∙ laws.means.unites mine.absorbed theirs.absorbed f.once g.once (fronts_nest past mine theirs s.facts.timed f g))

-- the line is ready
can_do : (d : DesignForm) (past : List Done) (world : World) (done : Done) → Lawful d → Stands d.sig past world → length past ≤ 100_000
    → IsJudgedLine d.sig world (Do done) → CanDo d (kept_replica d (replica_at world done.replica)) done
can_do d past world done laws s few judged =
    let holder : Holder = replica_at world done.replica in
    let front = s.facts.replicas (done.replica - 1) in
    record {
      kin = laws.means.goes holder.absorbed [];
      room = laws.roomy holder.absorbed (absorbed_fit d.sig past world holder s front) (absorbed_few past holder 100_000 few front);
      fits = done_fits d.sig world done s.few_replicas judged;
      later = judged.1;
    }

can_ask : (d : DesignForm) (past : List Done) (world : World) (r query : ℕ) (args : List Value) → Lawful d → Stands d.sig past world → length past ≤ 100_000
    → HasQuery d.sig query args → CanAsk (kept_replica d (replica_at world r)) args
can_ask d past world r query args laws s few has =
    let holder : Holder = replica_at world r in
    let front = s.facts.replicas (r - 1) in
    record {
      state = laws.small holder.absorbed (absorbed_fit d.sig past world holder s front) (absorbed_few past holder 100_000 few front);
      args_small = λ k v l. more_value NUMBER_LIMIT (2 ^ 100) (get_or args k v) (omega arith) (query_small d.sig query args has k v l);
    }

pub ready_line : (d : DesignForm) (past : List Done) (world : World) (line : Line) → Lawful d → Stands d.sig past world → length past ≤ 100_000
    → IsJudgedLine d.sig world line → IsReady d (kept_world d world) line
ready_line d past world (Do done) laws s few judged = (
  place_kept d world done.replica judged.0,
  subst (λ (replica : Replica). CanDo d replica done) (sym (replica_kept d world done.replica judged.0)) (can_do d past world done laws s few judged),
)
ready_line d past world (Ship r p) laws s few judged = place_kept d world r judged.0
ready_line d past world (Deliver p r) laws s few judged = (
  place_kept d world r judged.0,
  along p (length (map (kept_packet d) world.packets)) (length world.packets) (length-map world.packets (kept_packet d)) judged.1,
  subst (λ (replica : Replica). are_kin PartsKin replica.state.parts (shipped_at (map (kept_packet d) world.packets) p).state.parts) (sym (replica_kept d world r judged.0))
      (subst (λ (packet : Packet). are_kin PartsKin (denotation_of d (replica_at world r).absorbed) packet.state.parts)
      (sym (shipped_there d world.packets p judged.1)) (laws.means.goes (replica_at world r).absorbed (get_or world.packets p fresh).absorbed)),
)
ready_line d past world (Ask r query args) laws s few judged = (
  place_kept d world r judged.0,
  subst (λ (replica : Replica). CanAsk replica args) (sym (replica_kept d world r judged.0)) (can_ask d past world r query args laws s few judged.1),
)
ready_line d past world (Show r) laws s few judged = place_kept d world r judged

-- the line is followed
pub kept_line : (d : DesignForm) (past : List Done) (world : World) (line : Line) → Lawful d → Stands d.sig past world
    → IsJudgedLine d.sig world line → kept_after d (kept_world d world) line ≡ kept_world d (after world line)
kept_line d past world (Do done) laws s judged =
    let i = done.replica - 1 in
    let holder : Holder = replica_at world done.replica in
    let kept : List Replica = map (kept_replica d) world.replicas in
    ap (λ rs. keeping rs (map (kept_packet d) world.packets))
    (ap (λ (one : Replica). set kept i (did d one done)) (replica_kept d world done.replica judged.0)
    ∙ ap (λ (one : Replica). set kept i one) (denotes_more d holder done laws)
    ∙ sym (map-set (kept_replica d) world.replicas i (after_doing holder done)))
kept_line d past world (Ship r p) laws s judged =
    let kept : List Packet = map (kept_packet d) world.packets in
    ap (λ ps. keeping (map (kept_replica d) world.replicas) ps)
    (ap (λ (one : Replica). put kept p (shipped one)) (replica_kept d world r judged.0)
    ∙ sym (map-put (kept_packet d) world.packets p (replica_at world r)))
kept_line d past world (Deliver p r) laws s judged =
    let i = r - 1 in
    let mine : Holder = replica_at world r in
    let theirs : Holder = get_or world.packets p fresh in
    let kept : List Replica = map (kept_replica d) world.replicas in
    ap (λ rs. keeping rs (map (kept_packet d) world.packets))
    (ap (λ (one : Replica). set kept i (took one (shipped_at (map (kept_packet d) world.packets) p))) (replica_kept d world r judged.0)
    ∙ ap (λ (packet : Packet). set kept i (took (kept_replica d mine) packet)) (shipped_there d world.packets p judged.1)
    ∙ ap (λ (one : Replica). set kept i one) (denotes_both d past world i p laws s)
    ∙ sym (map-set (kept_replica d) world.replicas i (merged mine theirs)))
kept_line d past world (Ask r query args) laws s judged = refl
kept_line d past world (Show r) laws s judged = refl

-- what is printed is what the line is to print
pub kept_prints : (d : DesignForm) (world : World) (line : Line) → IsJudgedLine d.sig world line
    → kept_text d (kept_world d world) line ≡ line_text d world line
kept_prints d world (Ask r query args) judged =
    ap (λ (one : Replica). ask_text d.sig r query args (answer_of d one.state.parts query args)) (replica_kept d world r judged.0)
kept_prints d world (Show r) judged =
    ap (λ (one : Replica). show_text r one.clock (state_text one.state.parts)) (replica_kept d world r judged)
kept_prints d world (Do done) judged = refl
kept_prints d world (Ship r p) judged = refl
kept_prints d world (Deliver p r) judged = refl
