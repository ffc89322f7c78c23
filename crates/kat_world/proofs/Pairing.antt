-- Two worlds with the same clocks and the same operations everywhere, and what lines make of them.
use Rattle.std.proofs.Common.{◌≡◌, ℕ, zero, suc, ◌-◌, ◌<◌, ◌≤◌, inl, List, [], ◌∷◌, ◌++◌, length, get_or, set, refl, sym, ◌∙◌, subst, append-nil}
use Rattle.std.specs.Prelude.{replicate}
use Rattle.std.proofs.lemmas.List.{length-set}
use Rattle.kat_script.specs.Facts.{HoldsFronts, done_in}
use Rattle.kat_script.specs.Judged.{AreJudged, IsJudgedLine, IsReplica}
use Rattle.kat_script.specs.World.{Holder, World, after, after_doing, first_world, fresh, merged, packet_at, replica_at, world_after}
use Rattle.kat_script.specs.declared.script.Line.{Line}
use Rattle.kat_script.specs.declared.script.Line.TheVariants.{Do, Ship, Deliver, Ask, Show}
use Rattle.kat_script.proofs.Worlds.{facts_lines}
use Rattle.kat_type.specs.declared.done.Done.{Done}
use Rattle.kat_type.specs.declared.signatures.Signature.{Signature}
use Rattle.kat_type.proofs.Lists.{set_all}
use Rattle.kat_world.proofs.Holders.{AreAlike, HasLatest, did_alike, latest_did, latest_merged, merged_alike}
use Rattle.kat_world.proofs.Lists.{count_both, put_all, put_both, set_both}

pub record Alike (world other : World) : Type 0 where
  pub as_many : length world.replicas ≡ length other.replicas
  pub as_many_packets : length world.packets ≡ length other.packets
  pub replicas : (k : ℕ) → AreAlike (get_or world.replicas k fresh) (get_or other.replicas k fresh)
  pub packets : (k : ℕ) → AreAlike (get_or world.packets k fresh) (get_or other.packets k fresh)

-- one more holder at a place of the replicas
with_both : (world other : World) (i : ℕ) (x y : Holder) → Alike world other → AreAlike x y
    → Alike (record world { replicas = set world.replicas i x }) (record other { replicas = set other.replicas i y })
with_both world other i x y h k = record {
  as_many = length-set world.replicas i x ∙ h.as_many ∙ sym (length-set other.replicas i y);
  as_many_packets = h.as_many_packets;
  replicas = set_both AreAlike world.replicas other.replicas i x y fresh h.as_many h.replicas k;
  packets = h.packets;
}

pub alike_line : (world other : World) (line : Line) → Alike world other → Alike (after world line) (after other line)
alike_line world other (Do done) h =
    let i = done.replica - 1 in
    with_both world other i (after_doing (get_or world.replicas i fresh) done) (after_doing (get_or other.replicas i fresh) done) h
    (did_alike (get_or world.replicas i fresh) (get_or other.replicas i fresh) done (h.replicas i))
alike_line world other (Ship r p) h = record {
  as_many = h.as_many;
  as_many_packets = count_both world.packets other.packets p (replica_at world r) (replica_at other r) h.as_many_packets;
  replicas = h.replicas;
  packets = put_both AreAlike world.packets other.packets p (replica_at world r) (replica_at other r) fresh h.as_many_packets h.packets (h.replicas (r - 1));
}
alike_line world other (Deliver p r) h =
    let i = r - 1 in
    with_both world other i (merged (get_or world.replicas i fresh) (get_or world.packets p fresh)) (merged (get_or other.replicas i fresh) (get_or other.packets p fresh)) h
    (merged_alike (get_or world.replicas i fresh) (get_or other.replicas i fresh) (get_or world.packets p fresh) (get_or other.packets p fresh) (h.replicas i) (h.packets p))
alike_line world other (Ask r query args) h = h
alike_line world other (Show r) h = h

replica_there : (world other : World) (r : ℕ) → Alike world other → IsReplica world r → IsReplica other r
replica_there world other r h is = (is.0, subst (λ (n : ℕ). r ≤ n) h.as_many is.1)

pub judged_line : (sig : Signature) (world other : World) (line : Line) → Alike world other → IsJudgedLine sig world line → IsJudgedLine sig other line
judged_line sig world other (Do done) h fit = (
  replica_there world other done.replica h fit.0,
  subst (λ (n : ℕ). n < done.time) (h.replicas (done.replica - 1)).clocks fit.1,
  fit.2,
  fit.3,
)
judged_line sig world other (Ship r p) h fit = (replica_there world other r h fit.0, subst (λ (n : ℕ). p ≤ n) h.as_many_packets fit.1, fit.2)
judged_line sig world other (Deliver p r) h fit = (replica_there world other r h fit.0, subst (λ (n : ℕ). p < n) h.as_many_packets fit.1)
judged_line sig world other (Ask r query args) h fit = (replica_there world other r h fit.0, fit.1)
judged_line sig world other (Show r) h fit = replica_there world other r h fit

pub judged_lines : (sig : Signature) (world other : World) (lines : List Line) → Alike world other → AreJudged sig world lines → AreJudged sig other lines
judged_lines sig world other [] h judged = tt
judged_lines sig world other (line ∷ lines) h judged =
    (judged_line sig world other line h judged.0, judged_lines sig (after world line) (after other line) lines (alike_line world other line h) judged.1)

-- two such worlds that the same operations led to
pub record Pair (world other : World) : Type 0 where
  pub past : List Done
  pub here : HoldsFronts past world
  pub there : HoldsFronts past other
  pub alike : Alike world other

alike_lines : (world other : World) (lines : List Line) → Alike world other → Alike (world_after world lines) (world_after other lines)
alike_lines world other [] h = h
alike_lines world other (line ∷ lines) h = alike_lines (after world line) (after other line) lines (alike_line world other line h)

facts_behind : (sig : Signature) (past : List Done) (world : World) (lines : List Line) → HoldsFronts past world → AreJudged sig world lines
    → HoldsFronts (past ++ done_in lines) (world_after world lines)
facts_behind sig past world lines facts judged =
    facts_lines sig past world lines [] facts (subst (λ (ls : List Line). AreJudged sig world ls) (sym (append-nil lines)) judged)

pub pair_lines : (sig : Signature) (world other : World) (lines : List Line) → Pair world other → AreJudged sig world lines
    → Pair (world_after world lines) (world_after other lines)
pair_lines sig world other lines pair judged = record {
  past = pair.past ++ done_in lines;
  here = facts_behind sig pair.past world lines pair.here judged;
  there = facts_behind sig pair.past other lines pair.there (judged_lines sig world other lines pair.alike judged);
  alike = alike_lines world other lines pair.alike;
}

-- the clock of each replica and packet is 0 or the time of an operation absorbed there
pub record HaveLatest (world : World) : Type 0 where
  pub replicas : (k : ℕ) → HasLatest (get_or world.replicas k fresh)
  pub packets : (k : ℕ) → HasLatest (get_or world.packets k fresh)

latest_line : (world : World) (line : Line) → HaveLatest world → HaveLatest (after world line)
latest_line world (Do done) h = record {
  replicas = set_all HasLatest world.replicas (done.replica - 1) (after_doing (replica_at world done.replica) done) fresh h.replicas (latest_did (replica_at world done.replica) done);
  packets = h.packets;
}
latest_line world (Ship r p) h = record {
  replicas = h.replicas;
  packets = put_all HasLatest world.packets p (replica_at world r) fresh h.packets (h.replicas (r - 1));
}
latest_line world (Deliver p r) h = record {
  replicas = set_all HasLatest world.replicas (r - 1) (merged (replica_at world r) (packet_at world p)) fresh h.replicas
      (latest_merged (replica_at world r) (packet_at world p) (h.replicas (r - 1)) (h.packets p));
  packets = h.packets;
}
latest_line world (Ask r query args) h = h
latest_line world (Show r) h = h

latest_lines : (world : World) (lines : List Line) → HaveLatest world → HaveLatest (world_after world lines)
latest_lines world [] h = h
latest_lines world (line ∷ lines) h = latest_lines (after world line) lines (latest_line world line h)

none_yet : (n k : ℕ) → HasLatest (get_or (replicate n fresh) k fresh)
none_yet zero k = inl refl
none_yet (suc n) zero = inl refl
none_yet (suc n) (suc k) = none_yet n k

pub latest_worlds : (n : ℕ) (lines : List Line) → HaveLatest (world_after (first_world n) lines)
latest_worlds n lines = latest_lines (first_world n) lines (record { replicas = none_yet n; packets = λ k. inl refl })
