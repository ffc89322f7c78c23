-- Each of judged lines keeps the rules where the lines before it lead, and there are as many replicas there as at first.
use Rattle.std.proofs.Common.{◌≡◌, ℕ, ◌-◌, List, [], ◌∷◌, ◌++◌, length, refl, ◌∙◌}
use Rattle.std.proofs.lemmas.List.{length-set, length-replicate}
use Rattle.kat_script.specs.Judged.{AreJudged, IsJudgedLine}
use Rattle.kat_script.specs.World.{World, after, after_doing, first_world, fresh, merged, packet_at, replica_at, world_after}
use Rattle.kat_script.specs.declared.script.Line.{Line}
use Rattle.kat_script.specs.declared.script.Line.TheVariants.{Do, Ship, Deliver, Ask, Show}
use Rattle.kat_type.specs.declared.signatures.Signature.{Signature}

pub judged_there : (sig : Signature) (world : World) (before : List Line) (line : Line) (behind : List Line) → AreJudged sig world (before ++ line ∷ behind)
    → IsJudgedLine sig (world_after world before) line
judged_there sig world [] line behind h = h.0
judged_there sig world (first ∷ before) line behind h = judged_there sig (after world first) before line behind h.1

pub judged_further : (sig : Signature) (world : World) (before : List Line) (line : Line) → AreJudged sig world before
    → IsJudgedLine sig (world_after world before) line → AreJudged sig world (before ++ line ∷ [])
judged_further sig world [] line h j = (j, tt)
judged_further sig world (first ∷ before) line h j = (h.0, judged_further sig (after world first) before line h.1 j)

count_stays : (world : World) (line : Line) → length (after world line).replicas ≡ length world.replicas
count_stays world (Do done) = length-set world.replicas (done.replica - 1) (after_doing (replica_at world done.replica) done)
count_stays world (Ship r p) = refl
count_stays world (Deliver p r) = length-set world.replicas (r - 1) (merged (replica_at world r) (packet_at world p))
count_stays world (Ask r query args) = refl
count_stays world (Show r) = refl

counts_stay : (world : World) (lines : List Line) → length (world_after world lines).replicas ≡ length world.replicas
counts_stay world [] = refl
counts_stay world (line ∷ lines) = counts_stay (after world line) lines ∙ count_stays world line

pub replicas_there : (replicas : ℕ) (lines : List Line) → length (world_after (first_world replicas) lines).replicas ≡ replicas
replicas_there replicas lines = counts_stay (first_world replicas) lines ∙ length-replicate replicas fresh
