-- What is known of worlds is kept by each line.
use Rattle.std.proofs.Common.{List, [], ◌∷◌, ◌++◌, append-nil, subst, sym}
use Rattle.kat_script.specs.Facts.{HoldsFronts, done_in}
use Rattle.kat_script.specs.Judged.{IsJudgedLine}
use Rattle.kat_script.specs.World.{World, after}
use Rattle.kat_script.specs.declared.script.Line.{Line}
use Rattle.kat_script.specs.declared.script.Line.TheVariants.{Do, Ship, Deliver, Ask, Show}
use Rattle.kat_script.proofs.Worlds.{facts_line}
use Rattle.kat_type.specs.declared.done.Done.{Done}
use Rattle.kat_type.specs.declared.signatures.Signature.{Signature}

-- a line that does nothing adds nothing
and_none : (past : List Done) (world : World) → HoldsFronts past world → HoldsFronts (past ++ []) world
and_none past world = subst (λ (ones : List Done). HoldsFronts ones world) (sym (append-nil past))

pub fronts_kept : (sig : Signature) (past : List Done) (world : World) (line : Line) → HoldsFronts past world → IsJudgedLine sig world line
    → HoldsFronts (past ++ done_in (line ∷ [])) (after world line)
fronts_kept sig past world (Do done) f fit = facts_line sig past world (Do done) f fit
fronts_kept sig past world (Ship r p) f fit = and_none past (after world (Ship r p)) (facts_line sig past world (Ship r p) f fit)
fronts_kept sig past world (Deliver p r) f fit = and_none past (after world (Deliver p r)) (facts_line sig past world (Deliver p r) f fit)
fronts_kept sig past world (Ask r query args) f fit = and_none past (after world (Ask r query args)) (facts_line sig past world (Ask r query args) f fit)
fronts_kept sig past world (Show r) f fit = and_none past (after world (Show r)) (facts_line sig past world (Show r) f fit)
