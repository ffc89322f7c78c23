use Rattle.std.proofs.Common.{◌≡◌, String, map, string_bytes, take}
use Rattle.std.specs.Global.{Global}
use Rattle.kat_passed.proofs.words.texts_of.Given as goal

abbrev pub invariant-loop-piece : goal.invariant-loop-piece
invariant-loop-piece l = map (λ (text : String Global). string_bytes text) l.texts.items ≡ map (λ piece. piece.now) (take l.piece-index l.said)
