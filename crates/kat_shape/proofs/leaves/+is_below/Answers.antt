use Rattle.std.proofs.Common.{ap, take, drop}
use Rattle.kat_shape.specs.Forms.{form_of, width_of}
use Rattle.kat_shape.proofs.Order.{level_below, after_below}
use Rattle.kat_shape.specs.Flats.{filled_with}
use Rattle.kat_shape.proofs.Filling.{part_front, part_back}
use Rattle.kat_shape.proofs.leaves.+is_below.Goals as goal

pub returns-in-Equal : goal.returns-in-Equal
returns-in-Equal t c =
    level_below (filled_with (form_of c.args.shape.now) c.args.mine.now) (filled_with (form_of c.args.shape.now) c.args.theirs.now) (filled_with (form_of c.in-Lex.first.value) (take (width_of (form_of c.in-Lex.first.value)) c.args.mine.now)) (filled_with (form_of c.in-Lex.second.value) (drop (width_of (form_of c.in-Lex.first.value)) c.args.mine.now)) (filled_with (form_of c.in-Lex.first.value) (take (width_of (form_of c.in-Lex.first.value)) c.args.theirs.now)) (filled_with (form_of c.in-Lex.second.value) (drop (width_of (form_of c.in-Lex.first.value)) c.args.theirs.now)) (filled_with (form_of c.deref-in-Lex-4.result.now) c.cut.result.0.now) (filled_with (form_of c.deref-in-Lex-4.result.now) c.cut-in-Lex.result.0.now) (filled_with (form_of c.deref-in-Equal.result.now) c.cut.result.1.now) (filled_with (form_of c.deref-in-Equal.result.now) c.cut-in-Lex.result.1.now) c.is_below.result (ap (λ s. filled_with (form_of s) c.args.mine.now) c.in-Lex.is) (ap (λ s. filled_with (form_of s) c.args.theirs.now) c.in-Lex.is) (part_front (form_of c.deref-in-Lex-4.result.now) (form_of c.deref.result.now) (form_of c.in-Lex.first.value) c.args.mine.now c.cut.result.0.now (ap form_of c.deref-in-Lex-4.ensures) (ap form_of c.deref.ensures) c.cut.ensures.front) (part_front (form_of c.deref-in-Lex-4.result.now) (form_of c.deref-in-Lex-2.result.now) (form_of c.in-Lex.first.value) c.args.theirs.now c.cut-in-Lex.result.0.now (ap form_of c.deref-in-Lex-4.ensures) (ap form_of c.deref-in-Lex-2.ensures) c.cut-in-Lex.ensures.front) (part_back (form_of c.deref-in-Equal.result.now) (form_of c.deref.result.now) (form_of c.in-Lex.first.value) (form_of c.in-Lex.second.value) c.args.mine.now c.cut.result.1.now (ap form_of c.deref-in-Equal.ensures) (ap form_of c.deref.ensures) c.cut.ensures.back) (part_back (form_of c.deref-in-Equal.result.now) (form_of c.deref-in-Lex-2.result.now) (form_of c.in-Lex.first.value) (form_of c.in-Lex.second.value) c.args.theirs.now c.cut-in-Lex.result.1.now (ap form_of c.deref-in-Equal.ensures) (ap form_of c.deref-in-Lex-2.ensures) c.cut-in-Lex.ensures.back) c.in-Equal.ensures c.is_below.ensures

pub returns-in-Greater : goal.returns-in-Greater
returns-in-Greater t c =
    after_below (filled_with (form_of c.args.shape.now) c.args.mine.now) (filled_with (form_of c.args.shape.now) c.args.theirs.now) (filled_with (form_of c.in-Lex.first.value) (take (width_of (form_of c.in-Lex.first.value)) c.args.mine.now)) (filled_with (form_of c.in-Lex.second.value) (drop (width_of (form_of c.in-Lex.first.value)) c.args.mine.now)) (filled_with (form_of c.in-Lex.first.value) (take (width_of (form_of c.in-Lex.first.value)) c.args.theirs.now)) (filled_with (form_of c.in-Lex.second.value) (drop (width_of (form_of c.in-Lex.first.value)) c.args.theirs.now)) (filled_with (form_of c.deref-in-Lex-4.result.now) c.cut.result.0.now) (filled_with (form_of c.deref-in-Lex-4.result.now) c.cut-in-Lex.result.0.now) (ap (λ s. filled_with (form_of s) c.args.mine.now) c.in-Lex.is) (ap (λ s. filled_with (form_of s) c.args.theirs.now) c.in-Lex.is) (part_front (form_of c.deref-in-Lex-4.result.now) (form_of c.deref.result.now) (form_of c.in-Lex.first.value) c.args.mine.now c.cut.result.0.now (ap form_of c.deref-in-Lex-4.ensures) (ap form_of c.deref.ensures) c.cut.ensures.front) (part_front (form_of c.deref-in-Lex-4.result.now) (form_of c.deref-in-Lex-2.result.now) (form_of c.in-Lex.first.value) c.args.theirs.now c.cut-in-Lex.result.0.now (ap form_of c.deref-in-Lex-4.ensures) (ap form_of c.deref-in-Lex-2.ensures) c.cut-in-Lex.ensures.front) c.in-Greater.ensures
