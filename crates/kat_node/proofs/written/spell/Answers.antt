use Rattle.std.proofs.Common.{rules, ◌≡◌, arith, length, ◌∙◌}
use Rattle.std.proofs.lemmas.List.{length-set}
use Rattle.kat_node.proofs.Spelling.{spelled_all, spelled_end, spelled_first, spelled_next}
use Rattle.kat_node.proofs.written.spell.Goals as goal

pub bytes-init : goal.bytes-init
bytes-init c =
    let whole : length c.args.room.now ≡ 15 = search rules in
    (spelled_first c.args.code c.args.room.now, omega arith, whole)

pub returns-then-byte-eq0-clause-name : goal.returns-then-byte-eq0-clause-name
returns-then-byte-eq0-clause-name c =
    spelled_end c.args.code c.bytes.left c.byte_at-byte.result c.bytes.room c.bytes.invariant.0 c.bytes-test.true c.byte_at-byte.ensures c.if-byte-eq0.true

pub bytes-preserved : goal.bytes-preserved
bytes-preserved c =
    let so = c.bytes.invariant in
    (spelled_next c.args.code c.bytes.left c.byte_at-byte.result c.bytes.room so.0 c.bytes-test.true so.1 so.2 c.byte_at-byte.ensures c.if-byte-eq0.false, omega arith, length-set c.bytes.room _ _ ∙ so.2)

pub returns-clause-name : goal.returns-clause-name
returns-clause-name c =
    spelled_all c.args.code c.bytes.left c.bytes.room c.bytes.invariant.0 (omega arith)
