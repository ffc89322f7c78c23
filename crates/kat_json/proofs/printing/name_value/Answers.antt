use Rattle.std.proofs.Common.{rules}
use Rattle.kat_json.proofs.PrintedParts.{name_is_text}
use Rattle.kat_json.proofs.printing.name_value.Goals as goal

pub unreachable-requires : goal.unreachable-requires
unreachable-requires c =
    let text = name_is_text c.args.code c.requires in
    let works = c.from_utf8.ensures.succeeds (search rules) in
    search rules
