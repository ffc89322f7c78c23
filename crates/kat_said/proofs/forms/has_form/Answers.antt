use Rattle.kat_said.proofs.Lines.{line_has_form, point_by_tag}
use Rattle.kat_said.proofs.forms.has_form.Goals as goal

pub returns-clause-point : goal.returns-clause-point
returns-clause-point c =
    point_by_tag c.args.line.now c.front-bytes.result.now c.after.result.now c.byte_at.result c.has_form_by.result c.front-bytes.ensures c.byte_at.ensures c.after.ensures c.has_form_by.ensures.drop
    c.has_form_by.ensures.fail

pub returns-clause-lines : goal.returns-clause-lines
returns-clause-lines c =
    let has = c.has_form_by.ensures in
    line_has_form c.args.line.now c.front-bytes.result.now c.after.result.now c.byte_at.result c.has_form_by.result c.front-bytes.ensures c.byte_at.ensures c.after.ensures
    (record { drop = has.drop; fail = has.fail; rows = has.rows; wide = has.wide; plain = has.plain })
