use Rattle.std.proofs.Common.{Some, None, map}
use Rattle.kat_type.specs.Types.{query_form}
use Rattle.kat_vc.proofs.Numbering.{answer_found}
use Rattle.kat_vc.proofs.by_number.answer.Goals as goal

pub returns-in-None : goal.returns-in-None
returns-in-None c = answer_found (map query_form c.args.queries.now) c.args.place None c.in-None.ensures

pub returns-in-Some : goal.returns-in-Some
returns-in-Some c = answer_found (map query_form c.args.queries.now) c.args.place (Some (query_form c.in-Some.query.now)) c.in-Some.ensures
