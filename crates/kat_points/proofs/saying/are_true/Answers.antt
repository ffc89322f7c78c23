use Rattle.kat_form.specs.Encodings.{senses_of}
use Rattle.kat_form.specs.Facts.{facts_of}
use Rattle.kat_form.specs.Laws.{read_by}
use Rattle.kat_points.specs.Points.{value_at}
use Rattle.kat_points.proofs.PointValues.{all_facts}
use Rattle.kat_points.proofs.saying.are_true.Goals as goal

pub returns : goal.returns
returns c = all_facts (read_by (value_at c.args.values.now) (senses_of c.args.meanings.now)) (facts_of c.args.facts.now) c.all_say.result c.all_say.ensures
