use Rattle.kat_design.specs.Designs.{design_form}
use Rattle.serde_json.specs.View.{view}
use Rattle.kat_design_json.proofs.PrintedDesigns.{text_printed}
use Rattle.kat_design_json.proofs.printing.design_text.Goals as goal

pub returns : goal.returns
returns c = text_printed c.to_vec.result (view c.in_ok-value.value) (design_form c.args.design.now) c.in_ok-value.ensures c.to_vec.ensures.text
