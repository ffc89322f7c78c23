use Rattle.kat_design_json.proofs.SignaturesBack.{word_is_name}
use Rattle.kat_design_json.proofs.signature_printing.item_name_value.Goals as goal

pub name_value-requires : goal.name_value-requires
name_value-requires c = let is = c.requires in record { name = is.text; is_name = word_is_name is.text is.is_word; coded = is.coded }
