use Rattle.std.proofs.Common.{◌≡◌, true, sym, ◌∙◌}
use Rattle.std.specs.Char.{is_ascii_alphanumeric}
use Rattle.kat_emit.proofs.CaseLemmas.{no_parts, parts_kept, part_from_alphanumeric}
use Rattle.kat_emit.proofs.cases.push_further.Goals as goal
use Rattle.kat_emit.proofs.cases.push_further.Goals.{then-is_ascii_alphanumeric+in_ok-push_byte, else-is_ascii_alphanumeric}

pub further-init : goal.further-init
further-init c = no_parts _

pub further-preserved : goal.further-preserved
further-preserved c = elim c.if-is_ascii_alphanumeric.branch [
  | then-is_ascii_alphanumeric+in_ok-push_byte w ↦
      let alphanumeric : is_ascii_alphanumeric w.raised_letter.result ≡ true =
      w.raised_letter.ensures.part (sym c.is_ascii_alphanumeric.ensures.value ∙ w.if-is_ascii_alphanumeric.true) in
      rw w.into-is
      (parts_kept _ _ _ w.raised_letter.result c.further.invariant (part_from_alphanumeric w.raised_letter.result alphanumeric) w.in_ok-push_byte.ensures)
  | else-is_ascii_alphanumeric w ↦ rw w.into-is c.further.invariant
]
