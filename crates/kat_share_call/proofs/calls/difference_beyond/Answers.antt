use Rattle.std.proofs.Common.{ℕ, List, Option, refl, subst}
use Rattle.kat_io.specs.Outside.{Tells}
use Rattle.kat_share_call.proofs.Ending.{ends_so, plain_ends}
use Rattle.kat_share_call.proofs.Writing.{differed_beyond}
use Rattle.kat_share_call.proofs.calls.difference_beyond.Goals as goal

pub returns-in-Err : goal.returns-in-Err
returns-in-Err g c = record { ends = plain_ends _ _ _ _ _ c.in-Err.ensures.plain refl }

pub returns-in-Ok-content : goal.returns-in-Ok-content
returns-in-Ok-content g c = record {
  ends =
      ends_so _ _ _ _ _ _
      (differed_beyond (g.F.Files.holds c.args.files.now) c.args.design_path.now c.args.share_path.now c.args.known_path.now c.in-Ok.texts.0.items c.in-Ok.texts.1.items c.in-Ok-content.known.items _ _
      c.in-Ok.ensures.told.0 c.in-Ok.ensures.told.1
      (subst (λ (held : Option (List ℕ)). Tells held c.in-Ok-content.known.items) (c.two_contents.ensures.same c.args.known_path.now) c.in-Ok-content.ensures.told))
      (rw c.deref.ensures.value at (rw c.deref-in-Ok-content.ensures.value at (rw c.deref-in-Ok-content-2.ensures.value at c.write_difference.ensures)));
}

pub returns : goal.returns
returns g c = record { ends = plain_ends _ _ _ _ _ c.in-Err-content.ensures.plain refl }
