use Rattle.std.proofs.Common.{ℕ, List, Option, ◌∙◌, map, refl, subst}
use Rattle.kat_io.specs.Outside.{Tells}
use Rattle.kat_share_call.specs.Sharing.{StepTexts}
use Rattle.kat_share_call.specs.Written.{contents}
use Rattle.kat_share_call.proofs.Ending.{ends_by, plain_ends}
use Rattle.kat_share_call.proofs.Reading.{at_same}
use Rattle.kat_share_call.proofs.Writing.{files_have_gap, took_files}
use Rattle.kat_share_call.proofs.calls.take_files.Goals as goal

pub returns-in-Err : goal.returns-in-Err
returns-in-Err g c = record { ends = plain_ends _ _ _ _ _ c.in-Err.ensures.plain refl }

pub returns-in-Err-content : goal.returns-in-Err-content
returns-in-Err-content g c = record { ends = plain_ends _ _ _ _ _ c.in-Err-content.ensures.plain refl }

pub returns-in-Err-contents : goal.returns-in-Err-contents
returns-in-Err-contents g c = record { ends = plain_ends _ _ _ _ _ c.in-Err-contents.ensures.plain refl }

pub returns : goal.returns
returns g c =
    let paths = map (λ path. path.now) c.args.packet_paths.now in
    let texts : StepTexts (g.F.Files.holds c.args.files.now) c.args.design_path.now c.args.share_path.now c.args.actions_path.now paths = record {
      design_text = c.in-Ok.texts.0.items;
      is_design = c.in-Ok.ensures.told.0;
      share_text = c.in-Ok.texts.1.items;
      is_share = c.in-Ok.ensures.told.1;
      actions_text = c.in-Ok-content.actions.items;
      are_actions = subst (λ (held : Option (List ℕ)). Tells held c.in-Ok-content.actions.items) (c.two_contents.ensures.same c.args.actions_path.now) c.in-Ok-content.ensures.told;
      packet_texts = contents c.in-Ok-contents.packets.items;
      are_packets =
          at_same (g.F.Files.holds c.args.files.now) _ paths (contents c.in-Ok-contents.packets.items)
          (λ path. c.content.ensures.same path ∙ c.two_contents.ensures.same path) c.in-Ok-contents.ensures.told;
    } in
    record {
      ends =
          ends_by _ _ _ _ _ _ _ (took_files (g.F.Files.holds c.args.files.now) c.args.design_path.now c.args.share_path.now c.args.actions_path.now paths texts _ _)
          (files_have_gap (g.F.Files.holds c.args.files.now) c.args.design_path.now c.args.share_path.now c.args.actions_path.now paths texts)
          (rw c.deref.ensures.value at (rw c.deref-2.ensures.value at (rw c.deref-3.ensures.value at (rw c.deref-4.ensures.value at c.write_step.ensures))));
    }
