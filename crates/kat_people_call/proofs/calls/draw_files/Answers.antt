use Rattle.std.proofs.Common.{ℕ, List, Option, subst}
use Rattle.kat_io.specs.Outside.{Tells}
use Rattle.kat_people_call.proofs.calls.draw_files.Goals as goal

pub returns : goal.returns
returns g c = record {
  done = λ is. record {
    text = c.in-Ok.script.items;
    is_told = c.in-Ok.ensures.told;
    type_text = c.in-Ok-two_contents.contents.0.items;
    is_type =
        subst (λ (held : Option (List ℕ)). Tells held c.in-Ok-two_contents.contents.0.items)
        (c.content.ensures.same c.args.ty_path.now) c.in-Ok-two_contents.ensures.told.0;
    design_text = c.in-Ok-two_contents.contents.1.items;
    is_design =
        subst (λ (held : Option (List ℕ)). Tells held c.in-Ok-two_contents.contents.1.items)
        (c.content.ensures.same c.args.design_path.now) c.in-Ok-two_contents.ensures.told.1;
    drew =
        rw c.deref.ensures.value at (rw c.deref-2.ensures.value at (rw c.deref-3.ensures.value at c.draw_answers.ensures.done is));
  };
}
