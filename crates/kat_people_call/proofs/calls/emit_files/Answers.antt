use Rattle.kat_people_call.proofs.calls.emit_files.Goals as goal

pub returns-in-Ok : goal.returns-in-Ok
returns-in-Ok g c = record {
  done = λ is. record {
    type_text = c.in-Ok.contents.0.items;
    is_type = c.in-Ok.ensures.told.0;
    design_text = c.in-Ok.contents.1.items;
    is_design = c.in-Ok.ensures.told.1;
    emitted = rw c.deref.ensures.value at (rw c.deref-in-Ok.ensures.value at c.emit_texts.ensures.done is);
  };
}
