use Rattle.kat_people_call.proofs.calls.draw_cited.Goals as goal

pub returns-in-Ok : goal.returns-in-Ok
returns-in-Ok g c = record {
  done = λ is. record {
    report = c.in-Ok.report.items;
    is_told = c.in-Ok.ensures.told;
    drew = rw c.deref.ensures.value at c.draw_history.ensures.done is;
  };
}
