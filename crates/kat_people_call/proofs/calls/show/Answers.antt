use Rattle.kat_people_call.proofs.calls.show.Goals as goal

pub returns-in-Ok-Some : goal.returns-in-Ok-Some
returns-in-Ok-Some g c = record {
  done = λ is. record {
    command = c.in-Ok-Some.request.command;
    begins = rw c.in-Ok-Some.field-0-is at c.in-Ok-Some.ensures;
    shows = c.answer.ensures.done is;
  };
}
