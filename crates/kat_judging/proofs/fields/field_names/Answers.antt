use Rattle.kat_judging.proofs.Noting.{has_noted}
use Rattle.kat_judging.proofs.fields.field_names.Goals as goal

pub returns : goal.returns
returns c =
    has_noted (λ s. s.name) c.no_names-none.result c.no_names-names.result c.first_again.new.own c.args.states.now
    c.no_names-none.ensures c.no_names-names.ensures c.in_ok-first_again.ensures.noted
