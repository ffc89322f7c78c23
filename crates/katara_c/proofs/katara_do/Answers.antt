use Rattle.std.proofs.Common.{Option, subst, sym}
use Rattle.kat_embed.specs.declared.contents.Contents.{Contents}
use Rattle.katara_c.specs.Kept.{Fails, IsNotDone}
use Rattle.katara_c.proofs.katara_do.Goals as goal

pub returns-clause-refused : goal.returns-clause-refused
returns-clause-refused c = λ less.
    let there : IsNotDone c.in-Some.kept.value c.args.call.now c.act_text-code.result =
    subst (λ (k : Contents). IsNotDone k c.args.call.now c.act_text-code.result) c.deref_mut.ensures.value (c.act_text-code.ensures.refused less) in
    subst (λ (o : Option Contents). Fails c.act_text-code.result o (λ (k : Contents). IsNotDone k c.args.call.now c.act_text-code.result)) (sym c.in-Some.ensures.taken) there
