use Rattle.std.proofs.Common.{Option, subst, sym}
use Rattle.kat_embed.specs.declared.contents.Contents.{Contents}
use Rattle.katara_c.specs.Kept.{Fails, IsNotDoneBy}
use Rattle.katara_c.proofs.katara_do_numbered.Goals as goal

pub returns-clause-refused : goal.returns-clause-refused
returns-clause-refused c = λ less.
    let there : IsNotDoneBy c.in-Some.kept.value c.args.number c.args.passed.now c.act_numbered-code.result =
    subst (λ (k : Contents). IsNotDoneBy k c.args.number c.args.passed.now c.act_numbered-code.result) c.deref_mut.ensures.value (c.act_numbered-code.ensures.refused less) in
    subst (λ (o : Option Contents). Fails c.act_numbered-code.result o (λ (k : Contents). IsNotDoneBy k c.args.number c.args.passed.now c.act_numbered-code.result)) (sym c.in-Some.ensures.taken) there
