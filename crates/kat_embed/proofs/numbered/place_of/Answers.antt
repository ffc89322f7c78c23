use Rattle.std.proofs.Common.{◌∙◌, List, ap, eqb, subst, sym}
use Rattle.std.specs.Prelude.{position}
use Rattle.kat_actions.specs.declared.calls.Verb.{Verb}
use Rattle.kat_type.specs.declared.signatures.OpSig.{OpSig}
use Rattle.kat_type.specs.declared.signatures.QuerySig.{QuerySig}
use Rattle.kat_embed.proofs.Numbering.{IsPlace, op_is_place, query_is_place}
use Rattle.kat_embed.proofs.numbered.place_of.Goals as goal

pub returns-in-Do : goal.returns-in-Do
returns-in-Do c =
    let e = c.narrowed.ensures ∙ c.op_place.ensures.place ∙ ap (λ (ops : List OpSig). position (λ op. eqb op.name c.args.code) ops) c.as_slice.ensures in
    subst (λ (verb : Verb). IsPlace verb c.args.sig.now c.args.code c.narrowed.result) (sym c.in-Do.is) (op_is_place c.args.sig.now c.args.code c.narrowed.result (sym e))

pub returns-in-Ask : goal.returns-in-Ask
returns-in-Ask c =
    let e =
    c.narrowed-in-Ask.ensures ∙ c.query_place.ensures.place ∙ ap (λ (queries : List QuerySig). position (λ query. eqb query.name c.args.code) queries) c.as_slice-in-Ask.ensures in
    subst (λ (verb : Verb). IsPlace verb c.args.sig.now c.args.code c.narrowed-in-Ask.result) (sym c.in-Ask.is)
    (query_is_place c.args.sig.now c.args.code c.narrowed-in-Ask.result (sym e))
