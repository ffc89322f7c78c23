use Rattle.std.proofs.Common.{Option, subst}
use Rattle.kat_grammar.specs.Steps.{finish}
use Rattle.kat_grammar.specs.Views.{IsFinished, spot_of}
use Rattle.kat_grammar.specs.declared.phrases.TypeText.{TypeText}
use Rattle.kat_grammar.proofs.Reading.{first_read, large_there_too, marked, more_there, nothing_there, read_unfinished, read_whole}
use Rattle.kat_grammar.proofs.reader.judge.Goals as goal

pub tokens-init : goal.tokens-init
tokens-init c = first_read c.args.tokens.now (spot_of c.new-reader.result) c.new-reader.ensures

pub returns-in-Nothing : goal.returns-in-Nothing
returns-in-Nothing c =
    nothing_there c.args.tokens.now c.tokens.i c.tokens.nodes _ c.in_format-mark.result (spot_of c.tokens.reader) (spot_of c.take.new.self) c.in_ok-count.field-0 (marked c.args.tokens.now c.in_format-mark.ensures c.is_second-second.ensures c.mark_of.ensures) c.in-Nothing.is
    c.tokens-test.true c.tokens.invariant c.in_ok-count.ensures

pub returns-in-TooMany : goal.returns-in-TooMany
returns-in-TooMany c =
    large_there_too c.args.tokens.now c.tokens.i c.tokens.nodes _ c.in_format-mark.result (spot_of c.tokens.reader) (spot_of c.take.new.self) c.in_ok-count.field-0 (marked c.args.tokens.now c.in_format-mark.ensures c.is_second-second.ensures c.mark_of.ensures) c.in-TooMany.is
    c.tokens-test.true c.tokens.invariant c.in_ok-count.ensures

pub tokens-preserved : goal.tokens-preserved
tokens-preserved c =
    more_there c.args.tokens.now c.tokens.i c.tokens.nodes c.in-Read.count _ c.in_format-mark.result (spot_of c.tokens.reader) (spot_of c.take.new.self) c.in_ok-count.field-0 (marked c.args.tokens.now c.in_format-mark.ensures c.is_second-second.ensures c.mark_of.ensures) c.in-Read.is
    c.tokens-test.true c.tokens.invariant c.in_ok-count.ensures

pub returns-in-Some : goal.returns-in-Some
returns-in-Some c =
    read_whole c.args.tokens.now c.tokens.i c.tokens.nodes (spot_of c.tokens.reader) c.in-Some.text c.tokens-test.false c.tokens.invariant
    (subst (λ (o : Option TypeText). IsFinished (finish (spot_of c.tokens.reader)) o) c.in-Some.is (c.in_ok-text.ensures))

pub returns-in-None : goal.returns-in-None
returns-in-None c =
    read_unfinished c.args.tokens.now c.tokens.i c.tokens.nodes (spot_of c.tokens.reader) c.tokens-test.false c.tokens.invariant
    (subst (λ (o : Option TypeText). IsFinished (finish (spot_of c.tokens.reader)) o) c.in-None.is (c.in_ok-text.ensures))
