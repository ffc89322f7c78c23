use Rattle.std.proofs.Common.{◌≡◌, ◌∙◌, List, subst, sym}
use Rattle.kat_num.specs.One.{IsTheOne}
use Rattle.kat_lex.specs.declared.lexer.Token.{Token}
use Rattle.kat_script.specs.Grammar.{Says}
use Rattle.kat_actions.specs.Grammar.{Gives}
use Rattle.kat_actions.proofs.Calling.{at_replica, gives, inserted}
use Rattle.kat_actions.proofs.calls.called_in.Goals as goal

pub returns : goal.returns
returns c =
    let there : c.deref.result.now ≡ at_replica c.args.line.now.items = c.deref.ensures.value ∙ c.in_ok-insert.ensures.items ∙ inserted c.args.line.now.items c.requires in
    subst (Gives c.args.verb c.args.line.now.items) (sym c.called_by.ensures)
    (gives c.args.verb c.args.line.now.items c.in_ok-said.said (subst (λ (tokens : List Token). IsTheOne (Says tokens) c.in_ok-said.said) there c.in_ok-said.ensures.said))
