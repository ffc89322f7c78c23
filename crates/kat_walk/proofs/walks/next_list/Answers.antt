use Rattle.std.proofs.Common.{rules, subst, sym}
use Rattle.kat_walk.specs.Marks.{AreOpen, KeepsOpen}
use Rattle.kat_walk.specs.Walks.{IsReady, Pending, stack_of}
use Rattle.kat_walk.proofs.MarkLemmas.{ends_open, ends_taken}
use Rattle.kat_walk.proofs.walks.next_list.Goals as goal

pub returns-in_err-advance-clause-places : goal.returns-in_err-advance-clause-places
returns-in_err-advance-clause-places g c =
    subst (λ (p : Pending _ _). KeepsOpen (g.G.Grammar.machine c.args.grammar.now) p.stack (stack_of c.advance.new.frames.items)) c.walk.view_is c.advance.ensures.places

pub returns-in_err-list-in-Some-clause-places : goal.returns-in_err-list-in-Some-clause-places
returns-in_err-list-in-Some-clause-places g c =
    subst (λ (p : Pending _ _). KeepsOpen (g.G.Grammar.machine c.args.grammar.now) p.stack (stack_of c.advance.new.frames.items)) c.walk.view_is c.advance.ensures.places

pub returns-in-None-clause-places : goal.returns-in-None-clause-places
returns-in-None-clause-places g c =
    subst (λ (p : Pending _ _). KeepsOpen (g.G.Grammar.machine c.args.grammar.now) p.stack (stack_of c.advance.new.frames.items)) c.walk.view_is c.advance.ensures.places

pub returns-in_ok-list-in-Some-clause-places : goal.returns-in_ok-list-in-Some-clause-places
returns-in_ok-list-in-Some-clause-places g c =
    let ready : IsReady (g.G.Grammar.machine c.args.grammar.now) c.walk.inside.most (stack_of c.advance.new.frames.items) c.in-Some.token = search rules in
    let keeps = subst (λ (p : Pending _ _). KeepsOpen (g.G.Grammar.machine c.args.grammar.now) p.stack (stack_of c.advance.new.frames.items)) c.walk.view_is c.advance.ensures.places in
    ends_open (g.G.Grammar.machine c.args.grammar.now) c.walk.inside.most c.args.walk.now.stack (stack_of c.advance.new.frames.items) (stack_of c.choose.new.frames.items) c.in-Some.token
    keeps ready c.choose.ensures

pub returns-in_ok-list-in-Some-clause-taken : goal.returns-in_ok-list-in-Some-clause-taken
returns-in_ok-list-in-Some-clause-taken g c =
    let ready : IsReady (g.G.Grammar.machine c.args.grammar.now) c.walk.inside.most (stack_of c.advance.new.frames.items) c.in-Some.token = search rules in
    let keeps = subst (λ (p : Pending _ _). KeepsOpen (g.G.Grammar.machine c.args.grammar.now) p.stack (stack_of c.advance.new.frames.items)) c.walk.view_is c.advance.ensures.places in
    ends_taken (g.G.Grammar.machine c.args.grammar.now) c.walk.inside.most c.args.walk.now.stack (stack_of c.advance.new.frames.items) (stack_of c.choose.new.frames.items) c.in-Some.token
    keeps ready c.choose.ensures
