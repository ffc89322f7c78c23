use Rattle.std.proofs.Common.{◌≤◌, ◌<◌, length, rules, arith, refl, sym, ◌∙◌}
use Rattle.kat_walk.specs.Walks.{IsBehind, stack_of}
use Rattle.kat_walk.proofs.MarkLemmas.{place_open, taken_open, token_taken}
use Rattle.kat_walk.proofs.Stacks.{same_depth}
use Rattle.kat_walk.proofs.Taking.{is_ready, dead_taken, deeper_taken}
use Rattle.kat_walk.proofs.turns.take.Goals as goal

pub returns-then-done-clause-turns : goal.returns-then-done-clause-turns
returns-then-done-clause-turns g c =
    let b : IsBehind (g.G.Grammar.machine c.args.grammar.now) c.args.token (stack_of c.args.frames.now.items) c.in_ok-state.state = search rules in
    let depth = same_depth c.args.frames.now.items in (
      refl,
      is_ready (g.G.Grammar.machine c.args.grammar.now) c.args.most (stack_of c.args.frames.now.items) c.in_ok-state.state c.args.token
          c.requires.left.0 (omega arith) b c.requires.left.1 (sym c.in_ok-done.ensures ∙ c.if-done.true),
    )

pub returns-then-most-len-clause-turns : goal.returns-then-most-len-clause-turns
returns-then-most-len-clause-turns g c =
    let b : IsBehind (g.G.Grammar.machine c.args.grammar.now) c.args.token (stack_of c.args.frames.now.items) c.in_ok-state.state = search rules in
    let depth = same_depth c.args.frames.now.items in
    let k : c.args.most ≤ length (stack_of c.args.frames.now.items) = omega arith in
    dead_taken (g.G.Grammar.machine c.args.grammar.now) c.args.most (stack_of c.args.frames.now.items) (stack_of c.choose.new.frames.items) c.in_ok-state.state c.args.token
    c.requires.left.0 b c.requires.left.1 (sym c.in_ok-done.ensures ∙ c.if-done.false) k c.choose.ensures

pub returns-clause-turns : goal.returns-clause-turns
returns-clause-turns g c =
    let b : IsBehind (g.G.Grammar.machine c.args.grammar.now) c.args.token (stack_of c.args.frames.now.items) c.in_ok-state.state = search rules in
    let depth = same_depth c.args.frames.now.items in
    let k : length (stack_of c.args.frames.now.items) < c.args.most = omega arith in
    deeper_taken (g.G.Grammar.machine c.args.grammar.now) c.args.most (stack_of c.args.frames.now.items) (stack_of c.open.new.frames.items) c.in_ok-state.state c.args.token
    c.requires.left.0 b c.requires.left.1 (sym c.in_ok-done.ensures ∙ c.if-done.false) k c.in_ok-open.ensures.opened

pub returns-then-most-len-clause-places : goal.returns-then-most-len-clause-places
returns-then-most-len-clause-places g c = λ s a.
    taken_open (g.G.Grammar.machine c.args.grammar.now) s (stack_of c.choose.new.frames.items)
    (token_taken (g.G.Grammar.machine c.args.grammar.now) s (stack_of c.args.frames.now.items) (stack_of c.choose.new.frames.items) c.args.token c.requires.left.0 c.requires.left.1 c.choose.ensures a)

pub returns-clause-places : goal.returns-clause-places
returns-clause-places g c = λ s a.
    let b : IsBehind (g.G.Grammar.machine c.args.grammar.now) c.args.token (stack_of c.args.frames.now.items) c.in_ok-state.state = search rules in
    place_open (g.G.Grammar.machine c.args.grammar.now) s c.in_ok-state.state (stack_of c.args.frames.now.items) (stack_of c.open.new.frames.items) c.args.token
    c.requires.left.0 b c.requires.left.1 c.in_ok-open.ensures.opened a
