use Rattle.std.proofs.Common.{rules, ◌≡◌, List, ◌-◌, ◌++◌, [], ◌∷◌, drop, get_or, length, take}
use Rattle.kat_walk.specs.Machines.{Held}
use Rattle.kat_walk.specs.Marks.{LeadsTo}
use Rattle.kat_walk.specs.Walks.{stack_of}
use Rattle.kat_walk.specs.declared.turns.Frame.{Frame}
use Rattle.kat_walk.proofs.MarkLemmas.{leads_slice, over_ok}
use Rattle.kat_walk.proofs.marks.+open_places.Goals as goal

pub returns-in_ok-push-in-len1-up : goal.returns-in_ok-push-in-len1-up
returns-in_ok-push-in-len1-up g t c =
    let f : Frame g.row.G-State.Denot g.row.G-Token.Denot = record {
      state = c.args.state;
      chosen = c.index-chosen.result.now;
      tokens = c.in_ok-tokens-in-len1-up.tokens;
      at = c.len.result - get_or c.args.counts.now 0 0;
    } in
    over_ok c.open_places.result
    (λ x. (stack : List (Held g.row.G-State.Denot g.row.G-Token.Denot)) → LeadsTo (g.G.Grammar.machine c.args.grammar.now) c.in_ok-behind-in-len1-up.behind
    (take (length c.args.counts.now - 1) (drop 1 c.args.counts.now)) (stack_of c.push.new.self.items) stack → stack_of c.open_places.new.frames.items ≡ stack)
    (λ x. (stack : List (Held g.row.G-State.Denot g.row.G-Token.Denot)) → LeadsTo (g.G.Grammar.machine c.args.grammar.now) c.args.state c.args.counts.now (stack_of c.args.frames.now.items) stack
    → stack_of c.open_places.new.frames.items ≡ stack)
    c.open_places.ensures
    (λ x each stack l. each stack
    (leads_slice (g.G.Grammar.machine c.args.grammar.now) c.args.state c.in_ok-behind-in-len1-up.behind c.args.counts.now c.args.frames.now.items c.push.new.self.items f c.index-chosen.result.now stack
    (search rules) (search rules) (search rules) (search rules) (search rules) (search rules) (search rules) l))
