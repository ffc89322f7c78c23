use Rattle.std.proofs.Common.{subst}
use Rattle.kat_lattice.specs.Tallies.{Sums}
use Rattle.kat_design.specs.Designs.{design_form}
use Rattle.kat_share.specs.ShareTexts.{IsPacketText}
use Rattle.kat_embed.proofs.CatchingUp.{beyond}
use Rattle.kat_embed.proofs.sharing.difference_text.Goals as goal

pub returns-clause-tells : goal.returns-clause-tells
returns-clause-tells c =
    let d = design_form c.args.design.now in
    record {
      whole = c.in-Some.whole;
      are = c.in-Some.is;
      before = c.in_ok-before.before.node;
      base = c.in_ok-before.before.marks;
      is_known = c.in_ok-before.ensures.known;
      told = c.in_ok-told.told;
      made =
          beyond (record { goes = c.nodes_go_with_designs.ensures.goes; turned = c.states_go_together.ensures.turned; chained = c.states_go_together.ensures.chained }) d
          c.in_ok-before.before.node c.args.node.now c.in_ok-told.told c.requires.sorted c.in_ok-before.ensures.node c.requires.node c.in_ok-told.ensures.made;
      packet = subst (λ (t : Sums). IsPacketText d c.in_ok-text.text.items c.in_ok-before.before.marks c.in_ok-told.told t) c.in_ok-marks.ensures c.in_ok-text.ensures;
    }
