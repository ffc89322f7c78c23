use Rattle.std.proofs.Common.{◌≡◌, ◌≤◌, Bool, true, arith, rules}
use Rattle.std.specs.Bool.{Decides}
use Rattle.kat_design.specs.Designs.{design_form}
use Rattle.kat_design.specs.Sizes.{size_of}
use Rattle.kat_rules.specs.Listed.{KeepsRules}
use Rattle.kat_rules.specs.Tests.{keeps_rules}
use Rattle.kat_walk.proofs.MarkLemmas.{over_ok}
use Rattle.kat_gram.proofs.Told.{may_be_listed}
use Rattle.kat_gram.proofs.agreeing.may_be_listed.Goals as goal

pub returns : goal.returns
returns c =
    let x = c.args.setting.now in
    let d = design_form c.args.design.now in
    let yes : c.agrees.result ≡ true = search rules in
    let least : c.size.result ≤ c.args.most = omega (arith, c.if-size-most.false) in
    over_ok c.keeps_rules.result (λ (b : Bool). b ≡ keeps_rules x d) (λ (b : Bool). Decides b (KeepsRules x d × (size_of d ≤ c.args.most))) c.keeps_rules.ensures
    (λ b e. may_be_listed x d c.args.most c.size.result c.agrees.result b c.agrees.ensures yes c.size.ensures least c.requires e)
