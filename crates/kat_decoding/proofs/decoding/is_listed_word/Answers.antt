use Rattle.std.proofs.Common.{◌≡◌, IfOk, Bool, subst}
use Rattle.kat_design.specs.Designs.{DesignForm}
use Rattle.kat_rules.specs.Tests.{is_word_of}
use Rattle.kat_decoding.proofs.decoding.is_listed_word.Goals as goal

pub returns : goal.returns
returns c =
    subst (λ (d : DesignForm). IfOk c.is_word_of.result (λ (b : Bool). b ≡ is_word_of c.args.setting.now c.args.wanted c.args.tokens.now d)) c.in_ok-design.ensures c.is_word_of.ensures
