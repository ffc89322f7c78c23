use Rattle.std.proofs.Common.{◌∙◌, arith}
use Rattle.kat_gram.proofs.CourseLemmas.{at_number}
use Rattle.kat_gram.proofs.listings.Listing.at.Goals as goal

pub returns : goal.returns
returns c =
    at_number c.self.inside.course c.args.self.now c.next_design.new.enumeration c.args.number c.next_design.result (omega (arith, c.if-number-eq0.false))
    (c.next_design.ensures.same ∙ c.in_ok-enumeration.ensures) c.self.view_is c.next_design.ensures.given
