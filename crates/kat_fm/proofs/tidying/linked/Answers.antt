use Rattle.std.proofs.Common.{◌≡◌, ◌+◌, ◌-◌, ◌<◌, ℕ, get_or, length, arith, refl, subst}
use Rattle.kat_fm.specs.Lists.{AreLinked}
use Rattle.kat_fm.proofs.Listings.{links_more}
use Rattle.kat_fm.proofs.tidying.linked.Goals as goal

pub back-preserved : goal.back-preserved
back-preserved c =
    let numbers = c.args.numbers.now in let place = c.back.place - 1 in
    let old = c.back.links in let new = c.link.new.links in
    let one : c.back.place ≡ place + 1 = omega arith in
    let P : ℕ → Type 0 = λ n. AreLinked numbers n old.first.items old.next.items in
    let within = c.back.invariant.within in
    let below : place < length numbers = omega arith in
    record {
      within = omega arith;
      linked = links_more numbers place (get_or numbers place 0) old.first.items old.next.items new.first.items new.next.items refl below (c.requires place 0 below) (subst P one c.back.invariant.linked) c.link.ensures.next c.link.ensures.first;
    }
