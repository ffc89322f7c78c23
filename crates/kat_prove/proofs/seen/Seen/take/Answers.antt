use Rattle.std.proofs.Common.{◌≡◌, ◌+◌, ◌-◌, ◌<◌, None, length, sym, ◌∙◌, arith}
use Rattle.std.specs.Prelude.{slice_index_or}
use Rattle.kat_prove.proofs.Seeing.{at_any, seen_at}
use Rattle.kat_prove.proofs.seen.Seen.take.Goals as goal

pub returns-clause-found : goal.returns-clause-found
returns-clause-found c = λ trial relation h.
    let seen = c.args.self.now in
    let place = c.args.number - c.args.self.now.from in
    let below : c.args.number - c.args.self.now.from < length c.args.self.now.found.items = omega (arith, c.if-place-len.false, c.len.ensures) in
    let is : slice_index_or c.args.self.now.found.items (c.args.number - c.args.self.now.from) None ≡ c.take.result =
    at_any seen.found.items place None c.index_mut.result.now below ∙ sym c.index_mut.ensures.value ∙ sym c.take.ensures.value in
    let at : c.args.self.now.from + (c.args.number - c.args.self.now.from) ≡ c.args.number = omega (arith, c.if-number-self.false) in
    seen_at trial relation seen place c.args.number c.take.result is at h
