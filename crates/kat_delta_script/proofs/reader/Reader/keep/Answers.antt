use Rattle.std.proofs.Common.{◌≡◌, ◌∙◌, ap, arith, length, rules}
use Rattle.std.proofs.lemmas.Grind.{common_steps}
use Rattle.kat_delta_script.specs.Scripts.{counted_line}
use Rattle.kat_delta_script.proofs.Keeping.{stands_kept}
use Rattle.kat_delta_script.proofs.reader.Reader.keep.Goals as goal

pub returns-clause-stands : goal.returns-clause-stands
returns-clause-stands c = λ place s.
    let size : c.len.result ≡ length c.advance.new.ledger.clocks.items = first_of (search rules, omega (arith, c.len.ensures, c.advance.new.ledger.clocks.ok), grind (arith, common_steps)) in
    let k =
    stands_kept c.args.sig.now c.args.self.now.ledger c.advance.new.ledger c.args.self.now.tally c.take.new.self c.args.statement c.counted_line-line.result c.len.result c.requires.kept c.in_ok-advance.ensures
    (c.counted_line-line.ensures ∙ ap (counted_line c.args.statement.from) c.in_ok-line.ensures) size c.in_ok-take.ensures place s in
    record {
      matches = record { clocks = k.matches.clocks; words = k.matches.words; sent = k.matches.sent; lines = k.matches.lines };
      counts = k.counts;
    }
