use Rattle.std.proofs.Common.{arith}
use Rattle.kat_io.proofs.Readings.{whole_given}
use Rattle.kat_io.proofs.host.read_up_to.Goals as goal

pub returns-in-Ok : goal.returns-in-Ok
returns-in-Ok g c =
    let r = whole_given (g.R.Read.remaining c.args.reader) c.take.result.limit c.args.into.now.items c.read_to_end.new.buf.items c.in-Ok.ensures.appends
    (rw c.take.ensures.inner at c.in-Ok.ensures.bytes)
    (omega (arith, c.in-Ok.ensures.ok, c.read_to_end.new.buf.ok, c.args.into.now.ok, c.read_to_end.new.buf.small, c.take.ensures.limit, c.saturating_add-most.ensures, c.if-taken-limit.true)) in
    (r.bytes, r.text, omega (arith, r.long, c.in-Ok.ensures.ok, c.read_to_end.new.buf.ok, c.args.into.now.ok, c.if-taken-limit.true), r.tells)
