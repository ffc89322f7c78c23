use Rattle.std.proofs.Common.{◌≤◌, length, arith}
use Rattle.kat_delta_script.proofs.Delivering.{no_packet, no_replica}
use Rattle.kat_delta_script.proofs.counts.deliver.Goals as goal
use Rattle.kat_delta_script.proofs.counts.deliver.Goals.{else-place-len-via-then-place-len+else-packet-packets, else-place-len-via-else-place-len}

pub returns-else-place-len : goal.returns-else-place-len
returns-else-place-len c =
    elim c.else-place-len.branch [
      | else-place-len-via-then-place-len+else-packet-packets w ↦ no_packet c.args.rows.now.items c.args.packets.now c.args.place c.args.packet w.if-packet-packets.false
      | else-place-len-via-else-place-len w ↦
          let past : length c.args.rows.now.items ≤ c.args.place = omega (arith, c.len.ensures, c.args.rows.now.ok, w.if-place-len.false) in
          no_replica c.args.rows.now.items c.args.packets.now c.args.place c.args.packet past
    ]
