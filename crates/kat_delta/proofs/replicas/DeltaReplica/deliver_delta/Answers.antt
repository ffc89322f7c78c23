use Rattle.std.proofs.Common.{◌≡◌, ◌-◌, max, ap, arith, refl, rules}
use Rattle.std.specs.Vec.{with_item}
use Rattle.std.proofs.lemmas.Grind.{common_steps}
use Rattle.kat_num.specs.contracts.values.ValueOrd.TheImpl.Laws.{total-law}
use Rattle.kat_delta.specs.Standing.{count_at}
use Rattle.kat_delta.specs.declared.replicas.DeltaReplica.{DeltaReplica}
use Rattle.kat_delta.proofs.Counting.{put_count}
use Rattle.kat_delta.proofs.Standing.{stands_delivered}
use Rattle.kat_delta.proofs.replicas.DeltaReplica.deliver_delta.Goals as goal

pub returns-clause-stands : goal.returns-clause-stands
returns-clause-stands c =
    let old = c.args.self.now in
    let packet = c.args.packet.now in
    let new : DeltaReplica = record { base = c.take_in.new.self; number = old.number; counts = with_item old.counts (packet.origin - 1) c.greater.result; log = old.log } in
    let same : c.greater.result ≡ max (count_at old.counts.items packet.origin) packet.to = first_of (search rules, grind (arith, common_steps)) in
    stands_delivered total-law c.tells_values_apart.ensures old new packet c.requires.origin c.requires.there refl refl (ap (λ v. put_count old.counts.items packet.origin v) same)
    c.in_ok-take_in.ensures.clock c.in_ok-take_in.ensures.joins

pub returns-clause-takes : goal.returns-clause-takes
returns-clause-takes c =
    let old = c.args.self.now in
    let packet = c.args.packet.now in
    let same : c.greater.result ≡ max (count_at old.counts.items packet.origin) packet.to = first_of (search rules, grind (arith, common_steps)) in
    record {
      state = c.in_ok-take_in.ensures.joins;
      clock = c.in_ok-take_in.ensures.clock;
      counts = ap (λ v. put_count old.counts.items packet.origin v) same;
      number = refl;
      log = refl;
    }
