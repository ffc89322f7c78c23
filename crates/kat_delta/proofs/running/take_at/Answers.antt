use Rattle.std.proofs.Common.{◌∙◌, ℕ, List, ap, length, refl, subst, sym}
use Rattle.std.proofs.lemmas.List.{length-set}
use Rattle.std.proofs.lemmas.Option.{slice_get_read}
use Rattle.kat_delta.specs.Following.{StandsAfter}
use Rattle.kat_delta.specs.Standing.{CarriesWhole}
use Rattle.kat_delta.specs.declared.running.Sent.{Sent}
use Rattle.kat_delta.proofs.running.take_at.Goals as goal

pub returns-in_ok-deliver_whole-in-Whole : goal.returns-in_ok-deliver_whole-in-Whole
returns-in_ok-deliver_whole-in-Whole c = record {
  old = c.index_mut.result.now;
  new = c.deliver_whole.new.self;
  there = slice_get_read c.args.replicas.now.items (length c.args.replicas.now.items) c.args.place c.index_mut.result.now refl c.requires.there c.index_mut.ensures.value;
  changed = refl;
  number = c.in_ok-deliver_whole-in-Whole.ensures.number;
  width = c.in_ok-deliver_whole-in-Whole.ensures.length;
  stands = subst (λ (sent : Sent). StandsAfter c.index_mut.result.now c.deliver_whole.new.self sent) (sym c.in-Whole.is) (
    c.in_ok-deliver_whole-in-Whole.ensures.clock,
    λ d own all ones sorted s p m. c.in_ok-deliver_whole-in-Whole.ensures.stands d own all ones sorted s
        (subst (λ (counts : List ℕ). CarriesWhole d c.in-Whole.packet counts ones) (sym c.deref.ensures.value) p) m,
  );
}

pub returns-in-Ok : goal.returns-in-Ok
returns-in-Ok c = record {
  old = c.index_mut-in-Own.result.now;
  new = c.deliver_delta.new.self;
  there = slice_get_read c.args.replicas.now.items (length c.args.replicas.now.items) c.args.place c.index_mut-in-Own.result.now refl c.requires.there c.index_mut-in-Own.ensures.value;
  changed = refl;
  number = c.in-Ok.ensures.takes.number;
  width = ap length c.in-Ok.ensures.takes.counts ∙ length-set _ _ _;
  stands = subst (λ (sent : Sent). StandsAfter c.index_mut-in-Own.result.now c.deliver_delta.new.self sent) (sym c.in-Own.is) (c.in-Ok.ensures.takes.clock, c.in-Ok.ensures.stands);
}
