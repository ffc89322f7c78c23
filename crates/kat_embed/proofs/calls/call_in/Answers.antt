use Rattle.std.proofs.Common.{◌∙◌}
use Rattle.kat_embed.proofs.Calling.{none_only, only_fits, refused_call}
use Rattle.kat_embed.proofs.calls.call_in.Goals as goal

pub returns-in-Ok-clause-fits : goal.returns-in-Ok-clause-fits
returns-in-Ok-clause-fits c = only_fits c.args.verb c.args.sig.now c.deref.result.now c.in-Ok.calls.items c.the_only.result c.in-Ok.ensures.calls c.the_only.ensures.only

pub returns-in-Ok-clause-refused : goal.returns-in-Ok-clause-refused
returns-in-Ok-clause-refused c =
    none_only c.args.verb c.args.sig.now c.args.text.now c.deref.result.now c.in-Ok.calls.items c.the_only.result (c.deref.ensures.value ∙ c.in_ok-line.ensures) c.in-Ok.ensures.calls
    c.the_only.ensures.none

pub returns : goal.returns
returns c = record {
  call = tt;
  fits = tt;
  refused =
      rw c.call_error.ensures (refused_call c.args.verb c.args.sig.now c.args.text.now c.deref.result.now c.in-Err.error (c.deref.ensures.value ∙ c.in_ok-line.ensures) c.in-Err.ensures.refusal);
}
