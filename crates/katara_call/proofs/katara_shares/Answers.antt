use Rattle.std.proofs.Common.{length, ap, ◌∙◌}
use Rattle.katara_call.specs.ShareCalls.{IsSharesCall}
use Rattle.katara_call.specs.Passed.{passed_as}
use Rattle.katara_call.proofs.RoomLemmas.{said_in_rooms}
use Rattle.katara_call.proofs.katara_shares.Goals as goal

pub returns-clause-called : goal.returns-clause-called
returns-clause-called c = λ less.
    let given = c.pass.ensures.passed less in
    said_in_rooms (IsSharesCall (passed_as c.args.words.now c.args.names.now c.args.lengths.now c.args.bytes.now)) c.shares_said-said.result.code _
    c.shares_said-said.result.written.items _ c.shares_said-said.result.line.items _ given.0 (given.1 ∙ c.deref.ensures.value) (given.2 ∙ c.deref-2.ensures.value)
    c.shares_said-said.ensures.says

pub returns-clause-short : goal.returns-clause-short
returns-clause-short c = λ is. record {
  code = c.shares_said-said.result.code;
  written = c.shares_said-said.result.written.items;
  text = c.shares_said-said.result.line.items;
  says = c.shares_said-said.ensures.says;
  out_is = c.pass.ensures.lengths.0 ∙ ap length c.deref.ensures.value;
  line_is = c.pass.ensures.lengths.1 ∙ ap length c.deref-2.ensures.value;
  longer = c.pass.ensures.longer is;
}
