use Rattle.kat_share_call.proofs.Requests.{begins_so}
use Rattle.kat_share_call.proofs.words.read_words.Goals as goal

pub returns : goal.returns
returns c = begins_so (λ request. request.command) c.asked_for.result _ _ c.in-Some.ensures c.asked_for.ensures
