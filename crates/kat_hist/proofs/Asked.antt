-- What is done has small arguments, and a design differs if and only if an order tells.
use Rattle.std.proofs.Common.{◌≡◌, Bool, List, get_or, sym, ◌∙◌, ap, subst}
use Rattle.std.specs.Prelude.{All}
use Rattle.std.specs.Bool.{Decides}
use Rattle.std.specs.List.{list_any}
use Rattle.kat_design.specs.Denotations.{denotation_of}
use Rattle.kat_design.specs.Designs.{DesignForm}
use Rattle.kat_design.specs.Fitting.{FitsSignature}
use Rattle.kat_design.proofs.LowCells.{args_low}
use Rattle.kat_seq.specs.Sizes.{HaveSmallArguments}
use Rattle.kat_type.specs.Lists.{IsOnce}
use Rattle.kat_type.specs.Signatures.{signature_of}
use Rattle.kat_type.specs.Types.{TypeForm}
use Rattle.kat_type.specs.declared.done.Done.{Done}
use Rattle.kat_type.specs.declared.signatures.Signature.{Signature}
use Rattle.kat_histories.specs.Orders.{orders_of}
use Rattle.kat_histories.specs.Pools.{asks_of}
use Rattle.kat_histories.specs.declared.calls.Call.{Call}
use Rattle.kat_histories.specs.declared.histories.History.{History}
use Rattle.kat_histories.specs.Differing.{Differs}
use Rattle.kat_hist.specs.Arranging.{tells_apart}
use Rattle.kat_hist.proofs.Telling.{differs_told}

pub dones_small : (sig : Signature) (ones : List Done) → All (FitsSignature sig) ones → HaveSmallArguments ones
dones_small sig ones fits = λ k d lt. args_low sig (get_or ones k d) (fits k d lt)

-- the signatures of the type and the design are one
pub differs_by : (ty : TypeForm) (d : DesignForm) (history : History) (asks : List Call) (b : Bool) → IsOnce history.ops → d.sig ≡ signature_of ty → asks ≡ asks_of d.sig
    → b ≡ list_any (tells_apart ty d (denotation_of d history.ops) asks) (orders_of history.ops) → Decides b (Differs ty d history)
differs_by ty d history asks b once same is e =
    subst (λ (x : Bool). Decides x (Differs ty d history))
    (sym (e ∙ ap (λ (l : List Call). list_any (tells_apart ty d (denotation_of d history.ops) l) (orders_of history.ops)) (is ∙ ap asks_of same)))
    (differs_told ty d history once)

pub differs_slice : (ty : TypeForm) (d : DesignForm) (history : History) (slice : List Done) (asks : List Call) (b : Bool) → slice ≡ history.ops → IsOnce history.ops
    → d.sig ≡ signature_of ty → asks ≡ asks_of d.sig → b ≡ list_any (tells_apart ty d (denotation_of d slice) asks) (orders_of slice) → Decides b (Differs ty d history)
differs_slice ty d history slice asks b at once same is e =
    differs_by ty d history asks b once same is (e ∙ ap (λ (ones : List Done). list_any (tells_apart ty d (denotation_of d ones) asks) (orders_of ones)) at)
