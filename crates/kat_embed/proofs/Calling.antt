-- Texts of one call.
use Rattle.std.proofs.Common.{◌≡◌, ℕ, List, [], ◌∷◌, sym, subst, Result, Ok, Err}
use Rattle.std.specs.Prelude.{IfErr, IfOk}
use Rattle.std.specs.List.{AllByRecursion}
use Rattle.std.proofs.lemmas.Result.{IfOk-weaker}
use Rattle.kat_actions.specs.Texts.{AreCallsOf, FitsSignature, TellsRefusal}
use Rattle.kat_actions.specs.declared.calls.Call.{Call}
use Rattle.kat_actions.specs.declared.calls.Verb.{Verb}
use Rattle.kat_actions.proofs.Fitting.{calls_fit}
use Rattle.kat_actions.proofs.Judging.{calls_once, calls_or_refused}
use Rattle.kat_script.specs.declared.error.ScriptError.{ScriptError}
use Rattle.kat_script.specs.declared.error.ScriptError.TheVariants as script
use Rattle.kat_type.specs.declared.signatures.Signature.{Signature}
use Rattle.kat_embed.specs.Calls.{IsCallText, IsNoCall, call_error, line_of}
use Rattle.kat_embed.specs.declared.errors.CallError.{CallError}
use Rattle.kat_embed.specs.declared.errors.CallError.TheVariants.{NoCall}

if_err : {A E : Type 0} (r : Result A E) (P Q : E → Type 0) → ((e : E) → P e → Q e) → IfErr r P → IfErr r Q
if_err (Ok x) P Q f h = h
if_err (Err e) P Q f h = f e h

-- a call that is the only one of a text fits the signature
pub only_fits : (verb : Verb) (sig : Signature) (line : List ℕ) (calls : List Call) (result : Result Call CallError) → AreCallsOf verb sig line calls → IfOk result (λ call. calls ≡ call ∷ [])
    → IfOk result (FitsSignature verb sig)
only_fits verb sig line calls result are only =
    IfOk-weaker result (λ call. calls ≡ call ∷ []) (FitsSignature verb sig)
    (λ call e. (subst (λ (all : List Call). AllByRecursion (FitsSignature verb sig) all) e (calls_fit verb sig line calls are).each).0) only

-- a text of no call, or of more than one
pub none_only : (verb : Verb) (sig : Signature) (text line : List ℕ) (calls : List Call) (result : Result Call CallError) → line ≡ line_of verb text → AreCallsOf verb sig line calls
    → IfErr result (λ error. (error ≡ NoCall) × ((call : Call) → calls ≡ call ∷ [] → ⊥)) → IfErr result (IsNoCall verb sig text)
none_only verb sig text line calls result same are none =
    if_err result (λ error. (error ≡ NoCall) × ((call : Call) → calls ≡ call ∷ [] → ⊥)) (IsNoCall verb sig text)
    (λ error h. subst (IsNoCall verb sig text) (sym h.0) (λ call is.
    h.1 call (calls_once verb sig line calls (call ∷ []) are (subst (λ (l : List ℕ). AreCallsOf verb sig l (call ∷ [])) (sym same) is)))) none

-- a text that isn't read as a list of calls
refused_so : (verb : Verb) (sig : Signature) (text line : List ℕ) (error : ScriptError) → line ≡ line_of verb text → ((calls : List Call) → AreCallsOf verb sig line calls → ⊥)
    → (call : Call) → IsCallText verb sig text call → ⊥
refused_so verb sig text line error same none call is = none (call ∷ []) (subst (λ (l : List ℕ). AreCallsOf verb sig l (call ∷ [])) (sym same) is)

pub refused_call : (verb : Verb) (sig : Signature) (text line : List ℕ) (error : ScriptError) → line ≡ line_of verb text → TellsRefusal verb sig line error → IsNoCall verb sig text (call_error error)
refused_call verb sig text line script.Memory same h = tt
refused_call verb sig text line (script.Refused number at) same h =
    refused_so verb sig text line (script.Refused number at) same (λ calls are. calls_or_refused verb sig line calls (script.Refused number at) are h)
refused_call verb sig text line (script.Line number at) same h =
    refused_so verb sig text line (script.Line number at) same (λ calls are. calls_or_refused verb sig line calls (script.Line number at) are h)
refused_call verb sig text line (script.Late at clock) same h =
    refused_so verb sig text line (script.Late at clock) same (λ calls are. calls_or_refused verb sig line calls (script.Late at clock) are h)
