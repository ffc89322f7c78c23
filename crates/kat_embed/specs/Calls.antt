-- Texts of one call, and answers.
use Rattle.std.specs.Prelude.{◌≡◌, ℕ, List, [], ◌∷◌, ◌++◌, codes}
use Rattle.kat_actions.specs.Texts.{AreCallsOf}
use Rattle.kat_actions.specs.declared.calls.Call.{Call}
use Rattle.kat_actions.specs.declared.calls.Verb.{Verb}
use Rattle.kat_actions.specs.declared.calls.Verb.TheVariants.{Do, Ask}
use Rattle.kat_design.specs.Denotations.{denotation_of}
use Rattle.kat_node.specs.Packets.{parts_of}
use Rattle.kat_num.specs.Values.{value_text}
use Rattle.kat_num.specs.declared.values.Value.{Value}
use Rattle.kat_script.specs.declared.error.ScriptError.{ScriptError}
use Rattle.kat_script.specs.declared.error.ScriptError.TheVariants as script
use Rattle.kat_step.specs.Runs.{IsLegal}
use Rattle.kat_type.specs.Types.{type_form}
use Rattle.kat_type.specs.declared.done.Done.{Done}
use Rattle.kat_type.specs.declared.signatures.Signature.{Signature}
use Rattle.kat_world.specs.Answers.{IsSequentialAnswer}
use Rattle.kat_embed.specs.Contents.{design_of}
use Rattle.kat_embed.specs.declared.contents.Contents.{Contents}
use Rattle.kat_embed.specs.declared.errors.CallError.{CallError}
use Rattle.kat_embed.specs.declared.errors.CallError.TheVariants.{NoCall, Memory}
use Rattle.kat_embed.specs.Passing.{Says}
use Rattle.kat_embed.specs.declared.passing.TaggedValue.{TaggedValue}

-- the line of a list of calls that a text of a call stands for: the text after the first word and a blank
abbrev pub line_of : Verb → List ℕ → List ℕ
line_of Do text = codes "do " ++ text
line_of Ask text = codes "ask " ++ text

-- the text is that of one call: an operation or query of the signature with arguments of its sorts, as a script has it
abbrev pub IsCallText : Verb → Signature → List ℕ → Call → Type 0
IsCallText verb sig text call = AreCallsOf verb sig (line_of verb text) (call ∷ [])

-- the text is that of no call; out of memory tells nothing
abbrev pub IsNoCall : Verb → Signature → List ℕ → CallError → Type 0
IsNoCall verb sig text NoCall = (call : Call) → IsCallText verb sig text call → ⊥
IsNoCall verb sig text Memory = Unit {0}

-- used inside only: a text that isn't read as a list of calls is no call
abbrev pub call_error : ScriptError → CallError
call_error script.Memory = Memory
call_error (script.Refused number at) = NoCall
call_error (script.Line number line) = NoCall
call_error (script.Late line clock) = NoCall

-- the text is that of a value, which the type answers after these operations, in every order of them that respects the ranks
pub record IsTypesAnswer (c : Contents) (ones : List Done) (call : Call) (text : List ℕ) : Type 0 where
  pub value : Value
  pub sequential : IsSequentialAnswer (type_form c.ty) ones call.item call.args value
  pub is : text ≡ value_text value

-- what is passed says a value, which the type answers so
pub record SaysTypesAnswer (c : Contents) (ones : List Done) (call : Call) (passed : TaggedValue) : Type 0 where
  pub value : Value
  pub sequential : IsSequentialAnswer (type_form c.ty) ones call.item call.args value
  pub says : Says passed value

-- wherever the state of the replica is what some legal operations give, the text is the type's answer after them
abbrev pub AnswersAsAfter : Contents → Call → List ℕ → Type 0
AnswersAsAfter c call text =
    (ones : List Done) → IsLegal c.design.sig ones → parts_of c.node ≡ denotation_of (design_of c) ones → IsTypesAnswer c ones call text

abbrev pub SaysAsAfter : Contents → Call → TaggedValue → Type 0
SaysAsAfter c call passed =
    (ones : List Done) → IsLegal c.design.sig ones → parts_of c.node ≡ denotation_of (design_of c) ones → SaysTypesAnswer c ones call passed
