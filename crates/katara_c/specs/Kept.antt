-- What the calls say of the replica at a handle, and of the bytes that they write.
use Rattle.std.specs.Prelude.{◌≡◌, ◌↔◌, ℕ, ◌≤◌, true, List, Option, None, Some, is_some}
use Rattle.kat_actions.specs.declared.calls.Call.{Call}
use Rattle.kat_actions.specs.declared.calls.Verb.{Verb}
use Rattle.kat_actions.specs.declared.calls.Verb.TheVariants.{Do, Ask}
use Rattle.kat_design.specs.Answers.{answer_of}
use Rattle.kat_node.specs.NodeFiles.{IsNodeRefusal}
use Rattle.kat_node.specs.Packets.{parts_of}
use Rattle.kat_node.specs.StateData.{node_text}
use Rattle.kat_node.specs.declared.errors.NodeError.{NodeError}
use Rattle.kat_num.specs.Values.{value_text}
use Rattle.kat_step.specs.Limits.{IsStepRefusal, refusal_of}
use Rattle.kat_step.specs.declared.error.StepError.{StepError}
use Rattle.kat_embed.specs.Accepting.{IsUnaccepted}
use Rattle.kat_embed.specs.Alike.{AreApart}
use Rattle.kat_embed.specs.Calls.{AnswersAsAfter, IsCallText, IsNoCall, SaysAsAfter}
use Rattle.kat_embed.specs.Contents.{AddsOperation, IsMerged, UnitesOperations, acted, design_of}
use Rattle.kat_embed.specs.Keys.{HasNoNewKeys, HasNoQuery}
use Rattle.kat_embed.specs.Numbered.{IsNotNumbered, IsNumberOf, IsNumbered}
use Rattle.kat_embed.specs.Passing.{Says}
use Rattle.kat_embed.specs.Running.{IsNotRun}
use Rattle.kat_embed.specs.Sharing.{CatchesNotUp, HasNoMarks, IsCaughtUp, TellsDifference, TellsMarks, TellsNoDifference, TellsShare}
use Rattle.kat_embed.specs.declared.contents.Contents.{Contents}
use Rattle.kat_embed.specs.declared.errors.AcceptError.{AcceptError}
use Rattle.kat_embed.specs.declared.errors.AcceptError.TheVariants.{BadProof}
use Rattle.kat_embed.specs.declared.errors.CallError.{CallError}
use Rattle.kat_embed.specs.declared.errors.KeysError.{KeysError}
use Rattle.kat_embed.specs.declared.errors.MergeError.{MergeError}
use Rattle.kat_embed.specs.declared.errors.RunError.{RunError}
use Rattle.kat_embed.specs.declared.errors.SharingError.{SharingError}
use Rattle.kat_embed.specs.declared.passing.TaggedValue.{TaggedValue}
use Rattle.kat_share.specs.ShareTexts.{IsShareRefusal}
use Rattle.kat_share.specs.declared.shares.ShareError.{ShareError}
use Rattle.katara_c.specs.Codes.{accept_code, call_code, keys_code, merge_code, node_code, run_code, share_code, sharing_code, step_code}

-- there is a replica, and this holds of it
abbrev pub Holds : Option Contents → (Contents → Type 0) → Type 0
Holds None Fits = ⊥
Holds (Some c) Fits = Fits c

-- there is one before and after the call, and this holds of the two
abbrev pub Turns : Option Contents → Option Contents → (Contents → Contents → Type 0) → Type 0
Turns before after Fits = Holds before (λ (b : Contents). Holds after (λ (a : Contents). Fits b a))

-- the code says that there is no replica, or why the call failed at the one that there is
abbrev pub Fails : ℕ → Option Contents → (Contents → Type 0) → Type 0
Fails code None Why = code ≡ 3
Fails code (Some c) Why = Why c

-- if the proof is at fault, the place is that of its first fault
abbrev pub IsPlaceOf : AcceptError → ℕ → ℕ → Type 0
IsPlaceOf (BadProof c l) condition line = (condition ≡ c) × (line ≡ l)
IsPlaceOf error condition line = Unit {0}

-- the type and the design are refused, as the code says
pub record IsRefusedBy (code : ℕ) (first second : List ℕ) (condition line : ℕ) : Type 0 where
  pub error : AcceptError
  pub unaccepted : IsUnaccepted first second error
  pub coded : code ≡ accept_code error
  pub place : IsPlaceOf error condition line

-- a handle isn't opened, as the code says: it has a replica already; the number isn't from 1 to 32; or the texts are refused
pub data IsNotOpened (code : ℕ) (before : Option Contents) (first second : List ℕ) (number condition line : ℕ) : Type 0 where
  full : (is_some before ≡ true) → code ≡ 3 → IsNotOpened code before first second number condition line
  no_number : (1 ≤ number → number ≤ 32 → ⊥) → code ≡ 9 → IsNotOpened code before first second number condition line
  refused : IsRefusedBy code first second condition line → IsNotOpened code before first second number condition line

-- a call that is named so is an operation, and the replica afterwards has it: at one past the clock, which is the time
pub record Acts (Names : Call → Type 0) (time : ℕ) (before after : Contents) : Type 0 where
  pub call : Call
  pub names : Names call
  pub acted_is : after ≡ acted before call
  pub adds : AddsOperation before call after
  pub clock : time ≡ after.node.replica.clock

-- no operation is named so, or one that can't be done, as the code says
pub data ActsNot (c : Contents) (Names : Call → Type 0) (NamesNone : CallError → Type 0) (code : ℕ) : Type 0 where
  no_call : (error : CallError) → NamesNone error → code ≡ call_code error → ActsNot c Names NamesNone code
  refused : (call : Call) (error : StepError) → Names call → IsStepRefusal (refusal_of (design_of c) c.node call) error
      → code ≡ step_code error → ActsNot c Names NamesNone code

-- the operation that a text calls, or that of a number with what is passed
abbrev pub IsDone : List ℕ → ℕ → Contents → Contents → Type 0
IsDone text time before after = Acts (IsCallText Do before.design.sig text) time before after

abbrev pub IsNotDone : Contents → List ℕ → ℕ → Type 0
IsNotDone c text code = ActsNot c (IsCallText Do c.design.sig text) (IsNoCall Do c.design.sig text) code

abbrev pub IsDoneBy : ℕ → List TaggedValue → ℕ → Contents → Contents → Type 0
IsDoneBy number passed time before after = Acts (IsNumbered Do before.design.sig number passed) time before after

abbrev pub IsNotDoneBy : Contents → ℕ → List TaggedValue → ℕ → Type 0
IsNotDoneBy c number passed code = ActsNot c (IsNumbered Do c.design.sig number passed) (IsNotNumbered Do c.design.sig number passed) code

-- the text calls a query, and this is the text of the design's answer, and of the type's wherever the state is what some legal
-- operations give
pub record IsAnswered (c : Contents) (text answer : List ℕ) : Type 0 where
  pub call : Call
  pub calls : IsCallText Ask c.design.sig text call
  pub answer_is : answer ≡ value_text (answer_of (design_of c) (parts_of c.node) call.item call.args)
  pub sequential : AnswersAsAfter c call answer

-- the query of a number with what is passed, and what says the design's answer, and the type's wherever the state is what some
-- legal operations give
pub record IsAnsweredBy (c : Contents) (number : ℕ) (passed : List TaggedValue) (answer : TaggedValue) : Type 0 where
  pub call : Call
  pub names : IsNumbered Ask c.design.sig number passed call
  pub says : Says answer (answer_of (design_of c) (parts_of c.node) call.item call.args)
  pub sequential : SaysAsAfter c call answer

-- no query is named so, as the code says
pub record AsksNot (NamesNone : CallError → Type 0) (code : ℕ) : Type 0 where
  pub error : CallError
  pub no_call : NamesNone error
  pub coded : code ≡ call_code error

abbrev pub IsNotAsked : Contents → List ℕ → ℕ → Type 0
IsNotAsked c text code = AsksNot (IsNoCall Ask c.design.sig text) code

abbrev pub IsNotAskedBy : Contents → ℕ → List TaggedValue → ℕ → Type 0
IsNotAskedBy c number passed code = AsksNot (IsNotNumbered Ask c.design.sig number passed) code

-- no operation or query of the replica has this name
pub record HasNoNumber (verb : Verb) (name : List ℕ) (code : ℕ) (c : Contents) : Type 0 where
  pub none : (number : ℕ) → IsNumberOf verb c.design.sig name number → ⊥
  pub coded : code ≡ 8

-- the text is that of the replica's state file
abbrev pub IsStateOf : Contents → List ℕ → Type 0
IsStateOf c text = text ≡ node_text c.node

-- 0 says that the call left the state and the clock as they were
abbrev pub TellsChange : ℕ → Contents → Contents → Type 0
TellsChange changed before after = (changed ≡ 0) ↔ (after.node ≡ before.node)

-- the state file is merged, and it is told whether that changed anything
pub record IsTakenIn (bytes : List ℕ) (changed : ℕ) (before after : Contents) : Type 0 where
  pub merged : IsMerged bytes before after
  pub unites : UnitesOperations bytes before after
  pub told : TellsChange changed before after

-- the bytes are no state file of the design, as the code says
pub record IsNotTaken (c : Contents) (bytes : List ℕ) (code : ℕ) : Type 0 where
  pub error : NodeError
  pub refused : IsNodeRefusal (design_of c) bytes error
  pub coded : code ≡ node_code error

-- the state of another replica isn't taken in, as the code says
pub record IsNotTakenFrom (c other : Contents) (code : ℕ) : Type 0 where
  pub error : MergeError
  pub apart : AreApart c other error
  pub coded : code ≡ merge_code error

-- another replica isn't made, as the code says: the handle has one already; there is none to make it from; the number isn't from 1 to
-- 32; or out of memory
pub data IsNotMade (code : ℕ) (other before : Option Contents) (number : ℕ) : Type 0 where
  full : (is_some before ≡ true) → code ≡ 3 → IsNotMade code other before number
  none : other ≡ None → code ≡ 3 → IsNotMade code other before number
  no_number : (1 ≤ number → number ≤ 32 → ⊥) → code ≡ 9 → IsNotMade code other before number
  no_memory : code ≡ 1 → IsNotMade code other before number

-- no keys are listed, as the code says
abbrev pub IsNotListed : Contents → ℕ → ℕ → Type 0
IsNotListed c query code = AsksNot (HasNoQuery c query) code

pub record IsNotListedBeyond (c : Contents) (query : ℕ) (bytes : List ℕ) (code : ℕ) : Type 0 where
  pub error : KeysError
  pub refused : HasNoNewKeys c query bytes error
  pub coded : code ≡ keys_code error

-- the text says the marks of the replica; it is its share file; and it is the packet of what it has beyond what is known
abbrev pub SaysMarks : Contents → List ℕ → Type 0
SaysMarks c text = TellsMarks c.marks text

abbrev pub SaysShare : Contents → List ℕ → Type 0
SaysShare c text = TellsShare (design_of c) c.node c.marks text

abbrev pub SaysDifference : Contents → List ℕ → List ℕ → Type 0
SaysDifference c known text = TellsDifference (design_of c) c.node c.marks known text

-- none of these is written, as the code says
pub record SaysNoMarks (c : Contents) (code : ℕ) : Type 0 where
  pub error : SharingError
  pub refused : HasNoMarks c.marks error
  pub coded : code ≡ sharing_code error

pub record SaysNoDifference (c : Contents) (known : List ℕ) (code : ℕ) : Type 0 where
  pub error : SharingError
  pub refused : TellsNoDifference (design_of c) c.marks known error
  pub coded : code ≡ sharing_code error

-- the packet is merged, and it is told whether that changed anything
pub record IsCaughtUpBy (bytes : List ℕ) (changed : ℕ) (before after : Contents) : Type 0 where
  pub merged : IsCaughtUp bytes before after
  pub told : TellsChange changed before after

-- the packet isn't merged, as the code says
pub record IsNotCaughtUp (c : Contents) (bytes : List ℕ) (code : ℕ) : Type 0 where
  pub error : SharingError
  pub refused : CatchesNotUp (design_of c) bytes c.marks error
  pub coded : code ≡ sharing_code error

-- the bytes are no share file of the design, as the code says
pub record IsNotShared (c : Contents) (bytes : List ℕ) (code : ℕ) : Type 0 where
  pub error : ShareError
  pub refused : IsShareRefusal (design_of c) bytes error
  pub coded : code ≡ share_code error

-- a script isn't run, as the code says
pub record IsNotRunBy (code : ℕ) (first second third : List ℕ) : Type 0 where
  pub error : RunError
  pub refused : IsNotRun first second third error
  pub coded : code ≡ run_code error
