-- What an accepted design answers: the answers of its type.
use Rattle.std.proofs.Common.{◌≡◌, ℕ, ◌^◌, List, [], ◌∷◌, sym, ◌∙◌, ap, subst, rules, arith, Option, None, Some}
use Rattle.std.specs.Prelude.{All, MatchOption, slice_get}
use Rattle.std.specs.List.{AllByRecursion}
use Rattle.std.proofs.lemmas.List.Elements.{All-from_recursion}
use Rattle.kat_actions.specs.Texts.{FitsSignature}
use Rattle.kat_actions.specs.declared.calls.Call.{Call}
use Rattle.kat_actions.specs.declared.calls.Verb.TheVariants.{Ask}
use Rattle.kat_check.specs.Acceptance.{lines_at}
use Rattle.kat_design.specs.Answers.{answer_of}
use Rattle.kat_design.specs.Denotations.{denotation_of}
use Rattle.kat_design.specs.Designs.{DesignForm}
use Rattle.kat_design.specs.Fitting as design
use Rattle.kat_design.specs.Sorted.{AreMatched, IsWellSorted}
use Rattle.kat_design.specs.declared.states.Part.{Part}
use Rattle.kat_design.proofs.Accepted.{well_sorted}
use Rattle.kat_expr.specs.Limits.{IsAtMost}
use Rattle.kat_invariant.specs.Accepted.{GoTogether}
use Rattle.kat_invariant.proofs.Keys.{type_files_have_keys}
use Rattle.kat_invariant.proofs.Refuted.{refuted_conditions_hold}
use Rattle.kat_invariant.proofs.Sequential.{inductive_designs_answer}
use Rattle.kat_lattice.specs.Sets.{TellsApart}
use Rattle.kat_node.specs.Nodes.{IsNode}
use Rattle.kat_node.specs.Packets.{parts_of}
use Rattle.kat_num.specs.Orders.{value_order}
use Rattle.kat_num.specs.Values.{IsArgument, value_text}
use Rattle.kat_num.specs.contracts.values.ValueOrd.TheImpl.Laws.{total-law}
use Rattle.kat_num.specs.declared.values.Sort.{Sort}
use Rattle.kat_num.specs.declared.values.Value.{Value}
use Rattle.kat_num.specs.declared.values.Value.TheVariants as value
use Rattle.kat_script.specs.Judged.{AreArguments, HasOp, HasQuery}
use Rattle.kat_script.specs.Rules.{HasFewCalls}
use Rattle.kat_seq.specs.Operations.{CanBeDone}
use Rattle.kat_step.specs.Runs.{IsLegal}
use Rattle.kat_type.specs.Signatures.{signature_of}
use Rattle.kat_type.specs.Types.{TypeForm, type_form}
use Rattle.kat_type.specs.declared.done.Done.{Done}
use Rattle.kat_type.specs.declared.signatures.OpSig.{OpSig}
use Rattle.kat_type.specs.declared.signatures.QuerySig.{QuerySig}
use Rattle.kat_type.specs.declared.signatures.Signature.{Signature}
use Rattle.kat_type_file.proofs.Alike.{file_alike}
use Rattle.kat_type_file.proofs.Limiting.{file_sorted}
use Rattle.kat_wire.specs.FileForms.{FileForm}
use Rattle.kat_wire.specs.Files.{IsFileText}
use Rattle.kat_wire.proofs.AcceptedFiles.{file_accepted}
use Rattle.kat_world.specs.AsType.{AnswersAsType}
use Rattle.kat_world.proofs.Fitting.{op_fits, query_fits}
use Rattle.kat_embed.specs.Accepting.{AreAccepted, AreTexts}
use Rattle.kat_embed.specs.Calls.{AnswersAsAfter, SaysAsAfter}
use Rattle.kat_embed.specs.Contents.{AreMarkSums, IsSound, design_of}
use Rattle.kat_embed.specs.Passing.{Says}
use Rattle.kat_embed.specs.declared.contents.Contents.{Contents}
use Rattle.kat_embed.specs.declared.passing.TaggedValue.{TaggedValue}

-- values that compare equal are one
tells_apart : TellsApart value_order
tells_apart = search rules

-- the design of a file has no wrong place, and few calls
pub well_sorted_file : (text : List ℕ) (f : FileForm) → IsFileText text f → IsWellSorted f.design
well_sorted_file text f is = well_sorted f.design (file_accepted text f is).accepted

pub few_calls_file : (text : List ℕ) (f : FileForm) → IsFileText text f → HasFewCalls f.design.sig
few_calls_file text f is =
    let small = (file_accepted text f is).signature.small in record { few_ops = small.few_ops; few_queries = small.few_queries }

go_together : (first second : List ℕ) (ty : TypeForm) (file : FileForm) → AreTexts first second ty file → GoTogether ty file.design
go_together first second ty file is = record {
  type_sorted = file_sorted first ty is.says;
  ranks = file_alike first ty is.says;
  keys = type_files_have_keys first ty is.says;
  design_sorted = well_sorted_file second file is.is_file;
  signed = sym is.agree;
}

-- an accepted file's design answers as its type does
pub answers_as_type : (first second : List ℕ) (ty : TypeForm) (file : FileForm) → AreAccepted first second ty file → AnswersAsType ty file.design
answers_as_type first second ty file a =
    let together = go_together first second ty file a.texts in
    let inductive = refuted_conditions_hold ty file.design file.relation together a.accepted.fits (λ k from to. (lines_at file k, a.accepted.proved k from to)) in
    λ ones can query q args there fit arranged arranges ranked.
    inductive_designs_answer total-law tells_apart ty file.design file.relation together inductive
    ones (record { fit = can.fit; timed = can.timed; numbered = can.numbered; once = can.once; apart = can.apart }) query q args there fit arranged arranges ranked

-- operations that fit a signature are those of a type that has it
arguments : (sorts : List Sort) (values : List Value) → AreMatched (λ (v : Value) (s : Sort). IsArgument s v) values sorts → AreArguments sorts values
arguments [] [] h = tt
arguments [] (v ∷ values) h = absurd h
arguments (s ∷ sorts) [] h = absurd h
arguments (s ∷ sorts) (v ∷ values) h = (h.0, arguments sorts values h.1)

has_op : (sig : Signature) (done : Done) → design.FitsSignature sig done → HasOp sig done.op done.args
has_op sig done fits = subst (λ (found : Option OpSig). MatchOption found ⊥ (λ op. AreArguments op.sorts done.args)) (sym fits.found) (arguments fits.op.sorts done.args fits.args)

can_be_done : (ty : TypeForm) (sig : Signature) (ones : List Done) → signature_of ty ≡ sig → IsLegal sig ones → CanBeDone ty ones
can_be_done ty sig ones same legal = record {
  fit = λ one has. op_fits ty one (subst (λ (s : Signature). HasOp s one.op one.args) (sym same) (has_op sig one (legal.fits one has)));
  timed = legal.timed;
  numbered = λ one has. (legal.fits one has).numbered;
  once = legal.once;
  apart = λ one other h k r t. legal.apart one other h k r t;
}

-- arguments are small
argument_small : (s : Sort) (v : Value) → IsArgument s v → IsAtMost (2 ^ 100) v
argument_small s (value.Bool b) is = tt
argument_small s (value.Num z) is = let small = is.within in omega (arith, small)
argument_small s (value.Name code) is = tt

arguments_small : (sorts : List Sort) (args : List Value) → AreArguments sorts args → AllByRecursion (IsAtMost (2 ^ 100)) args
arguments_small [] [] h = tt
arguments_small [] (v ∷ args) h = absurd h
arguments_small (s ∷ sorts) [] h = absurd h
arguments_small (s ∷ sorts) (v ∷ args) h = (argument_small s v h.0, arguments_small sorts args h.1)

found_small : (found : Option QuerySig) (args : List Value) → MatchOption found ⊥ (λ query. AreArguments query.sorts args) → AllByRecursion (IsAtMost (2 ^ 100)) args
found_small None args h = absurd h
found_small (Some query) args h = arguments_small query.sorts args h

pub asked_small : (sig : Signature) (call : Call) → FitsSignature Ask sig call → All (IsAtMost (2 ^ 100)) call.args
asked_small sig call h = All-from_recursion (IsAtMost (2 ^ 100)) call.args (found_small (slice_get sig.queries call.item) call.args h)

-- the text of a design's answer is that of the type's
pub types_answer : (c : Contents) (call : Call) (text : List ℕ) → IsSound c → FitsSignature Ask c.design.sig call
    → text ≡ value_text (answer_of (design_of c) (parts_of c.node) call.item call.args) → AnswersAsAfter c call text
types_answer c call text sound fits is = λ ones legal state.
    let asked = query_fits (type_form c.ty) call.item call.args (subst (λ (s : Signature). HasQuery s call.item call.args) (sym sound.signed) fits) in
    let given = answer_of (design_of c) (denotation_of (design_of c) ones) call.item call.args in
    record {
      value = given;
      sequential = sound.right ones (can_be_done (type_form c.ty) c.design.sig ones sound.signed legal) call.item asked.0 call.args asked.1 asked.2;
      is = is ∙ ap (λ (parts : List Part). value_text (answer_of (design_of c) parts call.item call.args)) state;
    }

-- and so is what is passed
pub says_types_answer : (c : Contents) (call : Call) (given : Value) (passed : TaggedValue) → IsSound c → FitsSignature Ask c.design.sig call
    → given ≡ answer_of (design_of c) (parts_of c.node) call.item call.args → Says passed given → SaysAsAfter c call passed
says_types_answer c call given passed sound fits is says = λ ones legal state.
    let asked = query_fits (type_form c.ty) call.item call.args (subst (λ (s : Signature). HasQuery s call.item call.args) (sym sound.signed) fits) in
    record {
      value = answer_of (design_of c) (denotation_of (design_of c) ones) call.item call.args;
      sequential = sound.right ones (can_be_done (type_form c.ty) c.design.sig ones sound.signed legal) call.item asked.0 call.args asked.1 asked.2;
      says = subst (λ (v : Value). Says passed v) (is ∙ ap (λ (parts : List Part). answer_of (design_of c) parts call.item call.args) state) says;
    }

-- a replica that is opened is sound
pub sound_opened : (first second : List ℕ) (c : Contents) (file : FileForm) → AreAccepted first second (type_form c.ty) file → design_of c ≡ file.design
    → IsNode (design_of c) c.node → AreMarkSums c.marks → IsSound c
sound_opened first second c file a same node marks = record {
  sorted = subst IsWellSorted (sym same) (well_sorted_file second file a.texts.is_file);
  few = subst (λ (d : DesignForm). HasFewCalls d.sig) (sym same) (few_calls_file second file a.texts.is_file);
  signed = a.texts.agree ∙ ap (λ (d : DesignForm). d.sig) (sym same);
  right = subst (λ (d : DesignForm). AnswersAsType (type_form c.ty) d) (sym same) (answers_as_type first second (type_form c.ty) file a);
  node = node;
  marks = marks;
}

-- and so is one of the same type and design
pub sound_another : (c other : Contents) → IsSound c → type_form other.ty ≡ type_form c.ty → design_of other ≡ design_of c → IsNode (design_of other) other.node → AreMarkSums other.marks
    → IsSound other
sound_another c other sound ty design node marks = record {
  sorted = subst IsWellSorted (sym design) sound.sorted;
  few = subst (λ (d : DesignForm). HasFewCalls d.sig) (sym design) sound.few;
  signed = ap signature_of ty ∙ (sound.signed ∙ ap (λ (d : DesignForm). d.sig) (sym design));
  right = subst (λ (t : TypeForm). AnswersAsType t (design_of other)) (sym ty) (subst (λ (d : DesignForm). AnswersAsType (type_form c.ty) d) (sym design) sound.right);
  node = node;
  marks = marks;
}
