-- Answers in the state of a node, and those of the type.
use Rattle.std.proofs.Common.{◌≡◌, ℕ, ◌+◌, ◌^◌, ◌<◌, List, [], ◌∷◌, ◌++◌, refl, sym, ◌∙◌, ap, append_assoc, append-nil, drop, get_or, length, subst, arith, Option, None, Some}
use Rattle.std.specs.Prelude.{All, MatchOption, slice_get}
use Rattle.std.specs.List.{AllByRecursion}
use Rattle.std.proofs.lemmas.List.Elements.{All-from_recursion}
use Rattle.kat_num.specs.Values.{IsArgument}
use Rattle.kat_num.specs.declared.values.Sort.{Sort}
use Rattle.kat_num.specs.declared.values.Value.{Value}
use Rattle.kat_num.specs.declared.values.Value.TheVariants as value
use Rattle.kat_expr.specs.Limits.{IsAtMost}
use Rattle.kat_actions.specs.Texts.{FitsSignature}
use Rattle.kat_actions.specs.declared.calls.Call.{Call}
use Rattle.kat_actions.specs.declared.calls.Verb.TheVariants.{Ask}
use Rattle.kat_design.specs.Answers.{answer_of}
use Rattle.kat_design.specs.Denotations.{denotation_of}
use Rattle.kat_design.specs.Designs.{DesignForm}
use Rattle.kat_design.specs.Fitting as design
use Rattle.kat_design.specs.Sorted.{AreMatched}
use Rattle.kat_design.specs.declared.states.Part.{Part}
use Rattle.kat_design.proofs.Firsts.{left_drop}
use Rattle.kat_node.specs.Packets.{parts_of}
use Rattle.kat_node.specs.declared.nodes.Node.{Node}
use Rattle.kat_script.specs.Judged.{AreArguments, HasOp, HasQuery}
use Rattle.kat_seq.specs.Operations.{CanBeDone}
use Rattle.kat_step.specs.Runs.{IsLegal}
use Rattle.kat_type.specs.Signatures.{signature_of}
use Rattle.kat_type.specs.Types.{TypeForm}
use Rattle.kat_type.specs.declared.done.Done.{Done}
use Rattle.kat_type.specs.declared.signatures.OpSig.{OpSig}
use Rattle.kat_type.specs.declared.signatures.QuerySig.{QuerySig}
use Rattle.kat_type.specs.declared.signatures.Signature.{Signature}
use Rattle.kat_world.specs.AsType.{AnswersAsType}
use Rattle.kat_world.specs.Texts.{ask_text}
use Rattle.kat_world.proofs.Fitting.{op_fits, query_fits}
use Rattle.kat_node_texts.specs.Answered.{AnswersEach, answers_text}

-- arguments are small
argument_small : (s : Sort) (v : Value) → IsArgument s v → IsAtMost (2 ^ 100) v
argument_small s (value.Bool b) is = tt
argument_small s (value.Num z) is = let small = is.within in omega (arith, small)
argument_small s (value.Name code) is = tt

arguments_small : (sorts : List Sort) (args : List Value) → AreArguments sorts args → AllByRecursion (IsAtMost (2 ^ 100)) args
arguments_small [] [] h = tt
arguments_small [] (v ∷ args) h = absurd h
arguments_small (s ∷ sorts) [] h = absurd h
arguments_small (s ∷ sorts) (v ∷ args) h = (argument_small s v h.0, arguments_small sorts args h.1)

found_small : (found : Option QuerySig) (args : List Value) → MatchOption found ⊥ (λ query. AreArguments query.sorts args) → AllByRecursion (IsAtMost (2 ^ 100)) args
found_small None args h = absurd h
found_small (Some query) args h = arguments_small query.sorts args h

pub asked_small : (sig : Signature) (call : Call) → FitsSignature Ask sig call → All (IsAtMost (2 ^ 100)) call.args
asked_small sig call h = All-from_recursion (IsAtMost (2 ^ 100)) call.args (found_small (slice_get sig.queries call.item) call.args h)

-- operations that fit a signature are those of a type that has it
arguments : (sorts : List Sort) (values : List Value) → AreMatched (λ (v : Value) (s : Sort). IsArgument s v) values sorts → AreArguments sorts values
arguments [] [] h = tt
arguments [] (v ∷ values) h = absurd h
arguments (s ∷ sorts) [] h = absurd h
arguments (s ∷ sorts) (v ∷ values) h = (h.0, arguments sorts values h.1)

has_op : (sig : Signature) (done : Done) → design.FitsSignature sig done → HasOp sig done.op done.args
has_op sig done fits = subst (λ (found : Option OpSig). MatchOption found ⊥ (λ op. AreArguments op.sorts done.args)) (sym fits.found) (arguments fits.op.sorts done.args fits.args)

can_be_done : (ty : TypeForm) (sig : Signature) (ones : List Done) → signature_of ty ≡ sig → IsLegal sig ones → CanBeDone ty ones
can_be_done ty sig ones same legal = record {
  fit = λ one has. op_fits ty one (subst (λ (s : Signature). HasOp s one.op one.args) (sym same) (has_op sig one (legal.fits one has)));
  timed = legal.timed;
  numbered = λ one has. (legal.fits one has).numbered;
  once = legal.once;
  apart = λ one other h k r t. legal.apart one other h k r t;
}

pub answers_each : (ty : TypeForm) (d : DesignForm) (ones : List Done) (node : Node) (questions : List Call) → signature_of ty ≡ d.sig → AnswersAsType ty d → IsLegal d.sig ones
    → parts_of node ≡ denotation_of d ones → AllByRecursion (FitsSignature Ask d.sig) questions → AnswersEach ty ones node.number questions (answers_text d node questions)
answers_each ty d ones node [] same right legal is fit = refl
answers_each ty d ones node (call ∷ questions) same right legal is fit =
    let asked = query_fits ty call.item call.args (subst (λ (s : Signature). HasQuery s call.item call.args) (sym same) fit.0) in
    let mine = answer_of d (parts_of node) call.item call.args in
    let theirs = answer_of d (denotation_of d ones) call.item call.args in
    let one : mine ≡ theirs = ap (λ (parts : List Part). answer_of d parts call.item call.args) is in
    let rest = answers_text d node questions in (
      theirs,
      rest,
      right ones (can_be_done ty d.sig ones same legal) call.item asked.0 call.args asked.1 asked.2,
      answers_each ty d ones node questions same right legal is fit.1,
      (λ i. ask_text (sym same i) node.number call.item call.args (one i) ++ rest),
    )

-- line by line
pub said_further : (d : DesignForm) (node : Node) (questions : List Call) (index : ℕ) (call : Call) (old new : List ℕ) → index < length questions → call ≡ get_or questions index call
    → old ++ answers_text d node (drop index questions) ≡ answers_text d node questions → new ≡ old ++ answers_text d node (call ∷ [])
    → new ++ answers_text d node (drop (index + 1) questions) ≡ answers_text d node questions
said_further d node questions index call old new inside is before made =
    let line = ask_text d.sig node.number call.item call.args (answer_of d (parts_of node) call.item call.args) in
    let rest = answers_text d node (drop (index + 1) questions) in
    ap (λ (t : List ℕ). t ++ rest) made ∙ append_assoc old (line ++ []) rest ∙ ap (λ (t : List ℕ). old ++ (t ++ rest)) (append-nil line)
    ∙ ap (λ (qs : List Call). old ++ answers_text d node qs) (sym (left_drop questions index call inside is)) ∙ before

pub fits_there : (sig : Signature) (questions : List Call) (index : ℕ) (call : Call) → index < length questions → call ≡ get_or questions index call → AllByRecursion (FitsSignature Ask sig) (drop index questions)
    → FitsSignature Ask sig call × AllByRecursion (FitsSignature Ask sig) (drop (index + 1) questions)
fits_there sig questions index call inside is fit = subst (AllByRecursion (FitsSignature Ask sig)) (left_drop questions index call inside is) fit
