-- How `node-ask` is refused, and how it ends.
use Rattle.std.proofs.Common.{◌≡◌, ℕ, zero, suc, ◌⊎◌, inl, inr, true, List, [], ◌∷◌, length, refl, sym, ◌∙◌, ap, subst, arith}
use Rattle.std.specs.Prelude.{◌==◌}
use Rattle.std.proofs.lemmas.Bool.{eqb-true, false≢true}
use Rattle.kat_actions.specs.Texts as calls
use Rattle.kat_actions.specs.declared.calls.Call.{Call}
use Rattle.kat_actions.specs.declared.calls.Verb.TheVariants.{Ask}
use Rattle.kat_actions.proofs.Fitting.{calls_fit}
use Rattle.kat_actions.proofs.Judging.{calls_once, calls_or_refused, every_text_of_calls, refusal_once}
use Rattle.kat_check.specs.Acceptance.{IsAcceptedFile, IsFirstFault}
use Rattle.kat_check.proofs.Faults.{accepted_without, one_condition, one_line}
use Rattle.kat_check.proofs.Judged.{file_judged}
use Rattle.kat_node.specs.Judgements.{IsRefusal}
use Rattle.kat_node.specs.NodeFiles.{IsNodeRefusal, IsNodeText}
use Rattle.kat_node.specs.declared.errors.NodeError.{NodeError}
use Rattle.kat_node.specs.declared.errors.NodeError.TheVariants as node
use Rattle.kat_node.specs.declared.nodes.Node.{Node}
use Rattle.kat_node.proofs.OneJudgement.{every_text, never_both, one_node, one_refusal}
use Rattle.kat_node_texts.specs.Answered.{answers_text}
use Rattle.kat_node_texts.proofs.Answering.{answers_each}
use Rattle.kat_num.specs.contracts.values.ValueOrd.TheImpl.Laws.{total-law}
use Rattle.kat_script.specs.declared.error.ScriptError.{ScriptError}
use Rattle.kat_script.specs.declared.error.ScriptError.TheVariants as script
use Rattle.kat_type.specs.Types.{TypeForm}
use Rattle.kat_type_file.proofs.Judgements.{one_type, type_or_refused}
use Rattle.kat_wire.specs.FileForms.{FileForm}
use Rattle.kat_wire.proofs.Judging as files
use Rattle.kat_cli.specs.CheckCommand.{IsFileFor}
use Rattle.kat_cli.specs.CheckCommand as check
use Rattle.kat_cli.specs.Ending.{Judges, OutputSeen}
use Rattle.kat_cli.specs.NodeAskCommand.{Accepts, AreFilesFor, Ends, Inputs, IsRefusedAs, Passes, ProofFails}
use Rattle.kat_cli.specs.Outcome.{IsEnd, Refuses}
use Rattle.kat_cli.specs.Refusals.{node_refusal, node_status, script_refusal, script_status}
use Rattle.kat_cli.specs.declared.status.Refusal.{Refusal}
use Rattle.kat_cli.specs.declared.status.Status.{Status}
use Rattle.kat_cli.specs.declared.status.Status.TheVariants.{Done}
use Rattle.kat_words.specs.declared.words.Command.TheVariants as command
use Rattle.kat_cli.proofs.AcceptedAnswers.{answers_as_type}
use Rattle.kat_cli.proofs.CheckedFiles.{behind_apart, check_apart, check_once, check_total}
use Rattle.kat_cli.proofs.DesignFiles.{well_sorted_file}

-- a file is of one design, so a state and questions are judged for one
state_there : (text : List ℕ) (some other : FileForm) (error : NodeError) → some ≡ other → IsRefusal some.design text error → IsRefusal other.design text error
state_there text some other error e h = subst (λ (f : FileForm). IsRefusal f.design text error) e h

questions_there : (text : List ℕ) (some other : FileForm) (error : ScriptError) → some ≡ other → calls.IsRefused Ask some.design.sig text error → calls.IsRefused Ask other.design.sig text error
questions_there text some other error e h = subst (λ (f : FileForm). calls.IsRefused Ask f.design.sig text error) e h

-- a file is refused in one way, and never if it passes
pub ask_apart : (earlier : List (List ℕ)) (text : List ℕ) (refusal : Refusal) → Passes earlier text → IsRefusedAs earlier text refusal → ⊥
ask_apart [] text refusal p q = check_apart [] text refusal p q
ask_apart (first ∷ []) text refusal p q = check_apart (first ∷ []) text refusal p q
ask_apart (first ∷ second ∷ []) text refusal p q =
    never_both p.1.design text p.2 q.2 p.4 (state_there text q.1 p.1 q.2 (files.one_file second q.1 p.1 q.3.is_file p.3.is_file) q.4)
ask_apart (first ∷ second ∷ third ∷ earlier) text refusal p q =
    calls_or_refused Ask p.1.design.sig text p.2 q.2 p.4 (questions_there text q.1 p.1 q.2 (files.one_file second q.1 p.1 q.3.is_file p.3.is_file) q.4)

pub ask_once : (earlier : List (List ℕ)) (text : List ℕ) (some other : Refusal) → IsRefusedAs earlier text some → IsRefusedAs earlier text other → some ≡ other
ask_once [] text some other a b = check_once [] text some other a b
ask_once (first ∷ []) text some other a b = check_once (first ∷ []) text some other a b
ask_once (first ∷ second ∷ []) text some other a b =
    a.5 ∙ ap node_refusal (one_refusal a.1.design text a.2 b.2 a.4 (state_there text b.1 a.1 b.2 (files.one_file second b.1 a.1 b.3.is_file a.3.is_file) b.4)) ∙ sym b.5
ask_once (first ∷ second ∷ third ∷ earlier) text some other a b =
    a.5 ∙ ap script_refusal (refusal_once Ask a.1.design.sig text a.2 b.2 a.4 (questions_there text b.1 a.1 b.2 (files.one_file second b.1 a.1 b.3.is_file a.3.is_file) b.4)) ∙ sym b.5

pub ask_good : (texts : List (List ℕ)) (inputs : Inputs) (file : ℕ) (refusal : Refusal) → Accepts texts inputs → Refuses command.NodeAsk [] texts file refusal → ⊥
ask_good [] inputs file refusal a q = absurd a
ask_good (t ∷ []) inputs file refusal a q = absurd a
ask_good (t ∷ d ∷ []) inputs file refusal a q = absurd a
ask_good (t ∷ d ∷ s ∷ []) inputs file refusal a q = absurd a
ask_good (t ∷ d ∷ s ∷ u ∷ []) inputs zero refusal a q = type_or_refused t inputs.ty q.0 a.checked.says q.1
ask_good (t ∷ d ∷ s ∷ u ∷ []) inputs (suc zero) refusal a q = behind_apart t d refusal inputs.ty inputs.file a.checked q.1
ask_good (t ∷ d ∷ s ∷ u ∷ []) inputs (suc (suc zero)) refusal a q =
    ask_apart (t ∷ d ∷ []) s refusal (inputs.ty, inputs.file, inputs.node, a.checked, a.is_node) q.1.1
ask_good (t ∷ d ∷ s ∷ u ∷ []) inputs (suc (suc (suc zero))) refusal a q =
    ask_apart (t ∷ d ∷ s ∷ []) u refusal (inputs.ty, inputs.file, inputs.questions, a.checked, a.are_questions) q.1.1.1
ask_good (t ∷ d ∷ s ∷ u ∷ []) inputs (suc (suc (suc (suc file)))) refusal a q = q.1.1.1.1
ask_good (t ∷ d ∷ s ∷ u ∷ v ∷ texts) inputs file refusal a q = absurd a

-- what the first two files refuse
pub refused_too : (t d s u : List ℕ) (file : ℕ) (refusal : Refusal) → Refuses command.Check [] (t ∷ d ∷ []) file refusal → Refuses command.NodeAsk [] (t ∷ d ∷ s ∷ u ∷ []) file refusal
refused_too t d s u zero refusal q = q
refused_too t d s u (suc zero) refusal q = q
refused_too t d s u (suc (suc file)) refusal q = absurd q.1.1

-- a state file that is refused, and questions
third_refused : (t d s u : List ℕ) (ty : TypeForm) (file : FileForm) (error : NodeError) → IsFileFor t d ty file → IsRefusal file.design s error
    → Refuses command.NodeAsk [] (t ∷ d ∷ s ∷ u ∷ []) 2 (node_refusal error)
third_refused t d s u ty file error is h = ((ty, is.says), ((ty, file, is), (ty, file, error, is, h, refl)))

fourth_refused : (t d s u : List ℕ) (ty : TypeForm) (file : FileForm) (n : Node) (error : ScriptError) → IsFileFor t d ty file → IsNodeText file.design s n
    → calls.IsRefused Ask file.design.sig u error → Refuses command.NodeAsk [] (t ∷ d ∷ s ∷ u ∷ []) 3 (script_refusal error)
fourth_refused t d s u ty file n error is h k = ((ty, is.says), ((ty, file, is), ((ty, file, n, is, h), (ty, file, error, is, k, refl))))

-- each file is judged
abbrev AreJudged : List (List ℕ) → Type 0
AreJudged texts = ((inputs : Inputs) × Accepts texts inputs) ⊎ ((file : ℕ) × (refusal : Refusal) × Refuses command.NodeAsk [] texts file refusal)

fourth_judged : (t d s u : List ℕ) (ty : TypeForm) (file : FileForm) (n : Node) → IsFileFor t d ty file → IsNodeText file.design s n
    → ((questions : List Call) × calls.AreCallsOf Ask file.design.sig u questions) ⊎ ((error : ScriptError) × calls.IsRefused Ask file.design.sig u error) → AreJudged (t ∷ d ∷ s ∷ u ∷ [])
fourth_judged t d s u ty file n is h (inl k) =
    inl (record { ty = ty; file = file; node = n; questions = k.0 }, record { checked = is; is_node = h; are_questions = k.1 })
fourth_judged t d s u ty file n is h (inr k) = inr (3, script_refusal k.0, fourth_refused t d s u ty file n k.0 is h k.1)

third_judged : (t d s u : List ℕ) (ty : TypeForm) (file : FileForm) → IsFileFor t d ty file
    → ((n : Node) × IsNodeText file.design s n) ⊎ ((error : NodeError) × IsRefusal file.design s error) → AreJudged (t ∷ d ∷ s ∷ u ∷ [])
third_judged t d s u ty file is (inl h) = fourth_judged t d s u ty file h.0 is h.1 (every_text_of_calls Ask file.design.sig u)
third_judged t d s u ty file is (inr h) = inr (2, node_refusal h.0, third_refused t d s u ty file h.0 is h.1)

second_judged : (t d s u : List ℕ) → ((inputs : check.Inputs) × check.Accepts (t ∷ d ∷ []) inputs) ⊎ ((file : ℕ) × (refusal : Refusal) × Refuses command.Check [] (t ∷ d ∷ []) file refusal)
    → AreJudged (t ∷ d ∷ s ∷ u ∷ [])
second_judged t d s u (inl h) = third_judged t d s u h.0.ty h.0.file h.1 (every_text total-law h.0.file.design (well_sorted_file d h.0.file h.1.is_file) s)
second_judged t d s u (inr h) = inr (h.0, h.1, refused_too t d s u h.0 h.1 h.2)

pub ask_total : (texts : List (List ℕ)) → (length texts == 4) ≡ true → AreJudged texts
ask_total [] fits = absurd (false≢true fits)
ask_total (t ∷ []) fits = absurd (false≢true fits)
ask_total (t ∷ d ∷ []) fits = absurd (false≢true fits)
ask_total (t ∷ d ∷ s ∷ []) fits = absurd (false≢true fits)
ask_total (t ∷ d ∷ s ∷ u ∷ []) fits = second_judged t d s u (check_total (t ∷ d ∷ []) refl)
ask_total (t ∷ d ∷ s ∷ u ∷ v ∷ texts) fits = absurd (omega (arith, eqb-true (length (t ∷ d ∷ s ∷ u ∷ v ∷ texts)) 4 fits))

-- the files say one thing
same_node : (text : List ℕ) (f g : FileForm) (some other : Node) → g ≡ f → IsNodeText f.design text some → IsNodeText g.design text other → some ≡ other
same_node text f g some other e a b = one_node f.design text some other a (subst (λ (h : FileForm). IsNodeText h.design text other) e b)

same_questions : (text : List ℕ) (f g : FileForm) (some other : List Call) → g ≡ f → calls.AreCallsOf Ask f.design.sig text some → calls.AreCallsOf Ask g.design.sig text other → some ≡ other
same_questions text f g some other e a b = calls_once Ask f.design.sig text some other a (subst (λ (h : FileForm). calls.AreCallsOf Ask h.design.sig text other) e b)

pub same_inputs : (texts : List (List ℕ)) (some other : Inputs) → Accepts texts some → Accepts texts other → some ≡ other
same_inputs [] some other a b = absurd a
same_inputs (t ∷ []) some other a b = absurd a
same_inputs (t ∷ d ∷ []) some other a b = absurd a
same_inputs (t ∷ d ∷ s ∷ []) some other a b = absurd a
same_inputs (t ∷ d ∷ s ∷ u ∷ []) some other a b =
    let one = files.one_file d some.file other.file a.checked.is_file b.checked.is_file in
    λ i. record {
      ty = one_type t some.ty other.ty a.checked.says b.checked.says i;
      file = one i;
      node = same_node s some.file other.file some.node other.node (sym one) a.is_node b.is_node i;
      questions = same_questions u some.file other.file some.questions other.questions (sym one) a.are_questions b.are_questions i;
    }
same_inputs (t ∷ d ∷ s ∷ u ∷ v ∷ texts) some other a b = absurd a

-- a proof has one first fault, and none if it is accepted
pub ask_fault_once : (texts : List (List ℕ)) (some other : Inputs) (condition line condition' line' : ℕ) → Accepts texts some → Accepts texts other
    → ProofFails some condition line → ProofFails other condition' line' → (condition ≡ condition') × (line ≡ line')
ask_fault_once texts some other condition line condition' line' a b p q =
    let q' = subst (λ (inputs : Inputs). ProofFails inputs condition' line') (same_inputs texts other some b a) q in
    (one_condition some.ty some.file condition line condition' line' p q', one_line some.ty some.file condition line condition' line' p q')

pub ask_fault_apart : (texts : List (List ℕ)) (some other : Inputs) (condition line : ℕ) (status : Status) (text : List ℕ) → Accepts texts some → Accepts texts other
    → ProofFails some condition line → Ends other status text → ⊥
ask_fault_apart texts some other condition line status text a b p e =
    let e' = subst (λ (inputs : Inputs). IsAcceptedFile inputs.ty inputs.file) (same_inputs texts other some b a) e.accepted in
    accepted_without some.ty some.file condition line e' p

-- a state file that isn't read, and questions that aren't read
pub state_refused : (t d s u : List ℕ) (ty : TypeForm) (file : FileForm) (seen : OutputSeen) (error : NodeError) → IsFileFor t d ty file → IsNodeRefusal file.design s error
    → seen.written_after ≡ seen.written → Judges command.NodeAsk (t ∷ d ∷ s ∷ u ∷ []) seen (node_status 2 error)
state_refused t d s u ty file seen node.Json is h same = (inl (third_refused t d s u ty file node.Json is (record { refused = h; told = λ e. cc })), same)
state_refused t d s u ty file seen (node.Form place) is h same = (inl (third_refused t d s u ty file (node.Form place) is (record { refused = h; told = λ e. cc })), same)
state_refused t d s u ty file seen node.Version is h same = (inl (third_refused t d s u ty file node.Version is (record { refused = h; told = λ e. cc })), same)
state_refused t d s u ty file seen (node.BadState place) is h same = (inl (third_refused t d s u ty file (node.BadState place) is (record { refused = h; told = λ e. cc })), same)
state_refused t d s u ty file seen node.Memory is h same = inl same

pub questions_refused : (t d s u : List ℕ) (ty : TypeForm) (file : FileForm) (n : Node) (seen : OutputSeen) (error : ScriptError) → IsFileFor t d ty file → IsNodeText file.design s n
    → calls.TellsRefusal Ask file.design.sig u error → seen.written_after ≡ seen.written → Judges command.NodeAsk (t ∷ d ∷ s ∷ u ∷ []) seen (script_status 3 error)
questions_refused t d s u ty file n seen (script.Refused number at) is h k same = (inl (fourth_refused t d s u ty file n (script.Refused number at) is h k), same)
questions_refused t d s u ty file n seen (script.Line number line) is h k same = (inl (fourth_refused t d s u ty file n (script.Line number line) is h k), same)
questions_refused t d s u ty file n seen (script.Late line clock) is h k same = (inl (fourth_refused t d s u ty file n (script.Late line clock) is h k), same)
questions_refused t d s u ty file n seen script.Memory is h k same = inl same

-- what is written has the type's answers, if the state is what some legal operations give
pub ends_ask : (t d s u : List ℕ) (inputs : Inputs) → AreFilesFor t d s u inputs → IsAcceptedFile inputs.ty inputs.file
    → Ends inputs Done (answers_text inputs.file.design inputs.node inputs.questions)
ends_ask t d s u inputs is accepted =
    let right = answers_as_type t d inputs.ty inputs.file is.checked accepted in
    let fit = (calls_fit Ask inputs.file.design.sig u inputs.questions is.are_questions).each in
    record {
      accepted = accepted;
      done = refl;
      lines = refl;
      sequential = λ ones legal same. answers_each inputs.ty inputs.file.design ones inputs.node inputs.questions is.checked.agree right legal same fit;
    }

ask_ended_by : (t d s u : List ℕ) (inputs : Inputs) → AreFilesFor t d s u inputs
    → IsAcceptedFile inputs.ty inputs.file ⊎ ((condition : ℕ) × (line : ℕ) × IsFirstFault inputs.ty inputs.file condition line)
    → ((status : Status) × (text : List ℕ) × IsEnd status × Ends inputs status text)
    ⊎ ((file : ℕ) × (refusal : Refusal) × ⊥)
    ⊎ ((condition : ℕ) × (line : ℕ) × ProofFails inputs condition line)
ask_ended_by t d s u inputs a (inl accepted) =
    inl (Done, answers_text inputs.file.design inputs.node inputs.questions, tt, ends_ask t d s u inputs a accepted)
ask_ended_by t d s u inputs a (inr fault) = inr (inr fault)

pub ask_ended : (texts : List (List ℕ)) (inputs : Inputs) → Accepts texts inputs
    → ((status : Status) × (text : List ℕ) × IsEnd status × Ends inputs status text)
    ⊎ ((file : ℕ) × (refusal : Refusal) × ⊥)
    ⊎ ((condition : ℕ) × (line : ℕ) × ProofFails inputs condition line)
ask_ended [] inputs a = absurd a
ask_ended (t ∷ []) inputs a = absurd a
ask_ended (t ∷ d ∷ []) inputs a = absurd a
ask_ended (t ∷ d ∷ s ∷ []) inputs a = absurd a
ask_ended (t ∷ d ∷ s ∷ u ∷ []) inputs a = ask_ended_by t d s u inputs a (file_judged inputs.ty inputs.file)
ask_ended (t ∷ d ∷ s ∷ u ∷ v ∷ texts) inputs a = absurd a
