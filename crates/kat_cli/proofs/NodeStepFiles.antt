-- How `node-step` is refused, and how it ends.
use Rattle.std.proofs.Common.{◌≡◌, ℕ, zero, suc, ◌+◌, ◌<◌, ◌⊎◌, inl, inr, true, List, [], ◌∷◌, ◌++◌, length, map, refl, sym, ◌∙◌, ap, subst, arith, Option, Some, None}
use Rattle.std.specs.Prelude.{◌&&◌, nat_le}
use Rattle.std.proofs.lemmas.Bool.{false≢true}
use Rattle.std.proofs.lemmas.List.{length-append}
use Rattle.kat_actions.specs.Texts as calls
use Rattle.kat_actions.specs.declared.calls.Call.{Call}
use Rattle.kat_actions.specs.declared.calls.Verb.TheVariants.{Do}
use Rattle.kat_design.specs.Denotations.{denotation_of}
use Rattle.kat_design.specs.Designs.{DesignForm}
use Rattle.kat_design.specs.Sorted.{AreMatched, IsWellSorted}
use Rattle.kat_design.proofs.WholeDesigns.{designs_mean}
use Rattle.kat_json.specs.declared.errors.WireError.{WireError}
use Rattle.kat_node.specs.NodeFiles.{IsNodeText}
use Rattle.kat_node.specs.Packets.{AreAllNested, all_united, parts_of, with_packets}
use Rattle.kat_node.proofs.Uniting.{all_operations}
use Rattle.kat_node.specs.declared.errors.NodeError.TheVariants as node
use Rattle.kat_node.specs.declared.nodes.Node.{Node}
use Rattle.kat_node_texts.specs.Files.{AreStepFiles, IsFirstRefused, IsRefusedAt, TellsRefused}
use Rattle.kat_node_texts.specs.Files as behind
use Rattle.kat_node_texts.specs.declared.files.FileError.{FileError}
use Rattle.kat_node_texts.specs.declared.files.FileError.TheVariants.{State, Calls}
use Rattle.kat_node_texts.specs.declared.files.StepFiles.{StepFiles}
use Rattle.kat_node_texts.proofs.Refusing.{file_apart, file_judged, file_once, files_once}
use Rattle.kat_num.specs.contracts.values.ValueOrd.TheImpl.Laws.{total-law}
use Rattle.kat_script.specs.declared.error.ScriptError.TheVariants as script
use Rattle.kat_step.specs.Limits.{IsStepRefusal}
use Rattle.kat_step.specs.Steps.{done_from, with_actions}
use Rattle.kat_step.proofs.Acting.{actions_clock, actions_denote, actions_number, packets_number}
use Rattle.kat_step.specs.declared.error.StepError.{StepError}
use Rattle.kat_step.specs.declared.error.StepError.TheVariants as step
use Rattle.kat_type.specs.Lists.{IsOnce}
use Rattle.kat_type.specs.declared.done.Done.{Done}
use Rattle.kat_wire.specs.FileForms.{FileForm}
use Rattle.kat_wire.specs.Files.{IsFileText}
use Rattle.kat_wire.specs.Judgements.{IsRefusal}
use Rattle.kat_wire.proofs.Judging as files
use Rattle.kat_words.specs.declared.words.Command.TheVariants as command
use Rattle.kat_cli.specs.Ending.{Judges, OutputSeen}
use Rattle.kat_cli.specs.NodeStepCommand.{Accepts, Ends, Inputs, IsRefusedAs, IsRefusedLate, Passes, output, stops, taken}
use Rattle.kat_cli.specs.Outcome.{IsEnd, Refuses}
use Rattle.kat_cli.specs.Refusals.{design_refusal, file_refusal, file_status, step_refusal, step_status}
use Rattle.kat_cli.specs.declared.status.Refusal.{Refusal}
use Rattle.kat_cli.specs.declared.status.Status.{Status}
use Rattle.kat_cli.specs.declared.status.Status.TheVariants as status
use Rattle.kat_cli.proofs.AcceptedAnswers.{tells_apart}
use Rattle.kat_cli.proofs.DesignFiles.{well_sorted_file}

-- a file is of one design
refused_there : (place : ℕ) (text : List ℕ) (some other : FileForm) (error : FileError) → some ≡ other → IsRefusedAt some.design place text error → IsRefusedAt other.design place text error
refused_there place text some other error e h = subst (λ (f : FileForm). IsRefusedAt f.design place text error) e h

pub step_apart : (earlier : List (List ℕ)) (text : List ℕ) (refusal : Refusal) → Passes earlier text → IsRefusedAs earlier text refusal → ⊥
step_apart [] text refusal p q = files.never_both text p.0 q.0 p.1 q.1
step_apart (first ∷ earlier) text refusal p q =
    file_apart p.0.design (length earlier) text q.1 p.2 (refused_there (length earlier) text q.0 p.0 q.1 (files.one_file first q.0 p.0 q.2 p.1) q.3)

pub step_once : (earlier : List (List ℕ)) (text : List ℕ) (some other : Refusal) → IsRefusedAs earlier text some → IsRefusedAs earlier text other → some ≡ other
step_once [] text some other a b = a.2 ∙ ap design_refusal (files.one_refusal text a.0 b.0 a.1 b.1) ∙ sym b.2
step_once (first ∷ earlier) text some other a b =
    a.4 ∙ ap file_refusal (file_once a.0.design (length earlier) text a.1 b.1 a.3 (refused_there (length earlier) text b.0 a.0 b.1 (files.one_file first b.0 a.0 b.2 a.2) b.3)) ∙ sym b.4

-- packets that are read aren't refused
packets_good : (first s a : List ℕ) (earlier packets : List (List ℕ)) (f : FileForm) (nodes : List Node) (file : ℕ) (refusal : Refusal) → IsFileText first f → AreMatched (IsNodeText f.design) packets nodes
    → Refuses command.NodeStep (first ∷ s ∷ a ∷ earlier) packets file refusal → ⊥
packets_good first s a earlier [] f nodes file refusal is h q = q
packets_good first s a earlier (p ∷ packets) f [] file refusal is h q = absurd h
packets_good first s a earlier (p ∷ packets) f (n ∷ nodes) zero refusal is h q =
    step_apart (first ∷ s ∷ a ∷ earlier) p refusal (f, is, (n, h.0)) q
packets_good first s a earlier (p ∷ packets) f (n ∷ nodes) (suc file) refusal is h q = packets_good first s a (earlier ++ p ∷ []) packets f nodes file refusal is h.1 q.1

pub step_good : (texts : List (List ℕ)) (inputs : Inputs) (file : ℕ) (refusal : Refusal) → Accepts texts inputs → Refuses command.NodeStep [] texts file refusal → ⊥
step_good [] inputs file refusal a q = absurd a
step_good (d ∷ []) inputs file refusal a q = absurd a
step_good (d ∷ s ∷ []) inputs file refusal a q = absurd a
step_good (d ∷ s ∷ t ∷ packets) inputs zero refusal a q = files.never_both d inputs.file q.0 a.0 q.1
step_good (d ∷ s ∷ t ∷ packets) inputs (suc zero) refusal a q = step_apart (d ∷ []) s refusal (inputs.file, a.0, (inputs.files.node, a.1.is_node)) q.1
step_good (d ∷ s ∷ t ∷ packets) inputs (suc (suc zero)) refusal a q = step_apart (d ∷ s ∷ []) t refusal (inputs.file, a.0, (inputs.files.actions, a.1.are_actions)) q.1.1
step_good (d ∷ s ∷ t ∷ packets) inputs (suc (suc (suc file))) refusal a q = packets_good d s t [] packets inputs.file inputs.files.packets file refusal a.0 a.1.are_packets q.1.1.1

-- each file is judged
abbrev Later : List (List ℕ) → List (List ℕ) → Type 0
Later earlier texts = (file : ℕ) × (refusal : Refusal) × Refuses command.NodeStep earlier texts file refusal

packet_judged : (first s a : List ℕ) (earlier : List (List ℕ)) (p : List ℕ) (packets : List (List ℕ)) (f : FileForm) → IsFileText first f
    → ((n : Node) × IsNodeText f.design p n) ⊎ ((error : FileError) × IsRefusedAt f.design (suc (suc (length earlier))) p error)
    → ((nodes : List Node) × AreMatched (IsNodeText f.design) packets nodes) ⊎ Later (first ∷ s ∷ a ∷ (earlier ++ p ∷ [])) packets
    → ((nodes : List Node) × AreMatched (IsNodeText f.design) (p ∷ packets) nodes) ⊎ Later (first ∷ s ∷ a ∷ earlier) (p ∷ packets)
packet_judged first s a earlier p packets f is (inr h) rest = inr (0, file_refusal h.0, (f, h.0, is, h.1, refl))
packet_judged first s a earlier p packets f is (inl h) (inl k) = inl (h.0 ∷ k.0, (h.1, k.1))
packet_judged first s a earlier p packets f is (inl h) (inr k) = inr (suc k.0, k.1, ((f, is, h), k.2))

packets_judged : (first s a : List ℕ) (earlier packets : List (List ℕ)) (f : FileForm) → IsWellSorted f.design → IsFileText first f
    → ((nodes : List Node) × AreMatched (IsNodeText f.design) packets nodes) ⊎ Later (first ∷ s ∷ a ∷ earlier) packets
packets_judged first s a earlier [] f sorted is = inl ([], tt)
packets_judged first s a earlier (p ∷ packets) f sorted is =
    packet_judged first s a earlier p packets f is (file_judged total-law f.design (suc (suc (length earlier))) p sorted) (packets_judged first s a (earlier ++ p ∷ []) packets f sorted is)

abbrev AreJudged : List (List ℕ) → Type 0
AreJudged texts = ((inputs : Inputs) × Accepts texts inputs) ⊎ Later [] texts

third_judged : (d s t : List ℕ) (packets : List (List ℕ)) (f : FileForm) (n : Node) (actions : List Call) → IsFileText d f → IsNodeText f.design s n → calls.AreCallsOf Do f.design.sig t actions
    → ((nodes : List Node) × AreMatched (IsNodeText f.design) packets nodes) ⊎ Later (d ∷ s ∷ t ∷ []) packets → AreJudged (d ∷ s ∷ t ∷ packets)
third_judged d s t packets f n actions is h k (inl r) =
    inl (record { file = f; files = record { node = n; actions = actions; packets = r.0 } }, (is, record { is_node = h; are_actions = k; are_packets = r.1 }))
third_judged d s t packets f n actions is h k (inr r) = inr (suc (suc (suc r.0)), r.1, ((f, is), ((f, is, (n, h)), ((f, is, (actions, k)), r.2))))

second_judged : (d s t : List ℕ) (packets : List (List ℕ)) (f : FileForm) (n : Node) → IsFileText d f → IsNodeText f.design s n
    → ((actions : List Call) × calls.AreCallsOf Do f.design.sig t actions) ⊎ ((error : FileError) × IsRefusedAt f.design 1 t error) → AreJudged (d ∷ s ∷ t ∷ packets)
second_judged d s t packets f n is h (inl k) = third_judged d s t packets f n k.0 is h k.1 (packets_judged d s t [] packets f (well_sorted_file d f is) is)
second_judged d s t packets f n is h (inr k) = inr (2, file_refusal k.0, ((f, is), ((f, is, (n, h)), (f, k.0, is, k.1, refl))))

first_judged : (d s t : List ℕ) (packets : List (List ℕ)) (f : FileForm) → IsFileText d f
    → ((n : Node) × IsNodeText f.design s n) ⊎ ((error : FileError) × IsRefusedAt f.design 0 s error) → AreJudged (d ∷ s ∷ t ∷ packets)
first_judged d s t packets f is (inl h) = second_judged d s t packets f h.0 is h.1 (file_judged total-law f.design 1 t (well_sorted_file d f is))
first_judged d s t packets f is (inr h) = inr (1, file_refusal h.0, ((f, is), (f, h.0, is, h.1, refl)))

design_judged : (d s t : List ℕ) (packets : List (List ℕ)) → ((f : FileForm) × IsFileText d f) ⊎ ((error : WireError) × IsRefusal d error) → AreJudged (d ∷ s ∷ t ∷ packets)
design_judged d s t packets (inl h) = first_judged d s t packets h.0 h.1 (file_judged total-law h.0.design 0 s (well_sorted_file d h.0 h.1))
design_judged d s t packets (inr h) = inr (0, design_refusal h.0, (h.0, h.1, refl))

pub step_total : (texts : List (List ℕ)) → (nat_le 3 (length texts) && nat_le (length texts) 33) ≡ true → AreJudged texts
step_total [] fits = absurd (false≢true fits)
step_total (d ∷ []) fits = absurd (false≢true fits)
step_total (d ∷ s ∷ []) fits = absurd (false≢true fits)
step_total (d ∷ s ∷ t ∷ packets) fits = design_judged d s t packets (files.every_text d)

-- the files say one thing
pub same_inputs : (texts : List (List ℕ)) (some other : Inputs) → Accepts texts some → Accepts texts other → some ≡ other
same_inputs [] some other a b = absurd a
same_inputs (d ∷ []) some other a b = absurd a
same_inputs (d ∷ s ∷ []) some other a b = absurd a
same_inputs (d ∷ s ∷ t ∷ packets) some other a b =
    let one = files.one_file d some.file other.file a.0 b.0 in
    let same = files_once some.file.design s t packets some.files other.files a.1
    (subst (λ (f : FileForm). AreStepFiles f.design s t packets other.files) (sym one) b.1) in
    λ i. record { file = one i; files = same i }

some_same : (e f : StepError) → ◌≡◌ {A = Option StepError} (Some e) (Some f) → e ≡ f
some_same e f h = cc

some_none : (e : StepError) → ◌≡◌ {A = Option StepError} (Some e) None → ⊥
some_none e h = cc

pub step_late_once : (texts : List (List ℕ)) (some other : Inputs) (file file' : ℕ) (refusal refusal' : Refusal) → Accepts texts some → Accepts texts other → IsRefusedLate some file refusal
    → IsRefusedLate other file' refusal' → (file ≡ file') × (refusal ≡ refusal')
step_late_once texts some other file file' refusal refusal' a b l m =
    let same = some_same l.0 m.0 (sym l.1 ∙ ap stops (same_inputs texts some other a b) ∙ m.1) in (l.2 ∙ sym m.2, l.3 ∙ ap step_refusal same ∙ sym m.3)

pub step_late_apart : (texts : List (List ℕ)) (some other : Inputs) (file : ℕ) (refusal : Refusal) (status : Status) (text : List ℕ) → Accepts texts some → Accepts texts other → IsRefusedLate some file refusal
    → Ends other status text → ⊥
step_late_apart texts some other file refusal status text a b l e = some_none l.0 (sym l.1 ∙ ap stops (same_inputs texts some other a b) ∙ e.goes)

-- the state is what all operations give
unites : (d : DesignForm) (files : StepFiles) (ones : List Done) (lists : List (List Done)) → IsWellSorted d → IsOnce ones → AreAllNested ones lists
    → parts_of files.node ≡ denotation_of d ones → map parts_of files.packets ≡ map (denotation_of d) lists
    → parts_of (behind.node_behind d files)
    ≡ denotation_of d (all_united ones lists ++ done_from files.node.number (with_packets files.node files.packets).replica.clock files.actions)
unites d files ones lists sorted once all is same =
    let means = designs_mean total-law tells_apart d sorted in
    let taken_in = with_packets files.node files.packets in
    subst (λ n. parts_of (with_actions d taken_in files.actions) ≡ denotation_of d (all_united ones lists ++ done_from n taken_in.replica.clock files.actions))
    (packets_number files.node files.packets)
    (actions_denote d means (all_united ones lists) taken_in files.actions (all_operations d means ones lists files.node files.packets once all is same))

pub ends_step : (inputs : Inputs) → IsWellSorted inputs.file.design → stops inputs ≡ None → Ends inputs status.Done (output inputs)
ends_step inputs sorted goes = record {
  done = refl;
  goes = goes;
  lines = refl;
  number = actions_number inputs.file.design (taken inputs) inputs.files.actions ∙ packets_number inputs.files.node inputs.files.packets;
  clock = actions_clock inputs.file.design (taken inputs) inputs.files.actions;
  united = λ ones lists once all is same. unites inputs.file.design inputs.files ones lists sorted once all is same;
}

ended_by : (inputs : Inputs) (stop : Option StepError) → IsWellSorted inputs.file.design → stops inputs ≡ stop
    → ((end : Status) × (text : List ℕ) × IsEnd end × Ends inputs end text) ⊎ ((file : ℕ) × (refusal : Refusal) × IsRefusedLate inputs file refusal) ⊎ ((condition : ℕ) × (line : ℕ) × ⊥)
ended_by inputs None sorted e = inl (status.Done, output inputs, tt, ends_step inputs sorted e)
ended_by inputs (Some error) sorted e = inr (inl (2, step_refusal error, (error, e, refl, refl)))

pub step_ended : (texts : List (List ℕ)) (inputs : Inputs) → Accepts texts inputs
    → ((end : Status) × (text : List ℕ) × IsEnd end × Ends inputs end text) ⊎ ((file : ℕ) × (refusal : Refusal) × IsRefusedLate inputs file refusal) ⊎ ((condition : ℕ) × (line : ℕ) × ⊥)
step_ended [] inputs a = absurd a
step_ended (d ∷ []) inputs a = absurd a
step_ended (d ∷ s ∷ []) inputs a = absurd a
step_ended (d ∷ s ∷ t ∷ packets) inputs a = ended_by inputs (stops inputs) (well_sorted_file d inputs.file a.0) refl

-- a file that isn't read
one_longer : (earlier : List (List ℕ)) (t : List ℕ) → suc (length earlier) ≡ length (earlier ++ t ∷ [])
one_longer earlier t = let more = length-append earlier (t ∷ []) in omega (arith, more)

refuses : (f : FileForm) (first : List ℕ) (earlier texts : List (List ℕ)) (file : ℕ) (error : FileError) → IsFileText first f → IsFirstRefused f.design (length earlier) texts file error
    → Refuses command.NodeStep (first ∷ earlier) texts file (file_refusal error)
refuses f first earlier [] file error is h = absurd h
refuses f first earlier (t ∷ texts) zero error is h = (f, error, is, h, refl)
refuses f first earlier (t ∷ texts) (suc file) error is h =
    ((f, is, h.0), refuses f first (earlier ++ t ∷ []) texts file error is (subst (λ n. IsFirstRefused f.design n texts file error) (one_longer earlier t) h.1))

first_within : (d : DesignForm) (place : ℕ) (texts : List (List ℕ)) (file : ℕ) (error : FileError) → IsFirstRefused d place texts file error → file < length texts
first_within d place [] file error h = absurd h
first_within d place (t ∷ texts) zero error h = omega arith
first_within d place (t ∷ texts) (suc file) error h = let less = first_within d (suc place) texts file error h.1 in omega (arith, less)

next : (file place : ℕ) → place ≡ file + 1 → suc file ≡ place
next file place e = omega (arith, e)

-- the files come after their design
refused_at : (f : FileForm) (d : List ℕ) (texts : List (List ℕ)) (file place : ℕ) (error : FileError) → IsFileText d f → (file < length texts → place ≡ file + 1)
    → IsFirstRefused f.design 0 texts file error → Refuses command.NodeStep [] (d ∷ texts) place (file_refusal error)
refused_at f d texts file place error is behind h =
    let q : Refuses command.NodeStep [] (d ∷ texts) (suc file) (file_refusal error) = ((f, is), refuses f d [] texts file error is h) in
    subst (λ n. Refuses command.NodeStep [] (d ∷ texts) n (file_refusal error)) (next file place (behind (first_within f.design 0 texts file error h))) q

pub file_refused : (f : FileForm) (d : List ℕ) (texts : List (List ℕ)) (seen : OutputSeen) (file place : ℕ) (error : FileError) → IsFileText d f → (file < length texts → place ≡ file + 1)
    → TellsRefused f.design texts (record { file = file; error = error }) → seen.written_after ≡ seen.written → Judges command.NodeStep (d ∷ texts) seen (file_status place error)
file_refused f d texts seen file place (State node.Json) is behind h same = (inl (refused_at f d texts file place (State node.Json) is behind h), same)
file_refused f d texts seen file place (State (node.Form path)) is behind h same = (inl (refused_at f d texts file place (State (node.Form path)) is behind h), same)
file_refused f d texts seen file place (State node.Version) is behind h same = (inl (refused_at f d texts file place (State node.Version) is behind h), same)
file_refused f d texts seen file place (State (node.BadState path)) is behind h same = (inl (refused_at f d texts file place (State (node.BadState path)) is behind h), same)
file_refused f d texts seen file place (State node.Memory) is behind h same = inl same
file_refused f d texts seen file place (Calls (script.Refused number at)) is behind h same = (inl (refused_at f d texts file place (Calls (script.Refused number at)) is behind h), same)
file_refused f d texts seen file place (Calls (script.Line number line)) is behind h same = (inl (refused_at f d texts file place (Calls (script.Line number line)) is behind h), same)
file_refused f d texts seen file place (Calls (script.Late line clock)) is behind h same = (inl (refused_at f d texts file place (Calls (script.Late line clock)) is behind h), same)
file_refused f d texts seen file place (Calls script.Memory) is behind h same = inl same

-- an action that can't be done
pub action_refused : (d s t : List ℕ) (packets : List (List ℕ)) (inputs : Inputs) (seen : OutputSeen) (error : StepError) → Accepts (d ∷ s ∷ t ∷ packets) inputs → IsStepRefusal (stops inputs) error
    → seen.written_after ≡ seen.written → Judges command.NodeStep (d ∷ s ∷ t ∷ packets) seen (step_status 2 error)
action_refused d s t packets inputs seen (step.TooLarge line) a h same = (inr (record { inputs = inputs; accepted = a; late_so = (step.TooLarge line, h, refl, refl) }), same)
action_refused d s t packets inputs seen (step.FullState line) a h same = (inr (record { inputs = inputs; accepted = a; late_so = (step.FullState line, h, refl, refl) }), same)
action_refused d s t packets inputs seen step.Memory a h same = inl same
