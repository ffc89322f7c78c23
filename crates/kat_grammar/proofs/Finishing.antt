-- What was begun can be finished: each spot leads to the end of some type.
use Rattle.std.proofs.Common.{◌≡◌, ℕ, false, List, [], ◌∷◌, ◌++◌, refl, sym, ◌∙◌, ap, subst, None, Some}
use Rattle.std.specs.Prelude.{◌≢◌}
use Rattle.kat_num.specs.declared.values.Sort.{Sort}
use Rattle.kat_num.specs.declared.values.Sort.TheVariants as sort
use Rattle.kat_grammar.specs.Marks.{is_newline}
use Rattle.kat_grammar.specs.Forms.{QueryForm, TypeForm}
use Rattle.kat_grammar.specs.Phrases.{Form, token}
use Rattle.kat_grammar.specs.Sizes.{Load}
use Rattle.kat_grammar.specs.Phrases.Form.{constant, entry, chosen, parens}
use Rattle.kat_grammar.specs.Stacks.{Part, Reading, around, close, ended, go_else, go_second, go_then, load_read, read_on, word_at}
use Rattle.kat_grammar.specs.Stacks.Part.{left_part, not_part, open_part, first_part, second_part, if_part, then_part, else_part}
use Rattle.kat_grammar.specs.Stacks.Reading.{want, minus_read, extreme_read, table_read, key_read, have}
use Rattle.kat_grammar.specs.Steps.{Draft, Spot, assignment_of, behind_head, between, clearing_of, end_line, end_right, end_answer, finish, first_file, first_spot, form_read, load_of, operation_of, query_of, rank_part, read_word, signature_of, spot, start_of, parameter_of, whole_form, with_operation, with_query, with_state}
use Rattle.kat_grammar.specs.declared.marks.Operator.TheVariants as operator
use Rattle.kat_grammar.specs.declared.marks.Mark.TheVariants as mark
use Rattle.kat_grammar.specs.declared.marks.Placed.{Placed}
use Rattle.kat_grammar.specs.declared.phrases.Constant.TheVariants.{Natural, Negative}
use Rattle.kat_grammar.specs.declared.phrases.Kept.{Kept}
use Rattle.kat_grammar.specs.declared.phrases.Kept.TheVariants.{One, Each}
use Rattle.kat_grammar.specs.declared.phrases.RankElement.TheVariants as rank
use Rattle.kat_grammar.specs.declared.phrases.State.{State}
use Rattle.kat_grammar.specs.declared.phrases.Format.TheVariants as format
use Rattle.kat_grammar.specs.declared.phrases.Target.{Target}
use Rattle.kat_grammar.specs.declared.phrases.Target.TheVariants as target
use Rattle.kat_grammar.specs.declared.phrases.Word.{Word}
use Rattle.kat_grammar.specs.declared.stages.HeadStage.{HeadStage}
use Rattle.kat_grammar.specs.declared.stages.HeadStage.TheVariants as head
use Rattle.kat_grammar.specs.declared.stages.Item.{Item}
use Rattle.kat_grammar.specs.declared.stages.Item.TheVariants as item
use Rattle.kat_grammar.specs.declared.stages.OperationStage.{OperationStage}
use Rattle.kat_grammar.specs.declared.stages.OperationStage.TheVariants as op
use Rattle.kat_grammar.specs.declared.stages.QueryStage.{QueryStage}
use Rattle.kat_grammar.specs.declared.stages.QueryStage.TheVariants as query
use Rattle.kat_grammar.specs.declared.stages.Signature.{Signature}
use Rattle.kat_grammar.specs.declared.stages.Stage.{Stage}
use Rattle.kat_grammar.specs.declared.stages.Stage.TheVariants as stage
use Rattle.kat_grammar.specs.declared.stages.StateStage.{StateStage}
use Rattle.kat_grammar.specs.declared.stages.StateStage.TheVariants as state
use Rattle.kat_grammar.proofs.Texts.{Passes}
use Rattle.kat_grammar.proofs.Texts.Passes.{rests, reads_word, reads_newline}
use Rattle.kat_grammar.specs.Files.{GoesOn}
use Rattle.kat_grammar.proofs.Leading.{Runs}
use Rattle.kat_grammar.proofs.Leading.Runs.{rests as still, takes}
use Rattle.kat_grammar.proofs.Moving.{Moves, answer_moves, draft, empty_chosen, right_moves, some_chosen}
use Rattle.kat_grammar.proofs.Moving.Moves.{stays, reads}
use Rattle.kat_grammar.proofs.Texts.{passes_on}
use Rattle.kat_grammar.proofs.Writing.{IsGood, not_empty, nothing_told, sound, told}

-- an expression that was begun can be finished
pub record Reaches (r : Reading) : Type 0 where
  pub more : List Placed
  pub loads : List Load
  pub form : Form
  pub stack : List Part
  pub runs : Runs r more loads (have form stack)
  pub none_open : around stack ≡ []

reads_on : {r : Reading} (s : Reading) (t : Placed) → read_on r t.mark t.at ≡ Some s → Reaches s → Reaches r
reads_on s t e x = record { more = t ∷ x.more; loads = load_read s ∷ x.loads; form = x.form; stack = x.stack; runs = takes t e x.runs; none_open = x.none_open }

zero_form : Form
zero_form = constant (Natural 0 0)

zero_token : Placed
zero_token = token (mark.Number 0) 0

-- the operand 0
zero_reaches : (s : List Part) → Reaches (have (constant (Natural 0 0)) s) → Reaches (want s)
zero_reaches s x = reads_on (have (constant (Natural 0 0)) s) (token (mark.Number 0) 0) refl x

-- whatever comes in the same place
reaches : (s : List Part) (f : Form) (here : List Part) → around here ≡ around s → Reaches (have f here)
reaches [] f here e = record { more = []; loads = []; form = f; stack = here; runs = still; none_open = e }
reaches (left_part o at a ∷ s) f here e = reaches s f here e
reaches (not_part at ∷ s) f here e = reaches s f here e
reaches (else_part at c then_at a else_at ∷ s) f here e = reaches s f here e
reaches (open_part o ∷ s) f here e =
    reads_on (have (parens o (ended f here) 0) s) (token mark.Close 0) (ap (λ r. close (ended f here) r 0) e) (reaches s (parens o (ended f here) 0) s refl)
reaches (second_part k at o a comma ∷ s) f here e =
    reads_on (have (chosen k at o a comma (ended f here) 0) s) (token mark.Close 0) (ap (λ r. close (ended f here) r 0) e)
    (reaches s (chosen k at o a comma (ended f here) 0) s refl)
reaches (first_part k at o ∷ s) f here e =
    let second = second_part k at o (ended f here) 0 ∷ s in
    reads_on (want second) (token mark.Comma 0) (ap (λ r. go_second (ended f here) r 0) e)
    (zero_reaches second
    (reads_on (have (chosen k at o (ended f here) 0 (constant (Natural 0 0)) 0) s) (token mark.Close 0) refl
    (reaches s (chosen k at o (ended f here) 0 (constant (Natural 0 0)) 0) s refl)))
reaches (if_part at ∷ s) f here e =
    let left = then_part at (ended f here) 0 ∷ s in
    let right = else_part at (ended f here) 0 (constant (Natural 0 0)) 0 ∷ s in
    reads_on (want left) (token mark.Then 0) (ap (λ r. go_then (ended f here) r 0) e)
    (zero_reaches left (reads_on (want right) (token mark.Else 0) refl (zero_reaches right (reaches s (constant (Natural 0 0)) right refl))))
reaches (then_part at c then_at ∷ s) f here e =
    let right = else_part at c then_at (ended f here) 0 ∷ s in
    reads_on (want right) (token mark.Else 0) (ap (λ r. go_else (ended f here) r 0) e) (zero_reaches right (reaches s (constant (Natural 0 0)) right refl))

pub every_reading : (r : Reading) → Reaches r
every_reading (want s) = zero_reaches s (reaches s (constant (Natural 0 0)) s refl)
every_reading (minus_read at s) = reads_on (have (constant (Negative at 0 0)) s) (token (mark.Number 0) 0) refl (reaches s (constant (Negative at 0 0)) s refl)
every_reading (extreme_read k at s) =
    let first = first_part k at 0 ∷ s in
    reads_on (want first) (token mark.Open 0) refl (zero_reaches first (reaches first (constant (Natural 0 0)) first refl))
every_reading (table_read table o s) =
    reads_on (key_read table o (word_at 0 0) s) (token (mark.Word 0) 0) refl
    (reads_on (have (entry table o (word_at 0 0) 0) s) (token mark.CloseBracket 0) refl (reaches s (entry table o (word_at 0 0) 0) s refl))
every_reading (key_read table o key s) = reads_on (have (entry table o key 0) s) (token mark.CloseBracket 0) refl (reaches s (entry table o key 0) s refl)
every_reading (have f s) = reaches s f s refl

-- a text that was begun can be finished
pub record Finishes (p : Spot) : Type 0 where
  pub more : List Placed
  pub loads : List Load
  pub last : Spot
  pub whole : TypeForm
  pub passes : Passes p more loads last
  pub ends : finish last ≡ Some whole

then_word : {p : Spot} (q : Spot) (t : Placed) → is_newline t.mark ≡ false → read_word p.stage p.draft t.mark t.at ≡ Some q → Finishes q → Finishes p
then_word q t n e x =
    record { more = t ∷ x.more; loads = load_of q.stage q.draft ∷ x.loads; last = x.last; whole = x.whole; passes = reads_word t n e x.passes; ends = x.ends }

then_newline : {p : Spot} (q : Spot) → end_line p.stage p.draft ≡ Some q → Finishes q → Finishes p
then_newline q e x =
    record { more = token mark.Newline 0 ∷ x.more; loads = x.loads; last = x.last; whole = x.whole; passes = reads_newline (token mark.Newline 0) refl e x.passes; ends = x.ends }

moves_pass : {p q : Spot} {ts : List Placed} {ls : List Load} → Moves p ts ls q → Passes p ts ls q
moves_pass stays = rests
moves_pass (reads t n e a) = reads_word t n e (moves_pass a)

then_moves : {p q : Spot} {ts : List Placed} {ls : List Load} → Moves p ts ls q → Finishes q → Finishes p
then_moves {ts = ts} {ls = ls} m x =
    record { more = ts ++ x.more; loads = ls ++ x.loads; last = x.last; whole = x.whole; passes = passes_on (moves_pass m) x.passes; ends = x.ends }

at_end : (file : TypeForm) → file.queries ≢ [] → Finishes (between file)
at_end file some = record { more = []; loads = []; last = between file; whole = file; passes = rests; ends = some_chosen file.queries None (Some file) some }

read_none : (f : Form) (s : List Part) → around s ≡ [] → form_read (have f s) ≡ Some (ended f s)
read_none f s e = ap (whole_form (ended f s)) e

-- the last line may be a query
answer_finishes : (sig : Signature) (colon sort_at : ℕ) (so : Sort) (equal : ℕ) (d : Draft) → Finishes (spot (stage.Query sig (query.Right colon sort_at so equal)) d)
answer_finishes sig colon sort_at so equal d =
    let x = every_reading d.reading in
    let here = draft d.file d.params d.rank d.assignments (have x.form x.stack) in
    let o = query_of sig colon sort_at so equal here (ended x.form x.stack) in
    then_moves (answer_moves sig colon sort_at so equal d.file d.params d.rank d.assignments x.runs)
    (then_newline (between (with_query d.file o)) (ap (end_answer sig colon sort_at so equal here) (read_none x.form x.stack x.none_open))
    (at_end (with_query d.file o) (not_empty d.file.queries o)))

sort_finishes : (sig : Signature) (colon sort_at : ℕ) (so : Sort) (d : Draft) → Finishes (spot (stage.Query sig (query.Sort colon sort_at so)) d)
sort_finishes sig colon sort_at so d =
    then_word (spot (stage.Query sig (query.Right colon sort_at so 0)) d) (token (mark.Operator operator.Same) 0) refl refl (answer_finishes sig colon sort_at so 0 d)

colon_finishes : (sig : Signature) (colon : ℕ) (d : Draft) → Finishes (spot (stage.Query sig (query.Colon colon)) d)
colon_finishes sig colon d = then_word (spot (stage.Query sig (query.Sort colon 0 sort.Int)) d) (token (mark.Sort sort.Int) 0) refl refl (sort_finishes sig colon 0 sort.Int d)

query_finishes : (sig : Signature) (s : QueryStage) (d : Draft) → Finishes (spot (stage.Query sig s) d)
query_finishes sig query.Closed d = then_word (spot (stage.Query sig (query.Colon 0)) d) (token mark.Colon 0) refl refl (colon_finishes sig 0 d)
query_finishes sig (query.Colon colon) d = colon_finishes sig colon d
query_finishes sig (query.Sort colon sort_at so) d = sort_finishes sig colon sort_at so d
query_finishes sig (query.Right colon sort_at so equal) d = answer_finishes sig colon sort_at so equal d

-- a file with an operation
some_finishes : (file : TypeForm) → file.operations ≢ [] → Finishes (between file)
some_finishes file some =
    let d = (between file).draft in
    then_word (spot (stage.Head item.Query 0 head.Begun) d) (token mark.QueryLine 0) refl (some_chosen file.operations None (Some (spot (stage.Head item.Query 0 head.Begun) d)) some)
    (then_word (spot (stage.Head item.Query 0 (head.Named (word_at 0 0))) d) (token (mark.Word 0) 0) refl refl
    (then_word (spot (stage.Head item.Query 0 (head.Opened (word_at 0 0) 0)) d) (token mark.Open 0) refl refl
    (then_word (spot (stage.Query (signature_of 0 (word_at 0 0) 0 0) query.Closed) d) (token mark.Close 0) refl refl
    (query_finishes (signature_of 0 (word_at 0 0) 0 0) query.Closed d))))

-- an operation
right_finishes : (sig : Signature) (lead : ℕ) (t : Target) (assign : ℕ) (d : Draft) → Finishes (spot (stage.Operation sig (op.Right lead t assign)) d)
right_finishes sig lead t assign d =
    let x = every_reading d.reading in
    let here = draft d.file d.params d.rank d.assignments (have x.form x.stack) in
    let o = operation_of sig here (d.assignments ++ assignment_of lead t assign (ended x.form x.stack) ∷ []) in
    then_moves (right_moves sig lead t assign d.file d.params d.rank d.assignments x.runs)
    (then_newline (between (with_operation d.file o)) (ap (end_right sig lead t assign here) (read_none x.form x.stack x.none_open))
    (some_finishes (with_operation d.file o) (not_empty d.file.operations o)))

target_finishes : (sig : Signature) (lead : ℕ) (t : Target) (d : Draft) → Finishes (spot (stage.Operation sig (op.TargetWhole lead t)) d)
target_finishes sig lead t d = then_word (spot (stage.Operation sig (op.Right lead t 0)) d) (token mark.Assign 0) refl refl (right_finishes sig lead t 0 d)

key_finishes : (sig : Signature) (lead : ℕ) (table : Word) (open_at : ℕ) (key : Word) (d : Draft) → Finishes (spot (stage.Operation sig (op.TargetKey lead table open_at key)) d)
key_finishes sig lead table open_at key d =
    then_word (spot (stage.Operation sig (op.TargetWhole lead (target.Entry table open_at key 0))) d) (token mark.CloseBracket 0) refl refl
    (target_finishes sig lead (target.Entry table open_at key 0) d)

lead_finishes : (sig : Signature) (lead : ℕ) (d : Draft) → Finishes (spot (stage.Operation sig (op.AssignmentLead lead)) d)
lead_finishes sig lead d =
    then_word (spot (stage.Operation sig (op.TargetWord lead (word_at 0 0))) d) (token (mark.Word 0) 0) refl refl
    (then_word (spot (stage.Operation sig (op.Right lead (target.Field (word_at 0 0)) 0)) d) (token mark.Assign 0) refl refl (right_finishes sig lead (target.Field (word_at 0 0)) 0 d))

ranked_finishes : (sig : Signature) (d : Draft) → Finishes (spot (stage.Operation sig op.Ranked) d)
ranked_finishes sig d = then_word (spot (stage.Operation sig (op.AssignmentLead 0)) d) (token mark.Colon 0) refl refl (lead_finishes sig 0 d)

rank_finishes : (sig : Signature) (lead : ℕ) (d : Draft) → Finishes (spot (stage.Operation sig (op.RankLead lead)) d)
rank_finishes sig lead d =
    then_word (spot (stage.Operation sig op.Ranked) (record d { rank = d.rank ++ rank_part lead (rank.Time 0) ∷ [] })) (token mark.Time 0) refl refl
    (ranked_finishes sig (record d { rank = d.rank ++ rank_part lead (rank.Time 0) ∷ [] }))

clear_finishes : (sig : Signature) (lead clear_at : ℕ) (table : Word) (d : Draft) → Finishes (spot (stage.Operation sig (op.ClearWhole lead clear_at table)) d)
clear_finishes sig lead clear_at table d =
    let o = operation_of sig d (d.assignments ++ clearing_of lead clear_at table ∷ []) in
    then_newline (between (with_operation d.file o)) refl (some_finishes (with_operation d.file o) (not_empty d.file.operations o))

operation_finishes : (sig : Signature) (s : OperationStage) (d : Draft) → Finishes (spot (stage.Operation sig s) d)
operation_finishes sig op.Closed d = then_word (spot (stage.Operation sig (op.RankLead 0)) d) (token mark.Rank 0) refl refl (rank_finishes sig 0 d)
operation_finishes sig (op.RankLead lead) d = rank_finishes sig lead d
operation_finishes sig op.Ranked d = ranked_finishes sig d
operation_finishes sig (op.AssignmentLead lead) d = lead_finishes sig lead d
operation_finishes sig (op.ClearBegun lead clear_at) d =
    then_word (spot (stage.Operation sig (op.ClearWhole lead clear_at (word_at 0 0))) d) (token (mark.Word 0) 0) refl refl (clear_finishes sig lead clear_at (word_at 0 0) d)
operation_finishes sig (op.ClearWhole lead clear_at table) d = clear_finishes sig lead clear_at table d
operation_finishes sig (op.TargetWord lead v) d =
    then_word (spot (stage.Operation sig (op.Right lead (target.Field v) 0)) d) (token mark.Assign 0) refl refl (right_finishes sig lead (target.Field v) 0 d)
operation_finishes sig (op.TargetOpen lead table open_at) d =
    then_word (spot (stage.Operation sig (op.TargetKey lead table open_at (word_at 0 0))) d) (token (mark.Word 0) 0) refl refl (key_finishes sig lead table open_at (word_at 0 0) d)
operation_finishes sig (op.TargetKey lead table open_at key) d = key_finishes sig lead table open_at key d
operation_finishes sig (op.TargetWhole lead t) d = target_finishes sig lead t d
operation_finishes sig (op.Right lead t assign) d = right_finishes sig lead t assign d

-- a name and its parameters
closed_finishes : (it : Item) (at : ℕ) (name : Word) (open_at close_at : ℕ) (d : Draft) → Finishes (spot (behind_head it at name open_at close_at) d)
closed_finishes item.Operation at name open_at close_at d = operation_finishes (signature_of at name open_at close_at) op.Closed d
closed_finishes item.Query at name open_at close_at d = query_finishes (signature_of at name open_at close_at) query.Closed d

opened_finishes : (it : Item) (at : ℕ) (name : Word) (open_at : ℕ) (d : Draft) → Finishes (spot (stage.Head it at (head.Opened name open_at)) d)
opened_finishes it at name open_at d = then_word (spot (behind_head it at name open_at 0) d) (token mark.Close 0) refl refl (closed_finishes it at name open_at 0 d)

listed_finishes : (it : Item) (at : ℕ) (name : Word) (open_at : ℕ) (d : Draft) → Finishes (spot (stage.Head it at (head.Listed name open_at)) d)
listed_finishes it at name open_at d = then_word (spot (behind_head it at name open_at 0) d) (token mark.Close 0) refl refl (closed_finishes it at name open_at 0 d)

sorted_finishes : (it : Item) (at : ℕ) (name : Word) (open_at lead : ℕ) (v : Word) (colon : ℕ) (d : Draft) → Finishes (spot (stage.Head it at (head.Colon name open_at lead v colon)) d)
sorted_finishes it at name open_at lead v colon d =
    let more = record d { params = d.params ++ parameter_of lead v colon 0 sort.Int ∷ [] } in
    then_word (spot (stage.Head it at (head.Listed name open_at)) more) (token (mark.Sort sort.Int) 0) refl refl (listed_finishes it at name open_at more)

parameter_finishes : (it : Item) (at : ℕ) (name : Word) (open_at lead : ℕ) (v : Word) (d : Draft) → Finishes (spot (stage.Head it at (head.Parameter name open_at lead v)) d)
parameter_finishes it at name open_at lead v d =
    then_word (spot (stage.Head it at (head.Colon name open_at lead v 0)) d) (token mark.Colon 0) refl refl (sorted_finishes it at name open_at lead v 0 d)

named_finishes : (it : Item) (at : ℕ) (name : Word) (d : Draft) → Finishes (spot (stage.Head it at (head.Named name)) d)
named_finishes it at name d = then_word (spot (stage.Head it at (head.Opened name 0)) d) (token mark.Open 0) refl refl (opened_finishes it at name 0 d)

head_finishes : (it : Item) (at : ℕ) (s : HeadStage) (d : Draft) → Finishes (spot (stage.Head it at s) d)
head_finishes it at head.Begun d = then_word (spot (stage.Head it at (head.Named (word_at 0 0))) d) (token (mark.Word 0) 0) refl refl (named_finishes it at (word_at 0 0) d)
head_finishes it at (head.Named name) d = named_finishes it at name d
head_finishes it at (head.Opened name open_at) d = opened_finishes it at name open_at d
head_finishes it at (head.Lead name open_at lead) d =
    then_word (spot (stage.Head it at (head.Parameter name open_at lead (word_at 0 0))) d) (token (mark.Word 0) 0) refl refl (parameter_finishes it at name open_at lead (word_at 0 0) d)
head_finishes it at (head.Parameter name open_at lead v) d = parameter_finishes it at name open_at lead v d
head_finishes it at (head.Colon name open_at lead v colon) d = sorted_finishes it at name open_at lead v colon d
head_finishes it at (head.Listed name open_at) d = listed_finishes it at name open_at d

-- lines that are whole
none_finishes : (file : TypeForm) → file.queries ≡ [] → Finishes (between file)
none_finishes file none =
    let d = (between file).draft in
    then_word (spot (stage.Head item.Operation 0 head.Begun) d) (token mark.OpLine 0) refl (empty_chosen file.queries (Some (spot (stage.Head item.Operation 0 head.Begun) d)) None none)
    (head_finishes item.Operation 0 head.Begun d)

file_finishes : (file : TypeForm) (queries : List QueryForm) → file.queries ≡ queries → Finishes (between file)
file_finishes file [] same = none_finishes file same
file_finishes file (q ∷ queries) same = at_end file (λ none. full (sym same ∙ none))
  where
    full : {q : QueryForm} {queries : List QueryForm} → q ∷ queries ≡ [] → ⊥
    full e = absurd cc

between_finishes : (file : TypeForm) → Finishes (between file)
between_finishes file = file_finishes file file.queries refl

-- a field
start_finishes : (at : ℕ) (s : State) (d : Draft) → Finishes (spot (stage.State at (state.Whole s)) d)
start_finishes at s d = then_newline (between (with_state d.file s)) refl (between_finishes (with_state d.file s))

equal_finishes : (at : ℕ) (name : Word) (colon : ℕ) (kept : Kept) (equal : ℕ) (d : Draft) → Finishes (spot (stage.State at (state.Equal name colon kept equal)) d)
equal_finishes at name colon kept equal d =
    let s = start_of name colon kept equal at (Natural 0 0) in
    then_word (spot (stage.State at (state.Whole s)) d) (token (mark.Number 0) 0) refl refl (start_finishes at s d)

kept_finishes : (at : ℕ) (name : Word) (colon : ℕ) (kept : Kept) (d : Draft) → Finishes (spot (stage.State at (state.Kept name colon kept)) d)
kept_finishes at name colon kept d =
    then_word (spot (stage.State at (state.Equal name colon kept 0)) d) (token (mark.Operator operator.Same) 0) refl refl (equal_finishes at name colon kept 0 d)

arrow_finishes : (at : ℕ) (name : Word) (colon table key_at : ℕ) (key : Sort) (arrow : ℕ) (d : Draft) → Finishes (spot (stage.State at (state.Arrow name colon table key_at key arrow)) d)
arrow_finishes at name colon table key_at key arrow d =
    then_word (spot (stage.State at (state.Kept name colon (Each table key_at key arrow 0 sort.Int))) d) (token (mark.Sort sort.Int) 0) refl refl
    (kept_finishes at name colon (Each table key_at key arrow 0 sort.Int) d)

key_of_finishes : (at : ℕ) (name : Word) (colon table key_at : ℕ) (key : Sort) (d : Draft) → Finishes (spot (stage.State at (state.Key name colon table key_at key)) d)
key_of_finishes at name colon table key_at key d =
    then_word (spot (stage.State at (state.Arrow name colon table key_at key 0)) d) (token mark.Arrow 0) refl refl (arrow_finishes at name colon table key_at key 0 d)

colon_of_finishes : (at : ℕ) (name : Word) (colon : ℕ) (d : Draft) → Finishes (spot (stage.State at (state.Colon name colon)) d)
colon_of_finishes at name colon d =
    then_word (spot (stage.State at (state.Kept name colon (One 0 sort.Int))) d) (token (mark.Sort sort.Int) 0) refl refl (kept_finishes at name colon (One 0 sort.Int) d)

name_of_finishes : (at : ℕ) (name : Word) (d : Draft) → Finishes (spot (stage.State at (state.Named name)) d)
name_of_finishes at name d = then_word (spot (stage.State at (state.Colon name 0)) d) (token mark.Colon 0) refl refl (colon_of_finishes at name 0 d)

state_finishes : (at : ℕ) (s : StateStage) (d : Draft) → Finishes (spot (stage.State at s) d)
state_finishes at state.Begun d = then_word (spot (stage.State at (state.Named (word_at 0 0))) d) (token (mark.Word 0) 0) refl refl (name_of_finishes at (word_at 0 0) d)
state_finishes at (state.Named name) d = name_of_finishes at name d
state_finishes at (state.Colon name colon) d = colon_of_finishes at name colon d
state_finishes at (state.Table name colon table) d =
    then_word (spot (stage.State at (state.Key name colon table 0 sort.Int)) d) (token (mark.Sort sort.Int) 0) refl refl (key_of_finishes at name colon table 0 sort.Int d)
state_finishes at (state.Key name colon table key_at key) d = key_of_finishes at name colon table key_at key d
state_finishes at (state.Arrow name colon table key_at key arrow) d = arrow_finishes at name colon table key_at key arrow d
state_finishes at (state.Kept name colon kept) d = kept_finishes at name colon kept d
state_finishes at (state.Equal name colon kept equal) d = equal_finishes at name colon kept equal d
state_finishes at (state.Minus name colon kept equal minus) d =
    let s = start_of name colon kept equal at (Negative minus 0 0) in
    then_word (spot (stage.State at (state.Whole s)) d) (token (mark.Number 0) 0) refl refl (start_finishes at s d)
state_finishes at (state.Whole s) d = start_finishes at s d

-- the first line
named_type_finishes : (at : ℕ) (name : Word) (d : Draft) → Finishes (spot (stage.TypeWhole at name) d)
named_type_finishes at name d = then_newline (between (first_file at name format.First)) refl (between_finishes (first_file at name format.First))

second_type_finishes : (at : ℕ) (name : Word) (format_at : ℕ) (d : Draft) → Finishes (spot (stage.TypeSecond at name format_at) d)
second_type_finishes at name format_at d =
    then_newline (between (first_file at name (format.Second format_at))) refl (between_finishes (first_file at name (format.Second format_at)))

type_finishes : (at : ℕ) (d : Draft) → Finishes (spot (stage.TypeBegun at) d)
type_finishes at d = then_word (spot (stage.TypeWhole at (word_at 0 0)) d) (token (mark.Word 0) 0) refl refl (named_type_finishes at (word_at 0 0) d)

clear_is : (d : Draft) → d.params ≡ [] → d.rank ≡ [] → d.assignments ≡ [] → d.reading ≡ want [] → (between d.file).draft ≡ d
clear_is d p r a w = λ i. record { file = d.file; params = sym p i; rank = sym r i; assignments = sym a i; reading = sym w i }

pub every_spot : (s : Stage) (d : Draft) → IsGood s d → Finishes (spot s d)
every_spot stage.Empty d g = then_word (spot (stage.TypeBegun 0) d) (token mark.TypeLine 0) refl refl (type_finishes 0 d)
every_spot (stage.TypeBegun at) d g = type_finishes at d
every_spot (stage.TypeWhole at name) d g = named_type_finishes at name d
every_spot (stage.TypeSecond at name format_at) d g = second_type_finishes at name format_at d
every_spot stage.LineStart d g = subst (λ d. Finishes (spot stage.LineStart d)) (clear_is d g.1 g.2.0 g.2.1 g.2.2) (between_finishes d.file)
every_spot (stage.State at s) d g = state_finishes at s d
every_spot (stage.Head it at s) d g = head_finishes it at s d
every_spot (stage.Operation sig s) d g = operation_finishes sig s d
every_spot (stage.Query sig s) d g = query_finishes sig s d

-- tokens that are read so far are those with which some type begins
pub goes_on : (tokens : List Placed) (ls : List Load) (last : Spot) → Passes first_spot tokens ls last → GoesOn tokens
goes_on tokens ls last passes =
    let f = every_spot last.stage last.draft (told passes nothing_told).good in
    record { more = f.more; whole = f.whole; says = sound (tokens ++ f.more) f.whole (ls ++ f.loads) f.last (passes_on passes f.passes) f.ends }
