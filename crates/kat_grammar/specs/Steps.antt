-- Used inside only.
-- How a type file is read, one token at a time.
use Rattle.std.specs.Prelude.{ℕ, ◌==◌, nat_le, nat_lt, Bool, true, false, List, [], ◌∷◌, ◌++◌, length, Option, None, Some, if◌then◌else◌}
use Rattle.kat_num.specs.declared.values.Sort.{Sort}
use Rattle.kat_num.specs.declared.values.Sort.TheVariants as sort
use Rattle.kat_grammar.specs.Marks.{is_newline}
use Rattle.kat_grammar.specs.Forms.{AssignmentForm, OperationForm, QueryForm, TypeForm}
use Rattle.kat_grammar.specs.Forms.ActForm.{set, clear}
use Rattle.kat_grammar.specs.Phrases.{Form}
use Rattle.kat_grammar.specs.Sizes.{Load, other}
use Rattle.kat_grammar.specs.Stacks.{Part, Reading, around, ended, load_read, read_on, word_at}
use Rattle.kat_grammar.specs.Stacks.Reading.{want, have}
use Rattle.kat_grammar.specs.declared.marks.Operator.TheVariants as operator
use Rattle.kat_grammar.specs.declared.marks.Mark.{Mark}
use Rattle.kat_grammar.specs.declared.marks.Mark.TheVariants as mark
use Rattle.kat_grammar.specs.declared.phrases.Constant.{Constant}
use Rattle.kat_grammar.specs.declared.phrases.Constant.TheVariants.{Natural, Negative, Literal, Truth}
use Rattle.kat_grammar.specs.declared.phrases.Format.{Format}
use Rattle.kat_grammar.specs.declared.phrases.Format.TheVariants as format
use Rattle.kat_grammar.specs.declared.phrases.Kept.{Kept}
use Rattle.kat_grammar.specs.declared.phrases.Kept.TheVariants.{One, Each}
use Rattle.kat_grammar.specs.declared.phrases.Parameter.{Parameter}
use Rattle.kat_grammar.specs.declared.phrases.RankElement.{RankElement}
use Rattle.kat_grammar.specs.declared.phrases.RankElement.TheVariants as rank
use Rattle.kat_grammar.specs.declared.phrases.RankPart.{RankPart}
use Rattle.kat_grammar.specs.declared.phrases.State.{State}
use Rattle.kat_grammar.specs.declared.phrases.Target.{Target}
use Rattle.kat_grammar.specs.declared.phrases.Target.TheVariants as target
use Rattle.kat_grammar.specs.declared.phrases.Word.{Word}
use Rattle.kat_grammar.specs.declared.stages.HeadStage.{HeadStage}
use Rattle.kat_grammar.specs.declared.stages.HeadStage.TheVariants as head
use Rattle.kat_grammar.specs.declared.stages.Item.{Item}
use Rattle.kat_grammar.specs.declared.stages.Item.TheVariants as item
use Rattle.kat_grammar.specs.declared.stages.OperationStage.{OperationStage}
use Rattle.kat_grammar.specs.declared.stages.OperationStage.TheVariants as op
use Rattle.kat_grammar.specs.declared.stages.QueryStage.{QueryStage}
use Rattle.kat_grammar.specs.declared.stages.QueryStage.TheVariants as query
use Rattle.kat_grammar.specs.declared.stages.Signature.{Signature}
use Rattle.kat_grammar.specs.declared.stages.Stage.{Stage}
use Rattle.kat_grammar.specs.declared.stages.Stage.TheVariants as stage
use Rattle.kat_grammar.specs.declared.stages.StateStage.{StateStage}
use Rattle.kat_grammar.specs.declared.stages.StateStage.TheVariants as state

-- what was read: the lines before, and the lists of the line that has begun
pub record Draft : Type 0 where
  pub file : TypeForm
  pub params : List Parameter
  pub rank : List RankPart
  pub assignments : List AssignmentForm
  pub reading : Reading

-- how far the text was read, and what
pub record Spot : Type 0 where
  pub stage : Stage
  pub draft : Draft

abbrev pub spot : Stage → Draft → Spot
spot s d = record { stage = s; draft = d }

-- a line begins: states before operations, and those before queries
abbrev pub begin_line : Draft → Mark → ℕ → Option Spot
begin_line d mark.StateLine at = if length d.file.operations == 0 then Some (spot (stage.State at state.Begun) d) else None
begin_line d mark.OpLine at = if length d.file.queries == 0 then Some (spot (stage.Head item.Operation at head.Begun) d) else None
begin_line d mark.QueryLine at = if length d.file.operations == 0 then None else Some (spot (stage.Head item.Query at head.Begun) d)
begin_line d m at = None

abbrev pub begin_type : Draft → Mark → ℕ → Option Spot
begin_type d mark.TypeLine at = Some (spot (stage.TypeBegun at) d)
begin_type d m at = None

abbrev pub name_type : ℕ → Draft → Mark → ℕ → Option Spot
name_type type_at d (mark.Word code) at = Some (spot (stage.TypeWhole type_at (word_at code at)) d)
name_type type_at d m at = None

-- after the name of a type a text of format 2 has a 2
abbrev pub format_type : ℕ → Word → Draft → Mark → ℕ → Option Spot
format_type type_at name d (mark.Number n) at = if n == 2 then Some (spot (stage.TypeSecond type_at name at) d) else None
format_type type_at name d m at = None

abbrev pub is_key : Sort → Bool
is_key sort.Bool = false
is_key s = true

abbrev pub start_of : Word → ℕ → Kept → ℕ → ℕ → Constant → State
start_of name colon kept equal at start = record { at = at; name = name; colon = colon; kept = kept; equal = equal; start = start }

-- the line of a field is read on by a token
abbrev pub read_state : ℕ → StateStage → Mark → ℕ → Option StateStage
read_state line_at state.Begun (mark.Word code) at = Some (state.Named (word_at code at))
read_state line_at (state.Named name) mark.Colon at = Some (state.Colon name at)
read_state line_at (state.Colon name colon) (mark.Sort s) at = Some (state.Kept name colon (One at s))
read_state line_at (state.Colon name colon) mark.Table at = Some (state.Table name colon at)
read_state line_at (state.Table name colon table) (mark.Sort key) at = if is_key key then Some (state.Key name colon table at key) else None
read_state line_at (state.Key name colon table key_at key) mark.Arrow at = Some (state.Arrow name colon table key_at key at)
read_state line_at (state.Arrow name colon table key_at key arrow) (mark.Sort s) at = Some (state.Kept name colon (Each table key_at key arrow at s))
read_state line_at (state.Kept name colon kept) (mark.Operator operator.Same) at = Some (state.Equal name colon kept at)
read_state line_at (state.Equal name colon kept equal) (mark.Number n) at = Some (state.Whole (start_of name colon kept equal line_at (Natural at n)))
read_state line_at (state.Equal name colon kept equal) (mark.Literal n) at = Some (state.Whole (start_of name colon kept equal line_at (Literal at n)))
read_state line_at (state.Equal name colon kept equal) (mark.Truth b) at = Some (state.Whole (start_of name colon kept equal line_at (Truth at b)))
read_state line_at (state.Equal name colon kept equal) (mark.Operator operator.Minus) at = Some (state.Minus name colon kept equal at)
read_state line_at (state.Minus name colon kept equal minus) (mark.Number n) at = Some (state.Whole (start_of name colon kept equal line_at (Negative minus at n)))
read_state line_at s m at = None

abbrev pub in_state : ℕ → Draft → Option StateStage → Option Spot
in_state line_at d None = None
in_state line_at d (Some s) = Some (spot (stage.State line_at s) d)

abbrev pub parameter_of : ℕ → Word → ℕ → ℕ → Sort → Parameter
parameter_of lead name colon at s = record { lead = lead; name = name; colon = colon; sort_at = at; sort = s }

abbrev pub signature_of : ℕ → Word → ℕ → ℕ → Signature
signature_of at name open_at close_at = record { at = at; name = name; open_at = open_at; close_at = close_at }

abbrev pub behind_head : Item → ℕ → Word → ℕ → ℕ → Stage
behind_head item.Operation at name open_at close_at = stage.Operation (signature_of at name open_at close_at) op.Closed
behind_head item.Query at name open_at close_at = stage.Query (signature_of at name open_at close_at) query.Closed

-- a name and its parameters are read on by a token
abbrev pub read_head : Item → ℕ → HeadStage → Draft → Mark → ℕ → Option Spot
read_head it line_at head.Begun d (mark.Word code) at = Some (spot (stage.Head it line_at (head.Named (word_at code at))) d)
read_head it line_at (head.Named name) d mark.Open at = Some (spot (stage.Head it line_at (head.Opened name at)) d)
read_head it line_at (head.Opened name open_at) d (mark.Word code) at =
    Some (spot (stage.Head it line_at (head.Parameter name open_at open_at (word_at code at))) d)
read_head it line_at (head.Opened name open_at) d mark.Close at = Some (spot (behind_head it line_at name open_at at) d)
read_head it line_at (head.Lead name open_at lead) d (mark.Word code) at =
    Some (spot (stage.Head it line_at (head.Parameter name open_at lead (word_at code at))) d)
read_head it line_at (head.Parameter name open_at lead word) d mark.Colon at = Some (spot (stage.Head it line_at (head.Colon name open_at lead word at)) d)
read_head it line_at (head.Colon name open_at lead word colon) d (mark.Sort s) at =
    Some (spot (stage.Head it line_at (head.Listed name open_at)) (record d { params = d.params ++ parameter_of lead word colon at s ∷ [] }))
read_head it line_at (head.Listed name open_at) d mark.Comma at = Some (spot (stage.Head it line_at (head.Lead name open_at at)) d)
read_head it line_at (head.Listed name open_at) d mark.Close at = Some (spot (behind_head it line_at name open_at at) d)
read_head it line_at s d m at = None

-- the elements of a rank
abbrev pub element_of : Mark → ℕ → Option RankElement
element_of (mark.Number n) at = if nat_le n 9 then Some (rank.Digit at n) else None
element_of mark.Time at = Some (rank.Time at)
element_of mark.Replica at = Some (rank.Replica at)
element_of (mark.Word code) at = Some (rank.Parameter (word_at code at))
element_of m at = None

abbrev pub rank_part : ℕ → RankElement → RankPart
rank_part lead element = record { lead = lead; element = element }

abbrev pub add_element : Signature → ℕ → Draft → Option RankElement → Option Spot
add_element sig lead d None = None
add_element sig lead d (Some element) = Some (spot (stage.Operation sig op.Ranked) (record d { rank = d.rank ++ rank_part lead element ∷ [] }))

abbrev pub assignment_of : ℕ → Target → ℕ → Form → AssignmentForm
assignment_of lead t assign right = record { lead = lead; act = set t assign right }

abbrev pub clearing_of : ℕ → ℕ → Word → AssignmentForm
clearing_of lead clear_at table = record { lead = lead; act = clear clear_at table }

-- an expression is read on by a token
abbrev pub in_phrase : Stage → Draft → Option Reading → Option Spot
in_phrase s d None = None
in_phrase s d (Some r) = Some (spot s (record d { reading = r }))

-- the expression that was read, if nothing is open around it
abbrev pub whole_form : Form → List Part → Option Form
whole_form f [] = Some f
whole_form f (part ∷ s) = None

abbrev pub form_read : Reading → Option Form
form_read (have f s) = whole_form (ended f s) (around s)
form_read r = None

-- an assignment ends
abbrev pub add_assignment : Stage → ℕ → Target → ℕ → Draft → Option Form → Option Spot
add_assignment s lead t assign d None = None
add_assignment s lead t assign d (Some f) =
    Some (spot s (record d { assignments = d.assignments ++ assignment_of lead t assign f ∷ []; reading = want [] }))

-- a table that is cleared
abbrev pub add_clear : Stage → ℕ → ℕ → Word → Draft → Spot
add_clear s lead clear_at table d = spot s (record d { assignments = d.assignments ++ clearing_of lead clear_at table ∷ [] })

abbrev pub read_right : Signature → ℕ → Target → ℕ → Draft → Mark → ℕ → Option Spot
read_right sig lead t assign d mark.Semicolon at = add_assignment (stage.Operation sig (op.AssignmentLead at)) lead t assign d (form_read d.reading)
read_right sig lead t assign d m at = in_phrase (stage.Operation sig (op.Right lead t assign)) d (read_on d.reading m at)

-- an operation reads on by a token, after its parameters
abbrev pub read_operation : Signature → OperationStage → Draft → Mark → ℕ → Option Spot
read_operation sig op.Closed d mark.Rank at = Some (spot (stage.Operation sig (op.RankLead at)) d)
read_operation sig (op.RankLead lead) d m at = add_element sig lead d (element_of m at)
read_operation sig op.Ranked d mark.Comma at = if nat_lt (length d.rank) 3 then Some (spot (stage.Operation sig (op.RankLead at)) d) else None
read_operation sig op.Ranked d mark.Colon at = Some (spot (stage.Operation sig (op.AssignmentLead at)) d)
read_operation sig (op.AssignmentLead lead) d (mark.Word code) at = Some (spot (stage.Operation sig (op.TargetWord lead (word_at code at))) d)
read_operation sig (op.AssignmentLead lead) d mark.Clear at = Some (spot (stage.Operation sig (op.ClearBegun lead at)) d)
read_operation sig (op.ClearBegun lead clear_at) d (mark.Word code) at = Some (spot (stage.Operation sig (op.ClearWhole lead clear_at (word_at code at))) d)
read_operation sig (op.ClearWhole lead clear_at table) d mark.Semicolon at = Some (add_clear (stage.Operation sig (op.AssignmentLead at)) lead clear_at table d)
read_operation sig (op.TargetWord lead word) d mark.OpenBracket at = Some (spot (stage.Operation sig (op.TargetOpen lead word at)) d)
read_operation sig (op.TargetWord lead word) d mark.Assign at = Some (spot (stage.Operation sig (op.Right lead (target.Field word) at)) d)
read_operation sig (op.TargetOpen lead table open_at) d (mark.Word code) at = Some (spot (stage.Operation sig (op.TargetKey lead table open_at (word_at code at))) d)
read_operation sig (op.TargetKey lead table open_at key) d mark.CloseBracket at =
    Some (spot (stage.Operation sig (op.TargetWhole lead (target.Entry table open_at key at))) d)
read_operation sig (op.TargetWhole lead t) d mark.Assign at = Some (spot (stage.Operation sig (op.Right lead t at)) d)
read_operation sig (op.Right lead t assign) d m at = read_right sig lead t assign d m at
read_operation sig s d m at = None

-- a query reads on by a token, after its parameters
abbrev pub read_query : Signature → QueryStage → Draft → Mark → ℕ → Option Spot
read_query sig query.Closed d mark.Colon at = Some (spot (stage.Query sig (query.Colon at)) d)
read_query sig (query.Colon colon) d (mark.Sort s) at = Some (spot (stage.Query sig (query.Sort colon at s)) d)
read_query sig (query.Sort colon sort_at s) d (mark.Operator operator.Same) at = Some (spot (stage.Query sig (query.Right colon sort_at s at)) d)
read_query sig (query.Right colon sort_at s equal) d m at = in_phrase (stage.Query sig (query.Right colon sort_at s equal)) d (read_on d.reading m at)
read_query sig s d m at = None

-- a token that is no newline
abbrev pub read_word : Stage → Draft → Mark → ℕ → Option Spot
read_word stage.Empty d m at = begin_type d m at
read_word (stage.TypeBegun type_at) d m at = name_type type_at d m at
read_word (stage.TypeWhole type_at name) d m at = format_type type_at name d m at
read_word (stage.TypeSecond type_at name format_at) d m at = None
read_word stage.LineStart d m at = begin_line d m at
read_word (stage.State line_at s) d m at = in_state line_at d (read_state line_at s m at)
read_word (stage.Head it line_at s) d m at = read_head it line_at s d m at
read_word (stage.Operation sig s) d m at = read_operation sig s d m at
read_word (stage.Query sig s) d m at = read_query sig s d m at

abbrev pub first_file : ℕ → Word → Format → TypeForm
first_file at name f = record { at = at; name = name; format = f; states = []; operations = []; queries = [] }

-- between lines
abbrev pub between : TypeForm → Spot
between file = spot stage.LineStart (record { file = file; params = []; rank = []; assignments = []; reading = want [] })

abbrev pub operation_of : Signature → Draft → List AssignmentForm → OperationForm
operation_of sig d assigns =
    record {
      at = sig.at;
      name = sig.name;
      open_at = sig.open_at;
      params = d.params;
      close_at = sig.close_at;
      rank = d.rank;
      assignments = assigns;
    }

abbrev pub query_of : Signature → ℕ → ℕ → Sort → ℕ → Draft → Form → QueryForm
query_of sig colon sort_at s equal d right =
    record {
      at = sig.at;
      name = sig.name;
      open_at = sig.open_at;
      params = d.params;
      close_at = sig.close_at;
      colon = colon;
      sort_at = sort_at;
      sort = s;
      equal = equal;
      right = right;
    }

-- the lines before, and one more
abbrev pub with_state : TypeForm → State → TypeForm
with_state file s = record file { states = file.states ++ s ∷ [] }

abbrev pub with_operation : TypeForm → OperationForm → TypeForm
with_operation file o = record file { operations = file.operations ++ o ∷ [] }

abbrev pub with_query : TypeForm → QueryForm → TypeForm
with_query file q = record file { queries = file.queries ++ q ∷ [] }

abbrev pub end_state : Draft → StateStage → Option Spot
end_state d (state.Whole s) = Some (between (with_state d.file s))
end_state d s = None

abbrev pub end_right : Signature → ℕ → Target → ℕ → Draft → Option Form → Option Spot
end_right sig lead t assign d None = None
end_right sig lead t assign d (Some f) =
    Some (between (with_operation d.file (operation_of sig d (d.assignments ++ assignment_of lead t assign f ∷ []))))

abbrev pub end_operation : Signature → OperationStage → Draft → Option Spot
end_operation sig (op.Right lead t assign) d = end_right sig lead t assign d (form_read d.reading)
end_operation sig (op.ClearWhole lead clear_at table) d =
    Some (between (with_operation d.file (operation_of sig d (d.assignments ++ clearing_of lead clear_at table ∷ []))))
end_operation sig s d = None

abbrev pub end_answer : Signature → ℕ → ℕ → Sort → ℕ → Draft → Option Form → Option Spot
end_answer sig colon sort_at s equal d None = None
end_answer sig colon sort_at s equal d (Some f) = Some (between (with_query d.file (query_of sig colon sort_at s equal d f)))

abbrev pub end_query : Signature → QueryStage → Draft → Option Spot
end_query sig (query.Right colon sort_at s equal) d = end_answer sig colon sort_at s equal d (form_read d.reading)
end_query sig s d = None

-- a line ends
abbrev pub end_line : Stage → Draft → Option Spot
end_line stage.Empty d = Some (spot stage.Empty d)
end_line (stage.TypeBegun type_at) d = None
end_line (stage.TypeWhole type_at name) d = Some (between (first_file type_at name format.First))
end_line (stage.TypeSecond type_at name format_at) d = Some (between (first_file type_at name (format.Second format_at)))
end_line stage.LineStart d = Some (spot stage.LineStart d)
end_line (stage.State line_at s) d = end_state d s
end_line (stage.Head it line_at s) d = None
end_line (stage.Operation sig s) d = end_operation sig s d
end_line (stage.Query sig s) d = end_query sig s d

-- a token
abbrev pub step : Spot → Mark → ℕ → Option Spot
step p m at = if is_newline m then end_line p.stage p.draft else read_word p.stage p.draft m at

-- what the token read last adds
abbrev pub right_load : OperationStage → Draft → Load
right_load (op.Right lead t assign) d = load_read d.reading
right_load s d = other 0

abbrev pub answer_load : QueryStage → Draft → Load
answer_load (query.Right colon sort_at s equal) d = load_read d.reading
answer_load s d = other 0

abbrev pub load_of : Stage → Draft → Load
load_of (stage.Operation sig s) d = right_load s d
load_of (stage.Query sig s) d = answer_load s d
load_of s d = other 0

-- before the first token
abbrev pub first_spot : Spot
first_spot =
    spot stage.Empty
    (record { file = first_file 0 (word_at 0 0) format.First; params = []; rank = []; assignments = []; reading = want [] })

-- the type, if the text may end here
abbrev pub whole_type : Stage → Draft → Option TypeForm
whole_type stage.LineStart d = if length d.file.queries == 0 then None else Some d.file
whole_type s d = None

abbrev pub finished : Option Spot → Option TypeForm
finished None = None
finished (Some p) = whole_type p.stage p.draft

abbrev pub finish : Spot → Option TypeForm
finish p = finished (end_line p.stage p.draft)
