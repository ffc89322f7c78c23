-- What was read of a text is what its spot says.
use Rattle.std.proofs.Common.{◌≡◌, ℕ, ◌+◌, ◌<◌, Bool, true, false, List, [], ◌∷◌, ◌++◌, length, map, refl, sym, ◌∙◌, ap, subst, arith, length-append, append_assoc, append-nil, Option, None, Some}
use Rattle.std.specs.Prelude.{All, ◌==◌, nat_le, nat_lt, ◌≢◌, if◌then◌else◌}
use Rattle.std.proofs.lemmas.Bool.{eqb-true, leb-true}
use Rattle.std.proofs.lemmas.List.{map-append}
use Rattle.std.proofs.lemmas.List.Elements.{All-push}
use Rattle.kat_num.specs.declared.values.Sort.{Sort}
use Rattle.kat_num.specs.declared.values.Sort.TheVariants as sort
use Rattle.kat_grammar.specs.Files.{Says, lines_from, text_lines, with_line}
use Rattle.kat_grammar.specs.Marks.{is_newline}
use Rattle.kat_grammar.specs.Forms.{AssignmentForm, OperationForm, QueryForm, TypeForm}
use Rattle.kat_grammar.specs.Lines.{AreElements, act_tokens, type_tokens, IsAct, IsElement, IsKept, IsLed, IsOperation, IsQuery, assignment_tokens, assignments_tokens, element_tokens, head_tokens, kept_tokens, led, lines_of, opened_tokens, operation_tokens, parameter_tokens, parameters_tokens, query_tokens, rank_tokens, state_tokens, target_tokens}
use Rattle.kat_grammar.specs.Phrases.{Form, IsFormed, form_tokens, token, word_token}
use Rattle.kat_grammar.specs.Sizes.{Load}
use Rattle.kat_grammar.specs.Stacks.{Part, Reading, around, ended, read_on, word_at}
use Rattle.kat_grammar.specs.Stacks.Reading.{want, minus_read, extreme_read, table_read, key_read, have}
use Rattle.kat_grammar.specs.Steps.{Draft, Spot, add_assignment, add_element, assignment_of, begin_line, begin_type, behind_head, clearing_of, element_of, format_type, end_line, end_operation, end_query, end_right, end_answer, end_state, finish, finished, first_spot, form_read, in_phrase, in_state, is_key, name_type, operation_of, query_of, rank_part, read_head, read_operation, read_query, read_right, read_state, read_word, spot, parameter_of, whole_form, whole_type, with_operation, with_query, with_state}
use Rattle.kat_grammar.specs.declared.marks.Operator.TheVariants as operator
use Rattle.kat_grammar.specs.declared.marks.Mark.{Mark}
use Rattle.kat_grammar.specs.declared.marks.Mark.TheVariants as mark
use Rattle.kat_grammar.specs.declared.marks.Placed.{Placed}
use Rattle.kat_grammar.specs.declared.phrases.Kept.{Kept}
use Rattle.kat_grammar.specs.declared.phrases.Parameter.{Parameter}
use Rattle.kat_grammar.specs.declared.phrases.RankElement.{RankElement}
use Rattle.kat_grammar.specs.declared.phrases.RankElement.TheVariants as rank
use Rattle.kat_grammar.specs.declared.phrases.RankPart.{RankPart}
use Rattle.kat_grammar.specs.declared.phrases.State.{State}
use Rattle.kat_grammar.specs.declared.phrases.Target.{Target}
use Rattle.kat_grammar.specs.declared.phrases.Target.TheVariants as target
use Rattle.kat_grammar.specs.declared.phrases.Word.{Word}
use Rattle.kat_grammar.specs.declared.stages.HeadStage.{HeadStage}
use Rattle.kat_grammar.specs.declared.stages.HeadStage.TheVariants as head
use Rattle.kat_grammar.specs.declared.stages.Item.{Item}
use Rattle.kat_grammar.specs.declared.stages.Item.TheVariants as item
use Rattle.kat_grammar.specs.declared.stages.OperationStage.{OperationStage}
use Rattle.kat_grammar.specs.declared.stages.OperationStage.TheVariants as op
use Rattle.kat_grammar.specs.declared.stages.QueryStage.{QueryStage}
use Rattle.kat_grammar.specs.declared.stages.QueryStage.TheVariants as query
use Rattle.kat_grammar.specs.declared.stages.Signature.{Signature}
use Rattle.kat_grammar.specs.declared.stages.Stage.{Stage}
use Rattle.kat_grammar.specs.declared.stages.Stage.TheVariants as stage
use Rattle.kat_grammar.specs.declared.stages.StateStage.{StateStage}
use Rattle.kat_grammar.specs.declared.stages.StateStage.TheVariants as state
use Rattle.kat_grammar.proofs.Soundness.{IsReading, Sound, ended_sound, read_sound, written}
use Rattle.kat_grammar.proofs.Leading.{choose_false, choose_true}
use Rattle.kat_grammar.proofs.Texts.{Passes, some_is}
use Rattle.kat_grammar.proofs.Texts.Passes.{rests, reads_word, reads_newline}

-- items in a row, and one more
abbrev pub next : {Item : Type 0} → Mark → Mark → List Item → Mark
next first later [] = first
next first later (i ∷ items) = later

led_push : {X : Type 0} (first later : Mark) (lead : X → ℕ) (tokens : X → List Placed) (xs : List X) (x : X)
    → led first later lead tokens (xs ++ x ∷ []) ≡ led first later lead tokens xs ++ token (next first later xs) (lead x) ∷ tokens x
led_push first later lead tokens [] x = ap (λ l. token first (lead x) ∷ l) (append-nil (tokens x))
led_push first later lead tokens (y ∷ []) x =
    ap (λ l. token first (lead y) ∷ l) (ap (λ l. tokens y ++ l) (ap (λ l. token later (lead x) ∷ l) (append-nil (tokens x))) ∙ ap (λ l. l ++ token later (lead x) ∷ tokens x) (sym (append-nil (tokens y))))
led_push first later lead tokens (y ∷ (z ∷ xs)) x =
    ap (λ l. token first (lead y) ∷ l)
    (ap (λ l. tokens y ++ l) (led_push later later lead tokens (z ∷ xs) x)
    ∙ sym (append_assoc (tokens y) (led later later lead tokens (z ∷ xs)) (token later (lead x) ∷ tokens x)))

-- the tokens of the line that has begun
abbrev pub state_written : ℕ → StateStage → List Placed
state_written at state.Begun = token mark.StateLine at ∷ []
state_written at (state.Named name) = token mark.StateLine at ∷ word_token name ∷ []
state_written at (state.Colon name colon) = token mark.StateLine at ∷ word_token name ∷ token mark.Colon colon ∷ []
state_written at (state.Table name colon table) = token mark.StateLine at ∷ word_token name ∷ token mark.Colon colon ∷ token mark.Table table ∷ []
state_written at (state.Key name colon table key_at key) =
    token mark.StateLine at ∷ word_token name ∷ token mark.Colon colon ∷ token mark.Table table ∷ token (mark.Sort key) key_at ∷ []
state_written at (state.Arrow name colon table key_at key arrow) =
    token mark.StateLine at ∷ word_token name ∷ token mark.Colon colon ∷ token mark.Table table ∷ token (mark.Sort key) key_at ∷ token mark.Arrow arrow ∷ []
state_written at (state.Kept name colon kept) = token mark.StateLine at ∷ word_token name ∷ token mark.Colon colon ∷ kept_tokens kept
state_written at (state.Equal name colon kept equal) =
    (token mark.StateLine at ∷ word_token name ∷ token mark.Colon colon ∷ kept_tokens kept) ++ token (mark.Operator operator.Same) equal ∷ []
state_written at (state.Minus name colon kept equal minus) =
    (token mark.StateLine at ∷ word_token name ∷ token mark.Colon colon ∷ kept_tokens kept)
    ++ token (mark.Operator operator.Same) equal ∷ token (mark.Operator operator.Minus) minus ∷ []
state_written at (state.Whole s) = state_tokens s

abbrev pub mark_of_item : Item → Mark
mark_of_item item.Operation = mark.OpLine
mark_of_item item.Query = mark.QueryLine

-- parameters, and the lead of another
abbrev pub parameters_led : List Parameter → ℕ → List Placed
parameters_led params lead = parameters_tokens params ++ token (next mark.Open mark.Comma params) lead ∷ []

abbrev pub head_written : Mark → ℕ → HeadStage → List Parameter → List Placed
head_written m at head.Begun params = token m at ∷ []
head_written m at (head.Named name) params = token m at ∷ word_token name ∷ []
head_written m at (head.Opened name open_at) params = token m at ∷ word_token name ∷ token mark.Open open_at ∷ []
head_written m at (head.Lead name open_at lead) params = token m at ∷ word_token name ∷ parameters_led params lead
head_written m at (head.Parameter name open_at lead word) params = (token m at ∷ word_token name ∷ parameters_led params lead) ++ word_token word ∷ []
head_written m at (head.Colon name open_at lead word colon) params =
    (token m at ∷ word_token name ∷ parameters_led params lead) ++ word_token word ∷ token mark.Colon colon ∷ []
head_written m at (head.Listed name open_at) params = token m at ∷ word_token name ∷ parameters_tokens params

abbrev pub signature_tokens : Mark → Signature → List Parameter → List Placed
signature_tokens m sig params = head_tokens m sig.at sig.name sig.open_at params sig.close_at

abbrev pub ranked : Signature → Draft → List Placed
ranked sig d = signature_tokens mark.OpLine sig d.params ++ rank_tokens d.rank

-- assignments, and the lead of another
abbrev pub assigned : Signature → Draft → ℕ → List Placed
assigned sig d lead = ranked sig d ++ assignments_tokens d.assignments ++ token (next mark.Colon mark.Semicolon d.assignments) lead ∷ []

abbrev pub operation_written : Signature → OperationStage → Draft → List Placed
operation_written sig op.Closed d = signature_tokens mark.OpLine sig d.params
operation_written sig (op.RankLead lead) d = ranked sig d ++ token (next mark.Rank mark.Comma d.rank) lead ∷ []
operation_written sig op.Ranked d = ranked sig d
operation_written sig (op.AssignmentLead lead) d = assigned sig d lead
operation_written sig (op.ClearBegun lead clear_at) d = assigned sig d lead ++ token mark.Clear clear_at ∷ []
operation_written sig (op.ClearWhole lead clear_at table) d = assigned sig d lead ++ token mark.Clear clear_at ∷ word_token table ∷ []
operation_written sig (op.TargetWord lead word) d = assigned sig d lead ++ word_token word ∷ []
operation_written sig (op.TargetOpen lead table open_at) d = assigned sig d lead ++ word_token table ∷ token mark.OpenBracket open_at ∷ []
operation_written sig (op.TargetKey lead table open_at key) d = assigned sig d lead ++ word_token table ∷ token mark.OpenBracket open_at ∷ word_token key ∷ []
operation_written sig (op.TargetWhole lead t) d = assigned sig d lead ++ target_tokens t
operation_written sig (op.Right lead t assign) d = assigned sig d lead ++ (target_tokens t ++ token mark.Assign assign ∷ written d.reading)

abbrev pub query_written : Signature → QueryStage → Draft → List Placed
query_written sig query.Closed d = signature_tokens mark.QueryLine sig d.params
query_written sig (query.Colon colon) d = signature_tokens mark.QueryLine sig d.params ++ token mark.Colon colon ∷ []
query_written sig (query.Sort colon sort_at s) d = signature_tokens mark.QueryLine sig d.params ++ token mark.Colon colon ∷ token (mark.Sort s) sort_at ∷ []
query_written sig (query.Right colon sort_at s equal) d =
    signature_tokens mark.QueryLine sig d.params
    ++ token mark.Colon colon ∷ token (mark.Sort s) sort_at ∷ token (mark.Operator operator.Same) equal ∷ written d.reading

abbrev pub line_of : Stage → Draft → List Placed
line_of stage.Empty d = []
line_of (stage.TypeBegun at) d = token mark.TypeLine at ∷ []
line_of (stage.TypeWhole at name) d = token mark.TypeLine at ∷ word_token name ∷ []
line_of (stage.TypeSecond at name format_at) d = token mark.TypeLine at ∷ word_token name ∷ token (mark.Number 2) format_at ∷ []
line_of stage.LineStart d = []
line_of (stage.State at s) d = state_written at s
line_of (stage.Head it at s) d = head_written (mark_of_item it) at s d.params
line_of (stage.Operation sig s) d = operation_written sig s d
line_of (stage.Query sig s) d = query_written sig s d

-- the lines after it
abbrev pub behind : Stage → TypeForm → List (List Placed)
behind stage.Empty file = []
behind (stage.TypeBegun at) file = []
behind (stage.TypeWhole at name) file = []
behind (stage.TypeSecond at name format_at) file = []
behind s file = lines_of file

-- the lines after it are those of a type, as far as it goes
pub record IsFile (file : TypeForm) : Type 0 where
  states : All (λ (s : State). IsKept s.kept) file.states
  operations : All IsOperation file.operations
  queries : All IsQuery file.queries
  ordered : file.operations ≡ [] → file.queries ≡ []

abbrev pub IsStateStage : StateStage → Type 0
IsStateStage (state.Key name colon table key_at key) = key ≢ sort.Bool
IsStateStage (state.Arrow name colon table key_at key arrow) = key ≢ sort.Bool
IsStateStage (state.Kept name colon kept) = IsKept kept
IsStateStage (state.Equal name colon kept equal) = IsKept kept
IsStateStage (state.Minus name colon kept equal minus) = IsKept kept
IsStateStage (state.Whole s) = IsKept s.kept
IsStateStage s = Unit {0}

abbrev pub Fits : Item → TypeForm → Type 0
Fits item.Operation file = file.queries ≡ []
Fits item.Query file = file.operations ≢ []

-- whatever parameter comes after this lead
abbrev pub MayLead : ℕ → List Parameter → ℕ → Type 0
MayLead open_at params lead = (p : Parameter) → p.lead ≡ lead → IsLed open_at (params ++ p ∷ [])

abbrev pub IsHeadStage : HeadStage → List Parameter → Type 0
IsHeadStage (head.Lead name open_at lead) params = (params ≢ []) × MayLead open_at params lead
IsHeadStage (head.Parameter name open_at lead word) params = MayLead open_at params lead
IsHeadStage (head.Colon name open_at lead word colon) params = MayLead open_at params lead
IsHeadStage (head.Listed name open_at) params = (params ≢ []) × IsLed open_at params
IsHeadStage s params = params ≡ []

abbrev pub AreFormed : List AssignmentForm → Type 0
AreFormed assigns = All (λ (a : AssignmentForm). IsAct a.act) assigns

abbrev pub AreRanked : List RankPart → Type 0
AreRanked parts = All (λ (part : RankPart). IsElement part.element) parts

abbrev pub IsOperationStage : OperationStage → Draft → Type 0
IsOperationStage op.Closed d = (d.rank ≡ []) × (d.assignments ≡ []) × (d.reading ≡ want [])
IsOperationStage (op.RankLead lead) d = AreRanked d.rank × (length d.rank < 3) × (d.assignments ≡ []) × (d.reading ≡ want [])
IsOperationStage op.Ranked d = AreElements d.rank × (d.assignments ≡ []) × (d.reading ≡ want [])
IsOperationStage (op.Right lead t assign) d = AreElements d.rank × AreFormed d.assignments × IsReading d.reading
IsOperationStage s d = AreElements d.rank × AreFormed d.assignments × (d.reading ≡ want [])

abbrev pub IsQueryStage : QueryStage → Draft → Type 0
IsQueryStage (query.Right colon sort_at s equal) d = IsReading d.reading
IsQueryStage s d = d.reading ≡ want []

abbrev pub IsClear : Draft → Type 0
IsClear d = (d.rank ≡ []) × (d.assignments ≡ []) × (d.reading ≡ want [])

abbrev pub IsGood : Stage → Draft → Type 0
IsGood stage.LineStart d = IsFile d.file × (d.params ≡ []) × IsClear d
IsGood (stage.State at s) d = IsFile d.file × (d.file.operations ≡ []) × IsStateStage s
IsGood (stage.Head it at s) d = IsFile d.file × Fits it d.file × IsHeadStage s d.params × IsClear d
IsGood (stage.Operation sig s) d = IsFile d.file × (d.file.queries ≡ []) × IsLed sig.open_at d.params × IsOperationStage s d
IsGood (stage.Query sig s) d = IsFile d.file × (d.file.operations ≢ []) × IsLed sig.open_at d.params × IsQueryStage s d
IsGood s d = Unit {0}

-- a token more is in the line
pub record Written (s : Stage) (d : Draft) (t : Placed) (q : Spot) : Type 0 where
  good : IsGood q.stage q.draft
  lines : behind q.stage q.draft.file ≡ behind s d.file
  line : line_of q.stage q.draft ≡ line_of s d ++ t ∷ []

along : {s : Stage} {d : Draft} {t : Placed} {p q : Spot} → Some p ≡ Some q → Written s d t p → Written s d t q
along {s = s} {d = d} {t = t} e x = subst (Written s d t) (some_is e) x

same_line : {s : Stage} {d : Draft} {t : Placed} (q : Spot) → IsGood q.stage q.draft → behind q.stage q.draft.file ≡ behind s d.file
    → line_of q.stage q.draft ≡ line_of s d ++ t ∷ [] → Written s d t q
same_line q g b e = record { good = g; lines = b; line = e }

is_empty : {A : Type 0} (xs : List A) → (length xs == 0) ≡ true → xs ≡ []
is_empty [] e = refl
is_empty (x ∷ xs) e = let h = eqb-true (length (x ∷ xs)) 0 e in absurd (omega (arith, h))

is_full : {A : Type 0} (xs : List A) → (length xs == 0) ≡ false → xs ≢ []
is_full [] e = absurd cc
is_full (x ∷ xs) e = λ h. absurd cc

tested : {Q : Type 0} {A : Type 0} {x y : Option A} {r : A} (b : Bool) → (if b then x else y) ≡ Some r → (b ≡ true → x ≡ Some r → Q) → (b ≡ false → y ≡ Some r → Q) → Q
tested true e f g = f refl e
tested false e f g = g refl e

begin_written : (d : Draft) (m : Mark) (at : ℕ) (q : Spot) → IsGood stage.LineStart d → begin_line d m at ≡ Some q → Written stage.LineStart d (token m at) q
begin_written d mark.StateLine at q g e =
    tested (length d.file.operations == 0) e
    (λ b h. along h (same_line (spot (stage.State at state.Begun) d) (g.0, is_empty d.file.operations b, tt) refl refl))
    (λ b h. absurd cc)
begin_written d mark.OpLine at q g e =
    tested (length d.file.queries == 0) e
    (λ b h. along h (same_line (spot (stage.Head item.Operation at head.Begun) d) (g.0, is_empty d.file.queries b, g.1, g.2) refl refl))
    (λ b h. absurd cc)
begin_written d mark.QueryLine at q g e =
    tested (length d.file.operations == 0) e
    (λ b h. absurd cc)
    (λ b h. along h (same_line (spot (stage.Head item.Query at head.Begun) d) (g.0, is_full d.file.operations b, g.1, g.2) refl refl))
begin_written d m at q g e = absurd cc

first_written : (d : Draft) (m : Mark) (at : ℕ) (q : Spot) → begin_type d m at ≡ Some q → Written stage.Empty d (token m at) q
first_written d mark.TypeLine at q e = along e (same_line (spot (stage.TypeBegun at) d) tt refl refl)
first_written d m at q e = absurd cc

name_written : (type_at : ℕ) (d : Draft) (m : Mark) (at : ℕ) (q : Spot) → name_type type_at d m at ≡ Some q → Written (stage.TypeBegun type_at) d (token m at) q
name_written type_at d (mark.Word code) at q e = along e (same_line (spot (stage.TypeWhole type_at (word_at code at)) d) tt refl refl)
name_written type_at d m at q e = absurd cc

format_written : (type_at : ℕ) (name : Word) (d : Draft) (m : Mark) (at : ℕ) (q : Spot) → format_type type_at name d m at ≡ Some q → Written (stage.TypeWhole type_at name) d (token m at) q
format_written type_at name d (mark.Number n) at q e =
    tested (n == 2) e
    (λ b h.
    along h
    (same_line (spot (stage.TypeSecond type_at name at) d) tt refl
    (ap (λ k. token mark.TypeLine type_at ∷ word_token name ∷ token (mark.Number k) at ∷ []) (sym (eqb-true n 2 b)))))
    (λ b h. absurd cc)
format_written type_at name d m at q e = absurd cc

-- how tokens are put together
three : (x : List Placed) (a b : Placed) → x ++ a ∷ b ∷ [] ≡ x ++ a ∷ [] ++ b ∷ []
three x a b = sym (append_assoc x (a ∷ []) (b ∷ []))

glue : (h r x : List Placed) (n : Placed) → h ++ (r ++ n ∷ x) ≡ h ++ r ++ n ∷ [] ++ x
glue h r x n = sym (append_assoc h r (n ∷ x)) ∙ sym (append_assoc (h ++ r) (n ∷ []) x)

next_later : {X : Type 0} (first later : Mark) (xs : List X) → xs ≢ [] → next first later xs ≡ later
next_later first later [] h = absurd (h refl)
next_later first later (x ∷ xs) h = refl

pub not_empty : {X : Type 0} (xs : List X) (x : X) → xs ++ x ∷ [] ≢ []
not_empty [] x = λ e. absurd cc
not_empty (y ∷ xs) x = λ e. absurd cc

-- the line of a field
pub record StateMore (at : ℕ) (s : StateStage) (t : Placed) (q : StateStage) : Type 0 where
  good : IsStateStage q
  line : state_written at q ≡ state_written at s ++ t ∷ []

state_along : {at : ℕ} {s : StateStage} {t : Placed} {p q : StateStage} → Some p ≡ Some q → StateMore at s t p → StateMore at s t q
state_along {at = at} {s = s} {t = t} e x = subst (StateMore at s t) (some_is e) x

key_is : (key : Sort) → is_key key ≡ true → key ≢ sort.Bool
key_is sort.Bool e = absurd cc
key_is sort.Int e = λ h. absurd cc
key_is sort.Nat e = λ h. absurd cc
key_is sort.Name e = λ h. absurd cc

abbrev pub to_kept : ℕ → Word → ℕ → Kept → List Placed
to_kept at name colon kept = token mark.StateLine at ∷ word_token name ∷ token mark.Colon colon ∷ kept_tokens kept

state_more : (at : ℕ) (s : StateStage) (m : Mark) (m_at : ℕ) (q : StateStage) → IsStateStage s → read_state at s m m_at ≡ Some q → StateMore at s (token m m_at) q
state_more at state.Begun (mark.Word code) m_at q g e = state_along e (record { good = tt; line = refl })
state_more at (state.Named name) mark.Colon m_at q g e = state_along e (record { good = tt; line = refl })
state_more at (state.Colon name colon) (mark.Sort s) m_at q g e = state_along e (record { good = tt; line = refl })
state_more at (state.Colon name colon) mark.Table m_at q g e = state_along e (record { good = tt; line = refl })
state_more at (state.Table name colon table) (mark.Sort key) m_at q g e =
    tested (is_key key) e (λ b h. state_along h (record { good = key_is key b; line = refl })) (λ b h. absurd cc)
state_more at (state.Key name colon table key_at key) mark.Arrow m_at q g e = state_along e (record { good = g; line = refl })
state_more at (state.Arrow name colon table key_at key arrow) (mark.Sort s) m_at q g e = state_along e (record { good = g; line = refl })
state_more at (state.Kept name colon kept) (mark.Operator operator.Same) m_at q g e = state_along e (record { good = g; line = refl })
state_more at (state.Equal name colon kept equal) (mark.Number n) m_at q g e =
    state_along e (record { good = g; line = three (to_kept at name colon kept) (token (mark.Operator operator.Same) equal) (token (mark.Number n) m_at) })
state_more at (state.Equal name colon kept equal) (mark.Literal n) m_at q g e =
    state_along e (record { good = g; line = three (to_kept at name colon kept) (token (mark.Operator operator.Same) equal) (token (mark.Literal n) m_at) })
state_more at (state.Equal name colon kept equal) (mark.Truth b) m_at q g e =
    state_along e (record { good = g; line = three (to_kept at name colon kept) (token (mark.Operator operator.Same) equal) (token (mark.Truth b) m_at) })
state_more at (state.Equal name colon kept equal) (mark.Operator operator.Minus) m_at q g e =
    state_along e (record { good = g; line = three (to_kept at name colon kept) (token (mark.Operator operator.Same) equal) (token (mark.Operator operator.Minus) m_at) })
state_more at (state.Minus name colon kept equal minus) (mark.Number n) m_at q g e =
    state_along e
    (record {
      good = g;
      line = sym (append_assoc (to_kept at name colon kept) (token (mark.Operator operator.Same) equal ∷ token (mark.Operator operator.Minus) minus ∷ []) (token (mark.Number n) m_at ∷ []));
    })
state_more at s m m_at q g e = absurd cc

in_state_written : (at : ℕ) (s : StateStage) (d : Draft) (m : Mark) (m_at : ℕ) (q : Spot) → IsGood (stage.State at s) d → (o : Option StateStage) → read_state at s m m_at ≡ o
    → in_state at d o ≡ Some q → Written (stage.State at s) d (token m m_at) q
in_state_written at s d m m_at q g None r e = absurd cc
in_state_written at s d m m_at q g (Some x) r e =
    let more = state_more at s m m_at x g.2 r in
    along e (same_line (spot (stage.State at x) d) (g.0, g.1, more.good) refl more.line)

-- a name and its parameters
may_first : (open_at : ℕ) (params : List Parameter) → params ≡ [] → MayLead open_at params open_at
may_first open_at params none p same = subst (λ ps. IsLed open_at (ps ++ p ∷ [])) (sym none) same

may_later : (open_at : ℕ) (params : List Parameter) (lead : ℕ) → params ≢ [] → IsLed open_at params → MayLead open_at params lead
may_later open_at [] lead some h p same = absurd (some refl)
may_later open_at (x ∷ params) lead some h p same = h

led_none : (open_at : ℕ) (params : List Parameter) → params ≡ [] → IsLed open_at params
led_none open_at [] none = tt
led_none open_at (p ∷ params) none = absurd cc

opened_is : (open_at : ℕ) (params : List Parameter) → params ≢ [] → opened_tokens open_at params ≡ parameters_tokens params
opened_is open_at [] some = absurd (some refl)
opened_is open_at (p ∷ params) some = refl

parameter_glue : (x : List Placed) (m n l w c s : Placed) → m ∷ n ∷ (x ++ l ∷ w ∷ c ∷ s ∷ []) ≡ (m ∷ n ∷ (x ++ l ∷ [])) ++ w ∷ c ∷ [] ++ s ∷ []
parameter_glue x m n l w c s =
    sym (append_assoc (m ∷ n ∷ (x ++ l ∷ [])) (w ∷ c ∷ []) (s ∷ []) ∙ ap (λ k. m ∷ n ∷ k) (append_assoc x (l ∷ []) (w ∷ c ∷ s ∷ [])))

abbrev pub led_item : Item → ℕ → Word → ℕ → List Parameter → List Placed
led_item it at name lead params = token (mark_of_item it) at ∷ word_token name ∷ parameters_led params lead

close_written : (it : Item) (at : ℕ) (s : HeadStage) (name : Word) (open_at : ℕ) (d : Draft) (m_at : ℕ) → IsGood (stage.Head it at s) d → IsLed open_at d.params
    → head_tokens (mark_of_item it) at name open_at d.params m_at ≡ head_written (mark_of_item it) at s d.params ++ token mark.Close m_at ∷ []
    → Written (stage.Head it at s) d (token mark.Close m_at) (spot (behind_head it at name open_at m_at) d)
close_written item.Operation at s name open_at d m_at g l e = same_line (spot (behind_head item.Operation at name open_at m_at) d) (g.0, g.1, l, g.3) refl e
close_written item.Query at s name open_at d m_at g l e = same_line (spot (behind_head item.Query at name open_at m_at) d) (g.0, g.1, l, g.3.2) refl e

head_more : (it : Item) (at : ℕ) (s : HeadStage) (d : Draft) (m : Mark) (m_at : ℕ) (q : Spot) → IsGood (stage.Head it at s) d → read_head it at s d m m_at ≡ Some q
    → Written (stage.Head it at s) d (token m m_at) q
head_more it at head.Begun d (mark.Word code) m_at q g e = along e (same_line (spot (stage.Head it at (head.Named (word_at code m_at))) d) (g.0, g.1, g.2, g.3) refl refl)
head_more it at (head.Named name) d mark.Open m_at q g e = along e (same_line (spot (stage.Head it at (head.Opened name m_at)) d) (g.0, g.1, g.2, g.3) refl refl)
head_more it at (head.Opened name open_at) d (mark.Word code) m_at q g e =
    along e
    (same_line (spot (stage.Head it at (head.Parameter name open_at open_at (word_at code m_at))) d) (g.0, g.1, may_first open_at d.params g.2, g.3) refl
    (ap (λ ps. led_item it at name open_at ps ++ word_token (word_at code m_at) ∷ []) g.2))
head_more it at (head.Opened name open_at) d mark.Close m_at q g e =
    along e
    (close_written it at (head.Opened name open_at) name open_at d m_at g (led_none open_at d.params g.2)
    (ap (λ ps. head_tokens (mark_of_item it) at name open_at ps m_at) g.2))
head_more it at (head.Lead name open_at lead) d (mark.Word code) m_at q g e =
    along e (same_line (spot (stage.Head it at (head.Parameter name open_at lead (word_at code m_at))) d) (g.0, g.1, g.2.1, g.3) refl
    (ap (λ n. (token (mark_of_item it) at ∷ word_token name ∷ (parameters_tokens d.params ++ token n lead ∷ [])) ++ word_token (word_at code m_at) ∷ []) refl))
head_more it at (head.Parameter name open_at lead word) d mark.Colon m_at q g e =
    along e
    (same_line (spot (stage.Head it at (head.Colon name open_at lead word m_at)) d) (g.0, g.1, g.2, g.3) refl
    (three (led_item it at name lead d.params) (word_token word) (token mark.Colon m_at)))
head_more it at (head.Colon name open_at lead word colon) d (mark.Sort so) m_at q g e =
    let p = parameter_of lead word colon m_at so in
    along e
    (same_line (spot (stage.Head it at (head.Listed name open_at)) (record d { params = d.params ++ p ∷ [] })) (g.0, g.1, (not_empty d.params p, g.2 p refl), g.3) refl
    (ap (λ l. token (mark_of_item it) at ∷ word_token name ∷ l) (led_push mark.Open mark.Comma (λ (p : Parameter). p.lead) parameter_tokens d.params p)
    ∙ parameter_glue (parameters_tokens d.params) (token (mark_of_item it) at) (word_token name) (token (next mark.Open mark.Comma d.params) lead) (word_token word) (token mark.Colon colon) (token (mark.Sort so) m_at)))
head_more it at (head.Listed name open_at) d mark.Comma m_at q g e =
    along e
    (same_line (spot (stage.Head it at (head.Lead name open_at m_at)) d) (g.0, g.1, (g.2.0, may_later open_at d.params m_at g.2.0 g.2.1), g.3) refl
    (ap (λ n. token (mark_of_item it) at ∷ word_token name ∷ (parameters_tokens d.params ++ token n m_at ∷ [])) (next_later mark.Open mark.Comma d.params g.2.0)))
head_more it at (head.Listed name open_at) d mark.Close m_at q g e =
    along e
    (close_written it at (head.Listed name open_at) name open_at d m_at g g.2.1
    (ap (λ l. (token (mark_of_item it) at ∷ word_token name ∷ l) ++ token mark.Close m_at ∷ []) (opened_is open_at d.params g.2.0)))
head_more it at s d m m_at q g e = absurd cc

-- an operation
abbrev pub part_of : ℕ → RankElement → RankPart
part_of lead element = rank_part lead element

none_ranked : (parts : List RankPart) → parts ≡ [] → AreRanked parts × (length parts < 3)
none_ranked [] none = (λ k d l. absurd (omega (arith, l)), omega arith)
none_ranked (p ∷ parts) none = absurd cc

none_formed : (assigns : List AssignmentForm) → assigns ≡ [] → AreFormed assigns
none_formed [] none = λ k d l. absurd (omega (arith, l))
none_formed (a ∷ assigns) none = absurd cc

element_written : (sig : Signature) (lead : ℕ) (d : Draft) (element : RankElement) (t : Placed) → IsGood (stage.Operation sig (op.RankLead lead)) d → IsElement element → element_tokens element ≡ t ∷ []
    → Written (stage.Operation sig (op.RankLead lead)) d t (spot (stage.Operation sig op.Ranked) (record d { rank = d.rank ++ rank_part lead element ∷ [] }))
element_written sig lead d element t g h e =
    let part = rank_part lead element in
    let count : length (d.rank ++ part ∷ []) ≡ length d.rank + 1 = length-append d.rank (part ∷ []) in
    same_line (spot (stage.Operation sig op.Ranked) (record d { rank = d.rank ++ part ∷ [] }))
    (g.0, g.1, g.2, ((not_empty d.rank part, omega (arith, count, g.3.1), All-push (λ (part : RankPart). IsElement part.element) d.rank part g.3.0 h), g.3.2, g.3.3)) refl
    (ap (λ l. signature_tokens mark.OpLine sig d.params ++ l)
    (led_push mark.Rank mark.Comma (λ (part : RankPart). part.lead) (λ (part : RankPart). element_tokens part.element) d.rank part
    ∙ ap (λ l. rank_tokens d.rank ++ token (next mark.Rank mark.Comma d.rank) lead ∷ l) e)
    ∙ glue (signature_tokens mark.OpLine sig d.params) (rank_tokens d.rank) (t ∷ []) (token (next mark.Rank mark.Comma d.rank) lead))

element_more : (sig : Signature) (lead : ℕ) (d : Draft) (m : Mark) (at : ℕ) (q : Spot) → IsGood (stage.Operation sig (op.RankLead lead)) d → add_element sig lead d (element_of m at) ≡ Some q
    → Written (stage.Operation sig (op.RankLead lead)) d (token m at) q
element_more sig lead d (mark.Number n) at q g e = by_test (nat_le n 9) refl e
  where
    by_test : (b : Bool) → nat_le n 9 ≡ b → add_element sig lead d (if b then Some (rank.Digit at n) else None) ≡ Some q → Written (stage.Operation sig (op.RankLead lead)) d (token (mark.Number n) at) q
    by_test true b h = along h (element_written sig lead d (rank.Digit at n) (token (mark.Number n) at) g (leb-true n 9 b) refl)
    by_test false b h = absurd cc
element_more sig lead d mark.Time at q g e = along e (element_written sig lead d (rank.Time at) (token mark.Time at) g tt refl)
element_more sig lead d mark.Replica at q g e = along e (element_written sig lead d (rank.Replica at) (token mark.Replica at) g tt refl)
element_more sig lead d (mark.Word code) at q g e = along e (element_written sig lead d (rank.Parameter (word_at code at)) (token (mark.Word code) at) g tt refl)
element_more sig lead d m at q g e = absurd cc

-- the expression that was read
pub record Formed (r : Reading) (f : Form) : Type 0 where
  formed : IsFormed f
  tokens : form_tokens f ≡ written r

whole_sound : (g f : Form) (s : List Part) (r : Reading) → whole_form g s ≡ Some f → Sound (written r) (have g s) → Formed r f
whole_sound g f [] r e x = subst (Formed r) (some_is e) (record { formed = x.good.1; tokens = sym x.says })
whole_sound g f (part ∷ s) r e x = absurd cc

form_sound : (r : Reading) (f : Form) → IsReading r → form_read r ≡ Some f → Formed r f
form_sound (want s) f g e = absurd cc
form_sound (minus_read at s) f g e = absurd cc
form_sound (extreme_read k at s) f g e = absurd cc
form_sound (table_read t o s) f g e = absurd cc
form_sound (key_read t o k s) f g e = absurd cc
form_sound (have h s) f g e = whole_sound (ended h s) f (around s) (have h s) e (ended_sound h s (record { good = g; says = refl }))

clear_reading : (r : Reading) → r ≡ want [] → IsReading r
clear_reading r e = subst IsReading (sym e) tt

-- assignments, and one more
pushed_act : (sig : Signature) (d : Draft) (a : AssignmentForm)
    → ranked sig d ++ assignments_tokens (d.assignments ++ a ∷ []) ≡ assigned sig d a.lead ++ act_tokens a.act
pushed_act sig d a =
    ap (λ l. ranked sig d ++ l) (led_push mark.Colon mark.Semicolon (λ (a : AssignmentForm). a.lead) assignment_tokens d.assignments a)
    ∙ glue (ranked sig d) (assignments_tokens d.assignments) (act_tokens a.act) (token (next mark.Colon mark.Semicolon d.assignments) a.lead)

pushed_tokens : (sig : Signature) (d : Draft) (lead : ℕ) (t : Target) (assign : ℕ) (f : Form) (w : List Placed) → form_tokens f ≡ w
    → ranked sig d ++ assignments_tokens (d.assignments ++ assignment_of lead t assign f ∷ []) ≡ assigned sig d lead ++ (target_tokens t ++ token mark.Assign assign ∷ w)
pushed_tokens sig d lead t assign f w e =
    pushed_act sig d (assignment_of lead t assign f) ∙ ap (λ l. assigned sig d lead ++ (target_tokens t ++ token mark.Assign assign ∷ l)) e

right_end : (sig : Signature) (lead : ℕ) (t : Target) (assign : ℕ) (d : Draft) (at : ℕ) (q : Spot) → IsGood (stage.Operation sig (op.Right lead t assign)) d → (o : Option Form) → form_read d.reading ≡ o
    → add_assignment (stage.Operation sig (op.AssignmentLead at)) lead t assign d o ≡ Some q → Written (stage.Operation sig (op.Right lead t assign)) d (token mark.Semicolon at) q
right_end sig lead t assign d at q g None r e = absurd cc
right_end sig lead t assign d at q g (Some f) r e =
    let a = assignment_of lead t assign f in
    let h = form_sound d.reading f g.3.2 r in
    along e
    (same_line (spot (stage.Operation sig (op.AssignmentLead at)) (record d { assignments = d.assignments ++ a ∷ []; reading = want [] }))
    (g.0, g.1, g.2, (g.3.0, All-push (λ (a : AssignmentForm). IsAct a.act) d.assignments a g.3.1 h.formed, refl)) refl
    (ap (λ n. ranked sig d ++ assignments_tokens (d.assignments ++ a ∷ []) ++ token n at ∷ []) (next_later mark.Colon mark.Semicolon (d.assignments ++ a ∷ []) (not_empty d.assignments a))
    ∙ ap (λ l. l ++ token mark.Semicolon at ∷ []) (pushed_tokens sig d lead t assign f (written d.reading) h.tokens)))

right_on : (sig : Signature) (lead : ℕ) (t : Target) (assign : ℕ) (d : Draft) (m : Mark) (at : ℕ) (q : Spot) → IsGood (stage.Operation sig (op.Right lead t assign)) d → (o : Option Reading)
    → read_on d.reading m at ≡ o → in_phrase (stage.Operation sig (op.Right lead t assign)) d o ≡ Some q → Written (stage.Operation sig (op.Right lead t assign)) d (token m at) q
right_on sig lead t assign d m at q g None r e = absurd cc
right_on sig lead t assign d m at q g (Some s) r e =
    let x = read_sound d.reading (token m at) s (record { good = g.3.2; says = refl }) r in
    along e
    (same_line (spot (stage.Operation sig (op.Right lead t assign)) (record d { reading = s })) (g.0, g.1, g.2, (g.3.0, g.3.1, x.good)) refl
    (ap (λ l. assigned sig d lead ++ (target_tokens t ++ token mark.Assign assign ∷ l)) (sym x.says)
    ∙ ap (λ l. assigned sig d lead ++ l) (sym (append_assoc (target_tokens t) (token mark.Assign assign ∷ written d.reading) (token m at ∷ [])))
    ∙ sym (append_assoc (assigned sig d lead) (target_tokens t ++ token mark.Assign assign ∷ written d.reading) (token m at ∷ []))))

right_more : (sig : Signature) (lead : ℕ) (t : Target) (assign : ℕ) (d : Draft) (m : Mark) (at : ℕ) (q : Spot) → IsGood (stage.Operation sig (op.Right lead t assign)) d
    → read_right sig lead t assign d m at ≡ Some q → Written (stage.Operation sig (op.Right lead t assign)) d (token m at) q
right_more sig lead t assign d mark.Semicolon at q g e = right_end sig lead t assign d at q g (form_read d.reading) refl e
right_more sig lead t assign d m at q g e = right_on sig lead t assign d m at q g (read_on d.reading m at) refl e

to_right : (sig : Signature) (s : OperationStage) (lead : ℕ) (t : Target) (assign : ℕ) (d : Draft) → IsFile d.file → d.file.queries ≡ [] → IsLed sig.open_at d.params
    → AreElements d.rank → AreFormed d.assignments → d.reading ≡ want [] → operation_written sig s d ≡ assigned sig d lead ++ target_tokens t
    → Written (stage.Operation sig s) d (token mark.Assign assign) (spot (stage.Operation sig (op.Right lead t assign)) d)
to_right sig s lead t assign d f none l r a clear e =
    same_line (spot (stage.Operation sig (op.Right lead t assign)) d) (f, none, l, (r, a, clear_reading d.reading clear)) refl
    (ap (λ r. assigned sig d lead ++ (target_tokens t ++ token mark.Assign assign ∷ written r)) clear
    ∙ sym (append_assoc (assigned sig d lead) (target_tokens t) (token mark.Assign assign ∷ []))
    ∙ ap (λ l. l ++ token mark.Assign assign ∷ []) (sym e))

operation_more : (sig : Signature) (s : OperationStage) (d : Draft) (m : Mark) (at : ℕ) (q : Spot) → IsGood (stage.Operation sig s) d → read_operation sig s d m at ≡ Some q
    → Written (stage.Operation sig s) d (token m at) q
operation_more sig op.Closed d mark.Rank at q g e =
    let few = none_ranked d.rank g.3.0 in
    along e
    (same_line (spot (stage.Operation sig (op.RankLead at)) d) (g.0, g.1, g.2, (few.0, few.1, g.3.1, g.3.2)) refl
    (ap (λ parts. signature_tokens mark.OpLine sig d.params ++ rank_tokens parts ++ token (next mark.Rank mark.Comma parts) at ∷ []) g.3.0
    ∙ ap (λ l. l ++ token mark.Rank at ∷ []) (append-nil (signature_tokens mark.OpLine sig d.params))))
operation_more sig (op.RankLead lead) d m at q g e = element_more sig lead d m at q g e
operation_more sig op.Ranked d mark.Comma at q g e =
    tested (nat_lt (length d.rank) 3) e
    (λ b h.
    along h
    (same_line (spot (stage.Operation sig (op.RankLead at)) d) (g.0, g.1, g.2, (g.3.0.2, lt_is (length d.rank) 3 b, g.3.1, g.3.2)) refl
    (ap (λ n. ranked sig d ++ token n at ∷ []) (next_later mark.Rank mark.Comma d.rank g.3.0.0))))
    (λ b h. absurd cc)
  where
    lt_is : (a b : ℕ) → nat_lt a b ≡ true → a < b
    lt_is a b h = grind (arith, h)
operation_more sig op.Ranked d mark.Colon at q g e =
    along e
    (same_line (spot (stage.Operation sig (op.AssignmentLead at)) d) (g.0, g.1, g.2, (g.3.0, none_formed d.assignments g.3.1, g.3.2)) refl
    (ap (λ assigns. ranked sig d ++ assignments_tokens assigns ++ token (next mark.Colon mark.Semicolon assigns) at ∷ []) g.3.1
    ∙ ap (λ l. l ++ token mark.Colon at ∷ []) (append-nil (ranked sig d))))
operation_more sig (op.AssignmentLead lead) d (mark.Word code) at q g e =
    along e (same_line (spot (stage.Operation sig (op.TargetWord lead (word_at code at))) d) (g.0, g.1, g.2, g.3) refl refl)
operation_more sig (op.AssignmentLead lead) d mark.Clear at q g e =
    along e (same_line (spot (stage.Operation sig (op.ClearBegun lead at)) d) (g.0, g.1, g.2, g.3) refl refl)
operation_more sig (op.ClearBegun lead clear_at) d (mark.Word code) at q g e =
    along e
    (same_line (spot (stage.Operation sig (op.ClearWhole lead clear_at (word_at code at))) d) (g.0, g.1, g.2, g.3) refl
    (three (assigned sig d lead) (token mark.Clear clear_at) (token (mark.Word code) at)))
operation_more sig (op.ClearWhole lead clear_at table) d mark.Semicolon at q g e =
    let a = clearing_of lead clear_at table in
    along e
    (same_line (spot (stage.Operation sig (op.AssignmentLead at)) (record d { assignments = d.assignments ++ a ∷ [] }))
    (g.0, g.1, g.2, (g.3.0, All-push (λ (a : AssignmentForm). IsAct a.act) d.assignments a g.3.1 tt, g.3.2)) refl
    (ap (λ n. ranked sig d ++ assignments_tokens (d.assignments ++ a ∷ []) ++ token n at ∷ []) (next_later mark.Colon mark.Semicolon (d.assignments ++ a ∷ []) (not_empty d.assignments a))
    ∙ ap (λ l. l ++ token mark.Semicolon at ∷ []) (pushed_act sig d a)))
operation_more sig (op.TargetWord lead word) d mark.OpenBracket at q g e =
    along e
    (same_line (spot (stage.Operation sig (op.TargetOpen lead word at)) d) (g.0, g.1, g.2, g.3) refl (three (assigned sig d lead) (word_token word) (token mark.OpenBracket at)))
operation_more sig (op.TargetWord lead word) d mark.Assign at q g e =
    along e (to_right sig (op.TargetWord lead word) lead (target.Field word) at d g.0 g.1 g.2 g.3.0 g.3.1 g.3.2 refl)
operation_more sig (op.TargetOpen lead table open_at) d (mark.Word code) at q g e =
    along e
    (same_line (spot (stage.Operation sig (op.TargetKey lead table open_at (word_at code at))) d) (g.0, g.1, g.2, g.3) refl
    (sym (append_assoc (assigned sig d lead) (word_token table ∷ token mark.OpenBracket open_at ∷ []) (token (mark.Word code) at ∷ []))))
operation_more sig (op.TargetKey lead table open_at key) d mark.CloseBracket at q g e =
    along e
    (same_line (spot (stage.Operation sig (op.TargetWhole lead (target.Entry table open_at key at))) d) (g.0, g.1, g.2, g.3) refl
    (sym (append_assoc (assigned sig d lead) (word_token table ∷ token mark.OpenBracket open_at ∷ word_token key ∷ []) (token mark.CloseBracket at ∷ []))))
operation_more sig (op.TargetWhole lead t) d mark.Assign at q g e =
    along e (to_right sig (op.TargetWhole lead t) lead t at d g.0 g.1 g.2 g.3.0 g.3.1 g.3.2 refl)
operation_more sig (op.Right lead t assign) d m at q g e = right_more sig lead t assign d m at q g e
operation_more sig s d m at q g e = absurd cc

-- a query
answer_more : (sig : Signature) (colon sort_at : ℕ) (so : Sort) (equal : ℕ) (d : Draft) (m : Mark) (at : ℕ) (q : Spot) → IsGood (stage.Query sig (query.Right colon sort_at so equal)) d
    → (o : Option Reading) → read_on d.reading m at ≡ o → in_phrase (stage.Query sig (query.Right colon sort_at so equal)) d o ≡ Some q
    → Written (stage.Query sig (query.Right colon sort_at so equal)) d (token m at) q
answer_more sig colon sort_at so equal d m at q g None r e = absurd cc
answer_more sig colon sort_at so equal d m at q g (Some s) r e =
    let x = read_sound d.reading (token m at) s (record { good = g.3; says = refl }) r in
    let h = signature_tokens mark.QueryLine sig d.params in
    let front = token mark.Colon colon ∷ token (mark.Sort so) sort_at ∷ token (mark.Operator operator.Same) equal ∷ [] in
    along e
    (same_line (spot (stage.Query sig (query.Right colon sort_at so equal)) (record d { reading = s })) (g.0, g.1, g.2, x.good) refl
    (ap (λ l. h ++ (front ++ l)) (sym x.says) ∙ sym (append_assoc h (front ++ written d.reading) (token m at ∷ []))))

query_more : (sig : Signature) (s : QueryStage) (d : Draft) (m : Mark) (at : ℕ) (q : Spot) → IsGood (stage.Query sig s) d → read_query sig s d m at ≡ Some q
    → Written (stage.Query sig s) d (token m at) q
query_more sig query.Closed d mark.Colon at q g e = along e (same_line (spot (stage.Query sig (query.Colon at)) d) (g.0, g.1, g.2, g.3) refl refl)
query_more sig (query.Colon colon) d (mark.Sort so) at q g e =
    along e
    (same_line (spot (stage.Query sig (query.Sort colon at so)) d) (g.0, g.1, g.2, g.3) refl
    (three (signature_tokens mark.QueryLine sig d.params) (token mark.Colon colon) (token (mark.Sort so) at)))
query_more sig (query.Sort colon sort_at so) d (mark.Operator operator.Same) at q g e =
    along e
    (same_line (spot (stage.Query sig (query.Right colon sort_at so at)) d) (g.0, g.1, g.2, clear_reading d.reading g.3) refl
    (ap (λ r. signature_tokens mark.QueryLine sig d.params ++ token mark.Colon colon ∷ token (mark.Sort so) sort_at ∷ token (mark.Operator operator.Same) at ∷ written r) g.3
    ∙ sym (append_assoc (signature_tokens mark.QueryLine sig d.params) (token mark.Colon colon ∷ token (mark.Sort so) sort_at ∷ []) (token (mark.Operator operator.Same) at ∷ []))))
query_more sig (query.Right colon sort_at so equal) d m at q g e = answer_more sig colon sort_at so equal d m at q g (read_on d.reading m at) refl e
query_more sig s d m at q g e = absurd cc

word_more : (s : Stage) (d : Draft) (m : Mark) (at : ℕ) (q : Spot) → IsGood s d → read_word s d m at ≡ Some q → Written s d (token m at) q
word_more stage.Empty d m at q g e = first_written d m at q e
word_more (stage.TypeBegun type_at) d m at q g e = name_written type_at d m at q e
word_more (stage.TypeWhole type_at name) d m at q g e = format_written type_at name d m at q e
word_more (stage.TypeSecond type_at name format_at) d m at q g e = absurd cc
word_more stage.LineStart d m at q g e = begin_written d m at q g e
word_more (stage.State line_at s) d m at q g e = in_state_written line_at s d m at q g (read_state line_at s m at) refl e
word_more (stage.Head it line_at s) d m at q g e = head_more it line_at s d m at q g e
word_more (stage.Operation sig s) d m at q g e = operation_more sig s d m at q g e
word_more (stage.Query sig s) d m at q g e = query_more sig s d m at q g e

-- a line ends
pub record LineEnds (s : Stage) (d : Draft) (q : Spot) : Type 0 where
  good : IsGood q.stage q.draft
  lines : behind q.stage q.draft.file ≡ behind s d.file ++ with_line (line_of s d) []
  line : line_of q.stage q.draft ≡ []

ends_along : {s : Stage} {d : Draft} {p q : Spot} → Some p ≡ Some q → LineEnds s d p → LineEnds s d q
ends_along {s = s} {d = d} e x = subst (LineEnds s d) (some_is e) x

none_all : {X : Type 0} (P : X → Type 0) → All P []
none_all P = λ k d l. absurd (omega (arith, l))

abbrev pub Lines : Type 0
Lines = List (List Placed)

behind_nothing : (h x : List Placed) (a b c : Lines) → b ≡ [] → c ≡ [] → h ∷ (a ++ x ∷ [] ++ b ++ c) ≡ h ∷ (a ++ b ++ c) ++ x ∷ []
behind_nothing h x a b c e f =
    ap (λ l. h ∷ l)
    (ap (λ b. a ++ x ∷ [] ++ b ++ c) e ∙ ap (λ c. a ++ x ∷ [] ++ [] ++ c) f ∙ append-nil (a ++ x ∷ [] ++ []) ∙ append-nil (a ++ x ∷ [])
    ∙ ap (λ l. l ++ x ∷ []) (sym (append-nil a) ∙ sym (append-nil (a ++ [])) ∙ ap (λ b. a ++ b ++ []) (sym e) ∙ ap (λ c. a ++ b ++ c) (sym f)))

lines_state : (t : TypeForm) (s : State) → t.operations ≡ [] → t.queries ≡ [] → lines_of (with_state t s) ≡ lines_of t ++ state_tokens s ∷ []
lines_state t s e f =
    let h = type_tokens t in
    ap (λ l. h ∷ (l ++ map operation_tokens t.operations ++ map query_tokens t.queries)) (map-append state_tokens t.states (s ∷ []))
    ∙ behind_nothing h (state_tokens s) (map state_tokens t.states) (map operation_tokens t.operations) (map query_tokens t.queries) (ap (map operation_tokens) e) (ap (map query_tokens) f)

behind_none : (h x : List Placed) (a b c : Lines) → c ≡ [] → h ∷ (a ++ (b ++ x ∷ []) ++ c) ≡ h ∷ (a ++ b ++ c) ++ x ∷ []
behind_none h x a b c f =
    ap (λ l. h ∷ l)
    (ap (λ c. a ++ (b ++ x ∷ []) ++ c) f ∙ append-nil (a ++ (b ++ x ∷ [])) ∙ sym (append_assoc a b (x ∷ []))
    ∙ ap (λ l. l ++ x ∷ []) (sym (append-nil (a ++ b)) ∙ ap (λ c. a ++ b ++ c) (sym f)))

lines_operation : (t : TypeForm) (o : OperationForm) → t.queries ≡ [] → lines_of (with_operation t o) ≡ lines_of t ++ operation_tokens o ∷ []
lines_operation t o f =
    let h = type_tokens t in
    ap (λ l. h ∷ (map state_tokens t.states ++ l ++ map query_tokens t.queries)) (map-append operation_tokens t.operations (o ∷ []))
    ∙ behind_none h (operation_tokens o) (map state_tokens t.states) (map operation_tokens t.operations) (map query_tokens t.queries) (ap (map query_tokens) f)

lines_query : (t : TypeForm) (q : QueryForm) → lines_of (with_query t q) ≡ lines_of t ++ query_tokens q ∷ []
lines_query t q =
    let h = type_tokens t in
    ap (λ l. h ∷ (map state_tokens t.states ++ map operation_tokens t.operations ++ l)) (map-append query_tokens t.queries (q ∷ []))
    ∙ ap (λ l. h ∷ l) (sym (append_assoc (map state_tokens t.states ++ map operation_tokens t.operations) (map query_tokens t.queries) (query_tokens q ∷ [])))

state_ends : (at : ℕ) (s : StateStage) (d : Draft) (q : Spot) → IsGood (stage.State at s) d → end_state d s ≡ Some q → LineEnds (stage.State at s) d q
state_ends at (state.Whole s) d q g e =
    ends_along e
    (record {
      good = (
        record {
          states = All-push (λ (s : State). IsKept s.kept) d.file.states s g.0.states g.2;
          operations = g.0.operations;
          queries = g.0.queries;
          ordered = g.0.ordered;
        },
        refl,
        (refl, refl, refl),
      );
      lines = lines_state d.file s g.1 (g.0.ordered g.1);
      line = refl;
    })
state_ends at s d q g e = absurd cc

operation_ends : (sig : Signature) (lead : ℕ) (t : Target) (assign : ℕ) (d : Draft) (q : Spot) → IsGood (stage.Operation sig (op.Right lead t assign)) d → (o : Option Form) → form_read d.reading ≡ o
    → end_right sig lead t assign d o ≡ Some q → LineEnds (stage.Operation sig (op.Right lead t assign)) d q
operation_ends sig lead t assign d q g None r e = absurd cc
operation_ends sig lead t assign d q g (Some f) r e =
    let a = assignment_of lead t assign f in
    let h = form_sound d.reading f g.3.2 r in
    let o = operation_of sig d (d.assignments ++ a ∷ []) in
    ends_along e
    (record {
      good = (
        record {
          states = g.0.states;
          operations = All-push IsOperation d.file.operations o g.0.operations
              (g.2, g.3.0, (not_empty d.assignments a, All-push (λ (a : AssignmentForm). IsAct a.act) d.assignments a g.3.1 h.formed));
          queries = g.0.queries;
          ordered = λ none. absurd (not_empty d.file.operations o none);
        },
        refl,
        (refl, refl, refl),
      );
      lines = lines_operation d.file o g.1 ∙ ap (λ l. lines_of d.file ++ l ∷ []) (pushed_tokens sig d lead t assign f (written d.reading) h.tokens);
      line = refl;
    })

query_ends : (sig : Signature) (colon sort_at : ℕ) (so : Sort) (equal : ℕ) (d : Draft) (q : Spot) → IsGood (stage.Query sig (query.Right colon sort_at so equal)) d → (o : Option Form) → form_read d.reading ≡ o
    → end_answer sig colon sort_at so equal d o ≡ Some q → LineEnds (stage.Query sig (query.Right colon sort_at so equal)) d q
query_ends sig colon sort_at so equal d q g None r e = absurd cc
query_ends sig colon sort_at so equal d q g (Some f) r e =
    let h = form_sound d.reading f g.3 r in
    let o = query_of sig colon sort_at so equal d f in
    ends_along e
    (record {
      good = (
        record {
          states = g.0.states;
          operations = g.0.operations;
          queries = All-push IsQuery d.file.queries o g.0.queries (g.2, h.formed);
          ordered = λ none. absurd (g.1 none);
        },
        refl,
        (refl, refl, refl),
      );
      lines = lines_query d.file o
          ∙ ap (λ w. lines_of d.file ++ (signature_tokens mark.QueryLine sig d.params ++ token mark.Colon colon ∷ token (mark.Sort so) sort_at ∷ token (mark.Operator operator.Same) equal ∷ w) ∷ []) h.tokens;
      line = refl;
    })

operation_line_ends : (sig : Signature) (s : OperationStage) (d : Draft) (q : Spot) → IsGood (stage.Operation sig s) d → end_operation sig s d ≡ Some q → LineEnds (stage.Operation sig s) d q
operation_line_ends sig (op.Right lead t assign) d q g e = operation_ends sig lead t assign d q g (form_read d.reading) refl e
operation_line_ends sig (op.ClearWhole lead clear_at table) d q g e =
    let a = clearing_of lead clear_at table in
    let o = operation_of sig d (d.assignments ++ a ∷ []) in
    ends_along e
    (record {
      good = (
        record {
          states = g.0.states;
          operations = All-push IsOperation d.file.operations o g.0.operations
              (g.2, g.3.0, (not_empty d.assignments a, All-push (λ (a : AssignmentForm). IsAct a.act) d.assignments a g.3.1 tt));
          queries = g.0.queries;
          ordered = λ none. absurd (not_empty d.file.operations o none);
        },
        refl,
        (refl, refl, refl),
      );
      lines = lines_operation d.file o g.1 ∙ ap (λ l. lines_of d.file ++ l ∷ []) (pushed_act sig d a);
      line = refl;
    })
operation_line_ends sig s d q g e = absurd cc

query_line_ends : (sig : Signature) (s : QueryStage) (d : Draft) (q : Spot) → IsGood (stage.Query sig s) d → end_query sig s d ≡ Some q → LineEnds (stage.Query sig s) d q
query_line_ends sig (query.Right colon sort_at so equal) d q g e = query_ends sig colon sort_at so equal d q g (form_read d.reading) refl e
query_line_ends sig s d q g e = absurd cc

line_ends : (s : Stage) (d : Draft) (q : Spot) → IsGood s d → end_line s d ≡ Some q → LineEnds s d q
line_ends stage.Empty d q g e = ends_along e (record { good = tt; lines = refl; line = refl })
line_ends (stage.TypeBegun type_at) d q g e = absurd cc
line_ends (stage.TypeWhole type_at name) d q g e =
    ends_along e
    (record {
      good = (
        record {
          states = none_all (λ (s : State). IsKept s.kept);
          operations = none_all IsOperation;
          queries = none_all IsQuery;
          ordered = λ none. refl;
        },
        refl,
        (refl, refl, refl),
      );
      lines = refl;
      line = refl;
    })
line_ends (stage.TypeSecond type_at name format_at) d q g e =
    ends_along e
    (record {
      good = (
        record {
          states = none_all (λ (s : State). IsKept s.kept);
          operations = none_all IsOperation;
          queries = none_all IsQuery;
          ordered = λ none. refl;
        },
        refl,
        (refl, refl, refl),
      );
      lines = refl;
      line = refl;
    })
line_ends stage.LineStart d q g e = ends_along e (record { good = g; lines = sym (append-nil (lines_of d.file)); line = refl })
line_ends (stage.State line_at s) d q g e = state_ends line_at s d q g e
line_ends (stage.Head it line_at s) d q g e = absurd cc
line_ends (stage.Operation sig s) d q g e = operation_line_ends sig s d q g e
line_ends (stage.Query sig s) d q g e = query_line_ends sig s d q g e

-- what was read of a text
pub record Told (w : List Placed) (p : Spot) : Type 0 where
  pub good : IsGood p.stage p.draft
  pub says : (rest : List Placed) → text_lines (w ++ rest) ≡ behind p.stage p.draft.file ++ lines_from (line_of p.stage p.draft) rest

split_line : (line : List Placed) (rest : Lines) → with_line line rest ≡ with_line line [] ++ rest
split_line [] rest = refl
split_line (t ∷ line) rest = refl

told_word : {w : List Placed} (p q : Spot) (t : Placed) → Told w p → is_newline t.mark ≡ false → read_word p.stage p.draft t.mark t.at ≡ Some q → Told (w ++ t ∷ []) q
told_word {w = w} p q t x n e =
    let more = word_more p.stage p.draft t.mark t.at q x.good e in
    record {
      good = more.good;
      says = λ rest.
          ap text_lines (append_assoc w (t ∷ []) rest) ∙ x.says (t ∷ rest)
          ∙ ap (λ l. behind p.stage p.draft.file ++ l) (choose_false (is_newline t.mark) (with_line (line_of p.stage p.draft) (lines_from [] rest)) (lines_from (line_of p.stage p.draft ++ t ∷ []) rest) n)
          ∙ ap (λ b. b ++ lines_from (line_of p.stage p.draft ++ t ∷ []) rest) (sym more.lines)
          ∙ ap (λ l. behind q.stage q.draft.file ++ lines_from l rest) (sym more.line);
    }

told_newline : {w : List Placed} (p q : Spot) (t : Placed) → Told w p → is_newline t.mark ≡ true → end_line p.stage p.draft ≡ Some q → Told (w ++ t ∷ []) q
told_newline {w = w} p q t x n e =
    let more = line_ends p.stage p.draft q x.good e in
    record {
      good = more.good;
      says = λ rest.
          ap text_lines (append_assoc w (t ∷ []) rest) ∙ x.says (t ∷ rest)
          ∙ ap (λ l. behind p.stage p.draft.file ++ l) (choose_true (is_newline t.mark) (with_line (line_of p.stage p.draft) (lines_from [] rest)) (lines_from (line_of p.stage p.draft ++ t ∷ []) rest) n
          ∙ split_line (line_of p.stage p.draft) (lines_from [] rest))
          ∙ sym (append_assoc (behind p.stage p.draft.file) (with_line (line_of p.stage p.draft) []) (lines_from [] rest))
          ∙ ap (λ b. b ++ lines_from [] rest) (sym more.lines)
          ∙ ap (λ l. behind q.stage q.draft.file ++ lines_from l rest) (sym more.line);
    }

pub told : {ts w : List Placed} {p q : Spot} {ls : List Load} → Passes p ts ls q → Told w p → Told (w ++ ts) q
told {w = w} {p = p} rests x = subst (λ w. Told w p) (sym (append-nil w)) x
told {w = w} {p = p} {q = u} (reads_word {q = q} {ts = ts} t n e more) x =
    subst (λ w. Told w u) (append_assoc w (t ∷ []) ts) (told more (told_word p q t x n e))
told {w = w} {p = p} {q = u} (reads_newline {q = q} {ts = ts} t n e more) x =
    subst (λ w. Told w u) (append_assoc w (t ∷ []) ts) (told more (told_newline p q t x n e))

pub nothing_told : Told [] first_spot
nothing_told = record { good = tt; says = λ rest. refl }

whole_says : (w : List Placed) (p q : Spot) (t : TypeForm) → Told w p → end_line p.stage p.draft ≡ Some q → (s : Stage) (d : Draft) → q ≡ spot s d → whole_type s d ≡ Some t → Says w t
whole_says w p q t x e stage.LineStart d same h =
    let more = subst (LineEnds p.stage p.draft) same (line_ends p.stage p.draft q x.good e) in
    tested (length d.file.queries == 0) h
    (λ b k. absurd cc)
    (λ b k.
    subst (Says w) (some_is k)
    (record {
      written = ap text_lines (sym (append-nil w)) ∙ x.says [] ∙ sym more.lines;
      formed = record {
        states = more.good.0.states;
        some_operation = λ none. is_full d.file.queries b (more.good.0.ordered none);
        operations = more.good.0.operations;
        some_query = is_full d.file.queries b;
        queries = more.good.0.queries;
      };
    }))
whole_says w p q t x e s d same h = absurd cc

finished_says : (w : List Placed) (p : Spot) (t : TypeForm) → Told w p → (o : Option Spot) → end_line p.stage p.draft ≡ o → finished o ≡ Some t → Says w t
finished_says w p t x None e h = absurd cc
finished_says w p t x (Some q) e h = whole_says w p q t x e q.stage q.draft refl h

-- tokens that are read whole are those of the type that was read
pub sound : (tokens : List Placed) (t : TypeForm) (ls : List Load) (last : Spot) → Passes first_spot tokens ls last → finish last ≡ Some t → Says tokens t
sound tokens t ls last passes e = finished_says tokens last t (told passes nothing_told) (end_line last.stage last.draft) refl e
