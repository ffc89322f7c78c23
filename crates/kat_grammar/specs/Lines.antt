-- How the lines of a type file are written.
use Rattle.std.specs.Prelude.{◌≡◌, ◌≢◌, ℕ, ◌≤◌, List, [], ◌∷◌, ◌++◌, length, map, All}
use Rattle.kat_num.specs.declared.values.Sort.TheVariants as sort
use Rattle.kat_grammar.specs.Forms.{ActForm, AssignmentForm, OperationForm, QueryForm, TypeForm}
use Rattle.kat_grammar.specs.Forms.ActForm.{set, clear}
use Rattle.kat_grammar.specs.Phrases.{IsFormed, constant_tokens, form_tokens, token, word_token}
use Rattle.kat_grammar.specs.declared.marks.Mark.{Mark}
use Rattle.kat_grammar.specs.declared.marks.Mark.TheVariants as mark
use Rattle.kat_grammar.specs.declared.marks.Operator.TheVariants as operator
use Rattle.kat_grammar.specs.declared.marks.Placed.{Placed}
use Rattle.kat_grammar.specs.declared.phrases.Format.{Format}
use Rattle.kat_grammar.specs.declared.phrases.Format.TheVariants as format
use Rattle.kat_grammar.specs.declared.phrases.Kept.{Kept}
use Rattle.kat_grammar.specs.declared.phrases.Kept.TheVariants.{One, Each}
use Rattle.kat_grammar.specs.declared.phrases.Parameter.{Parameter}
use Rattle.kat_grammar.specs.declared.phrases.RankElement.{RankElement}
use Rattle.kat_grammar.specs.declared.phrases.RankElement.TheVariants as rank
use Rattle.kat_grammar.specs.declared.phrases.RankPart.{RankPart}
use Rattle.kat_grammar.specs.declared.phrases.State.{State}
use Rattle.kat_grammar.specs.declared.phrases.Target.{Target}
use Rattle.kat_grammar.specs.declared.phrases.Target.TheVariants as target
use Rattle.kat_grammar.specs.declared.phrases.Word.{Word}

-- items in a row, each after its lead: the first after the one mark, the others after the other
abbrev pub led : {Item : Type 0} → Mark → Mark → (Item → ℕ) → (Item → List Placed) → List Item → List Placed
led first later lead tokens [] = []
led first later lead tokens (item ∷ items) = token first (lead item) ∷ (tokens item ++ led later later lead tokens items)

-- what a field keeps
abbrev pub kept_tokens : Kept → List Placed
kept_tokens (One sort_at s) = token (mark.Sort s) sort_at ∷ []
kept_tokens (Each table key_at key arrow sort_at s) =
    token mark.Table table ∷ token (mark.Sort key) key_at ∷ token mark.Arrow arrow ∷ token (mark.Sort s) sort_at ∷ []

-- keys of tables are numbers or names
abbrev pub IsKept : Kept → Type 0
IsKept (One sort_at s) = Unit {0}
IsKept (Each table key_at key arrow sort_at s) = key ≢ sort.Bool

-- `state NAME : KEPT = START`
abbrev pub state_tokens : State → List Placed
state_tokens s =
    (token mark.StateLine s.at ∷ word_token s.name ∷ token mark.Colon s.colon ∷ kept_tokens s.kept)
    ++ token (mark.Operator operator.Same) s.equal ∷ constant_tokens s.start

-- `NAME : SORT`
abbrev pub parameter_tokens : Parameter → List Placed
parameter_tokens p = word_token p.name ∷ token mark.Colon p.colon ∷ token (mark.Sort p.sort) p.sort_at ∷ []

-- parameters, the first after `(`, the others after commas
abbrev pub parameters_tokens : List Parameter → List Placed
parameters_tokens params = led mark.Open mark.Comma (λ (p : Parameter). p.lead) parameter_tokens params

-- `(`, if there is no parameter after it
abbrev pub opened_tokens : ℕ → List Parameter → List Placed
opened_tokens open_at [] = token mark.Open open_at ∷ []
opened_tokens open_at (p ∷ params) = parameters_tokens (p ∷ params)

-- the lead of the first parameter is the `(`
abbrev pub IsLed : ℕ → List Parameter → Type 0
IsLed open_at [] = Unit {0}
IsLed open_at (p ∷ params) = p.lead ≡ open_at

-- `op NAME(PARAMETERS)` or `query NAME(PARAMETERS)`
abbrev pub head_tokens : Mark → ℕ → Word → ℕ → List Parameter → ℕ → List Placed
head_tokens first at name open_at params close_at =
    (token first at ∷ word_token name ∷ opened_tokens open_at params) ++ token mark.Close close_at ∷ []

abbrev pub element_tokens : RankElement → List Placed
element_tokens (rank.Digit at n) = token (mark.Number n) at ∷ []
element_tokens (rank.Time at) = token mark.Time at ∷ []
element_tokens (rank.Replica at) = token mark.Replica at ∷ []
element_tokens (rank.Parameter w) = word_token w ∷ []

-- a digit is 0 to 9
abbrev pub IsElement : RankElement → Type 0
IsElement (rank.Digit at n) = n ≤ 9
IsElement element = Unit {0}

-- rank elements, the first after `rank`, the others after commas
abbrev pub rank_tokens : List RankPart → List Placed
rank_tokens parts = led mark.Rank mark.Comma (λ (part : RankPart). part.lead) (λ (part : RankPart). element_tokens part.element) parts

abbrev pub AreElements : List RankPart → Type 0
AreElements parts = (parts ≢ []) × (length parts ≤ 3) × All (λ (part : RankPart). IsElement part.element) parts

abbrev pub target_tokens : Target → List Placed
target_tokens (target.Field w) = word_token w ∷ []
target_tokens (target.Entry table open_at key close_at) =
    word_token table ∷ token mark.OpenBracket open_at ∷ word_token key ∷ token mark.CloseBracket close_at ∷ []

-- `TARGET := RIGHT`, or `clear TABLE`
abbrev pub act_tokens : ActForm → List Placed
act_tokens (set t assign right) = target_tokens t ++ token mark.Assign assign ∷ form_tokens right
act_tokens (clear at table) = token mark.Clear at ∷ word_token table ∷ []

abbrev pub assignment_tokens : AssignmentForm → List Placed
assignment_tokens a = act_tokens a.act

abbrev pub IsAct : ActForm → Type 0
IsAct (set t assign right) = IsFormed right
IsAct (clear at table) = Unit {0}

-- assignments, the first after a colon, the others after semicolons
abbrev pub assignments_tokens : List AssignmentForm → List Placed
assignments_tokens assigns = led mark.Colon mark.Semicolon (λ (a : AssignmentForm). a.lead) assignment_tokens assigns

abbrev pub AreAssignments : List AssignmentForm → Type 0
AreAssignments assigns = (assigns ≢ []) × All (λ (a : AssignmentForm). IsAct a.act) assigns

-- `op NAME(PARAMETERS) rank ELEMENTS : ASSIGNMENTS`
abbrev pub operation_tokens : OperationForm → List Placed
operation_tokens o = head_tokens mark.OpLine o.at o.name o.open_at o.params o.close_at ++ rank_tokens o.rank ++ assignments_tokens o.assignments

abbrev pub IsOperation : OperationForm → Type 0
IsOperation o = IsLed o.open_at o.params × AreElements o.rank × AreAssignments o.assignments

-- `query NAME(PARAMETERS) : SORT = RIGHT`
abbrev pub query_tokens : QueryForm → List Placed
query_tokens q =
    head_tokens mark.QueryLine q.at q.name q.open_at q.params q.close_at
    ++ token mark.Colon q.colon ∷ token (mark.Sort q.sort) q.sort_at ∷ token (mark.Operator operator.Same) q.equal ∷ form_tokens q.right

abbrev pub IsQuery : QueryForm → Type 0
IsQuery q = IsLed q.open_at q.params × IsFormed q.right

-- nothing in format 1, and `2` in format 2
abbrev pub format_tokens : Format → List Placed
format_tokens format.First = []
format_tokens (format.Second at) = token (mark.Number 2) at ∷ []

-- `type NAME` or `type NAME 2`
abbrev pub type_tokens : TypeForm → List Placed
type_tokens t = token mark.TypeLine t.at ∷ word_token t.name ∷ format_tokens t.format

-- the lines of a type that aren't blank, in their order
abbrev pub lines_of : TypeForm → List (List Placed)
lines_of t = type_tokens t ∷ (map state_tokens t.states ++ map operation_tokens t.operations ++ map query_tokens t.queries)

-- a type has at least one operation and at least one query, and its parts are formed
pub record IsType (t : TypeForm) : Type 0 where
  pub states : All (λ (s : State). IsKept s.kept) t.states
  pub some_operation : t.operations ≢ []
  pub operations : All IsOperation t.operations
  pub some_query : t.queries ≢ []
  pub queries : All IsQuery t.queries
