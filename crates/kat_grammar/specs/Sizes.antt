-- How deep and how large the expressions of a type are, token by token.
use Rattle.std.specs.Prelude.{ℕ, ◌+◌, Bool, true, false, List, [], ◌∷◌, ◌++◌, map}
use Rattle.kat_grammar.specs.declared.phrases.Constant.{Constant}
use Rattle.kat_grammar.specs.declared.phrases.Constant.TheVariants.{Negative}
use Rattle.std.specs.List.{flat_map}
use Rattle.kat_grammar.specs.Forms.{ActForm, AssignmentForm, OperationForm, QueryForm, TypeForm}
use Rattle.kat_grammar.specs.Forms.ActForm.{set, clear}
use Rattle.kat_grammar.specs.Lines.{head_tokens, rank_tokens, state_tokens, target_tokens, type_tokens}
use Rattle.kat_grammar.specs.Phrases.{Form}
use Rattle.kat_grammar.specs.declared.marks.Mark.TheVariants as mark
use Rattle.kat_grammar.specs.declared.marks.Placed.{Placed}
use Rattle.kat_grammar.specs.declared.phrases.State.{State}
use Rattle.kat_grammar.specs.Phrases.Form.{constant, word, entry, negation, joined, chosen, branches, parens}

-- what a token adds: how many levels are open after it, and whether it is the own token of a node
pub record Load : Type 0 where
  pub depth : ℕ
  pub node : Bool

abbrev pub own : ℕ → Load
own depth = record { depth = depth; node = true }

abbrev pub other : ℕ → Load
other depth = record { depth = depth; node = false }

abbrev pub constant_loads : ℕ → Constant → List Load
constant_loads depth (Negative at number_at n) = own depth ∷ other depth ∷ []
constant_loads depth c = own depth ∷ []

-- what each token adds of an expression that is so deep. A `(`, also that of `max` or `min`, opens a level up
-- to its `)`; `if` and `not` open one up to the end of their expression. A node's own token is its operator, or
-- else its first token; parentheses are no nodes.
abbrev pub form_loads : ℕ → Form → List Load
form_loads depth (constant c) = constant_loads depth c
form_loads depth (word w) = own depth ∷ []
form_loads depth (entry table open_at key close_at) = own depth ∷ other depth ∷ other depth ∷ other depth ∷ []
form_loads depth (negation at a) = own (depth + 1) ∷ form_loads (depth + 1) a
form_loads depth (joined op at a b) = form_loads depth a ++ own depth ∷ form_loads depth b
form_loads depth (chosen e at open_at a comma b close_at) =
    own depth ∷ other (depth + 1) ∷ form_loads (depth + 1) a ++ other (depth + 1) ∷ form_loads (depth + 1) b ++ other depth ∷ []
form_loads depth (branches at c then_at a else_at b) =
    own (depth + 1) ∷ form_loads (depth + 1) c ++ other (depth + 1) ∷ form_loads (depth + 1) a ++ other (depth + 1) ∷ form_loads (depth + 1) b
form_loads depth (parens open_at a close_at) = other (depth + 1) ∷ form_loads (depth + 1) a ++ other depth ∷ []

-- tokens that belong to no expression
abbrev pub plain : List Placed → List Load
plain tokens = map (λ (t : Placed). other 0) tokens

abbrev pub act_loads : ActForm → List Load
act_loads (set t assign right) = plain (target_tokens t) ++ other 0 ∷ form_loads 0 right
act_loads (clear at table) = other 0 ∷ other 0 ∷ []

-- of the tokens of assignments, each after its lead
abbrev pub assignments_loads : List AssignmentForm → List Load
assignments_loads [] = []
assignments_loads (a ∷ assigns) = other 0 ∷ (act_loads a.act ++ assignments_loads assigns)

abbrev pub operation_loads : OperationForm → List Load
operation_loads o =
    plain (head_tokens mark.OpLine o.at o.name o.open_at o.params o.close_at) ++ plain (rank_tokens o.rank) ++ assignments_loads o.assignments

abbrev pub query_loads : QueryForm → List Load
query_loads q =
    plain (head_tokens mark.QueryLine q.at q.name q.open_at q.params q.close_at) ++ other 0 ∷ other 0 ∷ other 0 ∷ form_loads 0 q.right

-- what each token of a type adds, newlines left out
abbrev pub loads_of : TypeForm → List Load
loads_of t =
    plain (type_tokens t)
    ++ (flat_map (λ (s : State). plain (state_tokens s)) t.states ++ flat_map operation_loads t.operations ++ flat_map query_loads t.queries)
