-- How large the expressions of a type may be.
use Rattle.std.specs.Prelude.{ℕ, ◌+◌, ◌≤◌, max, All}
use Rattle.std.specs.List.{sum_by}
use Rattle.kat_grammar.specs.Files.{depth_limit, node_limit}
use Rattle.kat_grammar.specs.Phrases.{Form, form_of}
use Rattle.kat_grammar.specs.Phrases.Form.{negation, joined, chosen, branches, parens}
use Rattle.kat_grammar.specs.declared.phrases.Act.{Act}
use Rattle.kat_grammar.specs.declared.phrases.Act.TheVariants as act
use Rattle.kat_grammar.specs.declared.phrases.Assignment.{Assignment}
use Rattle.kat_grammar.specs.declared.phrases.Operation.{Operation}
use Rattle.kat_grammar.specs.declared.phrases.Query.{Query}
use Rattle.kat_grammar.specs.declared.phrases.TypeText.{TypeText}

-- how deep an expression is: `not`, `if`, `max`, `min` and parentheses open a level each
abbrev pub depth_of : Form → ℕ
depth_of (negation at a) = depth_of a + 1
depth_of (joined op at a b) = max (depth_of a) (depth_of b)
depth_of (chosen e at open_at a comma b close_at) = max (depth_of a) (depth_of b) + 1
depth_of (branches at c then_at a else_at b) = max (depth_of c) (max (depth_of a) (depth_of b)) + 1
depth_of (parens open_at a close_at) = depth_of a + 1
depth_of form = 0

-- how many nodes it has: parentheses are none
abbrev pub nodes_of : Form → ℕ
nodes_of (negation at a) = 1 + nodes_of a
nodes_of (joined op at a b) = 1 + nodes_of a + nodes_of b
nodes_of (chosen e at open_at a comma b close_at) = 1 + nodes_of a + nodes_of b
nodes_of (branches at c then_at a else_at b) = 1 + nodes_of c + nodes_of a + nodes_of b
nodes_of (parens open_at a close_at) = nodes_of a
nodes_of form = 1

-- how deep a right side is; what is cleared has none
abbrev pub act_depth : Act → ℕ
act_depth (act.Set to assign right) = depth_of (form_of right)
act_depth (act.Clear at table) = 0

-- how many nodes a right side has
abbrev pub act_nodes : Act → ℕ
act_nodes (act.Set to assign right) = nodes_of (form_of right)
act_nodes (act.Clear at table) = 0

-- no expression is too deep, and all together haven't too many nodes
pub record IsSmall (t : TypeText) : Type 0 where
  pub rights : All (λ (o : Operation). All (λ (a : Assignment). act_depth a.act ≤ depth_limit) o.assignments) t.operations
  pub asked : All (λ (q : Query). depth_of (form_of q.right) ≤ depth_limit) t.queries
  pub nodes : sum_by (λ (o : Operation). sum_by (λ (a : Assignment). act_nodes a.act) o.assignments) t.operations
      + sum_by (λ (q : Query). nodes_of (form_of q.right)) t.queries ≤ node_limit
