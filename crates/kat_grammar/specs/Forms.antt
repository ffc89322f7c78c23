-- What a type file says, as plain data, without the places at which a program keeps its expressions.
use Rattle.std.specs.Prelude.{ℕ, List, map}
use Rattle.kat_num.specs.declared.values.Sort.{Sort}
use Rattle.kat_grammar.specs.Phrases.{Form, form_of}
use Rattle.kat_grammar.specs.declared.phrases.Act.{Act}
use Rattle.kat_grammar.specs.declared.phrases.Act.TheVariants as act
use Rattle.kat_grammar.specs.declared.phrases.Assignment.{Assignment}
use Rattle.kat_grammar.specs.declared.phrases.Format.{Format}
use Rattle.kat_grammar.specs.declared.phrases.Operation.{Operation}
use Rattle.kat_grammar.specs.declared.phrases.Parameter.{Parameter}
use Rattle.kat_grammar.specs.declared.phrases.Query.{Query}
use Rattle.kat_grammar.specs.declared.phrases.RankPart.{RankPart}
use Rattle.kat_grammar.specs.declared.phrases.State.{State}
use Rattle.kat_grammar.specs.declared.phrases.Target.{Target}
use Rattle.kat_grammar.specs.declared.phrases.TypeText.{TypeText}
use Rattle.kat_grammar.specs.declared.phrases.Word.{Word}

-- a target with its right side, or a table that is cleared
pub data ActForm : Type 0 where
  set : (target : Target) → (assign : ℕ) → (right : Form) → ActForm
  clear : (at : ℕ) → (table : Word) → ActForm

pub record AssignmentForm : Type 0 where
  pub lead : ℕ
  pub act : ActForm

pub record OperationForm : Type 0 where
  pub at : ℕ
  pub name : Word
  pub open_at : ℕ
  pub params : List Parameter
  pub close_at : ℕ
  pub rank : List RankPart
  pub assignments : List AssignmentForm

pub record QueryForm : Type 0 where
  pub at : ℕ
  pub name : Word
  pub open_at : ℕ
  pub params : List Parameter
  pub close_at : ℕ
  pub colon : ℕ
  pub sort_at : ℕ
  pub sort : Sort
  pub equal : ℕ
  pub right : Form

pub record TypeForm : Type 0 where
  pub at : ℕ
  pub name : Word
  pub format : Format
  pub states : List State
  pub operations : List OperationForm
  pub queries : List QueryForm

-- what the program's values say
abbrev pub act_form : Act → ActForm
act_form (act.Set target assign right) = set target assign (form_of right)
act_form (act.Clear at table) = clear at table

abbrev pub assignment_form : Assignment → AssignmentForm
assignment_form a = record { lead = a.lead; act = act_form a.act }

abbrev pub operation_form : Operation → OperationForm
operation_form o =
    record {
      at = o.at;
      name = o.name;
      open_at = o.open_at;
      params = o.params;
      close_at = o.close_at;
      rank = o.rank;
      assignments = map assignment_form o.assignments;
    }

abbrev pub query_form : Query → QueryForm
query_form q =
    record {
      at = q.at;
      name = q.name;
      open_at = q.open_at;
      params = q.params;
      close_at = q.close_at;
      colon = q.colon;
      sort_at = q.sort_at;
      sort = q.sort;
      equal = q.equal;
      right = form_of q.right;
    }

abbrev pub type_form : TypeText → TypeForm
type_form t = record { at = t.at; name = t.name; format = t.format; states = t.states; operations = map operation_form t.operations; queries = map query_form t.queries }
