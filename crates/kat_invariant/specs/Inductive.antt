-- An inductive invariant between a sequential type and a design: it holds at the start, every operation that may follow
-- keeps it, and if it holds every query has the same answer on both sides.
use Rattle.std.specs.Prelude.{◌≡◌, ℕ, List, Some, slice_get}
use Rattle.kat_num.specs.Values.{HasSort}
use Rattle.kat_num.specs.declared.values.Value.{Value}
use Rattle.kat_expr.specs.Slots.{argument}
use Rattle.kat_type.specs.Types.{QueryForm, TypeForm}
use Rattle.kat_type.specs.declared.done.Done.{Done}
use Rattle.kat_type.specs.declared.types.Param.{Param}
use Rattle.kat_seq.specs.States.{answer_of}
use Rattle.kat_design.specs.Designs.{DesignForm}
use Rattle.kat_relation.specs.declared.relations.Conjunct.{Conjunct}
use Rattle.kat_invariant.specs.Asked.{asked}
use Rattle.kat_invariant.specs.Legal.{IsLegal, MayFollow}
use Rattle.kat_invariant.specs.Relations.{Holds}
use Rattle.kat_invariant.specs.Situations.{Situation, after, start_of}

abbrev pub HoldsAtStart : TypeForm → DesignForm → List Conjunct → Type 0
HoldsAtStart ty d relation = Holds ty d relation (start_of ty d)

-- from every legal situation in which the relation holds, it holds after each operation that may follow
abbrev pub IsKept : TypeForm → DesignForm → List Conjunct → Type 0
IsKept ty d relation = (s : Situation) (done : Done) → IsLegal ty d s → Holds ty d relation s → MayFollow ty done s → Holds ty d relation (after ty d done s)

-- the arguments have the sorts of a query's parameters
abbrev pub FitQuery : QueryForm → List Value → Type 0
FitQuery q args = (place : ℕ) (p : Param) → slice_get q.params place ≡ Some p → HasSort p.sort (argument args place)

-- in every legal situation in which the relation holds, the type and the design give the same answers
abbrev pub AnswersAgree : TypeForm → DesignForm → List Conjunct → Type 0
AnswersAgree ty d relation = (s : Situation) (query : ℕ) (q : QueryForm) (args : List Value) → IsLegal ty d s → Holds ty d relation s
    → slice_get ty.queries query ≡ Some q → FitQuery q args → answer_of ty s.state query args ≡ asked d s.held query args

pub record IsInductive (ty : TypeForm) (d : DesignForm) (relation : List Conjunct) : Type 0 where
  pub start : HoldsAtStart ty d relation
  pub kept : IsKept ty d relation
  pub answers : AnswersAgree ty d relation
