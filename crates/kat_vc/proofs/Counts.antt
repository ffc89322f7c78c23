-- How many conditions there are.
use Rattle.std.proofs.Common.{◌≡◌, ℕ, suc, ◌+◌, ◌*◌, List, [], ◌∷◌, ◌++◌, length, refl, ap, arith}
use Rattle.std.proofs.lemmas.List.{length-append}
use Rattle.kat_relation.specs.declared.relations.Conjunct.{Conjunct}
use Rattle.kat_type.specs.Types.{OperationForm, QueryForm, TypeForm}
use Rattle.kat_vc.specs.Conditions.{answers_of_each, condition_count, starts, steps, steps_of_each}

starts_counted : (cs : List Conjunct) → length (starts cs) ≡ length cs
starts_counted [] = refl
starts_counted (c ∷ cs) = ap suc (starts_counted cs)

steps_counted : (o : ℕ) (op : OperationForm) (cs : List Conjunct) → length (steps o op cs) ≡ length cs
steps_counted o op [] = refl
steps_counted o op (c ∷ cs) = ap suc (steps_counted o op cs)

answers_counted : (q : ℕ) (queries : List QueryForm) → length (answers_of_each q queries) ≡ length queries
answers_counted q [] = refl
answers_counted q (x ∷ xs) = ap suc (answers_counted (suc q) xs)

each_counted : (o : ℕ) (ops : List OperationForm) (cs : List Conjunct) → length (steps_of_each o ops cs) ≡ length ops * length cs
each_counted o [] cs = omega arith
each_counted o (op ∷ ops) cs = omega (arith, length-append (steps o op cs) (steps_of_each (suc o) ops cs), steps_counted o op cs, each_counted (suc o) ops cs)

pub counted : (ty : TypeForm) (cs : List Conjunct) → condition_count ty cs ≡ length cs + length ty.ops * length cs + length ty.queries
counted ty cs = omega (
  arith,
  length-append (starts cs ++ steps_of_each 0 ty.ops cs) (answers_of_each 0 ty.queries),
  length-append (starts cs) (steps_of_each 0 ty.ops cs),
  starts_counted cs,
  each_counted 0 ty.ops cs,
  answers_counted 0 ty.queries,
)
