-- Values of the pools may be given as arguments.
use Rattle.std.proofs.Common.{inl, inr, refl, subst, arith, rules}
use Rattle.std.specs.Prelude.{codes}
use Rattle.kat_num.specs.Names.{IsNameCode, code_of}
use Rattle.kat_num.specs.Values.{IsArgument}
use Rattle.kat_num.specs.declared.values.Sort.{Sort}
use Rattle.kat_num.specs.declared.values.Sort.TheVariants as sort
use Rattle.kat_num.specs.declared.values.Value.{Value}
use Rattle.kat_type.specs.Lists.{Has}
use Rattle.kat_histories.specs.Pools.{pool}

a_code : IsNameCode (code_of (codes "a"))
a_code = record { name = codes "a"; is_name = record { short = omega arith; each = refl }; coded = refl }

b_code : IsNameCode (code_of (codes "b"))
b_code = record { name = codes "b"; is_name = record { short = omega arith; each = refl }; coded = refl }

pub pool_argument : (s : Sort) (v : Value) → Has (pool s) v → IsArgument s v
pool_argument sort.Bool v (inl e) = subst (λ (x : Value). IsArgument sort.Bool x) e (record { fits = tt; named = tt; within = tt })
pool_argument sort.Bool v (inr (inl e)) = subst (λ (x : Value). IsArgument sort.Bool x) e (record { fits = tt; named = tt; within = tt })
pool_argument sort.Bool v (inr (inr h)) = absurd h
pool_argument sort.Int v (inl e) = subst (λ (x : Value). IsArgument sort.Int x) e (record { fits = tt; named = tt; within = omega arith })
pool_argument sort.Int v (inr (inl e)) = subst (λ (x : Value). IsArgument sort.Int x) e (record { fits = tt; named = tt; within = omega arith })
pool_argument sort.Int v (inr (inr (inl e))) = subst (λ (x : Value). IsArgument sort.Int x) e (record { fits = tt; named = tt; within = omega arith })
pool_argument sort.Int v (inr (inr (inr (inl e)))) = subst (λ (x : Value). IsArgument sort.Int x) e (record { fits = tt; named = tt; within = omega arith })
pool_argument sort.Int v (inr (inr (inr (inr h)))) = absurd h
pool_argument sort.Nat v (inl e) = subst (λ (x : Value). IsArgument sort.Nat x) e (record { fits = search rules; named = tt; within = omega arith })
pool_argument sort.Nat v (inr (inl e)) = subst (λ (x : Value). IsArgument sort.Nat x) e (record { fits = search rules; named = tt; within = omega arith })
pool_argument sort.Nat v (inr (inr (inl e))) = subst (λ (x : Value). IsArgument sort.Nat x) e (record { fits = search rules; named = tt; within = omega arith })
pool_argument sort.Nat v (inr (inr (inr h))) = absurd h
pool_argument sort.Name v (inl e) = subst (λ (x : Value). IsArgument sort.Name x) e (record { fits = tt; named = a_code; within = tt })
pool_argument sort.Name v (inr (inl e)) = subst (λ (x : Value). IsArgument sort.Name x) e (record { fits = tt; named = b_code; within = tt })
pool_argument sort.Name v (inr (inr h)) = absurd h
