-- The type of a cart, in which things are counted.
use Rattle.std.specs.Prelude.{[], ◌∷◌, codes, pos}
use Rattle.kat_expr.specs.Terms.Term.{entry, parameter, sum}
use Rattle.kat_num.specs.Names.{code_of}
use Rattle.kat_num.specs.declared.values.Sort.TheVariants as sort
use Rattle.kat_num.specs.declared.values.Value.TheVariants.{Num}
use Rattle.kat_type.specs.Types.{OperationForm, QueryForm, TypeForm}
use Rattle.kat_type.specs.Types.Assigned.{to_entry}
use Rattle.kat_type.specs.declared.types.Field.TheVariants.{Keyed}
use Rattle.kat_type.specs.declared.types.Param.{Param}
use Rattle.kat_type.specs.declared.types.Rank.TheVariants.{Digit}

abbrev pub thing : Param
thing = record { name = code_of (codes "x"); sort = sort.Name }

-- a thing is added so often
abbrev pub adding : OperationForm
adding = record {
  name = code_of (codes "add");
  params = thing ∷ record { name = code_of (codes "n"); sort = sort.Nat } ∷ [];
  ranks = Digit 0 ∷ [];
  assigned = to_entry 0 0 (sum (entry 0 0) (parameter 1)) ∷ [];
}

-- how often a thing was added
abbrev pub counting : QueryForm
counting = record { name = code_of (codes "count"); params = thing ∷ []; sort = sort.Nat; right = entry 0 0 }

-- a table of counts, all at first 0
abbrev pub cart : TypeForm
cart = record {
  name = code_of (codes "cart");
  fields = Keyed (code_of (codes "c")) sort.Name sort.Nat (Num (pos 0)) ∷ [];
  ops = adding ∷ [];
  queries = counting ∷ [];
}
