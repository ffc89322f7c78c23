-- The cart is such a type as type files say.
use Rattle.std.proofs.Common.{◌≡◌, ℕ, ◌<◌, [], ◌∷◌, All, ◌+◌, refl, sym, ◌∙◌, ap, arith}
use Rattle.std.proofs.lemmas.Int.{ints}
use Rattle.std.specs.List.{slice_index_or, sum_by}
use Rattle.std.proofs.lemmas.List.Sums.{sum_by-cons}
use Rattle.kat_expr.specs.Terms.Term.{entry, parameter, sum}
use Rattle.std.proofs.lemmas.List.Elements.{All-nil, All-cons}
use Rattle.kat_type.specs.Alike.{HasAlikeRanks, rank_kinds}
use Rattle.kat_type.specs.Fits.{AssignedFits, IsWellSorted, OperationFits, QueryFits, RankFits, StartFits, sorts_of}
use Rattle.kat_type.specs.Types.{OperationForm, QueryForm}
use Rattle.kat_type.specs.Types.Assigned.{to_entry}
use Rattle.kat_type.specs.Within.{IsLimited, nodes_in, operation_nodes, query_nodes, type_nodes, IsLimitedRight, IsLimitedStart, IsWithinLimits}
use Rattle.kat_sample.specs.Carts.{adding, cart, counting}

all_one : {X : Type 0} (P : X → Type 0) (x : X) → P x → All P (x ∷ [])
all_one P x p = All-cons P x [] p (All-nil P)

adding_fits : OperationFits cart.fields adding
adding_fits = record {
  few = omega arith;
  ranks = all_one (RankFits adding.params) _ (omega arith);
  assigned = all_one (AssignedFits (sorts_of cart.fields adding.params)) _ (refl, ((refl, refl), refl));
}

pub cart_sorted : IsWellSorted cart
cart_sorted = record {
  few_fields = omega arith;
  few_operations = omega arith;
  few_queries = omega arith;
  starts = all_one StartFits _ (omega (arith, ints));
  operations = all_one (OperationFits cart.fields) adding adding_fits;
  queries = all_one (QueryFits cart.fields) counting (record { few = omega arith; right = (refl, refl) });
}

cart_nodes : type_nodes cart ≡ 4
cart_nodes =
    let assigned : operation_nodes adding ≡ 3 = sum_by-cons nodes_in (to_entry 0 0 (sum (entry 0 0) (parameter 1))) [] in
    let operations : sum_by operation_nodes cart.ops ≡ operation_nodes adding + 0 = sum_by-cons operation_nodes adding [] in
    let queries : sum_by query_nodes cart.queries ≡ 1 = sum_by-cons query_nodes counting [] in
    omega (arith, assigned, operations, queries)

pub cart_limited : IsWithinLimits cart
cart_limited = record {
  starts = all_one IsLimitedStart _ (omega (arith, ints));
  operations = all_one (λ (o : OperationForm). All IsLimitedRight o.assigned) adding
      (all_one IsLimitedRight _ (record { limited = record { nodes = omega arith; constants = (tt, tt) }; weight = omega arith }));
  queries = all_one (λ (q : QueryForm). IsLimited q.right) counting (record { nodes = omega arith; constants = tt });
  nodes = omega (arith, cart_nodes);
}

only_first : (i : ℕ) → i < 1 → i ≡ 0
only_first i h = omega (arith, h)

pub cart_alike : HasAlikeRanks cart
cart_alike i j d h k =
    ap (λ n. rank_kinds (slice_index_or cart.ops n d)) (only_first i h) ∙ sym (ap (λ n. rank_kinds (slice_index_or cart.ops n d)) (only_first j k))
