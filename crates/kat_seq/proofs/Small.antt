-- What a type keeps to within its limits, and the item with a number.
use Rattle.std.proofs.Common.{ℕ, zero, suc, ◌<◌, ◌^◌, List, [], ◌∷◌, ◌≡◌, get_or, arith, length, refl, subst}
use Rattle.std.specs.Prelude.{All, map}
use Rattle.kat_num.specs.declared.values.TheConstants.{NUMBER_LIMIT}
use Rattle.kat_expr.specs.Limits.{HasConstantsAtMost}
use Rattle.kat_expr.specs.Terms.{Term, term_of}
use Rattle.kat_expr.proofs.Limits.{more_constants}
use Rattle.kat_seq.specs.States.{operation_at, query_at}
use Rattle.kat_type.specs.Types.{Assigned, OperationForm, QueryForm, assigned_by, operation_form, query_form, type_form}
use Rattle.kat_type.specs.Within.{IsLimited, IsLimitedRight, IsWithinLimits, right_of}
use Rattle.kat_type.specs.declared.types.Assign.{Assign}
use Rattle.kat_type.specs.declared.types.Operation.{Operation}
use Rattle.kat_type.specs.declared.types.Query.{Query}
use Rattle.kat_type.specs.declared.types.SeqType.{SeqType}

-- constants within the limit of literals are within that of values
pub small_constants : (e : Term) → IsLimited e → HasConstantsAtMost (2 ^ 100) e
small_constants e h = more_constants NUMBER_LIMIT (2 ^ 100) e (omega arith) h.constants

-- what is made of an element has its place
pub made_at : {X Y : Type 0} (f : X → Y) (xs : List X) (i : ℕ) (x : X) (d : Y) → i < length xs → x ≡ get_or xs i x → get_or (map f xs) i d ≡ f x
made_at f [] i x d h e = absurd (omega arith)
made_at f (y ∷ ys) zero x d h e = (cc)
made_at f (y ∷ ys) (suc i) x d h e = made_at f ys i x d (omega arith) e

length_made : {X Y : Type 0} (f : X → Y) (xs : List X) → length (map f xs) ≡ length xs
length_made f [] = refl
length_made f (x ∷ xs) = (let h = length_made f xs in cc)

pub all_made : {X Y : Type 0} (P : Y → Type 0) (f : X → Y) (xs : List X) (i : ℕ) (x : X) → All P (map f xs) → i < length xs → x ≡ get_or xs i x → P (f x)
all_made {X} {Y} P f xs i x all h e =
    subst P (made_at f xs i x (f x) h e) (all i (f x) (let l = length_made f xs in omega arith))

pub small_right : (assigns : List Assign) (i : ℕ) (a : Assign) → All (λ (x : Assigned). IsLimited (right_of x)) (map assigned_by assigns)
    → i < length assigns → a ≡ get_or assigns i a → IsLimited (right_of (assigned_by a))
small_right assigns i a all h e = all_made (λ (x : Assigned). IsLimited (right_of x)) assigned_by assigns i a all h e

pub small_query : (ty : SeqType) (i : ℕ) (q : Query) → IsWithinLimits (type_form ty) → i < length ty.queries → q ≡ get_or ty.queries i q → IsLimited (term_of q.right)
small_query ty i q small h e = all_made (λ (x : QueryForm). IsLimited x.right) query_form ty.queries i q small.queries h e

pub small_rights : (ty : SeqType) (i : ℕ) (o : Operation) → IsWithinLimits (type_form ty) → i < length ty.ops → o ≡ get_or ty.ops i o
    → All (λ (x : Assigned). IsLimited (right_of x)) (map assigned_by o.assigns)
small_rights ty i o small h e = λ k d l.
    (all_made (λ (x : OperationForm). All IsLimitedRight x.assigned) operation_form ty.ops i o small.operations h e k d l).limited

pub operation_there : (ty : SeqType) (i : ℕ) (o : Operation) → i < length ty.ops → o ≡ get_or ty.ops i o → operation_at (type_form ty) i ≡ operation_form o
operation_there ty i o h e = made_at operation_form ty.ops i o _ h e

pub query_there : (ty : SeqType) (i : ℕ) (q : Query) → i < length ty.queries → q ≡ get_or ty.queries i q → query_at (type_form ty) i ≡ query_form q
query_there ty i q h e = made_at query_form ty.queries i q _ h e
