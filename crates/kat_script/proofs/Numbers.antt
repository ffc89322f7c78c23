-- What is found has a number below how many there are.
use Rattle.std.proofs.Common.{◌≡◌, ℕ, ◌<◌, ◌≤◌, Bool, true, false, List, [], length, refl, sym, arith, Option, Some, None}
use Rattle.std.specs.Prelude.{◌==◌, ◌&&◌, is_none, is_some, nat_le, nat_lt, position, unwrap_or}
use Rattle.std.proofs.lemmas.Bool.{cases_Bool, leb-true, leb-false, ltb-true, ltb-false}
use Rattle.std.proofs.lemmas.List.Quantifiers.{position-Some}
use Rattle.std.proofs.Common.{⊎_elim}
use Rattle.kat_num.specs.declared.values.Sort.TheVariants as sort
use Rattle.kat_script.specs.Rules.{Known, fit, is_shipped, op_of, packet_of, place_of, query_of}
use Rattle.kat_script.specs.declared.said.Constant.{Constant}
use Rattle.kat_type.specs.declared.signatures.OpSig.{OpSig}
use Rattle.kat_type.specs.declared.signatures.QuerySig.{QuerySig}
use Rattle.kat_type.specs.declared.signatures.Signature.{Signature}

not_less : (n : ℕ) → n < n → ⊥
not_less n l = omega arith

below_not : (i n : ℕ) → i < n → n ≤ i → ⊥
below_not i n l m = omega arith

by_number : (words : List ℕ) (word : ℕ) (o : Option ℕ) → position (λ w. w == word) words ≡ o → is_some o ≡ nat_lt (unwrap_or o (length words)) (length words)
by_number words word None e =
    ⊎_elim (λ (t : nat_lt (length words) (length words) ≡ true). absurd (not_less (length words) (ltb-true (length words) (length words) t))) (λ f. sym f)
    (cases_Bool (nat_lt (length words) (length words)))
by_number words word (Some i) e =
    let l = (position-Some (λ w. w == word) words i 0 e).0 in
    ⊎_elim (λ t. sym t) (λ (f : nat_lt i (length words) ≡ false). absurd (below_not i (length words) l (ltb-false i (length words) f)))
    (cases_Bool (nat_lt i (length words)))

pub shipped_by_number : (known : Known) (word : ℕ) → is_shipped known word ≡ nat_lt (packet_of known word) (length known.words)
shipped_by_number known word = by_number known.words word (place_of known word) refl

none_by_number : {X : Type 0} (p : X → Bool) (xs : List X) (d : X) (o : Option ℕ) → position p xs ≡ o → is_none o ≡ nat_le (length xs) (unwrap_or o (length xs))
none_by_number p xs d None e = ⊎_elim (λ t. sym t) (λ (f : nat_le (length xs) (length xs) ≡ false). absurd (not_less (length xs) (leb-false (length xs) (length xs) f))) (cases_Bool (nat_le (length xs) (length xs)))
none_by_number p xs d (Some i) e =
    let l = (position-Some p xs i d e).0 in
    ⊎_elim (λ (t : nat_le (length xs) i ≡ true). absurd (below_not i (length xs) l (leb-true (length xs) i t))) (λ f. sym f) (cases_Bool (nat_le (length xs) i))

abbrev no_op : OpSig
no_op = record { name = 0; sorts = [] }

abbrev no_query : QuerySig
no_query = record { name = 0; sorts = []; sort = sort.Nat }

pub op_by_number : (sig : Signature) (name : ℕ) (args : List Constant) → is_none (op_of sig name args) ≡ nat_le (length sig.ops) (unwrap_or (op_of sig name args) (length sig.ops))
op_by_number sig name args = none_by_number (λ (op : OpSig). (op.name == name) && fit args op.sorts) sig.ops no_op (op_of sig name args) refl

pub query_by_number : (sig : Signature) (name : ℕ) (args : List Constant)
    → is_none (query_of sig name args) ≡ nat_le (length sig.queries) (unwrap_or (query_of sig name args) (length sig.queries))
query_by_number sig name args = none_by_number (λ (query : QuerySig). (query.name == name) && fit args query.sorts) sig.queries no_query (query_of sig name args) refl

either_default : (o : Option ℕ) (n : ℕ) → is_none o ≡ false → unwrap_or o n ≡ unwrap_or o 0
either_default None n e = absurd cc
either_default (Some i) n e = refl

pub op_is_number : (sig : Signature) (name : ℕ) (args : List Constant) → is_none (op_of sig name args) ≡ false
    → unwrap_or (op_of sig name args) (length sig.ops) ≡ unwrap_or (op_of sig name args) 0
op_is_number sig name args e = either_default (op_of sig name args) (length sig.ops) e

pub query_is_number : (sig : Signature) (name : ℕ) (args : List Constant) → is_none (query_of sig name args) ≡ false
    → unwrap_or (query_of sig name args) (length sig.queries) ≡ unwrap_or (query_of sig name args) 0
query_is_number sig name args e = either_default (query_of sig name args) (length sig.queries) e
