-- What a join in place makes of two lists of entries, with what was taken for it.
use Rattle.std.proofs.Common.{◌≡◌, ℕ, zero, suc, ◌<◌, List, [], ◌∷◌, Option, Some, None, length, get_or, sym, ◌∙◌, ap, subst, arith}
use Rattle.std.specs.declared.cmp.Ordering.{Ordering}
use Rattle.std.specs.Cmp.{IsTotalOrder}
use Rattle.std.specs.List.{AllByRecursion}
use Rattle.kat_lattice.specs.InPlace.{Taken, IsReady, new_entries}
use Rattle.kat_join.specs.JoinLaws.{JoinLaws}
use Rattle.kat_join.specs.Keyed.{IsAscending, by_key, on_value, union}
use Rattle.kat_join.specs.KeyedLaws.{ascending_union, by_key_total, each_union, found_each, keeps_by_key}
use Rattle.kat_join.specs.Merging.{Mergeable, values_kin}
use Rattle.kat_lattice.specs.Moving.{Fits, with_taken}
use Rattle.kat_lattice.specs.Sets.{first_one, keeps_first}
use Rattle.kat_lattice.proofs.NewKeys.{news, is_new, ascending_filter, each_filter, present_none, present_some, union_news}

all_from : {E : Type 0} (P : E → Type 0) (xs : List E) → ((i : ℕ) (d : E) → i < length xs → P (get_or xs i d)) → AllByRecursion P xs
all_from P [] h = tt
all_from P (x ∷ xs) h = (h 0 x (omega arith), all_from P xs (λ i d l. h (suc i) d (omega arith)))

all_at : {E : Type 0} (P : E → Type 0) (xs : List E) (i : ℕ) (d : E) → AllByRecursion P xs → i < length xs → P (get_or xs i d)
all_at P [] i d h l = absurd (omega arith)
all_at P (x ∷ xs) zero d h l = h.0
all_at P (x ∷ xs) (suc i) d h l = all_at P xs i d h.1 (omega arith)

pub taken_fits : {K V : Type 0} (cmp : K → K → Ordering) (staged : Option (Taken K V)) (mine theirs : List (K × V)) → IsReady cmp staged mine theirs → IsAscending (by_key cmp) theirs → Fits cmp staged mine
taken_fits cmp None mine theirs h asc = tt
taken_fits {K} {V} cmp (Some taken) mine theirs h asc = record {
  ascending = subst (λ (zs : List (K × V)). IsAscending (by_key cmp) zs) (sym h.0) (ascending_filter (by_key cmp) (is_new (by_key cmp) mine) theirs asc);
  room = h.1;
}

-- the entries with the new ones, by whether there are any
with_news : {K V : Type 0} (cmp : K → K → Ordering) (taken : Taken K V) (mine theirs : List (K × V)) → taken.entries ≡ new_entries cmp mine theirs → with_taken cmp (Some taken) mine ≡ union (by_key cmp) first_one mine (news (by_key cmp) mine theirs)
with_news {K} {V} cmp taken mine theirs e = ap (union (by_key cmp) first_one mine) e

mergeable_news : {E : Type 0} {cmp : E → E → Ordering} (o : IsTotalOrder cmp) (kin : E → E → Type 0) (mine theirs : List E) → Mergeable cmp kin mine theirs → Mergeable cmp kin theirs theirs → Mergeable cmp kin (union cmp first_one mine (news cmp mine theirs)) theirs
mergeable_news {E} {cmp} o kin mine theirs h k =
    let P : E → Type 0 = λ x. (j : ℕ) (e : E) → j < length theirs → kin x (get_or theirs j e) in
    let all_mine : AllByRecursion P mine = all_from P mine (λ i d l j e m. h.each i j d e l m) in
    let all_theirs : AllByRecursion P theirs = all_from P theirs (λ i d l j e m. k.each i j d e l m) in
    let all : AllByRecursion P (union cmp first_one mine (news cmp mine theirs)) = each_union cmp first_one P (λ x y p q. p) mine (news cmp mine theirs) all_mine (each_filter P (is_new cmp mine) theirs all_theirs) in
    record {
      left = ascending_union cmp first_one o (keeps_first cmp) mine (news cmp mine theirs) h.left;
      right = h.right;
      each = λ i j d e l m. all_at P (union cmp first_one mine (news cmp mine theirs)) i d all l j e m;
    }

pub taken_kin : {K V : Type 0} {cmp : K → K → Ordering} (o : IsTotalOrder cmp) (kin : K × V → K × V → Type 0) (staged : Option (Taken K V)) (mine theirs now : List (K × V)) → IsReady cmp staged mine theirs → Mergeable (by_key cmp) kin mine theirs → Mergeable (by_key cmp) kin theirs theirs → now ≡ with_taken cmp staged mine → Mergeable (by_key cmp) kin now theirs
taken_kin {K} {V} {cmp} o kin None mine theirs now r h k is = subst (λ (zs : List (K × V)). Mergeable (by_key cmp) kin zs theirs) (sym is) h
taken_kin {K} {V} {cmp} o kin (Some taken) mine theirs now r h k is =
    subst (λ (zs : List (K × V)). Mergeable (by_key cmp) kin zs theirs) (sym (is ∙ with_news cmp taken mine theirs r.0)) (mergeable_news (by_key_total o) kin mine theirs h k)

pub taken_present : {K V : Type 0} {cmp : K → K → Ordering} (o : IsTotalOrder cmp) (joined : V → V → V) (staged : Option (Taken K V)) (mine theirs now : List (K × V)) → IsReady cmp staged mine theirs → IsAscending (by_key cmp) mine → IsAscending (by_key cmp) theirs → now ≡ with_taken cmp staged mine → length (union (by_key cmp) (on_value joined) now theirs) ≡ length now
taken_present {K} {V} {cmp} o joined None mine theirs now r h k is =
    subst (λ (zs : List (K × V)). length (union (by_key cmp) (on_value joined) zs theirs) ≡ length zs) (sym is) (present_none (by_key cmp) (on_value joined) (by_key_total o) (keeps_by_key cmp joined) mine theirs h k r)
taken_present {K} {V} {cmp} o joined (Some taken) mine theirs now r h k is =
    subst (λ (zs : List (K × V)). length (union (by_key cmp) (on_value joined) zs theirs) ≡ length zs) (sym (is ∙ with_news cmp taken mine theirs r.0)) (present_some (by_key cmp) (on_value joined) (by_key_total o) (keeps_by_key cmp joined) mine theirs h k)

itself : {K V : Type 0} (joined : V → V → V) (x : K × V) → joined x.1 x.1 ≡ x.1 → on_value joined x x ≡ x
itself {K} {V} joined x e = ap (λ (v : V). let p : K × V = (x.0, v) in p) e

pub taken_union : {K V : Type 0} {cmp : K → K → Ordering} {kin : V → V → Type 0} {joined : V → V → V} (o : IsTotalOrder cmp) (laws : JoinLaws kin joined) (staged : Option (Taken K V)) (mine theirs now : List (K × V)) → IsReady cmp staged mine theirs → IsAscending (by_key cmp) mine → Mergeable (by_key cmp) (values_kin cmp kin) theirs theirs → now ≡ with_taken cmp staged mine → union (by_key cmp) (on_value joined) now theirs ≡ union (by_key cmp) (on_value joined) mine theirs
taken_union {K} {V} {cmp} {kin} {joined} o laws None mine theirs now r h k is = ap (λ (zs : List (K × V)). union (by_key cmp) (on_value joined) zs theirs) is
taken_union {K} {V} {cmp} {kin} {joined} o laws (Some taken) mine theirs now r h k is =
    let P : K × V → Type 0 = λ x. joined x.1 x.1 ≡ x.1 in
    let own : AllByRecursion P theirs = all_from P theirs (λ i d l. laws.idem (get_or theirs i d).1 ((k.each i i d d l l).1)) in
    ap (λ (zs : List (K × V)). union (by_key cmp) (on_value joined) zs theirs) (is ∙ with_news cmp taken mine theirs r.0)
    ∙ union_news (on_value joined) (by_key_total o) (keeps_by_key cmp joined) mine theirs h k.right (λ q x e. itself joined x (found_each P (by_key cmp) q x theirs own e))
