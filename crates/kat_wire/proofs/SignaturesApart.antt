-- Two signatures are one, or they aren't.
use Rattle.std.proofs.Common.{◌⊎◌, ◌≡◌, ℕ, inl, inr, Bool, true, false, refl, zero, suc, sym, ap, ◌∙◌, List, [], ◌∷◌, ap₂}
use Rattle.std.specs.Prelude.{◌==◌}
use Rattle.std.proofs.lemmas.Bool.{eqb-false, eqb-true}
use Rattle.kat_num.specs.declared.values.Sort.{Sort}
use Rattle.kat_type.specs.declared.signatures.OpSig.{OpSig}
use Rattle.kat_type.specs.declared.signatures.QuerySig.{QuerySig}
use Rattle.kat_type.specs.declared.signatures.Signature.{Signature}
use Rattle.kat_num.specs.declared.values.Sort.TheVariants as sort

-- it holds, or it doesn't
abbrev pub Decided : Type 0 → Type 0
Decided P = P ⊎ (P → ⊥)

numbers_apart : (m n : ℕ) → Decided (m ≡ n)
numbers_apart m n = by_test (m == n) refl where
  by_test : (b : Bool) → (m == n) ≡ b → Decided (m ≡ n)
  by_test true is = inl (eqb-true m n is)
  by_test false is = inr (eqb-false m n is)

abbrev number_of : Sort → ℕ
number_of sort.Bool = 0
number_of sort.Int = 1
number_of sort.Nat = 2
number_of sort.Name = 3

abbrev sort_of : ℕ → Sort
sort_of zero = sort.Bool
sort_of (suc zero) = sort.Int
sort_of (suc (suc zero)) = sort.Nat
sort_of (suc (suc (suc n))) = sort.Name

sort_back : (s : Sort) → sort_of (number_of s) ≡ s
sort_back sort.Bool = refl
sort_back sort.Int = refl
sort_back sort.Nat = refl
sort_back sort.Name = refl

sorts_apart : (s t : Sort) → Decided (s ≡ t)
sorts_apart s t = by_number (numbers_apart (number_of s) (number_of t)) where
  by_number : Decided (number_of s ≡ number_of t) → Decided (s ≡ t)
  by_number (inl same) = inl (sym (sort_back s) ∙ ap sort_of same ∙ sort_back t)
  by_number (inr differ) = inr (λ same. differ (ap number_of same))

lists_apart : {A : Type 0} → ((x y : A) → Decided (x ≡ y)) → (xs ys : List A) → Decided (xs ≡ ys)
lists_apart apart [] [] = inl refl
lists_apart apart [] (y ∷ ys) = inr (λ same. cc)
lists_apart apart (x ∷ xs) [] = inr (λ same. cc)
lists_apart {A} apart (x ∷ xs) (y ∷ ys) = both (apart x y) (lists_apart apart xs ys) where
  both : Decided (x ≡ y) → Decided (xs ≡ ys) → Decided (x ∷ xs ≡ y ∷ ys)
  both (inl same) (inl rest) = inl (ap₂ (λ z zs. z ∷ zs) same rest)
  both (inl same) (inr differ) = inr (λ whole. differ (cc))
  both (inr differ) rest = inr (λ whole. differ (cc))

operations_apart : (a b : OpSig) → Decided (a ≡ b)
operations_apart a b = both (numbers_apart a.name b.name) (lists_apart sorts_apart a.sorts b.sorts) where
  both : Decided (a.name ≡ b.name) → Decided (a.sorts ≡ b.sorts) → Decided (a ≡ b)
  both (inl name) (inl sorts) = inl (λ i. record { name = name i; sorts = sorts i })
  both (inl name) (inr differ) = inr (λ same. differ (ap (λ (o : OpSig). o.sorts) same))
  both (inr differ) sorts = inr (λ same. differ (ap (λ (o : OpSig). o.name) same))

queries_apart : (a b : QuerySig) → Decided (a ≡ b)
queries_apart a b = both (numbers_apart a.name b.name) (lists_apart sorts_apart a.sorts b.sorts) (sorts_apart a.sort b.sort) where
  both : Decided (a.name ≡ b.name) → Decided (a.sorts ≡ b.sorts) → Decided (a.sort ≡ b.sort) → Decided (a ≡ b)
  both (inl name) (inl sorts) (inl answer) = inl (λ i. record { name = name i; sorts = sorts i; sort = answer i })
  both (inl name) (inl sorts) (inr differ) = inr (λ same. differ (ap (λ (q : QuerySig). q.sort) same))
  both (inl name) (inr differ) answer = inr (λ same. differ (ap (λ (q : QuerySig). q.sorts) same))
  both (inr differ) sorts answer = inr (λ same. differ (ap (λ (q : QuerySig). q.name) same))

pub signatures_apart : (a b : Signature) → Decided (a ≡ b)
signatures_apart a b = both (lists_apart operations_apart a.ops b.ops) (lists_apart queries_apart a.queries b.queries) where
  both : Decided (a.ops ≡ b.ops) → Decided (a.queries ≡ b.queries) → Decided (a ≡ b)
  both (inl ops) (inl queries) = inl (λ i. record { ops = ops i; queries = queries i })
  both (inl ops) (inr differ) = inr (λ same. differ (ap (λ (s : Signature). s.queries) same))
  both (inr differ) queries = inr (λ same. differ (ap (λ (s : Signature). s.ops) same))
