-- Pairs that are read one after the other, appended to those that are there.
use Rattle.std.proofs.Common.{◌≡◌, ℕ, zero, suc, ◌+◌, ◌-◌, List, [], ◌∷◌, ◌++◌, refl, sym, ap, subst, ◌∙◌, arith}
use Rattle.std.proofs.lemmas.List.{append_assoc}
use Rattle.kat_claims.specs.Effects.{Leaves, pairs_read}
use Rattle.kat_symbols.specs.Readers.{Reader, Symbol}
use Rattle.kat_symbols.specs.Views.{behind}

-- what is read next comes after what was read first
moved : {A : Type 0} (done : List A) (x : A) (rest : List A × Reader) → behind done (x ∷ rest.0, rest.1) ≡ behind (done ++ x ∷ []) rest
moved done x rest = ap (λ xs. (xs, rest.1)) (sym (append_assoc done (x ∷ []) rest.0))

pairs_step : (old effect : Leaves) (from n : ℕ) (done now : List (Symbol × Symbol)) (r ra rb : Reader) (a b : Symbol) (end : List (Symbol × Symbol) × Reader)
    → (a ≡ (old from r).0) × (ra ≡ (old from r).1) → (b ≡ (effect from ra).0) × (rb ≡ (effect from ra).1) → now ≡ done ++ (a, b) ∷ []
    → behind now (pairs_read old effect (suc from) n rb) ≡ end → behind done (pairs_read old effect from (suc n) r) ≡ end
pairs_step old effect from n done now r ra rb a b end x y z rest =
    let first : a ≡ (old from r).0 = x.0 in
    let after : ra ≡ (old from r).1 = x.1 in
    let second : b ≡ (effect from (old from r).1).0 = y.0 ∙ ap (λ s. (effect from s).0) after in
    let left : rb ≡ (effect from (old from r).1).1 = y.1 ∙ ap (λ s. (effect from s).1) after in
    let pair : (a, b) ≡ ((old from r).0, (effect from (old from r).1).0) = cc in
    let whole : now ≡ done ++ ((old from r).0, (effect from (old from r).1).0) ∷ [] = z ∙ ap (λ p. done ++ p ∷ []) pair in
    moved done ((old from r).0, (effect from (old from r).1).0) (pairs_read old effect (suc from) n (effect from (old from r).1).1)
    ∙ sym (ap (λ xs. behind xs (pairs_read old effect (suc from) n (effect from (old from r).1).1)) whole)
    ∙ sym (ap (λ s. behind now (pairs_read old effect (suc from) n s)) left)
    ∙ rest

-- if some are left, one is read, and then the others
pub pairs_on : (old effect : Leaves) (from next left fewer : ℕ) (done now : List (Symbol × Symbol)) (r ra rb : Reader) (a b : Symbol) (end : List (Symbol × Symbol) × Reader)
    → (left ≡ 0 → ⊥) → next ≡ from + 1 → fewer ≡ left - 1
    → (a ≡ (old from r).0) × (ra ≡ (old from r).1) → (b ≡ (effect from ra).0) × (rb ≡ (effect from ra).1) → now ≡ done ++ (a, b) ∷ []
    → behind now (pairs_read old effect next fewer rb) ≡ end → behind done (pairs_read old effect from left r) ≡ end
pairs_on old effect from next zero fewer done now r ra rb a b end some next_is fewer_is x y z rest = absurd (some refl)
pairs_on old effect from next (suc n) fewer done now r ra rb a b end some next_is fewer_is x y z rest =
    let at : next ≡ suc from = omega (arith, next_is) in
    let so : fewer ≡ n = omega (arith, fewer_is) in
    pairs_step old effect from n done now r ra rb a b end x y z (subst (λ m. behind now (pairs_read old effect (suc from) m rb) ≡ end) so (subst (λ m. behind now (pairs_read old effect m fewer rb) ≡ end) at rest))
