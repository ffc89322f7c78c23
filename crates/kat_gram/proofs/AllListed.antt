-- The designs of the token lists that a enumeration finds, size by size, are the listing.
use Rattle.std.proofs.Common.{◌≡◌, ℕ, zero, suc, ◌+◌, ◌-◌, ◌<◌, ◌≤◌, inl, inr, List, [], ◌∷◌, ◌++◌, map, refl, sym, ◌∙◌, ap, subst, arith}
use Rattle.std.proofs.lemmas.List.{map-append}
use Rattle.kat_type.specs.Fits.{IsWellSorted}
use Rattle.kat_type.specs.Signatures.{IsSmall}
use Rattle.kat_type.specs.Types.{TypeForm}
use Rattle.kat_type.proofs.Signing.{small_signature}
use Rattle.kat_walk.specs.Machines.{Ascends, IsLess, IsOneOf}
use Rattle.kat_walk.proofs.WordLemmas.{ascend_joined, one_cases, one_from, one_left, one_mapped, one_right}
use Rattle.kat_design.specs.Designs.{DesignForm}
use Rattle.kat_design.specs.Sizes.{size_of}
use Rattle.kat_decoding.specs.Decoded.{decoded, is_listed_word}
use Rattle.kat_gram.specs.Enumerations.{words_behind, words_of_size}
use Rattle.kat_rules.specs.Listed.{IsBefore, IsListed, IsListing, KeepsRules, setting_of}
use Rattle.kat_rules.specs.Orders.{before}
use Rattle.kat_rules.specs.Tokens.{design_tokens}
use Rattle.kat_decoding.specs.Words.{AreListed, IsListedWord}
use Rattle.kat_rules.specs.declared.constants.Setting.{Setting}
use Rattle.kat_rules.specs.declared.kind_sets.Kinds.{Kinds}
use Rattle.kat_rules.specs.declared.tokens.Token.{Token}
use Rattle.kat_gram.proofs.Told.{listed_told, word_back}
use Rattle.kat_decoding.proofs.Whole.{are_listed}

of_size : (x : Setting) (k : ℕ) → IsSmall x.sig → k ≤ 24 → AreListed x k (is_listed_word x k)
of_size x k small l = are_listed x k (is_listed_word x k) small (listed_told x k l)

-- which lists are among them
pub record IsBetween (x : Setting) (low high : ℕ) (w : List Token) : Type 0 where
  pub size : ℕ
  pub above : low < size
  pub within : size ≤ high
  pub listed : IsListedWord x size w

pub member : (x : Setting) (low count : ℕ) (w : List Token) → IsSmall x.sig → low + count ≤ 24 → IsOneOf w (words_behind x low count) → IsBetween x low (low + count) w
member x low zero w small l h = absurd h
member x low (suc count) w small l h =
    elim (one_cases w (words_of_size x (suc low)) (words_behind x (suc low) count) h) as (λ _. IsBetween x low (low + suc count) w) [
      | inl i ↦ record { size = suc low; above = omega arith; within = omega arith; listed = ((of_size x (suc low) small (omega (arith, l))).exactly w).0 i }
      | inr i ↦
          (let m = member x (suc low) count w small (omega (arith, l)) i in
          let a = m.above in
          let b = m.within in
          record { size = m.size; above = omega (arith, a); within = omega (arith, b); listed = m.listed })
    ]

is_member : (x : Setting) (low count k : ℕ) (w : List Token) → IsSmall x.sig → low + count ≤ 24 → low < k → k ≤ low + count → IsListedWord x k w → IsOneOf w (words_behind x low count)
is_member x low zero k w small l a b h = absurd (omega (arith, a, b))
is_member x low (suc count) k w small l a b h = by_size (k - suc low) (omega (arith, a)) (λ c. is_member x (suc low) count k w small (omega (arith, l)) c (omega (arith, b)) h)
  where
    by_size : (d : ℕ) → k ≡ suc low + d → (suc low < k → IsOneOf w (words_behind x (suc low) count)) → IsOneOf w (words_of_size x (suc low) ++ words_behind x (suc low) count)
    by_size zero e more =
        let same : k ≡ suc low = omega (arith, e) in
        one_left w (words_of_size x (suc low)) (words_behind x (suc low) count)
        (((of_size x (suc low) small (omega (arith, l))).exactly w).1 (subst (λ (n : ℕ). IsListedWord x n w) same h))
    by_size (suc d) e more = one_right w (words_of_size x (suc low)) (words_behind x (suc low) count) (more (omega (arith, e)))

-- what a list tells of its design
size_back : (x : Setting) (k : ℕ) (w : List Token) → k ≤ 24 → IsListedWord x k w → size_of (decoded x w) ≡ k
size_back x k w l h = let s = h.3 in ap size_of (word_back x w h.0 h.1 h.2 (omega (arith, l, s))) ∙ h.3

pub tokens_back : (x : Setting) (k : ℕ) (w : List Token) → k ≤ 24 → IsListedWord x k w → design_tokens x.constants (decoded x w) ≡ w
tokens_back x k w l h = let s = h.3 in ap (design_tokens x.constants) (word_back x w h.0 h.1 h.2 (omega (arith, l, s))) ∙ sym h.1

rules_back : (x : Setting) (k : ℕ) (w : List Token) → k ≤ 24 → IsListedWord x k w → KeepsRules x (decoded x w)
rules_back x k w l h = let s = h.3 in subst (λ (d : DesignForm). KeepsRules x d) (sym (word_back x w h.0 h.1 h.2 (omega (arith, l, s)))) h.2

-- the order
smaller : (x : Setting) (j k : ℕ) (v w : List Token) → j ≤ 24 → k ≤ 24 → IsListedWord x j v → IsListedWord x k w → j < k → IsBefore x.constants (decoded x v) (decoded x w)
smaller x j k v w a b f g l = inl (omega (arith, size_back x j v a f, size_back x k w b g, l))

alike : (x : Setting) (k : ℕ) (v w : List Token) → k ≤ 24 → IsListedWord x k v → IsListedWord x k w → IsLess before v w → IsBefore x.constants (decoded x v) (decoded x w)
alike x k v w b f g l =
    inr (
      size_back x k v b f ∙ sym (size_back x k w b g),
      subst (λ (u : List Token). IsLess before u (design_tokens x.constants (decoded x w))) (sym (tokens_back x k v b f))
          (subst (λ (u : List Token). IsLess before v u) (sym (tokens_back x k w b g)) l),
    )

size_ascends : (x : Setting) (k : ℕ) (ws : List (List Token)) → k ≤ 24 → ((w : List Token) → IsOneOf w ws → IsListedWord x k w) → Ascends (IsLess before) ws
    → Ascends (IsBefore x.constants) (map (decoded x) ws)
size_ascends x k [] b h a = tt
size_ascends x k (w ∷ ws) b h a = (
  λ d o.
      let f = one_from (decoded x) d ws o in
      subst (λ (e : DesignForm). IsBefore x.constants (decoded x w) e) (sym f.1) (alike x k w f.0 b (h w (inl refl)) (h f.0 (inr f.2)) (a.0 f.0 f.2)),
  size_ascends x k ws b (λ v o. h v (inr o)) a.1,
)

all_ascend : (x : Setting) (low count : ℕ) → IsSmall x.sig → low + count ≤ 24 → Ascends (IsBefore x.constants) (map (decoded x) (words_behind x low count))
all_ascend x low zero small l = tt
all_ascend x low (suc count) small l =
    let here = words_of_size x (suc low) in
    let later = words_behind x (suc low) count in
    let fit : suc low ≤ 24 = omega (arith, l) in
    let listed = of_size x (suc low) small fit in
    subst (λ (ds : List DesignForm). Ascends (IsBefore x.constants) ds) (sym (map-append (decoded x) here later))
    (ascend_joined (IsBefore x.constants) (map (decoded x) here) (map (decoded x) later)
    (size_ascends x (suc low) here fit (λ w o. (listed.exactly w).0 o) listed.ascend)
    (all_ascend x (suc low) count small (omega (arith, l)))
    (λ d e o p.
    let f = one_from (decoded x) d here o in
    let g = one_from (decoded x) e later p in
    let m = member x (suc low) count g.0 small (omega (arith, l)) g.2 in
    let a = m.above in
    let b = m.within in
    subst (λ (c : DesignForm). IsBefore x.constants c e) (sym f.1)
    (subst (λ (c : DesignForm). IsBefore x.constants (decoded x f.0) c) (sym g.1)
    (smaller x (suc low) m.size f.0 g.0 fit (omega (arith, b, l)) ((listed.exactly f.0).0 f.2) m.listed a))))

pub is_listing : (ty : TypeForm) (n : ℕ) (kinds : Kinds) → IsSmall (setting_of ty kinds).sig → n ≤ 24 → IsListing ty n kinds (map (decoded (setting_of ty kinds)) (words_behind (setting_of ty kinds) 0 n))
is_listing ty n kinds small l =
    let x = setting_of ty kinds in
    record {
      exactly = λ d. (
        λ h.
            let f = one_from (decoded x) d (words_behind x 0 n) h in
            let m = member x 0 n f.0 small (omega (arith, l)) f.2 in
            let a = m.above in
            let b = m.within in
            let fit : m.size ≤ 24 = omega (arith, b, l) in
            let s = size_back x m.size f.0 fit m.listed in
            subst (λ (e : DesignForm). IsListed ty n kinds e) (sym f.1)
            (record { rules = rules_back x m.size f.0 fit m.listed; some = omega (arith, a, s); small = omega (arith, b, s) }),
        λ h.
            let some = h.some in
            let most = h.small in
            let w = design_tokens x.constants d in
            subst (λ (e : DesignForm). IsOneOf e (map (decoded x) (words_behind x 0 n))) (word_back x w d refl h.rules (omega (arith, most, l)))
            (one_mapped (decoded x) w (words_behind x 0 n)
            (is_member x 0 n (size_of d) w small (omega (arith, l)) (omega (arith, some)) (omega (arith, most)) (d, refl, h.rules, refl))),
      );
      ascends = all_ascend x 0 n small (omega (arith, l));
    }

-- each type has a listing
pub has_listing : (ty : TypeForm) (n : ℕ) (kinds : Kinds) → IsWellSorted ty → n ≤ 24 → (designs : List DesignForm) × IsListing ty n kinds designs
has_listing ty n kinds fits l = (_, is_listing ty n kinds (small_signature ty fits) l)
