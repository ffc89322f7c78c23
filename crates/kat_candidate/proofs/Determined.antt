-- A type and a design have one list of candidates.
use Rattle.std.proofs.Common.{◌≡◌, ℕ, zero, suc, ◌<◌, inl, inr, List, [], ◌∷◌, refl, sym, ap, subst, ◌∙◌, arith}
use Rattle.std.specs.List.{AllPairs}
use Rattle.kat_design.specs.Designs.{DesignForm}
use Rattle.kat_relation.specs.declared.relations.Conjunct.{Conjunct}
use Rattle.kat_type.specs.Lists.{Has}
use Rattle.kat_type.specs.Types.{TypeForm}
use Rattle.kat_type.proofs.Ordered.{had_all}
use Rattle.kat_candidate.specs.Candidates.{AreCandidates}
use Rattle.kat_candidate.specs.Texts.{Precedes, text_of}
use Rattle.kat_candidate.proofs.Orders.{Ascend, less_asym}

pairs_ascend : (cs : List Conjunct) → AllPairs Precedes cs → Ascend cs
pairs_ascend [] h = tt
pairs_ascend (c ∷ cs) h = (
  λ d has. had_all (Precedes c) cs d c (λ k lt. h zero (suc k) c (omega arith) (omega (arith, lt))) has,
  pairs_ascend cs (λ i j d lt le. h (suc i) (suc j) d (omega (arith, lt)) (omega (arith, le))),
)

not_both : (c d : Conjunct) → Precedes c d → Precedes d c → ⊥
not_both c d h k = less_asym (text_of c) (text_of d) h k

not_itself : (c d : Conjunct) → Precedes c d → c ≡ d → ⊥
not_itself c d h e = not_both c c (subst (Precedes c) (sym e) h) (subst (Precedes c) (sym e) h)

abbrev Within : List Conjunct → List Conjunct → Type 0
Within xs ys = (c : Conjunct) → Has xs c → Has ys c

same_first : (x y : Conjunct) (xs ys : List Conjunct) → Ascend (x ∷ xs) → Ascend (y ∷ ys) → Has (y ∷ ys) x → Has (x ∷ xs) y → x ≡ y
same_first x y xs ys h k (inl e) b = sym e
same_first x y xs ys h k (inr i) (inl e) = e
same_first x y xs ys h k (inr i) (inr j) = absurd (not_both x y (h.0 y j) (k.0 x i))

among_rest : (x y : Conjunct) (xs ys : List Conjunct) → Ascend (x ∷ xs) → x ≡ y → (z : Conjunct) → Has xs z → Has (y ∷ ys) z → Has ys z
among_rest x y xs ys h e z i (inl k) = absurd (not_itself x z (h.0 z i) (e ∙ k))
among_rest x y xs ys h e z i (inr k) = k

one_list : (xs ys : List Conjunct) → Ascend xs → Ascend ys → Within xs ys → Within ys xs → xs ≡ ys
one_list [] [] h k on back = refl
one_list [] (y ∷ ys) h k on back = absurd (back y (inl refl))
one_list (x ∷ xs) [] h k on back = absurd (on x (inl refl))
one_list (x ∷ xs) (y ∷ ys) h k on back =
    let e : x ≡ y = same_first x y xs ys h k (on x (inl refl)) (back y (inl refl)) in
    let rest : xs ≡ ys = one_list xs ys h.1 k.1 (λ z i. among_rest x y xs ys h e z i (on z (inr i))) (λ z i. among_rest y x ys xs k (sym e) z i (back z (inr i))) in
    ap (λ z. z ∷ xs) e ∙ ap (λ zs. y ∷ zs) rest

pub one_candidates : (ty : TypeForm) (design : DesignForm) (a b : List Conjunct) → AreCandidates ty design a → AreCandidates ty design b → a ≡ b
one_candidates ty design a b h k = one_list a b (pairs_ascend a h.ascending) (pairs_ascend b k.ascending)
    (λ c has. (k.members c).1 ((h.members c).0 has)) (λ c has. (h.members c).1 ((k.members c).0 has))
