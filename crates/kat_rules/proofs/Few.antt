-- A design of a listing has few components, since each has an effect and is read.
use Rattle.std.proofs.Common.{◌≡◌, ℕ, zero, suc, ◌*◌, ◌<◌, ◌≤◌, ◌⊎◌, inl, inr, Bool, true, false, List, [], ◌∷◌, ◌++◌, map, length, refl, ap, subst, arith, Option, None, Some, if◌then◌else◌}
use Rattle.std.specs.Prelude.{sum_by, ◌==◌}
use Rattle.std.proofs.lemmas.Bool.{eqb-true}
use Rattle.std.proofs.lemmas.Grind.{common_steps}
use Rattle.std.proofs.lemmas.List.{length-append}
use Rattle.std.proofs.lemmas.List.Sums.{sum_by-cons}
use Rattle.kat_walk.specs.Machines.{IsOneOf}
use Rattle.kat_walk.proofs.WordLemmas.{one_left, one_right}
use Rattle.kat_design.specs.Designs.{AskForm, ComponentForm, DesignForm}
use Rattle.kat_design.specs.Designs.ComponentForm.{a_cell, a_table, a_set, a_tally, tallies}
use Rattle.kat_design.specs.Designs.AskForm.{leaf, parameter, constant, negation, both, either, less, sum, difference}
use Rattle.kat_design.specs.Kinds.{kinds_of}
use Rattle.kat_design.specs.Sizes.{ask_nodes, cell_leaves, component_size, one_leaf, size_of}
use Rattle.kat_design.specs.Sorted.{AreMatched, EachHas, FitsCell, GivesKind, IsComponent}
use Rattle.kat_design.specs.declared.designs.Leaf.{Leaf}
use Rattle.kat_design.specs.declared.kinds.Kind.{Kind}
use Rattle.kat_type.specs.declared.signatures.OpSig.{OpSig}
use Rattle.kat_rules.specs.Listed.{HasEffect, HasSome, Reads, SomeReads}
use Rattle.kat_rules.specs.Tokens.{cell_effect, set_effect, tally_effect}
use Rattle.kat_rules.proofs.Lengths.{some_kinds, matched_long, some_nodes}

-- numbers below a limit that are all in a list
abbrev without : ℕ → List ℕ → List ℕ
without n [] = []
without n (x ∷ xs) = if x == n then xs else x ∷ without n xs

shorter_at : (n x : ℕ) (xs : List ℕ) (b : Bool) → x == n ≡ b → (IsOneOf n xs → suc (length (without n xs)) ≡ length xs) → IsOneOf n (x ∷ xs) → suc (length (if b then xs else x ∷ without n xs)) ≡ suc (length xs)
shorter_at n x xs true e more h = refl
shorter_at n x xs false e more (inl s) = absurd (grind (arith, common_steps))
shorter_at n x xs false e more (inr h) = ap suc (more h)

shorter : (n : ℕ) (xs : List ℕ) → IsOneOf n xs → suc (length (without n xs)) ≡ length xs
shorter n [] h = absurd h
shorter n (x ∷ xs) h = shorter_at n x xs (x == n) refl (λ k. shorter n xs k) h

stays_at : (n i x : ℕ) (xs : List ℕ) (b : Bool) → x == n ≡ b → i < n → (IsOneOf i xs → IsOneOf i (without n xs)) → IsOneOf i (x ∷ xs) → IsOneOf i (if b then xs else x ∷ without n xs)
stays_at n i x xs true e l more (inl s) = let t = eqb-true x n e in absurd (omega (arith, s, t, l))
stays_at n i x xs true e l more (inr h) = h
stays_at n i x xs false e l more (inl s) = inl s
stays_at n i x xs false e l more (inr h) = inr (more h)

stays : (n i : ℕ) (xs : List ℕ) → i < n → IsOneOf i xs → IsOneOf i (without n xs)
stays n i [] l h = absurd h
stays n i (x ∷ xs) l h = stays_at n i x xs (x == n) refl l (λ k. stays n i xs l k) h

enough : (n : ℕ) (xs : List ℕ) → ((i : ℕ) → i < n → IsOneOf i xs) → n ≤ length xs
enough zero xs f = omega arith
enough (suc n) xs f =
    let s = shorter n xs (f n (omega arith)) in
    let m = enough n (without n xs) (λ i l. stays n i xs l (f i (omega (arith, l)))) in
    omega (arith, s, m)

-- what asks read
abbrev read_in : AskForm → List ℕ
read_in (leaf component place key) = component ∷ []
read_in (parameter place) = []
read_in (constant v) = []
read_in (negation a) = read_in a
read_in (both a b) = read_in a ++ read_in b
read_in (either a b) = read_in a ++ read_in b
read_in (less a b) = read_in a ++ read_in b
read_in (sum a b) = read_in a ++ read_in b
read_in (difference a b) = read_in a ++ read_in b

few_read : (a : AskForm) → length (read_in a) ≤ ask_nodes a
few_read (leaf component place key) = omega arith
few_read (parameter place) = omega arith
few_read (constant v) = omega arith
few_read (negation a) = omega (arith, few_read a)
few_read (both a b) = omega (arith, few_read a, few_read b, length-append (read_in a) (read_in b))
few_read (either a b) = omega (arith, few_read a, few_read b, length-append (read_in a) (read_in b))
few_read (less a b) = omega (arith, few_read a, few_read b, length-append (read_in a) (read_in b))
few_read (sum a b) = omega (arith, few_read a, few_read b, length-append (read_in a) (read_in b))
few_read (difference a b) = omega (arith, few_read a, few_read b, length-append (read_in a) (read_in b))

in_two : (i : ℕ) (xs ys : List ℕ) (P Q : Type 0) → (P → IsOneOf i xs) → (Q → IsOneOf i ys) → P ⊎ Q → IsOneOf i (xs ++ ys)
in_two i xs ys P Q f g (inl p) = one_left i xs ys (f p)
in_two i xs ys P Q f g (inr q) = one_right i xs ys (g q)

is_in : (i : ℕ) (a : AskForm) → Reads i a → IsOneOf i (read_in a)
is_in i (leaf component place key) h = inl h
is_in i (parameter place) h = absurd h
is_in i (constant v) h = absurd h
is_in i (negation a) h = is_in i a h
is_in i (both a b) h = in_two i (read_in a) (read_in b) (Reads i a) (Reads i b) (λ k. is_in i a k) (λ k. is_in i b k) h
is_in i (either a b) h = in_two i (read_in a) (read_in b) (Reads i a) (Reads i b) (λ k. is_in i a k) (λ k. is_in i b k) h
is_in i (less a b) h = in_two i (read_in a) (read_in b) (Reads i a) (Reads i b) (λ k. is_in i a k) (λ k. is_in i b k) h
is_in i (sum a b) h = in_two i (read_in a) (read_in b) (Reads i a) (Reads i b) (λ k. is_in i a k) (λ k. is_in i b k) h
is_in i (difference a b) h = in_two i (read_in a) (read_in b) (Reads i a) (Reads i b) (λ k. is_in i a k) (λ k. is_in i b k) h

abbrev all_read : List AskForm → List ℕ
all_read [] = []
all_read (a ∷ asks) = read_in a ++ all_read asks

few_all : (asks : List AskForm) → length (all_read asks) ≤ sum_by ask_nodes asks
few_all [] = omega arith
few_all (a ∷ asks) = omega (arith, few_read a, few_all asks, length-append (read_in a) (all_read asks), sum_by-cons ask_nodes a asks)

is_in_all : (i : ℕ) (asks : List AskForm) → SomeReads i asks → IsOneOf i (all_read asks)
is_in_all i [] h = absurd h
is_in_all i (a ∷ asks) h = in_two i (read_in a) (all_read asks) (Reads i a) (SomeReads i asks) (λ k. is_in i a k) (λ k. is_in_all i asks k) h

pub read_nodes : (n : ℕ) (asks : List AskForm) → ((i : ℕ) → i < n → SomeReads i asks) → n ≤ sum_by ask_nodes asks
read_nodes n asks f = let e = enough n (all_read asks) (λ i l. is_in_all i asks (f i l)) in let m = few_all asks in omega (arith, e, m)

-- the size of a component
some_one : {A B : Type 0} (g : Option A → Option B) → (g None ≡ None) → (es : List (Option A)) → HasSome (map g es) → 1 ≤ sum_by one_leaf es
some_one g e [] h = absurd h
some_one g e (None ∷ es) h = let m = some_one g e es (subst (λ (o : Option _). HasSome (o ∷ map g es)) e h) in omega (arith, m, sum_by-cons one_leaf None es)
some_one g e (Some x ∷ es) h = omega (arith, sum_by-cons one_leaf (Some x) es)

some_leaves : (kinds : List Kind) (es : List (Option (List Leaf))) (ops : List OpSig) → 0 < length kinds → AreMatched (FitsCell kinds) es ops → HasSome (map cell_effect es) → 1 ≤ sum_by cell_leaves es
some_leaves kinds [] ops k m h = absurd h
some_leaves kinds (None ∷ es) [] k m h = absurd m
some_leaves kinds (None ∷ es) (op ∷ ops) k m h = let r = some_leaves kinds es ops k m.1 h in omega (arith, r, sum_by-cons cell_leaves None es)
some_leaves kinds (Some leaves ∷ es) [] k m h = absurd m
some_leaves kinds (Some leaves ∷ es) (op ∷ ops) k m h = let e = matched_long (GivesKind op.sorts) leaves kinds m.0 in omega (arith, e, k, sum_by-cons cell_leaves (Some leaves) es)

two_at_least : (ops : List OpSig) (c : ComponentForm) → IsComponent ops c → HasEffect c → 2 ≤ component_size c
two_at_least ops (a_cell shape starts effects) h e = omega (arith, some_nodes shape, some_leaves (kinds_of shape) effects ops (some_kinds shape) h.2 e)
two_at_least ops (a_table key shape starts effects) h e = omega (arith, some_nodes shape)
two_at_least ops (a_set key effects) h e = omega (arith, some_one set_effect refl effects e)
two_at_least ops (a_tally effects) h e = omega (arith, some_one tally_effect refl effects e)
two_at_least ops (tallies key effects) h e = omega arith

two_each : (ops : List OpSig) (cs : List ComponentForm) → EachHas (IsComponent ops) cs → EachHas HasEffect cs → 2 * length cs ≤ sum_by component_size cs
two_each ops [] h e = omega arith
two_each ops (c ∷ cs) h e = omega (arith, two_at_least ops c h.0 e.0, two_each ops cs h.1 e.1, sum_by-cons component_size c cs)

pub few_components : (ops : List OpSig) (d : DesignForm) → EachHas (IsComponent ops) d.components → EachHas HasEffect d.components → ((i : ℕ) → i < length d.components → SomeReads i d.asks)
    → 3 * length d.components ≤ size_of d
few_components ops d h e r = omega (arith, two_each ops d.components h e, read_nodes (length d.components) d.asks r)
