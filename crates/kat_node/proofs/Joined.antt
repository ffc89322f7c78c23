-- Lists that are nested pairwise: the union of two of them is nested with the others.
use Rattle.std.proofs.Common.{List, [], ◌∷◌, inl, inr}
use Rattle.std.specs.Prelude.{◌⊎◌, ℕ}
use Rattle.kat_type.specs.Lists.{Has}
use Rattle.kat_type.specs.declared.done.Done.{Done}
use Rattle.kat_type.specs.Unions.{AreAmong, AreNested, united}
use Rattle.kat_type.proofs.Unions.{has_mine, has_theirs, has_united}
use Rattle.kat_node.specs.Packets.{AreAllNested, EachNested}

of_both : {P : Type 0} (xs ys : List Done) (one : Done) → (Has xs one → P) → (Has ys one → P) → Has xs one ⊎ Has ys one → P
of_both xs ys one f g (inl h) = f h
of_both xs ys one f g (inr h) = g h

nested_by : (o : ℕ) (xs ys zs : List Done) → AreAmong o xs ys ⊎ AreAmong o ys xs → AreAmong o xs zs ⊎ AreAmong o zs xs → AreAmong o ys zs ⊎ AreAmong o zs ys
    → AreAmong o (united xs ys) zs ⊎ AreAmong o zs (united xs ys)
nested_by o xs ys zs (inl a) b (inl c) = inl (λ one is has. of_both xs ys one (λ h. c one is (a one is h)) (λ h. c one is h) (has_united xs ys one has))
nested_by o xs ys zs (inl a) b (inr c) = inr (λ one is has. has_theirs xs ys one (c one is has))
nested_by o xs ys zs (inr a) (inl b) c = inl (λ one is has. of_both xs ys one (λ h. b one is h) (λ h. b one is (a one is h)) (has_united xs ys one has))
nested_by o xs ys zs (inr a) (inr b) c = inr (λ one is has. has_mine xs ys one (b one is has))

pub nested_united : (xs ys zs : List Done) → AreNested xs ys → AreNested xs zs → AreNested ys zs → AreNested (united xs ys) zs
nested_united xs ys zs a b c = λ o. nested_by o xs ys zs (a o) (b o) (c o)

each_united : (xs ys : List Done) (rest : List (List Done)) → AreNested xs ys → EachNested xs rest → EachNested ys rest → EachNested (united xs ys) rest
each_united xs ys [] a b c = tt
each_united xs ys (zs ∷ rest) a b c = (b.0, nested_united xs ys zs a b.1 c.1, each_united xs ys rest a b.2 c.2)

each_of : (ys : List Done) (rest : List (List Done)) → AreAllNested ys rest → EachNested ys rest
each_of ys [] h = tt
each_of ys (zs ∷ rest) h = (h.0, h.1, h.2)

pub all_of_united : (xs ys : List Done) (rest : List (List Done)) → AreNested xs ys → EachNested xs rest → AreAllNested ys rest → AreAllNested (united xs ys) rest
all_of_united xs ys [] a b c = tt
all_of_united xs ys (zs ∷ rest) a b c = (b.0, nested_united xs ys zs a b.1 c.1, each_united xs ys rest a b.2 c.2, c.3)
