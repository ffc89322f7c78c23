-- Lists that are put together by one push after the other.
use Rattle.std.proofs.Common.{◌≡◌, List, [], ◌∷◌, ◌++◌, append_assoc}

pub joined : {A : Type 0} (a b c : List A) → (a ++ b) ++ c ≡ a ++ (b ++ c)
joined a b c = append_assoc a b c

pub one_more : {A : Type 0} (a : List A) (x : A) (c : List A) → (a ++ x ∷ []) ++ c ≡ a ++ x ∷ c
one_more a x c = append_assoc a (x ∷ []) c
