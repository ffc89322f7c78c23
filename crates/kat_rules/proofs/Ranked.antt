-- The tests of the order of tokens and of their lists.
use Rattle.std.proofs.Common.{◌≡◌, ℕ, zero, suc, ◌<◌, inl, inr, Bool, true, false, List, [], ◌∷◌, refl, sym, ◌∙◌, ap, subst, arith, Option, None, Some}
use Rattle.std.specs.Prelude.{not, ◌==◌, ◌&&◌, ◌||◌, nat_lt}
use Rattle.std.proofs.lemmas.Grind.{common_steps}
use Rattle.kat_num.specs.declared.values.Sort.{Sort}
use Rattle.kat_num.specs.declared.values.Sort.TheVariants as sort
use Rattle.kat_walk.specs.Machines.{IsLess}
use Rattle.kat_design.specs.declared.designs.Leaf.{Leaf}
use Rattle.kat_design.specs.declared.designs.Leaf.TheVariants as given
use Rattle.kat_rules.specs.Orders.{before, come_before, rank}
use Rattle.kat_rules.specs.Tests.{is_before, is_below, is_less, is_same_list}
use Rattle.kat_rules.specs.declared.tokens.Token.{Token}
use Rattle.kat_rules.specs.declared.tokens.Token.TheVariants as token
use Rattle.kat_rules.proofs.Comparing.{less_by_test, under}

-- a token is told by its rank
abbrev sort_from : ℕ → Sort
sort_from zero = sort.Int
sort_from (suc zero) = sort.Nat
sort_from (suc (suc zero)) = sort.Name
sort_from (suc (suc (suc n))) = sort.Bool

abbrev leaf_from : ℕ → ℕ → Leaf
leaf_from zero a = given.True
leaf_from (suc zero) a = given.Arg a
leaf_from (suc (suc zero)) a = given.Time
leaf_from (suc (suc (suc zero))) a = given.Replica
leaf_from (suc (suc (suc (suc zero)))) a = given.Zero
leaf_from (suc (suc (suc (suc (suc zero))))) a = given.One
leaf_from (suc (suc (suc (suc (suc (suc zero)))))) a = given.Pos a
leaf_from (suc (suc (suc (suc (suc (suc (suc zero))))))) a = given.Neg a
leaf_from (suc (suc (suc (suc (suc (suc (suc (suc zero)))))))) a = given.False
leaf_from (suc (suc (suc (suc (suc (suc (suc (suc (suc n))))))))) a = given.True

abbrev key_from : ℕ → Option ℕ
key_from zero = None
key_from (suc place) = Some place

abbrev truth_from : ℕ → Bool
truth_from zero = false
truth_from (suc n) = true

abbrev opening_from : ℕ → Token
opening_from zero = token.End
opening_from (suc zero) = token.Cell
opening_from (suc (suc zero)) = token.Table
opening_from (suc (suc (suc zero))) = token.Set
opening_from (suc (suc (suc (suc zero)))) = token.Tally
opening_from (suc (suc (suc (suc (suc n))))) = token.Tallies

abbrev shape_from : ℕ → Token
shape_from zero = token.Max
shape_from (suc zero) = token.Name
shape_from (suc (suc zero)) = token.Or
shape_from (suc (suc (suc zero))) = token.Lex
shape_from (suc (suc (suc (suc n)))) = token.Pair

abbrev part_from : ℕ → ℕ → ℕ → Token
part_from zero c d = token.Nothing
part_from (suc b) c zero = token.At c
part_from (suc b) c (suc d) = token.Effect (leaf_from (suc b) c)

abbrev ask_from : ℕ → ℕ → ℕ → ℕ → Token
ask_from zero c d e = token.Read c d (key_from e)
ask_from (suc zero) c d e = token.Arg c
ask_from (suc (suc zero)) c d e = token.NumberConstant c
ask_from (suc (suc (suc zero))) c d e = token.NameConstant c
ask_from (suc (suc (suc (suc zero)))) c d e = token.Truth (truth_from c)
ask_from (suc (suc (suc (suc (suc zero))))) c d e = token.Not
ask_from (suc (suc (suc (suc (suc (suc zero)))))) c d e = token.And
ask_from (suc (suc (suc (suc (suc (suc (suc zero))))))) c d e = token.Either
ask_from (suc (suc (suc (suc (suc (suc (suc (suc zero)))))))) c d e = token.Less
ask_from (suc (suc (suc (suc (suc (suc (suc (suc (suc zero))))))))) c d e = token.Plus
ask_from (suc (suc (suc (suc (suc (suc (suc (suc (suc (suc n)))))))))) c d e = token.Minus

abbrev row_from : ℕ → ℕ → ℕ → ℕ → ℕ → Token
row_from zero b c d e = opening_from b
row_from (suc zero) b c d e = token.Keys (sort_from b)
row_from (suc (suc zero)) b c d e = shape_from b
row_from (suc (suc (suc zero))) b c d e = token.Start b
row_from (suc (suc (suc (suc zero)))) b c d e = part_from b c d
row_from (suc (suc (suc (suc (suc n))))) b c d e = ask_from b c d e

abbrev pub token_from : List ℕ → Token
token_from (a ∷ b ∷ c ∷ d ∷ e ∷ more) = row_from a b c d e
token_from _ = token.End

effect_back : (l : Leaf) → token_from (rank (token.Effect l)) ≡ token.Effect l
effect_back (given.Arg place) = refl
effect_back given.Time = refl
effect_back given.Replica = refl
effect_back given.Zero = refl
effect_back given.One = refl
effect_back (given.Pos place) = refl
effect_back (given.Neg place) = refl
effect_back given.False = refl
effect_back given.True = refl

keys_back : (s : Sort) → token_from (rank (token.Keys s)) ≡ token.Keys s
keys_back sort.Int = refl
keys_back sort.Nat = refl
keys_back sort.Name = refl
keys_back sort.Bool = refl

read_back : (component place : ℕ) (key : Option ℕ) → token_from (rank (token.Read component place key)) ≡ token.Read component place key
read_back component place None = refl
read_back component place (Some key) = refl

truth_back : (b : Bool) → token_from (rank (token.Truth b)) ≡ token.Truth b
truth_back false = refl
truth_back true = refl

pub token_back : (t : Token) → token_from (rank t) ≡ t
token_back token.End = refl
token_back token.Cell = refl
token_back token.Table = refl
token_back token.Set = refl
token_back token.Tally = refl
token_back token.Tallies = refl
token_back (token.Keys s) = keys_back s
token_back token.Max = refl
token_back token.Name = refl
token_back token.Or = refl
token_back token.Lex = refl
token_back token.Pair = refl
token_back (token.Start place) = refl
token_back token.Nothing = refl
token_back (token.At place) = refl
token_back (token.Effect l) = effect_back l
token_back (token.Read component place key) = read_back component place key
token_back (token.Arg place) = refl
token_back (token.NumberConstant place) = refl
token_back (token.NameConstant place) = refl
token_back (token.Truth b) = truth_back b
token_back token.Not = refl
token_back token.And = refl
token_back token.Either = refl
token_back token.Less = refl
token_back token.Plus = refl
token_back token.Minus = refl

-- lists of numbers
less_told : (u v : List ℕ) → IsLess under u v → is_less u v ≡ true
less_told [] [] h = absurd h
less_told [] (b ∷ v) h = refl
less_told (a ∷ u) [] h = absurd h
less_told (a ∷ u) (b ∷ v) (inl l) = first_told a b (is_less u v) l
  where
    first_told : (a b : ℕ) (r : Bool) → a < b → nat_lt a b || (a == b && r) ≡ true
    first_told a b r l = let t : nat_lt a b ≡ true = grind (arith, common_steps) in rw t refl
less_told (a ∷ u) (b ∷ v) (inr e) = later_told a b (is_less u v) e.0 (less_told u v e.1)
  where
    later_told : (a b : ℕ) (r : Bool) → a ≡ b → r ≡ true → nat_lt a b || (a == b && r) ≡ true
    later_told a b r e k = let t : a == b ≡ true = grind (arith, common_steps) in rw (t, k) (or_true (nat_lt a b))
      where
        or_true : (p : Bool) → p || true ≡ true
        or_true true = refl
        or_true false = refl

less_itself : (u : List ℕ) → is_less u u ≡ false
less_itself [] = refl
less_itself (a ∷ u) = neither_told a (is_less u u) (less_itself u)
  where
    neither_told : (a : ℕ) (r : Bool) → r ≡ false → nat_lt a a || (a == a && r) ≡ false
    neither_told a r k = let t : nat_lt a a ≡ false = grind (arith, common_steps) in rw (t, k) (and_none (a == a))
      where
        and_none : (p : Bool) → p && false ≡ false
        and_none true = refl
        and_none false = refl

same_numbers : (u v : List ℕ) → is_less u v ≡ false → is_less v u ≡ false → u ≡ v
same_numbers [] [] h k = refl
same_numbers [] (b ∷ v) h k = absurd cc
same_numbers (a ∷ u) [] h k = absurd cc
same_numbers (a ∷ u) (b ∷ v) h k =
    let e : a ≡ b = same_first a b (is_less u v) (is_less v u) h k in
    let l = behind_first a b (is_less u v) e h in
    let r = behind_first b a (is_less v u) (sym e) k in
    let s = same_numbers u v l r in
    cc
  where
    same_first : (a b : ℕ) (p q : Bool) → nat_lt a b || (a == b && p) ≡ false → nat_lt b a || (b == a && q) ≡ false → a ≡ b
    same_first a b p q h k = grind (arith, common_steps)

    behind_first : (a b : ℕ) (p : Bool) → a ≡ b → nat_lt a b || (a == b && p) ≡ false → p ≡ false
    behind_first a b true e h = grind (arith, common_steps)
    behind_first a b false e h = refl

-- tokens
before_itself : (t u : Token) → t ≡ u → is_before t u ≡ false
before_itself t u e = subst (λ (v : Token). is_before t v ≡ false) e (less_itself (rank t))

pub one_token : (t u : Token) → is_before t u ≡ false → is_before u t ≡ false → t ≡ u
one_token t u h k = sym (token_back t) ∙ ap token_from (same_numbers (rank t) (rank u) h k) ∙ token_back u

pub before_told : (t u : Token) → before t u → is_before t u ≡ true
before_told t u h = less_told (rank t) (rank u) h

pub before_tested : (t u : Token) → is_before t u ≡ true → before t u
before_tested t u h = less_by_test (rank t) (rank u) h

-- lists of tokens
below_next : (a b : Token) (u v : List Token) (p q : Bool) → is_before a b ≡ p → is_before b a ≡ q → p || (not q && is_below u v) ≡ true → (is_below u v ≡ true → come_before u v)
    → come_before (a ∷ u) (b ∷ v)
below_next a b u v true q e f h more = inl (before_tested a b e)
below_next a b u v false true e f h more = absurd cc
below_next a b u v false false e f h more = inr (one_token a b e f, more h)

pub below_tested : (u v : List Token) → is_below u v ≡ true → come_before u v
below_tested [] [] h = absurd cc
below_tested [] (b ∷ v) h = tt
below_tested (a ∷ u) [] h = absurd cc
below_tested (a ∷ u) (b ∷ v) h = below_next a b u v (is_before a b) (is_before b a) refl refl h (λ k. below_tested u v k)

pub below_told : (u v : List Token) → come_before u v → is_below u v ≡ true
below_told [] [] h = absurd h
below_told [] (b ∷ v) h = refl
below_told (a ∷ u) [] h = absurd h
below_told (a ∷ u) (b ∷ v) (inl l) = let t = before_told a b l in rw t refl
below_told (a ∷ u) (b ∷ v) (inr e) =
    let p = before_itself a b e.0 in
    let q = before_itself b a (sym e.0) in
    let r = below_told u v e.1 in
    rw (p, q, r) refl

below_itself : (u : List Token) → is_below u u ≡ false
below_itself [] = refl
below_itself (a ∷ u) = let p = before_itself a a refl in let r = below_itself u in rw (p, r) refl

pub not_below : (u v : List Token) → is_below u v ≡ false → come_before u v → ⊥
not_below u v e h = let t = below_told u v h in absurd cc

pub never_below : (u v : List Token) → (come_before u v → ⊥) → is_below u v ≡ false
never_below u v h = decide (is_below u v) refl
  where
    decide : (b : Bool) → is_below u v ≡ b → b ≡ false
    decide true e = absurd (h (below_tested u v e))
    decide false e = refl

same_below : (a b : Token) (u v : List Token) (p q : Bool) → is_before a b ≡ p → is_before b a ≡ q → p || (not q && is_below u v) ≡ false → q || (not p && is_below v u) ≡ false
    → (is_below u v ≡ false → is_below v u ≡ false → u ≡ v) → a ∷ u ≡ b ∷ v
same_below a b u v true q e f h k more = absurd cc
same_below a b u v false true e f h k more = absurd cc
same_below a b u v false false e f h k more = let s = one_token a b e f in let t = more h k in cc

same_lists : (u v : List Token) → is_below u v ≡ false → is_below v u ≡ false → u ≡ v
same_lists [] [] h k = refl
same_lists [] (b ∷ v) h k = absurd cc
same_lists (a ∷ u) [] h k = absurd cc
same_lists (a ∷ u) (b ∷ v) h k = same_below a b u v (is_before a b) (is_before b a) refl refl h k (λ x y. same_lists u v x y)

neither_true : (a b : Bool) → not a && not b ≡ true → (a ≡ false) × (b ≡ false)
neither_true true b h = absurd cc
neither_true false true h = absurd cc
neither_true false false h = (refl, refl)

pub one_list : (u v : List Token) → is_same_list u v ≡ true → u ≡ v
one_list u v h = let n = neither_true (is_below u v) (is_below v u) h in same_lists u v n.0 n.1

pub list_itself : (u : List Token) → is_same_list u u ≡ true
list_itself u = let e = below_itself u in rw e refl
