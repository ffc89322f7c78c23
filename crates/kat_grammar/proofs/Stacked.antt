-- The last part of a vector is the innermost.
use Rattle.std.proofs.Common.{◌≡◌, ℕ, ◌+◌, ◌<◌, ◌≤◌, Bool, true, false, arith, take, get_or, List, [], ◌∷◌, ◌++◌, length, map, sym, ◌∙◌, ap}
use Rattle.std.specs.Prelude.{reverse, if◌then◌else◌}
use Rattle.std.proofs.lemmas.List.{length-map, map-append, reverse-append, take_more}
use Rattle.kat_grammar.specs.Stacks.{Part, depth}
use Rattle.kat_grammar.specs.Stacks.Part.{left_part, not_part, open_part, first_part, second_part, if_part, then_part, else_part}
use Rattle.kat_grammar.specs.Views.{opens_level, part_of, stack_of}
use Rattle.kat_grammar.specs.declared.operands.Part.{Part as OpenPart}

pub stacked : (parts : List OpenPart) (p : OpenPart) → stack_of (parts ++ p ∷ []) ≡ part_of p ∷ stack_of parts
stacked parts p = ap reverse (map-append part_of parts (p ∷ [])) ∙ reverse-append (map part_of parts) (part_of p ∷ [])

pub as_many : {X Y : Type 0} (f : X → Y) (xs : List X) → length (map f xs) ≡ length xs
as_many f xs = length-map xs f

-- this many of the first parts open a level
pub record IsDepth (count : ℕ) (parts : List OpenPart) (i : ℕ) : Type 0 where
  pub is : count ≡ depth (stack_of (take i parts))
  pub few : count ≤ i

depth_push : (part : Part) (s : List Part) (b : Bool) → opens_level part ≡ b → (n : ℕ) → n ≡ depth s → depth (part ∷ s) ≡ (if b then n + 1 else n)
depth_push (left_part op at a) s true e n h = absurd cc
depth_push (left_part op at a) s false e n h = sym h
depth_push (not_part at) s true e n h = ap (λ n. n + 1) (sym h)
depth_push (not_part at) s false e n h = absurd cc
depth_push (open_part o) s true e n h = ap (λ n. n + 1) (sym h)
depth_push (open_part o) s false e n h = absurd cc
depth_push (first_part k at o) s true e n h = ap (λ n. n + 1) (sym h)
depth_push (first_part k at o) s false e n h = absurd cc
depth_push (second_part k at o a comma) s true e n h = ap (λ n. n + 1) (sym h)
depth_push (second_part k at o a comma) s false e n h = absurd cc
depth_push (if_part at) s true e n h = ap (λ n. n + 1) (sym h)
depth_push (if_part at) s false e n h = absurd cc
depth_push (then_part at c t) s true e n h = ap (λ n. n + 1) (sym h)
depth_push (then_part at c t) s false e n h = absurd cc
depth_push (else_part at c t a f) s true e n h = ap (λ n. n + 1) (sym h)
depth_push (else_part at c t a f) s false e n h = absurd cc

pub one_part : (count : ℕ) (parts : List OpenPart) (i : ℕ) (d : OpenPart) (b : Bool) → i < length parts → opens_level (part_of (get_or parts i d)) ≡ b → IsDepth count parts i
    → IsDepth (if b then count + 1 else count) parts (i + 1)
one_part count parts i d b h e x =
    record {
      is = sym (ap (λ l. depth (stack_of l)) (take_more parts i d h) ∙ ap depth (stacked (take i parts) (get_or parts i d)) ∙ depth_push (part_of (get_or parts i d)) (stack_of (take i parts)) b e count x.is);
      few = at_most b count i x.few;
    }
  where
    at_most : (b : Bool) (count i : ℕ) → count ≤ i → (if b then count + 1 else count) ≤ i + 1
    at_most true count i h = omega (arith, h)
    at_most false count i h = omega (arith, h)
