-- Used inside only.
-- Used by kat_design, kat_invariant, kat_node, kat_replica, kat_step and inside only. The join of values of a shape is that of
-- the static type of the shape, so it has the laws of a join: by induction over the shape.
use Rattle.std.specs.Prelude.{◌≡◌, ℕ, ℤ, Bool, true, false, cond, not, ◌&&◌, ◌||◌, nat_le, int_lt, refl}
use Rattle.std.specs.declared.cmp.Ordering.{Ordering}
use Rattle.std.specs.declared.cmp.Ordering.TheVariants.{Less, Equal, Greater}
use Rattle.std.specs.Ordering.{nat_cmp, bool_cmp, ordering_then, match_ordering, is_le, is_ge}
use Rattle.std.proofs.Common.{sym, ◌∙◌, ap, subst, arith}
use Rattle.std.proofs.lemmas.Bool.Decides.{nat_tests}
use Rattle.std.proofs.lemmas.Int.{ints}
use Rattle.kat_lattice.specs.declared.leaves.Max.{Max}
use Rattle.kat_lattice.specs.declared.leaves.NameMax.{NameMax}
use Rattle.kat_lattice.specs.declared.leaves.Or.{Or}
use Rattle.kat_lattice.specs.Parts.{Lex}
use Rattle.kat_lattice.specs.declared.parts.Pair.{Pair}
use Rattle.kat_lattice.specs.JoinLaws.{JoinLaws, ChainLaws}
use Rattle.kat_lattice.specs.Leaves.{any_two, greater_number, greater_name, either, number_at_most, name_at_most, truth_at_most, number_laws, name_laws, truth_laws, number_chain, name_chain, truth_chain}
use Rattle.kat_lattice.specs.Parts.{pairs_kin, pairs_joined, pair_laws, lexes_kin, lexes_joined, lexes_at_most}
use Rattle.kat_lattice.specs.Lexes.{lex_laws, lex_chain}
use Rattle.kat_shape.specs.Forms.{CellForm, numbers, names, truths, lex, pair, IsChainForm, IsGoodForm}
use Rattle.kat_shape.specs.Values.{Filled, a_number, a_name, a_truth, a_lex, a_pair, shape_of, cells_compared, joined, OneShape}

-- the contents of the static type of a shape
abbrev pub Content : CellForm → Type 0
Content numbers = Max
Content names = NameMax
Content truths = Or
Content (lex a b) = Lex (Content a) (Content b)
Content (pair a b) = Pair (Content a) (Content b)

-- the order of that type, if it is a chain
abbrev pub at_most_of : (f : CellForm) → Content f → Content f → Bool
at_most_of numbers = number_at_most
at_most_of names = name_at_most
at_most_of truths = truth_at_most
at_most_of (lex a b) = lexes_at_most (at_most_of a) (at_most_of b)
at_most_of (pair a b) = λ x y. false

-- the join of that type
abbrev pub joined_of : (f : CellForm) → Content f → Content f → Content f
joined_of numbers = greater_number
joined_of names = greater_name
joined_of truths = either
joined_of (lex a b) = lexes_joined (at_most_of a) (joined_of b)
joined_of (pair a b) = pairs_joined (joined_of a) (joined_of b)

abbrev pub kin_of : (f : CellForm) → Content f → Content f → Type 0
kin_of numbers = any_two
kin_of names = any_two
kin_of truths = any_two
kin_of (lex a b) = lexes_kin (kin_of a) (kin_of b)
kin_of (pair a b) = pairs_kin (kin_of a) (kin_of b)

pub any_kin : (f : CellForm) (x y : Content f) → kin_of f x y
any_kin numbers x y = tt
any_kin names x y = tt
any_kin truths x y = tt
any_kin (lex a b) x y = (any_kin a x.first y.first, any_kin b x.second y.second)
any_kin (pair a b) x y = (any_kin a x.first y.first, any_kin b x.second y.second)

pub good_from_chain : (f : CellForm) → IsChainForm f → IsGoodForm f
good_from_chain numbers h = tt
good_from_chain names h = tt
good_from_chain truths h = tt
good_from_chain (lex a b) h = (h.0, good_from_chain b h.1)
good_from_chain (pair a b) h = absurd h

mutual
  laws_of : (f : CellForm) → IsGoodForm f → JoinLaws (kin_of f) (joined_of f)
  laws_of numbers h = number_laws
  laws_of names h = name_laws
  laws_of truths h = truth_laws
  laws_of (lex a b) h = lex_laws (laws_of a (good_from_chain a h.0)) (chain_of a h.0) (laws_of b h.1)
  laws_of (pair a b) h = pair_laws (laws_of a h.0) (laws_of b h.1)

  pub chain_of : (f : CellForm) → IsChainForm f → ChainLaws (kin_of f) (joined_of f) (at_most_of f)
  chain_of numbers h = number_chain
  chain_of names h = name_chain
  chain_of truths h = truth_chain
  chain_of (lex a b) h = lex_chain (laws_of a (good_from_chain a h.0)) (chain_of a h.0) (laws_of b (good_from_chain b h.1)) (chain_of b h.1)
  chain_of (pair a b) h = absurd h

-- a shape filled with contents
abbrev pub fill : (f : CellForm) → Content f → Filled
fill numbers x = a_number x.0
fill names x = a_name x.0
fill truths x = a_truth x.0
fill (lex a b) x = a_lex (fill a x.first) (fill b x.second)
fill (pair a b) x = a_pair (fill a x.first) (fill b x.second)

shape_of-fill : (f : CellForm) (x : Content f) → shape_of (fill f x) ≡ f
shape_of-fill numbers x = refl
shape_of-fill names x = refl
shape_of-fill truths x = refl
shape_of-fill (lex a b) x = (let e = shape_of-fill a x.first in let f = shape_of-fill b x.second in cc)
shape_of-fill (pair a b) x = (let e = shape_of-fill a x.first in let f = shape_of-fill b x.second in cc)

-- what an order answers as two tests
pub record Answers (o : Ordering) (up down : Bool) : Type 0 where
  pub le : up ≡ is_le o
  pub ge : down ≡ is_ge o

number_answers : (x y : ℤ) (s t : Bool) → int_lt x y ≡ s → int_lt y x ≡ t → Answers (cond s Less (cond t Greater Equal)) (not t) (not s)
number_answers x y true true e f = absurd (grind (arith, ints))
number_answers x y true false e f = record { le = refl; ge = refl }
number_answers x y false true e f = record { le = refl; ge = refl }
number_answers x y false false e f = record { le = refl; ge = refl }

name_le : (x y : ℕ) → nat_le x y ≡ is_le (nat_cmp x y)
name_le x y = grind (arith, nat_tests)

name_ge : (x y : ℕ) → nat_le y x ≡ is_ge (nat_cmp x y)
name_ge x y = grind (arith, nat_tests)

truth_answers : (x y : Bool) → Answers (bool_cmp x y) (not x || y) (not y || x)
truth_answers true true = record { le = refl; ge = refl }
truth_answers true false = record { le = refl; ge = refl }
truth_answers false true = record { le = refl; ge = refl }
truth_answers false false = record { le = refl; ge = refl }

then_answers : (o r : Ordering) (up down up' down' : Bool) → Answers o up down → Answers r up' down' → Answers (ordering_then o r) (up && (not down || up')) (down && (not up || down'))
then_answers Less r up down up' down' h k = (let e = h.le in let f = h.ge in rw (e, f) (record { le = refl; ge = refl }))
then_answers Equal r up down up' down' h k = (let e = h.le in let f = h.ge in rw (e, f) (record { le = k.le; ge = k.ge }))
then_answers Greater r up down up' down' h k = (let e = h.le in let f = h.ge in rw (e, f) (record { le = refl; ge = refl }))

pub answers : (f : CellForm) → IsChainForm f → (x y : Content f) → Answers (cells_compared (fill f x) (fill f y)) (at_most_of f x y) (at_most_of f y x)
answers numbers h x y = number_answers x.0 y.0 (int_lt x.0 y.0) (int_lt y.0 x.0) refl refl
answers names h x y = record { le = name_le x.0 y.0; ge = name_ge x.0 y.0 }
answers truths h x y = truth_answers x.0 y.0
answers (lex a b) h x y = then_answers _ _ _ _ _ _ (answers a h.0 x.first y.first) (answers b h.1 x.second y.second)
answers (pair a b) h x y = absurd h

-- the join of a lexicographic pair by its order, as the static type's by its tests
lex_joined : {A B : Type 0} (at_most : A → A → Bool) (joined_b : B → B → B) (x y : Lex A B) (to : Lex A B → Filled) (first : Filled) (o : Ordering) → Answers o (at_most x.first y.first) (at_most y.first x.first) → match_ordering o (to y) (to (record { first = x.first; second = joined_b x.second y.second })) (to x) ≡ to (lexes_joined at_most joined_b x y)
lex_joined at_most joined_b x y to first Less h = (let e = h.le in let f = h.ge in rw (e, f))
lex_joined at_most joined_b x y to first Equal h = (let e = h.le in let f = h.ge in rw (e, f))
lex_joined at_most joined_b x y to first Greater h = (let e = h.le in rw e)

-- the join by cases is the join of the static type
joined-fill : (f : CellForm) → IsGoodForm f → (x y : Content f) → joined (fill f x) (fill f y) ≡ fill f (joined_of f x y)
joined-fill numbers h x y = refl
joined-fill names h x y = refl
joined-fill truths h x y = refl
joined-fill (lex a b) h x y =
    let o = cells_compared (fill a x.first) (fill a y.first) in
    let second : joined (fill b x.second) (fill b y.second) ≡ fill b (joined_of b x.second y.second) = joined-fill b h.1 x.second y.second in
    ap (λ t. match_ordering o (a_lex (fill a y.first) (fill b y.second)) (a_lex (fill a x.first) t) (a_lex (fill a x.first) (fill b x.second))) second
    ∙ lex_joined (at_most_of a) (joined_of b) x y (fill (lex a b)) (fill a x.first) o (answers a h.0 x.first y.first)
joined-fill (pair a b) h x y =
    let first : joined (fill a x.first) (fill a y.first) ≡ fill a (joined_of a x.first y.first) = joined-fill a h.0 x.first y.first in
    let second : joined (fill b x.second) (fill b y.second) ≡ fill b (joined_of b x.second y.second) = joined-fill b h.1 x.second y.second in
    cc

-- a value as contents of its shape
pub record Held (f : CellForm) (a : Filled) : Type 0 where
  pub content : Content f
  pub is : a ≡ fill f content

contents : (a : Filled) → Content (shape_of a)
contents (a_number z) = record { 0 = z }
contents (a_name n) = record { 0 = n }
contents (a_truth b) = record { 0 = b }
contents (a_lex a b) = record { first = contents a; second = contents b }
contents (a_pair a b) = record { first = contents a; second = contents b }

fill-contents : (a : Filled) → a ≡ fill (shape_of a) (contents a)
unfolding contents
fill-contents (a_number z) = refl
fill-contents (a_name n) = refl
fill-contents (a_truth b) = refl
fill-contents (a_lex a b) = (let e = fill-contents a in let f = fill-contents b in cc)
fill-contents (a_pair a b) = (let e = fill-contents a in let f = fill-contents b in cc)

pub held : (f : CellForm) (a : Filled) → shape_of a ≡ f → Held f a
held f a e = subst (λ t. Held t a) e (record { content = contents a; is = fill-contents a })

pub joined-held : (f : CellForm) → IsGoodForm f → (a b : Filled) (x y : Content f) → a ≡ fill f x → b ≡ fill f y → joined a b ≡ fill f (joined_of f x y)
joined-held f h a b x y e k = ap (λ t. joined t b) e ∙ (ap (joined (fill f x)) k ∙ joined-fill f h x y)

shape_of-held : (f : CellForm) (a : Filled) (x : Content f) → a ≡ fill f x → shape_of a ≡ f
shape_of-held f a x e = ap shape_of e ∙ shape_of-fill f x

pub shape_of-joined : (a b : Filled) → OneShape a b → shape_of (joined a b) ≡ shape_of a
shape_of-joined a b h =
    let f = shape_of a in
    let x = held f a refl in
    let y = held f b (sym h.same) in
    shape_of-held f (joined a b) (joined_of f x.content y.content) (joined-held f h.good a b x.content y.content x.is y.is)

pub joined-comm : (a b : Filled) → OneShape a b → joined a b ≡ joined b a
joined-comm a b h =
    let f = shape_of a in
    let x = held f a refl in
    let y = held f b (sym h.same) in
    let laws = laws_of f h.good in
    joined-held f h.good a b x.content y.content x.is y.is
    ∙ (ap (fill f) (laws.comm x.content y.content (any_kin f x.content y.content)) ∙ sym (joined-held f h.good b a y.content x.content y.is x.is))

joined-idem : (a : Filled) → OneShape a a → joined a a ≡ a
joined-idem a h =
    let f = shape_of a in
    let x = held f a refl in
    let laws = laws_of f h.good in
    joined-held f h.good a a x.content x.content x.is x.is ∙ (ap (fill f) (laws.idem x.content (any_kin f x.content x.content)) ∙ sym x.is)

joined-assoc : (a b c : Filled) → OneShape a b → OneShape b c → joined (joined a b) c ≡ joined a (joined b c)
joined-assoc a b c h k =
    let f = shape_of a in
    let x = held f a refl in
    let y = held f b (sym h.same) in
    let z = held f c (sym (h.same ∙ k.same)) in
    let laws = laws_of f h.good in
    let xy = joined-held f h.good a b x.content y.content x.is y.is in
    let yz = joined-held f h.good b c y.content z.content y.is z.is in
    joined-held f h.good (joined a b) c (joined_of f x.content y.content) z.content xy z.is
    ∙ (ap (fill f) (laws.assoc x.content y.content z.content (any_kin f x.content y.content) (any_kin f y.content z.content))
    ∙ sym (joined-held f h.good a (joined b c) x.content (joined_of f y.content z.content) x.is yz))

pub cell_laws : JoinLaws OneShape joined
cell_laws = record {
  kin_sym = λ a b h. record { good = subst IsGoodForm h.same h.good; same = sym h.same };
  kin_trans = λ a b c h k. record { good = h.good; same = h.same ∙ k.same };
  keeps = λ a b h. record { good = h.good; same = sym (shape_of-joined a b h) };
  assoc = joined-assoc;
  comm = joined-comm;
  idem = joined-idem;
}
