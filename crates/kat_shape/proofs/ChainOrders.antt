-- The order of a chain is the order of its join.
use Rattle.std.proofs.Common.{◌≡◌, ◌⊎◌, true, false, refl, sym, ◌∙◌, ap, subst, inl, inr}
use Rattle.std.specs.declared.cmp.Ordering.{Ordering}
use Rattle.std.specs.declared.cmp.Ordering.TheVariants.{Less, Equal, Greater}
use Rattle.std.specs.Ordering.{is_le, is_ge}
use Rattle.kat_shape.specs.Forms.{CellForm, IsChainForm}
use Rattle.kat_shape.specs.Values.{Filled, shape_of, cells_compared, joined}
use Rattle.kat_shape.specs.Chains.{OrderIsOfJoin}
use Rattle.kat_shape.specs.Laws.{Content, fill, any_kin, good_from_chain, at_most_of, Answers, answers, chain_of, held, joined-held, joined-comm}
use Rattle.kat_shape.proofs.Order.{not_after_itself}

-- of two values of a chain one is at or below the other
pub one_is_below : (a b : Filled) → IsChainForm (shape_of a) → shape_of a ≡ shape_of b → (joined a b ≡ b) ⊎ (joined b a ≡ a)
one_is_below a b h e =
    let f = shape_of a in
    let good = good_from_chain f h in
    let x = held f a refl in
    let y = held f b (sym e) in
    let chain = chain_of f h in
    elim (chain.total x.content y.content (any_kin f x.content y.content)) as (λ _. (joined a b ≡ b) ⊎ (joined b a ≡ a)) [
      | inl t ↦ inl (joined-held f good a b x.content y.content x.is y.is ∙ (ap (fill f) t ∙ sym y.is))
      | inr t ↦ inr (joined-held f good b a y.content x.content y.is x.is ∙ (ap (fill f) t ∙ sym x.is))
    ]

-- what the two directions of a chain's order say of each other and of the join
pub record Orders (a b : Filled) : Type 0 where
  pub below : is_le (cells_compared a b) ≡ true → joined a b ≡ b
  pub above : is_ge (cells_compared a b) ≡ true → joined a b ≡ a
  pub back_le : is_le (cells_compared b a) ≡ is_ge (cells_compared a b)
  pub back_ge : is_ge (cells_compared b a) ≡ is_le (cells_compared a b)

answers_held : (f : CellForm) → IsChainForm f → (a b : Filled) (x y : Content f) → a ≡ fill f x → b ≡ fill f y → Answers (cells_compared a b) (at_most_of f x y) (at_most_of f y x)
answers_held f h a b x y e k = subst (λ (u : Filled). Answers (cells_compared u b) (at_most_of f x y) (at_most_of f y x)) (sym e) (subst (λ (v : Filled). Answers (cells_compared (fill f x) v) (at_most_of f x y) (at_most_of f y x)) (sym k) (answers f h x y))

pub chain_orders : (a b : Filled) → IsChainForm (shape_of a) → shape_of a ≡ shape_of b → Orders a b
chain_orders a b h e =
    let f = shape_of a in
    let good = good_from_chain f h in
    let x = held f a refl in
    let y = held f b (sym e) in
    let chain = chain_of f h in
    let forth = answers_held f h a b x.content y.content x.is y.is in
    let back = answers_held f h b a y.content x.content y.is x.is in
    record {
      below = λ t. joined-held f good a b x.content y.content x.is y.is ∙ (ap (fill f) ((chain.decides x.content y.content (any_kin f x.content y.content)).0 (forth.le ∙ t)) ∙ sym y.is);
      above = λ t. joined-comm a b (record { good = good; same = e })
          ∙ (joined-held f good b a y.content x.content y.is x.is ∙ (ap (fill f) ((chain.decides y.content x.content (any_kin f y.content x.content)).0 (forth.ge ∙ t)) ∙ sym x.is));
      back_le = sym back.le ∙ forth.ge;
      back_ge = sym back.ge ∙ forth.le;
    }

-- how a and c compare in a chain
pub data Stand (a c : Filled) : Type 0 where
  before : cells_compared a c ≡ Less → joined a c ≡ c → Stand a c
  level : cells_compared a c ≡ Equal → cells_compared c a ≡ Equal → joined a c ≡ a → Stand a c
  after : cells_compared a c ≡ Greater → cells_compared c a ≡ Less → joined a c ≡ a → Stand a c

equal_from : (o : Ordering) → is_le o ≡ true → is_ge o ≡ true → o ≡ Equal
equal_from Less h k = (cc)
equal_from Equal h k = refl
equal_from Greater h k = (cc)

less_from : (o : Ordering) → is_le o ≡ true → is_ge o ≡ false → o ≡ Less
less_from Less h k = refl
less_from Equal h k = (cc)
less_from Greater h k = (cc)

stand_by : (a c : Filled) (o : Ordering) → cells_compared a c ≡ o → Orders a c → Stand a c
stand_by a c Less e h = before e (h.below (ap is_le e))
stand_by a c Equal e h = level e (equal_from (cells_compared c a) (h.back_le ∙ ap is_ge e) (h.back_ge ∙ ap is_le e)) (h.above (ap is_ge e))
stand_by a c Greater e h = after e (less_from (cells_compared c a) (h.back_le ∙ ap is_ge e) (h.back_ge ∙ ap is_le e)) (h.above (ap is_ge e))

pub stand : (a c : Filled) → IsChainForm (shape_of a) → shape_of a ≡ shape_of c → Stand a c
stand a c h e = stand_by a c (cells_compared a c) refl (chain_orders a c h e)

not_greater : (a b : Filled) (o : Ordering) → cells_compared a b ≡ o → Orders a b → joined a b ≡ b → is_le o ≡ true
not_greater a b Less e h j = refl
not_greater a b Equal e h j = refl
not_greater a b Greater e h j =
    let same : a ≡ b = sym (h.above (ap is_ge e)) ∙ j in
    absurd (not_after_itself a (ap (cells_compared a) same ∙ e))

pub order_is_of_join : OrderIsOfJoin
order_is_of_join a b h e =
    let orders = chain_orders a b h e in
    (orders.below, λ j. not_greater a b (cells_compared a b) refl orders j)
