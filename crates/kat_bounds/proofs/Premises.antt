-- What accepted types, designs and relations give to the reading of a condition.
use Rattle.std.proofs.Common.{◌≡◌, ℕ, zero, suc, ◌≤◌, true, nat_le, List, [], ◌∷◌, map, All, refl, ap, subst, arith, Option, None, Some, ◌+◌, ◌*◌, ◌-◌, ◌++◌, reverse}
use Rattle.std.specs.Prelude.{◌&&◌, slice_get, sum_by}
use Rattle.std.proofs.lemmas.Bool.{and_parts, leb-true}
use Rattle.kat_form.specs.Facts.{forms_among}
use Rattle.kat_design.specs.Designs.{AskForm, ComponentForm, DesignForm}
use Rattle.kat_design.specs.Designs.ComponentForm.{a_cell, a_table, a_set, a_tally, tallies}
use Rattle.kat_design.specs.Kinds.{sort_kind}
use Rattle.kat_design.specs.Sizes.{ask_nodes, component_size}
use Rattle.kat_design.specs.Sorted.{Answers, AreMatched, HasKind, IsComponent}
use Rattle.kat_design.specs.declared.sizes.TheConstants.{SIZE_LIMIT}
use Rattle.kat_relation.specs.Fits.{FitsConjunct, digit_fits, is_ordered, position_kind, ref_kind, same_kind}
use Rattle.std.specs.Prelude.{nat_eq, nat_lt}
use Rattle.kat_design.specs.declared.kinds.Kind.TheVariants as kind
use Rattle.kat_relation.specs.declared.relations.Conjunct.{Conjunct}
use Rattle.kat_relation.specs.declared.relations.Conjunct.TheVariants.{Query, Equal, Bounded, AtLeast, Matched, Total}
use Rattle.kat_type.specs.Fits.{AssignedFits, OperationFits, QueryFits, RankFits, StartFits, sorts_of}
use Rattle.kat_type.specs.Signatures.{param_sorts, query_sig}
use Rattle.kat_type.specs.Types.{Assigned, OperationForm, QueryForm, TypeForm}
use Rattle.kat_type.specs.Within.{IsLimited, IsLimitedRight, IsLimitedStart, right_of, nodes_in, operation_nodes}
use Rattle.kat_type.specs.declared.signatures.OpSig.{OpSig}
use Rattle.kat_type.specs.declared.types.Field.{Field}
use Rattle.kat_type.specs.declared.types.Param.{Param}
use Rattle.kat_type.specs.declared.types.Rank.{Rank}
use Rattle.kat_type.specs.declared.types.Rank.TheVariants as rank
use Rattle.kat_vc.specs.Conditions.{facts_of_condition, Condition, conditions}
use Rattle.std.proofs.lemmas.List.{reverse-append}
use Rattle.std.proofs.lemmas.List.Sums.{sum_by-cons}
use Rattle.std.proofs.lemmas.Nat.{mul-le}
use Rattle.kat_shape.specs.Forms.{CellForm, numbers, names, truths, lex, pair, nodes_of, width_of}
use Rattle.kat_expr.specs.Terms.{Term, node_count}
use Rattle.kat_expr.specs.Terms.Term.{constant, field, entry, parameter, negation, both, either, less, at_most, same, sum, difference, greater, lesser, choice}
use Rattle.kat_type.specs.Types.Assigned.{to_field, to_entry, to_start}
use Rattle.kat_type.specs.Limits.{node_limit}
use Rattle.kat_bounds.proofs.Effects.{component_cost, join_cost}
use Rattle.kat_bounds.specs.Named.{HasNames, StartIsNamed}
use Rattle.kat_bounds.specs.Accepted.{AreAccepted}
use Rattle.kat_bounds.proofs.Weights.{IsUpTo}
use Rattle.kat_bounds.proofs.Facts.{fact_most, Every}
use Rattle.kat_bounds.proofs.Sides.{AreSound, IsRightAt, IsSound, IsSoundAssigned, IsSoundAt, assigned_cost, field_cost, value_slots, value_some}
use Rattle.kat_bounds.proofs.Claims.{HasDigit, IsAnswerSound}
use Rattle.kat_bounds.proofs.Groups.{IsDigit}
use Rattle.kat_bounds.proofs.Conditions.{AllIsSound, OperationIsSound, each_every, every_all, every_get, every_reverse, every_three, every_weaker, forms_up, sum_has, HasRoom, condition_cost}

-- digits of conjuncts
digit_small : (ty : TypeForm) (position digit : ℕ) → digit_fits ty position digit ≡ true → digit ≤ 9
digit_small ty position digit e = leb-true digit 9 (and_parts (same_kind (position_kind ty position) (Some kind.Number)) (nat_le digit 9) e).1

has_digit : (ty : TypeForm) (components : List ComponentForm) (c : Conjunct) → FitsConjunct ty components c → HasDigit c
has_digit ty components (Query query) e = tt
has_digit ty components (Equal f leaf) e = tt
has_digit ty components (Bounded leaves position) e = tt
has_digit ty components (AtLeast leaf position digit) e = digit_small ty position digit (and_parts (same_kind (ref_kind components leaf) (Some kind.Truth)) (digit_fits ty position digit) e).1
has_digit ty components (Matched first position second later digit) e =
    digit_small ty later digit (and_parts (is_ordered (ref_kind components first) && same_kind (ref_kind components first) (position_kind ty position) && same_kind (ref_kind components second) (Some kind.Truth) && nat_eq first.component second.component && nat_lt position later) (digit_fits ty later digit) e).1
has_digit ty components (Total component) e = tt

-- digits of ranks
is_digit : (params : List Param) (r : Rank) → RankFits params r → IsDigit r
is_digit params (rank.Digit n) h = h
is_digit params rank.Time h = tt
is_digit params rank.Replica h = tt
is_digit params (rank.Arg place) h = tt

-- what a value takes after an operation
width_within : (shape : CellForm) → width_of shape ≤ nodes_of shape
width_within numbers = omega arith
width_within names = omega arith
width_within truths = omega arith
width_within (lex a b) = omega (arith, width_within a, width_within b)
width_within (pair a b) = omega (arith, width_within a, width_within b)

nodes_some : (shape : CellForm) → 1 ≤ nodes_of shape
nodes_some numbers = omega arith
nodes_some names = omega arith
nodes_some truths = omega arith
nodes_some (lex a b) = omega arith
nodes_some (pair a b) = omega arith

square_lex : (i j w a b : ℕ) → i ≤ 4 * (a * a) → j ≤ 4 * (b * b) → w ≤ a → 1 ≤ a → 1 ≤ b → i + (3 * w + (5 + j)) ≤ 4 * ((a + b + 1) * (a + b + 1))
square_lex i j w a b p q wide some other = omega (arith, p, q, wide, some, other)

square_pair : (i j a b : ℕ) → i ≤ 4 * (a * a) → j ≤ 4 * (b * b) → i + j ≤ 4 * ((a + b + 1) * (a + b + 1))
square_pair i j a b p q = omega (arith, p, q)

join_cheap : (shape : CellForm) → join_cost shape ≤ 4 * (nodes_of shape * nodes_of shape)
join_cheap numbers = omega arith
join_cheap names = omega arith
join_cheap truths = omega arith
join_cheap (lex a b) = square_lex (join_cost a) (join_cost b) (width_of a) (nodes_of a) (nodes_of b) (join_cheap a) (join_cheap b) (width_within a) (nodes_some a) (nodes_some b)
join_cheap (pair a b) = square_pair (join_cost a) (join_cost b) (nodes_of a) (nodes_of b) (join_cheap a) (join_cheap b)

shape_cheap : (shape : CellForm) → nodes_of shape ≤ SIZE_LIMIT → 3 + (join_cost shape + 1) ≤ value_slots
unfolding value_slots
shape_cheap shape small = omega (arith, join_cheap shape, mul-le (nodes_of shape) (nodes_of shape) 64 64 small small)

component_cheap : (component : ComponentForm) → component_size component ≤ SIZE_LIMIT → component_cost (Some component) ≤ value_slots
unfolding value_slots
component_cheap (a_cell shape starts effects) small = omega (arith, shape_cheap shape (omega (arith, small)))
component_cheap (a_table key shape starts effects) small = shape_cheap shape (omega (arith, small))
component_cheap (a_set key effects) small = omega arith
component_cheap (a_tally effects) small = omega arith
component_cheap (tallies key effects) small = omega arith

term_some : (t : Term) → 1 ≤ node_count t
term_some (constant v) = omega arith
term_some (field f) = omega arith
term_some (entry f j) = omega arith
term_some (parameter j) = omega arith
term_some (negation a) = omega arith
term_some (both a b) = omega arith
term_some (either a b) = omega arith
term_some (less a b) = omega arith
term_some (at_most a b) = omega arith
term_some (same a b) = omega arith
term_some (sum a b) = omega arith
term_some (difference a b) = omega arith
term_some (greater a b) = omega arith
term_some (lesser a b) = omega arith
term_some (choice c a b) = omega arith

assigned_cheap : (a : Assigned) → assigned_cost a ≤ 4 * nodes_in a
assigned_cheap (to_field place right) = omega arith
assigned_cheap (to_entry place key right) = omega (arith, term_some right)
assigned_cheap (to_start place) = omega arith

fields_cheap : (xs : List Assigned) → field_cost xs ≤ 1 + 4 * sum_by nodes_in xs
fields_cheap [] = omega arith
fields_cheap (a ∷ xs) = omega (arith, assigned_cheap a, fields_cheap xs, sum_by-cons nodes_in a xs)

cost_append : (xs ys : List Assigned) → field_cost (xs ++ ys) + 1 ≡ field_cost xs + field_cost ys
cost_append [] ys = omega arith
cost_append (a ∷ xs) ys = omega (arith, cost_append xs ys)

cost_reverse : (xs : List Assigned) → field_cost (reverse xs) ≡ field_cost xs
cost_reverse [] = refl
cost_reverse (a ∷ xs) =
    let turned : field_cost (reverse (a ∷ xs)) ≡ field_cost (reverse xs ++ a ∷ []) = ap field_cost (reverse-append (a ∷ []) xs) in
    omega (arith, turned, cost_append (reverse xs) (a ∷ []), cost_reverse xs)

operation_cheap : (op : OperationForm) → operation_nodes op ≤ node_limit → field_cost (reverse op.assigned) ≤ value_slots
unfolding value_slots
operation_cheap op few = omega (arith, cost_reverse op.assigned, fields_cheap op.assigned, few)

pub every_two : {X : Type 0} (P Q : X → Type 0) (xs : List X) → Every P xs → Every Q xs → Every (λ x. P x × Q x) xs
every_two P Q [] h k = tt
every_two P Q (x ∷ xs) h k = ((h.0, k.0), every_two P Q xs h.1 k.1)

every_sum : {X : Type 0} (f : X → ℕ) (xs : List X) (most : ℕ) → sum_by f xs ≤ most → Every (λ x. f x ≤ most) xs
every_sum f [] most h = tt
every_sum f (x ∷ xs) most h = (omega (arith, h, sum_by-cons f x xs), every_sum f xs most (omega (arith, h, sum_by-cons f x xs)))

-- the starts of leaves
right_at : (ops : List OpSig) (component : ComponentForm) → IsComponent ops component → IsRightAt (Some component)
right_at ops (a_cell shape starts effects) h = h.1
right_at ops (a_table key shape starts effects) h = h.2
right_at ops (a_set key effects) h = tt
right_at ops (a_tally effects) h = tt
right_at ops (tallies key effects) h = tt

-- the asks of queries
abbrev AskAnswers : List ComponentForm → QueryForm → Option AskForm → Type 0
AskAnswers components query None = Unit {0}
AskAnswers components query (Some ask) = HasKind components (param_sorts query.params) ask (sort_kind query.sort)

asks_answer : (components : List ComponentForm) (asks : List AskForm) (queries : List QueryForm) → AreMatched (Answers components) asks (map query_sig queries) → (i : ℕ) (query : QueryForm) → slice_get queries i ≡ Some query → AskAnswers components query (slice_get asks i)
asks_answer components [] [] h i query e = tt
asks_answer components (ask ∷ asks) (q ∷ queries) h zero query e = let same : q ≡ query = cc in subst (λ (x : QueryForm). HasKind components (param_sorts x.params) ask (sort_kind x.sort)) same h.0
asks_answer components (ask ∷ asks) (q ∷ queries) h (suc i) query e = asks_answer components asks queries h.1 i query e
asks_answer components [] (q ∷ queries) h i query e = absurd h
asks_answer components (ask ∷ asks) [] h i query e = absurd h

module _ (ty : TypeForm) (design : DesignForm) (relation : List Conjunct) (accepted : AreAccepted ty design relation) where
  starts_sound : Every IsSound ty.fields
  starts_sound =
      every_three StartFits IsLimitedStart StartIsNamed IsSound ty.fields (λ f p q r. record { fits = p; few = q; named = r }) (every_all StartFits ty.fields accepted.sorted.starts)
      (every_all IsLimitedStart ty.fields accepted.limits.starts) (every_all StartIsNamed ty.fields accepted.named.starts)

  sound : AreSound ty design
  sound = record { starts = λ f. by_field f (slice_get ty.fields f) refl; leaves = λ c. by_component c (slice_get design.components c) refl; slots = λ c. by_size c (slice_get design.components c) refl }
    where
      by_field : (f : ℕ) (o : Option Field) → slice_get ty.fields f ≡ o → IsSoundAt o
      by_field f None e = tt
      by_field f (Some x) e = every_get IsSound ty.fields f x starts_sound e

      by_component : (c : ℕ) (o : Option ComponentForm) → slice_get design.components c ≡ o → IsRightAt o
      by_component c None e = tt
      by_component c (Some x) e = right_at design.sig.ops x (every_get (IsComponent design.sig.ops) design.components c x (each_every (IsComponent design.sig.ops) design.components accepted.right.components) e)

      by_size : (c : ℕ) (o : Option ComponentForm) → slice_get design.components c ≡ o → component_cost o ≤ value_slots
      by_size c None e = value_some
      by_size c (Some x) e = component_cheap x (omega (arith, sum_has component_size design.components c x e, accepted.right.small))

  matched : AreMatched (Answers design.components) design.asks (map query_sig ty.queries)
  matched = subst (λ (s : _). AreMatched (Answers design.components) design.asks s) (ap (λ s. s.queries) accepted.signature) accepted.right.asks

  ask_small : (q : ℕ) (ask : AskForm) → slice_get design.asks q ≡ Some ask → ask_nodes ask ≤ SIZE_LIMIT
  ask_small q ask e = omega (arith, sum_has ask_nodes design.asks q ask e, accepted.right.small)

  answer_sound : (q : ℕ) (query : Option QueryForm) (ask : Option AskForm) → slice_get ty.queries q ≡ query → slice_get design.asks q ≡ ask → IsAnswerSound ty design.components query ask
  answer_sound q None ask e d = tt
  answer_sound q (Some query) None e d = tt
  answer_sound q (Some query) (Some ask) e d =
      let fits = every_get (QueryFits ty.fields) ty.queries q query (every_all (QueryFits ty.fields) ty.queries accepted.sorted.queries) e in
      let limited = every_get (λ (x : QueryForm). IsLimited x.right) ty.queries q query (every_all (λ (x : QueryForm). IsLimited x.right) ty.queries accepted.limits.queries) e in
      let names = every_get (λ (x : QueryForm). HasNames x.right) ty.queries q query (every_all (λ (x : QueryForm). HasNames x.right) ty.queries accepted.named.queries) e in
      record { right = fits.right; limited = limited; named = names; answers = subst (AskAnswers design.components query) d (asks_answer design.components design.asks ty.queries matched q query e); small = ask_small q ask d }

  operation_sound : (op : OperationForm) → OperationFits ty.fields op → All IsLimitedRight op.assigned → All (λ (a : Assigned). HasNames (right_of a)) op.assigned × (operation_nodes op ≤ node_limit) → OperationIsSound ty op
  operation_sound op fits few more =
      let scope = sorts_of ty.fields op.params in
      record {
        assigned = every_reverse (IsSoundAssigned scope) op.assigned
            (every_three (AssignedFits scope) IsLimitedRight (λ (a : Assigned). HasNames (right_of a)) (IsSoundAssigned scope) op.assigned (λ a p q r. record { fits = p; limited = q; named = r })
            (every_all (AssignedFits scope) op.assigned fits.assigned) (every_all IsLimitedRight op.assigned few) (every_all (λ (a : Assigned). HasNames (right_of a)) op.assigned more.0));
        cheap = operation_cheap op more.1;
        digits = every_weaker (RankFits op.params) IsDigit op.ranks (is_digit op.params) (every_all (RankFits op.params) op.ranks fits.ranks);
      }

  few_nodes : sum_by operation_nodes ty.ops ≤ node_limit
  few_nodes = omega (arith, accepted.limits.nodes)

  all_sound : AllIsSound ty design
  all_sound = record {
    sound = sound;
    queries = λ q. answer_sound q (slice_get ty.queries q) (slice_get design.asks q) refl refl;
    ops = every_three (OperationFits ty.fields) (λ (o : OperationForm). All IsLimitedRight o.assigned) (λ (o : OperationForm). All (λ (a : Assigned). HasNames (right_of a)) o.assigned × (operation_nodes o ≤ node_limit)) (OperationIsSound ty) ty.ops operation_sound
        (every_all (OperationFits ty.fields) ty.ops accepted.sorted.operations) (every_all (λ (o : OperationForm). All IsLimitedRight o.assigned) ty.ops accepted.limits.operations)
        (every_two (λ (o : OperationForm). All (λ (a : Assigned). HasNames (right_of a)) o.assigned) (λ (o : OperationForm). operation_nodes o ≤ node_limit) ty.ops
        (every_all (λ (o : OperationForm). All (λ (a : Assigned). HasNames (right_of a)) o.assigned) ty.ops accepted.named.operations) (every_sum operation_nodes ty.ops node_limit few_nodes));
  }

  digits : Every HasDigit relation
  digits = every_weaker (FitsConjunct ty design.components) HasDigit relation (has_digit ty design.components) (each_every (FitsConjunct ty design.components) relation accepted.conjuncts)

  -- when a reader may have this many slots
  pub light_forms : (slots_most k : ℕ) → ((condition : Condition) → slice_get (conditions ty relation) (k - 1) ≡ Some condition → condition_cost ty design relation condition ≤ slots_most)
      → Every (IsUpTo slots_most fact_most) (forms_among (facts_of_condition ty design relation k))
  light_forms slots_most k room = forms_up slots_most ty design all_sound relation digits k (by_condition (slice_get (conditions ty relation) (k - 1)) refl)
    where
      by_condition : (o : Option Condition) → slice_get (conditions ty relation) (k - 1) ≡ o → HasRoom slots_most ty design all_sound relation digits o
      by_condition None e = tt
      by_condition (Some condition) e = room condition e
