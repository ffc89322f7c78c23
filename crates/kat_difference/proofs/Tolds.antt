-- What is told of each kind of part, and of states part by part.
use Rattle.std.proofs.Common.{◌≡◌, ◌↔◌, Bool, true, false, List, [], ◌∷◌, map, refl, sym, ◌∙◌, ap, subst, inl, inr}
use Rattle.kat_num.specs.Orders.{value_order}
use Rattle.std.specs.Cmp.{IsTotalOrder}
use Rattle.std.specs.List.{AllByRecursion}
use Rattle.kat_num.specs.declared.values.Value.{Value}
use Rattle.kat_join.proofs.Merges.{union-nil}
use Rattle.kat_lattice.specs.JoinLaws.{IsBelow, JoinLaws}
use Rattle.kat_lattice.specs.Keyed.{by_key, on_value, union}
use Rattle.kat_lattice.specs.MapLaws.{map_laws}
use Rattle.kat_lattice.specs.Maps.{MapsKin, Table, maps_joined}
use Rattle.kat_lattice.specs.Sets.{SetsKin, first_one, set_laws, sets_joined}
use Rattle.kat_lattice.specs.Tallies.{Sums, TalliesKin, tallies_joined, tally_laws}
use Rattle.std.specs.Prelude.{max}
use Rattle.std.specs.Ordering.{nat_cmp}
use Rattle.kat_shape.specs.Forms.{IsChainForm}
use Rattle.kat_shape.specs.Laws.{cell_laws}
use Rattle.kat_shape.specs.Values.{Filled, OneShape, joined, shape_of}
use Rattle.kat_difference.specs.Differences.{IsFrom, Serves}
use Rattle.kat_design.specs.Denotations.{component_meaning, denotation_of}
use Rattle.kat_design.specs.Designs.{ComponentForm, DesignForm}
use Rattle.kat_design.specs.Designs.ComponentForm.{a_cell, a_table, a_set, a_tally, tallies}
use Rattle.kat_design.specs.Meanings.{are_kin, states_of}
use Rattle.kat_design.specs.Parts.{PartsKin, part_joined, parts_joined}
use Rattle.kat_design.specs.declared.states.Part.{Part}
use Rattle.kat_design.specs.declared.states.Part.TheVariants as part
use Rattle.kat_difference.specs.Pieces.{AreEntriesOf, IsPieceOfMap, IsPieceOfOne, IsPieceOrStart, IsWhole}
use Rattle.kat_difference.specs.States.{IsBegun, IsDifference, IsExact, IsPartTold, IsPieceOfPart, ToldEach}

-- what goes with a part of a kind is one of that kind
record Inside {S : Type 0} (kin : S → S → Type 0) (wrap : S → Part) (a : S) (p : Part) : Type 0 where
  value : S
  is : p ≡ wrap value
  goes : kin a value

record Wraps {S : Type 0} (kin : S → S → Type 0) (joins : S → S → S) (wrap : S → Part) : Type 0 where
  inside : (a : S) (p : Part) → PartsKin (wrap a) p → Inside kin wrap a p
  outside : (a b : S) → kin a b → PartsKin (wrap a) (wrap b)
  join : (a b : S) → part_joined (wrap a) (wrap b) ≡ wrap (joins a b)
  one : (a b : S) → wrap a ≡ wrap b → a ≡ b

-- what serves inside serves outside
wrapped : {S : Type 0} {kin : S → S → Type 0} {joins : S → S → S} {wrap : S → Part} → Wraps kin joins wrap → JoinLaws kin joins → (exact : Type 0) (start known whole told : S) → (IsExact (wrap start) → exact) → kin start known → IsPieceOfPart (wrap start) (wrap whole) (wrap told) → Serves kin joins exact start known whole told → IsPartTold (wrap start) (wrap known) (wrap whole) (wrap told)
wrapped {S} {kin} {joins} {wrap} w laws exact start known whole told so h piece s = record {
  goes = w.outside known told (laws.kin_trans known start told (laws.kin_sym start known h) s.from.goes);
  same = w.join known told ∙ (ap wrap s.same ∙ sym (w.join known whole));
  piece = piece;
  nothing = λ a b below. ap wrap (s.nothing (w.one (joins whole known) known (sym (w.join whole known) ∙ below)));
  least = λ is a b. record {
    below = λ other f same.
        let in_other : Inside kin wrap start other = w.inside start other f.goes in
        let o : S = in_other.value in
        let e : other ≡ wrap o = in_other.is in
        let from : joins start o ≡ o = w.one (joins start o) o (sym (w.join start o) ∙ subst (λ (p : Part). part_joined (wrap start) p ≡ p) e f.own) in
        let gives : joins known o ≡ joins known whole = w.one (joins known o) (joins known whole) (sym (w.join known o) ∙ (subst (λ (p : Part). part_joined (wrap known) p ≡ part_joined (wrap known) (wrap whole)) e same ∙ w.join known whole)) in
        let low : joins told o ≡ o = (s.least (so is)).below o (record { goes = in_other.goes; own = from }) gives in
        subst (λ (p : Part). part_joined (wrap told) p ≡ p) (sym e) (w.join told o ∙ ap wrap low);
  };
}

cell_inside : (a : Filled) (p : Part) → PartsKin (part.Cell a) p → Inside OneShape part.Cell a p
cell_inside a (part.Cell b) h = record { value = b; is = refl; goes = h }
cell_inside a _ h = absurd h

table_inside : (a : Table Value Filled) (p : Part) → PartsKin (part.Table a) p → Inside (MapsKin value_order OneShape joined) part.Table a p
table_inside a (part.Table b) h = record { value = b; is = refl; goes = h }
table_inside a _ h = absurd h

set_inside : (a : List Value) (p : Part) → PartsKin (part.Set a) p → Inside (SetsKin value_order) part.Set a p
set_inside a (part.Set b) h = record { value = b; is = refl; goes = h }
set_inside a _ h = absurd h

tally_inside : (a : Sums) (p : Part) → PartsKin (part.Tally a) p → Inside TalliesKin part.Tally a p
tally_inside a (part.Tally b) h = record { value = b; is = refl; goes = h }
tally_inside a _ h = absurd h

tallies_inside : (a : Table Value Sums) (p : Part) → PartsKin (part.Tallies a) p → Inside (MapsKin value_order TalliesKin tallies_joined) part.Tallies a p
tallies_inside a (part.Tallies b) h = record { value = b; is = refl; goes = h }
tallies_inside a _ h = absurd h

cell_one : (a b : Filled) → part.Cell a ≡ part.Cell b → a ≡ b
cell_one a b e = cc

table_one : (a b : Table Value Filled) → part.Table a ≡ part.Table b → a ≡ b
table_one a b e = cc

set_one : (a b : List Value) → part.Set a ≡ part.Set b → a ≡ b
set_one a b e = cc

tally_one : (a b : Sums) → part.Tally a ≡ part.Tally b → a ≡ b
tally_one a b e = cc

tallies_one : (a b : Table Value Sums) → part.Tallies a ≡ part.Tallies b → a ≡ b
tallies_one a b e = cc

pub cell_told : (start known whole told : Filled) → OneShape start known → Serves OneShape joined (IsChainForm (shape_of start)) start known whole told → IsPieceOrStart IsWhole start whole told → IsPartTold (part.Cell start) (part.Cell known) (part.Cell whole) (part.Cell told)
cell_told start known whole told h s p =
    wrapped {kin = OneShape} {joins = joined} {wrap = part.Cell} (record { inside = cell_inside; outside = λ a b k. k; join = λ a b. refl; one = cell_one }) cell_laws (IsChainForm (shape_of start)) start known whole told (λ x. x) h p s

-- a cell that isn't above its start, or is told beside one that isn't, is told whole
pub cell_whole : (start known whole : Filled) → OneShape start known → OneShape start whole → (IsBelow joined start known × IsBelow joined start whole → ⊥) → IsPartTold (part.Cell start) (part.Cell known) (part.Cell whole) (part.Cell whole)
cell_whole start known whole h k never = record {
  goes = cell_laws.kin_trans known start whole (cell_laws.kin_sym start known h) k;
  same = refl;
  piece = inl refl;
  nothing = λ a b below. absurd (never (cell_one (joined start known) known a.own, cell_one (joined start whole) whole b.own));
  least = λ exact a b. absurd (never (cell_one (joined start known) known a.own, cell_one (joined start whole) whole b.own));
}

-- at the start nothing is told
map_piece : {K V : Type 0} (is_piece : V → V → Type 0) (start whole told : Table K V) → start.entries ≡ [] → start.start ≡ whole.start → IsPieceOrStart (IsPieceOfMap is_piece) start whole told → IsPieceOfMap is_piece whole told
map_piece is_piece start whole told e s (inl p) = p
map_piece {K} {V} is_piece start whole told e s (inr is) =
    subst (IsPieceOfMap is_piece whole) (sym is) (record {
      start = s;
      entries = subst (λ (xs : List (K × V)). AllByRecursion (IsPieceOfOne is_piece whole.entries) xs) (sym e) tt;
    })

list_piece : {E : Type 0} (start whole told : List E) → start ≡ [] → IsPieceOrStart AreEntriesOf start whole told → AreEntriesOf whole told
list_piece start whole told e (inl p) = p
list_piece {E} start whole told e (inr is) = subst (λ (xs : List E). AreEntriesOf whole xs) (sym (is ∙ e)) tt

pub table_told : IsTotalOrder value_order → (start known whole told : Table Value Filled) → start.entries ≡ [] → MapsKin value_order OneShape joined start known → MapsKin value_order OneShape joined start whole → Serves (MapsKin value_order OneShape joined) (maps_joined value_order joined) (IsChainForm (shape_of start.start)) start known whole told
    → IsPieceOrStart (IsPieceOfMap IsWhole) start whole told → IsPartTold (part.Table start) (part.Table known) (part.Table whole) (part.Table told)
table_told o start known whole told e h k s p =
    wrapped {kin = MapsKin value_order OneShape joined} {joins = maps_joined value_order joined} {wrap = part.Table} (record { inside = table_inside; outside = λ a b g. g; join = λ a b. refl; one = table_one }) (map_laws o cell_laws) (IsChainForm (shape_of start.start)) start known whole told (λ x. x) h
    (map_piece IsWhole start whole told e k.starts p) s

pub set_told : IsTotalOrder value_order → (start known whole told : List Value) → start ≡ [] → SetsKin value_order start known → Serves (SetsKin value_order) (sets_joined value_order) (Unit {0}) start known whole told → IsPieceOrStart AreEntriesOf start whole told → IsPartTold (part.Set start) (part.Set known) (part.Set whole) (part.Set told)
set_told o start known whole told e h s p =
    wrapped {kin = SetsKin value_order} {joins = sets_joined value_order} {wrap = part.Set} (record { inside = set_inside; outside = λ a b g. g; join = λ a b. refl; one = set_one }) (set_laws o) (Unit {0}) start known whole told (λ x. x) h (list_piece start whole told e p) s

pub tally_told : (start known whole told : Sums) → start ≡ [] → TalliesKin start known → Serves TalliesKin tallies_joined (Unit {0}) start known whole told → IsPieceOrStart AreEntriesOf start whole told → IsPartTold (part.Tally start) (part.Tally known) (part.Tally whole) (part.Tally told)
tally_told start known whole told e h s p =
    wrapped {kin = TalliesKin} {joins = tallies_joined} {wrap = part.Tally} (record { inside = tally_inside; outside = λ a b g. g; join = λ a b. refl; one = tally_one }) tally_laws (Unit {0}) start known whole told (λ x. x) h (list_piece start whole told e p) s

pub tallies_told : IsTotalOrder value_order → (start known whole told : Table Value Sums) → start.entries ≡ [] → MapsKin value_order TalliesKin tallies_joined start known → MapsKin value_order TalliesKin tallies_joined start whole → Serves (MapsKin value_order TalliesKin tallies_joined) (maps_joined value_order tallies_joined) (Unit {0}) start known whole told
    → IsPieceOrStart (IsPieceOfMap AreEntriesOf) start whole told → IsPartTold (part.Tallies start) (part.Tallies known) (part.Tallies whole) (part.Tallies told)
tallies_told o start known whole told e h k s p =
    wrapped {kin = MapsKin value_order TalliesKin tallies_joined} {joins = maps_joined value_order tallies_joined} {wrap = part.Tallies} (record { inside = tallies_inside; outside = λ a b g. g; join = λ a b. refl; one = tallies_one }) (map_laws o tally_laws) (Unit {0}) start known whole told (λ x. x) h
    (map_piece AreEntriesOf start whole told e k.starts p) s

-- what goes with something empty is above it
same_table : {K V : Type 0} (s t : V) (xs ys : List (K × V)) → s ≡ t → xs ≡ ys → ◌≡◌ {A = Table K V} (record { start = s; entries = xs }) (record { start = t; entries = ys })
same_table s t xs ys e f = cc

pub map_from : {V : Type 0} {kin : V → V → Type 0} {joins : V → V → V} (start known : Table Value V) → start.entries ≡ [] → MapsKin value_order kin joins start known → IsFrom (MapsKin value_order kin joins) (maps_joined value_order joins) start known
map_from {V} {kin} {joins} start known e h = record {
  goes = h;
  own = same_table start.start known.start (union (by_key value_order) (on_value joins) start.entries known.entries) known.entries h.starts
      (subst (λ (x : List (Value × V)). union (by_key value_order) (on_value joins) x known.entries ≡ known.entries) (sym e) (union-nil (by_key value_order) (on_value joins) known.entries h.right.ascending));
}

pub set_from : (start known : List Value) → start ≡ [] → SetsKin value_order start known → IsFrom (SetsKin value_order) (sets_joined value_order) start known
set_from start known e h = record { goes = h; own = subst (λ (x : List Value). union value_order first_one x known ≡ known) (sym e) (union-nil value_order first_one known h.right) }

pub tally_from : (start known : Sums) → start ≡ [] → TalliesKin start known → IsFrom TalliesKin tallies_joined start known
tally_from start known e h = record { goes = h; own = subst (λ (x : Sums). union (by_key nat_cmp) (on_value max) x known ≡ known) (sym e) (union-nil (by_key nat_cmp) (on_value max) known h.right.ascending) }

-- part by part

both_same : (x y : Part) (xs ys : List Part) → x ≡ y → xs ≡ ys → x ∷ xs ≡ y ∷ ys
both_same x y xs ys e f = cc

head_same : (x y : Part) (xs ys : List Part) → x ∷ xs ≡ y ∷ ys → x ≡ y
head_same x y xs ys e = cc

tail_same : (x y : Part) (xs ys : List Part) → x ∷ xs ≡ y ∷ ys → xs ≡ ys
tail_same x y xs ys e = cc

none_least : (other : List Part) → are_kin PartsKin [] other → parts_joined [] other ≡ other
none_least [] g = refl
none_least (x ∷ xs) g = absurd g

told_none : (tolds : List Part) → tolds ≡ [] → IsDifference [] [] [] tolds
told_none [] e = record {
  goes = tt;
  same = refl;
  pieces = tt;
  nothing = λ a b below. refl;
  least = λ exact a b. record { below = λ other f same. none_least other f.goes };
}
told_none (x ∷ xs) e = (cc)

head_from : (x y : Part) (xs ys : List Part) → IsFrom (are_kin PartsKin) parts_joined (x ∷ xs) (y ∷ ys) → IsFrom PartsKin part_joined x y
head_from x y xs ys f = record { goes = f.goes.0; own = head_same _ _ _ _ f.own }

tail_from : (x y : Part) (xs ys : List Part) → IsFrom (are_kin PartsKin) parts_joined (x ∷ xs) (y ∷ ys) → IsFrom (are_kin PartsKin) parts_joined xs ys
tail_from x y xs ys f = record { goes = f.goes.1; own = tail_same _ _ _ _ f.own }

more_below : (start known whole told : Part) (starts knowns wholes tolds : List Part) → IsPartTold start known whole told → IsDifference starts knowns wholes tolds → AllByRecursion IsExact (start ∷ starts) → IsFrom (are_kin PartsKin) parts_joined (start ∷ starts) (known ∷ knowns) → IsFrom (are_kin PartsKin) parts_joined (start ∷ starts) (whole ∷ wholes)
    → (other : List Part) → IsFrom (are_kin PartsKin) parts_joined (start ∷ starts) other → parts_joined (known ∷ knowns) other ≡ parts_joined (known ∷ knowns) (whole ∷ wholes) → parts_joined (told ∷ tolds) other ≡ other
more_below start known whole told starts knowns wholes tolds one rest exact a b [] f e = absurd f.goes
more_below start known whole told starts knowns wholes tolds one rest exact a b (x ∷ xs) f e =
    both_same _ _ _ _
    ((one.least exact.0 (head_from start known starts knowns a) (head_from start whole starts wholes b)).below x (head_from start x starts xs f) (head_same _ _ _ _ e))
    ((rest.least exact.1 (tail_from start known starts knowns a) (tail_from start whole starts wholes b)).below xs (tail_from start x starts xs f) (tail_same _ _ _ _ e))

pub told_each : (starts knowns wholes tolds : List Part) → are_kin PartsKin starts knowns → are_kin PartsKin starts wholes → ToldEach starts knowns wholes tolds → IsDifference starts knowns wholes tolds
told_each [] [] [] tolds h k t = told_none tolds t
told_each [] (y ∷ ys) wholes tolds h k t = absurd h
told_each [] [] (z ∷ zs) tolds h k t = absurd k
told_each (x ∷ xs) [] wholes tolds h k t = absurd h
told_each (x ∷ xs) (y ∷ ys) [] tolds h k t = absurd k
told_each (x ∷ xs) (y ∷ ys) (z ∷ zs) [] h k t = absurd t
told_each (x ∷ xs) (y ∷ ys) (z ∷ zs) (d ∷ ds) h k t =
    let rest : IsDifference xs ys zs ds = told_each xs ys zs ds h.1 k.1 t.1 in
    let one : IsPartTold x y z d = t.0 in
    record {
      goes = (one.goes, rest.goes);
      same = both_same _ _ _ _ one.same rest.same;
      pieces = (one.piece, rest.pieces);
      nothing = λ a b below.
          both_same _ _ _ _ (one.nothing (head_from x y xs ys a) (head_from x z xs zs b) (head_same _ _ _ _ below)) (rest.nothing (tail_from x y xs ys a) (tail_from x z xs zs b) (tail_same _ _ _ _ below));
      least = λ exact a b. record { below = more_below x y z d xs ys zs ds one rest exact a b };
    }

pub cell_from : (start known : Filled) → OneShape start known → IsBelow joined start known → IsFrom OneShape joined start known
cell_from start known h k = record { goes = h; own = k }

pub never_both : {P : Type 0} (b : Bool) → (b ≡ true) ↔ P → b ≡ false → P → ⊥
never_both b h e p = (let t : b ≡ true = h.1 p in cc)

-- of states, as calls give them
pub state_told : (d : DesignForm) (known whole starts knowns wholes tolds told : List Part) → starts ≡ denotation_of d [] → knowns ≡ known → wholes ≡ whole → are_kin PartsKin (denotation_of d []) known → are_kin PartsKin (denotation_of d []) whole → ToldEach starts knowns wholes tolds → told ≡ tolds → IsDifference (denotation_of d []) known whole told
state_told d known whole starts knowns wholes tolds told s n w h k each is =
    subst (λ (t : List Part). IsDifference (denotation_of d []) known whole t) (sym is)
    (told_each (denotation_of d []) known whole tolds h k
    (subst (λ (t : List Part). ToldEach t known whole tolds) s (subst (λ (t : List Part). ToldEach starts t whole tolds) n (subst (λ (t : List Part). ToldEach starts knowns t tolds) w each))))

-- what a design gives to no operation
begun_each : (components : List ComponentForm) → AllByRecursion IsBegun (states_of (map component_meaning components) [])
begun_each [] = tt
begun_each (a_cell shape starts effects ∷ components) = (tt, begun_each components)
begun_each (a_table key shape starts effects ∷ components) = (refl, begun_each components)
begun_each (a_set key effects ∷ components) = (refl, begun_each components)
begun_each (a_tally effects ∷ components) = (refl, begun_each components)
begun_each (tallies key effects ∷ components) = ((refl, refl), begun_each components)

pub begun_parts : (d : DesignForm) (parts : List Part) → parts ≡ denotation_of d [] → AllByRecursion IsBegun parts
begun_parts d parts e = subst (λ (t : List Part). AllByRecursion IsBegun t) (sym e) (begun_each d.components)

pub kin_as : (xs ys vs ws : List Part) → vs ≡ xs → ws ≡ ys → are_kin PartsKin xs ys → are_kin PartsKin vs ws
kin_as xs ys vs ws e f h = subst (λ (t : List Part). are_kin PartsKin t ws) (sym e) (subst (λ (t : List Part). are_kin PartsKin xs t) (sym f) h)
