-- Of what differences are made.
use Rattle.std.proofs.Common.{◌≡◌, List, [], ◌∷◌, Option, Some, None, Result, IfOk, refl, sym, ◌∙◌, subst, inl, inr}
use Rattle.std.specs.Prelude.{IfSome}
use Rattle.std.specs.declared.cmp.Ordering.{Ordering}
use Rattle.std.specs.List.{AllByRecursion}
use Rattle.std.proofs.lemmas.Result.{IfOk-weaker}
use Rattle.kat_join.specs.JoinLaws.{JoinLaws}
use Rattle.kat_lattice.specs.Maps.{MapsKin, Table}
use Rattle.kat_lattice.specs.declared.parts.Pair.{Pair}
use Rattle.kat_type.specs.Lists.{Has}
use Rattle.kat_difference.specs.Differences.{IsFilled, IsFrom, IsWholeOrNone}
use Rattle.kat_difference.specs.Maps.{entry_told, value_told}
use Rattle.kat_difference.specs.Pairs.{paired}
use Rattle.kat_difference.specs.Picking.{Picks, nothing, skips, tells}
use Rattle.kat_difference.specs.Pieces.{AreEntriesOf, IsPieceOfMap, IsPieceOfOne, IsPieceOfPair, IsPieceOrStart, IsWhole}

whole_piece : {L : Type 0} (joined : L → L → L) (known value : L) (o : Option L) → IsWholeOrNone joined known value o → IfSome o (IsWhole value)
whole_piece joined known value None w = tt
whole_piece joined known value (Some d) w = w.0

-- of what a call gives that tells a value whole
pub whole_pieces : {L X : Type 0} {kin : L → L → Type 0} {joined : L → L → L} → JoinLaws kin joined → {start known value : L} (r : Result (Option L) X) → IsFrom kin joined start known → IsFrom kin joined start value → IfOk r (IsWholeOrNone joined known value) → IfOk r (λ (o : Option L). IfSome o (IsWhole value))
whole_pieces {L} {X} {kin} {joined} laws {start} {known} {value} r h k w = IfOk-weaker r (IsWholeOrNone joined known value) (λ (o : Option L). IfSome o (IsWhole value)) (whole_piece joined known value) w

filled_piece : {L : Type 0} (is_piece : L → L → Type 0) (start value : L) (o : Option L) (told : L) → IfSome o (is_piece value) → IsFilled start o told → IsPieceOrStart is_piece start value told
filled_piece is_piece start value None told p f = inr f
filled_piece {L} is_piece start value (Some d) told p f = inl (subst (is_piece value) (sym f) p)

pub filled_pieces : {L X : Type 0} (is_piece : L → L → Type 0) (start value : L) (o : Option L) (r : Result L X) → IfSome o (is_piece value) → IfOk r (IsFilled start o) → IfOk r (IsPieceOrStart is_piece start value)
filled_pieces {L} {X} is_piece start value o r p f =
    IfOk-weaker r (IsFilled start o) (IsPieceOrStart is_piece start value) (λ told is. filled_piece is_piece start value o told p is) f

pair_piece : {A B : Type 0} (a_piece : A → A → A → Type 0) (b_piece : B → B → B → Type 0) (start value : Pair A B) (o : Option A) (p : Option B) → IfSome o (a_piece start.first value.first) → IfSome p (b_piece start.second value.second) → IfSome (paired start o p) (IsPieceOfPair a_piece b_piece start value)
pair_piece a_piece b_piece start value None None h k = tt
pair_piece a_piece b_piece start value (Some a) None h k = record { first = inl h; second = inr refl }
pair_piece a_piece b_piece start value None (Some b) h k = record { first = inr refl; second = inl k }
pair_piece a_piece b_piece start value (Some a) (Some b) h k = record { first = inl h; second = inl k }

pub pair_pieces : {A B X : Type 0} (a_piece : A → A → A → Type 0) (b_piece : B → B → B → Type 0) (start value : Pair A B) (o : Option A) (p : Option B) (r : Result (Option (Pair A B)) X) → IfSome o (a_piece start.first value.first) → IfSome p (b_piece start.second value.second) → IfOk r (λ (t : Option (Pair A B)). t ≡ paired start o p)
    → IfOk r (λ (t : Option (Pair A B)). IfSome t (IsPieceOfPair a_piece b_piece start value))
pair_pieces {A} {B} {X} a_piece b_piece start value o p r h k made =
    IfOk-weaker r (λ (t : Option (Pair A B)). t ≡ paired start o p) (λ (t : Option (Pair A B)). IfSome t (IsPieceOfPair a_piece b_piece start value))
    (λ t is. subst (λ (x : Option (Pair A B)). IfSome x (IsPieceOfPair a_piece b_piece start value)) (sym is) (pair_piece a_piece b_piece start value o p h k)) made

pub each_weaker : {E : Type 0} (P Q : E → Type 0) (xs : List E) → ((x : E) → P x → Q x) → AllByRecursion P xs → AllByRecursion Q xs
each_weaker P Q [] f h = tt
each_weaker P Q (x ∷ xs) f h = (f x h.0, each_weaker P Q xs f h.1)

-- what is told of each entry is that entry
picked_entries : {E : Type 0} {told : E → Option E → Type 0} → ((y d : E) → told y (Some d) → d ≡ y) → (ys ds : List E) → Picks told ys ds → AreEntriesOf ys ds
picked_entries f _ _ nothing = tt
picked_entries {E} f _ _ (skips y ys ds t more) = each_weaker (Has ys) (Has (y ∷ ys)) ds (λ x h. inr h) (picked_entries f ys ds more)
picked_entries {E} f _ _ (tells y d ys ds t more) = (inl (sym (f y d t)), each_weaker (Has ys) (Has (y ∷ ys)) ds (λ x h. inr h) (picked_entries f ys ds more))

pub entries_of : {E : Type 0} {told : E → Option E → Type 0} → ((y d : E) → told y (Some d) → d ≡ y) → (value es ds given : List E) → es ≡ value → Picks told es ds → given ≡ ds → AreEntriesOf value given
entries_of {E} f value es ds given all picks is =
    subst (λ (xs : List E). AreEntriesOf value xs) (sym is) (subst (λ (xs : List E). AreEntriesOf xs ds) all (picked_entries f es ds picks))

-- what is told of a map's entries: what their values lack, and pieces of these
pub picked_values : {K V : Type 0} (cmp : K → K → Ordering) (kin : V → V → Type 0) (joined : V → V → V) (exact : Type 0) (is_piece : V → V → Type 0) (known : Table K V) (ys ds : List (K × V)) → Picks (entry_told cmp kin joined exact is_piece known) ys ds → Picks (value_told cmp kin joined exact known) ys ds
picked_values cmp kin joined exact is_piece known _ _ nothing = nothing
picked_values cmp kin joined exact is_piece known _ _ (skips y ys ds t more) = skips y ys ds t.0 (picked_values cmp kin joined exact is_piece known ys ds more)
picked_values cmp kin joined exact is_piece known _ _ (tells y d ys ds t more) = tells y d ys ds t.0 (picked_values cmp kin joined exact is_piece known ys ds more)

later_piece : {K V : Type 0} (is_piece : V → V → Type 0) (y : K × V) (ys : List (K × V)) (d : K × V) → IsPieceOfOne is_piece ys d → IsPieceOfOne is_piece (y ∷ ys) d
later_piece is_piece y ys d p = record { entry = p.entry; has = inr p.has; key = p.key; value = p.value }

picked_pieces : {K V : Type 0} (cmp : K → K → Ordering) (kin : V → V → Type 0) (joined : V → V → V) (exact : Type 0) (is_piece : V → V → Type 0) (known : Table K V) (ys ds : List (K × V)) → Picks (entry_told cmp kin joined exact is_piece known) ys ds → AllByRecursion (IsPieceOfOne is_piece ys) ds
picked_pieces cmp kin joined exact is_piece known _ _ nothing = tt
picked_pieces cmp kin joined exact is_piece known _ _ (skips y ys ds t more) =
    each_weaker (IsPieceOfOne is_piece ys) (IsPieceOfOne is_piece (y ∷ ys)) ds (later_piece is_piece y ys) (picked_pieces cmp kin joined exact is_piece known ys ds more)
picked_pieces cmp kin joined exact is_piece known _ _ (tells y d ys ds t more) = (
  record { entry = y; has = inl refl; key = t.0.0; value = t.1 },
  each_weaker (IsPieceOfOne is_piece ys) (IsPieceOfOne is_piece (y ∷ ys)) ds (later_piece is_piece y ys) (picked_pieces cmp kin joined exact is_piece known ys ds more),
)

-- of the map that a call makes of these entries
pub map_pieces : {K V : Type 0} {cmp : K → K → Ordering} {kin : V → V → Type 0} {joined : V → V → V} (exact : Type 0) (is_piece : V → V → V → Type 0) (start known value told : Table K V) (es ds : List (K × V)) → MapsKin cmp kin joined start known → MapsKin cmp kin joined start value → es ≡ value.entries → Picks (entry_told cmp kin joined exact (is_piece known.start) known) es ds → told.start ≡ known.start → told.entries ≡ ds
    → IsPieceOfMap (is_piece start.start) value told
map_pieces {K} {V} {cmp} {kin} {joined} exact is_piece start known value told es ds h k all picks starts is =
    let here : AllByRecursion (IsPieceOfOne (is_piece known.start) es) ds = picked_pieces cmp kin joined exact (is_piece known.start) known es ds picks in
    record {
      start = starts ∙ (sym h.starts ∙ k.starts);
      entries = subst (λ (xs : List (K × V)). AllByRecursion (IsPieceOfOne (is_piece start.start) value.entries) xs) (sym is)
          (subst (λ (xs : List (K × V)). AllByRecursion (IsPieceOfOne (is_piece start.start) xs) ds) all
          (subst (λ (s : V). AllByRecursion (IsPieceOfOne (is_piece s) es) ds) (sym h.starts) here));
    }
