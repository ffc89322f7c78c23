-- Two lists of entries weighed place by place.
use Rattle.std.proofs.Common.{◌≡◌, ◌≢◌, ℕ, zero, suc, ◌+◌, ◌<◌, ◌≤◌, ℤ, pos, unsigned_abs, true, if◌then◌else◌, List, [], ◌∷◌, All, map, drop, sym, ap, ◌∙◌, subst, refl, ◌⊎◌, inl, inr, ⊎_elim, arith}
use Rattle.std.specs.Prelude.{nat_le}
use Rattle.std.specs.List.{zip}
use Rattle.std.proofs.Math.IntN.{*ℤ-zero}
use Rattle.std.proofs.lemmas.Bool.{cases_lt, cases_eq}
use Rattle.std.proofs.lemmas.List.Elements.{All-nil, All-weaker}
use Rattle.kat_linear.specs.Rows.{Term, AreAscending, coefficient_in}
use Rattle.kat_fm.specs.Limits.{Checked, within, checked_map, checked_product, weighed, weighed_all}
use Rattle.kat_fm.specs.Limits.Checked.{fits, passes}
use Rattle.kat_fm.specs.Combinations.{counted}
use Rattle.kat_fm.specs.Entries.{AreEntries, AreWithin, numbers_at, with_entry, IsNextPlace}
use Rattle.kat_fm.proofs.Loops.{map_checked}
use Rattle.kat_fm.proofs.EntryPlaces.{past_all}
use Rattle.kat_fm.proofs.EntryLists.{entry_apart, entry_here, entry_ascending, entry_all}

-- each of the numbers from one on fits, or one passes its limit
pub all_fit : (F : ℕ → Checked ℤ) (h : ℕ → ℤ) (from n : ℕ) → ((w : ℕ) → from ≤ w → w < from + n → F w ≡ fits (h w)) → checked_map F (counted from n) ≡ fits (map h (counted from n))
all_fit F h from zero k = refl
all_fit F h from (suc n) k =
    rw (k from (omega arith) (omega arith), all_fit F h (suc from) n (λ w l m. k w (omega arith) (omega arith))) refl

pub one_passes : (F : ℕ → Checked ℤ) (h : ℕ → ℤ) (from n place : ℕ) (left right : ℤ) → from ≤ place → place < from + n → ((w : ℕ) → from ≤ w → w < place → F w ≡ fits (h w)) → F place ≡ passes left right → checked_map F (counted from n) ≡ passes left right
one_passes F h from zero place left right a b k e = absurd (omega arith)
one_passes F h from (suc n) place left right a b k e = ⊎_elim
    (λ (same : from ≡ place). rw (same, e) refl)
    (λ (apart : from ≢ place). rw (k from (omega arith) (omega arith), one_passes F h (suc from) n place left right (omega arith) (omega arith) (λ w l m. k w (omega arith) m) e) refl)
    (cases_eq from place)

zip_counted : (f g : ℕ → ℤ) (from a b n : ℕ) → n ≤ a → n ≤ b → (n ≡ a) ⊎ (n ≡ b) → zip (map f (counted from a)) (map g (counted from b)) ≡ map {B = ℤ × ℤ} (λ w. (f w, g w)) (counted from n)
zip_counted f g from zero b zero h k e = refl
zip_counted f g from zero b (suc n) h k e = absurd (omega arith)
zip_counted f g from (suc a) zero zero h k e = refl
zip_counted f g from (suc a) zero (suc n) h k e = absurd (omega arith)
zip_counted f g from (suc a) (suc b) zero h k e = ⊎_elim (λ (s : 0 ≡ suc a). absurd (omega arith)) (λ (s : 0 ≡ suc b). absurd (omega arith)) e
zip_counted f g from (suc a) (suc b) (suc n) h k e =
    ap (λ xs. (f from, g from) ∷ xs) (zip_counted f g (suc from) a b n (omega arith) (omega arith) (⊎_elim (λ (s : suc n ≡ suc a). inl (omega arith)) (λ (s : suc n ≡ suc b). inr (omega arith)) e))

-- the numbers at a place, weighed
abbrev pub weighed_at : ℕ → ℤ → ℤ → List Term → List Term → ℕ → Checked ℤ
weighed_at limit f g ps ns w = weighed limit f (coefficient_in ps w) g (coefficient_in ns w)

weighed_by_place : (limit : ℕ) (f g : ℤ) (ps ns : List Term) (a b n : ℕ) → n ≤ a → n ≤ b → (n ≡ a) ⊎ (n ≡ b)
    → weighed_all limit f (numbers_at a ps) g (numbers_at b ns) ≡ checked_map (weighed_at limit f g ps ns) (counted 0 n)
weighed_by_place limit f g ps ns a b n h k e =
    let F : ℤ × ℤ → Checked ℤ = λ x. weighed limit f x.0 g x.1 in
    ap (checked_map F) (zip_counted (coefficient_in ps) (coefficient_in ns) 0 a b n h k e) ∙ map_checked F (λ w. (coefficient_in ps w, coefficient_in ns w)) (counted 0 n)

pub within_zero : (limit : ℕ) (left right : ℤ) → within limit left right (pos 0) ≡ fits (pos 0)
within_zero limit left right = let none : nat_le 0 limit ≡ true = grind arith in ap (λ b. if b then fits (pos 0) else passes left right) none

pub product_zero : (limit : ℕ) (f : ℤ) → checked_product limit f (pos 0) ≡ fits (pos 0)
product_zero limit f = ap (within limit f (pos 0)) (*ℤ-zero f) ∙ within_zero limit f (pos 0)

weighed_zeros : (limit : ℕ) (f g : ℤ) → weighed limit f (pos 0) g (pos 0) ≡ fits (pos 0)
weighed_zeros limit f g = rw (product_zero limit f, product_zero limit g) (within_zero limit (pos 0) (pos 0))

weighed_none : (limit : ℕ) (f g p n : ℤ) → p ≡ pos 0 → n ≡ pos 0 → weighed limit f p g n ≡ fits (pos 0)
weighed_none limit f g p n a b = rw (a, b) (weighed_zeros limit f g)

-- The entries of what is weighed so far, when these are left of both lists.
pub record Merging (limit : ℕ) (f g : ℤ) (count : ℕ) (ps ns ps_left ns_left done : List Term) : Type 0 where
  pub from : ℕ
  pub values : (w : ℕ) → w < from → weighed_at limit f g ps ns w ≡ fits (coefficient_in done w)
  pub done_below : All (λ (e : Term). e.0 < from) done
  pub entries : AreEntries count done
  pub within : AreWithin limit done
  pub plus_same : (w : ℕ) → from ≤ w → coefficient_in ps w ≡ coefficient_in ps_left w
  pub minus_same : (w : ℕ) → from ≤ w → coefficient_in ns w ≡ coefficient_in ns_left w
  pub plus_from : All (λ (e : Term). from ≤ e.0) ps_left
  pub minus_from : All (λ (e : Term). from ≤ e.0) ns_left
  pub plus_ascending : AreAscending ps_left
  pub minus_ascending : AreAscending ns_left

all_from_zero : (es : List Term) → All (λ (e : Term). 0 ≤ e.0) es
all_from_zero es = λ i d h. omega arith

pub merge_begins : (limit : ℕ) (f g : ℤ) (count : ℕ) (ps ns : List Term) → AreAscending ps → AreAscending ns → Merging limit f g count ps ns ps ns []
merge_begins limit f g count ps ns h k = record {
  from = 0;
  values = λ w l. absurd (omega arith);
  done_below = All-nil (λ (e : Term). e.0 < 0);
  entries = record { ascending = tt; below = All-nil (λ (e : Term). e.0 < count); not_zero = All-nil (λ (e : Term). e.1 ≢ pos 0) };
  within = All-nil (λ (e : Term). unsigned_abs e.1 ≤ limit);
  plus_same = λ w l. refl;
  minus_same = λ w l. refl;
  plus_from = all_from_zero ps;
  minus_from = all_from_zero ns;
  plus_ascending = h;
  minus_ascending = k;
}

-- below the next place nothing is left
none_before : (limit : ℕ) (f g : ℤ) (count : ℕ) (ps ns ps_left ns_left done : List Term) (m : Merging limit f g count ps ns ps_left ns_left done) (w : ℕ) → m.from ≤ w
    → coefficient_in ps_left w ≡ pos 0 → coefficient_in ns_left w ≡ pos 0 → weighed_at limit f g ps ns w ≡ fits (pos 0)
none_before limit f g count ps ns ps_left ns_left done m w h a b =
    weighed_none limit f g (coefficient_in ps w) (coefficient_in ns w) (m.plus_same w h ∙ a) (m.minus_same w h ∙ b)

none_done : (limit : ℕ) (f g : ℤ) (count : ℕ) (ps ns ps_left ns_left done : List Term) (m : Merging limit f g count ps ns ps_left ns_left done) (w : ℕ) → m.from ≤ w → coefficient_in done w ≡ pos 0
none_done limit f g count ps ns ps_left ns_left done m w h = past_all done w (All-weaker (λ (e : Term). e.0 < m.from) (λ (e : Term). e.0 < w) (λ e l. omega arith) done m.done_below)

values_before : (limit : ℕ) (f g : ℤ) (count : ℕ) (ps ns ps_left ns_left ps_next ns_next done : List Term) (place : ℕ) (p n : ℤ) → Merging limit f g count ps ns ps_left ns_left done → IsNextPlace ps_left ns_left ps_next ns_next place p n
    → (w : ℕ) → w < place → weighed_at limit f g ps ns w ≡ fits (coefficient_in done w)
values_before limit f g count ps ns ps_left ns_left ps_next ns_next done place p n m is w l = ⊎_elim
    (λ (low : w < m.from). m.values w low)
    (λ (high : m.from ≤ w). none_before limit f g count ps ns ps_left ns_left done m w high (is.before w l).0 (is.before w l).1 ∙ ap fits (sym (none_done limit f g count ps ns ps_left ns_left done m w high)))
    (cases_lt w m.from)

-- the numbers at the next place
value_here : (limit : ℕ) (f g : ℤ) (count : ℕ) (ps ns ps_left ns_left ps_next ns_next done : List Term) (place : ℕ) (p n : ℤ) → Merging limit f g count ps ns ps_left ns_left done → IsNextPlace ps_left ns_left ps_next ns_next place p n
    → weighed_at limit f g ps ns place ≡ weighed limit f p g n
value_here limit f g count ps ns ps_left ns_left ps_next ns_next done place p n m is =
    let reached = is.reached m.from m.plus_from m.minus_from in
    ap (λ x. weighed limit f x g (coefficient_in ns place)) (m.plus_same place reached ∙ sym is.plus) ∙ ap (λ y. weighed limit f p g y) (m.minus_same place reached ∙ sym is.minus)

pub merge_goes_on : (limit : ℕ) (f g : ℤ) (count : ℕ) (ps ns ps_left ns_left ps_next ns_next done new : List Term) (place : ℕ) (p n z : ℤ) → Merging limit f g count ps ns ps_left ns_left done → IsNextPlace ps_left ns_left ps_next ns_next place p n
    → place < count → fits z ≡ weighed limit f p g n → unsigned_abs z ≤ limit → new ≡ with_entry done place z → Merging limit f g count ps ns ps_next ns_next new
merge_goes_on limit f g count ps ns ps_left ns_left ps_next ns_next done new place p n z m is below e small made =
    let reached = is.reached m.from m.plus_from m.minus_from in
    let before : All (λ (e : Term). e.0 < place) done = All-weaker (λ (e : Term). e.0 < m.from) (λ (e : Term). e.0 < place) (λ e l. omega arith) done m.done_below in
    let M : List Term → Type 0 = Merging limit f g count ps ns ps_next ns_next in
    subst M (sym made) (record {
      from = suc place;
      values = λ w l. ⊎_elim
          (λ (same : place ≡ w).
          ap (weighed_at limit f g ps ns) (sym same) ∙ value_here limit f g count ps ns ps_left ns_left ps_next ns_next done place p n m is ∙ sym e ∙ ap fits (sym (entry_here done place z before)) ∙ ap (λ v. fits (coefficient_in (with_entry done place z) v)) same)
          (λ (apart : place ≢ w). values_before limit f g count ps ns ps_left ns_left ps_next ns_next done place p n m is w (omega arith) ∙ ap fits (sym (entry_apart done place z w apart)))
          (cases_eq place w);
      done_below = entry_all (λ (e : Term). e.0 < suc place) done place z (All-weaker (λ (e : Term). e.0 < place) (λ (e : Term). e.0 < suc place) (λ e l. omega arith) done before) (λ k. omega arith);
      entries = record {
        ascending = entry_ascending done place z m.entries.ascending before;
        below = entry_all (λ (e : Term). e.0 < count) done place z m.entries.below (λ k. below);
        not_zero = entry_all (λ (e : Term). e.1 ≢ pos 0) done place z m.entries.not_zero (λ k. k);
      };
      within = entry_all (λ (e : Term). unsigned_abs e.1 ≤ limit) done place z m.within (λ k. small);
      plus_same = λ w l. m.plus_same w (omega arith) ∙ (is.behind w (omega arith)).0;
      minus_same = λ w l. m.minus_same w (omega arith) ∙ (is.behind w (omega arith)).1;
      plus_from = All-weaker (λ (e : Term). place < e.0) (λ (e : Term). suc place ≤ e.0) (λ e l. omega arith) ps_next is.plus_behind;
      minus_from = All-weaker (λ (e : Term). place < e.0) (λ (e : Term). suc place ≤ e.0) (λ e l. omega arith) ns_next is.minus_behind;
      plus_ascending = is.plus_ascending;
      minus_ascending = is.minus_ascending;
    })

pub merge_stops : (limit : ℕ) (f g : ℤ) (a b count : ℕ) (ps ns ps_left ns_left ps_next ns_next done : List Term) (place : ℕ) (p n left right : ℤ) → Merging limit f g count ps ns ps_left ns_left done → IsNextPlace ps_left ns_left ps_next ns_next place p n
    → count ≤ a → count ≤ b → (count ≡ a) ⊎ (count ≡ b) → place < count → passes left right ≡ weighed limit f p g n → passes left right ≡ weighed_all limit f (numbers_at a ps) g (numbers_at b ns)
merge_stops limit f g a b count ps ns ps_left ns_left ps_next ns_next done place p n left right m is ha hb one below e =
    sym (weighed_by_place limit f g ps ns a b count ha hb one ∙ one_passes (weighed_at limit f g ps ns) (coefficient_in done) 0 count place left right (omega arith) (omega arith)
    (λ w l k. values_before limit f g count ps ns ps_left ns_left ps_next ns_next done place p n m is w k)
    (value_here limit f g count ps ns ps_left ns_left ps_next ns_next done place p n m is ∙ sym e))

-- nothing is left below the count
pub merge_ends : (limit : ℕ) (f g : ℤ) (a b count : ℕ) (ps ns ps_left ns_left done : List Term) → Merging limit f g count ps ns ps_left ns_left done
    → ((w : ℕ) → w < count → (coefficient_in ps_left w ≡ pos 0) × (coefficient_in ns_left w ≡ pos 0)) → count ≤ a → count ≤ b → (count ≡ a) ⊎ (count ≡ b)
    → fits (numbers_at count done) ≡ weighed_all limit f (numbers_at a ps) g (numbers_at b ns)
merge_ends limit f g a b count ps ns ps_left ns_left done m none ha hb one =
    sym (weighed_by_place limit f g ps ns a b count ha hb one ∙ all_fit (weighed_at limit f g ps ns) (coefficient_in done) 0 count (λ w l k. ⊎_elim
    (λ (low : w < m.from). m.values w low)
    (λ (high : m.from ≤ w). none_before limit f g count ps ns ps_left ns_left done m w high (none w (omega arith)).0 (none w (omega arith)).1 ∙ ap fits (sym (none_done limit f g count ps ns ps_left ns_left done m w high)))
    (cases_lt w m.from)))

-- the same when both lists have other names
pub next_in : (xs ys ps ns : List Term) (i j i_next j_next place : ℕ) (p n : ℤ) → xs ≡ ps → ys ≡ ns → IsNextPlace (drop i xs) (drop j ys) (drop i_next xs) (drop j_next ys) place p n → IsNextPlace (drop i ps) (drop j ns) (drop i_next ps) (drop j_next ns) place p n
next_in xs ys ps ns i j i_next j_next place p n e f h =
    let P : List Term → Type 0 = λ zs. IsNextPlace (drop i zs) (drop j ys) (drop i_next zs) (drop j_next ys) place p n in
    let Q : List Term → Type 0 = λ zs. IsNextPlace (drop i ps) (drop j zs) (drop i_next ps) (drop j_next zs) place p n in
    subst Q f (subst P e h)

-- the next place is past the count
pub merge_past : (limit : ℕ) (f g : ℤ) (a b count : ℕ) (ps ns ps_left ns_left ps_next ns_next done : List Term) (place : ℕ) (p n : ℤ) → Merging limit f g count ps ns ps_left ns_left done → IsNextPlace ps_left ns_left ps_next ns_next place p n
    → count ≤ place → count ≤ a → count ≤ b → (count ≡ a) ⊎ (count ≡ b) → fits (numbers_at count done) ≡ weighed_all limit f (numbers_at a ps) g (numbers_at b ns)
merge_past limit f g a b count ps ns ps_left ns_left ps_next ns_next done place p n m is past ha hb one =
    merge_ends limit f g a b count ps ns ps_left ns_left done m (λ w l. is.before w (omega arith)) ha hb one

-- nothing is left
pub merge_whole : (limit : ℕ) (f g : ℤ) (a b count : ℕ) (ps ns ps_left ns_left done : List Term) → Merging limit f g count ps ns ps_left ns_left done
    → ps_left ≡ [] → ns_left ≡ [] → count ≤ a → count ≤ b → (count ≡ a) ⊎ (count ≡ b) → fits (numbers_at count done) ≡ weighed_all limit f (numbers_at a ps) g (numbers_at b ns)
merge_whole limit f g a b count ps ns ps_left ns_left done m e k ha hb one =
    merge_ends limit f g a b count ps ns ps_left ns_left done m (λ w l. (ap (λ es. coefficient_in es w) e, ap (λ es. coefficient_in es w) k)) ha hb one
