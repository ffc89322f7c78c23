-- Multipliers that are so low that no limit is passed when they are weighed.
use Rattle.std.proofs.Common.{◌≡◌, ℕ, ◌+◌, ◌*◌, ◌≤◌, ◌^◌, ℤ, ◌+ℤ◌, ◌*ℤ◌, unsigned_abs, All, List, [], ◌∷◌, length, drop, get_or, map, refl, sym, ap, ◌∙◌, subst, arith, ◌<◌}
use Rattle.std.specs.List.{zip}
use Rattle.std.proofs.lemmas.List.{drop_all, drop_more}
use Rattle.std.proofs.lemmas.List.Elements.{All-nil, All-cons, All-head, All-tail}
use Rattle.kat_linear.specs.Rows.{Term, AreAscending, coefficient_in}
use Rattle.kat_fm.specs.Limits.{Checked, and_then, checked_map, weighed, weighed_all}
use Rattle.kat_fm.specs.Limits.Checked.{fits, passes}
use Rattle.kat_fm.specs.Entries.{AreWithin}
use Rattle.kat_fm.proofs.EntryPlaces.{coefficient_small}
use Rattle.kat_fm.proofs.Products.{product_size, sum_size, weighed_fits}

-- the numbers from a place on are low, if the number there is, and those after it are
pub low_rest : (es : List Term) (i n : ℕ) (d : Term) → i < length es → unsigned_abs (get_or es i d).1 ≤ n → AreWithin n (drop (i + 1) es) → AreWithin n (drop i es)
low_rest es i n d h low rest =
    let P : List Term → Type 0 = λ xs. AreWithin n xs in
    subst P (sym (drop_more es i d h)) (All-cons (λ (e : Term). unsigned_abs e.1 ≤ n) (get_or es i d) (drop (i + 1) es) low rest)

pub low_end : (es : List Term) (i n : ℕ) → length es ≤ i → AreWithin n (drop i es)
low_end es i n h =
    let P : List Term → Type 0 = λ xs. AreWithin n xs in
    subst P (sym (drop_all i es h)) (All-nil (λ (e : Term). unsigned_abs e.1 ≤ n))

pub all_low : (es : List Term) (n : ℕ) → AreAscending es → All (λ (t : Term). unsigned_abs t.1 ≤ n) es → (ws : List ℕ) → All (λ z. unsigned_abs z ≤ n) (map (λ w. coefficient_in es w) ws)
all_low es n h k [] = All-nil (λ z. unsigned_abs z ≤ n)
all_low es n h k (w ∷ ws) = All-cons (λ z. unsigned_abs z ≤ n) (coefficient_in es w) (map (λ w. coefficient_in es w) ws) (coefficient_small es w n h k) (all_low es n h k ws)

low_fits : (f p g n : ℤ) → unsigned_abs f ≤ 2 ^ 31 → unsigned_abs g ≤ 2 ^ 31 → unsigned_abs p ≤ 2 ^ 30 → unsigned_abs n ≤ 2 ^ 30 → fits ((f *ℤ p) +ℤ (g *ℤ n)) ≡ weighed (2 ^ 62) f p g n
low_fits f p g n a b h k =
    let x = product_size f p (2 ^ 31) (2 ^ 30) a h in
    let y = product_size g n (2 ^ 31) (2 ^ 30) b k in
    let s = sum_size (f *ℤ p) (g *ℤ n) (2 ^ 31 * 2 ^ 30) (2 ^ 31 * 2 ^ 30) x y in
    weighed_fits (2 ^ 62) f p g n (omega arith) (omega arith) (omega arith)

pub lows_fit : (f g : ℤ) → unsigned_abs f ≤ 2 ^ 31 → unsigned_abs g ≤ 2 ^ 31 → (ps ns : List ℤ) → All (λ z. unsigned_abs z ≤ 2 ^ 30) ps → All (λ z. unsigned_abs z ≤ 2 ^ 30) ns → (ms : List ℤ) × (fits ms ≡ weighed_all (2 ^ 62) f ps g ns)
lows_fit f g a b [] ns h k = ([], refl)
lows_fit f g a b (p ∷ ps) [] h k = ([], refl)
lows_fit f g a b (p ∷ ps) (n ∷ ns) h k =
    let rest = lows_fit f g a b ps ns (All-tail (λ z. unsigned_abs z ≤ 2 ^ 30) p ps h) (All-tail (λ z. unsigned_abs z ≤ 2 ^ 30) n ns k) in
    let one = low_fits f p g n a b (All-head (λ z. unsigned_abs z ≤ 2 ^ 30) p ps h) (All-head (λ z. unsigned_abs z ≤ 2 ^ 30) n ns k) in
    (((f *ℤ p) +ℤ (g *ℤ n)) ∷ rest.0, ap (λ (c : Checked ℤ). and_then c (λ y. and_then (fits rest.0) (λ ys. fits (y ∷ ys)))) one ∙ ap (λ (c : Checked (List ℤ)). and_then (weighed (2 ^ 62) f p g n) (λ y. and_then c (λ ys. fits (y ∷ ys)))) rest.1)
