-- What a combination_of of two rows is.
use Rattle.std.proofs.Common.{◌≡◌, ℕ, zero, suc, ◌/◌, ◌^◌, ◌<◌, ◌≤◌, ℤ, pos, negsuc, ◌+ℤ◌, ◌*ℤ◌, ◌≤ℤ◌, List, [], ◌∷◌, length, get_or, Bool, true, false, All, if◌then◌else◌, refl, sym, ap, ◌∙◌, subst, arith, unsigned_abs, nat_le}
use Rattle.std.proofs.Math.IntN.{*ℤ-zero}
use Rattle.std.proofs.lemmas.Int.{ints}
use Rattle.std.proofs.lemmas.Bool.{leb-true}
use Rattle.std.proofs.lemmas.List.Elements.{All-head, All-tail, All-nil, All-cons, All-same}
use Rattle.kat_linear.specs.Rows.{Form, coefficient}
use Rattle.kat_linear.specs.Sums.{combined}
use Rattle.kat_linear.proofs.Integers.{mul-add, add-mul, mul_assoc}
use Rattle.kat_fm.specs.Limits.{Checked, and_then, within, checked_product, checked_sum, weighed, weighed_all}
use Rattle.kat_fm.specs.Limits.Checked.{fits, passes}
use Rattle.kat_fm.specs.Combinations.{Combination, at, gcd, weighed_rows, combination_of}
use Rattle.kat_fm.proofs.Tracks.{dot, IsTracked}

-- what follows fits only if what goes before does
pub and_then_fits : {A B : Type 0} (x : Checked A) (f : A → Checked B) (r : B) → and_then x f ≡ fits r → (a : A) × (x ≡ fits a) × (f a ≡ fits r)
and_then_fits (fits a) f r e = (a, refl, e)
and_then_fits (passes left right) f r e = absurd (cc)

fits_same : {A : Type 0} (a b : A) → fits a ≡ fits b → a ≡ b
fits_same a b e = cc

within_cases : (b : Bool) (left right z w : ℤ) → (if b then fits z else passes left right) ≡ fits w → w ≡ z
within_cases true left right z w e = cc
within_cases false left right z w e = absurd (cc)

pub within_fits : (limit : ℕ) (left right z w : ℤ) → within limit left right z ≡ fits w → w ≡ z
within_fits limit left right z w e = within_cases (nat_le (unsigned_abs z) limit) left right z w e

small_case : (b : Bool) (limit : ℕ) (left right z w : ℤ) → nat_le (unsigned_abs z) limit ≡ b → (if b then fits z else passes left right) ≡ fits w → unsigned_abs w ≤ limit
small_case true limit left right z w h e = let P : ℤ → Type 0 = λ x. unsigned_abs x ≤ limit in subst P (fits_same z w e) (leb-true (unsigned_abs z) limit h)
small_case false limit left right z w h e = absurd (cc)

-- what fits is within the limit
pub within_small : (limit : ℕ) (left right z w : ℤ) → within limit left right z ≡ fits w → unsigned_abs w ≤ limit
within_small limit left right z w e = small_case (nat_le (unsigned_abs z) limit) limit left right z w refl e

pub weighed_small : (limit : ℕ) (f p g n z : ℤ) → weighed limit f p g n ≡ fits z → unsigned_abs z ≤ limit
weighed_small limit f p g n z e =
    let first = and_then_fits (checked_product limit f p) (λ x. and_then (checked_product limit g n) (λ y. checked_sum limit x y)) z e in
    let second = and_then_fits (checked_product limit g n) (λ y. checked_sum limit first.0 y) z first.2 in
    within_small limit first.0 second.0 (first.0 +ℤ second.0) z second.2

pub weighed_all_small : (limit : ℕ) (f : ℤ) (ps : List ℤ) (g : ℤ) (ns zs : List ℤ) → weighed_all limit f ps g ns ≡ fits zs → All (λ m. unsigned_abs m ≤ limit) zs
weighed_all_small limit f [] g ns zs e = All-same (λ m. unsigned_abs m ≤ limit) zs [] (sym (fits_same [] zs e)) (All-nil (λ m. unsigned_abs m ≤ limit))
weighed_all_small limit f (p ∷ ps) g [] zs e = All-same (λ m. unsigned_abs m ≤ limit) zs [] (sym (fits_same [] zs e)) (All-nil (λ m. unsigned_abs m ≤ limit))
weighed_all_small limit f (p ∷ ps) g (n ∷ ns) zs e =
    let first = and_then_fits (weighed limit f p g n) (λ z. and_then (weighed_all limit f ps g ns) (λ more. fits (z ∷ more))) zs e in
    let second = and_then_fits (weighed_all limit f ps g ns) (λ more. fits (first.0 ∷ more)) zs first.2 in
    All-same (λ m. unsigned_abs m ≤ limit) zs (first.0 ∷ second.0) (sym (fits_same (first.0 ∷ second.0) zs second.2))
    (All-cons (λ m. unsigned_abs m ≤ limit) first.0 second.0 (weighed_small limit f p g n first.0 first.1) (weighed_all_small limit f ps g ns second.0 second.1))

pub weighed_fits : (limit : ℕ) (f p g n z : ℤ) → weighed limit f p g n ≡ fits z → z ≡ (f *ℤ p) +ℤ (g *ℤ n)
weighed_fits limit f p g n z e =
    let first = and_then_fits (checked_product limit f p) (λ x. and_then (checked_product limit g n) (λ y. checked_sum limit x y)) z e in
    let second = and_then_fits (checked_product limit g n) (λ y. checked_sum limit first.0 y) z first.2 in
    let x : first.0 ≡ f *ℤ p = within_fits limit f p (f *ℤ p) first.0 first.1 in
    let y : second.0 ≡ g *ℤ n = within_fits limit g n (g *ℤ n) second.0 second.1 in
    let whole : z ≡ first.0 +ℤ second.0 = within_fits limit first.0 second.0 (first.0 +ℤ second.0) z second.2 in
    whole ∙ ap (λ k. k +ℤ second.0) x ∙ ap (λ k. (f *ℤ p) +ℤ k) y

-- f p + g n, number by number
abbrev pub plain : ℤ → List ℤ → ℤ → List ℤ → List ℤ
plain f [] g ns = []
plain f (p ∷ ps) g [] = []
plain f (p ∷ ps) g (n ∷ ns) = ((f *ℤ p) +ℤ (g *ℤ n)) ∷ plain f ps g ns

pub weighed_all_fits : (limit : ℕ) (f : ℤ) (ps : List ℤ) (g : ℤ) (ns zs : List ℤ) → weighed_all limit f ps g ns ≡ fits zs → zs ≡ plain f ps g ns
weighed_all_fits limit f [] g ns zs e = cc
weighed_all_fits limit f (p ∷ ps) g [] zs e = cc
weighed_all_fits limit f (p ∷ ps) g (n ∷ ns) zs e =
    let first = and_then_fits (weighed limit f p g n) (λ z. and_then (weighed_all limit f ps g ns) (λ more. fits (z ∷ more))) zs e in
    let second = and_then_fits (weighed_all limit f ps g ns) (λ more. fits (first.0 ∷ more)) zs first.2 in
    let head : first.0 ≡ (f *ℤ p) +ℤ (g *ℤ n) = weighed_fits limit f p g n first.0 first.1 in
    let tail : second.0 ≡ plain f ps g ns = weighed_all_fits limit f ps g ns second.0 second.1 in
    let whole : first.0 ∷ second.0 ≡ zs = fits_same (first.0 ∷ second.0) zs second.2 in
    sym whole ∙ ap (λ z. z ∷ second.0) head ∙ ap (λ more. ((f *ℤ p) +ℤ (g *ℤ n)) ∷ more) tail

pub length-plain : (f : ℤ) (ps : List ℤ) (g : ℤ) (ns : List ℤ) → length ps ≡ length ns → length (plain f ps g ns) ≡ length ps
length-plain f [] g ns h = refl
length-plain f (p ∷ ps) g [] h = absurd (omega arith)
length-plain f (p ∷ ps) g (n ∷ ns) h = ap suc (length-plain f ps g ns (omega arith))

pub get_or-plain : (f : ℤ) (ps : List ℤ) (g : ℤ) (ns : List ℤ) (v : ℕ) → length ps ≡ length ns → v < length ps → get_or (plain f ps g ns) v (pos 0) ≡ (f *ℤ get_or ps v (pos 0)) +ℤ (g *ℤ get_or ns v (pos 0))
get_or-plain f [] g ns v h below = absurd (omega arith)
get_or-plain f (p ∷ ps) g [] v h below = absurd (omega arith)
get_or-plain f (p ∷ ps) g (n ∷ ns) zero h below = refl
get_or-plain f (p ∷ ps) g (n ∷ ns) (suc v) h below = get_or-plain f ps g ns v (omega arith) (omega arith)

-- two weighed numbers, each times another
spread : (f p g n x a b : ℤ) → (((f *ℤ p) +ℤ (g *ℤ n)) *ℤ x) +ℤ ((f *ℤ a) +ℤ (g *ℤ b)) ≡ (f *ℤ ((p *ℤ x) +ℤ a)) +ℤ (g *ℤ ((n *ℤ x) +ℤ b))
spread f p g n x a b =
    rw (add-mul (f *ℤ p) (g *ℤ n) x, mul_assoc f p x, mul_assoc g n x, mul-add f (p *ℤ x) a, mul-add g (n *ℤ x) b) (omega (arith, ints))

pub dot-plain : (f : ℤ) (ps : List ℤ) (g : ℤ) (ns nums : List ℤ) → length ps ≡ length ns → dot (plain f ps g ns) nums ≡ (f *ℤ dot ps nums) +ℤ (g *ℤ dot ns nums)
dot-plain f [] g [] nums h = rw (*ℤ-zero f, *ℤ-zero g) refl
dot-plain f [] g (n ∷ ns) nums h = absurd (omega arith)
dot-plain f (p ∷ ps) g [] nums h = absurd (omega arith)
dot-plain f (p ∷ ps) g (n ∷ ns) [] h = rw (*ℤ-zero f, *ℤ-zero g) refl
dot-plain f (p ∷ ps) g (n ∷ ns) (x ∷ xs) h = rw (dot-plain f ps g ns xs (omega arith)) (spread f p g n x (dot ps xs) (dot ns xs))

-- the sum of the rows under weighed multipliers
pub combined-plain : (number : Form → ℤ) (forms : List Form) (f : ℤ) (ps : List ℤ) (g : ℤ) (ns : List ℤ) → length ps ≡ length ns → combined number forms (plain f ps g ns) ≡ (f *ℤ combined number forms ps) +ℤ (g *ℤ combined number forms ns)
combined-plain number [] f ps g ns h = rw (*ℤ-zero f, *ℤ-zero g) refl
combined-plain number (r ∷ rs) f [] g [] h = rw (*ℤ-zero f, *ℤ-zero g) refl
combined-plain number (r ∷ rs) f [] g (n ∷ ns) h = absurd (omega arith)
combined-plain number (r ∷ rs) f (p ∷ ps) g [] h = absurd (omega arith)
combined-plain number (r ∷ rs) f (p ∷ ps) g (n ∷ ns) h = rw (combined-plain number rs f ps g ns (omega arith)) (spread f p g n (number r) (combined number rs ps) (combined number rs ns))

at_least : (m : ℕ) (x : ℤ) → pos 0 ≤ℤ x → pos 0 ≤ℤ (pos m *ℤ x)
at_least m (pos x) k = omega (arith, ints)
at_least m (negsuc x) k = absurd (omega (arith, ints))

pub signs-plain : (f : ℕ) (ps : List ℤ) (g : ℕ) (ns : List ℤ) → All (λ m. pos 0 ≤ℤ m) ps → All (λ m. pos 0 ≤ℤ m) ns → All (λ m. pos 0 ≤ℤ m) (plain (pos f) ps (pos g) ns)
signs-plain f [] g ns h k = All-nil (λ m. pos 0 ≤ℤ m)
signs-plain f (p ∷ ps) g [] h k = All-nil (λ m. pos 0 ≤ℤ m)
signs-plain f (p ∷ ps) g (n ∷ ns) h k =
    let a : pos 0 ≤ℤ (pos f *ℤ p) = at_least f p (All-head (λ m. pos 0 ≤ℤ m) p ps h) in
    let b : pos 0 ≤ℤ (pos g *ℤ n) = at_least g n (All-head (λ m. pos 0 ≤ℤ m) n ns k) in
    All-cons (λ m. pos 0 ≤ℤ m) ((pos f *ℤ p) +ℤ (pos g *ℤ n)) (plain (pos f) ps (pos g) ns) (omega (arith, ints))
    (signs-plain f ps g ns (All-tail (λ m. pos 0 ≤ℤ m) p ps h) (All-tail (λ m. pos 0 ≤ℤ m) n ns k))

-- the parts of a combination_of
pub record IsWeighed (f : ℕ) (p : Combination) (g : ℕ) (n row : Combination) : Type 0 where
  pub coefficients : row.coefficients ≡ plain (pos f) p.coefficients (pos g) n.coefficients
  pub constant : row.constant ≡ (pos f *ℤ p.constant) +ℤ (pos g *ℤ n.constant)
  pub multipliers : row.multipliers ≡ plain (pos f) p.multipliers (pos g) n.multipliers
  pub small : All (λ m. unsigned_abs m ≤ 2 ^ 62) row.multipliers

pub weighed_rows_fits : (f : ℕ) (p : Combination) (g : ℕ) (n row : Combination) → weighed_rows (pos f) p (pos g) n ≡ fits row → IsWeighed f p g n row
weighed_rows_fits f p g n row e =
    let last : List ℤ → ℤ → List ℤ → Checked Combination = λ cs k ms. fits (record { coefficients = cs; constant = k; multipliers = ms }) in
    let first = and_then_fits (weighed_all (2 ^ 126) (pos f) p.coefficients (pos g) n.coefficients) (λ cs. and_then (weighed (2 ^ 126) (pos f) p.constant (pos g) n.constant) (λ k. and_then (weighed_all (2 ^ 62) (pos f) p.multipliers (pos g) n.multipliers) (λ ms. last cs k ms))) row e in
    let second = and_then_fits (weighed (2 ^ 126) (pos f) p.constant (pos g) n.constant) (λ k. and_then (weighed_all (2 ^ 62) (pos f) p.multipliers (pos g) n.multipliers) (λ ms. last first.0 k ms)) row first.2 in
    let third = and_then_fits (weighed_all (2 ^ 62) (pos f) p.multipliers (pos g) n.multipliers) (λ ms. last first.0 second.0 ms) row second.2 in
    let whole : record { coefficients = first.0; constant = second.0; multipliers = third.0 } ≡ row = fits_same _ row third.2 in
    record {
      coefficients = ap (λ (r : Combination). r.coefficients) (sym whole) ∙ weighed_all_fits (2 ^ 126) (pos f) p.coefficients (pos g) n.coefficients first.0 first.1;
      constant = ap (λ (r : Combination). r.constant) (sym whole) ∙ weighed_fits (2 ^ 126) (pos f) p.constant (pos g) n.constant second.0 second.1;
      multipliers = ap (λ (r : Combination). r.multipliers) (sym whole) ∙ weighed_all_fits (2 ^ 62) (pos f) p.multipliers (pos g) n.multipliers third.0 third.1;
      small = All-same (λ m. unsigned_abs m ≤ 2 ^ 62) row.multipliers third.0 (ap (λ (r : Combination). r.multipliers) (sym whole)) (weighed_all_small (2 ^ 62) (pos f) p.multipliers (pos g) n.multipliers third.0 third.1);
    }

pub weighed_tracked : (forms : List Form) (vars : ℕ) (f : ℕ) (p : Combination) (g : ℕ) (n row : Combination) → IsTracked forms vars p → IsTracked forms vars n → IsWeighed f p g n row → IsTracked forms vars row
weighed_tracked forms vars f p g n row tp tn is =
    let sizes : length p.coefficients ≡ length n.coefficients = tp.size ∙ sym tn.size in
    let counts : length p.multipliers ≡ length n.multipliers = tp.count ∙ sym tn.count in
    record {
      size = ap length is.coefficients ∙ length-plain (pos f) p.coefficients (pos g) n.coefficients sizes ∙ tp.size;
      count = ap length is.multipliers ∙ length-plain (pos f) p.multipliers (pos g) n.multipliers counts ∙ tp.count;
      coefficients = λ v below.
          ap (λ cs. get_or cs v (pos 0)) is.coefficients
          ∙ get_or-plain (pos f) p.coefficients (pos g) n.coefficients v sizes (omega (arith, tp.size))
          ∙ rw (tp.coefficients v below, tn.coefficients v below) (sym (combined-plain (coefficient v) forms (pos f) p.multipliers (pos g) n.multipliers counts))
          ∙ ap (combined (coefficient v) forms) (sym is.multipliers);
      constant =
          is.constant
          ∙ rw (tp.constant, tn.constant) (sym (combined-plain (λ (r : Form). r.constant) forms (pos f) p.multipliers (pos g) n.multipliers counts))
          ∙ ap (combined (λ (r : Form). r.constant) forms) (sym is.multipliers);
      signs = let P : List ℤ → Type 0 = λ ms. All (λ m. pos 0 ≤ℤ m) ms in subst P (sym is.multipliers) (signs-plain f p.multipliers g n.multipliers tp.signs tn.signs);
      small = is.small;
    }

-- a row's sum at numerators over a denominator, times that denominator
abbrev pub value : ℤ → List ℤ → Combination → ℤ
value den nums row = dot row.coefficients nums +ℤ row.constant *ℤ den

pub weighed_value : (den : ℤ) (nums : List ℤ) (f : ℕ) (p : Combination) (g : ℕ) (n row : Combination) → length p.coefficients ≡ length n.coefficients → IsWeighed f p g n row
    → value den nums row ≡ (pos f *ℤ value den nums p) +ℤ (pos g *ℤ value den nums n)
weighed_value den nums f p g n row sizes is =
    let dp = dot p.coefficients nums in
    let dn = dot n.coefficients nums in
    let kp = p.constant *ℤ den in
    let kn = n.constant *ℤ den in
    let cs : dot row.coefficients nums ≡ (pos f *ℤ dp) +ℤ (pos g *ℤ dn) = ap (λ xs. dot xs nums) is.coefficients ∙ dot-plain (pos f) p.coefficients (pos g) n.coefficients nums sizes in
    let k : row.constant *ℤ den ≡ (pos f *ℤ kp) +ℤ (pos g *ℤ kn) =
    ap (λ x. x *ℤ den) is.constant ∙ add-mul (pos f *ℤ p.constant) (pos g *ℤ n.constant) den ∙ rw (mul_assoc (pos f) p.constant den, mul_assoc (pos g) n.constant den) refl in
    rw (cs, k, mul-add (pos f) dp kp, mul-add (pos g) dn kn) (omega (arith, ints))

pub combinations_tracked : (forms : List Form) (vars v : ℕ) (p n row : Combination) → IsTracked forms vars p → IsTracked forms vars n → combination_of v p n ≡ fits row → IsTracked forms vars row
unfolding combination_of
combinations_tracked forms vars v p n row tp tn e =
    let a = unsigned_abs (at v p) in
    let b = unsigned_abs (at v n) in
    weighed_tracked forms vars (b / gcd a b) p (a / gcd a b) n row tp tn (weighed_rows_fits (b / gcd a b) p (a / gcd a b) n row e)
