use Rattle.std.proofs.Common.{◌≤◌, ◌*◌, ◌+◌, ◌^◌, ◌+ℤ◌, ◌*ℤ◌, unsigned_abs, arith, rules, FitsSigned}
use Rattle.std.specs.Int.{w64, w128}
use Rattle.std.proofs.lemmas.Int.{to_z-of_z, fits_signed_from_abs}
use Rattle.kat_fm.proofs.Products.{product_size, sum_size, weighed_fits}
use Rattle.kat_fm.proofs.weighing.weigh_low.Goals as goal

pub overflow_mul-first : goal.overflow_mul-first
overflow_mul-first c =
    let f = c.args.weights.now.plus in let p = c.args.p in
    let small = c.args.weights.now.is_small c.requires.small in
    let f_wide : FitsSigned w128 f = search rules in
    let f_fits : FitsSigned w64 f = let l = small.0 in fits_signed_from_abs w64 f (omega arith) in
    let p_fits : FitsSigned w64 p = search rules in
    let size = product_size f p (2 ^ 31) (2 ^ 30) small.0 c.requires.low.0 in
    let first_fits : FitsSigned w64 (f *ℤ p) = fits_signed_from_abs w64 (f *ℤ p) (omega arith) in
    simp to_z-of_z first_fits

pub overflow_mul-second : goal.overflow_mul-second
overflow_mul-second c =
    let g = c.args.weights.now.minus in let n = c.args.n in
    let small = c.args.weights.now.is_small c.requires.small in
    let g_wide : FitsSigned w128 g = search rules in
    let g_fits : FitsSigned w64 g = let l = small.1 in fits_signed_from_abs w64 g (omega arith) in
    let n_fits : FitsSigned w64 n = search rules in
    let size = product_size g n (2 ^ 31) (2 ^ 30) small.1 c.requires.low.1 in
    let second_fits : FitsSigned w64 (g *ℤ n) = fits_signed_from_abs w64 (g *ℤ n) (omega arith) in
    simp to_z-of_z second_fits

pub overflow_add-result : goal.overflow_add-result
overflow_add-result c =
    let f = c.args.weights.now.plus in let p = c.args.p in let g = c.args.weights.now.minus in let n = c.args.n in
    let small = c.args.weights.now.is_small c.requires.small in
    let f_wide : FitsSigned w128 f = search rules in
    let g_wide : FitsSigned w128 g = search rules in
    let f_fits : FitsSigned w64 f = let l = small.0 in fits_signed_from_abs w64 f (omega arith) in
    let g_fits : FitsSigned w64 g = let l = small.1 in fits_signed_from_abs w64 g (omega arith) in
    let p_fits : FitsSigned w64 p = search rules in
    let n_fits : FitsSigned w64 n = search rules in
    let size = product_size f p (2 ^ 31) (2 ^ 30) small.0 c.requires.low.0 in
    let other_size = product_size g n (2 ^ 31) (2 ^ 30) small.1 c.requires.low.1 in
    let first_fits : FitsSigned w64 (f *ℤ p) = fits_signed_from_abs w64 (f *ℤ p) (omega arith) in
    let second_fits : FitsSigned w64 (g *ℤ n) = fits_signed_from_abs w64 (g *ℤ n) (omega arith) in
    let whole = sum_size (f *ℤ p) (g *ℤ n) (2 ^ 31 * 2 ^ 30) (2 ^ 31 * 2 ^ 30) size other_size in
    let sum_fits : FitsSigned w64 ((f *ℤ p) +ℤ (g *ℤ n)) = fits_signed_from_abs w64 ((f *ℤ p) +ℤ (g *ℤ n)) (omega arith) in
    simp to_z-of_z sum_fits

pub returns-clause-value : goal.returns-clause-value
returns-clause-value c =
    let f = c.args.weights.now.plus in let p = c.args.p in let g = c.args.weights.now.minus in let n = c.args.n in
    let small = c.args.weights.now.is_small c.requires.small in
    let f_wide : FitsSigned w128 f = search rules in
    let g_wide : FitsSigned w128 g = search rules in
    let f_fits : FitsSigned w64 f = let l = small.0 in fits_signed_from_abs w64 f (omega arith) in
    let g_fits : FitsSigned w64 g = let l = small.1 in fits_signed_from_abs w64 g (omega arith) in
    let p_fits : FitsSigned w64 p = search rules in
    let n_fits : FitsSigned w64 n = search rules in
    let size = product_size f p (2 ^ 31) (2 ^ 30) small.0 c.requires.low.0 in
    let other_size = product_size g n (2 ^ 31) (2 ^ 30) small.1 c.requires.low.1 in
    let first_fits : FitsSigned w64 (f *ℤ p) = fits_signed_from_abs w64 (f *ℤ p) (omega arith) in
    let second_fits : FitsSigned w64 (g *ℤ n) = fits_signed_from_abs w64 (g *ℤ n) (omega arith) in
    let whole = sum_size (f *ℤ p) (g *ℤ n) (2 ^ 31 * 2 ^ 30) (2 ^ 31 * 2 ^ 30) size other_size in
    let sum_fits : FitsSigned w64 ((f *ℤ p) +ℤ (g *ℤ n)) = fits_signed_from_abs w64 ((f *ℤ p) +ℤ (g *ℤ n)) (omega arith) in
    simp to_z-of_z (weighed_fits (2 ^ 62) f p g n (omega arith) (omega arith) (omega arith))

pub returns-clause-small : goal.returns-clause-small
returns-clause-small c =
    let f = c.args.weights.now.plus in let p = c.args.p in let g = c.args.weights.now.minus in let n = c.args.n in
    let small = c.args.weights.now.is_small c.requires.small in
    let f_wide : FitsSigned w128 f = search rules in
    let g_wide : FitsSigned w128 g = search rules in
    let f_fits : FitsSigned w64 f = let l = small.0 in fits_signed_from_abs w64 f (omega arith) in
    let g_fits : FitsSigned w64 g = let l = small.1 in fits_signed_from_abs w64 g (omega arith) in
    let p_fits : FitsSigned w64 p = search rules in
    let n_fits : FitsSigned w64 n = search rules in
    let size = product_size f p (2 ^ 31) (2 ^ 30) small.0 c.requires.low.0 in
    let other_size = product_size g n (2 ^ 31) (2 ^ 30) small.1 c.requires.low.1 in
    let first_fits : FitsSigned w64 (f *ℤ p) = fits_signed_from_abs w64 (f *ℤ p) (omega arith) in
    let second_fits : FitsSigned w64 (g *ℤ n) = fits_signed_from_abs w64 (g *ℤ n) (omega arith) in
    let whole = sum_size (f *ℤ p) (g *ℤ n) (2 ^ 31 * 2 ^ 30) (2 ^ 31 * 2 ^ 30) size other_size in
    let sum_fits : FitsSigned w64 ((f *ℤ p) +ℤ (g *ℤ n)) = fits_signed_from_abs w64 ((f *ℤ p) +ℤ (g *ℤ n)) (omega arith) in
    let least : unsigned_abs ((f *ℤ p) +ℤ (g *ℤ n)) ≤ 2 ^ 62 = omega arith in
    simp to_z-of_z least
