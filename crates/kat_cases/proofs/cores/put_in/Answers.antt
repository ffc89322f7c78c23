use Rattle.std.proofs.Common.{◌∙◌, ◌++◌, ◌∷◌, ◌≡◌, ℕ, ℤ, take, drop, unsigned_abs, nat_lt, ap, sym, arith, rules, FitsSigned}
use Rattle.std.specs.List.{prefix_len}
use Rattle.std.specs.Int.{w32}
use Rattle.std.proofs.lemmas.Int.{to_z-of_z}
use Rattle.kat_cases.proofs.Loops.{put_inserts, prefix_below}
use Rattle.kat_cases.proofs.cores.put_in.Goals as goal

pub insert-requires : goal.insert-requires
insert-requires c = omega (arith, c.lower_front-place.ensures, prefix_below (λ (k : ℤ). nat_lt (unsigned_abs k) c.unsigned_abs.result) c.deref.result.now, c.deref.ensures.len)

pub returns : goal.returns
returns c =
    let k = c.args.literal in
    let items = c.args.lits.now.items in
    let fits : FitsSigned w32 c.args.literal = search rules in
    let place_is : c.lower_front-place.result ≡ prefix_len (λ (l : ℤ). nat_lt (unsigned_abs l) (unsigned_abs c.args.literal)) c.args.lits.now.items =
    c.lower_front-place.ensures
    ∙ ap (λ (v : ℕ). prefix_len (λ (l : ℤ). nat_lt (unsigned_abs l) v) c.deref.result.now) (c.unsigned_abs.ensures.value ∙ ap unsigned_abs (to_z-of_z w32 k fits))
    ∙ ap (prefix_len (λ (l : ℤ). nat_lt (unsigned_abs l) (unsigned_abs k))) c.deref.ensures.value in
    c.in_ok-insert.ensures.items
    ∙ ap (λ (x : ℤ). take c.lower_front-place.result items ++ x ∷ drop c.lower_front-place.result items) (to_z-of_z w32 k fits)
    ∙ ap (λ (n : ℕ). take n items ++ k ∷ drop n items) place_is
    ∙ sym (put_inserts k items)
