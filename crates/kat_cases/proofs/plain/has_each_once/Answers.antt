use Rattle.std.proofs.Common.{◌≡◌, ℤ, pos, unsigned_abs, List, take, get_or, All, refl, sym, rules, arith, subst, FitsSigned}
use Rattle.std.specs.Int.{w32}
use Rattle.std.specs.List.{AllPairs}
use Rattle.std.proofs.lemmas.Int.{to_z-of_z}
use Rattle.std.proofs.lemmas.List.{take_more, take_all}
use Rattle.std.proofs.lemmas.List.Quantifiers.{all_pairs_push}
use Rattle.kat_cases.proofs.plain.has_each_once.Goals as goal

pub loop-i-preserved : goal.loop-i-preserved
loop-i-preserved c =
    let lits = c.args.literals.now in
    let i = c.loop-i.i in
    let x = get_or c.args.literals.now c.loop-i.i (pos 0) in
    let R : ℤ → ℤ → Type 0 = λ k m. unsigned_abs k ≡ unsigned_abs m → ⊥ in
    let P : List ℤ → Type 0 = AllPairs (λ (k m : ℤ). unsigned_abs k ≡ unsigned_abs m → ⊥) in
    let Q : ℤ → Type 0 = λ z. All (λ (k : ℤ). unsigned_abs k ≡ unsigned_abs z → ⊥) (take c.loop-i.i c.args.literals.now) in
    let fits : FitsSigned w32 (get_or c.args.literals.now c.loop-i.i (pos 0)) = search rules in
    let apart : All (λ (k : ℤ). unsigned_abs k ≡ unsigned_abs (get_or c.args.literals.now c.loop-i.i (pos 0)) → ⊥) (take c.loop-i.i c.args.literals.now) = subst Q (to_z-of_z w32 x fits) (c.if-not-is_apart.ensures refl) in
    subst P (sym (take_more lits i (pos 0) c.loop-i-test.true)) (all_pairs_push R (take i lits) x c.loop-i.invariant apart)

pub returns : goal.returns
returns c = λ _.
    let P : List ℤ → Type 0 = AllPairs (λ (k m : ℤ). unsigned_abs k ≡ unsigned_abs m → ⊥) in
    subst P (take_all c.loop-i.i c.args.literals.now (omega arith)) c.loop-i.invariant
