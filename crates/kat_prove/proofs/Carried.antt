-- A point that is carried over to a condition is decisive for its facts.
use Rattle.std.proofs.Common.{◌≡◌, ℕ, List, Option, Result, subst}
use Rattle.std.specs.Prelude.{IfOk, IfSome}
use Rattle.kat_form.specs.Encodings.{Encoding}
use Rattle.kat_form.specs.Facts.{Fact}
use Rattle.kat_form.specs.Readings.{encoding_of, numbers_of_facts}
use Rattle.kat_cases.specs.Points.{IsDecisive}
use Rattle.kat_cases.specs.declared.decision.Point.{Point}
use Rattle.kat_drop.specs.Certificates.{point_form}
use Rattle.kat_prove.specs.Trials.{IsDecisiveFor}

-- a point that is found decides an encoding
abbrev IsFoundIn : {E : Type 0} → Result (Option Point) E → Encoding → ℕ → Type 0
IsFoundIn {E} r e numbers = IfOk r (λ found. IfSome found (λ p. IsDecisive e numbers p.den p.nums.items p.truths.items))

pub carried_ok : {E : Type 0} (r : Result (Option Point) E) (e : Encoding) (numbers : ℕ) (facts : List Fact) → e ≡ encoding_of facts → numbers ≡ numbers_of_facts facts
    → IfOk r (λ found. IfSome found (λ p. IsDecisive e numbers p.den p.nums.items p.truths.items))
    → IfOk r (λ found. IfSome found (λ p. IsDecisiveFor facts (point_form p)))
carried_ok r e numbers facts is count h = subst (λ x. IsFoundIn r x (numbers_of_facts facts)) is (subst (λ n. IsFoundIn r e n) count h)
