use Rattle.std.proofs.Common.{◌≡◌, ℕ, ℤ, neg_ℤ, List, [], ◌∷◌, ◌++◌, length, false, Option, sym, ap, ◌∙◌, rules, subst, Contains, FitsSigned, to_z, of_z}
use Rattle.std.specs.Int.{w32}
use Rattle.std.proofs.lemmas.Int.{to_z-of_z}
use Rattle.std.proofs.lemmas.List.{length-map, map-append}
use Rattle.kat_clause.specs.Known.{Known}
use Rattle.kat_watch.specs.Watched.{Step, Watched}
use Rattle.kat_cases.specs.declared.assumptions.Level.{Level}
use Rattle.kat_cases.specs.Assuming.{assumed_in, kept_in, IsAssuming}
use Rattle.kat_cases.proofs.Assuming.{assuming_enter}
use Rattle.kat_cases.proofs.assumptions.Assumptions.assume.Goals as goal

-- a level more
finish : (w : Watched) (levels more : List Level) (level : Level) (clash : Option ℕ) → more ≡ levels ++ level ∷ [] → IsAssuming w (assumed_in levels ++ level.literal ∷ []) (kept_in levels ++ level.kept ∷ []) clash false → IsAssuming w (assumed_in more) (kept_in more) clash false
finish w levels more level clash e is =
    let literals : assumed_in more ≡ assumed_in levels ++ level.literal ∷ [] = ap assumed_in e ∙ map-append (λ (l : Level). l.literal) levels (level ∷ []) in
    let kepts : kept_in more ≡ kept_in levels ++ level.kept ∷ [] = ap kept_in e ∙ map-append (λ (l : Level). l.kept) levels (level ∷ []) in
    let P : List ℤ → List ℕ → Type 0 = λ a k. IsAssuming w a k clash false in
    subst (λ (a : List ℤ). P a (kept_in more)) (sym literals) (subst (P (assumed_in levels ++ level.literal ∷ [])) (sym kepts) is)

pub invariant_of-self-2 : goal.invariant_of-self-2
invariant_of-self-2 c =
    let inside = c.self.inside in
    let levels = inside.levels.items in
    let l = to_z w32 (of_z w32 c.args.literal) in
    let fits : FitsSigned w32 c.args.literal = search rules in
    let count : c.len-number.result ≡ length (assumed_in levels) = c.len-number.ensures ∙ inside.levels.ok.0 ∙ sym (length-map levels (λ (level : Level). level.literal)) in
    let kept : length c.trail.result.now ≡ length inside.watches.trail = ap length c.trail.ensures ∙ length-map inside.watches.trail (λ (s : Step). s.literal) in
    let P : Known → Type 0 = λ v. Contains v.assumed (neg_ℤ c.args.literal) → ⊥ in
    let Q : ℤ → Type 0 = λ z. Contains (assumed_in levels) (neg_ℤ z) → ⊥ in
    let apart = subst Q (sym (to_z-of_z w32 c.args.literal fits)) (subst P (sym c.self.view_is) c.requires.apart) in
    finish c.enter.new.watches levels c.push.new.self.items _ c.enter.new.clash c.in_ok-push.ensures.items
    (assuming_enter inside.watches c.enter.new.watches (assumed_in levels) (kept_in levels) inside.clash c.enter.new.clash inside.settled l c.len-number.result _ c.self.invariant count kept apart c.enter.ensures)
