use Rattle.std.proofs.Common.{◌≡◌, ℕ, ◌<◌, ℤ, List, length, take, false, None, sym, ap, ◌∙◌, arith, subst}
use Rattle.std.proofs.lemmas.List.{length-map, take-map, get_or-map}
use Rattle.kat_clause.specs.Known.{Known}
use Rattle.kat_cases.specs.declared.assumptions.Level.{Level}
use Rattle.kat_cases.specs.Levels.{kept_at}
use Rattle.kat_cases.specs.Assuming.{assumed_in, kept_in, IsAssuming}
use Rattle.kat_cases.proofs.Assuming.{assuming_behind, assuming_back}
use Rattle.kat_cases.proofs.assumptions.Assumptions.undo.Goals as goal

-- the levels' parts, if some are kept
kept_part : (levels more : List Level) (n : ℕ) → more ≡ take n levels → kept_in more ≡ take n (kept_in levels)
kept_part levels more n e = ap kept_in e ∙ sym (take-map (λ (l : Level). l.kept) n levels)

assumed_part : (levels more : List Level) (n : ℕ) → more ≡ take n levels → assumed_in more ≡ take n (assumed_in levels)
assumed_part levels more n e = ap assumed_in e ∙ sym (take-map (λ (l : Level). l.literal) n levels)

below : (levels : List Level) (n m : ℕ) → n < m → m ≡ length levels → n < length (kept_in levels)
below levels n m h e = omega (arith, h, e, length-map levels (λ (l : Level). l.kept))

pub invariant_of-self-then-is_behind : goal.invariant_of-self-then-is_behind
invariant_of-self-then-is_behind c =
    let inside = c.self.inside in
    let levels = inside.levels.items in
    let n = c.args.kept in
    let is = assuming_behind inside.watches (assumed_in levels) (kept_in levels) inside.clash inside.settled n (below levels n c.len.result c.if-len-kept.false (c.len.ensures ∙ inside.levels.ok.0)) (c.is_behind.ensures.behind c.if-is_behind.true) c.self.invariant in
    let P : List ℤ → List ℕ → Type 0 = λ a k. IsAssuming inside.watches a k inside.clash false in
    subst (λ (a : List ℤ). P a (kept_in c.truncate.new.self.items)) (sym (assumed_part levels c.truncate.new.self.items n c.truncate.ensures.items))
    (subst (P (take n (assumed_in levels))) (sym (kept_part levels c.truncate.new.self.items n c.truncate.ensures.items)) is)

pub returns-then-is_behind : goal.returns-then-is_behind
returns-then-is_behind c =
    let inside = c.self.inside in
    let F : Known → Known = λ v. record { greatest = v.greatest; clauses = v.clauses; assumed = take c.args.kept v.assumed; settled = false } in
    let G : List ℤ → Known = λ a. record { greatest = inside.watches.greatest; clauses = inside.watches.clauses; assumed = a; settled = false } in
    ap G (assumed_part inside.levels.items c.truncate.new.self.items c.args.kept c.truncate.ensures.items) ∙ ap F c.self.view_is

pub undo-requires : goal.undo-requires
undo-requires c =
    let inside = c.self.inside in
    let levels = inside.levels.items in
    let n = c.args.kept in
    let low = below levels n c.len.result c.if-len-kept.false (c.len.ensures ∙ inside.levels.ok.0) in
    let within = c.self.invariant.levels.within n low in
    let same : kept_at (kept_in levels) n ≡ c.index-level.result.now.kept = get_or-map (λ (l : Level). l.kept) levels n c.index-level.result.now 0 (omega (arith, low, length-map levels (λ (l : Level). l.kept))) ∙ ap (λ (l : Level). l.kept) (sym c.index-level.ensures) in
    omega (arith, within, same)

pub invariant_of-self-2 : goal.invariant_of-self-2
invariant_of-self-2 c =
    let inside = c.self.inside in
    let levels = inside.levels.items in
    let n = c.args.kept in
    let low = below levels n c.len.result c.if-len-kept.false (c.len.ensures ∙ inside.levels.ok.0) in
    let same : kept_at (kept_in levels) n ≡ c.index-level.result.now.kept = get_or-map (λ (l : Level). l.kept) levels n c.index-level.result.now 0 (omega (arith, low, length-map levels (λ (l : Level). l.kept))) ∙ ap (λ (l : Level). l.kept) (sym c.index-level.ensures) in
    let is = assuming_back inside.watches c.undo.new.self (assumed_in levels) (kept_in levels) inside.clash inside.settled n c.index-level.result.now.kept low (c.is_behind.ensures.before c.if-is_behind.false) (sym same) c.undo.ensures c.self.invariant in
    let P : List ℤ → List ℕ → Type 0 = λ a k. IsAssuming c.undo.new.self a k None false in
    subst (λ (a : List ℤ). P a (kept_in c.truncate-2.new.self.items)) (sym (assumed_part levels c.truncate-2.new.self.items n c.truncate-2.ensures.items))
    (subst (P (take n (assumed_in levels))) (sym (kept_part levels c.truncate-2.new.self.items n c.truncate-2.ensures.items)) is)

pub returns : goal.returns
returns c =
    let inside = c.self.inside in
    let F : Known → Known = λ v. record { greatest = v.greatest; clauses = v.clauses; assumed = take c.args.kept v.assumed; settled = false } in
    let G : List ℤ → Known = λ a. record { greatest = c.undo.new.self.greatest; clauses = c.undo.new.self.clauses; assumed = a; settled = false } in
    let H : Known → Known = λ v. record { greatest = v.greatest; clauses = v.clauses; assumed = take c.args.kept (assumed_in inside.levels.items); settled = false } in
    ap G (assumed_part inside.levels.items c.truncate-2.new.self.items c.args.kept c.truncate-2.ensures.items)
    ∙ ap (λ w. record { greatest = w.greatest; clauses = w.clauses; assumed = take c.args.kept (assumed_in inside.levels.items); settled = false }) c.undo.ensures
    ∙ ap F c.self.view_is
