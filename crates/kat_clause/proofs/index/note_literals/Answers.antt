use Rattle.std.proofs.Common.{◌≡◌, ℕ, ◌<◌, ◌++◌, ◌∷◌, ℤ, pos, List, [], length, set, get_or, sym, ap, ◌∙◌, arith, rules, subst, Contains, FitsSigned, below_more, Vec}
use Rattle.std.specs.Global.{Global}
use Rattle.std.specs.Int.{w32}
use Rattle.std.proofs.lemmas.Int.{to_z-of_z}
use Rattle.std.proofs.lemmas.List.{length-map}
use Rattle.kat_clause.specs.Literals.{code_of}
use Rattle.kat_clause.specs.Tables.{rows, KeepsRows}
use Rattle.kat_clause.proofs.Codes.{Contains-at, at-Contains}
use Rattle.kat_clause.proofs.Indexes.{KeepsRows-trans, KeepsRows-push, noted_push, rows-push, rows-same}
use Rattle.kat_clause.proofs.index.note_literals.Goals as goal

pub returns-in_err-push-clause-keeps : goal.returns-in_err-push-clause-keeps
returns-in_err-push-clause-keeps c =
    let literal = get_or c.args.clause.now c.loop-literal.literal-index (pos 0) in
    let fits : FitsSigned w32 literal = search rules in
    let code : c.code.result ≡ code_of literal = c.code.ensures ∙ ap code_of (to_z-of_z w32 literal fits) in
    let below : c.code.result < length (rows c.loop-literal.table.items) = rw (code, c.loop-literal.invariant.0.size) (c.requires literal (Contains-at c.args.clause.now c.loop-literal.literal-index (omega arith))) in
    let within : c.code.result < length c.loop-literal.table.items = omega (arith, length-map c.loop-literal.table.items (λ (r : Vec ℕ Global). r.items)) in
    let is : c.index_mut.result.now ≡ get_or c.loop-literal.table.items c.code.result c.index_mut.result.now = c.index_mut.ensures.value in
    rw (rows-same c.loop-literal.table.items c.code.result c.index_mut.result.now c.push.new.self within is c.in_err-push.ensures.items) c.loop-literal.invariant.0

pub loop-literal-preserved : goal.loop-literal-preserved
loop-literal-preserved c =
    let literal = get_or c.args.clause.now c.loop-literal.literal-index (pos 0) in
    let fits : FitsSigned w32 literal = search rules in
    let code : c.code.result ≡ code_of literal = c.code.ensures ∙ ap code_of (to_z-of_z w32 literal fits) in
    let below : c.code.result < length (rows c.loop-literal.table.items) = rw (code, c.loop-literal.invariant.0.size) (c.requires literal (Contains-at c.args.clause.now c.loop-literal.literal-index (omega arith))) in
    let within : c.code.result < length c.loop-literal.table.items = omega (arith, length-map c.loop-literal.table.items (λ (r : Vec ℕ Global). r.items)) in
    let is : c.index_mut.result.now ≡ get_or c.loop-literal.table.items c.code.result c.index_mut.result.now = c.index_mut.ensures.value in
    let old = rows c.loop-literal.table.items in
    let now : List (List ℕ) = set old c.code.result (get_or old c.code.result [] ++ c.args.number ∷ []) in
    let grows : KeepsRows old now = KeepsRows-push old c.code.result c.args.number below in
    let here : Contains (get_or now (code_of literal) []) c.args.number = rw (sym code) (noted_push old c.code.result c.args.number below) in
    rw (rows-push c.loop-literal.table.items c.code.result c.args.number c.index_mut.result.now c.push.new.self within is c.in_ok-push.ensures.items) (
      KeepsRows-trans (rows c.args.table.now.items) old now c.loop-literal.invariant.0 grows,
      below_more (λ j. Contains (get_or now (code_of (get_or c.args.clause.now j (pos 0))) []) c.args.number) c.loop-literal.literal-index
          (λ j h. grows.kept (code_of (get_or c.args.clause.now j (pos 0))) c.args.number (c.loop-literal.invariant.1 j h)) here,
    )

pub returns-clause-noted : goal.returns-clause-noted
returns-clause-noted c = λ k has.
    let P : ℤ → Type 0 = λ x. Contains (get_or (rows c.loop-literal.table.items) (code_of x) []) c.args.number in
    subst P (at-Contains c.args.clause.now k has) (c.loop-literal.invariant.1 has.0 (omega (arith, has.1)))
