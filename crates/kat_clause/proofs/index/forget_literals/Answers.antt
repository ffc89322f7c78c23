use Rattle.std.proofs.Common.{◌≡◌, ◌<◌, ℕ, pos, length, get_or, ap, ◌∙◌, arith, rules, FitsSigned, Vec}
use Rattle.std.specs.Global.{Global}
use Rattle.std.specs.Int.{w32}
use Rattle.std.proofs.lemmas.Int.{to_z-of_z}
use Rattle.std.proofs.lemmas.List.{length-map}
use Rattle.kat_clause.specs.Literals.{code_of}
use Rattle.kat_clause.specs.Tables.{rows}
use Rattle.kat_clause.proofs.Codes.{Contains-at}
use Rattle.kat_clause.proofs.Indexes.{KeepsBut-trans, rows-written}
use Rattle.kat_clause.proofs.index.forget_literals.Goals as goal

pub loop-literal-preserved : goal.loop-literal-preserved
loop-literal-preserved c =
    let literal = get_or c.args.clause.now c.loop-literal.literal-index (pos 0) in
    let fits : FitsSigned w32 literal = search rules in
    let code : c.code.result ≡ code_of literal = c.code.ensures ∙ ap code_of (to_z-of_z w32 literal fits) in
    let below : c.code.result < length (rows c.loop-literal.table.items) = rw (code, c.loop-literal.invariant.size) (c.requires literal (Contains-at c.args.clause.now c.loop-literal.literal-index (omega arith))) in
    let within : c.code.result < length c.loop-literal.table.items = omega (arith, length-map c.loop-literal.table.items (λ (r : Vec ℕ Global). r.items)) in
    KeepsBut-trans c.args.number (rows c.args.table.now.items) (rows c.loop-literal.table.items) _ c.loop-literal.invariant
    (rows-written c.loop-literal.table.items c.code.result c.index_mut.result.now c.forget_last.new.row c.args.number within c.index_mut.ensures.value c.forget_last.ensures)
