use Rattle.std.proofs.Common.{◌≡◌, [], length, map, sym, ap, ◌∙◌}
use Rattle.std.specs.Prelude.{not}
use Rattle.std.specs.List.{enumerate_from}
use Rattle.kat_fm.specs.Combinations.{counted}
use Rattle.kat_fm.specs.Eliminations.{strongest, tidied}
use Rattle.kat_fm.specs.Views.{combinations, is_beaten_at, marked}
use Rattle.kat_fm.proofs.Tidiness.{marks_keep}
use Rattle.kat_fm.proofs.tidying.tidy.Goals as goal

pub returns : goal.returns
returns c =
    let rows = c.in_ok-rows.rows.items in
    let marks = c.deref-2.ensures.value ∙ c.in_ok-stays.ensures ∙ ap (λ ws. map (λ place. not (is_beaten_at (combinations ws) place)) (counted 0 (length ws))) c.deref.ensures.value in
    let e : marked c.deref-2.result.now (enumerate_from 0 rows) ≡ tidied (combinations c.args.rows.items) = marks_keep c.deref-2.result.now rows marks ∙ ap (strongest []) c.in_ok-rows.ensures in
    rw (sym e) c.marked_rows.ensures
