use Rattle.std.proofs.Common.{◌≡◌, ◌+◌, ◌<◌, ◌≤◌, List, [], ◌∷◌, length, map, sym, ap, ◌∙◌, subst, arith, rules}
use Rattle.std.proofs.lemmas.List.{length-map, map-append}
use Rattle.kat_refute.specs.Lines.{Line, lines_of}
use Rattle.kat_type.specs.Types.{type_form}
use Rattle.kat_wire.specs.FileForms.{file_form}
use Rattle.kat_check.specs.Acceptance.{encoding_at}
use Rattle.kat_check.specs.Migration.{IsHinting}
use Rattle.kat_check.specs.declared.migration.Hinting.{Hinting}
use Rattle.kat_check.proofs.Checking.{ProvedSoFar, accepted_answered, list_known, missing_answered, more_answered, one_proved, open_answered, places_kept}
use Rattle.kat_check.proofs.Migrating.{hinted_on, hinted_whole}
use Rattle.kat_check.proofs.migration.migrate_conditions.Goals as goal

pub returns-in_default : goal.returns-in_default
returns-in_default c =
    let kept : length (map lines_of c.args.file.now.proof) ≡ length c.as_slice-lists.result.now = length-map c.args.file.now.proof lines_of ∙ sym (ap length c.as_slice-lists.ensures) in
    let past : length c.as_slice-lists.result.now ≤ c.loop-i.i = search rules in
    missing_answered (type_form c.args.ty.now) (file_form c.args.file.now) c.loop-i.i c.in_ok-count.count c.requires c.in_ok-count.ensures.count c.loop-i-test.true c.loop-i.invariant.0 (omega (arith, kept, past))

pub returns-in-Bad : goal.returns-in-Bad
returns-in-Bad c =
    let f = file_form c.args.file.now in
    let e = encoding_at (type_form c.args.ty.now) f (c.loop-i.i + 1) in
    let lookup = c.in-Some.ensures.lookup in
    let known = list_known c.args.file.now.proof c.as_slice-lists.result.now c.loop-i.i c.in-Some.lines.now c.as_slice.result.now c.as_slice-lists.ensures c.as_slice.ensures lookup.3.0 (lookup.3.1 c.in-Some.lines.now) in
    open_answered (type_form c.args.ty.now) f c.loop-i.i c.in_ok-count.count c.in-Bad.line (lines_of c.as_slice.result.now) c.requires c.in_ok-count.ensures.count c.loop-i-test.true c.loop-i.invariant.0 known
    (subst (λ (h : Hinting). IsHinting e (lines_of c.as_slice.result.now) h) c.in-Bad.is c.in_ok-lines.ensures)

pub loop-i-preserved : goal.loop-i-preserved
loop-i-preserved c =
    let f = file_form c.args.file.now in
    let e = encoding_at (type_form c.args.ty.now) f (c.loop-i.i + 1) in
    let lines = lines_of c.as_slice.result.now in
    let lookup = c.in-Some.ensures.lookup in
    let known = list_known c.args.file.now.proof c.as_slice-lists.result.now c.loop-i.i c.in-Some.lines.now c.as_slice.result.now c.as_slice-lists.ensures c.as_slice.ensures lookup.3.0 (lookup.3.1 c.in-Some.lines.now) in
    let inside = places_kept c.args.file.now.proof c.as_slice-lists.result.now c.loop-i.i c.as_slice-lists.ensures lookup.3.0 in
    let hinted = subst (λ (h : Hinting). IsHinting e lines h) c.in-Hinted.is c.in_ok-lines.ensures in (
      one_proved (type_form c.args.ty.now) f c.loop-i.i lines c.loop-i.invariant.0 inside known hinted.0,
      ap (map lines_of) c.in_ok-push-in-Hinted.ensures.items ∙ map-append lines_of c.loop-i.hinted.items (c.in-Hinted.lines ∷ [])
          ∙ hinted_on (type_form c.args.ty.now) f c.loop-i.i lines (lines_of c.in-Hinted.lines) (map lines_of c.loop-i.hinted.items) inside known hinted.1 c.loop-i.invariant.1,
    )

pub returns-then-lists-count : goal.returns-then-lists-count
returns-then-lists-count c =
    let same : c.loop-i.i ≡ c.in_ok-count.count = omega (arith, c.loop-i-test.false, c.loop-i.auto.i-end) in
    let kept : length (map lines_of c.args.file.now.proof) ≡ length c.as_slice-lists.result.now = length-map c.args.file.now.proof lines_of ∙ sym (ap length c.as_slice-lists.ensures) in
    let more : c.in_ok-count.count < length c.as_slice-lists.result.now = search rules in
    more_answered (type_form c.args.ty.now) (file_form c.args.file.now) c.in_ok-count.count c.requires c.in_ok-count.ensures.count
    (subst (λ n. ProvedSoFar (type_form c.args.ty.now) (file_form c.args.file.now) n) same c.loop-i.invariant.0) (omega (arith, kept, more))

pub returns : goal.returns
returns c =
    let ty = type_form c.args.ty.now in
    let f = file_form c.args.file.now in
    let same : c.loop-i.i ≡ c.in_ok-count.count = omega (arith, c.loop-i-test.false, c.loop-i.auto.i-end) in
    let kept : length (map lines_of c.args.file.now.proof) ≡ length c.as_slice-lists.result.now = length-map c.args.file.now.proof lines_of ∙ sym (ap length c.as_slice-lists.ensures) in
    let few : length c.as_slice-lists.result.now ≤ c.in_ok-count.count = search rules in
    let whole = hinted_whole ty f c.loop-i.i (map lines_of c.loop-i.hinted.items) (omega (arith, same, kept, few)) c.loop-i.invariant.1 in (
      accepted_answered ty f c.in_ok-count.count c.requires c.in_ok-count.ensures.count (subst (λ n. ProvedSoFar ty f n) same c.loop-i.invariant.0) (omega (arith, kept, few)),
      c.in_ok-second_version.ensures
          ∙ ap (λ (proof : List (List Line)). record { version = 2; design = f.design; relation = f.relation; proof = proof }) (ap (map lines_of) c.from_vec.ensures ∙ whole),
    )
