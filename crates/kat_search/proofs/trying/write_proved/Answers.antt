use Rattle.std.proofs.Common.{rules, ◌≡◌, ℕ, ◌<◌, ◌≤◌, List, length, refl, sym, ap, ◌∙◌, arith}
use Rattle.kat_check.specs.Migration.{migrated_file}
use Rattle.kat_check.proofs.Migrating.{migrated_accepted}
use Rattle.kat_drop.specs.Certificates.{drops_of}
use Rattle.kat_type.specs.Types.{type_form}
use Rattle.kat_wire.specs.FileForms.{file_form}
use Rattle.kat_wire.specs.Printed.{file_text}
use Rattle.kat_wire.specs.declared.causes.Cause.{Cause}
use Rattle.kat_telling.specs.declared.limits.TheConstants.{TEXT_LIMIT}
use Rattle.kat_telling.proofs.Accepting.{proved_accepted, proved_no_zero}
use Rattle.kat_telling.proofs.Standing.{proved_hints}
use Rattle.kat_search.proofs.Telling.{long_stands}
use Rattle.kat_search.proofs.trying.write_proved.Goals as goal

pub hinted_text-requires-clause-signature : goal.hinted_text-requires-clause-signature
hinted_text-requires-clause-signature c = c.requires.tryable.agrees

pub hinted_text-requires-clause-no_faults : goal.hinted_text-requires-clause-no_faults
hinted_text-requires-clause-no_faults c = c.requires.tryable.accepted

pub hinted_text-requires-clause-accepted : goal.hinted_text-requires-clause-accepted
hinted_text-requires-clause-accepted c =
    proved_accepted (type_form c.args.ty.now) (file_form c.args.file.now) c.requires.proved.0 c.args.effort (drops_of c.args.drops.now) c.requires.proved.1 c.requires.proved.2

pub hinted_text-requires-clause-literals : goal.hinted_text-requires-clause-literals
hinted_text-requires-clause-literals c =
    proved_no_zero (type_form c.args.ty.now) (file_form c.args.file.now) c.requires.proved.0 c.args.effort (drops_of c.args.drops.now) c.requires.proved.2

pub returns-then-len-le-TEXT_LIMIT-clause-tries : goal.returns-then-len-le-TEXT_LIMIT-clause-tries
returns-then-len-le-TEXT_LIMIT-clause-tries c =
    let ty = type_form c.args.ty.now in
    let f = file_form c.args.file.now in
    let short : length c.in_ok-text.text.items ≤ TEXT_LIMIT = search rules in
    record {
      file = migrated_file ty f;
      version = refl;
      design = refl;
      agrees = c.requires.agrees;
      accepted = migrated_accepted ty f (proved_accepted ty f c.requires.proved.0 c.args.effort (drops_of c.args.drops.now) c.requires.proved.1 c.requires.proved.2);
      hints = proved_hints ty f c.requires.proved.0 c.args.effort (drops_of c.args.drops.now) c.requires.proved.2;
      text = c.in_ok-text.ensures.text ∙ ap (λ (earlier : List (ℕ × Cause)). file_text (migrated_file ty f) earlier) c.deref.ensures.value;
      read_again = c.in_ok-text.ensures.read;
      short = short;
    }

pub pass_over-requires-clause-stands : goal.pass_over-requires-clause-stands
pass_over-requires-clause-stands c =
    let ty = type_form c.args.ty.now in
    let f = file_form c.args.file.now in
    let same = c.in_ok-text.ensures.text ∙ ap (λ (earlier : List (ℕ × Cause)). file_text (migrated_file ty f) earlier) c.deref.ensures.value in
    let count : length c.in_ok-text.text.items ≡ c.len-2.result = search rules in
    let long : TEXT_LIMIT < c.len-2.result = omega (arith, c.if-len-le-TEXT_LIMIT.false, c.len.ensures, c.len-2.ensures) in
    long_stands ty f c.requires.proved.0 c.args.effort c.args.findings.now.passed.items (drops_of c.args.drops.now) c.len-2.result c.requires.proved.1 c.requires.proved.2 (sym (ap length same) ∙ count) long
