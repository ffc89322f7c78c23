use Rattle.std.proofs.Common.{rules, ◌≡◌, ℕ, ◌≤◌, inr, length, refl, sym, subst}
use Rattle.kat_design_json.specs.Signatures.{IsSignature}
use Rattle.kat_type.specs.declared.signatures.Signature.{Signature}
use Rattle.kat_wire.specs.FileForms.{AreOfVersion, file_form}
use Rattle.kat_by_hand.specs.declared.files.TheConstants.{TEXT_LIMIT}
use Rattle.kat_by_hand.proofs.files.written_file.Goals as goal

pub write_file-requires-clause-signature : goal.write_file-requires-clause-signature
write_file-requires-clause-signature c = subst (λ (sig : Signature). IsSignature sig) c.requires.agrees c.requires.signature

pub write_file-requires-clause-version : goal.write_file-requires-clause-version
write_file-requires-clause-version c = inr c.requires.version

pub write_file-requires-clause-lines : goal.write_file-requires-clause-lines
write_file-requires-clause-lines c = subst (λ (version : ℕ). AreOfVersion version (file_form c.args.file.now).proof) (sym c.requires.version) c.requires.lines

pub returns-then-len-le-TEXT_LIMIT : goal.returns-then-len-le-TEXT_LIMIT
returns-then-len-le-TEXT_LIMIT c =
    let short : length c.in_ok-text.text.items ≤ TEXT_LIMIT = search rules in
    record {
      proof = record {
        text = record {
          file = file_form c.args.file.now;
          is_file = c.in_ok-text.ensures.read;
          agrees = c.requires.agrees;
          accepted = c.requires.proved;
          short = short;
        };
        same = refl;
      };
    }
