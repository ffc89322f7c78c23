use Rattle.serde_json.specs.View.{view}
use Rattle.kat_wire.specs.FileForms.{file_form}
use Rattle.kat_wire.proofs.WrittenFiles.{proof_fits, written, written_read}
use Rattle.kat_wire.proofs.writing.write_file.Goals as goal

pub returns-clause-text : goal.returns-clause-text
returns-clause-text c =
    written (view c.in_ok-value.value) (file_form c.args.file.now) c.args.earlier.now c.in_ok-text.text.items c.push.new.self.items
    c.in_ok-value.ensures.value c.in_ok-text.ensures.text c.in_ok-push.ensures.items

pub returns-clause-read : goal.returns-clause-read
returns-clause-read c =
    let f = file_form c.args.file.now in
    let same = written (view c.in_ok-value.value) f c.args.earlier.now c.in_ok-text.text.items c.push.new.self.items
    c.in_ok-value.ensures.value c.in_ok-text.ensures.text c.in_ok-push.ensures.items in
    written_read f c.args.earlier.now c.push.new.self.items (record {
      version = c.requires.version;
      signature = c.requires.signature;
      accepted = c.requires.accepted;
      indices = c.in_ok-value.ensures.indices;
      lines = proof_fits f.version f.proof c.in_ok-value.ensures.lines c.requires.literals c.requires.lines;
    }) c.in_ok-value.ensures.numbers same
