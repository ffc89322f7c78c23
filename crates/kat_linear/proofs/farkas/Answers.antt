use Rattle.std.proofs.Common.{rules}
use Rattle.kat_linear.specs.Rows.{forms}
use Rattle.kat_linear.specs.Sums.{IsCertificate}
use Rattle.kat_linear.proofs.Contradictions.{refuted}
use Rattle.kat_linear.proofs.farkas.Goals as goal

pub returns-clause-refutes : goal.returns-clause-refutes
returns-clause-refutes c e =
    let shown : IsCertificate (forms c.args.rows.now) c.args.multipliers.now = record {
      signs = search rules;
      cancels = search rules;
      above = search rules;
    } in
    refuted (forms c.args.rows.now) c.args.multipliers.now shown
