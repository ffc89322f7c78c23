use Rattle.std.proofs.Common.{rules, ◌≡◌, length, refl}
use Rattle.kat_design.specs.Designs.{design_form}
use Rattle.kat_search.proofs.Citing.{cited_behind, newly_told, numbers_behind}
use Rattle.kat_search.proofs.findings.Findings.cite_newly.Goals as goal

pub returns : goal.returns
returns c =
    let as_many : c.len.result ≡ length c.args.self.now.cited.items = search rules in
    record {
      count = refl;
      cited = cited_behind c.args.self.now.sig c.args.self.now.cited.items c.push.new.self.items c.args.number c.args.history.now c.in_ok-push.ensures.items c.requires.numbered;
      numbers = numbers_behind c.args.self.now.sig c.args.self.now.cited.items c.push.new.self.items c.args.number c.args.history.now c.in_ok-push.ensures.items c.requires.numbered;
      passed = refl;
      report =
          newly_told c.args.self.now.sig c.args.self.now.cited.items c.len.result c.args.self.now.count c.args.history.now (design_form c.args.design.now)
          c.args.self.now.report.items c.push_history.new.into.items c.push_differs.new.into.items as_many c.in_ok-push_history.ensures c.in_ok-push_differs.ensures;
      sig = refl;
      narrow = tt;
    }
