use Rattle.kat_clause.specs.Clauses.{lists}
use Rattle.kat_clause.proofs.HintSets.{sets_turned}
use Rattle.kat_clause.proofs.Runs.{if_ok_same}
use Rattle.kat_refute.specs.Lines.{IsHintedLine}
use Rattle.kat_refute.proofs.HintedRuns.{own_sets, hinted_sets}
use Rattle.kat_refute.proofs.is_hinted_by.Goals as goal

pub is_hinted-requires : goal.is_hinted-requires
is_hinted-requires c = record {
  reader = c.requires.reader;
  own = own_sets c.args.count c.args.hinter.now.clauses (lists c.sets.result.now) c.sets.ensures c.requires.own;
}

pub returns-clause-hinted : goal.returns-clause-hinted
returns-clause-hinted c =
    let clauses = c.args.hinter.now.clauses in
    let sets = lists c.sets.result.now in
    let literals = c.args.literals.now in
    let hints = c.args.hints.now in
    if_ok_same (IsHintedLine c.args.count sets literals hints) (IsHintedLine c.args.count clauses literals hints) c.is_hinted.result
    (hinted_sets c.args.count clauses sets c.sets.ensures literals hints, hinted_sets c.args.count sets clauses (sets_turned clauses sets c.sets.ensures) literals hints) c.is_hinted.ensures.hinted
