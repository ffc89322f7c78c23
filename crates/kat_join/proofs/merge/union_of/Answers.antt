use Rattle.std.proofs.Common.{◌≡◌, ◌++◌, ◌-◌, length, take, drop, ap, ◌∙◌, sym, arith}
use Rattle.std.specs.Ordering.{on}
use Rattle.std.proofs.lemmas.List.{take_rest}
use Rattle.kat_join.specs.Keyed.{union}
use Rattle.kat_join.proofs.Merges.{keyed_total, keeps_keyed, kin_at, step_less, step_equal, step_greater, rest_mine, rest_theirs}
use Rattle.kat_join.proofs.merge.union_of.Goals as goal
use Rattle.kat_join.proofs.merge.union_of.Goals.{then-loop-i-test+else-j-theirs, else-loop-i-test}

pub push_merged-requires : goal.push_merged-requires
push_merged-requires g c =
    kin_at g.M.Entries.kin c.args.mine.now c.args.theirs.now c.loop-i.i c.loop-i.j c.index-mine-i.result c.index-theirs-j.result c.requires (omega arith) (omega arith) c.index-mine-i.is c.index-theirs-j.is

pub loop-i-preserved-in-Less : goal.loop-i-preserved-in-Less
loop-i-preserved-in-Less g c = (
  omega arith,
  c.loop-i.invariant.1,
  rw c.in_ok-push_copy-in-Less.ensures (step_less (on g.M.Entries.key g.M.Key.Ord.cmp) g.M.Entries.onto (keyed_total g.M.Entries.key g.met.M.Key.Ord.total) (keeps_keyed g.M.Key.Ord.cmp g.M.Entries.key g.M.Entries.onto g.met.M.Entries.keeps) c.args.mine.now c.args.theirs.now c.loop-i.entries.items _ c.loop-i.i c.loop-i.j c.index-mine-i.result c.index-theirs-j.result (omega arith) (omega arith) c.index-mine-i.is c.index-theirs-j.is c.requires.right (sym c.in-Less.ensures) c.loop-i.invariant.2),
)

pub loop-i-preserved-in-Equal : goal.loop-i-preserved-in-Equal
loop-i-preserved-in-Equal g c = (
  omega arith,
  omega arith,
  rw c.in_ok-push_merged-in-Equal.ensures (step_equal (on g.M.Entries.key g.M.Key.Ord.cmp) g.M.Entries.onto (keyed_total g.M.Entries.key g.met.M.Key.Ord.total) (keeps_keyed g.M.Key.Ord.cmp g.M.Entries.key g.M.Entries.onto g.met.M.Entries.keeps) c.args.mine.now c.args.theirs.now c.loop-i.entries.items _ c.loop-i.i c.loop-i.j c.index-mine-i.result c.index-theirs-j.result (omega arith) (omega arith) c.index-mine-i.is c.index-theirs-j.is c.requires.right (sym c.in-Equal.ensures) c.loop-i.invariant.2),
)

pub loop-i-preserved : goal.loop-i-preserved
loop-i-preserved g c = (
  c.loop-i.invariant.0,
  omega arith,
  rw c.in_ok-push_copy-in-Greater.ensures (step_greater (on g.M.Entries.key g.M.Key.Ord.cmp) g.M.Entries.onto (keyed_total g.M.Entries.key g.met.M.Key.Ord.total) (keeps_keyed g.M.Key.Ord.cmp g.M.Entries.key g.M.Entries.onto g.met.M.Entries.keeps) c.args.mine.now c.args.theirs.now c.loop-i.entries.items _ c.loop-i.i c.loop-i.j c.index-mine-i.result c.index-theirs-j.result (omega arith) (omega arith) c.index-mine-i.is c.index-theirs-j.is c.requires.left c.requires.right (sym c.in-Greater.ensures) c.loop-i.invariant.2),
)

pub returns : goal.returns
returns g c =
    let whole = union (on g.M.Entries.key g.M.Key.Ord.cmp) g.M.Entries.onto c.args.mine.now c.args.theirs.now in
    let tail_mine : take (length c.args.mine.now - c.loop-i.i) (drop c.loop-i.i c.args.mine.now) ≡ drop c.loop-i.i c.args.mine.now = take_rest c.args.mine.now c.loop-i.i in
    let tail_theirs : take (length c.args.theirs.now - c.loop-i.j) (drop c.loop-i.j c.args.theirs.now) ≡ drop c.loop-i.j c.args.theirs.now = take_rest c.args.theirs.now c.loop-i.j in
    let first : c.push_copies.new.into.items ≡ c.loop-i.entries.items ++ drop c.loop-i.i c.args.mine.now = c.in_ok-push_copies.ensures ∙ ap (λ t. c.loop-i.entries.items ++ t) tail_mine in
    let second : c.push_copies-2.new.into.items ≡ c.push_copies.new.into.items ++ drop c.loop-i.j c.args.theirs.now = c.in_ok-push_copies-2.ensures ∙ ap (λ t. c.push_copies.new.into.items ++ t) tail_theirs in
    second ∙ (ap (λ t. t ++ drop c.loop-i.j c.args.theirs.now) first ∙
    (elim c.loop-i-test.branch [
      | then-loop-i-test+else-j-theirs w ↦ rest_mine (on g.M.Entries.key g.M.Key.Ord.cmp) g.M.Entries.onto c.args.mine.now c.args.theirs.now c.loop-i.entries.items whole c.loop-i.i c.loop-i.j (omega arith) c.loop-i.invariant.2
      | else-loop-i-test w ↦ rest_theirs (on g.M.Entries.key g.M.Key.Ord.cmp) g.M.Entries.onto c.args.mine.now c.args.theirs.now c.loop-i.entries.items whole c.loop-i.i c.loop-i.j c.requires.right (omega arith) c.loop-i.invariant.2
    ]))
