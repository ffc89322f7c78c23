use Rattle.std.proofs.Common.{sym, refl, ◌∙◌, arith}
use Rattle.std.specs.Ordering.{on}
use Rattle.std.proofs.lemmas.Bool.{false≢true}
use Rattle.kat_join.proofs.Merges.{keyed_total, keeps_keyed, kin_at, at_less, at_equal, at_greater, at_end, at_done}
use Rattle.kat_join.proofs.merge.is_part.Goals as goal

pub returns-then-j-theirs : goal.returns-then-j-theirs
returns-then-j-theirs g c =
    (λ e. absurd (false≢true e), λ e. absurd (at_end (on g.M.Entries.key g.M.Key.Ord.cmp) g.M.Entries.onto c.args.mine.now c.args.theirs.now c.loop-i.i c.loop-i.j (omega arith) (omega arith) (c.loop-i.invariant.2.0 e)))

pub returns-in-Less : goal.returns-in-Less
returns-in-Less g c =
    (λ e. absurd (false≢true e), λ e. absurd (at_less (on g.M.Entries.key g.M.Key.Ord.cmp) g.M.Entries.onto (keyed_total g.M.Entries.key g.met.M.Key.Ord.total) (keeps_keyed g.M.Key.Ord.cmp g.M.Entries.key g.M.Entries.onto g.met.M.Entries.keeps) c.args.mine.now c.args.theirs.now c.loop-i.i c.loop-i.j c.index-mine-i.result c.index-theirs-j.result (omega arith) (omega arith) c.index-mine-i.is c.index-theirs-j.is c.requires.right (sym c.in-Less.ensures) (c.loop-i.invariant.2.0 e)))

pub loop-i-preserved : goal.loop-i-preserved
loop-i-preserved g c =
    let step = at_greater (on g.M.Entries.key g.M.Key.Ord.cmp) g.M.Entries.onto (keyed_total g.M.Entries.key g.met.M.Key.Ord.total) (keeps_keyed g.M.Key.Ord.cmp g.M.Entries.key g.M.Entries.onto g.met.M.Entries.keeps) c.args.mine.now c.args.theirs.now c.loop-i.i c.loop-i.j c.index-mine-i.result c.index-theirs-j.result (omega arith) (omega arith) c.index-mine-i.is c.index-theirs-j.is c.requires.left c.requires.right (sym c.in-Greater.ensures) in
    (c.loop-i.invariant.0, omega arith, (λ e. step.0 (c.loop-i.invariant.2.0 e), λ e. c.loop-i.invariant.2.1 (step.1 e)))

pub returns : goal.returns
returns g c =
    (λ e. c.loop-i.invariant.2.1 (at_done (on g.M.Entries.key g.M.Key.Ord.cmp) g.M.Entries.onto c.args.mine.now c.args.theirs.now c.loop-i.i c.loop-i.j c.requires.right (omega arith)), λ e. refl)

pub is_absorbed-requires-clause-kin : goal.is_absorbed-requires-clause-kin
is_absorbed-requires-clause-kin g c =
    kin_at g.M.Entries.kin c.args.mine.now c.args.theirs.now c.loop-i.i c.loop-i.j c.index-mine-i.result c.index-theirs-j.result c.requires (omega arith) (omega arith) c.index-mine-i.is c.index-theirs-j.is

pub returns-then-not-is_absorbed : goal.returns-then-not-is_absorbed
returns-then-not-is_absorbed g c =
    let step = at_equal (on g.M.Entries.key g.M.Key.Ord.cmp) g.M.Entries.onto (keyed_total g.M.Entries.key g.met.M.Key.Ord.total) (keeps_keyed g.M.Key.Ord.cmp g.M.Entries.key g.M.Entries.onto g.met.M.Entries.keeps) c.args.mine.now c.args.theirs.now c.loop-i.i c.loop-i.j c.index-mine-i.result c.index-theirs-j.result (omega arith) (omega arith) c.index-mine-i.is c.index-theirs-j.is c.requires.right (sym c.in-Equal.ensures) in (
      λ e. absurd (false≢true e),
      λ e.
          let both = step.0 (c.loop-i.invariant.2.0 e) in
          absurd (false≢true (sym c.if-not-is_absorbed.true ∙ c.is_absorbed.ensures.1 both.0)),
    )

pub loop-i-preserved-in-Equal : goal.loop-i-preserved-in-Equal
loop-i-preserved-in-Equal g c =
    let step = at_equal (on g.M.Entries.key g.M.Key.Ord.cmp) g.M.Entries.onto (keyed_total g.M.Entries.key g.met.M.Key.Ord.total) (keeps_keyed g.M.Key.Ord.cmp g.M.Entries.key g.M.Entries.onto g.met.M.Entries.keeps) c.args.mine.now c.args.theirs.now c.loop-i.i c.loop-i.j c.index-mine-i.result c.index-theirs-j.result (omega arith) (omega arith) c.index-mine-i.is c.index-theirs-j.is c.requires.right (sym c.in-Equal.ensures) in
    (omega arith, omega arith, (λ e. let both = step.0 (c.loop-i.invariant.2.0 e) in both.1, λ e. c.loop-i.invariant.2.1 (step.1 (c.is_absorbed.ensures.0 c.if-not-is_absorbed.false, e))))
