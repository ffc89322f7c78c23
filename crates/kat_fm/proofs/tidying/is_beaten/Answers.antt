use Rattle.std.proofs.Common.{◌≡◌, ◌-◌, ℕ, suc, true, arith, sym, subst}
use Rattle.kat_fm.specs.Lists.{beats_at, Leads}
use Rattle.kat_fm.specs.Views.{combinations}
use Rattle.kat_fm.proofs.Couplings.{as_many}
use Rattle.kat_fm.proofs.Listings.{is_beaten, not_beaten, ahead_more, ahead_none}
use Rattle.kat_fm.proofs.tidying.is_beaten.Goals as goal

pub returns-then-beats : goal.returns-then-beats
returns-then-beats c = is_beaten (combinations c.args.rows.now) c.args.place (c.loop-link.link - 1) (sym c.if-beats.ensures) (omega (arith, as_many c.args.rows.now, c.requires.place))

pub loop-link-preserved : goal.loop-link-preserved
loop-link-preserved c =
    let rows = combinations c.args.rows.now in let place = c.args.place in let next = c.args.next.now in let link = c.loop-link.link in
    let one : link ≡ suc (link - 1) = omega arith in
    let P : ℕ → Type 0 = λ n. (k : ℕ) → beats_at rows place k ≡ true → Leads next n k in
    let Q : ℕ → Type 0 = λ n. (k : ℕ) → beats_at rows place k ≡ true → Leads next n k in
    let low = c.requires.onward.within (link - 1) in
    record {
      within = omega (arith, c.number_at-link.ensures, low);
      ahead = subst Q (sym c.number_at-link.ensures) (ahead_more rows place (link - 1) next (sym c.if-beats.ensures) (subst P one c.loop-link.invariant.ahead));
    }

pub returns : goal.returns
returns c =
    let rows = combinations c.args.rows.now in
    not_beaten rows c.args.place (omega (arith, as_many c.args.rows.now, c.requires.place)) (ahead_none rows c.args.place c.args.next.now c.loop-link.link (omega arith) c.loop-link.invariant.ahead)
