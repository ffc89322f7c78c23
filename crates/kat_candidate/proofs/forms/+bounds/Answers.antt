use Rattle.kat_candidate.specs.Forms.{sides_form}
use Rattle.kat_candidate.proofs.Bounding.{bounds_pushed}
use Rattle.kat_candidate.proofs.forms.+bounds.Goals as goal

pub push_bounds_of-returns-in-len1-up : goal.push_bounds_of-returns-in-len1-up
push_bounds_of-returns-in-len1-up t c =
    bounds_pushed c.push_bounds_with.result (sides_form c.args.sides.now) c.args.texts.now.leaves.now c.args.texts.now.numbers.now c.args.positions.now c.args.leaves.now
    c.args.into.now.items c.push_bounds_with.new.into.items c.in-len1-up.len_at_least c.push_bounds_with.ensures
