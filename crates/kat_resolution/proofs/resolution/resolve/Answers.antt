use Rattle.std.proofs.Common.{◌≡◌, ℤ, List, ◌++◌, filter, ap, ◌∙◌, rules, subst, Contains, ◌↔◌, FitsSigned, to_z, of_z}
use Rattle.std.specs.Int.{w32}
use Rattle.std.proofs.lemmas.Int.{to_z-of_z}
use Rattle.std.proofs.lemmas.List.Filters.{dedup_is}
use Rattle.kat_resolution.specs.Resolutions.{IsResolved, is_of_other}
use Rattle.kat_resolution.proofs.Resolvents.{left_are, left_ascend, resolvent_follows}
use Rattle.kat_resolution.proofs.resolution.resolve.Goals as goal

pub returns : goal.returns
returns c =
    let first = c.args.first.now in
    let second = c.args.second.now in
    let v = to_z w32 (of_z w32 c.args.var) in
    let fits : FitsSigned w32 c.args.var = search rules in
    let is = dedup_is _ _ _ c.dedup.ensures.filtered in
    let all : c.extend_from_slice.new.self.items ≡ filter (is_of_other (to_z w32 (of_z w32 c.args.var))) c.args.first.now ++ filter (is_of_other (to_z w32 (of_z w32 c.args.var))) c.args.second.now =
    c.in_ok-extend_from_slice.ensures.items ∙ ap (λ (xs : List ℤ). c.in_ok-literals.literals.items ++ xs) (c.deref.ensures.value ∙ c.in_ok-others.ensures) ∙ ap (λ (xs : List ℤ). xs ++ filter (is_of_other (to_z w32 (of_z w32 c.args.var))) c.args.second.now) c.in_ok-literals.ensures in
    let P : ℤ → Type 0 = λ z. c.extend_from_slice.new.self.items ≡ filter (is_of_other z) c.args.first.now ++ filter (is_of_other z) c.args.second.now in
    let both = subst P (to_z-of_z w32 c.args.var fits) all in
    let left : (k : ℤ) → Contains c.dedup.new.self.items k ↔ IsResolved c.args.first.now c.args.second.now c.args.var k = λ k. rw is (left_are first second _ _ c.args.var k both c.sort_unstable.ensures.permutation) in
    record {
      ascends = rw is (left_ascend _ c.sort_unstable.ensures.sorted);
      literals = left;
      follows = λ clash. resolvent_follows first second c.dedup.new.self.items c.args.var left clash;
    }
