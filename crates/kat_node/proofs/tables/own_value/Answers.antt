use Rattle.std.proofs.Common.{rules, ◌≡◌, ◌∙◌, true, false, List, map, subst, sym}
use Rattle.kat_num.specs.declared.values.Value.{Value}
use Rattle.kat_shape.specs.Flats.{filled_with}
use Rattle.kat_shape.specs.Forms.{leaf_kind_of, leaf_kinds_of}
use Rattle.kat_shape.specs.Values.{leaves_of, shape_of}
use Rattle.kat_replica.proofs.Filled.{is_filled}
use Rattle.kat_json.proofs.Refusing.{refused_here, refused_same}
use Rattle.kat_node.specs.Possible.{are_none, is_own, leaves_faults, own_faults}
use Rattle.kat_node.proofs.Entries.{own_right, own_wrong}
use Rattle.kat_node.proofs.Leaves.{leaves_fit}
use Rattle.kat_node.proofs.TableValues.{none_is}
use Rattle.kat_node.proofs.tables.own_value.Goals as goal

pub with_leaves-requires : goal.with_leaves-requires
with_leaves-requires c =
    let f = shape_of c.args.start.now in
    let vs = c.args.leaves.now in
    let fit : are_none (leaves_faults f vs) ≡ true = search rules in
    subst (λ (xs : List Value). map leaf_kind_of xs ≡ leaf_kinds_of f) (sym c.in_ok-from_slice.ensures.items) (leaves_fit f vs (none_is (leaves_faults f vs) fit))

pub returns-then-is_kept-clause-said : goal.returns-then-is_kept-clause-said
returns-then-is_kept-clause-said c =
    let start = c.args.start.now in
    let f = shape_of start in
    let vs = c.args.leaves.now in
    let v = c.in_ok-value.value in
    let fit : are_none (leaves_faults f vs) ≡ true = search rules in
    let none = none_is (leaves_faults f vs) fit in
    let leaves : leaves_of v ≡ vs = c.in_ok-value.ensures.leaves ∙ c.in_ok-from_slice.ensures.items in
    let is : v ≡ filled_with f vs = is_filled f vs v (leaves_fit f vs none) c.in_ok-value.ensures.shape leaves in
    let own : is_own start v ≡ true = sym c.is_kept.ensures ∙ c.if-is_kept.true in
    (own_right f start v vs is own, (none, is))

pub returns-else-is_kept-clause-refused : goal.returns-else-is_kept-clause-refused
returns-else-is_kept-clause-refused c =
    let start = c.args.start.now in
    let f = shape_of start in
    let vs = c.args.leaves.now in
    let v = c.in_ok-value.value in
    let fit : are_none (leaves_faults f vs) ≡ true = search rules in
    let none = none_is (leaves_faults f vs) fit in
    let leaves : leaves_of v ≡ vs = c.in_ok-value.ensures.leaves ∙ c.in_ok-from_slice.ensures.items in
    let is : v ≡ filled_with f vs = is_filled f vs v (leaves_fit f vs none) c.in_ok-value.ensures.shape leaves in
    let own : is_own start v ≡ false = sym c.is_kept.ensures ∙ c.if-is_kept.false in
    refused_same (own_faults f start vs) _ c.here.result (own_wrong f start v vs fit is own) (refused_here c.here.result c.here.ensures)
