use Rattle.std.proofs.Common.{◌≡◌, ℕ, ◌+◌, ap, sym, ◌∙◌, subst, arith}
use Rattle.kat_shape.specs.declared.shapes.Shape.{Shape}
use Rattle.kat_shape.specs.Forms.{form_of, leaf_kinds_of, nodes_of}
use Rattle.kat_shape.specs.Flats.{Fits, FitBoth}
use Rattle.kat_shape.proofs.Filling.{pair_front, pair_back}
use Rattle.kat_shape.proofs.leaves.+join_leaves.Goals as goal

pub join_leaves-requires-in-Pair : goal.join_leaves-requires-in-Pair
join_leaves-requires-in-Pair t c =
    let nodes : Shape → ℕ = λ s. nodes_of (form_of s) in
    let whole : nodes_of (form_of c.args.shape.now) ≡ nodes_of (form_of c.in-Pair.first.value) + nodes_of (form_of c.in-Pair.second.value) + 1 = ap nodes c.in-Pair.is in
    let part : nodes_of (form_of c.deref-in-Pair-5.result.now) ≡ nodes_of (form_of c.in-Pair.first.value) = ap nodes c.deref-in-Pair-5.ensures in
    let parts : FitBoth (form_of c.in-Pair.first.value) (form_of c.in-Pair.second.value) c.args.mine.now = (record { kinds = c.requires.mine.kinds ∙ ap (λ (s : Shape). leaf_kinds_of (form_of s)) c.in-Pair.is }) in (
      omega arith,
      (
        pair_front (form_of c.deref-in-Pair-5.result.now) (form_of c.deref-in-Pair-3.result.now) (form_of c.in-Pair.first.value) (form_of c.in-Pair.second.value) c.args.mine.now c.split_at_mut-a.result.0.now c.front_count-count-in-Pair.result (ap form_of c.deref-in-Pair-5.ensures) (ap form_of c.deref-in-Pair-3.ensures) c.front_count-count-in-Pair.ensures.count c.split_at_mut-a.ensures.front parts,
        subst (λ (s : Shape). Fits (form_of s) c.cut-in-Pair.result.0.now) (c.deref-in-Pair.ensures ∙ sym c.deref-in-Pair-5.ensures) c.cut-in-Pair.ensures.first,
      ),
    )

pub join_leaves-requires-in-Pair-2 : goal.join_leaves-requires-in-Pair-2
join_leaves-requires-in-Pair-2 t c =
    let nodes : Shape → ℕ = λ s. nodes_of (form_of s) in
    let whole : nodes_of (form_of c.args.shape.now) ≡ nodes_of (form_of c.in-Pair.first.value) + nodes_of (form_of c.in-Pair.second.value) + 1 = ap nodes c.in-Pair.is in
    let part : nodes_of (form_of c.deref-in-Pair-6.result.now) ≡ nodes_of (form_of c.in-Pair.second.value) = ap nodes c.deref-in-Pair-6.ensures in
    let parts : FitBoth (form_of c.in-Pair.first.value) (form_of c.in-Pair.second.value) c.args.mine.now = (record { kinds = c.requires.mine.kinds ∙ ap (λ (s : Shape). leaf_kinds_of (form_of s)) c.in-Pair.is }) in (
      omega arith,
      (
        pair_back (form_of c.deref-in-Pair-6.result.now) (form_of c.deref-in-Pair-3.result.now) (form_of c.in-Pair.first.value) (form_of c.in-Pair.second.value) c.args.mine.now c.split_at_mut-a.result.1.now c.front_count-count-in-Pair.result (ap form_of c.deref-in-Pair-6.ensures) (ap form_of c.deref-in-Pair-3.ensures) c.front_count-count-in-Pair.ensures.count c.split_at_mut-a.ensures.back parts,
        subst (λ (s : Shape). Fits (form_of s) c.cut-in-Pair.result.1.now) (c.deref-in-Pair-2.ensures ∙ sym c.deref-in-Pair-6.ensures) c.cut-in-Pair.ensures.second,
      ),
    )
