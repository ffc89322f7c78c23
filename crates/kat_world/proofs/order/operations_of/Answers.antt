use Rattle.std.proofs.Common.{◌≡◌, ◌∙◌, ◌+◌, ◌++◌, ◌∷◌, [], sym, ap, subst, List, IsPermutation, rules, length, ◌≤◌, arith}
use Rattle.std.proofs.lemmas.List.{take_all}
use Rattle.std.proofs.lemmas.List.Sorted.{ranks_by}
use Rattle.std.proofs.lemmas.Fn.{always_returns_same}
use Rattle.std.specs.Ordering.{is_lt}
use Rattle.kat_script.specs.Facts.{done_in}
use Rattle.kat_script.specs.declared.script.Line.{Line}
use Rattle.kat_type.specs.Arrangements.{canonical_cmp}
use Rattle.kat_type.specs.Types.{type_form}
use Rattle.kat_type.specs.declared.done.Done.{Done}
use Rattle.kat_type.proofs.Arranging.{canonical_total}
use Rattle.kat_world.proofs.Sorting.{done_next}
use Rattle.kat_world.proofs.order.operations_of.Goals as goal

pub loop-line-preserved : goal.loop-line-preserved
loop-line-preserved c =
    c.in_ok-push_operation.ensures
    ∙ ap (λ (dones : List Done). dones ++ done_in (c.line-item.result ∷ [])) c.loop-line.invariant
    ∙ sym (done_next c.args.lines.now c.loop-line.line-index (c.loop-line.line-index + 1) c.line-item.result (omega arith) c.loop-line-test.true c.line-item.is)

pub returns : goal.returns
returns c =
    let all : length c.args.lines.now ≤ c.loop-line.line-index = c.loop-line-test.false in
    record {
      moved = subst (λ (dones : List Done). IsPermutation dones c.sort_by.new.self.items)
          (c.loop-line.invariant ∙ ap (λ (ls : List Line). done_in ls) (take_all c.loop-line.line-index c.args.lines.now all))
          c.in_ok-sort_by.ensures.permutation;
      sorted = c.in_ok-sort_by.ensures.sorted (λ (x y : Done). is_lt (canonical_cmp (type_form c.args.ty.now) x y))
          (ranks_by (canonical_total (type_form c.args.ty.now)) (λ (d : Done). d))
          (always_returns_same _ _ _ (λ a r q k. let e : r ≡ canonical_cmp (type_form c.args.ty.now) a.0.now a.1.0.now = search rules in (ap is_lt e, search rules)));
    }
