-- The answers of a cart are small.
use Rattle.std.proofs.Common.{◌≡◌, ℕ, zero, suc, ◌+◌, ◌-◌, ◌*◌, ◌^◌, ◌<◌, ◌≤◌, List, [], ◌∷◌, ◌++◌, length, get_or, All, refl, sym, ◌∙◌, ap, subst, arith}
use Rattle.std.proofs.lemmas.List.{length-append}
use Rattle.std.proofs.lemmas.List.Elements.{All-nil, All-cons}
use Rattle.kat_expr.specs.Evaluation.{value_of}
use Rattle.kat_expr.specs.Limits.{IsAtMost, IsSlotAtMost}
use Rattle.kat_expr.specs.Terms.Term.{entry}
use Rattle.kat_expr.specs.declared.expressions.Slot.{Slot}
use Rattle.kat_expr.proofs.Bounds.{at_most_size, weight_bound}
use Rattle.kat_expr.proofs.Limits.{more_value}
use Rattle.kat_design.specs.Fitting.{FitsSignature}
use Rattle.kat_design.specs.Sorted.{AreMatched}
use Rattle.kat_num.specs.Values.{IsArgument}
use Rattle.kat_num.specs.declared.values.Sort.{Sort}
use Rattle.kat_num.specs.declared.values.TheConstants.{NUMBER_LIMIT}
use Rattle.kat_num.specs.declared.values.Value.{Value}
use Rattle.kat_sample.specs.Carts.{cart}
use Rattle.kat_sample.proofs.Types.{cart_limited}
use Rattle.kat_script.specs.Facts.{HoldsFronts, IsFront}
use Rattle.kat_script.specs.Judged.{AreJudged, IsJudged, IsJudgedLine}
use Rattle.kat_script.specs.World.{Holder, World, after, first_world, replica_at}
use Rattle.kat_script.specs.declared.script.Line.{Line}
use Rattle.kat_script.specs.declared.script.Line.TheVariants.{Do, Ship, Deliver, Ask, Show}
use Rattle.kat_script.specs.declared.script.Script.{Script}
use Rattle.kat_seq.specs.Sizes.{HaveSmallArguments, most_after}
use Rattle.kat_seq.specs.States.{answer_of, state_after}
use Rattle.kat_seq.proofs.Growing.{state_small}
use Rattle.kat_type.specs.Arrangements.{IsCanonical, canonical}
use Rattle.kat_type.specs.Lists.{Has}
use Rattle.kat_type.specs.Signatures.{signature_of}
use Rattle.kat_type.specs.declared.done.Done.{Done}
use Rattle.kat_type.specs.declared.signatures.Signature.{Signature}
use Rattle.kat_type.proofs.Arranging.{order_canonical}
use Rattle.kat_world.specs.Model.{model_answer}
use Rattle.kat_world.specs.Replies.{model_answers, model_answers_from}
use Rattle.kat_world.proofs.Going.{argument_small, query_small}
use Rattle.kat_world.proofs.Knowing.{apart_in}
use Rattle.kat_world.proofs.Standing.{Stands, absorbed_few, all_of_has, not_longer, stands_first, stands_on}
use Rattle.kat_world.proofs.Tracking.{done_with}

abbrev sig : Signature
sig = signature_of cart

-- arguments that match sorts are within the limit
matched_small : (args : List Value) (sorts : List Sort) → AreMatched (λ (value : Value) (sort : Sort). IsArgument sort value) args sorts → All (IsAtMost NUMBER_LIMIT) args
matched_small [] [] h = All-nil (IsAtMost NUMBER_LIMIT)
matched_small [] (s ∷ sorts) h = absurd h
matched_small (v ∷ args) [] h = absurd h
matched_small (v ∷ args) (s ∷ sorts) h = All-cons (IsAtMost NUMBER_LIMIT) v args (argument_small s v h.0) (matched_small args sorts h.1)

few_enough : (n size : ℕ) → n ≤ 100_000 → size ≤ most_after n + 400 * NUMBER_LIMIT → size ≤ 2 ^ 100
few_enough n size h k = omega (arith, h, k)

-- the answer after few operations
answer_small : (ones : List Done) (query : ℕ) (args : List Value) → HaveSmallArguments ones → length ones ≤ 100_000 → All (IsAtMost NUMBER_LIMIT) args
    → IsAtMost (2 ^ 100) (answer_of cart (state_after cart ones) query args)
answer_small ones zero args small few little =
    at_most_size (2 ^ 100) (value_of (entry 0 0) (state_after cart ones) args)
    (few_enough (length ones) _ few
    (weight_bound (most_after (length ones)) NUMBER_LIMIT (entry 0 0) (state_after cart ones) args (state_small cart ones cart_limited small) little tt (omega arith) (omega arith)))
answer_small ones (suc query) args small few little = tt

-- how many operations were done, and how many lines are left
few_lines : (n : ℕ) → n < 100_000 → 0 + n ≤ 100_000
few_lines n h = omega (arith, h)

few_before : (a b : ℕ) → a + b ≤ 100_000 → a ≤ 100_000
few_before a b h = omega (arith, h)

more_few : (a b n : ℕ) → n ≡ a + 1 → a + suc b ≤ 100_000 → n + b ≤ 100_000
more_few a b n e h = omega (arith, e, h)

same_few : (a b : ℕ) → a + suc b ≤ 100_000 → a + b ≤ 100_000
same_few a b h = omega (arith, h)

up_to : (a b c : ℕ) → a ≤ b → b ≤ c → a ≤ c
up_to a b c h k = omega (arith, h, k)

asked_small : (past : List Done) (world : World) (r query : ℕ) (args : List Value) → Stands sig past world → length past ≤ 100_000 → IsJudgedLine sig world (Ask r query args)
    → IsAtMost (2 ^ 100) (model_answer cart (replica_at world r).absorbed query args)
asked_small past world r query args s few judged =
    let ones : List Done = (replica_at world r).absorbed in
    let front : IsFront past (replica_at world r) = s.facts.replicas (r - 1) in
    let here : IsCanonical cart (canonical cart ones) ones = order_canonical cart ones (apart_in past world (replica_at world r) s.facts front) in
    answer_small (canonical cart ones) query args
    (all_of_has (λ (done : Done). All (IsAtMost NUMBER_LIMIT) done.args) (canonical cart ones)
    (λ one has. let fits : FitsSignature sig one = s.fit one (front.was_done one (here.arranges.same.0 one has)) in matched_small one.args fits.op.sorts fits.args))
    (up_to (length (canonical cart ones)) (length ones) 100_000 (not_longer (canonical cart ones) ones here.arranges.once here.arranges.same.0)
    (absorbed_few past (replica_at world r) 100_000 few front))
    (query_small sig query args judged.1)

small_from : (past : List Done) (world : World) (lines : List Line) → Stands sig past world → length past + length lines ≤ 100_000 → AreJudged sig world lines
    → All (IsAtMost (2 ^ 100)) (model_answers_from cart world lines)
small_from past world [] s few judged = All-nil (IsAtMost (2 ^ 100))
small_from past world (Ask r query args ∷ lines) s few judged =
    All-cons (IsAtMost (2 ^ 100)) (model_answer cart (replica_at world r).absorbed query args) (model_answers_from cart world lines)
    (asked_small past world r query args s (few_before (length past) (suc (length lines)) few) judged.0)
    (small_from past world lines s (same_few (length past) (length lines) few) judged.1)
small_from past world (Do done ∷ lines) s few judged =
    small_from (done_with past (Do done)) (after world (Do done)) lines (stands_on sig past world (Do done) s judged.0) (more_few (length past) (length lines) (length (past ++ done ∷ [])) (length-append past (done ∷ [])) few) judged.1
small_from past world (Ship r p ∷ lines) s few judged =
    small_from past (after world (Ship r p)) lines (stands_on sig past world (Ship r p) s judged.0) (same_few (length past) (length lines) few) judged.1
small_from past world (Deliver p r ∷ lines) s few judged =
    small_from past (after world (Deliver p r)) lines (stands_on sig past world (Deliver p r) s judged.0) (same_few (length past) (length lines) few) judged.1
small_from past world (Show r ∷ lines) s few judged = small_from past world lines s (same_few (length past) (length lines) few) judged.1

pub answers_small : (script : Script) → IsJudged sig script → All (IsAtMost (2 ^ 100)) (model_answers cart script)
answers_small script judged =
    small_from [] (first_world script.replicas) script.lines (stands_first sig script.replicas judged.few_replicas)
    (few_lines (length script.lines) judged.few_lines) judged.lines

-- there are no more answers than lines
one_more : (a b : ℕ) → a ≤ b → suc a ≤ suc b
one_more a b h = omega (arith, h)

still : (a b : ℕ) → a ≤ b → a ≤ suc b
still a b h = omega (arith, h)

few_from : (world : World) (lines : List Line) → length (model_answers_from cart world lines) ≤ length lines
few_from world [] = omega arith
few_from world (Ask r query args ∷ lines) = one_more (length (model_answers_from cart world lines)) (length lines) (few_from world lines)
few_from world (Do done ∷ lines) = still _ (length lines) (few_from (after world (Do done)) lines)
few_from world (Ship r p ∷ lines) = still _ (length lines) (few_from (after world (Ship r p)) lines)
few_from world (Deliver p r ∷ lines) = still _ (length lines) (few_from (after world (Deliver p r)) lines)
few_from world (Show r ∷ lines) = still _ (length lines) (few_from world lines)

fewer : (a b : ℕ) → a ≤ b → b < 100_000 → a ≤ 100_000
fewer a b h k = omega (arith, h, k)

pub answers_few : (script : Script) → IsJudged sig script → length (model_answers cart script) ≤ 100_000
answers_few script judged = fewer _ (length script.lines) (few_from (first_world script.replicas) script.lines) judged.few_lines
