-- From what follows some lines to the whole.
use Rattle.std.proofs.Common.{◌≡◌, ℕ, ◌+◌, ◌-◌, ◌<◌, ◌≤◌, List, [], ◌∷◌, ◌++◌, length, refl, sym, ◌∙◌, ap, subst, arith, length-append}
use Rattle.kat_design.specs.Designs.{DesignForm}
use Rattle.kat_design.specs.Sorted.{IsWellSorted}
use Rattle.kat_script.specs.Judged.{AreJudged}
use Rattle.kat_script.specs.World.{World, after, first_world, world_after}
use Rattle.kat_script.specs.declared.rules.TheConstants.{LINE_LIMIT}
use Rattle.kat_script.specs.declared.script.Line.{Line}
use Rattle.kat_type.specs.Signatures.{signature_of}
use Rattle.kat_type.specs.Types.{TypeForm}
use Rattle.kat_type.specs.declared.signatures.Signature.{Signature}
use Rattle.kat_world.specs.Lines.{lines_text}
use Rattle.kat_world.specs.Model.{model_text}
use Rattle.kat_world.specs.Deliveries.{RunAlike, world_of}
use Rattle.kat_world.proofs.Pairing.{Pair}
use Rattle.kat_world.proofs.Printing.{OrderIsFree, line_same, model_same, models_behind, texts_behind}

-- from this world on the one lines and the others print the same and lead to such worlds
pub record Tails (sig : Signature) (world : World) (xs ys : List Line) : Type 0 where
  pub judged : AreJudged sig world ys
  pub design : (d : DesignForm) → OrderIsFree d → lines_text d world xs ≡ lines_text d world ys
  pub model : (ty : TypeForm) → model_text ty world xs ≡ model_text ty world ys
  pub pair : Pair (world_after world xs) (world_after world ys)

pub world_behind : (world : World) (before lines : List Line) → world_after world (before ++ lines) ≡ world_after (world_after world before) lines
world_behind world [] lines = refl
world_behind world (line ∷ before) lines = world_behind (after world line) before lines

pub judged_behind : (sig : Signature) (world : World) (before lines : List Line) → AreJudged sig world (before ++ lines) → AreJudged sig (world_after world before) lines
judged_behind sig world [] lines judged = judged
judged_behind sig world (line ∷ before) lines judged = judged_behind sig (after world line) before lines judged.1

judged_whole : (sig : Signature) (world : World) (before xs ys : List Line) → AreJudged sig world (before ++ xs) → AreJudged sig (world_after world before) ys
    → AreJudged sig world (before ++ ys)
judged_whole sig world [] xs ys judged more = more
judged_whole sig world (line ∷ before) xs ys judged more = (judged.0, judged_whole sig (after world line) before xs ys judged.1 more)

few_still : (a b c m n limit : ℕ) → m ≡ a + b → n ≡ a + c → c ≤ b → m < limit → n < limit
few_still a b c m n limit e f l few = omega arith

whole_pair : (n : ℕ) (before xs ys : List Line) → Pair (world_after (world_of n before) xs) (world_after (world_of n before) ys) → Pair (world_of n (before ++ xs)) (world_of n (before ++ ys))
whole_pair n before xs ys pair =
    subst (λ (w : World). Pair w (world_of n (before ++ ys))) (sym (world_behind (first_world n) before xs))
    (subst (λ (w : World). Pair (world_after (world_of n before) xs) w) (sym (world_behind (first_world n) before ys)) pair)

pub lifted : (n : ℕ) (before xs ys : List Line) → ((d : DesignForm) → IsWellSorted d → OrderIsFree d) → length ys ≤ length xs
    → ((sig : Signature) → AreJudged sig (first_world n) (before ++ xs) → Tails sig (world_of n before) xs ys) → RunAlike n (before ++ xs) (before ++ ys)
lifted n before xs ys free shorter tails = record {
  judged = λ sig judged. judged_whole sig (first_world n) before xs ys judged (tails sig judged).judged;
  scripts = λ sig is. record {
    some_replica = is.some_replica;
    few_replicas = is.few_replicas;
    packets = refl;
    few_lines =
        few_still (length before) (length xs) (length ys) (length (before ++ xs)) (length (before ++ ys)) LINE_LIMIT (length-append before xs) (length-append before ys) shorter is.few_lines;
    lines = judged_whole sig (first_world n) before xs ys is.lines (tails sig is.lines).judged;
  };
  clocks = λ sig r judged. ((whole_pair n before xs ys (tails sig judged).pair).alike.replicas (r - 1)).clocks;
  design = λ d sorted judged. texts_behind d (first_world n) before xs
      ∙ ap (λ (text : List ℕ). lines_text d (first_world n) before ++ text) ((tails d.sig judged).design d (free d sorted))
      ∙ sym (texts_behind d (first_world n) before ys);
  design_next = λ d line sorted judged. line_same d (world_of n (before ++ xs)) (world_of n (before ++ ys)) line (free d sorted) (whole_pair n before xs ys (tails d.sig judged).pair);
  model = λ ty judged. models_behind ty (first_world n) before xs
      ∙ ap (λ (text : List ℕ). model_text ty (first_world n) before ++ text) ((tails (signature_of ty) judged).model ty)
      ∙ sym (models_behind ty (first_world n) before ys);
  model_next = λ ty line judged. model_same ty (world_of n (before ++ xs)) (world_of n (before ++ ys)) line (whole_pair n before xs ys (tails (signature_of ty) judged).pair);
}
