-- A list whose tokens count otherwise isn't that of a design of a size.
use Rattle.std.proofs.Common.{◌≡◌, ℕ, ◌==◌, ◌&&◌, Bool, true, false, List, refl, sym, ◌∙◌, ap}
use Rattle.kat_walk.specs.Pruning.{total}
use Rattle.kat_design.specs.Sizes.{size_of}
use Rattle.kat_rules.specs.Costs.{cost}
use Rattle.kat_decoding.specs.Decoded.{decoded, is_listed_word}
use Rattle.kat_rules.specs.Tests.{is_same_list, keeps_rules}
use Rattle.kat_rules.specs.Tokens.{design_tokens}
use Rattle.kat_rules.specs.declared.constants.Setting.{Setting}
use Rattle.kat_rules.specs.declared.tokens.Token.{Token}
use Rattle.kat_rules.proofs.Alike.{and_parts, one_number}
use Rattle.kat_rules.proofs.Ranked.{one_list}
use Rattle.kat_rules.proofs.Totals.{cost_design}

listed_cost : (x : Setting) (n : ℕ) (w : List Token) → is_listed_word x n w ≡ true → total cost w ≡ n
listed_cost x n w h =
    let d = decoded x w in
    let p = and_parts (size_of d == n) (is_same_list (design_tokens x.constants d) w && keeps_rules x d) h in
    let q = and_parts (is_same_list (design_tokens x.constants d) w) (keeps_rules x d) p.1 in
    ap (total cost) (sym (one_list (design_tokens x.constants d) w q.0)) ∙ cost_design x.constants d ∙ one_number (size_of d) n p.0

false_or : (b : Bool) → (b ≡ true → ⊥) → b ≡ false
false_or true h = absurd (h refl)
false_or false h = refl

pub unlisted : (x : Setting) (n : ℕ) (w : List Token) → (total cost w ≡ n → ⊥) → is_listed_word x n w ≡ false
unlisted x n w h = false_or (is_listed_word x n w) (λ e. h (listed_cost x n w e))
