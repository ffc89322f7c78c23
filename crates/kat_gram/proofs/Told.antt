-- The test of a list of tokens tells the lists of the designs of a size that keep the rules.
use Rattle.std.proofs.Common.{◌≡◌, ℕ, ◌-◌, ◌^◌, ◌≤◌, Bool, true, List, refl, sym, ◌∙◌, ap, subst, arith}
use Rattle.std.specs.Prelude.{◌==◌, ◌&&◌, ◌↔◌, IsTrue, min}
use Rattle.std.specs.Bool.{Decides}
use Rattle.std.proofs.lemmas.Bool.{eqb-true}
use Rattle.std.proofs.lemmas.Grind.{common_steps}
use Rattle.kat_design.specs.Designs.{DesignForm}
use Rattle.kat_design.specs.Sizes.{size_of}
use Rattle.kat_decoding.specs.Decoded.{decoded, is_listed_word}
use Rattle.kat_rules.specs.Listed.{KeepsRules}
use Rattle.kat_rules.specs.Tests.{is_same_list, is_word_of, keeps_rules}
use Rattle.kat_rules.specs.Tokens.{design_tokens}
use Rattle.kat_decoding.specs.Words.{IsListedWord, TellsListed}
use Rattle.kat_rules.specs.declared.constants.Setting.{Setting}
use Rattle.kat_rules.specs.declared.tokens.Token.{Token}
use Rattle.kat_decoding.proofs.Closing.{design_back}
use Rattle.kat_rules.proofs.Ranked.{list_itself, one_list}
use Rattle.kat_rules.proofs.Comparing.{and_first, and_second}
use Rattle.kat_rules.proofs.Ruled.{both_true}
use Rattle.kat_rules.proofs.Passing.{rules_kept, rules_pass}

number_itself : (n m : ℕ) → n ≡ m → n == m ≡ true
number_itself n m e = grind (arith, common_steps)

word_is : (x : Setting) (n : ℕ) (w : List Token) → is_listed_word x n w ≡ true → IsListedWord x n w
word_is x n w h =
    let d = decoded x w in
    let k = and_second (size_of d == n) (is_same_list (design_tokens x.constants d) w && keeps_rules x d) h in (
      d,
      sym (one_list (design_tokens x.constants d) w (and_first (is_same_list (design_tokens x.constants d) w) (keeps_rules x d) k)),
      rules_kept x d refl (and_second (is_same_list (design_tokens x.constants d) w) (keeps_rules x d) k),
      eqb-true (size_of d) n (and_first (size_of d == n) (is_same_list (design_tokens x.constants d) w && keeps_rules x d) h),
    )

design_passes : (x : Setting) (n : ℕ) (w : List Token) (d : DesignForm) → n ≤ 24 → w ≡ design_tokens x.constants d → KeepsRules x d → size_of d ≡ n → is_word_of x n w d ≡ true
design_passes x n w d small e rules size =
    both_true (size_of d == n) (is_same_list (design_tokens x.constants d) w && keeps_rules x d) (number_itself (size_of d) n size)
    (both_true (is_same_list (design_tokens x.constants d) w) (keeps_rules x d)
    (subst (λ (v : List Token). is_same_list (design_tokens x.constants d) v ≡ true) (sym e) (list_itself (design_tokens x.constants d)))
    (rules_pass x d rules (omega (arith, size, small))))

pub word_back : (x : Setting) (w : List Token) (d : DesignForm) → w ≡ design_tokens x.constants d → KeepsRules x d → size_of d ≤ 24 → decoded x w ≡ d
word_back x w d e rules small = ap (decoded x) e ∙ design_back x d rules (omega (arith, small))

word_was : (x : Setting) (n : ℕ) (w : List Token) → n ≤ 24 → IsListedWord x n w → is_listed_word x n w ≡ true
word_was x n w small l =
    subst (λ (d : DesignForm). is_word_of x n w d ≡ true) (sym (word_back x w l.0 l.1 l.2 (let s = l.3 in omega (arith, s, small))))
    (design_passes x n w l.0 small l.1 l.2 l.3)

pub listed_told : (x : Setting) (n : ℕ) → n ≤ 24 → TellsListed x n (is_listed_word x n)
listed_told x n small = λ w. (word_is x n w, word_was x n w small)

-- a design that isn't too great and passes the test can be listed
small_size : (s n most : ℕ) → n ≡ min s (2 ^ 32 - 1) → n ≤ most → most ≤ 24 → s ≤ most
small_size s n most e l small = grind (arith, common_steps)

pub may_be_listed : (x : Setting) (d : DesignForm) (most n : ℕ) (a b : Bool) → (IsTrue a ↔ (x.sig ≡ d.sig)) → a ≡ true → n ≡ min (size_of d) (2 ^ 32 - 1) → n ≤ most → most ≤ 24
    → b ≡ keeps_rules x d → Decides b (KeepsRules x d × (size_of d ≤ most))
may_be_listed x d most n a b agrees told e l small is = (
  λ t. (rules_kept x d (sym (agrees.0 told)) (sym is ∙ t), small_size (size_of d) n most e l small),
  λ p. is ∙ rules_pass x d p.0 (let s = p.1 in omega (arith, s, small)),
)
