-- The lists of the listing's machine are the token lists of the designs of that size.
use Rattle.std.proofs.Common.{◌≡◌, ℕ, ◌≤◌, Bool, true, List, [], length, refl, sym, ◌∙◌, subst, arith}
use Rattle.kat_type.specs.Signatures.{IsSmall}
use Rattle.kat_walk.specs.Machines.{Accepts, AscendsFrom, IsOneOf, Machine}
use Rattle.kat_walk.specs.Pruning.{Pruner, pruned, tested, total}
use Rattle.kat_walk.proofs.Pruned.{accepted_pruned, accepted_tested, ascend_kept, tested_passes}
use Rattle.kat_walk.proofs.WordLemmas.{accepted_word, word_accepted, words_ascend}
use Rattle.kat_design.specs.Designs.{DesignForm}
use Rattle.kat_design.specs.Sizes.{size_of}
use Rattle.kat_machine.specs.Ascent.{by_ascent, no_component}
use Rattle.kat_rules.specs.Costs.{cost}
use Rattle.kat_decoding.specs.Room.{by_size}
use Rattle.kat_machine.specs.Grammar.{first_place, grammar}
use Rattle.kat_rules.specs.Listed.{KeepsRules}
use Rattle.kat_rules.specs.Orders.{before}
use Rattle.kat_rules.specs.Tokens.{design_tokens}
use Rattle.kat_decoding.specs.Unread.{by_reads}
use Rattle.kat_decoding.specs.Words.{all_readable, AreListed, TellsListed, listing_machine, listing_start, listing_words, longest, searched, within_size}
use Rattle.kat_rules.specs.declared.constants.Setting.{Setting}
use Rattle.kat_rules.specs.declared.tokens.Token.{Token}
use Rattle.kat_decoding.proofs.AllRead.{all_read}
use Rattle.kat_machine.proofs.AscentKeeps.{ascent_keeps}
use Rattle.kat_rules.proofs.Lengths.{short_design}
use Rattle.kat_decoding.proofs.Exact.{size_keeps}
use Rattle.kat_decoding.proofs.ReadKeeps.{reads_keep}
use Rattle.kat_machine.proofs.Reading.{design_read}
use Rattle.kat_machine.proofs.Rising.{choices_ascend}
use Rattle.kat_machine.proofs.Used.{all_usable}
use Rattle.kat_rules.proofs.Totals.{cost_design}

-- each design of this size that keeps the rules is accepted
listed_accepted : (x : Setting) (n : ℕ) (test : List Token → Bool) (d : DesignForm) → IsSmall x.sig → KeepsRules x d → size_of d ≡ n → test (design_tokens x.constants d) ≡ true
    → Accepts (listing_machine x test) (listing_start n) (design_tokens x.constants d)
listed_accepted x n test d small rules size passes =
    let read = design_read x d small rules in
    let w = design_tokens x.constants d in
    let exact : total cost w ≡ n = cost_design x.constants d ∙ size in
    let whole : total cost w ≤ n = omega (arith, exact) in
    let sized = accepted_pruned (grammar x) (by_size x) first_place n w read (size_keeps x first_place n w read exact (all_usable x d rules)) in
    let kept = accepted_pruned (within_size x) (by_reads x) (first_place, n) [] w sized (reads_keep x first_place n [] w read whole (all_read x d rules)) in
    let risen = accepted_pruned (all_readable x) by_ascent ((first_place, n), []) no_component w kept (ascent_keeps (all_readable x) ((first_place, n), []) x d rules) in
    accepted_tested (searched x) test (((first_place, n), []), no_component) [] w risen passes

fits_length : (x : Setting) (n : ℕ) (d : DesignForm) → IsSmall x.sig → KeepsRules x d → size_of d ≡ n → length (design_tokens x.constants d) ≤ longest n
fits_length x n d small rules size = let h = short_design x.constants x.sig.ops d small.few_ops rules.components in omega (arith, h, size)

-- the tokens that are kept ascend, as all that may follow do
pruned_ascends : {S R T : Type 0} (less : T → T → Type 0) (m : Machine S T) (k : Pruner S R T) (sound : S → Type 0) → AscendsFrom less m sound → AscendsFrom less (pruned m k) (λ p. sound p.0)
pruned_ascends less m k sound laws = record { keeps = λ p t h. laws.keeps p.0 t h; ascends = λ p h. ascend_kept less (k.keeps p.0 p.1) (m.allowed p.0) (laws.ascends p.0 h) }

tested_ascends : {S T : Type 0} (less : T → T → Type 0) (m : Machine S T) (test : List T → Bool) (sound : S → Type 0) → AscendsFrom less m sound → AscendsFrom less (tested m test) (λ p. sound p.0)
tested_ascends less m test sound laws = record { keeps = λ p t h. laws.keeps p.0 t h; ascends = λ p h. laws.ascends p.0 h }

pub are_listed : (x : Setting) (n : ℕ) (test : List Token → Bool) → IsSmall x.sig → TellsListed x n test → AreListed x n test
are_listed x n test small tells = record {
  exactly = λ w. (
    λ h.
        (tells w).0
        (tested_passes (searched x) test (((first_place, n), []), no_component) [] w (word_accepted (listing_machine x test) (longest n) (listing_start n) w h)),
    λ l.
        subst (λ (v : List Token). IsOneOf v (listing_words x test n)) (sym l.1)
        (accepted_word (listing_machine x test) (longest n) (listing_start n) (design_tokens x.constants l.0)
        (listed_accepted x n test l.0 small l.2 l.3 ((tells (design_tokens x.constants l.0)).1 (l.0, refl, l.2, l.3)))
        (fits_length x n l.0 small l.2 l.3)),
  );
  ascend =
      words_ascend before (listing_machine x test) (λ p. Unit {0})
      (tested_ascends before (searched x) test (λ p. Unit {0})
      (pruned_ascends before (all_readable x) by_ascent (λ p. Unit {0})
      (pruned_ascends before (within_size x) (by_reads x) (λ p. Unit {0}) (pruned_ascends before (grammar x) (by_size x) (λ p. Unit {0}) (choices_ascend x)))))
      (longest n) (listing_start n) tt;
}
