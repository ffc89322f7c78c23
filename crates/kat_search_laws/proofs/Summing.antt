-- The design of a cart that keeps a sum for each thing, and that it is listed.
use Rattle.std.proofs.Common.{◌≡◌, ◌≢◌, ℕ, zero, suc, ◌<◌, ◌≤◌, inl, true, [], ◌∷◌, All, Some, refl, arith}
use Rattle.std.proofs.lemmas.List.Elements.{All-nil, All-cons}
use Rattle.kat_design.specs.Designs.{ComponentForm, DesignForm}
use Rattle.kat_design.specs.Designs.AskForm.{leaf}
use Rattle.kat_design.specs.Designs.ComponentForm.{tallies}
use Rattle.kat_design.specs.Sorted.{Answers, AreMatched, IsComponent, IsWellSorted}
use Rattle.kat_design.specs.Sorted.HasKind.{read}
use Rattle.kat_design.specs.Sorted.IsWeight.{natural}
use Rattle.kat_design.specs.declared.designs.Leaf.TheVariants as given
use Rattle.kat_design.specs.declared.kinds.Kind.TheVariants as kind
use Rattle.kat_rules.specs.Listed.{IsListed, SomeReads}
use Rattle.kat_invariant.specs.Accepted.{GoTogether, HasKeys}
use Rattle.kat_num.specs.declared.values.Sort.TheVariants as sort
use Rattle.kat_sample.specs.Carts.{cart}
use Rattle.kat_sample.proofs.Types.{cart_alike, cart_sorted}
use Rattle.kat_search.specs.declared.options.Options.{Options}
use Rattle.kat_type.specs.Signatures.{signature_of}

-- an addition grows the sum of its thing by its number
abbrev pub sums : ComponentForm
sums = tallies sort.Name (Some (0, given.Arg 1) ∷ [])

-- how often a thing was added is its sum
abbrev pub summing : DesignForm
summing = record { sig = signature_of cart; components = sums ∷ []; asks = leaf 0 0 (Some 0) ∷ [] }

no_truth : sort.Name ≢ sort.Bool
no_truth e = absurd (cc)

sums_fit : IsComponent (signature_of cart).ops sums
sums_fit = (no_truth, ((refl, natural 1 refl), tt))

sums_answer : AreMatched (Answers (sums ∷ [])) summing.asks (signature_of cart).queries
sums_answer = (read 0 0 (Some 0) sums kind.Number refl refl refl, tt)

sums_read : (i : ℕ) → i < 1 → SomeReads i summing.asks
sums_read zero l = inl refl
sums_read (suc i) l = absurd (omega (arith, l))

pub sums_listed : (options : Options) → 4 ≤ options.size → options.kinds.tallies ≡ true → IsListed cart options.size options.kinds summing
sums_listed options large has = record {
  rules = record {
    signature = refl;
    components = (sums_fit, tt);
    asks = sums_answer;
    kinds = (has, tt);
    effects = (tt, tt);
    reads = sums_read;
    ascend = (λ v one. absurd one, tt);
    ordered = (tt, tt);
    starts = (tt, tt);
    constants = (tt, tt);
  };
  some = omega arith;
  small = large;
}

sums_sorted : IsWellSorted summing
sums_sorted = record { few = omega arith; small = omega arith; components = (sums_fit, tt); asks = sums_answer }

cart_keys : All HasKeys cart.fields
cart_keys = All-cons HasKeys _ [] no_truth (All-nil HasKeys)

pub together : GoTogether cart summing
together = record { type_sorted = cart_sorted; ranks = cart_alike; keys = cart_keys; design_sorted = sums_sorted; signed = refl }
