-- Runs and the bytes that they cover.
use Rattle.std.proofs.Common.{◌≡◌, ℕ, zero, suc, ◌+◌, ◌-◌, ◌<◌, ◌≤◌, Bool, true, false, List, [], ◌∷◌, length, drop, get_or, refl, ◌∙◌, inl, inr, arith, length-drop}
use Rattle.std.proofs.lemmas.Bool.{cases_lt, cases_order}
use Rattle.std.proofs.lemmas.List.{get_or-drop, get_or-take, length-take-le}
use Rattle.std.specs.Prelude.{slice_range}
use Rattle.std.specs.List.{list_all}
use Rattle.kat_lex.specs.Classes.{byte_at}
use Rattle.kat_lex.specs.Pieces.{IsRun}

-- a test passes all elements if it passes at each place
all_by_place : (passes : ℕ → Bool) (bytes : List ℕ) → ((k : ℕ) → k < length bytes → passes (get_or bytes k 0) ≡ true) → list_all passes bytes ≡ true
all_by_place passes [] each = refl
all_by_place passes (byte ∷ bytes) each =
    let first : passes byte ≡ true = each 0 (omega arith) in
    let later : list_all passes bytes ≡ true = all_by_place passes bytes (λ k h. each (suc k) (omega arith)) in
    rw (first) later

slice_byte : (text : List ℕ) (from to k : ℕ) → k < to - from → get_or (slice_range text from to) k 0 ≡ byte_at text (from + k)
slice_byte text from to k h = get_or-take (to - from) (drop from text) k 0 h ∙ get_or-drop from text k 0

pub length-slice : (text : List ℕ) (from to : ℕ) → to ≤ length text → length (slice_range text from to) ≡ to - from
length-slice text from to within = length-take-le (to - from) (drop from text) (omega (arith, length-drop from text))

-- what every byte of a run passes, its slice does
pub run_passes : (passes other : ℕ → Bool) (text : List ℕ) (from to : ℕ) → ((byte : ℕ) → passes byte ≡ true → other byte ≡ true)
    → IsRun passes text from to → list_all other (slice_range text from to) ≡ true
run_passes passes other text from to weaker run =
    all_by_place other (slice_range text from to) (λ k h.
    let size : length (slice_range text from to) ≡ to - from = length-slice text from to run.within in
    let inside : k < to - from = omega arith in
    rw (slice_byte text from to k inside) (weaker (byte_at text (from + k)) (run.each (from + k) (omega arith) (omega arith))))

-- a run whose first byte passes isn't empty
pub run_goes : (passes : ℕ → Bool) (text : List ℕ) (from to : ℕ) → IsRun passes text from to → from < length text
    → passes (byte_at text from) ≡ true → from < to
run_goes passes text from to run inside first =
    elim (cases_lt from to) [
      | inl h ↦ h
      | inr h ↦
          let same : to ≡ from = omega (arith, run.ordered) in
          let fails : passes (byte_at text to) ≡ false = run.longest (omega arith) in
          let also : passes (byte_at text to) ≡ true = rw same first in
          absurd (cc)
    ]

-- a run ends at one place
not_shorter : (passes : ℕ → Bool) (text : List ℕ) (from some other : ℕ) → IsRun passes text from some → IsRun passes text from other → some < other → ⊥
not_shorter passes text from some other short long h =
    let fails : passes (byte_at text some) ≡ false = short.longest (omega (arith, long.within)) in
    let also : passes (byte_at text some) ≡ true = long.each some short.ordered h in
    cc

pub run_unique : (passes : ℕ → Bool) (text : List ℕ) (from some other : ℕ) → IsRun passes text from some → IsRun passes text from other → some ≡ other
run_unique passes text from some other a b =
    elim (cases_order some other) [
      | inl h ↦ h
      | inr w ↦ elim w [
        | inl h ↦ absurd (not_shorter passes text from some other a b h)
        | inr h ↦ absurd (not_shorter passes text from other some b a h)
      ]
    ]

-- from every place there is a run
longer : (passes : ℕ → Bool) (text : List ℕ) (from to : ℕ) → passes (byte_at text from) ≡ true → IsRun passes text (from + 1) to → IsRun passes text from to
longer passes text from to first run = record {
  ordered = omega (arith, run.ordered);
  within = run.within;
  each = λ at low high. elim (cases_lt from at) [
    | inl h ↦ run.each at (omega arith) high
    | inr h ↦ let same : at ≡ from = omega arith in rw same first
  ];
  longest = run.longest;
}

run_or_end : (passes : ℕ → Bool) (text : List ℕ) (from : ℕ) (b : Bool) → passes (byte_at text from) ≡ b → from < length text
    → ((to : ℕ) × IsRun passes text (from + 1) to) → (to : ℕ) × IsRun passes text from to
run_or_end passes text from true e inside more = (more.0, longer passes text from more.0 e more.1)
run_or_end passes text from false e inside more = (
  from,
  record {
    ordered = omega arith;
    within = omega arith;
    each = λ at low high. absurd (omega arith);
    longest = λ _. e;
  },
)

run_by_fuel : (fuel : ℕ) (passes : ℕ → Bool) (text : List ℕ) (from : ℕ) → length text ≡ from + fuel → (to : ℕ) × IsRun passes text from to
run_by_fuel zero passes text from e = (
  from,
  record {
    ordered = omega arith;
    within = omega arith;
    each = λ at low high. absurd (omega arith);
    longest = λ h. absurd (omega arith);
  },
)
run_by_fuel (suc fuel) passes text from e =
    run_or_end passes text from (passes (byte_at text from)) refl (omega arith) (run_by_fuel fuel passes text (from + 1) (omega arith))

pub run_exists : (passes : ℕ → Bool) (text : List ℕ) (from : ℕ) → from ≤ length text → (to : ℕ) × IsRun passes text from to
run_exists passes text from inside = run_by_fuel (length text - from) passes text from (omega arith)
