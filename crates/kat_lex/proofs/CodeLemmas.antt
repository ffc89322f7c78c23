-- The code of a word that is read byte by byte.
use Rattle.std.proofs.Common.{◌≡◌, ℕ, ◌+◌, ◌-◌, ◌*◌, ◌%◌, ◌^◌, ◌<◌, ◌≤◌, true, false, List, length, drop, take, refl, sym, ◌∙◌, ap, subst, inl, inr, arith}
use Rattle.std.proofs.lemmas.Bool.{cases_lt}
use Rattle.std.specs.Prelude.{slice_range}
use Rattle.kat_num.specs.Bytes.{is_word_byte}
use Rattle.kat_num.specs.Names.{big_endian, code_of}
use Rattle.kat_num.specs.declared.names.TheConstants.{NAME_LIMIT}
use Rattle.kat_num.proofs.Codes.{big_endian-take, code-shifted, power_fits, power_step}
use Rattle.kat_lex.specs.Classes.{byte_at}
use Rattle.kat_lex.specs.Found.{IsLongRun}
use Rattle.kat_lex.specs.Pieces.{IsRun}
use Rattle.kat_lex.proofs.DigitLemmas.{byte_in, each_next, next_at, place_within, slice_next}
use Rattle.kat_lex.proofs.RunLemmas.{length-slice, run_exists}

-- what is known of the bytes of a word up to a place
pub record ReadsCode (text : List ℕ) (from to code : ℕ) : Type 0 where
  pub each : (at : ℕ) → from ≤ at → at < to → is_word_byte (byte_at text at) ≡ true
  pub coded : code ≡ big_endian (slice_range text from to)
  pub small : code < 256 ^ (to - from)

nothing : (text : List ℕ) (from n : ℕ) → n ≡ 0 → 0 ≡ big_endian (take n (drop from text))
nothing text from n e = rw e refl

no_bytes : (n : ℕ) → n ≡ 0 → 0 < 256 ^ n
no_bytes n e = rw e (omega arith)

pub code_start : (text : List ℕ) (from : ℕ) → ReadsCode text from from 0
code_start text from = record {
  each = λ at low high. absurd (omega arith);
  coded = nothing text from (from - from) (omega arith);
  small = no_bytes (from - from) (omega arith);
}

pub code_next : (text : List ℕ) (from to code : ℕ) → from ≤ to → to < length text → byte_at text to < 256 → is_word_byte (byte_at text to) ≡ true
    → ReadsCode text from to code → ReadsCode text from (to + 1) (code * 256 + byte_at text to)
code_next text from to code l h byte passes reads = record {
  each = each_next is_word_byte text from to reads.each passes;
  coded = ap (λ b. code * 256 + b) (sym (byte_in text from to l))
      ∙ big_endian-take (drop from text) (to - from) code (place_within text from to l h) reads.coded
      ∙ ap (λ (bytes : List ℕ). big_endian bytes) (sym (slice_next text from to l));
  small = subst (λ n. code * 256 + byte_at text to < 256 ^ n) (sym (next_at from to l)) (power_step (to - from) code (byte_at text to) reads.small byte);
}

-- there is room for one byte more
pub code_fits : (text : List ℕ) (from to code : ℕ) → to - from ≤ 14 → ReadsCode text from to code → code < 2 ^ 112
code_fits text from to code few reads = omega (arith, reads.small, power_fits (to - from) few)

pub code_done : (text : List ℕ) (from to code : ℕ) → to ≤ length text → to - from ≤ 15 → ReadsCode text from to code
    → (code * 2 ^ (8 * (15 - (to - from)))) % 2 ^ 128 ≡ code_of (slice_range text from to)
code_done text from to code within few reads =
    let size : length (slice_range text from to) ≡ to - from = length-slice text from to within in
    ap (λ n. (code * 2 ^ (8 * (15 - n))) % 2 ^ 128) (sym size)
    ∙ code-shifted (slice_range text from to) code (subst (λ n. n ≤ 15) (sym size) few) reads.coded (subst (λ n. code < 256 ^ n) (sym size) reads.small)

-- more than 15 bytes of words
pub long_run : (text : List ℕ) (from last code : ℕ) → last ≡ from + NAME_LIMIT → last < length text → is_word_byte (byte_at text last) ≡ true
    → ReadsCode text from last code → IsLongRun text from
long_run text from last code far inside passes reads =
    let run = run_exists is_word_byte text from (omega (arith, far)) in
    elim (cases_lt last run.0) [
      | inl h ↦ (run.0, run.1, omega (arith, far))
      | inr h ↦
          let fails : is_word_byte (byte_at text run.0) ≡ false = run.1.longest (omega arith) in
          let also : is_word_byte (byte_at text run.0) ≡ true =
          each_next is_word_byte text from last reads.each passes run.0 run.1.ordered (omega arith) in
          absurd (cc)
    ]

-- the run ends where a byte is none of words
pub run_there : (text : List ℕ) (from to code : ℕ) → from ≤ to → to ≤ length text → (to < length text → is_word_byte (byte_at text to) ≡ false)
    → ReadsCode text from to code → IsRun is_word_byte text from to
run_there text from to code low within longest reads = record { ordered = low; within = within; each = reads.each; longest = longest }

-- the word ends before its last place
pub word_stops : (text : List ℕ) (from to m code : ℕ) → from ≤ to → to < from + m → m ≤ 15 → from + m ≤ length text → is_word_byte (byte_at text to) ≡ false
    → ReadsCode text from to code
    → IsRun is_word_byte text from to × (to ≤ from + NAME_LIMIT) × ((code * 2 ^ (8 * (15 - (to - from)))) % 2 ^ 128 ≡ code_of (slice_range text from to))
word_stops text from to m code low high few inside fails reads = (
  run_there text from to code low (omega arith) (λ h. fails) reads,
  omega arith,
  code_done text from to code (omega arith) (omega arith) reads,
)

-- the word ends at its last place
pub word_ends : (text : List ℕ) (from to m code : ℕ) → to ≤ from + m → from + m ≤ to → m ≤ 15 → from + m ≤ length text
    → (from + m < length text → is_word_byte (byte_at text (from + m)) ≡ false) → ReadsCode text from to code
    → IsRun is_word_byte text from (from + m) × (from + m ≤ from + NAME_LIMIT)
    × ((code * 2 ^ (8 * (15 - (from + m - from)))) % 2 ^ 128 ≡ code_of (slice_range text from (from + m)))
word_ends text from to m code low high few inside longest reads =
    let same : to ≡ from + m = omega arith in
    let there : ReadsCode text from (from + m) code = subst (λ n. ReadsCode text from n code) same reads in (
      run_there text from (from + m) code (omega arith) inside longest there,
      omega arith,
      code_done text from (from + m) code inside (omega arith) there,
    )

pub word_is_long : (text : List ℕ) (from to m code : ℕ) → to ≤ from + m → from + m ≤ to → m ≡ NAME_LIMIT → from + m < length text → is_word_byte (byte_at text (from + m)) ≡ true
    → ReadsCode text from to code → IsLongRun text from
word_is_long text from to m code low high e inside passes reads =
    let same : to ≡ from + m = omega arith in
    long_run text from (from + m) code (omega (arith, e)) inside passes (subst (λ n. ReadsCode text from n code) same reads)
