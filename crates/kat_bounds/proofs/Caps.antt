-- What values of each sort and kind weigh at most.
use Rattle.std.proofs.Common.{◌≡◌, ℕ, zero, suc, ◌<◌, ◌≤◌, false, List, subst, arith, length-append, Option, None, Some}
use Rattle.std.specs.Prelude.{◌^◌, ◌-◌, slice_get, length, replicate, ◌++◌}
use Rattle.kat_num.specs.Names.{IsNameCode, big_endian}
use Rattle.kat_num.specs.Values.{HasNameCode, HasSort}
use Rattle.kat_num.specs.declared.names.TheConstants.{NAME_LIMIT}
use Rattle.kat_num.specs.declared.values.Sort.{Sort}
use Rattle.kat_num.specs.declared.values.Value.{Value}
use Rattle.kat_num.specs.declared.values.Sort.TheVariants.{Bool as OfBool, Int as OfInt, Nat as OfNat, Name as OfName}
use Rattle.kat_num.specs.declared.values.Value.TheVariants.{Bool as Truth, Num, Name}
use Rattle.kat_num.proofs.NameCodes.{AreBytes-padded, big_endian-lt}
use Rattle.std.proofs.lemmas.List.{length-replicate}
use Rattle.kat_expr.specs.Limits.{IsAtMost}
use Rattle.kat_expr.specs.Sorts.{Accepts, IsChosen, Kept}
use Rattle.kat_expr.specs.Sorts.Kept.{one, each}
use Rattle.kat_design.specs.Designs.{ComponentForm}
use Rattle.kat_design.specs.Kinds.{leaf_kind}
use Rattle.kat_design.specs.declared.kinds.Kind.{Kind}
use Rattle.kat_design.specs.declared.kinds.Kind.TheVariants as kind
use Rattle.kat_symbols.specs.Symbols.{number_in, truth_in, symbol_of}
use Rattle.kat_symbols.specs.declared.names.Place.{Place}
use Rattle.kat_symbols.specs.declared.names.Place.TheVariants.{Field, Leaf}
use Rattle.kat_bounds.proofs.Weights.{IsUpTo, numeral_up, natural_up}
use Rattle.kat_bounds.proofs.Facts.{most, most_above, IsLightFact, known_light}
use Rattle.kat_bounds.proofs.Readers.{IsSymbolUpTo, number_symbol, truth_symbol}

-- the code of a name
pub name_small : (code : ℕ) → IsNameCode code → code ≤ most
unfolding most
name_small code named =
    let rest : ℕ = NAME_LIMIT - length named.name in
    let bytes : List ℕ = named.name ++ replicate rest 0 in
    let below = big_endian-lt bytes (AreBytes-padded named.name rest named.is_name.each) in
    let long : length bytes ≡ NAME_LIMIT = omega (arith, named.is_name.short, length-append named.name (replicate rest 0), length-replicate {A = ℕ} rest 0) in
    let less : big_endian bytes < 256 ^ NAME_LIMIT = subst (λ k. big_endian bytes < 256 ^ k) long below in
    subst (λ k. k ≤ 2 ^ 120) named.coded (omega (arith, less))

-- numbers, truth values and names
abbrev pub sort_cap : ℕ → Sort → ℕ
sort_cap n OfBool = n
sort_cap n OfInt = n
sort_cap n OfNat = n
sort_cap n OfName = most

pub sort_more : (m n : ℕ) (s : Sort) → m ≤ n → sort_cap m s ≤ sort_cap n s
sort_more m n OfBool h = h
sort_more m n OfInt h = h
sort_more m n OfNat h = h
sort_more m n OfName h = omega arith

pub sort_low : (n : ℕ) (s : Sort) → n ≤ most → sort_cap n s ≤ most
sort_low n OfBool h = h
sort_low n OfInt h = h
sort_low n OfNat h = h
sort_low n OfName h = omega arith

pub sort_some : (n : ℕ) (s : Sort) → 1 ≤ n → 1 ≤ sort_cap n s
sort_some n OfBool h = h
sort_some n OfInt h = h
sort_some n OfNat h = h
sort_some n OfName h = most_above

pub accepted_cap : (n : ℕ) (asked given : Sort) → Accepts asked given → sort_cap n given ≤ sort_cap n asked
accepted_cap n OfBool OfBool h = omega arith
accepted_cap n OfBool OfInt h = omega arith
accepted_cap n OfBool OfNat h = omega arith
accepted_cap n OfBool OfName h = absurd (cc)
accepted_cap n OfInt OfBool h = omega arith
accepted_cap n OfInt OfInt h = omega arith
accepted_cap n OfInt OfNat h = omega arith
accepted_cap n OfInt OfName h = absurd (cc)
accepted_cap n OfNat OfBool h = omega arith
accepted_cap n OfNat OfInt h = omega arith
accepted_cap n OfNat OfNat h = omega arith
accepted_cap n OfNat OfName h = absurd (cc)
accepted_cap n OfName OfBool h = absurd (cc)
accepted_cap n OfName OfInt h = absurd (cc)
accepted_cap n OfName OfNat h = absurd (cc)
accepted_cap n OfName OfName h = omega arith

-- fields
abbrev pub kept_cap : ℕ → Option Kept → ℕ
kept_cap n None = n
kept_cap n (Some (one s)) = sort_cap n s
kept_cap n (Some (each key s)) = sort_cap n s

pub kept_low : (n : ℕ) (k : Option Kept) → n ≤ most → kept_cap n k ≤ most
kept_low n None h = h
kept_low n (Some (one s)) h = sort_low n s h
kept_low n (Some (each key s)) h = sort_low n s h

pub kept_some : (n : ℕ) (k : Option Kept) → 1 ≤ n → 1 ≤ kept_cap n k
kept_some n None h = h
kept_some n (Some (one s)) h = sort_some n s h
kept_some n (Some (each key s)) h = sort_some n s h

pub kept_more : (m n : ℕ) (k : Option Kept) → m ≤ n → kept_cap m k ≤ kept_cap n k
kept_more m n None h = h
kept_more m n (Some (one s)) h = sort_more m n s h
kept_more m n (Some (each key s)) h = sort_more m n s h

-- leaves: the numbers of a design have 64 bits
unfoldable pub leaf_most : ℕ
leaf_most = 2 ^ 64

pub leaf_low : leaf_most ≤ most
unfolding leaf_most most
leaf_low = omega arith

pub leaf_some : 2 ≤ leaf_most
unfolding leaf_most
leaf_some = omega arith

abbrev pub kind_cap : Option Kind → ℕ
kind_cap None = leaf_most
kind_cap (Some kind.Number) = leaf_most
kind_cap (Some kind.Name) = most
kind_cap (Some kind.Truth) = leaf_most

pub kind_low : (k : Option Kind) → kind_cap k ≤ most
kind_low None = leaf_low
kind_low (Some kind.Number) = leaf_low
kind_low (Some kind.Name) = omega arith
kind_low (Some kind.Truth) = leaf_low

pub kind_some : (k : Option Kind) → 2 ≤ kind_cap k
kind_some None = leaf_some
kind_some (Some kind.Number) = leaf_some
kind_some (Some kind.Name) = omega (arith, leaf_some, leaf_low)
kind_some (Some kind.Truth) = leaf_some

abbrev pub place_cap : ℕ → List Kept → List ComponentForm → Place → ℕ
place_cap n fields components (Field f) = kept_cap n (slice_get fields f)
place_cap n fields components (Leaf c l) = kind_cap (leaf_kind (slice_get components c) l)

pub place_low : (n : ℕ) (fields : List Kept) (components : List ComponentForm) (place : Place) → n ≤ most → place_cap n fields components place ≤ most
place_low n fields components (Field f) h = kept_low n (slice_get fields f) h
place_low n fields components (Leaf c l) h = kind_low (leaf_kind (slice_get components c) l)

pub place_some : (n : ℕ) (fields : List Kept) (components : List ComponentForm) (place : Place) → 1 ≤ n → 1 ≤ place_cap n fields components place
place_some n fields components (Field f) h = kept_some n (slice_get fields f) h
place_some n fields components (Leaf c l) h = omega (arith, kind_some (leaf_kind (slice_get components c) l))

-- what each name allows, by its code: what is kept once, and what an operation gives
abbrev pub name_cap : ℕ → List Kept → List ComponentForm → ℕ × ℕ × ℕ × ℕ → ℕ
name_cap n fields components (suc zero, f, l, i) = kept_cap n (slice_get fields f)
name_cap n fields components (suc (suc zero), c, l, i) = kind_cap (leaf_kind (slice_get components c) l)
name_cap n fields components (k, a, b, i) = 1

-- a reader may have this many slots
module _ (slots_most : ℕ) where
  pub constant_up : (n k : ℕ) (asked : Sort) (v : Value) → k ≤ n → IsChosen asked → HasSort asked v → IsAtMost k v → HasNameCode v → IsUpTo slots_most (sort_cap n asked) (number_in (symbol_of v))
  constant_up n k OfInt (Num z) le c h few named = numeral_up slots_most n z (omega (arith, le, few))
  constant_up n k OfNat (Num z) le c h few named = numeral_up slots_most n z (omega (arith, le, few))
  constant_up n k OfName (Name code) le c h few named = natural_up slots_most most code (name_small code named)
  constant_up n k OfBool v le c h few named = absurd c
  constant_up n k OfInt (Truth b) le c h few named = absurd h
  constant_up n k OfInt (Name code) le c h few named = absurd h
  constant_up n k OfNat (Truth b) le c h few named = absurd h
  constant_up n k OfNat (Name code) le c h few named = absurd h
  constant_up n k OfName (Truth b) le c h few named = absurd h
  constant_up n k OfName (Num z) le c h few named = absurd h

  pub constant_light : (v : Value) → IsLightFact slots_most (truth_in (symbol_of v))
  constant_light (Truth b) = known_light slots_most b
  constant_light (Num z) = known_light slots_most false
  constant_light (Name code) = known_light slots_most false

  -- a start as it is kept
  pub start_up : (n k : ℕ) (s : Sort) (v : Value) → k ≤ n → HasSort s v → IsAtMost k v → HasNameCode v → IsSymbolUpTo slots_most (sort_cap n s) (symbol_of v)
  start_up n k OfInt (Num z) le h few named = number_symbol slots_most n _ (numeral_up slots_most n z (omega (arith, le, few)))
  start_up n k OfNat (Num z) le h few named = number_symbol slots_most n _ (numeral_up slots_most n z (omega (arith, le, few)))
  start_up n k OfName (Name code) le h few named = number_symbol slots_most most _ (natural_up slots_most most code (name_small code named))
  start_up n k OfBool (Truth b) le h few named = truth_symbol slots_most n _ (known_light slots_most b)
  start_up n k OfBool (Num z) le h few named = absurd h
  start_up n k OfBool (Name code) le h few named = absurd h
  start_up n k OfInt (Truth b) le h few named = absurd h
  start_up n k OfInt (Name code) le h few named = absurd h
  start_up n k OfNat (Truth b) le h few named = absurd h
  start_up n k OfNat (Name code) le h few named = absurd h
  start_up n k OfName (Truth b) le h few named = absurd h
  start_up n k OfName (Num z) le h few named = absurd h
