-- Keys without a fault have one kind, so they are compared.
use Rattle.std.proofs.Common.{◌≡◌, Bool, true, false, List, [], ◌++◌, ℤ, refl, ap}
use Rattle.std.specs.Prelude.{◌&&◌, ◌||◌, not}
use Rattle.std.specs.declared.cmp.Ordering.TheVariants.{Less}
use Rattle.std.specs.Ordering.{is_lt}
use Rattle.kat_num.proofs.NameCodes.{and_parts}
use Rattle.kat_num.specs.Orders.{value_order}
use Rattle.kat_num.specs.declared.values.Sort.{Sort}
use Rattle.kat_num.specs.declared.values.Sort.TheVariants as sort
use Rattle.kat_num.specs.declared.values.Value.{Value}
use Rattle.kat_num.specs.declared.values.Value.TheVariants as value
use Rattle.kat_shape.specs.Forms.{CellForm}
use Rattle.kat_shape.specs.Values.{Filled}
use Rattle.kat_design.specs.Faults.{here_if, is_written, within}
use Rattle.kat_design.proofs.Accepted.{none_left, none_right}
use Rattle.kat_json.proofs.Backwards.{here_back, within_back}
use Rattle.kat_node.specs.Possible.{has_key_sort, have_one_kind, is_empty, key_faults, keys_ascend, leaves_faults, own_faults, sums_faults, table_entry_faults, tallies_entry_faults}
use Rattle.kat_node.proofs.Judged.{AreLess, less_back, not_back}

-- a key without a fault has the sort, and is one that a file can have
pub key_parts : (s : Sort) (v : Value) → key_faults s v ≡ [] → (has_key_sort s v ≡ true) × (is_written v ≡ true)
key_parts s v none = and_parts (has_key_sort s v) (is_written v) (not_back (has_key_sort s v && is_written v) (here_back (not (has_key_sort s v && is_written v)) none))

no_truth : (s : Sort) (b : Bool) → has_key_sort s (value.Bool b) ≡ true → ⊥
no_truth sort.Bool b h = absurd (cc)
no_truth sort.Int b h = absurd (cc)
no_truth sort.Nat b h = absurd (cc)
no_truth sort.Name b h = absurd (cc)

not_both : (s : Sort) (z : ℤ) (code : _) → has_key_sort s (value.Num z) ≡ true → has_key_sort s (value.Name code) ≡ true → ⊥
not_both sort.Bool z code h k = absurd (cc)
not_both sort.Int z code h k = absurd (cc)
not_both sort.Nat z code h k = absurd (cc)
not_both sort.Name z code h k = absurd (cc)

one_kind : (s : Sort) (v w : Value) → has_key_sort s v ≡ true → has_key_sort s w ≡ true → have_one_kind v w ≡ true
one_kind s (value.Num y) (value.Num z) h k = refl
one_kind s (value.Name code) (value.Name other) h k = refl
one_kind s (value.Num z) (value.Name code) h k = absurd (not_both s z code h k)
one_kind s (value.Name code) (value.Num z) h k = absurd (not_both s z code k h)
one_kind s (value.Bool b) w h k = absurd (no_truth s b h)
one_kind s (value.Num z) (value.Bool b) h k = absurd (no_truth s b k)
one_kind s (value.Name code) (value.Bool b) h k = absurd (no_truth s b k)

compared : (one less : Bool) → one ≡ true → not one || less ≡ true → less ≡ true
compared true less is h = h
compared false less is h = absurd (cc)

pub keys_less : (s : Sort) (v w : Value) → key_faults s v ≡ [] → key_faults s w ≡ [] → keys_ascend v w ≡ true → value_order v w ≡ Less
keys_less s v w first second h =
    less_back (value_order v w) (compared (have_one_kind v w) (is_lt (value_order v w)) (one_kind s v w (key_parts s v first).0 (key_parts s w second).0) h)

-- the key of an entry without a fault
pub table_key : (key : Sort) (shape : CellForm) (start : Filled) (e : Value × List Value) → table_entry_faults key shape start e ≡ [] → key_faults key e.0 ≡ []
table_key key shape start e none =
    let f = own_faults shape start e.1 in
    let g = within 0 (key_faults key e.0) in
    let h = within 1 (leaves_faults shape e.1) in
    within_back 0 (key_faults key e.0) (none_right f g (none_left (f ++ g) h none))

pub tallies_key : (key : Sort) (e : Value × List (ℤ × ℤ)) → tallies_entry_faults key e ≡ [] → key_faults key e.0 ≡ []
tallies_key key e none =
    let g = here_if (is_empty e.1) ++ sums_faults e.1 in
    within_back 0 (key_faults key e.0) (none_left (within 0 (key_faults key e.0)) (within 1 g) none)

pub table_less : (key : Sort) (shape : CellForm) (start : Filled) → AreLess value_order keys_ascend (λ (e : Value × List Value). e.0) (table_entry_faults key shape start)
table_less key shape start d e first second h = keys_less key d.0 e.0 (table_key key shape start d first) (table_key key shape start e second) h

pub tallies_less : (key : Sort) → AreLess value_order keys_ascend (λ (e : Value × List (ℤ × ℤ)). e.0) (tallies_entry_faults key)
tallies_less key d e first second h = keys_less key d.0 e.0 (tallies_key key d first) (tallies_key key e second) h

-- keys that ascend may follow one another
either : (a b : Bool) → b ≡ true → a || b ≡ true
either true b h = refl
either false b h = h

pub keys_right : (v w : Value) → value_order v w ≡ Less → keys_ascend v w ≡ true
keys_right v w h = either (not (have_one_kind v w)) (is_lt (value_order v w)) (ap is_lt h)
