-- What is printed: names, and values without floats.
use Rattle.std.proofs.Common.{◌≡◌, ℕ, zero, suc, ◌<◌, List, [], ◌∷◌, length, map, get_or, sym, subst, arith, true, ap, ◌∙◌, false, refl, Option, Some, None}
use Rattle.std.specs.Str.{IsAscii}
use Rattle.std.specs.List.{list_all}
use Rattle.std.specs.Prelude.{IsUtf8, pos, negsuc, ℤ}
use Rattle.std.proofs.lemmas.Str.{IsUtf8-from_ascii}
use Rattle.kat_design.specs.Sorted.{EachHas}
use Rattle.kat_num.specs.Bytes.{is_name_byte}
use Rattle.kat_num.proofs.NameCodes.{and_parts, name_of_code-code_of}
use Rattle.kat_num.specs.Names.{IsNameCode, name_of_code}
use Rattle.serde_json.specs.Data.{Data}
use Rattle.serde_json.specs.Written.{has_float, items_have_float}
use Rattle.serde_json.specs.View.{items_of}
use Rattle.serde_json.specs.Find.{is_float, of_integer}
use Rattle.kat_num.specs.declared.values.Value.{Value}
use Rattle.kat_json.specs.Printed.{value_data, sort_data, leaf_data, leaves_data, keyed_data, effect_data, effects_data}
use Rattle.kat_num.specs.declared.values.Sort.{Sort}
use Rattle.kat_design.specs.declared.designs.Leaf.{Leaf}
use Rattle.kat_num.specs.declared.values.Value.TheVariants as value
use Rattle.kat_num.specs.declared.values.Sort.TheVariants as sort
use Rattle.kat_design.specs.declared.designs.Leaf.TheVariants as leaf

-- each of the images of a list has it, and so has that of one of them
pub each_image : {A B : Type 0} (P : B → Type 0) (f : A → B) (xs : List A) (i : ℕ) (x : A) → EachHas P (map f xs) → i < length xs → x ≡ get_or xs i x → P (f x)
each_image P f [] i x each inside is = absurd (omega arith)
each_image P f (y ∷ xs) zero x each inside is = subst (λ z. P (f z)) (sym is) each.0
each_image P f (y ∷ xs) (suc i) x each inside is = each_image P f xs i x each.1 (omega arith) is

-- names are text
name_byte_small : (byte : ℕ) → is_name_byte byte ≡ true → byte < 128
name_byte_small byte h = grind arith

ascii_by : (bytes : List ℕ) → list_all is_name_byte bytes ≡ true → IsAscii bytes
ascii_by [] h i = omega arith
ascii_by (byte ∷ bytes) h zero = name_byte_small byte (and_parts (is_name_byte byte) (list_all is_name_byte bytes) h).0
ascii_by (byte ∷ bytes) h (suc i) = ascii_by bytes (and_parts (is_name_byte byte) (list_all is_name_byte bytes) h).1 i

pub name_is_text : (code : ℕ) → IsNameCode code → IsUtf8 (name_of_code code)
name_is_text code is =
    let same : name_of_code code ≡ is.name = ap name_of_code (sym is.coded) ∙ name_of_code-code_of is.name is.is_name in
    subst (λ name. IsUtf8 name) (sym same) (IsUtf8-from_ascii is.name (ascii_by is.name is.is_name.each))

-- no value that is printed has a float
abbrev pub IsWhole : Data → Type 0
IsWhole d = has_float d ≡ false

list_whole : (ds : List Data) → EachHas IsWhole ds → items_have_float (items_of ds) ≡ false
list_whole [] each = refl
list_whole (d ∷ ds) each = rw each.0 (list_whole ds each.1)

pub map_whole : {A : Type 0} (f : A → Data) → ((x : A) → IsWhole (f x)) → (xs : List A) → items_have_float (items_of (map f xs)) ≡ false
map_whole f each [] = refl
map_whole f each (x ∷ xs) = rw (each x) (map_whole f each xs)

pub integer_whole : (z : ℤ) → is_float (of_integer z) ≡ false
integer_whole (pos n) = refl
integer_whole (negsuc n) = refl

pub value_whole : (v : Value) → IsWhole (value_data v)
value_whole (value.Bool b) = refl
value_whole (value.Num z) = integer_whole z
value_whole (value.Name code) = refl

pub sort_whole : (s : Sort) → IsWhole (sort_data s)
sort_whole sort.Bool = refl
sort_whole sort.Int = refl
sort_whole sort.Nat = refl
sort_whole sort.Name = refl

pub leaf_whole : (l : Leaf) → IsWhole (leaf_data l)
leaf_whole (leaf.Arg place) = refl
leaf_whole leaf.Time = refl
leaf_whole leaf.Replica = refl
leaf_whole leaf.Zero = refl
leaf_whole leaf.One = refl
leaf_whole (leaf.Pos place) = refl
leaf_whole (leaf.Neg place) = refl
leaf_whole leaf.False = refl
leaf_whole leaf.True = refl

pub leaves_whole : (ls : List Leaf) → IsWhole (leaves_data ls)
leaves_whole ls = map_whole leaf_data leaf_whole ls

pub keyed_whole : {A : Type 0} (f : A → Data) → ((x : A) → IsWhole (f x)) → (e : ℕ × A) → IsWhole (keyed_data f e)
keyed_whole f each e = let given = each e.1 in rw given refl

effect_whole : {A : Type 0} (f : A → Data) → ((x : A) → IsWhole (f x)) → (e : Option A) → IsWhole (effect_data f e)
effect_whole f each None = refl
effect_whole f each (Some x) = each x

pub effects_whole : {A : Type 0} (f : A → Data) → ((x : A) → IsWhole (f x)) → (es : List (Option A)) → IsWhole (effects_data f es)
effects_whole f each es = map_whole (effect_data f) (effect_whole f each) es
