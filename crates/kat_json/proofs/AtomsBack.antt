-- A value without a fault of form is what is printed of what it says: words, names, numbers and effects.
use Rattle.std.proofs.Common.{refl, ◌≡◌, ℤ, pos, negsuc, Bool, true, false, sym, ap, Some, None, cond, arith, ℕ, List, length, ◌∙◌, Option, ◌<◌}
use Rattle.std.specs.Fmt.{digits}
use Rattle.std.proofs.lemmas.Int.{ints}
use Rattle.std.specs.Prelude.{◌-◌, int_lt, nat_le, option_map, option_and_then, ◌^◌, nat_lt}
use Rattle.std.specs.List.{list_all}
use Rattle.std.proofs.lemmas.Bool.{leb-true}
use Rattle.std.specs.Ordering.{int_eq}
use Rattle.std.proofs.lemmas.Bool.Decides.{Decides-int_eq}
use Rattle.kat_json.specs.FormFaults.{sort_faults, key_sort_faults, key_faults, value_faults, leaf_faults}
use Rattle.kat_json.specs.Parts.{sort_said, key_sort_said, key_said, value_said, leaf_said}
use Rattle.kat_json.specs.Printed.{sort_data, key_data, value_data, leaf_data, natural}
use Rattle.kat_json.specs.Words.{sort_words, word_in, key_sort_words, key_words, whole_of_number, is_name, named, value_of, digit_leaf, leaf_words, spelled, leaf_of, kept_number, whole_of, number_of}
use Rattle.kat_json.proofs.Backwards.{GoesBack, found_back, word_back, none_some, some_same, spelled_back}
use Rattle.serde_json.specs.Data.{negative, Num, unsigned, float, string, number, Data, null, boolean, array, object}
use Rattle.serde_json.specs.Find.{of_integer}
use Rattle.kat_num.specs.Bytes.{is_name_byte}
use Rattle.kat_num.specs.Names.{IsName, code_of}
use Rattle.kat_num.specs.declared.names.TheConstants.{NAME_LIMIT}
use Rattle.kat_num.proofs.NameCodes.{and_parts, name_of_code-code_of}
use Rattle.kat_num.specs.declared.values.Value.{Value}
use Rattle.kat_design.specs.declared.designs.Leaf.{Leaf}
use Rattle.kat_num.specs.declared.values.Value.TheVariants as value
use Rattle.kat_design.specs.declared.designs.Leaf.TheVariants as leaf

pub sort_goes_back : GoesBack sort_faults sort_said sort_data
sort_goes_back d none = word_back sort_data sort_words (refl, (refl, (refl, (refl, tt)))) d (sort_said d) (found_back (word_in sort_words d) _ none)

pub key_sort_goes_back : GoesBack key_sort_faults key_sort_said sort_data
key_sort_goes_back d none = word_back sort_data key_sort_words (refl, (refl, (refl, tt))) d (key_sort_said d) (found_back (word_in key_sort_words d) _ none)

pub key_goes_back : GoesBack key_faults key_said key_data
unfolding digits
key_goes_back d none = word_back key_data key_words (refl, (refl, (refl, (refl, tt)))) d (key_said d) (found_back (word_in key_words d) _ none)

-- whole numbers
below_by : (z : ℤ) (b : Bool) (y : ℤ) → int_lt z (pos 0) ≡ b → cond b (Some z) None ≡ Some y → of_integer y ≡ negative z
below_by (pos n) true y is h = absurd (grind (arith, ints))
below_by (negsuc n) true y is h = ap of_integer (sym (some_same (negsuc n) y h))
below_by z false y is h = none_some y h

pub whole_back : (n : Num) (z : ℤ) → whole_of_number n ≡ Some z → of_integer z ≡ n
whole_back (unsigned n) z h = ap of_integer (sym (some_same (pos n) z h))
whole_back (negative y) z h = below_by y (int_lt y (pos 0)) z refl h
whole_back (float x) z h = none_some z h

-- names
pub is_name_named : (text : List ℕ) → is_name text ≡ true → IsName text
is_name_named text h = let both = and_parts (nat_le (length text) NAME_LIMIT) (list_all is_name_byte text) h in record { short = leb-true (length text) NAME_LIMIT both.0; each = both.1 }

named_by : (text : List ℕ) (b : Bool) (v : Value) → is_name text ≡ b → cond b (Some (value.Name (code_of text))) None ≡ Some v → value_data v ≡ string text
named_by text true v is h = ap value_data (sym (some_same (value.Name (code_of text)) v h)) ∙ ap string (name_of_code-code_of text (is_name_named text is))
named_by text false v is h = none_some v h

pub named_back : (text : List ℕ) (v : Value) → named text ≡ Some v → value_data v ≡ string text
named_back text v h = named_by text (is_name text) v refl h

number_by : (n : Num) (o : Option ℤ) (v : Value) → whole_of_number n ≡ o → option_map value.Num o ≡ Some v → value_data v ≡ number n
number_by n None v is h = none_some v h
number_by n (Some z) v is h = ap value_data (sym (some_same (value.Num z) v h)) ∙ ap number (whole_back n z is)

pub value_back : (d : Data) (v : Value) → value_of d ≡ Some v → value_data v ≡ d
value_back null v h = none_some v h
value_back (boolean b) v h = ap value_data (sym (some_same (value.Bool b) v h))
value_back (number n) v h = number_by n (whole_of_number n) v refl h
value_back (string s) v h = named_back s v h
value_back (array ds) v h = none_some v h
value_back (object ms) v h = none_some v h

pub value_goes_back : GoesBack value_faults value_said value_data
value_goes_back d none = value_back d (value_said d) (found_back (value_of d) _ none)

-- leaves of effects
digit_by : (z : ℤ) (a b : Bool) (l : Leaf) → int_eq z (pos 0) ≡ a → int_eq z (pos 1) ≡ b → cond a (Some leaf.Zero) (cond b (Some leaf.One) None) ≡ Some l → leaf_data l ≡ number (of_integer z)
digit_by z true b l is one h = ap leaf_data (sym (some_same leaf.Zero l h)) ∙ ap (λ y. number (of_integer y)) (sym ((Decides-int_eq z (pos 0)).0 is))
digit_by z false true l is one h = ap leaf_data (sym (some_same leaf.One l h)) ∙ ap (λ y. number (of_integer y)) (sym ((Decides-int_eq z (pos 1)).0 one))
digit_by z false false l is one h = none_some l h

leaf_number_by : (n : Num) (o : Option ℤ) (l : Leaf) → whole_of_number n ≡ o → option_and_then digit_leaf o ≡ Some l → leaf_data l ≡ number n
leaf_number_by n None l is h = none_some l h
leaf_number_by n (Some z) l is h = digit_by z (int_eq z (pos 0)) (int_eq z (pos 1)) l refl refl h ∙ ap number (whole_back n z is)

truth_leaf : (b : Bool) (l : Leaf) → Some (cond b leaf.True leaf.False) ≡ Some l → leaf_data l ≡ boolean b
truth_leaf true l h = ap leaf_data (sym (some_same leaf.True l h))
truth_leaf false l h = ap leaf_data (sym (some_same leaf.False l h))

leaf_word_back : (s : List ℕ) (l : Leaf) → spelled leaf_words s ≡ Some l → leaf_data l ≡ string s
unfolding digits
leaf_word_back s l h = spelled_back leaf_data leaf_words (refl, (refl, (refl, (refl, (refl, (refl, (refl, (refl, (refl, (refl, (refl, (refl, (refl, (refl, tt)))))))))))))) s l h

pub leaf_back : (d : Data) (l : Leaf) → leaf_of d ≡ Some l → leaf_data l ≡ d
leaf_back null l h = none_some l h
leaf_back (boolean b) l h = truth_leaf b l h
leaf_back (number n) l h = leaf_number_by n (whole_of_number n) l refl h
leaf_back (string s) l h = leaf_word_back s l h
leaf_back (array ds) l h = none_some l h
leaf_back (object ms) l h = none_some l h

pub leaf_goes_back : GoesBack leaf_faults leaf_said leaf_data
leaf_goes_back d none = leaf_back d (leaf_said d) (found_back (leaf_of d) _ none)

-- numbers of components, leaves and parameters that aren't the greatest of 32 bits
kept_by : (n : ℕ) (b : Bool) (m : ℕ) → cond b n (2 ^ 32 - 1) ≡ m → m < 2 ^ 32 - 1 → n ≡ m
kept_by n true m is small = is
kept_by n false m is small = absurd (omega arith)

pub kept_back : (z : ℤ) (m : ℕ) → kept_number z ≡ m → m < 2 ^ 32 - 1 → z ≡ pos m
kept_back (pos n) m is small = ap pos (kept_by n (nat_lt n (2 ^ 32)) m is small)
kept_back (negsuc n) m is small = absurd (omega arith)

natural_by : (d : Data) (o : Option ℤ) (m : ℕ) → whole_of d ≡ o → option_map kept_number o ≡ Some m → m < 2 ^ 32 - 1 → whole_of d ≡ Some (pos m)
natural_by d None m is h small = none_some m h
natural_by d (Some z) m is h small = is ∙ ap Some (kept_back z m (some_same (kept_number z) m h) small)

pub whole_data : (d : Data) (z : ℤ) → whole_of d ≡ Some z → number (of_integer z) ≡ d
whole_data null z h = none_some z h
whole_data (boolean b) z h = none_some z h
whole_data (number n) z h = ap number (whole_back n z h)
whole_data (string s) z h = none_some z h
whole_data (array ds) z h = none_some z h
whole_data (object ms) z h = none_some z h

pub natural_back : (d : Data) (m : ℕ) → number_of d ≡ Some m → m < 2 ^ 32 - 1 → natural m ≡ d
natural_back d m h small = whole_data d (pos m) (natural_by d (whole_of d) m refl h small)
