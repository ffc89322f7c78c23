-- The sorts of expressions as they are written.
use Rattle.std.specs.Prelude.{Option, None, Some}
use Rattle.kat_num.specs.declared.values.Sort.{Sort}
use Rattle.kat_num.specs.declared.values.Sort.TheVariants as sort
use Rattle.kat_grammar.specs.Phrases.{Form}
use Rattle.kat_grammar.specs.Phrases.Form.{constant, word, entry, negation, joined, chosen, branches, parens}
use Rattle.kat_grammar.specs.declared.marks.Operator.{Operator}
use Rattle.kat_grammar.specs.declared.marks.Operator.TheVariants as operator
use Rattle.kat_grammar.specs.declared.phrases.Constant.{Constant}
use Rattle.kat_grammar.specs.declared.phrases.Constant.TheVariants.{Natural, Negative, Literal, Truth}
use Rattle.kat_grammar.specs.declared.phrases.Kept.{Kept}
use Rattle.kat_grammar.specs.declared.phrases.Kept.TheVariants.{One, Each}
use Rattle.kat_grammar.specs.declared.phrases.Parameter.{Parameter}
use Rattle.kat_grammar.specs.declared.phrases.State.{State}
use Rattle.kat_judging.specs.Names.{Scope, field_named, param_named}
use Rattle.kat_judging.specs.declared.names.Declared.{Declared}
use Rattle.kat_judging.specs.declared.found.Found.{Found}
use Rattle.kat_judging.specs.declared.found.Found.TheVariants.{Unknown, Exactly}
use Rattle.kat_judging.specs.KnownSorts.{sum_found, two_found}

abbrev pub constant_sort : Constant → Sort
constant_sort (Natural at n) = sort.Nat
constant_sort (Negative at number_at n) = sort.Int
constant_sort (Literal at name) = sort.Name
constant_sort (Truth at b) = sort.Bool

-- the sort of a field's values
abbrev pub kept_sort : Kept → Sort
kept_sort (One sort_at s) = s
kept_sort (Each table key_at key arrow sort_at s) = s

-- the sort of a field that is no table
abbrev pub plain_kept : Kept → Found
plain_kept (One sort_at s) = Exactly s
plain_kept (Each table key_at key arrow sort_at s) = Unknown

abbrev pub plain_found : Option (Declared State) → Found
plain_found None = Unknown
plain_found (Some d) = plain_kept d.it.kept

-- the sort of a table's values
abbrev pub table_kept : Kept → Found
table_kept (One sort_at s) = Unknown
table_kept (Each table key_at key arrow sort_at s) = Exactly s

abbrev pub table_found : Option (Declared State) → Found
table_found None = Unknown
table_found (Some d) = table_kept d.it.kept

-- a word means a parameter, or else a field that is no table
abbrev pub word_found : Option (Declared Parameter) → Option (Declared State) → Found
word_found (Some p) field = Exactly p.it.sort
word_found None field = plain_found field

abbrev pub operator_found : Operator → Found → Found → Found
operator_found operator.Plus a b = sum_found a b
operator_found operator.Minus a b = Exactly sort.Int
operator_found op a b = Exactly sort.Bool

-- what is known of the sort of an expression, by its own form
abbrev pub found_of : Scope → Form → Found
found_of scope (constant c) = Exactly (constant_sort c)
found_of scope (word w) = word_found (param_named scope w.code) (field_named scope w.code)
found_of scope (entry table open_at key close_at) = table_found (field_named scope table.code)
found_of scope (negation at a) = Exactly sort.Bool
found_of scope (joined op at a b) = operator_found op (found_of scope a) (found_of scope b)
found_of scope (chosen e at open_at a comma b close_at) = two_found (found_of scope a) (found_of scope b)
found_of scope (branches at c then_at a else_at b) = two_found (found_of scope a) (found_of scope b)
found_of scope (parens open_at a close_at) = found_of scope a
