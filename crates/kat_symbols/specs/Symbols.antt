-- Symbolic values: equal, less one after the other, and chosen.
use Rattle.std.specs.Prelude.{Bool, true, false, List, [], ◌∷◌, pos}
use Rattle.kat_linear.specs.Rows.{Form}
use Rattle.kat_form.specs.Facts.{Fact}
use Rattle.kat_form.specs.Facts.Fact.{known}
use Rattle.kat_num.specs.declared.values.Value.{Value}
use Rattle.kat_num.specs.declared.values.Value.TheVariants.{Bool as Truth, Num, Name as Word}
use Rattle.kat_symbols.specs.Connectives.{or_of, and_of, fact_lt, fact_same, truth_lt, truth_same, truth_if}
use Rattle.kat_symbols.specs.Readers.{Reader, Symbol, choose, read_flag, read_name}
use Rattle.kat_symbols.specs.Readers.Symbol.{number, truth}
use Rattle.kat_symbols.specs.Sums.{numeral}
use Rattle.kat_symbols.specs.declared.names.Name.{Name}

-- the number, and the truth, that a symbolic value is; what is neither counts as 0 and as false
abbrev pub number_in : Symbol → Form
number_in (number form) = form
number_in (truth fact) = numeral (pos 0)

abbrev pub truth_in : Symbol → Fact
truth_in (number form) = known false
truth_in (truth fact) = fact

-- a name is the number of its code
abbrev pub symbol_of : Value → Symbol
symbol_of (Truth b) = truth (known b)
symbol_of (Num z) = number (numeral z)
symbol_of (Word code) = number (numeral (pos code))

-- a variable of its own, for a truth value or else for a number
abbrev pub read_variable : Bool → Name → Reader → Symbol × Reader
read_variable true n r = let x = read_flag n r in (truth x.0, x.1)
read_variable false n r = let x = read_name n r in (number x.0, x.1)

abbrev pub symbol_lt : Symbol → Symbol → Fact
symbol_lt (number a) (number b) = fact_lt a b
symbol_lt (number a) (truth g) = known false
symbol_lt (truth f) (number b) = known false
symbol_lt (truth f) (truth g) = truth_lt f g

abbrev pub symbol_same : Symbol → Symbol → Fact
symbol_same (number a) (number b) = fact_same a b
symbol_same (number a) (truth g) = known false
symbol_same (truth f) (number b) = known false
symbol_same (truth f) (truth g) = truth_same f g

-- the list of the first parts is lexicographically less than that of the second
abbrev pub symbols_lt : List (Symbol × Symbol) → Fact
symbols_lt [] = known false
symbols_lt (p ∷ ps) = or_of (symbol_lt p.0 p.1) (and_of (symbol_same p.0 p.1) (symbols_lt ps))

-- each pair turned round
abbrev pub turned : List (Symbol × Symbol) → List (Symbol × Symbol)
turned [] = []
turned (p ∷ ps) = (p.1, p.0) ∷ turned ps

abbrev pub symbol_if : Fact → Symbol → Symbol → Reader → Symbol × Reader
symbol_if c (number a) (number b) r = let x = choose c a b r in (number x.0, x.1)
symbol_if c (number a) (truth g) r = (truth (known false), r)
symbol_if c (truth f) (number b) r = (truth (known false), r)
symbol_if c (truth f) (truth g) r = (truth (truth_if c f g), r)

-- a truth value as a number: 1 if it is true, and otherwise 0
abbrev pub as_number : Symbol → Reader → Form × Reader
as_number (number a) r = (a, r)
as_number (truth f) r = choose f (numeral (pos 1)) (numeral (pos 0)) r
