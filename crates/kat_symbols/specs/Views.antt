-- Used inside only.
-- What the program's readers and symbolic values are, and what a call gives and leaves.
use Rattle.std.specs.Prelude.{◌≡◌, List, ◌++◌, map, Result, Ok, Err, Vec}
use Rattle.std.specs.Global.{Global}
use Rattle.kat_linear.specs.Rows.{Form, form_of}
use Rattle.kat_linear.specs.declared.Row.{Row}
use Rattle.kat_form.specs.Facts.{Fact, fact_of, facts_of}
use Rattle.kat_form.specs.declared.Formula.{Formula}
use Rattle.kat_symbols.specs.Readers as readers
use Rattle.kat_symbols.specs.Readers.Symbol.{number, truth}
use Rattle.kat_symbols.specs.declared.names.Name.{Name}
use Rattle.kat_symbols.specs.declared.readers.Reader.{Reader}
use Rattle.kat_symbols.specs.declared.symbols.Symbol.{Symbol}
use Rattle.kat_symbols.specs.declared.symbols.Symbol.TheVariants.{Number, Truth}

abbrev pub symbol_form : Symbol → readers.Symbol
symbol_form (Number row) = number (form_of row)
symbol_form (Truth formula) = truth (fact_of formula)

abbrev pub kept_form : Name × Symbol → Name × readers.Symbol
kept_form kept = (kept.0, symbol_form kept.1)

abbrev pub pair_form : Symbol × Symbol → readers.Symbol × readers.Symbol
pair_form pair = (symbol_form pair.0, symbol_form pair.1)

abbrev pub pairs_form : List (Symbol × Symbol) → List (readers.Symbol × readers.Symbol)
pairs_form pairs = map pair_form pairs

abbrev pub reader_of : Reader → readers.Reader
reader_of r = record { slots = r.slots.items; flags = r.flags.items; kept = map kept_form r.kept.items; facts = facts_of r.facts.items }

-- the answer and the reader that is left are the given ones
abbrev pub GivesRow : {E : Type 0} → Form × readers.Reader → Result Row E → readers.Reader → Type 0
GivesRow {E} given (Ok row) left = (form_of row ≡ given.0) × (left ≡ given.1)
GivesRow {E} given (Err e) left = Unit {0}

abbrev pub GivesFact : {E : Type 0} → Fact × readers.Reader → Result Formula E → readers.Reader → Type 0
GivesFact {E} given (Ok formula) left = (fact_of formula ≡ given.0) × (left ≡ given.1)
GivesFact {E} given (Err e) left = Unit {0}

abbrev pub GivesSymbol : {E : Type 0} → readers.Symbol × readers.Reader → Result Symbol E → readers.Reader → Type 0
GivesSymbol {E} given (Ok symbol) left = (symbol_form symbol ≡ given.0) × (left ≡ given.1)
GivesSymbol {E} given (Err e) left = Unit {0}

abbrev pub GivesFacts : {E : Type 0} → List Fact × readers.Reader → Result (Vec Formula Global) E → readers.Reader → Type 0
GivesFacts {E} given (Ok formulas) left = (facts_of formulas.items ≡ given.0) × (left ≡ given.1)
GivesFacts {E} given (Err e) left = Unit {0}

abbrev pub GivesPairs : {E : Type 0} → List (readers.Symbol × readers.Symbol) × readers.Reader → Result (Vec (Symbol × Symbol) Global) E → readers.Reader → Type 0
GivesPairs {E} given (Ok pairs) left = (pairs_form pairs.items ≡ given.0) × (left ≡ given.1)
GivesPairs {E} given (Err e) left = Unit {0}

-- facts, and pairs, after those that are there
abbrev pub behind : {A : Type 0} → List A → List A × readers.Reader → List A × readers.Reader
behind done left = (done ++ left.0, left.1)
