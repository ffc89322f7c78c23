-- A side: how the two states and the last operation are read, at the start, before an operation, or after it.
use Rattle.std.specs.Prelude.{ℕ, Option, Some, None}
use Rattle.kat_linear.specs.Rows.{Form}
use Rattle.kat_form.specs.Facts.{Fact}
use Rattle.kat_symbols.specs.Readers.{Reader, Symbol}
use Rattle.kat_symbols.specs.declared.names.Instance.{Instance}
use Rattle.kat_symbols.specs.declared.names.Instance.TheVariants.{Argument}
use Rattle.kat_symbols.specs.declared.names.Place.{Place}

pub record Side : Type 0 where
  pub value : Place → Option Instance → Reader → Symbol × Reader  -- what is kept at a place, at a key if it is kept by key
  pub begun : Reader → Fact × Reader  -- whether there is a last operation
  pub element : ℕ → Reader → Form × Reader  -- an element of its rank

-- The key that a parameter gives. A conjunct's query has one parameter at most, which is the conjunct's key; elsewhere each
-- parameter is an argument of its own.
abbrev pub given : Option Instance → ℕ → Instance
given None j = Argument j
given (Some i) j = i
