-- Which declaration a word means.
use Rattle.std.specs.Prelude.{ℕ, suc, ◌==◌, List, [], ◌∷◌, Option, None, Some, option_map, if◌then◌else◌}
use Rattle.kat_grammar.specs.declared.phrases.Parameter.{Parameter}
use Rattle.kat_grammar.specs.declared.phrases.State.{State}
use Rattle.kat_judging.specs.declared.names.Declared.{Declared}

abbrev pub one_further : {A : Type 0} → Declared A → Declared A
one_further d = record { place = suc d.place; it = d.it }

-- the first of a list whose name this is
abbrev pub first_named : {A : Type 0} → (A → ℕ) → ℕ → List A → Option (Declared A)
first_named name_of code [] = None
first_named name_of code (x ∷ xs) = if name_of x == code then Some (record { place = 0; it = x }) else option_map one_further (first_named name_of code xs)

-- what the words of an operation or a query may mean: the fields of the type, and its own parameters
pub record Scope : Type 0 where
  pub fields : List State
  pub params : List Parameter

abbrev pub field_named : Scope → ℕ → Option (Declared State)
field_named scope code = first_named (λ (s : State). s.name.code) code scope.fields

abbrev pub named_param : List Parameter → ℕ → Option (Declared Parameter)
named_param params code = first_named (λ (p : Parameter). p.name.code) code params

abbrev pub param_named : Scope → ℕ → Option (Declared Parameter)
param_named scope code = named_param scope.params code
