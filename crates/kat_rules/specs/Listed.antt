-- Which designs a listing has, and in which order.
use Rattle.std.specs.Prelude.{◌≡◌, ℕ, ◌<◌, ◌≤◌, ◌⊎◌, ◌↔◌, true, List, [], ◌∷◌, length, Option, None, Some}
use Rattle.kat_num.specs.declared.values.Value.{Value}
use Rattle.kat_num.specs.declared.values.Value.TheVariants as value
use Rattle.kat_type.specs.Signatures.{signature_of}
use Rattle.kat_type.specs.Types.{TypeForm}
use Rattle.kat_walk.specs.Machines.{Ascends, IsOneOf}
use Rattle.kat_design.specs.Designs.{ComponentForm, AskForm, DesignForm}
use Rattle.kat_design.specs.Designs.ComponentForm.{a_cell, a_table, a_set, a_tally, tallies}
use Rattle.kat_design.specs.Designs.AskForm.{leaf, parameter, constant, negation, both, either, less, sum, difference}
use Rattle.kat_design.specs.Kinds.{value_kind}
use Rattle.kat_design.specs.Sizes.{size_of}
use Rattle.kat_design.specs.Sorted.{AreMatched, Answers, EachHas, IsComponent}
use Rattle.kat_rules.specs.Constants.{constants_of, of_kind}
use Rattle.kat_rules.specs.Orders.{come_before}
use Rattle.kat_rules.specs.Tokens.{ask_tokens, component_tokens, design_tokens, effects_of, starts_of}
use Rattle.kat_rules.specs.declared.constants.Constants.{Constants}
use Rattle.kat_rules.specs.declared.constants.Setting.{Setting}
use Rattle.kat_rules.specs.declared.kind_sets.Kinds.{Kinds}

-- the component's kind is one of the set
abbrev pub HasKindOf : Kinds → ComponentForm → Type 0
HasKindOf kinds (a_cell shape starts effects) = kinds.cell ≡ true
HasKindOf kinds (a_table key shape starts effects) = kinds.table ≡ true
HasKindOf kinds (a_set key effects) = kinds.set ≡ true
HasKindOf kinds (a_tally effects) = kinds.tally ≡ true
HasKindOf kinds (tallies key effects) = kinds.tallies ≡ true

-- some operation has an effect on the component
abbrev pub HasSome : {A : Type 0} → List (Option A) → Type 0
HasSome [] = ⊥
HasSome (None ∷ es) = HasSome es
HasSome (Some e ∷ es) = Unit {0}

abbrev pub HasEffect : ComponentForm → Type 0
HasEffect c = HasSome (effects_of c)

-- a leaf of the component with this number is in the ask
abbrev pub Reads : ℕ → AskForm → Type 0
Reads i (leaf component place key) = i ≡ component
Reads i (parameter place) = ⊥
Reads i (constant v) = ⊥
Reads i (negation a) = Reads i a
Reads i (both a b) = Reads i a ⊎ Reads i b
Reads i (either a b) = Reads i a ⊎ Reads i b
Reads i (less a b) = Reads i a ⊎ Reads i b
Reads i (sum a b) = Reads i a ⊎ Reads i b
Reads i (difference a b) = Reads i a ⊎ Reads i b

abbrev pub SomeReads : ℕ → List AskForm → Type 0
SomeReads i [] = ⊥
SomeReads i (a ∷ asks) = Reads i a ⊎ SomeReads i asks

-- the first operand of `and`, `or` and `+` isn't greater than the second by token list
abbrev pub IsOrdered : Constants → AskForm → Type 0
IsOrdered cs (leaf component place key) = Unit {0}
IsOrdered cs (parameter place) = Unit {0}
IsOrdered cs (constant v) = Unit {0}
IsOrdered cs (negation a) = IsOrdered cs a
IsOrdered cs (both a b) = (come_before (ask_tokens cs b) (ask_tokens cs a) → ⊥) × IsOrdered cs a × IsOrdered cs b
IsOrdered cs (either a b) = (come_before (ask_tokens cs b) (ask_tokens cs a) → ⊥) × IsOrdered cs a × IsOrdered cs b
IsOrdered cs (less a b) = IsOrdered cs a × IsOrdered cs b
IsOrdered cs (sum a b) = (come_before (ask_tokens cs b) (ask_tokens cs a) → ⊥) × IsOrdered cs a × IsOrdered cs b
IsOrdered cs (difference a b) = IsOrdered cs a × IsOrdered cs b

-- the starts of a component are constants of the type
abbrev pub AreStarts : Constants → ComponentForm → Type 0
AreStarts cs c = EachHas (λ (v : Value). IsOneOf v (of_kind cs (value_kind v))) (starts_of c)

-- a constant of an ask is one of the type, or a truth value
abbrev pub IsConstant : Constants → Value → Type 0
IsConstant cs (value.Bool b) = Unit {0}
IsConstant cs (value.Num z) = IsOneOf (value.Num z) cs.numbers
IsConstant cs (value.Name code) = IsOneOf (value.Name code) cs.names

abbrev pub HasConstants : Constants → AskForm → Type 0
HasConstants cs (leaf component place key) = Unit {0}
HasConstants cs (parameter place) = Unit {0}
HasConstants cs (constant v) = IsConstant cs v
HasConstants cs (negation a) = HasConstants cs a
HasConstants cs (both a b) = HasConstants cs a × HasConstants cs b
HasConstants cs (either a b) = HasConstants cs a × HasConstants cs b
HasConstants cs (less a b) = HasConstants cs a × HasConstants cs b
HasConstants cs (sum a b) = HasConstants cs a × HasConstants cs b
HasConstants cs (difference a b) = HasConstants cs a × HasConstants cs b

-- the rules of a listing, without its sizes: the design has the signature, and
--   the sorts of its components and asks fit,
--   each component has a kind of the set, at least one effect, and a leaf that a query reads,
--   the components strictly ascend by token list,
--   the first operand of `and`, `or` and `+` isn't greater than the second,
--   and the starts and constants are those of the type
pub record KeepsRules (x : Setting) (d : DesignForm) : Type 0 where
  pub signature : d.sig ≡ x.sig
  pub components : EachHas (IsComponent x.sig.ops) d.components
  pub asks : AreMatched (Answers d.components) d.asks x.sig.queries
  pub kinds : EachHas (HasKindOf x.kinds) d.components
  pub effects : EachHas HasEffect d.components
  pub reads : (i : ℕ) → i < length d.components → SomeReads i d.asks
  pub ascend : Ascends (λ (a : ComponentForm) (b : ComponentForm). come_before (component_tokens x.constants a) (component_tokens x.constants b)) d.components
  pub ordered : EachHas (IsOrdered x.constants) d.asks
  pub starts : EachHas (AreStarts x.constants) d.components
  pub constants : EachHas (HasConstants x.constants) d.asks

-- what a listing for this type and these kinds knows
abbrev pub setting_of : TypeForm → Kinds → Setting
setting_of ty kinds = record { sig = signature_of ty; constants = constants_of ty.fields; kinds = kinds }

-- the listing for a type, a size and a set of kinds has the design
pub record IsListed (ty : TypeForm) (n : ℕ) (kinds : Kinds) (d : DesignForm) : Type 0 where
  pub rules : KeepsRules (setting_of ty kinds) d
  pub some : 1 ≤ size_of d
  pub small : size_of d ≤ n

-- a design comes before another: by size, and then by token list
abbrev pub IsBefore : Constants → DesignForm → DesignForm → Type 0
IsBefore cs d e = (size_of d < size_of e) ⊎ ((size_of d ≡ size_of e) × come_before (design_tokens cs d) (design_tokens cs e))

-- the listing: all of its designs, each once, in their order
pub record IsListing (ty : TypeForm) (n : ℕ) (kinds : Kinds) (designs : List DesignForm) : Type 0 where
  pub exactly : (d : DesignForm) → IsOneOf d designs ↔ IsListed ty n kinds d
  pub ascends : Ascends (IsBefore (constants_of ty.fields)) designs
