-- Used inside only.
-- The scopes of a file of code, and the names in them.
use Rattle.std.specs.Prelude.{◌≡◌, ◌++◌, ℕ, List, [], ◌∷◌, length, map, All}
use Rattle.std.specs.List.{flat_map}
use Rattle.std.specs.String.{string_bytes}
use Rattle.kat_emit_words.specs.Kept.{kept}
use Rattle.kat_emit_words.specs.Naming.{AreNames, names_in}
use Rattle.kat_emit_words.specs.declared.kept.Named.TheVariants.{Class, Field, Method, Leaf, Change, Loop}
use Rattle.kat_emit_words.specs.declared.languages.Language.{Language}
use Rattle.kat_emit_words.specs.declared.languages.Language.TheVariants.{TypeScript, JavaScript, Python, Rust, Go}
use Rattle.kat_emit_words.specs.declared.names.LoopNames.{LoopNames}
use Rattle.kat_emit_words.specs.declared.names.Names.{Names}
use Rattle.kat_emit_words.specs.declared.names.PartNames.{PartNames}
use Rattle.kat_emit_words.specs.declared.names.Taken.{Taken}
use Rattle.kat_emit_words.specs.declared.names.Tools.{Tools}

-- a name that there may be: the empty one is none
abbrev pub names_of_one : List ℕ → List (List ℕ)
names_of_one [] = []
names_of_one (letter ∷ more) = (letter ∷ more) ∷ []

abbrev pub tool_names : Tools → List (List ℕ)
tool_names tools = string_bytes tools.less ∷ string_bytes tools.lacks ∷ string_bytes tools.joined ∷ string_bytes tools.start ∷ []

-- what a part has at the top of the file
abbrev pub top_names : PartNames → List (List ℕ)
top_names part = names_of_one (string_bytes part.value)
    ++ (string_bytes part.less ∷ string_bytes part.lacks ∷ string_bytes part.joined ∷ string_bytes part.start_name ∷ [])

abbrev pub key_names : PartNames → List (List ℕ)
key_names part = names_of_one (string_bytes part.keys)

abbrev pub field_name : PartNames → List ℕ
field_name part = string_bytes part.field

abbrev pub change_name : PartNames → List ℕ
change_name part = string_bytes part.change

-- the names of a key and a value in a loop, if all loops of a member are in one scope: in Python. In the other languages each has its own.
abbrev pub loop_words : Language → List ℕ → List ℕ → List (List ℕ)
loop_words TypeScript key item = []
loop_words JavaScript key item = []
loop_words Python key item = names_of_one key ++ names_of_one item
loop_words Rust key item = []
loop_words Go key item = []

abbrev pub loop_names : Language → PartNames → List (List ℕ)
loop_names language part = loop_words language (string_bytes part.key) (string_bytes part.item)

abbrev pub LeavesAreNames : Language → PartNames → Type 0
LeavesAreNames language part = AreNames (kept language Leaf) (names_in part.leaves.items)

-- the names of methods: those of so many operations and queries, and then those that give keys
pub record CallsAre (language : Language) (count : ℕ) (names : List (List ℕ)) : Type 0 where
  pub good : AreNames (kept language Method) names
  pub each : length names ≡ count

-- the names of a module with so many operations and queries, in each scope
pub record AreNamesOf (language : Language) (count : ℕ) (names : Names) : Type 0 where
  -- the class, its error, what `merge` answers, and what parts have at the top of the file
  pub top : AreNames (kept language Class) (names_in names.top.items)
  pub top_is : names_in names.top.items
      ≡ (string_bytes names.class ∷ string_bytes names.error ∷ string_bytes names.changes ∷ []) ++ flat_map top_names names.parts.items
  -- methods of operations and queries, in their order, and then those that give keys
  pub methods : AreNames (kept language Method) (names_in names.methods.items)
  pub calls : List (List ℕ)
  pub each_call : length calls ≡ count
  pub methods_are : names_in names.methods.items ≡ calls ++ flat_map key_names names.parts.items
  pub fields : AreNames (kept language Field) (map field_name names.parts.items)
  pub changes : AreNames (kept language Change) (map change_name names.parts.items)
  pub leaves : All (LeavesAreNames language) names.parts.items
  -- keys and values in loops that share a scope
  pub loops : AreNames (kept language Loop) (flat_map (loop_names language) names.parts.items)

-- the names that are taken are names of their scopes
pub record AreTaken (language : Language) (taken : Taken) : Type 0 where
  pub top : AreNames (kept language Class) (names_in taken.top.items)
  pub fields : AreNames (kept language Field) (names_in taken.fields.items)
  pub changes : AreNames (kept language Change) (names_in taken.changes.items)
  pub methods : AreNames (kept language Method) (names_in taken.methods.items)
  pub loops : AreNames (kept language Loop) (names_in taken.loops.items)

-- these names came to those of a scope, whose names are good now
pub record GainsKeys (language : Language) (old new : List (List ℕ)) (keys : List ℕ) : Type 0 where
  pub good : AreNames (kept language Method) new
  pub gained : new ≡ old ++ names_of_one keys

pub record GainsValue (language : Language) (old new : List (List ℕ)) (value : List ℕ) : Type 0 where
  pub good : AreNames (kept language Class) new
  pub gained : new ≡ old ++ names_of_one value

pub record GainsTools (language : Language) (old new : List (List ℕ)) (tools : Tools) : Type 0 where
  pub good : AreNames (kept language Class) new
  pub gained : new ≡ old ++ tool_names tools

pub record GainsLoop (language : Language) (old new : List (List ℕ)) (loop : LoopNames) : Type 0 where
  pub good : AreNames (kept language Loop) new
  pub gained : new ≡ old ++ loop_words language (string_bytes loop.key) (string_bytes loop.item)

-- the names of a part came to those that were taken
pub record TakesPart (language : Language) (old new : Taken) (part : PartNames) : Type 0 where
  pub taken : AreTaken language new
  pub top : names_in new.top.items ≡ names_in old.top.items ++ top_names part
  pub methods : names_in new.methods.items ≡ names_in old.methods.items ++ key_names part
  pub fields : names_in new.fields.items ≡ names_in old.fields.items ++ field_name part ∷ []
  pub changes : names_in new.changes.items ≡ names_in old.changes.items ++ change_name part ∷ []
  pub loops : names_in new.loops.items ≡ names_in old.loops.items ++ loop_names language part
  pub leaves : LeavesAreNames language part

-- the names of some parts did
pub record HaveNames (language : Language) (old new : Taken) (parts : List PartNames) : Type 0 where
  pub taken : AreTaken language new
  pub top : names_in new.top.items ≡ names_in old.top.items ++ flat_map top_names parts
  pub methods : names_in new.methods.items ≡ names_in old.methods.items ++ flat_map key_names parts
  pub fields : names_in new.fields.items ≡ names_in old.fields.items ++ map field_name parts
  pub changes : names_in new.changes.items ≡ names_in old.changes.items ++ map change_name parts
  pub loops : names_in new.loops.items ≡ names_in old.loops.items ++ flat_map (loop_names language) parts
  pub leaves : All (LeavesAreNames language) parts
