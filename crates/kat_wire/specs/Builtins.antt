-- The designs that are built in: texts that stand for a signature and a design.
use Rattle.std.specs.Prelude.{ℕ, ◌||◌, ◌==◌, Bool, ◌&&◌, List, length, take, drop, bytes_eq, codes, Option, Some, None, if◌then◌else◌, [], ◌∷◌, false, pos}
use Rattle.std.specs.List.{list_all}
use Rattle.kat_wire.specs.declared.builtin.Builtin.{Builtin}
use Rattle.kat_num.specs.declared.values.Sort.{Sort}
use Rattle.kat_type.specs.declared.signatures.Signature.{Signature}
use Rattle.kat_design.specs.Designs.{ComponentForm, DesignForm}
use Rattle.kat_design.specs.Designs.AskForm.{leaf as a_leaf}
use Rattle.kat_num.specs.Names.{code_of}
use Rattle.kat_shape.specs.Forms.{numbers, truths}
use Rattle.kat_design.specs.Designs.ComponentForm.{a_cell, a_set, a_tally}
use Rattle.kat_wire.specs.FileForms.{FileForm}
use Rattle.kat_wire.specs.declared.builtin.Builtin.TheVariants as builtin
use Rattle.kat_num.specs.declared.values.Sort.TheVariants as sort
use Rattle.kat_num.specs.declared.values.Value.TheVariants as value
use Rattle.kat_design.specs.declared.designs.Leaf.TheVariants as leaf

-- a space, a tab, a carriage return or a newline
abbrev pub is_space : ℕ → Bool
is_space byte = (byte == 32) || ((byte == 9) || ((byte == 13) || (byte == 10)))

-- the bytes are a text with blanks and newlines after it
abbrev pub is_spaced : List ℕ → List ℕ → Bool
is_spaced text bytes = bytes_eq (take (length text) bytes) text && list_all is_space (drop (length text) bytes)

-- the design that the bytes are the text of
abbrev pub builtin_of : List ℕ → Option Builtin
builtin_of bytes =
    if is_spaced (codes "builtin max") bytes then Some builtin.Max
    else if is_spaced (codes "builtin or") bytes then Some builtin.Or
    else if is_spaced (codes "builtin set") bytes then Some builtin.Set
    else if is_spaced (codes "builtin tally") bytes then Some builtin.Tally
    else None

-- one operation and one query
abbrev pub one_each : ℕ → List Sort → ℕ → List Sort → Sort → Signature
one_each operation sorts query asked answer = record {
  ops = record { name = operation; sorts = sorts } ∷ [];
  queries = record { name = query; sorts = asked; sort = answer } ∷ [];
}

-- one component with one leaf, which the query reads
abbrev pub one_leaf : Signature → ComponentForm → Option ℕ → DesignForm
one_leaf sig component key = record { sig = sig; components = component ∷ []; asks = a_leaf 0 0 key ∷ [] }

abbrev pub builtin_design : Builtin → DesignForm
builtin_design builtin.Max =
    one_leaf (one_each (code_of (codes "add")) (sort.Nat ∷ []) (code_of (codes "get")) [] sort.Nat) (a_cell numbers (value.Num (pos 0) ∷ []) (Some (leaf.Arg 0 ∷ []) ∷ [])) None
builtin_design builtin.Or =
    one_leaf (one_each (code_of (codes "raise")) [] (code_of (codes "get")) [] sort.Bool) (a_cell truths (value.Bool false ∷ []) (Some (leaf.True ∷ []) ∷ [])) None
builtin_design builtin.Set =
    one_leaf (one_each (code_of (codes "add")) (sort.Name ∷ []) (code_of (codes "has")) (sort.Name ∷ []) sort.Bool) (a_set sort.Name (Some 0 ∷ [])) (Some 0)
builtin_design builtin.Tally =
    one_leaf (one_each (code_of (codes "add")) (sort.Nat ∷ []) (code_of (codes "get")) [] sort.Nat) (a_tally (Some (leaf.Arg 0) ∷ [])) None

-- a file that is built in has version 1, no relation and no proof
abbrev pub builtin_file : Builtin → FileForm
builtin_file known = record { version = 1; design = builtin_design known; relation = []; proof = [] }
