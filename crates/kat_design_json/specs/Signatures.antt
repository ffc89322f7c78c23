-- Signatures that a file can have.
use Rattle.std.specs.Prelude.{◌≡◌, ℕ, true, false, List, ◌++◌, map}
use Rattle.kat_num.specs.Names.{code_of}
use Rattle.kat_lex.specs.Words.{is_reserved}
use Rattle.kat_json.specs.Words.{is_word}
use Rattle.kat_type.specs.declared.signatures.OpSig.{OpSig}
use Rattle.kat_type.specs.declared.signatures.QuerySig.{QuerySig}
use Rattle.kat_type.specs.declared.signatures.Signature.{Signature}
use Rattle.kat_type.specs.Lists.{IsOnce}
use Rattle.kat_type.specs.Signatures.{IsSmall}
use Rattle.kat_design.specs.Sorted.{EachHas}

-- the code of a word that isn't reserved
pub record IsWordCode (code : ℕ) : Type 0 where
  pub text : List ℕ
  pub is_word : is_word text ≡ true
  pub free : is_reserved (code_of text) ≡ false
  pub coded : code_of text ≡ code

abbrev pub names_in : Signature → List ℕ
names_in sig = map (λ (op : OpSig). op.name) sig.ops ++ map (λ (query : QuerySig). query.name) sig.queries

-- a signature that a file can have: at most 12 operations, 12 queries and 4 sorts of each, with words as names, all different
pub record IsSignature (sig : Signature) : Type 0 where
  pub small : IsSmall sig
  pub words : EachHas IsWordCode (names_in sig)
  pub different : IsOnce (names_in sig)
