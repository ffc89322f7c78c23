-- Used inside only.
-- Words that name something.
use Rattle.std.specs.Prelude.{◌≡◌, ℕ, ◌≤◌, true, false, List, length, get_or, All}
use Rattle.std.specs.List.{list_all}
use Rattle.kat_lex.specs.Words.{is_reserved}
use Rattle.kat_num.specs.Bytes.{is_word_byte, is_word_start}
use Rattle.kat_num.specs.Names.{code_of}
use Rattle.kat_num.specs.declared.names.TheConstants.{NAME_LIMIT}
use Rattle.kat_type.specs.declared.signatures.OpSig.{OpSig}
use Rattle.kat_type.specs.declared.signatures.QuerySig.{QuerySig}
use Rattle.kat_type.specs.declared.signatures.Signature.{Signature}

-- a letter or `_`, and letters, `_` and digits after it, at most 15 bytes
pub record IsWordText (bytes : List ℕ) : Type 0 where
  pub first : is_word_start (get_or bytes 0 0) ≡ true
  pub each : list_all is_word_byte bytes ≡ true
  pub short : length bytes ≤ NAME_LIMIT

-- the number is the code of a word that isn't reserved
pub record IsFreeWord (code : ℕ) : Type 0 where
  pub bytes : List ℕ
  pub is_word : IsWordText bytes
  pub coded : code_of bytes ≡ code
  pub free : is_reserved code ≡ false

-- operations and queries are named by words that aren't reserved
pub record HasWords (sig : Signature) : Type 0 where
  pub ops : All (λ (op : OpSig). IsFreeWord op.name) sig.ops
  pub queries : All (λ (query : QuerySig). IsFreeWord query.name) sig.queries
