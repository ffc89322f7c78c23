-- The names of a signature that a design file can have are words.
use Rattle.std.proofs.Common.{◌≡◌, ℕ, true, false, List, [], ◌∷◌, ◌++◌, length, map, All, subst}
use Rattle.std.specs.Prelude.{◌&&◌, nat_le}
use Rattle.std.specs.List.{list_all}
use Rattle.std.proofs.lemmas.Bool.{and_from, and_parts, false≢true, leb-true, or_left}
use Rattle.std.proofs.lemmas.List.Elements.{All-cons, All-nil}
use Rattle.kat_design.specs.Sorted.{EachHas}
use Rattle.kat_design_json.specs.Signatures.{IsSignature, IsWordCode}
use Rattle.kat_hist.specs.Words.{HasWords, IsFreeWord, IsWordText}
use Rattle.kat_json.specs.Words.{is_word}
use Rattle.kat_lex.specs.Words.{is_reserved}
use Rattle.kat_num.specs.Bytes.{is_digit, is_word_byte, is_word_start}
use Rattle.kat_num.specs.declared.names.TheConstants.{NAME_LIMIT}
use Rattle.kat_type.specs.declared.signatures.OpSig.{OpSig}
use Rattle.kat_type.specs.declared.signatures.QuerySig.{QuerySig}
use Rattle.kat_type.specs.declared.signatures.Signature.{Signature}

word_text : (bytes : List ℕ) → is_word bytes ≡ true → IsWordText bytes
word_text [] is = absurd (false≢true is)
word_text (byte ∷ bytes) is =
    let short = and_parts (nat_le (length (byte ∷ bytes)) NAME_LIMIT) (is_word_start byte && list_all is_word_byte bytes) is in
    let rest = and_parts (is_word_start byte) (list_all is_word_byte bytes) short.1 in
    record {
      first = rest.0;
      each = and_from (is_word_byte byte) (list_all is_word_byte bytes) (or_left (is_word_start byte) (is_digit byte) rest.0) rest.1;
      short = leb-true _ _ short.0;
    }

free_word : (code : ℕ) → IsWordCode code → IsFreeWord code
free_word code w = record { bytes = w.text; is_word = word_text w.text w.is_word; coded = w.coded; free = subst (λ (c : ℕ). is_reserved c ≡ false) w.coded w.free }

all_free : {A : Type 0} (name : A → ℕ) (xs : List A) → EachHas IsWordCode (map name xs) → All (λ (x : A). IsFreeWord (name x)) xs
all_free name [] each = All-nil (λ x. IsFreeWord (name x))
all_free name (x ∷ xs) each = All-cons (λ y. IsFreeWord (name y)) x xs (free_word (name x) each.0) (all_free name xs each.1)

each_parts : (P : ℕ → Type 0) (xs ys : List ℕ) → EachHas P (xs ++ ys) → EachHas P xs × EachHas P ys
each_parts P [] ys each = (tt, each)
each_parts P (x ∷ xs) ys each = let rest = each_parts P xs ys each.1 in ((each.0, rest.0), rest.1)

pub has_words : (sig : Signature) → IsSignature sig → HasWords sig
has_words sig is =
    let both = each_parts IsWordCode (map (λ (op : OpSig). op.name) sig.ops) (map (λ (query : QuerySig). query.name) sig.queries) is.words in
    record { ops = all_free (λ (op : OpSig). op.name) sig.ops both.0; queries = all_free (λ (query : QuerySig). query.name) sig.queries both.1 }
