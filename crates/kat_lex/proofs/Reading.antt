-- What is known of a text once its beginning is read.
use Rattle.std.proofs.Common.{ℕ, ◌<◌, ◌≤◌, List, [], ◌∷◌, ◌++◌, length, Option, Some, None, arith, append_assoc, append-nil}
use Rattle.std.proofs.lemmas.List.{map-append}
use Rattle.std.proofs.lemmas.List.Elements.{All-push}
use Rattle.std.specs.Prelude.{All}
use Rattle.kat_lex.specs.Kinds.{IsKindRead, token_kinds_of}
use Rattle.kat_lex.specs.Pieces.{IsGap}
use Rattle.kat_lex.specs.Tokens.{Ascend, IsFault, IsToken, Lexes, TellsFault, TokensOf}
use Rattle.kat_lex.specs.Tokens.Lexes.{ends, stops, gap, token}
use Rattle.kat_lex.specs.declared.lexer.LexError.{LexError}
use Rattle.kat_lex.specs.declared.lexer.LexError.TheVariants.{BadByte, LongName, LongNumber, Memory}
use Rattle.kat_lex.specs.declared.lexer.Token.{Token}
use Rattle.kat_lex.proofs.PieceLemmas.{GoesOn, gap_goes, kind_goes, kind_known}

-- what the rest of the text has, the whole has after these tokens
pub record Reads (text : List ℕ) (at : ℕ) (found : List Token) : Type 0 where
  pub within : at ≤ length text
  pub rest : (tokens : List Token) (end : Option LexError) → Lexes text at tokens end → Lexes text 0 (found ++ tokens) end
  pub spans : Ascend 0 at found
  pub kinds : All IsKindRead (token_kinds_of found)

ascend_further : (from to end : ℕ) (tokens : List Token) → to ≤ end → Ascend from to tokens → Ascend from end tokens
ascend_further from to end [] h a = omega arith
ascend_further from to end (first ∷ tokens) h a = (a.0, a.1, ascend_further first.to to end tokens h a.2)

ascend_more : (from to : ℕ) (tokens : List Token) (next : Token) → Ascend from to tokens → to ≤ next.from → next.from < next.to
    → Ascend from next.to (tokens ++ next ∷ [])
ascend_more from to [] next a h less = (omega arith, less, omega arith)
ascend_more from to (first ∷ tokens) next a h less = (a.0, a.1, ascend_more first.to to tokens next a.2 h less)

known_more : (tokens : List Token) (next : Token) → All IsKindRead (token_kinds_of tokens) → IsKindRead next.kind → All IsKindRead (token_kinds_of (tokens ++ next ∷ []))
known_more tokens next all one = rw map-append (All-push IsKindRead (token_kinds_of tokens) next.kind all one)

pub reads_gap : (text : List ℕ) (at to : ℕ) (found : List Token) → at < length text → IsGap text at to → Reads text at found → Reads text to found
reads_gap text at to found inside is reads =
    let goes : GoesOn text at to = gap_goes text at to inside is in
    record {
      within = goes.within;
      rest = λ tokens end more. reads.rest tokens end (gap to inside is more);
      spans = ascend_further 0 at to found (omega arith) reads.spans;
      kinds = reads.kinds;
    }

pub reads_token : (text : List ℕ) (at : ℕ) (next : Token) (found : List Token) → at < length text → IsToken text at next → Reads text at found
    → Reads text next.to (found ++ next ∷ [])
reads_token text at next found inside is reads =
    let goes : GoesOn text at next.to = kind_goes text at next.to next.kind inside is.kind in
    record {
      within = goes.within;
      rest = λ tokens end more. rw append_assoc (reads.rest (next ∷ tokens) end (token next inside is more));
      spans = ascend_more 0 at found next reads.spans (omega (arith, is.from)) (omega (arith, is.from));
      kinds = known_more found next reads.kinds (kind_known text at next.to next.kind is.kind);
    }

pub reads_end : (text : List ℕ) (at : ℕ) (found : List Token) → length text ≤ at → Reads text at found → TokensOf text found
reads_end text at found past reads = rw append-nil at (reads.rest [] None (ends past))

pub reads_fault : (text : List ℕ) (at : ℕ) (found : List Token) (fault : LexError) → at < length text → IsFault text at fault → Reads text at found
    → TellsFault text fault
reads_fault text at found (BadByte place) inside is reads = (found ++ [], reads.rest [] (Some (BadByte place)) (stops inside is))
reads_fault text at found (LongName place) inside is reads = (found ++ [], reads.rest [] (Some (LongName place)) (stops inside is))
reads_fault text at found (LongNumber place) inside is reads = (found ++ [], reads.rest [] (Some (LongNumber place)) (stops inside is))
reads_fault text at found Memory inside is reads = tt
