-- Every text is read.
use Rattle.std.proofs.Common.{◌≡◌, ℕ, zero, suc, ◌+◌, ◌<◌, ◌≤◌, Bool, true, false, List, [], ◌∷◌, length, refl, inl, inr, ◌⊎◌, arith, Option, Some, None}
use Rattle.std.proofs.lemmas.Bool.{cases_lt, cases_eq}
use Rattle.std.specs.Prelude.{slice_range, not, ◌==◌}
use Rattle.std.specs.Str.Parse.{digits_value}
use Rattle.kat_num.specs.Bytes.{is_digit, is_name_byte, is_word_byte}
use Rattle.kat_num.specs.Names.{code_of}
use Rattle.kat_num.specs.declared.names.TheConstants.{NAME_LIMIT}
use Rattle.kat_num.specs.declared.values.TheConstants.{NUMBER_LIMIT}
use Rattle.kat_lex.specs.Classes.{byte_at, class_of, is_double}
use Rattle.kat_lex.specs.Pieces.{IsDigits, IsGap, IsOpened, IsWord}
use Rattle.kat_lex.specs.Pieces.IsGap.{blank, comment}
use Rattle.kat_lex.specs.Pieces.IsSign.{double, single}
use Rattle.kat_lex.specs.Tokens.{FaultOf, IsFault, IsKind, Lexes, TokensOf}
use Rattle.kat_lex.specs.Tokens.Lexes.{ends, stops, gap, token}
use Rattle.kat_lex.specs.declared.classes.Class.{Class}
use Rattle.kat_lex.specs.declared.classes.Class.TheVariants.{Letter, Digit, Quote, Mark, LineEnd, Hash, Blank, Other}
use Rattle.kat_lex.specs.declared.lexer.TokenKind.{TokenKind}
use Rattle.kat_lex.specs.declared.lexer.TokenKind.TheVariants.{Word, Name, Number, Sign, Newline}
use Rattle.kat_lex.specs.declared.lexer.LexError.{LexError}
use Rattle.kat_lex.specs.declared.lexer.LexError.TheVariants.{BadByte, LongName, LongNumber}
use Rattle.kat_lex.specs.declared.lexer.Token.{Token}
use Rattle.kat_lex.proofs.RunLemmas.{run_exists}
use Rattle.kat_lex.proofs.PieceLemmas.{gap_goes, kind_goes, digits_are_number}

-- what is at a place
data Found (text : List ℕ) (at : ℕ) : Type 0 where
  a_gap : (to : ℕ) → IsGap text at to → Found text at
  a_token : (to : ℕ) (kind : TokenKind) → IsKind text at to kind → Found text at
  a_fault : (fault : LexError) → IsFault text at fault → Found text at

word_found : (text : List ℕ) (at : ℕ) → at < length text → class_of (byte_at text at) ≡ Letter → Found text at
word_found text at inside class =
    let run = run_exists is_word_byte text at (omega arith) in
    let word : IsWord text at run.0 = record { first = class; run = run.1 } in
    elim (cases_lt (at + NAME_LIMIT) run.0) [
      | inl long ↦ a_fault (LongName at) (refl, (run.0, inl (word, long)))
      | inr short ↦ a_token run.0 (Word (code_of (slice_range text at run.0))) (word, short, refl)
    ]

number_found : (text : List ℕ) (at : ℕ) → at < length text → class_of (byte_at text at) ≡ Digit → Found text at
number_found text at inside class =
    let run = run_exists is_digit text at (omega arith) in
    let digits : IsDigits text at run.0 = record { first = class; run = run.1 } in
    elim (cases_lt NUMBER_LIMIT (digits_value 10 (slice_range text at run.0))) [
      | inl past ↦ a_fault (LongNumber at) (refl, (run.0, digits, past))
      | inr small ↦ a_token run.0 (Number (digits_value 10 (slice_range text at run.0))) (digits, digits_are_number text at run.0 inside digits small)
    ]

literal_found : (text : List ℕ) (at : ℕ) → at < length text → class_of (byte_at text at) ≡ Quote → Found text at
literal_found text at inside class =
    let run = run_exists is_name_byte text (at + 1) (omega arith) in
    let opened : IsOpened text at run.0 = record { first = class; run = run.1 } in
    elim (cases_eq (byte_at text run.0) 34) [
      | inl closed ↦ elim (cases_lt (at + 1 + NAME_LIMIT) run.0) [
        | inl long ↦ a_fault (LongName at) (refl, (run.0, inr (opened, closed, long)))
        | inr short ↦ a_token (run.0 + 1) (Name (code_of (slice_range text (at + 1) run.0))) (record {
          end = run.0;
          opened = opened;
          closed = closed;
          short = short;
          coded = refl;
          behind = refl;
        })
      ]
      | inr open_still ↦ a_fault (BadByte run.0) (inr (opened, open_still))
    ]

sign_found : (text : List ℕ) (at : ℕ) (b : Bool) → is_double (byte_at text at) (byte_at text (at + 1)) ≡ b → class_of (byte_at text at) ≡ Mark → Found text at
sign_found text at true e class = a_token (at + 2) (Sign (byte_at text at) (byte_at text (at + 1))) (double class e refl refl refl)
sign_found text at false e class = a_token (at + 1) (Sign (byte_at text at) 0) (single class e refl refl refl)

comment_found : (text : List ℕ) (at : ℕ) → at < length text → class_of (byte_at text at) ≡ Hash → Found text at
comment_found text at inside class =
    let run = run_exists (λ byte. not (byte == 10)) text at (omega arith) in a_gap run.0 (comment class run.1)

found : (text : List ℕ) (at : ℕ) (class : Class) → at < length text → class_of (byte_at text at) ≡ class → Found text at
found text at Letter inside e = word_found text at inside e
found text at Digit inside e = number_found text at inside e
found text at Quote inside e = literal_found text at inside e
found text at Mark inside e = sign_found text at (is_double (byte_at text at) (byte_at text (at + 1))) refl e
found text at LineEnd inside e = a_token (at + 1) Newline (record { first = e; one = refl })
found text at Hash inside e = comment_found text at inside e
found text at Blank inside e = a_gap (at + 1) (blank e refl)
found text at Other inside e = a_fault (BadByte at) (inl (e, refl))

-- the rest of a text is read from every place
record Read (text : List ℕ) (at : ℕ) : Type 0 where
  tokens : List Token
  end : Option LexError
  lexes : Lexes text at tokens end

past_gap : (text : List ℕ) (at to : ℕ) → at < length text → IsGap text at to → Read text to → Read text at
past_gap text at to inside is r = record { tokens = r.tokens; end = r.end; lexes = gap to inside is r.lexes }

past_token : (text : List ℕ) (at to : ℕ) (kind : TokenKind) → at < length text → IsKind text at to kind → Read text to → Read text at
past_token text at to kind inside is r =
    let first : Token = record { kind = kind; from = at; to = to } in
    record { tokens = first ∷ r.tokens; end = r.end; lexes = token first inside (record { from = refl; kind = is }) r.lexes }

read_by_fuel : (fuel : ℕ) (text : List ℕ) (at : ℕ) → length text ≤ at + fuel → Read text at
read_by_fuel zero text at enough = record { tokens = []; end = None; lexes = ends (omega arith) }
read_by_fuel (suc fuel) text at enough =
    elim (cases_lt at (length text)) [
      | inl inside ↦ elim (found text at (class_of (byte_at text at)) inside refl) [
        | a_gap to is ↦ past_gap text at to inside is (read_by_fuel fuel text to (omega (arith, (gap_goes text at to inside is).further)))
        | a_token to kind is ↦ past_token text at to kind inside is (read_by_fuel fuel text to (omega (arith, (kind_goes text at to kind inside is).further)))
        | a_fault fault is ↦ record { tokens = []; end = Some fault; lexes = stops inside is }
      ]
      | inr past ↦ record { tokens = []; end = None; lexes = ends past }
    ]

told : (text : List ℕ) (tokens : List Token) (end : Option LexError) → Lexes text 0 tokens end
    → ((found : List Token) × TokensOf text found) ⊎ ((fault : LexError) × FaultOf text fault)
told text tokens None h = inl (tokens, h)
told text tokens (Some fault) h = inr (fault, (tokens, h))

pub every_text : (text : List ℕ) → ((found : List Token) × TokensOf text found) ⊎ ((fault : LexError) × FaultOf text fault)
every_text text = let r : Read text 0 = read_by_fuel (length text) text 0 (omega arith) in told text r.tokens r.end r.lexes
