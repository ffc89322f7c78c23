-- The signature of a type that a file says may be in a design file.
use Rattle.std.proofs.Common.{◌≡◌, ℕ, ◌≤◌, true, false, List, [], ◌∷◌, ◌++◌, length, map, get_or, refl, sym, ◌∙◌, ap, subst}
use Rattle.std.specs.Prelude.{All, ◌&&◌, nat_le}
use Rattle.std.specs.List.{list_all}
use Rattle.std.proofs.lemmas.Bool.{and_from, and_parts, false≢true, le-leb}
use Rattle.std.proofs.lemmas.List.Elements.{All-head, All-tail}
use Rattle.kat_design.specs.Sorted.{EachHas}
use Rattle.kat_grammar.specs.declared.phrases.Operation.{Operation}
use Rattle.kat_grammar.specs.declared.phrases.Query.{Query}
use Rattle.kat_grammar.specs.declared.phrases.State.{State}
use Rattle.kat_grammar.specs.declared.phrases.TypeText.{TypeText}
use Rattle.kat_grammar.specs.declared.phrases.Word.{Word}
use Rattle.kat_hist.specs.Words.{HasWords, IsFreeWord}
use Rattle.kat_lex.specs.Words.{is_reserved}
use Rattle.kat_num.specs.Bytes.{is_word_byte, is_word_start}
use Rattle.kat_num.specs.declared.names.TheConstants.{NAME_LIMIT}
use Rattle.kat_type_file.specs.Faults.{item_names}
use Rattle.kat_type_file.specs.Rules.{AreDifferent}
use Rattle.kat_type.specs.Lists.{IsOnce}
use Rattle.kat_type.specs.Signatures.{op_sig, query_sig, signature_of}
use Rattle.kat_type_file.specs.TypeFiles.{IsTypeFile}
use Rattle.kat_type.specs.Types.{TypeForm}
use Rattle.kat_type_file.specs.Typing.{operation_in, query_in, type_in}
use Rattle.kat_type.specs.declared.signatures.OpSig.{OpSig}
use Rattle.kat_type.specs.declared.signatures.QuerySig.{QuerySig}
use Rattle.kat_type.specs.declared.signatures.Signature.{Signature}
use Rattle.kat_type_file.proofs.Limiting.{file_sorted}
use Rattle.kat_type.proofs.Signing.{small_signature}
use Rattle.kat_design_json.specs.Signatures.{IsSignature, IsWordCode, names_in}
use Rattle.kat_json.specs.Words.{is_word}

-- words
word_is : (bytes : List ℕ) → is_word_start (get_or bytes 0 0) ≡ true → list_all is_word_byte bytes ≡ true → length bytes ≤ NAME_LIMIT → is_word bytes ≡ true
word_is [] first each short = absurd (false≢true first)
word_is (byte ∷ bytes) first each short =
    and_from (nat_le (length (byte ∷ bytes)) NAME_LIMIT) (is_word_start byte && list_all is_word_byte bytes) (le-leb _ _ short)
    (and_from (is_word_start byte) (list_all is_word_byte bytes) first (and_parts (is_word_byte byte) (list_all is_word_byte bytes) each).1)

free_coded : (code : ℕ) → IsFreeWord code → IsWordCode code
free_coded code w = record {
  text = w.bytes;
  is_word = word_is w.bytes w.is_word.first w.is_word.each w.is_word.short;
  free = subst (λ (c : ℕ). is_reserved c ≡ false) (sym w.coded) w.free;
  coded = w.coded;
}

each_mapped : {A : Type 0} (name : A → ℕ) (xs : List A) → All (λ (x : A). IsFreeWord (name x)) xs → EachHas IsWordCode (map name xs)
each_mapped name [] all = tt
each_mapped name (x ∷ xs) all = (free_coded (name x) (All-head (λ y. IsFreeWord (name y)) x xs all), each_mapped name xs (All-tail (λ y. IsFreeWord (name y)) x xs all))

each_both : (P : ℕ → Type 0) (xs ys : List ℕ) → EachHas P xs → EachHas P ys → EachHas P (xs ++ ys)
each_both P [] ys a b = b
each_both P (x ∷ xs) ys a b = (a.0, each_both P xs ys a.1 b)

words_in : (sig : Signature) → HasWords sig → EachHas IsWordCode (names_in sig)
words_in sig h =
    each_both IsWordCode (map (λ (op : OpSig). op.name) sig.ops) (map (λ (query : QuerySig). query.name) sig.queries)
    (each_mapped (λ (op : OpSig). op.name) sig.ops h.ops) (each_mapped (λ (query : QuerySig). query.name) sig.queries h.queries)

-- different names
abbrev codes_in : List Word → List ℕ
codes_in words = map (λ (w : Word). w.code) words

ops_codes : (states : List State) (ops : List Operation) → map (λ (op : OpSig). op.name) (map op_sig (map (operation_in states) ops)) ≡ codes_in (map (λ (o : Operation). o.name) ops)
ops_codes states [] = refl
ops_codes states (o ∷ ops) = ap (λ (r : List ℕ). o.name.code ∷ r) (ops_codes states ops)

queries_codes : (states : List State) (queries : List Query) → map (λ (query : QuerySig). query.name) (map query_sig (map (query_in states) queries)) ≡ codes_in (map (λ (q : Query). q.name) queries)
queries_codes states [] = refl
queries_codes states (q ∷ queries) = ap (λ (r : List ℕ). q.name.code ∷ r) (queries_codes states queries)

codes_both : (xs ys : List Word) → codes_in xs ++ codes_in ys ≡ codes_in (xs ++ ys)
codes_both [] ys = refl
codes_both (x ∷ xs) ys = ap (λ (r : List ℕ). x.code ∷ r) (codes_both xs ys)

names_same : (t : TypeText) → names_in (signature_of (type_in t)) ≡ codes_in (item_names t)
names_same t =
    ap (λ (r : List ℕ). r ++ map (λ (query : QuerySig). query.name) (map query_sig (map (query_in t.states) t.queries))) (ops_codes t.states t.operations)
    ∙ ap (λ (r : List ℕ). codes_in (map (λ (o : Operation). o.name) t.operations) ++ r) (queries_codes t.states t.queries)
    ∙ codes_both (map (λ (o : Operation). o.name) t.operations) (map (λ (q : Query). q.name) t.queries)

different_in : (t : TypeText) → AreDifferent (item_names t) → IsOnce (names_in (signature_of (type_in t)))
different_in t once = subst (λ (codes : List ℕ). IsOnce codes) (sym (names_same t)) once

pub file_signature : (text : List ℕ) (ty : TypeForm) → HasWords (signature_of ty) → IsTypeFile text ty → IsSignature (signature_of ty)
file_signature text ty named file = record {
  small = small_signature ty (file_sorted text ty file);
  words = words_in (signature_of ty) named;
  different = subst (λ (t : TypeForm). IsOnce (names_in (signature_of t))) (sym file.says) (different_in file.phrases file.keeps.items);
}
