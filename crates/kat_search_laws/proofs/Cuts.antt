-- Each text that is due is one line.
use Rattle.std.proofs.Common.{◌≡◌, ℕ, zero, suc, ◌+◌, ◌/◌, ◌%◌, ◌<◌, ◌==◌, nat_lt, if◌then◌else◌, cond, ◌||◌, ◌&&◌, ℤ, pos, negsuc, Bool, true, false, List, [], ◌∷◌, ◌++◌, All, map, append_assoc, Some, refl, sym, ap, ◌∙◌, subst, arith}
use Rattle.std.specs.Prelude.{codes, slice_get, slice_index_or}
use Rattle.std.specs.Char.{digit_char}
use Rattle.std.specs.Fmt.{decimal, digits, signed_decimal}
use Rattle.std.specs.List.{flat_map, list_all}
use Rattle.std.proofs.lemmas.Bool.{false≢true}
use Rattle.std.proofs.lemmas.Bool.Decides.{Decides-eqb}
use Rattle.std.proofs.lemmas.List.Elements.{All-head, All-tail}
use Rattle.core.specs.Fmt.{digit_glyph, digits_onto}
use Rattle.json.specs.Print.{escape, escape_byte, escape_letter, quoted}
use Rattle.serde_json.specs.Data.{Data, Items, Members, Num, unsigned, negative, float, null, boolean, number, string, array, object, no_items, item, no_members, member}
use Rattle.serde_json.specs.Written.{comma_if, compact_text, items_text, members_text}
use Rattle.serde_json.specs.Written as written
use Rattle.kat_design.specs.Designs.{DesignForm}
use Rattle.kat_design.specs.Fitting.{FitsSignature}
use Rattle.kat_design.specs.Sorted.{AreMatched}
use Rattle.kat_design_json.specs.PrintedDesigns.{design_data, design_text}
use Rattle.kat_histories.specs.Histories.{FitsHistory, histories}
use Rattle.kat_hist.specs.Scripts.{arg_text, args_text, number_text, op_name}
use Rattle.kat_hist.specs.Words.{HasWords, IsFreeWord}
use Rattle.kat_histories.specs.declared.histories.History.{History}
use Rattle.kat_num.specs.Bytes.{is_name_byte, is_word_byte}
use Rattle.kat_num.specs.Names.{IsName, code_of, name_of_code}
use Rattle.kat_num.specs.Values.{IsArgument, value_text}
use Rattle.kat_num.specs.declared.values.Sort.{Sort}
use Rattle.kat_num.specs.declared.values.Value.{Value}
use Rattle.kat_num.specs.declared.values.Value.TheVariants as value
use Rattle.kat_num.proofs.NameCodes.{name_of_code-code_of}
use Rattle.kat_said.specs.Judging.{lines_of, onto_first}
use Rattle.kat_said.specs.Sayings.{said_text}
use Rattle.kat_said.proofs.Lines.{said_plain}
use Rattle.kat_said.proofs.Parts.{Free, free_append, if_false, other}
use Rattle.kat_telling.specs.Reports.{differs_line, done_text, dones_text, further_text, history_line, none_line, stopped_line, undecided_line}
use Rattle.kat_type.specs.Signatures.{signature_of}
use Rattle.kat_type.specs.Types.{TypeForm}
use Rattle.kat_type.specs.declared.done.Done.{Done}
use Rattle.kat_type.specs.declared.signatures.OpSig.{OpSig}
use Rattle.kat_type.specs.declared.signatures.Signature.{Signature}
use Rattle.kat_due.specs.Texts as audit
use Rattle.kat_search_laws.proofs.Reading.{Cuts}

-- a text without a newline, and then one
cut : (t rest : List ℕ) → Free 10 t → lines_of ((t ++ 10 ∷ []) ++ rest) ≡ (t ++ 10 ∷ []) ∷ lines_of rest
cut [] rest free = refl
cut (b ∷ bs) rest free =
    if_false (b == 10) ((10 ∷ []) ∷ lines_of ((bs ++ 10 ∷ []) ++ rest)) (onto_first b (lines_of ((bs ++ 10 ∷ []) ++ rest))) (other b 10 free.0)
    ∙ ap (onto_first b) (cut bs rest free.1)

cut_as : (t line rest : List ℕ) → line ≡ t ++ 10 ∷ [] → Free 10 t → lines_of (line ++ rest) ≡ line ∷ lines_of rest
cut_as t line rest e free = ap (λ l. lines_of (l ++ rest)) e ∙ cut t rest free ∙ ap (λ l. l ∷ lines_of rest) (sym e)

-- words
abbrev has_newline : List ℕ → Bool
has_newline [] = false
has_newline (b ∷ bs) = (b == 10) || has_newline bs

plain : (bs : List ℕ) → has_newline bs ≡ false → Free 10 bs
plain [] e = tt
plain (b ∷ bs) e = (λ is. first (b == 10) ((Decides-eqb b 10).1 is) e, plain bs (rest (b == 10) e))
  where
    first : (t : Bool) → t ≡ true → (t || has_newline bs) ≡ false → ⊥
    first true f g = cc
    first false f g = cc

    rest : (t : Bool) → (t || has_newline bs) ≡ false → has_newline bs ≡ false
    rest true g = absurd (cc)
    rest false g = g

-- numbers
glyph_free : (d : ℕ) → d < 10 → digit_glyph false d ≡ 10 → ⊥
glyph_free d less e = by_test (nat_lt d 10) e
  where
    by_test : (t : Bool) → (if t then 48 + d else 87 + d) ≡ 10 → ⊥
    by_test true e = omega (arith, e)
    by_test false e = omega (arith, e)

onto_free : (k n : ℕ) (acc : List ℕ) → Free 10 acc → Free 10 (digits_onto k 10 false n acc)
onto_free zero n acc free = free
onto_free (suc k) n acc free =
    let less : n % 10 < 10 = omega arith in
    let glyph = glyph_free (n % 10) less in
    by_test (n / 10 == 0) glyph (onto_free k (n / 10) (digit_glyph false (n % 10) ∷ acc) (glyph, free))
  where
    by_test : (t : Bool) → (digit_glyph false (n % 10) ≡ 10 → ⊥) → Free 10 (digits_onto k 10 false (n / 10) (digit_glyph false (n % 10) ∷ acc)) → Free 10 (if t then digit_glyph false (n % 10) ∷ acc else digits_onto k 10 false (n / 10) (digit_glyph false (n % 10) ∷ acc))
    by_test true glyph rest = (glyph, free)
    by_test false glyph rest = rest

decimal_free : (n : ℕ) → Free 10 (decimal n)
unfolding digits
decimal_free n = onto_free 64 n [] tt

signed_free : (z : ℤ) → Free 10 (signed_decimal z)
signed_free (pos n) = decimal_free n
signed_free (negsuc n) = (λ e. omega (arith, e), decimal_free (suc n))

between : (before behind : List ℕ) (n : ℕ) → Free 10 before → Free 10 behind → Free 10 (number_text before n behind)
between before behind n first last = free_append 10 (before ++ decimal n) behind (free_append 10 before (decimal n) first (decimal_free n)) last

-- what is written of a byte in a string
glyph_char : (d : ℕ) → digit_char d ≡ 10 → ⊥
glyph_char d e = by_test (nat_lt d 10) e
  where
    by_test : (t : Bool) → (if t then 48 + d else 87 + d) ≡ 10 → ⊥
    by_test true e = omega (arith, e)
    by_test false e = omega (arith, e)

not_ten : (x : ℕ) → (x == 10) ≡ false → x ≡ 10 → ⊥
not_ten x e is = false≢true (sym e ∙ (Decides-eqb x 10).1 is)

letter_free : (x : ℕ) → escape_letter x ≡ 10 → ⊥
letter_free x e = by_tests ((x == 34) || (x == 92)) (x == 8) (x == 12) (x == 10) (x == 13) (x == 9) quotes e
  where
    quotes : ((x == 34) || (x == 92)) ≡ true → x ≡ 10 → ⊥
    quotes t is = let none : ((10 == 34) || (10 == 92)) ≡ true = ap (λ y. (y == 34) || (y == 92)) (sym is) ∙ t in cc

    by_tests : (q a b c d f : Bool) → (q ≡ true → x ≡ 10 → ⊥) → cond q x (cond a 98 (cond b 102 (cond c 110 (cond d 114 (cond f 116 0))))) ≡ 10 → ⊥
    by_tests true a b c d f not e = not refl e
    by_tests false true b c d f not e = omega (arith, e)
    by_tests false false true c d f not e = omega (arith, e)
    by_tests false false false true d f not e = omega (arith, e)
    by_tests false false false false true f not e = omega (arith, e)
    by_tests false false false false false true not e = omega (arith, e)
    by_tests false false false false false false not e = omega (arith, e)

large_free : (x : ℕ) → nat_lt x 32 ≡ false → x ≡ 10 → ⊥
large_free x e is = let small : nat_lt 10 32 ≡ false = ap (λ y. nat_lt y 32) (sym is) ∙ e in cc

escaped_free : (x : ℕ) → Free 10 (escape_byte x)
unfolding escape_byte
escaped_free x = by_tests (nat_lt 0 (escape_letter x)) (nat_lt x 32) (letter_free x) (large_free x)
  where
    by_tests : (l s : Bool) → (escape_letter x ≡ 10 → ⊥) → (s ≡ false → x ≡ 10 → ⊥)
        → Free 10 (cond l (92 ∷ escape_letter x ∷ []) (cond s (92 ∷ 117 ∷ 48 ∷ 48 ∷ digit_char (x / 16) ∷ digit_char (x % 16) ∷ []) (x ∷ [])))
    by_tests true s letter large = (λ e. omega (arith, e), (letter, tt))
    by_tests false true letter large =
        (λ e. omega (arith, e), (λ e. omega (arith, e), (λ e. omega (arith, e), (λ e. omega (arith, e), (glyph_char (x / 16), (glyph_char (x % 16), tt))))))
    by_tests false false letter large = (large refl, tt)

escape_free : (xs : List ℕ) → Free 10 (escape xs)
escape_free [] = tt
escape_free (x ∷ xs) = free_append 10 (escape_byte x) (escape xs) (escaped_free x) (escape_free xs)

quoted_free : (xs : List ℕ) → Free 10 (quoted xs)
quoted_free xs = (λ e. omega (arith, e), free_append 10 (escape xs) (34 ∷ []) (escape_free xs) (λ e. omega (arith, e), tt))

-- a value as a compact text
comma_free : (later : Bool) → Free 10 (comma_if later)
comma_free true = (λ e. omega (arith, e), tt)
comma_free false = tt

number_free : (n : Num) → Free 10 (written.number_text n)
number_free (unsigned n) = decimal_free n
number_free (negative z) = signed_free z
number_free (float x) = tt

mutual
  compact_free : (d : Data) → Free 10 (compact_text d)
  compact_free null = plain (compact_text null) refl
  compact_free (boolean true) = plain (compact_text (boolean true)) refl
  compact_free (boolean false) = plain (compact_text (boolean false)) refl
  compact_free (number n) = number_free n
  compact_free (string s) = quoted_free s
  compact_free (array ds) = (λ e. omega (arith, e), items_free false ds)
  compact_free (object ms) = (λ e. omega (arith, e), members_free false ms)

  items_free : (later : Bool) (ds : Items) → Free 10 (items_text later ds)
  items_free later no_items = (λ e. omega (arith, e), tt)
  items_free later (item d ds) = free_append 10 (comma_if later) (compact_text d ++ items_text true ds) (comma_free later) (free_append 10 (compact_text d) (items_text true ds) (compact_free d) (items_free true ds))

  members_free : (later : Bool) (ms : Members) → Free 10 (members_text later ms)
  members_free later no_members = (λ e. omega (arith, e), tt)
  members_free later (member k d ms) =
      free_append 10 (comma_if later) (quoted k ++ 58 ∷ (compact_text d ++ members_text true ms)) (comma_free later)
      (free_append 10 (quoted k) (58 ∷ (compact_text d ++ members_text true ms)) (quoted_free k)
      (λ e. omega (arith, e), free_append 10 (compact_text d) (members_text true ms) (compact_free d) (members_free true ms)))

design_free : (d : DesignForm) → Free 10 (design_text d)
design_free d = compact_free (design_data d)

-- names
byte_free : (x : ℕ) → is_name_byte x ≡ true → x ≡ 10 → ⊥
byte_free x e is = let named : is_name_byte 10 ≡ true = ap is_name_byte (sym is) ∙ e in cc

and_both : (a b : Bool) → (a && b) ≡ true → (a ≡ true) × (b ≡ true)
and_both true b e = (refl, e)
and_both false b e = absurd (false≢true e)

bytes_free : (xs : List ℕ) → list_all is_name_byte xs ≡ true → Free 10 xs
bytes_free [] e = tt
bytes_free (x ∷ xs) e = let both = and_both (is_name_byte x) (list_all is_name_byte xs) e in (byte_free x both.0, bytes_free xs both.1)

word_bytes : (xs : List ℕ) → list_all is_word_byte xs ≡ true → list_all is_name_byte xs ≡ true
word_bytes [] e = refl
word_bytes (x ∷ xs) e =
    let both = and_both (is_word_byte x) (list_all is_word_byte xs) e in
    rw (both.0, word_bytes xs both.1) refl

name_free : (code : ℕ) (name : List ℕ) → IsName name → code_of name ≡ code → Free 10 (name_of_code code)
name_free code name is coded =
    let same : name_of_code code ≡ name = ap name_of_code (sym coded) ∙ name_of_code-code_of name is in
    subst (Free 10) (sym same) (bytes_free name is.each)

word_free : (code : ℕ) → IsFreeWord code → Free 10 (name_of_code code)
word_free code w = name_free code w.bytes (record { short = w.is_word.short; each = word_bytes w.bytes w.is_word.each }) w.coded

-- operations
named_at : {X : Type 0} (name : X → ℕ) (xs : List X) (i : ℕ) (x : X) → slice_get xs i ≡ Some x → slice_index_or (map name xs) i 0 ≡ name x
named_at name [] i x e = absurd (cc)
named_at name (y ∷ ys) zero x e = let same : y ≡ x = cc in ap name same
named_at name (y ∷ ys) (suc i) x e = named_at name ys i x e

all_got : {X : Type 0} (P : X → Type 0) (xs : List X) (i : ℕ) (x : X) → All P xs → slice_get xs i ≡ Some x → P x
all_got P [] i x all e = absurd (cc)
all_got P (y ∷ ys) zero x all e = let same : y ≡ x = cc in subst P same (All-head P y ys all)
all_got P (y ∷ ys) (suc i) x all e = all_got P ys i x (All-tail P y ys all) e

op_free : (sig : Signature) (i : ℕ) (o : OpSig) → HasWords sig → slice_get sig.ops i ≡ Some o → Free 10 (op_name sig i)
op_free sig i o words e =
    subst (λ (code : ℕ). Free 10 (name_of_code code)) (sym (named_at (λ (op : OpSig). op.name) sig.ops i o e)) (word_free o.name (all_got (λ (op : OpSig). IsFreeWord op.name) sig.ops i o words.ops e))

value_free : (sort : Sort) (v : Value) → IsArgument sort v → Free 10 (value_text v)
value_free sort (value.Bool true) is = plain (codes "true") refl
value_free sort (value.Bool false) is = plain (codes "false") refl
value_free sort (value.Num z) is = signed_free z
value_free sort (value.Name code) is =
    let named = is.named in
    (λ e. omega (arith, e), free_append 10 (name_of_code code) (34 ∷ []) (name_free code named.name named.is_name named.coded) (λ e. omega (arith, e), tt))

args_free : (args : List Value) (sorts : List Sort) → AreMatched (λ (v : Value) (s : Sort). IsArgument s v) args sorts → Free 10 (args_text args)
args_free [] sorts all = tt
args_free (v ∷ vs) [] all = absurd all
args_free (v ∷ vs) (s ∷ ss) all = free_append 10 (arg_text v) (args_text vs) (λ e. omega (arith, e), value_free s v all.0) (args_free vs ss all.1)

done_free : (sig : Signature) (done : Done) → HasWords sig → FitsSignature sig done → Free 10 (done_text sig done)
done_free sig done words fits =
    free_append 10 (number_text (codes "do ") done.replica (codes " ") ++ op_name sig done.op ++ args_text done.args) (number_text (codes " at ") done.time [])
    (free_append 10 (number_text (codes "do ") done.replica (codes " ") ++ op_name sig done.op) (args_text done.args)
    (free_append 10 (number_text (codes "do ") done.replica (codes " ")) (op_name sig done.op) (between (codes "do ") (codes " ") done.replica (plain (codes "do ") refl) (plain (codes " ") refl)) (op_free sig done.op fits.op words fits.found))
    (args_free done.args fits.op.sorts fits.args))
    (between (codes " at ") [] done.time (plain (codes " at ") refl) tt)

further_free : (sig : Signature) (dones : List Done) → HasWords sig → All (FitsSignature sig) dones → Free 10 (flat_map (further_text sig) dones)
further_free sig [] words fits = tt
further_free sig (done ∷ more) words fits =
    free_append 10 (further_text sig done) (flat_map (further_text sig) more)
    (free_append 10 (codes "; ") (done_text sig done) (plain (codes "; ") refl) (done_free sig done words (All-head (FitsSignature sig) done more fits)))
    (further_free sig more words (All-tail (FitsSignature sig) done more fits))

dones_free : (sig : Signature) (dones : List Done) → HasWords sig → All (FitsSignature sig) dones → Free 10 (dones_text sig dones)
dones_free sig [] words fits = tt
dones_free sig (done ∷ more) words fits =
    free_append 10 (codes " " ++ done_text sig done) (flat_map (further_text sig) more)
    (free_append 10 (codes " ") (done_text sig done) (plain (codes " ") refl) (done_free sig done words (All-head (FitsSignature sig) done more fits)))
    (further_free sig more words (All-tail (FitsSignature sig) done more fits))

-- the lines
differs_cut : (n h : ℕ) (d : DesignForm) (rest : List ℕ) → lines_of (differs_line n h d ++ rest) ≡ differs_line n h d ∷ lines_of rest
differs_cut n h d rest =
    cut (number_text (codes "design ") n (codes " differs ") ++ number_text [] h (codes " ") ++ design_text d) rest
    (free_append 10 (number_text (codes "design ") n (codes " differs ") ++ number_text [] h (codes " ")) (design_text d)
    (free_append 10 (number_text (codes "design ") n (codes " differs ")) (number_text [] h (codes " "))
    (between (codes "design ") (codes " differs ") n (plain (codes "design ") refl) (plain (codes " differs ") refl)) (between [] (codes " ") h tt (plain (codes " ") refl)))
    (design_free d))

begin_cut : (n : ℕ) (d : DesignForm) (rest : List ℕ) → lines_of (audit.begin_line n d ++ rest) ≡ audit.begin_line n d ∷ lines_of rest
begin_cut n d rest =
    cut_as (number_text (codes "design ") n (codes " undecided ") ++ design_text d) (audit.begin_line n d) rest (sym (append_assoc (number_text (codes "design ") n (codes " undecided ")) (design_text d) (10 ∷ [])))
    (free_append 10 (number_text (codes "design ") n (codes " undecided ")) (design_text d) (between (codes "design ") (codes " undecided ") n (plain (codes "design ") refl) (plain (codes " undecided ") refl)) (design_free d))

-- each history of a signature fits it
abbrev pub Fitting : Type 0
Fitting = (sig : Signature) (i : ℕ) (history : History) → slice_get (histories sig) i ≡ Some history → FitsHistory sig history

history_cut : Fitting → (ty : TypeForm) → HasWords (signature_of ty) → (n i : ℕ) (h : History) → slice_get (histories (signature_of ty)) i ≡ Some h → (rest : List ℕ)
    → lines_of (history_line (signature_of ty) n h ++ rest) ≡ history_line (signature_of ty) n h ∷ lines_of rest
history_cut fitting ty words n i h there rest =
    let sig : Signature = signature_of ty in
    let fits : FitsHistory (signature_of ty) h = fitting (signature_of ty) i h there in
    cut (number_text (codes "history ") n (codes ":") ++ dones_text sig h.ops) rest
    (free_append 10 (number_text (codes "history ") n (codes ":")) (dones_text sig h.ops) (between (codes "history ") (codes ":") n (plain (codes "history ") refl) (plain (codes ":") refl))
    (dones_free (signature_of ty) h.ops words fits.fits))

none_cut : (n : ℕ) (rest : List ℕ) → lines_of (none_line n ++ rest) ≡ none_line n ∷ lines_of rest
none_cut n rest = cut (codes "none up to " ++ decimal n) rest (free_append 10 (codes "none up to ") (decimal n) (plain (codes "none up to ") refl) (decimal_free n))

undecided_cut : (n : ℕ) (rest : List ℕ) → lines_of (undecided_line n ++ rest) ≡ undecided_line n ∷ lines_of rest
undecided_cut n rest = cut (codes "undecided up to " ++ decimal n) rest (free_append 10 (codes "undecided up to ") (decimal n) (plain (codes "undecided up to ") refl) (decimal_free n))

stopped_cut : (n m : ℕ) (rest : List ℕ) → lines_of (stopped_line n m ++ rest) ≡ stopped_line n m ∷ lines_of rest
stopped_cut n m rest =
    cut_as (number_text (codes "stopped after ") n (codes " up to ") ++ decimal m) (stopped_line n m) rest (sym (append_assoc (number_text (codes "stopped after ") n (codes " up to ")) (decimal m) (10 ∷ [])))
    (free_append 10 (number_text (codes "stopped after ") n (codes " up to ")) (decimal m) (between (codes "stopped after ") (codes " up to ") n (plain (codes "stopped after ") refl) (plain (codes " up to ") refl)) (decimal_free m))

pub all_cut : Fitting → (ty : TypeForm) → HasWords (signature_of ty) → Cuts ty
all_cut fitting ty words = record {
  differs = differs_cut;
  history = history_cut fitting ty words;
  begin = begin_cut;
  said = λ s narrow rest. cut (said_text s) rest (said_plain s narrow);
  none = none_cut;
  undecided = undecided_cut;
  stopped = stopped_cut;
}
