-- Each line of a report is a line of the text.
use Rattle.std.proofs.Common.{◌≡◌, ℕ, zero, suc, ◌+◌, ◌<◌, ◌/◌, ◌%◌, ◌==◌, ◌||◌, Bool, true, false, if◌then◌else◌, List, [], ◌∷◌, ◌++◌, refl, sym, ap, ◌∙◌, subst, append_assoc, arith}
use Rattle.std.specs.Prelude.{codes, cond, map, nat_lt, slice_get, slice_index_or, Some, ℤ, pos, negsuc}
use Rattle.std.specs.Char.{digit_char}
use Rattle.std.specs.Fmt.{decimal, digit_glyph, digits, digits_onto, signed_decimal}
use Rattle.std.proofs.lemmas.Bool.{and_parts, lt-ltb}
use Rattle.std.proofs.lemmas.Bool.Decides.{Decides-eqb}
use Rattle.json.specs.Print.{escape, escape_byte, escape_letter, quoted}
use Rattle.serde_json.specs.Data.{Data, null, boolean, number, string, array, object, Items, no_items, item, Members, no_members, member, Num, unsigned, negative, float}
use Rattle.serde_json.specs.Written.{comma_if, compact_text, items_text, members_text, number_text}
use Rattle.kat_design.specs.Designs.{DesignForm}
use Rattle.kat_design_json.specs.PrintedDesigns.{design_data, design_text}
use Rattle.kat_said.specs.Judging.{lines_of, onto_first}
use Rattle.kat_said.specs.Sayings.{IsNarrowSaid, SaidForm, said_line, said_text}
use Rattle.kat_said.proofs.Lines.{said_plain}
use Rattle.kat_said.proofs.Parts.{Free, free_append, if_false, other}
use Rattle.std.specs.List.{AllByRecursion as ByRecursion, flat_map, list_all}
use Rattle.std.proofs.lemmas.List.Elements.{recursion_from_All}
use Rattle.std.proofs.lemmas.Option.{same_Some, slice_get_within}
use Rattle.kat_design.specs.Fitting.{FitsSignature}
use Rattle.kat_design.specs.Sorted.{AreMatched}
use Rattle.kat_histories.specs.Histories.{FitsHistory}
use Rattle.kat_hist.specs.Scripts.{arg_text, args_text, op_name}
use Rattle.kat_hist.specs.Words.{HasWords, IsFreeWord}
use Rattle.kat_histories.specs.declared.histories.History.{History}
use Rattle.kat_num.specs.Bytes.{is_name_byte, is_word_byte}
use Rattle.kat_num.specs.Names.{IsNameCode, name_of_code}
use Rattle.kat_num.specs.Values.{HasNameCode, IsArgument, truth_text, value_text}
use Rattle.kat_num.specs.declared.values.Sort.{Sort}
use Rattle.kat_num.specs.declared.values.Value.{Value}
use Rattle.kat_num.specs.declared.values.Value.TheVariants as value
use Rattle.kat_num.proofs.NameCodes.{name_of_code-code_of}
use Rattle.kat_type.specs.declared.done.Done.{Done}
use Rattle.kat_type.specs.declared.signatures.OpSig.{OpSig}
use Rattle.kat_type.specs.declared.signatures.Signature.{Signature}
use Rattle.kat_due.specs.Texts.{done_text, dones_text, further_text, history_line}
use Rattle.kat_due.specs.Texts.{begin_line, differs_line, none_line, stopped_line, undecided_line}

-- a text without a newline, and a newline
pub cut_free : (a rest : List ℕ) → Free 10 a → lines_of ((a ++ 10 ∷ []) ++ rest) ≡ (a ++ 10 ∷ []) ∷ lines_of rest
cut_free [] rest free = refl
cut_free (b ∷ bs) rest free =
    if_false (b == 10) ((10 ∷ []) ∷ lines_of ((bs ++ 10 ∷ []) ++ rest)) (onto_first b (lines_of ((bs ++ 10 ∷ []) ++ rest))) (other b 10 free.0) ∙ ap (onto_first b) (cut_free bs rest free.1)

-- digits aren't newlines
glyph_free : (below : Bool) (d : ℕ) → (if below then 48 + d else 87 + d) ≡ 10 → ⊥
glyph_free true d e = omega (arith, e)
glyph_free false d e = omega (arith, e)

either_free : (t : Bool) (a b : List ℕ) → Free 10 a → Free 10 b → Free 10 (if t then a else b)
either_free true a b f g = f
either_free false a b f g = g

onto_free : (k n : ℕ) (acc : List ℕ) → Free 10 acc → Free 10 (digits_onto k 10 false n acc)
onto_free zero n acc free = free
onto_free (suc k) n acc free =
    let first = digit_glyph false (n % 10) ∷ acc in
    let is : Free 10 first = (glyph_free (nat_lt (n % 10) 10) (n % 10), free) in
    either_free (n / 10 == 0) first (digits_onto k 10 false (n / 10) first) is (onto_free k (n / 10) first is)

pub decimal_free : (n : ℕ) → Free 10 (decimal n)
unfolding digits
decimal_free n = onto_free 64 n [] tt

signed_free : (z : ℤ) → Free 10 (signed_decimal z)
signed_free (pos n) = decimal_free n
signed_free (negsuc n) = (λ e. omega (arith, e), decimal_free (suc n))

-- words without a newline
abbrev has_newline : List ℕ → Bool
has_newline [] = false
has_newline (b ∷ bs) = (b == 10) || has_newline bs

pub plain : (bs : List ℕ) → has_newline bs ≡ false → Free 10 bs
plain [] e = tt
plain (b ∷ bs) e = (λ is. first (b == 10) ((Decides-eqb b 10).1 is) e, plain bs (rest (b == 10) e))
  where
    first : (t : Bool) → t ≡ true → (t || has_newline bs) ≡ false → ⊥
    first true f g = cc
    first false f g = cc

    rest : (t : Bool) → (t || has_newline bs) ≡ false → has_newline bs ≡ false
    rest true g = absurd (cc)
    rest false g = g

-- a newline in a string is written as `\n`
not_mark : (x : ℕ) → x ≡ 10 → ((x == 34) || (x == 92)) ≡ true → ⊥
not_mark x e h = let k : false ≡ true = subst (λ (y : ℕ). ((y == 34) || (y == 92)) ≡ true) e h in absurd (cc k)

letter_cases : (a b c d e f : Bool) (x : ℕ) → (a ≡ true → x ≡ 10 → ⊥) → cond a x (cond b 98 (cond c 102 (cond d 110 (cond e 114 (cond f 116 0))))) ≡ 10 → ⊥
letter_cases true b c d e f x mark is = mark refl is
letter_cases false true c d e f x mark is = omega (arith, is)
letter_cases false false true d e f x mark is = omega (arith, is)
letter_cases false false false true e f x mark is = omega (arith, is)
letter_cases false false false false true f x mark is = omega (arith, is)
letter_cases false false false false false true x other is = omega (arith, is)
letter_cases false false false false false false x other is = omega (arith, is)

letter_free : (x : ℕ) → escape_letter x ≡ 10 → ⊥
letter_free x = letter_cases ((x == 34) || (x == 92)) (x == 8) (x == 12) (x == 10) (x == 13) (x == 9) x (λ h e. not_mark x e h)

digit_cases : (t : Bool) (d : ℕ) → cond t (48 + d) (87 + d) ≡ 10 → ⊥
digit_cases true d e = omega (arith, e)
digit_cases false d e = omega (arith, e)

digit_free : (d : ℕ) → digit_char d ≡ 10 → ⊥
digit_free d = digit_cases (nat_lt d 10) d

byte_cases : (p q : Bool) (x l a b : ℕ) → (l ≡ 10 → ⊥) → (q ≡ false → x ≡ 10 → ⊥) → Free 10 (cond p (92 ∷ l ∷ []) (cond q (92 ∷ 117 ∷ 48 ∷ 48 ∷ digit_char a ∷ digit_char b ∷ []) (x ∷ [])))
byte_cases true q x l a b letter plain_byte = (λ e. omega (arith, e), (letter, tt))
byte_cases false true x l a b letter plain_byte =
    (λ e. omega (arith, e), (λ e. omega (arith, e), (λ e. omega (arith, e), (λ e. omega (arith, e), (digit_free a, (digit_free b, tt))))))
byte_cases false false x l a b letter plain_byte = (plain_byte refl, tt)

no_control : (x : ℕ) → nat_lt x 32 ≡ false → x ≡ 10 → ⊥
no_control x no_less e = let less : x < 32 = omega (arith, e) in absurd (cc (sym (lt-ltb x 32 less) ∙ no_less))

byte_free : (x : ℕ) → Free 10 (escape_byte x)
unfolding escape_byte
byte_free x = byte_cases (nat_lt 0 (escape_letter x)) (nat_lt x 32) x (escape_letter x) (x / 16) (x % 16) (letter_free x) (no_control x)

escape_free : (s : List ℕ) → Free 10 (escape s)
escape_free [] = tt
escape_free (x ∷ xs) = free_append 10 (escape_byte x) (escape xs) (byte_free x) (escape_free xs)

quoted_free : (s : List ℕ) → Free 10 (quoted s)
quoted_free s = (λ e. omega (arith, e), free_append 10 (escape s) (34 ∷ []) (escape_free s) (λ e. omega (arith, e), tt))

number_free : (n : Num) → Free 10 (number_text n)
number_free (unsigned n) = decimal_free n
number_free (negative z) = signed_free z
number_free (float x) = tt

comma_free : (later : Bool) → Free 10 (comma_if later)
comma_free true = (λ e. omega (arith, e), tt)
comma_free false = tt

truth_free : (b : Bool) → Free 10 (compact_text (boolean b))
truth_free true = plain (compact_text (boolean true)) refl
truth_free false = plain (compact_text (boolean false)) refl

mutual
  data_free : (d : Data) → Free 10 (compact_text d)
  data_free null = plain (compact_text null) refl
  data_free (boolean b) = truth_free b
  data_free (number n) = number_free n
  data_free (string s) = quoted_free s
  data_free (array ds) = (λ e. omega (arith, e), items_free false ds)
  data_free (object ms) = (λ e. omega (arith, e), members_free false ms)

  items_free : (later : Bool) (ds : Items) → Free 10 (items_text later ds)
  items_free later no_items = (λ e. omega (arith, e), tt)
  items_free later (item d ds) = free_append 10 (comma_if later) (compact_text d ++ items_text true ds) (comma_free later) (free_append 10 (compact_text d) (items_text true ds) (data_free d) (items_free true ds))

  members_free : (later : Bool) (ms : Members) → Free 10 (members_text later ms)
  members_free later no_members = (λ e. omega (arith, e), tt)
  members_free later (member k d ms) =
      free_append 10 (comma_if later) (quoted k ++ 58 ∷ (compact_text d ++ members_text true ms)) (comma_free later)
      (free_append 10 (quoted k) (58 ∷ (compact_text d ++ members_text true ms)) (quoted_free k)
      (λ e. omega (arith, e), free_append 10 (compact_text d) (members_text true ms) (data_free d) (members_free true ms)))

design_free : (d : DesignForm) → Free 10 (design_text d)
design_free d = data_free (design_data d)

-- a line whose text is told
line_cut : (a line rest : List ℕ) → line ≡ a ++ 10 ∷ [] → Free 10 a → lines_of (line ++ rest) ≡ line ∷ lines_of rest
line_cut a line rest is free = subst (λ (l : List ℕ). lines_of (l ++ rest) ≡ l ∷ lines_of rest) (sym is) (cut_free a rest free)

between_free : (a b : List ℕ) (n : ℕ) → has_newline a ≡ false → has_newline b ≡ false → Free 10 (a ++ decimal n ++ b)
between_free a b n e f = free_append 10 (a ++ decimal n) b (free_append 10 a (decimal n) (plain a e) (decimal_free n)) (plain b f)

last_one : (a b : List ℕ) → a ++ (b ++ 10 ∷ []) ≡ (a ++ b) ++ 10 ∷ []
last_one a b = sym (append_assoc a b (10 ∷ []))

pub differs_cut : (n h : ℕ) (d : DesignForm) (rest : List ℕ) → lines_of (differs_line n h d ++ rest) ≡ differs_line n h d ∷ lines_of rest
differs_cut n h d rest =
    let a = codes "design " ++ decimal n ++ codes " differs " in
    let b = decimal h ++ codes " " in
    line_cut (a ++ b ++ design_text d) (differs_line n h d) rest (last_one (a ++ b) (design_text d))
    (free_append 10 (a ++ b) (design_text d) (free_append 10 a b (between_free (codes "design ") (codes " differs ") n refl refl) (between_free [] (codes " ") h refl refl)) (design_free d))

pub begin_cut : (n : ℕ) (d : DesignForm) (rest : List ℕ) → lines_of (begin_line n d ++ rest) ≡ begin_line n d ∷ lines_of rest
begin_cut n d rest =
    let a = codes "design " ++ decimal n ++ codes " undecided " in
    line_cut (a ++ design_text d) (begin_line n d) rest (last_one a (design_text d))
    (free_append 10 a (design_text d) (between_free (codes "design ") (codes " undecided ") n refl refl) (design_free d))

pub none_cut : (n : ℕ) (rest : List ℕ) → lines_of (none_line n ++ rest) ≡ none_line n ∷ lines_of rest
none_cut n rest =
    line_cut (codes "none up to " ++ decimal n) (none_line n) rest (last_one (codes "none up to ") (decimal n))
    (free_append 10 (codes "none up to ") (decimal n) (plain (codes "none up to ") refl) (decimal_free n))

pub undecided_cut : (n : ℕ) (rest : List ℕ) → lines_of (undecided_line n ++ rest) ≡ undecided_line n ∷ lines_of rest
undecided_cut n rest =
    line_cut (codes "undecided up to " ++ decimal n) (undecided_line n) rest (last_one (codes "undecided up to ") (decimal n))
    (free_append 10 (codes "undecided up to ") (decimal n) (plain (codes "undecided up to ") refl) (decimal_free n))

pub stopped_cut : (n m : ℕ) (rest : List ℕ) → lines_of (stopped_line n m ++ rest) ≡ stopped_line n m ∷ lines_of rest
stopped_cut n m rest =
    let a = codes "stopped after " ++ decimal n ++ codes " up to " in
    line_cut (a ++ decimal m) (stopped_line n m) rest (last_one a (decimal m))
    (free_append 10 a (decimal m) (between_free (codes "stopped after ") (codes " up to ") n refl refl) (decimal_free m))

pub said_cut : (said : SaidForm) (rest : List ℕ) → IsNarrowSaid said → lines_of (said_line said ++ rest) ≡ said_line said ∷ lines_of rest
said_cut said rest narrow = cut_free (said_text said) rest (said_plain said narrow)

-- names have no newline
name_byte : (b : ℕ) → is_name_byte b ≡ true → b ≡ 10 → ⊥
name_byte b h e = let k : false ≡ true = subst (λ (y : ℕ). is_name_byte y ≡ true) e h in absurd (cc k)

names_free : (bs : List ℕ) → list_all is_name_byte bs ≡ true → Free 10 bs
names_free [] h = tt
names_free (b ∷ bs) h = let parts = and_parts (is_name_byte b) (list_all is_name_byte bs) h in (name_byte b parts.0, names_free bs parts.1)

name_free : (code : ℕ) → IsNameCode code → Free 10 (name_of_code code)
name_free code n = subst (λ (l : List ℕ). Free 10 l) (sym (ap name_of_code (sym n.coded) ∙ name_of_code-code_of n.name n.is_name)) (names_free n.name n.is_name.each)

weaker_all : (bytes : List ℕ) → list_all is_word_byte bytes ≡ true → list_all is_name_byte bytes ≡ true
weaker_all [] h = refl
weaker_all (b ∷ bytes) h =
    let parts = and_parts (is_word_byte b) (list_all is_word_byte bytes) h in
    rw (weaker_byte b parts.0) (weaker_all bytes parts.1)
  where
    weaker_byte : (byte : ℕ) → is_word_byte byte ≡ true → is_name_byte byte ≡ true
    weaker_byte byte h = rw h refl

word_free : (code : ℕ) → IsFreeWord code → Free 10 (name_of_code code)
word_free code w =
    name_free code (record { name = w.bytes; is_name = record { short = w.is_word.short; each = weaker_all w.bytes w.is_word.each }; coded = w.coded })

truth_text_free : (b : Bool) → Free 10 (truth_text b)
truth_text_free true = plain (truth_text true) refl
truth_text_free false = plain (truth_text false) refl

value_free : (v : Value) → HasNameCode v → Free 10 (value_text v)
value_free (value.Bool b) named = truth_text_free b
value_free (value.Num z) named = signed_free z
value_free (value.Name code) named =
    (λ e. omega (arith, e), free_append 10 (name_of_code code) (34 ∷ []) (name_free code named) (λ e. omega (arith, e), tt))

args_free : (args : List Value) (sorts : List Sort) → AreMatched (λ (v : Value) (s : Sort). IsArgument s v) args sorts → Free 10 (args_text args)
args_free [] [] are = tt
args_free [] (s ∷ sorts) are = tt
args_free (v ∷ args) [] are = absurd are
args_free (v ∷ args) (s ∷ sorts) are = free_append 10 (arg_text v) (args_text args) (λ e. omega (arith, e), value_free v are.0.named) (args_free args sorts are.1)

op_found : (ops : List OpSig) (place : ℕ) (op : OpSig) → slice_get ops place ≡ Some op → slice_index_or (map (λ (o : OpSig). o.name) ops) place 0 ≡ op.name
op_found [] place op h = let l = slice_get_within [] place op h in absurd (omega (arith, l))
op_found (o ∷ ops) zero op h = ap (λ (x : OpSig). x.name) (same_Some o op h)
op_found (o ∷ ops) (suc place) op h = op_found ops place op h

op_word : (ops : List OpSig) (place : ℕ) (op : OpSig) → ByRecursion (λ (o : OpSig). IsFreeWord o.name) ops → slice_get ops place ≡ Some op → IsFreeWord op.name
op_word [] place op words h = let l = slice_get_within [] place op h in absurd (omega (arith, l))
op_word (o ∷ ops) zero op words h = subst (λ (x : OpSig). IsFreeWord x.name) (same_Some o op h) words.0
op_word (o ∷ ops) (suc place) op words h = op_word ops place op words.1 h

op_free : (sig : Signature) (done : Done) → HasWords sig → FitsSignature sig done → Free 10 (op_name sig done.op)
op_free sig done words fits =
    subst (λ (n : ℕ). Free 10 (name_of_code n)) (sym (op_found sig.ops done.op fits.op fits.found))
    (word_free fits.op.name (op_word sig.ops done.op fits.op (recursion_from_All (λ (o : OpSig). IsFreeWord o.name) sig.ops words.ops) fits.found))

done_free : (sig : Signature) (done : Done) → HasWords sig → FitsSignature sig done → Free 10 (done_text sig done)
done_free sig done words fits =
    let a = codes "do " ++ decimal done.replica ++ codes " " in
    free_append 10 (a ++ op_name sig done.op ++ args_text done.args) (codes " at " ++ decimal done.time ++ [])
    (free_append 10 (a ++ op_name sig done.op) (args_text done.args)
    (free_append 10 a (op_name sig done.op) (between_free (codes "do ") (codes " ") done.replica refl refl) (op_free sig done words fits))
    (args_free done.args fits.op.sorts fits.args))
    (between_free (codes " at ") [] done.time refl refl)

further_free : (sig : Signature) (dones : List Done) → HasWords sig → ByRecursion (FitsSignature sig) dones → Free 10 (flat_map (further_text sig) dones)
further_free sig [] words fits = tt
further_free sig (done ∷ dones) words fits =
    free_append 10 (codes "; " ++ done_text sig done) (flat_map (further_text sig) dones)
    (free_append 10 (codes "; ") (done_text sig done) (plain (codes "; ") refl) (done_free sig done words fits.0)) (further_free sig dones words fits.1)

dones_free : (sig : Signature) (dones : List Done) → HasWords sig → ByRecursion (FitsSignature sig) dones → Free 10 (dones_text sig dones)
dones_free sig [] words fits = tt
dones_free sig (done ∷ dones) words fits =
    free_append 10 (codes " ") (done_text sig done ++ flat_map (further_text sig) dones) (plain (codes " ") refl)
    (free_append 10 (done_text sig done) (flat_map (further_text sig) dones) (done_free sig done words fits.0) (further_free sig dones words fits.1))

pub history_cut : (sig : Signature) (n : ℕ) (h : History) (rest : List ℕ) → HasWords sig → FitsHistory sig h → lines_of (history_line sig n h ++ rest) ≡ history_line sig n h ∷ lines_of rest
history_cut sig n h rest words fits =
    let a = codes "history " ++ decimal n ++ codes ":" in
    line_cut (a ++ dones_text sig h.ops) (history_line sig n h) rest refl
    (free_append 10 a (dones_text sig h.ops) (between_free (codes "history ") (codes ":") n refl refl)
    (dones_free sig h.ops words (recursion_from_All (FitsSignature sig) h.ops fits.fits)))
