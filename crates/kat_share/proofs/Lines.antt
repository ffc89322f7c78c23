-- Lines: at which byte a text is cut, and that a text of marks has one newline, its last byte.
use Rattle.std.proofs.Common.{◌≡◌, ℕ, zero, suc, ◌+◌, ◌<◌, ◌≤◌, Bool, true, false, cond, List, [], ◌∷◌, ◌++◌, map, flat_map, length, take, drop, Some, None, codes, decimal, refl, sym, ◌∙◌, ap, subst, arith, append_assoc}
use Rattle.std.specs.Prelude.{◌-◌, ◌^◌, eqb, ltb, position}
use Rattle.std.specs.List.{AllByRecursion, position_or_len}
use Rattle.std.proofs.Math.Seq.{drop-append-add, take-append-add}
use Rattle.std.proofs.lemmas.Bool.Decides.{nat_tests}
use Rattle.std.proofs.lemmas.Fmt.{decimal-digits_of, decimal_digit}
use Rattle.std.proofs.lemmas.List.{drop_all, length-drop, take_all}
use Rattle.kat_lattice.specs.Tallies.{Sums}
use Rattle.kat_design.specs.Designs.{DesignForm}
use Rattle.kat_design.specs.Sorted.{EachHas}
use Rattle.kat_design.specs.declared.states.Part.TheVariants as part
use Rattle.kat_replica.specs.Texts.{listed, separated, state_text, sum_text, tally_text}
use Rattle.kat_node.proofs.StateTexts.{written}
use Rattle.kat_node.specs.NodeFiles.{IsNodeText}
use Rattle.kat_node.specs.Nodes.{IsNode, IsSum}
use Rattle.kat_node.specs.StateData.{node_text}
use Rattle.kat_node.specs.Written.{IsWrittenPart}
use Rattle.kat_node.specs.declared.nodes.Node.{Node}
use Rattle.kat_share.specs.MarksTexts.{IsMarksText, marks_design, marks_node}
use Rattle.kat_share.specs.ShareTexts.{IsPacketText, IsShareText, after_line, first_line}

-- the byte at which a text is cut
place_some : (n m : ℕ) (b : Bool) → cond b (Some n) None ≡ Some m → n ≡ m
place_some n m true e = cc
place_some n m false e = absurd cc

place_none : (n m : ℕ) (b : Bool) → ltb n m ≡ b → cond b (Some n) None ≡ None → m ≤ n
place_none n m true is e = absurd cc
place_none n m false is e = grind (arith, nat_tests)

abbrev newline_at : List ℕ → ℕ
newline_at bytes = position_or_len (λ byte. eqb byte 10) bytes

pub first_some : (bytes : List ℕ) (place : ℕ) → position (λ byte. eqb byte 10) bytes ≡ Some place → take (place + 1) bytes ≡ first_line bytes
first_some bytes place e = ap (λ n. take (n + 1) bytes) (sym (place_some (newline_at bytes) place (ltb (newline_at bytes) (length bytes)) e))

-- a slice to the end
to_end : (bytes : List ℕ) (n : ℕ) → take (length bytes - n) (drop n bytes) ≡ drop n bytes
to_end bytes n = (let l : length (drop n bytes) ≡ length bytes - n = length-drop n bytes in take_all (length bytes - n) (drop n bytes) (omega (arith, l)))

pub after_some : (bytes : List ℕ) (place : ℕ) → position (λ byte. eqb byte 10) bytes ≡ Some place → take (length bytes - (place + 1)) (drop (place + 1) bytes) ≡ after_line bytes
after_some bytes place e = to_end bytes (place + 1) ∙ ap (λ n. drop (n + 1) bytes) (sym (place_some (newline_at bytes) place (ltb (newline_at bytes) (length bytes)) e))

past : (bytes : List ℕ) → position (λ byte. eqb byte 10) bytes ≡ None → length bytes ≤ newline_at bytes + 1
past bytes e = (let l : length bytes ≤ newline_at bytes = place_none (newline_at bytes) (length bytes) (ltb (newline_at bytes) (length bytes)) refl e in omega (arith, l))

pub first_none : (bytes : List ℕ) → position (λ byte. eqb byte 10) bytes ≡ None → bytes ≡ first_line bytes
first_none bytes e = sym (take_all (newline_at bytes + 1) bytes (past bytes e))

pub after_none : (bytes : List ℕ) → position (λ byte. eqb byte 10) bytes ≡ None → take (length bytes - length bytes) (drop (length bytes) bytes) ≡ after_line bytes
after_none bytes e = to_end bytes (length bytes) ∙ drop_all (length bytes) bytes (omega arith) ∙ sym (drop_all (newline_at bytes + 1) bytes (past bytes e))

-- no byte is a newline
abbrev NoNewline : List ℕ → Type 0
NoNewline bytes = AllByRecursion (λ byte. eqb byte 10 ≡ false) bytes

no_both : (xs ys : List ℕ) → NoNewline xs → NoNewline ys → NoNewline (xs ++ ys)
no_both [] ys h k = k
no_both (x ∷ xs) ys h k = (h.0, no_both xs ys h.1 k)

digit_no : (d : ℕ) → eqb (48 + d) 10 ≡ false
digit_no d = grind (arith, nat_tests)

digits_no : (ds : List ℕ) → NoNewline (map (λ d. 48 + d) ds)
digits_no [] = tt
digits_no (d ∷ ds) = (digit_no d, digits_no ds)

numeral_no : (text ds : List ℕ) → text ≡ map (λ d. 48 + d) ds → NoNewline text
numeral_no text ds e = subst NoNewline (sym e) (digits_no ds)

decimal_no : (n : ℕ) → n < 2 ^ 64 → NoNewline (decimal n)
decimal_no zero small = subst NoNewline (sym (decimal_digit 0 (omega arith))) (refl, tt)
decimal_no (suc n) small = numeral_no (decimal (suc n)) _ (decimal-digits_of (suc n) (omega arith) small)

flat_no : (texts : List (List ℕ)) → AllByRecursion NoNewline texts → NoNewline (flat_map (λ next. 44 ∷ next) texts)
flat_no [] h = tt
flat_no (t ∷ ts) h = no_both (44 ∷ t) (flat_map (λ next. 44 ∷ next) ts) (refl, h.0) (flat_no ts h.1)

separated_no : (texts : List (List ℕ)) → AllByRecursion NoNewline texts → NoNewline (separated texts)
separated_no [] h = tt
separated_no (t ∷ ts) h = no_both t (flat_map (λ next. 44 ∷ next) ts) h.0 (flat_no ts h.1)

listed_no : (texts : List (List ℕ)) → AllByRecursion NoNewline texts → NoNewline (listed texts)
listed_no texts h = (refl, no_both (separated texts) (93 ∷ []) (separated_no texts h) (refl, tt))

sums_no : (sums : Sums) → EachHas IsSum sums → AllByRecursion NoNewline (map sum_text sums)
sums_no [] h = tt
sums_no (s ∷ ss) h =
    let few = h.0.most_replica in
    let most = h.0.most in
    (listed_no (decimal s.0 ∷ decimal s.1 ∷ []) (decimal_no s.0 (omega (arith, few)), (decimal_no s.1 (omega (arith, most)), tt)), sums_no ss h.1)

-- a text that ends at its only newline
pub record OneLine (text : List ℕ) : Type 0 where
  pub body : List ℕ
  pub is : text ≡ body ++ 10 ∷ []
  pub none : NoNewline body

abbrev head_of : ℕ → ℕ → List ℕ
head_of number clock = codes "[\"state\",1," ++ (decimal number ++ 44 ∷ (decimal clock ++ 44 ∷ []))

head_no : (number clock : ℕ) → number < 2 ^ 64 → clock < 2 ^ 64 → NoNewline (head_of number clock)
head_no number clock few early =
    no_both (codes "[\"state\",1,") (decimal number ++ 44 ∷ (decimal clock ++ 44 ∷ [])) (refl, (refl, (refl, (refl, (refl, (refl, (refl, (refl, (refl, (refl, (refl, tt)))))))))))
    (no_both (decimal number) (44 ∷ (decimal clock ++ 44 ∷ [])) (decimal_no number few) (refl, no_both (decimal clock) (44 ∷ []) (decimal_no clock early) (refl, tt)))

marks_line : (number clock : ℕ) (sums : Sums) → IsNode marks_design (marks_node number clock sums) → EachHas IsWrittenPart (part.Tally sums ∷ []) → OneLine (node_text (marks_node number clock sums))
marks_line number clock sums is each =
    let head : List ℕ = head_of number clock in
    let state : List ℕ = state_text (part.Tally sums ∷ []) in
    let few = is.most in
    let early = is.clock in
    record {
      body = (head ++ state) ++ 93 ∷ [];
      is = sym (written (marks_node number clock sums) head (head ++ state) ((head ++ state) ++ 93 ∷ 10 ∷ []) each refl refl refl) ∙ sym (append_assoc (head ++ state) (93 ∷ []) (10 ∷ []));
      none = no_both (head ++ state) (93 ∷ []) (no_both head state (head_no number clock (omega (arith, few)) (omega (arith, early))) (listed_no (tally_text sums ∷ []) (listed_no (map sum_text sums) (sums_no sums is.parts.0.each), tt))) (refl, tt);
    }

position_after : (body rest : List ℕ) → NoNewline body → newline_at (body ++ 10 ∷ rest) ≡ length body
position_after [] rest none = refl
position_after (b ∷ body) rest none = (let e : newline_at (body ++ 10 ∷ rest) ≡ length body = position_after body rest none.1 in rw none.0 (omega (arith, e)))

together : (text rest : List ℕ) (line : OneLine text) → text ++ rest ≡ line.body ++ 10 ∷ rest
together text rest line = ap (λ t. t ++ rest) line.is ∙ append_assoc line.body (10 ∷ []) rest

first_is : (text rest : List ℕ) → OneLine text → first_line (text ++ rest) ≡ text
first_is text rest line =
    ap first_line (together text rest line)
    ∙ (ap (λ n. take (n + 1) (line.body ++ 10 ∷ rest)) (position_after line.body rest line.none) ∙ (take-append-add line.body (10 ∷ rest) 1 ∙ sym line.is))

after_is : (text rest : List ℕ) → OneLine text → after_line (text ++ rest) ≡ rest
after_is text rest line =
    ap after_line (together text rest line)
    ∙ (ap (λ n. drop (n + 1) (line.body ++ 10 ∷ rest)) (position_after line.body rest line.none) ∙ drop-append-add line.body (10 ∷ rest) 1)

pub share_read : (d : DesignForm) (text marks state : List ℕ) (node : Node) (sums : Sums) → IsNode marks_design (marks_node node.number node.replica.clock sums) → EachHas IsWrittenPart (part.Tally sums ∷ []) → marks ≡ node_text (marks_node node.number node.replica.clock sums) → text ≡ marks ++ state → IsMarksText marks sums → IsNodeText d state node
    → IsShareText d text node sums
share_read d text marks state node sums is each written_as both says states =
    let line : OneLine marks = subst OneLine (sym written_as) (marks_line node.number node.replica.clock sums is each) in
    subst (λ (t : List ℕ). IsShareText d t node sums) (sym both) (record {
      marks_are = subst (λ (t : List ℕ). IsMarksText t sums) (sym (first_is marks state line)) says;
      state = subst (λ (t : List ℕ). IsNodeText d t node) (sym (after_is marks state line)) states;
    })

pub packet_read : (d : DesignForm) (text base told : List ℕ) (node : Node) (known sums : Sums) → IsNode marks_design (marks_node node.number node.replica.clock known) → EachHas IsWrittenPart (part.Tally known ∷ []) → base ≡ node_text (marks_node node.number node.replica.clock known) → text ≡ base ++ told → IsMarksText base known → IsShareText d told node sums
    → IsPacketText d text known node sums
packet_read d text base told node known sums is each written_as both says shares =
    let line : OneLine base = subst OneLine (sym written_as) (marks_line node.number node.replica.clock known is each) in
    subst (λ (t : List ℕ). IsPacketText d t known node sums) (sym both) (record {
      base_is = subst (λ (t : List ℕ). IsMarksText t known) (sym (first_is base told line)) says;
      told = subst (λ (t : List ℕ). IsShareText d t node sums) (sym (after_is base told line)) shares;
    })
