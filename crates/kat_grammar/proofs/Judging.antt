-- Every text is judged, and in one way.
use Rattle.std.proofs.Common.{◌≡◌, ℕ, zero, suc, ◌+◌, ◌<◌, ◌≤◌, ◌⊎◌, inl, inr, Bool, true, false, List, [], ◌∷◌, ◌++◌, length, take, drop, refl, sym, ◌∙◌, ap, subst, arith, length-append, append_assoc, append-nil, Option, None, Some}
use Rattle.std.specs.Prelude.{filter, nat_lt, not, if◌then◌else◌}
use Rattle.std.specs.List.{slice_index_or}
use Rattle.std.proofs.lemmas.List.{get_or_append_left, take_all, take_at, take-append-drop, take-append-le, take-take}
use Rattle.std.proofs.Math.Seq.{get_or-append_seam}
use Rattle.kat_grammar.specs.declared.marks.Mark.TheVariants as mark
use Rattle.kat_grammar.specs.Files.{Exceeds, GoesOn, IsFirstExcess, Says, SyntaxAt, TooLargeAt, count_words, node_count}
use Rattle.kat_grammar.specs.Marks.{is_newline}
use Rattle.kat_grammar.specs.Forms.{TypeForm}
use Rattle.kat_grammar.specs.Sizes.{Load, loads_of, other}
use Rattle.kat_grammar.specs.Steps.{Spot, end_line, finish, first_spot, load_of, read_word, step}
use Rattle.kat_grammar.specs.declared.marks.Placed.{Placed}
use Rattle.kat_grammar.proofs.Leading.{choose_false, choose_true}
use Rattle.kat_grammar.proofs.Finishing.{goes_on}
use Rattle.kat_grammar.proofs.Texts.{Passes, complete, one_pass, parted, passes_on, some_is}
use Rattle.kat_grammar.proofs.Texts.Passes.{rests, reads_word, reads_newline}
use Rattle.kat_grammar.proofs.Writing.{sound}

-- tokens with which a type begins are read so far, and add what they add in that type
pub record Begun (front : List Placed) (loads : List Load) : Type 0 where
  pub last : Spot
  pub begun : List Load
  pub rest : List Load
  pub passes : Passes first_spot front begun last
  pub is : loads ≡ begun ++ rest

pub begun_by : (front : List Placed) (g : GoesOn front) → Begun front (loads_of g.whole)
begun_by front g =
    let w = complete (front ++ g.more) g.whole g.says in
    let p = parted front g.more w.passes in
    record { last = p.middle; begun = p.front; rest = p.back; passes = p.first; is = p.is }

-- no token was one too many
abbrev pub Small : List Load → Type 0
Small loads = (n : ℕ) → n < length loads → Exceeds loads n → ⊥

-- how many words there are
keeps_one : (b : Bool) (t : Placed) (ts : List Placed) → b ≡ true → (if b then t ∷ ts else ts) ≡ t ∷ ts
keeps_one true t ts e = refl
keeps_one false t ts e = absurd cc

keeps_none : (b : Bool) (t : Placed) (ts : List Placed) → b ≡ false → (if b then t ∷ ts else ts) ≡ ts
keeps_none true t ts e = absurd cc
keeps_none false t ts e = refl

count_word : (t : Placed) (ts : List Placed) → is_newline t.mark ≡ false → count_words (t ∷ ts) ≡ suc (count_words ts)
count_word t ts n = ap length (keeps_one (not (is_newline t.mark)) t (filter (λ (t : Placed). not (is_newline t.mark)) ts) (ap not n))

count_newline : (t : Placed) (ts : List Placed) → is_newline t.mark ≡ true → count_words (t ∷ ts) ≡ count_words ts
count_newline t ts n = ap length (keeps_none (not (is_newline t.mark)) t (filter (λ (t : Placed). not (is_newline t.mark)) ts) (ap not n))

pub counted : {p q : Spot} {ts : List Placed} {ls : List Load} → Passes p ts ls q → length ls ≡ count_words ts
counted rests = refl
counted (reads_word {ts = ts} t n e a) = ap suc (counted a) ∙ sym (count_word t ts n)
counted (reads_newline {ts = ts} t n e a) = counted a ∙ sym (count_newline t ts n)

-- what is one too many is so whatever comes after it
slice_front : (xs ys : List Load) (n : ℕ) → n < length xs → slice_index_or (xs ++ ys) n (other 0) ≡ slice_index_or xs n (other 0)
slice_front xs ys n h = get_or_append_left xs ys (other 0) n h

pub exceeds_longer : (xs ys : List Load) (n : ℕ) → n < length xs → Exceeds xs n → Exceeds (xs ++ ys) n
exceeds_longer xs ys n h (inl e) = inl (subst (λ (l : Load). 24 < l.depth) (sym (slice_front xs ys n h)) e)
exceeds_longer xs ys n h (inr e) = inr (subst (λ l. 400 < node_count l) (sym (take-append-le (suc n) xs ys h)) e)

pub exceeds_shorter : (xs ys : List Load) (n : ℕ) → n < length xs → Exceeds (xs ++ ys) n → Exceeds xs n
exceeds_shorter xs ys n h (inl e) = inl (subst (λ (l : Load). 24 < l.depth) (slice_front xs ys n h) e)
exceeds_shorter xs ys n h (inr e) = inr (subst (λ l. 400 < node_count l) (take-append-le (suc n) xs ys h) e)

-- a token at a place
pub record Split (tokens : List Placed) (k : ℕ) : Type 0 where
  pub front : List Placed
  pub t : Placed
  pub back : List Placed
  pub is : tokens ≡ front ++ t ∷ back
  pub place : length front ≡ k

pub split : (tokens : List Placed) (k : ℕ) → k < length tokens → Split tokens k
split [] k h = absurd (omega (arith, h))
split (t ∷ tokens) zero h = record { front = []; t = t; back = tokens; is = refl; place = refl }
split (t ∷ tokens) (suc k) h =
    let s = split tokens k (omega (arith, h)) in
    record { front = t ∷ s.front; t = s.t; back = s.back; is = ap (λ l. t ∷ l) s.is; place = ap suc s.place }

step_none : (p : Spot) (t : Placed) {ls : List Load} {q : Spot} → step p t.mark t.at ≡ None → Passes p (t ∷ []) ls q → ⊥
step_none p t e (reads_word {q = q} u n g a) = impossible (choose_false (is_newline t.mark) (end_line p.stage p.draft) (read_word p.stage p.draft t.mark t.at) n ∙ g) e
  where
    impossible : {o : Option Spot} {q : Spot} → o ≡ Some q → o ≡ None → ⊥
    impossible e f = absurd cc
step_none p t e (reads_newline {q = q} u n g a) = impossible (choose_true (is_newline t.mark) (end_line p.stage p.draft) (read_word p.stage p.draft t.mark t.at) n ∙ g) e
  where
    impossible : {o : Option Spot} {q : Spot} → o ≡ Some q → o ≡ None → ⊥
    impossible e f = absurd cc

-- types that begin with a token begin with those before it
pub fewer : (front back : List Placed) → GoesOn (front ++ back) → GoesOn front
fewer front back g = record { more = back ++ g.more; whole = g.whole; says = subst (λ l. Says l g.whole) (append_assoc front back g.more) g.says }

-- no type goes on if the machine doesn't
pub stuck : (front : List Placed) (t : Placed) (ls : List Load) (last : Spot) → Passes first_spot front ls last → step last t.mark t.at ≡ None → GoesOn (front ++ t ∷ []) → ⊥
stuck front t ls last passes e g =
    let b = begun_by (front ++ t ∷ []) g in
    let p = parted front (t ∷ []) b.passes in
    let same = one_pass p.first passes in
    step_none last t e (subst (λ q. Passes q (t ∷ []) p.back b.last) same.1 p.second)

-- what was read has no token too many, so none of a type that begins so
pub small_there : (front : List Placed) (t : Placed) (ls : List Load) (last : Spot) → Passes first_spot (front ++ t ∷ []) ls last → Small ls → is_newline t.mark ≡ false
    → (g : GoesOn (front ++ t ∷ [])) → Exceeds (loads_of g.whole) (count_words front) → ⊥
small_there front t ls last passes small n g e =
    let b = begun_by (front ++ t ∷ []) g in
    let same = one_pass b.passes passes in
    let p = parted front (t ∷ []) passes in
    let count : length p.front ≡ count_words front = counted p.first in
    let behind : length p.back ≡ 1 = counted p.second ∙ count_word t [] n in
    let long : length ls ≡ length p.front + length p.back = ap length p.is ∙ length-append p.front p.back in
    let within : count_words front < length ls = omega (arith, count, behind, long) in
    small (count_words front) within
    (exceeds_shorter ls b.rest (count_words front) within (subst (λ l. Exceeds l (count_words front)) (b.is ∙ ap (λ l. l ++ b.rest) same.0) e))

-- a token that is one too many
pub large_there : (front : List Placed) (t : Placed) (ls : List Load) (load : Load) (q last : Spot) → Passes first_spot front ls q → Passes first_spot (front ++ t ∷ []) (ls ++ load ∷ []) last → Small ls
    → Exceeds (ls ++ load ∷ []) (length ls) → (g : GoesOn (front ++ t ∷ [])) → IsFirstExcess (loads_of g.whole) (count_words front)
large_there front t ls load q last before passes small e g =
    let b = begun_by (front ++ t ∷ []) g in
    let same = one_pass b.passes passes in
    let is : loads_of g.whole ≡ ls ++ load ∷ [] ++ b.rest = b.is ∙ ap (λ l. l ++ b.rest) same.0 in
    let count : length ls ≡ count_words front = counted before in
    let one : length (ls ++ load ∷ []) ≡ length ls + 1 = length-append ls (load ∷ []) in
    subst (λ l. IsFirstExcess l (count_words front)) (sym is)
    (record {
      here = subst (λ n. Exceeds (ls ++ load ∷ [] ++ b.rest) n) count (exceeds_longer (ls ++ load ∷ []) b.rest (length ls) (omega (arith, one)) e);
      first = λ m h x.
          let below : m < length ls = omega (arith, h, count) in
          small m below (exceeds_shorter ls (load ∷ []) m below (exceeds_shorter (ls ++ load ∷ []) b.rest m (omega (arith, below, one)) x));
    })

cut_front : (front : List Placed) (t : Placed) (back : List Placed) (k : ℕ) → length front ≡ k → take k (front ++ t ∷ back) ≡ front
cut_front front t back k e = take_at front (t ∷ back) k e

cut_more : (front : List Placed) (t : Placed) (back : List Placed) (k : ℕ) → length front ≡ k → take (suc k) (front ++ t ∷ back) ≡ front ++ t ∷ []
cut_more front t back k e =
    let long : length (front ++ t ∷ []) ≡ suc k = length-append front (t ∷ []) ∙ omega (arith, e) in
    ap (take (suc k)) (sym (append_assoc front (t ∷ []) back)) ∙ take_at (front ++ t ∷ []) back (suc k) long

-- a token that is too many, by the tokens around it
record Large (front : List Placed) (t : Placed) : Type 0 where
  word : is_newline t.mark ≡ false
  goes : GoesOn (front ++ t ∷ [])
  excess : IsFirstExcess (loads_of goes.whole) (count_words front)

at_token : (front : List Placed) (t : Placed) (back : List Placed) (d : Placed) → slice_index_or (front ++ t ∷ back) (length front) d ≡ t
at_token front t back d = get_or-append_seam front t back d

large_of : (tokens front : List Placed) (t : Placed) (back : List Placed) (k : ℕ) → tokens ≡ front ++ t ∷ back → length front ≡ k → TooLargeAt tokens k → Large front t
large_of tokens front t back k is place x =
    let front_is : take k tokens ≡ front = ap (take k) is ∙ cut_front front t back k place in
    let more_is : take (suc k) tokens ≡ front ++ t ∷ [] = ap (take (suc k)) is ∙ cut_more front t back k place in
    by_front tokens front t back k is place x front_is more_is
  where
    moved_goes : (a b : List Placed) (e : a ≡ b) (g : GoesOn a) (n m : ℕ) → n ≡ m → IsFirstExcess (loads_of g.whole) n → (h : GoesOn b) × IsFirstExcess (loads_of h.whole) m
    moved_goes a b e g n m s x =
        (record { more = g.more; whole = g.whole; says = subst (λ a. Says (a ++ g.more) g.whole) e g.says }, subst (IsFirstExcess (loads_of g.whole)) s x)

    by_front : (tokens front : List Placed) (t : Placed) (back : List Placed) (k : ℕ) → tokens ≡ front ++ t ∷ back → length front ≡ k → TooLargeAt tokens k
        → take k tokens ≡ front → take (suc k) tokens ≡ front ++ t ∷ [] → Large front t
    by_front tokens front t back k is place x front_is more_is =
        let m = moved_goes (take (suc k) tokens) (front ++ t ∷ []) more_is x.goes (count_words (take k tokens)) (count_words front) (ap count_words front_is) x.excess in
        let nothing : Placed = record { mark = mark.Newline; at = 0 } in
        let same : slice_index_or tokens k nothing ≡ t = ap (λ l. slice_index_or l k nothing) is ∙ ap (λ k. slice_index_or (front ++ t ∷ back) k nothing) (sym place) ∙ at_token front t back nothing in
        record { word = subst (λ (t : Placed). is_newline t.mark ≡ false) same x.word; goes = m.0; excess = m.1 }

large_at : (front : List Placed) (t : Placed) (back : List Placed) → Large front t → TooLargeAt (front ++ t ∷ back) (length front)
large_at front t back x =
    let nothing : Placed = record { mark = mark.Newline; at = 0 } in
    let front_is : front ≡ take (length front) (front ++ t ∷ back) = sym (cut_front front t back (length front) refl) in
    let more_is : front ++ t ∷ [] ≡ take (suc (length front)) (front ++ t ∷ back) = sym (cut_more front t back (length front) refl) in
    let long : length (front ++ t ∷ back) ≡ length front + suc (length back) = length-append front (t ∷ back) in
    record {
      within = omega (arith, long);
      word = subst (λ (t : Placed). is_newline t.mark ≡ false) (sym (at_token front t back nothing)) x.word;
      goes = record { more = x.goes.more; whole = x.goes.whole; says = subst (λ a. Says (a ++ x.goes.more) x.goes.whole) more_is x.goes.says };
      excess = subst (IsFirstExcess (loads_of x.goes.whole)) (ap count_words front_is) x.excess;
    }

-- nothing is too large in what was read and has no token too many
pub none_large : (front rest : List Placed) (ls : List Load) (last : Spot) → Passes first_spot front ls last → Small ls → (k : ℕ) → k < length front → TooLargeAt (front ++ rest) k → ⊥
none_large front rest ls last passes small k h x =
    let s = split front k h in
    let is : front ++ rest ≡ s.front ++ s.t ∷ (s.back ++ rest) = ap (λ l. l ++ rest) s.is ∙ append_assoc s.front (s.t ∷ s.back) rest in
    let l = large_of (front ++ rest) s.front s.t (s.back ++ rest) k is s.place x in
    let whole : front ≡ s.front ++ s.t ∷ [] ++ s.back = s.is ∙ sym (append_assoc s.front (s.t ∷ []) s.back) in
    let p = parted (s.front ++ s.t ∷ []) s.back (subst (λ l. Passes first_spot l ls last) whole passes) in
    let fewer_small : Small p.front =
    λ n below e.
    let long : length ls ≡ length p.front + length p.back = ap length p.is ∙ length-append p.front p.back in
    small n (omega (arith, long, below)) (subst (λ l. Exceeds l n) (sym p.is) (exceeds_longer p.front p.back n below e)) in
    small_there s.front s.t p.front p.middle p.first fewer_small l.word l.goes l.excess.here

-- what was read up to a token, and no token was one too many
pub record Progress (front : List Placed) (p : Spot) : Type 0 where
  pub loads : List Load
  pub passes : Passes first_spot front loads p
  pub small : Small loads

lt_cases : (a b : ℕ) → (a < b) ⊎ (b ≤ a)
lt_cases a b = by_test a b (nat_lt a b) refl
  where
    by_test : (a b : ℕ) (x : Bool) → nat_lt a b ≡ x → (a < b) ⊎ (b ≤ a)
    by_test a b true e = inl (grind (arith, e))
    by_test a b false e = inr (grind (arith, e))

-- at a token no type goes on
pub syntax_at : (front : List Placed) (t : Placed) (back : List Placed) (p : Spot) → Progress front p → step p t.mark t.at ≡ None
    → SyntaxAt (front ++ t ∷ back) (length front) × ((j : ℕ) → TooLargeAt (front ++ t ∷ back) j → ⊥)
syntax_at front t back p x e =
    let long : length (front ++ t ∷ back) ≡ length front + suc (length back) = length-append front (t ∷ back) in
    let front_is = cut_front front t back (length front) refl in
    let more_is = cut_more front t back (length front) refl in (
      record {
        within = omega (arith, long);
        before = subst GoesOn (sym front_is) (goes_on front x.loads p x.passes);
        stops = λ h g. stuck front t x.loads p x.passes e (subst GoesOn more_is g);
        ends = λ h u s. absurd (omega (arith, h, long));
      },
      λ j large. by_place (front) t back p x e j large (lt_cases j (length front)),
    )
  where
    fewer_there : (front : List Placed) (t : Placed) (back : List Placed) (j : ℕ) → length front ≤ j → GoesOn (take (suc j) (front ++ t ∷ back)) → GoesOn (front ++ t ∷ [])
    fewer_there front t back j h g =
        let more_is = cut_more front t back (length front) refl in
        let first : take (suc (length front)) (take (suc j) (front ++ t ∷ back)) ≡ front ++ t ∷ [] = take-take (suc (length front)) (suc j) (front ++ t ∷ back) (omega (arith, h)) ∙ more_is in
        let whole : take (suc j) (front ++ t ∷ back) ≡ front ++ t ∷ [] ++ drop (suc (length front)) (take (suc j) (front ++ t ∷ back)) =
        sym (take-append-drop (suc (length front)) (take (suc j) (front ++ t ∷ back))) ∙ ap (λ l. l ++ drop (suc (length front)) (take (suc j) (front ++ t ∷ back))) first in
        fewer (front ++ t ∷ []) (drop (suc (length front)) (take (suc j) (front ++ t ∷ back))) (subst GoesOn whole g)

    by_place : (front : List Placed) (t : Placed) (back : List Placed) (p : Spot) → Progress front p → step p t.mark t.at ≡ None → (j : ℕ) → TooLargeAt (front ++ t ∷ back) j → (j < length front) ⊎ (length front ≤ j) → ⊥
    by_place front t back p x e j large (inl h) = none_large front (t ∷ back) x.loads p x.passes x.small j h large
    by_place front t back p x e j large (inr h) = stuck front t x.loads p x.passes e (fewer_there front t back j h large.goes)

no_more : (tokens : List Placed) (p : Spot) → Progress tokens p → (j : ℕ) → TooLargeAt tokens j → ⊥
no_more tokens p x j large =
    none_large tokens [] x.loads p x.passes x.small j large.within (subst (λ l. TooLargeAt l j) (sym (append-nil tokens)) large)

-- the text ends, and isn't whole
pub syntax_end : (tokens : List Placed) (p : Spot) → Progress tokens p → finish p ≡ None → SyntaxAt tokens (length tokens) × ((j : ℕ) → TooLargeAt tokens j → ⊥)
syntax_end tokens p x e = (
  record {
    within = omega arith;
    before = subst GoesOn (sym (take_all (length tokens) tokens (omega arith))) (goes_on tokens x.loads p x.passes);
    stops = λ h g. absurd (omega (arith, h));
    ends = λ h t s. not_whole tokens p x e t s;
  },
  no_more tokens p x,
)
  where
    not_whole : (tokens : List Placed) (p : Spot) → Progress tokens p → finish p ≡ None → (t : TypeForm) → Says tokens t → ⊥
    not_whole tokens p x e t s =
        let w = complete tokens t s in
        let same = one_pass w.passes x.passes in
        impossible (subst (λ q. finish q ≡ Some t) same.1 w.ends) e
      where
        impossible : {o : Option TypeForm} {t : TypeForm} → o ≡ Some t → o ≡ None → ⊥
        impossible e f = absurd cc

-- the text ends, and is whole
pub whole_end : (tokens : List Placed) (p : Spot) (t : TypeForm) → Progress tokens p → finish p ≡ Some t → Says tokens t × ((j : ℕ) → TooLargeAt tokens j → ⊥)
whole_end tokens p t x e = (sound tokens t x.loads p x.passes e, no_more tokens p x)

pub word_step : (p q : Spot) (t : Placed) → is_newline t.mark ≡ false → step p t.mark t.at ≡ Some q → read_word p.stage p.draft t.mark t.at ≡ Some q
word_step p q t n e = sym (choose_false (is_newline t.mark) (end_line p.stage p.draft) (read_word p.stage p.draft t.mark t.at) n) ∙ e

pub newline_step : (p q : Spot) (t : Placed) → is_newline t.mark ≡ true → step p t.mark t.at ≡ Some q → end_line p.stage p.draft ≡ Some q
newline_step p q t n e = sym (choose_true (is_newline t.mark) (end_line p.stage p.draft) (read_word p.stage p.draft t.mark t.at) n) ∙ e

-- one token more
abbrev pub newline_more : (front : List Placed) (t : Placed) (p q : Spot) → Progress front p → is_newline t.mark ≡ true → step p t.mark t.at ≡ Some q → Progress (front ++ t ∷ []) q
newline_more front t p q x n e =
    record {
      loads = x.loads;
      passes = subst (λ ls. Passes first_spot (front ++ t ∷ []) ls q) (append-nil x.loads) (passes_on x.passes (reads_newline t n (newline_step p q t n e) rests));
      small = x.small;
    }

pub word_passes : (front : List Placed) (t : Placed) (p q : Spot) (x : Progress front p) → is_newline t.mark ≡ false → step p t.mark t.at ≡ Some q
    → Passes first_spot (front ++ t ∷ []) (x.loads ++ load_of q.stage q.draft ∷ []) q
word_passes front t p q x n e = passes_on x.passes (reads_word t n (word_step p q t n e) rests)

load_last : (xs : List Load) (l : Load) → slice_index_or (xs ++ l ∷ []) (length xs) (other 0) ≡ l
load_last xs l = get_or-append_seam xs l [] (other 0)

-- with the last one
all_there : (xs : List Load) (l : Load) → take (suc (length xs)) (xs ++ l ∷ []) ≡ xs ++ l ∷ []
all_there xs l = let long : length (xs ++ l ∷ []) ≡ length xs + 1 = length-append xs (l ∷ []) in take_all (suc (length xs)) (xs ++ l ∷ []) (omega (arith, long))

pub word_small : (xs : List Load) (l : Load) → Small xs → l.depth ≤ 24 → node_count (xs ++ l ∷ []) ≤ 400 → Small (xs ++ l ∷ [])
word_small xs l small deep many = last_small xs l small deep many
  where
    last_small : (xs : List Load) (l : Load) → Small xs → l.depth ≤ 24 → node_count (xs ++ l ∷ []) ≤ 400 → Small (xs ++ l ∷ [])
    last_small xs l small deep many m h exceeds = by_place xs l small deep many m h exceeds (in_front xs l m h)
      where
        decided : (m n : ℕ) → m < n + 1 → (m < n) ⊎ (n ≤ m) → (m < n) ⊎ (m ≡ n)
        decided m n h (inl below) = inl below
        decided m n h (inr above) = inr (omega (arith, h, above))

        in_front : (xs : List Load) (l : Load) (m : ℕ) → m < length (xs ++ l ∷ []) → (m < length xs) ⊎ (m ≡ length xs)
        in_front xs l m h = let long : length (xs ++ l ∷ []) ≡ length xs + 1 = length-append xs (l ∷ []) in decided m (length xs) (omega (arith, h, long)) (lt_cases m (length xs))

        not_last : (xs : List Load) (l : Load) → l.depth ≤ 24 → node_count (xs ++ l ∷ []) ≤ 400 → Exceeds (xs ++ l ∷ []) (length xs) → ⊥
        not_last xs l deep many (inl e) = let e' : 24 < l.depth = subst (λ (l : Load). 24 < l.depth) (load_last xs l) e in absurd (omega (arith, e', deep))
        not_last xs l deep many (inr e) = let e' : 400 < node_count (xs ++ l ∷ []) = subst (λ l. 400 < node_count l) (all_there xs l) e in absurd (omega (arith, e', many))

        by_place : (xs : List Load) (l : Load) → Small xs → l.depth ≤ 24 → node_count (xs ++ l ∷ []) ≤ 400 → (m : ℕ) → m < length (xs ++ l ∷ []) → Exceeds (xs ++ l ∷ []) m
            → (m < length xs) ⊎ (m ≡ length xs) → ⊥
        by_place xs l small deep many m h e (inl before) = small m before (exceeds_shorter xs (l ∷ []) m before e)
        by_place xs l small deep many m h e (inr same) = not_last xs l deep many (subst (Exceeds (xs ++ l ∷ [])) same e)

abbrev pub word_more : (front : List Placed) (t : Placed) (p q : Spot) (x : Progress front p) → is_newline t.mark ≡ false → step p t.mark t.at ≡ Some q
    → (load_of q.stage q.draft).depth ≤ 24 → node_count (x.loads ++ load_of q.stage q.draft ∷ []) ≤ 400 → Progress (front ++ t ∷ []) q
word_more front t p q x n e deep many =
    record {
      loads = x.loads ++ load_of q.stage q.draft ∷ [];
      passes = word_passes front t p q x n e;
      small = word_small x.loads (load_of q.stage q.draft) x.small deep many;
    }

-- a token too many
pub large_token : (front : List Placed) (t : Placed) (back : List Placed) (p q : Spot) (x : Progress front p) → is_newline t.mark ≡ false → step p t.mark t.at ≡ Some q
    → (24 < (load_of q.stage q.draft).depth) ⊎ (400 < node_count (x.loads ++ load_of q.stage q.draft ∷ [])) → TooLargeAt (front ++ t ∷ back) (length front)
large_token front t back p q x n e h =
    let l = load_of q.stage q.draft in
    let passes = word_passes front t p q x n e in
    let g = goes_on (front ++ t ∷ []) (x.loads ++ l ∷ []) q passes in
    large_at front t back
    (record { word = n; goes = g; excess = large_there front t x.loads l p q x.passes passes x.small (exceeds_last x.loads l h) g })
  where
    exceeds_last : (xs : List Load) (l : Load) → (24 < l.depth) ⊎ (400 < node_count (xs ++ l ∷ [])) → Exceeds (xs ++ l ∷ []) (length xs)
    exceeds_last xs l (inl h) = inl (subst (λ (l : Load). 24 < l.depth) (sym (load_last xs l)) h)
    exceeds_last xs l (inr h) = inr (subst (λ l. 400 < node_count l) (sym (all_there xs l)) h)

-- the judgement of tokens
pub data Verdict (tokens : List Placed) : Type 0 where
  a_type : (t : TypeForm) → Says tokens t → ((j : ℕ) → TooLargeAt tokens j → ⊥) → Verdict tokens
  a_fault : (k : ℕ) → SyntaxAt tokens k → ((j : ℕ) → TooLargeAt tokens j → ⊥) → Verdict tokens
  a_large : (k : ℕ) → TooLargeAt tokens k → Verdict tokens

verdict_end : (tokens : List Placed) (p : Spot) → Progress tokens p → (o : Option TypeForm) → finish p ≡ o → Verdict tokens
verdict_end tokens p x (Some t) e = let h = whole_end tokens p t x e in a_type t h.0 h.1
verdict_end tokens p x None e = let h = syntax_end tokens p x e in a_fault (length tokens) h.0 h.1

too_many : (deep many : ℕ) → ((24 < deep) ⊎ (400 < many)) ⊎ ((deep ≤ 24) × (many ≤ 400))
too_many deep many = by_depth deep many (lt_cases 24 deep)
  where
    by_count : (deep many : ℕ) → deep ≤ 24 → (400 < many) ⊎ (many ≤ 400) → ((24 < deep) ⊎ (400 < many)) ⊎ ((deep ≤ 24) × (many ≤ 400))
    by_count deep many h (inl e) = inl (inr e)
    by_count deep many h (inr e) = inr (h, e)

    by_depth : (deep many : ℕ) → (24 < deep) ⊎ (deep ≤ 24) → ((24 < deep) ⊎ (400 < many)) ⊎ ((deep ≤ 24) × (many ≤ 400))
    by_depth deep many (inl e) = inl (inl e)
    by_depth deep many (inr e) = by_count deep many e (lt_cases 400 many)

abbrev GoesOnFrom : List Placed → Type 0
GoesOnFrom back = (front : List Placed) (p : Spot) → Progress front p → Verdict (front ++ back)

verdict_word : (front : List Placed) (t : Placed) (back : List Placed) (p q : Spot) (x : Progress front p) → GoesOnFrom back → is_newline t.mark ≡ false → step p t.mark t.at ≡ Some q
    → (((24 < (load_of q.stage q.draft).depth) ⊎ (400 < node_count (x.loads ++ load_of q.stage q.draft ∷ []))) ⊎ (((load_of q.stage q.draft).depth ≤ 24) × (node_count (x.loads ++ load_of q.stage q.draft ∷ []) ≤ 400)))
    → Verdict (front ++ t ∷ back)
verdict_word front t back p q x goes n e (inl h) = a_large (length front) (large_token front t back p q x n e h)
verdict_word front t back p q x goes n e (inr h) =
    subst Verdict (append_assoc front (t ∷ []) back) (goes (front ++ t ∷ []) q (word_more front t p q x n e h.0 h.1))

verdict_token : (front : List Placed) (t : Placed) (back : List Placed) (p : Spot) → Progress front p → GoesOnFrom back → (n : Bool) → is_newline t.mark ≡ n → (o : Option Spot) → step p t.mark t.at ≡ o
    → Verdict (front ++ t ∷ back)
verdict_token front t back p x goes n m None e = let h = syntax_at front t back p x e in a_fault (length front) h.0 h.1
verdict_token front t back p x goes true m (Some q) e = subst Verdict (append_assoc front (t ∷ []) back) (goes (front ++ t ∷ []) q (newline_more front t p q x m e))
verdict_token front t back p x goes false m (Some q) e =
    verdict_word front t back p q x goes m e (too_many (load_of q.stage q.draft).depth (node_count (x.loads ++ load_of q.stage q.draft ∷ [])))

verdict_on : (back : List Placed) → GoesOnFrom back
verdict_on [] front p x = subst Verdict (sym (append-nil front)) (verdict_end front p x (finish p) refl)
verdict_on (t ∷ back) front p x = verdict_token front t back p x (verdict_on back) (is_newline t.mark) refl (step p t.mark t.at) refl

abbrev pub first_progress : Progress [] first_spot
first_progress = record { loads = []; passes = rests; small = λ n h e. absurd (omega (arith, h)) }

pub verdict : (tokens : List Placed) → Verdict tokens
verdict tokens = verdict_on tokens [] first_spot first_progress

-- one type at most
pub one_type : (tokens : List Placed) (t u : TypeForm) → Says tokens t → Says tokens u → t ≡ u
one_type tokens t u a b =
    let x = complete tokens t a in
    let y = complete tokens u b in
    let same = one_pass x.passes y.passes in
    some_is (sym x.ends ∙ ap finish same.1 ∙ y.ends)

goes_before : (tokens : List Placed) (k m : ℕ) → k ≤ m → GoesOn (take m tokens) → GoesOn (take k tokens)
goes_before tokens k m h g =
    fewer (take k tokens) (drop k (take m tokens))
    (subst GoesOn (sym (take-append-drop k (take m tokens)) ∙ ap (λ l. l ++ drop k (take m tokens)) (take-take k m tokens h)) g)

-- one place at most
not_before : (tokens : List Placed) (k m : ℕ) → SyntaxAt tokens k → SyntaxAt tokens m → k < m → ⊥
not_before tokens k m a b h = a.stops (omega (arith, h, b.within)) (goes_before tokens (suc k) m h b.before)

same_place : (k m : ℕ) → (k < m → ⊥) → (m < k → ⊥) → (k < m) ⊎ (m ≤ k) → (m < k) ⊎ (k ≤ m) → k ≡ m
same_place k m a b (inl h) other = absurd (a h)
same_place k m a b (inr h) (inl g) = absurd (b g)
same_place k m a b (inr h) (inr g) = omega (arith, h, g)

pub one_syntax : (tokens : List Placed) (k m : ℕ) → SyntaxAt tokens k → SyntaxAt tokens m → k ≡ m
one_syntax tokens k m a b = same_place k m (not_before tokens k m a b) (not_before tokens m k b a) (lt_cases k m) (lt_cases m k)

says_goes : (tokens : List Placed) (t : TypeForm) → Says tokens t → GoesOn tokens
says_goes tokens t s = record { more = []; whole = t; says = subst (λ l. Says l t) (sym (append-nil tokens)) s }

pub not_both_said : (tokens : List Placed) (t : TypeForm) (k : ℕ) → Says tokens t → SyntaxAt tokens k → ⊥
not_both_said tokens t k s x = by_place tokens t k s x (lt_cases k (length tokens))
  where
    by_place : (tokens : List Placed) (t : TypeForm) (k : ℕ) → Says tokens t → SyntaxAt tokens k → (k < length tokens) ⊎ (length tokens ≤ k) → ⊥
    by_place tokens t k s x (inl h) =
        x.stops h (goes_before tokens (suc k) (length tokens) h (subst GoesOn (sym (take_all (length tokens) tokens (omega arith))) (says_goes tokens t s)))
    by_place tokens t k s x (inr h) = let w = x.within in x.ends (omega (arith, h, w)) t s

-- the earlier of two tokens too many is too many in both
not_large_before : (tokens : List Placed) (k m : ℕ) → TooLargeAt tokens k → TooLargeAt tokens m → k < m → ⊥
not_large_before tokens k m a b h =
    let s = split tokens k a.within in
    let u = split tokens m b.within in
    let x = large_of tokens s.front s.t s.back k s.is s.place a in
    let y = large_of tokens u.front u.t u.back m u.is u.place b in
    earlier s.front s.t u.front u.t (within_front tokens k m s u h) x y
  where
    within_front : (tokens : List Placed) (k m : ℕ) (s : Split tokens k) (u : Split tokens m) → k < m → (more : List Placed) × (u.front ≡ s.front ++ s.t ∷ more)
    within_front tokens k m s u h =
        let front_is : u.front ≡ take m tokens = sym (ap (take m) u.is ∙ cut_front u.front u.t u.back m u.place) in
        let both : take (suc k) (take m tokens) ≡ s.front ++ s.t ∷ [] = take-take (suc k) m tokens h ∙ ap (take (suc k)) s.is ∙ cut_more s.front s.t s.back k s.place in (
          drop (suc k) (take m tokens),
          front_is ∙ sym (take-append-drop (suc k) (take m tokens)) ∙ ap (λ l. l ++ drop (suc k) (take m tokens)) both ∙ append_assoc s.front (s.t ∷ []) (drop (suc k) (take m tokens)),
        )

    earlier : (f : List Placed) (t : Placed) (g : List Placed) (u : Placed) → (more : List Placed) × (g ≡ f ++ t ∷ more) → Large f t → Large g u → ⊥
    earlier f t g u (more, is) x y =
        let whole : g ++ u ∷ [] ≡ f ++ t ∷ [] ++ (more ++ u ∷ []) = ap (λ l. l ++ u ∷ []) is ∙ append_assoc f (t ∷ more) (u ∷ []) ∙ sym (append_assoc f (t ∷ []) (more ++ u ∷ [])) in
        let bx = begun_by (f ++ t ∷ []) x.goes in
        let by = begun_by (g ++ u ∷ []) y.goes in
        let p = parted (f ++ t ∷ []) (more ++ u ∷ []) (subst (λ l. Passes first_spot l by.begun by.last) whole by.passes) in
        let same = one_pass bx.passes p.first in
        let front = parted f (t ∷ []) bx.passes in
        let count : length front.front ≡ count_words f = counted front.first in
        let one : length front.back ≡ 1 = counted front.second ∙ count_word t [] x.word in
        let long : length bx.begun ≡ length front.front + length front.back = ap length front.is ∙ length-append front.front front.back in
        let within : count_words f < length bx.begun = omega (arith, count, one, long) in
        let here : Exceeds bx.begun (count_words f) = exceeds_shorter bx.begun bx.rest (count_words f) within (subst (λ l. Exceeds l (count_words f)) bx.is x.excess.here) in
        let there_is : loads_of y.goes.whole ≡ bx.begun ++ (p.back ++ by.rest) = by.is ∙ ap (λ l. l ++ by.rest) (p.is ∙ ap (λ l. l ++ p.back) (sym same.0)) ∙ append_assoc bx.begun p.back by.rest in
        let there : Exceeds (loads_of y.goes.whole) (count_words f) =
        subst (λ l. Exceeds l (count_words f)) (sym there_is) (exceeds_longer bx.begun (p.back ++ by.rest) (count_words f) within here) in
        let g_parts = parted (f ++ t ∷ []) more (subst (λ l. Passes first_spot l (begun_front g u by) (begun_middle g u by)) (is ∙ sym (append_assoc f (t ∷ []) more)) (begun_passes g u by)) in
        let g_same = one_pass bx.passes g_parts.first in
        let g_count : length (begun_front g u by) ≡ count_words g = counted (begun_passes g u by) in
        let g_long : length (begun_front g u by) ≡ length g_parts.front + length g_parts.back = ap length g_parts.is ∙ length-append g_parts.front g_parts.back in
        let g_front : length bx.begun ≡ length g_parts.front = ap length g_same.0 in
        y.excess.first (count_words f) (omega (arith, within, g_count, g_long, g_front)) there
      where
        begun_front : (g : List Placed) (u : Placed) → {ls : List Load} → Begun (g ++ u ∷ []) ls → List Load
        begun_front g u b = (parted g (u ∷ []) b.passes).front

        begun_middle : (g : List Placed) (u : Placed) → {ls : List Load} → Begun (g ++ u ∷ []) ls → Spot
        begun_middle g u b = (parted g (u ∷ []) b.passes).middle

        begun_passes : (g : List Placed) (u : Placed) → {ls : List Load} (b : Begun (g ++ u ∷ []) ls) → Passes first_spot g (begun_front g u b) (begun_middle g u b)
        begun_passes g u b = (parted g (u ∷ []) b.passes).first

pub one_large : (tokens : List Placed) (k m : ℕ) → TooLargeAt tokens k → TooLargeAt tokens m → k ≡ m
one_large tokens k m a b = same_place k m (not_large_before tokens k m a b) (not_large_before tokens m k b a) (lt_cases k m) (lt_cases m k)
