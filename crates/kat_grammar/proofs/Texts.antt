-- The tokens of a type are read whole, however its lines are laid out.
use Rattle.std.proofs.Common.{◌≡◌, Bool, true, false, List, [], ◌∷◌, ◌++◌, refl, sym, ◌∙◌, ap, subst, append_assoc, append-nil, None, Some}
use Rattle.std.specs.Prelude.{◌≢◌, if◌then◌else◌, unwrap_or}
use Rattle.kat_grammar.specs.Files.{Says, lines_from, with_line}
use Rattle.kat_grammar.specs.Marks.{is_newline}
use Rattle.kat_grammar.specs.Forms.{TypeForm}
use Rattle.kat_grammar.specs.Sizes.{Load, loads_of}
use Rattle.kat_grammar.specs.Steps.{Spot, between, end_line, finish, finished, first_spot, load_of, read_word, whole_type}
use Rattle.kat_grammar.specs.declared.marks.Placed.{Placed}
use Rattle.kat_grammar.proofs.Moving.{Follows, LineRead, Moves, moves_on, some_chosen, type_follows}
use Rattle.kat_grammar.proofs.Moving.Moves.{stays, reads}
use Rattle.kat_grammar.proofs.Moving.Follows.{none_left, a_line}

pub some_is : {A : Type 0} {a b : A} → Some a ≡ Some b → a ≡ b
some_is {a = a} e = ap (λ o. unwrap_or o a) e

-- tokens of a text lead from one spot to another, and add so much
pub data Passes : Spot → List Placed → List Load → Spot → Type 0 where
  rests : {p : Spot} → Passes p [] [] p
  reads_word : {p q u : Spot} {ts : List Placed} {ls : List Load} (t : Placed) → is_newline t.mark ≡ false → read_word p.stage p.draft t.mark t.at ≡ Some q
      → Passes q ts ls u → Passes p (t ∷ ts) (load_of q.stage q.draft ∷ ls) u
  reads_newline : {p q u : Spot} {ts : List Placed} {ls : List Load} (t : Placed) → is_newline t.mark ≡ true → end_line p.stage p.draft ≡ Some q
      → Passes q ts ls u → Passes p (t ∷ ts) ls u

-- one way only
one_move : {p q r : Spot} {ts : List Placed} {ls ms : List Load} → Moves p ts ls q → Moves p ts ms r → (ls ≡ ms) × (q ≡ r)
one_move stays stays = (refl, refl)
one_move {r = r} (reads {ts = ts} {ls = ls} t n e a) (reads {ls = ms} u m g b) =
    let same = some_is (sym g ∙ e) in
    let rest = one_move a (subst (λ s. Moves s ts ms r) same b) in
    let back = sym same in
    (λ i. load_of (back i).stage (back i).draft ∷ rest.0 i, rest.1)

moves_none : {p q : Spot} {ls : List Load} → Moves p [] ls q → (ls ≡ []) × (p ≡ q)
moves_none stays = (refl, refl)

pub record Halved (p : Spot) (ts us : List Placed) (ls : List Load) (q : Spot) : Type 0 where
  pub middle : Spot
  pub front : List Load
  pub back : List Load
  pub first : Moves p ts front middle
  pub second : Moves middle us back q
  pub is : ls ≡ front ++ back

halved : (ts us : List Placed) {p q : Spot} {ls : List Load} → Moves p (ts ++ us) ls q → Halved p ts us ls q
halved [] us {p = p} {ls = ls} a = record { middle = p; front = []; back = ls; first = stays; second = a; is = refl }
halved (t ∷ ts) us (reads {q = q} u n e a) =
    let rest = halved ts us a in
    record {
      middle = rest.middle;
      front = load_of q.stage q.draft ∷ rest.front;
      back = rest.back;
      first = reads t n e rest.first;
      second = rest.second;
      is = ap (λ l. load_of q.stage q.draft ∷ l) rest.is;
    }

record OneMove (p : Spot) (t : Placed) (ls : List Load) (q : Spot) : Type 0 where
  word : is_newline t.mark ≡ false
  goes : read_word p.stage p.draft t.mark t.at ≡ Some q
  load : ls ≡ load_of q.stage q.draft ∷ []

one_token : {p q : Spot} {t : Placed} {ls : List Load} → Moves p (t ∷ []) ls q → OneMove p t ls q
one_token (reads t n e stays) = record { word = n; goes = e; load = refl }

follows_none : {p w : Spot} {ls : List Load} → Follows p [] ls w → (ls ≡ []) × (p ≡ w)
follows_none none_left = (refl, refl)

record FirstLine (p : Spot) (line : List Placed) (lines : List (List Placed)) (ls : List Load) (w : Spot) : Type 0 where
  middle : Spot
  front : List Load
  back : List Load
  line_read : LineRead p line front middle
  between_lines : end_line middle.stage middle.draft ≡ Some middle
  rest : Follows middle lines back w
  is : ls ≡ front ++ back

follows_some : {p w : Spot} {line : List Placed} {lines : List (List Placed)} {ls : List Load} → Follows p (line ∷ lines) ls w → FirstLine p line lines ls w
follows_some (a_line {q = q} {ls = ls} {ms = ms} x b more) =
    record { middle = q; front = ls; back = ms; line_read = x; between_lines = b; rest = more; is = refl }

-- the line that has begun is the beginning of the first
record Begins (line : List Placed) (lines : List (List Placed)) : Type 0 where
  more : List Placed
  rest : List (List Placed)
  is : lines ≡ (line ++ more) ∷ rest

is_some : {A : Type 0} (xs : List A) (x : A) → xs ++ x ∷ [] ≢ []
is_some [] x = λ e. absurd cc
is_some (y ∷ xs) x = λ e. absurd cc

begins : (ts line : List Placed) → line ≢ [] → Begins line (lines_from line ts)
begins [] [] some = absurd (some refl)
begins [] (x ∷ line) some = record { more = []; rest = []; is = ap (λ l. (x ∷ l) ∷ []) (sym (append-nil line)) }
begins (t ∷ ts) [] some = absurd (some refl)
begins (t ∷ ts) (x ∷ line) some = by_mark (is_newline t.mark) (begins ts ((x ∷ line) ++ t ∷ []) (is_some (x ∷ line) t))
  where
    by_mark : (b : Bool) → Begins ((x ∷ line) ++ t ∷ []) (lines_from ((x ∷ line) ++ t ∷ []) ts)
        → Begins (x ∷ line) (if b then with_line (x ∷ line) (lines_from [] ts) else lines_from ((x ∷ line) ++ t ∷ []) ts)
    by_mark true h = record { more = []; rest = lines_from [] ts; is = ap (λ l. (x ∷ l) ∷ lines_from [] ts) (sym (append-nil line)) }
    by_mark false h = record { more = t ∷ h.more; rest = h.rest; is = h.is ∙ ap (λ l. l ∷ h.rest) (append_assoc (x ∷ line) (t ∷ []) h.more) }

-- after the line that has begun, tokens lead to the end of the text
pub record Laid (s : Spot) (tokens : List Placed) (begun ls : List Load) (w : Spot) : Type 0 where
  pub last : Spot
  pub more : List Load
  pub passes : Passes s tokens more last
  pub ends : end_line last.stage last.draft ≡ Some w
  pub is : ls ≡ begun ++ more

ended_as : {p q w : Spot} → p ≡ q → end_line p.stage p.draft ≡ Some w → end_line q.stage q.draft ≡ Some w
ended_as {w = w} e h = subst (λ (p : Spot). end_line p.stage p.draft ≡ Some w) e h

laid_end : (line : List Placed) (p s w : Spot) (begun ls : List Load) → end_line p.stage p.draft ≡ Some p → Moves p line begun s → Follows p (with_line line []) ls w → Laid s [] begun ls w
laid_end [] p s w begun ls b m f =
    let at_line = moves_none m in
    let at_end = follows_none f in
    record {
      last = s;
      more = [];
      passes = rests;
      ends = ended_as at_line.1 (b ∙ ap Some at_end.1);
      is = at_end.0 ∙ sym at_line.0 ∙ sym (append-nil begun);
    }
laid_end (x ∷ line) p s w begun ls b m f =
    let l = follows_some f in
    let last = follows_none l.rest in
    let same = one_move l.line_read.moves m in
    record {
      last = s;
      more = [];
      passes = rests;
      ends = ended_as same.1 (l.line_read.ends ∙ ap Some last.1);
      is = l.is ∙ ap (λ k. l.front ++ k) last.0 ∙ ap (λ k. k ++ []) same.0;
    }

abbrev IsLaid : List Placed → Type 0
IsLaid tokens = (line : List Placed) (p s w : Spot) (begun ls : List Load) → end_line p.stage p.draft ≡ Some p → Moves p line begun s
    → Follows p (lines_from line tokens) ls w → Laid s tokens begun ls w

laid_newline : (t : Placed) (tokens line : List Placed) (p s w : Spot) (begun ls : List Load) → IsLaid tokens → is_newline t.mark ≡ true → end_line p.stage p.draft ≡ Some p
    → Moves p line begun s → Follows p (with_line line (lines_from [] tokens)) ls w → Laid s (t ∷ tokens) begun ls w
laid_newline t tokens [] p s w begun ls laid n b m f =
    let at_line = moves_none m in
    let behind = laid [] p p w [] ls b stays f in
    record {
      last = behind.last;
      more = behind.more;
      passes = reads_newline t n (ended_as at_line.1 b) behind.passes;
      ends = behind.ends;
      is = behind.is ∙ ap (λ k. k ++ behind.more) (sym at_line.0);
    }
laid_newline t tokens (x ∷ line) p s w begun ls laid n b m f =
    let l = follows_some f in
    let same = one_move l.line_read.moves m in
    let behind = laid [] l.middle l.middle w [] l.back l.between_lines stays l.rest in
    record {
      last = behind.last;
      more = behind.more;
      passes = reads_newline t n (ended_as same.1 l.line_read.ends) behind.passes;
      ends = behind.ends;
      is = l.is ∙ ap (λ k. l.front ++ k) behind.is ∙ ap (λ k. k ++ behind.more) same.0;
    }

laid_word : (t : Placed) (tokens line : List Placed) (p s w : Spot) (begun ls : List Load) → IsLaid tokens → end_line p.stage p.draft ≡ Some p
    → Moves p line begun s → Follows p (lines_from (line ++ t ∷ []) tokens) ls w → Laid s (t ∷ tokens) begun ls w
laid_word t tokens line p s w begun ls laid b m f =
    let head = begins tokens (line ++ t ∷ []) (is_some line t) in
    let first = follows_some (subst (λ l. Follows p l ls w) head.is f) in
    let both = halved (line ++ t ∷ []) head.more first.line_read.moves in
    let parts = halved line (t ∷ []) both.first in
    let same = one_move parts.first m in
    let step_there = one_token (subst (λ q. Moves q (t ∷ []) parts.back both.middle) same.1 parts.second) in
    let load = load_of both.middle.stage both.middle.draft in
    let behind = laid (line ++ t ∷ []) p both.middle w (begun ++ load ∷ []) ls b (moves_on m (reads t step_there.word step_there.goes stays)) f in
    record {
      last = behind.last;
      more = load ∷ behind.more;
      passes = reads_word t step_there.word step_there.goes behind.passes;
      ends = behind.ends;
      is = behind.is ∙ append_assoc begun (load ∷ []) behind.more;
    }

laid_token : (t : Placed) (tokens line : List Placed) (p s w : Spot) (begun ls : List Load) → IsLaid tokens → end_line p.stage p.draft ≡ Some p
    → Moves p line begun s → (n : Bool) → is_newline t.mark ≡ n
    → Follows p (if n then with_line line (lines_from [] tokens) else lines_from (line ++ t ∷ []) tokens) ls w → Laid s (t ∷ tokens) begun ls w
laid_token t tokens line p s w begun ls laid b m true n f = laid_newline t tokens line p s w begun ls laid n b m f
laid_token t tokens line p s w begun ls laid b m false n f = laid_word t tokens line p s w begun ls laid b m f

pub laid : (tokens : List Placed) → IsLaid tokens
laid [] line p s w begun ls b m f = laid_end line p s w begun ls b m f
laid (t ∷ tokens) line p s w begun ls b m f = laid_token t tokens line p s w begun ls (laid tokens) b m (is_newline t.mark) refl f

-- the tokens of a type are read whole
pub record Whole (tokens : List Placed) (t : TypeForm) : Type 0 where
  pub last : Spot
  pub passes : Passes first_spot tokens (loads_of t) last
  pub ends : finish last ≡ Some t

type_ends : (t : TypeForm) → t.queries ≢ [] → whole_type (between t).stage (between t).draft ≡ Some t
type_ends t some = some_chosen t.queries None (Some t) some

pub complete : (tokens : List Placed) (t : TypeForm) → Says tokens t → Whole tokens t
complete tokens t says =
    let f = subst (λ l. Follows first_spot l (loads_of t) (between t)) (sym says.written) (type_follows t says.formed) in
    let l = laid tokens [] first_spot first_spot (between t) [] (loads_of t) refl stays f in
    record {
      last = l.last;
      passes = subst (λ ls. Passes first_spot tokens ls l.last) (sym l.is) l.passes;
      ends = ap finished l.ends ∙ type_ends t says.formed.some_query;
    }

-- two ways of one text are one
pub one_pass : {p q r : Spot} {ts : List Placed} {ls ms : List Load} → Passes p ts ls q → Passes p ts ms r → (ls ≡ ms) × (q ≡ r)
one_pass rests rests = (refl, refl)
one_pass {r = r} (reads_word {ts = ts} t n e a) (reads_word {ls = ms} u m g b) =
    let same = some_is (sym g ∙ e) in
    let rest = one_pass a (subst (λ s. Passes s ts ms r) same b) in
    let back = sym same in
    (λ i. load_of (back i).stage (back i).draft ∷ rest.0 i, rest.1)
one_pass {r = r} {ms = ms} (reads_newline {ts = ts} t n e a) (reads_newline u m g b) =
    let same = some_is (sym g ∙ e) in
    one_pass a (subst (λ s. Passes s ts ms r) same b)
one_pass (reads_word t n e a) (reads_newline u m g b) = absurd (apart n m)
  where
    apart : {b : Bool} → b ≡ false → b ≡ true → ⊥
    apart e f = absurd cc
one_pass (reads_newline t n e a) (reads_word u m g b) = absurd (apart m n)
  where
    apart : {b : Bool} → b ≡ false → b ≡ true → ⊥
    apart e f = absurd cc

-- a way through a text, up to a place and on from there
pub record Parted (p : Spot) (ts us : List Placed) (ls : List Load) (q : Spot) : Type 0 where
  pub middle : Spot
  pub front : List Load
  pub back : List Load
  pub first : Passes p ts front middle
  pub second : Passes middle us back q
  pub is : ls ≡ front ++ back

pub parted : (ts us : List Placed) {p q : Spot} {ls : List Load} → Passes p (ts ++ us) ls q → Parted p ts us ls q
parted [] us {p = p} {ls = ls} a = record { middle = p; front = []; back = ls; first = rests; second = a; is = refl }
parted (t ∷ ts) us (reads_word {q = q} u n e a) =
    let rest = parted ts us a in
    record {
      middle = rest.middle;
      front = load_of q.stage q.draft ∷ rest.front;
      back = rest.back;
      first = reads_word t n e rest.first;
      second = rest.second;
      is = ap (λ l. load_of q.stage q.draft ∷ l) rest.is;
    }
parted (t ∷ ts) us (reads_newline u n e a) =
    let rest = parted ts us a in
    record { middle = rest.middle; front = rest.front; back = rest.back; first = reads_newline t n e rest.first; second = rest.second; is = rest.is }

pub passes_on : {p q u : Spot} {ts us : List Placed} {ls ms : List Load} → Passes p ts ls q → Passes q us ms u → Passes p (ts ++ us) (ls ++ ms) u
passes_on rests b = b
passes_on (reads_word t n e a) b = reads_word t n e (passes_on a b)
passes_on (reads_newline t n e a) b = reads_newline t n e (passes_on a b)
