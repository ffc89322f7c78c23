-- How far a listing has come, step by step, and where its marks are.
use Rattle.std.proofs.Common.{◌≡◌, ◌≢◌, ℕ, zero, suc, ◌+◌, ◌-◌, ◌<◌, ◌≤◌, true, false, Bool, List, [], ◌∷◌, ◌++◌, map, drop, take, length, get_or, refl, sym, ◌∙◌, ap, subst, arith, Option, None, Some, Result, Ok, Err}
use Rattle.std.specs.Prelude.{IfOk, IsSome, is_some, option_map, slice_get}
use Rattle.std.proofs.lemmas.List.{length-map, length-take, take-append-drop}
use Rattle.std.proofs.lemmas.Option.{slice_get_read, slice_get_within}
use Rattle.kat_design.specs.Designs.{DesignForm, design_form}
use Rattle.kat_design.specs.declared.designs.Design.{Design}
use Rattle.kat_gram.specs.Courses.{AreAlike, AreMarksOf, HasPassed, IsLastOf, IsMarkOf, IsOnCourse, IsSound, IsSoundAt, Noted, machine_at, stream_on, words_in}
use Rattle.kat_decoding.specs.Decoded.{decoded, is_listed_word}
use Rattle.kat_gram.specs.Enumerations.{Enumerated, IsFound, left_of, most_of, of_this_size, passed, stream_in, stream_of, with_found, words_behind}
use Rattle.kat_gram.specs.Listings.{GivesNext, IsLast, Stream, designs_of, given_of, last_number, numbered, to_come, with_next}
use Rattle.kat_decoding.specs.Words.{listing_start, listing_words, longest}
use Rattle.kat_gram.specs.declared.courses.Course.{Course}
use Rattle.kat_gram.specs.declared.courses.Mark.{Mark}
use Rattle.kat_gram.specs.declared.enumerating.Enumeration.{Enumeration}
use Rattle.kat_rules.proofs.Ranked.{list_itself, one_list}
use Rattle.kat_rules.specs.Tests.{is_same_list}
use Rattle.kat_rules.specs.declared.constants.Setting.{Setting}
use Rattle.kat_rules.specs.declared.tokens.Token.{Token}
use Rattle.kat_walk.proofs.MarkLemmas.{taken_open}
use Rattle.kat_walk.specs.Machines.{Held, coming, words}
use Rattle.kat_walk.specs.Marks.{AreOpen, EndsTaken, IsMark, KeepsOpen, counts_left}
use Rattle.kat_walk.specs.Walks.{Pending}
use Rattle.kat_walk.specs.Walks as walks
use Rattle.kat_gram.proofs.EnumerationSteps.{passed_on}
use Rattle.kat_gram.proofs.Passing.{at_more, front_more, none_left, none_next, numbered_at, rest_more, some_behind, some_next, some_same, within_more}

-- the walk over a size, at its beginning
pub start_open : (x : Setting) (n : ℕ) (start : Noted) → start ≡ listing_start n → (machine_at x n).done start ≡ false
start_open x n start e = ap (λ (s : Noted). (machine_at x n).done s) e

pub walk_all : (x : Setting) (n most : ℕ) (start : Noted) (lists : List (List Token)) → lists ≡ words (machine_at x n) most start → most ≡ longest n → start ≡ listing_start n
    → lists ≡ listing_words x (is_listed_word x n) n
walk_all x n most start lists e long at =
    e ∙ ap (λ (k : ℕ). words (machine_at x n) k start) long ∙ ap (λ (s : Noted). words (machine_at x n) (longest n) s) at

pub walk_places : (x : Setting) (n : ℕ) (start : Noted) (stack : List (Held Noted Token)) → start ≡ listing_start n → AreOpen (machine_at x n) start stack → AreOpen (machine_at x n) (listing_start n) stack
walk_places x n start stack e a = subst (λ (s : Noted). AreOpen (machine_at x n) s stack) e a

-- where the walk is
pub sound_open : (x : Setting) (n : ℕ) (found : Option (List Token)) (walk : Pending Noted Token) → walk.most ≡ longest n → AreOpen (machine_at x n) (listing_start n) walk.stack → found ≡ None
    → IsSoundAt x n found walk
sound_open x n None walk most there e = record { most = most; places = there }
sound_open x n (Some w) walk most there e = absurd (cc e)

open_sound : (x : Setting) (n : ℕ) (found : Option (List Token)) (walk : Pending Noted Token) → IsSoundAt x n found walk → AreOpen (machine_at x n) (listing_start n) walk.stack
open_sound x n None walk s = s.places
open_sound x n (Some w) walk s = taken_open (machine_at x n) (listing_start n) walk.stack s.places

pub sound_kept : (x : Setting) (n : ℕ) (found : Option (List Token)) (old new : Pending Noted Token) → found ≡ None → KeepsOpen (machine_at x n) old.stack new.stack → new.most ≡ old.most
    → IsSoundAt x n found old → IsSoundAt x n found new
sound_kept x n found old new e keeps most s = sound_open x n found new (most ∙ s.most) (keeps (listing_start n) (open_sound x n found old s)) e

pub sound_found : (x : Setting) (n : ℕ) (found : Option (List Token)) (w : List Token) (old new : Pending Noted Token) → EndsTaken (machine_at x n) old.stack new.stack → new.most ≡ old.most
    → IsSoundAt x n found old → IsSoundAt x n (Some w) new
sound_found x n found w old new ends most s = record { most = most ∙ s.most; places = ends (listing_start n) (open_sound x n found old s) }

pub sound_back : (x : Setting) (n m : ℕ) (found : Option (List Token)) (walk : Pending Noted Token) → m ≡ n → IsSoundAt x n found walk → IsSoundAt x m found walk
sound_back x n m found walk e s = subst (λ (k : ℕ). IsSoundAt x k found walk) (sym e) s

-- at the beginning nothing is passed
pub passed_none : (x : Setting) (h : Enumeration) (most : ℕ) → stream_in h ≡ stream_of x most (words_behind x 0 most) → h.search.setting ≡ x → most_of h ≡ most → IsSound h → HasPassed h 0
passed_none x h most e same long sound = record {
  sound = sound;
  left = ap (λ (g : Enumerated). g.left) e ∙ sym (ap (λ (y : Setting). words_behind y 0 (most_of h)) same ∙ ap (words_behind x 0) long);
  within = omega arith;
}

pub no_marks : (x : Setting) (most : ℕ) (marks : List Mark) → marks ≡ [] → AreMarksOf x most marks
no_marks x most marks e = λ place mark got. absurd (none place mark (ap (λ l. slice_get l place) (sym e) ∙ got)) where
  none : (place : ℕ) (mark : Mark) → slice_get [] place ≡ Some mark → ⊥
  none place mark g = cc g

-- a list was found, and nothing else changed
pub passed_same : (old new : Enumeration) (n : ℕ) → stream_in new ≡ stream_in old → (IsSound old → IsSound new) → HasPassed old n → HasPassed new n
passed_same old new n e sound p =
    let all : words_in new ≡ words_in old = ap (λ (g : Enumerated). g.words) e in
    record {
      sound = sound p.sound;
      left = ap (λ (g : Enumerated). g.left) e ∙ p.left ∙ ap (drop n) (sym all);
      within = subst (λ (l : List (List Token)). n ≤ length l) (sym all) p.within;
    }

-- what is left, if a list was found
abbrev rest_of : Enumeration → List (List Token)
rest_of h = of_this_size h ++ words_behind h.search.setting h.search.size (most_of h - h.search.size)

-- the mark after it
mark_from : (x : Setting) (n most number before : ℕ) (places : List ℕ) (w : List Token) (walk : Pending Noted Token) → IsSoundAt x n (Some w) walk → places ≡ counts_left walk.stack
    → number ≡ before + 1 → w ∷ (walks.to_come (machine_at x n) walk ++ words_behind x n (most - n)) ≡ drop before (words_behind x 0 most)
    → IsMarkOf x most (record { number = number; size = n; places = places })
mark_from x n most number before places w walk s counts k e = record {
  stack = walk.stack;
  stands = record { taken = s.places; counts = counts };
  left = ap (λ (m : ℕ). coming (machine_at x n) m walk.stack ++ words_behind x n (most - n)) (sym s.most)
      ∙ sym (rest_more before (words_behind x 0 most) (walks.to_come (machine_at x n) walk ++ words_behind x n (most - n)) w (sym e))
      ∙ ap (λ (i : ℕ). drop i (words_behind x 0 most)) (sym k);
}

pub mark_is : (h : Enumeration) (number : ℕ) (places : List ℕ) → IsSome h.found → ((before : ℕ) × (number ≡ before + 1) × HasPassed h before) → places ≡ counts_left h.walk.stack
    → IsMarkOf h.search.setting (most_of h) (record { number = number; size = h.search.size; places = places })
mark_is h number places some p counts = by_found h.found some p.2.sound p.2.left where
  by_found : (found : Option (List Token)) → IsSome found → IsSoundAt h.search.setting h.search.size found h.walk → with_found found (rest_of h) ≡ drop p.0 (words_in h)
      → IsMarkOf h.search.setting (most_of h) (record { number = number; size = h.search.size; places = places })
  by_found None i s e = absurd (cc i)
  by_found (Some w) i s e = mark_from h.search.setting h.search.size (most_of h) number p.0 places w h.walk s counts p.1 e

-- the list that was found is passed
pub passed_found : (h : Enumeration) (before number : ℕ) → IsSome h.found → number ≡ before + 1 → HasPassed h before
    → HasPassed (record { search = h.search; beyond = h.beyond; walk = h.walk; found = None }) number
passed_found h before number some k p = by_found h.found some p.sound p.left where
  by_found : (found : Option (List Token)) → IsSome found → IsSoundAt h.search.setting h.search.size found h.walk → with_found found (rest_of h) ≡ drop before (words_in h)
      → HasPassed (record { search = h.search; beyond = h.beyond; walk = h.walk; found = None }) number
  by_found None i s e = absurd (cc i)
  by_found (Some w) i s e = record {
    sound = record { most = s.most; places = taken_open (machine_at h.search.setting h.search.size) (listing_start h.search.size) h.walk.stack s.places };
    left = sym (rest_more before (words_in h) (rest_of h) w (sym e)) ∙ ap (λ (i : ℕ). drop i (words_in h)) (sym k);
    within = let l = within_more before (words_in h) (rest_of h) w (sym e) in omega (arith, l, k);
  }

-- one more mark
pub marks_more : (x : Setting) (most : ℕ) (old new : List Mark) (mark : Mark) → AreMarksOf x most old → IsMarkOf x most mark → new ≡ old ++ mark ∷ [] → AreMarksOf x most new
marks_more x most old new mark are is e = subst (λ (l : List Mark). AreMarksOf x most l) (sym e) (λ place one got. among old place are got) where
  among : (l : List Mark) (place : ℕ) {one : Mark} → AreMarksOf x most l → slice_get (l ++ mark ∷ []) place ≡ Some one → IsMarkOf x most one
  among [] zero all got = subst (λ (m : Mark). IsMarkOf x most m) (some_same got) is
  among [] (suc place) all got = absurd (cc got)
  among (m ∷ l) zero all got = all 0 _ got
  among (m ∷ l) (suc place) all got = among l place (λ i o g. all (suc i) o g) got

-- a mark is gone on from
pub from_mark : (x : Setting) (most : ℕ) (mark : Mark) (h : Enumeration) (start : Noted) (long : ℕ) (places : List ℕ) → IsMarkOf x most mark → start ≡ listing_start mark.size → long ≡ longest mark.size
    → places ≡ mark.places → ((stack : List (Held Noted Token)) → IsMark (machine_at x mark.size) start places stack → h.walk.stack ≡ stack) → h.walk.most ≡ long → h.search.setting ≡ x → h.search.size ≡ mark.size
    → most_of h ≡ most → h.found ≡ None → stream_in h ≡ passed mark.number (stream_of x most (words_behind x 0 most))
from_mark x most mark h start long places is at length_is counts stands most_is setting size beyond found =
    let stack : h.walk.stack ≡ is.stack = stands is.stack (subst (λ (l : List ℕ). IsMark (machine_at x mark.size) start l is.stack) (sym counts)
    (subst (λ (s : Noted). IsMark (machine_at x mark.size) s mark.places is.stack) (sym at) is.stands)) in
    let here : of_this_size h ≡ coming (machine_at x mark.size) (longest mark.size) is.stack =
    ap (λ (y : Setting). walks.to_come (machine_at y h.search.size) h.walk) setting ∙ ap (λ (n : ℕ). walks.to_come (machine_at x n) h.walk) size
    ∙ ap (λ (m : ℕ). coming (machine_at x mark.size) m h.walk.stack) (most_is ∙ length_is) ∙ ap (coming (machine_at x mark.size) (longest mark.size)) stack in
    let behind : words_behind h.search.setting h.search.size (most_of h - h.search.size) ≡ words_behind x mark.size (most - mark.size) =
    ap (λ (y : Setting). words_behind y h.search.size (most_of h - h.search.size)) setting ∙ ap (λ (n : ℕ). words_behind x n (most_of h - n)) size
    ∙ ap (λ (m : ℕ). words_behind x mark.size (m - mark.size)) beyond in
    let left : left_of h ≡ drop mark.number (words_behind x 0 most) =
    ap (λ (f : Option (List Token)). with_found f (rest_of h)) found ∙ ap (λ (l : List (List Token)). l ++ words_behind h.search.setting h.search.size (most_of h - h.search.size)) here
    ∙ ap (λ (l : List (List Token)). coming (machine_at x mark.size) (longest mark.size) is.stack ++ l) behind ∙ is.left in
    let words : words_in h ≡ words_behind x 0 most = ap (λ (y : Setting). words_behind y 0 (most_of h)) setting ∙ ap (words_behind x 0) beyond in
    λ i. record { setting = setting i; words = words i; left = left i }

pub passed_from : {E : Type 0} (x y : Setting) (most number : ℕ) (old : Enumerated) (r : Result Enumeration E) → IfOk r (λ (h : Enumeration). stream_in h ≡ passed number old)
    → old ≡ stream_of x most (words_behind x 0 most) → x ≡ y → IfOk r (λ (h : Enumeration). stream_in h ≡ passed number (stream_of y most (words_behind y 0 most)))
passed_from x y most number old (Ok h) e start same = e ∙ ap (passed number) (start ∙ ap (λ (z : Setting). stream_of z most (words_behind z 0 most)) same)
passed_from x y most number old (Err error) e start same = tt

pub passed_from_mark : {E : Type 0} (x y : Setting) (most number k : ℕ) (old : Enumerated) (r : Result Enumeration E) → IfOk r (λ (h : Enumeration). stream_in h ≡ passed (number - k) old) → k ≤ number
    → old ≡ passed k (stream_of x most (words_behind x 0 most)) → x ≡ y → IfOk r (λ (h : Enumeration). stream_in h ≡ passed number (stream_of y most (words_behind y 0 most)))
passed_from_mark x y most number k old (Ok h) e le start same =
    let n : k + (number - k) ≡ number = omega (arith, le) in
    e ∙ ap (passed (number - k)) (start ∙ ap (λ (z : Setting). passed k (stream_of z most (words_behind z 0 most))) same)
    ∙ passed_on (number - k) k (stream_of y most (words_behind y 0 most)) ∙ ap (λ (i : ℕ). passed i (stream_of y most (words_behind y 0 most))) n
passed_from_mark x y most number k old (Err error) e le start same = tt

-- a list is sought among the first ones
abbrev pub NotPassed : Enumeration → ℕ → List Token → Type 0
NotPassed h number w = (place : ℕ) → place < number → slice_get (words_in h) place ≢ Some w

pub not_any : (h : Enumeration) (number : ℕ) (w : List Token) → HasPassed h number → h.found ≡ None → IsFound h.found (left_of h) → NotPassed h number w → (place : ℕ) → place < last_number
    → slice_get (words_in h) place ≢ Some w
not_any h number w p none found before place lt got =
    let past = none_left number (words_in h) (sym p.left ∙ by_found h.found none found) in
    let there = slice_get_within (words_in h) place w got in
    before place (omega (arith, past, there)) got where
      by_found : (found : Option (List Token)) → found ≡ None → IsFound found (left_of h) → left_of h ≡ []
      by_found None e f = f
      by_found (Some v) e f = absurd (cc e)

-- the list that was found is the one that was sought, or it isn't
found_left : (h : Enumeration) (n : ℕ) (list : List Token) → h.found ≡ Some list → HasPassed h n → drop n (words_in h) ≡ list ∷ rest_of h
found_left h n list e p = sym p.left ∙ ap (λ (f : Option (List Token)). with_found f (rest_of h)) e

pub gone_through : (h : Enumeration) (before number : ℕ) (list w : List Token) (words : List (List Token)) (b : Bool) → h.found ≡ Some list → HasPassed h before → number ≡ before + 1 → words ≡ words_in h
    → b ≡ is_same_list list w → b ≡ true → IsLast (Some w) (take number words)
gone_through h before number list w words b e p k all is told =
    let same : list ≡ w = one_list list w (sym is ∙ told) in (
      take before words,
      ap (take number) all ∙ ap (λ (i : ℕ). take i (words_in h)) k ∙ front_more before (words_in h) (rest_of h) list (found_left h before list e p)
          ∙ ap (λ (l : List (List Token)). take before l ++ list ∷ []) (sym all) ∙ ap (λ (v : List Token). take before words ++ v ∷ []) same,
    )

pub not_more : (h new : Enumeration) (before number : ℕ) (list w : List Token) (b : Bool) → h.found ≡ Some list → HasPassed h before → number ≡ before + 1 → words_in new ≡ words_in h
    → b ≡ is_same_list list w → b ≡ false → NotPassed h before w → NotPassed new number w
not_more h new before number list w b e p k all is told earlier place lt got =
    let there : slice_get (words_in h) place ≡ Some w = ap (λ (l : List (List Token)). slice_get l place) (sym all) ∙ got in
    at_place (before - place) (omega (arith, lt, k)) there where
      other : list ≡ w → ⊥
      other same = clash b (is ∙ ap (λ (v : List Token). is_same_list v w) same ∙ list_itself w) told where
        clash : (t : Bool) → t ≡ true → t ≡ false → ⊥
        clash true i j = cc j
        clash false i j = cc i

      at_place : (d : ℕ) → before ≡ place + d → slice_get (words_in h) place ≡ Some w → ⊥
      at_place zero same there =
          let here : before ≡ place = omega (arith, same) in
          other (some_same (sym (at_more before (words_in h) (rest_of h) list (found_left h before list e p)) ∙ ap (slice_get (words_in h)) here ∙ there))
      at_place (suc d) more there = earlier place (omega (arith, more)) there

-- the design of the list that was found
pub none_found : (h : Enumeration) (f : List Token → DesignForm) → h.found ≡ None → IsFound h.found (left_of h) → None ≡ slice_get (map f (left_of h)) 0
none_found h f none found = by_found h.found none found where
  by_found : (o : Option (List Token)) → o ≡ None → IsFound o (left_of h) → None ≡ slice_get (map f (left_of h)) 0
  by_found None e l = ap (λ (ws : List (List Token)). slice_get (map f ws) 0) (sym l)
  by_found (Some v) e l = absurd (cc e)

pub some_found : (h : Enumeration) (f : List Token → DesignForm) (list : List Token) (d : DesignForm) → h.found ≡ Some list → d ≡ f list → Some d ≡ slice_get (map f (left_of h)) 0
some_found h f list d is e =
    ap (λ (x : DesignForm). Some x) e ∙ ap (λ (o : Option (List Token)). slice_get (map f (with_found o (rest_of h))) 0) (sym is)

-- an enumeration of the same designs
pub alike_on : (a b c : Enumeration) → AreAlike a b → AreAlike b c → AreAlike a c
alike_on a b c first second = record { setting = second.setting ∙ first.setting; beyond = second.beyond ∙ first.beyond }

-- a mark of a course
pub mark_there : (marks : List Mark) (place : ℕ) (mark : Mark) → place < length marks → mark ≡ get_or marks place mark → (i : ℕ) × (slice_get marks i ≡ Some mark)
mark_there marks place mark lt e = (place, slice_get_read marks (length marks) place mark refl lt e)

pub mark_for : (course : Course) (x : Setting) (most : ℕ) (mark : Mark) → IsOnCourse course → ((place : ℕ) × (slice_get course.marks.items place ≡ Some mark)) → x ≡ course.enumeration.search.setting
    → most ≡ most_of course.enumeration → IsMarkOf x most mark
mark_for course x most mark on there same long =
    subst (λ (y : Setting). IsMarkOf y most mark) (sym same) (subst (λ (k : ℕ). IsMarkOf course.enumeration.search.setting k mark) (sym long) (on.marks there.0 mark there.1))

pub mark_stack : (x : Setting) (most : ℕ) (mark : Mark) (start : Noted) (places : List ℕ) → IsMarkOf x most mark → start ≡ listing_start mark.size → places ≡ mark.places
    → (stack : List (Held Noted Token)) × IsMark (machine_at x mark.size) start places stack
mark_stack x most mark start places is at counts = (
  is.stack,
  subst (λ (l : List ℕ). IsMark (machine_at x mark.size) start l is.stack) (sym counts) (subst (λ (s : Noted). IsMark (machine_at x mark.size) s mark.places is.stack) (sym at) is.stands),
)

-- the design with a number
pub at_number : {E : Type 0} (course : Course) (value : Stream) (h : Enumeration) (number : ℕ) (r : Result (Option Design) E) → 1 ≤ number
    → stream_in h ≡ passed (number - 1) (stream_of course.enumeration.search.setting (most_of course.enumeration) (words_in course.enumeration)) → stream_on course ≡ value
    → IfOk r (λ (next : Option Design). option_map design_form next ≡ slice_get (map (decoded h.search.setting) (left_of h)) 0)
    → IfOk r (λ (next : Option Design). option_map design_form next ≡ numbered number (designs_of value))
at_number course value h number (Ok next) some is view given =
    let x = course.enumeration.search.setting in
    let words = words_in course.enumeration in
    let setting : h.search.setting ≡ x = ap (λ (g : Enumerated). g.setting) is in
    let left : left_of h ≡ drop (number - 1) words = ap (λ (g : Enumerated). g.left) is in
    let k : number ≡ number - 1 + 1 = omega (arith, some) in
    let all : map (decoded x) words ≡ designs_of value =
    ap (map (decoded x)) (sym (take-append-drop course.number words)) ∙ ap designs_of view in
    numbered_at (decoded h.search.setting) number (number - 1) words (left_of h) (option_map design_form next) given left k
    ∙ ap (λ (y : Setting). numbered number (map (decoded y) words)) setting ∙ ap (numbered number) all
at_number course value h number (Err e) some is view given = tt

-- what contracts see stays the same
pub words_alike : (old new : Enumeration) → AreAlike old new → words_in new ≡ words_in old
words_alike old new a = ap (λ (x : Setting). words_behind x 0 (most_of new)) a.setting ∙ ap (λ (b : ℕ). words_behind old.search.setting 0 (b + 1)) a.beyond

pub not_before : (old new : Enumeration) (number : ℕ) (w : List Token) → AreAlike old new → NotPassed old number w → NotPassed new number w
not_before old new number w a earlier place lt got = earlier place lt (ap (λ (l : List (List Token)). slice_get l place) (sym (words_alike old new a)) ∙ got)

pub stream_alike : (old new : Course) → AreAlike old.enumeration new.enumeration → new.number ≡ old.number → stream_on new ≡ stream_on old
stream_alike old new a k =
    let setting = a.setting in
    let words = words_alike old.enumeration new.enumeration a in
    let given : take new.number (words_in new.enumeration) ≡ take old.number (words_in old.enumeration) = ap (λ (n : ℕ). take n (words_in new.enumeration)) k ∙ ap (take old.number) words in
    let left : drop new.number (words_in new.enumeration) ≡ drop old.number (words_in old.enumeration) = ap (λ (n : ℕ). drop n (words_in new.enumeration)) k ∙ ap (drop old.number) words in
    λ i. record { setting = setting i; given = given i; left = left i }

pub last_alike : (old new : Course) (last : Option Design) → AreAlike old.enumeration new.enumeration → new.number ≡ old.number → IsLastOf old last → IsLastOf new last
last_alike old new last a k is =
    subst (λ (g : Stream). IsLast (option_map design_form last) (given_of g)) (sym (stream_alike old new a k)) is

pub after_find : (course : Course) (h : Enumeration) → stream_in h ≡ stream_in course.enumeration → (IsSound course.enumeration → IsSound h) → AreAlike course.enumeration h → IsOnCourse course
    → IsOnCourse (record { enumeration = h; number = course.number; marks = course.marks })
after_find course h same sound a on = record {
  at = passed_same course.enumeration h course.number same sound on.at;
  marks =
      subst (λ (x : Setting). AreMarksOf x (most_of h) course.marks.items) (sym a.setting)
      (subst (λ (b : ℕ). AreMarksOf course.enumeration.search.setting (b + 1) course.marks.items) (sym a.beyond) on.marks);
}

-- the next design is given
record IsNext (old new : Course) (next : Option DesignForm) : Type 0 where
  pub given : GivesNext (to_come (stream_on old)) (to_come (stream_on new)) next
  pub behind : given_of (stream_on new) ≡ with_next (given_of (stream_on old)) next

next_from : (mid new : Course) (next : Option DesignForm) → HasPassed mid.enumeration mid.number → next ≡ slice_get (map (decoded mid.enumeration.search.setting) (left_of mid.enumeration)) 0
    → AreAlike mid.enumeration new.enumeration → new.number ≡ mid.number + 1 → is_some next ≡ true → IsNext mid new next
next_from mid new None p e a k some = absurd (cc some)
next_from mid new (Some d) p e a k some =
    let f = decoded mid.enumeration.search.setting in
    let words = words_in mid.enumeration in
    let same : words_in new.enumeration ≡ words = words_alike mid.enumeration new.enumeration a in
    let left : map (decoded new.enumeration.search.setting) (drop new.number (words_in new.enumeration)) ≡ map f (drop new.number words) =
    ap (λ (x : Setting). map (decoded x) (drop new.number (words_in new.enumeration))) a.setting ∙ ap (λ (l : List (List Token)). map f (drop new.number l)) same in
    let front : map (decoded new.enumeration.search.setting) (take new.number (words_in new.enumeration)) ≡ map f (take new.number words) =
    ap (λ (x : Setting). map (decoded x) (take new.number (words_in new.enumeration))) a.setting ∙ ap (λ (l : List (List Token)). map f (take new.number l)) same in
    record {
      given = some_next f mid.number new.number words (left_of mid.enumeration) d e p.left k ∙ ap (λ (l : List DesignForm). d ∷ l) (sym left);
      behind = front ∙ some_behind f mid.number new.number words (left_of mid.enumeration) d e p.left k;
    }

pub next_given : (old mid new : Course) (value : Stream) (next : Option DesignForm) → stream_on old ≡ value → AreAlike old.enumeration mid.enumeration → mid.number ≡ old.number
    → HasPassed mid.enumeration mid.number → next ≡ slice_get (map (decoded mid.enumeration.search.setting) (left_of mid.enumeration)) 0 → AreAlike mid.enumeration new.enumeration
    → new.number ≡ mid.number + 1 → is_some next ≡ true
    → GivesNext (to_come value) (to_come (stream_on new)) next × (given_of (stream_on new) ≡ with_next (given_of value) next)
next_given old mid new value next view a k p e b l some =
    let n = next_from mid new next p e b l some in
    let same : stream_on mid ≡ value = stream_alike old mid a k ∙ view in
    subst (λ (g : Stream). GivesNext (to_come g) (to_come (stream_on new)) next × (given_of (stream_on new) ≡ with_next (given_of g) next)) same (n.given, n.behind)

pub next_none : (old mid : Course) (value : Stream) (next : Option DesignForm) → stream_on old ≡ value → AreAlike old.enumeration mid.enumeration → mid.number ≡ old.number
    → HasPassed mid.enumeration mid.number → next ≡ slice_get (map (decoded mid.enumeration.search.setting) (left_of mid.enumeration)) 0 → is_some next ≡ false
    → GivesNext (to_come value) (to_come (stream_on mid)) next × (given_of (stream_on mid) ≡ with_next (given_of value) next)
next_none old mid value (Some d) view a k p e none = absurd (cc none)
next_none old mid value None view a k p e none =
    let same : stream_on mid ≡ value = stream_alike old mid a k ∙ view in
    let gives : GivesNext (to_come (stream_on mid)) (to_come (stream_on mid)) None =
    none_next (decoded mid.enumeration.search.setting) mid.number (words_in mid.enumeration) (left_of mid.enumeration) None e p.left refl in
    (subst (λ (g : Stream). GivesNext (to_come g) (to_come (stream_on mid)) None) same gives, ap given_of same)

pub mapped_some : (o : Option Design) → is_some (option_map design_form o) ≡ is_some o
mapped_some None = refl
mapped_some (Some d) = refl

-- the last one given
last_from : (xs ys : List DesignForm) (next : Option DesignForm) → ys ≡ with_next xs next → is_some next ≡ true → IsLast next ys
last_from xs ys None e some = absurd (cc some)
last_from xs ys (Some d) e some = (xs, e)

pub last_given : (old mid new : Course) (value : Stream) (next last : Option Design) → stream_on old ≡ value → AreAlike old.enumeration mid.enumeration → mid.number ≡ old.number
    → HasPassed mid.enumeration mid.number → option_map design_form last ≡ slice_get (map (decoded mid.enumeration.search.setting) (left_of mid.enumeration)) 0
    → is_some (option_map design_form last) ≡ true → AreAlike mid.enumeration new.enumeration → new.number ≡ mid.number + 1 → IsLastOf new last
last_given old mid new value next last view a k p e some b l =
    let n = next_given old mid new value (option_map design_form last) view a k p e b l some in
    last_from (given_of value) (given_of (stream_on new)) (option_map design_form last) n.1 some

-- all designs stay the same
pub whole_same : (old new : Course) (value : Stream) → stream_on old ≡ value → AreAlike old.enumeration new.enumeration → designs_of (stream_on new) ≡ designs_of value
whole_same old new value view a =
    ap (map (decoded new.enumeration.search.setting)) (take-append-drop new.number (words_in new.enumeration))
    ∙ ap (λ (x : Setting). map (decoded x) (words_in new.enumeration)) a.setting ∙ ap (map (decoded old.enumeration.search.setting)) (words_alike old.enumeration new.enumeration a)
    ∙ sym (ap (map (decoded old.enumeration.search.setting)) (take-append-drop old.number (words_in old.enumeration))) ∙ ap designs_of view

-- how many were given
given_long : (course : Course) → HasPassed course.enumeration course.number → length (given_of (stream_on course)) ≡ course.number
given_long course p =
    length-map (take course.number (words_in course.enumeration)) (decoded course.enumeration.search.setting)
    ∙ (let l = length-take course.number (words_in course.enumeration) in let w = p.within in omega (arith, l, w))

pub count_is : (course : Course) (value : Stream) → stream_on course ≡ value → IsOnCourse course → course.number ≡ length (given_of value)
count_is course value view on = sym (given_long course on.at) ∙ ap (λ (g : Stream). length (given_of g)) view

pub few_more : (old new : Course) (value : Stream) → stream_on old ≡ value → IsOnCourse old → new.number ≤ old.number + 1 → length (given_of (stream_on new)) ≤ length (given_of value) + 1
few_more old new value view on le =
    let a = count_is old value view on in
    let m = length-map (take new.number (words_in new.enumeration)) (decoded new.enumeration.search.setting) in
    let t = length-take new.number (words_in new.enumeration) in
    omega (arith, a, m, t, le)

-- a listing of which nothing was given
pub record Stays (new : Course) (one : Option Design) (value : Stream) : Type 0 where
  pub on : IsOnCourse new
  pub last : IsLastOf new one
  pub same : stream_on new ≡ value
  pub few : length (given_of (stream_on new)) ≤ length (given_of value) + 1
  pub whole : designs_of (stream_on new) ≡ designs_of value

stays : (old new : Course) (last : Option Design) (value : Stream) → stream_on old ≡ value → IsOnCourse old → IsLastOf old last → AreAlike old.enumeration new.enumeration → new.number ≡ old.number
    → IsOnCourse new → Stays new last value
stays old new last value view on is a k also = record {
  on = also;
  last = last_alike old new last a k is;
  same = stream_alike old new a k ∙ view;
  few = few_more old new value view on (omega (arith, k));
  whole = whole_same old new value view a;
}

abbrev found_in : Course → Enumeration → Course
found_in course h = record { enumeration = h; number = course.number; marks = course.marks }

pub found_stays : (course : Course) (last : Option Design) (value : Stream) (h : Enumeration) → stream_on course ≡ value → (IsOnCourse course × IsLastOf course last)
    → stream_in h ≡ stream_in course.enumeration → (IsSound course.enumeration → IsSound h) → AreAlike course.enumeration h → Stays (record { enumeration = h; number = course.number; marks = course.marks }) last value
found_stays course last value h view inv same sound a =
    stays course (found_in course h) last value view inv.0 inv.1 a refl (after_find course h same sound a inv.0)

pub passing_stays : (course new : Course) (last : Option Design) (value : Stream) (h : Enumeration) → stream_on course ≡ value → (IsOnCourse course × IsLastOf course last)
    → AreAlike course.enumeration h → IsOnCourse new → AreAlike h new.enumeration → new.number ≡ course.number → Stays new last value
passing_stays course new last value h view inv a on b k = stays course new last value view inv.0 inv.1 (alike_on course.enumeration h new.enumeration a b) k on

-- a listing of which a design was given
pub record Gives (new : Course) (next one : Option Design) (value : Stream) : Type 0 where
  pub last : IsLastOf new one
  pub given : GivesNext (to_come value) (to_come (stream_on new)) (option_map design_form next)
  pub behind : given_of (stream_on new) ≡ with_next (given_of value) (option_map design_form next)
  pub few : length (given_of (stream_on new)) ≤ length (given_of value) + 1
  pub whole : designs_of (stream_on new) ≡ designs_of value

pub passing_gives : (course new : Course) (next last : Option Design) (value : Stream) (h : Enumeration) → stream_on course ≡ value → IsOnCourse course
    → stream_in h ≡ stream_in course.enumeration → (IsSound course.enumeration → IsSound h) → AreAlike course.enumeration h → AreAlike h new.enumeration → new.number ≡ course.number + 1
    → option_map design_form next ≡ slice_get (map (decoded h.search.setting) (left_of h)) 0 → option_map design_form last ≡ slice_get (map (decoded h.search.setting) (left_of h)) 0
    → is_some next ≡ true → is_some last ≡ true → Gives new next last value
passing_gives course new next last value h view on same sound a b k e f some also =
    let mid = found_in course h in
    let p : HasPassed h course.number = passed_same course.enumeration h course.number same sound on.at in
    let n = next_given course mid new value (option_map design_form next) view a refl p e b k (mapped_some next ∙ some) in
    record {
      last = last_given course mid new value next last view a refl p f (mapped_some last ∙ also) b k;
      given = n.0;
      behind = n.1;
      few = few_more course new value view on (omega (arith, k));
      whole = whole_same course new value view (alike_on course.enumeration h new.enumeration a b);
    }

-- the design that was given is the first of those that were to come
next_first : {A : Type 0} (xs ys : List A) (next : Option A) → GivesNext xs ys next → next ≡ numbered 1 xs
next_first {A} xs ys None gives = sym (ap (numbered 1) gives.0)
next_first {A} xs ys (Some d) gives = sym (ap (numbered 1) gives)

pub record Advances (new : Course) (value : Stream) : Type 0 where
  pub given : GivesNext (to_come value) (to_come (stream_on new)) (numbered 1 (to_come value))
  pub behind : given_of (stream_on new) ≡ with_next (given_of value) (numbered 1 (to_come value))

pub advanced : (new : Course) (next one : Option Design) (value : Stream) → Gives new next one value → Advances new value
advanced new next one value gives =
    let first = next_first (to_come value) (to_come (stream_on new)) (option_map design_form next) gives.given in
    record {
      given = subst (λ (o : Option DesignForm). GivesNext (to_come value) (to_come (stream_on new)) o) first gives.given;
      behind = gives.behind ∙ ap (with_next (given_of value)) first;
    }

-- a copy of it is the same
pub copy_is : (next : Option Design) (design copy : Design) → next ≡ Some design → design_form copy ≡ design_form design → option_map design_form (Some copy) ≡ option_map design_form next
copy_is next design copy is same = ap (λ (d : DesignForm). Some d) same ∙ sym (ap (option_map design_form) is)

-- nothing is left to give
pub record GivesNone (new : Course) (next : Option Design) (value : Stream) : Type 0 where
  pub given : GivesNext (to_come value) (to_come (stream_on new)) (option_map design_form next)
  pub behind : given_of (stream_on new) ≡ with_next (given_of value) (option_map design_form next)

pub gives_none : (course : Course) (next : Option Design) (value : Stream) (h : Enumeration) → stream_on course ≡ value → IsOnCourse course
    → stream_in h ≡ stream_in course.enumeration → (IsSound course.enumeration → IsSound h) → AreAlike course.enumeration h
    → option_map design_form next ≡ slice_get (map (decoded h.search.setting) (left_of h)) 0 → is_some next ≡ false
    → GivesNone (record { enumeration = h; number = course.number; marks = course.marks }) next value
gives_none course next value h view on same sound a e none =
    let p : HasPassed h course.number = passed_same course.enumeration h course.number same sound on.at in
    let n = next_none course (found_in course h) value (option_map design_form next) view a refl p e (mapped_some next ∙ none) in
    record { given = n.0; behind = n.1 }

pub nothing_next : (course : Course) (next : Option Design) (value : Stream) (h : Enumeration) → stream_on course ≡ value → IsOnCourse course
    → stream_in h ≡ stream_in course.enumeration → (IsSound course.enumeration → IsSound h) → AreAlike course.enumeration h
    → option_map design_form next ≡ slice_get (map (decoded h.search.setting) (left_of h)) 0 → next ≡ None
    → GivesNext (to_come value) (to_come (stream_on (record { enumeration = h; number = course.number; marks = course.marks }))) None
nothing_next course next value h view on same sound a e none =
    subst (λ (o : Option Design). GivesNext (to_come value) (to_come (stream_on (found_in course h))) (option_map design_form o)) none
    (gives_none course next value h view on same sound a e (ap is_some none)).given

pub not_advanced : (course : Course) (next : Option Design) (value : Stream) (h : Enumeration) → stream_on course ≡ value → IsOnCourse course
    → stream_in h ≡ stream_in course.enumeration → (IsSound course.enumeration → IsSound h) → AreAlike course.enumeration h
    → option_map design_form next ≡ slice_get (map (decoded h.search.setting) (left_of h)) 0 → is_some next ≡ false
    → GivesNext (to_come value) (to_come (stream_on (record { enumeration = h; number = course.number; marks = course.marks }))) (numbered 1 (to_come value))
not_advanced course next value h view on same sound a e none =
    let g = gives_none course next value h view on same sound a e none in
    subst (λ (o : Option DesignForm). GivesNext (to_come value) (to_come (stream_on (found_in course h))) o)
    (next_first (to_come value) (to_come (stream_on (found_in course h))) (option_map design_form next) g.given) g.given
