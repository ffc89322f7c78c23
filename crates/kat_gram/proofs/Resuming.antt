-- A listing can be gone through up to a design if and only if it has it.
use Rattle.std.proofs.Common.{◌≡◌, ◌≢◌, ℕ, zero, suc, ◌≤◌, inl, inr, true, false, Bool, List, [], ◌∷◌, ◌++◌, map, drop, take, length, refl, sym, ◌∙◌, ap, subst, arith, append_assoc, None, Some}
use Rattle.std.specs.Prelude.{slice_get}
use Rattle.std.specs.Bool.{Decides}
use Rattle.std.proofs.lemmas.List.{length-map, length-take, map-append, take-append-drop}
use Rattle.kat_design.specs.Designs.{DesignForm, design_form}
use Rattle.kat_design.specs.Sizes.{size_of}
use Rattle.kat_design.specs.declared.designs.Design.{Design}
use Rattle.kat_gram.specs.Courses.{AreAlike, IsGoneThrough, IsGoneThroughTo, MayHave, stream_on, word_in, words_in}
use Rattle.kat_decoding.specs.Decoded.{decoded}
use Rattle.kat_gram.specs.Enumerations.{most_of, words_behind}
use Rattle.kat_gram.specs.Listings.{IsLast, IsResumed, Stream, designs_of, given_of, last_number, numbered, to_come}
use Rattle.kat_gram.specs.declared.courses.Course.{Course}
use Rattle.kat_gram.proofs.AllListed.{is_listing, member, tokens_back}
use Rattle.kat_gram.proofs.OneListing.{never_before, one_listing}
use Rattle.kat_gram.proofs.Passing.{is_numbered, one_place}
use Rattle.kat_gram.proofs.Told.{word_back}
use Rattle.kat_rules.specs.Constants.{constants_of}
use Rattle.kat_rules.specs.Listed.{IsBefore, IsListed, IsListing, KeepsRules, setting_of}
use Rattle.kat_rules.specs.Tokens.{design_tokens}
use Rattle.kat_rules.specs.declared.constants.Setting.{Setting}
use Rattle.kat_rules.specs.declared.kind_sets.Kinds.{Kinds}
use Rattle.kat_rules.specs.declared.tokens.Token.{Token}
use Rattle.kat_type.specs.Fits.{IsWellSorted}
use Rattle.kat_type.specs.Types.{TypeForm}
use Rattle.kat_type.proofs.Signing.{small_signature}
use Rattle.kat_walk.specs.Machines.{Ascends, IsOneOf}

-- a course over the designs of a type
pub record IsCourseOf (ty : TypeForm) (n : ℕ) (kinds : Kinds) (course : Course) : Type 0 where
  pub setting : course.enumeration.search.setting ≡ setting_of ty kinds
  pub most : most_of course.enumeration ≡ n
  pub small : n ≤ 24
  pub fits : IsWellSorted ty

pub course_on : (ty : TypeForm) (n : ℕ) (kinds : Kinds) (old new : Course) → IsCourseOf ty n kinds old → AreAlike old.enumeration new.enumeration → IsCourseOf ty n kinds new
course_on ty n kinds old new c a =
    let most = c.most in
    let beyond = a.beyond in
    record { setting = a.setting ∙ c.setting; most = omega (arith, most, beyond); small = c.small; fits = c.fits }

words_are : (ty : TypeForm) (n : ℕ) (kinds : Kinds) (course : Course) → IsCourseOf ty n kinds course → words_in course.enumeration ≡ words_behind (setting_of ty kinds) 0 n
words_are ty n kinds course c = ap (λ (x : Setting). words_behind x 0 (most_of course.enumeration)) c.setting ∙ ap (words_behind (setting_of ty kinds) 0) c.most

all_words : (g : Setting) (words : List (List Token)) (number : ℕ) → map (decoded g) (take number words ++ drop number words) ≡ map (decoded g) words
all_words g words number = ap (map (decoded g)) (take-append-drop number words)

course_designs : (ty : TypeForm) (n : ℕ) (kinds : Kinds) (course : Course) → IsCourseOf ty n kinds course
    → designs_of (stream_on course) ≡ map (decoded (setting_of ty kinds)) (words_behind (setting_of ty kinds) 0 n)
course_designs ty n kinds course c =
    all_words course.enumeration.search.setting (words_in course.enumeration) course.number
    ∙ ap (λ (x : Setting). map (decoded x) (words_in course.enumeration)) c.setting ∙ ap (map (decoded (setting_of ty kinds))) (words_are ty n kinds course c)

pub course_listed : (ty : TypeForm) (n : ℕ) (kinds : Kinds) (course : Course) → IsCourseOf ty n kinds course → IsListing ty n kinds (designs_of (stream_on course))
course_listed ty n kinds course c =
    subst (λ (ds : List DesignForm). IsListing ty n kinds ds) (sym (course_designs ty n kinds course c)) (is_listing ty n kinds (small_signature ty c.fits) c.small)

-- nothing is given at first
pub none_given : (course : Course) → course.number ≡ 0 → given_of (stream_on course) ≡ []
none_given course e = ap (λ (k : ℕ). map (decoded course.enumeration.search.setting) (take k (words_in course.enumeration))) e

pub all_to_come : (course : Course) → course.number ≡ 0 → to_come (stream_on course) ≡ designs_of (stream_on course)
all_to_come course e =
    ap (λ (k : ℕ). map (decoded course.enumeration.search.setting) (drop k (words_in course.enumeration))) e
    ∙ sym (all_words course.enumeration.search.setting (words_in course.enumeration) course.number)

-- what isn't found isn't numbered
named : (x : Setting) (words : List (List Token)) (place : ℕ) (d : DesignForm) → slice_get (map (decoded x) words) place ≡ Some d
    → (w : List Token) × (slice_get words place ≡ Some w) × (decoded x w ≡ d) × IsOneOf w words
named x [] place d e = absurd (cc e)
named x (w ∷ words) zero d e = (w, refl, some_same e, inl refl) where
  some_same : {A : Type 0} {a b : A} → Some a ≡ Some b → a ≡ b
  some_same h = cc h
named x (w ∷ words) (suc place) d e = let more = named x words place d e in (more.0, more.1, more.2, inr more.3)

unfound_at : (ty : TypeForm) (n : ℕ) (kinds : Kinds) (course : Course) (d : DesignForm) (w : List Token) → IsCourseOf ty n kinds course → w ≡ design_tokens (setting_of ty kinds).constants d
    → IsGoneThrough course w false → (designs : List DesignForm) → designs ≡ map (decoded (setting_of ty kinds)) (words_behind (setting_of ty kinds) 0 n)
    → (number : ℕ) → number ≤ last_number → numbered number designs ≢ Some d
unfound_at ty n kinds course d w c is gone designs same zero le e = cc e
unfound_at ty n kinds course d w c is gone designs same (suc place) le e =
    let x = setting_of ty kinds in
    let at = named x (words_behind x 0 n) place d (ap (λ (l : List DesignForm). slice_get l place) (sym same) ∙ e) in
    let l = c.small in
    let m = member x 0 n at.0 (small_signature ty c.fits) (omega (arith, l)) at.3 in
    let b = m.within in
    let word : at.0 ≡ w = sym (tokens_back x m.size at.0 (omega (arith, b, l)) m.listed) ∙ ap (design_tokens x.constants) at.2 ∙ sym is in
    gone place (omega (arith, le)) (ap (λ (ws : List (List Token)). slice_get ws place) (words_are ty n kinds course c) ∙ at.1 ∙ ap (λ (v : List Token). Some v) word)

pub unfound : (ty : TypeForm) (n : ℕ) (kinds : Kinds) (course : Course) (d : DesignForm) → IsCourseOf ty n kinds course → IsGoneThroughTo course d None
    → (designs : List DesignForm) → IsListing ty n kinds designs → IsResumed designs d None
unfound ty n kinds course d c none designs listing = λ number le e.
    let l : IsListed ty n kinds d = (listing.exactly d).0 (is_numbered number designs d e) in
    let small = l.small in
    let most = c.most in
    let may : MayHave course d = (subst (λ (y : Setting). KeepsRules y d) (sym c.setting) l.rules, omega (arith, small, most)) in
    unfound_at ty n kinds course d (word_in course d) c (ap (λ (y : Setting). design_tokens y.constants d) c.setting) (none may) designs
    (one_listing ty n kinds designs (map (decoded (setting_of ty kinds)) (words_behind (setting_of ty kinds) 0 n)) listing (is_listing ty n kinds (small_signature ty c.fits) c.small)) number le e

-- what is found is the last one
pub last_found : (course : Course) (w : List Token) (b : Bool) (last : DesignForm) → IsGoneThrough course w b → b ≡ true → last ≡ decoded course.enumeration.search.setting w
    → IsLast (Some last) (map (decoded course.enumeration.search.setting) (take course.number (words_in course.enumeration)))
last_found course w true last gone e is =
    let x = course.enumeration.search.setting in
    let l = gone.0 in
    (map (decoded x) l.0, ap (map (decoded x)) l.1 ∙ map-append (decoded x) l.0 (w ∷ []) ∙ ap (λ (d : DesignForm). map (decoded x) l.0 ++ d ∷ []) (sym is))
last_found course w false last gone e is = absurd (cc e)

pub found_there : (ty : TypeForm) (n : ℕ) (kinds : Kinds) (course : Course) (d : DesignForm) (last : Design) → IsCourseOf ty n kinds course → IsGoneThroughTo course d (Some last)
    → (designs : List DesignForm) → IsListing ty n kinds designs → IsResumed designs d (Some (stream_on course))
found_there ty n kinds course d last c is designs listing =
    let size = is.0.1 in
    let most = c.most in
    let small = c.small in
    let back : d ≡ decoded course.enumeration.search.setting (word_in course d) = sym (word_back course.enumeration.search.setting (word_in course d) d refl is.0.0 (omega (arith, size, most, small))) in
    let g : length (given_of (stream_on course)) ≡ length (take course.number (words_in course.enumeration)) =
    length-map (take course.number (words_in course.enumeration)) (decoded course.enumeration.search.setting) in
    let t = length-take course.number (words_in course.enumeration) in
    let k = is.1.1 in (
      course_designs ty n kinds course c
          ∙ one_listing ty n kinds (map (decoded (setting_of ty kinds)) (words_behind (setting_of ty kinds) 0 n)) designs (is_listing ty n kinds (small_signature ty c.fits) c.small) listing,
      last_found course (word_in course d) true d is.1 refl back,
      omega (arith, g, t, k),
    )

-- what the test and the search answer of a design
word_on : (old new : Course) (d : DesignForm) (w : List Token) → AreAlike old.enumeration new.enumeration → w ≡ word_in old d → w ≡ word_in new d
word_on old new d w a is = is ∙ ap (λ (y : Setting). design_tokens y.constants d) (sym a.setting)

pub not_listed : (course : Course) (d : DesignForm) (most : ℕ) (b : Bool) → Decides b (KeepsRules course.enumeration.search.setting d × (size_of d ≤ most)) → most ≡ most_of course.enumeration
    → b ≡ false → IsGoneThroughTo course d None
not_listed course d most b decides long told = λ may.
    let size = may.1 in
    absurd (clash b (decides.1 (may.0, omega (arith, size, long))) told) where
      clash : (t : Bool) → t ≡ true → t ≡ false → ⊥
      clash true i j = cc j
      clash false i j = cc i

pub not_among : (old new : Course) (d : DesignForm) (w : List Token) (b : Bool) → AreAlike old.enumeration new.enumeration → w ≡ word_in old d → IsGoneThrough new w b → b ≡ false
    → IsGoneThroughTo new d None
not_among old new d w b a is gone told = λ may.
    subst (λ (v : List Token). IsGoneThrough new v false) (word_on old new d w a is) (subst (λ (t : Bool). IsGoneThrough new w t) told gone)

pub is_last : (old new : Course) (d : DesignForm) (most : ℕ) (w : List Token) (listed b : Bool) (last : Design) → Decides listed (KeepsRules old.enumeration.search.setting d × (size_of d ≤ most))
    → most ≡ most_of old.enumeration → listed ≡ true → AreAlike old.enumeration new.enumeration → w ≡ word_in old d → IsGoneThrough new w b → b ≡ true
    → design_form last ≡ decoded new.enumeration.search.setting w → IsGoneThroughTo new d (Some last)
is_last old new d most w listed b last decides long told a is gone on back =
    let may = decides.0 told in
    let size = may.1 in
    let beyond = a.beyond in (
      (subst (λ (y : Setting). KeepsRules y d) (sym a.setting) may.0, omega (arith, size, long, beyond)),
      subst (λ (v : List Token). IsGoneThrough new v true) (word_on old new d w a is) (subst (λ (t : Bool). IsGoneThrough new w t) on gone),
      last_found new w b (design_form last) gone on back,
    )

-- two listings that have given one design last go on alike
pub go_on_alike : (ty : TypeForm) (n : ℕ) (kinds : Kinds) (g h : Stream) (d : DesignForm) → IsListing ty n kinds (designs_of g) → IsListing ty n kinds (designs_of h)
    → IsLast (Some d) (given_of g) → IsLast (Some d) (given_of h) → (given_of g ≡ given_of h) × (to_come g ≡ to_come h)
go_on_alike ty n kinds g h d one other last also =
    let whole : (s : Stream) (front : List DesignForm) → given_of s ≡ front ++ d ∷ [] → designs_of s ≡ front ++ d ∷ to_come s = λ s front e.
    map-append (decoded s.setting) s.given s.left ∙ ap (λ (l : List DesignForm). l ++ to_come s) e ∙ append_assoc front (d ∷ []) (to_come s) in
    let first = whole g last.0 last.1 in
    let second = whole h also.0 also.1 in
    let same = one_listing ty n kinds (designs_of g) (designs_of h) one other in
    let up : Ascends (IsBefore (constants_of ty.fields)) (last.0 ++ d ∷ to_come g) = subst (λ (l : List DesignForm). Ascends (IsBefore (constants_of ty.fields)) l) first one.ascends in
    let places = one_place (IsBefore (constants_of ty.fields)) (never_before (constants_of ty.fields)) also.0 (to_come h) last.0 (to_come g) d up (sym first ∙ same ∙ second) in
    (last.1 ∙ ap (λ (l : List DesignForm). l ++ d ∷ []) places.0 ∙ sym also.1, places.1)
