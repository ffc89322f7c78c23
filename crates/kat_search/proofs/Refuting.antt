-- None is answered if and only if the listing has no more designs than were asked, and each of them is refuted.
use Rattle.std.proofs.Common.{◌≡◌, ℕ, zero, suc, ◌+◌, ◌<◌, ◌≤◌, ◌⊎◌, ◌↔◌, inl, inr, List, [], ◌∷◌, ◌++◌, length, map, take, Some, refl, sym, ◌∙◌, ap, subst, arith, slice_get}
use Rattle.std.proofs.lemmas.Option.{same_Some, slice_get_within}
use Rattle.kat_design.specs.Designs.{DesignForm}
use Rattle.kat_design.specs.Sorted.{EachHas}
use Rattle.kat_rules.specs.Listed.{IsListed, IsListing}
use Rattle.kat_histories.specs.declared.histories.History.{History}
use Rattle.kat_type.specs.Types.{TypeForm}
use Rattle.kat_walk.specs.Machines.{IsOneOf}
use Rattle.kat_telling.specs.Entries.{AreTold, Entry, IsRefuted, Told, design_of, histories_for, nothing_told, told_behind, told_by}
use Rattle.kat_telling.specs.Entries.Entry.{again, newly, undecided}
use Rattle.kat_telling.specs.Evidence.{cause_of}
use Rattle.kat_search.specs.Laws.{AreRefuted, HasFew, HasNothingElse, IsNone}
use Rattle.kat_search.specs.Verdicts.{AreTried, HasNone, IsCutOff, IsEmitted, IsLeftOpen, IsVerdict}
use Rattle.kat_search.specs.declared.options.Options.{Options}
use Rattle.kat_search.specs.declared.outcome.Outcome.{Outcome}
use Rattle.kat_search.specs.declared.outcome.Outcome.TheVariants as outcome
use Rattle.kat_search.proofs.Going.{length_last, take_all_of}
use Rattle.kat_gram.proofs.OneListing.{one_listing}

-- the history is one of all
record IsAmong (ty : TypeForm) (history : History) : Type 0 where
  pub place : ℕ
  pub there : slice_get (histories_for ty) place ≡ Some history

each_last : {A : Type 0} (P : A → Type 0) (xs : List A) (x : A) → EachHas P xs → P x → EachHas P (xs ++ x ∷ [])
each_last P [] x each p = (p, tt)
each_last P (y ∷ ys) x each p = (each.0, each_last P ys x each.1 p)

each_at : {A : Type 0} (P : A → Type 0) (xs : List A) (i : ℕ) (x : A) → EachHas P xs → slice_get xs i ≡ Some x → P x
each_at P [] i x each h = let l = slice_get_within [] i x h in absurd (omega (arith, l))
each_at P (y ∷ ys) zero x each h = subst P (same_Some y x h) each.0
each_at P (y ∷ ys) (suc i) x each h = each_at P ys i x each.1 h

each_one : {A : Type 0} (P : A → Type 0) (xs : List A) (x : A) → EachHas P xs → IsOneOf x xs → P x
each_one P [] x each one = absurd one
each_one P (y ∷ ys) x each (inl is) = subst P (sym is) each.0
each_one P (y ∷ ys) x each (inr one) = each_one P ys x each.1 one

-- what holds of all holds of the first ones
each_first : {A : Type 0} (P : A → Type 0) (n : ℕ) (xs : List A) → ((x : A) → IsOneOf x xs → P x) → EachHas P (take n xs)
each_first P zero xs each = tt
each_first P (suc n) [] each = tt
each_first P (suc n) (x ∷ xs) each = (each x (inl refl), each_first P n xs (λ y one. each y (inr one)))

one_at : {A : Type 0} (xs : List A) (i : ℕ) (x : A) → slice_get xs i ≡ Some x → IsOneOf x xs
one_at [] i x h = let l = slice_get_within [] i x h in absurd (omega (arith, l))
one_at (y ∷ ys) zero x h = inl (sym (same_Some y x h))
one_at (y ∷ ys) (suc i) x h = inr (one_at ys i x h)

-- a design whose file is given is one of the listing
pub emitted_listed : (ty : TypeForm) (options : Options) (number : ℕ) (file : List ℕ) → (v : IsEmitted ty options number file) → IsListed ty options.size options.kinds v.file.design
emitted_listed ty options number file v = (v.listing.exactly v.file.design).0 (one_at v.designs (length v.earlier) v.file.design v.listed)

passed_more : (t : Told) (e : Entry) → length t.passed ≤ length (told_behind t e).passed
passed_more t (again d place) = omega arith
passed_more t (newly d history) = omega arith
passed_more t (undecided d evidence) = let one = length_last t.passed (t.count + 1, cause_of evidence.ending) in omega (arith, one)

passed_grows : (t : Told) (es : List Entry) → length t.passed ≤ length (told_by t es).passed
passed_grows t [] = omega arith
passed_grows t (e ∷ es) = let rest = passed_grows (told_behind t e) es in let one = passed_more t e in omega (arith, rest, one)

-- if none is undecided, each is refuted
refuted_each : (ty : TypeForm) (effort : ℕ) (t : Told) (es : List Entry) → EachHas (IsAmong ty) t.cited → AreTold ty effort t es → length (told_by t es).passed ≡ 0 → EachHas (IsRefuted ty) (map design_of es)
refuted_each ty effort t [] among told none = tt
refuted_each ty effort t (again d place ∷ es) among told none =
    let cited = each_at (IsAmong ty) t.cited place told.0.0.0 among told.0.0.1 in
    (record { place = cited.place; history = told.0.0.0; there = cited.there; differs = told.0.0.2 }, refuted_each ty effort (told_behind t (again d place)) es among told.1 none)
refuted_each ty effort t (newly d history ∷ es) among told none =
    let first = told.0.1 in (
      record { place = first.place; history = first.first.0.0; there = first.first.0.1; differs = first.first.0.2 },
      refuted_each ty effort (told_behind t (newly d history)) es (each_last (IsAmong ty) t.cited history among (record { place = first.place; there = first.there })) told.1 none,
    )
refuted_each ty effort t (undecided d evidence ∷ es) among told none =
    let e : Entry = undecided d evidence in
    let rest = passed_grows (told_behind t e) es in
    let one : length (told_behind t e).passed ≡ suc (length t.passed) = length_last t.passed (t.count + 1, cause_of evidence.ending) in
    absurd (omega (arith, rest, one, none))

-- if each is refuted, none is undecided
none_passed : (ty : TypeForm) (effort : ℕ) (t : Told) (es : List Entry) → AreTold ty effort t es → EachHas (IsRefuted ty) (map design_of es) → length (told_by t es).passed ≡ length t.passed
none_passed ty effort t [] told each = refl
none_passed ty effort t (again d place ∷ es) told each = none_passed ty effort (told_behind t (again d place)) es told.1 each.1
none_passed ty effort t (newly d history ∷ es) told each = none_passed ty effort (told_behind t (newly d history)) es told.1 each.1
none_passed ty effort t (undecided d evidence ∷ es) told each = let r = each.0 in absurd (told.0.0 r.place r.history r.there r.differs)

none_refuted : (ty : TypeForm) (options : Options) (report : List ℕ) → HasNone ty options report → AreRefuted ty options
none_refuted ty options report none d listed =
    each_one (IsRefuted ty) none.designs d
    (subst (λ (ds : List DesignForm). EachHas (IsRefuted ty) ds) (sym none.tried.first ∙ ap (λ (n : ℕ). take n none.designs) none.all ∙ take_all_of none.designs)
    (refuted_each ty options.effort nothing_told none.entries tt none.tried.told none.none_open))
    ((none.listing.exactly d).1 listed)

-- a listing with no more designs than were asked is the only one
none_few : (ty : TypeForm) (options : Options) (report : List ℕ) → HasNone ty options report → HasFew ty options
none_few ty options report none designs listing =
    let same : length none.designs ≡ length designs = ap length (one_listing ty options.size options.kinds none.designs designs none.listing listing) in
    let all = none.all in
    let asked = none.tried.asked in
    omega (arith, same, all, asked)

pub none_means : (ty : TypeForm) (options : Options) (report : List ℕ) → HasNone ty options report → HasFew ty options × AreRefuted ty options
none_means ty options report none = (none_few ty options report none, none_refuted ty options report none)

-- the designs that were tried are refuted, if all of the listing are
tried_refuted : (ty : TypeForm) (options : Options) (designs : List DesignForm) (entries : List Entry) → IsListing ty options.size options.kinds designs → AreTried ty options designs entries → AreRefuted ty options
    → length (told_by nothing_told entries).passed ≡ 0
tried_refuted ty options designs entries listing tried refuted =
    none_passed ty options.effort nothing_told entries tried.told
    (subst (λ (ds : List DesignForm). EachHas (IsRefuted ty) ds) tried.first
    (each_first (IsRefuted ty) (length entries) designs (λ d one. refuted d ((listing.exactly d).0 one))))

-- so none of them is proved, none is left open, and none comes after those that were tried
none_proved : (ty : TypeForm) (options : Options) → AreRefuted ty options → (number : ℕ) (file : List ℕ) → IsEmitted ty options number file → ⊥
none_proved ty options refuted number file v =
    let r = refuted v.file.design (emitted_listed ty options number file v) in
    v.agrees r.place r.history r.there r.differs

none_left : (ty : TypeForm) (options : Options) → AreRefuted ty options → (report : List ℕ) → IsLeftOpen ty options report → ⊥
none_left ty options refuted report v =
    let none = tried_refuted ty options v.designs v.entries v.listing v.tried refuted in
    let some = v.some_open in
    omega (arith, none, some)

over_not : (tried all most passed : ℕ) → tried < all → all ≤ most → passed ≡ 0 → (tried ≡ most) ⊎ (passed ≡ 100) → ⊥
over_not tried all most passed more few none (inl same) = omega (arith, more, few, same)
over_not tried all most passed more few none (inr same) = omega (arith, none, same)

none_behind : (ty : TypeForm) (options : Options) → HasFew ty options → AreRefuted ty options → (report : List ℕ) → IsCutOff ty options report → ⊥
none_behind ty options few refuted report v =
    over_not (length v.entries) (length v.designs) options.designs _ v.more (few v.designs v.listing) (tried_refuted ty options v.designs v.entries v.listing v.tried refuted) v.over

pub refuted_means : (ty : TypeForm) (options : Options) → HasFew ty options → AreRefuted ty options → HasNothingElse ty options
refuted_means ty options few refuted = record {
  proved = none_proved ty options refuted;
  left = none_left ty options refuted;
  behind = none_behind ty options few refuted;
}

-- the same of an answer
pub answered : (ty : TypeForm) (options : Options) (answer : Outcome) → IsVerdict ty options answer → IsNone answer ↔ (HasFew ty options × AreRefuted ty options)
answered ty options (outcome.Emitted number file) v = (λ none. absurd none, λ h. none_proved ty options h.1 number file.items v)
answered ty options (outcome.NoDesign report) v = (λ none. none_means ty options report.items v, λ h. tt)
answered ty options (outcome.Undecided report) v = (λ none. absurd none, λ h. none_left ty options h.1 report.items v)
answered ty options (outcome.Stopped report) v = (λ none. absurd none, λ h. none_behind ty options h.0 h.1 report.items v)
