-- A search goes on from design to design.
use Rattle.std.proofs.Common.{◌≡◌, ℕ, zero, suc, ◌+◌, ◌<◌, ◌≤◌, ◌⊎◌, inl, inr, Bool, true, false, ◌||◌, List, [], ◌∷◌, ◌++◌, length, map, take, Option, None, Some, Result, Ok, Err, ◌^◌, refl, sym, ◌∙◌, ap, subst, append_assoc, append-nil, arith, slice_get}
use Rattle.std.specs.Prelude.{◌==◌, IfOk, option_map}
use Rattle.std.proofs.lemmas.Bool.{eqb-true, eq-eqb, false≢true}
use Rattle.kat_design.specs.Designs.{DesignForm}
use Rattle.kat_rules.specs.Listed.{IsListing}
use Rattle.kat_decoding.specs.Decoded.{decoded}
use Rattle.kat_gram.specs.Listings.{GivesNext, Stream, designs_of, given_of, last_number, to_come}
use Rattle.std.proofs.lemmas.List.{length-append, map-append}
use Rattle.kat_walk.specs.Machines.{IsOneOf}
use Rattle.kat_type.specs.Signatures.{signature_of}
use Rattle.kat_type.specs.Types.{TypeForm}
use Rattle.kat_type.specs.declared.signatures.Signature.{Signature}
use Rattle.kat_wire.specs.Printed.{file_text}
use Rattle.kat_search.specs.Answers.{IsEndWith, IsStoppedWith}
use Rattle.kat_telling.specs.Entries.{AgreesOn, AreTold, Entry, IsTold, Told, design_of, histories_for, nothing_told, told_behind, told_by}
use Rattle.kat_telling.specs.Entries.Entry.{again, newly, undecided}
use Rattle.kat_telling.specs.Evidence.{cause_of}
use Rattle.kat_telling.specs.Narrow.{AreNarrow, IsNarrowEntry}
use Rattle.kat_search.specs.NarrowVerdicts.{IsNarrowVerdict}
use Rattle.kat_telling.specs.Reports.{entries_text, entry_text, none_line, stopped_line, told_text, undecided_line}
use Rattle.kat_search.specs.Findings.{IsEmpty, IsFileOf, IsFor, IsTryable, Tells, TellsOf, histories_at, is_over, told_of}
use Rattle.kat_search.specs.Verdicts.{AreInRange, AreTried, IsEmitted, IsVerdict, undecided_among}
use Rattle.kat_search.proofs.Below.{listed_tryable}
use Rattle.kat_search.specs.declared.options.Options.{Options}
use Rattle.kat_search.specs.declared.outcome.Outcome.{Outcome}
use Rattle.kat_search.specs.declared.outcome.Outcome.TheVariants as outcome
use Rattle.kat_telling.specs.declared.limits.TheConstants.{UNDECIDED_LIMIT}
use Rattle.kat_search.specs.declared.findings.Findings.{Findings}

-- what was told after one more entry
told_by_last : (t : Told) (es : List Entry) (e : Entry) → told_by t (es ++ e ∷ []) ≡ told_behind (told_by t es) e
told_by_last t [] e = refl
told_by_last t (x ∷ es) e = told_by_last (told_behind t x) es e

are_told_last : (ty : TypeForm) (effort : ℕ) (t : Told) (es : List Entry) (e : Entry) → AreTold ty effort t es → IsTold ty effort (told_by t es) e → AreTold ty effort t (es ++ e ∷ [])
are_told_last ty effort t [] e are is = (is, tt)
are_told_last ty effort t (x ∷ es) e are is = (are.0, are_told_last ty effort (told_behind t x) es e are.1 is)

narrow_last : (es : List Entry) (e : Entry) → AreNarrow es → IsNarrowEntry e → AreNarrow (es ++ e ∷ [])
narrow_last [] e are is = (is, tt)
narrow_last (x ∷ es) e are is = (are.0, narrow_last es e are.1 is)

text_last : (sig : Signature) (t : Told) (es : List Entry) (e : Entry) → entries_text sig t (es ++ e ∷ []) ≡ entries_text sig t es ++ entry_text sig (told_by t es) e
text_last sig t [] e = append-nil (entry_text sig t e)
text_last sig t (x ∷ es) e =
    ap (λ (r : List ℕ). entry_text sig t x ++ r) (text_last sig (told_behind t x) es e)
    ∙ sym (append_assoc (entry_text sig t x) (entries_text sig (told_behind t x) es) (entry_text sig (told_by (told_behind t x) es) e))

count_behind : (t : Told) (e : Entry) → (told_behind t e).count ≡ t.count + 1
count_behind t (again d place) = omega arith
count_behind t (newly d history) = omega arith
count_behind t (undecided d evidence) = omega arith

count_by : (t : Told) (es : List Entry) → (told_by t es).count ≡ t.count + length es
count_by t [] = omega arith
count_by t (e ∷ es) = let rest = count_by (told_behind t e) es in let one = count_behind t e in omega (arith, rest, one)

pub length_last : {A : Type 0} (xs : List A) (x : A) → length (xs ++ x ∷ []) ≡ suc (length xs)
length_last [] x = refl
length_last (y ∷ xs) x = ap suc (length_last xs x)

-- at most one more design is undecided
passed_behind : (t : Told) (e : Entry) → length (told_behind t e).passed ≤ suc (length t.passed)
passed_behind t (again d place) = omega arith
passed_behind t (newly d history) = omega arith
passed_behind t (undecided d evidence) = let one = length_last t.passed (t.count + 1, cause_of evidence.ending) in omega (arith, one)

take_front : {A : Type 0} (n : ℕ) (xs ys : List A) → n ≤ length xs → take n (xs ++ ys) ≡ take n xs
take_front {A} zero xs ys l = refl
take_front {A} (suc n) [] ys l = absurd (omega (arith, l))
take_front {A} (suc n) (x ∷ xs) ys l = ap (λ (r : List A). x ∷ r) (take_front n xs ys (omega (arith, l)))

pub take_all_of : {A : Type 0} (xs : List A) → take (length xs) xs ≡ xs
take_all_of {A} [] = refl
take_all_of {A} (x ∷ xs) = ap (λ (r : List A). x ∷ r) (take_all_of xs)

first_designs : (es : List Entry) (rest : List DesignForm) → take (length es) (map design_of es ++ rest) ≡ map design_of es
first_designs [] rest = refl
first_designs (e ∷ es) rest = ap (λ (r : List DesignForm). design_of e ∷ r) (first_designs es rest)

next_design : (es : List Entry) (d : DesignForm) (rest : List DesignForm) → slice_get (map design_of es ++ d ∷ rest) (length es) ≡ Some d
next_design [] d rest = refl
next_design (e ∷ es) d rest = next_design es d rest

count_designs : (es : List Entry) (rest : List DesignForm) → length (map design_of es ++ rest) ≡ length es + length rest
count_designs [] rest = omega arith
count_designs (e ∷ es) rest = let more = count_designs es rest in omega (arith, more)

map_last : (es : List Entry) (e : Entry) (rest : List DesignForm) → map design_of (es ++ e ∷ []) ++ rest ≡ map design_of es ++ design_of e ∷ rest
map_last [] e rest = refl
map_last (x ∷ es) e rest = ap (λ (r : List DesignForm). design_of x ∷ r) (map_last es e rest)

cited_now : (e : Entry) (t t' : Findings) → Tells e t t' → (told_of t').cited ≡ (told_behind (told_of t) e).cited
cited_now e t t' tells = ap (λ (sig : Signature). histories_at sig t'.cited.items) tells.sig ∙ tells.cited

told_now : (e : Entry) (t t' : Findings) → Tells e t t' → told_of t' ≡ told_behind (told_of t) e
told_now (again d place) t t' tells = λ i. record { count = tells.count i; cited = cited_now (again d place) t t' tells i; passed = tells.passed i }
told_now (newly d history) t t' tells = λ i. record { count = tells.count i; cited = cited_now (newly d history) t t' tells i; passed = tells.passed i }
told_now (undecided d evidence) t t' tells = λ i. record { count = tells.count i; cited = cited_now (undecided d evidence) t t' tells i; passed = tells.passed i }

-- The designs that were tried are told of, and these are still to come.
pub record Goes (ty : TypeForm) (options : Options) (designs to_come : List DesignForm) (t : Findings) : Type 0 where
  pub entries : List Entry
  pub whole : designs ≡ map design_of entries ++ to_come
  pub told : AreTold ty options.effort nothing_told entries
  pub narrow : AreNarrow entries
  pub is : told_of t ≡ told_by nothing_told entries
  pub report : t.report.items ≡ told_text (signature_of ty) entries
  pub asked : length entries ≤ options.designs
  pub few : (n : ℕ) → n < length entries → undecided_among (take n entries) < UNDECIDED_LIMIT
  pub most : undecided_among entries ≤ UNDECIDED_LIMIT

pub goes_first : (ty : TypeForm) (options : Options) (designs : List DesignForm) (t : Findings) → IsEmpty t → Goes ty options designs designs t
goes_first ty options designs t empty = record {
  entries = [];
  whole = refl;
  told = tt;
  narrow = tt;
  is = λ i. record { count = empty.count i; cited = histories_at t.sig (empty.cited i); passed = empty.passed i };
  report = empty.report;
  asked = omega arith;
  few = λ n l. absurd (omega (arith, l));
  most = omega arith;
}

-- how many were tried, and how many of these are undecided
tried_count : (ty : TypeForm) (options : Options) (designs to_come : List DesignForm) (t : Findings) (g : Goes ty options designs to_come t) → t.count ≡ length g.entries
tried_count ty options designs to_come t g =
    let now : t.count ≡ (told_by nothing_told g.entries).count = ap (λ (x : Told). x.count) g.is in
    let all = count_by nothing_told g.entries in
    omega (arith, now, all)

passed_count : (ty : TypeForm) (options : Options) (designs to_come : List DesignForm) (t : Findings) (g : Goes ty options designs to_come t) → length t.passed.items ≡ undecided_among g.entries
passed_count ty options designs to_come t g = ap (λ (x : Told). length x.passed) g.is

-- the search isn't over
pub record GoesOn (designs count open_ones : ℕ) : Type 0 where
  pub asked : count ≡ designs → ⊥
  pub few : open_ones ≡ UNDECIDED_LIMIT → ⊥

or_left : (a b : Bool) → a ≡ true → (a || b) ≡ false → ⊥
or_left true b h g = false≢true (sym g)
or_left false b h g = false≢true h

or_right : (a b : Bool) → b ≡ true → (a || b) ≡ false → ⊥
or_right true b h g = false≢true (sym g)
or_right false b h g = false≢true (sym g ∙ h)

or_either : (a b : Bool) → (a || b) ≡ true → (a ≡ true) ⊎ (b ≡ true)
or_either true b h = inl refl
or_either false b h = inr h

pub not_over : (designs count open_ones : ℕ) → is_over designs count open_ones ≡ false → GoesOn designs count open_ones
not_over designs count open_ones no_more = record {
  asked = λ e. or_left (count == designs) (open_ones == UNDECIDED_LIMIT) (eq-eqb count designs e) no_more;
  few = λ e. or_right (count == designs) (open_ones == UNDECIDED_LIMIT) (eq-eqb open_ones UNDECIDED_LIMIT e) no_more;
}

either_over : (designs count open_ones : ℕ) → ((count == designs) ≡ true) ⊎ ((open_ones == UNDECIDED_LIMIT) ≡ true) → (count ≡ designs) ⊎ (open_ones ≡ UNDECIDED_LIMIT)
either_over designs count open_ones (inl h) = inl (eqb-true count designs h)
either_over designs count open_ones (inr h) = inr (eqb-true open_ones UNDECIDED_LIMIT h)

over_either : (designs count open_ones : ℕ) → is_over designs count open_ones ≡ true → (count ≡ designs) ⊎ (open_ones ≡ UNDECIDED_LIMIT)
over_either designs count open_ones over = either_over designs count open_ones (or_either (count == designs) (open_ones == UNDECIDED_LIMIT) over)

-- fewer are open_ones before each design that was tried, and before a further one
one_below : (n k : ℕ) → (n < k) ⊎ (n ≡ k) → (suc n < suc k) ⊎ (suc n ≡ suc k)
one_below n k (inl below) = inl (omega (arith, below))
one_below n k (inr same) = inr (ap suc same)

below_or_same : (n k : ℕ) → n ≤ k → (n < k) ⊎ (n ≡ k)
below_or_same zero zero l = inr refl
below_or_same zero (suc k) l = inl (omega arith)
below_or_same (suc n) zero l = absurd (omega (arith, l))
below_or_same (suc n) (suc k) l = one_below n k (below_or_same n k (omega (arith, l)))

few_at : (es : List Entry) (n : ℕ) → ((k : ℕ) → k < length es → undecided_among (take k es) < UNDECIDED_LIMIT) → undecided_among es < UNDECIDED_LIMIT
    → (n < length es) ⊎ (n ≡ length es) → undecided_among (take n es) < UNDECIDED_LIMIT
few_at es n few last (inl below) = few n below
few_at es n few last (inr same) = subst (λ (xs : List Entry). undecided_among xs < UNDECIDED_LIMIT) (sym (ap (λ (k : ℕ). take k es) same ∙ take_all_of es)) last

few_on : (es : List Entry) (e : Entry) → ((n : ℕ) → n < length es → undecided_among (take n es) < UNDECIDED_LIMIT) → undecided_among es < UNDECIDED_LIMIT
    → (n : ℕ) → n < length (es ++ e ∷ []) → undecided_among (take n (es ++ e ∷ [])) < UNDECIDED_LIMIT
few_on es e few last n l =
    let m : n ≤ length es = let one = length_last es e in omega (arith, l, one) in
    subst (λ (xs : List Entry). undecided_among xs < UNDECIDED_LIMIT) (sym (take_front n es (e ∷ []) m)) (few_at es n few last (below_or_same n (length es) m))

less_than : (m n : ℕ) → m ≤ n → (m ≡ n → ⊥) → m < n
less_than zero zero l apart = absurd (apart refl)
less_than zero (suc n) l apart = omega arith
less_than (suc m) zero l apart = absurd (omega (arith, l))
less_than (suc m) (suc n) l apart = let rest = less_than m n (omega (arith, l)) (λ e. apart (ap suc e)) in omega (arith, rest)

report_on : (ty : TypeForm) (es : List Entry) (e : Entry) (t t' : Findings) → t.sig ≡ signature_of ty → told_of t ≡ told_by nothing_told es → t.report.items ≡ told_text (signature_of ty) es
    → t'.report.items ≡ t.report.items ++ entry_text t.sig (told_of t) e → t'.report.items ≡ told_text (signature_of ty) (es ++ e ∷ [])
report_on ty es e t t' sig is before grown =
    grown
    ∙ ap (λ (r : List ℕ). r ++ entry_text t.sig (told_of t) e) before
    ∙ ap (λ (s : Signature). told_text (signature_of ty) es ++ entry_text s (told_of t) e) sig
    ∙ ap (λ (x : Told). told_text (signature_of ty) es ++ entry_text (signature_of ty) x e) is
    ∙ sym (text_last (signature_of ty) nothing_told es e)

-- the next design was refuted or passed over
pub goes_on : (ty : TypeForm) (options : Options) (designs to_come to_come' : List DesignForm) (d : DesignForm) (t t' : Findings)
    → to_come ≡ d ∷ to_come' → IsFor ty t → GoesOn options.designs t.count (length t.passed.items) → TellsOf ty options.effort d t t' → Goes ty options designs to_come t → Goes ty options designs to_come' t'
goes_on ty options designs to_come to_come' d t t' next for on tells g =
    let e = tells.entry in
    let counted = tried_count ty options designs to_come t g in
    let passed = passed_count ty options designs to_come t g in
    let last : undecided_among g.entries < UNDECIDED_LIMIT = less_than _ _ g.most (λ same. on.few (passed ∙ same)) in
    record {
      entries = g.entries ++ e ∷ [];
      whole = g.whole ∙ ap (λ (r : List DesignForm). map design_of g.entries ++ r) (next ∙ ap (λ (x : DesignForm). x ∷ to_come') (sym tells.of_design)) ∙ sym (map_last g.entries e to_come');
      told = are_told_last ty options.effort nothing_told g.entries e g.told (subst (λ (x : Told). IsTold ty options.effort x e) g.is tells.so);
      narrow = narrow_last g.entries e g.narrow tells.tells.narrow;
      is = told_now e t t' tells.tells ∙ ap (λ (x : Told). told_behind x e) g.is ∙ sym (told_by_last nothing_told g.entries e);
      report = report_on ty g.entries e t t' for.sig g.is g.report tells.tells.report;
      asked =
          let one = length_last g.entries e in
          let under = less_than _ _ g.asked (λ same. on.asked (counted ∙ same)) in
          omega (arith, one, under);
      few = few_on g.entries e g.few last;
      most =
          let now : undecided_among (g.entries ++ e ∷ []) ≡ length (told_behind (told_by nothing_told g.entries) e).passed = ap (λ (x : Told). length x.passed) (told_by_last nothing_told g.entries e) in
          let one = passed_behind (told_by nothing_told g.entries) e in
          omega (arith, now, one, last);
    }

-- how a search ends
end_entries : (ty : TypeForm) (options : Options) (designs to_come : List DesignForm) (t : Findings) (g : Goes ty options designs to_come t) → AreTried ty options designs g.entries
end_entries ty options designs to_come t g = record {
  first = subst (λ (ds : List DesignForm). take (length g.entries) ds ≡ map design_of g.entries) (sym g.whole) (first_designs g.entries to_come);
  told = g.told;
  asked = g.asked;
  few = g.few;
}

pub emitted : (ty : TypeForm) (options : Options) (designs to_come to_come' : List DesignForm) (d : DesignForm) (t : Findings) (number : ℕ) (bytes : List ℕ)
    → IsListing ty options.size options.kinds designs → to_come ≡ d ∷ to_come' → GoesOn options.designs t.count (length t.passed.items) → Goes ty options designs to_come t
    → IsFileOf ty d t.passed.items bytes → number ≡ t.count + 1 → (found : IsEmitted ty options number bytes) × AreNarrow found.earlier
emitted ty options designs to_come to_come' d t number bytes listing next on g f numbered =
    let counted = tried_count ty options designs to_come t g in
    let passed = passed_count ty options designs to_come t g in (
      record {
        designs = designs;
        listing = listing;
        earlier = g.entries;
        tried = end_entries ty options designs to_come t g;
        behind = omega (arith, numbered, counted);
        asked = let under = less_than _ _ g.asked (λ same. on.asked (counted ∙ same)) in omega (arith, numbered, counted, under);
        few = less_than _ _ g.most (λ same. on.few (passed ∙ same));
        file = f.file;
        version = f.version;
        listed = subst (λ (ds : List DesignForm). slice_get ds (length g.entries) ≡ Some f.file.design) (sym (g.whole ∙ ap (λ (r : List DesignForm). map design_of g.entries ++ r) next))
            (next_design g.entries d to_come' ∙ ap Some (sym f.design));
        agrees = subst (λ (x : DesignForm). AgreesOn ty x (histories_for ty)) (sym f.design) f.agrees;
        accepted = f.accepted;
        hints = f.hints;
        text = f.text ∙ ap (λ (x : Told). file_text f.file x.passed) g.is;
        read_again = f.read_again;
        short = f.short;
      },
      g.narrow,
    )

count_all : (ty : TypeForm) (options : Options) (designs to_come : List DesignForm) (t : Findings) (g : Goes ty options designs to_come t) → length designs ≡ length g.entries + length to_come
count_all ty options designs to_come t g = ap length g.whole ∙ count_designs g.entries to_come

either_same : (a b c d e f : ℕ) → a ≡ b → c ≡ d → (b ≡ e) ⊎ (d ≡ f) → (a ≡ e) ⊎ (c ≡ f)
either_same a b c d e f p q (inl h) = inl (p ∙ h)
either_same a b c d e f p q (inr h) = inr (q ∙ h)

pub stops_so : (ty : TypeForm) (options : Options) (designs to_come to_come' : List DesignForm) (d : DesignForm) (t : Findings) (outcome : Outcome)
    → IsListing ty options.size options.kinds designs → to_come ≡ d ∷ to_come' → is_over options.designs t.count (length t.passed.items) ≡ true → Goes ty options designs to_come t
    → IsStoppedWith t options.size outcome → IsNarrowVerdict ty options outcome
stops_so ty options designs to_come to_come' d t (outcome.Emitted number file) listing next over g is = absurd is
stops_so ty options designs to_come to_come' d t (outcome.NoDesign report) listing next over g is = absurd is
stops_so ty options designs to_come to_come' d t (outcome.Undecided report) listing next over g is = absurd is
stops_so ty options designs to_come to_come' d t (outcome.Stopped report) listing next over g is =
    let counted = tried_count ty options designs to_come t g in
    let passed = passed_count ty options designs to_come t g in (
      record {
        designs = designs;
        listing = listing;
        entries = g.entries;
        tried = end_entries ty options designs to_come t g;
        more = let all = count_all ty options designs to_come t g in let one = ap length next in omega (arith, all, one);
        over = either_same _ _ _ _ _ _ (sym counted) (sym passed) (over_either options.designs t.count (length t.passed.items) over);
        text = is ∙ ap (λ (r : List ℕ). r ++ stopped_line t.count options.size) g.report ∙ ap (λ (n : ℕ). told_text (signature_of ty) g.entries ++ stopped_line n options.size) counted;
      },
      g.narrow,
    )

pub ends_so : (ty : TypeForm) (options : Options) (designs to_come : List DesignForm) (t : Findings) (outcome : Outcome)
    → IsListing ty options.size options.kinds designs → to_come ≡ [] → Goes ty options designs to_come t → IsEndWith t options.size outcome → IsNarrowVerdict ty options outcome
ends_so ty options designs to_come t (outcome.Emitted number file) listing next g is = absurd is
ends_so ty options designs to_come t (outcome.NoDesign report) listing next g is = (
  record {
    designs = designs;
    listing = listing;
    entries = g.entries;
    tried = end_entries ty options designs to_come t g;
    all = let all = count_all ty options designs to_come t g in let one = ap length next in omega (arith, all, one);
    none_open = sym (passed_count ty options designs to_come t g) ∙ is.0;
    text = is.1 ∙ ap (λ (r : List ℕ). r ++ none_line options.size) g.report;
  },
  g.narrow,
)
ends_so ty options designs to_come t (outcome.Undecided report) listing next g is = (
  record {
    designs = designs;
    listing = listing;
    entries = g.entries;
    tried = end_entries ty options designs to_come t g;
    all = let all = count_all ty options designs to_come t g in let one = ap length next in omega (arith, all, one);
    some_open = let n = passed_count ty options designs to_come t g in let m = is.0 in omega (arith, n, m);
    text = is.1 ∙ ap (λ (r : List ℕ). r ++ undecided_line options.size) g.report;
  },
  g.narrow,
)
ends_so ty options designs to_come t (outcome.Stopped report) listing next g is = absurd is

-- what a call for the next design tells
pub next_is : {A D : Type 0} (f : A → D) (old new : List D) (o : Option A) (x : A) → o ≡ Some x → GivesNext old new (option_map f o) → old ≡ f x ∷ new
next_is f old new o x is given = subst (λ p. GivesNext old new (option_map f p)) is given

pub none_next : {A D : Type 0} (f : A → D) (old new : List D) (o : Option A) → o ≡ None → GivesNext old new (option_map f o) → old ≡ []
none_next f old new o is given = (subst (λ p. GivesNext old new (option_map f p)) is given).0

pub if_ok : {A E : Type 0} (r : Result A E) (P Q : A → Type 0) → IfOk r P → ((x : A) → P x → Q x) → IfOk r Q
if_ok (Ok x) P Q p f = f x p
if_ok (Err e) P Q p f = tt

-- a narrow verdict is one
verdict_of : (ty : TypeForm) (options : Options) (outcome : Outcome) → IsNarrowVerdict ty options outcome → IsVerdict ty options outcome
verdict_of ty options (outcome.Emitted number file) is = is.0
verdict_of ty options (outcome.NoDesign report) is = is.0
verdict_of ty options (outcome.Undecided report) is = is.0
verdict_of ty options (outcome.Stopped report) is = is.0

pub if_verdict : {E : Type 0} (ty : TypeForm) (options : Options) (r : Result Outcome E) → IfOk r (IsNarrowVerdict ty options) → IfOk r (IsVerdict ty options)
if_verdict ty options r is = if_ok r (IsNarrowVerdict ty options) (IsVerdict ty options) is (verdict_of ty options)

one_next : (es : List Entry) (d : DesignForm) (rest : List DesignForm) → IsOneOf d (map design_of es ++ d ∷ rest)
one_next [] d rest = inl refl
one_next (e ∷ es) d rest = inr (one_next es d rest)

pub next_tryable : (ty : TypeForm) (options : Options) (designs to_come to_come' : List DesignForm) (d : DesignForm) (t : Findings) → AreInRange options
    → IsListing ty options.size options.kinds designs → to_come ≡ d ∷ to_come' → Goes ty options designs to_come t → IsTryable ty d
next_tryable ty options designs to_come to_come' d t ranges listing next g =
    listed_tryable ty options.size options.kinds d ranges.small_size
    ((listing.exactly d).0 (subst (λ (ds : List DesignForm). IsOneOf d ds) (sym (g.whole ∙ ap (λ (r : List DesignForm). map design_of g.entries ++ r) next)) (one_next g.entries d to_come')))

-- this many designs of the listing were given
pub few_given : (ty : TypeForm) (options : Options) (g : Stream) (t : Findings) → AreInRange options → Goes ty options (designs_of g) (to_come g) t → length (given_of g) ≤ last_number
few_given ty options g t ranges goes =
    let split = ap length (map-append (decoded g.setting) g.given g.left) ∙ length-append (given_of g) (to_come g) in
    let counted = ap length goes.whole ∙ count_designs goes.entries (to_come g) in
    let asked = goes.asked in
    let few = ranges.few_designs in
    omega (arith, split, counted, asked, few)

pub few_tried : (ty : TypeForm) (options : Options) (designs to_come : List DesignForm) (t : Findings) → AreInRange options → Goes ty options designs to_come t → t.count < 2 ^ 63
few_tried ty options designs to_come t ranges g =
    let counted = tried_count ty options designs to_come t g in
    let asked = g.asked in
    let few = ranges.few_designs in
    omega (arith, counted, asked, few)
