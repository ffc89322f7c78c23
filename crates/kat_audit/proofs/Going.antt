-- A report is read from design to design.
use Rattle.std.proofs.Common.{◌≡◌, ℕ, ◌+◌, ◌<◌, ◌≤◌, ◌⊎◌, inl, inr, Bool, true, false, List, [], ◌∷◌, ◌++◌, length, Option, None, Some, Result, Ok, Err, ◌^◌, refl, sym, ap, ◌∙◌, subst, arith, slice_get}
use Rattle.std.specs.Prelude.{IfOk, is_some}
use Rattle.std.proofs.lemmas.List.{length-append, length-map, map-append}
use Rattle.std.proofs.lemmas.Option.{slice_get_within}
use Rattle.kat_design.specs.Designs.{DesignForm}
use Rattle.kat_decoding.specs.Decoded.{decoded}
use Rattle.kat_gram.specs.Listings.{GivesNext, IsLast, Stream, designs_of, given_of, last_number, numbered, to_come, with_next}
use Rattle.kat_rules.specs.Listed.{IsListing}
use Rattle.kat_said.specs.declared.judging.Audit.{Audit}
use Rattle.kat_type.specs.Limits.{item_limit}
use Rattle.kat_type.specs.Signatures.{signature_of}
use Rattle.kat_type.specs.Types.{TypeForm, operation_form, query_form, type_form}
use Rattle.kat_type.specs.declared.types.SeqType.{SeqType}
use Rattle.kat_type.specs.declared.signatures.Signature.{Signature}
use Rattle.kat_audit.specs.Audits.{AreInRange, IsAudited, ask_of}
use Rattle.kat_due.specs.Dues.{Ask, IsNext, State, first_state}
use Rattle.kat_due.specs.Dues.Phase.{at_design}
use Rattle.kat_due.specs.Readings.{AreNumbers, IsBehind, IsFirst, IsTryable, JudgesFrom, histories_at, state_at}
use Rattle.kat_due.specs.declared.limits.TheConstants.{UNDECIDED_LIMIT}
use Rattle.kat_audit.specs.declared.options.Options.{Options}
use Rattle.kat_due.specs.declared.reading.Reading.{Reading}
use Rattle.kat_audit.proofs.Below.{listed_tryable}
use Rattle.kat_due.proofs.States.{same_state}

-- what a step to the next design tells, and a look at it
pub some_next : {D : Type 0} (old new : List D) (b : Bool) → b ≡ true → b ≡ is_some (numbered 1 old) → GivesNext old new (numbered 1 old) → (d : D) × (old ≡ d ∷ new)
some_next [] new b is more given = absurd (cc)
some_next (d ∷ ds) new b is more given = (d, given)

pub none_next : {D : Type 0} (old : List D) (b : Bool) → b ≡ false → b ≡ is_some (numbered 1 old) → old ≡ []
none_next [] b is more = refl
none_next (d ∷ ds) b is more = absurd (cc)

ends_with : {D : Type 0} (ds : List D) (d : D) → ds ++ d ∷ [] ≡ [] → ⊥
ends_with [] d e = cc
ends_with (x ∷ ds) d e = cc

pub some_given : {D : Type 0} (old given new : List D) (b : Bool) → b ≡ true → b ≡ is_some (numbered 1 old) → new ≡ with_next given (numbered 1 old) → new ≡ [] → ⊥
some_given [] given new b is more behind none = absurd (cc)
some_given (d ∷ ds) given new b is more behind none = ends_with given d (sym behind ∙ none)

abbrev last_or : {D : Type 0} → D → List D → D
last_or d [] = d
last_or d (e ∷ es) = last_or e es

last_one : {D : Type 0} (d : D) (ds : List D) (e : D) → last_or d (ds ++ e ∷ []) ≡ e
last_one d [] e = refl
last_one d (x ∷ ds) e = last_one x ds e

-- this design was the first of those to come, and is the last one given
pub record Steps {D : Type 0} (old new given behind : List D) (d : D) : Type 0 where
  pub next : old ≡ d ∷ new
  pub given_then : behind ≡ given ++ d ∷ []

pub stepped : {D : Type 0} (old new given behind : List D) (b : Bool) (d : D) → b ≡ true → b ≡ is_some (numbered 1 old) → GivesNext old new (numbered 1 old) → behind ≡ with_next given (numbered 1 old) → IsLast (Some d) behind
    → Steps old new given behind d
stepped [] new given behind b d is more gives e last = absurd (cc)
stepped (x ∷ xs) new given behind b d is more gives e last =
    let same : x ≡ d = sym (last_one x given x) ∙ ap (last_or x) (sym e ∙ last.1) ∙ last_one x last.0 d in
    subst (λ (y : _). Steps (x ∷ xs) new given behind y) same (record { next = gives; given_then = e })

pub if_ok : {A E : Type 0} (r : Result A E) (P Q : A → Type 0) → IfOk r P → ((x : A) → P x → Q x) → IfOk r Q
if_ok (Ok x) P Q p f = f x p
if_ok (Err e) P Q p f = tt

-- the designs of a listing are those that were given, and those to come
whole_of : (g : Stream) → designs_of g ≡ given_of g ++ to_come g
whole_of g = map-append (decoded g.setting) g.given g.left

at_length : {A : Type 0} (xs : List A) (x : A) (ys : List A) → slice_get (xs ++ x ∷ ys) (length xs) ≡ Some x
at_length [] x ys = refl
at_length (y ∷ xs) x ys = at_length xs x ys

-- the report was read as far as designs were given
pub record Goes (ty : TypeForm) (options : Options) (sig : Signature) (g : Stream) (bytes : List ℕ) (r : Reading) : Type 0 where
  pub listed : IsListing ty options.size options.kinds (designs_of g)
  pub counted : r.count ≡ length (given_of g)
  pub asked : r.count ≤ options.designs
  pub passed : r.passed ≤ UNDECIDED_LIMIT
  pub numbers : AreNumbers (signature_of ty) r.cited.items
  pub room : r.lines + length r.left.now ≤ length bytes
  pub comes : (v : Audit) → JudgesFrom (ask_of ty options (designs_of g)) (state_at sig r at_design) r.left.now v → JudgesFrom (ask_of ty options (designs_of g)) first_state bytes v

first_at : (sig : Signature) (r : Reading) (bytes : List ℕ) → IsFirst r bytes → state_at sig r at_design ≡ first_state
first_at sig r bytes first =
    same_state r.lines 0 r.count 0 r.passed 0 (histories_at sig r.cited.items) [] r.hidden None at_design first.lines first.count (ap (histories_at sig) first.cited) first.passed first.hidden

first_comes : (ty : TypeForm) (options : Options) (sig : Signature) (designs : List DesignForm) (bytes : List ℕ) (r : Reading) → IsFirst r bytes
    → (v : Audit) → JudgesFrom (ask_of ty options designs) (state_at sig r at_design) r.left.now v → JudgesFrom (ask_of ty options designs) first_state bytes v
first_comes ty options sig designs bytes r first v h =
    let P : State → Type 0 = λ s. JudgesFrom (ask_of ty options designs) s r.left.now v in
    let Q : List ℕ → Type 0 = λ left. JudgesFrom (ask_of ty options designs) first_state left v in
    subst Q first.left (subst P (first_at sig r bytes first) h)

pub goes_first : (ty : TypeForm) (options : Options) (sig : Signature) (g : Stream) (bytes : List ℕ) (r : Reading) → IsListing ty options.size options.kinds (designs_of g) → given_of g ≡ [] → IsFirst r bytes
    → Goes ty options sig g bytes r
goes_first ty options sig g bytes r listed none first =
    record {
      listed = listed;
      counted = first.count ∙ sym (ap length none);
      asked = let c = first.count in omega (arith, c);
      passed = let c = first.passed in omega (arith, c);
      numbers = subst (λ (ns : List ℕ). AreNumbers (signature_of ty) ns) (sym first.cited) (record { each = λ k d lt. absurd (omega (arith, lt)) });
      room = let c = first.lines in let l = ap length first.left in omega (arith, c, l);
      comes = first_comes ty options sig (designs_of g) bytes r first;
    }

-- this many designs of the listing were given
pub few_given : (ty : TypeForm) (options : Options) (sig : Signature) (g : Stream) (bytes : List ℕ) (r : Reading) → AreInRange options → Goes ty options sig g bytes r → length (given_of g) ≤ last_number
few_given ty options sig g bytes r ranges goes =
    let counted = goes.counted in
    let asked = goes.asked in
    let few = ranges.few_designs in
    omega (arith, counted, asked, few)

pub few_read : (ty : TypeForm) (options : Options) (sig : Signature) (g : Stream) (bytes : List ℕ) (r : Reading) → AreInRange options → Goes ty options sig g bytes r → r.count < 2 ^ 63
few_read ty options sig g bytes r ranges goes = let asked = goes.asked in let few = ranges.few_designs in omega (arith, asked, few)

pub few_passed : (ty : TypeForm) (options : Options) (sig : Signature) (g : Stream) (bytes : List ℕ) (r : Reading) → Goes ty options sig g bytes r → r.passed < 2 ^ 63
few_passed ty options sig g bytes r goes = let passed = goes.passed in omega (arith, passed)

-- the design that was given is the next one of the report
there_next : (ty : TypeForm) (options : Options) (sig : Signature) (g : Stream) (bytes : List ℕ) (r : Reading) (d : DesignForm) (rest : List DesignForm) → to_come g ≡ d ∷ rest
    → Goes ty options sig g bytes r → slice_get (designs_of g) r.count ≡ Some d
there_next ty options sig g bytes r d rest next goes =
    ap (λ (n : ℕ). slice_get (designs_of g) n) goes.counted
    ∙ ap (λ (ds : List DesignForm). slice_get ds (length (given_of g))) (whole_of g ∙ ap (λ (ds : List DesignForm). given_of g ++ ds) next)
    ∙ at_length (given_of g) d rest

pub is_next : (ty : TypeForm) (options : Options) (sig : Signature) (g : Stream) (bytes : List ℕ) (r : Reading) (d : DesignForm) (rest : List DesignForm) → to_come g ≡ d ∷ rest
    → (r.count < options.designs) × (r.passed < UNDECIDED_LIMIT) → Goes ty options sig g bytes r → IsNext (ask_of ty options (designs_of g)) (state_at sig r at_design) d
is_next ty options sig g bytes r d rest next going goes = record { there = there_next ty options sig g bytes r d rest next goes; asked = going.0; few = going.1 }

pub next_tryable : (ty : TypeForm) (options : Options) (sig : Signature) (g : Stream) (bytes : List ℕ) (r : Reading) (d : DesignForm) (rest : List DesignForm) → AreInRange options → to_come g ≡ d ∷ rest
    → Goes ty options sig g bytes r → IsTryable ty d
next_tryable ty options sig g bytes r d rest ranges next goes =
    listed_tryable ty options.size options.kinds (designs_of g) (length (given_of g)) d ranges.small_size goes.listed
    (ap (λ (ds : List DesignForm). slice_get ds (length (given_of g))) (whole_of g ∙ ap (λ (ds : List DesignForm). given_of g ++ ds) next) ∙ at_length (given_of g) d rest)

-- a design more
pub goes_on : (ty : TypeForm) (options : Options) (sig : Signature) (g h : Stream) (bytes : List ℕ) (r s : Reading) (d : DesignForm) → designs_of h ≡ designs_of g → given_of h ≡ given_of g ++ d ∷ []
    → (r.count < options.designs) × (r.passed < UNDECIDED_LIMIT) → IsBehind r s 1 1 → AreNumbers (signature_of ty) s.cited.items
    → ((v : Audit) → JudgesFrom (ask_of ty options (designs_of g)) (state_at sig s at_design) s.left.now v → JudgesFrom (ask_of ty options (designs_of g)) (state_at sig r at_design) r.left.now v)
    → Goes ty options sig g bytes r → Goes ty options sig h bytes s
goes_on ty options sig g h bytes r s d same given going behind numbers comes goes =
    let count = behind.count in
    let counted = goes.counted in
    let one = ap length given ∙ length-append (given_of g) (d ∷ []) in
    let less = going.0 in
    let few = going.1 in
    let passed = behind.passed in
    let room = behind.room in
    let fits = goes.room in
    let C : List DesignForm → Type 0 =
    λ ds. (v : Audit) → JudgesFrom (ask_of ty options ds) (state_at sig s at_design) s.left.now v → JudgesFrom (ask_of ty options ds) first_state bytes v in
    record {
      listed = subst (λ (ds : List DesignForm). IsListing ty options.size options.kinds ds) (sym same) goes.listed;
      counted = omega (arith, count, counted, one);
      asked = omega (arith, count, less);
      passed = omega (arith, passed, few);
      numbers = numbers;
      room = omega (arith, room, fits);
      comes = subst C (sym same) (λ v j. goes.comes v (comes v j));
    }

-- no design is next once as many were tried as may be
pub none_over : (ty : TypeForm) (options : Options) (designs : List DesignForm) (sig : Signature) (r : Reading) → (options.designs ≤ r.count) ⊎ (UNDECIDED_LIMIT ≤ r.passed)
    → (d : DesignForm) → IsNext (ask_of ty options designs) (state_at sig r at_design) d → ⊥
none_over ty options designs sig r (inl over) d next = let asked = next.asked in omega (arith, over, asked)
none_over ty options designs sig r (inr over) d next = let few = next.few in omega (arith, over, few)

-- nor once all were tried
pub tried_all : (ty : TypeForm) (options : Options) (sig : Signature) (g : Stream) (bytes : List ℕ) (r : Reading) → to_come g ≡ [] → Goes ty options sig g bytes r → r.count ≡ length (designs_of g)
tried_all ty options sig g bytes r none goes =
    let counted = goes.counted in
    let whole = ap length (whole_of g) ∙ length-append (given_of g) (to_come g) in
    let last = ap length none in
    omega (arith, counted, whole, last)

pub none_left : (ty : TypeForm) (options : Options) (sig : Signature) (g : Stream) (bytes : List ℕ) (r : Reading) → to_come g ≡ [] → Goes ty options sig g bytes r
    → (d : DesignForm) → IsNext (ask_of ty options (designs_of g)) (state_at sig r at_design) d → ⊥
none_left ty options sig g bytes r none goes d next =
    let all = tried_all ty options sig g bytes r none goes in
    let within = slice_get_within (designs_of g) r.count d next.there in
    omega (arith, all, within)

pub tried_some : (ty : TypeForm) (options : Options) (sig : Signature) (g : Stream) (bytes : List ℕ) (r : Reading) (d : DesignForm) (rest : List DesignForm) → to_come g ≡ d ∷ rest
    → Goes ty options sig g bytes r → r.count < length (designs_of g)
tried_some ty options sig g bytes r d rest next goes = slice_get_within (designs_of g) r.count d (there_next ty options sig g bytes r d rest next goes)

-- the verdict of the whole
pub audited : (ty : TypeForm) (options : Options) (sig : Signature) (g : Stream) (bytes : List ℕ) (r : Reading) (v : Audit) → Goes ty options sig g bytes r
    → JudgesFrom (ask_of ty options (designs_of g)) (state_at sig r at_design) r.left.now v → IsAudited ty options bytes v
audited ty options sig g bytes r v goes judged = record { designs = designs_of g; listing = goes.listed; judges = goes.comes v judged }

-- a type has few operations and queries
pub few_ops : (ty : SeqType) → length (type_form ty).ops ≤ item_limit → length ty.ops ≤ item_limit
few_ops ty few = let size : length (type_form ty).ops ≡ length ty.ops = length-map ty.ops operation_form in omega (arith, size, few)

pub few_queries : (ty : SeqType) → length (type_form ty).queries ≤ item_limit → length ty.queries ≤ item_limit
few_queries ty few = let size : length (type_form ty).queries ≡ length ty.queries = length-map ty.queries query_form in omega (arith, size, few)

-- the last line was judged, whether or not the listing has more designs
pub stopped_so : {E : Type 0} (o : Result Audit E) (ty : TypeForm) (options : Options) (sig : Signature) (g : Stream) (bytes : List ℕ) (r : Reading) (d : DesignForm) (rest : List DesignForm) → to_come g ≡ d ∷ rest
    → (options.designs ≤ r.count) ⊎ (UNDECIDED_LIMIT ≤ r.passed) → Goes ty options sig g bytes r
    → IfOk o (λ v. (ask : Ask) (s : Signature) → ask.size ≡ options.size → r.count < length ask.designs → ((e : DesignForm) → IsNext ask (state_at s r at_design) e → ⊥) → JudgesFrom ask (state_at s r at_design) r.left.now v)
    → IfOk o (IsAudited ty options bytes)
stopped_so (Ok v) ty options sig g bytes r d rest next over goes h =
    audited ty options sig g bytes r v goes (h (ask_of ty options (designs_of g)) sig refl (tried_some ty options sig g bytes r d rest next goes) (none_over ty options (designs_of g) sig r over))
stopped_so (Err e) ty options sig g bytes r d rest next over goes h = tt

pub ended_so : {E : Type 0} (o : Result Audit E) (ty : TypeForm) (options : Options) (sig : Signature) (g : Stream) (bytes : List ℕ) (r : Reading) → to_come g ≡ [] → Goes ty options sig g bytes r
    → IfOk o (λ v. (ask : Ask) (s : Signature) → ask.size ≡ options.size → r.count ≡ length ask.designs → ((e : DesignForm) → IsNext ask (state_at s r at_design) e → ⊥) → JudgesFrom ask (state_at s r at_design) r.left.now v)
    → IfOk o (IsAudited ty options bytes)
ended_so (Ok v) ty options sig g bytes r none goes h =
    audited ty options sig g bytes r v goes (h (ask_of ty options (designs_of g)) sig refl (tried_all ty options sig g bytes r none goes) (none_left ty options sig g bytes r none goes))
ended_so (Err e) ty options sig g bytes r none goes h = tt
