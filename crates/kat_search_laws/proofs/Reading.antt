-- A report of the search is read line by line.
use Rattle.std.proofs.Common.{◌≡◌, ℕ, zero, suc, ◌+◌, ◌<◌, ◌≤◌, nat_lt, nat_eq, if◌then◌else◌, ◌⊎◌, inl, inr, ⊎_elim, Bool, true, false, List, [], ◌∷◌, ◌++◌, length, map, take, append_assoc, Option, Some, None, refl, sym, ap, ◌∙◌, subst, arith}
use Rattle.std.specs.Prelude.{slice_get}
use Rattle.std.specs.List.{flat_map}
use Rattle.std.proofs.lemmas.Bool.Decides.{Decides-eqb}
use Rattle.std.proofs.lemmas.List.{append-nil, length_push, length-append}
use Rattle.kat_block.specs.Blocks.{IsDueIn, conjunct_in}
use Rattle.kat_candidate.specs.Candidates.{AreCandidates}
use Rattle.kat_candidate.specs.Places.{conjunct_at}
use Rattle.kat_design.specs.Designs.{DesignForm}
use Rattle.kat_drop.specs.Certificates.{DropForm, MayDropEach, dropped_by}
use Rattle.kat_histories.specs.declared.histories.History.{History}
use Rattle.kat_relation.specs.declared.relations.Conjunct.{Conjunct}
use Rattle.kat_said.specs.Judging.{Reads, lines_of}
use Rattle.kat_said.specs.Judging.Reads.{none_read, one_read}
use Rattle.kat_said.specs.Sayings.{IsLineOf, IsNarrowSaid, SaidForm, said_line}
use Rattle.kat_telling.specs.Entries.{AreTold, Entry, IsTold, Told, design_of, nothing_told, told_behind, told_by}
use Rattle.kat_telling.specs.Entries.Entry.{again, newly, undecided}
use Rattle.kat_telling.specs.Evidence.{Ending}
use Rattle.kat_telling.specs.Evidence.Ending.{fails as fails_at, is_spent, is_crowded, is_wide, is_long as is_too_long}
use Rattle.kat_telling.specs.Reports.{differs_line, drop_line, ending_line, entries_text, entry_text, history_line, none_line, stopped_line, told_text, undecided_block, undecided_line}
use Rattle.kat_search.specs.Verdicts.{AreTried, undecided_among}
use Rattle.kat_telling.specs.declared.limits.TheConstants.{UNDECIDED_LIMIT}
use Rattle.kat_type.specs.Signatures.{signature_of}
use Rattle.kat_type.specs.Types.{TypeForm}
use Rattle.kat_audit.specs.Audits.{ask_of}
use Rattle.kat_due.specs.Differences.{AgreesOn, FirstDiffersAt, histories_for}
use Rattle.kat_due.specs.Dues.{Due, IsNext, Phase, State, behind_refuted, behind_said, first_state, goes_to, last_line}
use Rattle.kat_due.specs.Dues.Due.{same_history, new_history, its_design, begins, says, last}
use Rattle.kat_due.specs.Dues.Phase.{at_design, cites, in_block, finished}
use Rattle.kat_due.specs.Texts as audit
use Rattle.kat_audit.specs.declared.options.Options.{Options}
use Rattle.kat_search_laws.specs.Evidences.{IsNotLong, said_drop, said_end, said_place}
use Rattle.kat_search_laws.specs.Reports.{EachLine, bounds}
use Rattle.kat_search_laws.proofs.Endings.{EndsWith, Kind, kind_line}
use Rattle.kat_search_laws.proofs.Endings.Kind.{none_kind, open_kind, cut_kind}
use Rattle.kat_search_laws.proofs.Evidence.{conjunct_same, drops_are_due, endings_are_due}
use Rattle.kat_search_laws.proofs.Fronts.{got, told_count, told_last}
use Rattle.kat_search_laws.proofs.Texts.{begin_same, differs_same, drop_same, due_drop_narrow, due_end_narrow, ending_same, history_same}

-- each text that is due is a line
pub record Cuts (ty : TypeForm) : Type 0 where
  pub differs : (n h : ℕ) (d : DesignForm) (rest : List ℕ) → lines_of (differs_line n h d ++ rest) ≡ differs_line n h d ∷ lines_of rest
  pub history : (n i : ℕ) (h : History) → slice_get (histories_for ty) i ≡ Some h → (rest : List ℕ) → lines_of (history_line (signature_of ty) n h ++ rest) ≡ history_line (signature_of ty) n h ∷ lines_of rest
  pub begin : (n : ℕ) (d : DesignForm) (rest : List ℕ) → lines_of (audit.begin_line n d ++ rest) ≡ audit.begin_line n d ∷ lines_of rest
  pub said : (s : SaidForm) → IsNarrowSaid s → (rest : List ℕ) → lines_of (said_line s ++ rest) ≡ said_line s ∷ lines_of rest
  pub none : (n : ℕ) (rest : List ℕ) → lines_of (none_line n ++ rest) ≡ none_line n ∷ lines_of rest
  pub undecided : (n : ℕ) (rest : List ℕ) → lines_of (undecided_line n ++ rest) ≡ undecided_line n ∷ lines_of rest
  pub stopped : (n m : ℕ) (rest : List ℕ) → lines_of (stopped_line n m ++ rest) ≡ stopped_line n m ∷ lines_of rest

-- what is reported of the evidence of entries, with whatever candidates it is
abbrev pub IsSeen : (DesignForm → List Conjunct → List ℕ → SaidForm → Type 0) → TypeForm → Entry → Type 0
IsSeen Q ty (again d place) = Unit {0}
IsSeen Q ty (newly d history) = Unit {0}
IsSeen Q ty (undecided d evidence) = (candidates : List Conjunct) → AreCandidates ty d candidates → EachLine (Q d candidates) [] evidence.drops evidence.ending

abbrev pub AreSeen : (DesignForm → List Conjunct → List ℕ → SaidForm → Type 0) → TypeForm → List Entry → Type 0
AreSeen Q ty [] = Unit {0}
AreSeen Q ty (e ∷ es) = IsSeen Q ty e × AreSeen Q ty es

-- no evidence ends with `long`
abbrev pub HasNoLong : Entry → Type 0
HasNoLong (again d place) = Unit {0}
HasNoLong (newly d history) = Unit {0}
HasNoLong (undecided d evidence) = IsNotLong evidence.ending

abbrev pub HaveNoLong : List Entry → Type 0
HaveNoLong [] = Unit {0}
HaveNoLong (e ∷ es) = HasNoLong e × HaveNoLong es

-- what agrees on all histories of a type agrees on those of them that are cited
abbrev AreAmong : TypeForm → List History → Type 0
AreAmong ty hs = (i : ℕ) (h : History) → slice_get hs i ≡ Some h → (j : ℕ) × (slice_get (histories_for ty) j ≡ Some h)

got_last : (hs : List History) (h k : History) (i : ℕ) → slice_get (hs ++ h ∷ []) i ≡ Some k → (slice_get hs i ≡ Some k) ⊎ (h ≡ k)
got_last [] h k zero e = inr (cc)
got_last [] h k (suc i) e = absurd (cc)
got_last (x ∷ xs) h k zero e = inl e
got_last (x ∷ xs) h k (suc i) e = got_last xs h k i e

among_last : (ty : TypeForm) (hs : List History) (h : History) (j : ℕ) → AreAmong ty hs → slice_get (histories_for ty) j ≡ Some h → AreAmong ty (hs ++ h ∷ [])
among_last ty hs h j all there i k e = ⊎_elim
    (λ (before : slice_get hs i ≡ Some k). all i k before)
    (λ (same : h ≡ k). let P : History → Type 0 = λ x. slice_get (histories_for ty) j ≡ Some x in (j, subst P same there))
    (got_last hs h k i e)

among_behind : (ty : TypeForm) (effort : ℕ) (told : Told) (e : Entry) → AreAmong ty told.cited → IsTold ty effort told e → AreAmong ty (told_behind told e).cited
among_behind ty effort told (again d place) all one = all
among_behind ty effort told (newly d h) all one = among_last ty told.cited h one.1.place all one.1.there
among_behind ty effort told (undecided d evidence) all one = all

agrees_among : (ty : TypeForm) (d : DesignForm) (hs : List History) → AgreesOn ty d (histories_for ty) → AreAmong ty hs → AgreesOn ty d hs
agrees_among ty d hs none all i h there differs = let at = all i h there in none at.0 h at.1 differs

-- the next design, by what was told
record Next (options : Options) (designs : List DesignForm) (told : Told) (d : DesignForm) : Type 0 where
  pub there : slice_get designs told.count ≡ Some d
  pub asked : told.count < options.designs
  pub few : length told.passed < UNDECIDED_LIMIT

abbrev AreNext : Options → List DesignForm → Told → List Entry → Type 0
AreNext options designs told [] = Unit {0}
AreNext options designs told (e ∷ es) = Next options designs told (design_of e) × AreNext options designs (told_behind told e) es

got_taken : (ds ms : List DesignForm) (n i : ℕ) → take n ds ≡ ms → i < n → (d : DesignForm) → slice_get ms i ≡ Some d → slice_get ds i ≡ Some d
got_taken ds ms zero i e less d there = absurd (omega (arith, less))
got_taken [] ms (suc n) i e less d there = ap (λ xs. slice_get xs i) e ∙ there
got_taken (x ∷ xs) ms (suc n) zero e less d there = ap (λ ys. slice_get ys 0) e ∙ there
got_taken (x ∷ xs) [] (suc n) (suc i) e less d there = absurd (cc)
got_taken (x ∷ xs) (m ∷ ms) (suc n) (suc i) e less d there = let rest : take n xs ≡ ms = cc in got_taken xs ms n i rest (omega (arith, less)) d there

got_entry : (front : List Entry) (e : Entry) (es : List Entry) → slice_get (map design_of (front ++ e ∷ es)) (length front) ≡ Some (design_of e)
got_entry [] e es = refl
got_entry (x ∷ xs) e es = got_entry xs e es

take_those : (front more : List Entry) → take (length front) (front ++ more) ≡ front
take_those [] more = refl
take_those (x ∷ xs) more = ap (λ ys. x ∷ ys) (take_those xs more)

are_next : (ty : TypeForm) (options : Options) (designs : List DesignForm) (front es : List Entry) → AreTried ty (bounds options) designs (front ++ es) → AreNext options designs (told_by nothing_told front) es
are_next ty options designs front [] tried = tt
are_next ty options designs front (e ∷ es) tried =
    let n = told_count nothing_told front in
    let size = length-append front (e ∷ es) in
    let count : (told_by nothing_told front).count ≡ length front = omega (arith, n) in
    let within : length front < length (front ++ e ∷ es) = omega (arith, size) in
    let few : undecided_among (take (length front) (front ++ e ∷ es)) < UNDECIDED_LIMIT = tried.few (length front) within in
    let asked : length (front ++ e ∷ es) ≤ options.designs = tried.asked in
    let P : List Entry → Type 0 = λ xs. undecided_among xs < UNDECIDED_LIMIT in
    let Q : List Entry → Type 0 = AreTried ty (bounds options) designs in
    let R : Told → Type 0 = λ told. AreNext options designs told es in (
      record {
        there = ap (slice_get designs) count ∙ got_taken designs (map design_of (front ++ e ∷ es)) (length (front ++ e ∷ es)) (length front) tried.first within (design_of e) (got_entry front e es);
        asked = omega (arith, count, within, asked);
        few = subst P (take_those front (e ∷ es)) few;
      },
      subst R (told_last nothing_told front e) (are_next ty options designs (front ++ e ∷ []) es (subst Q (sym (append_assoc front (e ∷ []) es)) tried)),
    )

-- a state says what was told
record Fits (s : State) (told : Told) (phase : Phase) : Type 0 where
  pub count : s.count ≡ told.count
  pub cited : s.cited ≡ told.cited
  pub passed : s.passed ≡ length told.passed
  pub at : s.phase ≡ phase

-- two texts, and three, in front of a rest
three_parts : (a b c rest : List ℕ) → ((a ++ b) ++ c) ++ rest ≡ a ++ (b ++ (c ++ rest))
three_parts a b c rest = append_assoc (a ++ b) c rest ∙ append_assoc a b (c ++ rest)

-- the last line
below_true : (a b : ℕ) → a < b → nat_lt a b ≡ true
below_true a b h = grind arith

below_false : (a b : ℕ) → b ≤ a → nat_lt a b ≡ false
below_false a b h = grind arith

some_false : (a : ℕ) → 1 ≤ a → nat_eq a 0 ≡ false
some_false a h = by_test (nat_eq a 0) refl
  where
    by_test : (t : Bool) → nat_eq a 0 ≡ t → nat_eq a 0 ≡ false
    by_test true e = let none : a ≡ 0 = (Decides-eqb a 0).0 e in absurd (omega (arith, none, h))
    by_test false e = e

module _ (ty : TypeForm) (options : Options) (designs : List DesignForm) (cuts : Cuts ty) (W : State → List ℕ → Type 0) (Q : DesignForm → List Conjunct → List ℕ → SaidForm → Type 0)
    (narrow : (d : DesignForm) (cs : List Conjunct) (ns : List ℕ) (said : SaidForm) → Q d cs ns said → IsNarrowSaid said)
    (outside : (s : State) (l : List ℕ) → ((cs : List Conjunct) (ns : List ℕ) → s.phase ≡ in_block cs ns → ⊥) → W s l → ⊥)
    (inside : (s : State) (l : List ℕ) (d : DesignForm) (cs : List Conjunct) (ns : List ℕ) (said : SaidForm) → s.phase ≡ in_block cs ns → IsNext (ask_of ty options designs) s d → IsLineOf l said → Q d cs ns said → W s l → ⊥) where
  -- lines that are due up to the last, after which nothing is hidden if some fact holds
  pub record Read (s : State) (ls : List (List ℕ)) (Short : Type 0) : Type 0 where
    pub end : State
    pub reads : Reads W (Due (ask_of ty options designs)) s ls end
    pub over : end.phase ≡ finished
    pub hidden : Short → s.hidden ≡ None → end.hidden ≡ None

  read_one : (s t : State) (l : List ℕ) (all ls : List (List ℕ)) (Short Shorter : Type 0) → all ≡ l ∷ ls → (W s l → ⊥) → Due (ask_of ty options designs) s l t → (Shorter → Short) → (Shorter → s.hidden ≡ None → t.hidden ≡ None)
      → Read t ls Short → Read s all Shorter
  read_one s t l all ls Short Shorter e slim due fewer kept more =
      let P : List (List ℕ) → Type 0 = λ xs. Reads W (Due (ask_of ty options designs)) s xs more.end in
      record { end = more.end; reads = subst P (sym e) (one_read slim due more.reads); over = more.over; hidden = λ short none. more.hidden (fewer short) (kept short none) }

  next_of : (s : State) (told : Told) (phase : Phase) (d : DesignForm) → Fits s told phase → Next options designs told d → IsNext (ask_of ty options designs) s d
  next_of s told phase d fits next =
      let c = fits.count in let p = fits.passed in let a = next.asked in let f = next.few in
      record { there = ap (slice_get designs) c ∙ next.there; asked = omega (arith, c, a); few = omega (arith, p, f) }

  design_out : (s : State) (phase : Phase) → s.phase ≡ at_design → (cs : List Conjunct) (ns : List ℕ) → s.phase ≡ in_block cs ns → ⊥
  design_out s phase e cs ns f = cc

  cites_out : (s : State) (h : History) → s.phase ≡ cites h → (cs : List Conjunct) (ns : List ℕ) → s.phase ≡ in_block cs ns → ⊥
  cites_out s h e cs ns f = cc

  -- the candidates that a block drops, and its end
  read_block : (told : Told) (d : DesignForm) (cs : List Conjunct) (dropped : List ℕ) (xs : List DropForm) (e : Ending) (rest : List ℕ) (s : State) (Short : Type 0) → Fits s told (in_block cs dropped)
      → Next options designs told d → MayDropEach ty d cs dropped xs → EachLine (Q d cs) dropped xs e → IsDueIn ty d cs options.effort (dropped ++ dropped_by xs) (said_end e)
      → ((t : State) → t.count ≡ told.count + 1 → t.cited ≡ told.cited → t.passed ≡ length told.passed + 1 → t.phase ≡ at_design → Read t (lines_of rest) Short)
      → Read s (lines_of (flat_map drop_line xs ++ (ending_line e ++ rest))) (IsNotLong e × Short)
  read_block told d cs dropped [] e rest s Short fits next may seen due more =
      let none : dropped ++ [] ≡ dropped = append-nil dropped in
      let P : List ℕ → Type 0 = λ ns. IsDueIn ty d cs options.effort ns (said_end e) in
      let small = due_end_narrow ty d cs options.effort (dropped ++ []) e due in
      let line : IsLineOf (ending_line e) (said_end e) = record { narrow = narrow d cs dropped (said_end e) seen; text = sym (ending_same e small) } in
      let is_next = next_of s told (in_block cs dropped) d fits next in
      let c = fits.count in let p = fits.passed in
      let cut : lines_of (ending_line e ++ rest) ≡ ending_line e ∷ lines_of rest = ap (λ l. lines_of (l ++ rest)) (sym (ending_same e small)) ∙ cuts.said (said_end e) line.narrow rest ∙ ap (λ l. l ∷ lines_of rest) (ending_same e small) in
      read_one s (behind_said s cs dropped (said_end e)) (ending_line e) (lines_of (ending_line e ++ rest)) (lines_of rest) Short (IsNotLong e × Short) cut
      (inside s (ending_line e) d cs dropped (said_end e) fits.at is_next line seen) (says d cs dropped (said_end e) fits.at is_next (subst P none due) line) (λ both. both.1) (λ both none. kept e both.0 none)
      (more (behind_said s cs dropped (said_end e)) (ends_count e ∙ omega (arith, c)) (ends_cited e ∙ fits.cited) (ends_passed e ∙ omega (arith, p)) (ends_at e))
    where
      ends_count : (x : Ending) → (behind_said s cs dropped (said_end x)).count ≡ s.count + 1
      ends_count (fails_at q point) = refl
      ends_count (is_spent at) = refl
      ends_count (is_crowded at a b c lits) = refl
      ends_count (is_wide at a b lits) = refl
      ends_count (is_too_long n) = refl

      ends_cited : (x : Ending) → (behind_said s cs dropped (said_end x)).cited ≡ s.cited
      ends_cited (fails_at q point) = refl
      ends_cited (is_spent at) = refl
      ends_cited (is_crowded at a b c lits) = refl
      ends_cited (is_wide at a b lits) = refl
      ends_cited (is_too_long n) = refl

      ends_passed : (x : Ending) → (behind_said s cs dropped (said_end x)).passed ≡ s.passed + 1
      ends_passed (fails_at q point) = refl
      ends_passed (is_spent at) = refl
      ends_passed (is_crowded at a b c lits) = refl
      ends_passed (is_wide at a b lits) = refl
      ends_passed (is_too_long n) = refl

      ends_at : (x : Ending) → (behind_said s cs dropped (said_end x)).phase ≡ at_design
      ends_at (fails_at q point) = refl
      ends_at (is_spent at) = refl
      ends_at (is_crowded at a b c lits) = refl
      ends_at (is_wide at a b lits) = refl
      ends_at (is_too_long n) = refl

      kept : (x : Ending) → IsNotLong x → s.hidden ≡ None → (behind_said s cs dropped (said_end x)).hidden ≡ None
      kept (fails_at q point) short none = none
      kept (is_spent at) short none = none
      kept (is_crowded at a b c lits) short none = none
      kept (is_wide at a b lits) short none = none
      kept (is_too_long n) short none = absurd short
  read_block told d cs dropped (x ∷ xs) e rest s Short fits next may seen due more =
      let ns : List ℕ = dropped ++ conjunct_at x.at in
      let dropping = drops_are_due ty d cs options.effort dropped x may.0 in
      let small = due_drop_narrow ty d cs options.effort dropped x dropping in
      let line : IsLineOf (drop_line x) (said_drop x) = record { narrow = narrow d cs dropped (said_drop x) seen.0; text = sym (drop_same x small) } in
      let is_next = next_of s told (in_block cs dropped) d fits next in
      let behind : List ℕ = flat_map drop_line xs ++ (ending_line e ++ rest) in
      let same : dropped ++ conjunct_in (said_place x.at) ≡ dropped ++ conjunct_at x.at = ap (λ m. dropped ++ m) (conjunct_same x.at) in
      let P : List ℕ → Type 0 = λ m. IsDueIn ty d cs options.effort m (said_end e) in
      let t : State = behind_said s cs dropped (said_drop x) in
      let cut : lines_of ((drop_line x ++ flat_map drop_line xs) ++ (ending_line e ++ rest)) ≡ drop_line x ∷ lines_of (flat_map drop_line xs ++ (ending_line e ++ rest)) =
      ap lines_of (append_assoc (drop_line x) (flat_map drop_line xs) (ending_line e ++ rest))
      ∙ ap (λ l. lines_of (l ++ behind)) (sym (drop_same x small)) ∙ cuts.said (said_drop x) line.narrow behind ∙ ap (λ l. l ∷ lines_of behind) (drop_same x small) in
      read_one s (behind_said s cs dropped (said_drop x)) (drop_line x) (lines_of ((drop_line x ++ flat_map drop_line xs) ++ (ending_line e ++ rest))) (lines_of (flat_map drop_line xs ++ (ending_line e ++ rest)))
      (IsNotLong e × Short) (IsNotLong e × Short) cut
      (inside s (drop_line x) d cs dropped (said_drop x) fits.at is_next line seen.0) (says d cs dropped (said_drop x) fits.at is_next dropping line) (λ both. both) (λ both none. none)
      (read_block told d cs (dropped ++ conjunct_at x.at) xs e rest (behind_said s cs dropped (said_drop x)) Short
      (record { count = fits.count; cited = fits.cited; passed = fits.passed; at = ap (in_block cs) same }) next may.1 seen.1
      (subst P (sym (append_assoc dropped (conjunct_at x.at) (dropped_by xs))) due) more)

  -- what is reported of a design
  read_entry : (told : Told) (e : Entry) (rest : List ℕ) (s : State) (Short : Type 0) → AreAmong ty told.cited → Fits s told at_design → Next options designs told (design_of e) → IsTold ty options.effort told e → IsSeen Q ty e
      → ((t : State) → Fits t (told_behind told e) at_design → Read t (lines_of rest) Short) → Read s (lines_of (entry_text (signature_of ty) told e ++ rest)) (HasNoLong e × Short)
  read_entry told (again d place) rest s Short among fits next one seen more =
      let c = fits.count in
      let line : differs_line (told.count + 1) (place + 1) d ≡ audit.differs_line (s.count + 1) (place + 1) d = ap (λ n. differs_line (n + 1) (place + 1) d) (sym c) ∙ sym (differs_same (s.count + 1) (place + 1) d) in
      let P : List History → Type 0 = λ hs. FirstDiffersAt ty d hs place in
      read_one s (behind_refuted s s.cited) (differs_line (told.count + 1) (place + 1) d) (lines_of (differs_line (told.count + 1) (place + 1) d ++ rest)) (lines_of rest) Short (Unit {0} × Short)
      (cuts.differs (told.count + 1) (place + 1) d rest) (outside s (differs_line (told.count + 1) (place + 1) d) (design_out s at_design fits.at))
      (same_history d place fits.at (next_of s told at_design d fits next) (subst P (sym fits.cited) one) line) (λ both. both.1) (λ both none. none)
      (more (behind_refuted s s.cited) (record { count = omega (arith, c); cited = fits.cited; passed = fits.passed; at = refl }))
  read_entry told (newly d h) rest s Short among fits next one seen more =
      let c = fits.count in
      let sig = signature_of ty in
      let first = one.1 in
      let t : State = goes_to s (cites h) in
      let other : List ℕ = differs_line (told.count + 1) (length told.cited + 1) d in
      let P : List History → Type 0 = λ hs. AgreesOn ty d hs in
      let line : history_line (signature_of ty) (length told.cited + 1) h ≡ audit.history_line (signature_of ty) (length s.cited + 1) h =
      ap (λ (hs : List History). history_line (signature_of ty) (length hs + 1) h) (sym fits.cited) ∙ sym (history_same (signature_of ty) (length s.cited + 1) h) in
      let its : differs_line (told.count + 1) (length told.cited + 1) d ≡ audit.differs_line (s.count + 1) (length s.cited + 1) d =
      ap (λ n. differs_line (n + 1) (length told.cited + 1) d) (sym c) ∙ ap (λ (hs : List History). differs_line (s.count + 1) (length hs + 1) d) (sym fits.cited)
      ∙ sym (differs_same (s.count + 1) (length s.cited + 1) d) in
      let next_is = next_of s told at_design d fits next in
      read_one s (goes_to s (cites h)) (history_line (signature_of ty) (length told.cited + 1) h)
      (lines_of ((history_line (signature_of ty) (length told.cited + 1) h ++ differs_line (told.count + 1) (length told.cited + 1) d) ++ rest)) (lines_of (other ++ rest)) Short (Unit {0} × Short)
      (ap lines_of (append_assoc (history_line (signature_of ty) (length told.cited + 1) h) other rest) ∙ cuts.history (length told.cited + 1) first.place h first.there (other ++ rest))
      (outside s (history_line (signature_of ty) (length told.cited + 1) h) (design_out s at_design fits.at))
      (new_history d h fits.at next_is (subst P (sym fits.cited) one.0) (record { place = first.place; there = first.there; first = first.first }) line) (λ both. both.1) (λ both none. none)
      (read_one (goes_to s (cites h)) (behind_refuted (goes_to s (cites h)) (s.cited ++ h ∷ [])) other (lines_of (other ++ rest)) (lines_of rest) Short Short
      (cuts.differs (told.count + 1) (length told.cited + 1) d rest) (outside (goes_to s (cites h)) other (cites_out (goes_to s (cites h)) h refl))
      (its_design d h refl (record { there = next_is.there; asked = next_is.asked; few = next_is.few }) its) (λ short. short) (λ short none. none)
      (more (behind_refuted (goes_to s (cites h)) (s.cited ++ h ∷ [])) (record { count = omega (arith, c); cited = ap (λ hs. hs ++ h ∷ []) fits.cited; passed = fits.passed; at = refl })))
  read_entry told (undecided d evidence) rest s Short among fits next one seen more =
      let c = fits.count in
      let stands = one.1 in
      let cs = stands.candidates in
      let t : State = goes_to s (in_block stands.candidates []) in
      let ends = endings_are_due ty d stands.candidates options.effort told.passed evidence.drops evidence.ending stands.are_candidates stands.ends in
      let begin : List ℕ = audit.begin_line (told.count + 1) d in
      let dropped : List ℕ = flat_map drop_line evidence.drops in
      let end : List ℕ = ending_line evidence.ending in
      let behind : List ℕ = dropped ++ (end ++ rest) in
      let P : List History → Type 0 = λ hs. AgreesOn ty d hs in
      let line : audit.begin_line (told.count + 1) d ≡ audit.begin_line (s.count + 1) d = ap (λ n. audit.begin_line (n + 1) d) (sym c) in
      let next_is = next_of s told at_design d fits next in
      let cut : lines_of (undecided_block (told.count + 1) d evidence ++ rest) ≡ audit.begin_line (told.count + 1) d ∷ lines_of (flat_map drop_line evidence.drops ++ (ending_line evidence.ending ++ rest)) =
      ap (λ b. lines_of (((b ++ dropped) ++ end) ++ rest)) (sym (begin_same (told.count + 1) d)) ∙ ap lines_of (three_parts begin dropped end rest) ∙ cuts.begin (told.count + 1) d behind in
      read_one s (goes_to s (in_block stands.candidates [])) (audit.begin_line (told.count + 1) d) (lines_of (undecided_block (told.count + 1) d evidence ++ rest))
      (lines_of (flat_map drop_line evidence.drops ++ (ending_line evidence.ending ++ rest))) (IsNotLong evidence.ending × Short) (IsNotLong evidence.ending × Short) cut
      (outside s (audit.begin_line (told.count + 1) d) (design_out s at_design fits.at))
      (begins d stands.candidates fits.at next_is (agrees_among ty d s.cited one.0 (let R : List History → Type 0 = AreAmong ty in subst R (sym fits.cited) among)) one.0 stands.are_candidates line)
      (λ both. both) (λ both none. none)
      (read_block told d stands.candidates [] evidence.drops evidence.ending rest (goes_to s (in_block stands.candidates [])) Short
      (record { count = fits.count; cited = fits.cited; passed = fits.passed; at = refl }) next ends.0 (seen stands.candidates stands.are_candidates) ends.1
      (λ u count cited passed at. more u (record { count = count; cited = cited; passed = passed ∙ sym (length_push told.passed _); at = at })))

  read_entries : (told : Told) (es : List Entry) (rest : List ℕ) (s : State) → AreAmong ty told.cited → Fits s told at_design → AreNext options designs told es → AreTold ty options.effort told es → AreSeen Q ty es
      → ((t : State) → Fits t (told_by told es) at_design → Read t (lines_of rest) (Unit {0})) → Read s (lines_of (entries_text (signature_of ty) told es ++ rest)) (HaveNoLong es)
  read_entries told [] rest s among fits next all seen more = more s fits
  read_entries told (e ∷ es) rest s among fits next all seen more =
      let sig = signature_of ty in
      let P : List ℕ → Type 0 = λ x. Read s (lines_of x) (HasNoLong e × HaveNoLong es) in
      subst P (sym (append_assoc (entry_text (signature_of ty) told e) (entries_text (signature_of ty) (told_behind told e) es) rest))
      (read_entry told e (entries_text (signature_of ty) (told_behind told e) es ++ rest) s (HaveNoLong es) among fits next.0 all.0 seen.0
      (λ t now. read_entries (told_behind told e) es rest t (among_behind ty options.effort told e among all.0) now next.1 all.1 seen.1 more))

  -- the last line
  ends_line : (entries : List Entry) (kind : Kind) (s : State) → Fits s (told_by nothing_told entries) at_design → EndsWith options designs entries kind → kind_line options entries kind ≡ last_line (ask_of ty options designs) s
  ends_line entries none_kind s fits ends =
      let n = told_count nothing_told entries in let e = ends.0 in let c = fits.count in let p = fits.passed in let q = ends.1 in
      let last_one : nat_lt s.count (length designs) ≡ false = below_false s.count (length designs) (omega (arith, n, e, c)) in
      let none : s.passed ≡ 0 = omega (arith, p, q) in
      let passed : nat_eq s.passed 0 ≡ true = (Decides-eqb s.passed 0).1 none in
      sym (ap (λ b. if b then stopped_line s.count options.size else if nat_eq s.passed 0 then none_line options.size else undecided_line options.size) last_one
      ∙ ap (λ b. if b then none_line options.size else undecided_line options.size) passed)
  ends_line entries open_kind s fits ends =
      let n = told_count nothing_told entries in let e = ends.0 in let c = fits.count in let p = fits.passed in let q = ends.1 in
      let last_one : nat_lt s.count (length designs) ≡ false = below_false s.count (length designs) (omega (arith, n, e, c)) in
      let passed : nat_eq s.passed 0 ≡ false = some_false s.passed (omega (arith, p, q)) in
      sym (ap (λ b. if b then stopped_line s.count options.size else if nat_eq s.passed 0 then none_line options.size else undecided_line options.size) last_one
      ∙ ap (λ b. if b then none_line options.size else undecided_line options.size) passed)
  ends_line entries cut_kind s fits ends =
      let n = told_count nothing_told entries in let e = ends.0 in let c = fits.count in
      let count : s.count ≡ length entries = omega (arith, n, c) in
      let more : nat_lt s.count (length designs) ≡ true = below_true s.count (length designs) (omega (arith, n, e, c)) in
      ap (λ k. stopped_line k options.size) (sym count)
      ∙ sym (ap (λ b. if b then stopped_line s.count options.size else if nat_eq s.passed 0 then none_line options.size else undecided_line options.size) more)

  none_next : (entries : List Entry) (kind : Kind) (s : State) → Fits s (told_by nothing_told entries) at_design → EndsWith options designs entries kind → (d : DesignForm) → IsNext (ask_of ty options designs) s d → ⊥
  none_next entries none_kind s fits ends d next = let n = told_count nothing_told entries in let c = fits.count in let g = (got designs s.count d next.there).0 in let e = ends.0 in omega (arith, n, g, e, c)
  none_next entries open_kind s fits ends d next = let n = told_count nothing_told entries in let c = fits.count in let g = (got designs s.count d next.there).0 in let e = ends.0 in omega (arith, n, g, e, c)
  none_next entries cut_kind s fits ends d next =
      let n = told_count nothing_told entries in let c = fits.count in let p = fits.passed in let asked : s.count < options.designs = next.asked in let few : s.passed < UNDECIDED_LIMIT = next.few in
      ⊎_elim (λ (e : length entries ≡ options.designs). omega (arith, n, c, asked, e)) (λ (e : undecided_among entries ≡ UNDECIDED_LIMIT). omega (arith, p, few, e)) ends.1

  cut_last : (entries : List Entry) (kind : Kind) → lines_of (kind_line options entries kind) ≡ kind_line options entries kind ∷ []
  cut_last entries none_kind = ap lines_of (sym (append-nil (none_line options.size))) ∙ cuts.none options.size []
  cut_last entries open_kind = ap lines_of (sym (append-nil (undecided_line options.size))) ∙ cuts.undecided options.size []
  cut_last entries cut_kind = ap lines_of (sym (append-nil (stopped_line (length entries) options.size))) ∙ cuts.stopped (length entries) options.size []

  pub read_report : (es : List Entry) (kind : Kind) (bytes : List ℕ) → AreTried ty (bounds options) designs es → AreSeen Q ty es → EndsWith options designs es kind → bytes ≡ told_text (signature_of ty) es ++ kind_line options es kind
      → Read first_state (lines_of bytes) (HaveNoLong es)
  read_report es kind bytes tried seen ends text =
      let P : List ℕ → Type 0 = λ x. Read first_state (lines_of x) (HaveNoLong es) in
      subst P (sym text)
      (read_entries nothing_told es (kind_line options es kind) first_state (λ i h e. absurd (nothing h e)) (record { count = refl; cited = refl; passed = refl; at = refl })
      (are_next ty options designs [] es tried) tried.told seen
      (λ t fits. read_one t (goes_to t finished) (kind_line options es kind) (lines_of (kind_line options es kind)) [] (Unit {0}) (Unit {0}) (cut_last es kind) (outside t (kind_line options es kind) (design_out t at_design fits.at))
      (last fits.at (none_next es kind t fits ends) (ends_line es kind t fits ends)) (λ short. short) (λ short none. none)
      (record { end = goes_to t finished; reads = none_read; over = refl; hidden = λ short none. none })))
    where
      nothing : (h : History) → ◌≡◌ {A = Option History} None (Some h) → ⊥
      nothing h e = cc
