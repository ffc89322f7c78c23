-- A report that is confirmed is read line by line.
use Rattle.std.proofs.Common.{◌≡◌, ℕ, suc, ◌+◌, ◌<◌, inl, inr, ◌==◌, if◌then◌else◌, Bool, true, false, List, [], ◌∷◌, ◌++◌, length, append_assoc, Option, Some, None, refl, sym, ap, ◌∙◌, subst, arith}
use Rattle.std.specs.List.{flat_map}
use Rattle.std.proofs.lemmas.Bool.Decides.{Decides-eqb}
use Rattle.std.proofs.lemmas.List.{append-nil, length_push}
use Rattle.kat_block.specs.Blocks.{IsDueIn, IsWideIn, conjunct_in}
use Rattle.kat_candidate.specs.Candidates.{AreCandidates}
use Rattle.kat_candidate.specs.Places.{conjunct_at}
use Rattle.kat_candidate.specs.declared.places.Place1.{Place1}
use Rattle.kat_candidate.specs.declared.places.Place1.TheVariants as theirs
use Rattle.kat_design.specs.Designs.{DesignForm}
use Rattle.kat_drop.specs.Certificates as drop
use Rattle.kat_drop.specs.Certificates.{DropForm, MayDrop, MayDropEach, dropped_by}
use Rattle.kat_histories.specs.declared.histories.History.{History}
use Rattle.kat_points.specs.Points.{PointForm}
use Rattle.kat_rules.specs.Listed.{IsListing}
use Rattle.kat_relation.specs.declared.relations.Conjunct.{Conjunct}
use Rattle.kat_said.specs.Judging.{Judges, lines_of, onto_first}
use Rattle.kat_said.specs.Judging.Judges.{too_wide, not_due, is_due, is_over, is_missing}
use Rattle.kat_said.specs.Sayings.{IsLineOf, SaidForm, said_line}
use Rattle.kat_said.specs.Sayings.SaidForm.{drops, fails, spends, crowds, widens, is_long}
use Rattle.kat_said.specs.declared.judging.Audit.{Audit}
use Rattle.kat_said.specs.declared.judging.Audit.TheVariants.{Confirmed}
use Rattle.kat_said.specs.declared.said.Place.{Place}
use Rattle.kat_said.specs.declared.said.Place.TheVariants as own
use Rattle.kat_telling.specs.Entries.{Entry, nothing_told, told_by}
use Rattle.kat_telling.specs.Entries.Entry.{again, newly, undecided}
use Rattle.kat_telling.specs.Evidence.{Ending, Evidence, Stands}
use Rattle.kat_telling.specs.Evidence.Ending.{fails as fails_at, is_spent, is_crowded, is_wide}
use Rattle.kat_telling.specs.Reports as search
use Rattle.kat_telling.specs.Reports.{drop_line, ending_line, entry_text, told_text}
use Rattle.kat_search.specs.Verdicts.{AreTried}
use Rattle.kat_telling.specs.declared.limits.TheConstants.{UNDECIDED_LIMIT}
use Rattle.kat_type.specs.Signatures.{signature_of}
use Rattle.kat_type.specs.Types.{TypeForm}
use Rattle.kat_audit.specs.Audits.{ask_of}
use Rattle.kat_due.specs.Differences.{AgreesOn, FirstDiffersAt, IsFirstDifference, histories_for}
use Rattle.kat_due.specs.Dues.{Due, IsNext, IsOver, IsWide, Phase, State, behind_block, behind_refuted, behind_said, first_state, goes_to, last_line, or_number, verdict_of}
use Rattle.kat_due.specs.Dues.Due.{same_history, new_history, its_design, begins, says, last}
use Rattle.kat_due.specs.Dues.Phase.{at_design, cites, in_block, finished}
use Rattle.kat_due.specs.Texts.{begin_line, history_line}
use Rattle.kat_audit.specs.declared.options.Options.{Options}
use Rattle.kat_search_laws.specs.Evidences.{IsNotLong, said_drop, said_end, said_place}
use Rattle.kat_search_laws.specs.Reports.{AreShown, ConfirmedAreReports, EachLine, IsShownEvidence, IsShownReport, IsSlim, bounds}
use Rattle.kat_search_laws.proofs.Determined.{one_design}
use Rattle.kat_search_laws.proofs.Endings.{Ends, EndsWith, Kind, at_last, kind_line}
use Rattle.kat_search_laws.proofs.Endings.Kind.{none_kind, open_kind, cut_kind}
use Rattle.kat_search_laws.proofs.Evidence.{due_drops_may_drop, due_endings_end}
use Rattle.kat_search_laws.proofs.Fronts.{Front, counted, front_more}
use Rattle.kat_search_laws.proofs.Texts.{begin_same, differs_same, drop_same, due_drop_narrow, due_end_narrow, ending_same, history_same}

-- what a line says, as the search tells it
abbrev place_of : Place → Place1
place_of (own.Start j) = theirs.Start j
place_of (own.Step o j) = theirs.Step o j
place_of (own.Query q) = theirs.Query q

place_back : (at : Place) → said_place (place_of at) ≡ at
place_back (own.Start j) = refl
place_back (own.Step o j) = refl
place_back (own.Query q) = refl

conjunct_back : (at : Place) → conjunct_at (place_of at) ≡ conjunct_in at
conjunct_back (own.Start j) = refl
conjunct_back (own.Step o j) = refl
conjunct_back (own.Query q) = refl

abbrev point_of : PointForm → drop.PointForm
point_of p = record { den = p.den; nums = p.nums; truths = p.truths }

abbrev drop_of : Place → PointForm → DropForm
drop_of at p = record { at = place_of at; point = point_of p }

drop_back : (at : Place) (p : PointForm) → said_drop (drop_of at p) ≡ drops at p
drop_back at p = ap (λ a. drops a p) (place_back at)

-- candidates that are dropped, one more
dropped_last : (xs : List DropForm) (x : DropForm) → dropped_by (xs ++ x ∷ []) ≡ dropped_by xs ++ conjunct_at x.at
dropped_last [] x = append-nil (conjunct_at x.at)
dropped_last (y ∷ ys) x = ap (λ ns. conjunct_at y.at ++ ns) (dropped_last ys x) ∙ sym (append_assoc (conjunct_at y.at) (dropped_by ys) (conjunct_at x.at))

drops_last : (ty : TypeForm) (d : DesignForm) (cs : List Conjunct) (before : List ℕ) (xs : List DropForm) (x : DropForm) → MayDropEach ty d cs before xs → MayDrop ty d cs (before ++ dropped_by xs) x → MayDropEach ty d cs before (xs ++ x ∷ [])
drops_last ty d cs before [] x all one = let P : List ℕ → Type 0 = λ ns. MayDrop ty d cs ns x in (subst P (append-nil before) one, tt)
drops_last ty d cs before (y ∷ ys) x all one =
    let P : List ℕ → Type 0 = λ ns. MayDrop ty d cs ns x in
    (all.0, drops_last ty d cs (before ++ conjunct_at y.at) ys x all.1 (subst P (sym (append_assoc before (conjunct_at y.at) (dropped_by ys))) one))

lines_last : (xs : List DropForm) (x : DropForm) → flat_map drop_line (xs ++ x ∷ []) ≡ flat_map drop_line xs ++ drop_line x
lines_last [] x = append-nil (drop_line x)
lines_last (y ∷ ys) x = ap (λ t. drop_line y ++ t) (lines_last ys x) ∙ sym (append_assoc (drop_line y) (flat_map drop_line ys) (drop_line x))

-- each line of the drops so far
abbrev pub EachDrop : (List ℕ → SaidForm → Type 0) → List ℕ → List DropForm → Type 0
EachDrop Says dropped [] = Unit {0}
EachDrop Says dropped (x ∷ xs) = Says dropped (said_drop x) × EachDrop Says (dropped ++ conjunct_at x.at) xs

slim_last : (Says : List ℕ → SaidForm → Type 0) (before : List ℕ) (xs : List DropForm) (x : DropForm) → EachDrop Says before xs → Says (before ++ dropped_by xs) (said_drop x) → EachDrop Says before (xs ++ x ∷ [])
slim_last Says before [] x all one = let P : List ℕ → Type 0 = λ ns. Says ns (said_drop x) in (subst P (append-nil before) one, tt)
slim_last Says before (y ∷ ys) x all one =
    let P : List ℕ → Type 0 = λ ns. Says ns (said_drop x) in
    (all.0, slim_last Says (before ++ conjunct_at y.at) ys x all.1 (subst P (sym (append_assoc before (conjunct_at y.at) (dropped_by ys))) one))

slim_end : (Says : List ℕ → SaidForm → Type 0) (before : List ℕ) (xs : List DropForm) (e : Ending) → EachDrop Says before xs → Says (before ++ dropped_by xs) (said_end e) → EachLine Says before xs e
slim_end Says before [] e all one = let P : List ℕ → Type 0 = λ ns. Says ns (said_end e) in subst P (append-nil before) one
slim_end Says before (y ∷ ys) e all one =
    let P : List ℕ → Type 0 = λ ns. Says ns (said_end e) in
    (all.0, slim_end Says (before ++ conjunct_at y.at) ys e all.1 (subst P (sym (append_assoc before (conjunct_at y.at) (dropped_by ys))) one))

-- a text that is put together in parts
two_parts : (a b c d : List ℕ) → (a ++ (b ++ c)) ++ d ≡ a ++ (b ++ (c ++ d))
two_parts a b c d = append_assoc a (b ++ c) d ∙ ap (λ x. a ++ x) (append_assoc b c d)

-- what hides nothing later hid nothing before
hidden_or : (o : Option ℕ) (n : ℕ) → or_number o n ≡ None → ⊥
hidden_or None n e = cc
hidden_or (Some m) n e = cc

hidden_said : (s : State) (cs : List Conjunct) (dropped : List ℕ) (said : SaidForm) → (behind_said s cs dropped said).hidden ≡ None → s.hidden ≡ None
hidden_said s cs dropped (drops at p) e = e
hidden_said s cs dropped (fails q p) e = e
hidden_said s cs dropped (spends at) e = e
hidden_said s cs dropped (crowds at a b c lits) e = e
hidden_said s cs dropped (widens at a b lits) e = e
hidden_said s cs dropped (is_long n) e = absurd (hidden_or s.hidden (s.lines + 1) e)

-- all lines
abbrev joined : List (List ℕ) → List ℕ
joined [] = []
joined (l ∷ ls) = l ++ joined ls

module _ (ty : TypeForm) (options : Options) (designs : List DesignForm) where
  hidden_back : (s t : State) (l : List ℕ) → Due (ask_of ty options designs) s l t → t.hidden ≡ None → s.hidden ≡ None
  hidden_back s _ l (same_history d place at next first is) e = e
  hidden_back s _ l (new_history d h at next agrees first is) e = e
  hidden_back s _ l (its_design d h at next is) e = e
  hidden_back s _ l (begins d cs at next cited agrees candidates is) e = e
  hidden_back s _ l (says d cs dropped said at next due line) e = hidden_said s cs dropped said e
  hidden_back s _ l (last at none is) e = e

  -- what was read so far, by where a report is read
  record AtDesign (s : State) (text : List ℕ) : Type 0 where
    pub entries : List Entry
    pub front : Front ty options designs s entries text

  record AtHistory (s : State) (h : History) (text : List ℕ) : Type 0 where
    pub entries : List Entry
    pub before : List ℕ
    pub front : Front ty options designs s entries before
    pub design : DesignForm
    pub next : IsNext (ask_of ty options designs) s design
    pub agrees : AgreesOn ty design s.cited
    pub first : IsFirstDifference ty design (histories_for ty) h
    pub text_is : text ≡ before ++ history_line (signature_of ty) (length s.cited + 1) h

  record InBlock (s : State) (cs : List Conjunct) (dropped : List ℕ) (text : List ℕ) : Type 0 where
    pub entries : List Entry
    pub before : List ℕ
    pub front : Front ty options designs s entries before
    pub design : DesignForm
    pub next : IsNext (ask_of ty options designs) s design
    pub agrees : AgreesOn ty design (histories_for ty)
    pub candidates : AreCandidates ty design cs
    pub drops' : List DropForm
    pub may : MayDropEach ty design cs [] drops'
    pub slim : EachDrop (IsSlim ty design cs) [] drops'
    pub dropped_is : dropped ≡ dropped_by drops'
    pub text_is : text ≡ before ++ (begin_line (s.count + 1) design ++ flat_map drop_line drops')

  record AtEnd (s : State) (text : List ℕ) : Type 0 where
    pub entries : List Entry
    pub before : List ℕ
    pub front : Front ty options designs s entries before
    pub kind : Kind
    pub ends : EndsWith options designs entries kind
    pub text_is : text ≡ before ++ kind_line options entries kind

  abbrev Stood : State → List ℕ → Phase → Type 0
  Stood s text at_design = AtDesign s text
  Stood s text (cites h) = AtHistory s h text
  Stood s text (in_block cs dropped) = InBlock s cs dropped text
  Stood s text finished = AtEnd s text

  -- the same beginning, with another phase alone
  front_to : (s : State) (phase : Phase) (entries : List Entry) (text : List ℕ) → Front ty options designs s entries text → Front ty options designs (goes_to s phase) entries text
  front_to s phase entries text f = record { tried = f.tried; shown = f.shown; count = f.count; cited = f.cited; passed = f.passed; within = f.within; text_is = f.text_is }

  front_along : (s : State) (entries : List Entry) (text other : List ℕ) → text ≡ other → Front ty options designs s entries text → Front ty options designs s entries other
  front_along s entries text other e front = let P : List ℕ → Type 0 = Front ty options designs s entries in subst P e front

  next_to : (s : State) (phase : Phase) (d : DesignForm) → IsNext (ask_of ty options designs) s d → IsNext (ask_of ty options designs) (goes_to s phase) d
  next_to s phase d next = record { there = next.there; asked = next.asked; few = next.few }

  -- a candidate is dropped
  drops_one : (s : State) (cs : List Conjunct) (dropped l text : List ℕ) (at : Place) (p : PointForm) (b : InBlock s cs dropped text) → IsDueIn ty b.design cs options.effort dropped (drops at p) → IsLineOf l (drops at p)
      → (IsWideIn ty b.design cs dropped (drops at p) → ⊥) → InBlock (goes_to s (in_block cs (dropped ++ conjunct_in at))) cs (dropped ++ conjunct_in at) (text ++ l)
  drops_one s cs dropped l text at p b due line slim =
      let x = drop_of at p in
      let begin : List ℕ = begin_line (s.count + 1) b.design in
      let P : SaidForm → Type 0 = λ said. IsDueIn ty b.design cs options.effort dropped said in
      let R : List ℕ → Type 0 = λ ns. MayDrop ty b.design cs ns (drop_of at p) in
      let Q : SaidForm → Type 0 = λ said. IsSlim ty b.design cs dropped said in
      let S : List ℕ → Type 0 = λ ns. IsSlim ty b.design cs ns (said_drop (drop_of at p)) in
      let one : IsSlim ty b.design cs dropped (drops at p) = record { narrow = line.narrow; slim = slim } in
      let small = due_drop_narrow ty b.design cs options.effort dropped (drop_of at p) (subst P (sym (drop_back at p)) due) in
      let line_is : l ≡ drop_line (drop_of at p) = line.text ∙ ap said_line (sym (drop_back at p)) ∙ drop_same (drop_of at p) small in
      record {
        entries = b.entries;
        before = b.before;
        front = front_to s (in_block cs (dropped ++ conjunct_in at)) b.entries b.before b.front;
        design = b.design;
        next = next_to s (in_block cs (dropped ++ conjunct_in at)) b.design b.next;
        agrees = b.agrees;
        candidates = b.candidates;
        drops' = b.drops' ++ drop_of at p ∷ [];
        may = drops_last ty b.design cs [] b.drops' (drop_of at p) b.may (subst R b.dropped_is (due_drops_may_drop ty b.design cs options.effort dropped (drop_of at p) (subst P (sym (drop_back at p)) due)));
        slim = slim_last (IsSlim ty b.design cs) [] b.drops' (drop_of at p) b.slim (subst S b.dropped_is (subst Q (sym (drop_back at p)) one));
        dropped_is = ap (λ ns. ns ++ conjunct_in at) b.dropped_is ∙ ap (λ ns. dropped_by b.drops' ++ ns) (sym (conjunct_back at)) ∙ sym (dropped_last b.drops' (drop_of at p));
        text_is = ap (λ y. y ++ l) b.text_is ∙ ap (λ y. (b.before ++ (begin ++ flat_map drop_line b.drops')) ++ y) line_is ∙ two_parts b.before begin (flat_map drop_line b.drops') (drop_line (drop_of at p))
            ∙ ap (λ y. b.before ++ (begin ++ y)) (sym (lines_last b.drops' (drop_of at p)));
      }

  -- a block ends
  closes : (s : State) (cs : List Conjunct) (dropped l text : List ℕ) (e : Ending) (b : InBlock s cs dropped text) → IsNotLong e → IsDueIn ty b.design cs options.effort dropped (said_end e) → IsLineOf l (said_end e)
      → (IsWideIn ty b.design cs dropped (said_end e) → ⊥) → AtDesign (behind_block s s.hidden) (text ++ l)
  closes s cs dropped l text e b short due line slim =
      let told = told_by nothing_told b.entries in
      let P : List ℕ → Type 0 = λ ns. IsDueIn ty b.design cs options.effort ns (said_end e) in
      let S : List ℕ → Type 0 = λ ns. IsSlim ty b.design cs ns (said_end e) in
      let one : IsSlim ty b.design cs dropped (said_end e) = record { narrow = line.narrow; slim = slim } in
      let evidence : Evidence = record { drops = b.drops'; ending = e } in
      let stands : Stands ty b.design options.effort (told_by nothing_told b.entries).passed (record { drops = b.drops'; ending = e }) = record {
        candidates = cs;
        are_candidates = b.candidates;
        ends = due_endings_end ty b.design cs options.effort (told_by nothing_told b.entries).passed b.drops' e b.may short line.narrow (subst P b.dropped_is due);
      } in
      let shows : IsShownEvidence ty b.design (record { drops = b.drops'; ending = e }) = record {
        candidates = cs;
        are_candidates = b.candidates;
        slim = slim_end (IsSlim ty b.design cs) [] b.drops' e b.slim (subst S b.dropped_is one);
        not_long = short;
      } in
      let block : List ℕ = begin_line (s.count + 1) b.design ++ flat_map drop_line b.drops' in
      let line_is : l ≡ ending_line e = line.text ∙ ending_same e (due_end_narrow ty b.design cs options.effort dropped e due) in
      let few : s.passed < UNDECIDED_LIMIT = b.next.few in
      let text_of : (begin_line (s.count + 1) b.design ++ flat_map drop_line b.drops') ++ l ≡ search.undecided_block ((told_by nothing_told b.entries).count + 1) b.design (record { drops = b.drops'; ending = e }) =
      ap (λ y. block ++ y) line_is ∙ ap (λ n. (begin_line (n + 1) b.design ++ flat_map drop_line b.drops') ++ ending_line e) (sym (counted ty options designs s b.entries b.before b.front))
      ∙ ap (λ y. (y ++ flat_map drop_line b.drops') ++ ending_line e) (begin_same ((told_by nothing_told b.entries).count + 1) b.design) in
      record {
        entries = b.entries ++ undecided b.design evidence ∷ [];
        front = front_along (behind_block s s.hidden) (b.entries ++ undecided b.design evidence ∷ []) (b.before ++ (block ++ l)) (text ++ l) (sym (append_assoc b.before block l) ∙ ap (λ x. x ++ l) (sym b.text_is))
            (front_more ty options designs s (behind_block s s.hidden) b.entries (undecided b.design evidence) b.before (block ++ l) b.front b.next (b.agrees, stands) shows refl b.front.cited
            (ap (λ n. n + 1) b.front.passed ∙ sym (length_push told.passed _)) (omega (arith, few)) text_of);
      }

  said : (s : State) (cs : List Conjunct) (dropped l text : List ℕ) (said : SaidForm) (b : InBlock s cs dropped text) → IsDueIn ty b.design cs options.effort dropped said → IsLineOf l said → (IsWideIn ty b.design cs dropped said → ⊥)
      → (behind_said s cs dropped said).hidden ≡ None → Stood (behind_said s cs dropped said) (text ++ l) (behind_said s cs dropped said).phase
  said s cs dropped l text (drops at p) b due line slim none = drops_one s cs dropped l text at p b due line slim
  said s cs dropped l text (fails q p) b due line slim none = closes s cs dropped l text (fails_at q (point_of p)) b tt due line slim
  said s cs dropped l text (spends at) b due line slim none =
      let P : Place → Type 0 = λ a. IsDueIn ty b.design cs options.effort dropped (spends a) → IsLineOf l (spends a) → (IsWideIn ty b.design cs dropped (spends a) → ⊥) → AtDesign (behind_block s s.hidden) (text ++ l) in
      subst P (place_back at) (closes s cs dropped l text (is_spent (place_of at)) b tt) due line slim
  said s cs dropped l text (crowds at m n r lits) b due line slim none =
      let P : Place → Type 0 = λ a. IsDueIn ty b.design cs options.effort dropped (crowds a m n r lits) → IsLineOf l (crowds a m n r lits) → (IsWideIn ty b.design cs dropped (crowds a m n r lits) → ⊥) → AtDesign (behind_block s s.hidden) (text ++ l) in
      subst P (place_back at) (closes s cs dropped l text (is_crowded (place_of at) m n r lits) b tt) due line slim
  said s cs dropped l text (widens at m n lits) b due line slim none =
      let P : Place → Type 0 = λ a. IsDueIn ty b.design cs options.effort dropped (widens a m n lits) → IsLineOf l (widens a m n lits) → (IsWideIn ty b.design cs dropped (widens a m n lits) → ⊥) → AtDesign (behind_block s s.hidden) (text ++ l) in
      subst P (place_back at) (closes s cs dropped l text (is_wide (place_of at) m n lits) b tt) due line slim
  said s cs dropped l text (is_long n) b due line slim none = absurd (hidden_or s.hidden (s.lines + 1) none)

  -- one more line
  step : (s t : State) (l text : List ℕ) → Stood s text s.phase → (IsWide (ask_of ty options designs) s l → ⊥) → Due (ask_of ty options designs) s l t → t.hidden ≡ None → Stood t (text ++ l) t.phase
  step s _ l text stood slim (same_history d place at next first is) none =
      let P : Phase → Type 0 = Stood s text in
      let b : AtDesign s text = subst P at stood in
      let Q : List History → Type 0 = λ hs. FirstDiffersAt ty d hs place in
      record {
        entries = b.entries ++ again d place ∷ [];
        front = front_more ty options designs s (behind_refuted s s.cited) b.entries (again d place) text l b.front next (subst Q b.front.cited first) tt refl b.front.cited b.front.passed b.front.within
            (is ∙ differs_same (s.count + 1) (place + 1) d ∙ ap (λ n. search.differs_line (n + 1) (place + 1) d) (sym (counted ty options designs s b.entries text b.front)));
      }
  step s _ l text stood slim (new_history d h at next agrees first is) none =
      let P : Phase → Type 0 = Stood s text in
      let b : AtDesign s text = subst P at stood in
      record {
        entries = b.entries;
        before = text;
        front = front_to s (cites h) b.entries text b.front;
        design = d;
        next = next_to s (cites h) d next;
        agrees = agrees;
        first = first;
        text_is = ap (λ x. text ++ x) is;
      }
  step s _ l text stood slim (its_design d h at next is) none =
      let P : Phase → Type 0 = Stood s text in
      let b : AtHistory s h text = subst P at stood in
      let t : State = behind_refuted s (s.cited ++ h ∷ []) in
      let Q : List History → Type 0 = AgreesOn ty b.design in
      let same : d ≡ b.design = one_design (ask_of ty options designs) s d b.design next b.next in
      let sig = signature_of ty in
      let line : List ℕ = history_line (signature_of ty) (length s.cited + 1) h in
      let first = b.first in
      let text_of : history_line (signature_of ty) (length s.cited + 1) h ++ l
      ≡ search.history_line (signature_of ty) (length (told_by nothing_told b.entries).cited + 1) h
      ++ search.differs_line ((told_by nothing_told b.entries).count + 1) (length (told_by nothing_told b.entries).cited + 1) b.design =
      ap (λ x. line ++ x) (is ∙ differs_same (s.count + 1) (length s.cited + 1) d ∙ ap (λ e. search.differs_line (s.count + 1) (length s.cited + 1) e) same
      ∙ ap (λ n. search.differs_line (n + 1) (length s.cited + 1) b.design) (sym (counted ty options designs s b.entries b.before b.front)))
      ∙ ap (λ x. x ++ search.differs_line ((told_by nothing_told b.entries).count + 1) (length s.cited + 1) b.design) (history_same (signature_of ty) (length s.cited + 1) h)
      ∙ ap (λ (hs : List History). search.history_line (signature_of ty) (length hs + 1) h ++ search.differs_line ((told_by nothing_told b.entries).count + 1) (length hs + 1) b.design) b.front.cited in
      record {
        entries = b.entries ++ newly b.design h ∷ [];
        front = front_along t (b.entries ++ newly b.design h ∷ []) (b.before ++ (line ++ l)) (text ++ l) (sym (append_assoc b.before line l) ∙ ap (λ x. x ++ l) (sym b.text_is))
            (front_more ty options designs s t b.entries (newly b.design h) b.before (line ++ l) b.front b.next
            (subst Q b.front.cited b.agrees, record { place = first.place; there = first.there; first = first.first }) tt refl (ap (λ hs. hs ++ h ∷ []) b.front.cited) b.front.passed b.front.within text_of);
      }
  step s _ l text stood slim (begins d cs at next cited agrees candidates is) none =
      let P : Phase → Type 0 = Stood s text in
      let b : AtDesign s text = subst P at stood in
      record {
        entries = b.entries;
        before = text;
        front = front_to s (in_block cs []) b.entries text b.front;
        design = d;
        next = next_to s (in_block cs []) d next;
        agrees = agrees;
        candidates = candidates;
        drops' = [];
        may = tt;
        slim = tt;
        dropped_is = refl;
        text_is = ap (λ x. text ++ x) (is ∙ sym (append-nil (begin_line (s.count + 1) d)));
      }
  step s _ l text stood slim (says d cs dropped what at next due line) none =
      let P : Phase → Type 0 = Stood s text in
      let b : InBlock s cs dropped text = subst P at stood in
      let same : d ≡ b.design = one_design (ask_of ty options designs) s d b.design next b.next in
      let Q : DesignForm → Type 0 = λ e. IsDueIn ty e cs options.effort dropped what in
      said s cs dropped l text what b (subst Q same due) line (λ wide. slim (record { d = b.design; candidates = cs; dropped = dropped; said = what; place = at; next = b.next; line = line; wide = wide })) none
  step s _ l text stood slim (last at none' is) none =
      let P : Phase → Type 0 = Stood s text in
      let b : AtDesign s text = subst P at stood in
      let e : Ends options designs (last_line (ask_of ty options designs) s) b.entries = at_last ty options designs s b.entries text b.front none' in
      record {
        entries = b.entries;
        before = text;
        front = front_to s finished b.entries text b.front;
        kind = e.kind;
        ends = e.ends;
        text_is = ap (λ x. text ++ x) (is ∙ e.line);
      }

  shown_over : (s : State) → IsOver s Confirmed → s.hidden ≡ None
  shown_over s over = by_hidden s.hidden over.told
    where
      by_hidden : (o : Option ℕ) → Confirmed ≡ verdict_of o → o ≡ None
      by_hidden None e = refl
      by_hidden (Some n) e = absurd (cc)

  -- nothing is hidden after lines that are confirmed, so nothing is before
  shown_before : (n : ℕ) (s : State) (ls : List (List ℕ)) (v : Audit) → v ≡ Confirmed → Judges (IsWide (ask_of ty options designs)) (Due (ask_of ty options designs)) IsOver n s ls v → s.hidden ≡ None
  shown_before n s _ _ e (too_wide wide) = absurd (cc)
  shown_before n s _ _ e (not_due slim none) = absurd (cc)
  shown_before n s _ v e (is_due {t = t} {l = l} {ls = ls} slim due more) = hidden_back s t l due (shown_before (suc n) t ls v e more)
  shown_before n s _ v e (is_over over) = let P : Audit → Type 0 = IsOver s in shown_over s (subst P e over)
  shown_before n s _ _ e (is_missing none) = absurd (cc)

  all_read : (n : ℕ) (s : State) (ls : List (List ℕ)) (v : Audit) (text : List ℕ) → v ≡ Confirmed → Stood s text s.phase → Judges (IsWide (ask_of ty options designs)) (Due (ask_of ty options designs)) IsOver n s ls v
      → (end : State) × AtEnd end (text ++ joined ls)
  all_read n s _ _ text e stood (too_wide wide) = absurd (cc)
  all_read n s _ _ text e stood (not_due slim none) = absurd (cc)
  all_read n s _ v text e stood (is_due {t = t} {l = l} {ls = ls} slim due more) =
      let rest = all_read (suc n) t ls v (text ++ l) e (step s t l text stood slim due (shown_before (suc n) t ls v e more)) more in
      let P : List ℕ → Type 0 = AtEnd rest.0 in
      (rest.0, subst P (append_assoc text l (joined ls)) rest.1)
  all_read n s _ v text e stood (is_over over) =
      let P : Phase → Type 0 = Stood s text in
      let Q : List ℕ → Type 0 = AtEnd s in
      (s, subst Q (sym (append-nil text)) (subst P over.ended stood))
  all_read n s _ _ text e stood (is_missing none) = absurd (cc)

  nothing_read : AtDesign first_state []
  nothing_read = record {
    entries = [];
    front = record {
      tried = record { first = refl; told = tt; asked = omega arith; few = λ n less. absurd (omega (arith, less)) };
      shown = tt;
      count = refl;
      cited = refl;
      passed = refl;
      within = omega arith;
      text_is = refl;
    };
  }

-- the lines of a text are the text
joined_onto : (b : ℕ) (ls : List (List ℕ)) → joined (onto_first b ls) ≡ b ∷ joined ls
joined_onto b [] = refl
joined_onto b (l ∷ ls) = refl

joined_lines : (bs : List ℕ) → joined (lines_of bs) ≡ bs
joined_lines [] = refl
joined_lines (b ∷ bs) = by_test (b == 10) refl (joined_lines bs)
  where
    by_test : (t : Bool) → (b == 10) ≡ t → joined (lines_of bs) ≡ bs → joined (if t then (10 ∷ []) ∷ lines_of bs else onto_first b (lines_of bs)) ≡ b ∷ bs
    by_test true e rest = ap (λ xs. 10 ∷ xs) rest ∙ ap (λ x. x ∷ bs) (sym ((Decides-eqb b 10).0 e))
    by_test false e rest = joined_onto b (lines_of bs) ∙ ap (λ xs. b ∷ xs) rest

-- whichever the last line names
by_kind : (ty : TypeForm) (options : Options) (bytes : List ℕ) (designs : List DesignForm) (listing : IsListing ty options.size options.kinds designs) (entries : List Entry) (tried : AreTried ty (bounds options) designs entries)
    (shown : AreShown ty entries) (kind : Kind) → EndsWith options designs entries kind → bytes ≡ told_text (signature_of ty) entries ++ kind_line options entries kind → IsShownReport ty (bounds options) bytes
by_kind ty options bytes designs listing entries tried shown none_kind ends is = inl (record { designs = designs; listing = listing; entries = entries; tried = tried; all = ends.0; none_open = ends.1; text = is }, shown)
by_kind ty options bytes designs listing entries tried shown open_kind ends is = inr (inl (record { designs = designs; listing = listing; entries = entries; tried = tried; all = ends.0; some_open = ends.1; text = is }, shown))
by_kind ty options bytes designs listing entries tried shown cut_kind ends is = inr (inr (record { designs = designs; listing = listing; entries = entries; tried = tried; more = ends.0; over = ends.1; text = is }, shown))

pub confirmed_are_reports : ConfirmedAreReports
confirmed_are_reports ty options bytes audited =
    let read = all_read ty options audited.designs 0 first_state (lines_of bytes) Confirmed [] refl (nothing_read ty options audited.designs) audited.judges in
    let e = read.1 in
    by_kind ty options bytes audited.designs audited.listing e.entries e.front.tried e.front.shown e.kind e.ends
    (sym (joined_lines bytes) ∙ e.text_is ∙ ap (λ x. x ++ kind_line options e.entries e.kind) e.front.text_is)
