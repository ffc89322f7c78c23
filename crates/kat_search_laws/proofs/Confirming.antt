-- What an audit says of a report of the search.
use Rattle.std.proofs.Common.{◌≡◌, ℕ, suc, inl, inr, List, [], ◌∷◌, ◌++◌, Option, Some, None, refl, sym, ap, subst}
use Rattle.kat_block.specs.Blocks.{IsWideIn}
use Rattle.kat_candidate.proofs.Determined.{one_candidates}
use Rattle.kat_design.specs.Designs.{DesignForm}
use Rattle.kat_drop.specs.Certificates.{DropForm}
use Rattle.kat_gram.proofs.OneListing.{one_listing}
use Rattle.kat_hist.specs.Words.{HasWords}
use Rattle.kat_relation.specs.declared.relations.Conjunct.{Conjunct}
use Rattle.kat_rules.specs.Listed.{IsListing}
use Rattle.kat_said.specs.Judging.{Judges, Reads, lines_of}
use Rattle.kat_said.specs.Judging.Judges.{too_wide, not_due, is_due, is_over, is_missing}
use Rattle.kat_said.specs.Judging.Reads.{none_read, one_read}
use Rattle.kat_said.specs.Sayings.{IsLineOf, IsNarrowSaid, SaidForm}
use Rattle.kat_said.specs.declared.judging.Audit.{Audit}
use Rattle.kat_said.specs.declared.judging.Audit.TheVariants.{Bad, Confirmed, NotShown, WidePoint}
use Rattle.kat_said.proofs.Lines.{one_saying}
use Rattle.kat_telling.specs.Entries.{Entry, nothing_told}
use Rattle.kat_telling.specs.Entries.Entry.{again, newly, undecided}
use Rattle.kat_telling.specs.Evidence.{Ending}
use Rattle.kat_telling.specs.Narrow.{AreNarrow}
use Rattle.kat_telling.specs.Reports.{told_text}
use Rattle.kat_search.specs.Verdicts.{AreTried}
use Rattle.kat_search.specs.declared.outcome.Outcome.TheVariants as outcome
use Rattle.kat_type.specs.Signatures.{signature_of}
use Rattle.kat_type.specs.Types.{TypeForm}
use Rattle.kat_audit.specs.Audits.{IsAudited, ask_of}
use Rattle.kat_due.specs.Dues.{Ask, Due, IsNext, IsOver, IsWide, State, first_state, verdict_of}
use Rattle.kat_due.specs.Dues.Phase.{in_block, finished}
use Rattle.kat_audit.specs.declared.options.Options.{Options}
use Rattle.kat_search_laws.specs.Reports.{AnswersAreReports, AnswersHaveNoFault, AreShown, EachLine, IsNarrowReport, IsSlim, ReportsAreConfirmed, ReportsHaveNoFault, bounds}
use Rattle.kat_search_laws.proofs.Cuts.{Fitting, all_cut}
use Rattle.kat_search_laws.proofs.Determined.{one_design, one_state, same_block}
use Rattle.kat_search_laws.proofs.Endings.{EndsWith, Kind, kind_line}
use Rattle.kat_search_laws.proofs.Endings.Kind.{none_kind, open_kind, cut_kind}
use Rattle.kat_search_laws.proofs.Naming.{has_words}
use Rattle.kat_search_laws.proofs.Narrowing.{narrow_seen}
use Rattle.kat_search_laws.proofs.Reading.{AreSeen, HaveNoLong, read_report}

-- lines that are due, and no point too wide, up to a state in which the verdict is told
judged : (ask : Ask) (n : ℕ) (s end : State) (ls : List (List ℕ)) (v : Audit) → Reads (IsWide ask) (Due ask) s ls end → IsOver end v → Judges (IsWide ask) (Due ask) IsOver n s ls v
judged ask n s _ _ v none_read over = is_over over
judged ask n s end _ v (one_read {t = t} {l = l} {ls = ls} slim due more) over = is_due slim due (judged ask (suc n) t end ls v more over)

-- outside a block nothing is too wide, and in it nothing that isn't
wide_outside : (ask : Ask) (s : State) (l : List ℕ) → ((cs : List Conjunct) (ns : List ℕ) → s.phase ≡ in_block cs ns → ⊥) → IsWide ask s l → ⊥
wide_outside ask s l out w = out w.candidates w.dropped w.place

wide_inside : (ask : Ask) (s : State) (l : List ℕ) (d : DesignForm) (cs : List Conjunct) (ns : List ℕ) (said : SaidForm) → s.phase ≡ in_block cs ns → IsNext ask s d → IsLineOf l said → IsSlim ask.ty d cs ns said → IsWide ask s l → ⊥
wide_inside ask s l d cs ns said at next line is w =
    let block = same_block s.phase w.candidates cs w.dropped ns w.place at in
    let same : w.d ≡ d = one_design ask s w.d d w.next next in
    let says : w.said ≡ said = one_saying l w.said said w.line line in
    let P : DesignForm → Type 0 = λ x. IsWideIn ask.ty x w.candidates w.dropped w.said in
    let Q : List Conjunct → Type 0 = λ x. IsWideIn ask.ty d x w.dropped w.said in
    let R : List ℕ → Type 0 = λ x. IsWideIn ask.ty d cs x w.said in
    let S : SaidForm → Type 0 = λ x. IsWideIn ask.ty d cs ns x in
    is.slim (subst S says (subst R block.1 (subst Q block.0 (subst P same w.wide))))

-- evidence that is shown is seen, whatever its candidates, and doesn't end with `long`
each_with : (ty : TypeForm) (d : DesignForm) (cs ds : List Conjunct) (ns : List ℕ) (xs : List DropForm) (e : Ending) → cs ≡ ds → EachLine (IsSlim ty d cs) ns xs e → EachLine (IsSlim ty d ds) ns xs e
each_with ty d cs ds ns xs e same all = let P : List Conjunct → Type 0 = λ x. EachLine (IsSlim ty d x) ns xs e in subst P same all

shown_seen : (ty : TypeForm) (es : List Entry) → AreShown ty es → AreSeen (IsSlim ty) ty es × HaveNoLong es
shown_seen ty [] all = (tt, tt)
shown_seen ty (again d place ∷ es) all = let rest = shown_seen ty es all.1 in ((tt, rest.0), (tt, rest.1))
shown_seen ty (newly d h ∷ es) all = let rest = shown_seen ty es all.1 in ((tt, rest.0), (tt, rest.1))
shown_seen ty (undecided d evidence ∷ es) all =
    let rest = shown_seen ty es all.1 in
    let one = all.0 in (
      (
        λ candidates are. each_with ty d one.candidates candidates [] evidence.drops evidence.ending (one_candidates ty d one.candidates candidates one.are_candidates are) one.slim,
        rest.0,
      ),
      (one.not_long, rest.1),
    )

over_confirmed : (s : State) → s.phase ≡ finished → s.hidden ≡ None → IsOver s Confirmed
over_confirmed s at none = record { ended = at; told = sym (ap verdict_of none) }

confirmed : Fitting → (ty : TypeForm) (options : Options) (bytes : List ℕ) (designs : List DesignForm) (es : List Entry) (kind : Kind) → HasWords (signature_of ty) → IsListing ty options.size options.kinds designs → AreTried ty (bounds options) designs es
    → AreShown ty es → EndsWith options designs es kind → bytes ≡ told_text (signature_of ty) es ++ kind_line options es kind → IsAudited ty options bytes Confirmed
confirmed fitting ty options bytes designs es kind words listing tried shown ends text =
    let ask = ask_of ty options designs in
    let seen = shown_seen ty es shown in
    let read = read_report ty options designs (all_cut fitting ty words) (IsWide (ask_of ty options designs)) (IsSlim ty) (λ d cs ns said is. is.narrow) (wide_outside (ask_of ty options designs)) (wide_inside (ask_of ty options designs))
    es kind bytes tried seen.0 ends text in
    record {
      designs = designs;
      listing = listing;
      judges = judged (ask_of ty options designs) 0 first_state read.end (lines_of bytes) Confirmed read.reads (over_confirmed read.end read.over (read.hidden seen.1 refl));
    }

pub reports_are_confirmed : Fitting → ReportsAreConfirmed
reports_are_confirmed fitting ty options bytes words (inl r) = confirmed fitting ty options bytes r.0.designs r.0.entries none_kind words r.0.listing r.0.tried r.1 (r.0.all, r.0.none_open) r.0.text
reports_are_confirmed fitting ty options bytes words (inr (inl r)) = confirmed fitting ty options bytes r.0.designs r.0.entries open_kind words r.0.listing r.0.tried r.1 (r.0.all, r.0.some_open) r.0.text
reports_are_confirmed fitting ty options bytes words (inr (inr r)) = confirmed fitting ty options bytes r.0.designs r.0.entries cut_kind words r.0.listing r.0.tried r.1 (r.0.more, r.0.over) r.0.text

-- a verdict other than a fault
abbrev IsNotBad : Audit → Type 0
IsNotBad Confirmed = Unit {0}
IsNotBad (Bad line) = ⊥
IsNotBad (NotShown line) = Unit {0}
IsNotBad (WidePoint line) = Unit {0}

told_not_bad : (o : Option ℕ) → IsNotBad (verdict_of o)
told_not_bad None = tt
told_not_bad (Some line) = tt

-- if all lines are due no line is a fault
not_bad : (ask : Ask) (n : ℕ) (s end : State) (ls : List (List ℕ)) (v : Audit) → Reads (λ s l. ⊥) (Due ask) s ls end → end.phase ≡ finished → Judges (IsWide ask) (Due ask) IsOver n s ls v → IsNotBad v
not_bad ask n s _ _ v none_read over (is_over told) = subst IsNotBad (sym told.told) (told_not_bad s.hidden)
not_bad ask n s _ _ _ none_read over (is_missing none) = absurd (none (verdict_of s.hidden) (record { ended = over; told = refl }))
not_bad ask n s end _ _ (one_read slim due more) over (too_wide wide) = tt
not_bad ask n s end _ _ (one_read {t = t} slim due more) over (not_due slim' none) = absurd (none t due)
not_bad ask n s end _ v (one_read {t = t} {l = l} {ls = ls} slim due more) over (is_due {t = u} slim' due' more') =
    let P : State → Type 0 = λ x. Judges (IsWide ask) (Due ask) IsOver (suc n) x ls v in
    not_bad ask (suc n) t end ls v more over (subst P (sym (one_state ask s l t u due due')) more')

no_fault : Fitting → (ty : TypeForm) (options : Options) (bytes : List ℕ) (line : ℕ) (designs : List DesignForm) (es : List Entry) (kind : Kind) → HasWords (signature_of ty) → AreTried ty (bounds options) designs es → AreNarrow es
    → EndsWith options designs es kind → bytes ≡ told_text (signature_of ty) es ++ kind_line options es kind → Judges (IsWide (ask_of ty options designs)) (Due (ask_of ty options designs)) IsOver 0 first_state (lines_of bytes) (Bad line) → ⊥
no_fault fitting ty options bytes line designs es kind words tried narrow ends text judges =
    let read = read_report ty options designs (all_cut fitting ty words) (λ s l. ⊥) (λ d cs ns said. IsNarrowSaid said) (λ d cs ns said is. is) (λ s l out none. none) (λ s l d cs ns said at next of is none. none)
    es kind bytes tried (narrow_seen ty options.effort nothing_told es tried.told narrow) ends text in
    not_bad (ask_of ty options designs) 0 first_state read.end (lines_of bytes) (Bad line) read.reads read.over judges

listed_as : (ty : TypeForm) (options : Options) (bytes : List ℕ) (line : ℕ) (designs : List DesignForm) (a : IsAudited ty options bytes (Bad line)) → a.designs ≡ designs
    → Judges (IsWide (ask_of ty options designs)) (Due (ask_of ty options designs)) IsOver 0 first_state (lines_of bytes) (Bad line)
listed_as ty options bytes line designs a same =
    let P : List DesignForm → Type 0 = λ ds. Judges (IsWide (ask_of ty options ds)) (Due (ask_of ty options ds)) IsOver 0 first_state (lines_of bytes) (Bad line) in
    subst P same a.judges

pub reports_have_no_fault : Fitting → ReportsHaveNoFault
reports_have_no_fault fitting ty options bytes line words (inl r) a =
    no_fault fitting ty options bytes line r.0.designs r.0.entries none_kind words r.0.tried r.1 (r.0.all, r.0.none_open) r.0.text
    (listed_as ty options bytes line r.0.designs a (one_listing ty options.size options.kinds a.designs r.0.designs a.listing r.0.listing))
reports_have_no_fault fitting ty options bytes line words (inr (inl r)) a =
    no_fault fitting ty options bytes line r.0.designs r.0.entries open_kind words r.0.tried r.1 (r.0.all, r.0.some_open) r.0.text
    (listed_as ty options bytes line r.0.designs a (one_listing ty options.size options.kinds a.designs r.0.designs a.listing r.0.listing))
reports_have_no_fault fitting ty options bytes line words (inr (inr r)) a =
    no_fault fitting ty options bytes line r.0.designs r.0.entries cut_kind words r.0.tried r.1 (r.0.more, r.0.over) r.0.text
    (listed_as ty options bytes line r.0.designs a (one_listing ty options.size options.kinds a.designs r.0.designs a.listing r.0.listing))

-- what is answered without a file is such a report
pub answers_are_reports : AnswersAreReports
answers_are_reports ty options (outcome.Emitted number file) bytes is of = absurd of
answers_are_reports ty options (outcome.NoDesign report) bytes is of = let P : List ℕ → Type 0 = λ text. IsNarrowReport ty options text in subst P of (inl is)
answers_are_reports ty options (outcome.Undecided report) bytes is of = let P : List ℕ → Type 0 = λ text. IsNarrowReport ty options text in subst P of (inr (inl is))
answers_are_reports ty options (outcome.Stopped report) bytes is of = let P : List ℕ → Type 0 = λ text. IsNarrowReport ty options text in subst P of (inr (inr is))

pub answers_have_no_fault : Fitting → AnswersHaveNoFault
answers_have_no_fault fitting ty options answer bytes line signed is of =
    reports_have_no_fault fitting ty options bytes line (has_words (signature_of ty) signed) (answers_are_reports ty (bounds options) answer bytes is of)
