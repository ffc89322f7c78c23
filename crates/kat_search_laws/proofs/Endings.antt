-- How a report ends.
use Rattle.std.proofs.Common.{◌≡◌, ℕ, zero, suc, ◌<◌, ◌≤◌, nat_lt, nat_eq, if◌then◌else◌, ◌⊎◌, inl, inr, ⊎_elim, Bool, true, false, List, [], ◌∷◌, length, Some, refl, sym, ap, ◌∙◌, arith}
use Rattle.std.specs.Prelude.{slice_get}
use Rattle.std.proofs.lemmas.Bool.Decides.{Decides-eqb}
use Rattle.std.proofs.lemmas.List.{length-map, length-take}
use Rattle.kat_design.specs.Designs.{DesignForm}
use Rattle.kat_telling.specs.Entries.{Entry, design_of}
use Rattle.kat_telling.specs.Reports.{none_line, stopped_line, undecided_line}
use Rattle.kat_search.specs.Verdicts.{AreTried, undecided_among}
use Rattle.kat_telling.specs.declared.limits.TheConstants.{UNDECIDED_LIMIT}
use Rattle.kat_type.specs.Types.{TypeForm}
use Rattle.kat_audit.specs.Audits.{ask_of}
use Rattle.kat_due.specs.Dues.{IsNext, State, last_line}
use Rattle.kat_audit.specs.declared.options.Options.{Options}
use Rattle.kat_search_laws.specs.Reports.{bounds}
use Rattle.kat_search_laws.proofs.Fronts.{Front}

pub data Kind : Type 0 where
  none_kind : Kind
  open_kind : Kind
  cut_kind : Kind

-- the last line says how it ends
abbrev pub EndsWith : Options → List DesignForm → List Entry → Kind → Type 0
EndsWith options designs entries none_kind = (length entries ≡ length designs) × (undecided_among entries ≡ 0)
EndsWith options designs entries open_kind = (length entries ≡ length designs) × (1 ≤ undecided_among entries)
EndsWith options designs entries cut_kind = (length entries < length designs) × ((length entries ≡ options.designs) ⊎ (undecided_among entries ≡ UNDECIDED_LIMIT))

abbrev pub kind_line : Options → List Entry → Kind → List ℕ
kind_line options entries none_kind = none_line options.size
kind_line options entries open_kind = undecided_line options.size
kind_line options entries cut_kind = stopped_line (length entries) options.size

got_some : (ds : List DesignForm) (i : ℕ) → i < length ds → (d : DesignForm) × (slice_get ds i ≡ Some d)
got_some [] i h = absurd (omega (arith, h))
got_some (x ∷ xs) zero h = (x, refl)
got_some (x ∷ xs) (suc i) h = got_some xs i (omega (arith, h))

lt_cases : (a b : ℕ) → ((nat_lt a b ≡ true) × (a < b)) ⊎ ((nat_lt a b ≡ false) × (b ≤ a))
lt_cases a b = by_test (nat_lt a b) refl
  where
    by_test : (t : Bool) → nat_lt a b ≡ t → ((nat_lt a b ≡ true) × (a < b)) ⊎ ((nat_lt a b ≡ false) × (b ≤ a))
    by_test true e = inl (e, grind arith)
    by_test false e = inr (e, grind arith)

eq_cases : (a : ℕ) → ((nat_eq a 0 ≡ true) × (a ≡ 0)) ⊎ ((nat_eq a 0 ≡ false) × (1 ≤ a))
eq_cases a = by_test (nat_eq a 0) refl
  where
    by_test : (t : Bool) → nat_eq a 0 ≡ t → ((nat_eq a 0 ≡ true) × (a ≡ 0)) ⊎ ((nat_eq a 0 ≡ false) × (1 ≤ a))
    by_test true e = inl (e, (Decides-eqb a 0).0 e)
    by_test false e = inr (e, grind arith)

-- how a report ends whose last line is due
pub record Ends (options : Options) (designs : List DesignForm) (ask_line : List ℕ) (entries : List Entry) : Type 0 where
  pub kind : Kind
  pub ends : EndsWith options designs entries kind
  pub line : ask_line ≡ kind_line options entries kind

module _ (ty : TypeForm) (options : Options) (designs : List DesignForm) where
  fits_listing : (entries : List Entry) → AreTried ty (bounds options) designs entries → length entries ≤ length designs
  fits_listing entries tried = omega (arith, ap length tried.first, length-take (length entries) designs, length-map entries design_of)

  over : (s : State) (entries : List Entry) (text : List ℕ) (d : DesignForm) → Front ty options designs s entries text → ((e : DesignForm) → IsNext (ask_of ty options designs) s e → ⊥) → slice_get designs s.count ≡ Some d
      → (s.count ≡ options.designs) ⊎ (s.passed ≡ UNDECIDED_LIMIT)
  over s entries text d front none there = ⊎_elim
      (λ (l : (nat_lt s.count options.designs ≡ true) × (s.count < options.designs)). ⊎_elim
      (λ (m : (nat_lt s.passed UNDECIDED_LIMIT ≡ true) × (s.passed < UNDECIDED_LIMIT)). absurd (none d (record { there = there; asked = l.1; few = m.1 })))
      (λ (m : (nat_lt s.passed UNDECIDED_LIMIT ≡ false) × (UNDECIDED_LIMIT ≤ s.passed)). inr (let w = front.within in let k = m.1 in omega (arith, w, k)))
      (lt_cases s.passed UNDECIDED_LIMIT))
      (λ (l : (nat_lt s.count options.designs ≡ false) × (options.designs ≤ s.count)).
      inl (let w : length entries ≤ options.designs = front.tried.asked in let c = front.count in let k = l.1 in omega (arith, w, c, k)))
      (lt_cases s.count options.designs)

  pub at_last : (s : State) (entries : List Entry) (text : List ℕ) → Front ty options designs s entries text → ((d : DesignForm) → IsNext (ask_of ty options designs) s d → ⊥)
      → Ends options designs (last_line (ask_of ty options designs) s) entries
  at_last s entries text front none = ⊎_elim more all (lt_cases s.count (length designs))
    where
      more : (nat_lt s.count (length designs) ≡ true) × (s.count < length designs) → Ends options designs (last_line (ask_of ty options designs) s) entries
      more h =
          let there = got_some designs s.count h.1 in
          let c = front.count in let p = front.passed in
          record {
            kind = cut_kind;
            ends = (
              let k = h.1 in omega (arith, c, k),
              ⊎_elim (λ (e : s.count ≡ options.designs). inl (sym c ∙ e)) (λ (e : s.passed ≡ UNDECIDED_LIMIT). inr (sym p ∙ e)) (over s entries text there.0 front none there.1),
            );
            line = ap (λ b. if b then stopped_line s.count options.size else if nat_eq s.passed 0 then none_line options.size else undecided_line options.size) h.0 ∙ ap (λ n. stopped_line n options.size) c;
          }

      all : (nat_lt s.count (length designs) ≡ false) × (length designs ≤ s.count) → Ends options designs (last_line (ask_of ty options designs) s) entries
      all h =
          let c = front.count in let p = front.passed in let k = h.1 in
          let fits = fits_listing entries front.tried in
          let whole : length entries ≡ length designs = omega (arith, c, k, fits) in
          let first : last_line (ask_of ty options designs) s ≡ (if nat_eq s.passed 0 then none_line options.size else undecided_line options.size) =
          ap (λ b. if b then stopped_line s.count options.size else if nat_eq s.passed 0 then none_line options.size else undecided_line options.size) h.0 in
          ⊎_elim
          (λ (e : (nat_eq s.passed 0 ≡ true) × (s.passed ≡ 0)). record { kind = none_kind; ends = (whole, sym p ∙ e.1); line = first ∙ ap (λ b. if b then none_line options.size else undecided_line options.size) e.0 })
          (λ (e : (nat_eq s.passed 0 ≡ false) × (1 ≤ s.passed)). record {
            kind = open_kind;
            ends = (whole, let one = e.1 in omega (arith, one, p));
            line = first ∙ ap (λ b. if b then none_line options.size else undecided_line options.size) e.0;
          })
          (eq_cases s.passed)
