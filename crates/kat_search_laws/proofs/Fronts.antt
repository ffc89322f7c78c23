-- Entries one after the other, from the last on.
use Rattle.std.proofs.Common.{◌≡◌, ℕ, zero, suc, ◌+◌, ◌<◌, ◌≤◌, ◌⊎◌, inl, inr, ⊎_elim, List, [], ◌∷◌, ◌++◌, length, map, take, get_or, append_assoc, Some, refl, sym, ap, ◌∙◌, subst, arith}
use Rattle.std.specs.Prelude.{slice_get}
use Rattle.std.proofs.lemmas.List.{append-nil, length_push, take_all, take_more}
use Rattle.kat_design.specs.Designs.{DesignForm}
use Rattle.kat_telling.specs.Entries.{AreTold, Entry, IsTold, Told, design_of, nothing_told, told_behind, told_by}
use Rattle.kat_telling.specs.Entries.Entry.{again, newly, undecided}
use Rattle.kat_telling.specs.Reports.{entries_text, entry_text, told_text}
use Rattle.kat_search.specs.Verdicts.{AreTried, undecided_among}
use Rattle.kat_telling.specs.declared.limits.TheConstants.{UNDECIDED_LIMIT}
use Rattle.kat_type.specs.Signatures.{signature_of}
use Rattle.kat_type.specs.Types.{TypeForm}
use Rattle.kat_type.specs.declared.signatures.Signature.{Signature}
use Rattle.kat_audit.specs.Audits.{ask_of}
use Rattle.kat_due.specs.Dues.{IsNext, State}
use Rattle.kat_audit.specs.declared.options.Options.{Options}
use Rattle.kat_search_laws.specs.Reports.{AreShown, IsShown, bounds}

pub told_last : (told : Told) (es : List Entry) (e : Entry) → told_by told (es ++ e ∷ []) ≡ told_behind (told_by told es) e
told_last told [] e = refl
told_last told (x ∷ xs) e = told_last (told_behind told x) xs e

count_behind : (told : Told) (e : Entry) → (told_behind told e).count ≡ told.count + 1
count_behind told (again d place) = refl
count_behind told (newly d h) = refl
count_behind told (undecided d evidence) = refl

pub told_count : (told : Told) (es : List Entry) → (told_by told es).count ≡ told.count + length es
told_count told [] = omega arith
told_count told (e ∷ es) = let rest = told_count (told_behind told e) es in let one = count_behind told e in omega (arith, rest, one)

are_told_last : (ty : TypeForm) (effort : ℕ) (told : Told) (es : List Entry) (e : Entry) → AreTold ty effort told es → IsTold ty effort (told_by told es) e → AreTold ty effort told (es ++ e ∷ [])
are_told_last ty effort told [] e all one = (one, tt)
are_told_last ty effort told (x ∷ xs) e all one = (all.0, are_told_last ty effort (told_behind told x) xs e all.1 one)

text_last : (sig : Signature) (told : Told) (es : List Entry) (e : Entry) → entries_text sig told (es ++ e ∷ []) ≡ entries_text sig told es ++ entry_text sig (told_by told es) e
text_last sig told [] e = append-nil (entry_text sig told e)
text_last sig told (x ∷ xs) e =
    ap (λ t. entry_text sig told x ++ t) (text_last sig (told_behind told x) xs e)
    ∙ sym (append_assoc (entry_text sig told x) (entries_text sig (told_behind told x) xs) (entry_text sig (told_by (told_behind told x) xs) e))

shown_last : (ty : TypeForm) (es : List Entry) (e : Entry) → AreShown ty es → IsShown ty e → AreShown ty (es ++ e ∷ [])
shown_last ty [] e all one = (one, tt)
shown_last ty (x ∷ xs) e all one = (all.0, shown_last ty xs e all.1 one)

map_last : (es : List Entry) (e : Entry) → map design_of (es ++ e ∷ []) ≡ map design_of es ++ design_of e ∷ []
map_last [] e = refl
map_last (x ∷ xs) e = ap (λ ds. design_of x ∷ ds) (map_last xs e)

take_front : (n : ℕ) (es : List Entry) (e : Entry) → n ≤ length es → take n (es ++ e ∷ []) ≡ take n es
take_front zero es e h = refl
take_front (suc n) [] e h = absurd (omega (arith, h))
take_front (suc n) (x ∷ xs) e h = ap (λ ys. x ∷ ys) (take_front n xs e (omega (arith, h)))

pub got : (ds : List DesignForm) (i : ℕ) (d : DesignForm) → slice_get ds i ≡ Some d → (i < length ds) × (get_or ds i d ≡ d)
got [] i d e = absurd (cc)
got (x ∷ xs) zero d e = (omega arith, cc)
got (x ∷ xs) (suc i) d e = let rest = got xs i d e in (omega (arith, rest.0), rest.1)

split_le : (n m : ℕ) → n ≤ m → (n ≡ m) ⊎ (n < m)
split_le zero zero h = inl refl
split_le zero (suc m) h = inr (omega arith)
split_le (suc n) zero h = absurd (omega (arith, h))
split_le (suc n) (suc m) h = ⊎_elim (λ e. inl (ap suc e)) (λ less. inr (omega (arith, less))) (split_le n m (omega (arith, h)))

-- the entries that were told so far, with their text
pub record Front (ty : TypeForm) (options : Options) (designs : List DesignForm) (s : State) (entries : List Entry) (text : List ℕ) : Type 0 where
  pub tried : AreTried ty (bounds options) designs entries
  pub shown : AreShown ty entries
  pub count : s.count ≡ length entries
  pub cited : s.cited ≡ (told_by nothing_told entries).cited
  pub passed : s.passed ≡ undecided_among entries
  pub within : s.passed ≤ UNDECIDED_LIMIT
  pub text_is : text ≡ told_text (signature_of ty) entries

module _ (ty : TypeForm) (options : Options) (designs : List DesignForm) where
  pub counted : (s : State) (entries : List Entry) (text : List ℕ) → Front ty options designs s entries text → (told_by nothing_told entries).count ≡ s.count
  counted s entries text front = let n = told_count nothing_told entries in omega (arith, n, front.count)

  -- one more entry
  pub front_more : (s t : State) (entries : List Entry) (e : Entry) (text more : List ℕ) → Front ty options designs s entries text → IsNext (ask_of ty options designs) s (design_of e)
      → IsTold ty options.effort (told_by nothing_told entries) e → IsShown ty e → t.count ≡ s.count + 1 → t.cited ≡ (told_behind (told_by nothing_told entries) e).cited
      → t.passed ≡ length (told_behind (told_by nothing_told entries) e).passed → t.passed ≤ UNDECIDED_LIMIT → more ≡ entry_text (signature_of ty) (told_by nothing_told entries) e
      → Front ty options designs t (entries ++ e ∷ []) (text ++ more)
  front_more s t entries e text more front next one shows counts cites passes within is = record {
    tried = record {
      first =
          let g = got designs (length entries) (design_of e) (ap (slice_get designs) (sym front.count) ∙ next.there) in
          let on : length (entries ++ e ∷ []) ≡ length entries + 1 = length_push entries e in
          ap (λ n. take n designs) on ∙ take_more designs (length entries) (design_of e) g.0
          ∙ ap (λ ds. ds ++ get_or designs (length entries) (design_of e) ∷ []) front.tried.first ∙ ap (λ d. map design_of entries ++ d ∷ []) g.1 ∙ sym (map_last entries e);
      told = are_told_last ty options.effort nothing_told entries e front.tried.told one;
      asked = let a : s.count < options.designs = next.asked in omega (arith, length_push entries e, front.count, a);
      few = λ n less.
          let near : n ≤ length entries = omega (arith, less, length_push entries e) in
          let P : List Entry → Type 0 = λ es. undecided_among es < UNDECIDED_LIMIT in
          subst P (sym (take_front n entries e near)) (⊎_elim
          (λ (same : n ≡ length entries).
          let whole : take n entries ≡ entries = take_all n entries (omega (arith, same)) in
          let few : s.passed < UNDECIDED_LIMIT = next.few in
          subst P (sym whole) (let f = front.passed in omega (arith, f, few)))
          (λ (below : n < length entries). front.tried.few n below)
          (split_le n (length entries) near));
    };
    shown = shown_last ty entries e front.shown shows;
    count = omega (arith, counts, front.count, length_push entries e);
    cited = cites ∙ sym (ap (λ (told : Told). told.cited) (told_last nothing_told entries e));
    passed = passes ∙ sym (ap (λ (told : Told). length told.passed) (told_last nothing_told entries e));
    within = within;
    text_is = ap (λ x. x ++ more) front.text_is ∙ ap (λ x. told_text (signature_of ty) entries ++ x) is ∙ sym (text_last (signature_of ty) nothing_told entries e);
  }
