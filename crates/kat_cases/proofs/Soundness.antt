-- Multipliers that elimination gives, and that aren't wide, are a certificate that a line may have.
use Rattle.std.proofs.Common.{◌≡◌, ℕ, zero, suc, ◌*◌, ◌<◌, ◌≤◌, ◌^◌, ℤ, pos, negsuc, ◌≤ℤ◌, unsigned_abs, List, [], ◌∷◌, length, take, get_or, Option, Some, None, IsSome, Result, Ok, Err, IfOk, sym, ap, subst, arith, Contains, All, inl, inr, ⊎_elim}
use Rattle.std.proofs.lemmas.Bool.{cases_lt, false≢true}
use Rattle.std.proofs.lemmas.Int.{ints}
use Rattle.std.proofs.lemmas.List.Elements.{All-nil, All-cons, All-contains}
use Rattle.kat_linear.specs.Rows.{Form, IsAscending, coefficient}
use Rattle.kat_linear.specs.Sums.{IsNarrow, IsWide, StaysNarrow, GoesWide, products, int_sum, AreNarrow, AreWide}
use Rattle.kat_linear.specs.Widths.{widths}
use Rattle.kat_linear.proofs.FirstWide.{pairs_are_wide}
use Rattle.kat_form.specs.Encodings.{encoding, Sense, form_in, atom_at, IsBelow}
use Rattle.kat_form.specs.Encodings.Sense.{truth, atom, gate}
use Rattle.kat_form.specs.declared.Encoded.{Encoded}
use Rattle.kat_refute.specs.Lines.{denial_form, denial_forms, IsMultiplier}
use Rattle.kat_refute.proofs.Atoms.{negated_from, denials_from, denials_are_ascending}
use Rattle.kat_fm.specs.Answers.{HasVariablesBelow}
use Rattle.kat_fm.proofs.Certificates.{multipliers_refute}
use Rattle.kat_cases.specs.Settings.{setting_of, IsWalkable}
use Rattle.kat_cases.specs.Laws.{IsSound}
use Rattle.kat_cases.proofs.Judgings.{HasBoth, both_below}
use Rattle.kat_refute.specs.Lines.{AreARefutation}
use Rattle.kat_cases.specs.Nodes.End.{spent}
use Rattle.kat_cases.specs.Walks.{Answer, WalkGives, IfRefuted}
use Rattle.kat_cases.specs.Walks.Answer.{refuted, stopped}
use Rattle.kat_cases.proofs.Outcomes.{few_lines}
use Rattle.kat_cases.proofs.Bridges.{refuting}
use Rattle.kat_cases.proofs.FreeVariables.{effort_suffices}

-- an atom's form is that of one of the senses
form_is : (s : Sense) (form : Form) → form_in s ≡ Some form → s ≡ atom form
form_is (truth v) form e = absurd (cc)
form_is (atom f) form e = ap atom (some_form f form e)
  where
    some_form : (a b : Form) → Some a ≡ Some b → a ≡ b
    some_form a b e' = cc
form_is gate form e = absurd (cc)

pub atom_in : (senses : List Sense) (v : ℕ) (form : Form) → atom_at senses v ≡ Some form → Contains senses (atom form)
atom_in senses zero form e = absurd (cc)
atom_in [] (suc v) form e = absurd (cc)
atom_in (s ∷ ss) (suc zero) form e = (0, omega arith, form_is s form e)
atom_in (s ∷ ss) (suc (suc v)) form e = let r = atom_in ss (suc v) form e in (suc r.0, omega (arith, r.1), r.2)

-- what holds of all atoms' forms and their negations holds of denials
denial_has : (P : Form → Type 0) (senses : List Sense) → ((s : Sense) → Contains senses s → HasBoth P s) → (k : ℤ) (form : Form) → denial_form senses k ≡ Some form → P form
denial_has P senses all (pos n) form e =
    let r = negated_from (atom_at senses n) form e in
    subst P r.2 (all (atom r.0) (atom_in senses n r.0 r.1)).1
denial_has P senses all (negsuc n) form e = (all (atom form) (atom_in senses (suc n) form e)).0

pub denials_have : (P : Form → Type 0) (senses : List Sense) → ((s : Sense) → Contains senses s → HasBoth P s) → (ks : List ℤ) (forms : List Form) → denial_forms senses ks ≡ Some forms → All P forms
denials_have P senses all [] forms e = let Q : List Form → Type 0 = All P in subst Q (some_same [] forms e) (All-nil P)
  where
    some_same : (a b : List Form) → Some a ≡ Some b → a ≡ b
    some_same a b e' = cc
denials_have P senses all (x ∷ xs) forms e =
    let parts = denials_from (denial_form senses x) (denial_forms senses xs) forms e in
    let Q : List Form → Type 0 = All P in
    subst Q parts.4 (All-cons P parts.0 parts.1 (denial_has P senses all x parts.0 parts.2) (denials_have P senses all xs parts.1 parts.3))

-- what isn't wide is narrow
is_narrow : (z : ℤ) → (IsWide z → ⊥) → IsNarrow z
is_narrow z never = ⊎_elim
    (λ (wide : 2 ^ 126 < unsigned_abs z). absurd (never wide))
    (λ (narrow : unsigned_abs z ≤ 2 ^ 126). narrow)
    (cases_lt (2 ^ 126) (unsigned_abs z))

stays : (zs : List ℤ) → (GoesWide zs → ⊥) → StaysNarrow zs
stays zs never k below = (
  is_narrow (get_or zs k (pos 0)) (λ w. never (k, below, inl w)),
  is_narrow (int_sum (take (suc k) zs)) (λ w. never (k, below, inr w)),
)

all_narrow : (rows : List Form) (ms : List ℤ) → (AreWide rows ms → ⊥) → AreNarrow rows ms
all_narrow rows ms never = record {
  constants = stays (products (λ (r : Form). r.constant) rows ms) (λ w. never (inl w));
  coefficients = λ v. stays (products (coefficient v) rows ms) (λ w. never (inr (v, w)));
}

none_some : (o : Option (ℤ × ℤ)) → o ≡ None → IsSome o → ⊥
none_some None e h = false≢true h
none_some (Some p) e h = absurd (cc)

-- multipliers within the limit
one_multiplier : (m : ℤ) → pos 0 ≤ℤ m → unsigned_abs m ≤ 2 ^ 62 → IsMultiplier m
one_multiplier m low high = (low, omega (arith, ints, low, high))

multipliers_within : (ms : List ℤ) → All (λ m. pos 0 ≤ℤ m) ms → All (λ m. unsigned_abs m ≤ 2 ^ 62) ms → All IsMultiplier ms
multipliers_within ms low high i d below = one_multiplier (get_or ms i d) (low i d below) (high i d below)

pub settings_are_sound : (e : Encoded) → IsWalkable e.numbers (encoding e) → IsSound (setting_of e)
settings_are_sound e w lits forms ms denied solved narrow =
    let senses = (encoding e).senses in
    let below : All (HasVariablesBelow e.numbers) forms = denials_have (HasVariablesBelow e.numbers) senses (λ s in'. both_below e.numbers s (All-contains (IsBelow e.numbers) senses s w.below in')) lits forms denied in
    let r = multipliers_refute forms e.numbers ms below solved in
    let ascending : All IsAscending forms = denials_are_ascending senses w.fit.atoms lits forms denied in
    let never : AreWide forms ms → ⊥ = λ wide. none_some (widths forms ms) narrow ((pairs_are_wide forms ms (sym r.count) ascending).1 wide) in
    (sym r.count, multipliers_within ms r.certificate.signs r.small, all_narrow forms ms never, r.certificate)

-- what a walk gives, said of the code's answer
pub ok_map : {X E : Type 0} (P Q : X → Type 0) (r : Result X E) → ((x : X) → P x → Q x) → IfOk r P → IfOk r Q
ok_map P Q (Ok x) f h = f x h
ok_map P Q (Err e) f h = tt

pub refuted_is : (e : Encoded) → IsWalkable e.numbers (encoding e) → (effort : ℕ) (d : Answer) → WalkGives (setting_of e) effort d → IfRefuted d (λ lines. AreARefutation (encoding e) lines × (length lines < 3 * effort))
refuted_is e w effort (refuted lines) (behind, walked) = let few = few_lines walked in (refuting (setting_of e) w.fit (settings_are_sound e w) effort lines (behind, walked), omega (arith, few.1))
refuted_is e w effort (stopped end) h = tt

pub unspent_is : (e : Encoded) → IsWalkable e.numbers (encoding e) → (effort : ℕ) → 2 ^ length (encoding e).senses ≤ effort → (d : Answer) → WalkGives (setting_of e) effort d → d ≡ stopped spent → ⊥
unspent_is e w effort most d h is = let P : Answer → Type 0 = WalkGives (setting_of e) effort in effort_suffices (setting_of e) w.fit effort most (subst P is h)
