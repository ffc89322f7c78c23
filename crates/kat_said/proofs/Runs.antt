-- One more line of a text.
use Rattle.std.proofs.Common.{◌≡◌, ℕ, suc, ◌+◌, List, [], ◌∷◌, refl, sym, ap, subst, arith}
use Rattle.kat_said.specs.Judging.{IsDetermined, Judges, Reads, Steps, lines_of}
use Rattle.kat_said.specs.Judging.Judges.{too_wide, not_due, is_due, is_over, is_missing}
use Rattle.kat_said.specs.Judging.Reads.{none_read, one_read}
use Rattle.kat_said.specs.declared.judging.Audit.{Audit}
use Rattle.kat_said.specs.declared.judging.Audit.TheVariants.{Confirmed, Bad, NotShown, WidePoint}
use Rattle.kat_said.specs.declared.judging.Step.{Step}
use Rattle.kat_said.specs.declared.judging.Step.TheVariants.{Due, Fault, Wide}

pub record Goes {S : Type 0} (wide : S → List ℕ → Type 0) (due : S → List ℕ → S → Type 0) (over : S → Audit → Type 0) (first : S) (whole : List ℕ) (n : ℕ) (s : S) (left : List ℕ) : Type 0 where
  pub on : (v : Audit) → Judges wide due over n s (lines_of left) v → Judges wide due over 0 first (lines_of whole) v

along : {S : Type 0} (wide : S → List ℕ → Type 0) (due : S → List ℕ → S → Type 0) (over : S → Audit → Type 0) (n m : ℕ) (s : S) (ls ms : List (List ℕ)) (v : Audit) → n ≡ m → ls ≡ ms → Judges wide due over n s ls v → Judges wide due over m s ms v
along wide due over n m s ls ms v e f h = let P : ℕ → Type 0 = λ k. Judges wide due over k s ls v in let Q : List (List ℕ) → Type 0 = λ xs. Judges wide due over m s xs v in subst Q f (subst P e h)

pub one_due : {S : Type 0} (wide : S → List ℕ → Type 0) (due : S → List ℕ → S → Type 0) (over : S → Audit → Type 0) (first s t : S) (whole left line rest : List ℕ) (n : ℕ)
    → lines_of left ≡ line ∷ lines_of rest → (wide s line → ⊥) × due s line t → Goes wide due over first whole n s left → Goes wide due over first whole (n + 1) t rest
one_due wide due over first s t whole left line rest n cut step goes = record {
  on = λ v more.
      let on : n + 1 ≡ suc n = omega arith in
      goes.on v (along wide due over n n s (line ∷ lines_of rest) (lines_of left) v refl (sym cut) (is_due step.0 step.1 (along wide due over (n + 1) (suc n) t (lines_of rest) (lines_of rest) v on refl more)));
}

pub one_fault : {S : Type 0} (wide : S → List ℕ → Type 0) (due : S → List ℕ → S → Type 0) (over : S → Audit → Type 0) (first s : S) (whole left line rest : List ℕ) (n : ℕ)
    → lines_of left ≡ line ∷ lines_of rest → (wide s line → ⊥) × ((t : S) → due s line t → ⊥) → Goes wide due over first whole n s left → Judges wide due over 0 first (lines_of whole) (Bad (n + 1))
one_fault wide due over first s whole left line rest n cut step goes =
    let on : suc n ≡ n + 1 = omega arith in
    let P : ℕ → Type 0 = λ k. Judges wide due over 0 first (lines_of whole) (Bad k) in
    subst P on (goes.on (Bad (suc n)) (along wide due over n n s (line ∷ lines_of rest) (lines_of left) (Bad (suc n)) refl (sym cut) (not_due step.0 step.1)))

pub one_wide : {S : Type 0} (wide : S → List ℕ → Type 0) (due : S → List ℕ → S → Type 0) (over : S → Audit → Type 0) (first s : S) (whole left line rest : List ℕ) (n : ℕ)
    → lines_of left ≡ line ∷ lines_of rest → wide s line → Goes wide due over first whole n s left → Judges wide due over 0 first (lines_of whole) (WidePoint (n + 1))
one_wide wide due over first s whole left line rest n cut step goes =
    let on : suc n ≡ n + 1 = omega arith in
    let P : ℕ → Type 0 = λ k. Judges wide due over 0 first (lines_of whole) (WidePoint k) in
    subst P on (goes.on (WidePoint (suc n)) (along wide due over n n s (line ∷ lines_of rest) (lines_of left) (WidePoint (suc n)) refl (sym cut) (too_wide step)))

pub no_more : {S : Type 0} (wide : S → List ℕ → Type 0) (due : S → List ℕ → S → Type 0) (over : S → Audit → Type 0) (first s : S) (whole left : List ℕ) (n : ℕ) (v : Audit)
    → left ≡ [] → Judges wide due over n s [] v → Goes wide due over first whole n s left → Judges wide due over 0 first (lines_of whole) v
no_more wide due over first s whole left n v e h goes = goes.on v (along wide due over n n s [] (lines_of left) v refl (sym (ap lines_of e)) h)

pub missing : {S : Type 0} (wide : S → List ℕ → Type 0) (due : S → List ℕ → S → Type 0) (over : S → Audit → Type 0) (s : S) (n : ℕ) → ((v : Audit) → over s v → ⊥) → Judges wide due over n s [] (Bad (n + 1))
missing wide due over s n none = let on : suc n ≡ n + 1 = omega arith in let P : ℕ → Type 0 = λ k. Judges wide due over n s [] (Bad k) in subst P on (is_missing none)

-- what a line is told to be
pub told_due : {S : Type 0} (wide : S → List ℕ → Type 0) (due : S → List ℕ → S → Type 0) (s t : S) (line : List ℕ) (o : Step) → o ≡ Due → Steps wide due s line t o → (wide s line → ⊥) × due s line t
told_due wide due s t line o e h = let P : Step → Type 0 = Steps wide due s line t in subst P e h

pub told_fault : {S : Type 0} (wide : S → List ℕ → Type 0) (due : S → List ℕ → S → Type 0) (s t : S) (line : List ℕ) (o : Step) → o ≡ Fault → Steps wide due s line t o → (wide s line → ⊥) × ((u : S) → due s line u → ⊥)
told_fault wide due s t line o e h = let P : Step → Type 0 = Steps wide due s line t in subst P e h

pub told_wide : {S : Type 0} (wide : S → List ℕ → Type 0) (due : S → List ℕ → S → Type 0) (s t : S) (line : List ℕ) (o : Step) → o ≡ Wide → Steps wide due s line t o → wide s line
told_wide wide due s t line o e h = let P : Step → Type 0 = Steps wide due s line t in subst P e h

-- a text has one verdict, if the machine is determined
pub one_verdict : {S : Type 0} (wide : S → List ℕ → Type 0) (due : S → List ℕ → S → Type 0) (over : S → Audit → Type 0) → IsDetermined due over → (n : ℕ) (s : S) (ls : List (List ℕ)) (v w : Audit)
    → Judges wide due over n s ls v → Judges wide due over n s ls w → v ≡ w
one_verdict wide due over only n s ls v w (too_wide a) (too_wide b) = refl
one_verdict wide due over only n s ls v w (too_wide a) (not_due b f) = absurd (b a)
one_verdict wide due over only n s ls v w (too_wide a) (is_due b f more) = absurd (b a)
one_verdict wide due over only n s ls v w (not_due a f) (too_wide b) = absurd (a b)
one_verdict wide due over only n s ls v w (not_due a f) (not_due b g) = refl
one_verdict wide due over only n s ls v w (not_due a f) (is_due {t = t} b g more) = absurd (f t g)
one_verdict wide due over only n s ls v w (is_due a f more) (too_wide b) = absurd (a b)
one_verdict wide due over only n s ls v w (is_due {t = t} a f more) (not_due b g) = absurd (g t f)
one_verdict {S = S} wide due over only n s ls v w (is_due {t = t} {l = l} {ls = rest} a f more) (is_due {t = u} b g other) =
    let P : S → Type 0 = λ x. Judges wide due over (suc n) x rest w in
    one_verdict wide due over only (suc n) t rest v w more (subst P (only.one_state s l u t g f) other)
one_verdict wide due over only n s ls v w (is_over {v = a} f) (is_over {v = b} g) = only.one_verdict s a b f g
one_verdict wide due over only n s ls v w (is_over {v = a} f) (is_missing g) = absurd (g a f)
one_verdict wide due over only n s ls v w (is_missing f) (is_over {v = b} g) = absurd (f b g)
one_verdict wide due over only n s ls v w (is_missing f) (is_missing g) = refl

-- lines that are due are read, and the verdict after them is that of the whole
pub read_on : {S : Type 0} (wide : S → List ℕ → Type 0) (due : S → List ℕ → S → Type 0) (over : S → Audit → Type 0) (n : ℕ) (s u : S) (ls : List (List ℕ)) (v : Audit) → Reads wide due s ls u → over u v → (m : ℕ) → Judges wide due over m s ls v
read_on wide due over n s u ls v none_read end m = is_over end
read_on wide due over n s u ls v (one_read {t = t} {ls = rest} a f more) end m = is_due a f (read_on wide due over n t u rest v more end (suc m))

-- and conversely: if the verdict is that nothing is wrong, all lines are due
abbrev IsFault : Audit → Type 0
IsFault Confirmed = ⊥
IsFault (Bad n) = Unit {0}
IsFault (NotShown n) = ⊥
IsFault (WidePoint n) = Unit {0}

pub read_back : {S : Type 0} (wide : S → List ℕ → Type 0) (due : S → List ℕ → S → Type 0) (over : S → Audit → Type 0) (n : ℕ) (s : S) (ls : List (List ℕ)) (v : Audit) → (IsFault v → ⊥) → Judges wide due over n s ls v → (u : S) × Reads wide due s ls u × over u v
read_back wide due over n s ls v sound (too_wide a) = absurd (sound tt)
read_back wide due over n s ls v sound (not_due a f) = absurd (sound tt)
read_back wide due over n s ls v sound (is_due {t = t} {ls = rest} a f more) = let b = read_back wide due over (suc n) t rest v sound more in (b.0, one_read a f b.1, b.2)
read_back wide due over n s ls v sound (is_over f) = (s, none_read, f)
read_back wide due over n s ls v sound (is_missing f) = absurd (sound tt)

pub confirmed_back : {S : Type 0} (wide : S → List ℕ → Type 0) (due : S → List ℕ → S → Type 0) (over : S → Audit → Type 0) (s : S) (ls : List (List ℕ)) → Judges wide due over 0 s ls Confirmed → (u : S) × Reads wide due s ls u × over u Confirmed
confirmed_back wide due over s ls h = read_back wide due over 0 s ls Confirmed (λ f. f) h
