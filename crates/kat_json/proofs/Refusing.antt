-- The first fault of several lists, and lists that are read one element after the other.
use Rattle.std.proofs.Common.{◌≡◌, ◌+◌, List, [], ◌∷◌, ◌++◌, Some, sym, subst, ℕ, ap, map, refl, ◌∙◌, append_assoc, append-nil, Result, Ok, Err, Option, None, true, length, option_map}
use Rattle.std.specs.Prelude.{IfErr, IsErrAnd, slice_get, nat_lt, IfOk, unwrap_or}
use Rattle.kat_design.specs.Faults.{Path, first_of, within, each_faults, here_if}
use Rattle.kat_json.specs.Refused.{IsRefused, IsSaid}
use Rattle.kat_json.specs.declared.errors.WireError.{WireError}
use Rattle.kat_json.specs.declared.errors.WireError.TheVariants.{Json, Form, Version, BadDesign, Memory}
use Rattle.serde_json.specs.Data.{Data, null}
use Rattle.kat_json.specs.FormFaults.{part_faults, present, past_faults, optional_faults}
use Rattle.kat_json.specs.Parts.{part_said}

first_front : (xs ys : List Path) (place : Path) → first_of xs ≡ Some place → first_of (xs ++ ys) ≡ Some place
first_front [] ys place h = absurd (cc)
first_front (x ∷ xs) ys place h = h

-- a refusal by the faults in front is one by all
pub refused_front : (xs ys : List Path) (e : WireError) → IsRefused xs e → IsRefused (xs ++ ys) e
refused_front xs ys Json h = absurd h
refused_front xs ys (Form place) h = first_front xs ys place h
refused_front xs ys Version h = absurd h
refused_front xs ys (BadDesign place) h = absurd h
refused_front xs ys Memory h = tt

-- if there is none in front, it is refused by one of those after it
pub refused_behind : (xs ys : List Path) (e : WireError) → xs ≡ [] → IsRefused ys e → IsRefused (xs ++ ys) e
refused_behind xs ys e none h = subst (λ (zs : List Path). IsRefused (zs ++ ys) e) (sym none) h

pub refused_same : (xs ys : List Path) (e : WireError) → xs ≡ ys → IsRefused ys e → IsRefused xs e
refused_same xs ys e same h = subst (λ (zs : List Path). IsRefused zs e) (sym same) h

-- what an index is put before has no fault only if there was none
pub within_none : (index : ℕ) (xs : List Path) → xs ≡ [] → within index xs ≡ []
within_none index xs none = ap (λ ys. within index ys) none

-- elements read so far: no fault before the index, and what they say
pub record ReadSoFar {D A : Type 0} (faults : D → List Path) (said : D → A) (whole : List D) (i : ℕ) (left : List D) (items : List A) : Type 0 where
  pub same : each_faults faults 0 whole ≡ each_faults faults i left
  pub so_far : map said whole ≡ items ++ map said left

pub read_none : {D A : Type 0} (faults : D → List Path) (said : D → A) (whole : List D) → ReadSoFar faults said whole 0 whole []
read_none faults said whole = record { same = refl; so_far = refl }

pub read_next : {D A : Type 0} (faults : D → List Path) (said : D → A) (whole : List D) (i : ℕ) (left rest : List D) (items : List A) (d : D) (x : A)
    → ReadSoFar faults said whole i left items → left ≡ d ∷ rest → faults d ≡ [] → x ≡ said d → ReadSoFar faults said whole (i + 1) rest (items ++ x ∷ [])
read_next faults said whole i left rest items d x so next none is = record {
  same = so.same ∙ ap (λ ds. each_faults faults i ds) next ∙ ap (λ ps. ps ++ each_faults faults (i + 1) rest) (within_none i (faults d) none);
  so_far = so.so_far ∙ ap (λ ds. items ++ map said ds) next ∙ ap (λ y. items ++ (y ∷ map said rest)) (sym is) ∙ sym (append_assoc items (x ∷ []) (map said rest));
}

pub read_refused : {D A : Type 0} (faults : D → List Path) (said : D → A) (whole : List D) (i : ℕ) (left rest : List D) (items : List A) (d : D) (e : WireError)
    → ReadSoFar faults said whole i left items → left ≡ d ∷ rest → IsRefused (within i (faults d)) e → IsRefused (each_faults faults 0 whole) e
read_refused faults said whole i left rest items d e so next h =
    refused_same (each_faults faults 0 whole) (within i (faults d) ++ each_faults faults (i + 1) rest) e (so.same ∙ ap (λ ds. each_faults faults i ds) next)
    (refused_front (within i (faults d)) (each_faults faults (i + 1) rest) e h)

pub read_all : {D A : Type 0} (faults : D → List Path) (said : D → A) (whole : List D) (i : ℕ) (left : List D) (items : List A)
    → ReadSoFar faults said whole i left items → left ≡ [] → (each_faults faults 0 whole ≡ []) × (items ≡ map said whole)
read_all faults said whole i left items so ended =
    (so.same ∙ ap (λ ds. each_faults faults i ds) ended, sym (so.so_far ∙ ap (λ ds. items ++ map said ds) ended ∙ append-nil items))

-- an error that is handed on
pub handed : {T : Type 0} (r : Result T WireError) (e : WireError) (xs : List Path) → IsErrAnd r (λ x. x ≡ e) → IsRefused xs e → IfErr r (IsRefused xs)
handed (Ok x) e xs is h = absurd is
handed (Err x) e xs is h = subst (λ (y : WireError). IsRefused xs y) (sym is) h

pub err_same : {T : Type 0} (r : Result T WireError) (xs ys : List Path) → xs ≡ ys → IfErr r (IsRefused ys) → IfErr r (IsRefused xs)
err_same r xs ys same h = subst (λ (zs : List Path). IfErr r (IsRefused zs)) (sym same) h

-- a fault at the very place
pub refused_here : (e : WireError) → e ≡ Form [] → IsRefused ([] ∷ []) e
refused_here e is = subst (λ (x : WireError). IsRefused ([] ∷ []) x) (sym is) refl

-- a part that is there, and one that is missing
pub part_there : (f : Data → List Path) (place : ℕ) (ds : List Data) (d : Data) → slice_get ds place ≡ Some d → part_faults f place ds ≡ within place (f d)
part_there f place ds d there = ap (λ (o : Option Data). within place (present f o)) there

pub part_missing : (f : Data → List Path) (place : ℕ) (ds : List Data) → slice_get ds place ≡ None → part_faults f place ds ≡ within place ([] ∷ [])
part_missing f place ds there = ap (λ (o : Option Data). within place (present f o)) there

pub past_some : (count : ℕ) (ds : List Data) → nat_lt count (length ds) ≡ true → past_faults count ds ≡ within count ([] ∷ [])
past_some count ds more = ap (λ b. within count (here_if b)) more

-- what was read of a part by its place
pub ok_same : {T A : Type 0} (r : Result T WireError) (view_of : T → A) (xs ys : List Path) (a b : A) → xs ≡ ys → a ≡ b
    → IfOk r (λ x. IsSaid ys b (view_of x)) → IfOk r (λ x. IsSaid xs a (view_of x))
ok_same (Ok x) view_of xs ys a b same is h = (same ∙ h.0, h.1 ∙ sym is)
ok_same (Err e) view_of xs ys a b same is h = tt

-- a tag that isn't there, or isn't known
pub tag_refused : (xs : List Path) (e : WireError) → IsRefused (within 0 ([] ∷ [])) e → IsRefused (within 0 ([] ∷ []) ++ xs) e
tag_refused xs e h = refused_front (within 0 ([] ∷ [])) xs e h

read_as : {T : Type 0} (read : Result T WireError) (x : T) (P : T → Type 0) → read ≡ Ok x → IfOk read P → P x
read_as {T} read x P is h = subst (λ (r : Result T WireError). IfOk r P) is h

-- what is read of a part that is there
pub part_read : {T A : Type 0} (r read : Result T WireError) (view_of : T → A) (f : Data → List Path) (said : Data → A) (place : ℕ) (ds : List Data) (d : Data)
    → slice_get ds place ≡ Some d → IfOk r (λ item. read ≡ Ok item) → IfOk read (λ x. IsSaid (f d) (said d) (view_of x))
    → IfOk r (λ x. IsSaid (part_faults f place ds) (part_said said place ds) (view_of x))
part_read (Ok x) read view_of f said place ds d there is h =
    let got = read_as read x (λ y. IsSaid (f d) (said d) (view_of y)) is h in
    let same : part_said said place ds ≡ said d = ap (λ (o : Option Data). said (unwrap_or o null)) there in
    (part_there f place ds d there ∙ within_none place (f d) got.0, got.1 ∙ sym same)
part_read (Err e) read view_of f said place ds d there is h = tt

pub err_front : {T : Type 0} (r : Result T WireError) (xs ys : List Path) → IfErr r (IsRefused xs) → IfErr r (IsRefused (xs ++ ys))
err_front (Ok x) xs ys h = tt
err_front (Err e) xs ys h = refused_front xs ys e h

-- a refusal tells of the first fault alone
pub refused_first : (xs ys : List Path) (e : WireError) → first_of xs ≡ first_of ys → IsRefused xs e → IsRefused ys e
refused_first xs ys Json same h = absurd h
refused_first xs ys (Form place) same h = sym same ∙ h
refused_first xs ys Version same h = absurd h
refused_first xs ys (BadDesign place) same h = absurd h
refused_first xs ys Memory same h = tt

pub err_first : {T : Type 0} (r : Result T WireError) (xs ys : List Path) → first_of xs ≡ first_of ys → IfErr r (IsRefused xs) → IfErr r (IsRefused ys)
err_first (Ok x) xs ys same h = tt
err_first (Err e) xs ys same h = refused_first xs ys e same h

-- a part that may be missing
pub optional_there : (f : Data → List Path) (place : ℕ) (ds : List Data) (d : Data) → slice_get ds place ≡ Some d → optional_faults f place ds ≡ within place (f d)
optional_there f place ds d there = rw there refl

pub optional_read : {T : Type 0} (read : Result T WireError) (x : T) (f : Data → List Path) (said : Data → T) (place : ℕ) (ds : List Data) (d : Data)
    → slice_get ds place ≡ Some d → read ≡ Ok x → IfOk read (IsSaid (f d) (said d)) → (optional_faults f place ds ≡ []) × (Some x ≡ option_map said (slice_get ds place))
optional_read read x f said place ds d there is h =
    let got = read_as read x (IsSaid (f d) (said d)) is h in
    (optional_there f place ds d there ∙ within_none place (f d) got.0, ap Some got.1 ∙ sym (ap (λ o. option_map said o) there))

pub optional_missing : {T : Type 0} (f : Data → List Path) (said : Data → T) (place : ℕ) (ds : List Data) → slice_get ds place ≡ None
    → (optional_faults f place ds ≡ []) × (None ≡ option_map said (slice_get ds place))
optional_missing f said place ds there = (rw there refl, rw there refl)

-- parts of a list that are judged one after the other
pub refused_second : (xs ys zs : List Path) (e : WireError) → xs ≡ [] → IsRefused ys e → IsRefused (xs ++ ys ++ zs) e
refused_second xs ys zs e none h = refused_front (xs ++ ys) zs e (refused_behind xs ys e none h)

pub refused_third : (xs ys zs : List Path) (e : WireError) → xs ≡ [] → ys ≡ [] → IsRefused zs e → IsRefused (xs ++ ys ++ zs) e
refused_third xs ys zs e none empty h = refused_behind (xs ++ ys) zs e (ap (λ ps. ps ++ ys) none ∙ empty) h

pub all_none : (xs ys zs : List Path) → xs ≡ [] → ys ≡ [] → zs ≡ [] → xs ++ ys ++ zs ≡ []
all_none xs ys zs none empty last = ap (λ ps. ps ++ ys ++ zs) none ∙ ap (λ ps. ps ++ zs) empty ∙ last
