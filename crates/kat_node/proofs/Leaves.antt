-- Leaves without a fault are those of a cell of the shape, and those of such a cell have no fault.
use Rattle.std.proofs.Common.{◌≡◌, ℕ, ◌+◌, true, List, [], ◌∷◌, length, map, refl, sym, ◌∙◌, arith}
use Rattle.std.specs.Prelude.{◌==◌, ◌&&◌, not}
use Rattle.std.proofs.lemmas.Bool.{eq-eqb, eqb-true}
use Rattle.kat_num.specs.declared.values.Value.{Value}
use Rattle.kat_num.specs.declared.values.Value.TheVariants as value
use Rattle.kat_shape.specs.Forms.{CellForm, leaf_kind_of, leaf_kinds_of}
use Rattle.kat_design.specs.Faults.{here_if, is_written, matched_faults, start_faults, within}
use Rattle.kat_design.specs.Kinds.{is_kind, kinds_of, value_kind}
use Rattle.kat_design.specs.Sorted.{AreMatched, EachHas, IsStart, IsWritten}
use Rattle.kat_design.specs.declared.kinds.Kind.{Kind}
use Rattle.kat_design.specs.declared.kinds.Kind.TheVariants as kind
use Rattle.kat_design.proofs.Accepted.{and_left, and_right, none_left, none_right}
use Rattle.kat_design.proofs.SmallDesigns.{leaf_of_kind, shape_leaves, starts_fit}
use Rattle.kat_json.proofs.Backwards.{here_back, within_back}
use Rattle.kat_node.specs.Possible.{leaves_faults}
use Rattle.kat_node.proofs.Empty.{no_both, no_here, no_within}
use Rattle.kat_node.proofs.Judged.{not_back}
use Rattle.kat_node.proofs.Values.{and_both, value_written, written_value}

kinds_same : (a b : Kind) → is_kind a b ≡ true → a ≡ b
kinds_same kind.Number kind.Number e = refl
kinds_same kind.Name kind.Name e = refl
kinds_same kind.Truth kind.Truth e = refl
kinds_same a b e = absurd (cc)

leaf_start : (v : Value) (k : Kind) → start_faults v k ≡ [] → IsStart v k
leaf_start v k none =
    let t = not_back (is_kind k (value_kind v) && is_written v) (here_back (not (is_kind k (value_kind v) && is_written v)) none) in
    record { kind_is = sym (kinds_same k (value_kind v) (and_left (is_kind k (value_kind v)) (is_written v) t)); written = written_value v (and_right (is_kind k (value_kind v)) (is_written v) t) }

matched_start : (i : ℕ) (vs : List Value) (ks : List Kind) → length vs ≡ length ks → matched_faults start_faults i vs ks ≡ [] → AreMatched IsStart vs ks
matched_start i [] [] even none = tt
matched_start i [] (k ∷ ks) even none = absurd (omega arith)
matched_start i (v ∷ vs) [] even none = absurd (omega arith)
matched_start i (v ∷ vs) (k ∷ ks) even none = (
  leaf_start v k (within_back i (start_faults v k) (none_left (within i (start_faults v k)) (matched_faults start_faults (i + 1) vs ks) none)),
  matched_start (i + 1) vs ks (omega arith) (none_right (within i (start_faults v k)) (matched_faults start_faults (i + 1) vs ks) none),
)

leaves_start : (shape : CellForm) (vs : List Value) → leaves_faults shape vs ≡ [] → AreMatched IsStart vs (kinds_of shape)
leaves_start shape vs none =
    let ks = kinds_of shape in
    let front = here_if (not (length vs == length ks)) in
    let rest = matched_faults start_faults 0 vs ks in
    matched_start 0 vs ks (eqb-true (length vs) (length ks) (not_back (length vs == length ks) (here_back (not (length vs == length ks)) (none_left front rest none)))) (none_right front rest none)

pub leaves_fit : (shape : CellForm) (vs : List Value) → leaves_faults shape vs ≡ [] → map leaf_kind_of vs ≡ leaf_kinds_of shape
leaves_fit shape vs none = starts_fit shape vs (leaves_start shape vs none)

pub each_written : (vs : List Value) (ks : List Kind) → AreMatched IsStart vs ks → EachHas IsWritten vs
each_written [] [] each = tt
each_written [] (k ∷ ks) each = absurd each
each_written (v ∷ vs) [] each = absurd each
each_written (v ∷ vs) (k ∷ ks) each = (each.0.written, each_written vs ks each.1)

pub leaves_written : (shape : CellForm) (vs : List Value) → leaves_faults shape vs ≡ [] → EachHas IsWritten vs
leaves_written shape vs none = each_written vs (kinds_of shape) (leaves_start shape vs none)

-- the way back
kind_same : (v : Value) (k : Kind) → leaf_kind_of v ≡ leaf_of_kind k → is_kind k (value_kind v) ≡ true
kind_same (value.Bool b) kind.Truth h = refl
kind_same (value.Num z) kind.Number h = refl
kind_same (value.Name code) kind.Name h = refl
kind_same (value.Bool b) kind.Number h = absurd (cc)
kind_same (value.Bool b) kind.Name h = absurd (cc)
kind_same (value.Num z) kind.Name h = absurd (cc)
kind_same (value.Num z) kind.Truth h = absurd (cc)
kind_same (value.Name code) kind.Number h = absurd (cc)
kind_same (value.Name code) kind.Truth h = absurd (cc)

leaf_right : (v : Value) (k : Kind) → leaf_kind_of v ≡ leaf_of_kind k → IsWritten v → start_faults v k ≡ []
leaf_right v k same is = no_here (is_kind k (value_kind v) && is_written v) (and_both (is_kind k (value_kind v)) (is_written v) (kind_same v k same) (value_written v is))

pub first_same : {A : Type 0} (x y : A) (xs ys : List A) → x ∷ xs ≡ y ∷ ys → (x ≡ y) × (xs ≡ ys)
first_same x y xs ys h = (cc, cc)

matched_right : (i : ℕ) (vs : List Value) (ks : List Kind) → map leaf_kind_of vs ≡ map leaf_of_kind ks → EachHas IsWritten vs → (length vs ≡ length ks) × (matched_faults start_faults i vs ks ≡ [])
matched_right i [] [] same each = (refl, refl)
matched_right i [] (k ∷ ks) same each = absurd (cc)
matched_right i (v ∷ vs) [] same each = absurd (cc)
matched_right i (v ∷ vs) (k ∷ ks) same each =
    let both = first_same (leaf_kind_of v) (leaf_of_kind k) (map leaf_kind_of vs) (map leaf_of_kind ks) same in
    let rest = matched_right (i + 1) vs ks both.1 each.1 in
    (omega (arith, rest.0), no_both (within i (start_faults v k)) (matched_faults start_faults (i + 1) vs ks) (no_within i (start_faults v k) (leaf_right v k both.0 each.0)) rest.1)

pub leaves_right : (shape : CellForm) (vs : List Value) → map leaf_kind_of vs ≡ leaf_kinds_of shape → EachHas IsWritten vs → leaves_faults shape vs ≡ []
leaves_right shape vs same each =
    let ks = kinds_of shape in
    let all = matched_right 0 vs ks (same ∙ sym (shape_leaves shape)) each in
    no_both (here_if (not (length vs == length ks))) (matched_faults start_faults 0 vs ks) (no_here (length vs == length ks) (eq-eqb (length vs) (length ks) all.0)) all.1
