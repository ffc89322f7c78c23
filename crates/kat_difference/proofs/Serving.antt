-- What is told, or the start if nothing is, serves in place of the value.
use Rattle.std.proofs.Common.{◌≡◌, Option, Some, None, Result, IfOk, refl, sym, ◌∙◌, ap, subst}
use Rattle.std.proofs.lemmas.Result.{IfOk-weaker}
use Rattle.kat_join.specs.Chains.{kin_left}
use Rattle.kat_join.specs.JoinLaws.{JoinLaws, IsBelow}
use Rattle.kat_difference.specs.Differences.{IsFilled, IsFrom, Lacks, Serves, ServesAbove, Tells, TellsNothing}
use Rattle.kat_difference.proofs.Chains.{kin_of}

pub start_from : {L : Type 0} {kin : L → L → Type 0} {joined : L → L → L} → JoinLaws kin joined → (start known : L) → IsFrom kin joined start known → IsFrom kin joined start start
start_from laws start known h =
    let k = kin_left laws start known h.goes in
    record { goes = k; own = laws.idem start k }

pub serves_none : {L : Type 0} {kin : L → L → Type 0} {joined : L → L → L} → JoinLaws kin joined → (exact : Type 0) (start known value : L) → IsFrom kin joined start known → IsFrom kin joined start value → IsBelow joined value known → Serves kin joined exact start known value start
serves_none {L} {kin} {joined} laws exact start known value h k below = record {
  from = start_from laws start known h;
  same =
      let a : joined known start ≡ joined start known = sym (laws.comm start known h.goes) in
      let b : joined start known ≡ known = h.own in
      let c : joined known value ≡ joined value known = laws.comm known value (kin_of laws start known value h k) in
      let d : joined value known ≡ known = below in
      cc;
  nothing = λ known_is. refl;
  least = λ x. record { below = λ other f e. f.own };
}

-- what isn't known isn't told of a value that is
never_new : {L : Type 0} {kin : L → L → Type 0} {joined : L → L → L} → JoinLaws kin joined → (start known value d : L) → kin known value → IsBelow joined value known → Tells kin joined start known value d → kin known d → ⊥
never_new {L} {kin} {joined} laws start known value d k below tells kd =
    let a : joined d known ≡ joined known d = sym (laws.comm known d kd) in
    let b : joined known d ≡ joined known value = tells.same in
    let c : joined known value ≡ joined value known = laws.comm known value k in
    let e : joined value known ≡ known = below in
    tells.new (a ∙ (b ∙ (c ∙ e)))

pub tells_nothing : {L : Type 0} {kin : L → L → Type 0} {joined : L → L → L} → JoinLaws kin joined → (exact : L → Type 0) → TellsNothing kin joined exact
tells_nothing laws exact start known value None h k lacks below = refl
tells_nothing laws exact start known value (Some d) h k lacks below =
    absurd (never_new laws start known value d (kin_of laws start known value h k) below lacks.0 (kin_of laws start known d h lacks.0.from))

pub serves : {L : Type 0} {kin : L → L → Type 0} {joined : L → L → L} → JoinLaws kin joined → (exact : Type 0) (start known value : L) (o : Option L) (told : L) → IsFrom kin joined start known → IsFrom kin joined start value → Lacks kin joined exact start known value o → IsFilled start o told → Serves kin joined exact start known value told
serves {L} {kin} {joined} laws exact start known value None told h k lacks filled =
    subst (λ (t : L). Serves kin joined exact start known value t) (sym filled) (serves_none laws exact start known value h k lacks)
serves {L} {kin} {joined} laws exact start known value (Some d) told h k lacks filled =
    subst (λ (t : L). Serves kin joined exact start known value t) (sym filled) (record {
      from = lacks.0.from;
      same = lacks.0.same;
      nothing = λ below. absurd (never_new laws start known value d (kin_of laws start known value h k) below lacks.0 (kin_of laws start known d h lacks.0.from));
      least = lacks.1;
    })

pub serves_above : {L : Type 0} {kin : L → L → Type 0} {joined : L → L → L} → JoinLaws kin joined → ServesAbove kin joined
serves_above {L} {kin} {joined} laws known value told above h k a below same =
    let e : joined above known ≡ above = laws.comm above known a ∙ below in
    ap (λ (t : L). joined t told) (sym e)
    ∙ (laws.assoc above known told a h ∙ (ap (joined above) same ∙ (sym (laws.assoc above known value a k) ∙ ap (λ (t : L). joined t value) e)))

-- of what two calls give
pub serves_ok : {L : Type 0} {kin : L → L → Type 0} {joined : L → L → L} → JoinLaws kin joined → (exact : Type 0) {start known value : L} (d : L) → IsFrom kin joined start known → IsFrom kin joined start value → Lacks kin joined exact start known value (Some d) → Serves kin joined exact start known value d
serves_ok laws exact {start} {known} {value} d h k lacks = serves laws exact start known value (Some d) d h k lacks refl

pub serves_told : {L X : Type 0} {kin : L → L → Type 0} {joined : L → L → L} → JoinLaws kin joined → (exact : Type 0) {start known value : L} (o : Option L) (r : Result L X) → IsFrom kin joined start known → IsFrom kin joined start value → Lacks kin joined exact start known value o → IfOk r (IsFilled start o) → IfOk r (Serves kin joined exact start known value)
serves_told {L} {X} {kin} {joined} laws exact {start} {known} {value} o r h k lacks filled =
    IfOk-weaker r (IsFilled start o) (Serves kin joined exact start known value) (λ told is. serves laws exact start known value o told h k lacks is) filled
