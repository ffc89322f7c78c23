-- Pairs told part by part.
use Rattle.std.proofs.Common.{◌≡◌, Option, Some, None, Result, IfOk, sym, ap, subst}
use Rattle.std.proofs.lemmas.Result.{IfOk-weaker}
use Rattle.kat_join.specs.JoinLaws.{JoinLaws}
use Rattle.kat_lattice.specs.Parts.{pairs_joined, pairs_kin}
use Rattle.kat_lattice.specs.declared.parts.Pair.{Pair}
use Rattle.kat_difference.specs.Differences.{IsFrom, Lacks, Serves}
use Rattle.kat_difference.specs.Pairs.{paired}
use Rattle.kat_difference.proofs.Serving.{serves_none, serves_ok}

same_pair : {A B : Type 0} (a c : A) (b d : B) → a ≡ c → b ≡ d → ◌≡◌ {A = Pair A B} (record { first = a; second = b }) (record { first = c; second = d })
same_pair a c b d h k = cc

pub first_from : {A B : Type 0} {kin_a : A → A → Type 0} {joined_a : A → A → A} {kin_b : B → B → Type 0} {joined_b : B → B → B} → JoinLaws kin_a joined_a → JoinLaws kin_b joined_b → (start value : Pair A B) → IsFrom (pairs_kin kin_a kin_b) (pairs_joined joined_a joined_b) start value → IsFrom kin_a joined_a start.first value.first
first_from {A} {B} la lb start value h = record { goes = h.goes.0; own = ap (λ (p : Pair A B). p.first) h.own }

pub second_from : {A B : Type 0} {kin_a : A → A → Type 0} {joined_a : A → A → A} {kin_b : B → B → Type 0} {joined_b : B → B → B} → JoinLaws kin_a joined_a → JoinLaws kin_b joined_b → (start value : Pair A B) → IsFrom (pairs_kin kin_a kin_b) (pairs_joined joined_a joined_b) start value → IsFrom kin_b joined_b start.second value.second
second_from {A} {B} la lb start value h = record { goes = h.goes.1; own = ap (λ (p : Pair A B). p.second) h.own }

both_serve : {A B : Type 0} {kin_a : A → A → Type 0} {joined_a : A → A → A} {kin_b : B → B → Type 0} {joined_b : B → B → B} (ea eb : Type 0) (start known value : Pair A B) (a : A) (b : B) → Serves kin_a joined_a ea start.first known.first value.first a → Serves kin_b joined_b eb start.second known.second value.second b
    → Serves (pairs_kin kin_a kin_b) (pairs_joined joined_a joined_b) (ea × eb) start known value (record { first = a; second = b })
both_serve {A} {B} {kin_a} {joined_a} {kin_b} {joined_b} ea eb start known value a b s t = record {
  from = record { goes = (s.from.goes, t.from.goes); own = same_pair _ _ _ _ s.from.own t.from.own };
  same = same_pair _ _ _ _ s.same t.same;
  nothing = λ below. same_pair _ _ _ _ (s.nothing (ap (λ (p : Pair A B). p.first) below)) (t.nothing (ap (λ (p : Pair A B). p.second) below));
  least = λ x. record {
    below = λ other f e. same_pair _ _ _ _
        ((s.least x.0).below other.first (record { goes = f.goes.0; own = ap (λ (p : Pair A B). p.first) f.own }) (ap (λ (p : Pair A B). p.first) e))
        ((t.least x.1).below other.second (record { goes = f.goes.1; own = ap (λ (p : Pair A B). p.second) f.own }) (ap (λ (p : Pair A B). p.second) e));
  };
}

told_pair : {L : Type 0} {kin : L → L → Type 0} {joined : L → L → L} {exact : Type 0} (start known value d : L) → Serves kin joined exact start known value d → (joined d known ≡ known → ⊥) → Lacks kin joined exact start known value (Some d)
told_pair start known value d s new = (record { from = s.from; same = s.same; new = new }, s.least)

pub pair_lacks : {A B : Type 0} {kin_a : A → A → Type 0} {joined_a : A → A → A} {kin_b : B → B → Type 0} {joined_b : B → B → B} → JoinLaws kin_a joined_a → JoinLaws kin_b joined_b → (ea eb : Type 0) (start known value : Pair A B) (o : Option A) (p : Option B) → IsFrom (pairs_kin kin_a kin_b) (pairs_joined joined_a joined_b) start known → IsFrom (pairs_kin kin_a kin_b) (pairs_joined joined_a joined_b) start value
    → Lacks kin_a joined_a ea start.first known.first value.first o → Lacks kin_b joined_b eb start.second known.second value.second p → Lacks (pairs_kin kin_a kin_b) (pairs_joined joined_a joined_b) (ea × eb) start known value (paired start o p)
pair_lacks la lb ea eb start known value None None h k m n = same_pair _ _ _ _ m n
pair_lacks {A} {B} la lb ea eb start known value (Some a) None h k m n =
    told_pair start known value _ (both_serve ea eb start known value a start.second (serves_ok la ea a (first_from la lb start known h) (first_from la lb start value k) m) (serves_none lb eb start.second known.second value.second (second_from la lb start known h) (second_from la lb start value k) n))
    (λ e. m.0.new (ap (λ (x : Pair A B). x.first) e))
pair_lacks {A} {B} la lb ea eb start known value None (Some b) h k m n =
    told_pair start known value _ (both_serve ea eb start known value start.first b (serves_none la ea start.first known.first value.first (first_from la lb start known h) (first_from la lb start value k) m) (serves_ok lb eb b (second_from la lb start known h) (second_from la lb start value k) n))
    (λ e. n.0.new (ap (λ (x : Pair A B). x.second) e))
pair_lacks {A} {B} la lb ea eb start known value (Some a) (Some b) h k m n =
    told_pair start known value _ (both_serve ea eb start known value a b (serves_ok la ea a (first_from la lb start known h) (first_from la lb start value k) m) (serves_ok lb eb b (second_from la lb start known h) (second_from la lb start value k) n))
    (λ e. m.0.new (ap (λ (x : Pair A B). x.first) e))

pub pair_told : {A B X : Type 0} {kin_a : A → A → Type 0} {joined_a : A → A → A} {kin_b : B → B → Type 0} {joined_b : B → B → B} → JoinLaws kin_a joined_a → JoinLaws kin_b joined_b → (ea eb : Type 0) (start known value : Pair A B) (o : Option A) (p : Option B) (r : Result (Option (Pair A B)) X) → IsFrom (pairs_kin kin_a kin_b) (pairs_joined joined_a joined_b) start known → IsFrom (pairs_kin kin_a kin_b) (pairs_joined joined_a joined_b) start value
    → Lacks kin_a joined_a ea start.first known.first value.first o → Lacks kin_b joined_b eb start.second known.second value.second p → IfOk r (λ (t : Option (Pair A B)). t ≡ paired start o p) → IfOk r (Lacks (pairs_kin kin_a kin_b) (pairs_joined joined_a joined_b) (ea × eb) start known value)
pair_told {A} {B} {X} {kin_a} {joined_a} {kin_b} {joined_b} la lb ea eb start known value o p r h k m n made =
    IfOk-weaker r (λ (t : Option (Pair A B)). t ≡ paired start o p) (Lacks (pairs_kin kin_a kin_b) (pairs_joined joined_a joined_b) (ea × eb) start known value)
    (λ t is. subst (λ (x : Option (Pair A B)). Lacks (pairs_kin kin_a kin_b) (pairs_joined joined_a joined_b) (ea × eb) start known value x) (sym is) (pair_lacks la lb ea eb start known value o p h k m n)) made
