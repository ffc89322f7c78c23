-- What a denotation keeps when operations are absorbed, and when two lists of them are united.
use Rattle.std.proofs.Common.{◌≡◌, inl, inr, Bool, true, false, List, [], ◌∷◌, ◌++◌, refl, sym, ◌∙◌, ap, cond}
use Rattle.std.specs.Prelude.{not, ◌||◌, filter}
use Rattle.std.specs.List.{list_any}
use Rattle.kat_type.specs.Unions.{is_same, united}
use Rattle.kat_type.specs.declared.done.Done.{Done}
use Rattle.kat_type.specs.Lists.{Has}
use Rattle.kat_type.specs.Lists.{HaveSame}
use Rattle.kat_design.specs.Meanings.{Means}
use Rattle.kat_design.specs.Meanings.{joins}
use Rattle.kat_type.proofs.Unions.{has_any}
use Rattle.kat_design.specs.Meanings.{Effects, AreEffects, denotation}
use Rattle.kat_type.proofs.Same.{same-done}

-- all states that operations give go together with the start
pub start-kin-denotation : {L : Type 0} {kin : L → L → Type 0} (m : Effects L) → AreEffects kin m
    → (dones : List Done) → kin m.start (denotation m dones)
start-kin-denotation m means [] = means.start_kin
start-kin-denotation m means (done ∷ dones) =
    let e = means.effect_kin done in
    let d = start-kin-denotation m means dones in
    means.laws.kin_trans m.start (m.effect done) (m.joined (m.effect done) (denotation m dones)) e
    (means.laws.keeps (m.effect done) (denotation m dones)
    (means.laws.kin_trans (m.effect done) m.start (denotation m dones) (means.laws.kin_sym m.start (m.effect done) e) d))

-- states that go together with the start go together
pub both-kin : {L : Type 0} {kin : L → L → Type 0} (m : Effects L) → AreEffects kin m
    → (a b : L) → kin m.start a → kin m.start b → kin a b
both-kin m means a b h k = means.laws.kin_trans a m.start b (means.laws.kin_sym m.start a h) k

pub denotations-kin : {L : Type 0} {kin : L → L → Type 0} (m : Effects L) → AreEffects kin m
    → (xs ys : List Done) → kin (denotation m xs) (denotation m ys)
denotations-kin m means xs ys = both-kin m means (denotation m xs) (denotation m ys) (start-kin-denotation m means xs) (start-kin-denotation m means ys)

-- the join of three states that go together with the start is the same however it is grouped
regroup : {L : Type 0} {kin : L → L → Type 0} (m : Effects L) → AreEffects kin m
    → (a b c : L) → kin m.start a → kin m.start b → kin m.start c → m.joined (m.joined a b) c ≡ m.joined a (m.joined b c)
regroup m means a b c h k l = means.laws.assoc a b c (both-kin m means a b h k) (both-kin m means b c k l)

turned : {L : Type 0} {kin : L → L → Type 0} (m : Effects L) → AreEffects kin m
    → (a b : L) → kin m.start a → kin m.start b → m.joined a b ≡ m.joined b a
turned m means a b h k = means.laws.comm a b (both-kin m means a b h k)

-- the start is below every state that operations give
pub start-joined : {L : Type 0} {kin : L → L → Type 0} (m : Effects L) → AreEffects kin m
    → (dones : List Done) → m.joined m.start (denotation m dones) ≡ denotation m dones
start-joined m means [] = means.laws.idem m.start means.start_kin
start-joined m means (done ∷ dones) =
    let e = means.effect_kin done in
    let d = start-kin-denotation m means dones in
    let s = means.start_kin in
    sym (regroup m means m.start (m.effect done) (denotation m dones) s e d)
    ∙ ap (λ x. m.joined x (denotation m dones)) (turned m means m.start (m.effect done) s e)
    ∙ regroup m means (m.effect done) m.start (denotation m dones) e s d
    ∙ ap (λ x. m.joined (m.effect done) x) (start-joined m means dones)

-- two lists of operations, one after the other
pub denotation-append : {L : Type 0} {kin : L → L → Type 0} (m : Effects L) → AreEffects kin m
    → (xs ys : List Done) → denotation m (xs ++ ys) ≡ m.joined (denotation m xs) (denotation m ys)
denotation-append m means [] ys = sym (start-joined m means ys)
denotation-append m means (x ∷ xs) ys =
    ap (λ d. m.joined (m.effect x) d) (denotation-append m means xs ys)
    ∙ sym (regroup m means (m.effect x) (denotation m xs) (denotation m ys) (means.effect_kin x) (start-kin-denotation m means xs) (start-kin-denotation m means ys))

-- the start adds nothing
joined-start : {L : Type 0} {kin : L → L → Type 0} (m : Effects L) → AreEffects kin m
    → (dones : List Done) → m.joined (denotation m dones) m.start ≡ denotation m dones
joined-start m means dones =
    turned m means (denotation m dones) m.start (start-kin-denotation m means dones) means.start_kin ∙ start-joined m means dones

-- one operation more
pub denotation-push : {L : Type 0} {kin : L → L → Type 0} (m : Effects L) → AreEffects kin m
    → (xs : List Done) (done : Done) → denotation m (xs ++ done ∷ []) ≡ m.joined (denotation m xs) (m.effect done)
denotation-push m means xs done =
    let e = means.effect_kin done in
    let d = start-kin-denotation m means xs in
    let s = means.start_kin in
    denotation-append m means xs (done ∷ [])
    ∙ ap (λ x. m.joined (denotation m xs) x) (turned m means (m.effect done) m.start e s)
    ∙ sym (regroup m means (denotation m xs) m.start (m.effect done) d s e)
    ∙ ap (λ x. m.joined x (m.effect done)) (joined-start m means xs)

absorbed_from : {L : Type 0} {kin : L → L → Type 0} (m : Effects L) → AreEffects kin m
    → (x : Done) (xs : List Done) (done : Done) (b : Bool) → is_same done x ≡ b
    → (list_any (is_same done) xs ≡ true → m.joined (m.effect done) (denotation m xs) ≡ denotation m xs)
    → (b || list_any (is_same done) xs) ≡ true → m.joined (m.effect done) (m.joined (m.effect x) (denotation m xs)) ≡ m.joined (m.effect x) (denotation m xs)
absorbed_from m means x xs done true is more h =
    let e = means.effect_kin x in
    let d = start-kin-denotation m means xs in
    let same : done ≡ x = same-done done x is in
    ap (λ y. m.joined (m.effect y) (m.joined (m.effect x) (denotation m xs))) same
    ∙ sym (regroup m means (m.effect x) (m.effect x) (denotation m xs) e e d)
    ∙ ap (λ y. m.joined y (denotation m xs)) (means.laws.idem (m.effect x) (both-kin m means (m.effect x) (m.effect x) e e))
absorbed_from m means x xs done false is more h =
    let e = means.effect_kin x in
    let f = means.effect_kin done in
    let d = start-kin-denotation m means xs in
    sym (regroup m means (m.effect done) (m.effect x) (denotation m xs) f e d)
    ∙ ap (λ y. m.joined y (denotation m xs)) (turned m means (m.effect done) (m.effect x) f e)
    ∙ regroup m means (m.effect x) (m.effect done) (denotation m xs) e f d
    ∙ ap (λ y. m.joined (m.effect x) y) (more h)

-- an operation that is there adds nothing
absorbed : {L : Type 0} {kin : L → L → Type 0} (m : Effects L) → AreEffects kin m
    → (xs : List Done) (done : Done) → list_any (is_same done) xs ≡ true → m.joined (m.effect done) (denotation m xs) ≡ denotation m xs
absorbed m means [] done h = absurd cc
absorbed m means (x ∷ xs) done h = absorbed_from m means x xs done (is_same done x) refl (λ k. absorbed m means xs done k) h

others_from : {L : Type 0} {kin : L → L → Type 0} (m : Effects L) → AreEffects kin m
    → (xs : List Done) (y : Done) (ys rest : List Done) (b : Bool) → list_any (is_same y) xs ≡ b
    → m.joined (denotation m xs) (denotation m rest) ≡ m.joined (denotation m xs) (denotation m ys)
    → m.joined (denotation m xs) (denotation m (cond (not b) (y ∷ rest) rest)) ≡ m.joined (denotation m xs) (m.joined (m.effect y) (denotation m ys))
others_from m means xs y ys rest true is more =
    let e = means.effect_kin y in
    let d = start-kin-denotation m means xs in
    let f = start-kin-denotation m means ys in
    more
    ∙ ap (λ x. m.joined x (denotation m ys)) (sym (turned m means (denotation m xs) (m.effect y) d e ∙ absorbed m means xs y is))
    ∙ regroup m means (denotation m xs) (m.effect y) (denotation m ys) d e f
others_from m means xs y ys rest false is more =
    let e = means.effect_kin y in
    let d = start-kin-denotation m means xs in
    let f = start-kin-denotation m means ys in
    let g = start-kin-denotation m means rest in
    sym (regroup m means (denotation m xs) (m.effect y) (denotation m rest) d e g)
    ∙ ap (λ x. m.joined x (denotation m rest)) (turned m means (denotation m xs) (m.effect y) d e)
    ∙ regroup m means (m.effect y) (denotation m xs) (denotation m rest) e d g
    ∙ ap (λ x. m.joined (m.effect y) x) more
    ∙ sym (regroup m means (m.effect y) (denotation m xs) (denotation m ys) e d f)
    ∙ ap (λ x. m.joined x (denotation m ys)) (turned m means (m.effect y) (denotation m xs) e d)
    ∙ regroup m means (denotation m xs) (m.effect y) (denotation m ys) d e f

others : {L : Type 0} {kin : L → L → Type 0} (m : Effects L) → AreEffects kin m
    → (xs ys : List Done) → m.joined (denotation m xs) (denotation m (filter (λ done. not (list_any (is_same done) xs)) ys)) ≡ m.joined (denotation m xs) (denotation m ys)
others m means xs [] = refl
others m means xs (y ∷ ys) = others_from m means xs y ys (filter (λ done. not (list_any (is_same done) xs)) ys) (list_any (is_same y) xs) refl (others m means xs ys)

-- two lists of operations united
pub denotation-united : {L : Type 0} {kin : L → L → Type 0} (m : Effects L) → AreEffects kin m
    → (xs ys : List Done) → denotation m (united xs ys) ≡ m.joined (denotation m xs) (denotation m ys)
denotation-united m means xs ys = denotation-append m means xs (filter (λ done. not (list_any (is_same done) xs)) ys) ∙ others m means xs ys

-- operations that are all among others add nothing to them
among : {L : Type 0} {kin : L → L → Type 0} (m : Effects L) → AreEffects kin m
    → (xs ys : List Done) → ((one : Done) → Has xs one → Has ys one) → m.joined (denotation m xs) (denotation m ys) ≡ denotation m ys
among m means [] ys h = start-joined m means ys
among m means (x ∷ xs) ys h =
    regroup m means (m.effect x) (denotation m xs) (denotation m ys) (means.effect_kin x) (start-kin-denotation m means xs) (start-kin-denotation m means ys)
    ∙ ap (λ d. m.joined (m.effect x) d) (among m means xs ys (λ one i. h one (inr i)))
    ∙ absorbed m means ys x (has_any ys x (h x (inl refl)))

-- the same operations, in whatever order and however often, give the same state
pub same_state : {L : Type 0} {kin : L → L → Type 0} (m : Effects L) → AreEffects kin m
    → (xs ys : List Done) → HaveSame xs ys → denotation m xs ≡ denotation m ys
same_state m means xs ys h =
    sym (among m means ys xs h.1)
    ∙ turned m means (denotation m ys) (denotation m xs) (start-kin-denotation m means ys) (start-kin-denotation m means xs)
    ∙ among m means xs ys h.0

pub joins_mean : {L : Type 0} {kin : L → L → Type 0} (e : Effects L) → AreEffects kin e
    → Means kin (joins e)
joins_mean e are = record {
  goes = λ xs ys. denotations-kin e are xs ys;
  same = λ xs ys h k same. same_state e are xs ys same;
  adds = λ xs one. sym (denotation-push e are xs one);
  unites = λ xs ys h k nested. sym (denotation-united e are xs ys);
}
