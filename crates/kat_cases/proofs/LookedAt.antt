-- One clause more that is only looked at: what it changes if no clause is falsified or unit.
use Rattle.std.proofs.Common.{◌≡◌, ◌≢◌, ◌↔◌, ℤ, neg_ℤ, List, [], ◌∷◌, ◌++◌, ⊎_elim, sym, ap, ◌∙◌, subst, Contains, Bool, true, false, IsTrue, IfOk, Result, Ok, Err, Option, Some, None}
use Rattle.std.proofs.Math.IntN.{neg_ℤ-neg_ℤ}
use Rattle.std.proofs.lemmas.Bool.{cases_Bool, false≢true}
use Rattle.std.proofs.lemmas.List.{map-append}
use Rattle.std.proofs.lemmas.List.Elements.{Contains-push, Contains-push_cases, Contains-append_left}
use Rattle.kat_clause.specs.Clauses.{Derived, Follows, opposites}
use Rattle.kat_clause.specs.Clauses.Derived.{denied, forced}
use Rattle.kat_clause.proofs.Codes.{cases_literal}
use Rattle.kat_clause.proofs.Laws.{derived_more, follows_more, among_lists, among_itself}
use Rattle.kat_watch.proofs.Following.{opposite_in, opposite_of}
use Rattle.kat_cases.specs.declared.guests.Guest.TheVariants.{Falsified, Idle, Unit as LastOpen}
use Rattle.kat_cases.specs.Guests.{with_guest, AreApart, IsLastOpen, HasMarked, HasTwoOpen, LooksAt}

-- A literal of a guest clause is true, or two of its literals are open: it forces nothing that is not there.
-- Here `M` is what is derived without it.
pub record IsIdle (clauses : List (List ℤ)) (line : List ℤ) (guest : List ℤ) : Type 0 where
  pub unit : (m : ℤ) → Contains guest m → ((k : ℤ) → Contains guest k → k ≢ m → Derived clauses line (neg_ℤ k)) → Derived clauses line m
  pub unfalsified : ((k : ℤ) → Contains guest k → Derived clauses line (neg_ℤ k)) → ⊥

in_more : (clauses : List (List ℤ)) (guest : List ℤ) (clause : List ℤ) → Contains clauses clause → Contains (clauses ++ guest ∷ []) clause
in_more clauses guest clause has = Contains-append_left clauses (guest ∷ []) clause has

-- an idle guest derives nothing more
pub idle_derives : (clauses : List (List ℤ)) (line guest : List ℤ) → IsIdle clauses line guest → (m : ℤ) → Derived (clauses ++ guest ∷ []) line m → Derived clauses line m
idle_derives clauses line guest idle m (denied _ l has e) = denied m l has e
idle_derives clauses line guest idle m (forced _ clause among in' others) =
    let rest : (k : ℤ) → Contains clause k → k ≢ m → Derived clauses line (neg_ℤ k) = λ k has ne. idle_derives clauses line guest idle (neg_ℤ k) (others k has ne) in
    ⊎_elim
    (λ (was : Contains clauses clause). forced m clause was in' rest)
    (λ (e : guest ≡ clause).
    let P : List ℤ → Type 0 = λ cl. Contains cl m in
    idle.unit m (subst P (sym e) in') (λ k has ne. let Q : List ℤ → Type 0 = λ cl. Contains cl k in rest k (subst Q e has) ne))
    (Contains-push_cases clauses guest clause among)

-- and falsifies nothing
pub idle_refutes_not : (clauses : List (List ℤ)) (line guest : List ℤ) → IsIdle clauses line guest → (Follows clauses line → ⊥) → Follows (clauses ++ guest ∷ []) line → ⊥
idle_refutes_not clauses line guest idle never (clause, among, falsified) =
    let all : (k : ℤ) → Contains clause k → Derived clauses line (neg_ℤ k) = λ k has. idle_derives clauses line guest idle (neg_ℤ k) (falsified k has) in
    ⊎_elim
    (λ (was : Contains clauses clause). never (clause, was, all))
    (λ (e : guest ≡ clause). idle.unfalsified (λ k has. let Q : List ℤ → Type 0 = λ cl. Contains cl k in all k (subst Q e has)))
    (Contains-push_cases clauses guest clause among)

-- a guest that is falsified
pub guest_refutes : (clauses : List (List ℤ)) (line guest : List ℤ) → ((k : ℤ) → Contains guest k → Derived clauses line (neg_ℤ k)) → Follows (clauses ++ guest ∷ []) line
guest_refutes clauses line guest all =
    (guest, Contains-push clauses guest, λ k has. derived_more clauses (clauses ++ guest ∷ []) line line (among_lists clauses (clauses ++ guest ∷ []) (in_more clauses guest)) (λ j h. h) (neg_ℤ k) (all k has))

-- A guest whose last open literal is `m` counts as that literal assumed.

push_line : (given : List ℤ) (m : ℤ) → opposites (given ++ m ∷ []) ≡ opposites given ++ neg_ℤ m ∷ []
push_line given m = map-append neg_ℤ given (m ∷ [])

in_pushed : (given : List ℤ) (m l : ℤ) → Contains (opposites given) l → Contains (opposites (given ++ m ∷ [])) l
in_pushed given m l has = subst (λ (t : List ℤ). Contains t l) (sym (push_line given m)) (Contains-append_left (opposites given) (neg_ℤ m ∷ []) l has)

pub assumed_derived : (clauses : List (List ℤ)) (given : List ℤ) (m : ℤ) → Derived clauses (opposites (given ++ m ∷ [])) m
assumed_derived clauses given m = denied m (neg_ℤ m) (opposite_in (given ++ m ∷ []) m (Contains-push given m)) (sym (neg_ℤ-neg_ℤ m))

-- what is derived with `m` assumed is derived with the guest
pub forced_derives : (clauses : List (List ℤ)) (given guest : List ℤ) (m : ℤ) → Derived (clauses ++ guest ∷ []) (opposites given) m → (k : ℤ) → Derived clauses (opposites (given ++ m ∷ [])) k → Derived (clauses ++ guest ∷ []) (opposites given) k
forced_derives clauses given guest m is k (denied _ l has e) = ⊎_elim
    (λ (was : Contains given (neg_ℤ l)). denied k l (subst (Contains (opposites given)) (neg_ℤ-neg_ℤ l) (opposite_in given (neg_ℤ l) was)) e)
    (λ (f : m ≡ neg_ℤ l). subst (Derived (clauses ++ guest ∷ []) (opposites given)) (f ∙ sym e) is)
    (Contains-push_cases given m (neg_ℤ l) (opposite_of (given ++ m ∷ []) l has))
forced_derives clauses given guest m is k (forced _ clause among in' others) =
    forced k clause (in_more clauses guest clause among) in' (λ j has ne. forced_derives clauses given guest m is (neg_ℤ j) (others j has ne))

-- what is derived with the guest is derived with `m` assumed, if the guest has `m`
pub guest_derives : (clauses : List (List ℤ)) (given guest : List ℤ) (m : ℤ) → Contains guest m → ((k : ℤ) → Contains guest k → k ≢ m → Derived clauses (opposites given) (neg_ℤ k))
    → ((k : ℤ) → Derived clauses (opposites (given ++ m ∷ [])) k → Derived clauses (opposites (given ++ m ∷ [])) (neg_ℤ k) → ⊥)
    → (k : ℤ) → Derived (clauses ++ guest ∷ []) (opposites given) k → Derived clauses (opposites (given ++ m ∷ [])) k
guest_derives clauses given guest m has rest apart k (denied _ l there e) = denied k l (in_pushed given m l there) e
guest_derives clauses given guest m has rest apart k (forced _ clause among in' others) =
    let line = opposites (given ++ m ∷ []) in
    let all : (j : ℤ) → Contains clause j → j ≢ k → Derived clauses line (neg_ℤ j) = λ j there ne. guest_derives clauses given guest m has rest apart (neg_ℤ j) (others j there ne) in
    ⊎_elim
    (λ (was : Contains clauses clause). forced k clause was in' all)
    (λ (e : guest ≡ clause). ⊎_elim
    (λ (f : m ≡ k). subst (Derived clauses line) f (assumed_derived clauses given m))
    (λ (ne : m ≡ k → ⊥).
    let P : List ℤ → Type 0 = λ cl. Contains cl m in
    absurd (apart m (assumed_derived clauses given m) (all m (subst P e has) ne)))
    (cases_literal m k))
    (Contains-push_cases clauses guest clause among)

pub forced_refutes : (clauses : List (List ℤ)) (given guest : List ℤ) (m : ℤ) → Contains guest m → ((k : ℤ) → Contains guest k → k ≢ m → Derived clauses (opposites given) (neg_ℤ k)) → Follows clauses (opposites (given ++ m ∷ [])) → Follows (clauses ++ guest ∷ []) (opposites given)
forced_refutes clauses given guest m has rest (clause, among, falsified) =
    let more = among_lists clauses (clauses ++ guest ∷ []) (in_more clauses guest) in
    let is : Derived (clauses ++ guest ∷ []) (opposites given) m = forced m guest (Contains-push clauses guest) has (λ k there ne. derived_more clauses (clauses ++ guest ∷ []) (opposites given) (opposites given) more (λ j h. h) (neg_ℤ k) (rest k there ne)) in
    (clause, in_more clauses guest clause among, λ k there. forced_derives clauses given guest m is (neg_ℤ k) (falsified k there))

-- A LITERAL WHOSE OPPOSITE IS FORCED

-- to assume the opposite of what a clause forces falsifies that clause
pub clash_refutes : (clauses : List (List ℤ)) (given : List ℤ) (m : ℤ) (clause : List ℤ) → Contains clauses clause → Contains clause (neg_ℤ m) → ((k : ℤ) → Contains clause k → k ≢ neg_ℤ m → Derived clauses (opposites given) (neg_ℤ k)) → Follows clauses (opposites (given ++ m ∷ []))
clash_refutes clauses given m clause among has rest = (
  clause,
  among,
  λ k there. ⊎_elim
      (λ (e : k ≡ neg_ℤ m). subst (Derived clauses (opposites (given ++ m ∷ []))) (sym (ap neg_ℤ e ∙ neg_ℤ-neg_ℤ m)) (assumed_derived clauses given m))
      (λ (ne : k ≢ neg_ℤ m). derived_more clauses clauses (opposites given) (opposites (given ++ m ∷ [])) (among_itself clauses) (in_pushed given m) (neg_ℤ k) (rest k there ne))
      (cases_literal k (neg_ℤ m)),
)

-- A clause with a true literal is idle.
true_idle : (clauses : List (List ℤ)) (line guest : List ℤ) (t : ℤ) → ((k : ℤ) → Derived clauses line k → Derived clauses line (neg_ℤ k) → ⊥) → Contains guest t → Derived clauses line t → IsIdle clauses line guest
true_idle clauses line guest t apart has is = record {
  unit = λ m in' others. ⊎_elim (λ (e : t ≡ m). subst (Derived clauses line) e is) (λ (ne : t ≡ m → ⊥). absurd (apart t is (others t has ne))) (cases_literal t m);
  unfalsified = λ all. apart t is (all t has);
}

-- the clause that is falsified with the guest is one of the others
pub guest_follows : (clauses : List (List ℤ)) (given guest : List ℤ) (m : ℤ) → IsLastOpen clauses given guest m → AreApart clauses (given ++ m ∷ []) → Follows (clauses ++ guest ∷ []) (opposites given) → Follows clauses (opposites (given ++ m ∷ []))
guest_follows clauses given guest m last apart (clause, among, falsified) =
    let line = opposites (given ++ m ∷ []) in
    let all : (k : ℤ) → Contains clause k → Derived clauses line (neg_ℤ k) = λ k there. guest_derives clauses given guest m last.0 last.1 apart (neg_ℤ k) (falsified k there) in
    ⊎_elim {C = Follows clauses line}
    (λ (was : Contains clauses clause). (clause, was, all))
    (λ (e : guest ≡ clause). let P : List ℤ → Type 0 = λ cl. Contains cl m in absurd (apart m (assumed_derived clauses given m) (all m (subst P e last.0))))
    (Contains-push_cases clauses guest clause among)

-- a clause with two literals that aren't denied is idle
idle_two : (clauses : List (List ℤ)) (line guest : List ℤ) (j k : ℤ) → Contains guest j → Contains guest k → k ≢ j → (Derived clauses line (neg_ℤ j) → ⊥) → (Derived clauses line (neg_ℤ k) → ⊥) → IsIdle clauses line guest
idle_two clauses line guest j k has_j has_k ne open_j open_k = record {
  unit = λ m in' others. ⊎_elim
      (λ (e : j ≡ m). absurd (open_k (others k has_k (λ f. ne (f ∙ sym e)))))
      (λ (differs : j ≡ m → ⊥). absurd (open_j (others j has_j differs)))
      (cases_literal j m);
  unfalsified = λ all. open_j (all j has_j);
}

-- WHAT A LOOK AT MARKS TELLS

-- the marks are those of the literals that are derived
abbrev pub Tells : (ℤ → Bool) → List (List ℤ) → List ℤ → Type 0
Tells has clauses given = (k : ℤ) → IsTrue (has k) ↔ Derived clauses (opposites given) k

undenied : (has : ℤ → Bool) (clauses : List (List ℤ)) (given : List ℤ) (k : ℤ) → Tells has clauses given → has k ≡ false → Derived clauses (opposites given) k → ⊥
undenied has clauses given k tells free d = false≢true (sym free ∙ (tells k).1 d)

pub falsified_guest : (has : ℤ → Bool) (clauses : List (List ℤ)) (given guest : List ℤ) → Tells has clauses given → LooksAt has guest Falsified → Follows (clauses ++ guest ∷ []) (opposites given)
falsified_guest has clauses given guest tells looks = guest_refutes clauses (opposites given) guest (λ k in'. (tells (neg_ℤ k)).0 (looks k in'))

pub idle_guest : (has : ℤ → Bool) (clauses : List (List ℤ)) (given guest : List ℤ) → Tells has clauses given → AreApart clauses given → (Follows clauses (opposites given) → ⊥) → LooksAt has guest Idle → Follows (clauses ++ guest ∷ []) (opposites given) → ⊥
idle_guest has clauses given guest tells apart never looks = idle_refutes_not clauses (opposites given) guest
    (⊎_elim {C = IsIdle clauses (opposites given) guest}
    (λ (m : HasMarked has guest). true_idle clauses (opposites given) guest m.0 apart m.1 ((tells m.0).0 m.2))
    (λ (two : HasTwoOpen has guest). idle_two clauses (opposites given) guest two.one two.two two.has_one two.has_two two.differ
    (undenied has clauses given (neg_ℤ two.one) tells two.open_one) (undenied has clauses given (neg_ℤ two.two) tells two.open_two))
    looks)
    never

pub last_open : (has : ℤ → Bool) (clauses : List (List ℤ)) (given guest : List ℤ) (m : ℤ) → Tells has clauses given → LooksAt has guest (LastOpen m) → IsLastOpen clauses given guest m
last_open has clauses given guest m tells looks = (looks.0, λ k in' ne. (tells (neg_ℤ k)).0 (looks.2 k in' ne))

pub last_apart : (has : ℤ → Bool) (clauses : List (List ℤ)) (given guest : List ℤ) (m : ℤ) → Tells has clauses given → LooksAt has guest (LastOpen m) → Contains given (neg_ℤ m) → ⊥
last_apart has clauses given guest m tells looks there =
    undenied has clauses given (neg_ℤ m) tells looks.1 (denied (neg_ℤ m) (neg_ℤ (neg_ℤ m)) (opposite_in given (neg_ℤ m) there) (sym (neg_ℤ-neg_ℤ (neg_ℤ m))))

pub unit_guest : {E : Type 0} (r : Result Bool E) (clauses : List (List ℤ)) (given guest : List ℤ) (m : ℤ) → IsLastOpen clauses given guest m → IfOk r (λ b. IsTrue b ↔ Follows clauses (opposites (given ++ m ∷ []))) → IfOk r (λ b. b ≡ false → AreApart clauses (given ++ m ∷ []))
    → IfOk r (λ b. IsTrue b ↔ Follows (clauses ++ guest ∷ []) (opposites given))
unit_guest (Err e) clauses given guest m last told apart = told
unit_guest (Ok b) clauses given guest m last told apart = (
  λ t. forced_refutes clauses given guest m last.0 last.1 (told.0 t),
  λ f. ⊎_elim (λ (yes' : b ≡ true). yes') (λ (no' : b ≡ false). told.1 (guest_follows clauses given guest m last (apart no') f)) (cases_Bool b),
)

-- what follows without the guest follows with it
pub guest_more : (clauses : List (List ℤ)) (guest : Option (List ℤ)) (line : List ℤ) → Follows clauses line → Follows (with_guest clauses guest) line
guest_more clauses None line follows = follows
guest_more clauses (Some guest) line follows = follows_more clauses (clauses ++ guest ∷ []) line line (among_lists clauses (clauses ++ guest ∷ []) (in_more clauses guest)) (λ j h. h) follows
