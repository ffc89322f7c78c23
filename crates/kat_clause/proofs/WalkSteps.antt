-- What a look at a clause, and a literal that enters, do to a search.
use Rattle.std.proofs.Common.{◌≡◌, ◌≢◌, ℕ, suc, ◌+◌, ◌<◌, ◌≤◌, min, ℤ, neg_ℤ, List, [], ◌∷◌, ◌++◌, length, get_or, set, drop, Bool, true, false, cond, nat_eq, unwrap_or, Option, Some, None, ◌⊎◌, inl, inr, ⊎_elim, sym, ap, ◌∙◌, subst, arith, Contains, add-one, drop-cons}
use Rattle.std.specs.HashMap.{HashMap, get}
use Rattle.std.proofs.lemmas.Bool.{cases_eq, cases_lt, cases_Bool}
use Rattle.std.proofs.lemmas.Bool.Decides.{Decides-eqb}
use Rattle.std.proofs.lemmas.List.{get_or_default}
use Rattle.std.proofs.lemmas.List.Elements.{Contains-append_left, Contains-push, Contains-push_cases}
use Rattle.kat_clause.specs.declared.propagation.Propagation.{Propagation}
use Rattle.kat_clause.specs.declared.finding.Place.{Place}
use Rattle.kat_clause.specs.declared.finding.Look.{Look}
use Rattle.kat_clause.specs.declared.finding.Look.TheVariants.{Falsified, Single, Several}
use Rattle.kat_clause.specs.declared.finding.Walk.{Walk}
use Rattle.kat_clause.specs.Clauses.{SameMembers}
use Rattle.kat_clause.specs.Literals.{code_of}
use Rattle.kat_clause.specs.Tables.{IsIndexOnce, clause_at}
use Rattle.kat_clause.specs.Propagations.{IsIn, IsSet, SameSet, Enters, Grows, unmarked}
use Rattle.kat_clause.specs.Hints.{Falsifies, IsOnlyOpen}
use Rattle.kat_clause.specs.Choices.{IsUnit, Gives, IsNone, IsFirst}
use Rattle.kat_clause.specs.Queues.{Pops}
use Rattle.kat_clause.specs.Findings.{IsOpposed, literal_at, IsPlace, AllOpposed, OthersOpposed, IsLook, least_of, Notes, start, place_of, PutsPlace, IsWalk, IsNoticed, AreNoticed, AreGiving}
use Rattle.kat_clause.proofs.Codes.{cases_literal, Contains-at, at-Contains, unmarked-set}
use Rattle.kat_clause.proofs.Sets.{Grows-enters, IsSet-same}
use Rattle.kat_clause.proofs.Runs.{cases_among}
use Rattle.kat_clause.proofs.HintTests.{cases_cons, in_nothing, falsified_once, gives_once}
use Rattle.kat_clause.proofs.HintLemmas.{not_used}
use Rattle.kat_clause.proofs.ReadingSteps.{members_enter}

-- how far the literals have been passed, after a look
pub place_next : (marks : List Bool) (clause : List ℤ) (old new : Place) → IsPlace marks clause old
    → ((j : ℕ) → old.first ≤ j → j < new.first → j < length clause → IsOpposed marks (literal_at clause j))
    → (new.first < length clause → IsOpposed marks (literal_at clause new.first) → ⊥)
    → ((j : ℕ) → old.second ≤ j → j < new.second → j < length clause → IsOpposed marks (literal_at clause j) ⊎ (literal_at clause j ≡ literal_at clause new.first))
    → IsPlace marks clause new
place_next marks clause old new before passed stops others = record { first = first; second = second }
  where
    first : (j : ℕ) → j < new.first → j < length clause → IsOpposed marks (literal_at clause j)
    first j less within = ⊎_elim (λ (l : j < old.first). before.first j l within) (λ (l : old.first ≤ j). passed j l less within) (cases_lt j old.first)

    moved : (j : ℕ) → j < length clause → literal_at clause j ≡ literal_at clause old.first → IsOpposed marks (literal_at clause j) ⊎ (literal_at clause j ≡ literal_at clause new.first)
    moved j within e = ⊎_elim
        (λ (l : old.first < new.first). ⊎_elim
        (λ (there : old.first < length clause). inl (let P : ℤ → Type 0 = IsOpposed marks in subst P (sym e) (first old.first l there)))
        (λ (past : length clause ≤ old.first). inl (before.first j (omega (arith, within, past)) within))
        (cases_lt old.first (length clause)))
        (λ (l : new.first ≤ old.first). ⊎_elim
        (λ (same : old.first ≡ new.first). inr (e ∙ ap (literal_at clause) same))
        (λ (ne : old.first ≢ new.first). ⊎_elim
        (λ (there : new.first < length clause). absurd (stops there (before.first new.first (omega arith) there)))
        (λ (past : length clause ≤ new.first). inl (first j (omega (arith, within, past)) within))
        (cases_lt new.first (length clause)))
        (cases_eq old.first new.first))
        (cases_lt old.first new.first)

    second : (j : ℕ) → j < new.second → j < length clause → IsOpposed marks (literal_at clause j) ⊎ (literal_at clause j ≡ literal_at clause new.first)
    second j less within = ⊎_elim
        (λ (l : j < old.second). ⊎_elim
        (λ (h : IsOpposed marks (literal_at clause j)). inl h)
        (λ (e : literal_at clause j ≡ literal_at clause old.first). moved j within e)
        (before.second j l within))
        (λ (l : old.second ≤ j). others j l less within)
        (cases_lt j old.second)

-- what is open, after a look
opposed_at : (marks : List Bool) (clause : List ℤ) (k : ℤ) → (has : Contains clause k) → IsOpposed marks (literal_at clause has.0) → IsOpposed marks k
opposed_at marks clause k has h = let P : ℤ → Type 0 = IsOpposed marks in subst P (at-Contains clause k has) h

not_all : (marks : List Bool) (clause : List ℤ) (i : ℕ) → i < length clause → (IsOpposed marks (literal_at clause i) → ⊥) → AllOpposed marks clause → ⊥
not_all marks clause i h opens all = opens (all (literal_at clause i) (Contains-at clause i h))

not_others : (marks : List Bool) (clause : List ℤ) (i j : ℕ) → i < length clause → j < length clause → (IsOpposed marks (literal_at clause i) → ⊥) → (IsOpposed marks (literal_at clause j) → ⊥) → literal_at clause j ≢ literal_at clause i → (m : ℤ) → OthersOpposed marks clause m → ⊥
not_others marks clause i j h l opens more apart m others = ⊎_elim
    (λ (e : literal_at clause i ≡ m). more (others (literal_at clause j) (Contains-at clause j l) (λ f. apart (f ∙ sym e))))
    (λ (ne : literal_at clause i ≢ m). opens (others (literal_at clause i) (Contains-at clause i h) ne))
    (cases_literal (literal_at clause i) m)

pub look_next : (marks : List Bool) (clause : List ℤ) (place : Place) (look : Look) → IsPlace marks clause place
    → (place.first < length clause → IsOpposed marks (literal_at clause place.first) → ⊥)
    → (place.first < length clause → place.second < length clause → IsOpposed marks (literal_at clause place.second) → ⊥)
    → (place.first < length clause → place.second < length clause → literal_at clause place.second ≢ literal_at clause place.first)
    → (length clause ≤ place.first → look ≡ Falsified)
    → (place.first < length clause → length clause ≤ place.second → look ≡ Single)
    → (place.first < length clause → place.second < length clause → look ≡ Several)
    → IsLook marks clause look
look_next marks clause place look is stops stops_behind apart falsified single several =
    let P : Look → Type 0 = IsLook marks clause in
    ⊎_elim
    (λ (l : place.first < length clause). ⊎_elim
    (λ (m : place.second < length clause). subst P (sym (several l m)) (
      not_all marks clause place.first l (stops l),
      not_others marks clause place.first place.second l m (stops l) (stops_behind l m) (apart l m),
    ))
    (λ (m : length clause ≤ place.second). subst P (sym (single l m)) (not_all marks clause place.first l (stops l)))
    (cases_lt place.second (length clause)))
    (λ (l : length clause ≤ place.first). subst P (sym (falsified l)) (λ k has. opposed_at marks clause k has (is.first has.0 (omega (arith, has.1, l)) has.1)))
    (cases_lt place.first (length clause))

-- marks and trail
falsified_by : (state : Propagation) (clause : List ℤ) → IsSet state → AllOpposed state.marks.items clause → Falsifies state.trail.items clause
falsified_by state clause is_set all k has = is_set.listed (neg_ℤ k) (all k has)

all_opposed : (state : Propagation) (clause : List ℤ) → IsSet state → Falsifies state.trail.items clause → AllOpposed state.marks.items clause
all_opposed state clause is_set falsified k has = is_set.marked (neg_ℤ k) (falsified k has)

others_opposed : (state : Propagation) (clause : List ℤ) (m : ℤ) → IsSet state → IsOnlyOpen state.trail.items clause m → OthersOpposed state.marks.items clause m
others_opposed state clause m is_set only k has ne = is_set.marked (neg_ℤ k) (only.others k has ne)

-- the lesser of two
least_cases : (o : Option ℕ) (n i : ℕ) → Some (least_of o n) ≡ Some i → (i ≡ n) ⊎ (o ≡ Some i)
least_cases None n i e = let same : n ≡ i = cc in inl (sym same)
least_cases (Some m) n i e =
    let same : min m n ≡ i = cc in
    ⊎_elim
    (λ (l : m < n). let is : m ≡ i = omega (arith, same) in inr (ap (λ (x : ℕ). Some x) is))
    (λ (l : n ≤ m). inl (omega (arith, same)))
    (cases_lt m n)

least_below : (o : Option ℕ) (n : ℕ) → least_of o n ≤ n
least_below None n = omega arith
least_below (Some m) n = omega arith

least_known : (o : Option ℕ) (n j : ℕ) → o ≡ Some j → least_of o n ≤ j
least_known o n j e = rw e (omega arith)

pub SameSet-trans : (a b c : Propagation) → SameSet a b → SameSet b c → SameSet a c
SameSet-trans a b c f g = record { marks = g.marks ∙ f.marks; trail = g.trail ∙ f.trail; looked = g.looked ∙ f.looked; seen = g.seen ∙ f.seen }

-- the place of a clause is kept
pub place_put : {S : Type 0} (number : ℕ) (place : Place) (old new : HashMap ℕ Place S) → ((i : ℕ) → get nat_eq new i ≡ cond (nat_eq number i) (Some place) (get nat_eq old i)) → PutsPlace number place old new
place_put number place old new updates i = ⊎_elim
    (λ (e : nat_eq number i ≡ true). inr (sym ((Decides-eqb number i).0 e), ap (λ (o : Option Place). unwrap_or o start) (updates i ∙ ap (λ (b : Bool). cond b (Some place) (get nat_eq old i)) e)))
    (λ (e : nat_eq number i ≡ false). inl (ap (λ (o : Option Place). unwrap_or o start) (updates i ∙ ap (λ (b : Bool). cond b (Some place) (get nat_eq old i)) e)))
    (cases_Bool (nat_eq number i))

walk_set : (clauses : List (List ℤ)) (number : ℕ) (place : Place) (old new : Walk) → number < length clauses → SameSet old.set new.set
    → PutsPlace number place old.places new.places → IsPlace old.set.marks.items (clause_at clauses number) place
    → ((i : ℕ) → new.falsified ≡ Some i → (i < length clauses) × Falsifies old.set.trail.items (clause_at clauses i))
    → IsWalk clauses old → IsWalk clauses new
walk_set clauses number place old new h same places here ending walk = record {
  is_set = IsSet-same old.set new.set same.marks same.trail walk.is_set;
  placed = λ i l. ⊎_elim
      (λ (e : place_of new.places i ≡ place_of old.places i).
      let P : Place → Type 0 = IsPlace old.set.marks.items (clause_at clauses i) in
      rw same.marks (subst P (sym e) (walk.placed i l)))
      (λ (r : (i ≡ number) × (place_of new.places i ≡ place)).
      let P : Place → Type 0 = IsPlace old.set.marks.items (clause_at clauses i) in
      let Q : ℕ → Type 0 = λ x. IsPlace old.set.marks.items (clause_at clauses x) place in
      rw same.marks (subst P (sym r.1) (subst Q (sym r.0) here)))
      (places i);
  ending = λ i e. let r = ending i e in (r.0, rw same.trail r.1);
}

-- a look at a clause keeps what is always so
pub looked_walk : (clauses : List (List ℤ)) (number : ℕ) (look : Look) (place : Place) (old new : Walk) → number < length clauses → SameSet old.set new.set
    → PutsPlace number place old.places new.places → IsPlace old.set.marks.items (clause_at clauses number) place
    → IsLook old.set.marks.items (clause_at clauses number) look → Notes look number old.falsified old.queue new.falsified new.queue → IsWalk clauses old → IsWalk clauses new
looked_walk clauses number Falsified place old new h same places here look notes walk = walk_set clauses number place old new h same places here
    (λ i e. ⊎_elim
    (λ (is : i ≡ number). (rw is h, rw is (falsified_by old.set (clause_at clauses number) walk.is_set look)))
    (λ (was : old.falsified ≡ Some i). walk.ending i was)
    (least_cases old.falsified number i (sym notes.0 ∙ e)))
    walk
looked_walk clauses number Single place old new h same places here look notes walk = walk_set clauses number place old new h same places here (λ i e. walk.ending i (sym notes.0 ∙ e)) walk
looked_walk clauses number Several place old new h same places here look notes walk = walk_set clauses number place old new h same places here (λ i e. walk.ending i (sym notes.0 ∙ e)) walk

-- and notices the clause
noticed_same : (clause : List ℤ) (i : ℕ) (old new : Walk) → new.set.trail.items ≡ old.set.trail.items
    → ((j : ℕ) → old.falsified ≡ Some j → (n : ℕ) × (new.falsified ≡ Some n) × (n ≤ j))
    → (Contains old.queue i → Contains new.queue i) → IsNoticed clause i old → IsNoticed clause i new
noticed_same clause i old new trail lower kept noticed = record {
  ended = λ falsified. let r = noticed.ended (rw (sym trail) falsified) in let s = lower r.0 r.1 in (s.0, s.1, omega (arith, s.2, r.2));
  queued = λ m unit. kept (noticed.queued m (rw (sym trail) unit));
}

noticed_more : (clauses : List (List ℤ)) (number : ℕ) (pending : List ℕ) (old new : Walk) → (number < length clauses → IsNoticed (clause_at clauses number) number new)
    → ((i : ℕ) → IsNoticed (clause_at clauses i) i old → IsNoticed (clause_at clauses i) i new)
    → AreNoticed clauses (number ∷ pending) old → AreNoticed clauses pending new
noticed_more clauses number pending old new here kept before i h once = ⊎_elim
    (λ (has : Contains (number ∷ pending) i). ⊎_elim
    (λ (e : number ≡ i). inr (let P : ℕ → Type 0 = λ x. IsNoticed (clause_at clauses x) x new in subst P e (here (rw e h))))
    (λ (later : Contains pending i). inl later)
    (cases_cons number i pending has))
    (λ (noticed : IsNoticed (clause_at clauses i) i old). inr (kept i noticed))
    (before i h once)

pub looked_noticed : (clauses : List (List ℤ)) (number : ℕ) (look : Look) (pending : List ℕ) (old new : Walk) → SameSet old.set new.set → IsSet old.set
    → IsLook old.set.marks.items (clause_at clauses number) look → Notes look number old.falsified old.queue new.falsified new.queue
    → AreNoticed clauses (number ∷ pending) old → AreNoticed clauses pending new
looked_noticed clauses number Falsified pending old new same is_set look notes = noticed_more clauses number pending old new
    (λ h. record {
      ended = λ falsified. (least_of old.falsified number, notes.0, least_below old.falsified number);
      queued = λ m unit. absurd (unit.only.free (rw same.trail (is_set.listed (neg_ℤ m) (look m unit.only.has))));
    })
    (λ i. noticed_same (clause_at clauses i) i old new same.trail (λ j e. (least_of old.falsified number, notes.0, least_known old.falsified number j e)) (λ has. rw notes.1 has))
looked_noticed clauses number Single pending old new same is_set look notes = noticed_more clauses number pending old new
    (λ h. record {
      ended = λ falsified. absurd (look (all_opposed old.set (clause_at clauses number) is_set (rw (sym same.trail) falsified)));
      queued = λ m unit. notes.1.there;
    })
    (λ i. noticed_same (clause_at clauses i) i old new same.trail (λ j e. (j, notes.0 ∙ e, omega arith)) (λ has. notes.1.kept i has))
looked_noticed clauses number Several pending old new same is_set look notes = noticed_more clauses number pending old new
    (λ h. record {
      ended = λ falsified. absurd (look.0 (all_opposed old.set (clause_at clauses number) is_set (rw (sym same.trail) falsified)));
      queued = λ m unit. absurd (look.1 m (others_opposed old.set (clause_at clauses number) m is_set (rw (sym same.trail) unit.only)));
    })
    (λ i. noticed_same (clause_at clauses i) i old new same.trail (λ j e. (j, notes.0 ∙ e, omega arith)) (λ has. rw notes.1 has))

-- a number of no clause is passed over
pub past_noticed : (clauses : List (List ℤ)) (number : ℕ) (pending : List ℕ) (walk : Walk) → length clauses ≤ number → AreNoticed clauses (number ∷ pending) walk → AreNoticed clauses pending walk
past_noticed clauses number pending walk past before = noticed_more clauses number pending walk walk (λ h. absurd (omega (arith, h, past))) (λ i noticed. noticed) before

-- the numbers from a place on
pub numbers_at : (numbers : List ℕ) (i : ℕ) → i < length numbers → drop i numbers ≡ get_or numbers i 0 ∷ drop (i + 1) numbers
numbers_at numbers i h = let next : i + 1 ≡ suc i = add-one i in rw next (drop-cons numbers i 0 h)

-- a literal enters
opposed_more : (old new : Propagation) (clause : List ℤ) (place : Place) → Grows old new → IsPlace old.marks.items clause place → IsPlace new.marks.items clause place
opposed_more old new clause place grows is = record {
  first = λ j l h. grows.marks (code_of (neg_ℤ (literal_at clause j))) (is.first j l h);
  second = λ j l h. ⊎_elim (λ (o : IsOpposed old.marks.items (literal_at clause j)). inl (grows.marks (code_of (neg_ℤ (literal_at clause j))) o)) (λ (e : literal_at clause j ≡ literal_at clause place.first). inr e) (is.second j l h);
}

pub entered_walk : (clauses : List (List ℤ)) (old new : Walk) (m : ℤ) → code_of m < length old.set.marks.items → Enters old.set new.set m → new.places ≡ old.places → new.falsified ≡ old.falsified → IsWalk clauses old → IsWalk clauses new
entered_walk clauses old new m below enters places falsified walk =
    let grows : Grows old.set new.set = Grows-enters old.set new.set m below enters in
    let members : SameMembers new.set.trail.items (old.set.trail.items ++ m ∷ []) = members_enter old.set new.set m walk.is_set enters in
    record {
      is_set = grows.set walk.is_set;
      placed = λ i h. let P : Place → Type 0 = IsPlace new.set.marks.items (clause_at clauses i) in subst P (ap (λ ps. place_of ps i) (sym places)) (opposed_more old.set new.set (clause_at clauses i) (place_of old.places i) grows (walk.placed i h));
      ending = λ i e. let r = walk.ending i (sym falsified ∙ e) in (r.0, λ k has. (members (neg_ℤ k)).1 (Contains-append_left old.set.trail.items (m ∷ []) (neg_ℤ k) (r.1 k has)));
    }

-- what the set has now it had, or it is the literal
entered_cases : (old new : List ℤ) (m : ℤ) → SameMembers new (old ++ m ∷ []) → (k : ℤ) → Contains new k → Contains old k ⊎ (k ≡ m)
entered_cases old new m members k has = ⊎_elim (λ (was : Contains old k). inl was) (λ (e : m ≡ k). inr (sym e)) (Contains-push_cases old m k ((members k).0 has))

entered_up : (old new : List ℤ) (m : ℤ) → SameMembers new (old ++ m ∷ []) → (k : ℤ) → Contains old k → Contains new k
entered_up old new m members k has = (members k).1 (Contains-append_left old (m ∷ []) k has)

-- a clause without the literal's opposite is as it was
unit_before : (old new clause : List ℤ) (m u : ℤ) → SameMembers new (old ++ m ∷ []) → (Contains clause (neg_ℤ m) → ⊥) → IsUnit new clause u → IsUnit old clause u
unit_before old new clause m u members unused unit = record {
  only = record {
    has = unit.only.has;
    free = λ h. unit.only.free (entered_up old new m members (neg_ℤ u) h);
    others = λ k has ne. not_used old new clause m (entered_cases old new m members) unused k has (unit.only.others k has ne);
  };
  fresh = λ h. unit.fresh (entered_up old new m members u h);
}

kept_noticed : (clause : List ℤ) (i : ℕ) (old new : Walk) (m : ℤ) → SameMembers new.set.trail.items (old.set.trail.items ++ m ∷ []) → new.falsified ≡ old.falsified → new.queue ≡ old.queue
    → (Contains clause (neg_ℤ m) → ⊥) → IsNoticed clause i old → IsNoticed clause i new
kept_noticed clause i old new m members falsified queue unused noticed = record {
  ended = λ now.
      let was : Falsifies old.set.trail.items clause = λ k has. not_used old.set.trail.items new.set.trail.items clause m (entered_cases old.set.trail.items new.set.trail.items m members) unused k has (now k has) in
      let r = noticed.ended was in
      (r.0, falsified ∙ r.1, r.2);
  queued = λ u unit. rw queue (noticed.queued u (unit_before old.set.trail.items new.set.trail.items clause m u members unused unit));
}

-- a clause that has given the literal has nothing more to give
given_noticed : (clause : List ℤ) (i : ℕ) (new : Walk) (old : List ℤ) (m : ℤ) → SameMembers new.set.trail.items (old ++ m ∷ []) → (Contains clause (neg_ℤ m) → ⊥) → IsOnlyOpen old clause m → IsNoticed clause i new
given_noticed clause i new old m members unused only =
    let known : Contains new.set.trail.items m = (members m).1 (Contains-push old m) in
    let never : Contains new.set.trail.items (neg_ℤ m) → ⊥ = λ h. only.free (not_used old new.set.trail.items clause m (entered_cases old new.set.trail.items m members) unused m only.has h) in
    record {
      ended = λ now. absurd (never (now m only.has));
      queued = λ u unit. ⊎_elim
          (λ (e : m ≡ u). absurd (unit.fresh (let P : ℤ → Type 0 = Contains new.set.trail.items in subst P e known)))
          (λ (ne : m ≢ u). absurd (never (unit.only.others m only.has ne)))
          (cases_literal m u);
    }

pub entered_noticed : (clauses : List (List ℤ)) (table : List (List ℕ)) (pending : List ℕ) (old new : Walk) (m : ℤ) → IsIndexOnce clauses table → IsSet old.set → Enters old.set new.set m
    → new.falsified ≡ old.falsified → new.queue ≡ old.queue → AreGiving clauses pending old.set.trail.items m → AreNoticed clauses pending old
    → AreNoticed clauses (get_or table (code_of (neg_ℤ m)) []) new
entered_noticed clauses table pending old new m index is_set enters falsified queue giving before i h once =
    let members : SameMembers new.set.trail.items (old.set.trail.items ++ m ∷ []) = members_enter old.set new.set m is_set enters in
    ⊎_elim
    (λ (has : Contains (get_or table (code_of (neg_ℤ m)) []) i). inl has)
    (λ (without : Contains (get_or table (code_of (neg_ℤ m)) []) i → ⊥).
    let unused : Contains (clause_at clauses i) (neg_ℤ m) → ⊥ = λ has. without (index.occurrences i h once (neg_ℤ m) has) in
    ⊎_elim
    (λ (has : Contains pending i). inr (given_noticed (clause_at clauses i) i new old.set.trail.items m members unused (giving i has h)))
    (λ (noticed : IsNoticed (clause_at clauses i) i old). inr (kept_noticed (clause_at clauses i) i old new m members falsified queue unused noticed))
    (before i h once))
    (cases_among (get_or table (code_of (neg_ℤ m)) []) i)

-- a literal that wasn't there leaves one code less
pub entered_fresh : (old new : Propagation) (m : ℤ) → IsSet old → code_of m < length old.marks.items → Enters old new m → (Contains old.trail.items m → ⊥) → unmarked new.marks.items + 1 ≡ unmarked old.marks.items
entered_fresh old new m is_set below enters fresh = ⊎_elim
    (λ (same : IsIn old m × (new.marks.items ≡ old.marks.items) × (new.trail.items ≡ old.trail.items)). absurd (fresh (is_set.listed m same.0)))
    (λ (h : (IsIn old m → ⊥) × (new.marks.items ≡ set old.marks.items (code_of m) true) × (new.trail.items ≡ old.trail.items ++ m ∷ [])). rw h.1 (unmarked-set old.marks.items (code_of m) below h.0))
    enters.is

-- if no falsified clause is noticed, there is none
pub unfalsified : (clauses : List (List ℤ)) (walk : Walk) → AreNoticed clauses [] walk → walk.falsified ≡ None → IsNone (Falsifies walk.set.trail.items) clauses
unfalsified clauses walk before none j h falsified =
    let first = falsified_once walk.set.trail.items clauses j h falsified in
    ⊎_elim
    (λ (has : Contains [] first.0). in_nothing first.0 has)
    (λ (noticed : IsNoticed (clause_at clauses first.0) first.0 walk). let r = noticed.ended first.1.here in not_some r.0 (sym none ∙ r.1))
    (before first.0 first.1.within first.3)
  where
    not_some : (j : ℕ) → None ≡ Some j → ⊥
    not_some j e = cc

-- the queue
pub none_queued : (clauses : List (List ℤ)) (old : Walk) → ((n : ℕ) → Contains old.queue n → ⊥) → AreNoticed clauses [] old → old.falsified ≡ None → IsNone (Gives old.set.trail.items) clauses
none_queued clauses old empty before standing j h gives =
    let r = gives_once old.set.trail.items clauses (unfalsified clauses old before standing) j h gives in
    ⊎_elim
    (λ (has : Contains [] r.0). in_nothing r.0 has)
    (λ (noticed : IsNoticed (clause_at clauses r.0) r.0 old). empty r.0 (noticed.queued r.1.here.0 r.1.here.1))
    (before r.0 r.1.within r.3)

pub popped_first : (clauses : List (List ℤ)) (number : ℕ) (old : Walk) (queue : List ℕ) → Pops old.queue queue (Some number) → number < length clauses → Gives old.set.trail.items (clause_at clauses number) → AreNoticed clauses [] old → old.falsified ≡ None → IsFirst (Gives old.set.trail.items) clauses number
popped_first clauses number old queue pops h gives before standing = record {
  within = h;
  here = gives;
  before = λ j less earlier.
      let r = gives_once old.set.trail.items clauses (unfalsified clauses old before standing) j (omega (arith, less, h)) earlier in
      ⊎_elim
      (λ (has : Contains [] r.0). in_nothing r.0 has)
      (λ (noticed : IsNoticed (clause_at clauses r.0) r.0 old). let first = (pops.0 r.0 (noticed.queued r.1.here.0 r.1.here.1)).0 in absurd (omega (arith, less, r.2, first)))
      (before r.0 r.1.within r.3);
}

pub popped_noticed : (clauses : List (List ℤ)) (number : ℕ) (old new : Walk) → Pops old.queue new.queue (Some number) → new.set.trail.items ≡ old.set.trail.items → new.falsified ≡ old.falsified → AreNoticed clauses [] old → AreNoticed clauses (number ∷ []) new
popped_noticed clauses number old new pops trail falsified before i h once = ⊎_elim
    (λ (e : number ≡ i). inl (0, omega arith, e))
    (λ (ne : number ≢ i). ⊎_elim
    (λ (has : Contains [] i). absurd (in_nothing i has))
    (λ (noticed : IsNoticed (clause_at clauses i) i old). inr (noticed_same (clause_at clauses i) i old new trail (λ j e. (j, falsified ∙ e, omega arith))
    (λ has. ⊎_elim (λ (e : number ≡ i). absurd (ne e)) (λ (later : Contains new.queue i). later) ((pops.0 i has).1))
    noticed))
    (before i h once))
    (cases_eq number i)

-- a number whose clause has nothing to give may be dropped
pub dropped_noticed : (clauses : List (List ℤ)) (number : ℕ) (old new : Walk) → Pops old.queue new.queue (Some number) → new.set.trail.items ≡ old.set.trail.items → new.falsified ≡ old.falsified
    → (number < length clauses → Gives old.set.trail.items (clause_at clauses number) → ⊥) → AreNoticed clauses [] old → AreNoticed clauses [] new
dropped_noticed clauses number old new pops trail falsified nothing before i h once = ⊎_elim
    (λ (has : Contains [] i). absurd (in_nothing i has))
    (λ (noticed : IsNoticed (clause_at clauses i) i old). inr (record {
      ended = λ now. let r = noticed.ended (rw (sym trail) now) in (r.0, falsified ∙ r.1, r.2);
      queued = λ m unit.
          let was : IsUnit old.set.trail.items (clause_at clauses i) m = rw (sym trail) unit in
          ⊎_elim
          (λ (e : number ≡ i). absurd (nothing (rw e h) (m, rw e was)))
          (λ (later : Contains new.queue i). later)
          ((pops.0 i (noticed.queued m was)).1);
    }))
    (before i h once)

-- the set and what is noticed stay if the queue alone has changed
pub same_walk : (clauses : List (List ℤ)) (old new : Walk) → new.set.marks.items ≡ old.set.marks.items → new.set.trail.items ≡ old.set.trail.items → new.places ≡ old.places → new.falsified ≡ old.falsified → IsWalk clauses old → IsWalk clauses new
same_walk clauses old new marks trail places falsified walk = record {
  is_set = IsSet-same old.set new.set marks trail walk.is_set;
  placed = λ i h. let P : Place → Type 0 = IsPlace old.set.marks.items (clause_at clauses i) in rw marks (subst P (ap (λ ps. place_of ps i) (sym places)) (walk.placed i h));
  ending = λ i e. let r = walk.ending i (sym falsified ∙ e) in (r.0, rw trail r.1);
}

-- a mark that was read
pub marked_read : (marks : List Bool) (i j : ℕ) (b d : Bool) → b ≡ get_or marks i b → i ≡ j → j < length marks → get_or marks j d ≡ b
marked_read marks i j b d is same h = get_or_default marks j d b h ∙ ap (λ (x : ℕ). get_or marks x b) (sym same) ∙ sym is
