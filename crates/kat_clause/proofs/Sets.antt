-- What entering a literal and looking at a clause do to the set.
use Rattle.std.proofs.Common.{◌≡◌, ◌≢◌, ℕ, ◌<◌, ◌≤◌, ℤ, pos, neg_ℤ, zero, suc, Bool, List, [], ◌∷◌, ◌++◌, length, get_or, set, take, true, false, ◌⊎◌, inl, inr, ⊎_elim, refl, sym, ap, ◌∙◌, subst, arith, Contains}
use Rattle.std.proofs.Math.IntN.{neg_ℤ-neg_ℤ}
use Rattle.std.proofs.lemmas.Bool.{cases_order, cases_lt, cases_eq, false≢true}
use Rattle.std.proofs.lemmas.List.{length-set, length_push, take_all, take_at, take-take, get_or_append_left, get_or_push, get_or_default, get_or-set_other}
use Rattle.std.proofs.lemmas.List.Elements.{Contains-push, Contains-push_cases, Contains-append_left}
use Rattle.kat_clause.specs.declared.propagation.Propagation.{Propagation}
use Rattle.kat_clause.specs.Clauses.{Derived, Follows}
use Rattle.kat_clause.specs.Clauses.Derived.{forced}
use Rattle.kat_clause.specs.Literals.{code_of}
use Rattle.kat_clause.specs.Propagations.{IsSettled, IsIn, IsDenied, IsSet, IsSound, SameSet, Grows, Enters}
use Rattle.kat_clause.proofs.Codes.{code_of-same, cases_literal, marked_at, marked_kept, marked_cases, unmarked-set, Contains-at, at-Contains}

pub opposite-same : (a b : ℤ) → neg_ℤ a ≡ neg_ℤ b → a ≡ b
opposite-same a b e = sym (neg_ℤ-neg_ℤ a) ∙ ap neg_ℤ e ∙ neg_ℤ-neg_ℤ b

pub IsSet-same : (old new : Propagation) → new.marks.items ≡ old.marks.items → new.trail.items ≡ old.trail.items → IsSet old → IsSet new
IsSet-same old new e f is = record {
  listed = λ m h. rw f (is.listed m (rw (sym e) h));
  marked = λ m h. rw e (is.marked m (rw (sym f) h));
  once = λ i j less below. rw f (is.once i j less (rw (sym f) below));
}

pub Grows-same : (old new : Propagation) → SameSet old new → Grows old new
Grows-same old new same = record {
  size = ap length same.marks;
  marks = λ code h. rw same.marks h;
  trail = rw same.trail (take_all _ old.trail.items (omega arith));
  longer = rw same.trail (omega arith);
  count = rw (same.marks, same.trail) refl;
  set = IsSet-same old new same.marks same.trail;
  looked = same.looked;
  seen = same.seen;
}

pub SameSet-itself : (state : Propagation) → SameSet state state
SameSet-itself state = record { marks = refl; trail = refl; looked = refl; seen = refl }

-- a new literal is listed once
once_push : (trail : List ℤ) (m : ℤ) → (Contains trail m → ⊥) → ((i j : ℕ) → i < j → j < length trail → get_or trail i (pos 0) ≢ get_or trail j (pos 0))
    → (i j : ℕ) → i < j → j < length (trail ++ m ∷ []) → get_or (trail ++ m ∷ []) i (pos 0) ≢ get_or (trail ++ m ∷ []) j (pos 0)
once_push trail m fresh before i j less below = ⊎_elim
    (λ (l : j < length trail).
    let at_i : get_or (trail ++ m ∷ []) i (pos 0) ≡ get_or trail i (pos 0) = get_or_append_left trail (m ∷ []) (pos 0) i (omega arith) in
    let at_j : get_or (trail ++ m ∷ []) j (pos 0) ≡ get_or trail j (pos 0) = get_or_append_left trail (m ∷ []) (pos 0) j l in
    λ e. before i j less l (sym at_i ∙ e ∙ at_j))
    (λ (l : length trail ≤ j).
    let at_i : get_or (trail ++ m ∷ []) i (pos 0) ≡ get_or trail i (pos 0) = get_or_append_left trail (m ∷ []) (pos 0) i (omega (arith, length_push trail m)) in
    let at_j : get_or (trail ++ m ∷ []) j (pos 0) ≡ m = get_or_push trail m (pos 0) j (omega (arith, length_push trail m)) in
    λ e. fresh (i, omega (arith, length_push trail m), get_or_default trail i _ (pos 0) (omega (arith, length_push trail m)) ∙ sym at_i ∙ e ∙ at_j))
    (cases_lt j (length trail))

IsSet-enters : (old new : Propagation) (m : ℤ) → code_of m < length old.marks.items → (IsIn old m → ⊥) → new.marks.items ≡ set old.marks.items (code_of m) true → new.trail.items ≡ old.trail.items ++ m ∷ [] → IsSet old → IsSet new
IsSet-enters old new m below fresh e f is = record {
  listed = λ z now. rw f (⊎_elim
      (λ was. Contains-append_left old.trail.items (m ∷ []) z (is.listed z was))
      (λ (same : code_of z ≡ code_of m). let P : ℤ → Type 0 = Contains (old.trail.items ++ m ∷ []) in subst P (sym (code_of-same z m same)) (Contains-push old.trail.items m))
      (marked_cases old.marks.items (code_of m) (code_of z) (rw (sym e) now)));
  marked = λ z has. rw e (⊎_elim
      (λ was. marked_kept old.marks.items (code_of m) (code_of z) below (is.marked z was))
      (λ (same : m ≡ z). rw (sym same) (marked_at old.marks.items (code_of m) below))
      (Contains-push_cases old.trail.items m z (rw (sym f) has)));
  once = λ i j less within. rw f (once_push old.trail.items m (λ has. fresh (is.marked m has)) is.once i j less (rw (sym f) within));
}

pub Grows-enters : (old new : Propagation) (m : ℤ) → code_of m < length old.marks.items → Enters old new m → Grows old new
Grows-enters old new m below enters = ⊎_elim
    (λ (same : IsIn old m × (new.marks.items ≡ old.marks.items) × (new.trail.items ≡ old.trail.items)). Grows-same old new (record { marks = same.1; trail = same.2; looked = enters.looked; seen = enters.seen }))
    (λ (h : (IsIn old m → ⊥) × (new.marks.items ≡ set old.marks.items (code_of m) true) × (new.trail.items ≡ old.trail.items ++ m ∷ [])). record {
      size = ap length h.1 ∙ length-set old.marks.items (code_of m) true;
      marks = λ code was. rw h.1 (marked_kept old.marks.items (code_of m) code below was);
      trail = rw h.2 (take_at old.trail.items (m ∷ []) (length old.trail.items) refl);
      longer = rw h.2 (omega (arith, length_push old.trail.items m));
      count = rw (h.1, h.2) (omega (arith, length_push old.trail.items m, unmarked-set old.marks.items (code_of m) below h.0));
      set = IsSet-enters old new m below h.0 h.1 h.2;
      looked = enters.looked;
      seen = enters.seen;
    })
    enters.is

pub Grows-trans : (a b c : Propagation) → Grows a b → Grows b c → Grows a c
Grows-trans a b c f g = record {
  size = g.size ∙ f.size;
  marks = λ code h. g.marks code (f.marks code h);
  trail = sym (take-take (length a.trail.items) (length b.trail.items) c.trail.items f.longer) ∙ ap (take (length a.trail.items)) g.trail ∙ f.trail;
  longer = omega (arith, f.longer, g.longer);
  count = g.count ∙ f.count;
  set = λ is. g.set (f.set is);
  looked = g.looked ∙ f.looked;
  seen = g.seen ∙ f.seen;
}

-- the literal is in the set afterwards
pub IsIn-enters : (old new : Propagation) (m : ℤ) → code_of m < length old.marks.items → Enters old new m → IsIn new m
IsIn-enters old new m below enters = ⊎_elim
    (λ (same : IsIn old m × (new.marks.items ≡ old.marks.items) × (new.trail.items ≡ old.trail.items)). rw same.1 same.0)
    (λ (h : (IsIn old m → ⊥) × (new.marks.items ≡ set old.marks.items (code_of m) true) × (new.trail.items ≡ old.trail.items ++ m ∷ [])). rw h.1 (marked_at old.marks.items (code_of m) below))
    enters.is

-- what is in the set afterwards was there, or is the literal
pub IsIn-cases : (old new : Propagation) (m : ℤ) → Enters old new m → (z : ℤ) → IsIn new z → IsIn old z ⊎ (z ≡ m)
IsIn-cases old new m enters z now = ⊎_elim
    (λ (same : IsIn old m × (new.marks.items ≡ old.marks.items) × (new.trail.items ≡ old.trail.items)). inl (rw (sym same.1) now))
    (λ (h : (IsIn old m → ⊥) × (new.marks.items ≡ set old.marks.items (code_of m) true) × (new.trail.items ≡ old.trail.items ++ m ∷ [])).
    ⊎_elim inl (λ e. inr (code_of-same z m e)) (marked_cases old.marks.items (code_of m) (code_of z) (rw (sym h.1) now)))
    enters.is

-- a derived literal may enter
pub IsSound-enters : (clauses : List (List ℤ)) (line : List ℤ) (old new : Propagation) (m : ℤ) → Enters old new m → Derived clauses line m → IsSound clauses line old → IsSound clauses line new
IsSound-enters clauses line old new m enters is sound z now = ⊎_elim (sound z) (λ (e : z ≡ m). rw e is) (IsIn-cases old new m enters z now)

pub IsSettled-weaker : (clause : List ℤ) (P M Q N : ℤ → Type 0) → ((k : ℤ) → Contains clause k → Q k → P k) → ((m : ℤ) → M m → N m) → IsSettled clause P M → IsSettled clause Q N
IsSettled-weaker clause P M Q N back on settled = record {
  unit = λ m has others. on m (settled.unit m has (λ k in' ne. back k in' (others k in' ne)));
  unfalsified = λ all. settled.unfalsified (λ k in'. back k in' (all k in'));
}

-- the opposite of each literal of a clause, by its place
pub IsDenied-at : (clause : List ℤ) (state : Propagation) (k : ℤ) → (has : Contains clause k) → IsDenied state (get_or clause has.0 (pos 0)) → IsDenied state k
IsDenied-at clause state k has h = let P : ℤ → Type 0 = IsDenied state in subst P (at-Contains clause k has) h

-- a clause with no open literal is falsified
pub visits_falsified : (clause : List ℤ) (state : Propagation) → ((j : ℕ) → j < length clause → IsDenied state (get_or clause j (pos 0))) → (clauses : List (List ℤ)) (line : List ℤ) → Contains clauses clause → IsSound clauses line state → Follows clauses line
visits_falsified clause state all clauses line among sound =
    (clause, among, λ k has. sound (neg_ℤ k) (IsDenied-at clause state k has (all has.0 has.1)))

-- a clause with two open literals is settled
pub settled_open : (clause : List ℤ) (state : Propagation) (M : ℤ → Type 0) (first : ℕ) → first < length clause
    → (IsDenied state (get_or clause first (pos 0)) → ⊥)
    → (((j : ℕ) → first < j → j < length clause → get_or clause j (pos 0) ≢ get_or clause first (pos 0) → IsDenied state (get_or clause j (pos 0))) → ⊥)
    → IsSettled clause (IsDenied state) M
settled_open clause state M first h opens more = record {
  unit = λ m has others. ⊎_elim
      (λ (e : get_or clause first (pos 0) ≡ m). absurd (more (λ j behind below apart. others (get_or clause j (pos 0)) (Contains-at clause j below) (λ f. apart (f ∙ sym e)))))
      (λ (ne : get_or clause first (pos 0) ≢ m). absurd (opens (others (get_or clause first (pos 0)) (Contains-at clause first h) ne)))
      (cases_literal (get_or clause first (pos 0)) m);
  unfalsified = λ all. opens (all (get_or clause first (pos 0)) (Contains-at clause first h));
}

-- a clause with one open literal is settled once that is in the set
pub settled_unit : (clause : List ℤ) (state : Propagation) (M : ℤ → Type 0) (first : ℕ) → first < length clause
    → (IsDenied state (get_or clause first (pos 0)) → ⊥)
    → M (get_or clause first (pos 0))
    → IsSettled clause (IsDenied state) M
settled_unit clause state M first h opens here = record {
  unit = λ m has others. ⊎_elim
      (λ (e : get_or clause first (pos 0) ≡ m). subst M e here)
      (λ (ne : get_or clause first (pos 0) ≢ m). absurd (opens (others (get_or clause first (pos 0)) (Contains-at clause first h) ne)))
      (cases_literal (get_or clause first (pos 0)) m);
  unfalsified = λ all. opens (all (get_or clause first (pos 0)) (Contains-at clause first h));
}

-- the one open literal is forced
pub forced_at : (clause : List ℤ) (state : Propagation) (first : ℕ) → first < length clause
    → ((j : ℕ) → j < first → IsDenied state (get_or clause j (pos 0)))
    → ((j : ℕ) → first < j → j < length clause → get_or clause j (pos 0) ≢ get_or clause first (pos 0) → IsDenied state (get_or clause j (pos 0)))
    → (clauses : List (List ℤ)) (line : List ℤ) → Contains clauses clause → IsSound clauses line state → Derived clauses line (get_or clause first (pos 0))
forced_at clause state first h before behind clauses line among sound =
    forced (get_or clause first (pos 0)) clause among (Contains-at clause first h) (λ k has ne. sound (neg_ℤ k) (IsDenied-at clause state k has (⊎_elim
    (λ (e : has.0 ≡ first). absurd (ne (sym (at-Contains clause k has) ∙ ap (λ j. get_or clause j (pos 0)) e)))
    (⊎_elim
    (λ (low : has.0 < first). before has.0 low)
    (λ (high : first < has.0). behind has.0 high has.1 (λ e. ne (sym (at-Contains clause k has) ∙ e))))
    (cases_order has.0 first))))

unset : (marks : List Bool) (i : ℕ) → get_or (set marks i false) i false ≡ false
unset [] i = refl
unset (b ∷ bs) zero = refl
unset (b ∷ bs) (suc i) = unset bs i

-- the last literal is taken out
pub IsSet-leaves : (old new : Propagation) (front : List ℤ) (m : ℤ) → old.trail.items ≡ front ++ m ∷ [] → new.marks.items ≡ set old.marks.items (code_of m) false → new.trail.items ≡ front → IsSet old → IsSet new
IsSet-leaves old new front m trail marks left is = record {
  listed = λ z now. rw left (⊎_elim
      (λ (e : code_of z ≡ code_of m). absurd (false≢true (sym (unmarked_at (code_of z) e) ∙ rw marks at now)))
      (λ (ne : code_of z ≢ code_of m). ⊎_elim
      (λ has. has)
      (λ (same : m ≡ z). absurd (ne (ap code_of (sym same))))
      (Contains-push_cases front m z (rw trail at (is.listed z (sym (get_or-set_other old.marks.items (code_of m) (code_of z) false false ne) ∙ rw marks at now)))))
      (cases_eq (code_of z) (code_of m)));
  marked = λ z has. let there : Contains front z = rw left at has in rw marks (⊎_elim
      (λ (e : code_of z ≡ code_of m). absurd (apart z there (code_of-same z m e)))
      (λ (ne : code_of z ≢ code_of m). get_or-set_other old.marks.items (code_of m) (code_of z) false false ne ∙ is.marked z (rw trail (Contains-append_left front (m ∷ []) z there)))
      (cases_eq (code_of z) (code_of m)));
  once = λ i j less below. let within : j < length front = rw left at below in
      let at_i : get_or (front ++ m ∷ []) i (pos 0) ≡ get_or front i (pos 0) = get_or_append_left front (m ∷ []) (pos 0) i (omega (arith, less, within)) in
      let at_j : get_or (front ++ m ∷ []) j (pos 0) ≡ get_or front j (pos 0) = get_or_append_left front (m ∷ []) (pos 0) j within in
      rw left (λ e. once_in i j less (omega (arith, within, length_push front m)) (at_i ∙ e ∙ sym at_j));
}
  where
    unmarked_at : (code : ℕ) → code ≡ code_of m → get_or (set old.marks.items (code_of m) false) code false ≡ false
    unmarked_at code e = rw e (unset old.marks.items (code_of m))

    once_in : (i j : ℕ) → i < j → j < length (front ++ m ∷ []) → get_or (front ++ m ∷ []) i (pos 0) ≢ get_or (front ++ m ∷ []) j (pos 0)
    once_in = let P : List ℤ → Type 0 = λ ts. (i j : ℕ) → i < j → j < length ts → get_or ts i (pos 0) ≢ get_or ts j (pos 0) in subst P trail is.once

    apart : (z : ℤ) → Contains front z → z ≢ m
    apart z has e =
        let at_i : get_or (front ++ m ∷ []) has.0 (pos 0) ≡ z = get_or_append_left front (m ∷ []) (pos 0) has.0 has.1 ∙ get_or_default front has.0 (pos 0) z has.1 ∙ has.2 in
        let at_end : get_or (front ++ m ∷ []) (length front) (pos 0) ≡ m = get_or_push front m (pos 0) (length front) refl in
        once_in has.0 (length front) has.1 (omega (arith, length_push front m)) (at_i ∙ e ∙ sym at_end)
