-- Literals are taken back, the last one first.
use Rattle.std.proofs.Common.{◌≡◌, ◌≢◌, ℕ, ◌+◌, ◌*◌, ◌<◌, ◌≤◌, ℤ, pos, neg_ℤ, Bool, true, false, List, [], ◌∷◌, ◌++◌, length, get_or, set, take, ⊎_elim, refl, sym, ap, ◌∙◌, arith, subst, Contains, vec_capacity, if◌then◌else◌}
use Rattle.std.proofs.lemmas.Bool.{cases_eq, false≢true}
use Rattle.std.proofs.lemmas.List.{length-set, length_push, take_at, take_all, take-take, get_or_append_left, get_or_push, get_or_default, get_or-set_same, get_or-set_other}
use Rattle.std.proofs.lemmas.List.Elements.{Contains-push, Contains-push_cases, Contains-append_left}
use Rattle.std.proofs.lemmas.List.Sums.{sum_by-set}
use Rattle.kat_clause.specs.Literals.{code_of}
use Rattle.kat_clause.specs.Tables.{IsMarked}
use Rattle.kat_clause.specs.Propagations.{unmarked}
use Rattle.kat_clause.proofs.Codes.{code_of-same}
use Rattle.kat_watch.specs.declared.assignment.Assignment.{Assignment}
use Rattle.kat_watch.specs.Watched.{IsLiteral, AreLiterals}
use Rattle.kat_watch.specs.States.{at, IsSet, TakesBack}
use Rattle.kat_watch.proofs.Sets.{literal_below}

pub record Leaving (old new : Assignment) (kept : ℕ) : Type 0 where
  pub greatest : new.greatest ≡ old.greatest
  pub marks : length new.marks.items ≡ length old.marks.items
  pub size : length new.marks.items ≡ 2 * new.greatest + 2
  pub reasons : new.reasons.items ≡ old.reasons.items
  pub trail : new.trail.items ≡ take (length new.trail.items) old.trail.items
  pub low : kept ≤ length new.trail.items
  pub set : IsSet new.marks.items new.trail.items
  pub literals : AreLiterals new.greatest new.trail.items
  pub count : unmarked new.marks.items + length new.trail.items ≡ unmarked old.marks.items + length old.trail.items
  pub room : vec_capacity old.trail ≤ vec_capacity new.trail
  pub looked : new.looked ≡ old.looked
  pub reach : new.reach.items ≡ old.reach.items
  pub seen : new.seen ≡ old.seen
  pub base : new.base ≡ old.base

-- the last literal is out
pub set_leaves : (marks : List Bool) (whole trail : List ℤ) (m : ℤ) → code_of m < length marks → whole ≡ trail ++ m ∷ [] → IsSet marks whole → IsSet (set marks (code_of m) false) trail
set_leaves marks whole trail m below e was =
    let is : IsSet marks (trail ++ m ∷ []) = subst (IsSet marks) e was in
    let size : length (trail ++ m ∷ []) ≡ length trail + 1 = length_push trail m in
    let last : at (trail ++ m ∷ []) (length trail) ≡ m = get_or_push trail m (pos 0) (length trail) refl in
    let apart : (k : ℤ) → Contains trail k → code_of k ≢ code_of m = λ k has f.
    let same : k ≡ m = code_of-same k m f in
    let here : at (trail ++ m ∷ []) has.0 ≡ k = get_or_append_left trail (m ∷ []) (pos 0) has.0 has.1 ∙ get_or_default trail has.0 (pos 0) k has.1 ∙ has.2 in
    is.once has.0 (length trail) has.1 (omega arith) (here ∙ same ∙ sym last) in
    record {
      listed = λ z marked. ⊎_elim
          (λ (f : code_of z ≡ code_of m).
          let gone : get_or (set marks (code_of m) false) (code_of m) false ≡ false = get_or-set_same marks (code_of m) false false below in
          let P : ℕ → Type 0 = λ n. get_or (set marks (code_of m) false) n false ≡ true in
          absurd (false≢true (sym gone ∙ subst P f marked)))
          (λ (ne : code_of z ≡ code_of m → ⊥).
          let old : IsMarked marks (code_of z) = sym (get_or-set_other marks (code_of m) (code_of z) false false ne) ∙ marked in
          ⊎_elim (λ (has : Contains trail z). has) (λ (f : m ≡ z). absurd (ne (ap code_of (sym f)))) (Contains-push_cases trail m z (is.listed z old)))
          (cases_eq (code_of z) (code_of m));
      marked = λ z has. get_or-set_other marks (code_of m) (code_of z) false false (apart z has) ∙ is.marked z (Contains-append_left trail (m ∷ []) z has);
      once = λ i j less h f.
          let at_i : at (trail ++ m ∷ []) i ≡ at trail i = get_or_append_left trail (m ∷ []) (pos 0) i (omega arith) in
          let at_j : at (trail ++ m ∷ []) j ≡ at trail j = get_or_append_left trail (m ∷ []) (pos 0) j h in
          is.once i j less (omega arith) (at_i ∙ f ∙ sym at_j);
      apart = λ z a b. is.apart z (Contains-append_left trail (m ∷ []) z a) (Contains-append_left trail (m ∷ []) (neg_ℤ z) b);
    }

-- one code more is unmarked
count_leaves : (marks : List Bool) (i : ℕ) → i < length marks → IsMarked marks i → unmarked (set marks i false) ≡ unmarked marks + 1
count_leaves marks i h is =
    let changes : unmarked (set marks i false) + (if get_or marks i false then 0 else 1) ≡ unmarked marks + 1 = sum_by-set (λ b. if b then 0 else 1) marks i false false h in
    let same : unmarked (set marks i false) + 0 ≡ unmarked marks + 1 = rw is at changes in
    omega arith

pub leaving_start : (old new : Assignment) (kept : ℕ) → new.greatest ≡ old.greatest → new.marks.items ≡ old.marks.items → new.reasons.items ≡ old.reasons.items → new.trail.items ≡ old.trail.items → vec_capacity old.trail ≤ vec_capacity new.trail → new.looked ≡ old.looked → new.reach.items ≡ old.reach.items → new.seen ≡ old.seen → new.base ≡ old.base
    → kept ≤ length old.trail.items → IsSet old.marks.items old.trail.items → AreLiterals old.greatest old.trail.items → length old.marks.items ≡ 2 * old.greatest + 2 → Leaving old new kept
leaving_start old new kept g e f h room l r s b low is literals size = record {
  greatest = g;
  marks = ap length e;
  size = omega (arith, ap length e, size, g);
  reasons = f;
  trail = h ∙ sym (take_all (length new.trail.items) old.trail.items (omega (arith, ap length h)));
  low = omega (arith, low, ap length h);
  set = rw (e, h) is;
  literals = rw (g, h) literals;
  count = rw (e, h) refl;
  room = room;
  looked = l;
  reach = r;
  seen = s;
  base = b;
}

pub leaving_more : (old mid new : Assignment) (kept : ℕ) (m : ℤ) → Leaving old mid kept → kept < length mid.trail.items → mid.trail.items ≡ new.trail.items ++ m ∷ [] → new.greatest ≡ mid.greatest → new.marks.items ≡ set mid.marks.items (code_of m) false → new.reasons.items ≡ mid.reasons.items
    → vec_capacity mid.trail ≤ vec_capacity new.trail → new.looked ≡ mid.looked → new.reach.items ≡ mid.reach.items → new.seen ≡ mid.seen → new.base ≡ mid.base → Leaving old new kept
leaving_more old mid new kept m w h e g marks reasons room l r s b =
    let size : length mid.trail.items ≡ length new.trail.items + 1 = ap length e ∙ length_push new.trail.items m in
    let n = length new.trail.items in
    let in' : Contains mid.trail.items m = (let P : List ℤ → Type 0 = λ t. Contains t m in subst P (sym e) (Contains-push new.trail.items m)) in
    let below : code_of m < length mid.marks.items = omega (arith, (literal_below mid.greatest m (w.literals m in')).0, w.size) in
    let same : length new.marks.items ≡ length mid.marks.items = ap length marks ∙ length-set mid.marks.items (code_of m) false in
    record {
      greatest = g ∙ w.greatest;
      marks = same ∙ w.marks;
      size = omega (arith, same, w.size, g);
      reasons = reasons ∙ w.reasons;
      trail = sym (take_at new.trail.items (m ∷ []) n refl) ∙ ap (take n) (sym e ∙ w.trail) ∙ take-take n (length mid.trail.items) old.trail.items (omega (arith, size));
      low = omega (arith, size, h);
      set = let P : List Bool → Type 0 = λ ms. IsSet ms new.trail.items in subst P (sym marks) (set_leaves mid.marks.items mid.trail.items new.trail.items m below e w.set);
      literals = λ k has.
          let more : Contains mid.trail.items k = (let P : List ℤ → Type 0 = λ t. Contains t k in subst P (sym e) (Contains-append_left new.trail.items (m ∷ []) k has)) in
          let P : ℕ → Type 0 = λ t. IsLiteral t k in subst P (sym g) (w.literals k more);
      count = omega (arith, ap unmarked marks, count_leaves mid.marks.items (code_of m) below (w.set.marked m in'), size, w.count);
      room = omega (arith, room, w.room);
      looked = l ∙ w.looked;
      reach = r ∙ w.reach;
      seen = s ∙ w.seen;
      base = b ∙ w.base;
    }

pub leaving_end : (old new : Assignment) (kept : ℕ) → Leaving old new kept → length new.trail.items ≤ kept → TakesBack old new kept
leaving_end old new kept w h =
    let e : length new.trail.items ≡ kept = omega (arith, w.low, h) in
    record {
      both = record {
        greatest = w.greatest;
        marks = w.marks;
        reasons = w.reasons;
        trail = w.trail ∙ ap (λ (n : ℕ). take n old.trail.items) e;
        set = w.set;
        count = w.count;
        room = w.room;
        reach = w.reach;
        base = w.base;
      };
      looked = w.looked;
      seen = w.seen;
    }
