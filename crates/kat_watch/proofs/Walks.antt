-- Walks over lists: what is found of an item, and each way to go on.
use Rattle.std.proofs.Common.{◌≡◌, ℕ, ◌+◌, ◌*◌, ◌/◌, ◌<◌, ◌≤◌, ◌^◌, ℤ, neg_ℤ, unsigned_abs, Bool, true, false, List, [], ◌∷◌, ◌++◌, length, get_or, ⊎_elim, refl, sym, ap, ◌∙◌, arith, subst, Contains, Option, Some, None}
use Rattle.std.proofs.Math.IntN.{neg_ℤ-neg_ℤ}
use Rattle.std.proofs.lemmas.Bool.{false≢true}
use Rattle.std.proofs.lemmas.List.{get_or_default}
use Rattle.std.proofs.lemmas.List.Elements.{Contains-push, Contains-append_left}
use Rattle.kat_clause.specs.Literals.{code_of}
use Rattle.kat_clause.specs.Tables.{IsMarked, IsBelow, clause_at}
use Rattle.kat_clause.proofs.Codes.{code_of-same}
use Rattle.kat_links.specs.Lists.{Lists, list_at, head, IsArranged, IsListed}
use Rattle.kat_watch.specs.declared.assignment.Assignment.{Assignment}
use Rattle.kat_watch.specs.declared.walking.Look.{Look}
use Rattle.kat_watch.specs.declared.walking.Look.TheVariants.{Done, Moves, Forced, Falsified}
use Rattle.kat_watch.specs.Watched.{IsLiteral, IsReason, IsFalsified}
use Rattle.kat_watch.specs.States.{IsAssignment, partner, Holds, AreWatched, IsDone, IsCore, Enters, Advances, Looks, LooksAt, Walks}
use Rattle.kat_watch.proofs.Moves.{partner_even, partner_odd, even_or_odd}
use Rattle.kat_watch.proofs.Sets.{literal_below, literal_code, opposite_literal}
use Rattle.kat_watch.proofs.Cores.{Goes, after, item_clause, core_enters, core_after, advances_enters, advances_same, advances_trans}
use Rattle.kat_watch.proofs.Cursors.{Cursor, cursor_start, here_at, cursor_in, cursor_end, cursor_done, cursor_moved, here_more, left, left_same, left_moved}

-- WHAT IS FOUND OF AN ITEM

pub record Other (clause : List ℤ) (lists : List (List ℕ)) (x : ℕ) : Type 0 where
  pub literal : ℤ
  pub has : Contains clause literal
  pub holds : Holds lists literal (partner x)

-- the other literal that the item's clause watches
pub other_of : (clauses : List (List ℤ)) (lists : Lists) (g : ℕ) (x : ℕ) → IsArranged lists → AreWatched g clauses lists → IsListed lists x → Other (clause_at clauses (x / 2)) lists.lists x
other_of clauses lists g x arranged are listed =
    let here = item_clause g clauses lists listed.0 x arranged are listed.1 in
    let w = are.watched (x / 2) here.0 here.1 in
    ⊎_elim {C = Other (clause_at clauses (x / 2)) lists.lists x}
    (λ (e : x ≡ 2 * (x / 2)).
    let same : 2 * (x / 2) + 1 ≡ partner x = sym (partner_even (x / 2)) ∙ ap partner (sym e) in
    record { literal = w.two; has = w.has_two; holds = subst (Holds lists.lists w.two) same w.holds_two })
    (λ (e : x ≡ 2 * (x / 2) + 1).
    let same : 2 * (x / 2) ≡ partner x = sym (partner_odd (x / 2)) ∙ ap partner (sym e) in
    record { literal = w.one; has = w.has_one; holds = subst (Holds lists.lists w.one) same w.holds_one })
    (even_or_odd x)

-- all that is known at an item whose partner is in the list of this code
pub record AtItem (clauses : List (List ℤ)) (lists : Lists) (a : Assignment) (x other : ℕ) : Type 0 where
  pub arranged : IsArranged lists
  pub core : IsCore clauses lists a
  pub listed : IsListed lists x
  pub inside : other < length lists.lists
  pub holds : Contains (list_at lists.lists other) (partner x)

pub at_clause : (clauses : List (List ℤ)) (lists : Lists) (a : Assignment) (x : ℕ) → IsArranged lists → IsCore clauses lists a → IsListed lists x → x / 2 < length clauses
at_clause clauses lists a x arranged core listed = (item_clause a.greatest clauses lists listed.0 x arranged core.watched listed.1).0

pub partner_in : (clauses : List (List ℤ)) (lists : Lists) (a : Assignment) (x : ℕ) → IsArranged lists → IsCore clauses lists a → IsListed lists x → partner x < lists.items
partner_in clauses lists a x arranged core listed = let o = other_of clauses lists a.greatest x arranged core.watched listed in arranged.below (code_of o.literal) (partner x) o.holds

pub no_partner : (clauses : List (List ℤ)) (lists : Lists) (a : Assignment) (x : ℕ) → IsArranged lists → IsCore clauses lists a → IsListed lists x → ((l : ℕ) → Contains (list_at lists.lists l) (partner x) → ⊥) → ⊥
no_partner clauses lists a x arranged core listed free = let o = other_of clauses lists a.greatest x arranged core.watched listed in free (code_of o.literal) o.holds

other_code : (clauses : List (List ℤ)) (lists : Lists) (a : Assignment) (x other : ℕ) → (here : AtItem clauses lists a x other) → code_of (other_of clauses lists a.greatest x here.arranged here.core.watched here.listed).literal ≡ other
other_code clauses lists a x other here =
    let o = other_of clauses lists a.greatest x here.arranged here.core.watched here.listed in
    here.arranged.apart (code_of o.literal) other (partner x) o.holds here.holds

pub other_above : (clauses : List (List ℤ)) (lists : Lists) (a : Assignment) (x other : ℕ) → AtItem clauses lists a x other → 2 ≤ other
other_above clauses lists a x other here =
    let o = other_of clauses lists a.greatest x here.arranged here.core.watched here.listed in
    let is = here.core.watched.literals (x / 2) (at_clause clauses lists a x here.arranged here.core here.listed) o.literal o.has in
    subst (λ (n : ℕ). 2 ≤ n) (other_code clauses lists a x other here) (literal_code o.literal is.0)

pub other_below : (clauses : List (List ℤ)) (lists : Lists) (a : Assignment) (x other : ℕ) → AtItem clauses lists a x other → (other < length a.marks.items) × (other < 2 ^ 30)
other_below clauses lists a x other here = (
  omega (arith, here.inside, here.core.watched.size, here.core.assigned.marks),
  omega (arith, here.inside, here.core.watched.size, here.core.assigned.limit),
)

pub clause_below : (clauses : List (List ℤ)) (lists : Lists) (a : Assignment) (c : ℕ) → IsCore clauses lists a → c < length clauses → (k : ℤ) → Contains (clause_at clauses c) k → IsBelow (length a.marks.items) k
clause_below clauses lists a c core h k has =
    let P : ℕ → Type 0 = λ n. IsBelow n k in
    subst P (sym core.assigned.marks) (literal_below a.greatest k (core.watched.literals c h k has))

pub code_below : (clauses : List (List ℤ)) (lists : Lists) (a : Assignment) (x other : ℕ) → AtItem clauses lists a x other → (k : ℤ) → code_of k ≡ other → IsBelow (length a.marks.items) k
code_below clauses lists a x other here k e =
    let o = other_of clauses lists a.greatest x here.arranged here.core.watched here.listed in
    let same : o.literal ≡ k = code_of-same o.literal k (other_code clauses lists a x other here ∙ sym e) in
    subst (IsBelow (length a.marks.items)) same (clause_below clauses lists a (x / 2) here.core (at_clause clauses lists a x here.arranged here.core here.listed) o.literal o.has)

-- the other one is true
pub looks_true : (clauses : List (List ℤ)) (lists : Lists) (a : Assignment) (x other : ℕ) → AtItem clauses lists a x other → IsMarked a.marks.items other → IsDone lists.lists a.trail.items x
looks_true clauses lists a x other here marked =
    let o = other_of clauses lists a.greatest x here.arranged here.core.watched here.listed in
    (o.literal, o.holds, here.core.assigned.set.listed o.literal (subst (IsMarked a.marks.items) (sym (other_code clauses lists a x other here)) marked))

pub looks : (clauses : List (List ℤ)) (lists : Lists) (a : Assignment) (x other : ℕ) (found : Look) → AtItem clauses lists a x other → (IsMarked a.marks.items other → ⊥) → LooksAt (clause_at clauses (x / 2)) a.marks.items other found
    → Looks (clause_at clauses (x / 2)) lists.lists a.trail.items x found
looks clauses lists a x other Done here not_true found = absurd found
looks clauses lists a x other (Moves k) here not_true found = (
  found.0,
  λ false. found.2 (here.core.assigned.set.marked (neg_ℤ k) false),
  λ holds. found.1 (here.arranged.apart (code_of k) other (partner x) holds here.holds),
)
looks clauses lists a x other (Forced k) here not_true found =
    let o = other_of clauses lists a.greatest x here.arranged here.core.watched here.listed in
    let same : o.literal ≡ k = code_of-same o.literal k (other_code clauses lists a x other here ∙ sym found.0) in (
      subst (λ (j : ℤ). Holds lists.lists j (partner x)) same o.holds,
      record {
        has = subst (Contains (clause_at clauses (x / 2))) same o.has;
        false = λ j in' ne. here.core.assigned.set.listed (neg_ℤ j) (found.1 j in' (λ e. ne (code_of-same j k (e ∙ sym found.0))));
      },
      (λ is. not_true (subst (IsMarked a.marks.items) found.0 (here.core.assigned.set.marked k is)), λ is. found.2 (here.core.assigned.set.marked (neg_ℤ k) is)),
    )
looks clauses lists a x other Falsified here not_true found = λ k has. here.core.assigned.set.listed (neg_ℤ k) (found k has)

-- ONE LIST

pub record Walking (clauses : List (List ℤ)) (start : Assignment) (lists : Lists) (a : Assignment) (f : ℤ) (next : Option ℕ) : Type 0 where
  pub core : IsCore clauses lists a
  pub advances : Advances clauses start a
  pub looked : a.looked ≡ start.looked
  pub reach : a.reach.items ≡ start.reach.items
  pub seen : a.seen ≡ start.seen
  pub base : a.base ≡ start.base
  pub false : Contains a.trail.items (neg_ℤ f)
  pub cursor : Cursor lists.lists a.trail.items f next

pub walking_start : (clauses : List (List ℤ)) (lists : Lists) (a : Assignment) (f : ℤ) (next : Option ℕ) → IsCore clauses lists a → Contains a.trail.items (neg_ℤ f) → next ≡ head (list_at lists.lists (code_of f)) → Walking clauses a lists a f next
walking_start clauses lists a f next core denied e = record {
  core = core;
  advances = advances_same clauses a;
  looked = refl;
  reach = refl;
  seen = refl;
  base = refl;
  false = denied;
  cursor = cursor_start lists.lists a.trail.items f next e;
}

pub walking_end : (clauses : List (List ℤ)) (start : Assignment) (lists : Lists) (a : Assignment) (f : ℤ) → Walking clauses start lists a f None → Walks clauses lists start a f None
walking_end clauses start lists a f w = record {
  core = w.core;
  advances = w.advances;
  looked = w.looked;
  reach = w.reach;
  seen = w.seen;
  base = w.base;
  ends = cursor_end lists.lists a.trail.items f w.cursor;
}

pub walking_listed : (clauses : List (List ℤ)) (start : Assignment) (lists : Lists) (a : Assignment) (f : ℤ) (y : ℕ) → Walking clauses start lists a f (Some y) → IsListed lists y
walking_listed clauses start lists a f y w = (code_of f, cursor_in lists.lists a.trail.items f y w.cursor)

abbrev pub Follows : List (List ℕ) → ℕ → Option ℕ → Type 0
Follows lists y next = (l : ℕ) (front back : List ℕ) → list_at lists l ≡ front ++ y ∷ back → next ≡ head back

pub walking_falsified : (clauses : List (List ℤ)) (start : Assignment) (lists : Lists) (a : Assignment) (f : ℤ) (y : ℕ) → IsArranged lists → Walking clauses start lists a f (Some y) → IsFalsified (clause_at clauses (y / 2)) a.trail.items → Walks clauses lists start a f (Some (y / 2))
walking_falsified clauses start lists a f y arranged w denied = record {
  core = w.core;
  advances = w.advances;
  looked = w.looked;
  reach = w.reach;
  seen = w.seen;
  base = w.base;
  ends = (at_clause clauses lists a y arranged w.core (walking_listed clauses start lists a f y w), denied);
}

pub walking_done : (clauses : List (List ℤ)) (start : Assignment) (lists : Lists) (a : Assignment) (f : ℤ) (y : ℕ) (next : Option ℕ) → IsArranged lists → Walking clauses start lists a f (Some y) → Follows lists.lists y next → IsDone lists.lists a.trail.items y
    → Walking clauses start lists a f next × (left lists.lists f next < left lists.lists f (Some y))
walking_done clauses start lists a f y next arranged w follows done =
    let here = here_at lists.lists a.trail.items f y next w.cursor follows in (
      record {
        core = w.core;
        advances = w.advances;
        looked = w.looked;
        reach = w.reach;
        seen = w.seen;
        base = w.base;
        false = w.false;
        cursor = cursor_done lists.lists a.trail.items f y next here done;
      },
      left_same lists.lists a.trail.items f y next here (arranged.once (code_of f)),
    )

moves_goes : (clauses : List (List ℤ)) (start : Assignment) (lists : Lists) (a : Assignment) (f : ℤ) (y : ℕ) (k : ℤ) → IsArranged lists → Walking clauses start lists a f (Some y) → Looks (clause_at clauses (y / 2)) lists.lists a.trail.items y (Moves k) → Goes clauses lists a f y k
moves_goes clauses start lists a f y k arranged w found = record {
  arranged = arranged;
  core = w.core;
  false = w.false;
  from = cursor_in lists.lists a.trail.items f y w.cursor;
  has = found.0;
  free = found.1;
  apart = found.2;
}

pub moves_list : (clauses : List (List ℤ)) (start : Assignment) (lists : Lists) (a : Assignment) (f : ℤ) (y : ℕ) (k : ℤ) → IsArranged lists → Walking clauses start lists a f (Some y) → Looks (clause_at clauses (y / 2)) lists.lists a.trail.items y (Moves k) → code_of k < length lists.lists
moves_list clauses start lists a f y k arranged w found =
    let c = at_clause clauses lists a y arranged w.core (walking_listed clauses start lists a f y w) in
    omega (arith, (literal_below a.greatest k (w.core.watched.literals (y / 2) c k found.0)).0, w.core.watched.size)

pub walking_moved : (clauses : List (List ℤ)) (start : Assignment) (lists more : Lists) (a : Assignment) (f : ℤ) (y : ℕ) (next : Option ℕ) (k : ℤ) → IsArranged lists → Walking clauses start lists a f (Some y) → Follows lists.lists y next
    → Looks (clause_at clauses (y / 2)) lists.lists a.trail.items y (Moves k) → more ≡ after lists k y → Walking clauses start more a f next × (left more.lists f next < left lists.lists f (Some y))
walking_moved clauses start lists more a f y next k arranged w follows found e =
    let here = here_at lists.lists a.trail.items f y next w.cursor follows in
    let goes = moves_goes clauses start lists a f y k arranged w found in
    let P : Lists → Type 0 = λ ls. Walking clauses start ls a f next × (left ls.lists f next < left lists.lists f (Some y)) in
    let is : P (after lists k y) = (
      record {
        core = core_after clauses lists a f y k goes;
        advances = w.advances;
        looked = w.looked;
        reach = w.reach;
        seen = w.seen;
        base = w.base;
        false = w.false;
        cursor = cursor_moved clauses lists a f y k next goes here;
      },
      left_moved clauses lists a f y k next goes here,
    ) in
    subst P (sym e) is

pub forced_literal : (clauses : List (List ℤ)) (start : Assignment) (lists : Lists) (a : Assignment) (f : ℤ) (y : ℕ) (k : ℤ) → IsArranged lists → Walking clauses start lists a f (Some y) → Looks (clause_at clauses (y / 2)) lists.lists a.trail.items y (Forced k) → IsLiteral a.greatest k
forced_literal clauses start lists a f y k arranged w found = w.core.watched.literals (y / 2) (at_clause clauses lists a y arranged w.core (walking_listed clauses start lists a f y w)) k found.1.has

pub walking_forced : (clauses : List (List ℤ)) (start : Assignment) (lists : Lists) (a new : Assignment) (f : ℤ) (y : ℕ) (next : Option ℕ) (k : ℤ) → IsArranged lists → Walking clauses start lists a f (Some y) → Follows lists.lists y next
    → Looks (clause_at clauses (y / 2)) lists.lists a.trail.items y (Forced k) → Enters a new k (Some (y / 2)) → Walking clauses start lists new f next × (left lists.lists f next < left lists.lists f (Some y))
walking_forced clauses start lists a new f y next k arranged w follows found enters =
    let here = here_at lists.lists a.trail.items f y next w.cursor follows in
    let is : IsLiteral a.greatest k = forced_literal clauses start lists a f y k arranged w found in
    let reason : IsReason clauses a.trail.items k (y / 2) = (at_clause clauses lists a y arranged w.core (walking_listed clauses start lists a f y w), found.1) in
    let P : List ℤ → Type 0 = λ t. Cursor lists.lists t f next in
    let Q : List ℤ → Type 0 = λ t. Contains t (neg_ℤ f) in (
      record {
        core = core_enters clauses lists a new k (Some (y / 2)) is found.2 enters reason w.core;
        advances = advances_trans clauses start a new w.advances (advances_enters clauses a new k (y / 2) is found.2 enters reason w.core.assigned);
        looked = enters.looked ∙ w.looked;
        reach = enters.reach ∙ w.reach;
        seen = enters.seen ∙ w.seen;
        base = enters.base ∙ w.base;
        false = subst Q (sym enters.trail) (Contains-append_left a.trail.items (k ∷ []) (neg_ℤ f) w.false);
        cursor = subst P (sym enters.trail) (cursor_done lists.lists (a.trail.items ++ k ∷ []) f y next (here_more lists.lists a.trail.items k f y next here) (k, found.0, Contains-push a.trail.items k));
      },
      left_same lists.lists a.trail.items f y next here (arranged.once (code_of f)),
    )

-- room for a literal
pub room_for : (clauses : List (List ℤ)) (a : Assignment) (k : ℤ) → IsAssignment clauses a → IsLiteral a.greatest k → (code_of k < length a.marks.items) × (unsigned_abs k < length a.reasons.items)
room_for clauses a k is literal = (omega (arith, (literal_below a.greatest k literal).0, is.marks), omega (arith, literal.1, is.reasons))

-- numbers of items and codes are small
pub item_small : (clauses : List (List ℤ)) (lists : Lists) (a : Assignment) (x : ℕ) → IsArranged lists → IsCore clauses lists a → IsListed lists x → x + 1 < 2 ^ 30
item_small clauses lists a x arranged core listed = omega (arith, arranged.below listed.0 x listed.1, core.watched.items, core.watched.limit)

pub code_small : (clauses : List (List ℤ)) (lists : Lists) (a : Assignment) (n : ℕ) → IsCore clauses lists a → n < length lists.lists → n < 2 ^ 30
code_small clauses lists a n core h = omega (arith, h, core.watched.size, core.assigned.limit)

pub list_in : (clauses : List (List ℤ)) (lists : Lists) (a : Assignment) (k : ℤ) → IsCore clauses lists a → IsLiteral a.greatest k → code_of k < length lists.lists
list_in clauses lists a k core is = omega (arith, (literal_below a.greatest k is).0, core.watched.size)

-- a literal that is false is one
pub false_literal : (clauses : List (List ℤ)) (lists : Lists) (a : Assignment) (k : ℤ) → IsCore clauses lists a → Contains a.trail.items (neg_ℤ k) → IsLiteral a.greatest k
false_literal clauses lists a k core has = subst (IsLiteral a.greatest) (neg_ℤ-neg_ℤ k) (opposite_literal a.greatest (neg_ℤ k) (core.assigned.literals (neg_ℤ k) has))

-- a mark that was read
pub marked_read : (marks : List Bool) (n m : ℕ) (b : Bool) → n ≡ m → m < length marks → b ≡ get_or marks n b → b ≡ true → IsMarked marks m
marked_read marks n m b e h read is = get_or_default marks m false b h ∙ ap (λ (i : ℕ). get_or marks i b) (sym e) ∙ sym read ∙ is

pub unmarked_read : (marks : List Bool) (n m : ℕ) (b : Bool) → n ≡ m → m < length marks → b ≡ get_or marks n b → b ≡ false → IsMarked marks m → ⊥
unmarked_read marks n m b e h read is marked = false≢true (sym is ∙ read ∙ ap (λ (i : ℕ). get_or marks i b) e ∙ get_or_default marks m b false h ∙ marked)
