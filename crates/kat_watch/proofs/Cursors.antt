-- A walk over the list of a false literal, item by item.
use Rattle.std.proofs.Common.{◌≡◌, ◌≢◌, ℕ, ◌<◌, ℤ, neg_ℤ, List, [], ◌∷◌, ◌++◌, length, ⊎_elim, refl, sym, ap, ◌∙◌, arith, subst, Contains, Option, Some, None, nat_eq, if◌then◌else◌, append_assoc, append-nil}
use Rattle.std.proofs.lemmas.Bool.{eq-eqb, ne_eqb}
use Rattle.std.proofs.lemmas.List.Elements.{Contains-push_cases}
use Rattle.kat_clause.specs.Literals.{code_of}
use Rattle.kat_clause.proofs.Codes.{code_of-same}
use Rattle.kat_links.specs.Lists.{Lists, list_at, head, IsOnce}
use Rattle.kat_links.proofs.Members.{middle_in, once_less}
use Rattle.kat_watch.specs.declared.assignment.Assignment.{Assignment}
use Rattle.kat_watch.specs.States.{Holds, IsDone}
use Rattle.kat_watch.proofs.Moves.{moved_split}
use Rattle.kat_watch.proofs.Cores.{Goes, after, done_after, done_more}

-- The list is what has been walked, and a rest whose first item comes next.
pub record Cursor (lists : List (List ℕ)) (trail : List ℤ) (f : ℤ) (next : Option ℕ) : Type 0 where
  pub before : List ℕ
  pub rest : List ℕ
  pub whole : list_at lists (code_of f) ≡ before ++ rest
  pub at : next ≡ head rest
  pub done : (x : ℕ) → Contains before x → IsDone lists trail x

-- an item is between what has been walked and the rest
pub record Here (lists : List (List ℕ)) (trail : List ℤ) (f : ℤ) (y : ℕ) (next : Option ℕ) : Type 0 where
  pub before : List ℕ
  pub rest : List ℕ
  pub whole : list_at lists (code_of f) ≡ before ++ y ∷ rest
  pub at : next ≡ head rest
  pub done : (x : ℕ) → Contains before x → IsDone lists trail x

pub cursor_start : (lists : List (List ℕ)) (trail : List ℤ) (f : ℤ) (next : Option ℕ) → next ≡ head (list_at lists (code_of f)) → Cursor lists trail f next
cursor_start lists trail f next e = record { before = []; rest = list_at lists (code_of f); whole = refl; at = e; done = λ x has. absurd (omega (arith, has.1)) }

here_from : (lists : List (List ℕ)) (trail : List ℤ) (f : ℤ) (y : ℕ) (next : Option ℕ) (before rest : List ℕ) → list_at lists (code_of f) ≡ before ++ rest → Some y ≡ head rest → ((x : ℕ) → Contains before x → IsDone lists trail x)
    → ((l : ℕ) (front back : List ℕ) → list_at lists l ≡ front ++ y ∷ back → next ≡ head back) → Here lists trail f y next
here_from lists trail f y next before [] whole e done follows = absurd (cc)
here_from lists trail f y next before (x ∷ xs) whole e done follows =
    let same : x ≡ y = cc in
    let split : list_at lists (code_of f) ≡ before ++ y ∷ xs = whole ∙ ap (λ (z : ℕ). before ++ z ∷ xs) same in
    record { before = before; rest = xs; whole = split; at = follows (code_of f) before xs split; done = done }

pub here_at : (lists : List (List ℕ)) (trail : List ℤ) (f : ℤ) (y : ℕ) (next : Option ℕ) → Cursor lists trail f (Some y)
    → ((l : ℕ) (front back : List ℕ) → list_at lists l ≡ front ++ y ∷ back → next ≡ head back) → Here lists trail f y next
here_at lists trail f y next c follows = here_from lists trail f y next c.before c.rest c.whole c.at c.done follows

rest_of_empty : (before : List ℕ) → before ++ [] ≡ before
rest_of_empty before = append-nil before

first_in : (lists : List (List ℕ)) (f : ℤ) (y : ℕ) (before rest : List ℕ) → list_at lists (code_of f) ≡ before ++ rest → Some y ≡ head rest → Holds lists f y
first_in lists f y before [] whole e = absurd (cc)
first_in lists f y before (x ∷ xs) whole e =
    let same : x ≡ y = cc in
    let P : List ℕ → Type 0 = λ zs. Contains zs y in
    let Q : ℕ → Type 0 = Contains (before ++ x ∷ xs) in
    subst P (sym whole) (subst Q same (middle_in before x xs))

pub cursor_in : (lists : List (List ℕ)) (trail : List ℤ) (f : ℤ) (y : ℕ) → Cursor lists trail f (Some y) → Holds lists f y
cursor_in lists trail f y c = first_in lists f y c.before c.rest c.whole c.at

nothing_left : (rest : List ℕ) → None ≡ head rest → rest ≡ []
nothing_left [] e = refl
nothing_left (x ∷ xs) e = absurd (cc)

-- at the end all items are done
pub cursor_end : (lists : List (List ℕ)) (trail : List ℤ) (f : ℤ) → Cursor lists trail f None → (x : ℕ) → Holds lists f x → IsDone lists trail x
cursor_end lists trail f c x holds =
    let whole : list_at lists (code_of f) ≡ c.before = c.whole ∙ ap (λ (xs : List ℕ). c.before ++ xs) (nothing_left c.rest c.at) ∙ append-nil c.before in
    let P : List ℕ → Type 0 = λ zs. Contains zs x in
    c.done x (subst P whole holds)

-- the item is done
pub cursor_done : (lists : List (List ℕ)) (trail : List ℤ) (f : ℤ) (y : ℕ) (next : Option ℕ) → Here lists trail f y next → IsDone lists trail y → Cursor lists trail f next
cursor_done lists trail f y next h is = record {
  before = h.before ++ y ∷ [];
  rest = h.rest;
  whole = h.whole ∙ sym (append_assoc h.before (y ∷ []) h.rest);
  at = h.at;
  done = λ x has. ⊎_elim (λ was. h.done x was) (λ (e : y ≡ x). subst (IsDone lists trail) e is) (Contains-push_cases h.before y x has);
}

-- a literal more is assigned
pub here_more : (lists : List (List ℕ)) (trail : List ℤ) (m : ℤ) (f : ℤ) (y : ℕ) (next : Option ℕ) → Here lists trail f y next → Here lists (trail ++ m ∷ []) f y next
here_more lists trail m f y next h = record { before = h.before; rest = h.rest; whole = h.whole; at = h.at; done = λ x has. done_more lists trail m x (h.done x has) }

-- the item moves to another list
pub leaves_list : (clauses : List (List ℤ)) (lists : Lists) (a : Assignment) (f : ℤ) (y : ℕ) (k : ℤ) (before rest : List ℕ) → Goes clauses lists a f y k → list_at lists.lists (code_of f) ≡ before ++ y ∷ rest
    → list_at (after lists k y).lists (code_of f) ≡ before ++ rest
leaves_list clauses lists a f y k before rest goes whole =
    let differs : code_of f ≢ code_of k = λ e. let same : f ≡ k = code_of-same f k e in let P : ℤ → Type 0 = λ j. Contains a.trail.items (neg_ℤ j) in goes.free (subst P same goes.false) in
    moved_split (code_of k) y lists.lists (code_of f) before rest differs (goes.arranged.once (code_of f)) whole

pub cursor_moved : (clauses : List (List ℤ)) (lists : Lists) (a : Assignment) (f : ℤ) (y : ℕ) (k : ℤ) (next : Option ℕ) → Goes clauses lists a f y k → Here lists.lists a.trail.items f y next → Cursor (after lists k y).lists a.trail.items f next
cursor_moved clauses lists a f y k next goes h = record {
  before = h.before;
  rest = h.rest;
  whole = leaves_list clauses lists a f y k h.before h.rest goes h.whole;
  at = h.at;
  done = λ x has. done_after clauses lists a f y k x a.trail.items (λ z in'. in') goes (h.done x has);
}

-- HOW MANY ITEMS ARE LEFT

abbrev pub rest_of : List ℕ → Option ℕ → List ℕ
rest_of xs None = []
rest_of [] (Some y) = []
rest_of (x ∷ xs) (Some y) = if nat_eq x y then x ∷ xs else rest_of xs (Some y)

rest_here : (y : ℕ) (ys : List ℕ) → rest_of (y ∷ ys) (Some y) ≡ y ∷ ys
rest_here y ys = rw (eq-eqb y y refl) refl

rest_some : (before : List ℕ) (y : ℕ) (ys : List ℕ) → IsOnce (before ++ y ∷ ys) → rest_of (before ++ y ∷ ys) (Some y) ≡ y ∷ ys
rest_some [] y ys once = rest_here y ys
rest_some (x ∷ xs) y ys once =
    let differs : x ≢ y = λ e. once.0 (subst (Contains (xs ++ y ∷ ys)) (sym e) (middle_in xs y ys)) in
    rw (ne_eqb x y differs) (rest_some xs y ys once.1)

pub rest_is : (before rest : List ℕ) → IsOnce (before ++ rest) → rest_of (before ++ rest) (head rest) ≡ rest
rest_is before [] once = refl
rest_is before (y ∷ ys) once = rest_some before y ys once

-- how many items of the false literal's list are left
abbrev pub left : List (List ℕ) → ℤ → Option ℕ → ℕ
left lists f next = length (rest_of (list_at lists (code_of f)) next)

left_is : (lists : List (List ℕ)) (f : ℤ) (next : Option ℕ) (before rest : List ℕ) → list_at lists (code_of f) ≡ before ++ rest → next ≡ head rest → IsOnce (before ++ rest) → left lists f next ≡ length rest
left_is lists f next before rest whole e once =
    (λ i. length (rest_of (whole i) (e i))) ∙ ap length (rest_is before rest once)

-- one item less is left, if the rest of the list is as it was
pub left_less : (lists more : List (List ℕ)) (trail : List ℤ) (f : ℤ) (y : ℕ) (next : Option ℕ) (before : List ℕ) → (h : Here lists trail f y next) → IsOnce (list_at lists (code_of f)) → list_at more (code_of f) ≡ before ++ h.rest → IsOnce (before ++ h.rest)
    → left more f next < left lists f (Some y)
left_less lists more trail f y next before h once whole once' =
    let was : left lists f (Some y) ≡ length (y ∷ h.rest) = left_is lists f (Some y) h.before (y ∷ h.rest) h.whole refl (subst IsOnce h.whole once) in
    let now : left more f next ≡ length h.rest = left_is more f next before h.rest whole h.at once' in
    omega (arith, was, now)

pub left_same : (lists : List (List ℕ)) (trail : List ℤ) (f : ℤ) (y : ℕ) (next : Option ℕ) → Here lists trail f y next → IsOnce (list_at lists (code_of f)) → left lists f next < left lists f (Some y)
left_same lists trail f y next h once =
    let split : list_at lists (code_of f) ≡ (h.before ++ y ∷ []) ++ h.rest = h.whole ∙ sym (append_assoc h.before (y ∷ []) h.rest) in
    left_less lists lists trail f y next (h.before ++ y ∷ []) h once split (subst IsOnce split once)

pub left_moved : (clauses : List (List ℤ)) (lists : Lists) (a : Assignment) (f : ℤ) (y : ℕ) (k : ℤ) (next : Option ℕ) → Goes clauses lists a f y k → Here lists.lists a.trail.items f y next → left (after lists k y).lists f next < left lists.lists f (Some y)
left_moved clauses lists a f y k next goes h =
    left_less lists.lists (after lists k y).lists a.trail.items f y next h.before h (goes.arranged.once (code_of f)) (leaves_list clauses lists a f y k h.before h.rest goes h.whole)
    (once_less h.before y h.rest (subst IsOnce h.whole (goes.arranged.once (code_of f))))
