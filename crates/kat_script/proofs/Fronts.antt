-- Prefixes of what was done.
use Rattle.std.proofs.Common.{◌≡◌, ℕ, ◌<◌, ◌≤◌, max, ◌⊎◌, inl, inr, ⊎_elim, List, [], ◌∷◌, ◌++◌, refl, sym, ◌∙◌, ap, subst, arith}
use Rattle.std.specs.Prelude.{nat_lt}
use Rattle.std.proofs.lemmas.Bool.{cases_Bool, cases_eq, ltb-true, ltb-false}
use Rattle.kat_script.specs.World.{Holder, after_doing, fresh, merged}
use Rattle.kat_type.specs.declared.done.Done.{Done}
use Rattle.kat_type.specs.Lists.{Has}
use Rattle.kat_script.specs.Facts.{HasUpTo, IsFront}
use Rattle.kat_type.specs.Unions.{AreAmong, AreNested}
use Rattle.kat_type.proofs.Lists.{has_front, has_last, either_last, once_last}
use Rattle.kat_type.proofs.Unions.{has_mine, has_theirs, has_united, once_united}

pub front_fresh : (past : List Done) → IsFront past fresh
front_fresh past = record {
  within = λ one h. absurd h;
  was_done = λ one h. absurd h;
  closed = λ one early h k e l. absurd h;
  once = tt;
}

too_early : (a b c : ℕ) → a < b → b ≡ c → c ≤ a → ⊥
too_early a b c l e m = omega arith

-- another replica's new operation is later than what the holder has of that replica
pub front_more : (past : List Done) (holder : Holder) (new : Done) → IsFront past holder
    → ((one : Done) → Has past one → one.replica ≡ new.replica → one.time < new.time) → IsFront (past ++ new ∷ []) holder
front_more past holder new h later = record {
  within = h.within;
  was_done = λ one has. has_front past (new ∷ []) one (h.was_done one has);
  closed = λ one early has is e l. ⊎_elim
      (λ (old : Has past early). h.closed one early has old e l)
      (λ (same : new ≡ early). absurd (too_early one.time new.time early.time
      (later one (h.was_done one has) (sym e ∙ ap (λ (d : Done). d.replica) (sym same)))
      (ap (λ (d : Done). d.time) same) l))
      (either_last past new early is);
  once = h.once;
}

not_within : (a b c : ℕ) → a ≤ c → c < b → a ≡ b → ⊥
not_within a b c l m e = omega arith

up_to : (a b c : ℕ) → a ≤ b → b < c → a ≤ c
up_to a b c l m = omega arith

same_up_to : (a b : ℕ) → a ≡ b → b ≤ a
same_up_to a b e = omega arith

-- the replica's own new operation
pub front_did : (past : List Done) (holder : Holder) (new : Done) → IsFront past holder → holder.clock < new.time
    → ((one : Done) → Has past one → one.replica ≡ new.replica → Has holder.absorbed one) → IsFront (past ++ new ∷ []) (after_doing holder new)
front_did past holder new h lt own = record {
  within = λ one has. ⊎_elim
      (λ (old : Has holder.absorbed one). up_to one.time holder.clock new.time (h.within one old) lt)
      (λ (same : new ≡ one). same_up_to new.time one.time (ap (λ (d : Done). d.time) same))
      (either_last holder.absorbed new one has);
  was_done = λ one has. ⊎_elim
      (λ (old : Has holder.absorbed one). has_front past (new ∷ []) one (h.was_done one old))
      (λ (same : new ≡ one). subst (λ (d : Done). Has (past ++ new ∷ []) d) same (has_last past new))
      (either_last holder.absorbed new one has);
  closed = λ one early has is e l. ⊎_elim
      (λ (old : Has past early). has_front holder.absorbed (new ∷ []) early (⊎_elim
      (λ (there : Has holder.absorbed one). h.closed one early there old e l)
      (λ (same : new ≡ one). own early old (e ∙ ap (λ (d : Done). d.replica) (sym same)))
      (either_last holder.absorbed new one has)))
      (λ (same : new ≡ early). subst (λ (d : Done). Has (holder.absorbed ++ new ∷ []) d) same (has_last holder.absorbed new))
      (either_last past new early is);
  once = once_last holder.absorbed new h.once (λ has. not_within new.time new.time holder.clock (h.within new has) lt refl);
}

below_left : (a b c : ℕ) → a ≤ b → a ≤ max b c
below_left a b c l = omega arith

below_right : (a b c : ℕ) → a ≤ c → a ≤ max b c
below_right a b c l = omega arith

pub front_merged : (past : List Done) (mine theirs : Holder) → IsFront past mine → IsFront past theirs → IsFront past (merged mine theirs)
front_merged past mine theirs h k = record {
  within = λ one has. ⊎_elim
      (λ (i : Has mine.absorbed one). below_left one.time mine.clock theirs.clock (h.within one i))
      (λ (i : Has theirs.absorbed one). below_right one.time mine.clock theirs.clock (k.within one i))
      (has_united mine.absorbed theirs.absorbed one has);
  was_done = λ one has. ⊎_elim (λ i. h.was_done one i) (λ i. k.was_done one i) (has_united mine.absorbed theirs.absorbed one has);
  closed = λ one early has is e l. ⊎_elim
      (λ i. has_mine mine.absorbed theirs.absorbed early (h.closed one early i is e l))
      (λ i. has_theirs mine.absorbed theirs.absorbed early (k.closed one early i is e l))
      (has_united mine.absorbed theirs.absorbed one has);
  once = once_united mine.absorbed theirs.absorbed h.once k.once;
}

-- the latest operation of an origin in a list: its time bounds those of the origin, and is 0 or that of one of them
record Latest (xs : List Done) (origin : ℕ) : Type 0 where
  pub time : ℕ
  pub bounds : (one : Done) → one.replica ≡ origin → Has xs one → one.time ≤ time
  pub is_one : (time ≡ 0) ⊎ ((one : Done) × (one.replica ≡ origin) × Has xs one × (one.time ≡ time))

at_most_same : (a b c : ℕ) → a ≤ b → b ≡ c → a ≤ c
at_most_same a b c l e = omega arith

reaches : (a b : ℕ) → a ≡ b → b ≤ a
reaches a b e = omega arith

lt_or_le : (a b : ℕ) → (a < b) ⊎ (b ≤ a)
lt_or_le a b = ⊎_elim (λ e. inl (ltb-true a b e)) (λ e. inr (ltb-false a b e)) (cases_Bool (nat_lt a b))

before_too : (a b c : ℕ) → a ≤ b → b < c → a ≤ c
before_too a b c l m = omega arith

moved : (a b c : ℕ) → b ≤ c → a ≡ b → a ≤ c
moved a b c l e = omega arith

-- one more of the origin
latest_with : (x : Done) (xs : List Done) (origin : ℕ) → x.replica ≡ origin → (l : Latest xs origin) → (l.time < x.time) ⊎ (x.time ≤ l.time) → Latest (x ∷ xs) origin
latest_with x xs origin is l (inl later) = record {
  time = x.time;
  bounds = λ one mine has. ⊎_elim (λ (same : x ≡ one). reaches x.time one.time (ap (λ (d : Done). d.time) same))
      (λ (i : Has xs one). before_too one.time l.time x.time (l.bounds one mine i) later) has;
  is_one = inr (x, is, inl refl, refl);
}
latest_with x xs origin is l (inr sooner) = record {
  time = l.time;
  bounds = λ one mine has. ⊎_elim (λ (same : x ≡ one). moved one.time x.time l.time sooner (ap (λ (d : Done). d.time) (sym same)))
      (λ (i : Has xs one). l.bounds one mine i) has;
  is_one = ⊎_elim (λ none. inl none) (λ some. inr (some.0, some.1, inr some.2, some.3)) l.is_one;
}

-- one more of another origin
latest_past : (x : Done) (xs : List Done) (origin : ℕ) → (x.replica ≡ origin → ⊥) → Latest xs origin → Latest (x ∷ xs) origin
latest_past x xs origin other l = record {
  time = l.time;
  bounds = λ one mine has. ⊎_elim (λ (same : x ≡ one). absurd (other (ap (λ (d : Done). d.replica) same ∙ mine)))
      (λ (i : Has xs one). l.bounds one mine i) has;
  is_one = ⊎_elim (λ none. inl none) (λ some. inr (some.0, some.1, inr some.2, some.3)) l.is_one;
}

latest : (xs : List Done) (origin : ℕ) → Latest xs origin
latest [] origin = record { time = 0; bounds = λ one mine has. absurd has; is_one = inl refl }
latest (x ∷ xs) origin =
    let l = latest xs origin in
    ⊎_elim (λ (is : x.replica ≡ origin). latest_with x xs origin is l (lt_or_le l.time x.time))
    (λ (other : x.replica ≡ origin → ⊥). latest_past x xs origin other l) (cases_eq x.replica origin)

none_before : (a b : ℕ) → b ≡ 0 → a ≤ b → 0 < a → ⊥
none_before a b e l m = omega arith

-- of each origin a prefix has exactly what was done up to a time
pub fronts_up_to : (past : List Done) (holder : Holder) → ((one : Done) → Has past one → 0 < one.time) → IsFront past holder → (origin : ℕ)
    → (time : ℕ) × HasUpTo past holder origin time
fronts_up_to past holder timed h origin =
    let l = latest holder.absorbed origin in (
      l.time,
      λ one mine. (
        λ has. (h.was_done one has, l.bounds one mine has),
        λ done. ⊎_elim
            (λ (none : l.time ≡ 0). absurd (none_before one.time l.time none done.1 (timed one done.0)))
            (λ last. h.closed last.0 one last.2 done.0 (mine ∙ sym last.1) (at_most_same one.time l.time last.0.time done.1 (sym last.3)))
            l.is_one,
      ),
    )

through : (a b c : ℕ) → a ≤ b → b ≤ c → a ≤ c
through a b c l m = omega arith

weaker : (a b : ℕ) → a < b → a ≤ b
weaker a b l = omega arith

at_or_after : (a b : ℕ) → (a ≤ b) ⊎ (b ≤ a)
at_or_after a b = ⊎_elim (λ l. inl (weaker a b l)) (λ l. inr l) (lt_or_le a b)

among_from : (past : List Done) (a b : Holder) (origin s t : ℕ) → HasUpTo past a origin s → HasUpTo past b origin t → s ≤ t → AreAmong origin a.absorbed b.absorbed
among_from past a b origin s t h k l one mine has =
    let done = (h one mine).0 has in
    (k one mine).1 (done.0, through one.time s t done.1 l)

pub fronts_nest : (past : List Done) (a b : Holder) → ((one : Done) → Has past one → 0 < one.time) → IsFront past a → IsFront past b → AreNested a.absorbed b.absorbed
fronts_nest past a b timed h k origin =
    let s = fronts_up_to past a timed h origin in
    let t = fronts_up_to past b timed k origin in
    ⊎_elim (λ l. inl (among_from past a b origin s.0 t.0 s.1 t.1 l)) (λ l. inr (among_from past b a origin t.0 s.0 t.1 s.1 l)) (at_or_after s.0 t.0)
