-- What counts say goes on to be what the world says.
use Rattle.std.proofs.Common.{◌≡◌, ℕ, zero, suc, ◌+◌, ◌-◌, ◌≤◌, ◌<◌, max, length, Bool, true, false, List, [], ◌∷◌, ◌++◌, get_or, set, refl, sym, ◌∙◌, ap, subst, cond, arith, Option, None, Some}
use Rattle.std.specs.Prelude.{◌==◌, map, nat_lt, replicate}
use Rattle.std.proofs.lemmas.Bool.{eqb-true}
use Rattle.std.proofs.lemmas.List.{length-replicate, length-set}
use Rattle.kat_type.specs.Lists.{Has, IsOnce}
use Rattle.kat_type.specs.Unions.{AreNested}
use Rattle.kat_type.specs.declared.done.Done.{Done}
use Rattle.kat_type.proofs.Unions.{filter_has}
use Rattle.kat_script.specs.Judged.{IsReplica}
use Rattle.kat_script.specs.World.{Holder, after_doing, fresh, merged, packet_at, put, replica_at}
use Rattle.kat_script.specs.declared.script.Line.TheVariants.{Do, Ship, Deliver, Ask, Show}
use Rattle.kat_script.proofs.Fronts.{fronts_nest}
use Rattle.kat_script.proofs.Matching.{map-put}
use Rattle.kat_script.proofs.Worlds.{facts_deliver, facts_do, facts_first, facts_ship}
use Rattle.kat_delta.specs.Standing.{count_at, count_of}
use Rattle.kat_delta.specs.Worlds.{DeltaWorld, Made, delta_after, done_by, first_delta_world, own_part}
use Rattle.kat_delta.specs.declared.script.DeltaLine.{DeltaLine}
use Rattle.kat_delta.specs.declared.script.DeltaLine.TheVariants.{Plain, Delta}
use Rattle.kat_delta.proofs.Counting.{counts_each, counts_greater, counts_more}
use Rattle.kat_delta.proofs.Worlds.{facts_delta}
use Rattle.kat_delta_script.specs.Counted.{AreBeside, Counted, Counts, ParcelCounts, RowCounts, counted_after, counts_of, made_of, no_counts, parcel_at, raised_by, raised_each, with_own}
use Rattle.kat_delta_script.specs.declared.counts.Parcel.{Parcel}
use Rattle.kat_delta_script.specs.declared.counts.Parcel.TheVariants.{Whole, Own}

-- what a line needs so that counts go on
abbrev pub CanCount : DeltaWorld → DeltaLine → Type 0
CanCount w (Plain (Do done)) = IsReplica w.world done.replica × ((replica_at w.world done.replica).clock < done.time)
CanCount w (Plain (Ship r p)) = IsReplica w.world r × (p ≤ length w.world.packets)
CanCount w (Plain (Deliver p r)) = IsReplica w.world r × (p < length w.world.packets)
CanCount w (Plain (Ask r query args)) = Unit {0}
CanCount w (Plain (Show r)) = Unit {0}
CanCount w (Delta r p from) = IsReplica w.world r × (p ≤ length w.world.packets)

-- lists that go together
one_less : (i n : ℕ) → suc i < suc n → i < n
one_less i n l = omega arith

no_place : (i : ℕ) → i < 0 → ⊥
no_place i l = omega arith

pub beside_length : {X Y : Type 0} (R : X → Y → Type 0) (xs : List X) (ys : List Y) → AreBeside R xs ys → length xs ≡ length ys
beside_length R [] [] h = refl
beside_length R [] (y ∷ ys) h = absurd h
beside_length R (x ∷ xs) [] h = absurd h
beside_length R (x ∷ xs) (y ∷ ys) h = ap suc (beside_length R xs ys h.1)

pub beside_at : {X Y : Type 0} (R : X → Y → Type 0) (xs : List X) (ys : List Y) (i : ℕ) (d : X) (e : Y) → AreBeside R xs ys → i < length xs → R (get_or xs i d) (get_or ys i e)
beside_at R [] ys i d e h l = absurd (no_place i l)
beside_at R (x ∷ xs) [] i d e h l = absurd h
beside_at R (x ∷ xs) (y ∷ ys) zero d e h l = h.0
beside_at R (x ∷ xs) (y ∷ ys) (suc i) d e h l = beside_at R xs ys i d e h.1 (one_less i (length xs) l)

beside_set : {X Y : Type 0} (R : X → Y → Type 0) (xs : List X) (ys : List Y) (i : ℕ) (x : X) (y : Y) → AreBeside R xs ys → R x y → AreBeside R (set xs i x) (set ys i y)
beside_set R [] [] i x y h r = tt
beside_set R [] (z ∷ ys) i x y h r = absurd h
beside_set R (w ∷ xs) [] i x y h r = absurd h
beside_set R (w ∷ xs) (z ∷ ys) zero x y h r = (r, h.1)
beside_set R (w ∷ xs) (z ∷ ys) (suc i) x y h r = (h.0, beside_set R xs ys i x y h.1 r)

beside_last : {X Y : Type 0} (R : X → Y → Type 0) (xs : List X) (ys : List Y) (x : X) (y : Y) → AreBeside R xs ys → R x y → AreBeside R (xs ++ x ∷ []) (ys ++ y ∷ [])
beside_last R [] [] x y h r = (r, tt)
beside_last R [] (z ∷ ys) x y h r = absurd h
beside_last R (w ∷ xs) [] x y h r = absurd h
beside_last R (w ∷ xs) (z ∷ ys) x y h r = (h.0, beside_last R xs ys x y h.1 r)

beside_put_at : {X Y : Type 0} (R : X → Y → Type 0) (xs : List X) (ys : List Y) (i : ℕ) (x : X) (y : Y) (b c : Bool) → b ≡ c → AreBeside R xs ys → R x y
    → AreBeside R (cond b (set xs i x) (xs ++ x ∷ [])) (cond c (set ys i y) (ys ++ y ∷ []))
beside_put_at R xs ys i x y true true e h r = beside_set R xs ys i x y h r
beside_put_at R xs ys i x y true false e h r = absurd cc
beside_put_at R xs ys i x y false true e h r = absurd cc
beside_put_at R xs ys i x y false false e h r = beside_last R xs ys x y h r

beside_put : {X Y : Type 0} (R : X → Y → Type 0) (xs : List X) (ys : List Y) (i : ℕ) (x : X) (y : Y) → AreBeside R xs ys → R x y → AreBeside R (put xs i x) (put ys i y)
beside_put R xs ys i x y h r = beside_put_at R xs ys i x y (nat_lt i (length xs)) (nat_lt i (length ys)) (ap (λ n. nat_lt i n) (beside_length R xs ys h)) h r

beside_many : {X Y : Type 0} (R : X → Y → Type 0) (n : ℕ) (x : X) (y : Y) → R x y → AreBeside R (replicate n x) (replicate n y)
beside_many R zero x y r = tt
beside_many R (suc n) x y r = (r, beside_many R n x y r)

beside_nothing : {X Y : Type 0} (R : X → Y → Type 0) (xs : List X) (ys : List Y) → ys ≡ [] → AreBeside R xs ys → xs ≡ []
beside_nothing R [] ys e h = refl
beside_nothing R (x ∷ xs) [] e h = absurd h
beside_nothing R (x ∷ xs) (y ∷ ys) e h = absurd cc

-- counts of nothing
zero_at : (n i : ℕ) → ◌≡◌ {A = ℕ} (get_or (replicate n 0) i 0) 0
zero_at zero i = refl
zero_at (suc n) zero = refl
zero_at (suc n) (suc i) = zero_at n i

no_row : (n : ℕ) → RowCounts n (replicate n 0) fresh
no_row n = (λ q low high. zero_at n (q - 1), length-replicate n 0)

-- a replica's count is the number of its own
one_plus : (n k : ℕ) → n ≡ k → 1 + n ≡ suc k
one_plus n k e = omega arith

none_plus : (n k : ℕ) → n ≡ k → 0 + n ≡ k
none_plus n k e = omega arith

own_length : (b : Bool) (n : ℕ) (one : Done) (ones : List Done) → n ≡ length ones → cond b 1 0 + n ≡ length (cond b (one ∷ ones) ones)
own_length true n one ones e = one_plus n (length ones) e
own_length false n one ones e = none_plus n (length ones) e

count_is_own : (r : ℕ) (ones : List Done) → count_of r ones ≡ length (done_by r ones)
count_is_own r [] = refl
count_is_own r (one ∷ ones) = own_length (one.replica == r) (count_of r ones) one (done_by r ones) (count_is_own r ones)

-- the greater of each
raised_length : (counts others : List ℕ) → length (raised_each counts others) ≡ length counts
raised_length [] others = refl
raised_length (c ∷ counts) [] = refl
raised_length (c ∷ counts) (o ∷ others) = ap suc (raised_length counts others)

no_less : (n : ℕ) → suc n ≡ 0 → ⊥
no_less n e = omega arith

one_fewer : (n m : ℕ) → suc n ≡ suc m → n ≡ m
one_fewer n m e = omega arith

raised_at : (counts others : List ℕ) → length counts ≡ length others → (i : ℕ) → get_or (raised_each counts others) i 0 ≡ max (get_or counts i 0) (get_or others i 0)
raised_at [] [] e i = refl
raised_at [] (o ∷ others) e i = absurd (no_less (length others) (sym e))
raised_at (c ∷ counts) [] e i = absurd (no_less (length counts) e)
raised_at (c ∷ counts) (o ∷ others) e zero = refl
raised_at (c ∷ counts) (o ∷ others) e (suc i) = raised_at counts others (one_fewer (length counts) (length others) e) i

inside : (r n m : ℕ) → 1 ≤ r → r ≤ n → m ≡ n → r - 1 < m
inside r n m h k e = omega arith

up_to : (r n m : ℕ) → r ≤ n → m ≡ n → r ≤ m
up_to r n m h e = omega arith

-- the row of a replica
pub row_there : (many r : ℕ) (rows : List (List ℕ)) (holders : List Holder) → AreBeside (RowCounts many) rows holders → 1 ≤ r → r ≤ length holders
    → RowCounts many (counts_of rows r) (get_or holders (r - 1) fresh)
row_there many r rows holders h low high =
    beside_at (RowCounts many) rows holders (r - 1) [] fresh h (inside r (length holders) (length rows) low high (beside_length (RowCounts many) rows holders h))

raised_row : (many : ℕ) (counts : List ℕ) (parcel : Parcel) (mine theirs : Holder) → RowCounts many counts mine → ParcelCounts many parcel theirs → IsOnce mine.absorbed → IsOnce theirs.absorbed
    → AreNested mine.absorbed theirs.absorbed → RowCounts many (raised_by counts parcel) (merged mine theirs)
raised_row many counts (Whole others) mine theirs h k once twice nested =
    let same : length counts ≡ length others = h.1 ∙ sym k.1 in
    let size : length (raised_each counts others) ≡ length counts = raised_length counts others in (
      counts_each counts others (raised_each counts others) mine.absorbed theirs.absorbed h.0 k.0 same size (λ i l. raised_at counts others same i) once twice nested,
      size ∙ h.1,
    )
raised_row many counts (Own origin from to) mine theirs h k once twice nested =
    let v = max (count_at counts origin) to in (
      counts_greater counts (with_own counts origin v) origin to mine.absorbed theirs.absorbed h.0 k.0 (up_to origin many (length counts) k.1 h.1) k.2 k.3 once twice nested refl,
      length-set counts (origin - 1) v ∙ h.1,
    )

made_more : (packets : List Parcel) (made : List (Option Made)) (p : ℕ) (parcel : Parcel) (how : Option Made) → map made_of packets ≡ made → made_of parcel ≡ how → map made_of (put packets p parcel) ≡ put made p how
made_more packets made p parcel how e f = map-put made_of packets p parcel ∙ ap (λ (ms : List (Option Made)). put ms p (made_of parcel)) e ∙ ap (λ (o : Option Made). put made p o) f

not_first : (lines : ℕ) → 0 < lines → lines ≡ 0 → ⊥
not_first lines l e = omega arith

own_has : (r : ℕ) (ones : List Done) (one : Done) → Has (done_by r ones) one → one.replica ≡ r
own_has r ones one has = eqb-true one.replica r (filter_has (λ (d : Done). d.replica == r) ones one has).1

-- a line more
pub counts_line : (k : Counted) (before lines : ℕ) (w : DeltaWorld) (line : DeltaLine) → 0 < lines → Counts k before w → CanCount w line → Counts (counted_after k line) lines (delta_after w line)
counts_line k before lines w (Plain (Do done)) l c can =
    let r = done.replica in
    let row = counts_of k.replicas r in
    let holder = replica_at w.world r in
    let h = row_there c.many r k.replicas w.world.replicas c.replicas can.0.0 can.0.1 in
    let v = count_at row r + 1 in
    record {
      past = c.past ++ done ∷ [];
      facts = facts_do c.past w.world done c.facts can;
      first = λ e. absurd (not_first lines l e);
      many = c.many;
      some = length-set w.world.replicas (r - 1) (after_doing holder done) ∙ c.some;
      replicas = beside_set (RowCounts c.many) k.replicas w.world.replicas (r - 1) (with_own row r v) (after_doing holder done) c.replicas (
        counts_more row (with_own row r v) r holder.absorbed done h.0 can.0.0 (up_to r c.many (length row) (subst (λ n. r ≤ n) c.some can.0.1) h.1) refl refl,
        length-set row (r - 1) v ∙ h.1,
      );
      packets = c.packets;
      made = c.made;
    }
counts_line k before lines w (Plain (Ship r p)) l c can = record {
  past = c.past;
  facts = facts_ship c.past w.world r p c.facts;
  first = λ e. absurd (not_first lines l e);
  many = c.many;
  some = c.some;
  replicas = c.replicas;
  packets = beside_put (ParcelCounts c.many) k.packets w.world.packets p (Whole (counts_of k.replicas r)) (replica_at w.world r) c.packets (row_there c.many r k.replicas w.world.replicas c.replicas can.0.0 can.0.1);
  made = made_more k.packets w.made p (Whole (counts_of k.replicas r)) None c.made refl;
}
counts_line k before lines w (Plain (Deliver p r)) l c can =
    let mine = replica_at w.world r in
    let theirs = packet_at w.world p in
    let row = counts_of k.replicas r in
    let parcel = parcel_at k.packets p in
    record {
      past = c.past;
      facts = facts_deliver c.past w.world p r c.facts can.0;
      first = λ e. absurd (not_first lines l e);
      many = c.many;
      some = length-set w.world.replicas (r - 1) (merged mine theirs) ∙ c.some;
      replicas = beside_set (RowCounts c.many) k.replicas w.world.replicas (r - 1) (raised_by row parcel) (merged mine theirs) c.replicas
          (raised_row c.many row parcel mine theirs (row_there c.many r k.replicas w.world.replicas c.replicas can.0.0 can.0.1)
          (beside_at (ParcelCounts c.many) k.packets w.world.packets p (Whole []) fresh c.packets (subst (λ n. p < n) (sym (beside_length (ParcelCounts c.many) k.packets w.world.packets c.packets)) can.1))
          (c.facts.replicas (r - 1)).once (c.facts.packets p).once
          (fronts_nest c.past mine theirs c.facts.timed (c.facts.replicas (r - 1)) (c.facts.packets p)));
      packets = c.packets;
      made = c.made;
    }
counts_line k before lines w (Plain (Ask r query args)) l c can = record {
  past = c.past;
  facts = c.facts;
  first = λ e. absurd (not_first lines l e);
  many = c.many;
  some = c.some;
  replicas = c.replicas;
  packets = c.packets;
  made = c.made;
}
counts_line k before lines w (Plain (Show r)) l c can = record {
  past = c.past;
  facts = c.facts;
  first = λ e. absurd (not_first lines l e);
  many = c.many;
  some = c.some;
  replicas = c.replicas;
  packets = c.packets;
  made = c.made;
}
counts_line k before lines w (Delta r p from) l c can =
    let row = counts_of k.replicas r in
    let holder = replica_at w.world r in
    let h = row_there c.many r k.replicas w.world.replicas c.replicas can.0.0 can.0.1 in
    let high : r ≤ c.many = subst (λ n. r ≤ n) c.some can.0.1 in
    record {
      past = c.past;
      facts = facts_delta c.past w r p from c.facts;
      first = λ e. absurd (not_first lines l e);
      many = c.many;
      some = c.some;
      replicas = c.replicas;
      packets = beside_put (ParcelCounts c.many) k.packets w.world.packets p (Own r from (count_at row r)) (own_part r holder) c.packets (
        can.0.0,
        high,
        own_has r holder.absorbed,
        h.0 r can.0.0 (up_to r c.many (length row) high h.1) ∙ count_is_own r holder.absorbed,
      );
      made = made_more k.packets w.made p (Own r from (count_at row r)) (Some (record { origin = r; from = from })) c.made refl;
    }

-- the script opens
opened_from : (k : Counted) (lines n : ℕ) (packets : List Parcel) → 0 < lines → packets ≡ [] → Counts (record { replicas = no_counts n; packets = packets }) lines (first_delta_world n)
opened_from k lines n packets l e =
    subst (λ (ps : List Parcel). Counts (record { replicas = no_counts n; packets = ps }) lines (first_delta_world n)) (sym e)
    (record {
      past = [];
      facts = facts_first n;
      first = λ z. absurd (not_first lines l z);
      many = n;
      some = length-replicate n fresh;
      replicas = beside_many (RowCounts n) n (replicate n 0) fresh (no_row n);
      packets = tt;
      made = refl;
    })

abbrev opening : ℕ → DeltaWorld → DeltaWorld
opening n w = record w { world = record w.world { replicas = replicate n fresh } }

pub counts_open : (k : Counted) (before lines n : ℕ) (w : DeltaWorld) → 0 < lines → before ≡ 0 → Counts k before w → Counts (record { replicas = no_counts n; packets = k.packets }) lines (opening n w)
counts_open k before lines n w l z c =
    let is : w ≡ first_delta_world 0 = c.first z in
    subst (λ (v : DeltaWorld). Counts (record { replicas = no_counts n; packets = k.packets }) lines (opening n v)) (sym is)
    (opened_from k lines n k.packets l (beside_nothing (ParcelCounts c.many) k.packets w.world.packets (ap (λ (v : DeltaWorld). v.world.packets) is) c.packets))

-- before the first line
pub counts_first : (k : Counted) → k.replicas ≡ [] → k.packets ≡ [] → Counts k 0 (first_delta_world 0)
counts_first k r p = record {
  past = [];
  facts = facts_first 0;
  first = λ z. refl;
  many = 0;
  some = refl;
  replicas = subst (λ (rows : List (List ℕ)). AreBeside (RowCounts 0) rows []) (sym r) tt;
  packets = subst (λ (ps : List Parcel). AreBeside (ParcelCounts 0) ps []) (sym p) tt;
  made = ap (λ (ps : List Parcel). map made_of ps) p;
}
