-- The lines of a history keep the rules.
use Rattle.std.proofs.Common.{◌≡◌, ℕ, suc, ◌+◌, ◌<◌, ◌≤◌, ◌⊎◌, ⊎_elim, inl, inr, false, List, [], ◌∷◌, ◌++◌, map, length, refl, sym, subst, arith, None, Some}
use Rattle.std.specs.Prelude.{◌==◌, codes, is_none, nat_le, nat_lt, unwrap_or}
use Rattle.std.proofs.lemmas.Bool.Decides.{nat_tests}
use Rattle.kat_num.specs.Names.{code_of}
use Rattle.kat_script.specs.Rules.{Keeps, op_of, query_of, value_of}
use Rattle.kat_script.specs.Script.{Place, start}
use Rattle.kat_script.specs.World.{Holder, after_doing, fresh, merged}
use Rattle.kat_script.specs.declared.rules.TheConstants.{LINE_LIMIT, TIME_LIMIT}
use Rattle.kat_script.specs.declared.said.Constant.{Constant}
use Rattle.kat_script.specs.declared.said.Said.{Said}
use Rattle.kat_script.specs.declared.said.Said.TheVariants.{Replicas, Does, Ships, Delivers, Asks, Shows}
use Rattle.kat_type.specs.declared.done.Done.{Done}
use Rattle.kat_type.specs.declared.signatures.Signature.{Signature}
use Rattle.kat_hist.proofs.SaidLines.{AreKept}

-- a place with two replicas
abbrev pub spot : ℕ → ℕ → List ℕ → Holder → Holder → List Holder → Place
spot number lines words a b packets = record { number = number; lines = lines; words = words; world = record { replicas = a ∷ b ∷ []; packets = packets } }

not_none : (n : ℕ) → 0 < n → (n == 0) ≡ false
not_none n h = grind (arith, nat_tests)

room_left : (n : ℕ) → n < LINE_LIMIT → nat_le LINE_LIMIT n ≡ false
room_left n h = grind (arith, nat_tests)

later : (t c : ℕ) → c < t → nat_le t c ≡ false
later t c h = grind (arith, nat_tests)

early : (t : ℕ) → t ≤ TIME_LIMIT → nat_lt TIME_LIMIT t ≡ false
early t h = grind (arith, nat_tests)

ask_keeps : (sig : Signature) (number lines : ℕ) (words : List ℕ) (a b : Holder) (packets : List Holder) (query : ℕ) (args : List Constant) → 0 < lines → lines < LINE_LIMIT
    → is_none (query_of sig query args) ≡ false → Keeps sig (record { clocks = a.clock ∷ b.clock ∷ []; words = words; lines = lines }) (Asks 1 query args)
ask_keeps sig number lines words a b packets query args some few called =
    record { placed = rw (not_none lines some) refl; replica = refl; packet = refl; timely = refl; called = called; within = refl; room = room_left lines few }

-- asks of the first replica that can be called
abbrev pub AreAsks : Signature → List Said → Type 0
AreAsks sig [] = Unit {0}
AreAsks sig (Asks r query args ∷ saids) = (r ≡ 1) × (is_none (query_of sig query args) ≡ false) × AreAsks sig saids
AreAsks sig (said ∷ saids) = ⊥

one_more : (lines k : ℕ) → lines + (k + 1) < LINE_LIMIT → lines + 1 + k < LINE_LIMIT
one_more lines k h = omega (arith, h)

first_fits : (lines k : ℕ) → lines + (k + 1) < LINE_LIMIT → lines < LINE_LIMIT
first_fits lines k h = omega (arith, h)

more_lines : (lines : ℕ) → 0 < lines + 1
more_lines lines = omega arith

ask_at : (sig : Signature) (number lines : ℕ) (words : List ℕ) (a b : Holder) (packets : List Holder) (r query : ℕ) (args : List Constant) (saids : List Said) → r ≡ 1 → 0 < lines
    → lines < LINE_LIMIT → is_none (query_of sig query args) ≡ false → AreKept sig (spot (number + 1) (lines + 1) words a b packets) saids
    → AreKept sig (spot number lines words a b packets) (Asks r query args ∷ saids)
ask_at sig number lines words a b packets r query args saids one some few called more =
    subst (λ k. AreKept sig (spot number lines words a b packets) (Asks k query args ∷ saids)) (sym one)
    (ask_keeps sig number lines words a b packets query args some few called, more)

pub asks_kept : (sig : Signature) (number lines : ℕ) (words : List ℕ) (a b : Holder) (packets : List Holder) (saids : List Said) → 0 < lines → lines + length saids < LINE_LIMIT
    → AreAsks sig saids → AreKept sig (spot number lines words a b packets) saids
asks_kept sig number lines words a b packets [] some few h = tt
asks_kept sig number lines words a b packets (Asks r query args ∷ saids) some few h =
    ask_at sig number lines words a b packets r query args saids h.0 some (first_fits lines (length saids) (sized lines (length saids) few)) h.1
    (asks_kept sig (number + 1) (lines + 1) words a b packets saids (more_lines lines) (one_more lines (length saids) (sized lines (length saids) few)) h.2) where
      sized : (l k : ℕ) → l + suc k < LINE_LIMIT → l + (k + 1) < LINE_LIMIT
      sized l k e = omega (arith, e)
asks_kept sig number lines words a b packets (Replicas n ∷ saids) some few h = absurd h
asks_kept sig number lines words a b packets (Does r op args time ∷ saids) some few h = absurd h
asks_kept sig number lines words a b packets (Ships r p ∷ saids) some few h = absurd h
asks_kept sig number lines words a b packets (Delivers p r ∷ saids) some few h = absurd h
asks_kept sig number lines words a b packets (Shows r ∷ saids) some few h = absurd h

-- the word of the packet
abbrev pub packet_word : ℕ
packet_word = code_of (codes "p")

-- the second replica's operations go to the first
pub told_kept : (sig : Signature) (number lines : ℕ) (a b : Holder) (saids : List Said) → 0 < lines → lines + (length saids + 2) < LINE_LIMIT → AreAsks sig saids
    → AreKept sig (spot number lines [] a b []) (Ships 2 packet_word ∷ Delivers packet_word 1 ∷ saids)
told_kept sig number lines a b saids some few h =
    let first : lines < LINE_LIMIT = omega (arith, few) in
    let second : lines + 1 < LINE_LIMIT = omega (arith, few) in
    let third : lines + 1 + 1 + length saids < LINE_LIMIT = omega (arith, few) in (
      record { placed = rw (not_none lines some) refl; replica = refl; packet = refl; timely = refl; called = refl; within = refl; room = room_left lines first },
      (
        record { placed = rw (not_none (lines + 1) (more_lines lines)) refl; replica = refl; packet = refl; timely = refl; called = refl; within = refl; room = room_left (lines + 1) second },
        asks_kept sig (number + 1 + 1) (lines + 1 + 1) (packet_word ∷ []) (merged a b) b (b ∷ []) saids (more_lines (lines + 1)) third h,
      ),
    )

-- operations of two replicas whose clocks are these: each is later than its replica's clock
abbrev pub AreDone : Signature → ℕ → ℕ → List Said → Type 0
AreDone sig c d [] = Unit {0}
AreDone sig c d (Does r op args (Some time) ∷ saids) =
    (is_none (op_of sig op args) ≡ false) × (time ≤ TIME_LIMIT)
    × (((r ≡ 1) × (c < time) × AreDone sig time d saids) ⊎ ((r ≡ 2) × (d < time) × AreDone sig c time saids))
AreDone sig c d (said ∷ saids) = ⊥

-- what follows them keeps the rules wherever they lead
abbrev KeepsBehind : Signature → ℕ → List Said → Type 0
KeepsBehind sig most rest = (number lines : ℕ) (a b : Holder) → 0 < lines → lines + most < LINE_LIMIT → AreKept sig (spot number lines [] a b []) rest

abbrev done_line : ℕ → Signature → ℕ → List Constant → ℕ → Done
done_line r sig op args time = record { replica = r; time = time; op = unwrap_or (op_of sig op args) 0; args = map value_of args }

done_at : (sig : Signature) (number lines : ℕ) (a b : Holder) (r op : ℕ) (args : List Constant) (time : ℕ) (saids : List Said) → 0 < lines → lines < LINE_LIMIT
    → is_none (op_of sig op args) ≡ false → time ≤ TIME_LIMIT
    → ((r ≡ 1) × (a.clock < time) × AreKept sig (spot (number + 1) (lines + 1) [] (after_doing a (done_line 1 sig op args time)) b []) saids)
    ⊎ ((r ≡ 2) × (b.clock < time) × AreKept sig (spot (number + 1) (lines + 1) [] a (after_doing b (done_line 2 sig op args time)) []) saids)
    → AreKept sig (spot number lines [] a b []) (Does r op args (Some time) ∷ saids)
done_at sig number lines a b r op args time saids some few called small (inl h) =
    subst (λ k. AreKept sig (spot number lines [] a b []) (Does k op args (Some time) ∷ saids)) (sym h.0) (
      record { placed = rw (not_none lines some) refl; replica = refl; packet = refl; timely = later time a.clock h.1; called = called; within = early time small; room = room_left lines few },
      h.2,
    )
done_at sig number lines a b r op args time saids some few called small (inr h) =
    subst (λ k. AreKept sig (spot number lines [] a b []) (Does k op args (Some time) ∷ saids)) (sym h.0) (
      record { placed = rw (not_none lines some) refl; replica = refl; packet = refl; timely = later time b.clock h.1; called = called; within = early time small; room = room_left lines few },
      h.2,
    )

next_fits : (lines k most : ℕ) → lines + (suc k + most) < LINE_LIMIT → lines + 1 + (k + most) < LINE_LIMIT
next_fits lines k most h = omega (arith, h)

this_fits : (lines k most : ℕ) → lines + (suc k + most) < LINE_LIMIT → lines < LINE_LIMIT
this_fits lines k most h = omega (arith, h)

pub dones_kept : (sig : Signature) (most : ℕ) (rest : List Said) (number lines : ℕ) (a b : Holder) (saids : List Said) → KeepsBehind sig most rest → 0 < lines
    → lines + (length saids + most) < LINE_LIMIT → AreDone sig a.clock b.clock saids → AreKept sig (spot number lines [] a b []) (saids ++ rest)
dones_kept sig most rest number lines a b [] behind some few h = behind number lines a b some (omega (arith, few))
dones_kept sig most rest number lines a b (Does r op args (Some time) ∷ saids) behind some few h =
    done_at sig number lines a b r op args time (saids ++ rest) some (this_fits lines (length saids) most few) h.0 h.1
    (⊎_elim
    (λ (k : (r ≡ 1) × (a.clock < time) × AreDone sig time b.clock saids).
    inl (k.0, k.1, dones_kept sig most rest (number + 1) (lines + 1) (after_doing a (done_line 1 sig op args time)) b saids behind (more_lines lines) (next_fits lines (length saids) most few) k.2))
    (λ (k : (r ≡ 2) × (b.clock < time) × AreDone sig a.clock time saids).
    inr (k.0, k.1, dones_kept sig most rest (number + 1) (lines + 1) a (after_doing b (done_line 2 sig op args time)) saids behind (more_lines lines) (next_fits lines (length saids) most few) k.2))
    h.2)
dones_kept sig most rest number lines a b (Does r op args None ∷ saids) behind some few h = absurd h
dones_kept sig most rest number lines a b (Replicas n ∷ saids) behind some few h = absurd h
dones_kept sig most rest number lines a b (Ships r p ∷ saids) behind some few h = absurd h
dones_kept sig most rest number lines a b (Delivers p r ∷ saids) behind some few h = absurd h
dones_kept sig most rest number lines a b (Asks r query args ∷ saids) behind some few h = absurd h
dones_kept sig most rest number lines a b (Shows r ∷ saids) behind some few h = absurd h

-- two replicas do operations, the first is told of those of the second, and is asked
pub history_kept : (sig : Signature) (saids asks : List Said) → length saids + length asks + 4 < LINE_LIMIT → AreDone sig 0 0 saids → AreAsks sig asks
    → AreKept sig start (Replicas 2 ∷ (saids ++ (Ships 2 packet_word ∷ Delivers packet_word 1 ∷ asks)))
history_kept sig saids asks few done asked = (
  record { placed = refl; replica = refl; packet = refl; timely = refl; called = refl; within = refl; room = refl },
  dones_kept sig (length asks + 2) (Ships 2 packet_word ∷ Delivers packet_word 1 ∷ asks) 2 1 fresh fresh saids (λ number lines a b some room. told_kept sig number lines a b asks some room asked)
      (omega arith) (omega (arith, few)) done,
)
