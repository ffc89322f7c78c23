-- The script of a history is judged good.
use Rattle.std.proofs.Common.{◌≡◌, ℕ, zero, suc, ◌+◌, ◌*◌, ◌^◌, ◌<◌, ◌≤◌, ◌⊎◌, ⊎_elim, inl, inr, Bool, true, false, List, [], ◌∷◌, ◌++◌, map, length, refl, sym, ◌∙◌, ap, subst, arith, Some, pos, negsuc, All}
use Rattle.std.specs.Prelude.{◌==◌, ◌&&◌, ◌||◌, nat_le, nat_lt, slice_get, is_none, position, ◌≤ℤ◌}
use Rattle.std.specs.List.{list_all, position_or_len, slice_index_or}
use Rattle.std.proofs.lemmas.Int.{ints}
use Rattle.std.proofs.Math.Nat.{pow-succ'}
use Rattle.std.proofs.lemmas.Bool.{eq-eqb, eqb-true, leb-true, lt-ltb, ltb-true}
use Rattle.std.proofs.lemmas.List.{length-append, length-map}
use Rattle.std.proofs.lemmas.List.Elements.{All-head, All-tail}
use Rattle.kat_num.specs.Values.{IsArgument, HasSort}
use Rattle.kat_num.specs.declared.values.Sort.{Sort}
use Rattle.kat_num.specs.declared.values.Sort.TheVariants as sort
use Rattle.kat_num.specs.declared.values.TheConstants.{NUMBER_LIMIT}
use Rattle.kat_num.specs.declared.values.Value.{Value}
use Rattle.kat_num.specs.declared.values.Value.TheVariants as value
use Rattle.kat_design.specs.Fitting.{FitsSignature}
use Rattle.kat_design.specs.Sorted.{AreMatched}
use Rattle.kat_script.specs.Rules.{fit, has_sort, op_of, query_of}
use Rattle.kat_script.specs.Script.{IsScriptText}
use Rattle.kat_script.specs.declared.rules.TheConstants.{LINE_LIMIT}
use Rattle.kat_script.specs.declared.said.Said.{Said}
use Rattle.kat_script.specs.declared.said.Said.TheVariants.{Replicas, Ships, Delivers}
use Rattle.kat_script.specs.declared.script.Script.{Script}
use Rattle.kat_type.specs.Lists.{Has}
use Rattle.kat_type.specs.Signatures.{IsSmall}
use Rattle.kat_type.specs.declared.done.Done.{Done}
use Rattle.kat_type.specs.declared.signatures.OpSig.{OpSig}
use Rattle.kat_type.specs.declared.signatures.QuerySig.{QuerySig}
use Rattle.kat_type.specs.declared.signatures.Signature.{Signature}
use Rattle.kat_type.proofs.Ordered.{had_all}
use Rattle.kat_histories.specs.Choices.{headed}
use Rattle.kat_histories.specs.Histories.{stamp_lists, stamps}
use Rattle.kat_histories.specs.Laws.{IsHistory, stamp_of}
use Rattle.kat_histories.specs.Pools.{arguments_of, asks_of, call_with, calls_from, pool, query_sorts}
use Rattle.kat_histories.specs.declared.calls.Call.{Call}
use Rattle.kat_histories.specs.declared.histories.History.{History}
use Rattle.kat_histories.specs.declared.stamps.Stamp.{Stamp}
use Rattle.kat_hist.specs.Scripts.{script_text}
use Rattle.kat_hist.specs.Words.{HasWords, IsFreeWord}
use Rattle.kat_histories.proofs.Counting.{flat_length, headed_length}
use Rattle.kat_histories.proofs.Fitted.{good_stamps, history_fits, pool_arguments}
use Rattle.kat_histories.proofs.Pieces.{get_has}
use Rattle.kat_histories.proofs.StampLists.{all_at, good_has}
use Rattle.kat_histories.proofs.Tests.{both_true, true_both}
use Rattle.kat_histories.proofs.Trying.{AreOfPools, IsCallFrom, call_from, got_made}
use Rattle.kat_hist.proofs.HistoryTexts.{ask_said, asks_said, constant_of, constants_of, done_said, history_printed, history_said, op_code, query_code}
use Rattle.kat_hist.proofs.KeptLines.{AreAsks, AreDone, history_kept, packet_word}
use Rattle.kat_hist.proofs.SaidItems.{AreGood, IsGoodConstant}
use Rattle.kat_hist.proofs.SaidLines.{AreGoodSaids, saids_text, script_in}

-- arguments are constants of their sorts
abbrev AreFitting : List Value → List Sort → Type 0
AreFitting args sorts = AreMatched (λ (v : Value) (s : Sort). IsArgument s v) args sorts

not_natural : (n : ℕ) → pos 0 ≤ℤ negsuc n → ⊥
not_natural n h = omega (arith, ints, h)

sort_fits : (v : Value) (s : Sort) → HasSort s v → has_sort (constant_of v) s ≡ true
sort_fits (value.Bool b) sort.Bool h = refl
sort_fits (value.Bool b) sort.Int h = absurd h
sort_fits (value.Bool b) sort.Nat h = absurd h
sort_fits (value.Bool b) sort.Name h = absurd h
sort_fits (value.Num (pos n)) sort.Bool h = absurd h
sort_fits (value.Num (pos n)) sort.Int h = refl
sort_fits (value.Num (pos n)) sort.Nat h = refl
sort_fits (value.Num (pos n)) sort.Name h = absurd h
sort_fits (value.Num (negsuc n)) sort.Bool h = absurd h
sort_fits (value.Num (negsuc n)) sort.Int h = refl
sort_fits (value.Num (negsuc n)) sort.Nat h = absurd (not_natural n h)
sort_fits (value.Num (negsuc n)) sort.Name h = absurd h
sort_fits (value.Name c) sort.Bool h = absurd h
sort_fits (value.Name c) sort.Int h = absurd h
sort_fits (value.Name c) sort.Nat h = absurd h
sort_fits (value.Name c) sort.Name h = refl

args_fit : (args : List Value) (sorts : List Sort) → AreFitting args sorts → fit (constants_of args) sorts ≡ true
args_fit [] [] m = refl
args_fit [] (s ∷ sorts) m = absurd m
args_fit (v ∷ args) [] m = absurd m
args_fit (v ∷ args) (s ∷ sorts) m = true_both (has_sort (constant_of v) s) (fit (constants_of args) sorts) (sort_fits v s m.0.fits) (args_fit args sorts m.1)

good_constant : (v : Value) (s : Sort) → IsArgument s v → IsGoodConstant (constant_of v)
good_constant (value.Bool b) s a = tt
good_constant (value.Num (pos n)) s a = a.within
good_constant (value.Num (negsuc n)) s a = a.within
good_constant (value.Name c) s a = a.named

good_args : (args : List Value) (sorts : List Sort) → AreFitting args sorts → AreGood (constants_of args)
good_args [] sorts m = tt
good_args (v ∷ args) [] m = absurd m
good_args (v ∷ args) (s ∷ sorts) m = (good_constant v s m.0, good_args args sorts m.1)

-- the item of a number
some_same : {Z : Type 0} {a b : Z} → Some a ≡ Some b → a ≡ b
some_same h = cc h

named_at : {X : Type 0} (name : X → ℕ) (xs : List X) (i : ℕ) (x : X) → slice_get xs i ≡ Some x → slice_index_or (map name xs) i 0 ≡ name x
named_at name [] i x e = absurd (cc e)
named_at name (y ∷ xs) zero x e = ap name (some_same e)
named_at name (y ∷ xs) (suc i) x e = named_at name xs i x e

all_got : {X : Type 0} (P : X → Type 0) (xs : List X) (i : ℕ) (x : X) → All P xs → slice_get xs i ≡ Some x → P x
all_got P xs i x all e = had_all P xs x x (λ k lt. all k x lt) (get_has xs i x e)

-- if some element passes, one is found
step_here : {X : Type 0} (p : X → Bool) (y : X) (xs : List X) → p y ≡ true → position_or_len p (y ∷ xs) < length (y ∷ xs)
step_here p y xs e = let z : position_or_len p (y ∷ xs) ≡ 0 = rw e refl in omega (arith, z)

step_behind : {X : Type 0} (p : X → Bool) (y : X) (xs : List X) (b : Bool) → p y ≡ b → position_or_len p xs < length xs → position_or_len p (y ∷ xs) < length (y ∷ xs)
step_behind p y xs true e h = step_here p y xs e
step_behind p y xs false e h = let z : position_or_len p (y ∷ xs) ≡ 1 + position_or_len p xs = rw e refl in omega (arith, z, h)

passes_before : {X : Type 0} (p : X → Bool) (xs : List X) (i : ℕ) (x : X) → slice_get xs i ≡ Some x → p x ≡ true → position_or_len p xs < length xs
passes_before p [] i x e h = absurd (cc e)
passes_before p (y ∷ xs) zero x e h = step_here p y xs (ap p (some_same e) ∙ h)
passes_before p (y ∷ xs) (suc i) x e h = step_behind p y xs (p y) refl (passes_before p xs i x e h)

some_found : {X : Type 0} (p : X → Bool) (xs : List X) (i : ℕ) (x : X) → slice_get xs i ≡ Some x → p x ≡ true → is_none (position p xs) ≡ false
some_found p xs i x e h = rw (lt-ltb (position_or_len p xs) (length xs) (passes_before p xs i x e h)) refl

op_found : (sig : Signature) (i : ℕ) (o : OpSig) (args : List Value) → slice_get sig.ops i ≡ Some o → AreFitting args o.sorts → is_none (op_of sig (op_code sig i) (constants_of args)) ≡ false
op_found sig i o args e m =
    some_found (λ (op : OpSig). (op.name == op_code sig i) && fit (constants_of args) op.sorts) sig.ops i o e
    (true_both (o.name == op_code sig i) (fit (constants_of args) o.sorts) (eq-eqb o.name (op_code sig i) (sym (named_at (λ (op : OpSig). op.name) sig.ops i o e))) (args_fit args o.sorts m))

query_found : (sig : Signature) (i : ℕ) (q : QuerySig) (args : List Value) → slice_get sig.queries i ≡ Some q → AreFitting args q.sorts
    → is_none (query_of sig (query_code sig i) (constants_of args)) ≡ false
query_found sig i q args e m =
    some_found (λ (query : QuerySig). (query.name == query_code sig i) && fit (constants_of args) query.sorts) sig.queries i q e
    (true_both (q.name == query_code sig i) (fit (constants_of args) q.sorts) (eq-eqb q.name (query_code sig i) (sym (named_at (λ (query : QuerySig). query.name) sig.queries i q e))) (args_fit args q.sorts m))

-- the lists of stamps keep to the clocks
abbrev is_timely : ℕ → ℕ → List Stamp → Bool
is_timely c d [] = true
is_timely c d (at ∷ ats) =
    ((at.replica == 1) && (nat_lt c at.time && (nat_le at.time 3 && is_timely at.time d ats)))
    || ((at.replica == 2) && (nat_lt d at.time && (nat_le at.time 3 && is_timely c at.time ats)))

all_timely : list_all (is_timely 0 0) stamp_lists ≡ true
unfolding stamp_lists stamps
all_timely = refl

either_true : (a b : Bool) → (a || b) ≡ true → (a ≡ true) ⊎ (b ≡ true)
either_true true b e = inl refl
either_true false b e = inr e

one_timely : (sig : Signature) (done : Done) (saids : List Said) (c d : ℕ) (o : OpSig) → slice_get sig.ops done.op ≡ Some o → AreFitting done.args o.sorts
    → ((done.replica ≡ 1) × (c < done.time) × (done.time ≤ 3) × AreDone sig done.time d saids) ⊎ ((done.replica ≡ 2) × (d < done.time) × (done.time ≤ 3) × AreDone sig c done.time saids)
    → AreDone sig c d (done_said sig done ∷ saids)
one_timely sig done saids c d o e m (inl h) = (op_found sig done.op o done.args e m, let t = h.2 in omega (arith, t), inl (h.0, h.1, h.3))
one_timely sig done saids c d o e m (inr h) = (op_found sig done.op o done.args e m, let t = h.2 in omega (arith, t), inr (h.0, h.1, h.3))

abbrev timely_at : ℕ → Done → ℕ → ℕ → List Done → ℕ → Bool
timely_at r done d e ops before = (done.replica == r) && (nat_lt before done.time && (nat_le done.time 3 && is_timely d e (map stamp_of ops)))

timely_facts : (r before d e : ℕ) (done : Done) (ops : List Done) → timely_at r done d e ops before ≡ true
    → (done.replica ≡ r) × (before < done.time) × (done.time ≤ 3) × (is_timely d e (map stamp_of ops) ≡ true)
timely_facts r before d e done ops h =
    let x = both_true (done.replica == r) (nat_lt before done.time && (nat_le done.time 3 && is_timely d e (map stamp_of ops))) h in
    let y = both_true (nat_lt before done.time) (nat_le done.time 3 && is_timely d e (map stamp_of ops)) x.1 in
    let z = both_true (nat_le done.time 3) (is_timely d e (map stamp_of ops)) y.1 in
    (eqb-true done.replica r x.0, ltb-true before done.time y.0, leb-true done.time 3 z.0, z.1)

dones_timely : (sig : Signature) (ops : List Done) (c d : ℕ) → All (FitsSignature sig) ops → is_timely c d (map stamp_of ops) ≡ true → AreDone sig c d (map (done_said sig) ops)
dones_timely sig [] c d fits e = tt
dones_timely sig (done ∷ ops) c d fits e =
    let one : FitsSignature sig done = All-head (FitsSignature sig) done ops fits in
    let rest : All (FitsSignature sig) ops = All-tail (FitsSignature sig) done ops fits in
    one_timely sig done (map (done_said sig) ops) c d one.op one.found one.args
    (⊎_elim
    (λ (h : timely_at 1 done done.time d ops c ≡ true). let f = timely_facts 1 c done.time d done ops h in inl (f.0, f.1, f.2, dones_timely sig ops done.time d rest f.3))
    (λ (h : timely_at 2 done c done.time ops d ≡ true). let f = timely_facts 2 d c done.time done ops h in inr (f.0, f.1, f.2, dones_timely sig ops c done.time rest f.3))
    (either_true (timely_at 1 done done.time d ops c) (timely_at 2 done c done.time ops d) e))

-- operations are written with free words and numbers within the limit
free_op : (sig : Signature) (i : ℕ) (o : OpSig) → HasWords sig → slice_get sig.ops i ≡ Some o → IsFreeWord (op_code sig i)
free_op sig i o words e = subst IsFreeWord (sym (named_at (λ (op : OpSig). op.name) sig.ops i o e)) (all_got (λ (op : OpSig). IsFreeWord op.name) sig.ops i o words.ops e)

free_query : (sig : Signature) (i : ℕ) (q : QuerySig) → HasWords sig → slice_get sig.queries i ≡ Some q → IsFreeWord (query_code sig i)
free_query sig i q words e =
    subst IsFreeWord (sym (named_at (λ (query : QuerySig). query.name) sig.queries i q e)) (all_got (λ (query : QuerySig). IsFreeWord query.name) sig.queries i q words.queries e)

within_32 : (n : ℕ) → n ≤ 32 → n ≤ NUMBER_LIMIT
within_32 n h = omega (arith, h)

dones_good : (sig : Signature) (ops : List Done) (more : List Said) → HasWords sig → All (FitsSignature sig) ops → AreGoodSaids more → AreGoodSaids (map (done_said sig) ops ++ more)
dones_good sig [] more words fits good = good
dones_good sig (done ∷ ops) more words fits good =
    let one : FitsSignature sig done = All-head (FitsSignature sig) done ops fits in (
      (within_32 done.replica one.few, free_op sig done.op one.op words one.found, good_args done.args one.op.sorts one.args, one.time),
      dones_good sig ops more words (All-tail (FitsSignature sig) done ops fits) good,
    )

-- what is asked is asked of a query, with arguments of its sorts
record IsAsked (sig : Signature) (ask : Call) : Type 0 where
  query : QuerySig
  found : slice_get sig.queries ask.number ≡ Some query
  args : AreFitting ask.args query.sorts

is_asked : (sig : Signature) (ask : Call) → Has (asks_of sig) ask → IsAsked sig ask
is_asked sig ask has =
    let c : IsCallFrom 0 (query_sorts sig.queries) ask = call_from 0 (query_sorts sig.queries) ask has in
    let q = got_made (λ (query : QuerySig). query.sorts) sig.queries c.place c.sorts c.found in
    record {
      query = q.0;
      found = ap (slice_get sig.queries) (let n = c.numbered in omega (arith, n)) ∙ q.1;
      args = pool_arguments ask.args q.0.sorts (subst (λ sorts. AreOfPools ask.args sorts) (sym q.2) c.args);
    }

asks_called : (sig : Signature) (asks : List Call) → ((ask : Call) → Has asks ask → IsAsked sig ask) → AreAsks sig (map (ask_said sig) asks)
asks_called sig [] each = tt
asks_called sig (ask ∷ asks) each =
    let one : IsAsked sig ask = each ask (inl refl) in
    (refl, query_found sig ask.number one.query ask.args one.found one.args, asks_called sig asks (λ other has. each other (inr has)))

asks_good : (sig : Signature) (asks : List Call) → HasWords sig → ((ask : Call) → Has asks ask → IsAsked sig ask) → AreGoodSaids (map (ask_said sig) asks)
asks_good sig [] words each = tt
asks_good sig (ask ∷ asks) words each =
    let one : IsAsked sig ask = each ask (inl refl) in
    ((omega arith, free_query sig ask.number one.query words one.found, good_args ask.args one.query.sorts one.args), asks_good sig asks words (λ other has. each other (inr has)))

-- how many asks there are at most
pool_few : (s : Sort) → length (pool s) ≤ 4
pool_few sort.Bool = omega arith
pool_few sort.Int = omega arith
pool_few sort.Nat = omega arith
pool_few sort.Name = omega arith

times_few : (a b c : ℕ) → a ≤ 4 → b ≤ c → a * b ≤ 4 * c
times_few a b c h k = mul_le a b 4 c h k where
  mul_le : (x y m n : ℕ) → x ≤ m → y ≤ n → x * y ≤ m * n
  mul_le x y m n e f = grind arith

arguments_few : (sorts : List Sort) → length (arguments_of sorts) ≤ 4 ^ length sorts
arguments_few [] = omega arith
arguments_few (s ∷ sorts) =
    subst (λ n. length (arguments_of (s ∷ sorts)) ≤ n) (sym (pow-succ' 4 (length sorts)))
    (subst (λ n. n ≤ 4 * 4 ^ length sorts)
    (sym (flat_length (λ x. map (headed x) (arguments_of sorts)) (length (arguments_of sorts)) (pool s) (λ x. headed_length x (arguments_of sorts))))
    (times_few (length (pool s)) (length (arguments_of sorts)) (4 ^ length sorts) (pool_few s) (arguments_few sorts)))

power_few : (n : ℕ) → n ≤ 4 → 4 ^ n ≤ 256
power_few zero h = omega arith
power_few (suc zero) h = omega arith
power_few (suc (suc zero)) h = omega arith
power_few (suc (suc (suc zero))) h = omega arith
power_few (suc (suc (suc (suc zero)))) h = omega arith
power_few (suc (suc (suc (suc (suc n))))) h = absurd (omega (arith, h))

calls_few : (number : ℕ) (queries : List QuerySig) → All (λ (query : QuerySig). length query.sorts ≤ 4) queries → length (calls_from number (query_sorts queries)) ≤ length queries * 256
calls_few number [] few = omega arith
calls_few number (q ∷ queries) few =
    let here : length q.sorts ≤ 4 = All-head (λ (query : QuerySig). length query.sorts ≤ 4) q queries few in
    let rest = calls_few (number + 1) queries (All-tail (λ (query : QuerySig). length query.sorts ≤ 4) q queries few) in
    let n = length-append (map (call_with number) (arguments_of q.sorts)) (calls_from (number + 1) (query_sorts queries)) in
    let m = length-map (arguments_of q.sorts) (call_with number) in
    let f = arguments_few q.sorts in
    let g = power_few (length q.sorts) here in
    omega (arith, n, m, f, g, rest)

all_few : (sig : Signature) (history : History) → IsSmall sig → IsHistory sig history → length (map (done_said sig) history.ops) + length (asks_said sig) + 4 < LINE_LIMIT
all_few sig history small is =
    let n = length-map history.ops (done_said sig) in
    let m = length-map (asks_of sig) (ask_said sig) in
    let f = is.few in
    let g = calls_few 0 sig.queries small.queries in
    let h = small.few_queries in
    omega (arith, n, m, f, g, h)

history_timely : (sig : Signature) (history : History) → IsHistory sig history → is_timely 0 0 (map stamp_of history.ops) ≡ true
history_timely sig history is = all_at (is_timely 0 0) stamp_lists (map stamp_of history.ops) all_timely (good_has (map stamp_of history.ops) (good_stamps sig history is))

-- the script of a history
pub history_judged : (sig : Signature) (history : History) → HasWords sig → IsSmall sig → IsHistory sig history → (script : Script) × IsScriptText sig (script_text sig history) script
history_judged sig history words small is =
    let fits : All (FitsSignature sig) history.ops = (history_fits sig history is).fits in
    let asked : (ask : Call) → Has (asks_of sig) ask → IsAsked sig ask = is_asked sig in
    let packet : IsFreeWord packet_word = record { bytes = 112 ∷ []; is_word = record { first = refl; each = refl; short = omega arith }; coded = refl; free = refl } in
    let told : List Said = map (done_said sig) history.ops ++ (Ships 2 packet_word ∷ Delivers packet_word 1 ∷ asks_said sig) in
    let good : AreGoodSaids told =
    dones_good sig history.ops (Ships 2 packet_word ∷ Delivers packet_word 1 ∷ asks_said sig) words fits
    ((omega arith, packet), ((omega arith, packet), asks_good sig (asks_of sig) words asked)) in (
      script_in sig (history_said sig history),
      subst (λ (text : List ℕ). IsScriptText sig text (script_in sig (history_said sig history))) (history_printed sig history)
          (saids_text sig (Replicas 2) told (omega arith, good)
          (history_kept sig (map (done_said sig) history.ops) (asks_said sig) (all_few sig history small is) (dones_timely sig history.ops 0 0 fits (history_timely sig history is))
          (asks_called sig (asks_of sig) asked))),
    )

pub text_judged : (sig : Signature) (history : History) (text : List ℕ) → text ≡ script_text sig history → IsSmall sig → HasWords sig → IsHistory sig history
    → (script : Script) × IsScriptText sig text script
text_judged sig history text e small words is =
    let judged = history_judged sig history words small is in
    (judged.0, subst (λ (l : List ℕ). IsScriptText sig l judged.0) (sym e) judged.1)
