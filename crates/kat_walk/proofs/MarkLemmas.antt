-- Where a walk is, as its places are opened, taken and given up.
use Rattle.std.proofs.Common.{◌≡◌, ℕ, suc, ◌+◌, ◌-◌, ◌<◌, ◌≤◌, List, [], ◌∷◌, ◌++◌, map, length, reverse, take, drop, get_or, length-drop, refl, sym, ◌∙◌, ap, subst, arith, append_assoc, append-nil, Result, Ok, Err}
use Rattle.std.specs.Prelude.{IfOk}
use Rattle.std.proofs.Math.Seq.{take-length}
use Rattle.std.proofs.lemmas.List.{length-append, map-append, map_more, reverse-append, reverse-reverse, take_all}
use Rattle.kat_walk.specs.Machines.{Held, Machine}
use Rattle.kat_walk.specs.Marks.{AreOpen, AreTaken, EndsTaken, IsMark, IsTaken, KeepsOpen, LeadsTo, count_left, counts_left, state_on}
use Rattle.kat_walk.specs.Walks.{IsBehind, IsFirst, IsReady, held, opened, stack_of, top_left, with_taken, without_top}
use Rattle.kat_walk.specs.declared.turns.Frame.{Frame}
use Rattle.kat_walk.proofs.Stacks.{stack_snoc}

-- what is taken is open
pub taken_open : {S T : Type 0} (m : Machine S T) (s : S) (stack : List (Held S T)) → AreTaken m s stack → AreOpen m s stack
taken_open m s [] a = tt
taken_open m s (h ∷ below) a =
    (a.0.state, (a.0.earlier ++ h.chosen ∷ [], ap m.allowed a.0.state ∙ a.0.all ∙ sym (append_assoc a.0.earlier (h.chosen ∷ []) h.left)), a.1)

-- the place at which a walk begins
pub first_open : {S T : Type 0} (m : Machine S T) (s : S) (stack : List (Held S T)) → IsFirst m s stack → AreOpen m s stack
first_open m s [] a = tt
first_open m s (h ∷ below) a =
    subst (λ (l : List (Held _ _)). AreOpen m s (h ∷ l)) (sym a.2) (a.0, ([], ap m.allowed a.0 ∙ sym a.1), tt)

-- the last place is given up
pub given_open : {S T : Type 0} (m : Machine S T) (s : S) (old new : List (Held S T)) → new ≡ without_top old → AreOpen m s old → AreOpen m s new
given_open m s [] new e a = subst (λ (l : List (Held _ _)). AreOpen m s l) (sym e) tt
given_open m s (h ∷ below) new e a = subst (λ (l : List (Held _ _)). AreOpen m s l) (sym e) (taken_open m s below a.2)

-- the first token that is left is taken
left_first : {T : Type 0} (left : List T) (t : T) (ts : List T) → left ≡ t ∷ ts → left ≡ t ∷ drop 1 left
left_first left t ts e = e ∙ ap (λ (l : List _). t ∷ drop 1 l) (sym e)

pub token_taken : {S T : Type 0} (m : Machine S T) (s : S) (old new : List (Held S T)) (t : T) (ts : List T) → top_left old ≡ t ∷ ts → new ≡ with_taken t old → AreOpen m s old → AreTaken m s new
token_taken m s [] new t ts e n a = absurd cc
token_taken m s (h ∷ below) new t ts e n a =
    subst (λ (l : List (Held _ _)). AreTaken m s l) (sym n) (
      record {
        state = a.0;
        earlier = a.1.0;
        all = ap m.allowed (sym a.0) ∙ a.1.1 ∙ ap (λ (l : List _). a.1.0 ++ l) (left_first h.left t ts e);
      },
      a.2,
    )

-- a place opens after a token
pub place_open : {S T : Type 0} (m : Machine S T) (s b : S) (old new : List (Held S T)) (t : T) (ts : List T) → IsBehind m t old b → top_left old ≡ t ∷ ts → new ≡ opened m b t ∷ with_taken t old
    → AreOpen m s old → AreOpen m s new
place_open m s b [] new t ts is e n a = absurd cc
place_open m s b (h ∷ below) new t ts is e n a =
    subst (λ (l : List (Held _ _)). AreOpen m s l) (sym n) (is, ([], refl), token_taken m s (h ∷ below) (with_taken t (h ∷ below)) t ts e refl a)

-- a list is given
pub ends_taken : {S T : Type 0} (m : Machine S T) (most : ℕ) (old mid new : List (Held S T)) (t : T) → KeepsOpen m old mid → IsReady m most mid t → new ≡ with_taken t mid → EndsTaken m old new
ends_taken m most old mid new t keeps ready n = λ s a. token_taken m s mid new t ready.first.0 ready.first.1 n (keeps s a)

pub ends_open : {S T : Type 0} (m : Machine S T) (most : ℕ) (old mid new : List (Held S T)) (t : T) → KeepsOpen m old mid → IsReady m most mid t → new ≡ with_taken t mid → KeepsOpen m old new
ends_open m most old mid new t keeps ready n = λ s a. taken_open m s new (ends_taken m most old mid new t keeps ready n s a)

-- the numbers of a mark lead to where the walk was
leads_on : {S T : Type 0} (m : Machine S T) (s : S) (stack : List (Held S T)) (more : List ℕ) (whole : List (Held S T)) → AreTaken m s stack
    → LeadsTo m (state_on m s stack) more stack whole → LeadsTo m s (counts_left stack ++ more) [] whole
leads_on m s [] more whole a l = l
leads_on m s (h ∷ below) more whole a l =
    let counts : counts_left (h ∷ below) ++ more ≡ counts_left below ++ count_left h ∷ more =
    ap (λ (c : List ℕ). c ++ more) (reverse-append (count_left h ∷ []) (map count_left below)) ∙ append_assoc (counts_left below) (count_left h ∷ []) more in
    subst (λ (c : List ℕ). LeadsTo m s c [] whole) (sym counts)
    (leads_on m s below (count_left h ∷ more) whole a.1
    (h, a.0, refl, subst (λ (p : _). LeadsTo m (m.step p h.chosen) more (h ∷ below) whole) a.0.state l))

pub mark_leads : {S T : Type 0} (m : Machine S T) (s : S) (counts : List ℕ) (stack : List (Held S T)) → IsMark m s counts stack → LeadsTo m s counts [] stack
mark_leads m s counts stack k =
    subst (λ (c : List ℕ). LeadsTo m s c [] stack) (append-nil (counts_left stack) ∙ sym k.counts) (leads_on m s stack [] stack k.taken refl)

-- how many tokens may follow at a place, and the one that was chosen
taken_long : {S T : Type 0} (m : Machine S T) (s : S) (h : Held S T) (tokens : List T) (a : IsTaken m s h) → tokens ≡ m.allowed s → length tokens ≡ length a.earlier + 1 + count_left h
taken_long m s h tokens a e =
    let n : length (a.earlier ++ h.chosen ∷ h.left) ≡ length a.earlier + length (h.chosen ∷ h.left) = length-append a.earlier (h.chosen ∷ h.left) in
    ap length (e ∙ a.all) ∙ n ∙ omega arith

pub place_there : {S T : Type 0} (m : Machine S T) (s : S) (n : ℕ) (more : List ℕ) (below : List (Held S T)) (tokens : List T) → tokens ≡ m.allowed s
    → ((stack : List (Held S T)) × LeadsTo m s (n ∷ more) below stack) → n + 1 ≤ length tokens
place_there m s n more below tokens e l = let long = taken_long m s l.1.0 tokens l.1.1 e in let k = l.1.2 in omega (arith, long, k)

get_front : {T : Type 0} (xs ys : List T) (y d : T) → get_or (xs ++ y ∷ ys) (length xs) d ≡ y
get_front [] ys y d = refl
get_front (x ∷ xs) ys y d = get_front xs ys y d

drop_front : {T : Type 0} (xs ys : List T) (y : T) → drop (length xs + 1) (xs ++ y ∷ ys) ≡ ys
drop_front [] ys y = refl
drop_front (x ∷ xs) ys y = let e : suc (length xs) + 1 ≡ suc (length xs + 1) = omega arith in ap (λ n. drop n (x ∷ xs ++ y ∷ ys)) e ∙ drop_front xs ys y

place_is : {S T : Type 0} (m : Machine S T) (s : S) (h : Held S T) (n at : ℕ) (tokens : List T) (c d : T) → IsTaken m s h → count_left h ≡ n → tokens ≡ m.allowed s → at ≡ length tokens - n
    → c ≡ get_or tokens (at - 1) d → record { state = s; chosen = c; left = drop at tokens } ≡ h
place_is {S} {T} m s h n at tokens c d a k e is f =
    let long = taken_long m s h tokens a e in
    let one : at ≡ length a.earlier + 1 = omega (arith, long, k, is) in
    let before : at - 1 ≡ length a.earlier = omega (arith, one) in
    let same : c ≡ h.chosen = f ∙ ap (λ l. get_or l (at - 1) d) (e ∙ a.all) ∙ ap (λ i. get_or (a.earlier ++ h.chosen ∷ h.left) i d) before ∙ get_front a.earlier h.left h.chosen d in
    let rest : drop at tokens ≡ h.left = ap (drop at) (e ∙ a.all) ∙ ap (λ i. drop i (a.earlier ++ h.chosen ∷ h.left)) one ∙ drop_front a.earlier h.left h.chosen in
    let state : s ≡ h.state = sym a.state in
    λ i. record { state = state i; chosen = same i; left = rest i }

-- one place more
pub leads_more : {S T : Type 0} (m : Machine S T) (s b : S) (n at : ℕ) (more : List ℕ) (frames : List (Frame S T)) (f : Frame S T) (d : T) (stack : List (Held S T)) → f.state ≡ s → f.tokens.items ≡ m.allowed s
    → f.at ≡ length f.tokens.items - n → f.chosen ≡ get_or f.tokens.items (f.at - 1) d → b ≡ m.step s f.chosen → LeadsTo m s (n ∷ more) (stack_of frames) stack
    → LeadsTo m b more (stack_of (frames ++ f ∷ [])) stack
leads_more {S} {T} m s b n at more frames f d stack st e is c to l =
    let h = l.0 in
    let place : held f ≡ h = (λ i. record { state = st i; chosen = f.chosen; left = drop f.at f.tokens.items }) ∙ place_is m s h n f.at f.tokens.items f.chosen d l.1 l.2 e is c in
    let behind : m.step s h.chosen ≡ b = ap (λ (g : Held S T). m.step s g.chosen) (sym place) ∙ sym to in
    let below : h ∷ stack_of frames ≡ stack_of (frames ++ f ∷ []) = ap (λ (g : Held S T). g ∷ stack_of frames) (sym place) ∙ sym (stack_snoc frames f) in
    subst (λ (p : List (Held S T)). LeadsTo m b more p stack) below (subst (λ (q : S). LeadsTo m q more (h ∷ stack_of frames) stack) behind l.3)

-- the same of a slice of numbers that isn't empty
pub leads_slice : {S T : Type 0} (m : Machine S T) (s b : S) (counts : List ℕ) (frames new : List (Frame S T)) (f : Frame S T) (d : T) (stack : List (Held S T)) → 1 ≤ length counts → f.state ≡ s
    → f.tokens.items ≡ m.allowed s → f.at ≡ length f.tokens.items - get_or counts 0 0 → f.chosen ≡ get_or f.tokens.items (f.at - 1) d → b ≡ m.step s f.chosen → new ≡ frames ++ f ∷ []
    → LeadsTo m s counts (stack_of frames) stack → LeadsTo m b (take (length counts - 1) (drop 1 counts)) (stack_of new) stack
leads_slice m s b [] frames new f d stack some st e is c to n l = absurd (omega (arith, some))
leads_slice {S} {T} m s b (k ∷ more) frames new f d stack some st e is c to n l =
    let rest : take (length (k ∷ more) - 1) more ≡ more = ap (λ i. take i more) (omega arith) ∙ take-length more in
    subst (λ (fs : List (Frame S T)). LeadsTo m b (take (length (k ∷ more) - 1) more) (stack_of fs) stack) (sym n)
    (subst (λ (ks : List ℕ). LeadsTo m b ks (stack_of (frames ++ f ∷ [])) stack) (sym rest)
    (leads_more m s b k f.at more frames f d stack st e is c to l))

pub over_ok : {A E : Type 0} (r : Result A E) (P Q : A → Type 0) → IfOk r P → ((x : A) → P x → Q x) → IfOk r Q
over_ok (Ok x) P Q p f = f x p
over_ok (Err e) P Q p f = tt

-- the numbers of the places
abbrev pub frame_count : {S T : Type 0} → Frame S T → ℕ
frame_count f = length (drop f.at f.tokens.items)

abbrev pub frame_counts : {S T : Type 0} → List (Frame S T) → List ℕ
frame_counts frames = map frame_count frames

counts_are : {S T : Type 0} (frames : List (Frame S T)) → counts_left (stack_of frames) ≡ frame_counts frames
counts_are frames =
    ap reverse (map_reverse (map held frames)) ∙ reverse-reverse (map count_left (map held frames)) ∙ held_counts frames where
      map_reverse : {S T : Type 0} (hs : List (Held S T)) → map count_left (reverse hs) ≡ reverse (map count_left hs)
      map_reverse [] = refl
      map_reverse (h ∷ hs) =
          ap (map count_left) (reverse-append (h ∷ []) hs) ∙ map-append count_left (reverse hs) (h ∷ []) ∙ ap (λ l. l ++ count_left h ∷ []) (map_reverse hs)
          ∙ sym (reverse-append (count_left h ∷ []) (map count_left hs))

      held_counts : {S T : Type 0} (fs : List (Frame S T)) → map count_left (map held fs) ≡ frame_counts fs
      held_counts [] = refl
      held_counts (f ∷ fs) = ap (λ l. count_left (held f) ∷ l) (held_counts fs)

pub counts_more : {S T : Type 0} (fs : List (Frame S T)) (i n : ℕ) (f d : Frame S T) (counts new : List ℕ) → i < length fs → f ≡ get_or fs i d → counts ≡ frame_counts (take i fs)
    → n ≡ length f.tokens.items - f.at → new ≡ counts ++ n ∷ [] → new ≡ frame_counts (take (i + 1) fs)
counts_more fs i n f d counts new lt is e k at =
    at ∙ ap (λ (c : List ℕ). c ++ n ∷ []) e ∙ ap (λ (j : ℕ). frame_counts (take i fs) ++ j ∷ []) (k ∙ sym (length-drop f.at f.tokens.items) ∙ ap frame_count is) ∙ sym (map_more frame_count fs i d lt)

pub counts_all : {S T : Type 0} (fs : List (Frame S T)) (i : ℕ) (counts : List ℕ) → length fs ≤ i → counts ≡ frame_counts (take i fs) → counts ≡ counts_left (stack_of fs)
counts_all fs i counts past e = e ∙ ap frame_counts (take_all i fs past) ∙ sym (counts_are fs)
