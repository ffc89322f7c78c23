-- The list of open places, the last one first, when the last one changes.
use Rattle.std.proofs.Common.{◌≡◌, ℕ, suc, ◌+◌, ◌-◌, ◌<◌, ◌≤◌, List, [], ◌∷◌, ◌++◌, map, length, length-drop, add-one, zero, reverse, take, drop, get_or, refl, sym, ◌∙◌, ap, arith, subst}
use Rattle.std.proofs.Math.ListN.{set, length-set}
use Rattle.std.proofs.Math.Seq.{take-suc, take-suc-set, take-length}
use Rattle.std.proofs.lemmas.List.{map-append, reverse-append, drop-drop, get_or-take, length-reverse, length-map, length-take-le, map-set, set-append_left}
use Rattle.kat_walk.specs.Machines.{Held, Machine, coming, path, unroll}
use Rattle.kat_walk.specs.Walks.{below_taken, held, stack_of, top_left, with_taken, without_top}
use Rattle.kat_walk.specs.declared.turns.Frame.{Frame}

pub stack_snoc : {S T : Type 0} (fs : List (Frame S T)) (f : Frame S T) → stack_of (fs ++ f ∷ []) ≡ held f ∷ stack_of fs
stack_snoc fs f = ap reverse (map-append held fs (f ∷ [])) ∙ reverse-append (map held fs) (held f ∷ [])

last_split : {X : Type 0} (xs : List X) (k : ℕ) (d : X) → suc k ≡ length xs → xs ≡ take k xs ++ get_or xs k d ∷ []
last_split xs k d e = sym (take-length xs) ∙ ap (λ n. take n xs) (sym e) ∙ take-suc xs k d (omega arith)

last_set : {X : Type 0} (xs : List X) (k : ℕ) (x : X) → suc k ≡ length xs → set xs k x ≡ take k xs ++ x ∷ []
last_set xs k x e =
    sym (take-length (set xs k x)) ∙ ap (λ n. take n (set xs k x)) (length-set xs k x ∙ sym e) ∙ take-suc-set xs k x (omega arith)

drop_one : {T : Type 0} (xs : List T) (n : ℕ) → drop (n + 1) xs ≡ drop 1 (drop n xs)
drop_one xs n = sym (drop-drop 1 n xs)

-- a place with its first token left taken
abbrev pub taking : {S T : Type 0} → T → Frame S T → Frame S T
taking token f = record { state = f.state; chosen = token; tokens = f.tokens; at = f.at + 1 }

taken_there : {S T : Type 0} (fs : List (Frame S T)) (k : ℕ) (token : T) (d : Frame S T) → suc k ≡ length fs
    → stack_of (set fs k (taking token (get_or fs k d))) ≡ with_taken token (stack_of fs)
taken_there fs k token d e =
    let f = get_or fs k d in
    ap stack_of (last_set fs k (taking token f) e) ∙ stack_snoc (take k fs) (taking token f)
    ∙ ap (λ l. record { state = f.state; chosen = token; left = l } ∷ stack_of (take k fs)) (drop_one f.tokens.items f.at)
    ∙ sym (ap (with_taken token) (ap stack_of (last_split fs k d e) ∙ stack_snoc (take k fs) f))

pub taken_last : {S T : Type 0} (fs : List (Frame S T)) (k : ℕ) (token : T) (f d : Frame S T) → suc k ≡ length fs → f ≡ get_or fs k d
    → stack_of (set fs k (taking token f)) ≡ with_taken token (stack_of fs)
taken_last fs k token f d e is = ap (λ x. stack_of (set fs k (taking token x))) is ∙ taken_there fs k token d e

pub taken_below : {S T : Type 0} (fs : List (Frame S T)) (k : ℕ) (token : T) (f d : Frame S T) → suc (suc k) ≡ length fs → f ≡ get_or fs k d
    → stack_of (set fs k (taking token f)) ≡ below_taken token (stack_of fs)
taken_below fs k token f d e is =
    let front = take (suc k) fs in
    let top = get_or fs (suc k) d in
    let whole : fs ≡ front ++ top ∷ [] = last_split fs (suc k) d e in
    let long : length front ≡ suc k = length-take-le (suc k) fs (omega (arith, e)) in
    ap (λ l. stack_of (set l k (taking token f))) whole
    ∙ ap stack_of (set-append_left front (top ∷ []) k (taking token f) (omega (arith, long)))
    ∙ stack_snoc (set front k (taking token f)) top
    ∙ ap (λ l. held top ∷ l) (taken_last front k token f d (sym long) (is ∙ sym (get_or-take (suc k) fs k d (omega arith))))
    ∙ sym (ap (below_taken token) (ap stack_of whole ∙ stack_snoc front top))

pub same_depth : {S T : Type 0} (fs : List (Frame S T)) → length (stack_of fs) ≡ length fs
same_depth fs = length-reverse (map held fs) ∙ length-map fs held

path_snoc : {S T : Type 0} (hs : List (Held S T)) (h : Held S T) (w : List T) → unroll (path (hs ++ h ∷ [])) w ≡ h.chosen ∷ unroll (path hs) w
path_snoc [] h w = refl
path_snoc (g ∷ hs) h w = path_snoc hs h (g.chosen ∷ w)

chosen_of : {S T : Type 0} (hs : List (Held S T)) → unroll (path (reverse hs)) [] ≡ map (λ h. h.chosen) hs
chosen_of [] = refl
chosen_of (h ∷ hs) =
    ap (λ l. unroll (path l) []) (reverse-append (h ∷ []) hs) ∙ path_snoc (reverse hs) h [] ∙ ap (λ l. h.chosen ∷ l) (chosen_of hs)

chosen_held : {S T : Type 0} (fs : List (Frame S T)) → map (λ (h : Held S T). h.chosen) (map held fs) ≡ map (λ (f : Frame S T). f.chosen) fs
chosen_held [] = refl
chosen_held (f ∷ fs) = ap (λ l. f.chosen ∷ l) (chosen_held fs)

pub word_taken : {S T : Type 0} (fs : List (Frame S T)) → unroll (path (stack_of fs)) [] ≡ map (λ (f : Frame S T). f.chosen) fs
word_taken fs = chosen_of (map held fs) ∙ chosen_held fs

word_at : {S T : Type 0} (fs : List (Frame S T)) (k : ℕ) (token : T) (d : Frame S T) → suc k ≡ length fs
    → unroll (path (with_taken token (stack_of fs))) [] ≡ set (map (λ (f : Frame S T). f.chosen) fs) k token
word_at fs k token d e =
    ap (λ l. unroll (path l) []) (sym (taken_there fs k token d e)) ∙ word_taken (set fs k (taking token (get_or fs k d)))
    ∙ map-set (λ (f : Frame _ _). f.chosen) fs k (taking token (get_or fs k d))

pub word_with : {S T : Type 0} (fs : List (Frame S T)) (n : ℕ) (tokens : List T) (token : T) → 0 < length fs → tokens ≡ map (λ (f : Frame S T). f.chosen) fs → n ≡ length tokens
    → set tokens (n - 1) token ≡ unroll (path (with_taken token (stack_of fs))) []
word_with [] n tokens token k e l = absurd (omega arith)
word_with (f ∷ fs) n tokens token k e l =
    let long : n ≡ suc (length fs) = l ∙ ap length e ∙ length-map (f ∷ fs) (λ (g : Frame _ _). g.chosen) in
    ap (λ (ts : List _). set ts (n - 1) token) e ∙ sym (word_at (f ∷ fs) (n - 1) token f (omega (arith, long)))

pub left_below : {S T : Type 0} (fs : List (Frame S T)) (k : ℕ) (f d : Frame S T) → suc (suc k) ≡ length fs → f ≡ get_or fs k d → 0 < length (top_left (without_top (stack_of fs))) → f.at < length f.tokens.items
left_below fs k f d e is h =
    let front = take (suc k) fs in
    let top = get_or fs (suc k) d in
    let long : length front ≡ suc k = length-take-le (suc k) fs (omega (arith, e)) in
    let g : get_or front k d ≡ f = get_or-take (suc k) fs k d (omega arith) ∙ sym is in
    let two : stack_of fs ≡ held top ∷ held f ∷ stack_of (take k front) =
    ap stack_of (last_split fs (suc k) d e) ∙ stack_snoc front top
    ∙ ap (λ l. held top ∷ l) (ap stack_of (last_split front k d (sym long)) ∙ stack_snoc (take k front) (get_or front k d) ∙ ap (λ x. held x ∷ stack_of (take k front)) g) in
    let some : 0 < length (drop f.at f.tokens.items) = subst (λ (l : List (Held _ _)). 0 < length (top_left (without_top l))) two h in
    omega (arith, some, length-drop f.at f.tokens.items)
