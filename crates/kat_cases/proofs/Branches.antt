-- Steps of the walk's code on the stack of branches, against the rules of the walk.
use Rattle.std.proofs.Common.{◌≡◌, ℕ, zero, suc, ◌+◌, ◌*◌, ◌<◌, ◌≤◌, ◌^◌, ℤ, pos, negsuc, neg_ℤ, unsigned_abs, List, [], ◌∷◌, ◌++◌, length, map, reverse, take, get_or, Bool, true, false, ◌||◌, if◌then◌else◌, Option, Result, Ok, Err, IfOk, Vec, refl, sym, ap, ◌∙◌, subst, arith, Contains, append_assoc}
use Rattle.std.specs.Global.{Global}
use Rattle.kat_clause.specs.Clauses.{AreAmong}
use Rattle.kat_clause.specs.Known.{Known, AreUpTo}
use Rattle.kat_form.specs.Encodings.{Encoding, IsFit, IsLiteral}
use Rattle.kat_refute.specs.Lines.{Line, added}
use Rattle.kat_cases.specs.Nodes.{Setting, End, IsJudged, Judgement}
use Rattle.kat_cases.specs.Nodes.End.{spent}
use Rattle.kat_cases.specs.Nodes.Judgement.{leaf, ends, splits}
use Rattle.kat_cases.proofs.FreeVariables.{split_falls}
use Rattle.kat_cases.specs.Walks.{Walks, WalkGives, Shrinks, own, core_line, joined, has_literal}
use Rattle.kat_cases.specs.Walks.Outcome.{core, ended}
use Rattle.kat_cases.specs.Walks.Answer.{refuted, stopped}
use Rattle.kat_cases.specs.Walks.Walks.{ends_here, is_spent, is_leaf, first_ends, first_serves, second_ends, second_serves, both}
use Rattle.kat_cases.specs.Frees.{free, count_from, is_free}
use Rattle.std.proofs.lemmas.List.{take_all, take_more, append-nil}
use Rattle.kat_cases.specs.declared.stack.Branch.{Branch}
use Rattle.kat_cases.proofs.Paths.{map-append, map-reverse, in_reverse}
use Rattle.kat_cases.specs.Stacks.{Step, step_of, path_of, literal_of, Progress, Stands, HasCore, AreSmall, Keeps}
use Rattle.kat_cases.specs.Stacks.Step.{first_of, second_of}
use Rattle.kat_resolution.proofs.Members.{IsWithin, behind, in_nothing, filter_within}
use Rattle.kat_cases.proofs.Members.{in_map}
use Rattle.kat_cases.proofs.LeafCores.{shrinks_within, without}
use Rattle.kat_cases.proofs.Acceptances.{AreLiterals, literals_more, split_is_literal, within_nil, nothing_in}

-- an end of a node is an end of the first node
pub ended_below : (s : Setting) (effort : ℕ) (steps : List Step) (left : ℕ) (lines : List Line) (end : End) → Stands s effort steps left lines → Walks s (path_of steps) left (ended end) → Walks s [] effort (ended end)
ended_below s effort [] left lines end (e, f) w = let P : ℕ → Type 0 = λ n. Walks s [] n (ended end) in subst P e w
ended_below s effort (first_of l ∷ steps) left lines end (j, st) w = ended_below s effort steps left lines end st (first_ends j w)
ended_below s effort (second_of m c ∷ steps) left lines end (before, front, t, st) w =
    let P : ℤ → Type 0 = λ x. Walks s (x ∷ path_of steps) left (ended end) in
    ended_below s effort steps before front end st (second_ends t.judged t.walked t.used (subst P t.opposite w))

-- a leaf has its core
pub leaf_core : (s : Setting) (effort : ℕ) (steps : List Step) (left behind : ℕ) (lines : List Line) (line : Option Line) (c : List ℤ) → Stands s effort steps left lines → IsJudged s (path_of steps) (leaf line) → left ≡ suc behind
    → Shrinks (s.encoding.clauses ++ added (own line)) (path_of steps) [] c → HasCore s effort (record { steps = steps; lines = lines ++ (own line ++ core_line c ∷ []); left = behind }) c
leaf_core s effort steps left behind lines line c st j e shrinks =
    let P : ℕ → Type 0 = λ n. Walks s (path_of steps) n (core c (own line ++ core_line c ∷ []) behind) in
    record { entered = left; front = lines; more = own line ++ core_line c ∷ []; recorded = refl; stands = st; walked = subst P (sym e) (is_leaf j shrinks) }

-- a first branch is left
pub first_unused : (s : Setting) (effort : ℕ) (l : ℤ) (steps : List Step) (lines : List Line) (left : ℕ) (c : List ℤ) → has_literal l c ≡ false → HasCore s effort (record { steps = first_of l ∷ steps; lines = lines; left = left }) c → HasCore s effort (record { steps = steps; lines = lines; left = left }) c
first_unused s effort l steps lines left c none h = record { entered = h.entered; front = h.front; more = h.more; recorded = h.recorded; stands = h.stands.1; walked = first_serves h.stands.0 h.walked none }

pub first_used : (s : Setting) (effort : ℕ) (l m : ℤ) (steps : List Step) (lines : List Line) (left : ℕ) (c : List ℤ) → has_literal l c ≡ true → m ≡ neg_ℤ l → HasCore s effort (record { steps = first_of l ∷ steps; lines = lines; left = left }) c → Stands s effort (second_of m c ∷ steps) left lines
first_used s effort l m steps lines left c used e h =
    (h.entered, h.front, record { split = l; opposite = e; more = h.more; recorded = h.recorded; judged = h.stands.0; walked = h.walked; used = used }, h.stands.1)

-- a second branch is left
recorded_on : (lines front more last : List Line) (first : List Line) → lines ≡ front ++ last → front ≡ first ++ more → lines ≡ first ++ (more ++ last)
recorded_on lines front more last first e f = e ∙ ap (λ x. x ++ last) f ∙ append_assoc first more last

pub second_unused : (s : Setting) (effort : ℕ) (m : ℤ) (f : List ℤ) (steps : List Step) (lines : List Line) (left : ℕ) (d : List ℤ) → has_literal m d ≡ false → HasCore s effort (record { steps = second_of m f ∷ steps; lines = lines; left = left }) d → HasCore s effort (record { steps = steps; lines = lines; left = left }) d
second_unused s effort m f steps lines left d none h =
    let t = h.stands.2 in
    let P : ℤ → Type 0 = λ x. Walks s (x ∷ path_of steps) h.entered (core d h.more left) in
    let Q : ℤ → Type 0 = λ x. has_literal x d ≡ false in
    record {
      entered = h.stands.0;
      front = h.stands.1;
      more = t.more ++ h.more;
      recorded = recorded_on lines h.front t.more h.more h.stands.1 h.recorded t.recorded;
      stands = h.stands.3;
      walked = second_serves t.judged t.walked t.used (subst P t.opposite h.walked) (subst Q t.opposite none);
    }

pub second_both : (s : Setting) (effort : ℕ) (m : ℤ) (f : List ℤ) (steps : List Step) (lines : List Line) (left : ℕ) (d : List ℤ) → has_literal m d ≡ true → HasCore s effort (record { steps = second_of m f ∷ steps; lines = lines; left = left }) d
    → HasCore s effort (record { steps = steps; lines = lines ++ core_line (joined (path_of steps) f d) ∷ []; left = left }) (joined (path_of steps) f d)
second_both s effort m f steps lines left d used h =
    let t = h.stands.2 in
    let j = joined (path_of steps) f d in
    let P : ℤ → Type 0 = λ x. Walks s (x ∷ path_of steps) h.entered (core d h.more left) in
    let Q : ℤ → Type 0 = λ x. has_literal x d ≡ true in
    record {
      entered = h.stands.0;
      front = h.stands.1;
      more = t.more ++ h.more ++ core_line j ∷ [];
      recorded = ap (λ x. x ++ core_line j ∷ []) (recorded_on lines h.front t.more h.more h.stands.1 h.recorded t.recorded) ∙ append_assoc h.stands.1 (t.more ++ h.more) (core_line j ∷ []);
      stands = h.stands.3;
      walked = both t.judged t.walked t.used (subst P t.opposite h.walked) (subst Q t.opposite used);
    }

-- a core is within its node's path
pub core_within : {s : Setting} {path : List ℤ} {left behind : ℕ} {c : List ℤ} {lines : List Line} → Walks s path left (core c lines behind) → IsWithin c path
core_within {s} {path} {left} {behind} {c} (is_leaf j shrinks) = within_nil path c (shrinks_within shrinks)
core_within {s} {path} {left} {behind} {c} (first_serves {l = l} j u h) = without l path c (core_within u) h
core_within {s} {path} {left} {behind} {c} (second_serves {l = l} j u h x g) = without (neg_ℤ l) path c (core_within x) g
core_within {s} {path} (both {c = c} {d = d} j u h x g) = filter_within (λ k. has_literal k c || has_literal k d) path

-- the first node has its core
pub refutes : (s : Setting) (effort : ℕ) (at : Progress) (c : List ℤ) → at.steps ≡ [] → HasCore s effort at c → WalkGives s effort (refuted at.lines)
refutes s effort at c none h =
    let P : List Step → Type 0 = λ steps. Stands s effort steps h.entered h.front in
    let Q : List Step → Type 0 = λ steps. Walks s (path_of steps) h.entered (core c h.more at.left) in
    let st : (h.entered ≡ effort) × (h.front ≡ []) = subst P none h.stands in
    let w : Walks s [] h.entered (core c h.more at.left) = subst Q none h.walked in
    let empty : c ≡ [] = nothing_in c (core_within w) in
    let lines : h.more ≡ at.lines = sym (h.recorded ∙ ap (λ x. x ++ h.more) st.1) in
    let R : ℕ → Type 0 = λ n. Walks s [] n (core [] at.lines at.left) in
    let S : List ℤ → Type 0 = λ x. Walks s [] h.entered (core x at.lines at.left) in
    let T : List Line → Type 0 = λ x. Walks s [] h.entered (core c x at.left) in
    (at.left, subst R st.0 (subst S empty (subst T lines w)))

-- the literals of the branches are the encoding's
opposite_of : (n : ℕ) (m l : ℤ) → m ≡ neg_ℤ l → IsLiteral n l → IsLiteral n m
opposite_of n m l e h = let P : ℤ → Type 0 = IsLiteral n in subst P (sym e) (negated n l h)
  where
    negated : (n : ℕ) (x : ℤ) → IsLiteral n x → IsLiteral n (neg_ℤ x)
    negated n (pos zero) h = h
    negated n (pos (suc m)) h = h
    negated n (negsuc m) h = h

pub stack_literals : (s : Setting) → IsFit s.encoding → (effort : ℕ) (steps : List Step) (left : ℕ) (lines : List Line) → Stands s effort steps left lines → AreLiterals s.encoding (path_of steps)
stack_literals s fit effort [] left lines st = λ k has. absurd (in_nothing k has)
stack_literals s fit effort (first_of l ∷ steps) left lines (j, st) = literals_more s.encoding (path_of steps) l (stack_literals s fit effort steps left lines st) (split_is_literal s fit (path_of steps) l j)
stack_literals s fit effort (second_of m c ∷ steps) left lines (before, front, t, st) =
    literals_more s.encoding (path_of steps) m (stack_literals s fit effort steps before front st) (opposite_of (length s.encoding.senses) m t.split t.opposite (split_is_literal s fit (path_of steps) t.split t.judged))

-- no more variables are free than there are
bit_most : (b : Bool) → (if b then 1 else 0) ≤ 1
bit_most true = omega arith
bit_most false = omega arith

count_most : (test : ℕ → Bool) (v n : ℕ) → count_from test v n ≤ n
count_most test v zero = omega arith
count_most test v (suc n) = let a = bit_most (test v) in let b = count_most test (suc v) n in omega (arith, a, b)

pub free_most : (s : Setting) (path : List ℤ) → free s path ≤ length s.encoding.senses
free_most s path = count_most (is_free path) 1 (length s.encoding.senses)

-- literals up to a bound
pub up_to_tail : (g : ℕ) (l : ℤ) (path : List ℤ) → AreUpTo g (l ∷ path) → AreUpTo g path
up_to_tail g l path h k has = h k (behind l k path has)

abs_opposite : (x : ℤ) → unsigned_abs (neg_ℤ x) ≡ unsigned_abs x
abs_opposite (pos zero) = refl
abs_opposite (pos (suc n)) = refl
abs_opposite (negsuc n) = refl

pub small_within : (c path : List ℤ) → IsWithin c path → AreSmall path → AreSmall c
small_within c path within h k has = h k (within k has)

pub small_joined : (path c d : List ℤ) → AreSmall path → AreSmall (joined path c d)
small_joined path c d h k has = h k (filter_within (λ x. has_literal x c || has_literal x d) path k has)

-- the branches' literals are the path, the last one first
pub path_back : (literals : List ℤ) (branches items : List Branch) (n : ℕ) (now : List Step) → literals ≡ map literal_of (map step_of (take n items)) → length items ≤ n → items ≡ branches → reverse (map step_of branches) ≡ now → reverse literals ≡ path_of now
path_back literals branches items n now e h is view =
    ap reverse (e ∙ ap (λ bs. map literal_of (map step_of bs)) (take_all n items h ∙ is)) ∙ sym (map-reverse literal_of (map step_of branches)) ∙ ap path_of view

pub branch_on : (branches items : List Branch) (now : List Step) (i : ℕ) (branch : Branch) → i < length items → branch ≡ get_or items i branch → items ≡ branches → reverse (map step_of branches) ≡ now → Contains (path_of now) (literal_of (step_of branch))
branch_on branches items now i branch h at is view =
    let P : List Branch → Type 0 = λ bs. Contains bs branch in
    let has : Contains branches branch = subst P is (i, h, sym at) in
    let Q : List Step → Type 0 = λ steps. Contains (path_of steps) (literal_of (step_of branch)) in
    subst Q view (in_map literal_of (reverse (map step_of branches)) (step_of branch) (in_reverse (map step_of branches) (step_of branch) (in_map step_of branches branch has)))

-- one branch more is assumed
pub taken_more : (items : List Branch) (i : ℕ) (branch : Branch) (assumed new : List ℤ) (l : ℤ) → i < length items → branch ≡ get_or items i branch → l ≡ literal_of (step_of branch) → new ≡ assumed ++ l ∷ [] → assumed ≡ map literal_of (map step_of (take i items)) → new ≡ map literal_of (map step_of (take (i + 1) items))
taken_more items i branch assumed new l h at is push before =
    push ∙ ap (λ xs. xs ++ l ∷ []) before ∙ ap (λ x. map literal_of (map step_of (take i items)) ++ x ∷ []) (is ∙ ap (λ b. literal_of (step_of b)) at)
    ∙ sym (ap (λ bs. map literal_of (map step_of bs)) (take_more items i branch h) ∙ ap (map literal_of) (map-append step_of (take i items) (get_or items i branch ∷ [])) ∙ map-append literal_of (map step_of (take i items)) (step_of (get_or items i branch) ∷ []))

pub core_small : (clauses : List (List ℤ)) (path c : List ℤ) (greatest : ℕ) → Shrinks clauses path [] c → AreUpTo greatest path → greatest ≤ 2 ^ 28 → AreSmall c
core_small clauses path c greatest h all limit k has = let below : unsigned_abs k ≤ greatest = all k (within_nil path c (shrinks_within h) k has) in omega (arith, below, limit)

-- nothing is added after them
pub with_nothing : {E : Type 0} (r : Result (Vec ℤ Global) E) (clauses : List (List ℤ)) (path : List ℤ) → IfOk r (λ c. (F : List (List ℤ)) → AreAmong clauses F → AreAmong F clauses → Shrinks F path [] c.items)
    → IfOk r (λ c. (F : List (List ℤ)) → AreAmong clauses F → AreAmong F clauses → Shrinks (F ++ []) path [] c.items)
with_nothing (Ok v) clauses path h = λ F a b. let P : List (List ℤ) → Type 0 = λ G. Shrinks G path [] v.items in subst P (sym (append-nil F)) (h F a b)
with_nothing (Err e) clauses path h = h

pub ok_always : {X E : Type 0} (r : Result X E) (P : Type 0) → P → IfOk r (λ x. P)
ok_always (Ok v) P p = p
ok_always (Err e) P p = tt

pub more_nothing : (now : Progress) → now ≡ record { steps = now.steps; lines = now.lines ++ []; left = now.left }
more_nothing now = ap (λ (x : List Line). let p : Progress = record { steps = now.steps; lines = x; left = now.left } in p) (sym (append-nil now.lines))

-- the state of a walk, with the clauses and the literals that are assumed
pub here_judged : (s : Setting) (assumed : List ℤ) (steps : List Step) (j : Judgement) → reverse assumed ≡ path_of steps → IsJudged s (reverse assumed) j → IsJudged s (path_of steps) j
here_judged s assumed steps j e h = let P : List ℤ → Type 0 = λ p. IsJudged s p j in subst P e h

pub end_given : (s : Setting) (effort : ℕ) (steps : List Step) (left : ℕ) (lines : List Line) (end : End) → Stands s effort steps left lines → IsJudged s (path_of steps) (ends end) → WalkGives s effort (stopped end)
end_given s effort steps left lines end st j = ended_below s effort steps left lines end st (ends_here j)

pub spent_given : (s : Setting) (effort : ℕ) (steps : List Step) (left : ℕ) (lines : List Line) (line : Option Line) → left ≡ 0 → Stands s effort steps left lines → IsJudged s (path_of steps) (leaf line) → WalkGives s effort (stopped spent)
spent_given s effort steps left lines line e st j =
    let P : ℕ → Type 0 = λ n. Walks s (path_of steps) n (ended spent) in
    ended_below s effort steps left lines spent st (subst P (sym e) (is_spent j))

pub falls_split : (s : Setting) (n left : ℕ) (l : ℤ) (steps : List Step) → IsFit s.encoding → IsJudged s (path_of steps) (splits l) → left * (n + 1) + free s (l ∷ path_of steps) < left * (n + 1) + free s (path_of steps)
falls_split s n left l steps fit j = let f = split_falls s fit (path_of steps) l j in omega (arith, f.0)

pub falls_leaf : (s : Setting) (left after : ℕ) (path now : List ℤ) → after + 1 ≡ left → after * (length s.encoding.senses + 1) + free s now < left * (length s.encoding.senses + 1) + free s path
falls_leaf s left after path now e =
    let n = length s.encoding.senses in
    let most : free s now ≤ length s.encoding.senses = free_most s now in
    let grown : left * (n + 1) ≡ after * (n + 1) + (n + 1) = ap (λ x. x * (n + 1)) (sym e) ∙ omega arith in
    omega (arith, most, grown)

pub keeps_along : (e : Encoding) (old new : Known) → Keeps e old → new.greatest ≡ old.greatest → new.clauses ≡ old.clauses → Keeps e new
keeps_along e old new keeps same clauses =
    let P : List (List ℤ) → Type 0 = λ cs. AreAmong cs e.clauses in
    let Q : List (List ℤ) → Type 0 = AreAmong e.clauses in
    record { greatest = same ∙ keeps.greatest; among = subst P (sym clauses) keeps.among; all = subst Q (sym clauses) keeps.all }
