-- Paths whose literals are open one after the other.
use Rattle.std.proofs.Common.{◌≡◌, ℕ, ◌<◌, ◌≤◌, ℤ, pos, neg_ℤ, List, [], ◌∷◌, ◌++◌, length, map, take, drop, get_or, reverse, ⊎_elim, sym, ap, ◌∙◌, subst, arith, Contains}
use Rattle.std.proofs.Math.IntN.{neg_ℤ-neg_ℤ}
use Rattle.std.proofs.lemmas.Bool.{false≢true}
use Rattle.std.proofs.lemmas.List.{take-append-drop}
use Rattle.std.proofs.lemmas.List.Elements.{Contains-append_left, Contains-append_right, Contains-append_cases, Contains-push_cases, Contains-get_or}
use Rattle.kat_clause.specs.Known.{AreUpTo}
use Rattle.kat_clause.proofs.Runs.{Contains-take}
use Rattle.kat_form.specs.Encodings.{IsFit}
use Rattle.kat_refute.specs.Lines.{Line}
use Rattle.kat_watch.specs.Watched.{IsLiteral, AreLiterals, IsOpen}
use Rattle.kat_watch.proofs.Sets.{opposite_literal, opposite_differs}
use Rattle.kat_cases.specs.Guests.{MayBeAssumed, IsPath}
use Rattle.kat_cases.specs.Nodes.{Setting, IsJudged}
use Rattle.kat_cases.specs.Nodes.Judgement.{splits}
use Rattle.kat_cases.specs.declared.stack.Branch.{Branch}
use Rattle.kat_cases.specs.Stacks.{Step, Stands, path_of, step_of, literal_of}
use Rattle.kat_cases.specs.Stacks.Step.{first_of, second_of}
use Rattle.kat_resolution.proofs.Members.{IsWithin, cases_cons, in_nothing}
use Rattle.kat_cases.proofs.Members.{in_has, in_map, from_map}
use Rattle.kat_cases.proofs.Paths.{in_reverse}
use Rattle.kat_cases.proofs.Acceptances.{split_is_literal}
use Rattle.kat_cases.proofs.FreeVariables.{split_is_open}

-- the path of the node above
pub path_tail : (g : ℕ) (l : ℤ) (path : List ℤ) → IsPath g (l ∷ path) → IsPath g path
path_tail g l path is = is.2

-- the other branch of a split
pub path_other : (g : ℕ) (l m : ℤ) (path : List ℤ) → m ≡ neg_ℤ l → IsPath g (l ∷ path) → IsPath g (m ∷ path)
path_other g l m path e is =
    let P : ℤ → Type 0 = λ k. IsPath g (k ∷ path) in
    let back : Contains path (neg_ℤ (neg_ℤ l)) → ⊥ = λ has. is.1.0 (subst (Contains path) (neg_ℤ-neg_ℤ l) has) in
    subst P (sym e) (opposite_literal g l is.0, (is.1.1, back), is.2)

-- the literals of a path are of the variables up to the greatest
pub path_literals : (g : ℕ) (path : List ℤ) → IsPath g path → AreLiterals g path
path_literals g [] is k has = absurd (in_nothing k has)
path_literals g (l ∷ path) is k has = ⊎_elim
    (λ (e : l ≡ k). subst (IsLiteral g) e is.0)
    (λ (later : Contains path k). path_literals g path is.2 k later)
    (cases_cons l k path has)

pub path_limit : (g : ℕ) (path : List ℤ) → IsPath g path → AreUpTo g path
path_limit g path is k has = (path_literals g path is k has).1

pub path_more : (g h : ℕ) (path : List ℤ) → g ≤ h → IsPath g path → IsPath h path
path_more g h [] le is = tt
path_more g h (l ∷ path) le is = ((is.0.0, omega (arith, is.0.1, le)), is.1, path_more g h path le is.2)

-- no literal of a path is the opposite of another
pub path_apart : (g : ℕ) (path : List ℤ) → IsPath g path → (k : ℤ) → Contains path k → Contains path (neg_ℤ k) → ⊥
path_apart g [] is k has back = in_nothing k has
path_apart g (l ∷ path) is k has back = ⊎_elim
    (λ (e : l ≡ k). ⊎_elim
    (λ (f : l ≡ neg_ℤ k). opposite_differs l is.0.0 (ap neg_ℤ e ∙ sym f))
    (λ (later : Contains path (neg_ℤ k)). is.1.1 (subst (λ (x : ℤ). Contains path (neg_ℤ x)) (sym e) later))
    (cases_cons l (neg_ℤ k) path back))
    (λ (there : Contains path k). ⊎_elim
    (λ (f : l ≡ neg_ℤ k). is.1.1 (subst (Contains path) (sym (neg_ℤ-neg_ℤ k) ∙ ap neg_ℤ (sym f)) there))
    (λ (later : Contains path (neg_ℤ k)). path_apart g path is.2 k there later)
    (cases_cons l (neg_ℤ k) path back))
    (cases_cons l k path has)

-- some of them, in any order
pub may_within : (g : ℕ) (few many : List ℤ) → IsWithin few many → MayBeAssumed g many → MayBeAssumed g few
may_within g few many within may = record {
  are = λ k has. may.are k (within k has);
  apart = λ k has back. may.apart k (within k has) (within (neg_ℤ k) back);
}

pub path_may : (g : ℕ) (path literals : List ℤ) → reverse literals ≡ path → IsPath g path → MayBeAssumed g literals
path_may g path literals e is =
    let within : IsWithin literals path = λ k has. (let P : List ℤ → Type 0 = λ xs. Contains xs k in subst P e (in_reverse literals k has)) in
    may_within g literals path within (record { are = path_literals g path is; apart = path_apart g path is })

-- a prefix of the path with literals of the path
pub front_within : (path stay : List ℤ) (i : ℕ) → IsWithin stay path → IsWithin (take i path ++ stay) path
front_within path stay i within k has = ⊎_elim
    (λ (h : Contains (take i path) k). (let P : List ℤ → Type 0 = λ xs. Contains xs k in subst P (take-append-drop i path) (Contains-append_left (take i path) (drop i path) k h)))
    (λ (h : Contains stay k). within k h)
    (Contains-append_cases (take i path) stay k has)

pub stay_within : (stay new path : List ℤ) (x : ℤ) (i : ℕ) → i < length path → IsWithin stay path → x ≡ get_or path i (pos 0) → new ≡ stay ++ x ∷ [] → IsWithin new path
stay_within stay new path x i h within is push k has =
    let P : List ℤ → Type 0 = λ xs. Contains xs k in
    ⊎_elim
    (λ (old : Contains stay k). within k old)
    (λ (e : x ≡ k). subst (Contains path) (sym is ∙ e) (Contains-get_or path i (pos 0) h))
    (Contains-push_cases stay x k (subst P push has))

-- one more of them is assumed, after those before it
pub may_one : (g : ℕ) (assumed literals : List ℤ) (i : ℕ) → i < length literals → MayBeAssumed g (assumed ++ literals) → IsLiteral g (get_or literals i (pos 0))
may_one g assumed literals i h may = may.are (get_or literals i (pos 0)) (Contains-append_right assumed literals (get_or literals i (pos 0)) (Contains-get_or literals i (pos 0) h))

pub may_next : (g : ℕ) (assumed literals now : List ℤ) (i : ℕ) → i < length literals → MayBeAssumed g (assumed ++ literals) → now ≡ assumed ++ take i literals → Contains now (neg_ℤ (get_or literals i (pos 0))) → ⊥
may_next g assumed literals now i h may e has =
    let l = get_or literals i (pos 0) in
    let P : List ℤ → Type 0 = λ xs. Contains xs (neg_ℤ (get_or literals i (pos 0))) in
    may.apart l (Contains-append_right assumed literals l (Contains-get_or literals i (pos 0) h))
    (⊎_elim
    (λ (front : Contains assumed (neg_ℤ (get_or literals i (pos 0)))). Contains-append_left assumed literals (neg_ℤ l) front)
    (λ (later : Contains (take i literals) (neg_ℤ (get_or literals i (pos 0)))). Contains-append_right assumed literals (neg_ℤ l) (Contains-take i literals (neg_ℤ l) later))
    (Contains-append_cases assumed (take i literals) (neg_ℤ l) (subst P e has)))

-- A split's literal is open at its node.
pub split_path : (s : Setting) (path : List ℤ) (l : ℤ) → IsJudged s path (splits l) → IsOpen path l
split_path s path l j =
    let apart = split_is_open s path l j in
    (λ has. false≢true (sym apart.0 ∙ in_has l path has), λ has. false≢true (sym apart.1 ∙ in_has (neg_ℤ l) path has))

pub split_literal : (s : Setting) (g : ℕ) (path : List ℤ) (l : ℤ) → g ≡ length s.encoding.senses → IsFit s.encoding → IsJudged s path (splits l) → IsLiteral g l
split_literal s g path l e fit j = let is = split_is_literal s fit path l j in (is.0, omega (arith, is.1, e))

-- the branches that are being walked make a path
pub path_is : (s : Setting) (g : ℕ) → g ≡ length s.encoding.senses → IsFit s.encoding → (effort : ℕ) (steps : List Step) (left : ℕ) (lines : List Line) → Stands s effort steps left lines → IsPath g (path_of steps)
path_is s g e fit effort [] left lines st = tt
path_is s g e fit effort (first_of l ∷ steps) left lines (j, st) = (split_literal s g (path_of steps) l e fit j, split_path s (path_of steps) l j, path_is s g e fit effort steps left lines st)
path_is s g e fit effort (second_of m c ∷ steps) left lines (before, front, t, st) =
    let first : IsPath g (t.split ∷ path_of steps) = (split_literal s g (path_of steps) t.split e fit t.judged, split_path s (path_of steps) t.split t.judged, path_is s g e fit effort steps before front st) in
    path_other g t.split m (path_of steps) t.opposite first

-- the branches that are taken are on the path
pub taken_within : (branches items : List Branch) (now : List Step) (assumed : List ℤ) (i : ℕ) (k : ℤ) → assumed ≡ map literal_of (map step_of (take i items)) → items ≡ branches → reverse (map step_of branches) ≡ now → Contains assumed k → Contains (path_of now) k
taken_within branches items now assumed i k e is view has =
    let P : List ℤ → Type 0 = λ xs. Contains xs k in
    let taken : Contains (map literal_of (map step_of (take i items))) k = subst P e has in
    let at = from_map literal_of (map step_of (take i items)) k taken in
    let of = from_map step_of (take i items) at.0 at.1 in
    let Q : List Branch → Type 0 = λ bs. Contains bs of.0 in
    let branch : Contains branches of.0 = subst Q is (Contains-take i items of.0 of.1) in
    let R : List Step → Type 0 = λ steps. Contains (path_of steps) k in
    let S : ℤ → Type 0 = λ x. Contains (path_of (reverse (map step_of branches))) x in
    let T : Step → Type 0 = λ s. literal_of s ≡ k in
    subst R view (subst S (subst T (sym of.2) at.2) (in_map literal_of (reverse (map step_of branches)) (step_of of.0) (in_reverse (map step_of branches) (step_of of.0) (in_map step_of branches of.0 branch))))
