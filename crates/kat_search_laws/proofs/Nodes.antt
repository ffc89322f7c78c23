-- A node is judged alike by both statements.
use Rattle.std.proofs.Common.{◌≡◌, ℕ, suc, ℤ, pos, neg_ℤ, int_lt, List, [], ◌∷◌, ◌++◌, map, Bool, true, false, ◌||◌, if◌then◌else◌, Option, Some, None, refl, sym, ap, ◌∙◌}
use Rattle.kat_linear.specs.Rows.{Form, negated_form}
use Rattle.kat_linear.specs.Widths.{widths}
use Rattle.kat_form.specs.Encodings.{Encoding, Sense, form_in}
use Rattle.kat_fm.specs.Eliminations.{Solution, elim_of}
use Rattle.kat_fm.specs.Eliminations.Solution.{met_at, refuted_by, crowded, goes_wide}
use Rattle.kat_refute.specs.Lines.{added}
use Rattle.kat_cases.specs.Nodes as nodes
use Rattle.kat_cases.specs.Nodes.{Held, held_of, held_from, held_in, literals, rows, used_literals, used_multipliers, is_unmet, first_open, or_else, last_unmet, lowest_open, truths_from, judged_width, judged_open, judged_solution, judged}
use Rattle.kat_cases.specs.Nodes.End.{spent, at_point, at_rows, at_wide}
use Rattle.kat_cases.specs.Nodes.Judgement.{leaf, ends, splits}
use Rattle.kat_cases.specs.Nodes.IsJudged.{falsified, not_falsified}
use Rattle.kat_cases.specs.Walks.{own}
use Rattle.kat_walks.specs.Walks.{Bound, IsNode, Judgement, blamed, bound_of, bounds_from, by_open, by_solution, by_widths, first_free, first_unset, last_bare, later_or, literals_in, opened, rows_in}
use Rattle.kat_walks.specs.Walks.Judgement.{closes, stops, branches}
use Rattle.kat_walks.specs.Walks.IsNode.{closed, not_closed}
use Rattle.kat_search_laws.specs.Walks.{plain_end, setting_in}

-- a judgement without lines and points
abbrev pub plain : nodes.Judgement → Judgement
plain (leaf line) = closes (added (own line))
plain (ends end) = stops (plain_end end)
plain (splits l) = branches l

-- the atoms in force
abbrev pair_of : Held → Bound
pair_of held = record { literal = held.literal; row = held.row }

map-append : {A B : Type 0} (f : A → B) (xs ys : List A) → map f (xs ++ ys) ≡ map f xs ++ map f ys
map-append f [] ys = refl
map-append f (x ∷ xs) ys = ap (λ zs. f x ∷ zs) (map-append f xs ys)

map-map : {A B C : Type 0} (f : B → C) (g : A → B) (xs : List A) → map f (map g xs) ≡ map (λ x. f (g x)) xs
map-map f g [] = refl
map-map f g (x ∷ xs) = ap (λ zs. f (g x) ∷ zs) (map-map f g xs)

one_pair : (a b : Bool) (x y : Held) → map pair_of (if a then x ∷ [] else if b then y ∷ [] else []) ≡ (if a then pair_of x ∷ [] else if b then pair_of y ∷ [] else [])
one_pair true b x y = refl
one_pair false true x y = refl
one_pair false false x y = refl

bound_same : (has : ℤ → Bool) (v : ℕ) (form : Option Form) → map pair_of (held_of has v form) ≡ bound_of has v form
bound_same has v None = refl
bound_same has v (Some form) = one_pair (has (pos v)) (has (neg_ℤ (pos v))) (record { literal = pos v; row = form }) (record { literal = neg_ℤ (pos v); row = negated_form form })

bounds_same : (has : ℤ → Bool) (v : ℕ) (ss : List Sense) → map pair_of (held_from has v ss) ≡ bounds_from has v ss
bounds_same has v [] = refl
bounds_same has v (s ∷ ss) =
    map-append pair_of (held_of has v (form_in s)) (held_from has (suc v) ss)
    ∙ ap (λ x. x ++ map pair_of (held_from has (suc v) ss)) (bound_same has v (form_in s))
    ∙ ap (λ x. bound_of has v (form_in s) ++ x) (bounds_same has (suc v) ss)

literals_same : (has : ℤ → Bool) (v : ℕ) (ss : List Sense) → literals (held_from has v ss) ≡ literals_in (bounds_from has v ss)
literals_same has v ss = sym (map-map (λ (b : Bound). b.literal) pair_of (held_from has v ss)) ∙ ap literals_in (bounds_same has v ss)

rows_same : (has : ℤ → Bool) (v : ℕ) (ss : List Sense) → rows (held_from has v ss) ≡ rows_in (bounds_from has v ss)
rows_same has v ss = sym (map-map (λ (b : Bound). b.row) pair_of (held_from has v ss)) ∙ ap rows_in (bounds_same has v ss)

-- what is blamed, and the choice
blamed_same : (ks ms : List ℤ) → used_literals ks ms ≡ blamed ks ms
blamed_same [] ms = refl
blamed_same (k ∷ ks) [] = refl
blamed_same (k ∷ ks) (m ∷ ms) = ap (λ x. if int_lt (pos 0) m then neg_ℤ k ∷ x else x) (blamed_same ks ms)

free_same : (has : ℤ → Bool) (ks : List ℤ) → first_open has ks ≡ first_free has ks
free_same has [] = refl
free_same has (k ∷ ks) = ap (λ x. if has (neg_ℤ k) then x else Some k) (free_same has ks)

later_same : (a b : Option ℤ) → or_else a b ≡ later_or a b
later_same (Some k) b = refl
later_same None b = refl

bare_same : (has : ℤ → Bool) (cs : List (List ℤ)) → last_unmet has cs ≡ last_bare has cs
bare_same has [] = refl
bare_same has (c ∷ cs) =
    later_same (last_unmet has cs) (if is_unmet has c then first_open has c else None)
    ∙ ap (λ x. later_or x (if is_unmet has c then first_open has c else None)) (bare_same has cs)
    ∙ ap (λ x. later_or (last_bare has cs) (if is_unmet has c then x else None)) (free_same has c)

unset_same : (has : ℤ → Bool) (v : ℕ) (ss : List Sense) → lowest_open has v ss ≡ first_unset has v ss
unset_same has v [] = refl
unset_same has v (s ∷ ss) = ap (λ x. if has (pos v) || has (neg_ℤ (pos v)) then x else Some (pos v)) (unset_same has (suc v) ss)

open_same : (chosen lowest : Option ℤ) (den : ℤ) (nums : List ℤ) (truths : List Bool) → plain (judged_open chosen (at_point den nums truths) lowest) ≡ by_open chosen lowest
open_same chosen None den nums truths = refl
open_same (Some l) (Some v) den nums truths = refl
open_same None (Some v) den nums truths = refl

widths_same : (ks ms : List ℤ) (o : Option (ℤ × ℤ)) → plain (judged_width ks ms o) ≡ by_widths ks ms o
widths_same ks ms None = ap (λ x. closes (x ∷ [])) (blamed_same ks ms)
widths_same ks ms (Some (left, right)) = refl

solution_same : (e : Encoding) (numbers : ℕ) (has : ℤ → Bool) (held : List Held) (bounds : List Bound) → literals held ≡ literals_in bounds → rows held ≡ rows_in bounds
    → (x : Solution) → plain (judged_solution (setting_in e numbers) has held x) ≡ by_solution e has bounds x
solution_same e numbers has held bounds same_literals same_rows (met_at den nums) =
    open_same (last_unmet has e.clauses) (lowest_open has 1 e.senses) den nums (truths_from has 1 e.senses)
    ∙ ap (λ c. by_open c (lowest_open has 1 e.senses)) (bare_same has e.clauses)
    ∙ ap (λ v. by_open (last_bare has e.clauses) v) (unset_same has 1 e.senses)
solution_same e numbers has held bounds same_literals same_rows (refuted_by ms) =
    widths_same (literals held) ms (widths (rows held) ms)
    ∙ ap (λ ks. by_widths ks ms (widths (rows held) ms)) same_literals
    ∙ ap (λ rs. by_widths (literals_in bounds) ms (widths rs ms)) same_rows
solution_same e numbers has held bounds same_literals same_rows (crowded plus minus rest) = ap (λ ks. stops (plain_end (at_rows ks plus minus rest))) same_literals
solution_same e numbers has held bounds same_literals same_rows (goes_wide left right) = ap (λ ks. stops (plain_end (at_wide ks left right))) same_literals

pub opened_same : (e : Encoding) (numbers : ℕ) (has : ℤ → Bool) → plain (judged (setting_in e numbers) has) ≡ opened e numbers has
unfolding judged opened
opened_same e numbers has =
    solution_same e numbers has (held_from has 1 e.senses) (bounds_from has 1 e.senses) (literals_same has 1 e.senses) (rows_same has 1 e.senses) (elim_of (rows (held_from has 1 e.senses)) numbers)
    ∙ ap (λ rs. by_solution e has (bounds_from has 1 e.senses) (elim_of rs numbers)) (rows_same has 1 e.senses)

pub node_forth : (e : Encoding) (numbers : ℕ) (path : List ℤ) (j : nodes.Judgement) → nodes.IsJudged (setting_in e numbers) path j → IsNode e numbers path (plain j)
node_forth e numbers path j (falsified denied is) = closed denied (ap plain is)
node_forth e numbers path j (not_falsified open_ has table is) = not_closed open_ has table (ap plain is ∙ opened_same e numbers has)

-- back: there is a judgement with that plain one
pub record Judged (e : Encoding) (numbers : ℕ) (path : List ℤ) (k : Judgement) : Type 0 where
  pub j : nodes.Judgement
  pub same : plain j ≡ k
  pub judged : nodes.IsJudged (setting_in e numbers) path j

pub node_back : (e : Encoding) (numbers : ℕ) (path : List ℤ) (k : Judgement) → IsNode e numbers path k → Judged e numbers path k
node_back e numbers path k (closed denied is) = record { j = leaf None; same = sym is; judged = falsified denied refl }
node_back e numbers path k (not_closed open_ has table is) =
    record { j = judged (setting_in e numbers) has; same = opened_same e numbers has ∙ sym is; judged = not_falsified open_ has table refl }
