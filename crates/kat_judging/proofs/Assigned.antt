-- The first fault of assignments, each after those before it.
use Rattle.std.proofs.Common.{◌≡◌, ℕ, suc, ◌+◌, ◌<◌, ◌≤◌, List, [], ◌∷◌, ◌++◌, length, drop, drop-cons, add-one, get_or, sym, ◌∙◌, ap, Option}
use Rattle.std.proofs.lemmas.List.{drop_all}
use Rattle.kat_grammar.specs.declared.phrases.Assignment.{Assignment}
use Rattle.kat_grammar.specs.declared.phrases.Word.{Word}
use Rattle.kat_judging.specs.Faults.{assignment_faults, assignments_faults, earlier, first_of, act_word}
use Rattle.kat_judging.specs.Names.{Scope}
use Rattle.kat_judging.specs.declared.faults.Fault.{Fault}
use Rattle.kat_judging.proofs.Firsts.{earlier_assoc, earlier_none, first_append}

-- the codes of the fields that are assigned, after one more assignment
abbrev pub behind_codes : List ℕ → Assignment → List ℕ
behind_codes before x = before ++ (act_word x.act).code ∷ []

-- the next assignment, given those before it
pub assigned_next : (scope : Scope) (xs : List Assignment) (i : ℕ) (d x : Assignment) (before grown : List ℕ) (w : Word) (first next one : Option Fault) {whole : Option Fault}
    → earlier first (first_of (assignments_faults before scope (drop i xs))) ≡ whole → i < length xs → x ≡ get_or xs i d
    → one ≡ first_of (assignment_faults before scope x) → w ≡ act_word x.act → grown ≡ before ++ w.code ∷ [] → next ≡ earlier first one
    → earlier next (first_of (assignments_faults grown scope (drop (i + 1) xs))) ≡ whole
assigned_next scope xs i d x before grown w first next one h lt is o word grows n =
    ap (λ codes. earlier next (first_of (assignments_faults codes scope (drop (i + 1) xs)))) (grows ∙ ap (λ (v : Word). before ++ v.code ∷ []) word)
    ∙ ap (λ f. earlier f (first_of (assignments_faults (behind_codes before x) scope (drop (i + 1) xs)))) (n ∙ ap (λ f. earlier first f) o)
    ∙ sym (earlier_assoc first (first_of (assignment_faults before scope x)) (first_of (assignments_faults (behind_codes before x) scope (drop (i + 1) xs))))
    ∙ ap (λ k. earlier first (earlier (first_of (assignment_faults before scope x)) (first_of (assignments_faults (behind_codes before x) scope (drop k xs))))) (add-one i)
    ∙ ap (λ f. earlier first f) (sym (first_append (assignment_faults before scope x) (assignments_faults (behind_codes before x) scope (drop (suc i) xs))))
    ∙ ap (λ ys. earlier first (first_of (assignments_faults before scope ys))) (sym (drop-cons xs i d lt ∙ ap (λ y. y ∷ drop (suc i) xs) (sym is)))
    ∙ h

pub assigned_end : (scope : Scope) (xs : List Assignment) (i : ℕ) (before : List ℕ) (first : Option Fault) {whole : Option Fault}
    → earlier first (first_of (assignments_faults before scope (drop i xs))) ≡ whole → length xs ≤ i → first ≡ whole
assigned_end scope xs i before first h le =
    earlier_none first ∙ ap (λ ys. earlier first (first_of (assignments_faults before scope ys))) (sym (drop_all i xs le)) ∙ h
