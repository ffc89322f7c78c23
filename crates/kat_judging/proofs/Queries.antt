-- The first fault of a query, from those of its parts.
use Rattle.std.proofs.Common.{◌≡◌, List, ◌++◌, ◌∙◌, ap, Option}
use Rattle.kat_grammar.specs.Phrases.{form_of}
use Rattle.kat_grammar.specs.declared.phrases.Query.{Query}
use Rattle.kat_grammar.specs.declared.phrases.State.{State}
use Rattle.kat_judging.specs.Faults.{asked_fault, asked_faults, earlier, first_of, form_faults, param_faults, query_faults, scope_of}
use Rattle.kat_judging.specs.Sorts.{found_of}
use Rattle.kat_judging.specs.declared.faults.Fault.{Fault}
use Rattle.kat_judging.specs.declared.judging.Judged.{Judged}
use Rattle.kat_judging.proofs.Firsts.{both_first}
use Rattle.kat_judging.proofs.Parts.{IsJudged}

-- names of parameters, the sort of the right side, and the right side
pub query_first : (states : List State) (q : Query) (judged : Judged) (named sort both all : Option Fault) → IsJudged (scope_of states q.params) (form_of q.right) judged
    → named ≡ first_of (param_faults states q.params) → sort ≡ first_of (asked_fault q.sort judged.found judged.start)
    → both ≡ earlier named sort → all ≡ earlier both judged.fault → all ≡ first_of (query_faults states q)
query_first states q judged named sort both all j is_named is_sort is_both is_all =
    let one_sort : sort ≡ first_of (asked_faults q.sort (scope_of states q.params) (form_of q.right)) =
    is_sort ∙ ap (λ found. first_of (asked_fault q.sort found judged.start)) j.found
    ∙ ap (λ start. first_of (asked_fault q.sort (found_of (scope_of states q.params) (form_of q.right)) start)) j.start in
    both_first (param_faults states q.params ++ asked_faults q.sort (scope_of states q.params) (form_of q.right)) (form_faults (scope_of states q.params) (form_of q.right)) both judged.fault all
    (both_first (param_faults states q.params) (asked_faults q.sort (scope_of states q.params) (form_of q.right)) named sort both is_named one_sort is_both)
    j.fault is_all
