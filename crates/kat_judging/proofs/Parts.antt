-- The first fault of an expression, from those of its parts.
use Rattle.std.proofs.Common.{◌≡◌, ℕ, List, ◌∙◌, ap, Option}
use Rattle.kat_num.specs.declared.values.Sort.TheVariants as sort
use Rattle.kat_grammar.specs.Phrases.{Form}
use Rattle.kat_grammar.specs.Phrases.Form.{joined, chosen, branches}
use Rattle.kat_grammar.specs.declared.marks.Extreme.{Extreme}
use Rattle.kat_grammar.specs.declared.marks.Operator.{Operator}
use Rattle.kat_grammar.specs.declared.phrases.Target.{Target}
use Rattle.kat_grammar.specs.declared.phrases.State.{State}
use Rattle.kat_grammar.specs.declared.phrases.Word.{Word}
use Rattle.kat_judging.specs.Faults.{again_faults, asked_fault, asked_faults, earlier, first_of, form_faults, operand_fault, operand_faults, right_fault, right_faults, set_faults, start_of, target_faults, target_word, two_fault, two_faults}
use Rattle.kat_judging.specs.Names.{Scope, field_named}
use Rattle.kat_judging.specs.declared.names.Declared.{Declared}
use Rattle.kat_judging.specs.Sorts.{found_of}
use Rattle.kat_judging.specs.declared.faults.Fault.{Fault}
use Rattle.kat_judging.specs.declared.judging.Judged.{Judged}
use Rattle.kat_judging.proofs.Firsts.{four_first, first_two, first_five}

-- what is known of an expression is right
pub record IsJudged (scope : Scope) (a : Form) (judged : Judged) : Type 0 where
  pub found : judged.found ≡ found_of scope a
  pub start : judged.start ≡ start_of a
  pub fault : judged.fault ≡ first_of (form_faults scope a)

pub joined_first : (scope : Scope) (op : Operator) (at : ℕ) (a b : Form) (left right : Judged) → IsJudged scope a left → IsJudged scope b right
    → earlier (first_of (operand_fault op left.found left.start right.found right.start)) (earlier left.fault right.fault) ≡ first_of (form_faults scope (joined op at a b))
joined_first scope op at a b left right l r =
    rw (l.found, l.start, l.fault, r.found, r.start, r.fault) (first_two (operand_faults op scope a b) (form_faults scope a) (form_faults scope b))

pub chosen_first : (scope : Scope) (e : Extreme) (at open_at comma close_at : ℕ) (a b : Form) (left right : Judged) → IsJudged scope a left → IsJudged scope b right
    → earlier (first_of (two_fault left.found left.start right.found right.start)) (earlier left.fault right.fault)
    ≡ first_of (form_faults scope (chosen e at open_at a comma b close_at))
chosen_first scope e at open_at comma close_at a b left right l r =
    rw (l.found, l.start, l.fault, r.found, r.start, r.fault) (first_two (two_faults scope a b) (form_faults scope a) (form_faults scope b))

pub branches_first : (scope : Scope) (at then_at else_at : ℕ) (c a b : Form) (test left right : Judged) → IsJudged scope c test → IsJudged scope a left → IsJudged scope b right
    → earlier (first_of (asked_fault sort.Bool test.found test.start))
    (earlier (first_of (two_fault left.found left.start right.found right.start)) (earlier test.fault (earlier left.fault right.fault)))
    ≡ first_of (form_faults scope (branches at c then_at a else_at b))
branches_first scope at then_at else_at c a b test left right t l r =
    rw (t.found, t.start, t.fault, l.found, l.start, l.fault, r.found, r.start, r.fault)
    (first_five (asked_faults sort.Bool scope c) (two_faults scope a b) (form_faults scope c) (form_faults scope a) (form_faults scope b))

pub right_first : (field : Option (Declared State)) (scope : Scope) (right : Form) (judged : Judged) (one : Option Fault) → IsJudged scope right judged
    → one ≡ first_of (right_fault field judged.found judged.start) → one ≡ first_of (right_faults field scope right)
right_first field scope right judged one j is =
    is ∙ ap (λ found. first_of (right_fault field found judged.start)) j.found ∙ ap (λ start. first_of (right_fault field (found_of scope right) start)) j.start

-- what is assigned, that it isn't twice, the sort of the right side, and the right side
pub set_first : (before : List ℕ) (scope : Scope) (to : Target) (right : Form) (w : Word) (field : Option (Declared State)) (judged : Judged)
    (target again sort both three all : Option Fault) → w ≡ target_word to → field ≡ field_named scope w.code → IsJudged scope right judged
    → target ≡ first_of (target_faults scope to) → again ≡ first_of (again_faults before field w) → sort ≡ first_of (right_fault field judged.found judged.start)
    → both ≡ earlier target again → three ≡ earlier both sort → all ≡ earlier three judged.fault → all ≡ first_of (set_faults before scope to right)
set_first before scope to right w field judged target again sort both three all word is_field j is_target is_again is_sort is_both is_three is_all =
    let f : field ≡ field_named scope (target_word to).code = is_field ∙ ap (λ (v : Word). field_named scope v.code) word in
    let one_again : again ≡ first_of (again_faults before (field_named scope (target_word to).code) (target_word to)) =
    is_again ∙ ap (λ g. first_of (again_faults before g w)) f ∙ ap (λ v. first_of (again_faults before (field_named scope (target_word to).code) v)) word in
    let one_sort : sort ≡ first_of (right_faults (field_named scope (target_word to).code) scope right) =
    right_first field scope right judged sort j is_sort ∙ ap (λ g. first_of (right_faults g scope right)) f in
    four_first (target_faults scope to) (again_faults before (field_named scope (target_word to).code) (target_word to))
    (right_faults (field_named scope (target_word to).code) scope right) (form_faults scope right)
    target again sort judged.fault both three all is_target one_again one_sort j.fault is_both is_three is_all
