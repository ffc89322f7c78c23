-- The statements of an operation, from the first check to the clock.
use Rattle.std.proofs.Common.{◌≡◌, ℕ, zero, suc, ◌+◌, ◌<◌, ◌≤◌, Bool, true, false, cond, List, [], ◌∷◌, length, map, ⊎_elim, refl, sym, ◌∙◌, ap, subst, arith, Option, None, Some}
use Rattle.std.specs.Prelude.{nat_le}
use Rattle.std.specs.Cmp.{IsTotalOrder}
use Rattle.std.proofs.lemmas.Bool.{cases_lt, leb-false}
use Rattle.kat_num.specs.Orders.{value_order}
use Rattle.kat_lattice.specs.Sets.{TellsApart}
use Rattle.kat_script.specs.declared.rules.TheConstants.{TIME_LIMIT}
use Rattle.kat_design.specs.Denotations.{component_meaning}
use Rattle.kat_design.specs.Designs.{DesignForm}
use Rattle.kat_design.specs.Meanings.{are_kin, states_of}
use Rattle.kat_design.specs.Parts.{PartsKin}
use Rattle.kat_design.specs.Sorted.{IsWellSorted}
use Rattle.kat_design.specs.declared.states.Part.{Part}
use Rattle.kat_replica.proofs.Suits.{each_is_added}
use Rattle.kat_actions.specs.Texts as calls
use Rattle.kat_actions.specs.declared.calls.Call.{Call}
use Rattle.kat_actions.specs.declared.calls.Verb.TheVariants.{Do}
use Rattle.kat_node.specs.Nodes.{IsNode}
use Rattle.kat_node.specs.Packets.{parts_of}
use Rattle.kat_node.specs.declared.nodes.Node.{Node}
use Rattle.kat_node.proofs.Going.{parts_go}
use Rattle.kat_step.specs.Limits.{passes_limit, refusal_of}
use Rattle.kat_step.specs.Steps.{done_by}
use Rattle.kat_step.specs.declared.error.StepError.{StepError}
use Rattle.kat_step.specs.declared.error.StepError.TheVariants.{TooLarge, FullState}
use Rattle.kat_step.proofs.Acting.{action_fits}
use Rattle.kat_emit.specs.Statements.{Stated, ticks, tocks}
use Rattle.kat_emit_laws.specs.Meanings.{Doing, Ending, Outcome, and_then, begun, doing, emitted, ending_of, full, goes, late, refused, runs, stepped, unchanged, wrong}
use Rattle.kat_emit_laws.proofs.Followed.{all_changed, all_grown, checked, followed}
use Rattle.kat_emit_laws.proofs.Growths.{grow_all, stand_all}
use Rattle.kat_emit_laws.proofs.Changes.{change_all}

-- checks
inside_first : (from n : ℕ) → from < from + suc n
inside_first from n = omega arith

inside_rest : (from n k : ℕ) → k < suc from + n → k < from + suc n
inside_rest from n k l = omega arith

from_rest : (from k : ℕ) → suc from ≤ k → from ≤ k
from_rest from k l = omega arith

at_least : (n : ℕ) → n ≤ n
at_least n = omega arith

abbrev check_next : (ℕ → Bool) → ℕ → List Stated → Doing → Bool → Outcome
check_next passes param more now b = and_then (cond b (goes now) (refused (wrong param) now)) (λ (later : Doing). runs passes more later)

checks_pass : (passes : ℕ → Bool) (from n : ℕ) (more : List Stated) (now : Doing) → ((k : ℕ) → from ≤ k → k < from + n → passes k ≡ true) → runs passes (checked from n more) now ≡ runs passes more now
checks_pass passes from zero more now all = refl
checks_pass passes from (suc n) more now all =
    ap (check_next passes from (checked (suc from) n more) now) (all from (at_least from) (inside_first from n))
    ∙ checks_pass passes (suc from) n more now (λ k l m. all k (from_rest from k l) (inside_rest from n k m))

none_inside : (from k : ℕ) → from ≤ k → k < from + 0 → ⊥
none_inside from k l m = omega arith

is_first : (from k : ℕ) → from ≤ k → k ≤ from → from ≡ k
is_first from k l m = omega arith

inside_later : (from n k : ℕ) → from < k → k < from + suc n → k < suc from + n
inside_later from n k l m = omega arith

after_first : (from k : ℕ) → from < k → suc from ≤ k
after_first from k l = omega arith

checks_fail : (passes : ℕ → Bool) (from n k : ℕ) (more : List Stated) (now : Doing) → from ≤ k → k < from + n → passes k ≡ false → ((j : ℕ) → from ≤ j → j < k → passes j ≡ true)
    → runs passes (checked from n more) now ≡ refused (wrong k) now
checks_fail passes from zero k more now low high fails all = absurd (none_inside from k low high)
checks_fail passes from (suc n) k more now low high fails all =
    ⊎_elim
    (λ (behind : from < k).
    ap (check_next passes from (checked (suc from) n more) now) (all from (at_least from) behind)
    ∙ checks_fail passes (suc from) n k more now (after_first from k behind) (inside_later from n k behind high) fails (λ j l m. all j (from_rest from j l) m))
    (λ (here : k ≤ from).
    let same : from ≡ k = is_first from k low here in
    ap (check_next passes from (checked (suc from) n more) now) (subst (λ j. passes j ≡ false) (sym same) fails) ∙ ap (λ j. refused (wrong j) now) same)
    (cases_lt from k)

-- what kat_step refuses
some_none : {X : Type 0} (x : X) → Some x ≡ None → ⊥
some_none x e = cc

none_some : {X : Type 0} (x : X) → None ≡ Some x → ⊥
none_some x e = cc

two_refusals : (line : ℕ) → ◌≡◌ {A = Option StepError} (Some (FullState line)) (Some (TooLarge line)) → ⊥
two_refusals line e = cc

none_told : (line : ℕ) (l f : Bool) → cond {A = Option StepError} l (Some (TooLarge line)) (cond f (Some (FullState line)) None) ≡ None → (l ≡ false) × (f ≡ false)
none_told line true f e = absurd (some_none (TooLarge line) e)
none_told line false true e = absurd (some_none (FullState line) e)
none_told line false false e = (refl, refl)

late_told : (line : ℕ) (l f : Bool) → cond {A = Option StepError} l (Some (TooLarge line)) (cond f (Some (FullState line)) None) ≡ Some (TooLarge line) → l ≡ true
late_told line true f e = refl
late_told line false true e = absurd (two_refusals line e)
late_told line false false e = absurd (none_some (TooLarge line) e)

full_told : (line : ℕ) (l f : Bool) → cond {A = Option StepError} l (Some (TooLarge line)) (cond f (Some (FullState line)) None) ≡ Some (FullState line) → (l ≡ false) × (f ≡ true)
full_told line true f e = absurd (two_refusals line (sym e))
full_told line false true e = (refl, refl)
full_told line false false e = absurd (none_some (FullState line) e)

abbrev is_late : Node → Bool
is_late node = nat_le TIME_LIMIT node.replica.clock

abbrev is_full : DesignForm → Node → Call → Bool
is_full d node call = passes_limit d.components (parts_of node) (done_by node call)

-- the statements after the checks
abbrev no_sums : ℕ → ℕ
no_sums place = 0

abbrev changing : DesignForm → Call → List Stated
changing d call = all_changed 0 d.components call.item (tocks ∷ [])

abbrev growing : DesignForm → Call → List Stated
growing d call = all_grown 0 d.components call.item (changing d call)

abbrev AllPass : (ℕ → Bool) → Call → Type 0
AllPass passes call = (param : ℕ) → param < length call.args → passes param ≡ true

inside_all : (n k : ℕ) → k < 0 + n → k < n
inside_all n k l = omega arith

abbrev tick_next : (ℕ → Bool) → DesignForm → Node → Call → Bool → Outcome
tick_next passes d node call b =
    and_then (cond b (refused late (begun node call)) (goes (doing node.replica.clock (parts_of node) (done_by node call) no_sums))) (λ (later : Doing). runs passes (growing d call) later)

emitted_is : (passes : ℕ → Bool) (d : DesignForm) (node : Node) (call : Call) → emitted passes d node call ≡ ending_of (runs passes (checked 0 (length call.args) (ticks ∷ growing d call)) (begun node call))
emitted_is passes d node call = ap (λ (list : List Stated). ending_of (runs passes list (begun node call))) (followed d.components call.item (length call.args))

ticked : (passes : ℕ → Bool) (d : DesignForm) (node : Node) (call : Call) (b : Bool) → AllPass passes call → is_late node ≡ b → emitted passes d node call ≡ ending_of (tick_next passes d node call b)
ticked passes d node call b all e =
    emitted_is passes d node call
    ∙ ap ending_of (checks_pass passes 0 (length call.args) (ticks ∷ growing d call) (begun node call) (λ k l m. all k (inside_all (length call.args) k m)) ∙ ap (tick_next passes d node call) e)

abbrev step_ending : ℕ → List Part → Ending
step_ending clock parts = record { refusal = None; clock = clock; parts = parts }

whole_steps : IsTotalOrder value_order → TellsApart value_order → (d : DesignForm) (node : Node) (call : Call) (passes : ℕ → Bool) → IsWellSorted d → IsNode d node → calls.FitsSignature Do d.sig call → AllPass passes call
    → (is_late node ≡ false) × (is_full d node call ≡ false) → emitted passes d node call ≡ stepped d node call
whole_steps total apart d node call passes sorted is fits all told =
    let one = done_by node call in
    let parts = parts_of node in
    let fit = action_fits d.sig call node.number node.replica.clock fits is.least is.most (leb-false TIME_LIMIT node.replica.clock told.0) in
    let kin : are_kin PartsKin parts (states_of (map component_meaning d.components) []) = parts_go apart d.sig.ops d.components parts sorted.components is.parts in
    let grows = grow_all passes node.replica.clock parts one no_sums 0 d.components parts (changing d call) is.parts (stand_all parts) in
    ticked passes d node call false all told.0
    ∙ ap ending_of (grows.continues told.1 ∙ change_all total d.sig one fit passes node.replica.clock grows.found (tocks ∷ []) d.components [] parts sorted.components kin grows.held)
    ∙ ap (step_ending one.time) (each_is_added d.components parts one kin)

pub steps_mean : IsTotalOrder value_order → TellsApart value_order → (d : DesignForm) (node : Node) (call : Call) (passes : ℕ → Bool) → IsWellSorted d → IsNode d node → calls.FitsSignature Do d.sig call → AllPass passes call
    → refusal_of d node call ≡ None → emitted passes d node call ≡ stepped d node call
steps_mean total apart d node call passes sorted is fits all told =
    whole_steps total apart d node call passes sorted is fits all (none_told call.line (is_late node) (is_full d node call) told)

pub late_means : (d : DesignForm) (node : Node) (call : Call) (passes : ℕ → Bool) → AllPass passes call → refusal_of d node call ≡ Some (TooLarge call.line) → emitted passes d node call ≡ unchanged node late
late_means d node call passes all told = ticked passes d node call true all (late_told call.line (is_late node) (is_full d node call) told)

whole_full : (d : DesignForm) (node : Node) (call : Call) (passes : ℕ → Bool) → IsNode d node → AllPass passes call → (is_late node ≡ false) × (is_full d node call ≡ true) → emitted passes d node call ≡ unchanged node full
whole_full d node call passes is all told =
    let grows = grow_all passes node.replica.clock (parts_of node) (done_by node call) no_sums 0 d.components (parts_of node) (changing d call) is.parts (stand_all (parts_of node)) in
    ticked passes d node call false all told.0 ∙ grows.ends told.1

pub full_means : (d : DesignForm) (node : Node) (call : Call) (passes : ℕ → Bool) → IsNode d node → AllPass passes call → refusal_of d node call ≡ Some (FullState call.line)
    → emitted passes d node call ≡ unchanged node full
full_means d node call passes is all told = whole_full d node call passes is all (full_told call.line (is_late node) (is_full d node call) told)

at_first : (k : ℕ) → 0 ≤ k
at_first k = omega arith

inside_params : (n k : ℕ) → k < n → k < 0 + n
inside_params n k l = omega arith

pub wrong_means : (d : DesignForm) (node : Node) (call : Call) (passes : ℕ → Bool) (param : ℕ) → param < length call.args → passes param ≡ false → ((earlier : ℕ) → earlier < param → passes earlier ≡ true)
    → emitted passes d node call ≡ unchanged node (wrong param)
wrong_means d node call passes param inside fails all =
    emitted_is passes d node call
    ∙ ap ending_of (checks_fail passes 0 (length call.args) param (ticks ∷ growing d call) (begun node call) (at_first param) (inside_params (length call.args) param inside) fails (λ j l m. all j m))
