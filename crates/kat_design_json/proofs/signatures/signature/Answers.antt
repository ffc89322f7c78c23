use Rattle.std.proofs.Common.{◌≡◌, ◌∙◌, ℕ, List, [], ◌++◌, map, ap, subst}
use Rattle.kat_design.specs.Faults.{Path}
use Rattle.serde_json.specs.Data.{Data}
use Rattle.serde_json.specs.View.{view}
use Rattle.kat_type.specs.declared.signatures.OpSig.{OpSig}
use Rattle.kat_design_json.specs.DesignFaults.{few_items_faults, names_of, operation_faults, query_faults}
use Rattle.kat_json.specs.FormFaults.{part_faults, past_faults}
use Rattle.kat_json.specs.Lists.{at_place, elements_of}
use Rattle.kat_json.specs.Parts.{list_said, part_said}
use Rattle.kat_design_json.specs.DesignParts.{operation_said}
use Rattle.kat_json.specs.Refused.{IsRefused}
use Rattle.kat_design_json.proofs.NamedItems.{names_said}
use Rattle.kat_json.proofs.Refusing.{all_none, handed, refused_front, refused_second, refused_third}
use Rattle.kat_design_json.proofs.signatures.signature.Goals as goal

abbrev Ops : List ℕ → List Data → List Path
Ops used ds = part_faults (few_items_faults operation_faults used) 0 ds

abbrev Queries : List ℕ → List Data → List Path
Queries used ds = part_faults (few_items_faults query_faults used) 1 ds

-- the names that were used are those of the operations
used_names : (ds : List Data) (used : List ℕ) (ops slice : List OpSig) → used ≡ map (λ (op : OpSig). op.name) slice → slice ≡ ops
    → ops ≡ part_said (list_said operation_said) 0 ds → used ≡ names_of (at_place ds 0)
used_names ds used ops slice names same said =
    names ∙ ap (λ xs. map (λ (op : OpSig). op.name) xs) (same ∙ said) ∙ names_said (elements_of (at_place ds 0))

pub returns-in_err-ops-clause-refused : goal.returns-in_err-ops-clause-refused
returns-in_err-ops-clause-refused c =
    let ds = map view c.args.parts.now in
    let e = c.in_err-ops.field-0.0 in
    let refused = subst (λ (us : List ℕ). IsRefused (Ops us ds) e) c.new.ensures.items c.in_err-ops.ensures.refused in
    handed c.from_residual.result e _ c.from_residual.ensures.1
    (refused_front (Ops [] ds ++ Queries (names_of (at_place ds 0)) ds) (past_faults 2 ds) e (refused_front (Ops [] ds) (Queries (names_of (at_place ds 0)) ds) e refused))

pub returns-in_err-queries-clause-refused : goal.returns-in_err-queries-clause-refused
returns-in_err-queries-clause-refused c =
    let ds = map view c.args.parts.now in
    let e = c.in_err-queries.field-0.0 in
    let none = subst (λ (us : List ℕ). Ops us ds ≡ []) c.new.ensures.items c.in_ok-ops.ensures.said.0 in
    let names = used_names ds c.in_ok-used.used.items c.in_ok-ops.ops c.as_slice.result.now c.in_ok-used.ensures c.as_slice.ensures c.in_ok-ops.ensures.said.1 in
    let refused = subst (λ (us : List ℕ). IsRefused (Queries us ds) e) names c.in_err-queries.ensures.refused in
    handed c.from_residual-in_err-queries.result e _ c.from_residual-in_err-queries.ensures.1
    (refused_second (Ops [] ds) (Queries (names_of (at_place ds 0)) ds) (past_faults 2 ds) e none refused)

pub returns-in_err-past-clause-refused : goal.returns-in_err-past-clause-refused
returns-in_err-past-clause-refused c =
    let ds = map view c.args.parts.now in
    let e = c.in_err-past.field-0.0 in
    let none = subst (λ (us : List ℕ). Ops us ds ≡ []) c.new.ensures.items c.in_ok-ops.ensures.said.0 in
    let names = used_names ds c.in_ok-used.used.items c.in_ok-ops.ops c.as_slice.result.now c.in_ok-used.ensures c.as_slice.ensures c.in_ok-ops.ensures.said.1 in
    let empty = subst (λ (us : List ℕ). Queries us ds ≡ []) names c.in_ok-queries.ensures.said.0 in
    handed c.from_residual-in_err-past.result e _ c.from_residual-in_err-past.ensures.1
    (refused_third (Ops [] ds) (Queries (names_of (at_place ds 0)) ds) (past_faults 2 ds) e none empty c.in_err-past.ensures.refused)

pub returns-clause-said : goal.returns-clause-said
returns-clause-said c =
    let ds = map view c.args.parts.now in
    let none = subst (λ (us : List ℕ). Ops us ds ≡ []) c.new.ensures.items c.in_ok-ops.ensures.said.0 in
    let names = used_names ds c.in_ok-used.used.items c.in_ok-ops.ops c.as_slice.result.now c.in_ok-used.ensures c.as_slice.ensures c.in_ok-ops.ensures.said.1 in
    let empty = subst (λ (us : List ℕ). Queries us ds ≡ []) names c.in_ok-queries.ensures.said.0 in
    let ops = c.in_ok-ops.ensures.said.1 in
    let queries = c.in_ok-queries.ensures.said.1 in
    (all_none (Ops [] ds) (Queries (names_of (at_place ds 0)) ds) (past_faults 2 ds) none empty c.in_ok-past.ensures.done, λ i. record { ops = ops i; queries = queries i })
