-- The conditions of a type, a design and a relation, and their facts.
use Rattle.std.specs.Prelude.{ℕ, suc, ◌-◌, List, [], ◌∷◌, ◌++◌, length, Option, None, Some, slice_get}
use Rattle.kat_num.specs.declared.values.Sort.{Sort}
use Rattle.kat_form.specs.Facts.{Fact}
use Rattle.kat_design.specs.Designs.{DesignForm}
use Rattle.kat_relation.specs.Keys.{conjunct_key}
use Rattle.kat_relation.specs.declared.relations.Conjunct.{Conjunct}
use Rattle.kat_type.specs.Types.{OperationForm, QueryForm, TypeForm}
use Rattle.kat_type.specs.declared.types.Param.{Param}
use Rattle.kat_claims.specs.Claims.{answers_read, claim_read}
use Rattle.kat_claims.specs.Groups.{denied_claim, keys_stated, last_read, naturals_stated, order_stated, relation_stated, start_read, stated}
use Rattle.kat_claims.specs.Places.{all_looked_at, all_natural, claim_keys, keys_of, natural_keys, spots_of}
use Rattle.kat_symbols.specs.Readers.{Reader, fresh}
use Rattle.kat_claims.specs.States.{old_side, start_side}
use Rattle.kat_vc.specs.Steps.{after_side}
use Rattle.kat_symbols.specs.declared.names.Instance.{Instance}
use Rattle.kat_symbols.specs.declared.names.Instance.TheVariants.{Claim}

-- A condition: a conjunct holds at the start; an operation keeps it; a query has the same answers on both sides.
pub data Condition : Type 0 where
  start : Conjunct → Condition
  step : ℕ → OperationForm → Conjunct → Condition
  answers : ℕ → QueryForm → Condition

abbrev pub starts : List Conjunct → List Condition
starts [] = []
starts (c ∷ cs) = start c ∷ starts cs

abbrev pub steps : ℕ → OperationForm → List Conjunct → List Condition
steps o op [] = []
steps o op (c ∷ cs) = step o op c ∷ steps o op cs

abbrev pub steps_of_each : ℕ → List OperationForm → List Conjunct → List Condition
steps_of_each o [] relation = []
steps_of_each o (op ∷ ops) relation = steps o op relation ++ steps_of_each (suc o) ops relation

abbrev pub answers_of_each : ℕ → List QueryForm → List Condition
answers_of_each q [] = []
answers_of_each q (query ∷ queries) = answers q query ∷ answers_of_each (suc q) queries

-- In order: the start for each conjunct; for each operation each conjunct; the answers for each query.
abbrev pub conditions : TypeForm → List Conjunct → List Condition
conditions ty relation = starts relation ++ steps_of_each 0 ty.ops relation ++ answers_of_each 0 ty.queries

-- where a claim is looked at: at its own key
abbrev pub claim_at : Option Sort → Option Instance
claim_at None = None
claim_at (Some s) = Some Claim

-- What is known of any state before an operation or a query, at some keys: the start, the sorts, and the last operation.
abbrev pub state_stated : TypeForm → DesignForm → Option Sort → List Param → Reader → Reader
state_stated ty design claim params r =
    stated (last_read ty.ops (naturals_stated (all_natural ty design claim params)
    (stated (start_read (old_side ty design) (start_side ty design) (all_looked_at (spots_of ty design) (keys_of claim params)) r))))

-- what keys have in common, and the relation there
abbrev pub kept_stated : TypeForm → DesignForm → List Conjunct → Option Sort → List Param → Reader → Reader
kept_stated ty design relation claim params r =
    relation_stated ty design (old_side ty design) (keys_of claim params) relation (keys_stated (old_side ty design) (spots_of ty design) (keys_of claim params) r)

abbrev pub start_stated : TypeForm → DesignForm → Conjunct → Option Sort → Reader → Reader
start_stated ty design c claim r =
    denied_claim (claim_read ty design (start_side ty design) c (claim_at claim) (naturals_stated (natural_keys (claim_keys claim)) r))

abbrev pub step_stated : TypeForm → DesignForm → List Conjunct → ℕ → OperationForm → Conjunct → Option Sort → Reader → Reader
step_stated ty design relation o op c claim r =
    denied_claim (claim_read ty design (after_side ty design o op) c (claim_at claim) (kept_stated ty design relation claim op.params
    (order_stated (after_side ty design o op) (old_side ty design) op.ranks (state_stated ty design claim op.params r))))

abbrev pub answers_stated : TypeForm → DesignForm → List Conjunct → ℕ → QueryForm → Reader → Reader
answers_stated ty design relation q query r =
    denied_claim (answers_read (old_side ty design) None (Some query) (slice_get design.asks q)
    (kept_stated ty design relation None query.params (state_stated ty design None query.params r)))

-- a condition's facts: if they hold nowhere, the condition holds. The converse isn't so: they look at a few keys alone.
abbrev pub condition_stated : TypeForm → DesignForm → List Conjunct → Condition → Reader → Reader
condition_stated ty design relation (start c) r = start_stated ty design c (conjunct_key ty design.components c) r
condition_stated ty design relation (step o op c) r = step_stated ty design relation o op c (conjunct_key ty design.components c) r
condition_stated ty design relation (answers q query) r = answers_stated ty design relation q query r

abbrev pub facts_by : TypeForm → DesignForm → List Conjunct → Option Condition → List Fact
facts_by ty design relation None = []
facts_by ty design relation (Some condition) = (condition_stated ty design relation condition fresh).facts

-- the number of conditions, and the facts of the condition with a number, from 1; there are none of a condition that isn't there
abbrev pub condition_count : TypeForm → List Conjunct → ℕ
condition_count ty relation = length (conditions ty relation)

abbrev pub facts_of_condition : TypeForm → DesignForm → List Conjunct → ℕ → List Fact
facts_of_condition ty design relation k = facts_by ty design relation (slice_get (conditions ty relation) (k - 1))
