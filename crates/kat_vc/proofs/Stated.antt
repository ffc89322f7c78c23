-- What a step states, from what its parts state.
use Rattle.std.proofs.Common.{◌≡◌, ℕ, List, Option, None, Some, Result, Ok, Err, IfOk, ap, ◌∙◌}
use Rattle.std.specs.Prelude.{slice_get}
use Rattle.kat_num.specs.declared.values.Sort.{Sort}
use Rattle.kat_form.specs.Facts.{Fact}
use Rattle.kat_design.specs.Designs.{AskForm, DesignForm}
use Rattle.kat_relation.specs.declared.relations.Conjunct.{Conjunct}
use Rattle.kat_type.specs.Types.{OperationForm, QueryForm, TypeForm}
use Rattle.kat_type.specs.declared.types.Param.{Param}
use Rattle.kat_type.specs.declared.types.Rank.{Rank}
use Rattle.kat_claims.specs.Claims.{answers_read, claim_read}
use Rattle.kat_vc.specs.Conditions.{Condition, answers_stated, claim_at, condition_stated, kept_stated, state_stated, step_stated}
use Rattle.kat_symbols.specs.Connectives.{denied}
use Rattle.kat_claims.specs.Groups.{denied_claim, order_stated}
use Rattle.kat_symbols.specs.Readers.{Reader, state}
use Rattle.kat_symbols.specs.Sides.{Side}
use Rattle.kat_claims.specs.States.{old_side}
use Rattle.kat_vc.specs.Steps.{after_side}
use Rattle.kat_symbols.specs.declared.names.Instance.{Instance}

pub before_is : {E U : Type 0} (result : Result U E) (ty : TypeForm) (design : DesignForm) (cs : List Conjunct) (key : Option Sort) (after old : Side) (params given : List Param) (ranks listed : List Rank) (r known ordered left : Reader)
    → given ≡ params → listed ≡ ranks
    → known ≡ state_stated ty design key given r
    → ordered ≡ order_stated after old listed known
    → IfOk result (λ u. left ≡ kept_stated ty design cs key given ordered)
    → IfOk result (λ u. left ≡ kept_stated ty design cs key params (order_stated after old ranks (state_stated ty design key params r)))
before_is (Ok u) ty design cs key after old params given ranks listed r known ordered left p q first second third =
    third
    ∙ ap (λ (ps : List Param). kept_stated ty design cs key ps ordered) p
    ∙ ap (kept_stated ty design cs key params) (second ∙ ap (λ (rs : List Rank). order_stated after old rs known) q
    ∙ ap (order_stated after old ranks) (first ∙ ap (λ (ps : List Param). state_stated ty design key ps r) p))
before_is (Err e) ty design cs key after old params given ranks listed r known ordered left p q first second third = tt

pub step_is : {E U : Type 0} (result : Result U E) (ty : TypeForm) (design : DesignForm) (cs : List Conjunct) (n : ℕ) (op : OperationForm) (claim : Conjunct) (wanted key : Option Sort) (at : Option Instance) (held : Fact) (r before after left : Reader)
    → key ≡ wanted → at ≡ claim_at key
    → before ≡ kept_stated ty design cs key op.params (order_stated (after_side ty design n op) (old_side ty design) op.ranks (state_stated ty design key op.params r))
    → (held ≡ (claim_read ty design (after_side ty design n op) claim at before).0) × (after ≡ (claim_read ty design (after_side ty design n op) claim at before).1)
    → IfOk result (λ u. left ≡ denied_claim (held, after))
    → IfOk result (λ u. left ≡ step_stated ty design cs n op claim wanted r)
step_is (Ok u) ty design cs n op claim wanted key at held r before after left k a b h d =
    let side = after_side ty design n op in
    let start = kept_stated ty design cs key op.params (order_stated side (old_side ty design) op.ranks (state_stated ty design key op.params r)) in
    let whole : claim_read ty design side claim at before ≡ claim_read ty design side claim (claim_at key) start =
    ap (λ (i : Option Instance). claim_read ty design side claim i before) a ∙ ap (claim_read ty design side claim (claim_at key)) b in
    let fact : held ≡ (claim_read ty design side claim (claim_at key) start).0 = h.0 ∙ ap (λ (x : Fact × Reader). x.0) whole in
    let rest : after ≡ (claim_read ty design side claim (claim_at key) start).1 = h.1 ∙ ap (λ (x : Fact × Reader). x.1) whole in
    let stated : left ≡ step_stated ty design cs n op claim key r =
    d ∙ ap (λ (f : Fact). state (denied f) after) fact ∙ ap (state (denied (claim_read ty design side claim (claim_at key) start).0)) rest in
    stated ∙ ap (λ (s : Option Sort). step_stated ty design cs n op claim s r) k
step_is (Err e) ty design cs n op claim wanted key at held r before after left k a b h d = tt

pub stated_as : {E U : Type 0} (result : Result U E) (ty : TypeForm) (design : DesignForm) (cs : List Conjunct) (given wanted : Condition) (r left : Reader)
    → given ≡ wanted
    → IfOk result (λ u. left ≡ condition_stated ty design cs given r)
    → IfOk result (λ u. left ≡ condition_stated ty design cs wanted r)
stated_as (Ok u) ty design cs given wanted r left e was = was ∙ ap (λ (c : Condition). condition_stated ty design cs c r) e
stated_as (Err e) ty design cs given wanted r left e' was = tt

pub answers_is : {E U : Type 0} (result : Result U E) (ty : TypeForm) (design : DesignForm) (cs : List Conjunct) (n : ℕ) (query : QueryForm) (given : List Param) (ask : Option AskForm) (held : Fact) (r known kept after left : Reader)
    → given ≡ query.params → ask ≡ slice_get design.asks n
    → known ≡ state_stated ty design None given r
    → kept ≡ kept_stated ty design cs None given known
    → (held ≡ (answers_read (old_side ty design) None (Some query) ask kept).0) × (after ≡ (answers_read (old_side ty design) None (Some query) ask kept).1)
    → IfOk result (λ u. left ≡ denied_claim (held, after))
    → IfOk result (λ u. left ≡ answers_stated ty design cs n query r)
answers_is (Ok u) ty design cs n query given ask held r known kept after left p a s k h d =
    let read = answers_read (old_side ty design) None (Some query) in
    let start = kept_stated ty design cs None query.params (state_stated ty design None query.params r) in
    let before : kept ≡ start =
    k ∙ ap (kept_stated ty design cs None given) s ∙ ap (λ (ps : List Param). kept_stated ty design cs None ps (state_stated ty design None ps r)) p in
    let whole : read ask kept ≡ read (slice_get design.asks n) start = ap (λ (o : Option AskForm). read o kept) a ∙ ap (read (slice_get design.asks n)) before in
    let fact : held ≡ (read (slice_get design.asks n) start).0 = h.0 ∙ ap (λ (x : Fact × Reader). x.0) whole in
    let rest : after ≡ (read (slice_get design.asks n) start).1 = h.1 ∙ ap (λ (x : Fact × Reader). x.1) whole in
    d ∙ ap (λ (f : Fact). state (denied f) after) fact ∙ ap (state (denied (read (slice_get design.asks n) start).0)) rest
answers_is (Err e) ty design cs n query given ask held r known kept after left p a s k h d = tt
