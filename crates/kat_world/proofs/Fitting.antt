-- What a judged script does and asks fits the type.
use Rattle.std.proofs.Common.{◌≡◌, ℕ, zero, suc, List, [], ◌∷◌, Option, Some, None, All, ⊎_elim, refl, sym, subst}
use Rattle.std.specs.Prelude.{map, slice_get, MatchOption}
use Rattle.std.proofs.lemmas.List.Elements.{All-nil, All-cons}
use Rattle.kat_num.specs.Values.{HasSort}
use Rattle.kat_num.specs.declared.values.Value.{Value}
use Rattle.kat_expr.specs.Slots.{argument}
use Rattle.kat_script.specs.Facts.{done_in}
use Rattle.kat_script.specs.Judged.{AreArguments, AreJudged, HasOp, HasQuery, IsJudgedLine}
use Rattle.kat_script.specs.World.{World, after, first_world}
use Rattle.kat_script.specs.declared.script.Line.{Line}
use Rattle.kat_script.specs.declared.script.Line.TheVariants.{Do, Ship, Deliver, Ask, Show}
use Rattle.kat_seq.proofs.Sorting.{got_made}
use Rattle.kat_type.specs.Alike.{FitsType}
use Rattle.kat_type.specs.Lists.{Has}
use Rattle.kat_type.specs.Signatures.{op_sig, param_sorts, query_sig, signature_of}
use Rattle.kat_type.specs.Types.{QueryForm, TypeForm}
use Rattle.kat_type.specs.declared.done.Done.{Done}
use Rattle.kat_type.specs.declared.signatures.OpSig.{OpSig}
use Rattle.kat_type.specs.declared.signatures.QuerySig.{QuerySig}
use Rattle.kat_type.specs.declared.types.Param.{Param}
use Rattle.kat_world.specs.Fitting.{AsksFit, OperationsFit}

arguments_fit : (params : List Param) (args : List Value) → AreArguments (param_sorts params) args
    → (place : ℕ) (p : Param) → slice_get params place ≡ Some p → HasSort p.sort (argument args place)
arguments_fit [] args fit place p e = absurd (cc)
arguments_fit (q ∷ params) [] fit place p e = absurd fit
arguments_fit (q ∷ params) (value ∷ args) fit zero p e = let is : q ≡ p = cc in subst (λ (x : Param). HasSort x.sort value) is fit.0.fits
arguments_fit (q ∷ params) (value ∷ args) fit (suc place) p e = arguments_fit params args fit.1 place p e

there : {X : Type 0} (o : Option X) (P : X → Type 0) → MatchOption o ⊥ P → (x : X) × (o ≡ Some x) × P x
there None P h = absurd h
there (Some x) P h = (x, refl, h)

pub op_fits : (ty : TypeForm) (done : Done) → HasOp (signature_of ty) done.op done.args → FitsType ty done
op_fits ty done has =
    let found = there (slice_get (map op_sig ty.ops) done.op) (λ (x : OpSig). AreArguments x.sorts done.args) has in
    let made = got_made op_sig ty.ops done.op found.0 found.1 in
    record {
      operation = made.0;
      there = made.1;
      args = arguments_fit made.0.params done.args (subst (λ (x : OpSig). AreArguments x.sorts done.args) (sym made.2) found.2);
    }

pub query_fits : (ty : TypeForm) (query : ℕ) (args : List Value) → HasQuery (signature_of ty) query args
    → (q : QueryForm) × (slice_get ty.queries query ≡ Some q) × ((place : ℕ) (p : Param) → slice_get q.params place ≡ Some p → HasSort p.sort (argument args place))
query_fits ty query args has =
    let found = there (slice_get (map query_sig ty.queries) query) (λ (x : QuerySig). AreArguments x.sorts args) has in
    let made = got_made query_sig ty.queries query found.0 found.1 in
    (made.0, made.1, arguments_fit made.0.params args (subst (λ (x : QuerySig). AreArguments x.sorts args) (sym made.2) found.2))

lines_fit : (ty : TypeForm) (world : World) (lines : List Line) → AreJudged (signature_of ty) world lines → All (FitsType ty) (done_in lines)
lines_fit ty world [] judged = All-nil (FitsType ty)
lines_fit ty world (Do done ∷ lines) judged =
    All-cons (FitsType ty) done (done_in lines) (op_fits ty done judged.0.3) (lines_fit ty (after world (Do done)) lines judged.1)
lines_fit ty world (Ship r p ∷ lines) judged = lines_fit ty (after world (Ship r p)) lines judged.1
lines_fit ty world (Deliver p r ∷ lines) judged = lines_fit ty (after world (Deliver p r)) lines judged.1
lines_fit ty world (Ask r query args ∷ lines) judged = lines_fit ty (after world (Ask r query args)) lines judged.1
lines_fit ty world (Show r ∷ lines) judged = lines_fit ty (after world (Show r)) lines judged.1

pub operations_fit : OperationsFit
operations_fit ty script judged = lines_fit ty (first_world script.replicas) script.lines judged.lines

ask_fits : (ty : TypeForm) (world : World) (lines : List Line) → AreJudged (signature_of ty) world lines → (r query : ℕ) (args : List Value) → Has lines (Ask r query args)
    → (q : QueryForm) × (slice_get ty.queries query ≡ Some q) × ((place : ℕ) (p : Param) → slice_get q.params place ≡ Some p → HasSort p.sort (argument args place))
ask_fits ty world [] judged r query args has = absurd has
ask_fits ty world (line ∷ lines) judged r query args has = ⊎_elim
    (λ (is : line ≡ Ask r query args). query_fits ty query args (subst (λ (l : Line). IsJudgedLine (signature_of ty) world l) is judged.0).1)
    (λ (rest : Has lines (Ask r query args)). ask_fits ty (after world line) lines judged.1 r query args rest)
    has

pub asks_fit : AsksFit
asks_fit ty script judged r query args has = ask_fits ty (first_world script.replicas) script.lines judged.lines r query args has
