-- The calls of a text are few, and fit the signature.
use Rattle.std.proofs.Common.{◌≡◌, ℕ, suc, ◌+◌, ◌<◌, ◌≤◌, Bool, true, false, List, [], ◌∷◌, length, get_or, refl, sym, ap, subst, cond, arith, Option, None, Some, Result, Ok, Err}
use Rattle.std.specs.Prelude.{◌==◌, ◌&&◌, map, nat_le, MatchOption}
use Rattle.std.specs.List.{AllByRecursion}
use Rattle.std.proofs.lemmas.Bool.{leb-false}
use Rattle.std.proofs.lemmas.List.Quantifiers.{position-Some}
use Rattle.std.proofs.lemmas.Option.{slice_get-get_or}
use Rattle.kat_num.specs.declared.values.Sort.TheVariants as sort
use Rattle.kat_lex.specs.declared.lexer.Token.{Token}
use Rattle.kat_script.specs.Judged.{AreArguments, HasOp, HasQuery}
use Rattle.kat_script.specs.Rules.{fit, op_of, query_of, value_of}
use Rattle.kat_script.specs.Script.{text_lines}
use Rattle.kat_script.specs.declared.error.ScriptError.{ScriptError}
use Rattle.kat_script.specs.declared.rules.TheConstants.{LINE_LIMIT}
use Rattle.kat_script.specs.declared.said.Constant.{Constant}
use Rattle.kat_script.specs.declared.said.Said.{Said}
use Rattle.kat_script.specs.declared.said.Said.TheVariants.{Replicas, Does, Ships, Delivers, Asks, Shows}
use Rattle.kat_script.proofs.Arguments.{AreConstantsRead, AreRead, AreReadLines, are_arguments, args_of, lines_read, said_read, tokens_read}
use Rattle.kat_type.specs.declared.signatures.OpSig.{OpSig}
use Rattle.kat_type.specs.declared.signatures.QuerySig.{QuerySig}
use Rattle.kat_type.specs.declared.signatures.Signature.{Signature}
use Rattle.kat_actions.specs.Grammar.{Calls, called_by}
use Rattle.kat_actions.specs.Texts.{AreCallsOf, FitSignature, FitsSignature, Reads, blank, breaks, call_of, ends, item_of, judged_item, keeps, unreadable}
use Rattle.kat_actions.specs.declared.calls.Call.{Call}
use Rattle.kat_actions.specs.declared.calls.Called.{Called}
use Rattle.kat_actions.specs.declared.calls.Verb.{Verb}
use Rattle.kat_actions.specs.declared.calls.Verb.TheVariants.{Do, Ask}
use Rattle.kat_actions.proofs.Calling.{at_replica, read_there}

both_true : (a b : Bool) → (a && b) ≡ true → (a ≡ true) × (b ≡ true)
both_true true true e = (refl, refl)
both_true true false e = absurd cc
both_true false b e = absurd cc

abbrev no_op : OpSig
no_op = record { name = 0; sorts = [] }

op_there : (sig : Signature) (name : ℕ) (args : List Constant) (item : ℕ) → op_of sig name args ≡ Some item → AreConstantsRead args → HasOp sig item (map value_of args)
op_there sig name args item e h =
    let found = position-Some (λ (op : OpSig). (op.name == name) && fit args op.sorts) sig.ops item no_op e in
    let op = get_or sig.ops item no_op in
    let b = both_true (op.name == name) (fit args op.sorts) found.1 in
    subst (λ (o : Option OpSig). MatchOption o ⊥ (λ found. AreArguments found.sorts (map value_of args))) (sym (slice_get-get_or sig.ops item no_op found.0))
    (are_arguments args op.sorts b.1 h)

abbrev no_query : QuerySig
no_query = record { name = 0; sorts = []; sort = sort.Nat }

query_there : (sig : Signature) (name : ℕ) (args : List Constant) (item : ℕ) → query_of sig name args ≡ Some item → AreConstantsRead args → HasQuery sig item (map value_of args)
query_there sig name args item e h =
    let found = position-Some (λ (query : QuerySig). (query.name == name) && fit args query.sorts) sig.queries item no_query e in
    let query = get_or sig.queries item no_query in
    let b = both_true (query.name == name) (fit args query.sorts) found.1 in
    subst (λ (o : Option QuerySig). MatchOption o ⊥ (λ found. AreArguments found.sorts (map value_of args))) (sym (slice_get-get_or sig.queries item no_query found.0))
    (are_arguments args query.sorts b.1 h)

item_there : (verb : Verb) (sig : Signature) (line item : ℕ) (called : Called) → item_of verb sig called ≡ Some item → AreConstantsRead called.args → FitsSignature verb sig (call_of line item called)
item_there Do sig line item called e h = op_there sig called.name called.args item e h
item_there Ask sig line item called e h = query_there sig called.name called.args item e h

kept_by : (b : Bool) (count some item : ℕ) → nat_le LINE_LIMIT count ≡ b → cond {A = Result ℕ ℕ} b (Err 15) (Ok some) ≡ Ok item → (Some some ≡ Some item) × (count < LINE_LIMIT)
kept_by true count some item h e = absurd cc
kept_by false count some item h e = (let same : some ≡ item = cc in ap Some same, leb-false LINE_LIMIT count h)

kept : (count : ℕ) (o : Option ℕ) (item : ℕ) → judged_item count o ≡ Ok item → (o ≡ Some item) × (count < LINE_LIMIT)
kept count None item e = absurd cc
kept count (Some some) item e = kept_by (nat_le LINE_LIMIT count) count some item refl e

abbrev args_in : Option Called → List Constant
args_in None = []
args_in (Some called) = called.args

-- the arguments of a line are those of tokens
same_args : (verb : Verb) (said : Said) (called : Called) → called_by verb (Some said) ≡ Some called → args_of said ≡ called.args
same_args Do (Replicas n) called e = absurd cc
same_args Do (Does r op args None) called e = ap args_in e
same_args Do (Does r op args (Some time)) called e = absurd cc
same_args Do (Ships r packet) called e = absurd cc
same_args Do (Delivers packet r) called e = absurd cc
same_args Do (Asks r query args) called e = absurd cc
same_args Do (Shows r) called e = absurd cc
same_args Ask (Replicas n) called e = absurd cc
same_args Ask (Does r op args time) called e = absurd cc
same_args Ask (Ships r packet) called e = absurd cc
same_args Ask (Delivers packet r) called e = absurd cc
same_args Ask (Asks r query args) called e = ap args_in e
same_args Ask (Shows r) called e = absurd cc

there_read : (tokens : List Token) → AreRead tokens → AreRead (at_replica tokens)
there_read [] h = tt
there_read (head ∷ tokens) h = (h.0, (omega arith, h.1))

args_read : (verb : Verb) (tokens : List Token) (called : Called) → AreRead tokens → Calls verb tokens called → AreConstantsRead called.args
args_read verb tokens called h c =
    let there = read_there verb tokens called c in
    subst AreConstantsRead (same_args verb there.0 called there.2) (said_read (at_replica tokens) there.0 (there_read tokens h) there.1)

record Fit (verb : Verb) (sig : Signature) (count : ℕ) (calls : List Call) : Type 0 where
  few : count + length calls ≤ LINE_LIMIT
  each : AllByRecursion (FitsSignature verb sig) calls

none_fit : (count limit : ℕ) → count ≤ limit → count + 0 ≤ limit
none_fit count limit h = omega arith

behind_one : (count limit : ℕ) → count < limit → count + 1 ≤ limit
behind_one count limit h = omega arith

with_one : (count more limit : ℕ) → count + 1 + more ≤ limit → count + suc more ≤ limit
with_one count more limit h = omega arith

fit_lines : (verb : Verb) (sig : Signature) (number count : ℕ) (rest : List (List Token)) (calls : List Call) (end : Option ScriptError) → Reads verb sig number count rest calls end → AreReadLines rest
    → count ≤ LINE_LIMIT → Fit verb sig count calls
fit_lines verb sig number count _ _ _ (ends) h few = record { few = none_fit count LINE_LIMIT few; each = tt }
fit_lines verb sig number count _ calls end (blank {rest = rest} r) h few = fit_lines verb sig (number + 1) count rest calls end r h.1 few
fit_lines verb sig number count _ _ _ (unreadable some none) h few = record { few = none_fit count LINE_LIMIT few; each = tt }
fit_lines verb sig number count _ _ _ (breaks called rule c e) h few = record { few = none_fit count LINE_LIMIT few; each = tt }
fit_lines verb sig number count _ _ end (keeps {tokens = tokens} {rest = rest} {calls = calls} called item c e r) h few =
    let k = kept count (item_of verb sig called) item e in
    let more = fit_lines verb sig (number + 1) (count + 1) rest calls end r h.1 (behind_one count LINE_LIMIT k.1) in
    record {
      few = with_one count (length calls) LINE_LIMIT more.few;
      each = (item_there verb sig number item called k.0 (args_read verb tokens called h.0 c), more.each);
    }

pub calls_fit : (verb : Verb) (sig : Signature) (text : List ℕ) (calls : List Call) → AreCallsOf verb sig text calls → FitSignature verb sig calls
calls_fit verb sig text calls a =
    let fits = fit_lines verb sig 1 0 (text_lines a.tokens) calls None a.read (lines_read a.tokens (tokens_read text 0 a.tokens None a.lexed)) (omega arith) in
    record { few = let few = fits.few in omega (arith, few); each = fits.each }
