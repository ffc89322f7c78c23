-- What was written while the lines of a script went by.
use Rattle.std.proofs.Common.{◌≡◌, ℕ, suc, ◌+◌, ◌-◌, ◌^◌, ◌<◌, ◌≤◌, ◌⊎◌, inl, inr, ⊎_elim, List, [], ◌∷◌, ◌++◌, length, get_or, drop, drop-cons, add-one, refl, sym, ◌∙◌, ap, subst, append_assoc, append-nil, arith, Option, None, Some, Result, Ok, Err}
use Rattle.std.specs.Prelude.{◌↔◌, All, OnErr, MatchOption, slice_get}
use Rattle.std.proofs.lemmas.List.Elements.{All-cons}
use Rattle.std.proofs.lemmas.List.Sorted.{All-permutation, length_permutation}
use Rattle.kat_num.specs.Values.{IsArgument}
use Rattle.kat_num.specs.declared.values.Sort.{Sort}
use Rattle.kat_num.specs.declared.values.TheConstants.{NUMBER_LIMIT}
use Rattle.kat_num.specs.declared.values.Value.{Value}
use Rattle.kat_num.specs.declared.values.Value.TheVariants.{Bool as Truth, Num, Name}
use Rattle.kat_expr.specs.Limits.{IsAtMost}
use Rattle.kat_expr.proofs.Limits.{more_value}
use Rattle.kat_io.specs.Outside.{grown}
use Rattle.kat_script.specs.Facts.{HoldsFronts, done_in}
use Rattle.kat_script.specs.Judged.{AreArguments, AreJudged, HasOp, HasQuery, IsJudged, IsJudgedLine}
use Rattle.kat_script.specs.World.{World, after, first_world}
use Rattle.kat_script.specs.declared.script.Line.{Line}
use Rattle.kat_script.specs.declared.script.Line.TheVariants.{Do, Ship, Deliver, Ask, Show}
use Rattle.kat_script.specs.declared.script.Script.{Script}
use Rattle.kat_script.proofs.Worlds.{facts_first, facts_line, facts_of_worlds}
use Rattle.kat_seq.specs.Sizes.{HaveSmallArguments}
use Rattle.kat_seq.specs.States.{answer_of, started, stepped_by}
use Rattle.kat_type.specs.Arrangements.{AreApart}
use Rattle.kat_type.specs.Lists.{Has, IsOnce}
use Rattle.kat_type.specs.Signatures.{signature_of}
use Rattle.kat_type.specs.Types.{TypeForm}
use Rattle.kat_type.specs.declared.done.Done.{Done}
use Rattle.kat_type.specs.declared.signatures.OpSig.{OpSig}
use Rattle.kat_type.specs.declared.signatures.QuerySig.{QuerySig}
use Rattle.kat_type.specs.declared.signatures.Signature.{Signature}
use Rattle.kat_type.proofs.Lists.{has_either, has_front, has_behind, once_last}
use Rattle.kat_world.specs.Model.{model_line, model_text}
use Rattle.kat_world.specs.Texts.{ask_text}
use Rattle.kat_world.specs.Tracked.{AsksLittle, IsOrder, Times, Tracks, first_times, followed, printed}
use Rattle.kat_world.specs.Written.{IsCutShort}
use Rattle.kat_world.proofs.Knowing.{known_arranged}
use Rattle.kat_world.proofs.Tracking.{done_with, not_done, tracks_first, tracks_line}

-- writes join
pub grown-grown : (told : Option (List ℕ)) (xs ys : List ℕ) → grown (grown told xs) ys ≡ grown told (xs ++ ys)
grown-grown None xs ys = refl
grown-grown (Some told) xs ys = ap Some (append_assoc told xs ys)

pub grown-nil : (told : Option (List ℕ)) → told ≡ grown told []
grown-nil None = refl
grown-nil (Some told) = ap Some (sym (append-nil told))

-- all operations of the lines are there once, and time and replica tell them apart
once_behind : (sig : Signature) (past : List Done) (world : World) (lines : List Line) → HoldsFronts past world → AreJudged sig world lines → IsOnce past
    → IsOnce (past ++ done_in lines)
once_behind sig past world [] f judged once = subst (λ (ds : List Done). IsOnce ds) (sym (append-nil past)) once
once_behind sig past world (Do done ∷ lines) f judged once =
    subst (λ (ds : List Done). IsOnce ds) (append_assoc past (done ∷ []) (done_in lines))
    (once_behind sig (past ++ done ∷ []) (after world (Do done)) lines (facts_line sig past world (Do done) f judged.0) judged.1
    (once_last past done once (λ has. not_done past world done f judged.0.0.0 judged.0.1 has)))
once_behind sig past world (Ship r p ∷ lines) f judged once = once_behind sig past (after world (Ship r p)) lines (facts_line sig past world (Ship r p) f judged.0) judged.1 once
once_behind sig past world (Deliver p r ∷ lines) f judged once =
    once_behind sig past (after world (Deliver p r)) lines (facts_line sig past world (Deliver p r) f judged.0) judged.1 once
once_behind sig past world (Ask r q args ∷ lines) f judged once = once_behind sig past world lines f judged.1 once
once_behind sig past world (Show r ∷ lines) f judged once = once_behind sig past world lines f judged.1 once

all_once : (sig : Signature) (n : ℕ) (lines : List Line) → AreJudged sig (first_world n) lines → IsOnce (done_in lines)
all_once sig n lines judged = once_behind sig [] (first_world n) lines (facts_first n) judged tt

all_apart : (sig : Signature) (n : ℕ) (lines : List Line) → AreJudged sig (first_world n) lines → AreApart (done_in lines)
all_apart sig n lines judged =
    (facts_of_worlds sig n lines [] (subst (λ (ls : List Line). AreJudged sig (first_world n) ls) (sym (append-nil lines)) judged)).apart

-- arguments that fit are within the limit
pub argument_small : (s : Sort) (value : Value) → IsArgument s value → IsAtMost NUMBER_LIMIT value
argument_small s (Truth b) h = tt
argument_small s (Num z) h = h.within
argument_small s (Name n) h = tt

pub arguments_small : (sorts : List Sort) (values : List Value) → AreArguments sorts values → All (IsAtMost NUMBER_LIMIT) values
arguments_small [] [] h = λ k d l. absurd (omega arith)
arguments_small [] (v ∷ values) h = absurd h
arguments_small (s ∷ sorts) [] h = absurd h
arguments_small (s ∷ sorts) (v ∷ values) h = All-cons (IsAtMost NUMBER_LIMIT) v values (argument_small s v h.0) (arguments_small sorts values h.1)

op_small : (sig : Signature) (op : ℕ) (args : List Value) → HasOp sig op args → All (IsAtMost NUMBER_LIMIT) args
op_small sig op args h = found (slice_get sig.ops op) h where
  found : (o : Option OpSig) → MatchOption o ⊥ (λ (it : OpSig). AreArguments it.sorts args) → All (IsAtMost NUMBER_LIMIT) args
  found None h = absurd h
  found (Some it) h = arguments_small it.sorts args h

pub query_small : (sig : Signature) (query : ℕ) (args : List Value) → HasQuery sig query args → All (IsAtMost NUMBER_LIMIT) args
query_small sig query args h = found (slice_get sig.queries query) h where
  found : (o : Option QuerySig) → MatchOption o ⊥ (λ (it : QuerySig). AreArguments it.sorts args) → All (IsAtMost NUMBER_LIMIT) args
  found None h = absurd h
  found (Some it) h = arguments_small it.sorts args h

done_small : (sig : Signature) (world : World) (lines : List Line) → AreJudged sig world lines → HaveSmallArguments (done_in lines)
done_small sig world [] judged = λ k d l. absurd (omega arith)
done_small sig world (Do done ∷ lines) judged =
    All-cons (λ (d : Done). All (IsAtMost NUMBER_LIMIT) d.args) done (done_in lines) (op_small sig done.op done.args judged.0.3)
    (done_small sig (after world (Do done)) lines judged.1)
done_small sig world (Ship r p ∷ lines) judged = done_small sig (after world (Ship r p)) lines judged.1
done_small sig world (Deliver p r ∷ lines) judged = done_small sig (after world (Deliver p r)) lines judged.1
done_small sig world (Ask r q args ∷ lines) judged = done_small sig world lines judged.1
done_small sig world (Show r ∷ lines) judged = done_small sig world lines judged.1

done_long : (lines : List Line) → length (done_in lines) ≤ length lines
done_long [] = omega arith
done_long (Do done ∷ lines) = (let h = done_long lines in omega arith)
done_long (Ship r p ∷ lines) = (let h = done_long lines in omega arith)
done_long (Deliver p r ∷ lines) = (let h = done_long lines in omega arith)
done_long (Ask r q args ∷ lines) = (let h = done_long lines in omega arith)
done_long (Show r ∷ lines) = (let h = done_long lines in omega arith)

-- of a judged script, the operations in order have small arguments, and aren't too many
pub order_small : (ty : TypeForm) (script : Script) (order : List Done) → IsJudged (signature_of ty) script → IsOrder ty script.lines order → HaveSmallArguments order
order_small ty script order judged o =
    All-permutation (λ (d : Done). All (IsAtMost NUMBER_LIMIT) d.args) (done_in script.lines) order o.moved
    (done_small (signature_of ty) (first_world script.replicas) script.lines judged.lines)

pub order_few : (ty : TypeForm) (script : Script) (order : List Done) → IsJudged (signature_of ty) script → IsOrder ty script.lines order → length order ≤ 100_000
order_few ty script order judged o =
    let same = length_permutation (done_in script.lines) order o.moved in
    let long = done_long script.lines in
    let few = judged.few_lines in
    omega arith

asks_little : (sig : Signature) (world : World) (line : Line) → IsJudgedLine sig world line → AsksLittle line
asks_little sig world (Ask r query args) fit = λ k d l. more_value NUMBER_LIMIT (2 ^ 100) (get_or args k d) (omega arith) (query_small sig query args fit.1 k d l)
asks_little sig world (Do done) fit = tt
asks_little sig world (Ship r p) fit = tt
asks_little sig world (Deliver p r) fit = tt
asks_little sig world (Show r) fit = tt

-- the lines before the ones that are left went by: what they print was written, and the times tell what was absorbed
pub record Going (ty : TypeForm) (n : ℕ) (lines left : List Line) (t : Times) (old now : Option (List ℕ)) : Type 0 where
  pub world : World
  pub past : List Done
  pub facts : HoldsFronts past world
  pub judged : AreJudged (signature_of ty) world left
  pub tracks : Tracks past world t
  pub told : (one : Done) → Has (done_in lines) one ↔ (Has past one ⊎ Has (done_in left) one)
  pub written : List ℕ
  pub text : model_text ty (first_world n) lines ≡ written ++ model_text ty world left
  pub wrote : now ≡ grown old written

pub goes_first : (ty : TypeForm) (script : Script) (t : Times) (old : Option (List ℕ)) → IsJudged (signature_of ty) script → t ≡ first_times script.replicas
    → Going ty script.replicas script.lines script.lines t old old
goes_first ty script t old judged e = record {
  world = first_world script.replicas;
  past = [];
  facts = facts_first script.replicas;
  judged = judged.lines;
  tracks = subst (λ (ts : Times). Tracks [] (first_world script.replicas) ts) (sym e) (tracks_first script.replicas);
  told = λ one. (λ has. inr has, λ either. ⊎_elim (λ none. absurd none) (λ has. has) either);
  written = [];
  text = refl;
  wrote = grown-nil old;
}

-- what a line prints is the line of the model
printed_line : (ty : TypeForm) (n : ℕ) (lines left : List Line) (order past : List Done) (world : World) (t : Times) (line : Line) → IsOnce (done_in lines) → AreApart (done_in lines)
    → IsOrder ty lines order → ((one : Done) → Has (done_in lines) one ↔ (Has past one ⊎ Has (done_in left) one)) → AreJudged (signature_of ty) world left
    → HoldsFronts past world → Tracks past world t → printed ty (signature_of ty) order t line ≡ model_line ty world line
printed_line ty n lines left order past world t (Ask r query args) once apart o told judged f tr =
    ap (λ (ones : List Done). ask_text (signature_of ty) r query args (answer_of ty (stepped_by ty (started ty) ones) query args))
    (known_arranged (signature_of ty) ty lines left order past world t (r - 1) once apart o told judged f tr)
printed_line ty n lines left order past world t (Do done) once apart o told judged f tr = refl
printed_line ty n lines left order past world t (Ship r p) once apart o told judged f tr = refl
printed_line ty n lines left order past world t (Deliver p r) once apart o told judged f tr = refl
printed_line ty n lines left order past world t (Show r) once apart o told judged f tr = refl

told_on : (lines rest : List Line) (past : List Done) (line : Line) → ((one : Done) → Has (done_in lines) one ↔ (Has past one ⊎ Has (done_in (line ∷ rest)) one))
    → (one : Done) → Has (done_in lines) one ↔ (Has (done_with past line) one ⊎ Has (done_in rest) one)
told_on lines rest past (Do done) told one = (
  λ has. ⊎_elim (λ (p : Has past one). inl (has_front past (done ∷ []) one p))
      (λ (f : Has (done ∷ done_in rest) one). ⊎_elim (λ (e : done ≡ one). inl (has_behind past (done ∷ []) one (inl e))) (λ (g : Has (done_in rest) one). inr g) f) ((told one).0 has),
  λ either. ⊎_elim
      (λ (p : Has (past ++ done ∷ []) one). ⊎_elim (λ (q : Has past one). (told one).1 (inl q))
      (λ (q : Has (done ∷ []) one). (told one).1 (inr (⊎_elim (λ (e : done ≡ one). inl e) (λ none. absurd none) q))) (has_either past (done ∷ []) one p))
      (λ (g : Has (done_in rest) one). (told one).1 (inr (inr g))) either,
)
told_on lines rest past (Ship r p) told one = told one
told_on lines rest past (Deliver p r) told one = told one
told_on lines rest past (Ask r q args) told one = told one
told_on lines rest past (Show r) told one = told one

pub facts_on : (sig : Signature) (past : List Done) (world : World) (line : Line) → HoldsFronts past world → IsJudgedLine sig world line → HoldsFronts (done_with past line) (after world line)
facts_on sig past world (Do done) f fit = facts_line sig past world (Do done) f fit
facts_on sig past world (Ship r p) f fit = facts_line sig past world (Ship r p) f fit
facts_on sig past world (Deliver p r) f fit = facts_line sig past world (Deliver p r) f fit
facts_on sig past world (Ask r q args) f fit = facts_line sig past world (Ask r q args) f fit
facts_on sig past world (Show r) f fit = facts_line sig past world (Show r) f fit

-- one line more
pub goes_next : (ty : TypeForm) (script : Script) (left rest : List Line) (order : List Done) (sig : Signature) (line : Line) (t u : Times) (old now then_ : Option (List ℕ))
    → IsJudged (signature_of ty) script → IsOrder ty script.lines order → sig ≡ signature_of ty → Going ty script.replicas script.lines left t old now → left ≡ line ∷ rest
    → u ≡ followed t line → then_ ≡ grown now (printed ty sig order t line) → Going ty script.replicas script.lines rest u old then_
goes_next ty script left rest order sig line t u old now then_ judged o same g is follows wrote =
    let lines_judged : AreJudged (signature_of ty) g.world (line ∷ rest) = subst (λ (ls : List Line). AreJudged (signature_of ty) g.world ls) is g.judged in
    let told : (one : Done) → Has (done_in script.lines) one ↔ (Has g.past one ⊎ Has (done_in (line ∷ rest)) one) =
    subst (λ (ls : List Line). (one : Done) → Has (done_in script.lines) one ↔ (Has g.past one ⊎ Has (done_in ls) one)) is g.told in
    let here : printed ty sig order t line ≡ model_line ty g.world line =
    ap (λ (s : Signature). printed ty s order t line) same
    ∙ printed_line ty script.replicas script.lines left order g.past g.world t line
    (all_once (signature_of ty) script.replicas script.lines judged.lines) (all_apart (signature_of ty) script.replicas script.lines judged.lines) o g.told g.judged g.facts g.tracks in
    record {
      world = after g.world line;
      past = done_with g.past line;
      facts = facts_on (signature_of ty) g.past g.world line g.facts lines_judged.0;
      judged = lines_judged.1;
      tracks = subst (λ (ts : Times). Tracks (done_with g.past line) (after g.world line) ts) (sym follows) (tracks_line (signature_of ty) g.past g.world t line g.facts lines_judged.0 g.tracks);
      told = told_on script.lines rest g.past line told;
      written = g.written ++ model_line ty g.world line;
      text = g.text ∙ ap (λ (ls : List Line). g.written ++ model_text ty g.world ls) is ∙ sym (append_assoc g.written (model_line ty g.world line) (model_text ty (after g.world line) rest));
      wrote = wrote ∙ ap (λ (text : List ℕ). grown now text) here ∙ ap (λ (o' : Option (List ℕ)). grown o' (model_line ty g.world line)) g.wrote
          ∙ grown-grown old g.written (model_line ty g.world line);
    }

-- a line that is cut short cuts all of them short
pub goes_stopped : (ty : TypeForm) (script : Script) (left rest : List Line) (order : List Done) (sig : Signature) (line : Line) (t : Times) (old now then_ : Option (List ℕ))
    → IsJudged (signature_of ty) script → IsOrder ty script.lines order → sig ≡ signature_of ty → Going ty script.replicas script.lines left t old now → left ≡ line ∷ rest
    → IsCutShort now then_ (printed ty sig order t line) → IsCutShort old then_ (model_text ty (first_world script.replicas) script.lines)
goes_stopped ty script left rest order sig line t old now then_ judged o same g is cut =
    let here : printed ty sig order t line ≡ model_line ty g.world line =
    ap (λ (s : Signature). printed ty s order t line) same
    ∙ printed_line ty script.replicas script.lines left order g.past g.world t line
    (all_once (signature_of ty) script.replicas script.lines judged.lines) (all_apart (signature_of ty) script.replicas script.lines judged.lines) o g.told g.judged g.facts g.tracks in
    let short : IsCutShort now then_ (model_line ty g.world line) = subst (λ (text : List ℕ). IsCutShort now then_ text) here cut in
    let front : List ℕ = short.0 in
    let behind : List ℕ = short.1.0 in (
      g.written ++ front,
      (
        behind ++ model_text ty (after g.world line) rest,
        append_assoc g.written front (behind ++ model_text ty (after g.world line) rest)
            ∙ ap (λ (text : List ℕ). g.written ++ text) (sym (append_assoc front behind (model_text ty (after g.world line) rest))
            ∙ ap (λ (text : List ℕ). text ++ model_text ty (after g.world line) rest) short.1.1)
            ∙ sym (g.text ∙ ap (λ (ls : List Line). g.written ++ model_text ty g.world ls) is),
      ),
      short.2 ∙ ap (λ (o' : Option (List ℕ)). grown o' front) g.wrote ∙ grown-grown old g.written front,
    )

-- all lines went by
pub goes_all : (ty : TypeForm) (n : ℕ) (lines left : List Line) (t : Times) (old now : Option (List ℕ)) → Going ty n lines left t old now → left ≡ []
    → now ≡ grown old (model_text ty (first_world n) lines)
goes_all ty n lines left t old now g none =
    g.wrote ∙ ap (λ (text : List ℕ). grown old text) (sym (g.text ∙ ap (λ (ls : List Line). g.written ++ model_text ty g.world ls) none ∙ append-nil g.written))

-- the line that is next asks little
pub next_little : (ty : TypeForm) (n : ℕ) (lines left rest : List Line) (line : Line) (t : Times) (old now : Option (List ℕ)) → Going ty n lines left t old now → left ≡ line ∷ rest → AsksLittle line
next_little ty n lines left rest line t old now g is =
    asks_little (signature_of ty) g.world line (subst (λ (ls : List Line). AreJudged (signature_of ty) g.world ls) is g.judged).0

pub next_line : (lines : List Line) (i : ℕ) (line : Line) → i < length lines → line ≡ get_or lines i line → drop i lines ≡ line ∷ drop (i + 1) lines
next_line lines i line within is =
    let e : drop i lines ≡ get_or lines i line ∷ drop (suc i) lines = drop-cons lines i line within in
    rw add-one (e ∙ ap (λ (one : Line). one ∷ drop (suc i) lines) (sym is))

-- before anything was written
pub nothing_yet : (old : Option (List ℕ)) (text : List ℕ) → IsCutShort old old text
nothing_yet old text = ([], (text, refl), grown-nil old)

pub on_err : {T E : Type 0} (r : Result T E) (P : Type 0) → P → OnErr r P
on_err (Ok x) P p = tt
on_err (Err e) P p = p

-- the same when the lines of the script go by another name
pub goes_on : (ty : TypeForm) (script : Script) (lines left rest : List Line) (order taken : List Done) (sig : Signature) (line : Line) (t u : Times) (old now then_ : Option (List ℕ))
    → IsJudged (signature_of ty) script → lines ≡ script.lines → IsOrder ty lines order → taken ≡ order → sig ≡ signature_of ty → Going ty script.replicas lines left t old now → left ≡ line ∷ rest
    → u ≡ followed t line → then_ ≡ grown now (printed ty sig taken t line) → Going ty script.replicas lines rest u old then_
goes_on ty script lines left rest order taken sig line t u old now then_ judged e o taken_is same g is follows wrote =
    subst (λ (ls : List Line). IsOrder ty ls order → Going ty script.replicas ls left t old now → Going ty script.replicas ls rest u old then_) (sym e)
    (λ p h. goes_next ty script left rest order sig line t u old now then_ judged p same h is follows
    (wrote ∙ ap (λ (ds : List Done). grown now (printed ty sig ds t line)) taken_is)) o g

pub stops_on : (ty : TypeForm) (script : Script) (lines left rest : List Line) (order taken : List Done) (sig : Signature) (line : Line) (t : Times) (old now then_ : Option (List ℕ))
    → IsJudged (signature_of ty) script → lines ≡ script.lines → IsOrder ty lines order → taken ≡ order → sig ≡ signature_of ty → Going ty script.replicas lines left t old now → left ≡ line ∷ rest
    → IsCutShort now then_ (printed ty sig taken t line) → IsCutShort old then_ (model_text ty (first_world script.replicas) script.lines)
stops_on ty script lines left rest order taken sig line t old now then_ judged e o taken_is same g is cut =
    subst (λ (ls : List Line). IsOrder ty ls order → Going ty script.replicas ls left t old now → IsCutShort old then_ (model_text ty (first_world script.replicas) script.lines)) (sym e)
    (λ p h. goes_stopped ty script left rest order sig line t old now then_ judged p same h is
    (subst (λ (ds : List Done). IsCutShort now then_ (printed ty sig ds t line)) taken_is cut)) o g

pub order_small_on : (ty : TypeForm) (script : Script) (lines : List Line) (order taken : List Done) → IsJudged (signature_of ty) script → lines ≡ script.lines → IsOrder ty lines order
    → taken ≡ order → HaveSmallArguments taken
order_small_on ty script lines order taken judged e o taken_is =
    subst HaveSmallArguments (sym taken_is) (order_small ty script order judged (subst (λ (ls : List Line). IsOrder ty ls order) e o))

pub order_few_on : (ty : TypeForm) (script : Script) (lines : List Line) (order taken : List Done) → IsJudged (signature_of ty) script → lines ≡ script.lines → IsOrder ty lines order
    → taken ≡ order → length taken ≤ 100_000
order_few_on ty script lines order taken judged e o taken_is =
    subst (λ (ds : List Done). length ds ≤ 100_000) (sym taken_is) (order_few ty script order judged (subst (λ (ls : List Line). IsOrder ty ls order) e o))

pub begins_on : (ty : TypeForm) (script : Script) (lines : List Line) (t : Times) (old : Option (List ℕ)) → IsJudged (signature_of ty) script → lines ≡ script.lines
    → t ≡ first_times script.replicas → Going ty script.replicas lines lines t old old
begins_on ty script lines t old judged e first =
    subst (λ (ls : List Line). Going ty script.replicas ls ls t old old) (sym e) (goes_first ty script t old judged first)
