-- The design of a cart, and its answers on the script that is drawn.
use Rattle.std.proofs.Common.{◌≡◌, ◌≢◌, ℕ, zero, suc, ◌^◌, ◌<◌, ◌≤◌, inl, inr, ⊎_elim, List, [], ◌∷◌, length, All, Some, false, eqb, refl, sym, ◌∙◌, ap, subst, arith}
use Rattle.std.specs.Prelude.{slice_get, codes}
use Rattle.std.proofs.lemmas.Bool.{eq-eqb, false≢true}
use Rattle.std.proofs.lemmas.List.Elements.{All-nil, All-cons}
use Rattle.kat_check.specs.Acceptance.{IsAcceptedFile}
use Rattle.kat_design.specs.Designs.{DesignForm}
use Rattle.kat_expr.specs.Limits.{IsAtMost}
use Rattle.kat_invariant.specs.Accepted.{GoTogether, HasKeys}
use Rattle.kat_num.specs.Names.{code_of}
use Rattle.kat_num.specs.declared.values.Sort.TheVariants as sort
use Rattle.kat_num.specs.declared.values.Value.{Value}
use Rattle.kat_sample.specs.Carts.{cart}
use Rattle.kat_sample.proofs.Types.{cart_alike, cart_sorted}
use Rattle.kat_script.specs.Judged.{IsJudged}
use Rattle.kat_script.specs.declared.script.Script.{Script}
use Rattle.kat_search.specs.Verdicts.{IsEmitted}
use Rattle.kat_world.specs.Summaries.{summary_text}
use Rattle.kat_world.proofs.Small.{answers_few, answers_small}
use Rattle.kat_type.specs.Limits.{param_limit}
use Rattle.kat_type.specs.Signatures.{signature_of}
use Rattle.kat_type.specs.Types.{TypeForm}
use Rattle.kat_type.specs.declared.signatures.OpSig.{OpSig}
use Rattle.kat_type.specs.declared.signatures.QuerySig.{QuerySig}
use Rattle.kat_type.specs.declared.signatures.Signature.{Signature}
use Rattle.kat_walk.specs.Machines.{IsOneOf}
use Rattle.kat_wire.specs.FileForms.{FileForm}
use Rattle.kat_wire.specs.Files.{IsFileRefusal, IsFileText}
use Rattle.kat_json.specs.declared.errors.WireError.{WireError}
use Rattle.kat_json.specs.declared.errors.WireError.TheVariants.{Memory}
use Rattle.kat_design_json.specs.Signatures.{IsSignature}
use Rattle.kat_wire.proofs.Judging.{never_both, one_file}
use Rattle.kat_words.specs.declared.options.SampleOptions.{SampleOptions}
use Rattle.kat_world.specs.Replies.{answers_of, model_answers}
use Rattle.kat_world.specs.AsType.{AnswersAsType}
use Rattle.kat_cli.specs.SampleCommand.{IsCartFile, bounds, output, script_of}
use Rattle.kat_cli.proofs.AcceptedAnswers.{answers_by}
use Rattle.kat_cli.proofs.DesignFiles.{well_sorted_file}

got_one : {X : Type 0} (xs : List X) (n : ℕ) (x : X) → slice_get xs n ≡ Some x → IsOneOf x xs
got_one [] n x e = absurd (cc)
got_one (y ∷ xs) zero x e = inl (cc)
got_one (y ∷ xs) (suc n) x e = inr (got_one xs n x e)

-- the file of a cart's design, as it is read: accepted, and with the cart's signature
pub record IsCarts (file : FileForm) : Type 0 where
  pub signed : file.design.sig ≡ signature_of cart
  pub accepted : IsAcceptedFile cart file

pub cart_file : (bytes : List ℕ) (file : FileForm) → IsCartFile bytes → IsFileText bytes file → IsCarts file
cart_file bytes file is read =
    let emitted : IsEmitted cart bounds is.0 bytes = is.1 in
    let listed = (emitted.listing.exactly emitted.file.design).0 (got_one emitted.designs (length emitted.earlier) emitted.file.design emitted.listed) in
    subst IsCarts (one_file bytes emitted.file file emitted.read_again read) (record { signed = listed.rules.signature; accepted = emitted.accepted })

-- it is a file that may be read, so no refusal of it is one
pub own_file_is_read : (bytes : List ℕ) (error : WireError) → IsCartFile bytes → IsFileRefusal bytes error → error ≢ Memory → ⊥
own_file_is_read bytes error is refused told =
    let emitted : IsEmitted cart bounds is.0 bytes = is.1 in
    never_both bytes emitted.file error emitted.read_again (record { refused = refused; told = told })

no_truth : sort.Name ≢ sort.Bool
no_truth e = absurd (cc)

cart_keys : All HasKeys cart.fields
cart_keys = All-cons HasKeys _ [] no_truth (All-nil HasKeys)

together : (bytes : List ℕ) (file : FileForm) → IsCarts file → IsFileText bytes file → GoTogether cart file.design
together bytes file is read = record {
  type_sorted = cart_sorted;
  ranks = cart_alike;
  keys = cart_keys;
  design_sorted = well_sorted_file bytes file read;
  signed = is.signed;
}

-- a script that is judged for the cart is judged for its design, which answers as the cart
pub judged_too : (file : FileForm) (script : Script) → IsCarts file → IsJudged (signature_of cart) script → IsJudged file.design.sig script
judged_too file script is judged = subst (λ (sig : Signature). IsJudged sig script) (sym is.signed) judged

-- a design that answers as a type is answered as the type on every judged script
abbrev pub RepliesAsType : Type 0
RepliesAsType = (ty : TypeForm) (d : DesignForm) (script : Script) → AnswersAsType ty d → IsJudged (signature_of ty) script
    → answers_of d script ≡ model_answers ty script

pub answered : RepliesAsType → (bytes : List ℕ) (file : FileForm) (script : Script) → IsCarts file → IsFileText bytes file → IsJudged (signature_of cart) script
    → answers_of file.design script ≡ model_answers cart script
answered replies bytes file script is read judged =
    replies cart file.design script (answers_by cart file (together bytes file is read) is.accepted) judged

-- such answers can be added up
pub small_too : (answers : List Value) (script : Script) → IsJudged (signature_of cart) script → answers ≡ model_answers cart script → All (IsAtMost (2 ^ 100)) answers
small_too answers script judged same = subst (λ (vs : List Value). All (IsAtMost (2 ^ 100)) vs) (sym same) (answers_small script judged)

pub few_too : (answers : List Value) (script : Script) → IsJudged (signature_of cart) script → answers ≡ model_answers cart script → length answers ≤ 100_000
few_too answers script judged same = subst (λ (vs : List Value). length vs ≤ 100_000) (sym same) (answers_few script judged)

-- the summary of the script that is drawn
pub summed : (options : SampleOptions) (script : Script) (answers : List Value) (text : List ℕ) → script ≡ script_of options → answers ≡ model_answers cart script
    → text ≡ summary_text script answers → text ≡ output options
summed options script answers text drawn same is =
    is ∙ ap (λ (vs : List Value). summary_text script vs) same ∙ ap (λ (s : Script). summary_text s (model_answers cart s)) drawn

fewer : (n : ℕ) → n < 100_000 → n ≤ 100_000
fewer n h = omega (arith, h)

pub few_lines_too : (script : Script) → IsJudged (signature_of cart) script → length script.lines ≤ 100_000
few_lines_too script judged = fewer (length script.lines) judged.few_lines

-- the cart's signature is one that a file can have
other_codes : (a b : ℕ) → eqb a b ≡ false → a ≡ b → ⊥
other_codes a b h e = false≢true (sym h ∙ eq-eqb a b e)

pub cart_signature : IsSignature (signature_of cart)
cart_signature = record {
  small = record {
    few_ops = omega arith;
    few_queries = omega arith;
    ops = All-cons (λ (op : OpSig). length op.sorts ≤ param_limit) _ [] (omega arith) (All-nil (λ (op : OpSig). length op.sorts ≤ param_limit));
    queries = All-cons (λ (query : QuerySig). length query.sorts ≤ param_limit) _ [] (omega arith) (All-nil (λ (query : QuerySig). length query.sorts ≤ param_limit));
  };
  words = (
    record { text = codes "add"; is_word = refl; free = refl; coded = refl },
    (record { text = codes "count"; is_word = refl; free = refl; coded = refl }, tt),
  );
  different = (
    λ has. ⊎_elim (λ (e : code_of (codes "count") ≡ code_of (codes "add")). other_codes (code_of (codes "count")) (code_of (codes "add")) refl e) (λ (none : ⊥). none) has,
    (λ has. has, tt),
  );
}
