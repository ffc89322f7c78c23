use Rattle.std.proofs.Common.{◌≡◌, ◌∷◌, [], ◌++◌, ◌∙◌, ap, if◌then◌else◌, not, is_ok, List, rules, Bool, Result, Ok, Err, true, false}
use Rattle.std.specs.Prelude.{ℕ, ℤ, Some, IfErr, IsErrAnd}
use Rattle.std.specs.Borrow.{Bor}
use Rattle.std.specs.List.{AllZip}
use Rattle.std.specs.Iterator.{Yields}
use Rattle.std.specs.Str.Iter.{split_whitespace_steps}
use Rattle.std.specs.declared.str.SplitWhitespace.{SplitWhitespace}
use Rattle.kat_table.specs.Numbers.{IsDamage, IsNoNumber, TellsWords}
use Rattle.kat_table.specs.declared.errors.RowError.{RowError}
use Rattle.kat_table.specs.declared.errors.RowError.TheVariants.{Damaged, Memory}
use Rattle.kat_table.proofs.numbers.numbers_of.Goals as goal

-- a further word with its number
one_more : {A B : Type 0} (R : A → B → Type 0) (xs : List A) (ys : List B) (x : A) (y : B) → AllZip R xs ys → R x y → AllZip R (xs ++ x ∷ []) (ys ++ y ∷ [])
one_more R [] [] x y each here = (here, tt)
one_more R [] (b ∷ ys) x y each here = absurd each
one_more R (a ∷ xs) [] x y each here = absurd each
one_more R (a ∷ xs) (b ∷ ys) x y each here = (each.0, one_more R xs ys x y each.1 here)

-- a list after a push that had room
pushed : {A : Type 0} (ok : Bool) (new old numbers : List A) (number : A) → ok ≡ true → old ≡ numbers → new ≡ (if ok then old ++ number ∷ [] else old) → new ≡ numbers ++ number ∷ []
pushed true new old numbers number is same items = rw same at items
pushed false new old numbers number is same items = absurd (search rules)

-- an error that is handed on
err_is : {T E : Type 0} (r : Result T E) (known : E) (Q : E → Type 0) → IsErrAnd r (λ error. error ≡ known) → Q known → IfErr r Q
err_is (Ok x) known Q is holds = tt
err_is (Err error) known Q is holds = rw is holds

-- a word that is no number is damage
word_told : {X E : Type 0} (gives : ℤ → Result X E → Type 0) (words start : SplitWhitespace) (said : List (Bor (List ℕ))) (word : Bor (List ℕ)) (at behind : SplitWhitespace) (error : RowError)
    → start ≡ words → Yields split_whitespace_steps start said at → split_whitespace_steps at (Some word) behind → IsNoNumber gives word.now → IsDamage error → TellsWords gives words error
word_told gives words start said word at behind (Damaged why) is before comes no_number damage = (said, word, behind, (at, rw is at before, comes), no_number)
word_told gives words start said word at behind Memory is before comes no_number damage = absurd damage

pub loop-word-preserved : goal.loop-word-preserved
loop-word-preserved g c =
    let more = one_more _ c.loop-word.yielded c.loop-word.invariant.0 c.in-Some.word c.in_ok-number.number c.loop-word.invariant.1 c.in_ok-number.ensures.number in
    let ok : is_ok c.push.result ≡ true = c.is_err.ensures.negation ∙ ap not c.if-is_err.false in
    (c.loop-word.invariant.0 ++ c.in_ok-number.number ∷ [], more, λ room. pushed _ c.push.new.self.items c.loop-word.found.items c.loop-word.invariant.0 c.in_ok-number.number ok (c.loop-word.invariant.2 room) c.push.ensures.items)

pub loop-word-preserved-then-is_err : goal.loop-word-preserved-then-is_err
loop-word-preserved-then-is_err g c =
    let more = one_more _ c.loop-word.yielded c.loop-word.invariant.0 c.in-Some.word c.in_ok-number.number c.loop-word.invariant.1 c.in_ok-number.ensures.number in
    (c.loop-word.invariant.0 ++ c.in_ok-number.number ∷ [], more, λ room. search rules)

pub returns-in_err-number-clause-err : goal.returns-in_err-number-clause-err
returns-in_err-number-clause-err g c =
    err_is c.from_residual.result c.in_err-number.field-0.0 (TellsWords g.T.TryFrom.try_from_gives c.args.words) c.from_residual.ensures.1
    (word_told g.T.TryFrom.try_from_gives c.args.words _ c.loop-word.yielded c.in-Some.word c.loop-word.word-iterator c.next.new.self c.in_err-number.field-0.0 c.into_iter-word-iterator.ensures.into_iter_gives c.loop-word.yielded_by c.in-Some.ensures.steps c.in_err-number.ensures.number c.in_err-number.ensures.damage)
