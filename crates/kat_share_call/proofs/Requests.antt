-- What a request asks for.
use Rattle.std.proofs.Common.{◌≡◌, ℕ, List, Option, None, Some, IfSome, subst, sym}
use Rattle.kat_share_call.specs.Sharing.{BeginsWith, word_of}
use Rattle.kat_share_call.specs.declared.words.Command.{Command}

-- a request begins with the word of its command
pub begins_so : {R : Type 0} (command : R → Command) (asked : Option R) (words : List (List ℕ)) (word : List ℕ) → BeginsWith words word
    → IfSome asked (λ request. word_of (command request) ≡ word) → IfSome asked (λ request. BeginsWith words (word_of (command request)))
begins_so command None words word begins is = tt
begins_so command (Some request) words word begins is = subst (BeginsWith words) (sym is) begins
