use Rattle.std.proofs.Common.{rules, lit<, bytes_eq, ℕ, List}
use Rattle.std.specs.List.{list_any}
use Rattle.std.proofs.lemmas.Iterator.Search.{all_from_yields_List}
use Rattle.std.proofs.lemmas.Iterator.Splits.{YieldsList-from_str_split}
use borrow.Author.Tests.{tests}
use Rattle.kat_words.specs.Words.{kind_names}
use Rattle.kat_words.proofs.kinds.are_kinds.Goals as goal

pub returns : goal.returns
returns c =
    all_from_yields_List (λ (name : List ℕ). list_any (bytes_eq name) kind_names) _ _ _ c.all.ensures.ran
    (YieldsList-from_str_split 44 c.args.word.now (lit< tt) c.split.ensures.text c.split.ensures.has_more c.split.ensures.pattern)
    (λ x b q k. search (rules, tests))
