use Rattle.std.proofs.Common.{rules, lit<, bytes_eq, ℕ, List, ◌∙◌, ◌==◌}
use Rattle.std.specs.List.{slice_split}
use Rattle.std.proofs.lemmas.Iterator.Consumers.{YieldsList-at, YieldsList-from_filter, count_from_yields_List}
use Rattle.std.proofs.lemmas.Iterator.Splits.{YieldsList-from_str_split}
use Rattle.std.proofs.lemmas.List.Sums.{length-filter}
use borrow.Author.Tests.{tests}
use Rattle.kat_words.proofs.kinds.times.Goals as goal

pub returns : goal.returns
returns c =
    count_from_yields_List c.filter.result c.count.result c.count.ensures.ran
    (YieldsList-from_filter _ (λ (other : List ℕ). bytes_eq other c.args.name.now)
    (YieldsList-at c.filter.ensures.source (YieldsList-from_str_split 44 c.args.word.now (lit< tt) c.split.ensures.text c.split.ensures.has_more c.split.ensures.pattern)) c.filter.ensures.closure (λ x r q k. search (rules, tests)))
    ∙ length-filter (λ (other : List ℕ). bytes_eq other c.args.name.now) (slice_split (λ (byte : ℕ). byte == 44) c.args.word.now)
