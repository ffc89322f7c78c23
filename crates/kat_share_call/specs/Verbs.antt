-- The first words.
use Rattle.std.specs.Prelude.{ℕ, List, codes}
use Rattle.kat_share_call.specs.declared.words.Verb.{Verb}
use Rattle.kat_share_call.specs.declared.words.Verb.TheVariants.{Share, Difference, Take}

abbrev pub verb_word : Verb → List ℕ
verb_word Share = codes "node-share"
verb_word Difference = codes "node-difference"
verb_word Take = codes "node-take"
