-- The first words.
use Rattle.std.specs.Prelude.{ℕ, List, codes}
use Rattle.kat_people_call.specs.declared.words.Verb.{Verb}
use Rattle.kat_people_call.specs.declared.words.Verb.TheVariants.{Picture, Explain, Emit}

abbrev pub verb_word : Verb → List ℕ
verb_word Picture = codes "picture"
verb_word Explain = codes "explain"
verb_word Emit = codes "emit"
