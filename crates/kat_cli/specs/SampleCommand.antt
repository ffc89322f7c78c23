-- What `sample N` takes and writes.
use Rattle.std.specs.Prelude.{◌≡◌, ℕ, List, [], ◌∷◌}
use Rattle.kat_sample.specs.Carts.{cart}
use Rattle.kat_sample.specs.Scripts.{sample_script}
use Rattle.kat_script.specs.declared.script.Script.{Script}
use Rattle.kat_search.specs.Verdicts.{IsCutOff, IsEmitted, IsLeftOpen}
use Rattle.kat_search.specs.declared.options.Options.{Options}
use Rattle.kat_world.specs.Summaries.{summary_text}
use Rattle.kat_words.specs.Words.{all_kinds}
use Rattle.kat_words.specs.declared.options.SampleOptions.{SampleOptions}
use Rattle.kat_world.specs.Replies.{model_answers}
use Rattle.kat_cli.specs.declared.status.Status.{Status}
use Rattle.kat_cli.specs.declared.status.Status.TheVariants.{Done, Undecided, Stopped}

-- it reads no file, so none passes and none is refused
abbrev pub Accepts : List (List ℕ) → Type 0
Accepts [] = Unit {0}
Accepts (text ∷ texts) = ⊥

-- the bounds of the search for a cart's design
abbrev pub bounds : Options
bounds = record { size = 4; effort = 2000; designs = 200000; kinds = all_kinds }

abbrev pub script_of : SampleOptions → Script
script_of options = sample_script options.number options.lines

-- what is written: the summary of the script, with the answers of the cart after the operations that are absorbed there, arranged by
-- rank, then time, then replica
abbrev pub output : SampleOptions → List ℕ
output options = summary_text (script_of options) (model_answers cart (script_of options))

-- the bytes are the file of a design that the search proves to answer as the cart
abbrev pub IsCartFile : List ℕ → Type 0
IsCartFile file = (number : ℕ) × IsEmitted cart bounds number file

-- It is done if the search proves a design of the cart; otherwise nothing is written. It never ends with no design, since the cart has one.
abbrev pub Ends : SampleOptions → Status → List ℕ → Type 0
Ends options Done text = ((file : List ℕ) × IsCartFile file) × (text ≡ output options)
Ends options Undecided text = ((report : List ℕ) × IsLeftOpen cart bounds report) × (text ≡ [])
Ends options Stopped text = ((report : List ℕ) × IsCutOff cart bounds report) × (text ≡ [])
Ends options status text = ⊥
