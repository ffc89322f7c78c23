-- The sections on how a design works.
use Rattle.std.specs.Prelude.{ℕ, Bool, List, [], ◌∷◌, ◌++◌, codes, if◌then◌else◌}
use Rattle.kat_design.specs.Designs.{AskForm, ComponentForm}
use Rattle.kat_pseudocode.specs.Phrases.{say}
use Rattle.kat_pseudocode.specs.declared.phrases.Phrase.TheVariants as phrase
use Rattle.kat_pseudocode.specs.Asking.{query_text}
use Rattle.kat_pseudocode.specs.Effects.{op_text}
use Rattle.kat_pseudocode.specs.Keeping.{keeps_text}
use Rattle.kat_pseudocode.specs.Merging.{merge_text}
use Rattle.kat_pseudocode.specs.Texts.{each_from, text_at}
use Rattle.kat_type.specs.Types.{OperationForm, QueryForm}

-- the title of a section, in Markdown or as a plain text
abbrev pub section_mark : Bool → List ℕ
section_mark as_markdown = if as_markdown then codes "\n## " else codes "\n"

abbrev pub section_text : Bool → List ℕ → List ℕ
section_text as_markdown title = section_mark as_markdown ++ title ++ codes "\n\n"

-- what each replica keeps
abbrev pub each_keeps : List OperationForm → List (List ℕ) → List ComponentForm → List ℕ
each_keeps ops names components = each_from (λ place c. keeps_text ops (text_at names place) c) 0 components

abbrev pub all_keep : List OperationForm → List (List ℕ) → List ComponentForm → List ℕ
all_keep ops names [] = say phrase.KeepsNothing
all_keep ops names (c ∷ cs) = each_keeps ops names (c ∷ cs)

abbrev pub keeping_section : Bool → List OperationForm → List (List ℕ) → List ComponentForm → List ℕ
keeping_section as_markdown ops names components =
    section_text as_markdown (say phrase.KeepsTitle) ++ all_keep ops names components
    ++ say phrase.TupleOrder

-- what each operation does
abbrev pub operations_section : Bool → List OperationForm → List (List ℕ) → List ComponentForm → List ℕ
operations_section as_markdown ops names components =
    section_text as_markdown (say phrase.DoesTitle) ++ say phrase.TimeAndReplica
    ++ each_from (op_text names components) 0 ops

-- how two states are merged
abbrev pub each_merge : List OperationForm → List (List ℕ) → List ComponentForm → List ℕ
each_merge ops names components = each_from (λ place c. merge_text ops (text_at names place) c) 0 components

abbrev pub all_merge : List OperationForm → List (List ℕ) → List ComponentForm → List ℕ
all_merge ops names [] = say phrase.MergesNothing
all_merge ops names (c ∷ cs) = each_merge ops names (c ∷ cs)

abbrev pub merging_section : Bool → List OperationForm → List (List ℕ) → List ComponentForm → List ℕ
merging_section as_markdown ops names components =
    section_text as_markdown (say phrase.MergesTitle) ++ all_merge ops names components

-- how each query is answered
abbrev pub queries_section : Bool → List OperationForm → List QueryForm → List (List ℕ) → List ComponentForm → List AskForm → List ℕ
queries_section as_markdown ops queries names components asks =
    section_text as_markdown (say phrase.AnswersTitle) ++ each_from (query_text ops components names asks) 0 queries
