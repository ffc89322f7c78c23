-- The whole explanation of a design.
use Rattle.std.specs.Prelude.{ℕ, ◌==◌, Bool, List, [], ◌∷◌, ◌++◌, length, map, codes, sum_by, if◌then◌else◌}
use Rattle.std.specs.List.{flat_map}
use Rattle.std.specs.Fmt.{decimal}
use Rattle.kat_num.specs.Names.{name_of_code}
use Rattle.kat_check.specs.declared.acceptance.Checked.{Checked}
use Rattle.kat_check.specs.declared.acceptance.Checked.TheVariants.{Accepted, Refused}
use Rattle.kat_design.specs.Designs.{ComponentForm, DesignForm}
use Rattle.kat_pseudocode.specs.Phrases.{say}
use Rattle.kat_pseudocode.specs.declared.phrases.Phrase.TheVariants as phrase
use Rattle.kat_pseudocode.specs.Naming.{component_names}
use Rattle.kat_explain.specs.Relating.{claim_text, rank_line}
use Rattle.kat_explain.specs.Sections.{keeping_section, merging_section, operations_section, queries_section, section_text}
use Rattle.kat_pseudocode.specs.Texts.{commas}
use Rattle.kat_refute.specs.Lines.{Line}
use Rattle.kat_relation.specs.declared.relations.Conjunct.{Conjunct}
use Rattle.kat_type.specs.Types.{OperationForm, TypeForm}
use Rattle.kat_wire.specs.FileForms.{FileForm}

-- the title of the page, in Markdown or as a plain text
abbrev pub title_mark : Bool → List ℕ
title_mark as_markdown = if as_markdown then codes "# " else []

abbrev pub title_text : Bool → ℕ → List ℕ
title_text as_markdown name = title_mark as_markdown ++ name_of_code name ++ codes "\n"

-- in which order operations count
abbrev pub ranks_section : Bool → List OperationForm → List ℕ
ranks_section as_markdown ops =
    section_text as_markdown (say phrase.OrderTitle)
    ++ say phrase.OrderOfRanks ++ flat_map rank_line ops

-- the relation
abbrev pub claims_text : TypeForm → List (List ℕ) → List ComponentForm → List Conjunct → List ℕ
claims_text ty names components [] = say phrase.NoRelation
claims_text ty names components (c ∷ cs) = say phrase.WhatIsClaimed ++ flat_map (claim_text ty components names) (c ∷ cs)

abbrev pub relation_section : Bool → TypeForm → List (List ℕ) → List ComponentForm → List Conjunct → List ℕ
relation_section as_markdown ty names components relation =
    section_text as_markdown (say phrase.RelationTitle) ++ claims_text ty names components relation

-- the first fault of a file: condition 0 is a conjunct that doesn't fit
unfoldable pub fault_text : ℕ → ℕ → List ℕ
fault_text condition line =
    if condition == 0 then say phrase.RefusedSince ++ decimal line ++ say phrase.DoesNotFit
    else say phrase.RefusedAt ++ decimal condition ++ codes " line " ++ decimal line ++ codes ".\n"

-- how large the proof is, and what came of its check
unfoldable pub verdict_text : Checked → List ℕ
verdict_text Accepted = say phrase.Accepted
verdict_text (Refused condition line) = fault_text condition line

abbrev pub size_text : List (List Line) → List ℕ
size_text proof =
    say phrase.ProofHas ++ decimal (length proof) ++ say phrase.ListsWith ++ decimal (sum_by length proof) ++ say phrase.LinesInAll

abbrev pub proof_section : Bool → List (List Line) → Checked → List ℕ
proof_section as_markdown proof checked =
    section_text as_markdown (say phrase.ProofTitle) ++ size_text proof ++ verdict_text checked

-- the designs that were passed over
abbrev pub passed_words : List (List ℕ) → List ℕ
passed_words [] = say phrase.NamesNone
passed_words (text ∷ texts) =
    say phrase.NamesThese ++ commas (text ∷ texts) ++ codes ".\n"

abbrev pub passed_section : Bool → List (List ℕ) → List ℕ
passed_section as_markdown passed = section_text as_markdown (say phrase.PassedTitle) ++ passed_words passed

-- how the design works, with these names of components
abbrev pub working_text : Bool → TypeForm → DesignForm → List (List ℕ) → List ℕ
working_text as_markdown ty d names =
    keeping_section as_markdown ty.ops names d.components
    ++ operations_section as_markdown ty.ops names d.components
    ++ merging_section as_markdown ty.ops names d.components
    ++ queries_section as_markdown ty.ops ty.queries names d.components d.asks

-- why it is right
abbrev pub claimed_text : Bool → TypeForm → FileForm → List (List ℕ) → Checked → List ℕ
claimed_text as_markdown ty file names checked =
    ranks_section as_markdown ty.ops
    ++ relation_section as_markdown ty names file.design.components file.relation
    ++ proof_section as_markdown file.proof checked

abbrev pub page_text : Bool → TypeForm → FileForm → List (List ℕ) → List (List ℕ) → Checked → List ℕ
page_text as_markdown ty file names passed checked =
    title_text as_markdown ty.name ++ working_text as_markdown ty file.design names
    ++ claimed_text as_markdown ty file names checked ++ passed_section as_markdown passed

-- the explanation of the design of a file for a type: with the texts of the designs that were passed over, and what came of the
-- check of its proof
abbrev pub explanation : Bool → TypeForm → FileForm → List (List ℕ) → Checked → List ℕ
explanation as_markdown ty file passed checked =
    page_text as_markdown ty file (component_names ty file.relation file.design.components) passed checked
