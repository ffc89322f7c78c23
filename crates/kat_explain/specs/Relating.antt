-- The relation in words: a sentence for each conjunct.
use Rattle.std.specs.Prelude.{ℕ, ◌+◌, List, [], ◌∷◌, ◌++◌, length, map, codes, Option, None, Some, slice_get}
use Rattle.std.specs.Fmt.{decimal}
use Rattle.kat_num.specs.Names.{name_of_code}
use Rattle.kat_num.specs.declared.values.Sort.{Sort}
use Rattle.kat_design.specs.Designs.{ComponentForm}
use Rattle.kat_pseudocode.specs.Phrases.{say}
use Rattle.kat_pseudocode.specs.declared.phrases.Phrase.TheVariants as phrase
use Rattle.kat_pseudocode.specs.Asking.{reference}
use Rattle.kat_pseudocode.specs.Texts.{call_text, param_text, sort_word, tuple}
use Rattle.kat_relation.specs.Keys.{conjunct_key}
use Rattle.kat_relation.specs.declared.relations.Conjunct.{Conjunct}
use Rattle.kat_relation.specs.declared.relations.Conjunct.TheVariants.{Query, Equal, Bounded, AtLeast, Matched, Total}
use Rattle.kat_relation.specs.declared.relations.LeafRef.{LeafRef}
use Rattle.kat_type.specs.Types.{OperationForm, QueryForm, TypeForm}
use Rattle.kat_type.specs.declared.types.Field.{Field}
use Rattle.kat_type.specs.declared.types.Field.TheVariants as field
use Rattle.kat_type.specs.declared.types.Param.{Param}
use Rattle.kat_type.specs.declared.types.Rank.{Rank}
use Rattle.kat_type.specs.declared.types.Rank.TheVariants as rank

-- the rank of an operation
abbrev pub rank_text : List Param → Rank → List ℕ
rank_text params (rank.Digit n) = decimal n
rank_text params rank.Time = codes "time"
rank_text params rank.Replica = codes "replica"
rank_text params (rank.Arg place) = param_text params place

unfoldable pub rank_line : OperationForm → List ℕ
rank_line o = codes "    " ++ call_text o.name o.params ++ say phrase.HasRank ++ tuple (map (rank_text o.params) o.ranks) ++ codes "\n"

-- a leaf, at the key k if it has keys
abbrev pub ref_text : List OperationForm → List ComponentForm → List (List ℕ) → LeafRef → List ℕ
ref_text ops components names ref = reference ops components names ref.component ref.leaf (codes "k")

abbrev pub refs_text : List OperationForm → List ComponentForm → List (List ℕ) → List LeafRef → List ℕ
refs_text ops components names refs = tuple (map (ref_text ops components names) refs)

-- a query of the type, and a field
unfoldable pub asked_text : Option QueryForm → List ℕ
asked_text None = []
asked_text (Some q) = call_text q.name q.params

unfoldable pub field_text : Option Field → List ℕ
field_text None = []
field_text (Some (field.Plain name sort start)) = name_of_code name
field_text (Some (field.Keyed name key sort start)) = name_of_code name ++ codes "[k]"

-- one element of a rank, or so many from a position on
unfoldable pub elements_text : ℕ → List LeafRef → List ℕ
elements_text position [] = say phrase.OneElement ++ decimal (position + 1)
elements_text position (ref ∷ []) = say phrase.OneElement ++ decimal (position + 1)
elements_text position (ref ∷ next ∷ refs) =
    say phrase.Elements ++ decimal (position + 1) ++ codes " to " ++ decimal (position + (length refs + 2))

-- at which keys a conjunct says its claim; the end of a sentence
unfoldable pub keys_text : Option Sort → List ℕ
keys_text None = codes ".\n"
keys_text (Some key) = say phrase.AtEvery ++ sort_word key ++ codes " k.\n"

-- the claims of the six forms of conjuncts, up to the keys
abbrev pub query_claim : List QueryForm → ℕ → List ℕ
query_claim queries n = codes "- `" ++ asked_text (slice_get queries n) ++ say phrase.AnswersAlike

abbrev pub equal_claim : List Field → ℕ → List ℕ → List ℕ
equal_claim fields f leaf = say phrase.FieldOf ++ field_text (slice_get fields f) ++ codes "` is `" ++ leaf ++ codes "`"

abbrev pub bounded_claim : List ℕ → ℕ → List LeafRef → List ℕ
bounded_claim text position leaves = codes "- `" ++ text ++ say phrase.IsAtMost ++ elements_text position leaves ++ say phrase.OfLastRank

abbrev pub at_least_claim : List ℕ → ℕ → ℕ → List ℕ
at_least_claim leaf position digit =
    codes "- If `" ++ leaf ++ say phrase.HasLastRank ++ decimal (position + 1) ++ say phrase.IsAtLeast ++ decimal digit

abbrev pub element_claim : List ℕ → ℕ → List ℕ
element_claim leaf position = codes "- If `" ++ leaf ++ say phrase.IsElement ++ decimal (position + 1)

abbrev pub then_claim : List ℕ → ℕ → ℕ → List ℕ
then_claim leaf position digit =
    say phrase.OfLastRankAnd ++ leaf ++ say phrase.ItsElement ++ decimal (position + 1) ++ say phrase.IsAtLeast ++ decimal digit

abbrev pub matched_claim : List ℕ → ℕ → List ℕ → ℕ → ℕ → List ℕ
matched_claim first position second later digit = element_claim first position ++ then_claim second later digit

abbrev pub total_claim : List ℕ → List ℕ
total_claim sum = codes "- `" ++ sum ++ say phrase.IsNotBelowZero

-- the sentence of a conjunct
abbrev pub claim_text : TypeForm → List ComponentForm → List (List ℕ) → Conjunct → List ℕ
claim_text ty components names (Query n) = query_claim ty.queries n
claim_text ty components names (Equal f leaf) =
    equal_claim ty.fields f (ref_text ty.ops components names leaf) ++ keys_text (conjunct_key ty components (Equal f leaf))
claim_text ty components names (Bounded leaves position) =
    bounded_claim (refs_text ty.ops components names leaves) position leaves ++ keys_text (conjunct_key ty components (Bounded leaves position))
claim_text ty components names (AtLeast leaf position digit) =
    at_least_claim (ref_text ty.ops components names leaf) position digit ++ keys_text (conjunct_key ty components (AtLeast leaf position digit))
claim_text ty components names (Matched first position second later digit) =
    matched_claim (ref_text ty.ops components names first) position (ref_text ty.ops components names second) later digit
    ++ keys_text (conjunct_key ty components (Matched first position second later digit))
claim_text ty components names (Total component) =
    total_claim (reference ty.ops components names component 0 (codes "k")) ++ keys_text (conjunct_key ty components (Total component))
