-- Used inside only.
-- What the reader's values stand for.
use Rattle.std.specs.Prelude.{◌≡◌, ◌⊎◌, ℕ, ◌+◌, ◌<◌, ◌≤◌, List, [], map, reverse, Bool, true, false, Option, None, Some, Result, Ok, Err}
use Rattle.std.specs.declared.alloc.AllocError.{AllocError}
use Rattle.kat_grammar.specs.Files.{Says, SyntaxAt, TooLargeAt}
use Rattle.kat_grammar.specs.Marks.{is_newline}
use Rattle.kat_grammar.specs.Forms.{TypeForm, assignment_form, operation_form, query_form, type_form}
use Rattle.kat_grammar.specs.Phrases.{Form, form_of}
use Rattle.kat_grammar.specs.Sizes.{Load}
use Rattle.kat_grammar.specs.Steps.{Draft, Spot, first_file, form_read, load_of, spot, step}
use Rattle.kat_grammar.specs.declared.marks.Mark.{Mark}
use Rattle.kat_grammar.specs.declared.marks.Placed.{Placed}
use Rattle.kat_grammar.specs.declared.operands.Load.{Load as ReadLoad}
use Rattle.kat_grammar.specs.declared.phrases.Format.{Format}
use Rattle.kat_grammar.specs.declared.phrases.TypeText.{TypeText}
use Rattle.kat_grammar.specs.declared.reader.Judgement.{Judgement}
use Rattle.kat_grammar.specs.declared.reader.Judgement.TheVariants as judgement
use Rattle.kat_grammar.specs.declared.reader.Took.{Took}
use Rattle.kat_grammar.specs.declared.reader.Took.TheVariants as took
use Rattle.kat_grammar.specs.declared.phrases.Phrase.{Phrase}
use Rattle.kat_grammar.specs.declared.phrases.Word.{Word}
use Rattle.kat_grammar.specs.declared.reader.Reader.{Reader}
use Rattle.kat_grammar.specs.declared.stages.OperationStage.{OperationStage}
use Rattle.kat_grammar.specs.declared.stages.OperationStage.TheVariants as op
use Rattle.kat_grammar.specs.Stacks.{Part, Reading, around, ended}
use Rattle.kat_grammar.specs.Stacks.Part.{left_part, not_part, open_part, first_part, second_part, if_part, then_part, else_part}
use Rattle.kat_grammar.specs.Stacks.Reading.{want, minus_read, extreme_read, table_read, key_read, have}
use Rattle.kat_grammar.specs.declared.operands.Part.TheVariants as part
use Rattle.kat_grammar.specs.declared.operands.Part.{Part as OpenPart}
use Rattle.kat_grammar.specs.declared.operands.Reading.TheVariants as reading
use Rattle.kat_grammar.specs.declared.operands.Reading.{Reading as ReadSoFar}

abbrev pub part_of : OpenPart → Part
part_of (part.Left op at a) = left_part op at (form_of a)
part_of (part.Not at) = not_part at
part_of (part.Parens o) = open_part o
part_of (part.First e at o) = first_part e at o
part_of (part.Second e at o a comma) = second_part e at o (form_of a) comma
part_of (part.If at) = if_part at
part_of (part.Then at c then_at) = then_part at (form_of c) then_at
part_of (part.Else at c then_at a else_at) = else_part at (form_of c) then_at (form_of a) else_at

-- a vector has the innermost part at its end
abbrev pub stack_of : List OpenPart → List Part
stack_of parts = reverse (map part_of parts)

abbrev pub reading_of : ReadSoFar → List Part → Reading
reading_of reading.Want s = want s
reading_of (reading.Minus at) s = minus_read at s
reading_of (reading.Extreme e at) s = extreme_read e at s
reading_of (reading.Table table o) s = table_read table o s
reading_of (reading.Key table o key) s = key_read table o key s
reading_of (reading.Have f) s = have (form_of f) s

-- an answer is that of the definition
abbrev pub Goes : Option Reading → Result (Option ReadSoFar) AllocError → List Part → Type 0
Goes o (Ok None) s = o ≡ None
Goes o (Ok (Some r)) s = o ≡ Some (reading_of r s)
Goes o (Err e) s = Unit {0}

-- what has ended, and what is open around it
abbrev pub IsEnded : Form → List Part → Form → List Part → Type 0
IsEnded f s g r = (ended f s ≡ g) × (around s ≡ r)

abbrev pub MayGo : Option Reading → Option ReadSoFar → List Part → Type 0
MayGo o None s = o ≡ None
MayGo o (Some r) s = o ≡ Some (reading_of r s)

-- a `-`, a `[` or the word after that was read
abbrev pub IsBegun : Reading → Type 0
IsBegun (want s) = ⊥
IsBegun (extreme_read e at s) = ⊥
IsBegun (have f s) = ⊥
IsBegun r = Unit {0}

abbrev pub draft_of : Reader → Draft
draft_of r =
    record {
      file = record {
        at = r.at;
        name = r.name;
        format = r.format;
        states = r.states.items;
        operations = map operation_form r.operations.items;
        queries = map query_form r.queries.items;
      };
      params = r.params.items;
      rank = r.rank.items;
      assignments = map assignment_form r.assignments.items;
      reading = reading_of r.reading (stack_of r.parts.items);
    }

abbrev pub spot_of : Reader → Spot
spot_of r = spot r.stage (draft_of r)

-- nothing was read but the first line
abbrev pub fresh : ℕ → Word → Format → Draft
fresh at name f = record { file = first_file at name f; params = []; rank = []; assignments = []; reading = want [] }

-- the reader goes where the machine goes, or neither goes on
abbrev pub Stepped : Option Spot → Bool → Reader → Type 0
Stepped o true r = o ≡ Some (spot_of r)
Stepped o false r = o ≡ None

abbrev pub Steps : Option Spot → Result Bool AllocError → Reader → Type 0
Steps o (Ok b) r = Stepped o b r
Steps o (Err e) r = Unit {0}

-- the expression is taken out, if it is whole
abbrev pub Finds : Reader → Reader → Option Phrase → Type 0
Finds old new None = form_read (draft_of old).reading ≡ None
Finds old new (Some f) =
    (form_read (draft_of old).reading ≡ Some (form_of f)) × (new.stage ≡ old.stage) × (draft_of new ≡ record (draft_of old) { reading = want [] })

-- an assignment was begun, and not yet its right side
abbrev pub IsInTarget : OperationStage → Type 0
IsInTarget op.Closed = ⊥
IsInTarget (op.RankLead lead) = ⊥
IsInTarget op.Ranked = ⊥
IsInTarget (op.Right lead t assign) = ⊥
IsInTarget (op.ClearWhole lead clear_at table) = ⊥
IsInTarget s = Unit {0}

abbrev pub opens_level : Part → Bool
opens_level (left_part op at a) = false
opens_level part = true

abbrev pub load_form : ReadLoad → Load
load_form l = record { depth = l.depth; node = l.node }

abbrev pub IsFinished : Option TypeForm → Option TypeText → Type 0
IsFinished o None = o ≡ None
IsFinished o (Some t) = o ≡ Some (type_form t)

-- how many nodes there are more
abbrev pub weight : Bool → ℕ
weight true = 1
weight false = 0

-- how many nodes there are after a token
abbrev pub Counts : Bool → Load → ℕ → ℕ → Type 0
Counts true load nodes count = (count ≡ nodes)
Counts false load nodes count = (count ≡ nodes + weight load.node) × (load.depth ≤ 24) × (count ≤ 400)

-- what became of a token
abbrev pub Takes : Spot → Mark → ℕ → ℕ → Took → Spot → Type 0
Takes p m at nodes (took.Read count) q = (step p m at ≡ Some q) × Counts (is_newline m) (load_of q.stage q.draft) nodes count
Takes p m at nodes took.Nothing q = step p m at ≡ None
Takes p m at nodes took.TooMany q =
    (step p m at ≡ Some q) × (is_newline m ≡ false) × ((24 < (load_of q.stage q.draft).depth) ⊎ (400 < nodes + weight (load_of q.stage q.draft).node))

-- tokens are those of a type, or no type goes on at one of them, or one is too many
abbrev pub Judges : List Placed → Judgement → Type 0
Judges tokens (judgement.Whole t) = Says tokens (type_form t) × ((k : ℕ) → TooLargeAt tokens k → ⊥)
Judges tokens (judgement.Syntax k) = SyntaxAt tokens k × ((j : ℕ) → TooLargeAt tokens j → ⊥)
Judges tokens (judgement.TooLarge k) = TooLargeAt tokens k
