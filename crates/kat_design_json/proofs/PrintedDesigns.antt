-- What is printed of a design: starts and constants that a file can have, and values without floats.
use Rattle.std.proofs.Common.{List, [], ◌∷◌, refl, Some, None, ◌≡◌, ℕ, false, ap, ◌∙◌, Result, Ok, Err, Vec, Global}
use Rattle.std.specs.declared.alloc.AllocError.{AllocError}
use Rattle.std.specs.Prelude.{IfOk}
use Rattle.kat_num.specs.declared.values.Value.{Value}
use Rattle.kat_design.specs.Sorted.{AreMatched, EachHas, IsWritten, IsComponent, IsStart, HasKind, Answers}
use Rattle.kat_type.specs.declared.signatures.OpSig.{OpSig}
use Rattle.kat_design.specs.Designs.{ComponentForm, AskForm, DesignForm}
use Rattle.kat_design.specs.Designs.ComponentForm.{a_cell, a_table, a_set, a_tally, tallies}
use Rattle.kat_design.specs.Kinds.{kinds_of}
use Rattle.kat_design.specs.Sorted.HasKind.{written, read, given, denied, and_of, or_of, numbers_less, names_less, sum_of, difference_of}
use Rattle.kat_design_json.specs.WrittenParts.{HasWrittenStarts, HasWrittenConstants}
use Rattle.kat_num.specs.declared.values.Sort.{Sort}
use Rattle.kat_type.specs.declared.signatures.QuerySig.{QuerySig}
use Rattle.kat_shape.specs.Forms.{CellForm, numbers, names, truths, lex, pair}
use Rattle.kat_design_json.specs.PrintedDesigns.{shape_data, component_data, ask_data, design_data, operation_data, query_data, design_text}
use Rattle.kat_json.proofs.PrintedParts.{IsWhole, map_whole, value_whole, sort_whole, leaf_whole, leaves_whole, keyed_whole, effects_whole}
use Rattle.kat_json.specs.Printed.{key_data, keyed_data, leaf_data, leaves_data, value_data, sort_data}
use Rattle.kat_design.specs.Designs.AskForm.{leaf as a_leaf, parameter, constant, negation, both, either, less, sum, difference}
use Rattle.serde_json.specs.Data.{Data}
use Rattle.serde_json.specs.Written.{compact_text, has_float}

-- the starts and constants of a well-sorted design
starts_written : {K : Type 0} (Match : Value → K → Type 0) → ((v : Value) (k : K) → Match v k → IsWritten v) → (starts : List Value) (kinds : List K) → AreMatched Match starts kinds → EachHas IsWritten starts
starts_written Match is [] kinds h = tt
starts_written Match is (v ∷ starts) [] h = absurd h
starts_written Match is (v ∷ starts) (k ∷ kinds) h = (is v k h.0, starts_written Match is starts kinds h.1)

component_written : (ops : List OpSig) (component : ComponentForm) → IsComponent ops component → HasWrittenStarts component
component_written ops (a_cell shape starts effects) h = starts_written IsStart (λ v k is. is.written) starts (kinds_of shape) h.1
component_written ops (a_table key shape starts effects) h = starts_written IsStart (λ v k is. is.written) starts (kinds_of shape) h.2
component_written ops (a_set key effects) h = tt
component_written ops (a_tally effects) h = tt
component_written ops (tallies key effects) h = tt

pub components_written : (ops : List OpSig) (components : List ComponentForm) → EachHas (IsComponent ops) components → EachHas HasWrittenStarts components
components_written ops [] h = tt
components_written ops (c ∷ components) h = (component_written ops c h.0, components_written ops components h.1)

ask_written : (components : List ComponentForm) (sorts : List Sort) (a : AskForm) (k : _) → HasKind components sorts a k → HasWrittenConstants a
ask_written components sorts _ _ (read place n key component k there leaf fits) = tt
ask_written components sorts _ _ (given place s there) = tt
ask_written components sorts _ _ (written v is) = is
ask_written components sorts _ _ (denied {a} h) = ask_written components sorts a _ h
ask_written components sorts _ _ (and_of {a} {b} h j) = (ask_written components sorts a _ h, ask_written components sorts b _ j)
ask_written components sorts _ _ (or_of {a} {b} h j) = (ask_written components sorts a _ h, ask_written components sorts b _ j)
ask_written components sorts _ _ (numbers_less {a} {b} h j) = (ask_written components sorts a _ h, ask_written components sorts b _ j)
ask_written components sorts _ _ (names_less {a} {b} h j) = (ask_written components sorts a _ h, ask_written components sorts b _ j)
ask_written components sorts _ _ (sum_of {a} {b} h j) = (ask_written components sorts a _ h, ask_written components sorts b _ j)
ask_written components sorts _ _ (difference_of {a} {b} h j) = (ask_written components sorts a _ h, ask_written components sorts b _ j)

pub asks_written : (components : List ComponentForm) (asks : List AskForm) (queries : List QuerySig) → AreMatched (Answers components) asks queries → EachHas HasWrittenConstants asks
asks_written components [] queries h = tt
asks_written components (a ∷ asks) [] h = absurd h
asks_written components (a ∷ asks) (q ∷ queries) h = (ask_written components q.sorts a _ h.0, asks_written components asks queries h.1)

shape_whole : (shape : CellForm) → IsWhole (shape_data shape)
shape_whole numbers = refl
shape_whole names = refl
shape_whole truths = refl
shape_whole (lex a b) = let first = shape_whole a in let second = shape_whole b in rw (first, second) refl
shape_whole (pair a b) = let first = shape_whole a in let second = shape_whole b in rw (first, second) refl

pub component_whole : (c : ComponentForm) → IsWhole (component_data c)
component_whole (a_cell shape starts effects) =
    let first = shape_whole shape in let second = map_whole value_data value_whole starts in let third = effects_whole leaves_data leaves_whole effects in rw (first, second, third) refl
component_whole (a_table key shape starts effects) =
    let sort = sort_whole key in let first = shape_whole shape in let second = map_whole value_data value_whole starts in
    let third = effects_whole (keyed_data leaves_data) (keyed_whole leaves_data leaves_whole) effects in rw (sort, first, second, third) refl
component_whole (a_set key effects) = let sort = sort_whole key in let first = effects_whole key_data (λ place. refl) effects in rw (sort, first) refl
component_whole (a_tally effects) = let first = effects_whole leaf_data leaf_whole effects in rw first refl
component_whole (tallies key effects) =
    let sort = sort_whole key in let first = effects_whole (keyed_data leaf_data) (keyed_whole leaf_data leaf_whole) effects in rw (sort, first) refl

pub ask_whole : (a : AskForm) → IsWhole (ask_data a)
ask_whole (a_leaf component place None) = refl
ask_whole (a_leaf component place (Some key)) = refl
ask_whole (parameter place) = refl
ask_whole (constant v) = value_whole v
ask_whole (negation a) = let first = ask_whole a in rw first refl
ask_whole (both a b) = let first = ask_whole a in let second = ask_whole b in rw (first, second) refl
ask_whole (either a b) = let first = ask_whole a in let second = ask_whole b in rw (first, second) refl
ask_whole (less a b) = let first = ask_whole a in let second = ask_whole b in rw (first, second) refl
ask_whole (sum a b) = let first = ask_whole a in let second = ask_whole b in rw (first, second) refl
ask_whole (difference a b) = let first = ask_whole a in let second = ask_whole b in rw (first, second) refl

pub design_whole : (d : DesignForm) → IsWhole (design_data d)
design_whole d =
    let first = map_whole component_data component_whole d.components in let second = map_whole ask_data ask_whole d.asks in rw (first, second) refl

pub operation_whole : (op : OpSig) → IsWhole (operation_data op)
operation_whole op = let first = map_whole sort_data sort_whole op.sorts in rw first refl

pub query_whole : (q : QuerySig) → IsWhole (query_data q)
query_whole q = let first = map_whole sort_data sort_whole q.sorts in let second = sort_whole q.sort in rw (first, second) refl

-- a value without floats is printed as its text
pub text_printed : (r : Result (Vec ℕ Global) AllocError) (value : Data) (d : DesignForm) → value ≡ design_data d → IfOk r (λ text. has_float value ≡ false → text.items ≡ compact_text value)
    → IfOk r (λ text. text.items ≡ design_text d)
text_printed (Ok text) value d is h = h (ap has_float is ∙ design_whole d) ∙ ap compact_text is
text_printed (Err e) value d is h = tt
