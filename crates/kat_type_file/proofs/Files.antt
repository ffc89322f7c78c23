-- A text is refused by its grammar or by its phrases.
use Rattle.std.proofs.Common.{ℕ, List, refl, Result, Ok, Err}
use Rattle.std.specs.Prelude.{IfErr}
use Rattle.kat_grammar.specs.Files.{IsTextOf}
use Rattle.kat_grammar.specs.Files as grammar
use Rattle.kat_grammar.specs.Forms.{type_form as written_form}
use Rattle.kat_grammar.specs.declared.errors.GrammarError.{GrammarError}
use Rattle.kat_grammar.specs.declared.errors.GrammarError.TheVariants as refusal
use Rattle.kat_grammar.specs.declared.phrases.TypeText.{TypeText}
use Rattle.kat_type.specs.declared.errors.TypeError.{TypeError}
use Rattle.kat_type.specs.declared.errors.TypeError.TheVariants.{Refused, Memory}
use Rattle.kat_type.specs.declared.types.SeqType.{SeqType}
use Rattle.kat_type_file.specs.Typing.{TellsRefusal}
use Rattle.kat_type_file.specs.TypeFiles.{TellsFileRefusal, by_grammar, by_rule, type_error}

pub refused_by_rule : (text : List ℕ) (phrases : TypeText) (r : Result SeqType TypeError) → IsTextOf text (written_form phrases)
    → IfErr r (TellsRefusal phrases) → IfErr r (TellsFileRefusal text)
refused_by_rule text phrases (Ok ty) is h = tt
refused_by_rule text phrases (Err (Refused number at)) is h = by_rule phrases is (record { at = at; number = number }) h refl
refused_by_rule text phrases (Err Memory) is h = tt

pub refused_by_grammar : (text : List ℕ) (error : GrammarError) → grammar.TellsRefusal text error → TellsFileRefusal text (type_error error)
refused_by_grammar text (refusal.BadByte at) h = by_grammar (refusal.BadByte at) h refl
refused_by_grammar text (refusal.LongName at) h = by_grammar (refusal.LongName at) h refl
refused_by_grammar text (refusal.LongNumber at) h = by_grammar (refusal.LongNumber at) h refl
refused_by_grammar text (refusal.Syntax at) h = by_grammar (refusal.Syntax at) h refl
refused_by_grammar text (refusal.TooLarge at) h = by_grammar (refusal.TooLarge at) h refl
refused_by_grammar text refusal.Memory h = tt
