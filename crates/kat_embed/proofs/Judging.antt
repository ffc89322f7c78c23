-- Two texts are accepted, or refused in one way.
use Rattle.std.proofs.Common.{◌≡◌, ℕ, ◌⊎◌, ◌↔◌, inl, inr, List, refl, sym, ◌∙◌, ap, subst, Bool, true, false, Option, Some}
use Rattle.std.specs.Prelude.{◌≢◌, IsTrue, MatchOption}
use Rattle.std.proofs.lemmas.Bool.{false≢true}
use Rattle.kat_check.specs.Acceptance.{IsAcceptedFile, IsFirstFault}
use Rattle.kat_check.proofs.Faults.{accepted_without, one_condition, one_line}
use Rattle.kat_check.proofs.Judged.{file_judged}
use Rattle.kat_grammar.specs.Files as grammar
use Rattle.kat_grammar.specs.Files.{at_byte, no_type, too_large}
use Rattle.kat_grammar.specs.declared.errors.GrammarError.{GrammarError}
use Rattle.kat_grammar.specs.declared.errors.GrammarError.TheVariants as refusal
use Rattle.kat_json.specs.declared.errors.WireError.{WireError}
use Rattle.kat_lex.specs.Tokens.{IsFault, Lexes, ends, gap, stops, token}
use Rattle.kat_lex.specs.declared.lexer.LexError.{LexError}
use Rattle.kat_lex.specs.declared.lexer.LexError.TheVariants as lex
use Rattle.kat_lex.specs.declared.lexer.Token.{Token}
use Rattle.kat_type.specs.Signatures.{signature_of}
use Rattle.kat_type.specs.Types.{TypeForm}
use Rattle.kat_type.specs.declared.errors.TypeError.{TypeError}
use Rattle.kat_type.specs.declared.errors.TypeError.TheVariants as type_file
use Rattle.kat_type_file.specs.TypeFiles.{IsRefusedFile, IsTypeFile, TellsFileRefusal, by_grammar, by_rule, type_error}
use Rattle.kat_type_file.proofs.Judgements.{every_type_file, one_refusal, one_type, type_or_refused}
use Rattle.kat_wire.specs.FileForms.{FileForm}
use Rattle.kat_wire.specs.Files.{IsFileText}
use Rattle.kat_wire.specs.Judgements.{IsRefusal}
use Rattle.kat_wire.proofs.Judging as files
use Rattle.kat_wire.proofs.SignaturesApart.{signatures_apart}
use Rattle.kat_embed.specs.Accepting.{AreAccepted, AreTexts, IsFaultOf, IsUnaccepted, refused_type}
use Rattle.kat_embed.specs.declared.errors.AcceptError.{AcceptError}
use Rattle.kat_embed.specs.declared.errors.AcceptError.TheVariants.{BadType, BadDesign, OtherSignature, BadProof, Memory}

-- the texts say one thing
same_types : (first second : List ℕ) (ty ty' : TypeForm) (file file' : FileForm) → AreTexts first second ty file → IsTypeFile first ty' → IsFileText second file' → signature_of ty' ≡ file'.design.sig
same_types first second ty ty' file file' a says is =
    ap signature_of (one_type first ty' ty says a.says) ∙ a.agree ∙ ap (λ (f : FileForm). f.design.sig) (files.one_file second file file' a.is_file is)

fault_there : (first second : List ℕ) (ty ty' : TypeForm) (file file' : FileForm) (condition line : ℕ) → AreTexts first second ty file → AreTexts first second ty' file'
    → IsFirstFault ty' file' condition line → IsFirstFault ty file condition line
fault_there first second ty ty' file file' condition line a b fault =
    subst (λ (f : FileForm). IsFirstFault ty f condition line) (files.one_file second file' file b.is_file a.is_file)
    (subst (λ (t : TypeForm). IsFirstFault t file' condition line) (one_type first ty' ty b.says a.says) fault)

-- what is accepted isn't refused
pub accepted_apart : (first second : List ℕ) (ty : TypeForm) (file : FileForm) (error : AcceptError) → AreAccepted first second ty file → IsUnaccepted first second error → error ≡ Memory
accepted_apart first second ty file (BadType number at) a h = absurd (type_or_refused first ty (type_file.Refused number at) a.texts.says h)
accepted_apart first second ty file (BadDesign error) a h = absurd (files.never_both second file error a.texts.is_file h.refused)
accepted_apart first second ty file OtherSignature a h = absurd (h.differ (same_types first second ty h.ty file h.file a.texts h.says h.is_file))
accepted_apart first second ty file (BadProof condition line) a h =
    absurd (accepted_without ty file condition line a.accepted (fault_there first second ty h.ty file h.file condition line a.texts h.texts h.fault))
accepted_apart first second ty file Memory a h = refl

-- what is refused is refused in one way
pub refused_once : (first second : List ℕ) (some other : AcceptError) → IsUnaccepted first second some → IsUnaccepted first second other → some ≢ Memory → other ≢ Memory → some ≡ other
refused_once first second Memory other h k m n = absurd (m refl)
refused_once first second some Memory h k m n = absurd (n refl)
refused_once first second (BadType a b) (BadType c d) h k m n = ap refused_type (one_refusal first (type_file.Refused a b) (type_file.Refused c d) h k)
refused_once first second (BadType a b) (BadDesign e) h k m n = absurd (type_or_refused first k.ty (type_file.Refused a b) k.says h)
refused_once first second (BadType a b) OtherSignature h k m n = absurd (type_or_refused first k.ty (type_file.Refused a b) k.says h)
refused_once first second (BadType a b) (BadProof c d) h k m n = absurd (type_or_refused first k.ty (type_file.Refused a b) k.texts.says h)
refused_once first second (BadDesign e) (BadType a b) h k m n = absurd (type_or_refused first h.ty (type_file.Refused a b) h.says k)
refused_once first second (BadDesign e) (BadDesign f) h k m n = ap BadDesign (files.one_refusal second e f h.refused k.refused)
refused_once first second (BadDesign e) OtherSignature h k m n = absurd (files.never_both second k.file e k.is_file h.refused)
refused_once first second (BadDesign e) (BadProof c d) h k m n = absurd (files.never_both second k.file e k.texts.is_file h.refused)
refused_once first second OtherSignature (BadType a b) h k m n = absurd (type_or_refused first h.ty (type_file.Refused a b) h.says k)
refused_once first second OtherSignature (BadDesign e) h k m n = absurd (files.never_both second h.file e h.is_file k.refused)
refused_once first second OtherSignature OtherSignature h k m n = refl
refused_once first second OtherSignature (BadProof c d) h k m n = absurd (h.differ (same_types first second k.ty h.ty k.file h.file k.texts h.says h.is_file))
refused_once first second (BadProof a b) (BadType c d) h k m n = absurd (type_or_refused first h.ty (type_file.Refused c d) h.texts.says k)
refused_once first second (BadProof a b) (BadDesign e) h k m n = absurd (files.never_both second h.file e h.texts.is_file k.refused)
refused_once first second (BadProof a b) OtherSignature h k m n = absurd (k.differ (same_types first second h.ty k.ty h.file k.file h.texts k.says k.is_file))
refused_once first second (BadProof a b) (BadProof c d) h k m n =
    let there = fault_there first second h.ty k.ty h.file k.file c d h.texts k.texts k.fault in
    λ i. BadProof (one_condition h.ty h.file a b c d h.fault there i) (one_line h.ty h.file a b c d h.fault there i)

-- each two texts are judged
abbrev AreJudged : List ℕ → List ℕ → Type 0
AreJudged first second =
    ((ty : TypeForm) × (file : FileForm) × AreAccepted first second ty file) ⊎ ((error : AcceptError) × IsUnaccepted first second error × (error ≢ Memory))

judged_proof : (first second : List ℕ) (ty : TypeForm) (file : FileForm) → AreTexts first second ty file
    → IsAcceptedFile ty file ⊎ ((condition : ℕ) × (line : ℕ) × IsFirstFault ty file condition line) → AreJudged first second
judged_proof first second ty file texts (inl accepted) = inl (ty, file, record { texts = texts; accepted = accepted })
judged_proof first second ty file texts (inr h) = inr (BadProof h.0 h.1, record { ty = ty; file = file; texts = texts; fault = h.2 }, λ e. absurd (cc))

judged_third : (first second : List ℕ) (ty : TypeForm) (file : FileForm) → IsTypeFile first ty → IsFileText second file
    → (signature_of ty ≡ file.design.sig) ⊎ (signature_of ty ≡ file.design.sig → ⊥) → AreJudged first second
judged_third first second ty file says is (inl same) = judged_proof first second ty file (record { says = says; is_file = is; agree = same }) (file_judged ty file)
judged_third first second ty file says is (inr apart) = inr (OtherSignature, record { ty = ty; file = file; says = says; is_file = is; differ = apart }, λ e. absurd (cc))

judged_second : (first second : List ℕ) (ty : TypeForm) → IsTypeFile first ty → ((f : FileForm) × IsFileText second f) ⊎ ((error : WireError) × IsRefusal second error) → AreJudged first second
judged_second first second ty says (inl h) = judged_third first second ty h.0 says h.1 (signatures_apart (signature_of ty) h.0.design.sig)
judged_second first second ty says (inr h) = inr (BadDesign h.0, record { ty = ty; says = says; refused = h.1 }, λ e. absurd (cc))

-- a refusal of a type file is by a rule
no_fault : (text : List ℕ) (at : ℕ) (tokens : List Token) (end : Option LexError) → Lexes text at tokens end → end ≡ Some lex.Memory → ⊥
no_fault text at _ _ (ends past) e = absurd cc
no_fault text at _ _ (stops {fault = fault} inside is) e = subst (λ (f : Option LexError). MatchOption f ⊥ (λ one. IsFault text at one)) e is
no_fault text at tokens end (gap to inside is more) e = no_fault text to tokens end more e
no_fault text at _ end (token {tokens = tokens} first inside is more) e = no_fault text first.to tokens end more e

by_rule_alone : (text : List ℕ) (error : GrammarError) → grammar.IsRefused text error → error ≡ refusal.Memory → ⊥
by_rule_alone text _ (at_byte (lex.BadByte at) f) e = absurd cc
by_rule_alone text _ (at_byte (lex.LongName at) f) e = absurd cc
by_rule_alone text _ (at_byte (lex.LongNumber at) f) e = absurd cc
by_rule_alone text _ (at_byte lex.Memory f) e = no_fault text 0 f.0 (Some lex.Memory) f.1 refl
by_rule_alone text _ (too_large tokens k is excess) e = absurd cc
by_rule_alone text _ (no_type tokens k is syntax small) e = absurd cc

memory_alone : (text : List ℕ) (error : GrammarError) → grammar.IsRefused text error → type_file.Memory ≡ type_error error → ⊥
memory_alone text (refusal.BadByte at) h e = absurd cc
memory_alone text (refusal.LongName at) h e = absurd cc
memory_alone text (refusal.LongNumber at) h e = absurd cc
memory_alone text (refusal.Syntax at) h e = absurd cc
memory_alone text (refusal.TooLarge at) h e = absurd cc
memory_alone text refusal.Memory h e = by_rule_alone text refusal.Memory h refl

no_memory : (text : List ℕ) → IsRefusedFile text type_file.Memory → ⊥
no_memory text (by_grammar fault h e) = memory_alone text fault h e
no_memory text (by_rule phrases is fault first e) = absurd cc

judged_type : (first second : List ℕ) (error : TypeError) → IsRefusedFile first error → AreJudged first second
judged_type first second (type_file.Refused number at) h = inr (BadType number at, h, λ e. absurd (cc))
judged_type first second type_file.Memory h = absurd (no_memory first h)

judged_first : (first second : List ℕ) → ((ty : TypeForm) × IsTypeFile first ty) ⊎ ((error : TypeError) × IsRefusedFile first error) → AreJudged first second
judged_first first second (inl h) = judged_second first second h.0 h.1 (files.every_text second)
judged_first first second (inr h) = judged_type first second h.0 h.1

pub texts_judged : (first second : List ℕ) → AreJudged first second
texts_judged first second = judged_first first second (every_type_file first)

-- the check of a proof tells how the texts are refused
pub fault_refused : (first second : List ℕ) (ty : TypeForm) (file : FileForm) (error : AcceptError) → AreTexts first second ty file → IsFaultOf ty file error → IsUnaccepted first second error
fault_refused first second ty file (BadType number at) texts h = absurd h
fault_refused first second ty file (BadDesign error) texts h = absurd h
fault_refused first second ty file OtherSignature texts h = absurd h
fault_refused first second ty file (BadProof condition line) texts h = record { ty = ty; file = file; texts = texts; fault = h }
fault_refused first second ty file Memory texts h = tt

-- a type file that isn't read
pub type_refused : (first second : List ℕ) (error : TypeError) → TellsFileRefusal first error → IsUnaccepted first second (refused_type error)
type_refused first second (type_file.Refused number at) h = h
type_refused first second type_file.Memory h = tt

-- an answer that is exact
pub differ_so : {P : Type 0} (b : Bool) → IsTrue b ↔ P → b ≡ false → P → ⊥
differ_so b exact is p = false≢true (sym is ∙ exact.1 p)

pub agree_so : {P : Type 0} (b : Bool) → IsTrue b ↔ P → b ≡ true → P
agree_so b exact is = exact.0 is
