-- Operations and queries by their numbers, and calls by numbers.
use Rattle.std.specs.Prelude.{◌≡◌, ℕ, List, Option, Some, option_map, slice_get}
use Rattle.kat_actions.specs.Texts.{FitsSignature}
use Rattle.kat_actions.specs.declared.calls.Call.{Call}
use Rattle.kat_actions.specs.declared.calls.Verb.{Verb}
use Rattle.kat_actions.specs.declared.calls.Verb.TheVariants.{Do, Ask}
use Rattle.kat_design.specs.Sorted.{AreMatched}
use Rattle.kat_num.specs.Names.{IsName, code_of}
use Rattle.kat_num.specs.declared.values.Sort.{Sort}
use Rattle.kat_type.specs.declared.signatures.Signature.{Signature}
use Rattle.kat_embed.specs.Passing.{Says}
use Rattle.kat_embed.specs.declared.errors.CallError.{CallError}
use Rattle.kat_embed.specs.declared.errors.CallError.TheVariants.{NoCall, Memory}
use Rattle.kat_embed.specs.declared.passing.TaggedValue.{TaggedValue}

-- the name of the operation or query of this number, from 0, and the sorts of its arguments
abbrev pub name_at : Verb → Signature → ℕ → Option ℕ
name_at Do sig number = option_map (λ op. op.name) (slice_get sig.ops number)
name_at Ask sig number = option_map (λ query. query.name) (slice_get sig.queries number)

abbrev pub sorts_at : Verb → Signature → ℕ → Option (List Sort)
sorts_at Do sig number = option_map (λ op. op.sorts) (slice_get sig.ops number)
sorts_at Ask sig number = option_map (λ query. query.sorts) (slice_get sig.queries number)

-- the bytes are the name of the operation or query of this number
pub record IsNumberOf (verb : Verb) (sig : Signature) (bytes : List ℕ) (number : ℕ) : Type 0 where
  pub is_name : IsName bytes
  pub named : name_at verb sig number ≡ Some (code_of bytes)

-- the call of the operation or query of this number, with the arguments that what is passed says; the signature has it
pub record IsNumbered (verb : Verb) (sig : Signature) (number : ℕ) (passed : List TaggedValue) (call : Call) : Type 0 where
  pub item_is : call.item ≡ number
  pub says : AreMatched Says passed call.args
  pub fits : FitsSignature verb sig call

-- there is no such call; out of memory tells nothing
abbrev pub IsNotNumbered : Verb → Signature → ℕ → List TaggedValue → CallError → Type 0
IsNotNumbered verb sig number passed NoCall = (call : Call) → IsNumbered verb sig number passed call → ⊥
IsNotNumbered verb sig number passed Memory = Unit {0}
