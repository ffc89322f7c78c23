-- The tables of a type that a file says have numbers or names as keys.
use Rattle.std.proofs.Common.{ℕ, sym, subst, All}
use Rattle.std.proofs.lemmas.List.Elements.{All-map}
use Rattle.kat_num.specs.declared.values.Value.{Value}
use Rattle.kat_grammar.specs.Lines.{IsKept}
use Rattle.kat_grammar.specs.declared.phrases.Kept.{Kept}
use Rattle.kat_grammar.specs.declared.phrases.Kept.TheVariants.{One, Each}
use Rattle.kat_type.specs.Types.{TypeForm}
use Rattle.kat_type_file.specs.Typing.{field_in, kept_field}
use Rattle.kat_invariant.specs.Accepted.{HasKeys, TypeFilesHaveKeys}

kept_has_keys : (k : Kept) (name : ℕ) (start : Value) → IsKept k → HasKeys (kept_field k name start)
kept_has_keys (One sort_at s) name start h = tt
kept_has_keys (Each table key_at key arrow sort_at s) name start h = h

pub type_files_have_keys : TypeFilesHaveKeys
type_files_have_keys text ty file =
    subst (λ (t : TypeForm). All HasKeys t.fields) (sym file.says)
    (All-map HasKeys field_in file.phrases.states (λ k d lt. kept_has_keys _ _ _ (file.is_text.says.formed.states k d lt)))
