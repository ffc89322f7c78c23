use Rattle.std.proofs.Common.{◌≡◌, ◌++◌, true, List, ℕ, ap, sym, ◌∙◌, subst}
use Rattle.std.specs.String.{string_bytes}
use Rattle.kat_emit_words.specs.Naming.{is_mark}
use Rattle.kat_emit_words.proofs.NameLemmas.{appended_identifier}
use Rattle.kat_emit_words.proofs.scopes.push_wanted.Goals as goal

pub returns : goal.returns
returns c =
    let e : string_bytes c.push_str.new.self ≡ c.mark_of.result.now = c.in_ok-push_str.ensures.bytes ∙ ap (λ x. x ++ c.mark_of.result.now) c.requires in
    let mark : is_mark (string_bytes c.push_str.new.self) ≡ true = subst (λ (x : List ℕ). is_mark x ≡ true) (sym e) c.mark_of.ensures in
    appended_identifier (string_bytes c.push_str.new.self) (string_bytes c.push_cased.new.into) mark c.in_ok-push_cased.ensures
