use Rattle.std.proofs.Common.{◌≡◌, ◌++◌, ◌∷◌, [], List, sym, ap, ◌∙◌}
use Rattle.std.proofs.lemmas.List.{map-append, append_assoc}
use Rattle.kat_form.specs.declared.draft.Key.{Key}
use Rattle.kat_form.specs.Encodings.{Sense, sense_of, senses_of}
use Rattle.kat_form.specs.Drafts.{senses_in}
use Rattle.kat_form.proofs.draft.Draft.finish.Goals as goal

pub loop-key-preserved : goal.loop-key-preserved
loop-key-preserved c =
    let before = senses_of c.loop-key.meanings.items in
    let pushed : senses_of c.push.new.self.items ≡ before ++ sense_of c.meaning.result ∷ [] = ap senses_of c.in_ok-push.ensures.items ∙ map-append sense_of c.loop-key.meanings.items (c.meaning.result ∷ []) in
    ap (λ (s : List Sense). s ++ senses_in c.next.new.self) pushed
    ∙ append_assoc before (sense_of c.meaning.result ∷ []) (senses_in c.next.new.self)
    ∙ ap (λ (s : Sense). before ++ s ∷ senses_in c.next.new.self) c.meaning.ensures
    ∙ ap (λ (ks : List Key). before ++ senses_in ks) (sym c.in-Some.ensures.steps)
    ∙ c.loop-key.invariant
