use Rattle.std.proofs.Common.{◌≡◌, ◌-◌, ◌++◌, ◌∷◌, [], refl, ap, ◌∙◌}
use Rattle.std.proofs.lemmas.List.{map-append}
use Rattle.kat_claims.specs.Changes.{effects_of, old_of}
use Rattle.kat_symbols.specs.Views.{pair_form, pairs_form, reader_of, symbol_form}
use Rattle.kat_claims.proofs.Behind.{pairs_on}
use Rattle.kat_claims.proofs.effects.Change.+push_pairs.Goals as goal

pub returns : goal.returns
returns t c =
    let pushed : pairs_form c.push.new.self.items ≡ pairs_form c.args.pairs.now.items ++ (symbol_form c.in_ok-old.old, symbol_form c.in_ok-effect.effect) ∷ [] =
    ap pairs_form c.in_ok-push.ensures.items ∙ map-append pair_form c.args.pairs.now.items ((c.in_ok-old.old, c.in_ok-effect.effect) ∷ []) in
    pairs_on (old_of c.args.self.now) (effects_of c.args.self.now c.args.gifts.now) c.args.from c.in_ok-next.next c.args.left (c.args.left - 1)
    (pairs_form c.args.pairs.now.items) (pairs_form c.push.new.self.items) (reader_of c.args.reader.now) (reader_of c.old_leaf.new.reader) (reader_of c.effect.new.reader)
    (symbol_form c.in_ok-old.old) (symbol_form c.in_ok-effect.effect) (pairs_form c.push_pairs.new.pairs.items, reader_of c.push_pairs.new.reader)
    c.if-left-eq0.false c.in_ok-next.ensures refl c.in_ok-old.ensures c.in_ok-effect.ensures pushed c.in_ok-push_pairs.ensures
