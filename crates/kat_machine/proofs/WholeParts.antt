-- Each component of a listed design has a token that says what an operation gives.
use Rattle.std.proofs.Common.{◌≡◌, ◌<◌, Bool, true, false, ◌||◌, List, [], ◌∷◌, ◌++◌, map, length, refl, subst, arith, Option, None, Some}
use Rattle.kat_num.specs.declared.values.Sort.{Sort}
use Rattle.kat_type.specs.declared.signatures.OpSig.{OpSig}
use Rattle.kat_design.specs.Designs.{ComponentForm}
use Rattle.kat_design.specs.Designs.ComponentForm.{a_cell, a_table, a_set, a_tally, tallies}
use Rattle.kat_design.specs.Kinds.{kinds_of}
use Rattle.kat_design.specs.Sorted.{AreMatched, FitsCell, FitsSet, FitsTable, FitsTallies, FitsTally, GivesKind, IsComponent}
use Rattle.kat_design.specs.declared.designs.Leaf.{Leaf}
use Rattle.kat_design.specs.declared.kinds.Kind.{Kind}
use Rattle.kat_machine.specs.Ascent.{has_given, is_given, is_whole}
use Rattle.kat_rules.specs.Listed.{HasEffect, HasSome}
use Rattle.kat_rules.specs.Tokens.{cell_effect, component_tokens, effect_tokens, effects_of, effects_tokens, set_effect, shape_tokens, start_token, table_effect, tallies_effect, tally_effect}
use Rattle.kat_rules.specs.declared.constants.Constants.{Constants}
use Rattle.kat_rules.specs.declared.tokens.Token.{Token}
use Rattle.kat_rules.specs.declared.tokens.Token.TheVariants as token
use Rattle.kat_rules.proofs.Lengths.{some_kinds}
use Rattle.kat_machine.proofs.Used.{second_true}

given_behind : (u v : List Token) → has_given v ≡ true → has_given (u ++ v) ≡ true
given_behind [] v h = h
given_behind (t ∷ u) v h = second_true (is_given t) (has_given (u ++ v)) (given_behind u v h)

given_before : (u v : List Token) → has_given u ≡ true → has_given (u ++ v) ≡ true
given_before [] v h = absurd cc
given_before (t ∷ u) v h = one_of (is_given t) (has_given u) (has_given (u ++ v)) (given_before u v) h
  where
    one_of : (a b c : Bool) → (b ≡ true → c ≡ true) → a || b ≡ true → a || c ≡ true
    one_of true b c f h = refl
    one_of false b c f h = f h

leaves_given : (sorts : List Sort) (leaves : List Leaf) (kinds : List Kind) → AreMatched (GivesKind sorts) leaves kinds → 0 < length kinds → has_given (map token.Effect leaves) ≡ true
leaves_given sorts [] [] m h = absurd (omega (arith, h))
leaves_given sorts [] (k ∷ kinds) m h = absurd m
leaves_given sorts (l ∷ leaves) kinds m h = refl

-- whether some operation has an effect
effects_given : {E : Type 0} (Fits : Option E → OpSig → Type 0) (tokens : Option E → Option (List Token)) → (tokens None ≡ None)
    → ((e : E) (o : OpSig) → Fits (Some e) o → has_given (effect_tokens (tokens (Some e))) ≡ true)
    → (effects : List (Option E)) (ops : List OpSig) → AreMatched Fits effects ops → HasSome (map tokens effects) → has_given (effects_tokens (map tokens effects)) ≡ true
effects_given Fits tokens n f [] ops m h = absurd h
effects_given Fits tokens n f (e ∷ effects) [] m h = absurd m
effects_given Fits tokens n f (Some e ∷ effects) (o ∷ ops) m h = given_before (effect_tokens (tokens (Some e))) (effects_tokens (map tokens effects)) (f e o m.0)
effects_given Fits tokens n f (None ∷ effects) (o ∷ ops) m h =
    given_behind (effect_tokens (tokens None)) (effects_tokens (map tokens effects))
    (effects_given Fits tokens n f effects ops m.1 (subst (λ (t : Option (List Token)). HasSome (t ∷ map tokens effects)) n h))

all_given : (ops : List OpSig) (c : ComponentForm) → IsComponent ops c → HasEffect c → has_given (effects_tokens (effects_of c)) ≡ true
all_given ops (a_cell shape starts effects) fits some =
    effects_given (FitsCell (kinds_of shape)) cell_effect refl (λ leaves op m. leaves_given op.sorts leaves (kinds_of shape) m (some_kinds shape)) effects ops fits.2 some
all_given ops (a_table key shape starts effects) fits some = effects_given (FitsTable key (kinds_of shape)) table_effect refl (λ e op m. refl) effects ops fits.3 some
all_given ops (a_set key effects) fits some = effects_given (FitsSet key) set_effect refl (λ e op m. refl) effects ops fits.1 some
all_given ops (a_tally effects) fits some = effects_given FitsTally tally_effect refl (λ e op m. refl) effects ops fits some
all_given ops (tallies key effects) fits some = effects_given (FitsTallies key) tallies_effect refl (λ e op m. refl) effects ops fits.1 some

-- after the kind, the key sort and the shape come the starts and the effects
behind_head : (cs : Constants) (c : ComponentForm) → has_given (effects_tokens (effects_of c)) ≡ true → is_whole (component_tokens cs c) ≡ true
behind_head cs (a_cell shape starts effects) h =
    given_behind (shape_tokens shape) (map (start_token cs) starts ++ effects_tokens (map cell_effect effects)) (given_behind (map (start_token cs) starts) (effects_tokens (map cell_effect effects)) h)
behind_head cs (a_table key shape starts effects) h =
    given_behind (shape_tokens shape) (map (start_token cs) starts ++ effects_tokens (map table_effect effects)) (given_behind (map (start_token cs) starts) (effects_tokens (map table_effect effects)) h)
behind_head cs (a_set key effects) h = h
behind_head cs (a_tally effects) h = h
behind_head cs (tallies key effects) h = h

pub component_whole : (ops : List OpSig) (cs : Constants) (c : ComponentForm) → IsComponent ops c → HasEffect c → is_whole (component_tokens cs c) ≡ true
component_whole ops cs c fits some = behind_head cs c (all_given ops c fits some)
