-- The design that the token list of a design stands for is that design.
use Rattle.std.proofs.Common.{◌≡◌, ℕ, true, List, [], ◌∷◌, ◌++◌, map, refl, ◌∙◌, ap, append_assoc, Option, None, Some}
use Rattle.kat_num.specs.declared.values.Value.{Value}
use Rattle.kat_num.specs.declared.values.Value.TheVariants as value
use Rattle.kat_shape.specs.Forms.{CellForm, lex, names, numbers, pair, truths}
use Rattle.kat_design.specs.Designs.{AskForm, ComponentForm}
use Rattle.kat_design.specs.Designs.ComponentForm.{a_cell, a_table, a_set, a_tally, tallies}
use Rattle.kat_design.specs.Designs.AskForm.{leaf, parameter, constant, negation, both, either, less, sum, difference}
use Rattle.kat_design.specs.Sorted.{EachHas}
use Rattle.kat_design.specs.declared.designs.Leaf.{Leaf}
use Rattle.kat_decoding.specs.Decoded.{decoded_asks, is_narrow, one_taken, push_ask, two_taken}
use Rattle.kat_rules.specs.Listed.{HasConstants}
use Rattle.kat_rules.specs.Tokens.{ask_tokens, asks_tokens, cell_effect, component_tokens, components_tokens, constant_token, effect_tokens, effects_of, effects_tokens, head_tokens, set_effect, shape_tokens, start_token, starts_of, table_effect, tallies_effect, tally_effect}
use Rattle.kat_rules.specs.declared.constants.Constants.{Constants}
use Rattle.kat_rules.specs.declared.tokens.Token.{Token}
use Rattle.kat_rules.specs.declared.tokens.Token.TheVariants as token
use Rattle.kat_rules.proofs.Values.{place_value}

-- asks
abbrev pub IsNarrow : AskForm → Type 0
IsNarrow (leaf component place key) = (is_narrow component ≡ true) × (is_narrow place ≡ true)
IsNarrow (parameter place) = Unit {0}
IsNarrow (constant v) = Unit {0}
IsNarrow (negation a) = IsNarrow a
IsNarrow (both a b) = IsNarrow a × IsNarrow b
IsNarrow (either a b) = IsNarrow a × IsNarrow b
IsNarrow (less a b) = IsNarrow a × IsNarrow b
IsNarrow (sum a b) = IsNarrow a × IsNarrow b
IsNarrow (difference a b) = IsNarrow a × IsNarrow b

constant_decoded : (cs : Constants) (v : Value) (asks : List AskForm) → HasConstants cs (constant v) → push_ask cs (constant_token cs v) asks ≡ constant v ∷ asks
constant_decoded cs (value.Num z) asks h = ap (λ (u : Value). constant u ∷ asks) (place_value (value.Num z) cs.numbers h)
constant_decoded cs (value.Name code) asks h = ap (λ (u : Value). constant u ∷ asks) (place_value (value.Name code) cs.names h)
constant_decoded cs (value.Bool b) asks h = refl

-- two asks in front are taken by the operator before them
two_decoded : (cs : Constants) (f : AskForm → AskForm → AskForm) (a b : AskForm) (w : List Token)
    → ((v : List Token) → decoded_asks cs (ask_tokens cs a ++ v) ≡ a ∷ decoded_asks cs v) → ((v : List Token) → decoded_asks cs (ask_tokens cs b ++ v) ≡ b ∷ decoded_asks cs v)
    → two_taken f (decoded_asks cs ((ask_tokens cs a ++ ask_tokens cs b) ++ w)) ≡ f a b ∷ decoded_asks cs w
two_decoded cs f a b w p q =
    ap (λ (l : List Token). two_taken f (decoded_asks cs l)) (append_assoc (ask_tokens cs a) (ask_tokens cs b) w)
    ∙ ap (two_taken f) (p (ask_tokens cs b ++ w) ∙ ap (λ (l : List AskForm). a ∷ l) (q w))

pub ask_decoded : (cs : Constants) (a : AskForm) → HasConstants cs a → IsNarrow a → (w : List Token) → decoded_asks cs (ask_tokens cs a ++ w) ≡ a ∷ decoded_asks cs w
ask_decoded cs (leaf component place key) h n w = rw (n.0, n.1) refl
ask_decoded cs (parameter place) h n w = refl
ask_decoded cs (constant v) h n w = constant_decoded cs v (decoded_asks cs w) h
ask_decoded cs (negation a) h n w = ap (one_taken negation) (ask_decoded cs a h n w)
ask_decoded cs (both a b) h n w = two_decoded cs both a b w (λ v. ask_decoded cs a h.0 n.0 v) (λ v. ask_decoded cs b h.1 n.1 v)
ask_decoded cs (either a b) h n w = two_decoded cs either a b w (λ v. ask_decoded cs a h.0 n.0 v) (λ v. ask_decoded cs b h.1 n.1 v)
ask_decoded cs (less a b) h n w = two_decoded cs less a b w (λ v. ask_decoded cs a h.0 n.0 v) (λ v. ask_decoded cs b h.1 n.1 v)
ask_decoded cs (sum a b) h n w = two_decoded cs sum a b w (λ v. ask_decoded cs a h.0 n.0 v) (λ v. ask_decoded cs b h.1 n.1 v)
ask_decoded cs (difference a b) h n w = two_decoded cs difference a b w (λ v. ask_decoded cs a h.0 n.0 v) (λ v. ask_decoded cs b h.1 n.1 v)

pub asks_decoded : (cs : Constants) (asks : List AskForm) → EachHas (HasConstants cs) asks → EachHas IsNarrow asks → decoded_asks cs (asks_tokens cs asks) ≡ asks
asks_decoded cs [] h n = refl
asks_decoded cs (a ∷ asks) h n = ask_decoded cs a h.0 n.0 (asks_tokens cs asks) ∙ ap (λ (l : List AskForm). a ∷ l) (asks_decoded cs asks h.1 n.1)

-- tokens that no ask has are passed over
abbrev pub IsPassed : Constants → List Token → Type 0
IsPassed cs v = (w : List Token) → decoded_asks cs (v ++ w) ≡ decoded_asks cs w

passed_both : (cs : Constants) (u v : List Token) → IsPassed cs u → IsPassed cs v → IsPassed cs (u ++ v)
passed_both cs u v p q = λ w. ap (decoded_asks cs) (append_assoc u v w) ∙ p (v ++ w) ∙ q w

passed_shape : (cs : Constants) (s : CellForm) → IsPassed cs (shape_tokens s)
passed_shape cs numbers = λ w. refl
passed_shape cs names = λ w. refl
passed_shape cs truths = λ w. refl
passed_shape cs (lex a b) = passed_both cs (shape_tokens a) (shape_tokens b) (passed_shape cs a) (passed_shape cs b)
passed_shape cs (pair a b) = passed_both cs (shape_tokens a) (shape_tokens b) (passed_shape cs a) (passed_shape cs b)

passed_head : (cs : Constants) (c : ComponentForm) → IsPassed cs (head_tokens c)
passed_head cs (a_cell shape starts effects) = passed_shape cs shape
passed_head cs (a_table key shape starts effects) = passed_shape cs shape
passed_head cs (a_set key effects) = λ w. refl
passed_head cs (a_tally effects) = λ w. refl
passed_head cs (tallies key effects) = λ w. refl

passed_starts : (cs : Constants) (vs : List Value) → IsPassed cs (map (start_token cs) vs)
passed_starts cs [] = λ w. refl
passed_starts cs (v ∷ vs) = passed_starts cs vs

passed_leaves : (cs : Constants) (leaves : List Leaf) → IsPassed cs (map token.Effect leaves)
passed_leaves cs [] = λ w. refl
passed_leaves cs (l ∷ leaves) = passed_leaves cs leaves

passed_effects : {A : Type 0} (cs : Constants) (g : A → Option (List Token)) → ((e : A) → IsPassed cs (effect_tokens (g e))) → (es : List A) → IsPassed cs (effects_tokens (map g es))
passed_effects cs g h [] = λ w. refl
passed_effects cs g h (e ∷ es) = passed_both cs (effect_tokens (g e)) (effects_tokens (map g es)) (h e) (passed_effects cs g h es)

passed_cell : (cs : Constants) (e : Option (List Leaf)) → IsPassed cs (effect_tokens (cell_effect e))
passed_cell cs None = λ w. refl
passed_cell cs (Some leaves) = passed_leaves cs leaves

passed_table : (cs : Constants) (e : Option (ℕ × List Leaf)) → IsPassed cs (effect_tokens (table_effect e))
passed_table cs None = λ w. refl
passed_table cs (Some e) = passed_leaves cs e.1

passed_set : (cs : Constants) (e : Option ℕ) → IsPassed cs (effect_tokens (set_effect e))
passed_set cs None = λ w. refl
passed_set cs (Some place) = λ w. refl

passed_tally : (cs : Constants) (e : Option Leaf) → IsPassed cs (effect_tokens (tally_effect e))
passed_tally cs None = λ w. refl
passed_tally cs (Some weight) = λ w. refl

passed_tallies : (cs : Constants) (e : Option (ℕ × Leaf)) → IsPassed cs (effect_tokens (tallies_effect e))
passed_tallies cs None = λ w. refl
passed_tallies cs (Some e) = λ w. refl

passed_all : (cs : Constants) (c : ComponentForm) → IsPassed cs (effects_tokens (effects_of c))
passed_all cs (a_cell shape starts effects) = passed_effects cs cell_effect (passed_cell cs) effects
passed_all cs (a_table key shape starts effects) = passed_effects cs table_effect (passed_table cs) effects
passed_all cs (a_set key effects) = passed_effects cs set_effect (passed_set cs) effects
passed_all cs (a_tally effects) = passed_effects cs tally_effect (passed_tally cs) effects
passed_all cs (tallies key effects) = passed_effects cs tallies_effect (passed_tallies cs) effects

pub passed_components : (cs : Constants) (components : List ComponentForm) → IsPassed cs (components_tokens cs components)
passed_components cs [] = λ w. refl
passed_components cs (c ∷ more) =
    passed_both cs (component_tokens cs c) (components_tokens cs more)
    (passed_both cs (head_tokens c) (map (start_token cs) (starts_of c) ++ effects_tokens (effects_of c)) (passed_head cs c)
    (passed_both cs (map (start_token cs) (starts_of c)) (effects_tokens (effects_of c)) (passed_starts cs (starts_of c)) (passed_all cs c)))
    (passed_components cs more)
