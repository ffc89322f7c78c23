-- The machine reads the token list of each design whose sorts fit.
use Rattle.std.proofs.Common.{◌≡◌, ℕ, zero, suc, ◌+◌, ◌<◌, inl, inr, Bool, true, false, List, [], ◌∷◌, ◌++◌, map, length, ◌-◌, refl, sym, ◌∙◌, ap, subst, append_assoc, append-nil, arith, Option, None, Some}
use Rattle.std.specs.Prelude.{All, ◌≤◌, slice_get, nat_lt}
use Rattle.std.specs.List.{range_with_len}
use Rattle.std.proofs.lemmas.Grind.{common_steps}
use Rattle.std.proofs.lemmas.List.{length-append}
use Rattle.std.proofs.lemmas.Option.{slice_get_past}
use Rattle.kat_num.specs.declared.values.Sort.{Sort}
use Rattle.kat_num.specs.declared.values.Sort.TheVariants as sort
use Rattle.kat_num.specs.declared.values.Value.{Value}
use Rattle.kat_num.specs.declared.values.Value.TheVariants as value
use Rattle.kat_shape.specs.Forms.{CellForm, IsChainForm, IsGoodForm, numbers, names, truths, lex, pair}
use Rattle.kat_walk.specs.Machines.{Accepts, IsOneOf}
use Rattle.kat_walk.proofs.Going.{Goes, goes_accepted, goes_on}
use Rattle.kat_walk.proofs.Pruned.{one_kept}
use Rattle.kat_walk.proofs.WordLemmas.{one_from, one_mapped}
use Rattle.kat_design.specs.Designs.{AskForm, ComponentForm, DesignForm}
use Rattle.kat_design.specs.Designs.ComponentForm.{a_cell, a_table, a_set, a_tally, tallies}
use Rattle.kat_design.specs.Designs.AskForm.{constant}
use Rattle.kat_design.specs.Kinds.{component_kinds, is_wanted, kinds_of, sort_kind, value_kind}
use Rattle.kat_design.specs.Sorted.{Answers, AreMatched, EachHas, HasKind, IsComponent, IsStart}
use Rattle.kat_design.specs.Sorted.HasKind.{read, given, written, denied, and_of, or_of, numbers_less, names_less, sum_of, difference_of}
use Rattle.kat_design.specs.declared.kinds.Kind.{Kind}
use Rattle.kat_design.specs.declared.kinds.Kind.TheVariants as kind
use Rattle.kat_design.specs.declared.kinds.Wanted.{Wanted}
use Rattle.kat_design.specs.declared.kinds.Wanted.TheVariants.{Exactly, Ordered}
use Rattle.kat_design.proofs.Converse.{kind_itself}
use Rattle.kat_type.specs.declared.signatures.OpSig.{OpSig}
use Rattle.kat_type.specs.declared.signatures.QuerySig.{QuerySig}
use Rattle.kat_machine.specs.Choices.{argument_kind, ask_choices, choices_for, kind_at, known_kind, member, op_sorts, operators, places_of, query_sorts, row_of, shaped_row, token_kind}
use Rattle.kat_rules.specs.Constants.{of_kind, place_of}
use Rattle.kat_machine.specs.Grammar.{ask_at, asked_kind, at_ask, at_effect, at_parts, at_shape, at_starts, at_wants, compared, first_place, from_effecting, grammar, is_of, part_choices, shape_choices, tail_of, wants_behind}
use Rattle.kat_rules.specs.Listed.{AreStarts, HasConstants, HasKindOf, KeepsRules}
use Rattle.kat_machine.specs.Picked.{AreChosen, ArePicked, IsPicked}
use Rattle.kat_rules.specs.Tokens.{ask_tokens, asks_tokens, component_tokens, components_tokens, constant_token, design_tokens, effect_tokens, effects_of, effects_tokens, shape_tokens, start_token}
use Rattle.kat_rules.specs.declared.constants.Setting.{Setting}
use Rattle.kat_machine.specs.declared.modes.Mode.{Mode}
use Rattle.kat_machine.specs.declared.modes.Mode.TheVariants as mode
use Rattle.kat_machine.specs.declared.modes.Place.{Place}
use Rattle.kat_machine.specs.declared.modes.Row.{Row}
use Rattle.kat_machine.specs.declared.modes.Want.{Want}
use Rattle.kat_machine.specs.declared.modes.Want.TheVariants as want
use Rattle.kat_rules.specs.declared.tokens.Token.{Token}
use Rattle.kat_rules.specs.declared.tokens.Token.TheVariants as token
use Rattle.kat_type.specs.Signatures.{IsSmall}
use Rattle.kat_machine.proofs.Effects.{IsFew, all_first, all_rest, effects_picked, some_wants}
use Rattle.kat_rules.proofs.Values.{one_counted, place_inside}
use Rattle.kat_machine.proofs.Members.{atom_chosen, given_atom, operator_chosen, read_known, row_kinds, row_there, written_atom}

abbrev at : Mode → List Row → Place
at mode rows = record { mode = mode; rows = rows }

-- what is left if this many are left of a list
there_after : {A : Type 0} (front : List A) (y : A) (ys : List A) (i : ℕ) → i ≡ length front → slice_get (front ++ y ∷ ys) i ≡ Some y
there_after [] y ys zero e = refl
there_after [] y ys (suc i) e = absurd (omega (arith, e))
there_after (x ∷ front) y ys zero e = absurd (omega (arith, e))
there_after (x ∷ front) y ys (suc i) e = there_after front y ys i (omega (arith, e))

next_left : {A : Type 0} (xs front : List A) (y : A) (ys : List A) → xs ≡ front ++ y ∷ ys → slice_get xs (length xs - length (y ∷ ys)) ≡ Some y
next_left xs front y ys e =
    let l : length xs ≡ length front + length (y ∷ ys) = ap length e ∙ length-append front (y ∷ ys) in
    subst (λ (l : List _). slice_get l (length xs - length (y ∷ ys)) ≡ Some y) (sym e) (there_after front y ys (length xs - length (y ∷ ys)) (omega (arith, l)))

none_left : {A : Type 0} (xs : List A) (n : ℕ) → n ≡ 0 → slice_get xs (length xs - n) ≡ None
none_left xs n e = slice_get_past xs (length xs - n) (omega (arith, e))

still_left : {A : Type 0} (xs front : List A) (y : A) (ys : List A) → xs ≡ front ++ y ∷ ys → xs ≡ (front ++ y ∷ []) ++ ys
still_left xs front y ys e = e ∙ sym (append_assoc front (y ∷ []) ys)

some_left : (n : ℕ) → nat_lt 0 (suc n) ≡ true
some_left n = grind (arith, common_steps)

-- shapes
abbrev IsShape : Bool → CellForm → Type 0
IsShape true s = IsChainForm s
IsShape false s = IsGoodForm s

max_chosen : (c : Bool) (chains : List Bool) → IsOneOf token.Max (shape_choices (c ∷ chains))
max_chosen true chains = inl refl
max_chosen false chains = inl refl

name_chosen : (c : Bool) (chains : List Bool) → IsOneOf token.Name (shape_choices (c ∷ chains))
name_chosen true chains = inr (inl refl)
name_chosen false chains = inr (inl refl)

or_chosen : (c : Bool) (chains : List Bool) → IsOneOf token.Or (shape_choices (c ∷ chains))
or_chosen true chains = inr (inr (inl refl))
or_chosen false chains = inr (inr (inl refl))

lex_chosen : (c : Bool) (chains : List Bool) → IsOneOf token.Lex (shape_choices (c ∷ chains))
lex_chosen true chains = inr (inr (inr (inl refl)))
lex_chosen false chains = inr (inr (inr (inl refl)))

lex_parts : (c : Bool) (a b : CellForm) → IsShape c (lex a b) → IsShape true a × IsShape c b
lex_parts true a b h = h
lex_parts false a b h = h

shape_goes : (x : Setting) (key : Option Sort) (s : CellForm) (c : Bool) (chains : List Bool) (kinds : List Kind) (rows : List Row) → IsShape c s
    → Goes (grammar x) (at (mode.Shaping key (c ∷ chains) kinds) rows) (shape_tokens s) (at_shape x key chains (kinds ++ kinds_of s) rows)
shape_goes x key numbers c chains kinds rows h = (refl, max_chosen c chains, refl)
shape_goes x key names c chains kinds rows h = (refl, name_chosen c chains, refl)
shape_goes x key truths c chains kinds rows h = (refl, or_chosen c chains, refl)
shape_goes x key (lex a b) c chains kinds rows h = (
  refl,
  lex_chosen c chains,
  goes_on (grammar x) (at (mode.Shaping key (true ∷ c ∷ chains) kinds) rows) (at (mode.Shaping key (c ∷ chains) (kinds ++ kinds_of a)) rows) (at_shape x key chains (kinds ++ (kinds_of a ++ kinds_of b)) rows)
      (shape_tokens a) (shape_tokens b) (shape_goes x key a true (c ∷ chains) kinds rows (lex_parts c a b h).0)
      (subst (λ (l : List Kind). Goes (grammar x) (at (mode.Shaping key (c ∷ chains) (kinds ++ kinds_of a)) rows) (shape_tokens b) (at_shape x key chains l rows))
      (append_assoc kinds (kinds_of a) (kinds_of b)) (shape_goes x key b c chains (kinds ++ kinds_of a) rows (lex_parts c a b h).1)),
)
shape_goes x key (pair a b) true chains kinds rows h = absurd h
shape_goes x key (pair a b) false chains kinds rows h = (
  refl,
  inr (inr (inr (inr (inl refl)))),
  goes_on (grammar x) (at (mode.Shaping key (false ∷ false ∷ chains) kinds) rows) (at (mode.Shaping key (false ∷ chains) (kinds ++ kinds_of a)) rows) (at_shape x key chains (kinds ++ (kinds_of a ++ kinds_of b)) rows)
      (shape_tokens a) (shape_tokens b) (shape_goes x key a false (false ∷ chains) kinds rows h.0)
      (subst (λ (l : List Kind). Goes (grammar x) (at (mode.Shaping key (false ∷ chains) (kinds ++ kinds_of a)) rows) (shape_tokens b) (at_shape x key chains l rows))
      (append_assoc kinds (kinds_of a) (kinds_of b)) (shape_goes x key b false chains (kinds ++ kinds_of a) rows h.1)),
)

-- starts
start_chosen : (x : Setting) (v : Value) (k : Kind) (kinds : List Kind) → value_kind v ≡ k → IsOneOf v (of_kind x.constants (value_kind v))
    → IsOneOf (start_token x.constants v) (map token.Start (range_with_len 0 (length (of_kind x.constants k))))
start_chosen x v k kinds is h =
    subst (λ (j : Kind). IsOneOf (start_token x.constants v) (map token.Start (range_with_len 0 (length (of_kind x.constants j))))) is
    (one_mapped token.Start (place_of v (of_kind x.constants (value_kind v))) (range_with_len 0 (length (of_kind x.constants (value_kind v))))
    (one_counted 0 (length (of_kind x.constants (value_kind v))) (place_of v (of_kind x.constants (value_kind v))) (place_of v (of_kind x.constants (value_kind v))) (omega arith)
    (place_inside v (of_kind x.constants (value_kind v)) h)))

starts_go : (x : Setting) (row : Row) (starts : List Value) (kinds : List Kind) (rows : List Row) → AreMatched IsStart starts kinds
    → EachHas (λ (v : Value). IsOneOf v (of_kind x.constants (value_kind v))) starts
    → Goes (grammar x) (at_starts x row kinds rows) (map (start_token x.constants) starts) (at_effect row (length x.sig.ops) rows)
starts_go x row [] [] rows a h = refl
starts_go x row [] (k ∷ kinds) rows a h = absurd a
starts_go x row (v ∷ starts) [] rows a h = absurd a
starts_go x row (v ∷ starts) (k ∷ kinds) rows a h = (refl, start_chosen x v k kinds a.0.kind_is h.0, starts_go x row starts kinds rows a.1 h.1)

-- effects
parts_go : (x : Setting) (row : Row) (left : ℕ) (op : OpSig) (wants : List Want) (tokens : List Token) (rows : List Row) → slice_get x.sig.ops (length x.sig.ops - left) ≡ Some op → AreChosen op.sorts wants tokens
    → Goes (grammar x) (at_parts row left wants rows) tokens (at_effect row (left - 1) rows)
parts_go x row left op [] [] rows e a = refl
parts_go x row left op [] (t ∷ tokens) rows e a = absurd a
parts_go x row left op (w ∷ wants) [] rows e a = absurd a
parts_go x row left op (w ∷ wants) (t ∷ tokens) rows e a =
    (refl, subst (λ (o : Option OpSig). IsOneOf t (choices_for (op_sorts o) w)) (sym e) a.0, parts_go x row left op wants tokens rows e a.1)

-- a part of an effect isn't the token of none
part_begins : (row : Row) (left : ℕ) (rows : List Row) (sorts : List Sort) (w : Want) (t : Token) → IsOneOf t (choices_for sorts w)
    → from_effecting row left rows t ≡ at_parts row left (tail_of row.wants) rows
part_begins row left rows sorts (want.Key s) t h = let f = one_from token.At t (places_of s sorts) h in ap (from_effecting row left rows) f.1
part_begins row left rows sorts (want.Member s) t h = let f = one_from member t (places_of s sorts) h in ap (from_effecting row left rows) f.1
part_begins row left rows sorts (want.Leaf k) t h = let f = one_from token.Effect t _ h in ap (from_effecting row left rows) f.1
part_begins row left rows sorts want.Weight t h = let f = one_from token.Effect t _ h in ap (from_effecting row left rows) f.1

effect_goes : (x : Setting) (row : Row) (left : ℕ) (op : OpSig) (wants : List Want) (e : Option (List Token)) (rows : List Row) → slice_get x.sig.ops (length x.sig.ops - left) ≡ Some op → row.wants ≡ wants → 0 < length wants
    → IsPicked wants e op → Goes (grammar x) (at (mode.Effecting row left) rows) (effect_tokens e) (at_effect row (left - 1) rows)
effect_goes x row left op wants None rows there is some a = (refl, inl refl, refl)
effect_goes x row left op [] (Some tokens) rows there is some a = absurd (omega (arith, some))
effect_goes x row left op (w ∷ wants) (Some []) rows there is some a = absurd a
effect_goes x row left op (w ∷ wants) (Some (t ∷ tokens)) rows there is some a = (
  refl,
  inr (subst (λ (o : Option OpSig). IsOneOf t (part_choices (op_sorts o) row.wants)) (sym there) (subst (λ (ws : List Want). IsOneOf t (part_choices op.sorts ws)) (sym is) a.0)),
  subst (λ (p : Place). Goes (grammar x) p tokens (at_effect row (left - 1) rows)) (sym (part_begins row left rows op.sorts w t a.0))
      (subst (λ (ws : List Want). Goes (grammar x) (at_parts row left (tail_of ws) rows) tokens (at_effect row (left - 1) rows)) (sym is)
      (parts_go x row left op wants tokens rows there a.1)),
)

effects_go : (x : Setting) (row : Row) (front ops : List OpSig) (es : List (Option (List Token))) (rows : List Row) → x.sig.ops ≡ front ++ ops → 0 < length row.wants → ArePicked row.wants es ops
    → Goes (grammar x) (at_effect row (length ops) rows) (effects_tokens es) (at mode.Opening (rows ++ row ∷ []))
effects_go x row front [] [] rows e some a = refl
effects_go x row front [] (f ∷ es) rows e some a = absurd a
effects_go x row front (op ∷ ops) [] rows e some a = absurd a
effects_go x row front (op ∷ ops) (f ∷ es) rows e some a =
    let begins : at_effect row (length (op ∷ ops)) rows ≡ at (mode.Effecting row (length (op ∷ ops))) rows = rw (some_left (length ops)) refl in
    let fewer : length (op ∷ ops) - 1 ≡ length ops = omega arith in
    subst (λ (p : Place). Goes (grammar x) p (effect_tokens f ++ effects_tokens es) (at mode.Opening (rows ++ row ∷ []))) (sym begins)
    (goes_on (grammar x) (at (mode.Effecting row (length (op ∷ ops))) rows) (at_effect row (length ops) rows) (at mode.Opening (rows ++ row ∷ [])) (effect_tokens f) (effects_tokens es)
    (subst (λ (n : ℕ). Goes (grammar x) (at (mode.Effecting row (length (op ∷ ops))) rows) (effect_tokens f) (at_effect row n rows)) fewer
    (effect_goes x row (length (op ∷ ops)) op row.wants f rows (next_left x.sig.ops front op ops e) refl some a.0))
    (effects_go x row (front ++ op ∷ []) ops es rows (still_left x.sig.ops front op ops e) some a.1))

-- components
rest_goes : (x : Setting) (c : ComponentForm) (rows : List Row) → All IsFew x.sig.ops → IsComponent x.sig.ops c
    → Goes (grammar x) (at_effect (row_of c) (length x.sig.ops) rows) (effects_tokens (effects_of c)) (at mode.Opening (rows ++ row_of c ∷ []))
rest_goes x c rows few h = effects_go x (row_of c) [] x.sig.ops (effects_of c) rows refl (some_wants c) (effects_picked x.sig.ops c few h)

opened : (x : Setting) (t : Token) → is_of x.kinds t ≡ true → IsOneOf t (token.End ∷ token.Cell ∷ token.Table ∷ token.Set ∷ token.Tally ∷ token.Tallies ∷ [])
    → IsOneOf t ((grammar x).allowed (at mode.Opening []))
opened x t h o = one_kept (is_of x.kinds) t (token.End ∷ token.Cell ∷ token.Table ∷ token.Set ∷ token.Tally ∷ token.Tallies ∷ []) o h

key_given : (s : Sort) → (s ≡ sort.Bool → ⊥) → IsOneOf (token.Keys s) (token.Keys sort.Int ∷ token.Keys sort.Nat ∷ token.Keys sort.Name ∷ [])
key_given sort.Bool h = absurd (h refl)
key_given sort.Int h = inl refl
key_given sort.Nat h = inr (inl refl)
key_given sort.Name h = inr (inr (inl refl))

shaped_go : (x : Setting) (key : Option Sort) (s : CellForm) (starts : List Value) (rows : List Row) (more : List Token) (c : Row) → IsGoodForm s → AreMatched IsStart starts (kinds_of s)
    → EachHas (λ (v : Value). IsOneOf v (of_kind x.constants (value_kind v))) starts
    → Goes (grammar x) (at_effect (shaped_row key (kinds_of s)) (length x.sig.ops) rows) more (at mode.Opening (rows ++ c ∷ []))
    → Goes (grammar x) (at_shape x key (false ∷ []) [] rows) (shape_tokens s ++ (map (start_token x.constants) starts ++ more)) (at mode.Opening (rows ++ c ∷ []))
shaped_go x key s starts rows more c good fits among rest =
    let row = shaped_row key (kinds_of s) in
    goes_on (grammar x) (at_shape x key (false ∷ []) [] rows) (at_starts x row (kinds_of s) rows) (at mode.Opening (rows ++ c ∷ [])) (shape_tokens s) (map (start_token x.constants) starts ++ more)
    (shape_goes x key s false [] [] rows good)
    (goes_on (grammar x) (at_starts x row (kinds_of s) rows) (at_effect row (length x.sig.ops) rows) (at mode.Opening (rows ++ c ∷ [])) (map (start_token x.constants) starts) more
    (starts_go x row starts (kinds_of s) rows fits among) rest)

component_goes : (x : Setting) (c : ComponentForm) (rows : List Row) → All IsFew x.sig.ops → IsComponent x.sig.ops c → HasKindOf x.kinds c → AreStarts x.constants c
    → Goes (grammar x) (at mode.Opening rows) (component_tokens x.constants c) (at mode.Opening (rows ++ row_of c ∷ []))
component_goes x (a_cell shape starts effects) rows few h k s =
    (refl, opened x token.Cell k (inr (inl refl)), shaped_go x None shape starts rows (effects_tokens (effects_of (a_cell shape starts effects))) (row_of (a_cell shape starts effects)) h.0 h.1 s (rest_goes x (a_cell shape starts effects) rows few h))
component_goes x (a_table key shape starts effects) rows few h k s = (
  refl,
  opened x token.Table k (inr (inr (inl refl))),
  (
    refl,
    key_given key h.0,
    shaped_go x (Some key) shape starts rows (effects_tokens (effects_of (a_table key shape starts effects))) (row_of (a_table key shape starts effects)) h.1 h.2 s
        (rest_goes x (a_table key shape starts effects) rows few h),
  ),
)
component_goes x (a_set key effects) rows few h k s = (refl, opened x token.Set k (inr (inr (inr (inl refl)))), (refl, key_given key h.0, rest_goes x (a_set key effects) rows few h))
component_goes x (a_tally effects) rows few h k s = (refl, opened x token.Tally k (inr (inr (inr (inr (inl refl))))), rest_goes x (a_tally effects) rows few h)
component_goes x (tallies key effects) rows few h k s = (refl, opened x token.Tallies k (inr (inr (inr (inr (inr (inl refl)))))), (refl, key_given key h.0, rest_goes x (tallies key effects) rows few h))

components_go : (x : Setting) (cs : List ComponentForm) (rows : List Row) → All IsFew x.sig.ops → EachHas (IsComponent x.sig.ops) cs → EachHas (HasKindOf x.kinds) cs → EachHas (AreStarts x.constants) cs
    → Goes (grammar x) (at mode.Opening rows) (components_tokens x.constants cs) (at mode.Opening (rows ++ map row_of cs))
components_go x [] rows few a k s = ap (λ (l : List Row). at mode.Opening l) (sym (append-nil rows))
components_go x (c ∷ cs) rows few a k s =
    goes_on (grammar x) (at mode.Opening rows) (at mode.Opening (rows ++ row_of c ∷ [])) (at mode.Opening (rows ++ row_of c ∷ map row_of cs)) (component_tokens x.constants c) (components_tokens x.constants cs)
    (component_goes x c rows few a.0 k.0 s.0)
    (subst (λ (l : List Row). Goes (grammar x) (at mode.Opening (rows ++ row_of c ∷ [])) (components_tokens x.constants cs) (at mode.Opening l))
    (append_assoc rows (row_of c ∷ []) (map row_of cs)) (components_go x cs (rows ++ row_of c ∷ []) few a.1 k.1 s.1))

-- asks
kind_there : (components : List ComponentForm) (p n : ℕ) (c : ComponentForm) (k : Kind) → slice_get components p ≡ Some c → slice_get (component_kinds c) n ≡ Some k → (sorts : List Sort) (key : Option ℕ)
    → token_kind sorts (map row_of components) (token.Read p n key) ≡ k
kind_there components p n c k e there sorts key =
    let r = row_there components p c e in
    let f : slice_get (row_of c).kinds n ≡ Some k = ap (λ (kinds : List Kind). slice_get kinds n) (row_kinds c) ∙ there in
    ap (λ (o : Option Row). kind_at o n) r ∙ ap known_kind f

-- an atom fills what is wanted
atom_goes : (x : Setting) (query : QuerySig) (i : ℕ) (rows : List Row) (t : Token) (k : Kind) (wanted : Wanted) (others : List Wanted) → slice_get x.sig.queries (length x.sig.queries - i) ≡ Some query
    → IsOneOf t (ask_choices x.constants query.sorts rows wanted) → wants_behind query.sorts rows t (wanted ∷ others) ≡ compared k (wanted ∷ others)
    → Goes (grammar x) (at (mode.Asking (wanted ∷ others) i) rows) (t ∷ []) (at_wants x (compared k (wanted ∷ others)) i rows)
atom_goes x query i rows t k wanted others there h is = (
  refl,
  subst (λ (o : Option QuerySig). IsOneOf t (ask_choices x.constants (query_sorts o) rows wanted)) (sym there) h,
  ap (λ (o : Option QuerySig). at_wants x (wants_behind (query_sorts o) rows t (wanted ∷ others)) i rows) there ∙ ap (λ (ws : List Wanted). at_wants x ws i rows) is,
)

-- an operator opens its operands
operator_goes : (x : Setting) (query : QuerySig) (i : ℕ) (rows : List Row) (t : Token) (w : List Token) (wanted : Wanted) (others after : List Wanted) (end : Place) → slice_get x.sig.queries (length x.sig.queries - i) ≡ Some query
    → IsOneOf t (operators wanted) → wants_behind query.sorts rows t (wanted ∷ others) ≡ after → Goes (grammar x) (at_wants x after i rows) w end
    → Goes (grammar x) (at (mode.Asking (wanted ∷ others) i) rows) (t ∷ w) end
operator_goes x query i rows t w wanted others after end there h is more = (
  refl,
  subst (λ (o : Option QuerySig). IsOneOf t (ask_choices x.constants (query_sorts o) rows wanted)) (sym there) (operator_chosen x.constants query.sorts rows wanted t h),
  subst (λ (o : Option QuerySig). Goes (grammar x) (at_wants x (wants_behind (query_sorts o) rows t (wanted ∷ others)) i rows) w end) (sym there)
      (subst (λ (ws : List Wanted). Goes (grammar x) (at_wants x ws i rows) w end) (sym is) more),
)

-- what takes a truth value wants exactly that
truth_wanted : (wanted : Wanted) → is_wanted wanted kind.Truth ≡ true → Exactly kind.Truth ≡ wanted
truth_wanted (Exactly kind.Truth) h = refl
truth_wanted (Exactly kind.Number) h = absurd cc
truth_wanted (Exactly kind.Name) h = absurd cc
truth_wanted Ordered h = absurd cc

sums_wanted : (wanted : Wanted) → is_wanted wanted kind.Number ≡ true → IsOneOf token.Plus (operators wanted) × IsOneOf token.Minus (operators wanted)
sums_wanted (Exactly kind.Truth) h = absurd cc
sums_wanted (Exactly kind.Number) h = (inl refl, inr (inl refl))
sums_wanted (Exactly kind.Name) h = absurd cc
sums_wanted Ordered h = (inl refl, inr (inl refl))

abbrev IsFewOf : QuerySig → Type 0
IsFewOf query = length query.sorts ≤ 4

-- whatever is wanted that the kind fills, the machine reads the ask there
abbrev ReadsAsk : Setting → List ComponentForm → ℕ → AskForm → Kind → Type 0
ReadsAsk x components i a k = (wanted : Wanted) (others : List Wanted) → is_wanted wanted k ≡ true
    → Goes (grammar x) (at (mode.Asking (wanted ∷ others) i) (map row_of components)) (ask_tokens x.constants a) (at_wants x (compared k (wanted ∷ others)) i (map row_of components))

-- two operands of one kind
two_go : (x : Setting) (components : List ComponentForm) (i : ℕ) (a b : AskForm) (k : Kind) (first : Wanted) (others after : List Wanted) → ReadsAsk x components i a k → ReadsAsk x components i b k
    → is_wanted first k ≡ true → compared k (first ∷ others) ≡ Exactly k ∷ after
    → Goes (grammar x) (at_wants x (first ∷ others) i (map row_of components)) (ask_tokens x.constants a ++ ask_tokens x.constants b) (at_wants x after i (map row_of components))
two_go x components i a b k first others after p q w is =
    let rows = map row_of components in
    goes_on (grammar x) (at_wants x (first ∷ others) i rows) (at_wants x (Exactly k ∷ after) i rows) (at_wants x after i rows) (ask_tokens x.constants a) (ask_tokens x.constants b)
    (subst (λ (ws : List Wanted). Goes (grammar x) (at (mode.Asking (first ∷ others) i) rows) (ask_tokens x.constants a) (at_wants x ws i rows)) is (p first others w))
    (q (Exactly k) after (kind_itself k))

-- an operator over truth values, where exactly such a value is expected
truth_goes : (x : Setting) (components : List ComponentForm) (query : QuerySig) (i : ℕ) (a b : AskForm) (t : Token) (k : Kind) (first : Wanted) (wanted : Wanted) (others before : List Wanted)
    → slice_get x.sig.queries (length x.sig.queries - i) ≡ Some query → Exactly kind.Truth ≡ wanted → IsOneOf t (operators (Exactly kind.Truth))
    → wants_behind query.sorts (map row_of components) t (Exactly kind.Truth ∷ others) ≡ first ∷ before → is_wanted first k ≡ true → compared k (first ∷ before) ≡ Exactly k ∷ others
    → ReadsAsk x components i a k → ReadsAsk x components i b k
    → Goes (grammar x) (at (mode.Asking (wanted ∷ others) i) (map row_of components)) (t ∷ (ask_tokens x.constants a ++ ask_tokens x.constants b)) (at_wants x (compared kind.Truth (wanted ∷ others)) i (map row_of components))
truth_goes x components query i a b t k first wanted others before there is h opens w next p q =
    let rows = map row_of components in
    subst (λ (v : Wanted). Goes (grammar x) (at (mode.Asking (v ∷ others) i) rows) (t ∷ (ask_tokens x.constants a ++ ask_tokens x.constants b)) (at_wants x (compared kind.Truth (v ∷ others)) i rows)) is
    (operator_goes x query i rows t (ask_tokens x.constants a ++ ask_tokens x.constants b) (Exactly kind.Truth) others (first ∷ before) (at_wants x others i rows) there h opens
    (two_go x components i a b k first before others p q w next))

sum_goes : (x : Setting) (components : List ComponentForm) (query : QuerySig) (i : ℕ) (a b : AskForm) (t : Token) (wanted : Wanted) (others : List Wanted) → slice_get x.sig.queries (length x.sig.queries - i) ≡ Some query
    → IsOneOf t (operators wanted) → wants_behind query.sorts (map row_of components) t (wanted ∷ others) ≡ Exactly kind.Number ∷ Exactly kind.Number ∷ compared kind.Number (wanted ∷ others)
    → ReadsAsk x components i a kind.Number → ReadsAsk x components i b kind.Number
    → Goes (grammar x) (at (mode.Asking (wanted ∷ others) i) (map row_of components)) (t ∷ (ask_tokens x.constants a ++ ask_tokens x.constants b)) (at_wants x (compared kind.Number (wanted ∷ others)) i (map row_of components))
sum_goes x components query i a b t wanted others there h opens p q =
    let rows = map row_of components in
    let after = compared kind.Number (wanted ∷ others) in
    operator_goes x query i rows t (ask_tokens x.constants a ++ ask_tokens x.constants b) wanted others (Exactly kind.Number ∷ Exactly kind.Number ∷ after) (at_wants x after i rows) there h opens
    (two_go x components i a b kind.Number (Exactly kind.Number) (Exactly kind.Number ∷ after) after p q refl refl)

constant_goes : (x : Setting) (components : List ComponentForm) (query : QuerySig) (i : ℕ) (v : Value) (wanted : Wanted) (others : List Wanted) → slice_get x.sig.queries (length x.sig.queries - i) ≡ Some query
    → HasConstants x.constants (constant v) → is_wanted wanted (value_kind v) ≡ true
    → Goes (grammar x) (at (mode.Asking (wanted ∷ others) i) (map row_of components)) (constant_token x.constants v ∷ []) (at_wants x (compared (value_kind v) (wanted ∷ others)) i (map row_of components))
constant_goes x components query i (value.Num z) wanted others there c w =
    let rows = map row_of components in
    atom_goes x query i rows (constant_token x.constants (value.Num z)) kind.Number wanted others there
    (atom_chosen x.constants query.sorts rows wanted (constant_token x.constants (value.Num z)) kind.Number (written_atom x.constants query.sorts rows (value.Num z) c) w) refl
constant_goes x components query i (value.Name code) wanted others there c w =
    let rows = map row_of components in
    atom_goes x query i rows (constant_token x.constants (value.Name code)) kind.Name wanted others there
    (atom_chosen x.constants query.sorts rows wanted (constant_token x.constants (value.Name code)) kind.Name (written_atom x.constants query.sorts rows (value.Name code) c) w) refl
constant_goes x components query i (value.Bool b) wanted others there c w =
    let rows = map row_of components in
    atom_goes x query i rows (token.Truth b) kind.Truth wanted others there
    (atom_chosen x.constants query.sorts rows wanted (token.Truth b) kind.Truth (written_atom x.constants query.sorts rows (value.Bool b) c) w)
    (subst (λ (v : Wanted). wants_behind query.sorts rows (token.Truth b) (v ∷ others) ≡ compared kind.Truth (v ∷ others)) (truth_wanted wanted w) refl)

ask_goes : (x : Setting) (components : List ComponentForm) (query : QuerySig) (i : ℕ) (a : AskForm) (k : Kind) → length query.sorts ≤ 4 → slice_get x.sig.queries (length x.sig.queries - i) ≡ Some query → HasKind components query.sorts a k
    → HasConstants x.constants a → ReadsAsk x components i a k
ask_goes x components query i a k few there (read p n key component j e kinds fits) c = λ wanted others w.
    let rows = map row_of components in
    atom_goes x query i rows (token.Read p n key) j wanted others there
    (atom_chosen x.constants query.sorts rows wanted (token.Read p n key) j (read_known x.constants query.sorts components p n key component j few e kinds fits) w)
    (ap (λ (l : Kind). compared l (wanted ∷ others)) (kind_there components p n component j e kinds query.sorts key))
ask_goes x components query i a k few there (given p s e) c = λ wanted others w.
    let rows = map row_of components in
    atom_goes x query i rows (token.Arg p) (sort_kind s) wanted others there
    (atom_chosen x.constants query.sorts rows wanted (token.Arg p) (sort_kind s) (given_atom x.constants query.sorts rows p s few e) w)
    (ap (λ (o : Option Sort). compared (argument_kind o) (wanted ∷ others)) e)
ask_goes x components query i a k few there (written v is) c = λ wanted others w. constant_goes x components query i v wanted others there c w
ask_goes x components query i _ k few there (denied {a = a} p) c = λ wanted others w.
    let rows = map row_of components in
    subst (λ (v : Wanted). Goes (grammar x) (at (mode.Asking (v ∷ others) i) rows) (token.Not ∷ ask_tokens x.constants a) (at_wants x (compared kind.Truth (v ∷ others)) i rows)) (truth_wanted wanted w)
    (operator_goes x query i rows token.Not (ask_tokens x.constants a) (Exactly kind.Truth) others (Exactly kind.Truth ∷ others) (at_wants x others i rows) there (inl refl) refl
    (ask_goes x components query i a kind.Truth few there p c (Exactly kind.Truth) others refl))
ask_goes x components query i _ k few there (and_of {a = a} {b = b} p q) c = λ wanted others w.
    truth_goes x components query i a b token.And kind.Truth (Exactly kind.Truth) wanted others (Exactly kind.Truth ∷ others) there (truth_wanted wanted w) (inr (inl refl)) refl refl refl
    (ask_goes x components query i a kind.Truth few there p c.0) (ask_goes x components query i b kind.Truth few there q c.1)
ask_goes x components query i _ k few there (or_of {a = a} {b = b} p q) c = λ wanted others w.
    truth_goes x components query i a b token.Either kind.Truth (Exactly kind.Truth) wanted others (Exactly kind.Truth ∷ others) there (truth_wanted wanted w) (inr (inr (inl refl))) refl refl refl
    (ask_goes x components query i a kind.Truth few there p c.0) (ask_goes x components query i b kind.Truth few there q c.1)
ask_goes x components query i _ k few there (numbers_less {a = a} {b = b} p q) c = λ wanted others w.
    truth_goes x components query i a b token.Less kind.Number Ordered wanted others others there (truth_wanted wanted w) (inr (inr (inr (inl refl)))) refl refl refl
    (ask_goes x components query i a kind.Number few there p c.0) (ask_goes x components query i b kind.Number few there q c.1)
ask_goes x components query i _ k few there (names_less {a = a} {b = b} p q) c = λ wanted others w.
    truth_goes x components query i a b token.Less kind.Name Ordered wanted others others there (truth_wanted wanted w) (inr (inr (inr (inl refl)))) refl refl refl
    (ask_goes x components query i a kind.Name few there p c.0) (ask_goes x components query i b kind.Name few there q c.1)
ask_goes x components query i _ k few there (sum_of {a = a} {b = b} p q) c = λ wanted others w.
    sum_goes x components query i a b token.Plus wanted others there (sums_wanted wanted w).0 refl
    (ask_goes x components query i a kind.Number few there p c.0) (ask_goes x components query i b kind.Number few there q c.1)
ask_goes x components query i _ k few there (difference_of {a = a} {b = b} p q) c = λ wanted others w.
    sum_goes x components query i a b token.Minus wanted others there (sums_wanted wanted w).1 refl
    (ask_goes x components query i a kind.Number few there p c.0) (ask_goes x components query i b kind.Number few there q c.1)

ask_goes_whole : (x : Setting) (components : List ComponentForm) (query : QuerySig) (i : ℕ) (a : AskForm) → length query.sorts ≤ 4 → slice_get x.sig.queries (length x.sig.queries - i) ≡ Some query → Answers components a query
    → HasConstants x.constants a → Goes (grammar x) (at (mode.Asking (Exactly (sort_kind query.sort) ∷ []) i) (map row_of components)) (ask_tokens x.constants a) (at_ask x (i - 1) (map row_of components))
ask_goes_whole x components query i a few there p c = ask_goes x components query i a (sort_kind query.sort) few there p c (Exactly (sort_kind query.sort)) [] (kind_itself (sort_kind query.sort))

asks_go : (x : Setting) (components : List ComponentForm) (front queries : List QuerySig) (asks : List AskForm) → All IsFewOf queries → x.sig.queries ≡ front ++ queries → AreMatched (Answers components) asks queries
    → EachHas (HasConstants x.constants) asks → Goes (grammar x) (at_ask x (length queries) (map row_of components)) (asks_tokens x.constants asks) (at mode.Finished (map row_of components))
asks_go x components front [] [] few e a c = ap (λ (o : Option QuerySig). ask_at (asked_kind o) 0 (map row_of components)) (none_left x.sig.queries 0 refl)
asks_go x components front [] (f ∷ asks) few e a c = absurd a
asks_go x components front (query ∷ queries) [] few e a c = absurd a
asks_go x components front (query ∷ queries) (f ∷ asks) few e a c =
    let next = next_left x.sig.queries front query queries e in
    let rows = map row_of components in
    let i = length (query ∷ queries) in
    let fewer : i - 1 ≡ length queries = omega arith in
    subst (λ (p : Place). Goes (grammar x) p (ask_tokens x.constants f ++ asks_tokens x.constants asks) (at mode.Finished rows)) (sym (ap (λ (o : Option QuerySig). ask_at (asked_kind o) i rows) next))
    (goes_on (grammar x) (at (mode.Asking (Exactly (sort_kind query.sort) ∷ []) i) rows) (at_ask x (length queries) rows) (at mode.Finished rows) (ask_tokens x.constants f) (asks_tokens x.constants asks)
    (subst (λ (n : ℕ). Goes (grammar x) (at (mode.Asking (Exactly (sort_kind query.sort) ∷ []) i) rows) (ask_tokens x.constants f) (at_ask x n rows)) fewer
    (ask_goes_whole x components query i f (all_first IsFewOf query queries few) next a.0 c.0))
    (asks_go x components (front ++ query ∷ []) queries asks (all_rest IsFewOf query queries few) (still_left x.sig.queries front query queries e) a.1 c.1))

-- the machine reads the token list of each design that keeps the rules
pub design_read : (x : Setting) (d : DesignForm) → IsSmall x.sig → KeepsRules x d → Accepts (grammar x) first_place (design_tokens x.constants d)
design_read x d small h =
    goes_accepted (grammar x) first_place (at mode.Finished (map row_of d.components)) (design_tokens x.constants d)
    (goes_on (grammar x) first_place (at mode.Opening (map row_of d.components)) (at mode.Finished (map row_of d.components)) (components_tokens x.constants d.components) (token.End ∷ asks_tokens x.constants d.asks)
    (components_go x d.components [] small.ops h.components h.kinds h.starts)
    (refl, inl refl, asks_go x d.components [] x.sig.queries d.asks small.queries refl h.asks h.constants))
    refl
