-- What an ask may begin with is what fits, part by part.
use Rattle.std.proofs.Common.{◌≡◌, ℕ, suc, Bool, true, false, List, [], ◌∷◌, ◌++◌, map, length, refl, sym, ◌∙◌, ap, append_assoc, if◌then◌else◌, filter, Option, None, Some}
use Rattle.std.specs.Prelude.{is_some, slice_get}
use Rattle.std.specs.List.{range_with_len}
use Rattle.kat_num.specs.declared.values.Sort.{Sort}
use Rattle.kat_design.specs.Kinds.{is_wanted, sort_kind}
use Rattle.kat_design.specs.declared.kinds.Kind.{Kind}
use Rattle.kat_design.specs.declared.kinds.Kind.TheVariants as kind
use Rattle.kat_design.specs.declared.kinds.Wanted.{Wanted}
use Rattle.kat_machine.specs.Choices.{argument_atoms, argument_kind, ask_choices, atom_token, constant_atoms, is_fit, key_choices, leaf_atoms, name_atom, number_atom, operators, param_places, read_atom, row_atoms}
use Rattle.kat_machine.specs.Fitting.{argument_token, argument_tokens, fitting_tokens, if_wanted, leaf_reads, name_tokens, number_tokens, read_token, row_reads, truth_tokens}
use Rattle.kat_rules.specs.declared.constants.Constants.{Constants}
use Rattle.kat_machine.specs.declared.modes.Row.{Row}
use Rattle.kat_rules.specs.declared.tokens.Token.{Token}
use Rattle.kat_rules.specs.declared.tokens.Token.TheVariants as token

-- the tokens of the atoms that fit
abbrev fit : Wanted → List (Token × Kind) → List Token
fit w xs = map atom_token (filter (is_fit w) xs)

kept_if : (b : Bool) (a : Token × Kind) (xs : List (Token × Kind)) → map atom_token (if b then a ∷ xs else xs) ≡ (if b then a.0 ∷ [] else []) ++ map atom_token xs
kept_if true a xs = refl
kept_if false a xs = refl

fit_append : (w : Wanted) (xs ys : List (Token × Kind)) → fit w (xs ++ ys) ≡ fit w xs ++ fit w ys
fit_append w [] ys = refl
fit_append w (x ∷ xs) ys =
    kept_if (is_fit w x) x (filter (is_fit w) (xs ++ ys))
    ∙ ap (λ (l : List Token). (if is_fit w x then x.0 ∷ [] else []) ++ l) (fit_append w xs ys)
    ∙ sym (append_assoc (if is_fit w x then x.0 ∷ [] else []) (fit w xs) (fit w ys))
    ∙ ap (λ (l : List Token). l ++ fit w ys) (sym (kept_if (is_fit w x) x (filter (is_fit w) xs)))

-- atoms of one kind
if_both : (b : Bool) (t : Token) (ts : List Token) → (if b then t ∷ [] else []) ++ (if b then ts else []) ≡ (if b then t ∷ ts else [])
if_both true t ts = refl
if_both false t ts = refl

if_none : (b : Bool) → ◌≡◌ {A = List Token} [] (if b then [] else [])
if_none true = refl
if_none false = refl

fit_kind : {A : Type 0} (w : Wanted) (k : Kind) (g : A → Token) (xs : List A) → fit w (map (λ x. (g x, k)) xs) ≡ if_wanted w k (map g xs)
fit_kind w k g [] = if_none (is_wanted w k)
fit_kind {A} w k g (x ∷ xs) =
    kept_if (is_wanted w k) (g x, k) (filter (is_fit w) (map (λ (y : A). (g y, k)) xs))
    ∙ ap (λ (l : List Token). (if is_wanted w k then g x ∷ [] else []) ++ l) (fit_kind w k g xs)
    ∙ if_both (is_wanted w k) (g x) (map g xs)

fit_leaves : (w : Wanted) (keys : List (Option ℕ)) (component place : ℕ) (kinds : List Kind) → fit w (leaf_atoms keys component place kinds) ≡ leaf_reads w keys component place kinds
fit_leaves w keys component place [] = refl
fit_leaves w keys component place (k ∷ kinds) =
    fit_append w (map (read_atom component place k) keys) (leaf_atoms keys component (suc place) kinds)
    ∙ ap (λ (l : List Token). l ++ fit w (leaf_atoms keys component (suc place) kinds)) (fit_kind w k (read_token component place) keys)
    ∙ ap (λ (l : List Token). if_wanted w k (map (read_token component place) keys) ++ l) (fit_leaves w keys component (suc place) kinds)

fit_rows : (w : Wanted) (sorts : List Sort) (component : ℕ) (rows : List Row) → fit w (row_atoms sorts component rows) ≡ row_reads w sorts component rows
fit_rows w sorts component [] = refl
fit_rows w sorts component (row ∷ rows) =
    fit_append w (leaf_atoms (key_choices sorts row.key) component 0 row.kinds) (row_atoms sorts (suc component) rows)
    ∙ ap (λ (l : List Token). l ++ fit w (row_atoms sorts (suc component) rows)) (fit_leaves w (key_choices sorts row.key) component 0 row.kinds)
    ∙ ap (λ (l : List Token). leaf_reads w (key_choices sorts row.key) component 0 row.kinds ++ l) (fit_rows w sorts (suc component) rows)

-- parameters
abbrev arguments_at : List Sort → List ℕ → List (Token × Kind)
arguments_at sorts places = map (λ (place : ℕ). (token.Arg place, argument_kind (slice_get sorts place))) (filter (λ (place : ℕ). is_some (slice_get sorts place)) places)

fit_argument : (w : Wanted) (sorts : List Sort) (place : ℕ) (places : List ℕ) (o : Option Sort) → slice_get sorts place ≡ o
    → fit w (arguments_at sorts places) ≡ argument_tokens w sorts places
    → fit w (arguments_at sorts (place ∷ places)) ≡ argument_token w place (slice_get sorts place) ++ argument_tokens w sorts places
fit_argument w sorts place places None e more = rw e more
fit_argument w sorts place places (Some s) e more =
    let rest = arguments_at sorts places in
    let found = filter (λ (p : ℕ). is_some (slice_get sorts p)) places in
    let a : Token × Kind = (token.Arg place, argument_kind (slice_get sorts place)) in
    ap (λ (o : Option Sort). fit w (map (λ (p : ℕ). (token.Arg p, argument_kind (slice_get sorts p))) (if is_some o then place ∷ found else found))) e
    ∙ kept_if (is_fit w a) a (filter (is_fit w) rest)
    ∙ ap (λ (o : Option Sort). (if is_wanted w (argument_kind o) then token.Arg place ∷ [] else []) ++ fit w rest) e
    ∙ ap (λ (l : List Token). (if is_wanted w (sort_kind s) then token.Arg place ∷ [] else []) ++ l) more
    ∙ ap (λ (o : Option Sort). argument_token w place o ++ argument_tokens w sorts places) (sym e)

fit_arguments : (w : Wanted) (sorts : List Sort) (places : List ℕ) → fit w (arguments_at sorts places) ≡ argument_tokens w sorts places
fit_arguments w sorts [] = refl
fit_arguments w sorts (place ∷ places) = fit_argument w sorts place places (slice_get sorts place) refl (fit_arguments w sorts places)

-- constants
two_if : (b : Bool) (t u : Token × Kind) → map atom_token (if b then t ∷ (if b then u ∷ [] else []) else (if b then u ∷ [] else [])) ≡ (if b then t.0 ∷ u.0 ∷ [] else [])
two_if true t u = refl
two_if false t u = refl

fit_constants : (w : Wanted) (cs : Constants)
    → fit w (constant_atoms cs) ≡ if_wanted w kind.Number (number_tokens (length cs.numbers)) ++ (if_wanted w kind.Name (name_tokens (length cs.names)) ++ if_wanted w kind.Truth truth_tokens)
fit_constants w cs =
    let numbers = range_with_len 0 (length cs.numbers) in
    let names = range_with_len 0 (length cs.names) in
    let truths = (token.Truth false, kind.Truth) ∷ (token.Truth true, kind.Truth) ∷ [] in
    fit_append w (map number_atom numbers) (map name_atom names ++ truths)
    ∙ ap (λ (l : List Token). l ++ fit w (map name_atom names ++ truths)) (fit_kind w kind.Number token.NumberConstant numbers)
    ∙ ap (λ (l : List Token). if_wanted w kind.Number (number_tokens (length cs.numbers)) ++ l)
    (fit_append w (map name_atom names) truths
    ∙ ap (λ (l : List Token). l ++ fit w truths) (fit_kind w kind.Name token.NameConstant names)
    ∙ ap (λ (l : List Token). if_wanted w kind.Name (name_tokens (length cs.names)) ++ l) (two_if (is_wanted w kind.Truth) (token.Truth false, kind.Truth) (token.Truth true, kind.Truth)))

-- five parts, from the left as from the right
five : (a b c d e : List Token) → (a ++ (b ++ (c ++ (d ++ e)))) ≡ (((a ++ b) ++ c) ++ d) ++ e
five a b c d e =
    sym (append_assoc a b (c ++ (d ++ e))) ∙ sym (append_assoc (a ++ b) c (d ++ e)) ∙ sym (append_assoc ((a ++ b) ++ c) d e)

pub choices_fit : (cs : Constants) (sorts : List Sort) (rows : List Row) (w : Wanted) → fitting_tokens cs sorts rows w ≡ ask_choices cs sorts rows w
choices_fit cs sorts rows w =
    sym (ap (λ (l : List Token). l ++ operators w)
    (fit_append w (row_atoms sorts 0 rows) (argument_atoms sorts ++ constant_atoms cs)
    ∙ ap (λ (l : List Token). l ++ fit w (argument_atoms sorts ++ constant_atoms cs)) (fit_rows w sorts 0 rows)
    ∙ ap (λ (l : List Token). row_reads w sorts 0 rows ++ l)
    (fit_append w (argument_atoms sorts) (constant_atoms cs)
    ∙ ap (λ (l : List Token). l ++ fit w (constant_atoms cs)) (fit_arguments w sorts param_places)
    ∙ ap (λ (l : List Token). argument_tokens w sorts param_places ++ l) (fit_constants w cs))
    ∙ five (row_reads w sorts 0 rows) (argument_tokens w sorts param_places) (if_wanted w kind.Number (number_tokens (length cs.numbers)))
    (if_wanted w kind.Name (name_tokens (length cs.names))) (if_wanted w kind.Truth truth_tokens)))
