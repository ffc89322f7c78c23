-- The reader's answer is the judgement of the tokens.
use Rattle.std.proofs.Common.{◌≡◌, ℕ, ◌+◌, ◌<◌, ◌≤◌, ◌⊎◌, inl, inr, Bool, true, false, List, [], ◌∷◌, ◌++◌, length, take, drop, get_or, refl, sym, ◌∙◌, ap, subst, arith, length-append, None, Some}
use Rattle.std.specs.Prelude.{filter, if◌then◌else◌}
use Rattle.std.proofs.lemmas.List.Elements.{filter-append}
use Rattle.std.proofs.lemmas.List.{drop_more, length-map, length-take-le, take-append-drop, take_all, take_more}
use Rattle.std.proofs.Math.ListN.{get_or-map}
use Rattle.kat_lex.specs.declared.lexer.Token.{Token}
use Rattle.kat_grammar.specs.Files.{node_count, TooLargeAt}
use Rattle.kat_grammar.specs.Forms.{type_form}
use Rattle.kat_grammar.specs.Marks.{in_format, is_newline, is_second, mark_of, placed, token_placed}
use Rattle.kat_grammar.specs.Sizes.{Load}
use Rattle.kat_grammar.specs.Steps.{Spot, finish, first_spot, load_of, step}
use Rattle.kat_grammar.specs.Views.{Counts, IsFinished, Judges, Takes, weight}
use Rattle.kat_grammar.specs.declared.marks.Mark.{Mark}
use Rattle.kat_grammar.specs.declared.marks.Placed.{Placed}
use Rattle.kat_grammar.specs.declared.phrases.TypeText.{TypeText}
use Rattle.kat_grammar.specs.declared.reader.Judgement.TheVariants as judgement
use Rattle.kat_grammar.specs.declared.reader.Took.{Took}
use Rattle.kat_grammar.specs.declared.reader.Took.TheVariants as took
use Rattle.kat_grammar.proofs.Texts.{Passes}
use Rattle.kat_grammar.proofs.Judging.{Progress, first_progress, large_token, newline_more, syntax_at, syntax_end, whole_end, word_more}

-- what was read of the tokens, with this many nodes
pub record Read (tokens : List Token) (i nodes : ℕ) (p : Spot) : Type 0 where
  pub progress : Progress (take i (placed tokens)) p
  pub count : node_count progress.loads ≡ nodes
  pub few : nodes ≤ 400

pub nothing_read : (tokens : List Token) → Read tokens 0 0 first_spot
nothing_read tokens = record { progress = first_progress; count = refl; few = omega arith }

one_load : (l : Load) → node_count (l ∷ []) ≡ weight l.node
one_load l = by_node l.node
  where
    by_node : (b : Bool) → length (if b then l ∷ [] else []) ≡ weight b
    by_node true = refl
    by_node false = refl

more_nodes : (xs : List Load) (l : Load) → node_count (xs ++ l ∷ []) ≡ node_count xs + weight l.node
more_nodes xs l =
    ap length (filter-append (λ (load : Load). load.node) xs (l ∷ [])) ∙ length-append (filter (λ (load : Load). load.node) xs) (filter (λ (load : Load). load.node) (l ∷ []))
    ∙ ap (λ n. node_count xs + n) (one_load l)

abbrev pub token_at : List Token → ℕ → Token → Placed
token_at tokens i d = token_placed (is_second tokens) (get_or tokens i d)

placed_at : (tokens : List Token) (i : ℕ) (d : Token) → get_or (placed tokens) i (token_placed (is_second tokens) d) ≡ token_at tokens i d
placed_at tokens i d = get_or-map (token_placed (is_second tokens)) tokens i d

front_more : (tokens : List Token) (i : ℕ) (d : Token) → i < length tokens → take (i + 1) (placed tokens) ≡ take i (placed tokens) ++ token_at tokens i d ∷ []
front_more tokens i d h =
    let long : length (placed tokens) ≡ length tokens = length-map tokens (token_placed (is_second tokens)) in
    take_more (placed tokens) i (token_placed (is_second tokens) d) (omega (arith, long, h)) ∙ ap (λ t. take i (placed tokens) ++ t ∷ []) (placed_at tokens i d)

all_tokens : (tokens : List Token) (i : ℕ) (d : Token) → i < length tokens → placed tokens ≡ take i (placed tokens) ++ token_at tokens i d ∷ drop (i + 1) (placed tokens)
all_tokens tokens i d h =
    let long : length (placed tokens) ≡ length tokens = length-map tokens (token_placed (is_second tokens)) in
    sym (take-append-drop i (placed tokens))
    ∙ ap (λ l. take i (placed tokens) ++ l) (drop_more (placed tokens) i (token_placed (is_second tokens) d) (omega (arith, long, h)) ∙ ap (λ t. t ∷ drop (i + 1) (placed tokens)) (placed_at tokens i d))

front_long : (tokens : List Token) (i : ℕ) → i < length tokens → length (take i (placed tokens)) ≡ i
front_long tokens i h =
    let long : length (placed tokens) ≡ length tokens = length-map tokens (token_placed (is_second tokens)) in
    length-take-le i (placed tokens) (omega (arith, long, h))

read_by : (front : List Placed) (t : Placed) (p q : Spot) (x : Progress front p) (nodes count : ℕ) → node_count x.loads ≡ nodes → nodes ≤ 400 → (n : Bool) → is_newline t.mark ≡ n
    → step p t.mark t.at ≡ Some q → Counts n (load_of q.stage q.draft) nodes count → (y : Progress (front ++ t ∷ []) q) × (node_count y.loads ≡ count) × (count ≤ 400)
read_by front t p q x nodes count same few true n e c = (newline_more front t p q x n e, same ∙ sym c, omega (arith, few, c))
read_by front t p q x nodes count same few false n e c =
    let more : node_count (x.loads ++ load_of q.stage q.draft ∷ []) ≡ count = more_nodes x.loads (load_of q.stage q.draft) ∙ ap (λ k. k + weight (load_of q.stage q.draft).node) same ∙ sym c.0 in
    (word_more front t p q x n e c.1 (omega (arith, more, c.2)), more, c.2)

read_there : (tokens : List Token) (i nodes : ℕ) (q : Spot) (l front : List Placed) → l ≡ front → front ≡ take i (placed tokens) → (y : Progress l q) → node_count y.loads ≡ nodes → nodes ≤ 400 → Read tokens i nodes q
read_there tokens i nodes q l front e f y c few =
    record {
      progress = record { loads = y.loads; passes = subst (λ l. Passes first_spot l y.loads q) (e ∙ f) y.passes; small = y.small };
      count = c;
      few = few;
    }

pub read_more : (tokens : List Token) (i nodes count : ℕ) (d : Token) (p q : Spot) → i < length tokens → Read tokens i nodes p
    → Takes p (in_format (is_second tokens) (mark_of (get_or tokens i d).kind)) (get_or tokens i d).from nodes (took.Read count) q → Read tokens (i + 1) count q
read_more tokens i nodes count d p q h x e =
    let t = token_at tokens i d in
    let more = read_by (take i (placed tokens)) t p q x.progress nodes count x.count x.few (is_newline t.mark) refl e.0 e.1 in
    read_there tokens (i + 1) count q (take i (placed tokens) ++ t ∷ []) (take (i + 1) (placed tokens)) (sym (front_more tokens i d h)) refl more.0 more.1 more.2

pub read_nothing : (tokens : List Token) (i nodes : ℕ) (d : Token) (p q : Spot) → i < length tokens → Read tokens i nodes p
    → Takes p (in_format (is_second tokens) (mark_of (get_or tokens i d).kind)) (get_or tokens i d).from nodes took.Nothing q → Judges (placed tokens) (judgement.Syntax i)
read_nothing tokens i nodes d p q h x e =
    let t = token_at tokens i d in
    let front = take i (placed tokens) in
    subst (λ l. Judges l (judgement.Syntax i)) (sym (all_tokens tokens i d h))
    (subst (λ k. Judges (front ++ t ∷ drop (i + 1) (placed tokens)) (judgement.Syntax k)) (front_long tokens i h) (syntax_at front t (drop (i + 1) (placed tokens)) p x.progress e))

pub read_large : (tokens : List Token) (i nodes : ℕ) (d : Token) (p q : Spot) → i < length tokens → Read tokens i nodes p
    → Takes p (in_format (is_second tokens) (mark_of (get_or tokens i d).kind)) (get_or tokens i d).from nodes took.TooMany q → Judges (placed tokens) (judgement.TooLarge i)
read_large tokens i nodes d p q h x e =
    let t = token_at tokens i d in
    let front = take i (placed tokens) in
    let l = load_of q.stage q.draft in
    let more : node_count (x.progress.loads ++ l ∷ []) ≡ nodes + weight l.node = more_nodes x.progress.loads l ∙ ap (λ k. k + weight l.node) x.count in
    subst (λ ts. TooLargeAt ts i) (sym (all_tokens tokens i d h))
    (subst (TooLargeAt (front ++ t ∷ drop (i + 1) (placed tokens))) (front_long tokens i h)
    (large_token front t (drop (i + 1) (placed tokens)) p q x.progress e.1 e.0 (counted_so l (node_count (x.progress.loads ++ l ∷ [])) (nodes + weight l.node) more e.2)))
  where
    counted_so : (l : Load) (m n : ℕ) → m ≡ n → ((24 < l.depth) ⊎ (400 < n)) → ((24 < l.depth) ⊎ (400 < m))
    counted_so l m n e (inl h) = inl h
    counted_so l m n e (inr h) = inr (omega (arith, e, h))

whole_front : (tokens : List Token) (i : ℕ) → length tokens ≤ i → take i (placed tokens) ≡ placed tokens
whole_front tokens i h =
    let long : length (placed tokens) ≡ length tokens = length-map tokens (token_placed (is_second tokens)) in
    take_all i (placed tokens) (omega (arith, long, h))

whole_progress : (tokens : List Token) (i nodes : ℕ) (p : Spot) → length tokens ≤ i → Read tokens i nodes p → Progress (placed tokens) p
whole_progress tokens i nodes p h x =
    record { loads = x.progress.loads; passes = subst (λ l. Passes first_spot l x.progress.loads p) (whole_front tokens i h) x.progress.passes; small = x.progress.small }

pub read_whole : (tokens : List Token) (i nodes : ℕ) (p : Spot) (t : TypeText) → length tokens ≤ i → Read tokens i nodes p → IsFinished (finish p) (Some t) → Judges (placed tokens) (judgement.Whole t)
read_whole tokens i nodes p t h x e = whole_end (placed tokens) p (type_form t) (whole_progress tokens i nodes p h x) e

pub read_unfinished : (tokens : List Token) (i nodes : ℕ) (p : Spot) → length tokens ≤ i → Read tokens i nodes p → IsFinished (finish p) None → Judges (placed tokens) (judgement.Syntax (length tokens))
read_unfinished tokens i nodes p h x e =
    let long : length (placed tokens) ≡ length tokens = length-map tokens (token_placed (is_second tokens)) in
    subst (λ k. Judges (placed tokens) (judgement.Syntax k)) long (syntax_end (placed tokens) p (whole_progress tokens i nodes p h x) e)

-- a mark in the format of the text
pub marked : {m k w : Mark} {second : Bool} (tokens : List Token) → m ≡ in_format second k → second ≡ is_second tokens → k ≡ w → m ≡ in_format (is_second tokens) w
marked {k = k} tokens a b c = a ∙ ap (λ s. in_format s k) b ∙ ap (in_format (is_second tokens)) c

-- the same, of a token by its mark, and by what became of it
pub nothing_there : (tokens : List Token) (i nodes : ℕ) (d : Token) (m : Mark) (p q : Spot) (w : Took) → m ≡ in_format (is_second tokens) (mark_of (get_or tokens i d).kind) → w ≡ took.Nothing → i < length tokens → Read tokens i nodes p
    → Takes p m (get_or tokens i d).from nodes w q → Judges (placed tokens) (judgement.Syntax i)
nothing_there tokens i nodes d m p q w e f h x t =
    read_nothing tokens i nodes d p q h x
    (subst (λ w. Takes p (in_format (is_second tokens) (mark_of (get_or tokens i d).kind)) (get_or tokens i d).from nodes w q) f (subst (λ m. Takes p m (get_or tokens i d).from nodes w q) e t))

pub large_there_too : (tokens : List Token) (i nodes : ℕ) (d : Token) (m : Mark) (p q : Spot) (w : Took) → m ≡ in_format (is_second tokens) (mark_of (get_or tokens i d).kind) → w ≡ took.TooMany → i < length tokens → Read tokens i nodes p
    → Takes p m (get_or tokens i d).from nodes w q → Judges (placed tokens) (judgement.TooLarge i)
large_there_too tokens i nodes d m p q w e f h x t =
    read_large tokens i nodes d p q h x
    (subst (λ w. Takes p (in_format (is_second tokens) (mark_of (get_or tokens i d).kind)) (get_or tokens i d).from nodes w q) f (subst (λ m. Takes p m (get_or tokens i d).from nodes w q) e t))

pub more_there : (tokens : List Token) (i nodes count : ℕ) (d : Token) (m : Mark) (p q : Spot) (w : Took) → m ≡ in_format (is_second tokens) (mark_of (get_or tokens i d).kind) → w ≡ took.Read count → i < length tokens → Read tokens i nodes p
    → Takes p m (get_or tokens i d).from nodes w q → Read tokens (i + 1) count q
more_there tokens i nodes count d m p q w e f h x t =
    read_more tokens i nodes count d p q h x
    (subst (λ w. Takes p (in_format (is_second tokens) (mark_of (get_or tokens i d).kind)) (get_or tokens i d).from nodes w q) f (subst (λ m. Takes p m (get_or tokens i d).from nodes w q) e t))

pub first_read : (tokens : List Token) (p : Spot) → p ≡ first_spot → Read tokens 0 0 p
first_read tokens p e = subst (Read tokens 0 0) (sym e) (nothing_read tokens)
