-- The walk by both statements.
use Rattle.std.proofs.Common.{◌≡◌, ℕ, suc, ℤ, neg_ℤ, List, [], ◌∷◌, ◌++◌, Option, refl, sym, subst}
use Rattle.kat_form.specs.Encodings.{Encoding}
use Rattle.kat_refute.specs.Lines.{Line, added}
use Rattle.kat_cases.specs.Nodes as nodes
use Rattle.kat_cases.specs.Nodes.End.{spent, at_point, at_rows, at_wide}
use Rattle.kat_cases.specs.Nodes.Judgement.{leaf, ends, splits}
use Rattle.kat_cases.specs.Walks as walks
use Rattle.kat_cases.specs.Walks.{Shrinks, Walks, core_line, has_literal, joined, own}
use Rattle.kat_cases.specs.Walks.Shrinks.{done, left_out, kept}
use Rattle.kat_cases.specs.Walks.Outcome.{core, ended}
use Rattle.kat_cases.specs.Walks.Walks.{ends_here, is_spent, is_leaf, first_ends, first_serves, second_ends, second_serves, both}
use Rattle.kat_walks.specs.Walks.{Comes, End, IsNode, Outcome, Stays}
use Rattle.kat_walks.specs.Walks.Comes.{stops_here, none_left, is_closed, first_stops, first_alone, second_stops, second_alone, joins}
use Rattle.kat_walks.specs.Walks.Judgement.{closes, stops, branches}
use Rattle.kat_walks.specs.Walks.Outcome.{core_of, ends_so}
use Rattle.kat_walks.specs.Walks.Stays.{all_tried, goes, stays}
use Rattle.kat_search_laws.specs.Walks.{EndsAreEnds, EndsAreGiven, plain_end, setting_in}
use Rattle.kat_search_laws.proofs.Nodes.{node_back, node_forth, plain}

-- cores
stays_forth : (clauses : List (List ℤ)) (rest stay c : List ℤ) → Shrinks clauses rest stay c → Stays clauses rest stay c
stays_forth clauses _ _ _ done = all_tried
stays_forth clauses _ _ _ (left_out denied more) = goes denied (stays_forth clauses _ _ _ more)
stays_forth clauses _ _ _ (kept open_ more) = stays open_ (stays_forth clauses _ _ _ more)

stays_back : (clauses : List (List ℤ)) (rest stay c : List ℤ) → Stays clauses rest stay c → Shrinks clauses rest stay c
stays_back clauses _ _ _ all_tried = done
stays_back clauses _ _ _ (goes denied more) = left_out denied (stays_back clauses _ _ _ more)
stays_back clauses _ _ _ (stays open_ more) = kept open_ (stays_back clauses _ _ _ more)

-- an outcome without lines and points
abbrev plain_outcome : walks.Outcome → Outcome
plain_outcome (core c lines left) = core_of c left
plain_outcome (ended end) = ends_so (plain_end end)

forth : (e : Encoding) (numbers : ℕ) (path : List ℤ) (left : ℕ) (o : walks.Outcome) → Walks (setting_in e numbers) path left o → Comes e numbers path left (plain_outcome o)
forth e numbers path left _ (ends_here j) = stops_here (node_forth e numbers path _ j)
forth e numbers path _ _ (is_spent j) = none_left (node_forth e numbers path _ j)
forth e numbers path _ _ (is_leaf {c = c} j shrunk) = is_closed (node_forth e numbers path _ j) (stays_forth _ path [] c shrunk)
forth e numbers path left _ (first_ends j first) = first_stops (node_forth e numbers path _ j) (forth e numbers _ left _ first)
forth e numbers path left _ (first_serves j first unused) = first_alone (node_forth e numbers path _ j) (forth e numbers _ left _ first) unused
forth e numbers path left _ (second_ends j first used second) = second_stops (node_forth e numbers path _ j) (forth e numbers _ left _ first) used (forth e numbers _ _ _ second)
forth e numbers path left _ (second_serves j first used second unused) = second_alone (node_forth e numbers path _ j) (forth e numbers _ left _ first) used (forth e numbers _ _ _ second) unused
forth e numbers path left _ (both j first used second used') = joins (node_forth e numbers path _ j) (forth e numbers _ left _ first) used (forth e numbers _ _ _ second) used'

pub ends_are_ends : EndsAreEnds
ends_are_ends e numbers effort end given = forth e numbers [] effort (ended end) given

-- back: there are lines, or a point
abbrev Core : Encoding → ℕ → List ℤ → ℕ → List ℤ → ℕ → Type 0
Core e numbers path left c behind = (lines : List Line) × Walks (setting_in e numbers) path left (core c lines behind)

record Ended (e : Encoding) (numbers : ℕ) (path : List ℤ) (left : ℕ) (end : End) : Type 0 where
  pub whole : nodes.End
  pub same : plain_end whole ≡ end
  pub walked : Walks (setting_in e numbers) path left (ended whole)

abbrev Back : Encoding → ℕ → List ℤ → ℕ → Outcome → Type 0
Back e numbers path left (core_of c behind) = Core e numbers path left c behind
Back e numbers path left (ends_so end) = Ended e numbers path left end

leaf_of : (e : Encoding) (numbers : ℕ) (path : List ℤ) (own_ : List (List ℤ)) (j : nodes.Judgement) → plain j ≡ closes own_ → nodes.IsJudged (setting_in e numbers) path j → (line : Option Line) × (added (own line) ≡ own_) × nodes.IsJudged (setting_in e numbers) path (leaf line)
leaf_of e numbers path own_ (leaf line) is j = (line, cc, j)
leaf_of e numbers path own_ (ends end) is j = absurd (cc)
leaf_of e numbers path own_ (splits l) is j = absurd (cc)

end_of : (e : Encoding) (numbers : ℕ) (path : List ℤ) (end : End) (j : nodes.Judgement) → plain j ≡ stops end → nodes.IsJudged (setting_in e numbers) path j → (whole : nodes.End) × (plain_end whole ≡ end) × nodes.IsJudged (setting_in e numbers) path (ends whole)
end_of e numbers path end (leaf line) is j = absurd (cc)
end_of e numbers path end (ends whole) is j = (whole, cc, j)
end_of e numbers path end (splits l) is j = absurd (cc)

split_of : (e : Encoding) (numbers : ℕ) (path : List ℤ) (l : ℤ) (j : nodes.Judgement) → plain j ≡ branches l → nodes.IsJudged (setting_in e numbers) path j → nodes.IsJudged (setting_in e numbers) path (splits l)
split_of e numbers path l (leaf line) is j = absurd (cc)
split_of e numbers path l (ends end) is j = absurd (cc)
split_of e numbers path l (splits m) is j = let P : ℤ → Type 0 = λ k. nodes.IsJudged (setting_in e numbers) path (splits k) in subst P (cc) j

split_back : (e : Encoding) (numbers : ℕ) (path : List ℤ) (l : ℤ) → IsNode e numbers path (branches l) → nodes.IsJudged (setting_in e numbers) path (splits l)
split_back e numbers path l node = let b = node_back e numbers path (branches l) node in split_of e numbers path l b.j b.same b.judged

leaf_back : (e : Encoding) (numbers : ℕ) (path : List ℤ) (left : ℕ) (own_ : List (List ℤ)) (c : List ℤ) → IsNode e numbers path (closes own_) → Stays (e.clauses ++ own_) path [] c → Core e numbers path (suc left) c left
leaf_back e numbers path left own_ c node stay =
    let b = node_back e numbers path (closes own_) node in
    let l = leaf_of e numbers path own_ b.j b.same b.judged in
    let P : List (List ℤ) → Type 0 = λ x. Shrinks (e.clauses ++ x) path [] c in
    (own l.0 ++ core_line c ∷ [], is_leaf l.2 (subst P (sym l.1) (stays_back (e.clauses ++ own_) path [] c stay)))

back : (e : Encoding) (numbers : ℕ) (path : List ℤ) (left : ℕ) (o : Outcome) → Comes e numbers path left o → Back e numbers path left o
back e numbers path left _ (stops_here {end = end} node) =
    let b = node_back e numbers path (stops end) node in
    let w = end_of e numbers path end b.j b.same b.judged in
    record { whole = w.0; same = w.1; walked = ends_here w.2 }
back e numbers path _ _ (none_left {own = own_} node) =
    let b = node_back e numbers path (closes own_) node in
    let l = leaf_of e numbers path own_ b.j b.same b.judged in
    record { whole = spent; same = refl; walked = is_spent l.2 }
back e numbers path _ _ (is_closed {left = left} {own = own_} {c = c} node stay) = leaf_back e numbers path left own_ c node stay
back e numbers path left _ (first_stops {l = l} {end = end} node first) =
    let f = back e numbers (l ∷ path) left (ends_so end) first in
    record { whole = f.whole; same = f.same; walked = first_ends (split_back e numbers path l node) f.walked }
back e numbers path left _ (first_alone {behind = behind} {l = l} {c = c} node first unused) =
    let f = back e numbers (l ∷ path) left (core_of c behind) first in
    (f.0, first_serves (split_back e numbers path l node) f.1 unused)
back e numbers path left _ (second_stops {behind = behind} {l = l} {c = c} {end = end} node first used second) =
    let f = back e numbers (l ∷ path) left (core_of c behind) first in
    let s = back e numbers (neg_ℤ l ∷ path) behind (ends_so end) second in
    record { whole = s.whole; same = s.same; walked = second_ends (split_back e numbers path l node) f.1 used s.walked }
back e numbers path left _ (second_alone {behind = behind} {last = last} {l = l} {c = c} {d = d} node first used second unused) =
    let f = back e numbers (l ∷ path) left (core_of c behind) first in
    let s = back e numbers (neg_ℤ l ∷ path) behind (core_of d last) second in
    (f.0 ++ s.0, second_serves (split_back e numbers path l node) f.1 used s.1 unused)
back e numbers path left _ (joins {behind = behind} {last = last} {l = l} {c = c} {d = d} node first used second used') =
    let f = back e numbers (l ∷ path) left (core_of c behind) first in
    let s = back e numbers (neg_ℤ l ∷ path) behind (core_of d last) second in
    (f.0 ++ s.0 ++ core_line (joined path c d) ∷ [], both (split_back e numbers path l node) f.1 used s.1 used')

pub ends_are_given : EndsAreGiven
ends_are_given e numbers effort end comes =
    let b = back e numbers [] effort (ends_so end) comes in
    record { end = b.whole; same = b.same; gives = b.walked }
