-- The lines of a walk have no hints.
use Rattle.std.proofs.Common.{◌≡◌, ℕ, ℤ, List, [], ◌++◌, Option, Some, None, sym, subst, All}
use Rattle.std.proofs.lemmas.List.Elements.{All-nil, All-cons, All-append, All-push}
use Rattle.kat_refute.specs.Lines.{Line}
use Rattle.kat_cases.specs.Decisions.{HasNoHints}
use Rattle.kat_cases.specs.Nodes.{Setting, IsJudged, held_in, judged, rows}
use Rattle.kat_cases.specs.Nodes.IsJudged.{falsified, not_falsified}
use Rattle.kat_cases.specs.Nodes.Judgement.{leaf}
use Rattle.kat_cases.specs.Walks.{Walks, core_line, joined, own}
use Rattle.kat_cases.specs.Walks.Outcome.{core}
use Rattle.kat_cases.specs.Walks.Walks.{is_leaf, first_serves, second_serves, both}
use Rattle.kat_cases.proofs.Leaves.{own_line}

some_apart : (line : Line) → leaf (Some line) ≡ leaf None → ⊥
some_apart line e = cc

-- a leaf's own line is one by linear arithmetic
leaf_unhinted : (s : Setting) (path : List ℤ) (line : Line) → IsJudged s path (leaf (Some line)) → HasNoHints line
unfolding judged
leaf_unhinted s path line (falsified d e) = absurd (some_apart line e)
leaf_unhinted s path line (not_falsified never has table e) = subst HasNoHints (sym (own_line s has (held_in s has) (s.solve (rows (held_in s has))) line (sym e)).is) tt

own_unhinted : (s : Setting) (path : List ℤ) (line : Option Line) → IsJudged s path (leaf line) → All HasNoHints (own line)
own_unhinted s path None j = All-nil HasNoHints
own_unhinted s path (Some line) j = All-cons HasNoHints line [] (leaf_unhinted s path line j) (All-nil HasNoHints)

pub walk_unhinted : {s : Setting} {path : List ℤ} {left behind : ℕ} {c : List ℤ} {lines : List Line} → Walks s path left (core c lines behind) → All HasNoHints lines
walk_unhinted {s} {path} (is_leaf {line = line} {c = c} j shrinks) = All-push HasNoHints (own line) (core_line c) (own_unhinted s path line j) tt
walk_unhinted (first_serves j u h) = walk_unhinted u
walk_unhinted (second_serves {lines = lines} {more = more} j u h x g) = All-append HasNoHints lines more (walk_unhinted u) (walk_unhinted x)
walk_unhinted {path = path} (both {c = c} {d = d} {lines = lines} {more = more} j u h x g) =
    All-push HasNoHints (lines ++ more) (core_line (joined path c d)) (All-append HasNoHints lines more (walk_unhinted u) (walk_unhinted x)) tt
