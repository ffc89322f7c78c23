-- What a decision says of the walk.
use Rattle.std.proofs.Common.{◌≡◌, ℕ, ◌≤◌, ◌⊎◌, inl, ⊎_elim, ℤ, Bool, List, length, refl, sym, subst}
use Rattle.std.specs.List.{All}
use Rattle.kat_refute.specs.Lines.{Line}
use Rattle.kat_cases.specs.Decisions.{AreLinesFor, Decides, HasEachOnce, HasNoHints, IsDecision, IsFurther}
use Rattle.kat_cases.specs.Nodes.{Setting, End}
use Rattle.kat_cases.specs.Nodes.End.{spent, at_point, at_rows, at_wide}
use Rattle.kat_cases.specs.Walks.{Answer, WalkGives}
use Rattle.kat_cases.specs.Walks.Answer.{refuted, stopped}
use Rattle.kat_cases.proofs.Outcomes.{one_answer}
use Rattle.kat_cases.proofs.Unhinted.{walk_unhinted}

-- the walk's own answer is a decision
by_itself : (effort : ℕ) (answer : Answer) → IsDecision effort answer answer
by_itself effort (refuted lines) = refl
by_itself effort (stopped spent) = inl refl
by_itself effort (stopped (at_point den nums truths)) = refl
by_itself effort (stopped (at_rows lits plus minus rest)) = inl refl
by_itself effort (stopped (at_wide lits left right)) = inl refl

pub walk_decides : (s : Setting) (effort : ℕ) (answer : Answer) → WalkGives s effort answer → Decides s effort answer
walk_decides s effort answer gives = record { walk = answer; gives = gives; follows = by_itself effort answer }

-- whatever walk is given, the decision follows it
pub follows_walk : (s : Setting) (effort : ℕ) (answer walk : Answer) → Decides s effort answer → WalkGives s effort walk → IsDecision effort walk answer
follows_walk s effort answer walk d gives = subst (λ (w : Answer). IsDecision effort w answer) (one_answer s effort d.walk walk d.gives gives) d.follows

refuted_stopped : (lines : List Line) (end : End) → refuted lines ≡ stopped end → ⊥
refuted_stopped lines end e = cc e

lines_same : (a b : List Line) → refuted a ≡ refuted b → a ≡ b
lines_same a b h = cc

-- a refutation: the walk gives no point
pub refuted_no_point : (s : Setting) (effort : ℕ) (lines : List Line) (den : ℤ) (nums : List ℤ) (truths : List Bool) → Decides s effort (refuted lines) → WalkGives s effort (stopped (at_point den nums truths)) → ⊥
refuted_no_point s effort lines den nums truths d point = refuted_stopped lines (at_point den nums truths) (follows_walk s effort (refuted lines) (stopped (at_point den nums truths)) d point)

-- and its lines are the walk's, or those of a further search
further_lines : (effort : ℕ) (lines : List Line) (end : End) → IsDecision effort (stopped end) (refuted lines) → IsFurther effort (refuted lines)
further_lines effort lines spent is = ⊎_elim (λ e. absurd (refuted_stopped lines spent e)) (λ few. few) is
further_lines effort lines (at_point den nums truths) is = absurd (refuted_stopped lines (at_point den nums truths) is)
further_lines effort lines (at_rows lits plus minus rest) is = ⊎_elim (λ e. absurd (refuted_stopped lines (at_rows lits plus minus rest) e)) (λ few. few) is
further_lines effort lines (at_wide lits left right) is = ⊎_elim (λ e. absurd (refuted_stopped lines (at_wide lits left right) e)) (λ few. few) is

few_unless : (s : Setting) (effort : ℕ) (lines : List Line) (walk : Answer) → WalkGives s effort walk → IsDecision effort walk (refuted lines)
    → ((walked : List Line) → WalkGives s effort (refuted walked) → ⊥) → (length lines ≤ effort) × All HasEachOnce lines
few_unless s effort lines (refuted walked) gives is none = absurd (none walked gives)
few_unless s effort lines (stopped end) gives is none = let found = further_lines effort lines end is in (found.0, found.1)

unhinted_by : (s : Setting) (effort : ℕ) (lines : List Line) (walk : Answer) → WalkGives s effort walk → IsDecision effort walk (refuted lines) → All HasNoHints lines
unhinted_by s effort lines (refuted walked) gives is = subst (λ (ls : List Line). All HasNoHints ls) (sym (lines_same lines walked is)) (walk_unhinted gives.1)
unhinted_by s effort lines (stopped end) gives is = (further_lines effort lines end is).2

pub decided_lines : (s : Setting) (effort : ℕ) (lines : List Line) → Decides s effort (refuted lines) → AreLinesFor s effort lines
decided_lines s effort lines d = record {
  of_walk = λ walked gives. lines_same lines walked (follows_walk s effort (refuted lines) (refuted walked) d gives);
  further = λ none. few_unless s effort lines d.walk d.gives d.follows none;
  no_hints = unhinted_by s effort lines d.walk d.gives d.follows;
}

-- if the answer is none of a further search, it is the walk's
own_or : (s : Setting) (effort : ℕ) (answer walk : Answer) → WalkGives s effort walk → (IsFurther effort answer → ⊥) → (answer ≡ walk) ⊎ IsFurther effort answer → WalkGives s effort answer
own_or s effort answer walk gives never is = ⊎_elim (λ e. subst (λ (a : Answer). WalkGives s effort a) (sym e) gives) (λ f. absurd (never f)) is

own_by : (s : Setting) (effort : ℕ) (answer walk : Answer) → WalkGives s effort walk → (IsFurther effort answer → ⊥) → IsDecision effort walk answer → WalkGives s effort answer
own_by s effort answer (refuted lines) gives never is = own_or s effort answer (refuted lines) gives never (inl is)
own_by s effort answer (stopped spent) gives never is = own_or s effort answer (stopped spent) gives never is
own_by s effort answer (stopped (at_point den nums truths)) gives never is = own_or s effort answer (stopped (at_point den nums truths)) gives never (inl is)
own_by s effort answer (stopped (at_rows lits plus minus rest)) gives never is = own_or s effort answer (stopped (at_rows lits plus minus rest)) gives never is
own_by s effort answer (stopped (at_wide lits left right)) gives never is = own_or s effort answer (stopped (at_wide lits left right)) gives never is

pub decided_by_walk : (s : Setting) (effort : ℕ) (answer : Answer) → (IsFurther effort answer → ⊥) → Decides s effort answer → WalkGives s effort answer
decided_by_walk s effort answer never d = own_by s effort answer d.walk d.gives never d.follows
