-- How walks end, and what is reported of a line that says so.
use Rattle.std.proofs.Common.{◌≡◌, ℕ, ◌+◌, ◌-◌, ◌*◌, ◌<◌, ◌≤◌, ◌⊎◌, inl, inr, ℤ, List, length, Option, Some, None, Result, Ok, Err, IfOk, refl, sym, ap, subst, ◌∙◌, arith}
use Rattle.std.specs.Prelude.{slice_get}
use Rattle.kat_design.specs.Designs.{DesignForm}
use Rattle.kat_form.specs.Encodings.{Encoding}
use Rattle.kat_form.specs.Facts.{Fact}
use Rattle.kat_form.specs.Readings.{encoding_of, numbers_of_facts}
use Rattle.kat_relation.specs.declared.relations.Conjunct.{Conjunct}
use Rattle.kat_said.specs.Sayings.{SaidForm}
use Rattle.kat_said.specs.declared.said.Place.{Place}
use Rattle.kat_type.specs.Types.{TypeForm}
use Rattle.kat_vc.specs.Conditions.{Condition, conditions, facts_by, facts_of_condition}
use Rattle.kat_candidate.specs.Places.{left_behind}
use Rattle.kat_walks.specs.Stands.{IsWalked, end_of}
use Rattle.kat_walks.specs.Walks.{End}
use Rattle.kat_walks.specs.Walks.End.{met_point}
use Rattle.kat_walks.specs.Walks.Outcome.{core_of, ends_so}
use Rattle.kat_walks.specs.declared.walking.WalkEnd.{WalkEnd}
use Rattle.kat_walks.specs.declared.walking.WalkEnd.TheVariants.{MetPoint}
use Rattle.kat_walks.proofs.Outcomes.{one_outcome}
use Rattle.kat_block.specs.Blocks.{EndsAt, WalkEnds, conjunct_conditions, facts_under}
use Rattle.kat_block.specs.Left.{HasNone, IsBlock, IsNumberAt, IsSaid, IsWalkOf, MeetsPoint, end_said}
use Rattle.kat_block.specs.declared.left.Block.{Block}
use Rattle.kat_block.proofs.Places.{conjunct_length, conjunct_there, got_has, has_got, some_get, some_same}
use Rattle.kat_block.proofs.Placing.{count_is, facts_numbered, one_condition}

core_apart : (c : List ℤ) (left : ℕ) (end : End) → core_of c left ≡ ends_so end → ⊥
core_apart c left end e = cc

ends_same : (a b : End) → ends_so a ≡ ends_so b → a ≡ b
ends_same a b e = cc

-- the walk of facts, by that of their encoding
walked : (e : Encoding) (numbers effort : ℕ) (o : Option WalkEnd) (facts : List Fact) → e ≡ encoding_of facts → numbers ≡ numbers_of_facts facts → IsWalked e numbers effort o → IsWalked (encoding_of facts) (numbers_of_facts facts) effort o
walked e numbers effort o facts same count is =
    let P : Encoding → Type 0 = λ x. IsWalked x numbers effort o in
    let Q : ℕ → Type 0 = λ n. IsWalked (encoding_of facts) n effort o in subst Q count (subst P same is)

told_walk : (facts : List Fact) (effort : ℕ) (o : Option WalkEnd) → IsWalked (encoding_of facts) (numbers_of_facts facts) effort o → IsWalkOf facts effort o
told_walk facts effort None is = λ end ends. core_apart is.0 is.1 end (one_outcome is.2 ends)
told_walk facts effort (Some end) is = is

pub walk_told : (e : Encoding) (numbers effort : ℕ) (o : Option WalkEnd) (facts : List Fact) → e ≡ encoding_of facts → numbers ≡ numbers_of_facts facts → IsWalked e numbers effort o → IsWalkOf facts effort o
walk_told e numbers effort o facts same count is = told_walk facts effort o (walked e numbers effort o facts same count is)

-- a walk ends in one way
walk_one : (facts : List Fact) (effort : ℕ) (a b : End) → WalkEnds facts effort a → WalkEnds facts effort b → a ≡ b
walk_one facts effort a b x y = ends_same a b (one_outcome x y)

-- whether the walk ends as it is said
said_ends : (facts : List Fact) (effort : ℕ) (o : Option WalkEnd) (said : SaidForm) (end : End) → IsWalkOf facts effort o → IsSaid o said → end_said said ≡ Some end → WalkEnds facts effort end
said_ends facts effort None said end walk is told = absurd is
said_ends facts effort (Some w) said end walk is told =
    let P : End → Type 0 = λ x. WalkEnds facts effort x in subst P (some_same (end_of w) end (sym is ∙ told)) walk

other_ends : (facts : List Fact) (effort : ℕ) (o : Option WalkEnd) (said : SaidForm) (end : End) → IsWalkOf facts effort o → (IsSaid o said → ⊥) → end_said said ≡ Some end → WalkEnds facts effort end → ⊥
other_ends facts effort None said end walk isnt told ends = walk end ends
other_ends facts effort (Some w) said end walk isnt told ends = isnt (told ∙ ap Some (walk_one facts effort end (end_of w) ends walk))

walk_under : (ty : TypeForm) (d : DesignForm) (b : Block) → IsBlock b → (effort : ℕ) (at : Place) (number : ℕ) (o : Option WalkEnd) (n : IsNumberAt ty b.candidates.conjuncts b.dropped.items at number)
    → IsWalkOf (facts_of_condition ty d b.left.conjuncts number) effort o → IsWalkOf (facts_under ty d b.candidates.conjuncts b.dropped.items n.condition) effort o
walk_under ty d b is effort at number o n walk = let P : List Fact → Type 0 = λ facts. IsWalkOf facts effort o in subst P (facts_numbered ty d b is at number n) walk

-- what is told
pub no_end : (ty : TypeForm) (d : DesignForm) (candidates : List Conjunct) (effort : ℕ) (dropped : List ℕ) (at : Place) (end : End) → HasNone ty candidates dropped at → EndsAt ty d candidates effort dropped at end → ⊥
no_end ty d candidates effort dropped at end none ends = none ends.condition ends.has

pub other_end : (ty : TypeForm) (d : DesignForm) (b : Block) → IsBlock b → (effort : ℕ) (at : Place) (number : ℕ) (o : Option WalkEnd) (said : SaidForm) (end : End) → IsNumberAt ty b.candidates.conjuncts b.dropped.items at number
    → IsWalkOf (facts_of_condition ty d b.left.conjuncts number) effort o → (IsSaid o said → ⊥) → end_said said ≡ Some end → EndsAt ty d b.candidates.conjuncts effort b.dropped.items at end → ⊥
other_end ty d b is effort at number o said end n walk isnt told ends =
    let P : Condition → Type 0 = λ x. WalkEnds (facts_under ty d b.candidates.conjuncts b.dropped.items x) effort end in
    let same : ends.condition ≡ n.condition = one_condition ty b.candidates.conjuncts b.dropped.items at ends.condition n.condition ends.has n.has in
    other_ends (facts_under ty d b.candidates.conjuncts b.dropped.items n.condition) effort o said end (walk_under ty d b is effort at number o n walk) isnt told (subst P same ends.ends)

pub met_end : (ty : TypeForm) (d : DesignForm) (candidates : List Conjunct) (effort : ℕ) (dropped : List ℕ) (at : Place) (end : End) → MeetsPoint ty d candidates effort dropped → EndsAt ty d candidates effort dropped at end → ⊥
met_end ty d candidates effort dropped at end met ends = ends.no_point met.other met.among met.ends

pub ends_here : (ty : TypeForm) (d : DesignForm) (b : Block) → IsBlock b → (effort : ℕ) (at : Place) (number : ℕ) (o : Option WalkEnd) (said : SaidForm) (end : End) → IsNumberAt ty b.candidates.conjuncts b.dropped.items at number
    → IsWalkOf (facts_of_condition ty d b.left.conjuncts number) effort o → IsSaid o said → (MeetsPoint ty d b.candidates.conjuncts effort b.dropped.items → ⊥) → end_said said ≡ Some end
    → EndsAt ty d b.candidates.conjuncts effort b.dropped.items at end
ends_here ty d b is effort at number o said end n walk says none told = record {
  condition = n.condition;
  has = n.has;
  ends = said_ends (facts_under ty d b.candidates.conjuncts b.dropped.items n.condition) effort o said end (walk_under ty d b is effort at number o n walk) says told;
  no_point = λ other among ends. none (record { other = other; among = among; ends = ends });
}

-- the walks of the conditions of candidates, by their numbers
numbered_facts : (ty : TypeForm) (d : DesignForm) (b : Block) → IsBlock b → (place number : ℕ) (c : Condition) → number ≡ place + 1 → place < length (conjunct_conditions ty (left_behind b.candidates.conjuncts b.dropped.items))
    → slice_get (conjunct_conditions ty (left_behind b.candidates.conjuncts b.dropped.items)) place ≡ Some c → facts_of_condition ty d b.left.conjuncts number ≡ facts_under ty d b.candidates.conjuncts b.dropped.items c
numbered_facts ty d b is place number c counted less there =
    let left = left_behind b.candidates.conjuncts b.dropped.items in
    let back : number - 1 ≡ place = omega (arith, counted) in
    ap (λ relation. facts_of_condition ty d relation number) is.left
    ∙ ap (λ k. facts_by ty d left (slice_get (conditions ty left) k)) back
    ∙ ap (facts_by ty d left) (conjunct_there ty left place less ∙ there)

count_less : (ty : TypeForm) (b : Block) → IsBlock b → (count place ops : ℕ) → count ≡ length b.numbers.items + ops * length b.numbers.items → ops ≡ length ty.ops → length (conjunct_conditions ty (left_behind b.candidates.conjuncts b.dropped.items)) ≡ count
count_less ty b is count place ops counted as_many =
    let cs = left_behind b.candidates.conjuncts b.dropped.items in
    conjunct_length ty cs ∙ ap (λ n. n + length ty.ops * n) (count_is b is) ∙ ap (λ m. length b.numbers.items + m * length b.numbers.items) (sym as_many) ∙ sym counted

point_is : (facts : List Fact) (effort : ℕ) (o : Option WalkEnd) → o ≡ Some MetPoint → IsWalkOf facts effort o → WalkEnds facts effort met_point
point_is facts effort o e walk = let P : Option WalkEnd → Type 0 = λ x. IsWalkOf facts effort x in subst P e walk

point_isnt : (facts : List Fact) (effort : ℕ) (o : Option WalkEnd) → (o ≡ Some MetPoint → ⊥) → IsWalkOf facts effort o → WalkEnds facts effort met_point → ⊥
point_isnt facts effort None isnt walk ends = walk met_point ends
point_isnt facts effort (Some w) isnt walk ends = isnt (ap Some (by_end w (walk_one facts effort met_point (end_of w) ends walk)))
  where
    by_end : (w : WalkEnd) → met_point ≡ end_of w → w ≡ MetPoint
    by_end MetPoint e = refl
    by_end other e = absurd (cc)

-- none of the first so many ends at a point
abbrev pub NoneMeets : TypeForm → DesignForm → Block → ℕ → ℕ → Type 0
NoneMeets ty d b effort n = (place : ℕ) → place < n → WalkEnds (facts_of_condition ty d b.left.conjuncts (place + 1)) effort met_point → ⊥

pub one_meets : (ty : TypeForm) (d : DesignForm) (b : Block) → IsBlock b → (effort count ops place number : ℕ) (o : Option WalkEnd) → count ≡ length b.numbers.items + ops * length b.numbers.items → ops ≡ length ty.ops → place < count → number ≡ place + 1
    → IsWalkOf (facts_of_condition ty d b.left.conjuncts number) effort o → o ≡ Some MetPoint → MeetsPoint ty d b.candidates.conjuncts effort b.dropped.items
one_meets ty d b is effort count ops place number o counted as_many less next walk e =
    let all = conjunct_conditions ty (left_behind b.candidates.conjuncts b.dropped.items) in
    let among : place < length (conjunct_conditions ty (left_behind b.candidates.conjuncts b.dropped.items)) = omega (arith, less, count_less ty b is count place ops counted as_many) in
    let c = some_get all place among in
    let P : List Fact → Type 0 = λ facts. WalkEnds facts effort met_point in
    record { other = c.0; among = got_has all place c.0 c.1; ends = subst P (numbered_facts ty d b is place number c.0 next among c.1) (point_is (facts_of_condition ty d b.left.conjuncts number) effort o e walk) }

pub none_more : (ty : TypeForm) (d : DesignForm) (b : Block) (effort place number : ℕ) (o : Option WalkEnd) → number ≡ place + 1 → IsWalkOf (facts_of_condition ty d b.left.conjuncts number) effort o → (o ≡ Some MetPoint → ⊥)
    → NoneMeets ty d b effort place → NoneMeets ty d b effort (place + 1)
none_more ty d b effort place number o next walk isnt before k less ends = by_place (eq_or_less k place (omega (arith, less)))
  where
    eq_or_less : (k place : ℕ) → k ≤ place → (k ≡ place) ⊎ (k < place)
    eq_or_less k place h = grind (arith, h)

    by_place : (k ≡ place) ⊎ (k < place) → ⊥
    by_place (inl same) =
        let P : ℕ → Type 0 = λ m. WalkEnds (facts_of_condition ty d b.left.conjuncts m) effort met_point in
        point_isnt (facts_of_condition ty d b.left.conjuncts number) effort o isnt walk (subst P (ap (λ m. m + 1) same ∙ sym next) ends)
    by_place (inr earlier) = before k earlier ends

pub none_meets : (ty : TypeForm) (d : DesignForm) (b : Block) → IsBlock b → (effort count ops place : ℕ) → count ≡ length b.numbers.items + ops * length b.numbers.items → ops ≡ length ty.ops → count ≤ place → NoneMeets ty d b effort place
    → MeetsPoint ty d b.candidates.conjuncts effort b.dropped.items → ⊥
none_meets ty d b is effort count ops place counted as_many past none met =
    let all = conjunct_conditions ty (left_behind b.candidates.conjuncts b.dropped.items) in
    let at = has_got all met.other met.among in
    let within = at.1 in
    let size = count_less ty b is count place ops counted as_many in
    let P : List Fact → Type 0 = λ facts. WalkEnds facts effort met_point in
    none at.0 (omega (arith, within, size, past)) (subst P (sym (numbered_facts ty d b is at.0 (at.0 + 1) met.other refl at.1 at.2)) met.ends)

pub if_walk : {E : Type 0} (e : Encoding) (numbers effort : ℕ) (r : Result (Option WalkEnd) E) (facts : List Fact) → e ≡ encoding_of facts → numbers ≡ numbers_of_facts facts → IfOk r (λ o. IsWalked e numbers effort o) → IfOk r (IsWalkOf facts effort)
if_walk e numbers effort (Ok o) facts same count is = walk_told e numbers effort o facts same count is
if_walk e numbers effort (Err x) facts same count is = is
