use Rattle.std.proofs.Common.{◌≡◌, ◌≤◌, ℕ, List, All, length, drop, map, Ok, Err, sym, ap, ◌∙◌, subst}
use Rattle.std.proofs.lemmas.List.{drop_all}
use Rattle.std.specs.Result.{IfOk}
use Rattle.std.specs.declared.result.Result.{Result}
use Rattle.std.specs.declared.alloc.AllocError.{AllocError}
use Rattle.kat_form.specs.declared.Formula.{Formula}
use Rattle.kat_form.specs.declared.Encoded.{Encoded}
use Rattle.kat_form.specs.Encodings.{Encoding, encoding, IsFit, IsBelow, StandOnce}
use Rattle.kat_form.specs.Facts.{facts_of}
use Rattle.kat_form.specs.Readings.{state_each, encoded_readings, encoding_of, numbers_of_facts}
use Rattle.kat_form.specs.Folds.{reading_of}
use Rattle.kat_form.proofs.Parts.{sized_at}
use Rattle.kat_form.proofs.Same.{same_forms_among, same_encoding, same_numbers}
use Rattle.kat_form.proofs.FitFacts.{encodings_are_whole, numbers_suffice, sized_facts_are_fit}
use Rattle.kat_form.proofs.clauses_of.Goals as goal

-- all facts have been stated
whole : (facts : List Formula) (i : ℕ) (draft : Encoding) → length facts ≤ i → state_each (map reading_of (drop i facts)) draft ≡ encoded_readings (map reading_of facts) → draft ≡ encoding_of (facts_of facts)
whole facts i draft h left = ap (λ (fs : List Formula). state_each (map reading_of fs) draft) (sym (drop_all i facts h)) ∙ left ∙ same_encoding facts

-- what holds of the whole encoding holds of what is answered
if_ok_then : {P Q : Encoded → Type 0} → ((e : Encoded) → P e → Q e) → (r : Result Encoded AllocError) → IfOk r P → IfOk r Q
if_ok_then on (Ok e) h = on e h
if_ok_then on (Err x) h = h

pub state-requires : goal.state-requires
state-requires c =
    record { sized = sized_at c.args.facts.now c.loop-fact.fact-index c.fact-item.result c.loop-fact-test.true c.fact-item.is (rw (same_forms_among c.args.facts.now) c.requires) }

pub numbers_of-requires : goal.numbers_of-requires
numbers_of-requires c = record { sized = rw (same_forms_among c.args.facts.now) c.requires }

pub returns-clause-clauses : goal.returns-clause-clauses
returns-clause-clauses c =
    let is = whole c.args.facts.now c.loop-fact.fact-index c.loop-fact.draft c.loop-fact-test.false c.loop-fact.invariant in
    if_ok_then (λ e same. same ∙ is) c.finish.result c.finish.ensures.encoding

pub returns-clause-numbers : goal.returns-clause-numbers
returns-clause-numbers c = if_ok_then (λ e same. same ∙ c.numbers_of.ensures ∙ same_numbers c.args.facts.now) c.finish.result c.finish.ensures.numbers

pub returns-clause-fit : goal.returns-clause-fit
returns-clause-fit c = λ ascending.
    let is = whole c.args.facts.now c.loop-fact.fact-index c.loop-fact.draft c.loop-fact-test.false c.loop-fact.invariant in
    if_ok_then (λ e same. subst IsFit (sym (same ∙ is)) (sized_facts_are_fit (facts_of c.args.facts.now) c.requires ascending)) c.finish.result c.finish.ensures.encoding

-- both answers of the last step
both_ok : (P Q : Encoded → Type 0) (r : Result Encoded AllocError) → IfOk r P → IfOk r Q → IfOk r (λ e. P e × Q e)
both_ok P Q (Ok e) p q = (p, q)
both_ok P Q (Err x) p q = p

pub returns-clause-below : goal.returns-clause-below
returns-clause-below c =
    let is = whole c.args.facts.now c.loop-fact.fact-index c.loop-fact.draft c.loop-fact-test.false c.loop-fact.invariant in
    let numbers : c.numbers_of.result ≡ numbers_of_facts (facts_of c.args.facts.now) = c.numbers_of.ensures ∙ same_numbers c.args.facts.now in
    if_ok_then (λ e both.
    let P : Encoding → Type 0 = λ x. All (IsBelow (numbers_of_facts (facts_of c.args.facts.now))) x.senses in
    let Q : ℕ → Type 0 = λ n. All (IsBelow n) (encoding e).senses in
    subst Q (sym (both.1 ∙ numbers)) (subst P (sym (both.0 ∙ is)) (numbers_suffice (facts_of c.args.facts.now)))) c.finish.result
    (both_ok (λ e. encoding e ≡ c.loop-fact.draft) (λ e. e.numbers ≡ c.numbers_of.result) c.finish.result c.finish.ensures.encoding c.finish.ensures.numbers)

pub returns-clause-once : goal.returns-clause-once
returns-clause-once c =
    let is = whole c.args.facts.now c.loop-fact.fact-index c.loop-fact.draft c.loop-fact-test.false c.loop-fact.invariant in
    if_ok_then (λ e same. let P : Encoding → Type 0 = λ x. StandOnce x.senses in subst P (sym (same ∙ is)) (encodings_are_whole (facts_of c.args.facts.now)).1) c.finish.result c.finish.ensures.encoding
