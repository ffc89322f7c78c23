use Rattle.std.proofs.Common.{◌≡◌, ℕ, length, ap, ◌∙◌, sym, subst}
use Rattle.kat_clause.specs.Clauses.{lists}
use Rattle.kat_form.specs.declared.draft.Key.TheVariants.{Gate}
use Rattle.kat_form.specs.Encodings.{Encoding}
use Rattle.kat_form.specs.Encodings.Sense.{gate}
use Rattle.kat_form.specs.Readings.{added}
use Rattle.std.specs.List.{position_or_len}
use Rattle.indexmap.specs.IndexSet.{insert_key}
use Rattle.kat_form.proofs.Keys.{same_key, gate_added, gives_variable, gives_pair}
use Rattle.kat_form.proofs.draft.Draft.new_gate.Goals as goal

pub returns-clause-gives : goal.returns-clause-gives
returns-clause-gives c =
    let keys = c.self.inside.keys.keys in
    let clauses = lists c.self.inside.clauses.items in
    let number : c.len-number.result ≡ length keys = c.len-number.ensures.len in
    gives_variable (added gate c.args.self.now) c.variable.result _ c.in_ok-place.place c.variable.ensures.is
    (gives_pair keys c.insert_full.new.self.keys clauses (Gate (length keys)) (added gate c.args.self.now) c.in_ok-place.place
    (ap (λ (e : Encoding). added gate e) (sym c.self.view_is) ∙ gate_added keys clauses c.self.invariant)
    (let P : ℕ → Type 0 = λ n. c.in_ok-place.place ≡ position_or_len (same_key (Gate n)) keys in subst P number c.in_ok-place.ensures.index)
    (let P : ℕ → Type 0 = λ n. c.insert_full.new.self.keys ≡ insert_key same_key keys (Gate n) in subst P number c.in_ok-place.ensures.keys))
