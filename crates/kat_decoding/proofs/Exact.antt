-- Pruning by what has to follow at least, and by what the last token takes, throws no design of the size away.
use Rattle.std.proofs.Common.{◌≡◌, ℕ, ◌+◌, ◌-◌, ◌≤◌, ◌==◌, ◌&&◌, Bool, true, false, List, [], ◌∷◌, length, refl, sym, ◌∙◌, ap, arith, nat_le, None}
use Rattle.std.specs.Prelude.{slice_get}
use Rattle.kat_walk.specs.Machines.{Accepts}
use Rattle.kat_walk.specs.Pruning.{KeepsAll, total}
use Rattle.kat_walk.proofs.Leasts.{le_true}
use Rattle.kat_design.specs.declared.kinds.Wanted.TheVariants.{Exactly, Ordered}
use Rattle.kat_rules.specs.Costs.{cost}
use Rattle.kat_decoding.specs.Room.{by_size, is_exact, is_last, needs, needs_behind}
use Rattle.kat_machine.specs.Grammar.{at_wants, goes_to, grammar, is_finished, operands}
use Rattle.kat_machine.specs.Usable.{may_be_used}
use Rattle.kat_rules.specs.declared.constants.Setting.{Setting}
use Rattle.kat_machine.specs.declared.modes.Mode.{Mode}
use Rattle.kat_machine.specs.declared.modes.Mode.TheVariants as mode
use Rattle.kat_machine.specs.declared.modes.Place.{Place}
use Rattle.kat_machine.specs.declared.modes.Row.{Row}
use Rattle.kat_rules.specs.declared.tokens.Token.{Token}
use Rattle.kat_rules.proofs.Alike.{and_parts, number_itself, one_number}
use Rattle.kat_decoding.proofs.Needs.{needs_least, needs_told}
use Rattle.kat_machine.proofs.Used.{used_then, unusable}

none_there : {A : Type 0} (xs : List A) → slice_get xs (length xs) ≡ None
none_there [] = refl
none_there (x ∷ xs) = none_there xs

nothing_wanted : {A : Type 0} (xs : List A) → length xs == 0 ≡ true → xs ≡ []
nothing_wanted [] h = refl
nothing_wanted (x ∷ xs) h = absurd (omega (arith, one_number (length (x ∷ xs)) 0 h))

-- after the last query
ended : (x : Setting) (left : ℕ) (rows : List Row) → left ≡ 1 → is_finished (at_wants x [] left rows).mode ≡ true
ended x left rows e =
    let there : length x.sig.queries - (left - 1) ≡ length x.sig.queries = omega (arith, e) in
    rw there (rw (none_there x.sig.queries) refl)

-- the last token ends the list
last_ends : (x : Setting) (m : Mode) (rows : List Row) (t : Token) → is_last m t ≡ true → is_finished (goes_to x m rows t).mode ≡ true
last_ends x (mode.Asking (Exactly k ∷ []) left) rows t h =
    let p = and_parts (left == 1) (length (operands t) == 0) h in
    let none : operands t ≡ [] = nothing_wanted (operands t) p.1 in
    rw none (ended x left rows (one_number left 1 p.0))
last_ends x (mode.Asking [] left) rows t h = absurd cc
last_ends x (mode.Asking (Ordered ∷ wants) left) rows t h = absurd cc
last_ends x (mode.Asking (Exactly k ∷ w ∷ wants) left) rows t h = absurd cc
last_ends x mode.Opening rows t h = absurd cc
last_ends x (mode.Keying k) rows t h = absurd cc
last_ends x (mode.Shaping key chains kinds) rows t h = absurd cc
last_ends x (mode.Starting row todo) rows t h = absurd cc
last_ends x (mode.Effecting row left) rows t h = absurd cc
last_ends x (mode.Filling row left todo) rows t h = absurd cc
last_ends x mode.Finished rows t h = absurd cc
last_ends x mode.Nowhere rows t h = absurd cc

last_takes : (x : Setting) (p : Place) (left : ℕ) (t : Token) (w : List Token) (b : Bool) → Accepts (grammar x) (goes_to x p.mode p.rows t) w → total cost (t ∷ w) ≡ left → is_last p.mode t ≡ b
    → is_exact p.mode left t ≡ true
last_takes x p left t w false a h e = rw e refl
last_takes x p left t [] true a h e = let c : cost t ≡ left = omega (arith, h) in rw e (ap (λ (n : ℕ). cost t == n) (sym c) ∙ number_itself (cost t))
last_takes x p left t (u ∷ w) true a h e = let f = last_ends x p.mode p.rows t e in let g : is_finished (goes_to x p.mode p.rows t).mode ≡ false = a.0 in absurd cc

least_total : (x : Setting) (p : Place) (w : List Token) → Accepts (grammar x) p w → needs x p ≤ total cost w
least_total x p [] a = let l = needs_least x in let e = l.ends p a in omega (arith, e)
least_total x p (t ∷ w) a =
    let l = needs_least x in
    let f = l.falls p t a.1 in
    let r = least_total x (goes_to x p.mode p.rows t) w a.2 in
    omega (arith, f, r)

both : (a b : Bool) → a ≡ true → b ≡ true → a && b ≡ true
both true b h k = k
both false b h k = absurd cc

pub size_keeps : (x : Setting) (p : Place) (left : ℕ) (w : List Token) → Accepts (grammar x) p w → total cost w ≡ left → total (unusable x) w ≡ 0 → KeepsAll (grammar x) (by_size x) p left w
size_keeps x p left [] a h n = tt
size_keeps x p left (t ∷ w) a h n =
    let r = least_total x (goes_to x p.mode p.rows t) w a.2 in
    let q = needs_told x p t a.1 in (
      both (nat_le (cost t + needs_behind x p t) left) (is_exact p.mode left t && may_be_used x t)
          (le_true (cost t + needs_behind x p t) left (omega (arith, r, q, h)))
          (both (is_exact p.mode left t) (may_be_used x t) (last_takes x p left t w (is_last p.mode t) a.2 h refl) (used_then (may_be_used x t) (omega (arith, n)))),
      size_keeps x (goes_to x p.mode p.rows t) (left - cost t) w a.2 (omega (arith, h)) (omega (arith, n)),
    )
