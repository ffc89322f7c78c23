-- What a machine reads part by part.
use Rattle.std.proofs.Common.{◌≡◌, true, false, List, [], ◌∷◌, ◌++◌, sym, subst}
use Rattle.kat_walk.specs.Machines.{Accepts, IsOneOf, Machine}

-- the machine reads the tokens and ends in this state
abbrev pub Goes : {S T : Type 0} → Machine S T → S → List T → S → Type 0
Goes m s [] r = s ≡ r
Goes m s (t ∷ w) r = (m.done s ≡ false) × IsOneOf t (m.allowed s) × Goes m (m.step s t) w r

pub goes_on : {S T : Type 0} (m : Machine S T) (s r q : S) (v w : List T) → Goes m s v r → Goes m r w q → Goes m s (v ++ w) q
goes_on m s r q [] w a b = subst (λ (p : _). Goes m p w q) (sym a) b
goes_on m s r q (t ∷ v) w a b = (a.0, a.1, goes_on m (m.step s t) r q v w a.2 b)

pub goes_accepted : {S T : Type 0} (m : Machine S T) (s r : S) (w : List T) → Goes m s w r → m.done r ≡ true → Accepts m s w
goes_accepted m s r [] a d = subst (λ (p : _). m.done p ≡ true) (sym a) d
goes_accepted m s r (t ∷ w) a d = (a.0, a.1, goes_accepted m (m.step s t) r w a.2 d)
