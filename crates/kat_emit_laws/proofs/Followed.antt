-- The statements of an operation, each part of them followed by more.
use Rattle.std.proofs.Common.{◌≡◌, ℕ, zero, suc, List, [], ◌∷◌, ◌++◌, refl, ◌∙◌, ap, Option, None, Some}
use Rattle.kat_design.specs.Designs.{ComponentForm}
use Rattle.kat_design.specs.declared.designs.Leaf.{Leaf}
use Rattle.kat_emit.specs.Statements as made
use Rattle.kat_emit.specs.Statements.{Stated, change_of, checks, grows, growth_of, statements_of, ticks, tocks}

-- so many arguments are checked from this one on
abbrev pub checked : ℕ → ℕ → List Stated → List Stated
checked param zero more = more
checked param (suc params) more = checks param ∷ checked (suc param) params more

-- a sum grows, if one does
abbrev pub grown : ℕ → Option (Option ℕ × Leaf) → List Stated → List Stated
grown place None more = more
grown place (Some growth) more = grows place growth.0 growth.1 ∷ more

-- the sums grow of the components from this place on
abbrev pub all_grown : ℕ → List ComponentForm → ℕ → List Stated → List Stated
all_grown place [] op more = more
all_grown place (component ∷ components) op more = grown place (growth_of component op) (all_grown (suc place) components op more)

-- a statement, if there is one
abbrev pub changed : Option Stated → List Stated → List Stated
changed None more = more
changed (Some change) more = change ∷ more

-- what changes of the components from this place on
abbrev pub all_changed : ℕ → List ComponentForm → ℕ → List Stated → List Stated
all_changed place [] op more = more
all_changed place (component ∷ components) op more = changed (change_of place component op) (all_changed (suc place) components op more)

checked_is : (param params : ℕ) (more : List Stated) → made.all_checked param params ++ more ≡ checked param params more
checked_is param zero more = refl
checked_is param (suc params) more = ap (λ (list : List Stated). checks param ∷ list) (checked_is (suc param) params more)

one_grown : (place : ℕ) (growth : Option (Option ℕ × Leaf)) (rest more all : List Stated) → rest ++ more ≡ all → (made.grown place growth ++ rest) ++ more ≡ grown place growth all
one_grown place None rest more all e = e
one_grown place (Some growth) rest more all e = ap (λ (list : List Stated). grows place growth.0 growth.1 ∷ list) e

grown_is : (place : ℕ) (components : List ComponentForm) (op : ℕ) (more : List Stated) → made.all_grown place components op ++ more ≡ all_grown place components op more
grown_is place [] op more = refl
grown_is place (component ∷ components) op more =
    one_grown place (growth_of component op) (made.all_grown (suc place) components op) more (all_grown (suc place) components op more) (grown_is (suc place) components op more)

one_changed : (change : Option Stated) (rest more all : List Stated) → rest ++ more ≡ all → (made.changed change ++ rest) ++ more ≡ changed change all
one_changed None rest more all e = e
one_changed (Some change) rest more all e = ap (λ (list : List Stated). change ∷ list) e

changed_is : (place : ℕ) (components : List ComponentForm) (op : ℕ) (more : List Stated) → made.all_changed place components op ++ more ≡ all_changed place components op more
changed_is place [] op more = refl
changed_is place (component ∷ components) op more =
    one_changed (change_of place component op) (made.all_changed (suc place) components op) more (all_changed (suc place) components op more) (changed_is (suc place) components op more)

pub followed : (components : List ComponentForm) (op params : ℕ)
    → statements_of components op params ≡ checked 0 params (ticks ∷ all_grown 0 components op (all_changed 0 components op (tocks ∷ [])))
followed components op params =
    checked_is 0 params (ticks ∷ (made.all_grown 0 components op ++ (made.all_changed 0 components op ++ tocks ∷ [])))
    ∙ ap (λ (list : List Stated). checked 0 params (ticks ∷ list))
    (ap (λ (list : List Stated). made.all_grown 0 components op ++ list) (changed_is 0 components op (tocks ∷ [])) ∙ grown_is 0 components op (all_changed 0 components op (tocks ∷ [])))
