-- Statements that are appended one by one.
use Rattle.std.proofs.Common.{◌≡◌, ℕ, suc, ◌+◌, ◌-◌, ◌<◌, List, [], ◌∷◌, ◌++◌, map, ◌∙◌, ap, arith}
use Rattle.std.proofs.lemmas.List.{append_assoc, map-append}
use Rattle.kat_emit.specs.Statements.{Stated, all_checked, checks, stated}
use Rattle.kat_emit.specs.declared.statements.Statement.{Statement}

pub one_stated : (items : List Statement) (one : Statement) → map stated (items ++ one ∷ []) ≡ map stated items ++ stated one ∷ []
one_stated items one = map-append stated items (one ∷ [])

checks_here : (i count : ℕ) → i < count → checks i ∷ all_checked (i + 1) (count - (i + 1)) ≡ all_checked i (count - i)
checks_here i count h =
    let more : suc (count - (i + 1)) ≡ count - i = omega (arith, h) in
    let next : i + 1 ≡ suc i = omega arith in
    ap (λ m. checks i ∷ all_checked m (count - (i + 1))) next ∙ ap (all_checked i) more

pub check_pushed : (items new : List Statement) (whole : List Stated) (i count : ℕ) (one : Statement) → i < count → map stated items ++ all_checked i (count - i) ≡ whole → stated one ≡ checks i
    → new ≡ items ++ one ∷ [] → map stated new ++ all_checked (i + 1) (count - (i + 1)) ≡ whole
check_pushed items new whole i count one less h same is =
    let rest = all_checked (i + 1) (count - (i + 1)) in
    ap (λ (xs : List Statement). map stated xs ++ rest) is
    ∙ ap (λ (xs : List Stated). xs ++ rest) (one_stated items one)
    ∙ append_assoc (map stated items) (stated one ∷ []) rest
    ∙ ap (λ (s : Stated). map stated items ++ s ∷ rest) same
    ∙ ap (λ (xs : List Stated). map stated items ++ xs) (checks_here i count less)
    ∙ h
