-- A difference serves every replica that has what is known.
use Rattle.std.proofs.Common.{◌≡◌, List, [], sym, ◌∙◌, ap, inl, inr}
use Rattle.kat_num.specs.Orders.{value_order}
use Rattle.std.specs.Cmp.{IsTotalOrder}
use Rattle.kat_type.specs.Lists.{Has, HaveSame, IsOnce}
use Rattle.kat_type.specs.Unions.{united}
use Rattle.kat_type.specs.declared.done.Done.{Done}
use Rattle.kat_type.proofs.Unions.{has_mine, has_united, once_united}
use Rattle.kat_design.specs.Denotations.{denotation_of, design_meaning}
use Rattle.kat_design.specs.Designs.{DesignForm}
use Rattle.kat_design.specs.Meanings.{Means, are_kin}
use Rattle.kat_design.specs.Parts.{PartsKin, parts_joined}
use Rattle.kat_design.specs.Sorted.{IsWellSorted}
use Rattle.kat_design.specs.declared.states.Part.{Part}
use Rattle.kat_difference.specs.Uniting.{DifferencesUnite}
use Rattle.kat_difference.proofs.PartLaws.{parts_assoc}

-- what serves beside what is known serves beside all that is above it
above_too : IsTotalOrder value_order → (known whole told above : List Part) → are_kin PartsKin above known → are_kin PartsKin known told → are_kin PartsKin known whole → parts_joined above known ≡ above → parts_joined known told ≡ parts_joined known whole → parts_joined above told ≡ parts_joined above whole
above_too o known whole told above h k l e same =
    ap (λ (t : List Part). parts_joined t told) (sym e)
    ∙ (parts_assoc o above known told h k ∙ (ap (parts_joined above) same ∙ (sym (parts_assoc o above known whole h l) ∙ ap (λ (t : List Part). parts_joined t whole) e)))

-- operations that a replica has already change nothing
nothing_new : IsTotalOrder value_order → (d : DesignForm) → Means (are_kin PartsKin) (design_meaning d) → ((xs ys : List Part) → are_kin PartsKin xs (denotation_of d []) → are_kin PartsKin ys (denotation_of d []) → (design_meaning d).joined xs ys ≡ parts_joined xs ys)
    → (peer known : List Done) → IsOnce peer → IsOnce known → ((one : Done) → Has known one → Has peer one) → parts_joined (denotation_of d peer) (denotation_of d known) ≡ denotation_of d peer
nothing_new o d means parts peer known once other all =
    let both : HaveSame (united peer known) peer = ((λ one h. elim (has_united peer known one h) as (λ _. Has peer one) [ inl mine ↦ mine | inr theirs ↦ all one theirs ]), (λ one h. has_mine peer known one h)) in
    sym (parts (denotation_of d peer) (denotation_of d known) (means.goes peer []) (means.goes known []))
    ∙ (means.unites peer known once other (λ origin. inr (λ one is h. all one h)) ∙ means.same (united peer known) peer (once_united peer known once other) once both)

pub unite : IsTotalOrder value_order → ((d : DesignForm) → IsWellSorted d → Means (are_kin PartsKin) (design_meaning d))
    → ((d : DesignForm) (xs ys : List Part) → are_kin PartsKin xs (denotation_of d []) → are_kin PartsKin ys (denotation_of d []) → (design_meaning d).joined xs ys ≡ parts_joined xs ys)
    → DifferencesUnite
unite o mean parts d known whole peer told sorted once_known once_whole once_peer nested all difference =
    let means : Means (are_kin PartsKin) (design_meaning d) = mean d sorted in
    above_too o (denotation_of d known) (denotation_of d whole) told (denotation_of d peer) (means.goes peer known) difference.goes (means.goes known whole)
    (nothing_new o d means (parts d) peer known once_peer once_known all) difference.same
    ∙ (sym (parts d (denotation_of d peer) (denotation_of d whole) (means.goes peer []) (means.goes whole [])) ∙ means.unites peer whole once_peer once_whole nested)
