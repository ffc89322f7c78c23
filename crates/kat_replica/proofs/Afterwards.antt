-- States after an operation, and what a design gives to no operation.
use Rattle.std.proofs.Common.{◌≡◌, List, [], ◌∷◌, ◌++◌, map, refl, ◌∙◌, ap}
use Rattle.kat_type.specs.declared.done.Done.{Done}
use Rattle.kat_design.specs.Denotations.{component_meaning, denotation_of, design_meaning, part_of}
use Rattle.kat_design.specs.Designs.{DesignForm, component_form}
use Rattle.kat_design.specs.Meanings.{Means, added_each, are_kin, states_of}
use Rattle.kat_design.specs.Parts.{PartsKin}
use Rattle.kat_design.specs.declared.designs.Component.{Component}
use Rattle.kat_design.specs.declared.states.Part.{Part}
use Rattle.kat_replica.specs.Suiting.{parts_with}
use Rattle.kat_replica.proofs.Suits.{each_is_added}

-- before any operation
starts_are : (components : List Component) → map (λ (component : Component). part_of (component_form component) []) components ≡ states_of (map component_meaning (map component_form components)) []
starts_are [] = refl
starts_are (component ∷ components) = ap (λ parts. part_of (component_form component) [] ∷ parts) (starts_are components)

pub starts_from : (components others : List Component) (parts : List Part) → others ≡ components → parts ≡ map (λ (component : Component). part_of (component_form component) []) others
    → parts ≡ states_of (map component_meaning (map component_form components)) []
starts_from components others parts e is =
    is ∙ ap (λ (cs : List Component). map (λ (component : Component). part_of (component_form component) []) cs) e ∙ starts_are components

-- one operation more
pub added_from : (components others : List Component) (parts old new : List Part) (done : Done) → others ≡ components → parts ≡ old
    → are_kin PartsKin old (states_of (map component_meaning (map component_form components)) []) → new ≡ parts_with parts (map component_form others) done
    → new ≡ added_each (map component_meaning (map component_form components)) old done
added_from components others parts old new done e f kin is =
    is ∙ ap (λ (cs : List Component). parts_with parts (map component_form cs) done) e ∙ ap (λ (ps : List Part). parts_with ps (map component_form components) done) f
    ∙ each_is_added (map component_form components) old done kin

pub denotes_more : (d : DesignForm) → Means (are_kin PartsKin) (design_meaning d) → (old new : List Part) (done : Done) → new ≡ (design_meaning d).added old done
    → (xs : List Done) → old ≡ denotation_of d xs → new ≡ denotation_of d (xs ++ done ∷ [])
denotes_more d means old new done is xs e = is ∙ ap (λ parts. (design_meaning d).added parts done) e ∙ means.adds xs done
