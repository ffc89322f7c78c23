-- The last element of a vector is the first of its stack.
use Rattle.std.proofs.Common.{◌≡◌, List, [], ◌∷◌, ◌++◌, map, length, reverse, sym, refl, ◌∙◌, ap}
use Rattle.std.proofs.lemmas.List.{length-reverse, map-append, reverse-append}
use Rattle.kat_design.specs.Designs.{ask_form, component_form}
use Rattle.kat_design.specs.declared.designs.Ask.{Ask}
use Rattle.kat_shape.specs.Forms.{form_of}
use Rattle.kat_shape.specs.declared.shapes.Shape.{Shape}
use Rattle.kat_design.specs.declared.designs.Component.{Component}
use Rattle.kat_decoding.specs.Stacks.{asks_in, components_in, shapes_in}

pub asks_pushed : (asks : List Ask) (a : Ask) → asks_in (asks ++ a ∷ []) ≡ ask_form a ∷ asks_in asks
asks_pushed asks a = ap reverse (map-append ask_form asks (a ∷ [])) ∙ reverse-append (map ask_form asks) (ask_form a ∷ [])

pub map_reversed : {A B : Type 0} (f : A → B) (xs : List A) → map f (reverse xs) ≡ reverse (map f xs)
map_reversed f [] = refl
map_reversed f (x ∷ xs) =
    ap (map f) (reverse-append (x ∷ []) xs) ∙ map-append f (reverse xs) (x ∷ []) ∙ ap (λ (l : List _). l ++ f x ∷ []) (map_reversed f xs) ∙ sym (reverse-append (f x ∷ []) (map f xs))

pub asks_reversed : (asks : List Ask) → map ask_form (reverse asks) ≡ asks_in asks
asks_reversed asks = map_reversed ask_form asks

pub pushed : {A : Type 0} (xs : List A) (x : A) → reverse (xs ++ x ∷ []) ≡ x ∷ reverse xs
pushed xs x = reverse-append xs (x ∷ [])

pub shapes_pushed : (shapes : List Shape) (s : Shape) → shapes_in (shapes ++ s ∷ []) ≡ form_of s ∷ shapes_in shapes
shapes_pushed shapes s = ap reverse (map-append form_of shapes (s ∷ [])) ∙ reverse-append (map form_of shapes) (form_of s ∷ [])

pub components_pushed : (components : List Component) (c : Component) → components_in (components ++ c ∷ []) ≡ component_form c ∷ components_in components
components_pushed components c = ap reverse (map-append component_form components (c ∷ [])) ∙ reverse-append (map component_form components) (component_form c ∷ [])

pub components_reversed : (components : List Component) → map component_form (reverse components) ≡ components_in components
components_reversed components = map_reversed component_form components

pub as_many : {A : Type 0} (xs : List A) → length (reverse xs) ≡ length xs
as_many xs = length-reverse xs
