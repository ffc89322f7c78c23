-- Lists that are printed one element after the other, whose elements have a property.
use Rattle.std.proofs.Common.{◌≡◌, List, map, [], ◌∷◌, ◌++◌, sym, ap, ap₂, ◌∙◌, refl, subst}
use Rattle.std.proofs.lemmas.List.{map-append}
use Rattle.kat_design.specs.Sorted.{EachHas}
use Rattle.serde_json.specs.Data.{Data}

pub record Printed {A : Type 0} (print : A → Data) (P : A → Type 0) (values : List Data) (done : List A) : Type 0 where
  pub same : values ≡ map print done
  pub has : EachHas P done

pub each_snoc : {A : Type 0} (P : A → Type 0) (xs : List A) (x : A) → EachHas P xs → P x → EachHas P (xs ++ x ∷ [])
each_snoc P [] x h k = (k, tt)
each_snoc P (y ∷ xs) x h k = (h.0, each_snoc P xs x h.1 k)

-- one more element
pub printed_more : {A : Type 0} (print : A → Data) (P : A → Type 0) (values : List Data) (done : List A) (v : Data) (x : A) → Printed print P values done → v ≡ print x → P x
    → Printed print P (values ++ v ∷ []) (done ++ x ∷ [])
printed_more print P values done v x so is has = record {
  same = ap₂ (λ vs w. vs ++ w ∷ []) so.same is ∙ sym (map-append print done (x ∷ []));
  has = each_snoc P done x so.has has;
}

-- elements that are printed by what they stand for
map_twice : {A B : Type 0} (g : A → B) (print : B → Data) (xs : List A) → map (λ x. print (g x)) xs ≡ map print (map g xs)
map_twice g print [] = refl
map_twice g print (x ∷ xs) = ap (λ ys. print (g x) ∷ ys) (map_twice g print xs)

each_twice : {A B : Type 0} (g : A → B) (P : B → Type 0) (xs : List A) → EachHas (λ x. P (g x)) xs → EachHas P (map g xs)
each_twice g P [] h = tt
each_twice g P (x ∷ xs) h = (h.0, each_twice g P xs h.1)

pub printed_all : {A B : Type 0} (g : A → B) (print : B → Data) (P : B → Type 0) (values : List Data) (done xs : List A) → Printed (λ x. print (g x)) (λ x. P (g x)) values done → done ≡ xs
    → Printed print P values (map g xs)
printed_all g print P values done xs so all =
    subst (λ ys. Printed print P values (map g ys)) all (record { same = so.same ∙ map_twice g print done; has = each_twice g P done so.has })
