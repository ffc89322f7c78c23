-- What a design answers in a state is what it answers over what the state holds.
use Rattle.std.proofs.Common.{◌≡◌, ℕ, not, List, Option, Some, None, refl, ap}
use Rattle.std.specs.Prelude.{slice_get}
use Rattle.kat_num.specs.declared.values.Sort.{Sort}
use Rattle.kat_num.specs.declared.values.Value.{Value}
use Rattle.kat_num.specs.declared.values.Value.TheVariants as value
use Rattle.kat_expr.specs.Evaluation.{truth_of}
use Rattle.kat_design.specs.Answers.{ask_value, read_part}
use Rattle.kat_design.specs.Designs.{AskForm, ComponentForm}
use Rattle.kat_design.specs.Kinds.{key_sort}
use Rattle.kat_design.specs.Sorted.{FitsKey, HasKind}
use Rattle.kat_design.specs.Sorted.HasKind.{read, given, written, denied, and_of, or_of, numbers_less, names_less, sum_of, difference_of}
use Rattle.kat_design.specs.declared.kinds.Kind.{Kind}
use Rattle.kat_design.specs.declared.states.Part.{Part}
use Rattle.kat_design.specs.declared.states.Part.TheVariants as part
use Rattle.kat_invariant.specs.Asked.{AsksAreHeld, IsPartOf, ask_held, key_given, part_held, parts_held}
use Rattle.kat_invariant.specs.Situations.{leaf_in}

read_held : (sorts : List Sort) (p : Part) (n : ℕ) (s : Option Sort) (key : Option ℕ) (args : List Value) → IsPartOf s p → FitsKey sorts s key
    → read_part (Some p) n key args ≡ leaf_in (part_held (Some p) (key_given key args)) n
read_held sorts (part.Cell c) n None None args h k = refl
read_held sorts (part.Tally sums) n None None args h k = refl
read_held sorts (part.Table table) n (Some s) (Some j) args h k = refl
read_held sorts (part.Set keys) n (Some s) (Some j) args h k = refl
read_held sorts (part.Tallies table) n (Some s) (Some j) args h k = refl
read_held sorts (part.Table table) n None key args h k = absurd h
read_held sorts (part.Set keys) n None key args h k = absurd h
read_held sorts (part.Tallies table) n None key args h k = absurd h
read_held sorts (part.Cell c) n (Some s) key args h k = absurd h
read_held sorts (part.Tally sums) n (Some s) key args h k = absurd h
read_held sorts p n None (Some j) args h k = absurd k
read_held sorts p n (Some s) None args h k = absurd k

pub asks_held : AsksAreHeld
asks_held components sorts a k parts args kind are = by_kind a k kind
  where
    by_part : (place n : ℕ) (key : Option ℕ) (component : ComponentForm) → slice_get components place ≡ Some component → FitsKey sorts (key_sort component) key → (o : Option Part) → slice_get parts place ≡ o
        → read_part o n key args ≡ leaf_in (part_held o (key_given key args)) n
    by_part place n key component at fits None is = refl
    by_part place n key component at fits (Some p) is = read_held sorts p n (key_sort component) key args (are place component at p is) fits

    by_kind : (x : AskForm) (l : Kind) → HasKind components sorts x l → ask_value x parts args ≡ ask_held x (parts_held parts) args
    by_kind x l (read place n key component m at found fits) = by_part place n key component at fits (slice_get parts place) refl
    by_kind x l (given place s is) = refl
    by_kind x l (written v is) = refl
    by_kind x l (denied {a = y} h) = ap (λ v. value.Bool (not (truth_of v))) (by_kind y _ h)
    by_kind x l (and_of {a = y} {b = z} h i) = let p = by_kind y _ h in let q = by_kind z _ i in rw (p, q) refl
    by_kind x l (or_of {a = y} {b = z} h i) = let p = by_kind y _ h in let q = by_kind z _ i in rw (p, q) refl
    by_kind x l (numbers_less {a = y} {b = z} h i) = let p = by_kind y _ h in let q = by_kind z _ i in rw (p, q) refl
    by_kind x l (names_less {a = y} {b = z} h i) = let p = by_kind y _ h in let q = by_kind z _ i in rw (p, q) refl
    by_kind x l (sum_of {a = y} {b = z} h i) = let p = by_kind y _ h in let q = by_kind z _ i in rw (p, q) refl
    by_kind x l (difference_of {a = y} {b = z} h i) = let p = by_kind y _ h in let q = by_kind z _ i in rw (p, q) refl
