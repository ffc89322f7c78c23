-- A listing that is written, line by line.
use Rattle.std.proofs.Common.{◌≡◌, ℕ, suc, ◌+◌, Bool, true, false, List, [], ◌∷◌, ◌++◌, length, take, refl, sym, ◌∙◌, ap, subst, append_assoc, arith, Option}
use Rattle.std.proofs.lemmas.Bool.{false≢true}
use Rattle.kat_design.specs.Designs.{DesignForm}
use Rattle.kat_io.specs.Outside.{grown}
use Rattle.kat_world.specs.Written.{IsCutShort}
use Rattle.kat_cli.specs.ListCommand.{design_line, lines_from, output}
use Rattle.kat_cli.specs.Listing.{ArePassed, WritesNext, next_line}
use Rattle.kat_cli.proofs.Ending.{cut_first, cut_second, grown-grown}

-- what was written of a listing, and what is left of it: this many lines, of which the first has this number
pub record Going (most left number : ℕ) (all to_come : List DesignForm) (start written : Option (List ℕ)) : Type 0 where
  pub front : List ℕ
  pub so_far : written ≡ grown start front
  pub whole : front ++ lines_from number (take left to_come) ≡ output most all
  pub count : length all + left ≡ most + length to_come

pub going_on : (most left number left' number' : ℕ) (all to_come to_come' : List DesignForm) (start written written' : Option (List ℕ)) (there : Bool)
    → left ≡ suc left' → number' ≡ suc number → there ≡ true → Going most left number all to_come start written → WritesNext number to_come to_come' written written' there
    → Going most left' number' all to_come' start written'
going_on most left number left' number' all to_come to_come' start written written' false is next ends g w = absurd (false≢true ends)
going_on most left number left' number' all to_come to_come' start written written' true is next ends g w =
    let g' = subst (λ (n : ℕ). Going most n number all to_come start written) is g in
    let g'' = subst (λ (ds : List DesignForm). Going most (suc left') number all ds start written) w.1 g' in
    subst (λ (n : ℕ). Going most left' n all to_come' start written') (sym next) (record {
      front = g''.front ++ design_line number w.0;
      so_far = w.2 ∙ ap (λ (told : Option (List ℕ)). grown told (design_line number w.0)) g''.so_far ∙ grown-grown start g''.front (design_line number w.0);
      whole = append_assoc g''.front (design_line number w.0) (lines_from (suc number) (take left' to_come')) ∙ g''.whole;
      count = omega (arith, g''.count);
    })

-- the next line comes before the others that are left
next_first : (number left : ℕ) (to_come : List DesignForm) → (rest : List ℕ) × (lines_from number (take (suc left) to_come) ≡ next_line number to_come ++ rest)
next_first number left [] = ([], refl)
next_first number left (d ∷ to_come) = (lines_from (suc number) (take left to_come), refl)

pub going_cut : (most left number left' : ℕ) (all to_come : List DesignForm) (start written written' : Option (List ℕ))
    → left ≡ suc left' → Going most left number all to_come start written → IsCutShort written written' (next_line number to_come) → IsCutShort start written' (output most all)
going_cut most left number left' all to_come start written written' is g cut =
    let g' = subst (λ (n : ℕ). Going most n number all to_come start written) is g in
    let next = next_first number left' to_come in
    subst (λ (text : List ℕ). IsCutShort start written' text)
    (append_assoc g'.front (next_line number to_come) next.0 ∙ ap (λ (text : List ℕ). g'.front ++ text) (sym next.1) ∙ g'.whole)
    (cut_first start written' (g'.front ++ next_line number to_come) next.0
    (cut_second start written written' g'.front (next_line number to_come) g'.so_far cut))

pub passed_on : (number : ℕ) (to_come to_come' : List DesignForm) (written written' : Option (List ℕ)) (there : Bool)
    → WritesNext number to_come to_come' written written' there → there ≡ true → ArePassed to_come → ArePassed to_come'
passed_on number to_come to_come' written written' false w there passed = absurd (false≢true there)
passed_on number to_come to_come' written written' true w there passed = (subst ArePassed w.1 passed).1
