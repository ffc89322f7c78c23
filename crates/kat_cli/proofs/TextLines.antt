-- A text that is written line by line.
use Rattle.std.proofs.Common.{◌≡◌, ℕ, List, [], ◌++◌, take, drop, refl, sym, ◌∙◌, ap, subst, append_assoc, append-nil, Option, Some, None}
use Rattle.std.proofs.lemmas.List.{take-append-drop}
use Rattle.kat_io.specs.Outside.{grown}
use Rattle.kat_world.specs.Written.{IsCutShort}
use Rattle.kat_cli.proofs.Ending.{cut_first, cut_second, grown-grown}

-- what was written of a text, and what is left of it
pub record WritesLines (text rest : List ℕ) (start written : Option (List ℕ)) : Type 0 where
  pub front : List ℕ
  pub so_far : written ≡ grown start front
  pub whole : front ++ rest ≡ text

pub grown-none : (told : Option (List ℕ)) → told ≡ grown told []
grown-none None = refl
grown-none (Some bytes) = ap Some (sym (append-nil bytes))

pub lines_first : (text : List ℕ) (start : Option (List ℕ)) → WritesLines text text start start
lines_first text start = record { front = []; so_far = grown-none start; whole = refl }

pub lines_on : (text rest line behind : List ℕ) (n : ℕ) (start written written' : Option (List ℕ)) → WritesLines text rest start written
    → line ≡ take n rest → behind ≡ drop n rest → written' ≡ grown written line → WritesLines text behind start written'
lines_on text rest line behind n start written written' w is is' wrote = record {
  front = w.front ++ line;
  so_far = wrote ∙ ap (λ (told : Option (List ℕ)). grown told line) w.so_far ∙ grown-grown start w.front line;
  whole = append_assoc w.front line behind ∙ ap (λ (both : List ℕ). w.front ++ both) (ap (λ (l : List ℕ). l ++ behind) is ∙ ap (λ (b : List ℕ). take n rest ++ b) is' ∙ take-append-drop n rest) ∙ w.whole;
}

pub lines_cut : (text rest line behind : List ℕ) (n : ℕ) (start written written' : Option (List ℕ)) → WritesLines text rest start written
    → line ≡ take n rest → IsCutShort written written' line → IsCutShort start written' text
lines_cut text rest line behind n start written written' w is cut =
    subst (λ (all : List ℕ). IsCutShort start written' all)
    (append_assoc w.front line (drop n rest) ∙ ap (λ (both : List ℕ). w.front ++ both) (ap (λ (l : List ℕ). l ++ drop n rest) is ∙ take-append-drop n rest) ∙ w.whole)
    (cut_first start written' (w.front ++ line) (drop n rest) (cut_second start written written' w.front line w.so_far cut))

pub lines_all : (text rest : List ℕ) (start written : Option (List ℕ)) → WritesLines text rest start written → rest ≡ [] → written ≡ grown start text
lines_all text rest start written w none =
    w.so_far ∙ ap (λ (all : List ℕ). grown start all) (sym (append-nil w.front) ∙ ap (λ (r : List ℕ). w.front ++ r) (sym none) ∙ w.whole)
