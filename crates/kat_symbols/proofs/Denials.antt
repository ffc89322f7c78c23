-- Negated formulas are the negations of their facts.
use Rattle.std.proofs.Common.{◌≡◌, Vec, List, [], ◌∷◌, map, refl, sym, ap, ◌∙◌, rules}
use Rattle.std.specs.Global.{Global}
use Rattle.kat_form.specs.declared.Formula.{Formula}
use Rattle.kat_form.specs.declared.Formula.TheVariants.{And, Or}
use Rattle.kat_form.specs.declared.Formula.TheFolds.{the_lemmas}
use Rattle.kat_form.specs.Facts.{Fact, listed, fact_of, facts_of}
use Rattle.kat_form.specs.Facts.Fact.{all_of, any_of}
use Rattle.kat_form.specs.Facts.Facts.{more}
use Rattle.kat_symbols.specs.Connectives.{denied, denied_each}

pub denied_listed : (fs : List Fact) → denied_each (listed fs) ≡ listed (map denied fs)
denied_listed [] = refl
denied_listed (f ∷ fs) = ap (more (denied f)) (denied_listed fs)

pub fact_and : (parts : Vec Formula Global) → fact_of (And parts) ≡ all_of (listed (facts_of parts.items))
fact_and parts = search (rules, the_lemmas)

pub fact_or : (parts : Vec Formula Global) → fact_of (Or parts) ≡ any_of (listed (facts_of parts.items))
fact_or parts = search (rules, the_lemmas)

pub denied_and : (f : Formula) (parts opposites : Vec Formula Global) → f ≡ And parts → facts_of opposites.items ≡ map denied (facts_of parts.items) → fact_of (Or opposites) ≡ denied (fact_of f)
denied_and f parts opposites is e =
    fact_or opposites
    ∙ ap (λ (fs : List Fact). any_of (listed fs)) e
    ∙ ap any_of (sym (denied_listed (facts_of parts.items)))
    ∙ ap denied (sym (ap fact_of is ∙ fact_and parts))

pub denied_or : (f : Formula) (parts opposites : Vec Formula Global) → f ≡ Or parts → facts_of opposites.items ≡ map denied (facts_of parts.items) → fact_of (And opposites) ≡ denied (fact_of f)
denied_or f parts opposites is e =
    fact_and opposites
    ∙ ap (λ (fs : List Fact). all_of (listed fs)) e
    ∙ ap all_of (sym (denied_listed (facts_of parts.items)))
    ∙ ap denied (sym (ap fact_of is ∙ fact_or parts))
