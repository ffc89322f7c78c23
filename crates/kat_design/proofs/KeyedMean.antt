-- States that are read key by key mean what they should, if those at each key do.
use Rattle.std.proofs.Common.{◌≡◌, [], ◌∷◌, ◌++◌, sym, ◌∙◌, ap, subst}
use Rattle.kat_type.specs.Unions.{united}
use Rattle.kat_design.specs.Meanings.{Meaning, Means}
use Rattle.kat_design.specs.KeyedStates.{IsKeyed, IsWrapped}

two_at : {S : Type 0} (f : S → S → S) (a b c d : S) → a ≡ b → c ≡ d → f a c ≡ f b d
two_at f a b c d e g = cc

pub keyed_mean : {T S K : Type 0} (kin : T → T → Type 0) (inner : S → S → Type 0) (t : Meaning T) (m : K → Meaning S) (at : T → K → S)
    → IsKeyed kin t m at → ((k : K) → Means inner (m k)) → Means kin t
keyed_mean kin inner t m at is means = record {
  goes = is.goes;
  same = λ xs ys h k same. is.one (t.state_of xs) (t.state_of ys) (is.goes xs ys)
      (λ key. is.reads xs key ∙ (means key).same xs ys h k same ∙ sym (is.reads ys key));
  adds = λ xs new. is.one (t.added (t.state_of xs) new) (t.state_of (xs ++ new ∷ [])) (is.goes_added xs (xs ++ new ∷ []) new)
      (λ key. is.adds xs new key ∙ ap (λ s. (m key).added s new) (is.reads xs key) ∙ (means key).adds xs new ∙ sym (is.reads (xs ++ new ∷ []) key));
  unites = λ xs ys h k nested. is.one (t.joined (t.state_of xs) (t.state_of ys)) (t.state_of (united xs ys)) (is.goes_joined xs ys (united xs ys))
      (λ key. is.joins xs ys key
      ∙ two_at (m key).joined (at (t.state_of xs) key) ((m key).state_of xs) (at (t.state_of ys) key) ((m key).state_of ys) (is.reads xs key) (is.reads ys key)
      ∙ (means key).unites xs ys h k nested ∙ sym (is.reads (united xs ys) key));
}

pub wrapped_mean : {P S : Type 0} (kin : P → P → Type 0) (inner : S → S → Type 0) (p : Meaning P) (m : Meaning S) (wrap : S → P)
    → IsWrapped kin inner p m wrap → Means inner m → Means kin p
wrapped_mean {P} {S} kin inner p m wrap is means = record {
  goes = λ xs ys. subst (λ (s : P). kin s (p.state_of ys)) (sym (is.is xs)) (subst (λ (s : P). kin (wrap (m.state_of xs)) s) (sym (is.is ys)) (is.goes (m.state_of xs) (m.state_of ys) (means.goes xs ys)));
  same = λ xs ys h k same. is.is xs ∙ ap wrap (means.same xs ys h k same) ∙ sym (is.is ys);
  adds = λ xs new. ap (λ s. p.added s new) (is.is xs) ∙ is.adds (m.state_of xs) new ∙ ap wrap (means.adds xs new) ∙ sym (is.is (xs ++ new ∷ []));
  unites = λ xs ys h k nested. two_at p.joined (p.state_of xs) (wrap (m.state_of xs)) (p.state_of ys) (wrap (m.state_of ys)) (is.is xs) (is.is ys)
      ∙ is.joins (m.state_of xs) (m.state_of ys) ∙ ap wrap (means.unites xs ys h k nested) ∙ sym (is.is (united xs ys));
}
