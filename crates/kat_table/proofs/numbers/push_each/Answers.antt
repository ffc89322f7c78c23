use Rattle.std.proofs.Common.{rules, ◌≡◌, ◌++◌, ◌∷◌, ◌<◌, ◌∙◌, ap, OnErr, ℕ, List, [], append_assoc, length, take, get_or, zero, suc}
use Rattle.std.specs.List.{flat_map}
use Rattle.std.specs.Prelude.{Result, Ok, Err}
use Rattle.kat_table.specs.Numbers.{IsCutShort}
use Rattle.kat_table.proofs.numbers.push_each.Goals as goal

-- two lists are joined in another order
joined : (a b c e : List ℕ) → b ≡ c ++ e → a ++ b ≡ (a ++ c) ++ e
joined [] b c e is = is
joined (x ∷ a) b c e is = ap (λ more. x ∷ more) (joined a b c e is)

-- the texts of all: those before a place, the one at it, and those after it
parts : {A : Type 0} (f : A → List ℕ) (xs : List A) (k : ℕ) (d x : A) → k < length xs → x ≡ get_or xs k d → (behind : List ℕ) × (flat_map f xs ≡ flat_map f (take k xs) ++ (f x ++ behind))
parts f [] k d y below is = absurd (search rules)
parts f (x ∷ xs) zero d y below is = (flat_map f xs, ap (λ (z : _). f z ++ flat_map f xs) (search rules))
parts f (x ∷ xs) (suc k) d y below is =
    let more = parts f xs k d y (search rules) is in
    (more.0, joined (f x) (flat_map f xs) (flat_map f (take k xs)) (f y ++ more.0) more.1)

-- the bytes, with one of the parts cut off
short : (old mid new done front : List ℕ) → mid ≡ old ++ done → new ≡ mid ++ front → new ≡ old ++ (done ++ front)
short old mid new done front is more = more ∙ ap (λ bytes. bytes ++ front) is ∙ append_assoc old done front

whole : (done item behind front rest text : List ℕ) → text ≡ done ++ (item ++ behind) → item ≡ front ++ rest → text ≡ (done ++ front) ++ (rest ++ behind)
whole done item behind front rest text all is = all ∙ ap (λ part. done ++ (part ++ behind)) is ∙ joined done ((front ++ rest) ++ behind) front (rest ++ behind) (append_assoc front rest behind)

-- a text that is cut off within one of its parts
cut_within : {T E : Type 0} (r : Result T E) (old mid new done item behind text : List ℕ) → mid ≡ old ++ done → text ≡ done ++ (item ++ behind) → IsCutShort mid new item → OnErr r (IsCutShort old new text)
cut_within (Ok x) old mid new done item behind text is all cut = tt
cut_within (Err e) old mid new done item behind text is all cut =
    (done ++ cut.0, cut.1 ++ behind, short old mid new done cut.0 is cut.2, whole done item behind cut.0 cut.1 text all cut.3)

pub returns-in_err-push_number-clause-err : goal.returns-in_err-push_number-clause-err
returns-in_err-push_number-clause-err g c =
    let told = parts (λ number. 32 ∷ g.N.Integer.text number) c.args.numbers.now c.loop-number.number-index c.number-item.result c.number-item.result c.loop-number-test.true c.number-item.is in
    cut_within c.from_residual.result _ c.loop-number.into.items c.push_number.new.into.items _ (32 ∷ g.N.Integer.text c.number-item.result) told.0 _ c.loop-number.invariant told.1 c.in_err-push_number.ensures.err
