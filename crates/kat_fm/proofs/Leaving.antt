-- Rows that are alike for what follows, and rounds that leave rows out.
use Rattle.std.proofs.Common.{◌≡◌, ℕ, zero, suc, ◌+◌, ◌<◌, ◌≤◌, ◌^◌, ◌*◌, ℤ, ◌+ℤ◌, ◌*ℤ◌, pos, Bool, true, false, if◌then◌else◌, All, List, [], ◌∷◌, ◌++◌, length, drop, get_or, append_assoc, Option, Some, None, Result, Err, refl, sym, ap, ◌∙◌, subst, arith}
use Rattle.std.specs.Prelude.{not, ◌&&◌, int_lt, nat_lt, option_map, Ok}
use Rattle.std.specs.List.{cons_option, list_any, list_all}
use Rattle.std.proofs.lemmas.List.{append-nil}
use Rattle.std.proofs.lemmas.List.Folds.{list_any_at}
use Rattle.kat_fm.specs.declared.arithmetic.Passed.{Passed}
use Rattle.kat_fm.specs.declared.working.Combination.{Combination as Working}
use Rattle.kat_fm.specs.Limits.{Checked, and_then, checked_map, weighed, weighed_all}
use Rattle.kat_fm.specs.Limits.Checked.{fits, passes}
use Rattle.kat_fm.specs.Combinations.{Combination, combination_of, weighed_rows, counted}
use Rattle.kat_fm.specs.Comparisons.{is_zero, has_variables, covers}
use Rattle.kat_fm.specs.Points.{Taken}
use Rattle.kat_fm.specs.Eliminations.{Solution, contradiction, tidied, couples, choice_from, go_on, step, begin, rounds}
use Rattle.kat_fm.specs.Eliminations.Solution.{crowded}
use Rattle.kat_fm.specs.EntryViews.{combination_in, behind}
use Rattle.kat_fm.specs.Views.{combinations, appended, taken_with}
use Rattle.kat_fm.specs.Leaving.{AreAlike, GoAlike, IsSteady, MayMiss, IsMade}
use Rattle.kat_fm.specs.Leaving.MayMiss.{covered, idle}
use Rattle.kat_fm.proofs.Covering.{tidied_without_covered, tidied_without_variables, contradiction_without}
use Rattle.kat_fm.proofs.Couplings.{combination_at, as_many, combined_in, couples_step}
use Rattle.kat_fm.proofs.Loops.{goes_on, stops, ends}

alike_through : (a b c : List Combination) → AreAlike a b → AreAlike b c → AreAlike a c
alike_through a b c h k = record { found = λ more. h.found more ∙ k.found more; left = λ more. h.left more ∙ k.left more }

alike_more : (a b ys : List Combination) → AreAlike a b → AreAlike (a ++ ys) (b ++ ys)
alike_more a b ys h = record {
  found = λ more. ap contradiction (append_assoc a ys more) ∙ h.found (ys ++ more) ∙ ap contradiction (sym (append_assoc b ys more));
  left = λ more. ap tidied (append_assoc a ys more) ∙ h.left (ys ++ more) ∙ ap tidied (sym (append_assoc b ys more));
}

go_through : (x y z : Checked (List Combination)) → GoAlike x y → GoAlike y z → GoAlike x z
go_through (fits a) (fits b) (fits c) h k = alike_through a b c h k
go_through (fits a) (fits b) (passes e f) h k = absurd k
go_through (fits a) (passes c d) z h k = absurd h
go_through (passes a b) (fits c) z h k = absurd h
go_through (passes a b) (passes c d) (fits e) h k = absurd k
go_through (passes a b) (passes c d) (passes e f) h k = (h.0 ∙ k.0, h.1 ∙ k.1)

go_from : (x y z : Checked (List Combination)) → x ≡ y → GoAlike y z → GoAlike x z
go_from x y z e h = subst (λ c. GoAlike c z) (sym e) h

after_alike : (c : Checked (List Combination)) (a b : List Combination) → AreAlike a b → GoAlike (and_then c (λ ys. fits (a ++ ys))) (and_then c (λ ys. fits (b ++ ys)))
after_alike (fits ys) a b h = alike_more a b ys h
after_alike (passes left right) a b h = (refl, refl)

behind_alike : {A : Type 0} (f : A → Checked Combination) (xs : List A) (a b : List Combination) → AreAlike a b → GoAlike (behind f xs a) (behind f xs b)
behind_alike f xs a b h = after_alike (checked_map f xs) a b h

then_alike : {A : Type 0} (f : A → Checked Combination) (xs : List A) (c d : Checked (List Combination)) → GoAlike c d → GoAlike (and_then c (λ e. behind f xs e)) (and_then d (λ e. behind f xs e))
then_alike f xs (fits a) (fits b) h = behind_alike f xs a b h
then_alike f xs (fits a) (passes c d) h = absurd h
then_alike f xs (passes a b) (fits c) h = absurd h
then_alike f xs (passes a b) (passes c d) h = h

missed : (rows : List Combination) (r : Combination) → MayMiss rows r → AreAlike rows (rows ++ r ∷ [])
missed rows r (covered v c) =
    let none : (not (has_variables r) && int_lt (pos 0) r.constant) ≡ false = ap (λ b. not b && int_lt (pos 0) r.constant) v in record {
      found = λ more. sym (ap contradiction (append_assoc rows (r ∷ []) more) ∙ contradiction_without rows r more none);
      left = λ more. sym (ap tidied (append_assoc rows (r ∷ []) more) ∙ tidied_without_covered rows r more v c);
    }
missed rows r (idle v l) =
    let none : (not (has_variables r) && int_lt (pos 0) r.constant) ≡ false = ap (λ b. not b && int_lt (pos 0) r.constant) v ∙ l in record {
      found = λ more. sym (ap contradiction (append_assoc rows (r ∷ []) more) ∙ contradiction_without rows r more none);
      left = λ more. sym (ap tidied (append_assoc rows (r ∷ []) more) ∙ tidied_without_variables rows r more v);
    }

-- the numbers of a row that is made
pub rows_fit : (f g : ℤ) (p n : Combination) (cs ms : List ℤ) (k : ℤ) → fits cs ≡ weighed_all (2 ^ 126) f p.coefficients g n.coefficients → fits k ≡ weighed (2 ^ 126) f p.constant g n.constant
    → fits ms ≡ weighed_all (2 ^ 62) f p.multipliers g n.multipliers → fits (record { coefficients = cs; constant = k; multipliers = ms }) ≡ weighed_rows f p g n
rows_fit f g p n cs ms k a b d =
    let row : List ℤ → ℤ → List ℤ → Checked Combination = λ xs z ys. fits (record { coefficients = xs; constant = z; multipliers = ys }) in
    let L : Checked (List ℤ) = weighed_all (2 ^ 62) f p.multipliers g n.multipliers in
    let K : Checked ℤ = weighed (2 ^ 126) f p.constant g n.constant in
    ap (λ (c : Checked (List ℤ)). and_then c (λ ys. row cs k ys)) d
    ∙ ap (λ (c : Checked ℤ). and_then c (λ z. and_then L (λ ys. row cs z ys))) b
    ∙ ap (λ (c : Checked (List ℤ)). and_then c (λ xs. and_then K (λ z. and_then L (λ ys. row xs z ys)))) a

-- a row that one at a place covers
pub covered_at : (ws : List Working) (i : ℕ) (w : Working) (r : Combination) → list_all is_zero r.coefficients ≡ false → i < length ws → w ≡ get_or ws i w → covers (combination_in w) r ≡ true → MayMiss (combinations ws) r
covered_at ws i w r some h is k =
    covered (ap not some)
    (list_any_at (λ o. covers o r) (combinations ws) i (combination_in w) (omega (arith, as_many ws)) (ap (λ o. covers o r) (sym (combination_at ws i w h is)) ∙ k))

-- the row that is made, by the answer
pub made_ok : (ws us : List Working) (made : Checked Combination) (r : Result (Option Working) Passed) (o : Option Working) → ws ≡ us → IsMade (combinations ws) made r → r ≡ Ok o → IsMade (combinations us) made (Ok o)
made_ok ws us made r o s h e =
    let P : Result (Option Working) Passed → Type 0 = λ x. IsMade (combinations ws) made x in
    let Q : List Working → Type 0 = λ xs. IsMade (combinations xs) made (Ok o) in
    subst Q s (subst P e h)

pub made_err : (ws : List Working) (made : Checked Combination) (r : Result (Option Working) Passed) (p : Passed) → IsMade (combinations ws) made r → r ≡ Err p → passes p.left p.right ≡ made
made_err ws made r p h e = let P : Result (Option Working) Passed → Type 0 = λ x. IsMade (combinations ws) made x in subst P e h

pub appended_alike : {A : Type 0} (rows : List Combination) (r s : Result A Passed) (c : Checked (List Combination)) → r ≡ s → GoAlike (appended rows r) c → GoAlike (appended rows s) c
appended_alike {A} rows r s c e h = let P : Result A Passed → Type 0 = λ x. GoAlike (appended rows x) c in subst P e h

-- one row more of a list is combined, or left out
pub made_more : (f : Combination → Checked Combination) (ns : List Combination) (i : ℕ) (n : Combination) (rows new : List Combination) (made : Option Working) (whole : Checked (List Combination)) → i < length ns → n ≡ get_or ns i n
    → IsMade rows (f n) (Ok made) → new ≡ rows ++ cons_option (option_map combination_in made) [] → GoAlike (behind f (drop i ns) rows) whole → GoAlike (behind f (drop (i + 1) ns) new) whole
made_more f ns i n rows new (Some w) whole h is made e before =
    let same : behind f (drop (i + 1) ns) (rows ++ combination_in w ∷ []) ≡ behind f (drop i ns) rows = goes_on f ns i n (combination_in w) rows (behind f (drop i ns) rows) h is made refl in
    go_from (behind f (drop (i + 1) ns) new) (behind f (drop i ns) rows) whole (ap (behind f (drop (i + 1) ns)) e ∙ same) before
made_more f ns i n rows new None whole h is (r, fr, miss) e before =
    let rest = drop (i + 1) ns in
    let same : behind f rest (rows ++ r ∷ []) ≡ behind f (drop i ns) rows = goes_on f ns i n r rows (behind f (drop i ns) rows) h is fr refl in
    go_from (behind f rest new) (behind f rest rows) whole (ap (behind f rest) (e ∙ append-nil rows))
    (go_through (behind f rest rows) (behind f rest (rows ++ r ∷ [])) whole (behind_alike f rest rows (rows ++ r ∷ []) (missed rows r miss)) (go_from (behind f rest (rows ++ r ∷ [])) (behind f (drop i ns) rows) whole same before))

pub made_stops : (f : Combination → Checked Combination) (ns : List Combination) (i : ℕ) (n : Combination) (left right : ℤ) (rows : List Combination) (whole : Checked (List Combination)) → i < length ns → n ≡ get_or ns i n
    → passes left right ≡ f n → GoAlike (behind f (drop i ns) rows) whole → GoAlike (passes left right) whole
made_stops f ns i n left right rows whole h is e before =
    go_from (passes left right) (behind f (drop i ns) rows) whole (stops f ns i n left right rows (behind f (drop i ns) rows) h is e refl) before

pub made_ends : {A : Type 0} (f : A → Checked Combination) (ns : List A) (i : ℕ) (rows : List Combination) (whole : Checked (List Combination)) → length ns ≤ i → GoAlike (behind f (drop i ns) rows) whole → GoAlike (fits rows) whole
made_ends f ns i rows whole h before = go_from (fits rows) (behind f (drop i ns) rows) whole (ends f ns i rows (behind f (drop i ns) rows) h refl) before

-- one plus row more is combined with all minus rows
pub couples_go : (v : ℕ) (ps ns done : List Combination) (i : ℕ) (p : Combination) (c whole : Checked (List Combination)) → i < length ps → p ≡ get_or ps i p → GoAlike c (behind (combination_of v p) ns done)
    → GoAlike (behind (combined_in v) (couples (drop i ps) ns) done) whole → GoAlike (and_then c (λ d. behind (combined_in v) (couples (drop (i + 1) ps) ns) d)) whole
couples_go v ps ns done i p c whole h is k before =
    let rest = couples (drop (i + 1) ps) ns in
    let F : Checked (List Combination) → Checked (List Combination) = λ x. and_then x (λ d. behind (combined_in v) rest d) in
    go_through (F c) (F (behind (combination_of v p) ns done)) whole (then_alike (combined_in v) rest c (behind (combination_of v p) ns done) k)
    (go_from (F (behind (combination_of v p) ns done)) (behind (combined_in v) (couples (drop i ps) ns) done) whole (sym (couples_step v ps ns done i p h is)) before)

-- what follows is the same for rows that are alike
begin_same : (vars : ℕ) (taken : List Taken) (rows others : List Combination) (onward : List Taken → List Combination → Solution) (o : Option (List ℤ)) → tidied rows ≡ tidied others → begin vars taken rows onward o ≡ begin vars taken others onward o
begin_same vars taken rows others onward (Some ms) t = refl
begin_same vars taken rows others onward None t = ap (λ x. step vars taken x onward (choice_from x None (counted 0 vars))) t

pub rounds_steady : (n vars : ℕ) → IsSteady (rounds n vars)
rounds_steady zero vars = λ taken rows others h. refl
rounds_steady (suc n) vars = λ taken rows others h.
    let c : contradiction rows ≡ contradiction others = ap contradiction (sym (append-nil rows)) ∙ h.found [] ∙ ap contradiction (append-nil others) in
    let t : tidied rows ≡ tidied others = ap tidied (sym (append-nil rows)) ∙ h.left [] ∙ ap tidied (append-nil others) in
    begin_same vars taken rows others (rounds n vars) (contradiction rows) t ∙ ap (begin vars taken others (rounds n vars)) c

-- a variable is taken
on_alike : (onward : List Combination → Solution) → ((rows others : List Combination) → AreAlike rows others → onward rows ≡ onward others) → (rows : List Combination) (c : Checked (List Combination)) → GoAlike (fits rows) c → onward rows ≡ go_on onward c
on_alike onward steady rows (fits others) h = steady rows others h
on_alike onward steady rows (passes left right) h = absurd h

uncrowded : (onward : List Taken → List Combination → Solution) (v : ℕ) (taken : List Taken) (plus minus rest : List Combination) → nat_lt 20_000 (length plus * length minus + length rest) ≡ false
    → go_on (onward (record { variable = v; minus = minus; plus = plus } ∷ taken)) (behind (combined_in v) (couples plus minus) rest) ≡ taken_with onward v taken plus minus rest
uncrowded onward v taken plus minus rest h =
    sym (ap (λ b. if b then crowded (length plus) (length minus) (length rest) else go_on (onward (record { variable = v; minus = minus; plus = plus } ∷ taken)) (behind (combined_in v) (couples plus minus) rest)) h)

takes_alike : (onward : List Taken → List Combination → Solution) → IsSteady onward → (v : ℕ) (taken : List Taken) (plus minus rest rows : List Combination) → nat_lt 20_000 (length plus * length minus + length rest) ≡ false
    → GoAlike (fits rows) (behind (combined_in v) (couples plus minus) rest) → onward (record { variable = v; minus = minus; plus = plus } ∷ taken) rows ≡ taken_with onward v taken plus minus rest
takes_alike onward steady v taken plus minus rest rows h k =
    let t = record { variable = v; minus = minus; plus = plus } ∷ taken in
    on_alike (onward t) (λ a b e. steady t a b e) rows (behind (combined_in v) (couples plus minus) rest) k ∙ uncrowded onward v taken plus minus rest h

-- the same of the rows as the code has them
pub takes_made : {A : Type 0} (onward : List Taken → List Combination → Solution) → IsSteady onward → (v : ℕ) (taken : List Taken) (ps ns rs us ws : List Working) (rows : List Combination) (r : Result A Passed) (a : A) (b : Bool)
    → b ≡ nat_lt 20_000 (length ps * length ns + length rs) → b ≡ false → us ≡ ps → ws ≡ ns → r ≡ Ok a → GoAlike (appended rows r) (behind (combined_in v) (couples (combinations us) (combinations ws)) (combinations rs))
    → onward (record { variable = v; minus = combinations ns; plus = combinations ps } ∷ taken) rows ≡ taken_with onward v taken (combinations ps) (combinations ns) (combinations rs)
takes_made onward steady v taken ps ns rs us ws rows r a b is few p n e k =
    let Q : List Working → List Working → Type 0 = λ xs ys. GoAlike (fits rows) (behind (combined_in v) (couples (combinations xs) (combinations ys)) (combinations rs)) in
    let lengths : nat_lt 20_000 (length (combinations ps) * length (combinations ns) + length (combinations rs)) ≡ nat_lt 20_000 (length ps * length ns + length rs) = rw (as_many ps, as_many ns, as_many rs) refl in
    let alike = appended_alike rows r (Ok a) (behind (combined_in v) (couples (combinations us) (combinations ws)) (combinations rs)) e k in
    takes_alike onward steady v taken (combinations ps) (combinations ns) (combinations rs) rows (lengths ∙ sym is ∙ few) (subst (λ xs. Q xs ns) p (subst (λ ys. Q us ys) n alike))
