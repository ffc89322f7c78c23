-- What each call on assumed literals leaves.
use Rattle.std.proofs.Common.{◌≡◌, ◌↔◌, ℕ, ◌<◌, ℤ, pos, neg_ℤ, Bool, true, false, List, [], ◌∷◌, ◌++◌, length, get_or, take, refl, sym, ap, ◌∙◌, arith, subst, Contains, Option, Some, None, is_some}
use Rattle.std.proofs.lemmas.Bool.{false≢true}
use Rattle.std.proofs.lemmas.List.{take_all, take-append-le, get_or_append_left, get_or_push, get_or-take, take-take}
use Rattle.kat_clause.specs.Clauses.{Derived, Follows, opposites}
use Rattle.kat_watch.specs.Watched.{Step, Watched, literals, AreSupported, IsQuiet, IsConflict, Grows}
use Rattle.kat_watch.proofs.Following.{quiet_derives, quiet_refutes_not, conflict_refutes}
use Rattle.kat_cases.specs.Levels.{IsBefore, AreLevels, kept_at}
use Rattle.kat_cases.specs.Entering.{Entered}
use Rattle.kat_cases.specs.Entering.Entered.{behind, again, clashes, assumes}
use Rattle.kat_cases.specs.Assuming.{IsApart, IsAssuming}
use Rattle.kat_cases.proofs.Levels.{levels_again, levels_assume, levels_clash, levels_behind, levels_grow, levels_back, levels_back_behind, clash_whole}

pub some_of : (o : Option ℕ) → is_some o ≡ true → (c : ℕ) × (o ≡ Some c)
some_of None e = absurd (cc)
some_of (Some c) e = (c, refl)

pub none_of : (o : Option ℕ) → is_some o ≡ false → o ≡ None
none_of None e = refl
none_of (Some c) e = absurd (cc)

-- the same levels under an equal clash
levels_at : (assumed : List ℤ) (kept : List ℕ) (trail : List Step) (c d : Option ℕ) → c ≡ d → AreLevels assumed kept trail c → AreLevels assumed kept trail d
levels_at assumed kept trail c d e are = subst (AreLevels assumed kept trail) e are

never : (w : Watched) (clash : Option ℕ) → false ≡ true → (clash ≡ None) × IsQuiet w.clauses (literals w.trail)
never w clash e = absurd (false≢true e)

apart_more : (assumed : List ℤ) (l : ℤ) (c : ℕ) → c < length assumed → IsApart assumed (Some c) → IsApart (assumed ++ l ∷ []) (Some c)
apart_more assumed l c h apart =
    let front : take c (assumed ++ l ∷ []) ≡ take c assumed = take-append-le c assumed (l ∷ []) (omega (arith, h)) in
    let same : get_or (assumed ++ l ∷ []) c (pos 0) ≡ get_or assumed c (pos 0) = get_or_append_left assumed (l ∷ []) (pos 0) c h in
    let P : List ℤ → ℤ → Type 0 = λ t z. Contains t (neg_ℤ z) → ⊥ in
    subst (λ (t : List ℤ). P t (get_or (assumed ++ l ∷ []) c (pos 0))) (sym front) (subst (P (take c assumed)) (sym same) apart)

apart_new : (assumed : List ℤ) (l : ℤ) → (Contains assumed (neg_ℤ l) → ⊥) → IsApart (assumed ++ l ∷ []) (Some (length assumed))
apart_new assumed l apart =
    let front : take (length assumed) (assumed ++ l ∷ []) ≡ assumed = take-append-le (length assumed) assumed (l ∷ []) (omega arith) ∙ take_all (length assumed) assumed (omega arith) in
    let same : get_or (assumed ++ l ∷ []) (length assumed) (pos 0) ≡ l = get_or_push assumed l (pos 0) (length assumed) refl in
    let P : List ℤ → ℤ → Type 0 = λ t z. Contains t (neg_ℤ z) → ⊥ in
    subst (λ (t : List ℤ). P t (get_or (assumed ++ l ∷ []) (length assumed) (pos 0))) (sym front) (subst (P assumed) (sym same) apart)

-- the levels of the pushed lists, at an equal number of kept steps
pub assuming_enter : (w w' : Watched) (assumed : List ℤ) (kept : List ℕ) (clash clash' : Option ℕ) (settled : Bool) (l : ℤ) (n m : ℕ) → IsAssuming w assumed kept clash settled → n ≡ length assumed → m ≡ length w.trail → (Contains assumed (neg_ℤ l) → ⊥)
    → Entered w w' clash clash' l n → IsAssuming w' (assumed ++ l ∷ []) (kept ++ m ∷ []) clash' false
assuming_enter w w' assumed kept clash clash' settled l n m is en em apart (behind c e f same) =
    let base : IsAssuming w (assumed ++ l ∷ []) (kept ++ length w.trail ∷ []) (Some c) false = record {
      levels = levels_behind assumed kept w.trail c l (levels_at assumed kept w.trail clash (Some c) e is.levels);
      apart = apart_more assumed l c ((levels_at assumed kept w.trail clash (Some c) e is.levels).whole.0) (subst (IsApart assumed) e is.apart);
      quiet = never w (Some c);
    } in
    let P : Watched → ℕ → Option ℕ → Type 0 = λ x k o. IsAssuming x (assumed ++ l ∷ []) (kept ++ k ∷ []) o false in
    subst (λ (x : Watched). P x m clash') (sym same) (subst (λ (k : ℕ). P w k clash') (sym em) (subst (P w (length w.trail)) (sym f) base))
assuming_enter w w' assumed kept clash clash' settled l n m is en em apart (again e f same has) =
    let base : IsAssuming w (assumed ++ l ∷ []) (kept ++ length w.trail ∷ []) None false = record {
      levels = levels_again assumed kept w.trail l has (levels_at assumed kept w.trail clash None e is.levels);
      apart = tt;
      quiet = never w None;
    } in
    let P : Watched → ℕ → Option ℕ → Type 0 = λ x k o. IsAssuming x (assumed ++ l ∷ []) (kept ++ k ∷ []) o false in
    subst (λ (x : Watched). P x m clash') (sym same) (subst (λ (k : ℕ). P w k clash') (sym em) (subst (P w (length w.trail)) (sym f) base))
assuming_enter w w' assumed kept clash clash' settled l n m is en em apart (clashes e f same has) =
    let base : IsAssuming w (assumed ++ l ∷ []) (kept ++ length w.trail ∷ []) (Some (length assumed)) false = record {
      levels = levels_clash assumed kept w.trail l has (levels_at assumed kept w.trail clash None e is.levels);
      apart = apart_new assumed l apart;
      quiet = never w (Some (length assumed));
    } in
    let P : Watched → ℕ → Option ℕ → Type 0 = λ x k o. IsAssuming x (assumed ++ l ∷ []) (kept ++ k ∷ []) o false in
    let last : clash' ≡ Some (length assumed) = f ∙ ap (λ (i : ℕ). Some i) en in
    subst (λ (x : Watched). P x m clash') (sym same) (subst (λ (k : ℕ). P w k clash') (sym em) (subst (P w (length w.trail)) (sym last) base))
assuming_enter w w' assumed kept clash clash' settled l n m is en em apart (assumes e f same) =
    let more : Watched = record w { trail = w.trail ++ record { literal = l; reason = None } ∷ [] } in
    let base : IsAssuming more (assumed ++ l ∷ []) (kept ++ length w.trail ∷ []) None false = record {
      levels = levels_assume assumed kept w.trail l (levels_at assumed kept w.trail clash None e is.levels);
      apart = tt;
      quiet = never more None;
    } in
    let P : Watched → ℕ → Option ℕ → Type 0 = λ x k o. IsAssuming x (assumed ++ l ∷ []) (kept ++ k ∷ []) o false in
    subst (λ (x : Watched). P x m clash') (sym same) (subst (λ (k : ℕ). P more k clash') (sym em) (subst (P more (length w.trail)) (sym f) base))

-- what stays, whatever becomes of the literal
pub entered_same : (w w' : Watched) (clash clash' : Option ℕ) (l : ℤ) (n : ℕ) → Entered w w' clash clash' l n → (w'.greatest ≡ w.greatest) × (w'.clauses ≡ w.clauses)
entered_same w w' clash clash' l n (behind c e f same) = (ap (λ (x : Watched). x.greatest) same, ap (λ (x : Watched). x.clauses) same)
entered_same w w' clash clash' l n (again e f same has) = (ap (λ (x : Watched). x.greatest) same, ap (λ (x : Watched). x.clauses) same)
entered_same w w' clash clash' l n (clashes e f same has) = (ap (λ (x : Watched). x.greatest) same, ap (λ (x : Watched). x.clauses) same)
entered_same w w' clash clash' l n (assumes e f same) = (ap (λ (x : Watched). x.greatest) same, ap (λ (x : Watched). x.clauses) same)

-- UNDO

apart_take : (assumed : List ℤ) (c n : ℕ) → c < n → IsApart assumed (Some c) → IsApart (take n assumed) (Some c)
apart_take assumed c n h apart =
    let front : take c (take n assumed) ≡ take c assumed = take-take c n assumed (omega (arith, h)) in
    let same : get_or (take n assumed) c (pos 0) ≡ get_or assumed c (pos 0) = get_or-take n assumed c (pos 0) h in
    let P : List ℤ → ℤ → Type 0 = λ t z. Contains t (neg_ℤ z) → ⊥ in
    subst (λ (t : List ℤ). P t (get_or (take n assumed) c (pos 0))) (sym front) (subst (P (take c assumed)) (sym same) apart)

pub assuming_behind : (w : Watched) (assumed : List ℤ) (kept : List ℕ) (clash : Option ℕ) (settled : Bool) (n : ℕ) → n < length kept → (c : ℕ) × (clash ≡ Some c) × (c < n) → IsAssuming w assumed kept clash settled → IsAssuming w (take n assumed) (take n kept) clash false
assuming_behind w assumed kept clash settled n h late is =
    let base : IsAssuming w (take n assumed) (take n kept) (Some late.0) false = record {
      levels = levels_back_behind assumed kept w.trail late.0 n h late.2 (levels_at assumed kept w.trail clash (Some late.0) late.1 is.levels);
      apart = apart_take assumed late.0 n late.2 (subst (IsApart assumed) late.1 is.apart);
      quiet = never w (Some late.0);
    } in
    let P : Option ℕ → Type 0 = λ o. IsAssuming w (take n assumed) (take n kept) o false in
    subst P (sym late.1) base

pub assuming_back : (w w' : Watched) (assumed : List ℤ) (kept : List ℕ) (clash : Option ℕ) (settled : Bool) (n m : ℕ) → n < length kept → IsBefore n clash → m ≡ kept_at kept n → w' ≡ record w { trail = take m w.trail } → IsAssuming w assumed kept clash settled → IsAssuming w' (take n assumed) (take n kept) None false
assuming_back w w' assumed kept clash settled n m h early em same is =
    let less : Watched = record w { trail = take (kept_at kept n) w.trail } in
    let base : IsAssuming less (take n assumed) (take n kept) None false = record { levels = levels_back assumed kept w.trail clash n h early is.levels; apart = tt; quiet = never less None } in
    let P : Watched → Type 0 = λ x. IsAssuming x (take n assumed) (take n kept) None false in
    let G : ℕ → Watched = λ k. record w { trail = take k w.trail } in
    subst P (sym (same ∙ ap G em)) base

-- PROPAGATE

pub clash_refutes_all : (w : Watched) (assumed : List ℤ) (kept : List ℕ) (clash : Option ℕ) (settled : Bool) → is_some clash ≡ true → AreSupported w.clauses w.trail → IsAssuming w assumed kept clash settled → Follows w.clauses (opposites assumed)
clash_refutes_all w assumed kept clash settled some are is =
    let c = some_of clash some in
    clash_whole w.clauses w.trail assumed c.0 are ((levels_at assumed kept w.trail clash (Some c.0) c.1 is.levels).whole) (subst (IsApart assumed) c.1 is.apart)

pub assuming_grows : (w w' : Watched) (assumed : List ℤ) (kept : List ℕ) (clash : Option ℕ) (settled : Bool) → is_some clash ≡ false → w'.clauses ≡ w.clauses → Grows w'.clauses w.trail w'.trail → IsAssuming w assumed kept clash settled → IsAssuming w' assumed kept clash false
assuming_grows w w' assumed kept clash settled none same grows is =
    let e = none_of clash none in
    record {
      levels = levels_at assumed kept w'.trail None clash (sym e) (levels_grow w'.clauses assumed kept w.trail w'.trail grows (levels_at assumed kept w.trail clash None e is.levels));
      apart = is.apart;
      quiet = never w' clash;
    }

pub assuming_quiet : (w : Watched) (assumed : List ℤ) (kept : List ℕ) (clash : Option ℕ) → is_some clash ≡ false → IsQuiet w.clauses (literals w.trail) → IsAssuming w assumed kept clash false → IsAssuming w assumed kept clash true
assuming_quiet w assumed kept clash none quiet is = record { levels = is.levels; apart = is.apart; quiet = λ e. (none_of clash none, quiet) }

pub conflict_follows : (w : Watched) (assumed : List ℤ) (kept : List ℕ) (clash : Option ℕ) (c : ℕ) → is_some clash ≡ false → AreSupported w.clauses w.trail → IsConflict w.clauses (literals w.trail) c → IsAssuming w assumed kept clash false → Follows w.clauses (opposites assumed)
conflict_follows w assumed kept clash c none are conflict is = conflict_refutes w.clauses w.trail assumed c are ((levels_at assumed kept w.trail clash None (none_of clash none) is.levels).whole) conflict

pub quiet_follows_not : (w : Watched) (assumed : List ℤ) (kept : List ℕ) (clash : Option ℕ) → is_some clash ≡ false → AreSupported w.clauses w.trail → IsQuiet w.clauses (literals w.trail) → IsAssuming w assumed kept clash false → Follows w.clauses (opposites assumed) → ⊥
quiet_follows_not w assumed kept clash none are quiet is = quiet_refutes_not w.clauses w.trail assumed are ((levels_at assumed kept w.trail clash None (none_of clash none) is.levels).whole) quiet

pub settled_derives : (w : Watched) (assumed : List ℤ) (kept : List ℕ) (clash : Option ℕ) (settled : Bool) → settled ≡ true → AreSupported w.clauses w.trail → IsAssuming w assumed kept clash settled → (k : ℤ) → Contains (literals w.trail) k ↔ Derived w.clauses (opposites assumed) k
settled_derives w assumed kept clash settled on are is =
    let q = is.quiet on in
    quiet_derives w.clauses w.trail assumed are ((levels_at assumed kept w.trail clash None q.0 is.levels).whole) q.1
