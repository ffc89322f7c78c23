-- Both statements write the same lines.
use Rattle.std.proofs.Common.{◌≡◌, ℕ, ◌≤◌, ◌^◌, ℤ, unsigned_abs, Bool, true, false, List, [], ◌∷◌, ◌++◌, All, append_assoc, refl, sym, ap, ◌∙◌}
use Rattle.std.specs.Prelude.{codes}
use Rattle.std.specs.Fmt.{decimal, signed_decimal}
use Rattle.std.specs.List.{flat_map}
use Rattle.std.proofs.lemmas.List.{append-nil}
use Rattle.std.proofs.lemmas.List.Elements.{All-head, All-tail}
use Rattle.kat_block.specs.Blocks.{IsDueIn}
use Rattle.kat_candidate.specs.declared.places.Place1.{Place1}
use Rattle.kat_candidate.specs.declared.places.Place1.TheVariants.{Start, Step, Query}
use Rattle.kat_design.specs.Designs.{DesignForm}
use Rattle.kat_design_json.specs.PrintedDesigns.{design_text}
use Rattle.kat_drop.specs.Certificates as drop
use Rattle.kat_drop.specs.Certificates.{DropForm}
use Rattle.kat_hist.specs.Scripts.{number_text}
use Rattle.kat_histories.specs.declared.histories.History.{History}
use Rattle.kat_points.specs.Points.{IsNarrowPoint}
use Rattle.kat_relation.specs.declared.relations.Conjunct.{Conjunct}
use Rattle.kat_said.proofs.DigitTexts.{whole_decimal}
use Rattle.kat_said.specs.Sayings as said
use Rattle.kat_said.specs.Sayings.{behind_blank, said_line, said_text}
use Rattle.kat_telling.specs.Evidence.{Ending}
use Rattle.kat_telling.specs.Evidence.Ending.{fails as fails_at, is_spent, is_crowded, is_wide, is_long as is_too_long}
use Rattle.kat_telling.specs.Reports as search
use Rattle.kat_type.specs.Types.{TypeForm}
use Rattle.kat_type.specs.declared.done.Done.{Done}
use Rattle.kat_type.specs.declared.signatures.Signature.{Signature}
use Rattle.kat_due.specs.Texts as audit
use Rattle.kat_search_laws.specs.Evidences.{said_drop, said_end, said_place, said_point}

dones_same : (sig : Signature) (dones : List Done) → audit.dones_text sig dones ≡ search.dones_text sig dones
dones_same sig [] = refl
dones_same sig (done ∷ more) = refl

pub history_same : (sig : Signature) (number : ℕ) (h : History) → audit.history_line sig number h ≡ search.history_line sig number h
history_same sig number h = ap (λ t. number_text (codes "history ") number (codes ":") ++ t ++ codes "\n") (dones_same sig h.ops)

pub differs_same : (number history : ℕ) (d : DesignForm) → audit.differs_line number history d ≡ search.differs_line number history d
differs_same number history d = sym (append_assoc (number_text (codes "design ") number (codes " differs ") ++ number_text [] history (codes " ")) (design_text d) (codes "\n"))

-- the first line of a block
pub begin_same : (number : ℕ) (d : DesignForm) → audit.begin_line number d ≡ number_text (codes "design ") number (codes " undecided ") ++ design_text d ++ codes "\n"
begin_same number d = sym (append_assoc (number_text (codes "design ") number (codes " undecided ")) (design_text d) (codes "\n"))

-- parts of a line
place_same : (at : Place1) → said.place_text (said_place at) ≡ search.place_text at
place_same (Start j) = sym (append-nil (codes "start " ++ decimal j))
place_same (Step o j) = ap (λ t. codes "step " ++ t) (ap (λ t. decimal o ++ 32 ∷ t) (sym (append-nil (decimal j))) ∙ sym (append_assoc (decimal o) (32 ∷ []) (decimal j ++ [])))
place_same (Query q) = sym (append-nil (codes "query " ++ decimal q))

bit_same : (b : Bool) → said.bit_text b ≡ search.bit_text b
bit_same true = refl
bit_same false = refl

bits_same : (bs : List Bool) → flat_map said.bit_text bs ≡ flat_map search.bit_text bs
bits_same [] = refl
bits_same (b ∷ bs) = ap (λ t. t ++ flat_map said.bit_text bs) (bit_same b) ∙ ap (λ t. search.bit_text b ++ t) (bits_same bs)

-- numbers that don't pass 2^126 have no more digits than std writes
numerals_same : (zs : List ℤ) → All (λ n. unsigned_abs n ≤ 2 ^ 126) zs → flat_map said.numeral_text zs ≡ flat_map behind_blank zs
numerals_same [] all = refl
numerals_same (z ∷ zs) all =
    ap (λ t. (32 ∷ t) ++ flat_map said.numeral_text zs) (whole_decimal z (All-head (λ n. unsigned_abs n ≤ 2 ^ 126) z zs all))
    ∙ ap (λ t. behind_blank z ++ t) (numerals_same zs (All-tail (λ n. unsigned_abs n ≤ 2 ^ 126) z zs all))

point_same : (p : drop.PointForm) → IsNarrowPoint (said_point p) → said.point_text (said_point p) ≡ search.point_text p
point_same p narrow =
    let den : List ℕ = signed_decimal p.den in
    let nums : List ℕ = flat_map behind_blank p.nums in
    let bits : List ℕ = flat_map search.bit_text p.truths in
    let told : List ℕ = flat_map said.bit_text p.truths in
    ap (λ t. t ++ 59 ∷ (flat_map said.numeral_text p.nums ++ 59 ∷ told)) (whole_decimal p.den narrow.den) ∙ ap (λ t. den ++ 59 ∷ (t ++ 59 ∷ told)) (numerals_same p.nums narrow.nums)
    ∙ ap (λ t. den ++ 59 ∷ (nums ++ 59 ∷ t)) (bits_same p.truths)
    ∙ sym (append_assoc ((den ++ 59 ∷ []) ++ nums) (59 ∷ []) bits ∙ append_assoc (den ++ 59 ∷ []) nums (59 ∷ bits) ∙ append_assoc den (59 ∷ []) (nums ++ 59 ∷ bits))

-- a place, or a number, and a point
at_same : (before before' point point' : List ℕ) → before ≡ before' → point ≡ point' → (before ++ (codes " at " ++ point)) ++ 10 ∷ [] ≡ ((before' ++ codes " at ") ++ point') ++ 10 ∷ []
at_same before before' point point' b p =
    ap (λ t. t ++ 10 ∷ []) (sym (append_assoc before (codes " at ") point) ∙ ap (λ t. (t ++ codes " at ") ++ point) b ∙ ap (λ t. (before' ++ codes " at ") ++ t) p)

pub drop_same : (x : DropForm) → IsNarrowPoint (said_point x.point) → said_line (said_drop x) ≡ search.drop_line x
drop_same x narrow =
    ap (λ t. codes "drop " ++ t)
    (at_same (said.place_text (said_place x.at)) (search.place_text x.at) (said.point_text (said_point x.point)) (search.point_text x.point) (place_same x.at) (point_same x.point narrow))

-- numbers after a place
crowd_same : (a b c : ℕ) (lits : List ℤ) → (32 ∷ (decimal a ++ 32 ∷ (decimal b ++ 32 ∷ (decimal c ++ flat_map behind_blank lits)))) ++ 10 ∷ [] ≡ search.crowd_text a b c lits
crowd_same a b c lits =
    let x : List ℕ = decimal a ++ 32 ∷ [] in
    let y : List ℕ = decimal b ++ 32 ∷ [] in
    let z : List ℕ = decimal c in
    let w : List ℕ = flat_map behind_blank lits in
    ap (λ t. 32 ∷ (t ++ 10 ∷ []))
    (sym (ap (λ t. ((x ++ y) ++ t) ++ w) (append-nil z) ∙ append_assoc (x ++ y) z w ∙ append_assoc x y (z ++ w) ∙ append_assoc (decimal a) (32 ∷ []) (y ++ (z ++ w))
    ∙ ap (λ t. decimal a ++ 32 ∷ t) (append_assoc (decimal b) (32 ∷ []) (z ++ w))))

width_same : (a b : ℤ) (lits : List ℤ) → (32 ∷ (signed_decimal a ++ 32 ∷ (signed_decimal b ++ flat_map behind_blank lits))) ++ 10 ∷ [] ≡ search.width_text a b lits
width_same a b lits = ap (λ t. 32 ∷ (t ++ 10 ∷ [])) (sym (append_assoc (signed_decimal a) (32 ∷ signed_decimal b) (flat_map behind_blank lits)))

behind_place : (at : Place1) (tail other : List ℕ) → tail ++ 10 ∷ [] ≡ other → (said.place_text (said_place at) ++ tail) ++ 10 ∷ [] ≡ search.place_text at ++ other
behind_place at tail other e = append_assoc (said.place_text (said_place at)) tail (10 ∷ []) ∙ ap (λ t. said.place_text (said_place at) ++ t) e ∙ ap (λ t. t ++ other) (place_same at)

-- no number of the point of an ending passes 2^126
abbrev pub HasNarrowPoint : Ending → Type 0
HasNarrowPoint (fails_at query point) = IsNarrowPoint (said_point point)
HasNarrowPoint (is_spent at) = Unit {0}
HasNarrowPoint (is_crowded at a b c lits) = Unit {0}
HasNarrowPoint (is_wide at a b lits) = Unit {0}
HasNarrowPoint (is_too_long bytes) = Unit {0}

pub due_drop_narrow : (ty : TypeForm) (d : DesignForm) (candidates : List Conjunct) (effort : ℕ) (dropped : List ℕ) (x : DropForm) → IsDueIn ty d candidates effort dropped (said_drop x) → IsNarrowPoint (said_point x.point)
due_drop_narrow ty d candidates effort dropped x due = due.1.decisive.narrow

pub due_end_narrow : (ty : TypeForm) (d : DesignForm) (candidates : List Conjunct) (effort : ℕ) (dropped : List ℕ) (e : Ending) → IsDueIn ty d candidates effort dropped (said_end e) → HasNarrowPoint e
due_end_narrow ty d candidates effort dropped (fails_at query point) due = due.decisive.narrow
due_end_narrow ty d candidates effort dropped (is_spent at) due = tt
due_end_narrow ty d candidates effort dropped (is_crowded at a b c lits) due = tt
due_end_narrow ty d candidates effort dropped (is_wide at a b lits) due = tt
due_end_narrow ty d candidates effort dropped (is_too_long bytes) due = tt

pub ending_same : (e : Ending) → HasNarrowPoint e → said_line (said_end e) ≡ search.ending_line e
ending_same (fails_at query point) narrow =
    ap (λ t. codes "fail query " ++ t) (at_same (decimal query) (decimal query) (said.point_text (said_point point)) (search.point_text point) refl (point_same point narrow))
ending_same (is_spent at) narrow = ap (λ t. codes "spent " ++ (t ++ 10 ∷ [])) (place_same at)
ending_same (is_crowded at a b c lits) narrow =
    ap (λ t. codes "rows " ++ t)
    (behind_place at (32 ∷ (decimal a ++ 32 ∷ (decimal b ++ 32 ∷ (decimal c ++ flat_map behind_blank lits)))) (search.crowd_text a b c lits) (crowd_same a b c lits))
ending_same (is_wide at a b lits) narrow =
    ap (λ t. codes "wide " ++ t)
    (behind_place at (32 ∷ (signed_decimal a ++ 32 ∷ (signed_decimal b ++ flat_map behind_blank lits))) (search.width_text a b lits) (width_same a b lits))
ending_same (is_too_long bytes) narrow = refl
