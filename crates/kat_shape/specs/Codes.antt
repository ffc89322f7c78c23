-- How a proof tells values apart: each is stored as its leaves and nodes, each node after its parts.
use Rattle.std.specs.Prelude.{◌≡◌, ◌⊎◌, ℕ, ℤ, pos, Bool, true, false, List, [], ◌∷◌, ◌++◌, refl}
use Rattle.std.specs.Coded.{Coded, code_by, coded_ℕ, coded_bool, coded_ℤ, coded_list, coded⊎}
use Rattle.std.proofs.Common.{inl, inr, ap, sym, ◌∙◌, append_assoc, append-nil}
use Rattle.kat_shape.specs.Values.{Filled, a_number, a_name, a_truth, a_lex, a_pair}

-- a number, a name, a truth value, or a node: true for `lex`
abbrev pub Mark : Type 0
Mark = ℤ ⊎ (ℕ ⊎ (Bool ⊎ Bool))

abbrev pub marks_of : Filled → List Mark
marks_of (a_number z) = inl z ∷ []
marks_of (a_name n) = inr (inl n) ∷ []
marks_of (a_truth b) = inr (inr (inl b)) ∷ []
marks_of (a_lex a b) = marks_of a ++ (marks_of b ++ inr (inr (inr true)) ∷ [])
marks_of (a_pair a b) = marks_of a ++ (marks_of b ++ inr (inr (inr false)) ∷ [])

abbrev pub node : Bool → Filled → Filled → Filled
node true a b = a_lex a b
node false a b = a_pair a b

-- the values that wait, the newest first
abbrev pub taken : Mark → List Filled → List Filled
taken (inl z) waiting = a_number z ∷ waiting
taken (inr (inl n)) waiting = a_name n ∷ waiting
taken (inr (inr (inl b))) waiting = a_truth b ∷ waiting
taken (inr (inr (inr t))) (b ∷ a ∷ waiting) = node t a b ∷ waiting
taken (inr (inr (inr t))) waiting = waiting

abbrev pub all_taken : List Mark → List Filled → List Filled
all_taken [] waiting = waiting
all_taken (m ∷ ms) waiting = all_taken ms (taken m waiting)

abbrev pub newest : List Filled → Filled
newest [] = a_number (pos 0)
newest (a ∷ waiting) = a

abbrev pub from_marks : List Mark → Filled
from_marks ms = newest (all_taken ms [])

all_taken-marks_of : (a : Filled) (ms : List Mark) (waiting : List Filled) → all_taken (marks_of a ++ ms) waiting ≡ all_taken ms (a ∷ waiting)
all_taken-marks_of (a_number z) ms waiting = refl
all_taken-marks_of (a_name n) ms waiting = refl
all_taken-marks_of (a_truth b) ms waiting = refl
all_taken-marks_of (a_lex a b) ms waiting =
    let end : List Mark = inr (inr (inr true)) ∷ [] in
    ap (λ t. all_taken t waiting) (append_assoc (marks_of a) (marks_of b ++ end) ms)
    ∙ (all_taken-marks_of a ((marks_of b ++ end) ++ ms) waiting
    ∙ (ap (λ t. all_taken t (a ∷ waiting)) (append_assoc (marks_of b) end ms)
    ∙ all_taken-marks_of b (end ++ ms) (a ∷ waiting)))
all_taken-marks_of (a_pair a b) ms waiting =
    let end : List Mark = inr (inr (inr false)) ∷ [] in
    ap (λ t. all_taken t waiting) (append_assoc (marks_of a) (marks_of b ++ end) ms)
    ∙ (all_taken-marks_of a ((marks_of b ++ end) ++ ms) waiting
    ∙ (ap (λ t. all_taken t (a ∷ waiting)) (append_assoc (marks_of b) end ms)
    ∙ all_taken-marks_of b (end ++ ms) (a ∷ waiting)))

pub from_marks-marks_of : (a : Filled) → from_marks (marks_of a) ≡ a
from_marks-marks_of a =
    ap (λ t. newest (all_taken t [])) (sym (append-nil (marks_of a))) ∙ ap newest (all_taken-marks_of a [] [])

abbrev pub filled_code : Coded Filled
filled_code = code_by (List Mark) (coded_list (coded⊎ coded_ℤ (coded⊎ coded_ℕ (coded⊎ coded_bool coded_bool)))) marks_of from_marks from_marks-marks_of
