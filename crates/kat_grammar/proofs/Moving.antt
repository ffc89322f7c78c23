-- Each line of a type is read whole.
use Rattle.std.proofs.Common.{◌≡◌, ℕ, suc, ◌+◌, ◌<◌, ◌≤◌, Bool, true, false, List, [], ◌∷◌, ◌++◌, length, map, refl, sym, ◌∙◌, ap, subst, arith, length-append, append_assoc, append-nil, Option, None, Some}
use Rattle.std.specs.Prelude.{All, ◌==◌, nat_le, nat_lt, ◌≢◌, if◌then◌else◌}
use Rattle.std.specs.List.{flat_map}
use Rattle.std.proofs.lemmas.List.{map-append}
use Rattle.kat_num.specs.declared.values.Sort.{Sort}
use Rattle.kat_num.specs.declared.values.Sort.TheVariants as sort
use Rattle.kat_grammar.specs.Marks.{is_newline}
use Rattle.kat_grammar.specs.Forms.{ActForm, AssignmentForm, OperationForm, QueryForm, TypeForm}
use Rattle.kat_grammar.specs.Lines.{IsType, AreElements, lines_of, AreAssignments, IsAct, IsElement, IsKept, IsLed, IsOperation, IsQuery, act_tokens, assignment_tokens, assignments_tokens, element_tokens, format_tokens, head_tokens, kept_tokens, led, operation_tokens, parameter_tokens, query_tokens, rank_tokens, state_tokens, target_tokens}
use Rattle.kat_grammar.specs.Forms.ActForm.{set, clear}
use Rattle.kat_grammar.specs.Phrases.{Form, constant_tokens, token, word_token}
use Rattle.kat_grammar.specs.Sizes.{Load, act_loads, assignments_loads, loads_of, operation_loads, other, plain, query_loads}
use Rattle.kat_grammar.specs.Stacks.{Part, Reading, around, read_on}
use Rattle.kat_grammar.specs.Stacks.Reading.{want, minus_read, extreme_read, table_read, key_read, have}
use Rattle.kat_grammar.specs.Steps.{Draft, Spot, add_assignment, add_element, begin_line, between, end_line, first_spot, end_right, end_answer, form_read, in_phrase, load_of, operation_of, rank_part, read_operation, read_right, read_word, signature_of, spot, start_of, whole_form, with_operation, with_query, with_state, behind_head}
use Rattle.kat_grammar.specs.declared.marks.Operator.TheVariants as operator
use Rattle.kat_grammar.specs.declared.marks.Mark.{Mark}
use Rattle.kat_grammar.specs.declared.marks.Mark.TheVariants as mark
use Rattle.kat_grammar.specs.declared.marks.Placed.{Placed}
use Rattle.kat_grammar.specs.declared.phrases.Constant.{Constant}
use Rattle.kat_grammar.specs.declared.phrases.Constant.TheVariants.{Natural, Negative, Literal, Truth}
use Rattle.kat_grammar.specs.declared.phrases.Format.{Format}
use Rattle.kat_grammar.specs.declared.phrases.Format.TheVariants as format
use Rattle.kat_grammar.specs.declared.phrases.Kept.{Kept}
use Rattle.kat_grammar.specs.declared.phrases.Kept.TheVariants.{One, Each}
use Rattle.kat_grammar.specs.declared.phrases.Parameter.{Parameter}
use Rattle.kat_grammar.specs.declared.phrases.RankElement.{RankElement}
use Rattle.kat_grammar.specs.declared.phrases.RankElement.TheVariants as rank
use Rattle.kat_grammar.specs.declared.phrases.RankPart.{RankPart}
use Rattle.kat_grammar.specs.declared.phrases.State.{State}
use Rattle.kat_grammar.specs.declared.phrases.Target.{Target}
use Rattle.kat_grammar.specs.declared.phrases.Target.TheVariants as target
use Rattle.kat_grammar.specs.declared.phrases.Word.{Word}
use Rattle.kat_grammar.specs.declared.stages.HeadStage.TheVariants as head
use Rattle.kat_grammar.specs.declared.stages.Item.{Item}
use Rattle.kat_grammar.specs.declared.stages.Item.TheVariants as item
use Rattle.kat_grammar.specs.declared.stages.OperationStage.TheVariants as op
use Rattle.kat_grammar.specs.declared.stages.QueryStage.TheVariants as query
use Rattle.kat_grammar.specs.declared.stages.Signature.{Signature}
use Rattle.kat_grammar.specs.declared.stages.Stage.TheVariants as stage
use Rattle.kat_grammar.specs.declared.stages.StateStage.TheVariants as state
use Rattle.kat_grammar.proofs.Leading.Runs.{rests, takes}
use Rattle.kat_grammar.proofs.Leading.{Runs, choose_false, Stands, leads, le_true, stands_around, stands_ended}

-- tokens of a line lead from one spot to another, and add so much
pub data Moves : Spot → List Placed → List Load → Spot → Type 0 where
  stays : {p : Spot} → Moves p [] [] p
  reads : {p q u : Spot} {ts : List Placed} {ls : List Load} (t : Placed) → is_newline t.mark ≡ false → read_word p.stage p.draft t.mark t.at ≡ Some q
      → Moves q ts ls u → Moves p (t ∷ ts) (load_of q.stage q.draft ∷ ls) u

pub moves_on : {p q u : Spot} {ts us : List Placed} {ls ms : List Load} → Moves p ts ls q → Moves q us ms u → Moves p (ts ++ us) (ls ++ ms) u
moves_on stays b = b
moves_on (reads t n e a) b = reads t n e (moves_on a b)

plain_on : {p q u : Spot} {ts us : List Placed} → Moves p ts (plain ts) q → Moves q us (plain us) u → Moves p (ts ++ us) (plain (ts ++ us)) u
plain_on {p = p} {u = u} {ts = ts} {us = us} a b = subst (λ ls. Moves p (ts ++ us) ls u) (sym (map-append (λ (t : Placed). other 0) ts us)) (moves_on a b)

abbrev pub draft : TypeForm → List Parameter → List RankPart → List AssignmentForm → Reading → Draft
draft file params parts assigns r = record { file = file; params = params; rank = parts; assignments = assigns; reading = r }

-- a field
kept_moves : (at : ℕ) (d : Draft) (name : Word) (colon : ℕ) (kept : Kept) → IsKept kept
    → Moves (spot (stage.State at (state.Colon name colon)) d) (kept_tokens kept) (plain (kept_tokens kept)) (spot (stage.State at (state.Kept name colon kept)) d)
kept_moves at d name colon (One sort_at s) h = reads (token (mark.Sort s) sort_at) refl refl stays
kept_moves at d name colon (Each table key_at sort.Bool arrow sort_at s) h = absurd (h refl)
kept_moves at d name colon (Each table key_at sort.Int arrow sort_at s) h =
    reads (token mark.Table table) refl refl (reads (token (mark.Sort sort.Int) key_at) refl refl (reads (token mark.Arrow arrow) refl refl (reads (token (mark.Sort s) sort_at) refl refl stays)))
kept_moves at d name colon (Each table key_at sort.Nat arrow sort_at s) h =
    reads (token mark.Table table) refl refl (reads (token (mark.Sort sort.Nat) key_at) refl refl (reads (token mark.Arrow arrow) refl refl (reads (token (mark.Sort s) sort_at) refl refl stays)))
kept_moves at d name colon (Each table key_at sort.Name arrow sort_at s) h =
    reads (token mark.Table table) refl refl (reads (token (mark.Sort sort.Name) key_at) refl refl (reads (token mark.Arrow arrow) refl refl (reads (token (mark.Sort s) sort_at) refl refl stays)))

start_moves : (at : ℕ) (d : Draft) (name : Word) (colon : ℕ) (kept : Kept) (equal : ℕ) (c : Constant)
    → Moves (spot (stage.State at (state.Kept name colon kept)) d) (token (mark.Operator operator.Same) equal ∷ constant_tokens c)
    (plain (token (mark.Operator operator.Same) equal ∷ constant_tokens c)) (spot (stage.State at (state.Whole (start_of name colon kept equal at c))) d)
start_moves at d name colon kept equal (Natural c_at n) = reads (token (mark.Operator operator.Same) equal) refl refl (reads (token (mark.Number n) c_at) refl refl stays)
start_moves at d name colon kept equal (Negative c_at n_at n) =
    reads (token (mark.Operator operator.Same) equal) refl refl
    (reads (token (mark.Operator operator.Minus) c_at) refl refl (reads (token (mark.Number n) n_at) refl refl stays))
start_moves at d name colon kept equal (Literal c_at n) = reads (token (mark.Operator operator.Same) equal) refl refl (reads (token (mark.Literal n) c_at) refl refl stays)
start_moves at d name colon kept equal (Truth c_at b) = reads (token (mark.Operator operator.Same) equal) refl refl (reads (token (mark.Truth b) c_at) refl refl stays)

-- after the line, its end
pub record LineRead (p : Spot) (line : List Placed) (ls : List Load) (q : Spot) : Type 0 where
  pub last : Spot
  pub moves : Moves p line ls last
  pub ends : end_line last.stage last.draft ≡ Some q

pub state_line : (file : TypeForm) (s : State) → file.operations ≡ [] → IsKept s.kept
    → LineRead (between file) (state_tokens s) (plain (state_tokens s)) (between (with_state file s))
state_line file s none h =
    let d = draft file [] [] [] (want []) in
    record {
      last = spot (stage.State s.at (state.Whole s)) d;
      moves = plain_on
          (reads (token mark.StateLine s.at) refl (begins file s.at none)
          (reads (word_token s.name) refl refl (reads (token mark.Colon s.colon) refl refl (kept_moves s.at d s.name s.colon s.kept h))))
          (start_moves s.at d s.name s.colon s.kept s.equal s.start);
      ends = refl;
    }
  where
    begins : (file : TypeForm) (at : ℕ) → file.operations ≡ [] → begin_line (draft file [] [] [] (want [])) mark.StateLine at ≡ Some (spot (stage.State at state.Begun) (draft file [] [] [] (want [])))
    begins file at none = subst (λ (os : List OperationForm). (if length os == 0 then Some (spot (stage.State at state.Begun) (draft file [] [] [] (want []))) else None) ≡ Some (spot (stage.State at state.Begun) (draft file [] [] [] (want [])))) (sym none) refl

-- a name and its parameters
behind_one : (it : Item) (line_at : ℕ) (name : Word) (open_at : ℕ) (file : TypeForm) (done : List Parameter) (lead : ℕ) (p : Parameter) → p.lead ≡ lead
    → Moves (spot (stage.Head it line_at (head.Lead name open_at lead)) (draft file done [] [] (want []))) (parameter_tokens p) (plain (parameter_tokens p))
    (spot (stage.Head it line_at (head.Listed name open_at)) (draft file (done ++ p ∷ []) [] [] (want [])))
behind_one it line_at name open_at file done lead p same =
    subst (λ lead. Moves (spot (stage.Head it line_at (head.Lead name open_at lead)) (draft file done [] [] (want []))) (parameter_tokens p) (plain (parameter_tokens p))
    (spot (stage.Head it line_at (head.Listed name open_at)) (draft file (done ++ p ∷ []) [] [] (want [])))) same
    (reads (word_token p.name) refl refl (reads (token mark.Colon p.colon) refl refl (reads (token (mark.Sort p.sort) p.sort_at) refl refl stays)))

first_one : (it : Item) (line_at : ℕ) (name : Word) (open_at : ℕ) (file : TypeForm) (p : Parameter) → p.lead ≡ open_at
    → Moves (spot (stage.Head it line_at (head.Opened name open_at)) (draft file [] [] [] (want []))) (parameter_tokens p) (plain (parameter_tokens p))
    (spot (stage.Head it line_at (head.Listed name open_at)) (draft file (p ∷ []) [] [] (want [])))
first_one it line_at name open_at file p same =
    subst (λ lead. Moves (spot (stage.Head it line_at (head.Opened name lead)) (draft file [] [] [] (want []))) (parameter_tokens p) (plain (parameter_tokens p))
    (spot (stage.Head it line_at (head.Listed name lead)) (draft file (p ∷ []) [] [] (want [])))) same
    (reads (word_token p.name) refl refl (reads (token mark.Colon p.colon) refl refl (reads (token (mark.Sort p.sort) p.sort_at) refl refl stays)))

later_ones : (it : Item) (line_at : ℕ) (name : Word) (open_at : ℕ) (file : TypeForm) (ps done all : List Parameter) → done ++ ps ≡ all
    → Moves (spot (stage.Head it line_at (head.Listed name open_at)) (draft file done [] [] (want [])))
    (led mark.Comma mark.Comma (λ (p : Parameter). p.lead) parameter_tokens ps) (plain (led mark.Comma mark.Comma (λ (p : Parameter). p.lead) parameter_tokens ps))
    (spot (stage.Head it line_at (head.Listed name open_at)) (draft file all [] [] (want [])))
later_ones it line_at name open_at file [] done all e =
    subst (λ all. Moves (spot (stage.Head it line_at (head.Listed name open_at)) (draft file done [] [] (want []))) [] []
    (spot (stage.Head it line_at (head.Listed name open_at)) (draft file all [] [] (want [])))) (sym (append-nil done) ∙ e) stays
later_ones it line_at name open_at file (p ∷ ps) done all e =
    reads (token mark.Comma p.lead) refl refl
    (plain_on (behind_one it line_at name open_at file done p.lead p refl)
    (later_ones it line_at name open_at file ps (done ++ p ∷ []) all (append_assoc done (p ∷ []) ps ∙ e)))

close_moves : (it : Item) (line_at : ℕ) (name : Word) (open_at close_at : ℕ) (d : Draft)
    → Moves (spot (stage.Head it line_at (head.Listed name open_at)) d) (token mark.Close close_at ∷ []) (other 0 ∷ []) (spot (behind_head it line_at name open_at close_at) d)
close_moves item.Operation line_at name open_at close_at d = reads (token mark.Close close_at) refl refl stays
close_moves item.Query line_at name open_at close_at d = reads (token mark.Close close_at) refl refl stays

close_none : (it : Item) (line_at : ℕ) (name : Word) (open_at close_at : ℕ) (d : Draft)
    → Moves (spot (stage.Head it line_at (head.Opened name open_at)) d) (token mark.Close close_at ∷ []) (other 0 ∷ []) (spot (behind_head it line_at name open_at close_at) d)
close_none item.Operation line_at name open_at close_at d = reads (token mark.Close close_at) refl refl stays
close_none item.Query line_at name open_at close_at d = reads (token mark.Close close_at) refl refl stays

head_moves : (it : Item) (m : Mark) (line_at : ℕ) (name : Word) (open_at : ℕ) (params : List Parameter) (close_at : ℕ) (file : TypeForm) → is_newline m ≡ false
    → begin_line (draft file [] [] [] (want [])) m line_at ≡ Some (spot (stage.Head it line_at head.Begun) (draft file [] [] [] (want []))) → IsLed open_at params
    → Moves (between file) (head_tokens m line_at name open_at params close_at) (plain (head_tokens m line_at name open_at params close_at))
    (spot (behind_head it line_at name open_at close_at) (draft file params [] [] (want [])))
head_moves it m line_at name open_at [] close_at file n begins h =
    reads (token m line_at) n begins (reads (word_token name) refl refl (reads (token mark.Open open_at) refl refl (close_none it line_at name open_at close_at (draft file [] [] [] (want [])))))
head_moves it m line_at name open_at (p ∷ ps) close_at file n begins h =
    plain_on
    (reads (token m line_at) n begins (reads (word_token name) refl refl (reads (token mark.Open p.lead) refl refl
    (plain_on (along_lead it line_at name open_at file p h) (later_ones it line_at name open_at file ps (p ∷ []) (p ∷ ps) refl)))))
    (close_moves it line_at name open_at close_at (draft file (p ∷ ps) [] [] (want [])))
  where
    along_lead : (it : Item) (line_at : ℕ) (name : Word) (open_at : ℕ) (file : TypeForm) (p : Parameter) → p.lead ≡ open_at
        → Moves (spot (stage.Head it line_at (head.Opened name p.lead)) (draft file [] [] [] (want []))) (parameter_tokens p) (plain (parameter_tokens p))
        (spot (stage.Head it line_at (head.Listed name open_at)) (draft file (p ∷ []) [] [] (want [])))
    along_lead it line_at name open_at file p same =
        subst (λ lead. Moves (spot (stage.Head it line_at (head.Opened name p.lead)) (draft file [] [] [] (want []))) (parameter_tokens p) (plain (parameter_tokens p))
        (spot (stage.Head it line_at (head.Listed name lead)) (draft file (p ∷ []) [] [] (want [])))) same
        (first_one it line_at name p.lead file p refl)

all_of : {X : Type 0} (P : X → Type 0) (x : X) (xs : List X) → All P (x ∷ xs) → P x × All P xs
all_of P x xs h = (h 0 x (omega arith), λ k d l. h (suc k) d (omega (arith, l)))

-- a rank
element_moves : (sig : Signature) (lead : ℕ) (file : TypeForm) (params : List Parameter) (done : List RankPart) (part : RankPart) → IsElement part.element → part.lead ≡ lead
    → Moves (spot (stage.Operation sig (op.RankLead lead)) (draft file params done [] (want []))) (element_tokens part.element) (plain (element_tokens part.element))
    (spot (stage.Operation sig op.Ranked) (draft file params (done ++ part ∷ []) [] (want [])))
element_moves sig lead file params done part h same =
    subst (λ lead. Moves (spot (stage.Operation sig (op.RankLead lead)) (draft file params done [] (want []))) (element_tokens part.element) (plain (element_tokens part.element))
    (spot (stage.Operation sig op.Ranked) (draft file params (done ++ part ∷ []) [] (want [])))) same (by_element sig part.lead file params done part.element h)
  where
    digit_goes : (b : Bool) (x : Option RankElement) → b ≡ true → (if b then x else None) ≡ x
    digit_goes true x e = refl
    digit_goes false x e = absurd cc

    by_element : (sig : Signature) (lead : ℕ) (file : TypeForm) (params : List Parameter) (done : List RankPart) (element : RankElement) → IsElement element
        → Moves (spot (stage.Operation sig (op.RankLead lead)) (draft file params done [] (want []))) (element_tokens element) (plain (element_tokens element))
        (spot (stage.Operation sig op.Ranked) (draft file params (done ++ rank_part lead element ∷ []) [] (want [])))
    by_element sig lead file params done (rank.Digit at n) h =
        reads (token (mark.Number n) at) refl
        (ap (add_element sig lead (draft file params done [] (want []))) (digit_goes (nat_le n 9) (Some (rank.Digit at n)) (le_true n 9 h))) stays
    by_element sig lead file params done (rank.Time at) h = reads (token mark.Time at) refl refl stays
    by_element sig lead file params done (rank.Replica at) h = reads (token mark.Replica at) refl refl stays
    by_element sig lead file params done (rank.Parameter w) h = reads (word_token w) refl refl stays

lt_true : (a b : ℕ) → a < b → nat_lt a b ≡ true
lt_true a b h = grind (arith, h)

comma_goes : (sig : Signature) (d : Draft) (at : ℕ) → length d.rank < 3 → read_operation sig op.Ranked d mark.Comma at ≡ Some (spot (stage.Operation sig (op.RankLead at)) d)
comma_goes sig d at h = by_test (nat_lt (length d.rank) 3) (Some (spot (stage.Operation sig (op.RankLead at)) d)) (lt_true (length d.rank) 3 h)
  where
    by_test : (b : Bool) (x : Option Spot) → b ≡ true → (if b then x else None) ≡ x
    by_test true x e = refl
    by_test false x e = absurd cc

later_elements : (sig : Signature) (file : TypeForm) (params : List Parameter) (parts done all : List RankPart) → All (λ (part : RankPart). IsElement part.element) parts
    → length all ≤ 3 → done ++ parts ≡ all
    → Moves (spot (stage.Operation sig op.Ranked) (draft file params done [] (want [])))
    (led mark.Comma mark.Comma (λ (part : RankPart). part.lead) (λ (part : RankPart). element_tokens part.element) parts)
    (plain (led mark.Comma mark.Comma (λ (part : RankPart). part.lead) (λ (part : RankPart). element_tokens part.element) parts))
    (spot (stage.Operation sig op.Ranked) (draft file params all [] (want [])))
later_elements sig file params [] done all h few e =
    subst (λ all. Moves (spot (stage.Operation sig op.Ranked) (draft file params done [] (want []))) [] [] (spot (stage.Operation sig op.Ranked) (draft file params all [] (want []))))
    (sym (append-nil done) ∙ e) stays
later_elements sig file params (part ∷ parts) done all h few e =
    let both = all_of (λ (part : RankPart). IsElement part.element) part parts h in
    let count : length done + suc (length parts) ≡ length all = sym (length-append done (part ∷ parts)) ∙ ap length e in
    reads (token mark.Comma part.lead) refl
    (comma_goes sig (draft file params done [] (want [])) part.lead (omega (arith, count, few)))
    (plain_on (element_moves sig part.lead file params done part both.0 refl)
    (later_elements sig file params parts (done ++ part ∷ []) all both.1 few (append_assoc done (part ∷ []) parts ∙ e)))

rank_moves : (sig : Signature) (file : TypeForm) (params : List Parameter) (parts : List RankPart) → AreElements parts
    → Moves (spot (stage.Operation sig op.Closed) (draft file params [] [] (want []))) (rank_tokens parts) (plain (rank_tokens parts))
    (spot (stage.Operation sig op.Ranked) (draft file params parts [] (want [])))
rank_moves sig file params [] h = absurd (h.0 refl)
rank_moves sig file params (part ∷ parts) h =
    let both = all_of (λ (part : RankPart). IsElement part.element) part parts h.2 in
    reads (token mark.Rank part.lead) refl refl
    (plain_on (element_moves sig part.lead file params [] part both.0 refl) (later_elements sig file params parts (part ∷ []) (part ∷ parts) both.1 h.1 refl))

-- an expression in a line
no_semicolon : (r s : Reading) (at : ℕ) → read_on r mark.Semicolon at ≡ Some s → ⊥
no_semicolon (want t) s at e = absurd cc
no_semicolon (minus_read x t) s at e = absurd cc
no_semicolon (extreme_read x y t) s at e = absurd cc
no_semicolon (table_read x y t) s at e = absurd cc
no_semicolon (key_read x y z t) s at e = absurd cc
no_semicolon (have f t) s at e = absurd cc

no_newline : (r s : Reading) (m : Mark) (at : ℕ) → read_on r m at ≡ Some s → is_newline m ≡ false
no_newline (want t) s mark.Newline at e = absurd cc
no_newline (minus_read x t) s mark.Newline at e = absurd cc
no_newline (extreme_read x y t) s mark.Newline at e = absurd cc
no_newline (table_read x y t) s mark.Newline at e = absurd cc
no_newline (key_read x y z t) s mark.Newline at e = absurd cc
no_newline (have f t) s mark.Newline at e = absurd cc
no_newline r s m at e = refl

right_goes : (sig : Signature) (lead : ℕ) (t : Target) (assign : ℕ) (d : Draft) (m : Mark) (at : ℕ) (s : Reading) → read_on d.reading m at ≡ Some s
    → read_right sig lead t assign d m at ≡ Some (spot (stage.Operation sig (op.Right lead t assign)) (record d { reading = s }))
right_goes sig lead t assign d mark.Semicolon at s e = absurd (no_semicolon d.reading s at e)
right_goes sig lead t assign d m at s e = ap (in_phrase (stage.Operation sig (op.Right lead t assign)) d) e

pub right_moves : {r s : Reading} {ts : List Placed} {ls : List Load} (sig : Signature) (lead : ℕ) (t : Target) (assign : ℕ) (file : TypeForm) (params : List Parameter) (parts : List RankPart) (done : List AssignmentForm)
    → Runs r ts ls s
    → Moves (spot (stage.Operation sig (op.Right lead t assign)) (draft file params parts done r)) ts ls
    (spot (stage.Operation sig (op.Right lead t assign)) (draft file params parts done s))
right_moves sig lead t assign file params parts done rests = stays
right_moves {r = r} sig lead t assign file params parts done (takes {s = q} x e more) =
    reads x (no_newline r q x.mark x.at e) (right_goes sig lead t assign (draft file params parts done r) x.mark x.at q e) (right_moves sig lead t assign file params parts done more)

pub answer_moves : {r s : Reading} {ts : List Placed} {ls : List Load} (sig : Signature) (colon sort_at : ℕ) (so : Sort) (equal : ℕ) (file : TypeForm) (params : List Parameter) (parts : List RankPart) (done : List AssignmentForm)
    → Runs r ts ls s
    → Moves (spot (stage.Query sig (query.Right colon sort_at so equal)) (draft file params parts done r)) ts ls
    (spot (stage.Query sig (query.Right colon sort_at so equal)) (draft file params parts done s))
answer_moves sig colon sort_at so equal file params parts done rests = stays
answer_moves {r = r} sig colon sort_at so equal file params parts done (takes {s = q} x e more) =
    reads x (no_newline r q x.mark x.at e) (ap (in_phrase (stage.Query sig (query.Right colon sort_at so equal)) (draft file params parts done r)) e)
    (answer_moves sig colon sort_at so equal file params parts done more)

-- an expression that was read whole
form_whole : (f g : Form) (s : List Part) → Stands f s g [] → form_read (have f s) ≡ Some g
form_whole f g s x = ap (λ h. whole_form h (around s)) (stands_ended x) ∙ ap (whole_form g) (stands_around x)

-- a target and `:=`
target_moves : {u : Spot} {ts : List Placed} {ls : List Load} (sig : Signature) (lead : ℕ) (t : Target) (assign : ℕ) (file : TypeForm) (params : List Parameter) (parts : List RankPart) (done : List AssignmentForm)
    → Moves (spot (stage.Operation sig (op.Right lead t assign)) (draft file params parts done (want []))) ts ls u
    → Moves (spot (stage.Operation sig (op.AssignmentLead lead)) (draft file params parts done (want []))) (target_tokens t ++ token mark.Assign assign ∷ ts) (plain (target_tokens t) ++ other 0 ∷ ls) u
target_moves sig lead (target.Field w) assign file params parts done more = reads (word_token w) refl refl (reads (token mark.Assign assign) refl refl more)
target_moves sig lead (target.Entry table open_at key close_at) assign file params parts done more =
    reads (word_token table) refl refl (reads (token mark.OpenBracket open_at) refl refl (reads (word_token key) refl refl
    (reads (token mark.CloseBracket close_at) refl refl (reads (token mark.Assign assign) refl refl more))))

abbrev acting : ℕ → ActForm → AssignmentForm
acting lead act = record { lead = lead; act = act }

assignments_move : (sig : Signature) (file : TypeForm) (params : List Parameter) (parts : List RankPart) (lead : ℕ) (act : ActForm) (more done all : List AssignmentForm)
    → IsAct act → All (λ (a : AssignmentForm). IsAct a.act) more → done ++ acting lead act ∷ more ≡ all
    → LineRead (spot (stage.Operation sig (op.AssignmentLead lead)) (draft file params parts done (want [])))
    (act_tokens act ++ led mark.Semicolon mark.Semicolon (λ (a : AssignmentForm). a.lead) assignment_tokens more)
    (act_loads act ++ assignments_loads more)
    (between (with_operation file (operation_of sig (draft file params parts done (want [])) all)))
assignments_move sig file params parts lead (set t assign right) [] done all f h e =
    let l = leads right f [] (omega arith) in
    record {
      last = spot (stage.Operation sig (op.Right lead t assign)) (draft file params parts done (have l.form l.stack));
      moves = moves_on (target_moves sig lead t assign file params parts done (right_moves sig lead t assign file params parts done l.runs)) stays;
      ends = ap (end_right sig lead t assign (draft file params parts done (have l.form l.stack))) (form_whole l.form right l.stack l.stands)
          ∙ ap (λ all. Some (between (with_operation file (operation_of sig (draft file params parts done (want [])) all)))) e;
    }
assignments_move sig file params parts lead (clear at table) [] done all f h e =
    record {
      last = spot (stage.Operation sig (op.ClearWhole lead at table)) (draft file params parts done (want []));
      moves = reads (token mark.Clear at) refl refl (reads (word_token table) refl refl stays);
      ends = ap (λ all. Some (between (with_operation file (operation_of sig (draft file params parts done (want [])) all)))) e;
    }
assignments_move sig file params parts lead (set t assign right) (b ∷ bs) done all f h e =
    let both = all_of (λ (a : AssignmentForm). IsAct a.act) b bs h in
    let l = leads right f [] (omega arith) in
    let a = acting lead (set t assign right) in
    let rest = assignments_move sig file params parts b.lead b.act bs (done ++ a ∷ []) all both.0 both.1 (append_assoc done (a ∷ []) (b ∷ bs) ∙ e) in
    record {
      last = rest.last;
      moves = moves_on (target_moves sig lead t assign file params parts done (right_moves sig lead t assign file params parts done l.runs))
          (reads (token mark.Semicolon b.lead) refl
          (ap (add_assignment (stage.Operation sig (op.AssignmentLead b.lead)) lead t assign (draft file params parts done (have l.form l.stack))) (form_whole l.form right l.stack l.stands))
          rest.moves);
      ends = rest.ends;
    }
assignments_move sig file params parts lead (clear at table) (b ∷ bs) done all f h e =
    let both = all_of (λ (a : AssignmentForm). IsAct a.act) b bs h in
    let a = acting lead (clear at table) in
    let rest = assignments_move sig file params parts b.lead b.act bs (done ++ a ∷ []) all both.0 both.1 (append_assoc done (a ∷ []) (b ∷ bs) ∙ e) in
    record {
      last = rest.last;
      moves = reads (token mark.Clear at) refl refl (reads (word_token table) refl refl (reads (token mark.Semicolon b.lead) refl refl rest.moves));
      ends = rest.ends;
    }

pub empty_chosen : {A X : Type 0} (xs : List A) (x y : X) → xs ≡ [] → (if length xs == 0 then x else y) ≡ x
empty_chosen [] x y e = refl
empty_chosen (a ∷ xs) x y e = absurd cc

pub some_chosen : {A X : Type 0} (xs : List A) (x y : X) → xs ≢ [] → (if length xs == 0 then x else y) ≡ y
some_chosen [] x y e = absurd (e refl)
some_chosen (a ∷ xs) x y e = choose_false (length (a ∷ xs) == 0) x y (grind arith)

operation_whole : (file : TypeForm) (at : ℕ) (name : Word) (open_at : ℕ) (params : List Parameter) (close_at : ℕ) (parts : List RankPart) (assigns : List AssignmentForm)
    → file.queries ≡ [] → IsLed open_at params → AreElements parts → AreAssignments assigns
    → LineRead (between file) (head_tokens mark.OpLine at name open_at params close_at ++ rank_tokens parts ++ assignments_tokens assigns)
    (plain (head_tokens mark.OpLine at name open_at params close_at) ++ plain (rank_tokens parts) ++ assignments_loads assigns)
    (between (with_operation file (operation_of (signature_of at name open_at close_at) (draft file params parts [] (want [])) assigns)))
operation_whole file at name open_at params close_at parts [] none led_so elements h = absurd (h.0 refl)
operation_whole file at name open_at params close_at parts (a ∷ assigns) none led_so elements h =
    let sig = signature_of at name open_at close_at in
    let both = all_of (λ (a : AssignmentForm). IsAct a.act) a assigns h.1 in
    let rest = assignments_move sig file params parts a.lead a.act assigns [] (a ∷ assigns) both.0 both.1 refl in
    record {
      last = rest.last;
      moves = moves_on
          (moves_on
          (head_moves item.Operation mark.OpLine at name open_at params close_at file refl (empty_chosen file.queries _ _ none) led_so)
          (rank_moves sig file params parts elements))
          (reads (token mark.Colon a.lead) refl refl rest.moves);
      ends = rest.ends;
    }

pub operation_line : (file : TypeForm) (o : OperationForm) → file.queries ≡ [] → IsOperation o
    → LineRead (between file) (operation_tokens o) (operation_loads o) (between (with_operation file o))
operation_line file o none h = operation_whole file o.at o.name o.open_at o.params o.close_at o.rank o.assignments none h.0 h.1 h.2

pub query_line : (file : TypeForm) (q : QueryForm) → file.operations ≢ [] → IsQuery q
    → LineRead (between file) (query_tokens q) (query_loads q) (between (with_query file q))
query_line file q some h =
    let sig = signature_of q.at q.name q.open_at q.close_at in
    let l = leads q.right h.1 [] (omega arith) in
    record {
      last = spot (stage.Query sig (query.Right q.colon q.sort_at q.sort q.equal)) (draft file q.params [] [] (have l.form l.stack));
      moves = moves_on
          (head_moves item.Query mark.QueryLine q.at q.name q.open_at q.params q.close_at file refl (some_chosen file.operations _ _ some) h.0)
          (reads (token mark.Colon q.colon) refl refl
          (reads (token (mark.Sort q.sort) q.sort_at) refl refl
          (reads (token (mark.Operator operator.Same) q.equal) refl refl (answer_moves sig q.colon q.sort_at q.sort q.equal file q.params [] [] l.runs))));
      ends = ap (end_answer sig q.colon q.sort_at q.sort q.equal (draft file q.params [] [] (have l.form l.stack))) (form_whole l.form q.right l.stack l.stands);
    }

-- lines lead from one spot to another, and add so much
pub data Follows : Spot → List (List Placed) → List Load → Spot → Type 0 where
  none_left : {p : Spot} → Follows p [] [] p
  a_line : {p q u : Spot} {line : List Placed} {lines : List (List Placed)} {ls ms : List Load} → LineRead p line ls q → end_line q.stage q.draft ≡ Some q
      → Follows q lines ms u → Follows p (line ∷ lines) (ls ++ ms) u

follows_on : {p q u : Spot} {lines others : List (List Placed)} {ls ms : List Load} → Follows p lines ls q → Follows q others ms u → Follows p (lines ++ others) (ls ++ ms) u
follows_on none_left b = b
follows_on {p = p} {u = u} {others = others} {ms = ms} (a_line {line = line} {lines = lines} {ls = ls} {ms = rest} x at_end more) b =
    subst (λ l. Follows p (line ∷ (lines ++ others)) l u) (sym (append_assoc ls rest ms)) (a_line x at_end (follows_on more b))

abbrev file_of : ℕ → Word → Format → List State → List OperationForm → List QueryForm → TypeForm
file_of at name f states operations queries = record { at = at; name = name; format = f; states = states; operations = operations; queries = queries }

states_follow : (at : ℕ) (name : Word) (f : Format) (xs done all : List State) → All (λ (s : State). IsKept s.kept) xs → done ++ xs ≡ all
    → Follows (between (file_of at name f done [] [])) (map state_tokens xs) (flat_map (λ (s : State). plain (state_tokens s)) xs) (between (file_of at name f all [] []))
states_follow at name f [] done all h e =
    subst (λ all. Follows (between (file_of at name f done [] [])) [] [] (between (file_of at name f all [] []))) (sym (append-nil done) ∙ e) none_left
states_follow at name f (x ∷ xs) done all h e =
    let both = all_of (λ (s : State). IsKept s.kept) x xs h in
    a_line (state_line (file_of at name f done [] []) x refl both.0) refl (states_follow at name f xs (done ++ x ∷ []) all both.1 (append_assoc done (x ∷ []) xs ∙ e))

operations_follow : (at : ℕ) (name : Word) (f : Format) (states : List State) (xs done all : List OperationForm) → All IsOperation xs → done ++ xs ≡ all
    → Follows (between (file_of at name f states done [])) (map operation_tokens xs) (flat_map operation_loads xs) (between (file_of at name f states all []))
operations_follow at name f states [] done all h e =
    subst (λ all. Follows (between (file_of at name f states done [])) [] [] (between (file_of at name f states all []))) (sym (append-nil done) ∙ e) none_left
operations_follow at name f states (x ∷ xs) done all h e =
    let both = all_of IsOperation x xs h in
    a_line (operation_line (file_of at name f states done []) x refl both.0) refl
    (operations_follow at name f states xs (done ++ x ∷ []) all both.1 (append_assoc done (x ∷ []) xs ∙ e))

queries_follow : (at : ℕ) (name : Word) (f : Format) (states : List State) (operations : List OperationForm) (xs done all : List QueryForm) → operations ≢ [] → All IsQuery xs → done ++ xs ≡ all
    → Follows (between (file_of at name f states operations done)) (map query_tokens xs) (flat_map query_loads xs) (between (file_of at name f states operations all))
queries_follow at name f states operations [] done all some h e =
    subst (λ all. Follows (between (file_of at name f states operations done)) [] [] (between (file_of at name f states operations all))) (sym (append-nil done) ∙ e) none_left
queries_follow at name f states operations (x ∷ xs) done all some h e =
    let both = all_of IsQuery x xs h in
    a_line (query_line (file_of at name f states operations done) x some both.0) refl
    (queries_follow at name f states operations xs (done ++ x ∷ []) all some both.1 (append_assoc done (x ∷ []) xs ∙ e))

type_line : (at : ℕ) (name : Word) (f : Format)
    → LineRead first_spot (token mark.TypeLine at ∷ word_token name ∷ format_tokens f) (other 0 ∷ other 0 ∷ plain (format_tokens f)) (between (file_of at name f [] [] []))
type_line at name format.First =
    record {
      last = spot (stage.TypeWhole at name) first_spot.draft;
      moves = reads (token mark.TypeLine at) refl refl (reads (word_token name) refl refl stays);
      ends = refl;
    }
type_line at name (format.Second format_at) =
    record {
      last = spot (stage.TypeSecond at name format_at) first_spot.draft;
      moves = reads (token mark.TypeLine at) refl refl (reads (word_token name) refl refl (reads (token (mark.Number 2) format_at) refl refl stays));
      ends = refl;
    }

-- the lines of a type
pub type_follows : (t : TypeForm) → IsType t → Follows first_spot (lines_of t) (loads_of t) (between t)
type_follows t h =
    a_line (type_line t.at t.name t.format) refl
    (follows_on
    (follows_on (states_follow t.at t.name t.format t.states [] t.states h.states refl) (operations_follow t.at t.name t.format t.states t.operations [] t.operations h.operations refl))
    (queries_follow t.at t.name t.format t.states t.operations t.queries [] t.queries h.some_operation h.queries refl))
