-- What lines print in two worlds with the same clocks and the same operations.
use Rattle.std.proofs.Common.{◌≡◌, ℕ, ◌-◌, List, [], ◌∷◌, ◌++◌, refl, sym, ◌∙◌, ap, append_assoc}
use Rattle.kat_design.specs.Denotations.{denotation_of}
use Rattle.kat_design.specs.Designs.{DesignForm}
use Rattle.kat_num.specs.declared.values.Value.{Value}
use Rattle.kat_replica.specs.Texts.{state_text}
use Rattle.kat_script.specs.Judged.{AreJudged}
use Rattle.kat_script.specs.World.{World, after, replica_at, world_after}
use Rattle.kat_script.specs.declared.script.Line.{Line}
use Rattle.kat_script.specs.declared.script.Line.TheVariants.{Do, Ship, Deliver, Ask, Show}
use Rattle.kat_seq.specs.States.{answer_of as sequential_answer, state_after}
use Rattle.kat_type.specs.Arrangements.{AreApart, IsCanonical, canonical}
use Rattle.kat_type.specs.Lists.{HaveSame, IsOnce}
use Rattle.kat_type.specs.Signatures.{signature_of}
use Rattle.kat_type.specs.Types.{TypeForm}
use Rattle.kat_type.specs.declared.done.Done.{Done}
use Rattle.kat_type.specs.declared.signatures.Signature.{Signature}
use Rattle.kat_type.proofs.Arranging.{one_canonical, order_canonical}
use Rattle.kat_world.specs.Alike.{PrintAlike}
use Rattle.kat_world.specs.Lines.{line_text, lines_text, show_text}
use Rattle.kat_world.specs.Model.{model_line, model_text}
use Rattle.kat_world.specs.Texts.{ask_text}
use Rattle.kat_world.proofs.Pairing.{Pair, pair_lines}

-- the same operations, in whatever order, print alike
abbrev pub OrderIsFree : DesignForm → Type 0
OrderIsFree d = (some others : List Done) → IsOnce some → IsOnce others → HaveSame some others → PrintAlike d some others

pub line_same : (d : DesignForm) (world other : World) (line : Line) → OrderIsFree d → Pair world other
    → line_text d world line ≡ line_text d other line
line_same d world other (Ask r query args) free pair =
    ap (λ (v : Value). ask_text d.sig r query args v)
    ((free (replica_at world r).absorbed (replica_at other r).absorbed (pair.here.replicas (r - 1)).once (pair.there.replicas (r - 1)).once (pair.alike.replicas (r - 1)).same).answers query args)
line_same d world other (Show r) free pair =
    ap (λ (clock : ℕ). show_text r clock (state_text (denotation_of d (replica_at world r).absorbed))) (pair.alike.replicas (r - 1)).clocks
    ∙ ap (λ (state : List ℕ). show_text r (replica_at other r).clock state)
    (free (replica_at world r).absorbed (replica_at other r).absorbed (pair.here.replicas (r - 1)).once (pair.there.replicas (r - 1)).once (pair.alike.replicas (r - 1)).same).states
line_same d world other (Do done) free pair = refl
line_same d world other (Ship r p) free pair = refl
line_same d world other (Deliver p r) free pair = refl

-- operations that time and replica tell apart have one arrangement
one_arrangement : (ty : TypeForm) (xs ys : List Done) → AreApart xs → HaveSame xs ys → canonical ty xs ≡ canonical ty ys
one_arrangement ty xs ys apart same =
    let here : IsCanonical ty (canonical ty xs) xs = order_canonical ty xs apart in
    let there : IsCanonical ty (canonical ty ys) ys = order_canonical ty ys (λ one other i j r t. apart one other (same.1 one i) (same.1 other j) r t) in
    one_canonical ty (canonical ty xs) (canonical ty ys) xs here (record {
      arranges = record {
        once = there.arranges.once;
        same = (λ one i. same.1 one (there.arranges.same.0 one i), λ one i. there.arranges.same.1 one (same.0 one i));
      };
      ascending = there.ascending;
    })

pub model_same : (ty : TypeForm) (world other : World) (line : Line) → Pair world other → model_line ty world line ≡ model_line ty other line
model_same ty world other (Ask r query args) pair =
    let front = pair.here.replicas (r - 1) in
    ap (λ (ones : List Done). ask_text (signature_of ty) r query args (sequential_answer ty (state_after ty ones) query args))
    (one_arrangement ty (replica_at world r).absorbed (replica_at other r).absorbed
    (λ one two i j same_replica same_time. pair.here.apart one two (front.was_done one i) (front.was_done two j) same_replica same_time)
    (pair.alike.replicas (r - 1)).same)
model_same ty world other (Show r) pair = refl
model_same ty world other (Do done) pair = refl
model_same ty world other (Ship r p) pair = refl
model_same ty world other (Deliver p r) pair = refl

pub texts_same : (d : DesignForm) (sig : Signature) (world other : World) (lines : List Line) → OrderIsFree d → Pair world other → AreJudged sig world lines
    → lines_text d world lines ≡ lines_text d other lines
texts_same d sig world other [] free pair judged = refl
texts_same d sig world other (line ∷ lines) free pair judged =
    ap (λ (text : List ℕ). text ++ lines_text d (after world line) lines) (line_same d world other line free pair)
    ∙ ap (λ (text : List ℕ). line_text d other line ++ text)
    (texts_same d sig (after world line) (after other line) lines free (pair_lines sig world other (line ∷ []) pair (judged.0, tt)) judged.1)

pub models_same : (ty : TypeForm) (sig : Signature) (world other : World) (lines : List Line) → Pair world other → AreJudged sig world lines
    → model_text ty world lines ≡ model_text ty other lines
models_same ty sig world other [] pair judged = refl
models_same ty sig world other (line ∷ lines) pair judged =
    ap (λ (text : List ℕ). text ++ model_text ty (after world line) lines) (model_same ty world other line pair)
    ∙ ap (λ (text : List ℕ). model_line ty other line ++ text)
    (models_same ty sig (after world line) (after other line) lines (pair_lines sig world other (line ∷ []) pair (judged.0, tt)) judged.1)

-- lines before others print first
pub texts_behind : (d : DesignForm) (world : World) (before lines : List Line)
    → lines_text d world (before ++ lines) ≡ lines_text d world before ++ lines_text d (world_after world before) lines
texts_behind d world [] lines = refl
texts_behind d world (line ∷ before) lines =
    ap (λ (text : List ℕ). line_text d world line ++ text) (texts_behind d (after world line) before lines)
    ∙ sym (append_assoc (line_text d world line) (lines_text d (after world line) before) (lines_text d (world_after (after world line) before) lines))

pub models_behind : (ty : TypeForm) (world : World) (before lines : List Line)
    → model_text ty world (before ++ lines) ≡ model_text ty world before ++ model_text ty (world_after world before) lines
models_behind ty world [] lines = refl
models_behind ty world (line ∷ before) lines =
    ap (λ (text : List ℕ). model_line ty world line ++ text) (models_behind ty (after world line) before lines)
    ∙ sym (append_assoc (model_line ty world line) (model_text ty (after world line) before) (model_text ty (world_after (after world line) before) lines))
