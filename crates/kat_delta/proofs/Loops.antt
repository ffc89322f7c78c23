-- What is known before each line of a judged script with deltas, and what a line more makes of the world and of the text.
use Rattle.std.proofs.Common.{◌≡◌, ℕ, zero, suc, ◌+◌, ◌≤◌, ◌<◌, length, inl, inr, List, [], ◌∷◌, ◌++◌, take, drop, get_or, refl, sym, ◌∙◌, ap, subst, arith, append_assoc, append-nil, add-one, Option}
use Rattle.std.proofs.Math.Seq.{take-suc}
use Rattle.std.proofs.lemmas.List.{length-replicate, length-take, take_all}
use Rattle.std.specs.Prelude.{min}
use Rattle.kat_type.specs.Lists.{Has}
use Rattle.kat_type.specs.declared.done.Done.{Done}
use Rattle.kat_type.specs.declared.signatures.Signature.{Signature}
use Rattle.kat_design.specs.Designs.{DesignForm}
use Rattle.kat_design.specs.Fitting.{FitsSignature}
use Rattle.kat_script.specs.World.{Holder, fresh}
use Rattle.kat_script.specs.declared.rules.TheConstants.{LINE_LIMIT}
use Rattle.kat_script.specs.declared.script.Line.TheVariants.{Do, Ship, Deliver, Ask, Show}
use Rattle.kat_io.specs.Outside.{grown}
use Rattle.kat_world.specs.Written.{IsCutShort}
use Rattle.kat_world.proofs.Going.{grown-grown, grown-nil}
use Rattle.kat_world.proofs.Standing.{count_stays}
use Rattle.kat_delta.specs.Following.{Knows, RunsAs}
use Rattle.kat_delta.specs.Lines.{delta_line_text, delta_lines_text}
use Rattle.kat_delta.specs.Worlds.{AreJudgedDeltas, DeltaWorld, IsJudgedDelta, delta_after, delta_world_after, done_by_lines, first_delta_world}
use Rattle.kat_delta.specs.declared.running.Running.{Running}
use Rattle.kat_delta.specs.declared.script.DeltaLine.{DeltaLine}
use Rattle.kat_delta.specs.declared.script.DeltaLine.TheVariants.{Plain, Delta}
use Rattle.kat_delta.proofs.RunSteps.{done_fits}
use Rattle.kat_delta.proofs.Worlds.{facts_of_delta_worlds}

-- the line at a place
nothing_there : (i : ℕ) → i < 0 → ⊥
nothing_there i l = omega arith

one_less : (i n : ℕ) → suc i < suc n → i < n
one_less i n l = omega arith

split_at : {X : Type 0} (xs : List X) (i : ℕ) (x : X) → i < length xs → x ≡ get_or xs i x → xs ≡ take i xs ++ x ∷ drop (suc i) xs
split_at [] i x l e = absurd (nothing_there i l)
split_at (y ∷ xs) zero x l e = ap (λ z. z ∷ xs) (sym e)
split_at (y ∷ xs) (suc i) x l e = ap (λ zs. y ∷ zs) (split_at xs i x (one_less i (length xs) l) e)

-- the replicas stay as many
pub stays : (w : DeltaWorld) (line : DeltaLine) → length (delta_after w line).world.replicas ≡ length w.world.replicas
stays w (Plain line) = count_stays w.world line
stays w (Delta r p from) = refl

all_stay : (w : DeltaWorld) (before : List DeltaLine) → length (delta_world_after w before).world.replicas ≡ length w.world.replicas
all_stay w [] = refl
all_stay w (line ∷ before) = all_stay (delta_after w line) before ∙ stays w line

-- the line keeps the rules where it is
judged_there : (sig : Signature) (w : DeltaWorld) (before : List DeltaLine) (line : DeltaLine) (behind : List DeltaLine) → AreJudgedDeltas sig w (before ++ line ∷ behind) → IsJudgedDelta sig (delta_world_after w before) line
judged_there sig w [] line behind j = j.0
judged_there sig w (one ∷ before) line behind j = judged_there sig (delta_after w one) before line behind j.1

-- what was done fits, and isn't more than the lines
fit_line : (sig : Signature) (w : DeltaWorld) (line : DeltaLine) (rest : List Done) → IsJudgedDelta sig w line → length w.world.replicas ≤ 32 → ((one : Done) → Has rest one → FitsSignature sig one)
    → (lines : List DeltaLine) → rest ≡ done_by_lines lines → (one : Done) → Has (done_by_lines (line ∷ lines)) one → FitsSignature sig one
fit_line sig w (Plain (Do done)) rest j few fit lines e one (inl same) = subst (λ (d : Done). FitsSignature sig d) same (done_fits sig w.world done few j.0)
fit_line sig w (Plain (Do done)) rest j few fit lines e one (inr has) = fit one (subst (λ (ds : List Done). Has ds one) (sym e) has)
fit_line sig w (Plain (Ship r p)) rest j few fit lines e one has = fit one (subst (λ (ds : List Done). Has ds one) (sym e) has)
fit_line sig w (Plain (Deliver p r)) rest j few fit lines e one has = fit one (subst (λ (ds : List Done). Has ds one) (sym e) has)
fit_line sig w (Plain (Ask r query args)) rest j few fit lines e one has = fit one (subst (λ (ds : List Done). Has ds one) (sym e) has)
fit_line sig w (Plain (Show r)) rest j few fit lines e one has = fit one (subst (λ (ds : List Done). Has ds one) (sym e) has)
fit_line sig w (Delta r p from) rest j few fit lines e one has = fit one (subst (λ (ds : List Done). Has ds one) (sym e) has)

fit_before : (sig : Signature) (w : DeltaWorld) (before behind : List DeltaLine) → AreJudgedDeltas sig w (before ++ behind) → length w.world.replicas ≤ 32 → (one : Done) → Has (done_by_lines before) one → FitsSignature sig one
fit_before sig w [] behind j few one has = absurd has
fit_before sig w (line ∷ before) behind j few one has =
    fit_line sig w line (done_by_lines before) j.0 few
    (fit_before sig (delta_after w line) before behind j.1 (subst (λ n. n ≤ 32) (sym (stays w line)) few)) before refl one has

step_few : (a b : ℕ) → a ≤ b → a ≤ suc b
step_few a b l = omega arith

both_more : (a b : ℕ) → a ≤ b → suc a ≤ suc b
both_more a b l = omega arith

done_few : (lines : List DeltaLine) → length (done_by_lines lines) ≤ length lines
done_few [] = omega arith
done_few (Plain (Do done) ∷ lines) = both_more (length (done_by_lines lines)) (length lines) (done_few lines)
done_few (Plain (Ship r p) ∷ lines) = step_few (length (done_by_lines lines)) (length lines) (done_few lines)
done_few (Plain (Deliver p r) ∷ lines) = step_few (length (done_by_lines lines)) (length lines) (done_few lines)
done_few (Plain (Ask r query args) ∷ lines) = step_few (length (done_by_lines lines)) (length lines) (done_few lines)
done_few (Plain (Show r) ∷ lines) = step_few (length (done_by_lines lines)) (length lines) (done_few lines)
done_few (Delta r p from ∷ lines) = step_few (length (done_by_lines lines)) (length lines) (done_few lines)

few_at : (a b i n : ℕ) → a ≤ b → b ≡ min i n → n ≤ 100000 → a ≤ 100000
few_at a b i n h e l = omega arith

pub knows_at : (d : DesignForm) (running : Running) (n i : ℕ) (lines : List DeltaLine) (line : DeltaLine) → AreJudgedDeltas d.sig (first_delta_world n) lines → n ≤ 32 → length lines ≤ 100000 → i < length lines → line ≡ get_or lines i line
    → RunsAs d running (delta_world_after (first_delta_world n) (take i lines)) → Knows d running (delta_world_after (first_delta_world n) (take i lines)) (done_by_lines (take i lines)) line
knows_at d running n i lines line judged few_replicas few l e runs =
    let w = first_delta_world n in
    let before = take i lines in
    let behind = drop (suc i) lines in
    let j : AreJudgedDeltas d.sig w (before ++ line ∷ behind) = subst (λ (ls : List DeltaLine). AreJudgedDeltas d.sig w ls) (split_at lines i line l e) judged in
    let first : length w.world.replicas ≤ 32 = subst (λ m. m ≤ 32) (sym (length-replicate {A = Holder} n fresh)) few_replicas in
    record {
      runs = runs;
      facts = facts_of_delta_worlds d.sig n before (line ∷ behind) j;
      fit = fit_before d.sig w before (line ∷ behind) j first;
      few = few_at (length (done_by_lines before)) (length before) i (length lines) (done_few before) (length-take i lines) few;
      few_replicas = subst (λ m. m ≤ 32) (sym (all_stay w before)) first;
      judged = judged_there d.sig w before line behind j;
    }

-- a line more
pub world_last : (w : DeltaWorld) (before : List DeltaLine) (line : DeltaLine) → delta_world_after w (before ++ line ∷ []) ≡ delta_after (delta_world_after w before) line
world_last w [] line = refl
world_last w (one ∷ before) line = world_last (delta_after w one) before line

pub text_append : (d : DesignForm) (w : DeltaWorld) (before behind : List DeltaLine) → delta_lines_text d w (before ++ behind) ≡ delta_lines_text d w before ++ delta_lines_text d (delta_world_after w before) behind
text_append d w [] behind = refl
text_append d w (one ∷ before) behind =
    ap (λ (rest : List ℕ). delta_line_text d w one ++ rest) (text_append d (delta_after w one) before behind)
    ∙ sym (append_assoc (delta_line_text d w one) (delta_lines_text d (delta_after w one) before) (delta_lines_text d (delta_world_after (delta_after w one) before) behind))

pub text_split : (d : DesignForm) (w : DeltaWorld) (before : List DeltaLine) (line : DeltaLine) (behind : List DeltaLine)
    → delta_lines_text d w (before ++ line ∷ behind) ≡ delta_lines_text d w before ++ (delta_line_text d (delta_world_after w before) line ++ delta_lines_text d (delta_after (delta_world_after w before) line) behind)
text_split d w before line behind = text_append d w before (line ∷ behind)

-- all lines before the i-th ran
pub record RanTo (d : DesignForm) (n : ℕ) (lines : List DeltaLine) (i : ℕ) (running : Running) (old now : Option (List ℕ)) : Type 0 where
  pub runs : RunsAs d running (delta_world_after (first_delta_world n) (take i lines))
  pub wrote : now ≡ grown old (delta_lines_text d (first_delta_world n) (take i lines))

pub ran_first : (d : DesignForm) (n : ℕ) (lines : List DeltaLine) (running : Running) (old : Option (List ℕ)) → RunsAs d running (first_delta_world n) → RanTo d n lines 0 running old old
ran_first d n lines running old runs = record { runs = runs; wrote = grown-nil old }

pub ran_next : (d : DesignForm) (n i : ℕ) (lines : List DeltaLine) (line : DeltaLine) (running next : Running) (old now then_ : Option (List ℕ)) → RanTo d n lines i running old now → i < length lines → line ≡ get_or lines i line
    → RunsAs d next (delta_after (delta_world_after (first_delta_world n) (take i lines)) line)
    → then_ ≡ grown now (delta_line_text d (delta_world_after (first_delta_world n) (take i lines)) line) → RanTo d n lines (i + 1) next old then_
ran_next d n i lines line running next old now then_ ran l e runs wrote =
    let w = first_delta_world n in
    let before = take i lines in
    let more : take (i + 1) lines ≡ before ++ line ∷ [] = ap (λ m. take m lines) (add-one i) ∙ take-suc lines i line l ∙ ap (λ (x : DeltaLine). before ++ x ∷ []) (sym e) in
    record {
      runs = subst (λ (v : DeltaWorld). RunsAs d next v) (sym (ap (λ (ls : List DeltaLine). delta_world_after w ls) more ∙ world_last w before line)) runs;
      wrote = wrote ∙ ap (λ (o : Option (List ℕ)). grown o (delta_line_text d (delta_world_after w before) line)) ran.wrote
          ∙ grown-grown old (delta_lines_text d w before) (delta_line_text d (delta_world_after w before) line)
          ∙ ap (λ (text : List ℕ). grown old text)
          (ap (λ (text : List ℕ). delta_lines_text d w before ++ text) (sym (append-nil (delta_line_text d (delta_world_after w before) line)))
          ∙ sym (ap (λ (ls : List DeltaLine). delta_lines_text d w ls) more ∙ text_append d w before (line ∷ [])));
    }

pub ran_all : (d : DesignForm) (n i : ℕ) (lines : List DeltaLine) (running : Running) (old now : Option (List ℕ)) → RanTo d n lines i running old now → length lines ≤ i
    → now ≡ grown old (delta_lines_text d (first_delta_world n) lines)
ran_all d n i lines running old now ran l = ran.wrote ∙ ap (λ (ls : List DeltaLine). grown old (delta_lines_text d (first_delta_world n) ls)) (take_all i lines l)

pub ran_stopped : (d : DesignForm) (n i : ℕ) (lines : List DeltaLine) (line : DeltaLine) (running : Running) (old now then_ : Option (List ℕ)) → RanTo d n lines i running old now → i < length lines → line ≡ get_or lines i line
    → IsCutShort now then_ (delta_line_text d (delta_world_after (first_delta_world n) (take i lines)) line) → IsCutShort old then_ (delta_lines_text d (first_delta_world n) lines)
ran_stopped d n i lines line running old now then_ ran l e short =
    let w = first_delta_world n in
    let before = take i lines in
    let rest = drop (suc i) lines in
    let here = delta_world_after w before in
    let behind = delta_lines_text d (delta_after here line) rest in
    let written = delta_lines_text d w before in
    let whole : delta_lines_text d w lines ≡ written ++ (delta_line_text d here line ++ behind) = ap (λ (ls : List DeltaLine). delta_lines_text d w ls) (split_at lines i line l e) ∙ text_split d w before line rest in
    let front : List ℕ = short.0 in
    let left : List ℕ = short.1.0 in (
      written ++ front,
      (
        left ++ behind,
        append_assoc written front (left ++ behind)
            ∙ ap (λ (text : List ℕ). written ++ text) (sym (append_assoc front left behind) ∙ ap (λ (text : List ℕ). text ++ behind) short.1.1)
            ∙ sym whole,
      ),
      short.2 ∙ ap (λ (o : Option (List ℕ)). grown o front) ran.wrote ∙ grown-grown old written front,
    )

few_of : (n limit : ℕ) → n < limit → n ≤ limit
few_of n limit l = omega arith

pub few_enough : (lines : List DeltaLine) → length lines < LINE_LIMIT → length lines ≤ 100000
few_enough lines l = few_of (length lines) 100000 l

-- the same when the lines go by another name
pub knows_in : (d : DesignForm) (running : Running) (n i : ℕ) (lines all : List DeltaLine) (line : DeltaLine) → lines ≡ all → AreJudgedDeltas d.sig (first_delta_world n) all → n ≤ 32 → length all ≤ 100000 → i < length lines → line ≡ get_or lines i line
    → RunsAs d running (delta_world_after (first_delta_world n) (take i lines)) → Knows d running (delta_world_after (first_delta_world n) (take i lines)) (done_by_lines (take i lines)) line
knows_in d running n i lines all line same judged few_replicas few l e runs =
    knows_at d running n i lines line (subst (λ (ls : List DeltaLine). AreJudgedDeltas d.sig (first_delta_world n) ls) (sym same) judged) few_replicas
    (subst (λ (ls : List DeltaLine). length ls ≤ 100000) (sym same) few) l e runs

pub cut_in : (d : DesignForm) (n : ℕ) (lines all : List DeltaLine) (old now : Option (List ℕ)) → lines ≡ all → IsCutShort old now (delta_lines_text d (first_delta_world n) lines) → IsCutShort old now (delta_lines_text d (first_delta_world n) all)
cut_in d n lines all old now same cut = subst (λ (ls : List DeltaLine). IsCutShort old now (delta_lines_text d (first_delta_world n) ls)) same cut
