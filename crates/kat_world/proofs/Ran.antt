-- What was written while the lines of a design ran.
use Rattle.std.proofs.Common.{◌≡◌, ℕ, suc, ◌+◌, ◌<◌, ◌≤◌, List, [], ◌∷◌, ◌++◌, length, refl, sym, ◌∙◌, ap, subst, append_assoc, append-nil, length-append, arith, Option}
use Rattle.kat_design.specs.Designs.{DesignForm}
use Rattle.kat_io.specs.Outside.{grown}
use Rattle.kat_script.specs.Judged.{AreJudged, IsJudged}
use Rattle.kat_script.specs.World.{World, after, first_world}
use Rattle.kat_script.specs.declared.script.Line.{Line}
use Rattle.kat_script.specs.declared.script.Line.TheVariants.{Do, Ship, Deliver, Ask, Show}
use Rattle.kat_script.specs.declared.script.Script.{Script}
use Rattle.kat_type.specs.declared.done.Done.{Done}
use Rattle.kat_world.specs.Kept.{IsReady, Keeps, first_keeps, kept_after, kept_text, kept_world}
use Rattle.kat_world.specs.Lines.{line_text, lines_text}
use Rattle.kat_world.specs.Written.{IsCutShort}
use Rattle.kat_world.proofs.Going.{grown-grown, grown-nil}
use Rattle.kat_world.proofs.Keeping.{Lawful, kept_first, kept_line, kept_prints, ready_line}
use Rattle.kat_world.proofs.Standing.{Stands, stands_first, stands_on}
use Rattle.kat_world.proofs.Tracking.{done_with}

-- the lines before the ones that are left ran: what they print was written, and what is kept is what the world has
pub record Ran (d : DesignForm) (n : ℕ) (lines left : List Line) (k : Keeps) (old now : Option (List ℕ)) : Type 0 where
  pub world : World
  pub past : List Done
  pub stands : Stands d.sig past world
  pub few : length past + length left ≤ 100_000
  pub judged : AreJudged d.sig world left
  pub kept : k ≡ kept_world d world
  pub written : List ℕ
  pub text : lines_text d (first_world n) lines ≡ written ++ lines_text d world left
  pub wrote : now ≡ grown old written

pub few_lines : (n : ℕ) → n < 100_000 → 0 + n ≤ 100_000
few_lines n h = omega arith

pub ran_nothing : (d : DesignForm) (script : Script) (lines : List Line) (k : Keeps) (old : Option (List ℕ)) → IsJudged d.sig script → lines ≡ script.lines
    → k ≡ first_keeps d script.replicas → Ran d script.replicas lines lines k old old
ran_nothing d script lines k old judged same e =
    subst (λ (ls : List Line). Ran d script.replicas ls ls k old old) (sym same) (record {
      world = first_world script.replicas;
      past = [];
      stands = stands_first d.sig script.replicas judged.few_replicas;
      few = few_lines (length script.lines) judged.few_lines;
      judged = judged.lines;
      kept = e ∙ kept_first d script.replicas;
      written = [];
      text = refl;
      wrote = grown-nil old;
    })

pub few_before : (a b : ℕ) → a + b ≤ 100_000 → a ≤ 100_000
few_before a b h = omega arith

more_few : (a b n : ℕ) → n ≡ a + 1 → a + suc b ≤ 100_000 → n + b ≤ 100_000
more_few a b n e h = omega arith

same_few : (a b : ℕ) → a + suc b ≤ 100_000 → a + b ≤ 100_000
same_few a b h = omega arith

pub few_on : (past : List Done) (line : Line) (rest : List Line) → length past + length (line ∷ rest) ≤ 100_000 → length (done_with past line) + length rest ≤ 100_000
few_on past (Do done) rest h = more_few (length past) (length rest) (length (past ++ done ∷ [])) (length-append past (done ∷ [])) h
few_on past (Ship r p) rest h = same_few (length past) (length rest) h
few_on past (Deliver p r) rest h = same_few (length past) (length rest) h
few_on past (Ask r query args) rest h = same_few (length past) (length rest) h
few_on past (Show r) rest h = same_few (length past) (length rest) h

-- what is known of the next line
pub record Next (d : DesignForm) (n : ℕ) (lines rest : List Line) (line : Line) (k : Keeps) (old now : Option (List ℕ)) : Type 0 where
  pub ran : Ran d n lines (line ∷ rest) k old now
  pub prints : kept_text d k line ≡ line_text d ran.world line
  pub ready : IsReady d k line

pub next_ran : (d : DesignForm) (n : ℕ) (lines left rest : List Line) (line : Line) (k : Keeps) (old now : Option (List ℕ)) → Lawful d
    → Ran d n lines left k old now → left ≡ line ∷ rest → Next d n lines rest line k old now
next_ran d n lines left rest line k old now laws before is =
    let ran : Ran d n lines (line ∷ rest) k old now = subst (λ (ls : List Line). Ran d n lines ls k old now) is before in
    record {
      ran = ran;
      prints = ap (λ (it : Keeps). kept_text d it line) ran.kept ∙ kept_prints d ran.world line ran.judged.0;
      ready =
          subst (λ (it : Keeps). IsReady d it line) (sym ran.kept)
          (ready_line d ran.past ran.world line laws ran.stands (few_before (length ran.past) (length (line ∷ rest)) ran.few) ran.judged.0);
    }

pub ready_next : (d : DesignForm) (n : ℕ) (lines left rest : List Line) (line : Line) (k : Keeps) (old now : Option (List ℕ)) → Lawful d
    → Ran d n lines left k old now → left ≡ line ∷ rest → IsReady d k line
ready_next d n lines left rest line k old now laws ran is = (next_ran d n lines left rest line k old now laws ran is).ready

-- one line more
pub ran_next : (d : DesignForm) (n : ℕ) (lines left rest : List Line) (line : Line) (k l : Keeps) (old now then_ : Option (List ℕ)) → Lawful d
    → Ran d n lines left k old now → left ≡ line ∷ rest → l ≡ kept_after d k line → then_ ≡ grown now (kept_text d k line)
    → Ran d n lines rest l old then_
ran_next d n lines left rest line k l old now then_ laws before is follows wrote =
    let next = next_ran d n lines left rest line k old now laws before is in
    let ran = next.ran in
    record {
      world = after ran.world line;
      past = done_with ran.past line;
      stands = stands_on d.sig ran.past ran.world line ran.stands ran.judged.0;
      few = few_on ran.past line rest ran.few;
      judged = ran.judged.1;
      kept = follows ∙ ap (λ (it : Keeps). kept_after d it line) ran.kept ∙ kept_line d ran.past ran.world line laws ran.stands ran.judged.0;
      written = ran.written ++ line_text d ran.world line;
      text = ran.text ∙ sym (append_assoc ran.written (line_text d ran.world line) (lines_text d (after ran.world line) rest));
      wrote = wrote ∙ ap (λ (text : List ℕ). grown now text) next.prints ∙ ap (λ (o : Option (List ℕ)). grown o (line_text d ran.world line)) ran.wrote
          ∙ grown-grown old ran.written (line_text d ran.world line);
    }

-- all lines ran
pub ran_all : (d : DesignForm) (n : ℕ) (lines left : List Line) (k : Keeps) (old now : Option (List ℕ)) → Ran d n lines left k old now → left ≡ []
    → now ≡ grown old (lines_text d (first_world n) lines)
ran_all d n lines left k old now ran none =
    ran.wrote ∙ ap (λ (text : List ℕ). grown old text)
    (sym (ran.text ∙ ap (λ (ls : List Line). ran.written ++ lines_text d ran.world ls) none ∙ append-nil ran.written))

-- a line that is cut short cuts all of them short
pub ran_stopped : (d : DesignForm) (n : ℕ) (lines left rest : List Line) (line : Line) (k : Keeps) (old now then_ : Option (List ℕ)) → Lawful d
    → Ran d n lines left k old now → left ≡ line ∷ rest → IsCutShort now then_ (kept_text d k line)
    → IsCutShort old then_ (lines_text d (first_world n) lines)
ran_stopped d n lines left rest line k old now then_ laws before is cut =
    let next = next_ran d n lines left rest line k old now laws before is in
    let ran = next.ran in
    let short : IsCutShort now then_ (line_text d ran.world line) = subst (λ (text : List ℕ). IsCutShort now then_ text) next.prints cut in
    let front : List ℕ = short.0 in
    let behind : List ℕ = short.1.0 in (
      ran.written ++ front,
      (
        behind ++ lines_text d (after ran.world line) rest,
        append_assoc ran.written front (behind ++ lines_text d (after ran.world line) rest)
            ∙ ap (λ (text : List ℕ). ran.written ++ text) (sym (append_assoc front behind (lines_text d (after ran.world line) rest))
            ∙ ap (λ (text : List ℕ). text ++ lines_text d (after ran.world line) rest) short.1.1)
            ∙ sym ran.text,
      ),
      short.2 ∙ ap (λ (o : Option (List ℕ)). grown o front) ran.wrote ∙ grown-grown old ran.written front,
    )
