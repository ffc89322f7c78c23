-- A script with deltas that is read from a text is judged.
use Rattle.std.proofs.Common.{◌≡◌, ℕ, suc, ◌+◌, ◌<◌, ◌≤◌, Bool, true, false, List, [], ◌∷◌, ◌++◌, length, refl, sym, ◌∙◌, ap, subst, cond, arith, Option, Some, None}
use Rattle.std.specs.Prelude.{map, nat_le, nat_lt, ◌&&◌, option_to_list, MatchOption}
use Rattle.std.proofs.lemmas.Bool.{leb-true, leb-false, ltb-false}
use Rattle.std.proofs.lemmas.List.{length-map, length-replicate}
use Rattle.kat_type.specs.declared.signatures.Signature.{Signature}
use Rattle.kat_lex.specs.declared.lexer.Token.{Token}
use Rattle.kat_script.specs.Judged.{AreJudged}
use Rattle.kat_script.specs.Rules.{Keeps, first_broken, is_misplaced, line_of, packet_of, place_of}
use Rattle.kat_script.specs.Script.{Place, behind, known_at, text_lines}
use Rattle.kat_script.specs.Script as plain
use Rattle.kat_script.specs.World.{Holder, fresh, opened, replica_at}
use Rattle.kat_script.specs.declared.error.ScriptError.TheVariants as refusal
use Rattle.kat_script.specs.declared.rules.Rule.{Rule}
use Rattle.kat_script.specs.declared.rules.TheConstants.{REPLICA_LIMIT, PACKET_LIMIT, LINE_LIMIT}
use Rattle.kat_script.specs.declared.said.Said.{Said}
use Rattle.kat_script.specs.declared.said.Said.TheVariants.{Replicas, Does, Ships, Delivers, Asks, Shows}
use Rattle.kat_script.proofs.Arguments.{AreConstantsRead, AreRead, AreReadLines, args_of, lines_read, said_read, tokens_read}
use Rattle.kat_script.proofs.Bridge.{IsOpen, keeps_line, keeps_rules, misplaced, not_false, number_fits, opened_once, put_few, put_lengths, still_open}
use Rattle.kat_delta.specs.Lines.{IsJudgedScript}
use Rattle.kat_delta.specs.Worlds.{AreJudgedDeltas, DeltaWorld, IsJudgedDelta, Made, delta_after, delta_world_after, first_delta_world}
use Rattle.kat_delta.specs.declared.script.DeltaLine.{DeltaLine}
use Rattle.kat_delta.specs.declared.script.DeltaScript.{DeltaScript}
use Rattle.kat_delta.proofs.Loops.{stays}
use Rattle.kat_delta_script.specs.Grammar.{SaysEither}
use Rattle.kat_delta_script.specs.Refusals.{DeltaPlace, count_there, counts_refuse, gap, known_there, made_in, no_count, plain_place, refused_by_counts, refused_first}
use Rattle.kat_delta_script.specs.Scripts.{DeltaEnding, IsDeltaScriptText, ReadsDeltas, blank, breaks, counted_line, delta_behind, delta_line_of, delta_world_behind, ends, first_place, good, keeps, never_opens, place_below, refused, unreadable}
use Rattle.kat_delta_script.specs.declared.error.DeltaScriptError.{DeltaScriptError}
use Rattle.kat_delta_script.specs.declared.statement.Statement.{Statement}
use Rattle.kat_delta_script.proofs.Keeping.{clocks_after}

some_none : {X : Type 0} (x : X) → Some x ≡ None → ⊥
some_none x e = cc

-- what is refused by nothing
neither : (place : DeltaPlace) (statement : Statement) (o : Option Rule) → refused_first place statement o ≡ None → (o ≡ None) × (counts_refuse place statement ≡ None)
neither place statement None e = (refl, e)
neither place statement (Some rule) e = absurd (some_none _ e)

enough_of : (b : Bool) (x : DeltaScriptError) → cond b (Some x) None ≡ None → b ≡ false
enough_of true x e = absurd (some_none x e)
enough_of false x e = refl

enough : (number did from : ℕ) → no_count number did from ≡ None → from ≤ did
enough number did from e = ltb-false did from (enough_of (nat_lt did from) _ e)

no_gap : (number : ℕ) (count : ℕ → ℕ) (o : Option Made) → gap number count o ≡ None → MatchOption o (Unit {0}) (λ (made : Made). made.from ≤ count made.origin)
no_gap number count None e = tt
no_gap number count (Some made) e = ltb-false (count made.origin) made.from (enough_of (nat_lt (count made.origin) made.from) _ e)

-- only a line that ships has a count
abbrev MayCount : Said → Option ℕ → Type 0
MayCount said None = Unit {0}
MayCount (Ships r packet) (Some from) = Unit {0}
MayCount said (Some from) = ⊥

may_count : (tokens : List Token) (said : Said) (from : Option ℕ) → SaysEither tokens said from → MayCount said from
may_count tokens (Replicas n) None h = tt
may_count tokens (Does r op args time) None h = tt
may_count tokens (Ships r packet) None h = tt
may_count tokens (Delivers packet r) None h = tt
may_count tokens (Asks r query args) None h = tt
may_count tokens (Shows r) None h = tt
may_count tokens (Replicas n) (Some from) h = h
may_count tokens (Does r op args time) (Some from) h = h
may_count tokens (Ships r packet) (Some from) h = tt
may_count tokens (Delivers packet r) (Some from) h = h
may_count tokens (Asks r query args) (Some from) h = h
may_count tokens (Shows r) (Some from) h = h

statement_read : (tokens : List Token) (said : Said) (from : Option ℕ) → AreRead tokens → SaysEither tokens said from → AreConstantsRead (args_of said)
statement_read tokens said None h says = said_read tokens said h says
statement_read tokens (Replicas n) (Some from) h says = absurd says
statement_read tokens (Does r op args time) (Some from) h says = absurd says
statement_read tokens (Ships r packet) (Some from) h says = tt
statement_read tokens (Delivers packet r) (Some from) h says = absurd says
statement_read tokens (Asks r query args) (Some from) h says = absurd says
statement_read tokens (Shows r) (Some from) h says = absurd says

-- the line of scripts is judged
plain_judged : (sig : Signature) (place : Place) (said : Said) → IsOpen place → Keeps sig (known_at place) said → AreConstantsRead (args_of said)
    → AreJudged sig place.world (option_to_list (line_of sig (known_at place) said) ++ [])
plain_judged sig place said o k c = (keeps_line sig place said [] (plain.refused (refusal.Line 10 1)) k c o (λ open_behind. (tt, tt))).0

abbrev JudgedAll : Signature → DeltaWorld → Option DeltaLine → Type 0
JudgedAll sig w None = Unit {0}
JudgedAll sig w (Some line) = IsJudgedDelta sig w line

-- and so is the line
judged_all : (sig : Signature) (place : DeltaPlace) (said : Said) (from : Option ℕ) → AreJudged sig place.w.world (option_to_list (line_of sig (known_there place) said) ++ [])
    → refused_by_counts place.number (count_there place.w) (made_in place said) said from ≡ None → MayCount said from → JudgedAll sig place.w (counted_line from (line_of sig (known_there place) said))
judged_all sig place (Replicas n) from j c f = tt
judged_all sig place (Does r op args time) None j c f = (j.0, tt)
judged_all sig place (Does r op args time) (Some from) j c f = absurd f
judged_all sig place (Ships r packet) None j c f = (j.0, tt)
judged_all sig place (Ships r packet) (Some from) j c f = (j.0.0, j.0.1, j.0.2, enough place.number (count_there place.w r r) from c)
judged_all sig place (Delivers packet r) None j c f = (j.0, no_gap place.number (count_there place.w r) (made_in place (Delivers packet r)) c)
judged_all sig place (Delivers packet r) (Some from) j c f = absurd f
judged_all sig place (Asks r query args) None j c f = (j.0, tt)
judged_all sig place (Asks r query args) (Some from) j c f = absurd f
judged_all sig place (Shows r) None j c f = (j.0, tt)
judged_all sig place (Shows r) (Some from) j c f = absurd f

-- there is a line, except for the first one
some_line : (sig : Signature) (place : DeltaPlace) (said : Said) (from : Option ℕ) → 0 < place.lines → is_misplaced (known_there place) said ≡ false
    → (line : DeltaLine) × (counted_line from (line_of sig (known_there place) said) ≡ Some line)
some_line sig place (Replicas n) from some placed = absurd (opened_once place.lines some placed)
some_line sig place (Does r op args time) from some placed = (_, refl)
some_line sig place (Ships r packet) from some placed = (_, refl)
some_line sig place (Delivers packet r) from some placed = (_, refl)
some_line sig place (Asks r query args) from some placed = (_, refl)
some_line sig place (Shows r) from some placed = (_, refl)

one_more : (n : ℕ) → 0 < n + 1
one_more n = omega arith

below_limit : (n limit : ℕ) → n < limit → n + 1 ≤ limit
below_limit n limit l = omega arith

-- the place after is open too
plain_open : (sig : Signature) (place : Place) (said : Said) → IsOpen place → Keeps sig (known_at place) said → IsOpen (behind sig place said)
plain_open sig place (Replicas n) o k = absurd (opened_once place.lines o.begun k.placed)
plain_open sig place (Does r op args time) o k = still_open sig place (Does r op args time) o k refl refl
plain_open sig place (Ships r packet) o k =
    let p = packet_of (known_at place) packet in
    let small : p < PACKET_LIMIT = number_fits place.words packet PACKET_LIMIT (place_of (known_at place) packet) refl k.within o.few in
    record {
      begun = one_more place.lines;
      room = below_limit place.lines LINE_LIMIT (leb-false LINE_LIMIT place.lines k.room);
      same = put_lengths place.words place.world.packets p packet (replica_at place.world r) (nat_lt p (length place.words)) (nat_lt p (length place.world.packets)) (ap (λ n. nat_lt p n) o.same) o.same;
      few = put_few place.words p packet PACKET_LIMIT (nat_lt p (length place.words)) refl small o.few;
    }
plain_open sig place (Delivers packet r) o k = still_open sig place (Delivers packet r) o k refl refl
plain_open sig place (Asks r query args) o k = still_open sig place (Asks r query args) o k refl refl
plain_open sig place (Shows r) o k = still_open sig place (Shows r) o k refl refl

same_lengths : (some other : List Holder) → map (λ (holder : Holder). holder.clock) some ≡ map (λ (holder : Holder). holder.clock) other → length some ≡ length other
same_lengths some other e = sym (length-map some _) ∙ ap (λ (cs : List ℕ). length cs) e ∙ length-map other _

open_behind : (sig : Signature) (place : DeltaPlace) (statement : Statement) → IsOpen (plain_place place) → Keeps sig (known_there place) statement.said → IsOpen (plain_place (delta_behind sig place statement))
open_behind sig place statement o k =
    let p = plain_open sig (plain_place place) statement.said o k in
    let clocks = clocks_after place.w (plain_place place) statement.said statement.from (line_of sig (known_there place) statement.said) refl in
    record { begun = p.begun; room = p.room; same = p.same ∙ sym (same_lengths _ _ clocks.1); few = p.few }

-- what is known of the last place, if these lines lead to it
abbrev EndsThere : DeltaPlace → List DeltaLine → DeltaEnding → Type 0
EndsThere place lines (good last) =
    (length last.w.world.replicas ≡ length place.w.world.replicas) × (last.w ≡ delta_world_after place.w lines) × (last.lines ≡ place.lines + length lines)
    × (length last.words ≡ length last.w.world.packets) × (last.lines ≤ LINE_LIMIT)
EndsThere place lines (refused e) = Unit {0}

one_further : (last next place count : ℕ) → last ≡ next + count → next ≡ place + 1 → last ≡ place + suc count
one_further last next place count e f = omega arith

ends_more : (place next : DeltaPlace) (line : DeltaLine) (lines : List DeltaLine) (end : DeltaEnding) → next.w ≡ delta_after place.w line → next.lines ≡ place.lines + 1 → EndsThere next lines end → EndsThere place (line ∷ lines) end
ends_more place next line lines (good last) w l h = (
  h.0 ∙ ap (λ (v : DeltaWorld). length v.world.replicas) w ∙ stays place.w line,
  h.1 ∙ ap (λ (v : DeltaWorld). delta_world_after v lines) w,
  one_further last.lines next.lines place.lines (length lines) h.2 l,
  h.3,
  h.4,
)
ends_more place next line lines (refused e) w l h = tt

none_more : (n : ℕ) → n ≡ n + 0
none_more n = omega arith

goes_more : (sig : Signature) (place next : DeltaPlace) (line : DeltaLine) (lines : List DeltaLine) (end : DeltaEnding) → IsJudgedDelta sig place.w line → next.w ≡ delta_after place.w line → next.lines ≡ place.lines + 1
    → AreJudgedDeltas sig next.w lines × EndsThere next lines end → AreJudgedDeltas sig place.w (line ∷ lines) × EndsThere place (line ∷ lines) end
goes_more sig place next line lines end j w l h = ((j, subst (λ (v : DeltaWorld). AreJudgedDeltas sig v lines) w h.0), ends_more place next line lines end w l h.1)

keeps_more : (sig : Signature) (place : DeltaPlace) (statement : Statement) (lines : List DeltaLine) (end : DeltaEnding) → Keeps sig (known_there place) statement.said → AreConstantsRead (args_of statement.said)
    → counts_refuse place statement ≡ None → MayCount statement.said statement.from → IsOpen (plain_place place)
    → AreJudgedDeltas sig (delta_behind sig place statement).w lines × EndsThere (delta_behind sig place statement) lines end
    → AreJudgedDeltas sig place.w (option_to_list (delta_line_of sig (known_there place) statement) ++ lines) × EndsThere place (option_to_list (delta_line_of sig (known_there place) statement) ++ lines) end
keeps_more sig place statement lines end k c counts may o more =
    let found = some_line sig place statement.said statement.from o.begun k.placed in
    let line : DeltaLine = found.0 in
    let is : delta_line_of sig (known_there place) statement ≡ Some line = found.1 in
    let judged = judged_all sig place statement.said statement.from (plain_judged sig (plain_place place) statement.said o k c) counts may in
    subst (λ (l : Option DeltaLine). AreJudgedDeltas sig place.w (option_to_list l ++ lines) × EndsThere place (option_to_list l ++ lines) end) (sym is)
    (goes_more sig place (delta_behind sig place statement) line lines end (subst (λ (l : Option DeltaLine). JudgedAll sig place.w l) is judged)
    (ap (delta_world_behind place.w statement.said) is) refl more)

good_deltas : (sig : Signature) (place : DeltaPlace) (rest : List (List Token)) (lines : List DeltaLine) (end : DeltaEnding) → ReadsDeltas sig place rest lines end → AreReadLines rest
    → IsOpen (plain_place place) → AreJudgedDeltas sig place.w lines × EndsThere place lines end
good_deltas sig place _ _ _ (ends h) c o = (tt, (refl, refl, none_more place.lines, o.same, o.room))
good_deltas sig place _ _ _ (never_opens h) c o = (tt, tt)
good_deltas sig place _ _ _ (blank {rest = rest} {lines = lines} {end = end} reads) c o =
    good_deltas sig (place_below place) rest lines end reads c.1 (record { begun = o.begun; room = o.room; same = o.same; few = o.few })
good_deltas sig place _ _ _ (unreadable h n) c o = (tt, tt)
good_deltas sig place _ _ _ (breaks statement error says b) c o = (tt, tt)
good_deltas sig place _ _ _ (keeps {tokens = tokens} {rest = rest} {lines = lines} {end = end} statement says none reads) c o =
    let both = neither place statement (first_broken sig (known_there place) statement.said) none in
    let k = keeps_rules sig (known_there place) statement.said both.0 in
    keeps_more sig place statement lines end k (statement_read tokens statement.said statement.from c.0 says) both.1 (may_count tokens statement.said statement.from says) o
    (good_deltas sig (delta_behind sig place statement) rest lines end reads c.1 (open_behind sig place statement o k))

-- the first line
abbrev JudgedTo : Signature → DeltaEnding → List DeltaLine → Type 0
JudgedTo sig (good last) lines = IsJudgedScript sig (record { replicas = length last.w.world.replicas; packets = length last.words; lines = lines })
JudgedTo sig (refused e) lines = Unit {0}

no_less : (n : ℕ) → 0 < n → n ≡ 0 → ⊥
no_less n l e = omega arith

few_lines : (last count place limit : ℕ) → last ≡ place + 1 + count → last ≤ limit → count < limit
few_lines last count place limit e l = omega arith

judged_to : (sig : Signature) (next : DeltaPlace) (lines_before n : ℕ) (lines : List DeltaLine) (end : DeltaEnding) → next.w ≡ first_delta_world n → next.lines ≡ lines_before + 1 → 1 ≤ n → n ≤ REPLICA_LIMIT
    → AreJudgedDeltas sig next.w lines → EndsThere next lines end → JudgedTo sig end lines
judged_to sig next before n lines (good last) w l some few h e =
    let r : length last.w.world.replicas ≡ n = e.0 ∙ ap (λ (v : DeltaWorld). length v.world.replicas) w ∙ length-replicate n fresh in
    let last_is : last.w ≡ delta_world_after (first_delta_world n) lines = e.1 ∙ ap (λ (v : DeltaWorld). delta_world_after v lines) w in
    record {
      some_replica = subst (λ k. 1 ≤ k) (sym r) some;
      few_replicas = subst (λ k. k ≤ REPLICA_LIMIT) (sym r) few;
      packets = e.3 ∙ ap (λ (v : DeltaWorld). length v.world.packets) last_is ∙ ap (λ k. length (delta_world_after (first_delta_world k) lines).world.packets) (sym r);
      few_lines = few_lines last.lines (length lines) before LINE_LIMIT (e.2 ∙ ap (λ k. k + length lines) l) e.4;
      lines = subst (λ k. AreJudgedDeltas sig (first_delta_world k) lines) (sym r) (subst (λ (v : DeltaWorld). AreJudgedDeltas sig v lines) w h);
    }
judged_to sig next before n lines (refused x) w l some few h e = tt

both_true : (a b : Bool) → (a && b) ≡ true → (a ≡ true) × (b ≡ true)
both_true true true e = (refl, refl)
both_true true false e = absurd cc
both_true false b e = absurd cc

first_room : (n limit : ℕ) → n ≡ 0 → 1 ≤ limit → n + 1 ≤ limit
first_room n limit z l = omega arith

abbrev opening : ℕ → DeltaWorld → DeltaWorld
opening n w = record w { world = opened w.world n }

first_line : (sig : Signature) (place : DeltaPlace) (said : Said) (from : Option ℕ) (lines : List DeltaLine) (end : DeltaEnding) → Keeps sig (known_there place) said → place.lines ≡ 0
    → place.words ≡ [] → place.w ≡ first_delta_world 0
    → (IsOpen (plain_place (delta_behind sig place (record { said = said; from = from }))) → AreJudgedDeltas sig (delta_behind sig place (record { said = said; from = from })).w lines × EndsThere (delta_behind sig place (record { said = said; from = from })) lines end)
    → JudgedTo sig end (option_to_list (delta_line_of sig (known_there place) (record { said = said; from = from })) ++ lines)
first_line sig place (Replicas n) from lines end k z words w more =
    let b = both_true (nat_le 1 n) (nat_le n REPLICA_LIMIT) (not_false (nat_le 1 n && nat_le n REPLICA_LIMIT) k.within) in
    let rest = more (record {
      begun = one_more place.lines;
      room = first_room place.lines LINE_LIMIT z (omega arith);
      same = ap (λ (ws : List ℕ). length ws) words ∙ sym (ap (λ (v : DeltaWorld). length v.world.packets) w);
      few = subst (λ (ws : List ℕ). length ws ≤ PACKET_LIMIT) (sym words) (omega arith);
    }) in
    judged_to sig (delta_behind sig place (record { said = Replicas n; from = from })) place.lines n lines end (ap (opening n) w) refl (leb-true 1 n b.0) (leb-true n REPLICA_LIMIT b.1) rest.0 rest.1
first_line sig place (Does r op args time) from lines end k z words w more = absurd (misplaced place.lines z k.placed)
first_line sig place (Ships r packet) from lines end k z words w more = absurd (misplaced place.lines z k.placed)
first_line sig place (Delivers packet r) from lines end k z words w more = absurd (misplaced place.lines z k.placed)
first_line sig place (Asks r query args) from lines end k z words w more = absurd (misplaced place.lines z k.placed)
first_line sig place (Shows r) from lines end k z words w more = absurd (misplaced place.lines z k.placed)

first_lines : (sig : Signature) (place : DeltaPlace) (rest : List (List Token)) (lines : List DeltaLine) (end : DeltaEnding) → ReadsDeltas sig place rest lines end → AreReadLines rest
    → place.lines ≡ 0 → place.words ≡ [] → place.w ≡ first_delta_world 0 → JudgedTo sig end lines
first_lines sig place _ _ _ (ends h) c z words w = absurd (no_less place.lines h z)
first_lines sig place _ _ _ (never_opens h) c z words w = tt
first_lines sig place _ _ _ (blank {rest = rest} {lines = lines} {end = end} reads) c z words w = first_lines sig (place_below place) rest lines end reads c.1 z words w
first_lines sig place _ _ _ (unreadable h n) c z words w = tt
first_lines sig place _ _ _ (breaks statement error says b) c z words w = tt
first_lines sig place _ _ _ (keeps {tokens = tokens} {rest = rest} {lines = lines} {end = end} statement says none reads) c z words w =
    let both = neither place statement (first_broken sig (known_there place) statement.said) none in
    first_line sig place statement.said statement.from lines end (keeps_rules sig (known_there place) statement.said both.0) z words w
    (λ o. good_deltas sig (delta_behind sig place statement) rest lines end reads c.1 o)

same_script : (sig : Signature) (replicas packets : ℕ) (script : DeltaScript) → script.replicas ≡ replicas → script.packets ≡ packets
    → IsJudgedScript sig (record { replicas = replicas; packets = packets; lines = script.lines }) → IsJudgedScript sig script
same_script sig replicas packets script r p h =
    subst (λ n. IsJudgedScript sig (record { replicas = n; packets = script.packets; lines = script.lines })) (sym r)
    (subst (λ n. IsJudgedScript sig (record { replicas = replicas; packets = n; lines = script.lines })) (sym p) h)

pub delta_scripts_are_judged : (sig : Signature) (bytes : List ℕ) (script : DeltaScript) → IsDeltaScriptText sig bytes script → IsJudgedScript sig script
delta_scripts_are_judged sig bytes script is =
    let last = is.judged.last in
    same_script sig (length last.w.world.replicas) (length last.words) script is.judged.replicas is.judged.packets
    (first_lines sig first_place (text_lines is.tokens) script.lines (good last) is.judged.read (lines_read is.tokens (tokens_read bytes 0 is.tokens None is.lexed)) refl refl refl)
