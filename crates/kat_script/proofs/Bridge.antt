-- A script that is read from a text is judged.
use Rattle.std.proofs.Common.{◌≡◌, ℕ, suc, ◌+◌, ◌-◌, ◌<◌, ◌≤◌, Bool, true, false, ⊎_elim, List, [], ◌∷◌, ◌++◌, length, get_or, set, refl, sym, ◌∙◌, ap, subst, cond, arith, Option, Some, None}
use Rattle.std.specs.Prelude.{◌==◌, ◌&&◌, not, map, position, nat_le, nat_lt, is_none, is_some, unwrap_or, option_to_list, replicate, MatchOption}
use Rattle.std.proofs.lemmas.Bool.{eqb-true, eq-eqb, cases_Bool, leb-true, leb-false, ltb-false}
use Rattle.std.proofs.lemmas.List.{length-map, length-set, length-append, length-replicate}
use Rattle.std.proofs.lemmas.List.Quantifiers.{position-Some}
use Rattle.std.proofs.lemmas.Option.{slice_get-get_or}
use Rattle.std.proofs.Math.ListN.{get_or-map}
use Rattle.kat_num.specs.declared.values.Sort.TheVariants as sort
use Rattle.kat_lex.specs.declared.lexer.Token.{Token}
use Rattle.kat_script.specs.Judged.{AreArguments, AreJudged, HasOp, HasQuery, IsJudged, IsReplica}
use Rattle.kat_script.specs.Rules.{Keeps, Known, clock_of, fit, is_late, is_replica, is_shipped, line_of, op_of, packet_of, place_of, query_of, time_of, value_of}
use Rattle.kat_script.specs.Script.{Ending, IsScriptText, Place, Reads, behind, below, known_at, start, text_lines, good, refused, ends, never_opens, blank, unreadable, breaks, keeps}
use Rattle.kat_script.specs.World.{Holder, World, after, after_doing, first_world, fresh, merged, opened, packet_at, replica_at, world_after}
use Rattle.kat_script.specs.declared.rules.TheConstants.{REPLICA_LIMIT, PACKET_LIMIT, TIME_LIMIT, LINE_LIMIT}
use Rattle.kat_script.specs.declared.said.Constant.{Constant}
use Rattle.kat_script.specs.declared.said.Said.{Said}
use Rattle.kat_script.specs.declared.said.Said.TheVariants.{Replicas, Does, Ships, Delivers, Asks, Shows}
use Rattle.kat_type.specs.declared.signatures.OpSig.{OpSig}
use Rattle.kat_type.specs.declared.signatures.QuerySig.{QuerySig}
use Rattle.kat_type.specs.declared.signatures.Signature.{Signature}
use Rattle.kat_type.specs.declared.done.Done.{Done}
use Rattle.kat_script.specs.declared.script.Line.{Line}
use Rattle.kat_script.specs.declared.script.Line.TheVariants.{Do, Ship, Deliver, Ask, Show}
use Rattle.kat_script.specs.declared.script.Script.{Script}
pub use Rattle.kat_script.proofs.Following.{keeps_rules, not_false}
use Rattle.kat_script.proofs.Following.{script_read}
use Rattle.kat_script.proofs.Arguments.{AreConstantsRead, AreReadLines, are_arguments, args_of, lines_read, said_read, tokens_read}

no_less : (n : ℕ) → 0 < n → n ≡ 0 → ⊥
no_less n l e = omega arith

true_false : true ≡ false → ⊥
true_false e = cc

both_true : (a b : Bool) → (a && b) ≡ true → (a ≡ true) × (b ≡ true)
both_true true true e = (refl, refl)
both_true true false e = absurd cc
both_true false b e = absurd cc

pub replica_there : (place : Place) (r : ℕ) → not (is_replica (known_at place) r) ≡ false → IsReplica place.world r
replica_there place r e =
    let clocks = map (λ (holder : Holder). holder.clock) place.world.replicas in
    let b = both_true (nat_le 1 r) (nat_le r (length clocks)) (not_false (is_replica (known_at place) r) e) in
    (leb-true 1 r b.0, subst (λ n. r ≤ n) (length-map place.world.replicas (λ (holder : Holder). holder.clock)) (leb-true r (length clocks) b.1))

clock_there : (place : Place) (r : ℕ) → clock_of (known_at place) r ≡ (replica_at place.world r).clock
clock_there place r = get_or-map (λ (holder : Holder). holder.clock) place.world.replicas (r - 1) fresh

next_time : (a b : ℕ) → a ≡ b → b < a + 1
next_time a b e = omega arith

later_time : (a b t : ℕ) → a ≡ b → a < t → b < t
later_time a b t e l = omega arith

pub time_exceeds : (place : Place) (r op : ℕ) (args : List Constant) (time : Option ℕ) → is_late (known_at place) (Does r op args time) ≡ false → (replica_at place.world r).clock < time_of (known_at place) r time
time_exceeds place r op args None e = next_time (clock_of (known_at place) r) (replica_at place.world r).clock (clock_there place r)
time_exceeds place r op args (Some t) e = later_time (clock_of (known_at place) r) (replica_at place.world r).clock t (clock_there place r) (leb-false t (clock_of (known_at place) r) e)

abbrev no_op : OpSig
no_op = record { name = 0; sorts = [] }

op_there : (sig : Signature) (name : ℕ) (args : List Constant) (o : Option ℕ) → op_of sig name args ≡ o → is_none o ≡ false → AreConstantsRead args
    → HasOp sig (unwrap_or o 0) (map value_of args)
op_there sig name args None e n h = absurd cc
op_there sig name args (Some i) e n h =
    let found = position-Some (λ (op : OpSig). (op.name == name) && fit args op.sorts) sig.ops i no_op e in
    let op = get_or sig.ops i no_op in
    let b = both_true (op.name == name) (fit args op.sorts) found.1 in
    subst (λ (o : Option OpSig). MatchOption o ⊥ (λ found. AreArguments found.sorts (map value_of args))) (sym (slice_get-get_or sig.ops i no_op found.0))
    (are_arguments args op.sorts b.1 h)

abbrev no_query : QuerySig
no_query = record { name = 0; sorts = []; sort = sort.Nat }

query_there : (sig : Signature) (name : ℕ) (args : List Constant) (o : Option ℕ) → query_of sig name args ≡ o → is_none o ≡ false → AreConstantsRead args
    → HasQuery sig (unwrap_or o 0) (map value_of args)
query_there sig name args None e n h = absurd cc
query_there sig name args (Some i) e n h =
    let found = position-Some (λ (query : QuerySig). (query.name == name) && fit args query.sorts) sig.queries i no_query e in
    let query = get_or sig.queries i no_query in
    let b = both_true (query.name == name) (fit args query.sorts) found.1 in
    subst (λ (o : Option QuerySig). MatchOption o ⊥ (λ found. AreArguments found.sorts (map value_of args))) (sym (slice_get-get_or sig.queries i no_query found.0))
    (are_arguments args query.sorts b.1 h)

pub number_within : (words : List ℕ) (packet : ℕ) (o : Option ℕ) → position (λ word. word == packet) words ≡ o → unwrap_or o (length words) ≤ length words
number_within words packet None e = omega arith
number_within words packet (Some i) e = let l = (position-Some (λ word. word == packet) words i 0 e).0 in omega arith

pub shipped_within : (words : List ℕ) (packet : ℕ) (o : Option ℕ) → position (λ word. word == packet) words ≡ o → is_some o ≡ true → unwrap_or o (length words) < length words
shipped_within words packet None e s = absurd cc
shipped_within words packet (Some i) e s = (position-Some (λ word. word == packet) words i 0 e).0

within_limit : (i n limit : ℕ) → i < n → n ≤ limit → i < limit
within_limit i n limit l m = omega arith

-- the number of a packet that may be shipped
pub number_fits : (words : List ℕ) (packet limit : ℕ) (o : Option ℕ) → position (λ word. word == packet) words ≡ o → (not (is_some o) && nat_le limit (length words)) ≡ false
    → length words ≤ limit → unwrap_or o (length words) < limit
number_fits words packet limit None e n l = leb-false limit (length words) n
number_fits words packet limit (Some i) e n l = within_limit i (length words) limit (position-Some (λ word. word == packet) words i 0 e).0 l

pub put_lengths : {X Y : Type 0} (xs : List X) (ys : List Y) (i : ℕ) (x : X) (y : Y) (b c : Bool) → b ≡ c → length xs ≡ length ys
    → length (cond b (set xs i x) (xs ++ x ∷ [])) ≡ length (cond c (set ys i y) (ys ++ y ∷ []))
put_lengths xs ys i x y true true e l = length-set xs i x ∙ l ∙ sym (length-set ys i y)
put_lengths xs ys i x y true false e l = absurd cc
put_lengths xs ys i x y false true e l = absurd cc
put_lengths xs ys i x y false false e l = length-append xs (x ∷ []) ∙ ap (λ n. n + 1) l ∙ sym (length-append ys (y ∷ []))

one_more_within : (n i limit : ℕ) → n ≤ i → i < limit → n + 1 ≤ limit
one_more_within n i limit l m = omega arith

pub put_few : (words : List ℕ) (i x limit : ℕ) (b : Bool) → nat_lt i (length words) ≡ b → i < limit → length words ≤ limit
    → length (cond b (set words i x) (words ++ x ∷ [])) ≤ limit
put_few words i x limit true e l m = subst (λ n. n ≤ limit) (sym (length-set words i x)) m
put_few words i x limit false e l m = subst (λ n. n ≤ limit) (sym (length-append words (x ∷ []))) (one_more_within (length words) i limit (ltb-false i (length words) e) l)

-- a place after the first line
pub record IsOpen (place : Place) : Type 0 where
  pub begun : 0 < place.lines
  pub room : place.lines ≤ LINE_LIMIT
  pub same : length place.words ≡ length place.world.packets
  pub few : length place.words ≤ PACKET_LIMIT

-- what is known of the last place, if these lines lead to it
abbrev pub EndsAt : Place → List Line → Ending → Type 0
EndsAt place lines (good last) =
    (length last.world.replicas ≡ length place.world.replicas) × (last.world ≡ world_after place.world lines) × (last.lines ≡ place.lines + length lines)
    × (length last.words ≡ length last.world.packets) × (last.lines ≤ LINE_LIMIT)
EndsAt place lines (refused e) = Unit {0}

one_further : (last next place count : ℕ) → last ≡ next + count → next ≡ place + 1 → last ≡ place + suc count
one_further last next place count e f = omega arith

ends_more : (place next : Place) (line : Line) (lines : List Line) (end : Ending) → length next.world.replicas ≡ length place.world.replicas
    → next.world ≡ after place.world line → next.lines ≡ place.lines + 1 → EndsAt next lines end → EndsAt place (line ∷ lines) end
ends_more place next line lines (good last) r w l h =
    (h.0 ∙ r, h.1 ∙ ap (λ world. world_after world lines) w, one_further last.lines next.lines place.lines (length lines) h.2 l, h.3, h.4)
ends_more place next line lines (refused e) r w l h = tt

none_more : (n : ℕ) → n ≡ n + 0
none_more n = omega arith

one_more : (n : ℕ) → 0 < n + 1
one_more n = omega arith

below_limit : (n limit : ℕ) → n < limit → n + 1 ≤ limit
below_limit n limit l = omega arith

pub opened_once : (lines : ℕ) → 0 < lines → cond (lines == 0) false true ≡ false → ⊥
opened_once lines l e = ⊎_elim
    (λ (z : (lines == 0) ≡ true). let zero_lines : lines ≡ 0 = eqb-true lines 0 z in no_less lines l zero_lines)
    (λ (n : (lines == 0) ≡ false). true_false (sym (ap (λ b. cond b false true) n) ∙ e))
    (cases_Bool (lines == 0))

-- what is known of the lines after a line
abbrev pub Goes : Signature → Place → Said → List Line → Ending → Type 0
Goes sig place said lines end = IsOpen (behind sig place said) → AreJudged sig (behind sig place said).world lines × EndsAt (behind sig place said) lines end

-- the place after a line that ships nothing
pub still_open : (sig : Signature) (place : Place) (said : Said) → IsOpen place → Keeps sig (known_at place) said → (behind sig place said).words ≡ place.words
    → (behind sig place said).world.packets ≡ place.world.packets → IsOpen (behind sig place said)
still_open sig place said o k w p = record {
  begun = one_more place.lines;
  room = below_limit place.lines LINE_LIMIT (leb-false LINE_LIMIT place.lines k.room);
  same = ap (λ (ws : List ℕ). length ws) w ∙ o.same ∙ ap (λ (ps : List Holder). length ps) (sym p);
  few = subst (λ (ws : List ℕ). length ws ≤ PACKET_LIMIT) (sym w) o.few;
}

abbrev doing : Signature → Known → ℕ → ℕ → List Constant → Option ℕ → Done
doing sig known r op args time = record { replica = r; time = time_of known r time; op = unwrap_or (op_of sig op args) 0; args = map value_of args }

pub keeps_line : (sig : Signature) (place : Place) (said : Said) (lines : List Line) (end : Ending) → Keeps sig (known_at place) said → AreConstantsRead (args_of said)
    → IsOpen place → Goes sig place said lines end
    → AreJudged sig place.world (option_to_list (line_of sig (known_at place) said) ++ lines) × EndsAt place (option_to_list (line_of sig (known_at place) said) ++ lines) end
keeps_line sig place (Replicas n) lines end k c o more = absurd (opened_once place.lines o.begun k.placed)
keeps_line sig place (Does r op args time) lines end k c o more =
    let rest = more (still_open sig place (Does r op args time) o k refl refl) in (
      (
        (
          replica_there place r k.replica,
          time_exceeds place r op args time k.timely,
          ltb-false TIME_LIMIT (time_of (known_at place) r time) k.within,
          op_there sig op args (op_of sig op args) refl k.called c,
        ),
        rest.0,
      ),
      ends_more place (behind sig place (Does r op args time)) (Do (doing sig (known_at place) r op args time)) lines end
          (length-set place.world.replicas (r - 1) (after_doing (replica_at place.world r) (doing sig (known_at place) r op args time))) refl refl rest.1,
    )
keeps_line sig place (Ships r packet) lines end k c o more =
    let p = packet_of (known_at place) packet in
    let small : p < PACKET_LIMIT = number_fits place.words packet PACKET_LIMIT (place_of (known_at place) packet) refl k.within o.few in
    let rest = more (record {
      begun = one_more place.lines;
      room = below_limit place.lines LINE_LIMIT (leb-false LINE_LIMIT place.lines k.room);
      same = put_lengths place.words place.world.packets p packet (replica_at place.world r) (nat_lt p (length place.words)) (nat_lt p (length place.world.packets)) (ap (λ n. nat_lt p n) o.same) o.same;
      few = put_few place.words p packet PACKET_LIMIT (nat_lt p (length place.words)) refl small o.few;
    }) in (
      ((replica_there place r k.replica, subst (λ n. p ≤ n) o.same (number_within place.words packet (place_of (known_at place) packet) refl), small), rest.0),
      ends_more place (behind sig place (Ships r packet)) (Ship r p) lines end refl refl refl rest.1,
    )
keeps_line sig place (Delivers packet r) lines end k c o more =
    let p = packet_of (known_at place) packet in
    let rest = more (still_open sig place (Delivers packet r) o k refl refl) in (
      ((replica_there place r k.replica, subst (λ n. p < n) o.same (shipped_within place.words packet (place_of (known_at place) packet) refl (not_false (is_shipped (known_at place) packet) k.packet))), rest.0),
      ends_more place (behind sig place (Delivers packet r)) (Deliver p r) lines end (length-set place.world.replicas (r - 1) (merged (replica_at place.world r) (packet_at place.world p))) refl refl rest.1,
    )
keeps_line sig place (Asks r query args) lines end k c o more =
    let rest = more (still_open sig place (Asks r query args) o k refl refl) in (
      ((replica_there place r k.replica, query_there sig query args (query_of sig query args) refl k.called c), rest.0),
      ends_more place (behind sig place (Asks r query args)) (Ask r (unwrap_or (query_of sig query args) 0) (map value_of args)) lines end refl refl refl rest.1,
    )
keeps_line sig place (Shows r) lines end k c o more =
    let rest = more (still_open sig place (Shows r) o k refl refl) in
    ((replica_there place r k.replica, rest.0), ends_more place (behind sig place (Shows r)) (Show r) lines end refl refl refl rest.1)

good_lines : (sig : Signature) (place : Place) (rest : List (List Token)) (lines : List Line) (end : Ending) → Reads sig place rest lines end → AreReadLines rest
    → IsOpen place → AreJudged sig place.world lines × EndsAt place lines end
good_lines sig place _ _ _ (ends h) c o = (tt, (refl, refl, none_more place.lines, o.same, o.room))
good_lines sig place _ _ _ (never_opens h) c o = (tt, tt)
good_lines sig place _ _ _ (blank {rest = rest} {lines = lines} {end = end} reads) c o =
    good_lines sig (below place) rest lines end reads c.1 (record { begun = o.begun; room = o.room; same = o.same; few = o.few })
good_lines sig place _ _ _ (unreadable h n) c o = (tt, tt)
good_lines sig place _ _ _ (breaks said rule says b) c o = (tt, tt)
good_lines sig place _ _ _ (keeps {tokens = tokens} {rest = rest} {lines = lines} {end = end} said says none reads) c o =
    keeps_line sig place said lines end (keeps_rules sig (known_at place) said none) (said_read tokens said c.0 says) o
    (λ open_behind. good_lines sig (behind sig place said) rest lines end reads c.1 open_behind)

abbrev JudgedTo : Signature → Ending → List Line → Type 0
JudgedTo sig (good last) lines = IsJudged sig (record { replicas = length last.world.replicas; packets = length last.words; lines = lines })
JudgedTo sig (refused e) lines = Unit {0}

abbrev world_of : List Holder → List Holder → World
world_of replicas packets = record { replicas = replicas; packets = packets }

few_lines : (last count place limit : ℕ) → last ≡ place + 1 + count → last ≤ limit → count < limit
few_lines last count place limit e l = omega arith

judged_to : (sig : Signature) (place : Place) (n : ℕ) (lines : List Line) (end : Ending) → place.world.packets ≡ [] → 1 ≤ n → n ≤ REPLICA_LIMIT
    → AreJudged sig (opened place.world n) lines → EndsAt (behind sig place (Replicas n)) lines end → JudgedTo sig end lines
judged_to sig place n lines (good last) p some few h e =
    let r : length last.world.replicas ≡ n = e.0 ∙ length-replicate n fresh in
    let w : last.world ≡ world_after (first_world n) lines = e.1 ∙ ap (λ (ps : List Holder). world_after (world_of (replicate n fresh) ps) lines) p in
    record {
      some_replica = subst (λ k. 1 ≤ k) (sym r) some;
      few_replicas = subst (λ k. k ≤ REPLICA_LIMIT) (sym r) few;
      packets = e.3 ∙ ap (λ (world : World). length world.packets) w ∙ ap (λ k. length (world_after (first_world k) lines).packets) (sym r);
      few_lines = few_lines last.lines (length lines) place.lines LINE_LIMIT e.2 e.4;
      lines = subst (λ k. AreJudged sig (first_world k) lines) (sym r) (subst (λ (ps : List Holder). AreJudged sig (world_of (replicate n fresh) ps) lines) p h);
    }
judged_to sig place n lines (refused x) p some few h e = tt

pub misplaced : (lines : ℕ) → lines ≡ 0 → cond (lines == 0) true false ≡ false → ⊥
misplaced lines z e = true_false (sym (ap (λ b. cond b true false) (eq-eqb lines 0 z)) ∙ e)

first_room : (n limit : ℕ) → n ≡ 0 → 1 ≤ limit → n + 1 ≤ limit
first_room n limit z l = omega arith

first_line : (sig : Signature) (place : Place) (said : Said) (lines : List Line) (end : Ending) → Keeps sig (known_at place) said → place.lines ≡ 0
    → place.words ≡ [] → place.world.packets ≡ [] → Goes sig place said lines end → JudgedTo sig end (option_to_list (line_of sig (known_at place) said) ++ lines)
first_line sig place (Replicas n) lines end k z w p more =
    let b = both_true (nat_le 1 n) (nat_le n REPLICA_LIMIT) (not_false (nat_le 1 n && nat_le n REPLICA_LIMIT) k.within) in
    let rest = more (record {
      begun = one_more place.lines;
      room = first_room place.lines LINE_LIMIT z (omega arith);
      same = ap (λ (ws : List ℕ). length ws) w ∙ sym (ap (λ (ps : List Holder). length ps) p);
      few = subst (λ (ws : List ℕ). length ws ≤ PACKET_LIMIT) (sym w) (omega arith);
    }) in
    judged_to sig place n lines end p (leb-true 1 n b.0) (leb-true n REPLICA_LIMIT b.1) rest.0 rest.1
first_line sig place (Does r op args time) lines end k z w p more = absurd (misplaced place.lines z k.placed)
first_line sig place (Ships r packet) lines end k z w p more = absurd (misplaced place.lines z k.placed)
first_line sig place (Delivers packet r) lines end k z w p more = absurd (misplaced place.lines z k.placed)
first_line sig place (Asks r query args) lines end k z w p more = absurd (misplaced place.lines z k.placed)
first_line sig place (Shows r) lines end k z w p more = absurd (misplaced place.lines z k.placed)

first_lines : (sig : Signature) (place : Place) (rest : List (List Token)) (lines : List Line) (end : Ending) → Reads sig place rest lines end → AreReadLines rest
    → place.lines ≡ 0 → place.words ≡ [] → place.world.packets ≡ [] → JudgedTo sig end lines
first_lines sig place _ _ _ (ends h) c z w p = absurd (no_less place.lines h z)
first_lines sig place _ _ _ (never_opens h) c z w p = tt
first_lines sig place _ _ _ (blank {rest = rest} {lines = lines} {end = end} reads) c z w p = first_lines sig (below place) rest lines end reads c.1 z w p
first_lines sig place _ _ _ (unreadable h n) c z w p = tt
first_lines sig place _ _ _ (breaks said rule says b) c z w p = tt
first_lines sig place _ _ _ (keeps {tokens = tokens} {rest = rest} {lines = lines} {end = end} said says none reads) c z w p =
    first_line sig place said lines end (keeps_rules sig (known_at place) said none) z w p
    (λ open_behind. good_lines sig (behind sig place said) rest lines end reads c.1 open_behind)

same_script : (sig : Signature) (replicas packets : ℕ) (script : Script) → script.replicas ≡ replicas → script.packets ≡ packets
    → IsJudged sig (record { replicas = replicas; packets = packets; lines = script.lines }) → IsJudged sig script
same_script sig replicas packets script r p h =
    subst (λ n. IsJudged sig (record { replicas = n; packets = script.packets; lines = script.lines })) (sym r)
    (subst (λ n. IsJudged sig (record { replicas = replicas; packets = n; lines = script.lines })) (sym p) h)

pub scripts_are_judged : (sig : Signature) (bytes : List ℕ) (script : Script) → IsScriptText sig bytes script → IsJudged sig script
scripts_are_judged sig bytes script is =
    let last = is.judged.last in
    same_script sig (length last.world.replicas) (length last.words) script is.judged.replicas is.judged.packets
    (first_lines sig start (text_lines is.tokens) script.lines (good last) (script_read sig (text_lines is.tokens) script is.judged) (lines_read is.tokens (tokens_read bytes 0 is.tokens None is.lexed)) refl refl refl)
