-- The facts are kept by each line.
use Rattle.std.proofs.Common.{◌≡◌, ℕ, zero, suc, ◌+◌, ◌-◌, ◌<◌, ◌≤◌, Bool, true, false, ⊎_elim, List, [], ◌∷◌, ◌++◌, length, get_or, set, refl, sym, ◌∙◌, ap, subst, cond, arith, append_assoc, append-nil}
use Rattle.std.specs.Prelude.{nat_lt, replicate}
use Rattle.std.proofs.lemmas.Bool.{cases_eq}
use Rattle.std.proofs.lemmas.List.{length-set, get_or-set_same, get_or-set_other}
use Rattle.kat_script.specs.World.{Holder, World, after, after_doing, first_world, fresh, merged, put, replica_at, world_after}
use Rattle.kat_type.specs.declared.done.Done.{Done}
use Rattle.kat_script.specs.declared.script.Line.{Line}
use Rattle.kat_script.specs.declared.script.Line.TheVariants.{Do, Ship, Deliver, Ask, Show}
use Rattle.kat_type.specs.Lists.{Has}
use Rattle.kat_script.specs.Facts.{HoldsFronts, IsFront, done_in}
use Rattle.kat_script.specs.Judged.{AreJudged, IsJudgedLine, IsReplica}
use Rattle.kat_type.specs.declared.signatures.Signature.{Signature}
use Rattle.kat_type.proofs.Lists.{either_last, has_front, has_last, set_all, snoc_all}
use Rattle.kat_type.proofs.Unions.{has_mine}
use Rattle.kat_script.proofs.Fronts.{front_did, front_fresh, front_merged, front_more}

put_from : {X : Type 0} (P : X → Type 0) (xs : List X) (i : ℕ) (x d : X) (b : Bool) → ((k : ℕ) → P (get_or xs k d)) → P x → (k : ℕ) → P (get_or (cond b (set xs i x) (xs ++ x ∷ [])) k d)
put_from P xs i x d true h p = set_all P xs i x d h p
put_from P xs i x d false h p = snoc_all P xs x d h p

put_all : {X : Type 0} (P : X → Type 0) (xs : List X) (i : ℕ) (x d : X) → ((k : ℕ) → P (get_or xs k d)) → P x → (k : ℕ) → P (get_or (put xs i x) k d)
put_all P xs i x d h p = put_from P xs i x d (nat_lt i (length xs)) h p

place_within : (r n : ℕ) → 1 ≤ r → r ≤ n → r - 1 < n
place_within r n l m = omega arith

number_of : (r : ℕ) → 1 ≤ r → r ≡ (r - 1) + 1
number_of r l = omega arith

place_of : (r i : ℕ) → r ≡ i + 1 → i ≡ r - 1
place_of r i e = omega arith

first_place : (r s i : ℕ) → r ≡ i + 1 → s ≡ r → i ≡ s - 1
first_place r s i e f = omega arith

at_most_then : (a b c : ℕ) → a ≤ b → b < c → a < c
at_most_then a b c l m = omega arith

-- what a replica did before is earlier than what it does now
earlier : (past : List Done) (world : World) (new : Done) → HoldsFronts past world → IsReplica world new.replica → (replica_at world new.replica).clock < new.time
    → (one : Done) → Has past one → one.replica ≡ new.replica → one.time < new.time
earlier past world new f is lt one has same =
    let i = new.replica - 1 in
    let there : Has (get_or world.replicas i fresh).absorbed one = f.own i one has (same ∙ number_of new.replica is.0) in
    at_most_then one.time (get_or world.replicas i fresh).clock new.time ((f.replicas i).within one there) lt

not_before_itself : (a b : ℕ) → a < b → a ≡ b → ⊥
not_before_itself a b l e = omega arith

first_above : (a b : ℕ) → a < b → 0 < b
first_above a b l = omega arith

-- the element at a place after a set at another place or at this one
set_has : (replicas : List Holder) (i j : ℕ) (holder : Holder) (one : Done) → i < length replicas
    → (i ≡ j → Has holder.absorbed one) → ((i ≡ j → ⊥) → Has (get_or replicas j fresh).absorbed one) → Has (get_or (set replicas i holder) j fresh).absorbed one
set_has replicas i j holder one lt here there =
    ⊎_elim
    (λ (e : j ≡ i). subst (λ (h : Holder). Has h.absorbed one) (sym (ap (λ k. get_or (set replicas i holder) k fresh) e ∙ get_or-set_same replicas i holder fresh lt)) (here (sym e)))
    (λ (n : j ≡ i → ⊥). subst (λ (h : Holder). Has h.absorbed one) (sym (get_or-set_other replicas i j holder fresh n)) (there (λ e. n (sym e))))
    (cases_eq j i)

still_there : (r : ℕ) (replicas : List Holder) (i : ℕ) (holder : Holder) → (1 ≤ r) × (r ≤ length replicas) → (1 ≤ r) × (r ≤ length (set replicas i holder))
still_there r replicas i holder is = (is.0, subst (λ n. r ≤ n) (sym (length-set replicas i holder)) is.1)

pub facts_do : (past : List Done) (world : World) (new : Done) → HoldsFronts past world → IsReplica world new.replica × ((replica_at world new.replica).clock < new.time) → HoldsFronts (past ++ new ∷ []) (after world (Do new))
facts_do past world new f fit =
    let i = new.replica - 1 in
    let mine = get_or world.replicas i fresh in
    let before = earlier past world new f fit.0 fit.1 in
    let lt : i < length world.replicas = place_within new.replica (length world.replicas) fit.0.0 fit.0.1 in
    record {
      timed = λ one has. ⊎_elim (λ (old : Has past one). f.timed one old)
          (λ (same : new ≡ one). subst (λ (d : Done). 0 < d.time) same (first_above mine.clock new.time fit.1)) (either_last past new one has);
      placed = λ one has. ⊎_elim (λ (old : Has past one). still_there one.replica world.replicas i (after_doing mine new) (f.placed one old))
          (λ (same : new ≡ one). still_there one.replica world.replicas i (after_doing mine new) (subst (λ (d : Done). IsReplica world d.replica) same fit.0)) (either_last past new one has);
      apart = λ one other h k r t. ⊎_elim
          (λ (old : Has past one). ⊎_elim (λ (old_too : Has past other). f.apart one other old old_too r t)
          (λ (same : new ≡ other). absurd (not_before_itself one.time new.time (before one old (r ∙ ap (λ (d : Done). d.replica) (sym same))) (t ∙ ap (λ (d : Done). d.time) (sym same))))
          (either_last past new other k))
          (λ (same : new ≡ one). ⊎_elim
          (λ (old : Has past other). absurd (not_before_itself other.time new.time (before other old (sym r ∙ ap (λ (d : Done). d.replica) (sym same))) (sym t ∙ ap (λ (d : Done). d.time) (sym same))))
          (λ (same_too : new ≡ other). sym same ∙ same_too)
          (either_last past new other k))
          (either_last past new one h);
      own = λ j one has is. set_has world.replicas i j (after_doing mine new) one lt
          (λ (e : i ≡ j). ⊎_elim
          (λ (old : Has past one). has_front mine.absorbed (new ∷ []) one (subst (λ k. Has (get_or world.replicas k fresh).absorbed one) (sym e) (f.own j one old is)))
          (λ (same : new ≡ one). subst (λ (d : Done). Has (mine.absorbed ++ new ∷ []) d) same (has_last mine.absorbed new))
          (either_last past new one has))
          (λ n. ⊎_elim
          (λ (old : Has past one). f.own j one old is)
          (λ (same : new ≡ one). absurd (n (sym (first_place one.replica new.replica j is (ap (λ (d : Done). d.replica) same)))))
          (either_last past new one has));
      replicas = set_all (IsFront (past ++ new ∷ [])) world.replicas i (after_doing mine new) fresh
          (λ k. front_more past (get_or world.replicas k fresh) new (f.replicas k) before)
          (front_did past mine new (f.replicas i) fit.1 (λ one has same. f.own i one has (same ∙ number_of new.replica fit.0.0)));
      packets = λ k. front_more past (get_or world.packets k fresh) new (f.packets k) before;
    }

pub facts_ship : (past : List Done) (world : World) (r p : ℕ) → HoldsFronts past world → HoldsFronts past (after world (Ship r p))
facts_ship past world r p f = record {
  timed = f.timed;
  placed = f.placed;
  apart = f.apart;
  own = f.own;
  replicas = f.replicas;
  packets = put_all (IsFront past) world.packets p (replica_at world r) fresh f.packets (f.replicas (r - 1));
}

pub facts_deliver : (past : List Done) (world : World) (p r : ℕ) → HoldsFronts past world → IsReplica world r → HoldsFronts past (after world (Deliver p r))
facts_deliver past world p r f is =
    let i = r - 1 in
    let mine = get_or world.replicas i fresh in
    let theirs = get_or world.packets p fresh in
    let lt : i < length world.replicas = place_within r (length world.replicas) is.0 is.1 in
    record {
      timed = f.timed;
      placed = λ one has. still_there one.replica world.replicas i (merged mine theirs) (f.placed one has);
      apart = f.apart;
      own = λ j one has is'. set_has world.replicas i j (merged mine theirs) one lt
          (λ (e : i ≡ j). has_mine mine.absorbed theirs.absorbed one (subst (λ k. Has (get_or world.replicas k fresh).absorbed one) (sym e) (f.own j one has is')))
          (λ n. f.own j one has is');
      replicas = set_all (IsFront past) world.replicas i (merged mine theirs) fresh f.replicas (front_merged past mine theirs (f.replicas i) (f.packets p));
      packets = f.packets;
    }

-- what was done after a line
abbrev done_with : List Done → Line → List Done
done_with past (Do done) = past ++ done ∷ []
done_with past line = past

more_done : (past : List Done) (line : Line) (lines : List Line) → done_with past line ++ done_in lines ≡ past ++ done_in (line ∷ lines)
more_done past (Do done) lines = append_assoc past (done ∷ []) (done_in lines)
more_done past (Ship r p) lines = refl
more_done past (Deliver p r) lines = refl
more_done past (Ask r query args) lines = refl
more_done past (Show r) lines = refl

pub facts_line : (sig : Signature) (past : List Done) (world : World) (line : Line) → HoldsFronts past world → IsJudgedLine sig world line → HoldsFronts (done_with past line) (after world line)
facts_line sig past world (Do new) f fit = facts_do past world new f (fit.0, fit.1)
facts_line sig past world (Ship r p) f fit = facts_ship past world r p f
facts_line sig past world (Deliver p r) f fit = facts_deliver past world p r f fit.0
facts_line sig past world (Ask r query args) f fit = f
facts_line sig past world (Show r) f fit = f

pub facts_lines : (sig : Signature) (past : List Done) (world : World) (before behind : List Line) → HoldsFronts past world → AreJudged sig world (before ++ behind)
    → HoldsFronts (past ++ done_in before) (world_after world before)
facts_lines sig past world [] behind f judged = subst (λ ones. HoldsFronts ones world) (sym (append-nil past)) f
facts_lines sig past world (line ∷ before) behind f judged =
    subst (λ ones. HoldsFronts ones (world_after (after world line) before)) (more_done past line before)
    (facts_lines sig (done_with past line) (after world line) before behind (facts_line sig past world line f judged.0) judged.1)

replicate_all : {X : Type 0} (P : X → Type 0) (n : ℕ) (x : X) → P x → (k : ℕ) → P (get_or (replicate n x) k x)
replicate_all P zero x p k = p
replicate_all P (suc n) x p zero = p
replicate_all P (suc n) x p (suc k) = replicate_all P n x p k

pub facts_first : (n : ℕ) → HoldsFronts [] (first_world n)
facts_first n = record {
  timed = λ one has. absurd has;
  placed = λ one has. absurd has;
  apart = λ one other has k r t. absurd has;
  own = λ i one has is. absurd has;
  replicas = replicate_all (IsFront []) n fresh (front_fresh []);
  packets = λ k. front_fresh [];
}

pub facts_of_worlds : (sig : Signature) (n : ℕ) (before behind : List Line) → AreJudged sig (first_world n) (before ++ behind)
    → HoldsFronts (done_in before) (world_after (first_world n) before)
facts_of_worlds sig n before behind judged = facts_lines sig [] (first_world n) before behind (facts_first n) judged
