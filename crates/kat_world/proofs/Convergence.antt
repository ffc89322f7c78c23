-- The same operations lead to the same lines.
use Rattle.std.proofs.Common.{◌≡◌, ℕ, ◌-◌, List, [], sym, ap, subst, append-nil}
use Rattle.kat_design.specs.Answers.{answer_of}
use Rattle.kat_design.specs.Denotations.{denotation_of}
use Rattle.kat_design.specs.Designs.{DesignForm}
use Rattle.kat_design.specs.declared.states.Part.{Part}
use Rattle.kat_replica.specs.Texts.{state_text}
use Rattle.kat_script.specs.Facts.{HoldsFronts, done_in}
use Rattle.kat_script.specs.Judged.{AreJudged}
use Rattle.kat_script.specs.World.{first_world, replica_at, world_after}
use Rattle.kat_script.specs.declared.script.Line.{Line}
use Rattle.kat_script.proofs.Worlds.{facts_of_worlds}
use Rattle.kat_type.specs.Lists.{HaveSame, IsOnce}
use Rattle.kat_type.specs.declared.done.Done.{Done}
use Rattle.kat_type.specs.declared.signatures.Signature.{Signature}
use Rattle.kat_world.specs.Alike.{PrintAlike}
use Rattle.kat_world.proofs.Keeping.{Lawful}

pub print_alike : (d : DesignForm) (some others : List Done) → Lawful d → IsOnce some → IsOnce others → HaveSame some others → PrintAlike d some others
print_alike d some others laws once once' same =
    let one : denotation_of d some ≡ denotation_of d others = laws.means.same some others once once' same in
    record {
      answers = λ query args. ap (λ (parts : List Part). answer_of d parts query args) one;
      states = ap (λ (parts : List Part). state_text parts) one;
    }

facts_there : (sig : Signature) (n : ℕ) (lines : List Line) → AreJudged sig (first_world n) lines → HoldsFronts (done_in lines) (world_after (first_world n) lines)
facts_there sig n lines judged = facts_of_worlds sig n lines [] (subst (λ (ls : List Line). AreJudged sig (first_world n) ls) (sym (append-nil lines)) judged)

-- a replica of a judged world absorbed each operation once
absorbed_once : (sig : Signature) (n : ℕ) (lines : List Line) (r : ℕ) → AreJudged sig (first_world n) lines → IsOnce (replica_at (world_after (first_world n) lines) r).absorbed
absorbed_once sig n lines r judged = ((facts_there sig n lines judged).replicas (r - 1)).once

pub replicas_alike : (d : DesignForm) (n m : ℕ) (lines others : List Line) (r s : ℕ) → Lawful d
    → AreJudged d.sig (first_world n) lines → AreJudged d.sig (first_world m) others
    → HaveSame (replica_at (world_after (first_world n) lines) r).absorbed (replica_at (world_after (first_world m) others) s).absorbed
    → PrintAlike d (replica_at (world_after (first_world n) lines) r).absorbed (replica_at (world_after (first_world m) others) s).absorbed
replicas_alike d n m lines others r s laws judged judged' same =
    print_alike d (replica_at (world_after (first_world n) lines) r).absorbed (replica_at (world_after (first_world m) others) s).absorbed laws
    (absorbed_once d.sig n lines r judged) (absorbed_once d.sig m others s judged') same
