-- States and their phases.
use Rattle.std.proofs.Common.{◌≡◌, ℕ, List, Option, refl, sym, ◌∙◌}
use Rattle.std.proofs.lemmas.Option.{same_Some}
use Rattle.kat_design.specs.Designs.{DesignForm}
use Rattle.kat_histories.specs.declared.histories.History.{History}
use Rattle.kat_relation.specs.declared.relations.Conjunct.{Conjunct}
use Rattle.kat_due.specs.Dues.{Ask, IsNext, Phase, State}
use Rattle.kat_due.specs.Dues.Phase.{at_design, cites, in_block, finished}

-- a state of its parts
abbrev pub made : ℕ → ℕ → List History → ℕ → Option ℕ → Phase → State
made lines count cited passed hidden phase = record { lines = lines; count = count; cited = cited; passed = passed; hidden = hidden; phase = phase }

pub same_state : (n m c d p q : ℕ) (hs ks : List History) (h k : Option ℕ) (phase : Phase) → n ≡ m → c ≡ d → hs ≡ ks → p ≡ q → h ≡ k → made n c hs p h phase ≡ made m d ks q k phase
same_state n m c d p q hs ks h k phase a b e f g = rw (a, b, e, f, g) refl

-- phases are apart
pub not_cites : (p : Phase) (h : History) → p ≡ at_design → p ≡ cites h → ⊥
not_cites at_design h a b = absurd (cc b)
not_cites (cites k) h a b = absurd (cc a)
not_cites (in_block cs dropped) h a b = absurd (cc a)
not_cites finished h a b = absurd (cc a)

pub not_in_block : (p : Phase) (cs : List Conjunct) (dropped : List ℕ) → p ≡ at_design → p ≡ in_block cs dropped → ⊥
not_in_block at_design cs dropped a b = absurd (cc b)
not_in_block (cites k) cs dropped a b = absurd (cc a)
not_in_block (in_block ds d) cs dropped a b = absurd (cc a)
not_in_block finished cs dropped a b = absurd (cc a)

pub not_finished : (p : Phase) → p ≡ at_design → p ≡ finished → ⊥
not_finished at_design a b = absurd (cc b)
not_finished (cites k) a b = absurd (cc a)
not_finished (in_block ds d) a b = absurd (cc a)
not_finished finished a b = absurd (cc a)

pub cites_no_block : (p : Phase) (h : History) (cs : List Conjunct) (dropped : List ℕ) → p ≡ cites h → p ≡ in_block cs dropped → ⊥
cites_no_block at_design h cs dropped a b = absurd (cc b)
cites_no_block (cites k) h cs dropped a b = absurd (cc b)
cites_no_block (in_block ds d) h cs dropped a b = absurd (cc a)
cites_no_block finished h cs dropped a b = absurd (cc a)

pub cites_not_finished : (p : Phase) (h : History) → p ≡ cites h → p ≡ finished → ⊥
cites_not_finished at_design h a b = absurd (cc b)
cites_not_finished (cites k) h a b = absurd (cc b)
cites_not_finished (in_block ds d) h a b = absurd (cc b)
cites_not_finished finished h a b = absurd (cc a)

pub block_not_finished : (p : Phase) (cs : List Conjunct) (dropped : List ℕ) → p ≡ in_block cs dropped → p ≡ finished → ⊥
block_not_finished at_design cs dropped a b = absurd (cc b)
block_not_finished (cites k) cs dropped a b = absurd (cc b)
block_not_finished (in_block ds d) cs dropped a b = absurd (cc b)
block_not_finished finished cs dropped a b = absurd (cc a)

-- what a phase carries
same_cites : (h k : History) → cites h ≡ cites k → h ≡ k
same_cites h k e = cc e

pub one_cited : (p : Phase) (h k : History) → p ≡ cites h → p ≡ cites k → h ≡ k
one_cited p h k a b = same_cites h k (sym a ∙ b)

same_candidates : (cs ds : List Conjunct) (m n : List ℕ) → in_block cs m ≡ in_block ds n → cs ≡ ds
same_candidates cs ds m n e = cc e

same_dropped : (cs ds : List Conjunct) (m n : List ℕ) → in_block cs m ≡ in_block ds n → m ≡ n
same_dropped cs ds m n e = cc e

pub one_list : (p : Phase) (cs ds : List Conjunct) (m n : List ℕ) → p ≡ in_block cs m → p ≡ in_block ds n → cs ≡ ds
one_list p cs ds m n a b = same_candidates cs ds m n (sym a ∙ b)

pub one_dropped : (p : Phase) (cs ds : List Conjunct) (m n : List ℕ) → p ≡ in_block cs m → p ≡ in_block ds n → m ≡ n
one_dropped p cs ds m n a b = same_dropped cs ds m n (sym a ∙ b)

-- one design is next
pub next_same : (ask : Ask) (s : State) (d e : DesignForm) → IsNext ask s d → IsNext ask s e → d ≡ e
next_same ask s d e a b = same_Some d e (sym a.there ∙ b.there)
