-- What is read of files.
use Rattle.std.proofs.Common.{◌≡◌, ℕ, suc, ◌≤◌, List, [], ◌∷◌, Option, Vec, arith, length, ap, subst, refl}
use Rattle.std.specs.Global.{Global}
use Rattle.kat_design.specs.Designs.{DesignForm}
use Rattle.kat_design.specs.Sorted.{AreMatched, EachHas, IsWellSorted}
use Rattle.kat_design.proofs.Accepted.{well_sorted}
use Rattle.kat_script.specs.Rules.{HasFewCalls}
use Rattle.kat_io.specs.Outside.{Tells}
use Rattle.kat_share.specs.declared.packets.SharePacket.{SharePacket}
use Rattle.kat_share_step.proofs.Sums.{packet_said}
use Rattle.kat_share_step.specs.Shares.{IsPacket, SaysPacket}
use Rattle.kat_wire.specs.FileForms.{FileForm}
use Rattle.kat_wire.specs.Files.{IsFileText}
use Rattle.kat_wire.proofs.AcceptedFiles.{file_accepted}
use Rattle.kat_share_call.specs.Sharing.{AreAt}
use Rattle.kat_share_call.specs.Written.{contents}

-- a design that was read has no wrong place, and few calls
pub well_sorted_file : (text : List ℕ) (f : FileForm) → IsFileText text f → IsWellSorted f.design
well_sorted_file text f is = well_sorted f.design (file_accepted text f is).accepted

pub few_calls_file : (text : List ℕ) (f : FileForm) → IsFileText text f → HasFewCalls f.design.sig
few_calls_file text f is =
    let small = (file_accepted text f is).signature.small in record { few_ops = small.few_ops; few_queries = small.few_queries }

-- packets that texts say are packets of the design, as many as there are texts
pub packets_said : (d : DesignForm) (texts : List (List ℕ)) (packets : List SharePacket) → AreMatched (SaysPacket d) texts packets → EachHas (IsPacket d) packets
packets_said d [] [] are = tt
packets_said d (text ∷ texts) (packet ∷ packets) are = (packet_said d text packet are.0, packets_said d texts packets are.1)
packets_said d [] (packet ∷ packets) are = absurd are
packets_said d (text ∷ texts) [] are = absurd are

pub as_many : {A B : Type 0} (Match : A → B → Type 0) (xs : List A) (ys : List B) → AreMatched Match xs ys → length xs ≡ length ys
as_many Match [] [] are = refl
as_many Match (x ∷ xs) (y ∷ ys) are = ap (λ (n : ℕ). suc n) (as_many Match xs ys are.1)
as_many Match [] (y ∷ ys) are = absurd are
as_many Match (x ∷ xs) [] are = absurd are

pub contents_length : (vectors : List (Vec ℕ Global)) → length (contents vectors) ≡ length vectors
contents_length [] = refl
contents_length (v ∷ vectors) = ap (λ (n : ℕ). suc n) (contents_length vectors)

pub few_packets : (d : DesignForm) (vectors : List (Vec ℕ Global)) (packets : List SharePacket) → AreMatched (SaysPacket d) (contents vectors) packets → length vectors ≤ 30 → length packets ≤ 30
few_packets d vectors packets are few =
    let same : length (contents vectors) ≡ length packets = as_many (SaysPacket d) (contents vectors) packets are in
    let too : length (contents vectors) ≡ length vectors = contents_length vectors in
    omega (arith, same, too, few)

-- files that tell the same
pub at_same : (holds holds' : List ℕ → Option (List ℕ)) (paths texts : List (List ℕ)) → ((path : List ℕ) → holds' path ≡ holds path) → AreAt holds' paths texts → AreAt holds paths texts
at_same holds holds' [] [] same are = tt
at_same holds holds' (path ∷ paths) (text ∷ texts) same are =
    (subst (λ (held : Option (List ℕ)). Tells held text) (same path) are.0, at_same holds holds' paths texts same are.1)
at_same holds holds' [] (text ∷ texts) same are = absurd are
at_same holds holds' (path ∷ paths) [] same are = absurd are
