-- One replica more, and one piece of a text.
use Rattle.std.proofs.Common.{◌≡◌, ◌∙◌, ℕ, zero, suc, ◌+◌, ◌-◌, ◌<◌, List, ◌++◌, drop, add-one, append_assoc, refl, sym, ap, subst, arith, Result, Ok, Err}
use Rattle.std.specs.Prelude.{OnOk}
use Rattle.kat_picture.specs.Drawing.{lane_width, picture_height, svg, svg_at}
use Rattle.kat_picture.specs.Lanes.{for_each}
use Rattle.kat_picture.specs.Plain.{further, piece}
use Rattle.kat_picture.specs.declared.pictures.Event.{Event}
use Rattle.kat_picture.specs.declared.pictures.Picture.{Picture}

pub for_each_next : (draw : ℕ → List ℕ) (k : ℕ) → for_each draw (k + 1) ≡ for_each draw k ++ draw (k + 1)
for_each_next draw k = rw add-one refl

pub further_next : (before : List ℕ) (room k : ℕ) (text : List ℕ) → 0 < k
    → further before room k text ≡ piece before room text ++ further before room (k - 1) (drop room text)
further_next before room zero text some = absurd (omega arith)
further_next before room (suc k) text some =
    let e : suc k - 1 ≡ k = omega arith in ap (λ (n : ℕ). piece before room text ++ further before room n (drop room text)) (sym e)

pub one_more : (draw : ℕ → List ℕ) (k : ℕ) (before now more : List ℕ) → now ≡ before ++ for_each draw k → more ≡ now ++ draw (k + 1)
    → more ≡ before ++ for_each draw (k + 1)
one_more draw k before now more has adds =
    adds ∙ ap (λ (text : List ℕ). text ++ draw (k + 1)) has ∙ append_assoc before (for_each draw k) (draw (k + 1))
    ∙ ap (λ (text : List ℕ). before ++ text) (sym (for_each_next draw k))

pub piece_more : (before : List ℕ) (room k : ℕ) (text whole now more : List ℕ) → 0 < k → now ++ further before room k text ≡ whole
    → more ≡ now ++ piece before room text → more ++ further before room (k - 1) (drop room text) ≡ whole
piece_more before room k text whole now more some has adds =
    ap (λ (front : List ℕ). front ++ further before room (k - 1) (drop room text)) adds
    ∙ append_assoc now (piece before room text) (further before room (k - 1) (drop room text))
    ∙ ap (λ (behind : List ℕ). now ++ behind) (sym (further_next before room k text some)) ∙ has

-- three texts that were appended one after the other, the last one maybe not
pub three_parts : {T E : Type 0} (r : Result T E) (old a b c first second third : List ℕ) → first ≡ old ++ a → second ≡ first ++ b
    → OnOk r (third ≡ second ++ c) → OnOk r (third ≡ old ++ (a ++ b ++ c))
three_parts (Err e) old a b c first second third one two three = tt
three_parts (Ok x) old a b c first second third one two three =
    three ∙ ap (λ (text : List ℕ). text ++ c) two ∙ ap (λ (text : List ℕ). text ++ b ++ c) one
    ∙ ap (λ (text : List ℕ). text ++ c) (append_assoc old a b) ∙ append_assoc old (a ++ b) c

-- what was appended is the picture, if it is as the picture's events say
pub svg_is : {T E : Type 0} (p : Picture) (width height : ℕ) (events : List Event) → width ≡ lane_width events → height ≡ picture_height events → events ≡ p.events
    → (r : Result T E) (old new : List ℕ) → OnOk r (new ≡ old ++ svg_at width height p.replicas events) → OnOk r (new ≡ old ++ svg p)
svg_is p width height events w h e r old new has =
    subst (λ (text : List ℕ). OnOk r (new ≡ old ++ text))
    (ap (λ (x : ℕ). svg_at x height p.replicas events) w ∙ ap (λ (y : ℕ). svg_at (lane_width events) y p.replicas events) h
    ∙ ap (λ (es : List Event). svg_at (lane_width es) (picture_height es) p.replicas es) e) has
