-- Drawings with the answers of a design.
use Rattle.std.proofs.Common.{◌≡◌, ℕ, Bool, List, ◌∙◌, ap, IfOk, Result, Ok, Err, Vec}
use Rattle.kat_design.specs.Designs.{DesignForm}
use Rattle.kat_num.specs.declared.values.Value.{Value}
use Rattle.kat_people_call.specs.Pictures.{IsAnsweredDrawing, drawn}
use Rattle.kat_picture.specs.Pictures.{picture_of}
use Rattle.kat_script.specs.declared.script.Script.{Script}
use Rattle.kat_world.specs.Replies.{answers_of}

-- a drawing with the answers that the design gives is one with the answers of the design
pub answered : {A E : Type 0} (d : DesignForm) (script : Script) (as_text : Bool) (words : List ℕ) (answers : List Value) (r : Result (Vec ℕ A) E)
    → answers ≡ answers_of d script
    → IfOk r (λ text. text.items ≡ drawn as_text (picture_of d.sig words answers script))
    → IfOk r (λ drawing. IsAnsweredDrawing d script as_text drawing.items)
answered d script as_text words answers (Ok text) same drew = record {
  words = words;
  is_drawing = drew ∙ ap (λ (given : List Value). drawn as_text (picture_of d.sig words given script)) same;
}
answered d script as_text words answers (Err e) same drew = tt
