-- An error that is handed on.
use Rattle.std.proofs.Common.{◌≡◌, ap, ◌∙◌, Result, Ok, Err}
use Rattle.std.specs.Result.{IsErrAnd}
use Rattle.kat_fm.specs.Limits.{Checked}
use Rattle.kat_fm.specs.Limits.Checked.{passes}
use Rattle.kat_fm.specs.declared.arithmetic.Passed.{Passed}
use Rattle.kat_fm.specs.EntryViews.{checked_of}

pub handed_on : {A B : Type 0} (view : A → B) (r : Result A Passed) (p : Passed) (whole : Checked B) → IsErrAnd r (λ e. e ≡ p) → passes p.left p.right ≡ whole → checked_of view r ≡ whole
handed_on view (Ok z) p whole h e = absurd h
handed_on view (Err q) p whole h e = ap (λ (x : Passed). passes x.left x.right) h ∙ e
