-- How a call over bytes ends, whatever the program.
use Rattle.std.specs.Prelude.{◌≡◌, ◌⊎◌, ℕ, ◌<◌, List, [], codes, length, String, Vec}
use Rattle.std.specs.Global.{Global}
use Rattle.katara_call.specs.Passed.{ArePassed, HasNoText, Passed}

-- nothing was written, the status is this number, and the line this text, or nothing if there was no memory for it
pub record IsPlainEnd (number : ℕ) (text : List ℕ) (code : ℕ) (written line : List ℕ) : Type 0 where
  pub coded : code ≡ number
  pub nothing : written ≡ []
  pub line_is : (line ≡ text) ⊎ (line ≡ [])

-- A word or a name isn't text, which is usage; or memory ran out, and nothing was written; or the program was called with the words
-- and files that are passed, and ended so.
pub data IsCall (passed : Passed) (EndsSo : List (String Global) → List (String Global × Vec ℕ Global) → ℕ → List ℕ → List ℕ → Type 0)
    (code : ℕ) (written line : List ℕ) : Type 0 where
  no_text : HasNoText passed → IsPlainEnd 1 (codes "usage\n") code written line → IsCall passed EndsSo code written line
  no_memory : IsPlainEnd 7 (codes "out of memory\n") code written line → IsCall passed EndsSo code written line
  called : (words : List (String Global)) (files : List (String Global × Vec ℕ Global)) → ArePassed passed words files
      → EndsSo words files code written line → IsCall passed EndsSo code written line

-- a room is too short: the lengths are those of what a call says
pub record IsShort (Says : ℕ → List ℕ → List ℕ → Type 0) (out line : List ℕ) (out_length line_length : ℕ) : Type 0 where
  pub code : ℕ
  pub written : List ℕ
  pub text : List ℕ
  pub says : Says code written text
  pub out_is : out_length ≡ length written
  pub line_is : line_length ≡ length text
  pub longer : (length out < out_length) ⊎ (length line < line_length)
