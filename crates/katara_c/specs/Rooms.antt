-- Bytes that are written to a room.
use Rattle.std.specs.Prelude.{◌≡◌, ℕ, ◌<◌, List, length}

-- the bytes are longer than the room, which is as it was, and the length is theirs
pub record IsShort (before after : List ℕ) (count : ℕ) (Fits : List ℕ → Type 0) : Type 0 where
  pub text : List ℕ
  pub fits : Fits text
  pub count_is : count ≡ length text
  pub longer : length before < count
  pub same : after ≡ before
