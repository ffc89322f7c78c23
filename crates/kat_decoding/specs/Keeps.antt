-- Used inside only.
-- Which tokens a listing's search keeps.
use Rattle.std.specs.Prelude.{ℕ, Bool, ◌&&◌, List}
use Rattle.kat_machine.specs.Ascent.{may_ascend}
use Rattle.kat_decoding.specs.Room.{has_room}
use Rattle.kat_decoding.specs.Unread.{can_be_read}
use Rattle.kat_rules.specs.declared.constants.Setting.{Setting}
use Rattle.kat_machine.specs.declared.modes.Place.{Place}
use Rattle.kat_machine.specs.declared.ascent.LatestComponent.{LatestComponent}
use Rattle.kat_rules.specs.declared.tokens.Token.{Token}

-- all three tests at once
abbrev pub is_kept : Setting → Place → ℕ → List Bool → LatestComponent → Token → Bool
is_kept x p left flags latest t = has_room x p left t && (can_be_read x p left flags t && may_ascend latest t)
