-- Three tests one after the other are one test.
use Rattle.std.proofs.Common.{◌≡◌, ℕ, Bool, true, false, ◌&&◌, List, [], ◌∷◌, refl, sym, ◌∙◌, ap, if◌then◌else◌, filter}
use Rattle.kat_machine.specs.Ascent.{may_ascend}
use Rattle.kat_decoding.specs.Room.{has_room}
use Rattle.kat_decoding.specs.Keeps.{is_kept}
use Rattle.kat_decoding.specs.Unread.{can_be_read}
use Rattle.kat_rules.specs.declared.constants.Setting.{Setting}
use Rattle.kat_machine.specs.declared.modes.Place.{Place}
use Rattle.kat_machine.specs.declared.ascent.LatestComponent.{LatestComponent}
use Rattle.kat_rules.specs.declared.tokens.Token.{Token}

both_if : {T : Type 0} (g : T → Bool) (b : Bool) (t : T) (ts : List T) → filter g (if b then t ∷ ts else ts) ≡ (if b && g t then t ∷ filter g ts else filter g ts)
both_if g true t ts = refl
both_if g false t ts = refl

twice : {T : Type 0} (f g : T → Bool) (ts : List T) → filter g (filter f ts) ≡ filter (λ t. f t && g t) ts
twice f g [] = refl
twice {T} f g (t ∷ ts) = both_if g (f t) t (filter f ts) ∙ ap (λ (l : List T). if f t && g t then t ∷ l else l) (twice f g ts)

pub kept_once : (x : Setting) (p : Place) (left : ℕ) (flags : List Bool) (latest : LatestComponent) (tokens : List Token)
    → filter (is_kept x p left flags latest) tokens ≡ filter (may_ascend latest) (filter (can_be_read x p left flags) (filter (has_room x p left) tokens))
kept_once x p left flags latest tokens =
    sym (ap (filter (may_ascend latest)) (twice (has_room x p left) (can_be_read x p left flags) tokens)
    ∙ twice (λ t. has_room x p left t && can_be_read x p left flags t) (may_ascend latest) tokens
    ∙ same_tests (λ t. (has_room x p left t && can_be_read x p left flags t) && may_ascend latest t) (is_kept x p left flags latest) (λ t. and_assoc (has_room x p left t) (can_be_read x p left flags t) (may_ascend latest t)) tokens)
  where
    and_assoc : (a b c : Bool) → (a && b) && c ≡ a && (b && c)
    and_assoc true b c = refl
    and_assoc false b c = refl

    same_tests : (f g : Token → Bool) → ((t : Token) → f t ≡ g t) → (ts : List Token) → filter f ts ≡ filter g ts
    same_tests f g h [] = refl
    same_tests f g h (t ∷ ts) = ap (λ (b : Bool). if b then t ∷ filter f ts else filter f ts) (h t) ∙ ap (λ (l : List Token). if g t then t ∷ l else l) (same_tests f g h ts)
