-- A packet that isn't there changes no counts.
use Rattle.std.proofs.Common.{◌≡◌, ℕ, ◌≤◌, List, [], ◌∷◌, length, get_or, set, refl, sym, ◌∙◌, ap}
use Rattle.std.proofs.lemmas.List.{get_or_past, set-get_or, set_past}
use Rattle.kat_delta_script.specs.Counted.{parcel_at, raised_by, raised_each}
use Rattle.kat_delta_script.specs.declared.counts.Parcel.{Parcel}
use Rattle.kat_delta_script.specs.declared.counts.Parcel.TheVariants.{Whole}

raised_none : (counts : List ℕ) → raised_each counts [] ≡ counts
raised_none [] = refl
raised_none (count ∷ counts) = refl

pub no_packet : (rows : List (List ℕ)) (packets : List Parcel) (place packet : ℕ) → length packets ≤ packet
    → rows ≡ set rows place (raised_by (get_or rows place []) (parcel_at packets packet))
no_packet rows packets place packet h =
    sym (ap (λ (parcel : Parcel). set rows place (raised_by (get_or rows place []) parcel)) (get_or_past packets packet (Whole []) h)
    ∙ ap (λ (counts : List ℕ). set rows place counts) (raised_none (get_or rows place [])) ∙ set-get_or rows place [])

pub no_replica : (rows : List (List ℕ)) (packets : List Parcel) (place packet : ℕ) → length rows ≤ place
    → rows ≡ set rows place (raised_by (get_or rows place []) (parcel_at packets packet))
no_replica rows packets place packet h = sym (set_past rows place (raised_by (get_or rows place []) (parcel_at packets packet)) h)
