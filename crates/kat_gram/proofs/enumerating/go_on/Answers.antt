use Rattle.std.proofs.Common.{◌≡◌, ℕ, ◌+◌, ◌-◌, ◌<◌, ap, arith}
use Rattle.kat_gram.specs.Enumerations.{of_this_size, stream_in}
use Rattle.kat_decoding.specs.Decoded.{is_listed_word}
use Rattle.kat_decoding.specs.Words.{listing_machine}
use Rattle.kat_gram.proofs.EnumerationSteps.{next_size}
use Rattle.kat_gram.proofs.CourseLemmas.{sound_back, sound_open}
use Rattle.kat_walk.specs.Walks.{to_come}
use Rattle.kat_gram.proofs.enumerating.go_on.Goals as goal

pub returns-in-Ok-clause-same : goal.returns-in-Ok-clause-same
returns-in-Ok-clause-same c =
    let l : c.args.enumeration.now.search.size < c.args.enumeration.now.beyond + 1 = omega arith in
    next_size c.args.enumeration.now.search.setting c.args.enumeration.now.search.size (c.args.enumeration.now.beyond + 1) c.args.enumeration.now.found (of_this_size c.args.enumeration.now)
    (to_come (listing_machine c.args.enumeration.now.search.setting (is_listed_word c.args.enumeration.now.search.setting (c.args.enumeration.now.search.size + 1))) c.in-Ok.walk)
    l c.requires.ended c.in-Ok.ensures.all

pub returns-in-Err-clause-same : goal.returns-in-Err-clause-same
returns-in-Err-clause-same c =
    let e : c.args.enumeration.now.search.size + 1 - 1 ≡ c.args.enumeration.now.search.size = omega arith in
    ap
    (λ (k : ℕ). stream_in (record { search = record { setting = c.args.enumeration.now.search.setting; size = k }; beyond = c.args.enumeration.now.beyond; walk = c.args.enumeration.now.walk; found = c.args.enumeration.now.found }))
    e

pub returns-in-Ok-clause-sound : goal.returns-in-Ok-clause-sound
returns-in-Ok-clause-sound c = λ s.
    sound_open c.args.enumeration.now.search.setting (c.args.enumeration.now.search.size + 1) c.args.enumeration.now.found c.in-Ok.walk c.in-Ok.ensures.most c.in-Ok.ensures.places c.requires.none

pub returns-in-Err-clause-sound : goal.returns-in-Err-clause-sound
returns-in-Err-clause-sound c = λ s.
    let n = c.args.enumeration.now.search.size in
    sound_back c.args.enumeration.now.search.setting n (n + 1 - 1) c.args.enumeration.now.found c.args.enumeration.now.walk (omega arith) s
