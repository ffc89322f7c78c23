use Rattle.std.proofs.Common.{rules}
use Rattle.kat_gram.specs.Courses.{machine_at}
use Rattle.kat_walk.specs.Marks.{EndsTaken}
use Rattle.kat_gram.proofs.CourseLemmas.{sound_found, sound_kept}
use Rattle.kat_gram.proofs.enumerating.take_step.Goals as goal

pub returns-in_err-list-clause-sound : goal.returns-in_err-list-clause-sound
returns-in_err-list-clause-sound c = λ s.
    sound_kept c.args.enumeration.now.search.setting c.args.enumeration.now.search.size c.args.enumeration.now.found c.args.enumeration.now.walk c.next_list.new.walk c.requires
    c.next_list.ensures.places c.next_list.ensures.most s

pub returns-in-Some-clause-sound : goal.returns-in-Some-clause-sound
returns-in-Some-clause-sound c = λ s.
    let ends : EndsTaken (machine_at c.args.enumeration.now.search.setting c.args.enumeration.now.search.size) c.args.enumeration.now.walk.stack c.next_list.new.walk.stack = search rules in
    sound_found c.args.enumeration.now.search.setting c.args.enumeration.now.search.size c.args.enumeration.now.found c.from_vec.result c.args.enumeration.now.walk c.next_list.new.walk
    ends c.next_list.ensures.most s

pub returns-in-None-clause-sound : goal.returns-in-None-clause-sound
returns-in-None-clause-sound c = λ s.
    c.go_on.ensures.sound
    (sound_kept c.args.enumeration.now.search.setting c.args.enumeration.now.search.size c.args.enumeration.now.found c.args.enumeration.now.walk c.next_list.new.walk c.requires
    c.next_list.ensures.places c.next_list.ensures.most s)
