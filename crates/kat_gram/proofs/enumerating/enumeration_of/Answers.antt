use Rattle.std.proofs.Common.{◌+◌, arith}
use Rattle.kat_decoding.specs.Decoded.{is_listed_word}
use Rattle.kat_decoding.specs.Words.{listing_machine}
use Rattle.kat_gram.proofs.EnumerationSteps.{first_size}
use Rattle.kat_walk.specs.Walks.{to_come}
use Rattle.kat_gram.proofs.enumerating.enumeration_of.Goals as goal

pub returns-clause-all : goal.returns-clause-all
returns-clause-all c =
    first_size c.args.setting (c.args.beyond + 1) (to_come (listing_machine c.args.setting (is_listed_word c.args.setting 1)) c.in_ok-walk.walk) (omega arith) c.in_ok-walk.ensures.all
