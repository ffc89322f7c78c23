use Rattle.std.specs.Str.Parse.{without_leading_plus}
use Rattle.kat_words.proofs.Numerals.{number_none, number_some}
use Rattle.kat_words.proofs.numbers.number_of.Goals as goal

pub returns-in-Ok-clause-is : goal.returns-in-Ok-clause-is
returns-in-Ok-clause-is c =
    number_some (without_leading_plus c.args.word.now) c.args.least c.args.most c.in-Ok.number c.parse.result c.parse.ensures.value.0 c.in-Ok.is
    c.if-least-number.true c.if-number-most.true

pub returns-in_default-3-clause-is : goal.returns-in_default-3-clause-is
returns-in_default-3-clause-is c =
    number_none (without_leading_plus c.args.word.now) c.args.least c.args.most c.in_default.field-0 c.parse.result c.parse.ensures.value.0 c.in_default.is c.ranges.most.fits
