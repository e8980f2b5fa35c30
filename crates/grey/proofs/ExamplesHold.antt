-- The examples compute.
use mathlib.Core.Path.{refl}
use Rattle.xosera.specs.Words.{nibble}
use Rattle.grey.specs.Grey.{level, grey_level}
use Rattle.grey.specs.LevelTable.{level_in}
use Rattle.grey.specs.Examples.{GreyExamples}

pub grey-examples : GreyExamples
unfolding level grey_level level_in nibble
grey-examples = record { primaries = refl; halves = refl; in_words = refl }
