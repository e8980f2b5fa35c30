-- The rule, by one test over the whole table.
use Rattle.xosera.specs.Words.{nibble}
use Rattle.grey.specs.Grey.{level, grey_level}
use Rattle.grey.specs.LevelTable.{level_in}
use Rattle.grey.proofs.TableRule.{holds-tested}
use Rattle.grey.proofs.table.Goals as goal

pub returns : goal.returns
unfolding level_in grey_level level nibble
returns c = holds-tested _ tt
