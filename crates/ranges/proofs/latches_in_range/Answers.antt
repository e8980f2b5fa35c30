-- Four times four bytes.
use mathlib.Core.Path.{ap₂, ◌∙◌}
use mathlib.Core.Bool.{◌&&◌}
use Rattle.xosera.specs.State.{words_from, word_at, state_at}
use Rattle.ranges.proofs.LaneTests.{four-none, bytes-append}
use Rattle.ranges.proofs.latches_in_range.Goals as goal

pub returns : goal.returns
unfolding state_at
returns c =
    let word = word_at c.args.s.now in
    four-none c.high_bytes.result c.high_bytes-2.result c.high_bytes-3.result c.high_bytes-4.result c.high_bytes.ensures
    c.high_bytes-2.ensures c.high_bytes-3.ensures c.high_bytes-4.ensures
    ∙ ap₂ ◌&&◌ (bytes-append (words_from 4 0 word) (words_from 4 4 word)) (bytes-append (words_from 4 8 word) (words_from 4 12 word))
    ∙ bytes-append (words_from 8 0 word) (words_from 8 8 word)
