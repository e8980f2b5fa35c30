-- i events are behind, each answered in its place, and the rest are ahead.
use Rattle.std.proofs.Common.{◌<◌, length, arith, rules}
use Rattle.std.proofs.lemmas.List.{get_or_default}
use Rattle.sequence.proofs.Playing.{playing-put, playing-done}
use Rattle.sequence.proofs.play.Goals as goal

-- What was played and what was put are facts to show, so that a wrong event or answer is refused for that.
pub loop-i-preserved : goal.loop-i-preserved
loop-i-preserved c =
    let more = c.loop-i-test.true in
    let room : c.loop-i.i < length c.loop-i.answers = omega (arith, more, c.loop-i.auto.answers, c.requires) in
    playing-put _ _ _ c.loop-i.invariant more room c.apply.ensures (grind (arith, more, get_or_default)) (search rules)

pub returns : goal.returns
returns c =
    let over = c.loop-i-test.false in
    playing-done c.loop-i.invariant over (omega (arith, over, c.loop-i.auto.answers, c.requires))
