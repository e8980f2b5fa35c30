-- The engine is the next one, which is fit to go on as this one is.
use Rattle.std.proofs.Common.{◌≡◌, rules, sym, subst}
use Rattle.xosera.specs.Blitter.{next, last_word}
use Rattle.xosera.specs.Ranges.{Running}
use Rattle.xosera.proofs.EngineLaws.{next-running}
use Rattle.engine.proofs.Blit.advance.Goals as goal

pub invariant_of-result : goal.invariant_of-result
unfolding next last_word
invariant_of-result c =
    let b = c.args.self in
    let same : c.if-last_word.engine ≡ next b.engine c.args.word = search rules in
    record { running = subst Running (sym same) (next-running b.engine c.args.word b.running c.requires) }
