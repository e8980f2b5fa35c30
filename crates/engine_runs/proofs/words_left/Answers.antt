-- The rest of the line, and the lines after it, fewer than 32,768 times 65,536 words.
use Rattle.std.proofs.Common.{◌≤◌, ◌+◌, ◌*◌, ◌-◌, sym, arith}
use native.Mathlib.Nat.{mul-le-mul_right}
use Rattle.xosera.proofs.EngineLaws.{left-counts}
use Rattle.engine_runs.proofs.words_left.Goals as goal

pub returns : goal.returns
returns c =
    let e = c.args.blit.engine in
    let runs = c.args.blit.running in
    let lines : (e.regs.lines - e.line) * (e.regs.words + 1) ≤ 32767 * (e.regs.words + 1) =
    mul-le-mul_right (e.regs.words + 1) (omega (arith, runs.lines-within)) in
    (sym (left-counts e runs), omega (arith, lines))
