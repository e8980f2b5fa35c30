-- Refused by 1 to 3, then by 11 to 13, or the line is painted.
use Rattle.std.proofs.Common.{◌≡◌, refl}
use Rattle.xosera.specs.State.{state_at}
use Rattle.xosera.proofs.Results.{done-refuses, error-refuses, error-handed-on}
use Rattle.calls.specs.Refusals.{Fit}
use Rattle.xosera.specs.Adapter.{adapter_at}
use Rattle.refusals.proofs.RefusalOrder.{passed-fit}
use Rattle.paint.proofs.Promised.{paint-lent, paint-refused, paint-done}
use Rattle.paint.proofs.paint.Goals as goal
use Rattle.paint.proofs.paint.Goals.{In_ok-tested_refusal}

-- With none of 1 to 3 the memories are as long as they should be.
fit : (c : In_ok-tested_refusal) → let a = c.args in Fit (adapter_at a.s.now a.vram.now a.xr.now)
fit c = passed-fit (state_at c.args.s.now) _ _ refl refl c.tested_refusal.ensures (done-refuses c.in_ok-tested_refusal.was)

pub returns-in_err-tested_refusal : goal.returns-in_err-tested_refusal
returns-in_err-tested_refusal c =
    let a = c.args in
    let was = c.in_err-tested_refusal.was in
    rw (error-handed-on was _ c.from_residual.ensures.1)
    (paint-lent a.s.now a.vram.now a.xr.now a.line a.pixels.now c.tested_refusal.ensures (error-refuses was))

pub returns-in_err-paint_refusal : goal.returns-in_err-paint_refusal
returns-in_err-paint_refusal c =
    let a = c.args in
    let was = c.in_err-paint_refusal.was in
    rw (error-handed-on was _ c.from_residual-in_err-paint_refusal.ensures.1)
    (paint-refused a.s.now a.vram.now a.xr.now a.line a.pixels.now c.tested_refusal.ensures (done-refuses c.in_ok-tested_refusal.was)
    c.playfield_a-p.ensures c.paint_refusal.ensures (error-refuses was))

pub unwrap-requires : goal.unwrap-requires
unwrap-requires c = c.as_array.ensures.variant.1 (fit (goal.at.unwrap-requires c).In_ok-tested_refusal).xr

pub paint_line-requires : goal.paint_line-requires
paint_line-requires c = (fit (goal.at.paint_line-requires c).In_ok-tested_refusal).vram

pub returns : goal.returns
returns c =
    let a = c.args in
    let same : c.unwrap.result.now ≡ a.xr.now = (rw c.unwrap.ensures at c.as_array.ensures.cases).same in
    paint-done a.s.now a.vram.now a.xr.now a.line a.pixels.now c.tested_refusal.ensures (done-refuses c.in_ok-tested_refusal.was)
    c.playfield_a-p.ensures c.paint_refusal.ensures (done-refuses c.in_ok-paint_refusal.was) (rw same at c.paint_line.ensures)
