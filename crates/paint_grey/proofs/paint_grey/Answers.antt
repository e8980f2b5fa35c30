-- Refused as the painting is, or each word of the painted line is taken to its level.
use Rattle.xosera.specs.Adapter.{adapter_at}
use Rattle.xosera.proofs.Results.{done-refuses, error-refuses, error-handed-on}
use Rattle.paint_grey.proofs.Promised.{grey-refused, grey-done}
use Rattle.paint_grey.proofs.paint_grey.Goals as goal

pub returns-in_err-paint : goal.returns-in_err-paint
returns-in_err-paint c =
    let a = c.args in
    let was = c.in_err-paint.was in
    rw (error-handed-on was _ c.from_residual.ensures.1)
    (grey-refused (adapter_at a.s.now a.vram.now a.xr.now) a.line a.pixels.now c.paint.ensures (error-refuses was))

pub returns : goal.returns
returns c =
    let a = c.args in
    grey-done (adapter_at a.s.now a.vram.now a.xr.now) a.line a.pixels.now c.paint.ensures (done-refuses c.in_ok-paint.was) c.grey_words.ensures
