-- Blank or not, by the first half of colour memory.
use Rattle.std.proofs.Common.{◌≡◌, take, drop, sym, ◌∙◌, arith}
use Rattle.paint.proofs.LinePainted.{half-painted, blank-painted}
use Rattle.paint.proofs.paint_line.Goals as goal

pub returns-then-is_blank : goal.returns-then-is_blank
returns-then-is_blank c =
    let half : c.unwrap-colours.result.now ≡ take 256 (drop 5120 c.args.xr.now) = (rw c.unwrap-colours.ensures at c.as_array.ensures.cases).same in
    blank-painted c.args.playfield c.args.vram.now c.args.xr.now _ _ (omega arith) (omega arith)
    (sym c.is_blank.ensures ∙ c.if-is_blank.true) (rw half at c.paint_blank.ensures)

pub returns-else-is_blank : goal.returns-else-is_blank
returns-else-is_blank c =
    let half : c.unwrap-colours.result.now ≡ take 256 (drop 5120 c.args.xr.now) = (rw c.unwrap-colours.ensures at c.as_array.ensures.cases).same in
    half-painted c.args.playfield c.args.vram.now c.args.xr.now _ _ (omega arith) (omega arith)
    (rw half at c.paint_lit.ensures)
