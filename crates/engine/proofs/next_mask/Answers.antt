-- The mask has four bits, so it comes back whole.
use Rattle.std.proofs.Common.{◌≡◌, ◌%◌, ap, ◌∙◌, arith}
use Rattle.xosera.specs.Blitter.{sourced, write_mask, drawing}
use Rattle.xosera.proofs.EngineLaws.{write-mask-small}
use Rattle.engine.proofs.next_mask.Goals as goal

pub returns : goal.returns
unfolding drawing
returns c =
    let e = c.args.e in
    let s = c.source.result in
    let whole : write_mask e s % 16 ≡ write_mask e s = omega (arith, write-mask-small e s) in
    c.gathered.ensures (write_mask e s) c.write_bits.ensures ∙ whole
    ∙ ap (write_mask e) (c.source.ensures ∙ ap (sourced e) c.fetch-word.ensures)
