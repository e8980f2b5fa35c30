-- At each place of a word.
use Rattle.std.proofs.Common.{◌≡◌, ℕ, ◌+◌, ◌-◌, ◌*◌, ◌/◌, ◌%◌, ◌^◌, ◌<◌, sym, refl, ap, ◌∙◌, arith}
use Rattle.xosera.specs.Fields.{colour_base}
use Rattle.xosera.proofs.Quotients.{nibble-at}
use Rattle.xosera.proofs.Tables.{◌and◌, below_each}
use Rattle.scanline.specs.Scanline.{pixel_index}
use Rattle.row_pixels.proofs.pixel_index.Goals as goal

byte-there : (w k : ℕ) → k < 2 → w / 2 ^ (8 - k * 8) % 256 ≡ w / 256 ^ (1 - k) % 256
byte-there w = below_each (λ (k : ℕ). w / 2 ^ (8 - k * 8) % 256 ≡ w / 256 ^ (1 - k) % 256) 2 (refl and refl and tt)

pub returns-then-four_bits : goal.returns-then-four_bits
unfolding pixel_index
returns-then-four_bits c =
    let four = sym c.four_bits.ensures ∙ c.if-four_bits.true in
    rw (four, c.colour_base.ensures)
    (ap (λ (n : ℕ). colour_base c.args.p.gfx / 16 * 16 + n) (nibble-at 3 c.args.word (c.args.pixel % 4) (omega arith)))

pub returns : goal.returns
unfolding pixel_index
returns c =
    rw (sym c.four_bits.ensures ∙ c.if-four_bits.false) (byte-there c.args.word (c.args.pixel % 2) (omega arith))
