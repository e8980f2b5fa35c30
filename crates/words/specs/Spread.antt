-- A nibble mask as a mask of 16 bits.
use Rattle.std.specs.Prelude.{cond, ℕ, ◌+◌}
use Rattle.xosera.specs.Words.{bit}

-- Each of the mask's four bits four times, over the nibble that it guards.
unfoldable pub spread : ℕ → ℕ
spread m = cond (bit 3 m) 0xF000 0 + cond (bit 2 m) 0x0F00 0 + cond (bit 1 m) 0x00F0 0 + cond (bit 0 m) 0x000F 0
