-- No length below 256 or above 65,536, and between them the powers of two.
use native.Mathlib.Omega.{arith}
use Rattle.vram.proofs.Powers.{no_length, tested}
use Rattle.vram.proofs.is_vram_length.Goals as goal

pub returns-then-n-lt256 : goal.returns-then-n-lt256
returns-then-n-lt256 c = no_length _ (λ lo hi. absurd (omega (arith, lo, c.if-n-lt256.true)))

pub returns-then-n-gt65536 : goal.returns-then-n-gt65536
returns-then-n-gt65536 c = no_length _ (λ lo hi. absurd (omega (arith, hi, c.if-n-gt65536.true)))

pub returns : goal.returns
returns c = tested _ (omega (arith, c.if-n-lt256.false)) (omega (arith, c.if-n-gt65536.false))
