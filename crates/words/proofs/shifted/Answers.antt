-- The pair of words shifted as one number, at each of the four shifts.
use mathlib.Core.Path.{◌≡◌}
use Prim.Native.Nat.{ℕ, ◌+◌, ◌*◌, ◌-◌, ◌/◌, ◌%◌, ◌^◌, ◌<◌}
use native.Mathlib.Omega.{arith}
use Rattle.xosera.specs.Words.{shifted}
use Rattle.xosera.proofs.Tables.{◌and◌, below_each}
use Rattle.words.proofs.shifted.Goals as goal

pair-shifted : (before s : ℕ) → s < 65536 → (k : ℕ) → k < 4 → (before * 65536 + s) / 2 ^ (k * 4) % 65536 ≡ shifted k before s
unfolding shifted
pair-shifted before s h =
    below_each (λ (k : ℕ). (before * 65536 + s) / 2 ^ (k * 4) % 65536 ≡ before % 16 ^ k * 16 ^ (4 - k) + s / 16 ^ k) 4
    (omega arith and omega arith and omega arith and omega arith and tt)

pub returns : goal.returns
returns c = pair-shifted c.args.before c.args.s c.ranges.s.fits (c.args.shift % 4) (omega arith)
