-- The ranges of the XR space, and what lies in none of them.
use mathlib.Core.Path.{◌≡◌, ◌∙◌}
use mathlib.Core.Bool.{false, and-false}
use mathlib.Core.List.{List}
use Prim.Native.Nat.{ℕ, ◌+◌, ◌≤◌, ◌<◌}
use native.Mathlib.Omega.{arith}
use borrow.Author.Tests.{lt-leb, le-ltb}
use lib.Dec.{leb}
use lib.ListN.{get_or, take, drop, get_or-eq_default}
use lib.Seq.{get_or-take, get_or-drop}
use Rattle.std.proofs.lemmas.Bool.Decides.{nat_tests}
use Rattle.xosera.specs.State.{Video, Beam}
use Rattle.xosera.specs.XrSpace.{within, low_registers, register_read}

-- A range that does not hold the address.
pub below-range : (base n a : ℕ) → a < base → within base n a ≡ false
unfolding within
below-range base n a h = rw (lt-leb base a h)

pub above-range : (base n a : ℕ) → base + n ≤ a → within base n a ≡ false
unfolding within
above-range base n a h = rw (le-ltb a (base + n) h) (and-false (leb base a))

-- No register reads back from 0x20 on.
pub no_register : (v : Video) (b : Beam) (a : ℕ) → 0x20 ≤ a → register_read v b a ≡ 0
unfolding register_read
no_register v b a h =
    rw (above-range 0x10 7 a (omega arith), above-range 0x18 7 a (omega arith)) (get_or-eq_default (low_registers v b) 0 {n = a} (omega arith))

-- A word of a part is one of the whole.
pub part-word : (xs : List ℕ) (from n i : ℕ) → i < n → get_or (take n (drop from xs)) i 0 ≡ get_or xs (from + i) 0
part-word xs from n i h = get_or-take n (drop from xs) i 0 h ∙ get_or-drop from xs i 0

-- What tests of a range come to, and that no register is past the registers.
pub ruleset part_tests = (nat_tests, no_register)
