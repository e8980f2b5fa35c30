-- The refusals in their order: each is given where it applies and those before it do not, and none otherwise.
use mathlib.Core.Path.{◌≡◌, refl}
use mathlib.Core.Bool.{true, cond}
use mathlib.Core.List.{List}
use Prim.Native.Nat.{ℕ}
use native.Mathlib.Omega.{arith}
use lib.ListN.{length}
use Rattle.std.specs.Prelude.{Ok}
use Rattle.std.proofs.lemmas.Bool.Decides.{nat_tests}
use Rattle.xosera.specs.declared.BlitRegs.{BlitRegs}
use Rattle.xosera.specs.Told.{refused}
use Rattle.xosera.specs.Memories.{is_vram_length, Pixel, bad_pixel}
use Rattle.calls.specs.Refusals.{first}
use Rattle.reasons.specs.Account.{why_of}
use Rattle.reasons.specs.WhyCall.{bad_memories, why_refusal, told}
use Rattle.reasons.specs.Claims.{WhyRefusals}

-- Each is tested in its turn.
pub in_order : (m k : ℕ) (p : Pixel) → why_refusal m k p ≡ cond (bad_memories m k) 1 (cond (bad_pixel m p) 15 0)
unfolding why_refusal first
in_order m k p = refl

pub refusals-hold : WhyRefusals
unfolding bad_pixel
refusals-hold = record {
  accepted = λ m p l h k. grind (arith, nat_tests, in_order);
  not-a-length = λ m k p l. grind (arith, nat_tests, in_order);
  lengths_differ = λ m k p d. grind (arith, nat_tests, in_order);
  no-such-nibble = λ m p l h. grind (arith, nat_tests, in_order);
  no-such-word = λ m p l h. grind (arith, nat_tests, in_order);
}

-- Where none applies the memories are as long as a VRAM.
pub accepted-long : (m n : ℕ) (p : Pixel) → why_refusal m n p ≡ 0 → is_vram_length m ≡ true
accepted-long m n p h = grind (arith, nat_tests, in_order)

-- What is told is refused with that number, or is the account.
module _ (r : BlitRegs) (before work : List ℕ) (p : Pixel) where
  pub told-refusal : refused (told r before work p) ≡ why_refusal (length before) (length work) p
  told-refusal = grind (arith, in_order)

  pub told-account : why_refusal (length before) (length work) p ≡ 0 → told r before work p ≡ Ok (why_of r before p)
  told-account h = grind (arith, in_order)
