-- A write in the XR space outside the blitter's registers changes none of them.
use mathlib.Core.Path.{◌≡◌, refl, sym, ap, ◌∙◌}
use mathlib.Core.Bool.{true, false}
use Prim.Native.Nat.{ℕ}
use borrow.Author.Tests.{ne_eqb}
use Rattle.xosera.specs.declared.BlitRegs.{BlitRegs}
use Rattle.xosera.specs.XrSpace.{within, is_blit_register, put, blit_write}
use Rattle.xosera.proofs.Branches.{cond_no, clash}

put-outside : (at a w old : ℕ) → is_blit_register at ≡ true → is_blit_register a ≡ false → put at a w old ≡ old
unfolding put
put-outside at a w old t f = cond_no w old (ne_eqb a at (λ q. clash t (ap is_blit_register (sym q) ∙ f)))

pub blit-write-outside : (r : BlitRegs) (a w : ℕ) → is_blit_register a ≡ false → blit_write r a w ≡ r
unfolding blit_write is_blit_register within
blit-write-outside r a w f = λ i. record {
  ctrl = put-outside 0x40 a w r.ctrl refl f i;
  andc = put-outside 0x41 a w r.andc refl f i;
  xor = put-outside 0x42 a w r.xor refl f i;
  mods = put-outside 0x43 a w r.mods refl f i;
  srcs = put-outside 0x44 a w r.srcs refl f i;
  modd = put-outside 0x45 a w r.modd refl f i;
  dstd = put-outside 0x46 a w r.dstd refl f i;
  shift = put-outside 0x47 a w r.shift refl f i;
  lines = put-outside 0x48 a w r.lines refl f i;
  words = put-outside 0x49 a w r.words refl f i;
}
