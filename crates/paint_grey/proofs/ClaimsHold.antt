-- The claims hold: a grey line is the painting of the same line, mapped.
use mathlib.Core.Path.{◌≡◌, sym, ap, ◌∙◌}
use mathlib.Core.List.{List, map}
use Prim.Native.Nat.{ℕ, ◌<◌}
use native.Mathlib.Omega.{arith}
use lib.ListN.{length, get_or}
use Rattle.std.proofs.lemmas.List.{get_or-map}
use Rattle.xosera.specs.Adapter.{Adapter}
use Rattle.xosera.proofs.Branches.{cond-done, cond-refused}
use Rattle.scanline.specs.Scanline.{playfield_a, colour_index, colour, painted}
use Rattle.scanline.specs.PaintCall.{screen_width, paint_refusal, pixels_after, Paints}
use Rattle.scanline.proofs.ClaimsHold.{scanline-claims}
use Rattle.grey.specs.Grey.{grey_level}
use Rattle.grey.proofs.ClaimsHold.{grey-claims}
use Rattle.paint_grey.specs.GreyLine.{grey_after, PaintsGrey}
use Rattle.paint_grey.specs.Claims.{GreyDone, BesidePainting, GreyLineClaims}

module _ (a : Adapter) (line : ℕ) (pixels : List ℕ) (refusal : ℕ) (after : List ℕ) (c : PaintsGrey a line pixels refusal after) where
  -- The line in colours.
  abbrev shown : List ℕ
  shown = painted screen_width (playfield_a a.side.video) a.vram a.side.xr line

  -- A pixel of it.
  abbrev seen : ℕ → ℕ
  seen x = colour a.side.xr (colour_index (playfield_a a.side.video) a.vram line x)

  mapped : refusal ≡ 0 → after ≡ map grey_level shown
  unfolding grey_after pixels_after
  mapped z = c.leaves ∙ cond-done _ _ c.answers z ∙ ap (map grey_level) (cond-done _ _ c.answers z)

  each : refusal ≡ 0 → (x : ℕ) → x < screen_width → get_or after x 0 ≡ grey_level (seen x)
  each z x h =
      let whole = scanline-claims.whole-line screen_width (playfield_a a.side.video) a.side.xr in
      ap (λ (l : List ℕ). get_or l x 0) (mapped z)
      ∙ get_or-map grey_level shown x 0 0 (omega (arith, h, whole.size a.vram line))
      ∙ ap grey_level (whole.each a.vram line x h)

  calls : GreyDone a line pixels refusal after
  unfolding grey_after
  calls = record {
    mapped = mapped;
    each = each;
    at-most-15 = λ z x h. rw (each z x h) (grey-claims.at-most-15 (seen x));
    refused = λ d. c.leaves ∙ cond-refused _ _ c.answers d;
  }

beside : (a : Adapter) (line : ℕ) (pixels others : List ℕ) (refusal painting : ℕ) (after colours : List ℕ) → length pixels ≡ length others
    → PaintsGrey a line pixels refusal after → Paints a line others painting colours → BesidePainting refusal after painting colours
beside a line pixels others refusal painting after colours same g p =
    let alike = g.answers ∙ ap (paint_refusal a line) same ∙ sym p.answers in
    record {
      same-refusal = alike;
      mapped = λ z.
          (calls a line pixels refusal after g).mapped z
          ∙ ap (map grey_level) (sym ((scanline-claims.calls a line others painting colours p).done (sym alike ∙ z)).1);
    }

pub grey-line-claims : GreyLineClaims
grey-line-claims = record { calls = calls; beside-painting = beside }
