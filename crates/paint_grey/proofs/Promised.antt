-- A painting keeps the promise of a grey line if it is refused, and with its words taken to their levels if it is done.
use mathlib.Core.Path.{◌≡◌, sym, ap, ◌∙◌}
use mathlib.Core.List.{List, map}
use Prim.Native.Nat.{ℕ}
use Rattle.xosera.specs.Adapter.{Adapter}
use Rattle.xosera.proofs.Branches.{cond-done, cond-refused}
use Rattle.scanline.specs.PaintCall.{Paints}
use Rattle.scanline.proofs.ClaimsHold.{scanline-claims}
use Rattle.grey.specs.Grey.{grey_level}
use Rattle.paint_grey.specs.GreyLine.{grey_after, PaintsGrey}

module _ (a : Adapter) (line : ℕ) (pixels : List ℕ) {refusal : ℕ} {colours : List ℕ} (painting : Paints a line pixels refusal colours) where
  pub grey-refused : (refusal ≡ 0 → ⊥) → PaintsGrey a line pixels refusal colours
  unfolding grey_after
  grey-refused d = record {
    answers = painting.answers;
    leaves =
        (scanline-claims.calls a line pixels refusal colours painting).refused d
        ∙ sym (cond-refused _ _ painting.answers d);
  }

  pub grey-done : {after : List ℕ} → refusal ≡ 0 → after ≡ map grey_level colours → PaintsGrey a line pixels 0 after
  unfolding grey_after
  grey-done z e = record {
    answers = sym z ∙ painting.answers;
    leaves = e ∙ ap (map grey_level) painting.leaves ∙ sym (cond-done _ _ painting.answers z);
  }
