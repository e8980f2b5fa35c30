-- A painting that is refused keeps the promise, and so does one that is done; the refusals in their order.
use Rattle.std.proofs.Common.{◌≡◌, ℕ, List, length, sym, refl, ap, ◌∙◌}
use Rattle.scanline.specs.declared.Playfield.{Playfield}
use Rattle.xosera.specs.State.{state_at}
use Rattle.xosera.specs.Adapter.{Adapter, adapter_at}
use Rattle.calls.specs.Refusals.{first}
use Rattle.xosera.proofs.Branches.{cond-done, cond-refused}
use Rattle.refusals.specs.Tested.{lent_refusal}
use Rattle.refusals.proofs.RefusalOrder.{lent-first, lent-passed}
use Rattle.scanline.specs.Scanline.{playfield_a, painted}
use Rattle.scanline.specs.PaintCall.{paint_tests, paint_refusal, pixels_after, Paints}
use Rattle.scanline.proofs.RefusalOrder.{right-width}

module _ (a : Adapter) (line : ℕ) (pixels : List ℕ) where
  refused : {r : ℕ} → r ≡ paint_refusal a line (length pixels) → (r ≡ 0 → ⊥) → Paints a line pixels r pixels
  unfolding pixels_after
  refused h d = record { answers = h; leaves = sym (cond-refused _ pixels h d) }

  done : {after : List ℕ} → paint_refusal a line (length pixels) ≡ 0
      → after ≡ painted (length pixels) (playfield_a a.side.video) a.vram a.side.xr line → Paints a line pixels 0 after
  unfolding pixels_after
  done z e = record {
    answers = sym z;
    leaves =
        e ∙ ap (λ (n : ℕ). painted n (playfield_a a.side.video) a.vram a.side.xr line) (right-width a line (length pixels) z)
        ∙ sym (cond-done _ pixels refl z);
  }

-- With the refusals as the code has them, 1 to 3 first.
module _ (ws v x : List ℕ) (line : ℕ) (pixels : List ℕ) {lent : ℕ} (h : lent ≡ lent_refusal (length v) (length x) (state_at ws)) where
  abbrev here : Adapter
  here = adapter_at ws v x

  pub paint-lent : (lent ≡ 0 → ⊥) → Paints here line pixels lent pixels
  unfolding paint_refusal
  paint-lent d = refused here line pixels (lent-first (state_at ws) v x refl refl h _ d) d

  module _ (z : lent ≡ 0) {p : Playfield} (e : p ≡ playfield_a (state_at ws).video) {r : ℕ} (k : r ≡ first (paint_tests p line (length pixels))) where
    own : r ≡ paint_refusal here line (length pixels)
    unfolding paint_refusal
    own =
        k ∙ ap (λ (q : Playfield). first (paint_tests q line (length pixels))) e
        ∙ sym (lent-passed (state_at ws) v x refl refl h (paint_tests (playfield_a (state_at ws).video) line (length pixels)) z)

    pub paint-refused : (r ≡ 0 → ⊥) → Paints here line pixels r pixels
    paint-refused d = refused here line pixels own d

    pub paint-done : {after : List ℕ} → r ≡ 0 → after ≡ painted (length pixels) p v x line → Paints here line pixels 0 after
    paint-done none f =
        done here line pixels (sym own ∙ none) (f ∙ ap (λ (q : Playfield). painted (length pixels) q v x line) e)
