-- Which registers a line is painted by.
use mathlib.Core.Path.{◌≡◌, refl}
use mathlib.Core.Bool.{cond}
use mathlib.Core.List.{List}
use Prim.Native.Nat.{ℕ, ◌+◌, ◌-◌, ◌%◌}
use native.Mathlib.Omega.{arith}
use lib.Dec.{eqb}
use lib.ListN.{get_or, set}
use lib.Seq.{get_or-set_other}
use borrow.Author.Tests.{eqb-true, eqb-false, ne_eqb}
use Rattle.xosera.specs.State.{Video}
use Rattle.xosera.specs.XrSpace.{within, put, video_write}
use Rattle.xosera.proofs.Branches.{cond_no, cond_cases, or-eq-false-iff, parts}
use Rattle.scanline.specs.Scanline.{playfield_a}
use Rattle.scanline.specs.Claims.{is_taken, Ignores}

-- Another register of playfield A stays.
another : (pa : List ℕ) (a w k : ℕ) → (a ≡ 0x10 + k → ⊥) → get_or (cond (within 0x10 7 a) (set pa (a - 0x10) w) pa) k 0 ≡ get_or pa k 0
unfolding within
another pa a w k d =
    cond_cases (λ (l : List ℕ). get_or l k 0 ≡ get_or pa k 0) (within 0x10 7 a) (set pa (a - 0x10) w) pa
    (λ h. get_or-set_other pa (a - 0x10) k w 0 (λ e. d (omega (arith, (simp parts at h).0, e)))) (λ _. refl)

module _ (v : Video) (a w : ℕ) where
  -- Each field stays by itself.
  kept : (a ≡ 0x00 → w % 256 ≡ v.vidctrl % 256) → (a ≡ 0x04 → ⊥) → (a ≡ 0x05 → ⊥) → (a ≡ 0x10 → ⊥) → (a ≡ 0x12 → ⊥) → (a ≡ 0x13 → ⊥)
      → playfield_a (video_write v a w) ≡ playfield_a v
  unfolding playfield_a video_write put
  kept border left right gfx address length = λ i. record {
    border =
        cond_cases (λ (n : ℕ). n % 256 ≡ v.vidctrl % 256) (eqb a 0x00) w v.vidctrl (λ h. border (eqb-true a 0x00 h)) (λ _. refl) i;
    left = cond_no w v.vidleft (ne_eqb a 0x04 left) i;
    right = cond_no w v.vidright (ne_eqb a 0x05 right) i;
    gfx = another v.pa a w 0 gfx i;
    address = record { 0 = another v.pa a w 2 address i };
    length = another v.pa a w 3 length i;
  }

pub ignores : (v : Video) → Ignores v
unfolding is_taken
ignores v = record {
  others = λ a w h.
      let five = (or-eq-false-iff _ (eqb a 0x13)).0 h in
      let four = (or-eq-false-iff _ (eqb a 0x12)).0 five.0 in
      let three = (or-eq-false-iff _ (eqb a 0x10)).0 four.0 in
      let two = (or-eq-false-iff _ (eqb a 0x05)).0 three.0 in
      let one = (or-eq-false-iff (eqb a 0x00) (eqb a 0x04)).0 two.0 in
      kept v a w (λ e. absurd (eqb-false a 0x00 one.0 e)) (eqb-false a 0x04 one.1) (eqb-false a 0x05 two.1)
      (eqb-false a 0x10 three.1) (eqb-false a 0x12 four.1) (eqb-false a 0x13 five.1);
  upper-bits = λ w h.
      kept v 0x00 w (λ _. h) (λ e. absurd (omega (arith, e))) (λ e. absurd (omega (arith, e))) (λ e. absurd (omega (arith, e)))
      (λ e. absurd (omega (arith, e))) (λ e. absurd (omega (arith, e)));
}
