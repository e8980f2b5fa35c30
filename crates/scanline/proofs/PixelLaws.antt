-- What the colour index of a pixel depends on.
use mathlib.Core.Path.{◌≡◌, ap, ◌∙◌}
use mathlib.Core.Bool.{true, false}
use mathlib.Core.List.{List}
use Prim.Native.Nat.{ℕ, ◌+◌, ◌*◌, ◌-◌, ◌/◌, ◌%◌, ◌^◌, ◌≤◌, ◌<◌}
use native.Mathlib.Omega.{arith}
use lib.Bits.{bit_xor, xor_lt}
use lib.ListN.{set, length-set}
use lib.Seq.{get_or-set_other}
use borrow.Author.Tests.{le-leb, lt-ltb}
use Rattle.scanline.specs.declared.Playfield.{Playfield}
use Rattle.xosera.specs.Words.{wrap, nibble}
use Rattle.xosera.specs.Fields.{colour_base, is_blank, v_repeat}
use Rattle.xosera.specs.Memories.{place, word}
use Rattle.xosera.proofs.Branches.{cond_yes, cond_no, cond_either, and_both}
use Rattle.scanline.specs.Scanline.{row_start, in_window, pixel_at, four_bits, pixels_in_word, pixel_address, pixel_index, colour_index}
use Rattle.scanline.specs.Claims.{row_address, shown_address, OneWord, Outside, Shows, Seen}
use Rattle.scanline.proofs.LineLaws.{pixel-there}

-- Wrapping twice is wrapping the whole sum.
wrapped : (a b c : ℕ) → wrap (wrap a b) c ≡ (a + b + c) % 65536
unfolding wrap
wrapped a b c = omega arith

module _ (p : Playfield) (line : ℕ) where
  word_address : (pixel : ℕ) → pixel_address p line pixel ≡ row_address p line (pixel / pixels_in_word p)
  unfolding pixel_address row_start
  word_address pixel = wrapped p.address.0 (line / v_repeat p.gfx * p.length) (pixel / pixels_in_word p)

  module _ (x : ℕ) where
    same_word : (u v : List ℕ) → word u (shown_address p line x) ≡ word v (shown_address p line x) → colour_index p u line x ≡ colour_index p v line x
    unfolding colour_index
    same_word u v h = rw h

    stored-elsewhere : (v : List ℕ) (i w : ℕ) → (place v (shown_address p line x) ≡ i → ⊥)
        → word (set v i w) (shown_address p line x) ≡ word v (shown_address p line x)
    unfolding word place
    stored-elsewhere v i w d = rw (length-set v i w) (get_or-set_other v i _ w 0 d)

    pub one_word : OneWord p line x
    unfolding pixel_at
    one_word = record {
      depends = same_word;
      elsewhere = λ v i w d. same_word (set v i w) v (stored-elsewhere v i w d);
      which = word_address (pixel_at p x);
    }

-- Outside the window neither VRAM nor the line is looked at.
pub outside : (p : Playfield) (x : ℕ) → in_window p x ≡ false → Outside p x
unfolding colour_index
outside p x h = record { same = λ u v line m. rw h; border = λ v line b. cond_no _ _ b ∙ cond_no _ _ h }

-- A line is looked at by its row alone, under blank not even that.
pub row-alone : (p : Playfield) (v : List ℕ) (line m x : ℕ) → line / v_repeat p.gfx ≡ m / v_repeat p.gfx → colour_index p v line x ≡ colour_index p v m x
unfolding colour_index pixel_address row_start
row-alone p v line m x h = rw h

pub blank-alone : (p : Playfield) (u v : List ℕ) (line m x : ℕ) → is_blank p.gfx ≡ true → colour_index p u line x ≡ colour_index p v m x
unfolding colour_index
blank-alone p u v line m x b = rw b

pub blank-index : (p : Playfield) (v : List ℕ) (line x : ℕ) → is_blank p.gfx ≡ true → colour_index p v line x ≡ bit_xor p.border (p.gfx / 256)
unfolding colour_index
blank-index p v line x b = cond_yes _ _ b

-- Inside the window and not blank.
in_window_lem : (p : Playfield) (x : ℕ) → p.left ≤ x → x < p.right → in_window p x ≡ true
unfolding in_window
in_window_lem p x l r = and_both (le-leb p.left x l) (lt-ltb x p.right r)

pub inside-index : (p : Playfield) (v : List ℕ) (line x : ℕ) → is_blank p.gfx ≡ false → p.left ≤ x → x < p.right
    → colour_index p v line x ≡ pixel_index p (word v (shown_address p line x)) (pixel_at p x)
unfolding colour_index
inside-index p v line x b l r = rw (b, in_window_lem p x l r)

-- The index by the depth.
four-index : (p : Playfield) (w k : ℕ) → four_bits p ≡ true → pixel_index p w k ≡ p.gfx / 4096 * 16 + nibble (3 - k % 4) w
unfolding pixel_index
four-index p w k d =
    let base : colour_base p.gfx / 16 * 16 ≡ p.gfx / 4096 * 16 = omega arith in
    cond_yes _ _ d ∙ ap (λ (n : ℕ). n + nibble (3 - k % 4) w) base

eight-index : (p : Playfield) (w k : ℕ) → four_bits p ≡ false → pixel_index p w k ≡ w / 256 ^ (1 - k % 2) % 256
unfolding pixel_index
eight-index p w k d = cond_no _ _ d

-- A word of the row at the place where one of its pixels is seen.
module _ (p : Playfield) (v : List ℕ) (line j pixel x : ℕ) (s : Shows p j pixel x) where
  abbrev number : ℕ
  number = j * pixels_in_word p + pixel

  at : pixel_at p x ≡ number
  at = pixel-there p number s.part x s.there s.in-pixel

  found : colour_index p v line x ≡ pixel_index p (word v (row_address p line (number / pixels_in_word p))) number
  found =
      inside-index p v line x s.not-blank (omega (arith, s.there)) s.inside
      ∙ ap (λ (k : ℕ). pixel_index p (word v (pixel_address p line k)) k) at
      ∙ ap (λ (a : ℕ). pixel_index p (word v a) number) (word_address p line number)

  pub seen : Seen p v line j pixel x
  unfolding pixels_in_word
  seen = record {
    four = λ d.
        let n : pixels_in_word p ≡ 4 = cond_yes 4 2 d in
        let small : pixel < 4 = omega (arith, n, s.in-word) in
        let first : (j * 4 + pixel) / 4 ≡ j = omega (arith, small) in
        let rest : (j * 4 + pixel) % 4 ≡ pixel = omega (arith, small) in
        found ∙ four-index p _ number d ∙ rw (d, first, rest);
    eight = λ d.
        let n : pixels_in_word p ≡ 2 = cond_no 4 2 d in
        let small : pixel < 2 = omega (arith, n, s.in-word) in
        let first : (j * 2 + pixel) / 2 ≡ j = omega (arith, small) in
        let rest : (j * 2 + pixel) % 2 ≡ pixel = omega (arith, small) in
        found ∙ eight-index p _ number d ∙ rw (d, first, rest);
  }

-- Every index is a byte.
nibble-below : (k w : ℕ) → nibble k w < 16
unfolding nibble
nibble-below k w = mod_below (w / 16 ^ k)
  where
    mod_below : (n : ℕ) → n % 16 < 16
    mod_below n = omega arith

byte-below : (n : ℕ) → n % 256 < 256
byte-below n = omega arith

pub index_below : (p : Playfield) (w pixel : ℕ) → p.gfx < 65536 → pixel_index p w pixel < 256
unfolding pixel_index
index_below p w pixel h =
    cond_either (λ (n : ℕ). n < 256) (four_bits p) _ _
    (omega (arith, h, nibble-below (3 - pixel % 4) w)) (byte-below (w / 256 ^ (1 - pixel % 2)))

pub first-half : (p : Playfield) (v : List ℕ) (line x : ℕ) → p.border < 256 → p.gfx < 65536 → colour_index p v line x < 256
unfolding colour_index
first-half p v line x b g =
    cond_either (λ (n : ℕ). n < 256) (is_blank p.gfx) _ _ (xor_lt 8 p.border (colour_base p.gfx) b (omega (arith, g)))
    (cond_either (λ (n : ℕ). n < 256) (in_window p x) _ _ (index_below p _ (pixel_at p x) g) b)
