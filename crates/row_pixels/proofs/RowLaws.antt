-- A row in its window, pixel by pixel: behind each comes the next, and what is seen at a place is the pixel that was painted there.
use Rattle.std.proofs.Common.{◌≡◌, ℕ, ◌+◌, ◌-◌, ◌*◌, ◌/◌, ◌%◌, ◌^◌, ◌<◌, ◌≤◌, Bool, true, false, cond, List, get_or, sym, ap, ◌∙◌, add_assoc, zero-mul, arith}
use native.Mathlib.Decide.{dec_lt}
use Rattle.scanline.specs.declared.Playfield.{Playfield}
use Rattle.xosera.specs.Words.{wrap, nibble}
use Rattle.xosera.specs.Fields.{colour_base, h_repeat}
use Rattle.xosera.specs.Memories.{word}
use Rattle.xosera.proofs.Branches.{cond_either}
use Rattle.xosera.proofs.Quotients.{quotient}
use Rattle.scanline.specs.Scanline.{pixel_at, four_bits, pixels_in_word, pixel_index}
use Rattle.scanline.proofs.LineLaws.{pixel-there}
use Rattle.row_pixels.specs.Fills.{Fills}
use Rattle.row_pixels.specs.RowParts.{pixel_colour, WindowPart, PaintsPixel, PaintedTo, PaintsPixels}
use Rattle.row_pixels.proofs.FillLaws.{fills-none, fills-join, fills_same}

module _ (p : Playfield) (colour : ℕ → ℕ) where
  -- At first nothing is painted.
  pub row-begins : {width from to : ℕ} (l : List ℕ) → WindowPart p width from to → PaintedTo p colour from to 0 from l l
  row-begins {from = from} l w = record {
    on = omega arith;
    within = w.ordered;
    next = λ h. omega (arith, w.starts h);
    fills = fills-none _ from l;
  }

  module _ {from to k x : ℕ} {first l : List ℕ} (done : PaintedTo p colour from to k x first l) where
    -- Pixel k is seen wherever it is painted.
    seen : {r : ℕ} → r ≤ to → r ≤ x + h_repeat p.gfx → (y : ℕ) → x ≤ y → y < r → pixel_at p y ≡ k
    seen within at_most y lo hi =
        let here = done.next (omega (arith, lo, hi, within)) in
        pixel-there p k (y - x) y (omega (arith, here, lo)) (omega (arith, lo, hi, at_most))

    pub pixel-on : {c r : ℕ} {m : List ℕ} → colour k ≡ c → PaintsPixel x to (h_repeat p.gfx) c r l m
        → PaintedTo p colour from to (k + 1) r first m
    pixel-on {c} {r} {m} e one = record {
      on = omega (arith, done.on, one.on);
      within = one.within;
      next = λ h. further (h_repeat p.gfx) (one.whole h) (done.next (omega (arith, h, one.on)));
      fills =
          fills-join _ done.on one.on done.fills
          (fills_same _ _ (λ y lo hi. sym (ap colour (seen one.within one.at_most y lo hi) ∙ e)) one.fills);
    }
      where
        further : (h : ℕ) → r ≡ x + h → x ≡ p.left + k * h → r ≡ p.left + (k + 1) * h
        further h behind there = omega (arith, behind, there)

    -- With the window's end reached, all of it is painted.
    pub row_ends : to ≤ x → Fills from to (λ y. colour (pixel_at p y)) first l
    row_ends h =
        let end : x ≡ to = omega (arith, h, done.within) in
        rw end at done.fills

-- The pixels of a word one after another.
module _ (p : Playfield) (colours : List ℕ) (w : ℕ) {x to : ℕ} {l : List ℕ} where
  pub next-pixel : {n r s : ℕ} {m q : List ℕ} → PaintsPixels p colours w n x to r l m
      → PaintsPixel r to (h_repeat p.gfx) (get_or colours (pixel_index p w n) 0) s m q → PaintsPixels p colours w (n + 1) x to s l q
  next-pixel {n} {r} {s} some one = record {
    on = omega (arith, some.on, one.on);
    further = λ _ h. beyond h (dec_lt s to);
    row = λ colour from k first each done.
        rw (sym (add_assoc k n 1))
        (pixel-on p colour (some.row colour from k first (λ i h. each i (omega (arith, h))) done) (each n (omega arith)) one);
  }
    where
      beyond : x < to → Dec (s < to) → x < s
      beyond h (yes k) = omega (arith, some.on, one.whole k)
      beyond h (no k) = omega (arith, h, k)

-- A word has one pixel at least.
pub pixels-some : (p : Playfield) → 0 < pixels_in_word p
unfolding pixels_in_word
pixels-some p = cond_either (λ (n : ℕ). 0 < n) (four_bits p) 4 2 (omega arith) (omega arith)

-- A pixel by its word and its number there.
module _ (p : Playfield) (j i : ℕ) (small : i < pixels_in_word p) where
  in-word : (w : ℕ) → pixel_index p w (j * pixels_in_word p + i) ≡ pixel_index p w i
  unfolding pixel_index pixels_in_word
  in-word w = by (four_bits p) small
    where
      by : (four : Bool) → i < cond four 4 2
          → cond four (colour_base p.gfx / 16 * 16 + nibble (3 - (j * cond four 4 2 + i) % 4) w) (w / 256 ^ (1 - (j * cond four 4 2 + i) % 2) % 256)
          ≡ cond four (colour_base p.gfx / 16 * 16 + nibble (3 - i % 4) w) (w / 256 ^ (1 - i % 2) % 256)
      by true h = ap (λ (n : ℕ). colour_base p.gfx / 16 * 16 + nibble (3 - n) w) (omega arith)
      by false h = ap (λ (n : ℕ). w / 256 ^ (1 - n) % 256) (omega arith)

  pub colour-in-word : (vram colours : List ℕ) (row : ℕ)
      → pixel_colour p vram colours row (j * pixels_in_word p + i) ≡ get_or colours (pixel_index p (word vram (wrap row j)) i) 0
  unfolding pixel_colour
  colour-in-word vram colours row =
      ap (λ (n : ℕ). get_or colours (pixel_index p (word vram (wrap row n)) (j * pixels_in_word p + i)) 0) (quotient j (pixels_in_word p) i small)
      ∙ ap (λ (n : ℕ). get_or colours n 0) (in-word (word vram (wrap row j)))

-- A row painted up to x, whose next word is at an address.
pub record Along (p : Playfield) (vram colours : List ℕ) (row from to x at : ℕ) (before after : List ℕ) : Type 0 where
  pub words : ℕ
  pub there : at ≡ wrap row words
  pub done : PaintedTo p (pixel_colour p vram colours row) from to (words * pixels_in_word p) x before after

module _ (p : Playfield) (vram colours : List ℕ) (row : ℕ) {from to : ℕ} {first : List ℕ} where
  pub along-begins : {width : ℕ} → row < 65536 → WindowPart p width from to → Along p vram colours row from to from row first first
  unfolding wrap
  along-begins h w = record {
    words = 0;
    there = omega (arith, h);
    done = rw (zero-mul (pixels_in_word p)) (row-begins p (pixel_colour p vram colours row) first w);
  }

  -- Word by word.
  pub along-next : {x at w next r : ℕ} {l m : List ℕ} → Along p vram colours row from to x at first l → w ≡ word vram at
      → PaintsPixels p colours w (pixels_in_word p) x to r l m → next ≡ (at + 1) % 65536 → Along p vram colours row from to r next first m
  unfolding wrap
  along-next a read one moved =
      let j = a.words in
      let more : j * pixels_in_word p + pixels_in_word p ≡ (j + 1) * pixels_in_word p = omega arith in
      let word-j = read ∙ ap (word vram) a.there in
      record {
        words = j + 1;
        there = omega (arith, a.there, moved);
        done = rw (sym more) (one.row (pixel_colour p vram colours row) from (j * pixels_in_word p) first
            (λ i h. colour-in-word p j i h vram colours row ∙ ap (λ (n : ℕ). get_or colours (pixel_index p n i) 0) (sym word-j)) a.done);
      }
