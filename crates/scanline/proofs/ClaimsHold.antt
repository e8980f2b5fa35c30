-- The claims hold: whole lines and calls from pixels and refusals.
use mathlib.Core.Path.{◌≡◌, refl, sym, ap, ap₂, ◌∙◌}
use mathlib.Core.Bool.{Bool, true, false}
use mathlib.Core.List.{List}
use Prim.Native.Nat.{ℕ, ◌≤◌, ◌<◌}
use native.Mathlib.Omega.{arith}
use lib.ListN.{length, get_or, take}
use lib.Seq.{length-take-le, get_or-take}
use Rattle.scanline.specs.declared.Playfield.{Playfield}
use Rattle.xosera.specs.Memories.{word}
use Rattle.xosera.specs.Adapter.{Side, Adapter}
use Rattle.xosera.proofs.Branches.{cond-done, cond-refused, parts}
use Rattle.scanline.specs.Scanline.{playfield_a, in_window, colour_index, colour, across, painted}
use Rattle.scanline.specs.PaintCall.{screen_width, pixels_after, Paints}
use Rattle.scanline.specs.Claims.{shown_address, Outside, WholeLine, Done, TwoCalls, ScanlineClaims}
use Rattle.scanline.proofs.LineLaws.{across-length, across-at, across-all, across-same}
use Rattle.scanline.proofs.RefusalOrder.{refusals, right-width}
use Rattle.scanline.proofs.RegistersTaken.{ignores}
use Rattle.scanline.proofs.PixelLaws.{one_word, outside, seen, row-alone, blank-alone, blank-index, first-half}

module _ (width : ℕ) (p : Playfield) (xr : List ℕ) where
  abbrev colours : List ℕ → ℕ → ℕ → ℕ
  colours v line x = colour xr (colour_index p v line x)

  whole-line : WholeLine width p xr
  unfolding painted
  whole-line = record {
    size = λ v line. across-length width (colours v line);
    each = λ v line x h. across-at width (colours v line) x h;
    same-group = λ v line m h. across-same width (colours v line) (colours v m) (λ x _. ap (colour xr) (row-alone p v line m x h));
    blank = λ u v line m h. across-same width (colours u line) (colours v m) (λ x _. ap (colour xr) (blank-alone p u v line m x h));
    narrower = λ n v line h.
        let whole = across width (colours v line) in
        across-all n (take n whole) (colours v line) (length-take-le n whole (omega (arith, h, across-length width (colours v line))))
        (λ x k. get_or-take n whole x 0 k ∙ across-at width (colours v line) x (omega (arith, h, k)));
  }

module _ (a : Adapter) (line : ℕ) (pixels : List ℕ) (refusal : ℕ) (after : List ℕ) (c : Paints a line pixels refusal after) where
  calls : Done a line pixels refusal after
  unfolding pixels_after
  calls = record {
    done = λ z. (right-width a line (length pixels) (sym c.answers ∙ z), c.leaves ∙ cond-done _ pixels c.answers z);
    refused = λ d. c.leaves ∙ cond-refused _ pixels c.answers d;
  }

-- A pixel by the word that it shows, if it shows one.
by_word : (p : Playfield) (u v : List ℕ) (line x : ℕ)
    → (in_window p x ≡ true → word u (shown_address p line x) ≡ word v (shown_address p line x)) → colour_index p u line x ≡ colour_index p v line x
by_word p u v line x h = go (in_window p x) refl
  where
    go : (b : Bool) → in_window p x ≡ b → colour_index p u line x ≡ colour_index p v line x
    go true e = (one_word p line x).depends u v (h e)
    go false e = (outside p x e).same u v line line

module _ (a b : Adapter) (line m : ℕ) (pixels others after later : List ℕ) (c : Paints a line pixels 0 after) (d : Paints b m others 0 later) where
  abbrev shows : Adapter → ℕ → List ℕ
  shows e l = painted screen_width (playfield_a e.side.video) e.vram e.side.xr l

  first-line : after ≡ shows a line
  first-line = ((calls a line pixels 0 after c).done refl).1

  second-line : later ≡ shows b m
  second-line = ((calls b m others 0 later d).done refl).1

  two-calls : TwoCalls a b line m after later
  two-calls = record {
    same-group = λ e h.
        first-line ∙ (whole-line screen_width _ a.side.xr).same-group a.vram line m h ∙ ap (λ (x : Adapter). shows x m) e ∙ sym second-line;
    same-pixel = λ e f x k h.
        let one = whole-line screen_width (playfield_a a.side.video) a.side.xr in
        let two = whole-line screen_width (playfield_a b.side.video) b.side.xr in
        ap (λ (l : List ℕ). get_or l x 0) first-line ∙ one.each a.vram line x k
        ∙ ap (colour a.side.xr) (by_word (playfield_a a.side.video) a.vram b.vram line x h)
        ∙ ap₂ (λ (s : Side) (l : ℕ). colour s.xr (colour_index (playfield_a s.video) b.vram l x)) e f
        ∙ sym (two.each b.vram m x k) ∙ ap (λ (l : List ℕ). get_or l x 0) (sym second-line);
  }

-- What lies between the edges is in the window, so what does not is outside.
beside : (p : Playfield) (x : ℕ) → (p.left ≤ x → x < p.right → ⊥) → Outside p x
unfolding in_window
beside p x d = outside p x (go (in_window p x) refl)
  where
    go : (b : Bool) → in_window p x ≡ b → in_window p x ≡ false
    go true e = let h = simp parts at e in absurd (d h.0 h.1)
    go false e = e

pub scanline-claims : ScanlineClaims
scanline-claims = record {
  ignores = ignores;
  one_word = one_word;
  outside = beside;
  blank-index = blank-index;
  seen = seen;
  whole-line = whole-line;
  first-half = first-half;
  refusals = refusals;
  calls = calls;
  two-calls = two-calls;
}
