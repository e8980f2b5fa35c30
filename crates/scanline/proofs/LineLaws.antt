-- A line by its words, of any width; and the pixel of a row at a place.
use mathlib.Core.Path.{◌≡◌, refl, sym, ap, ◌∙◌}
use mathlib.Core.List.{List}
use Prim.Native.Nat.{ℕ, zero, suc, ◌+◌, ◌*◌, ◌-◌, ◌/◌, ◌<◌}
use native.Mathlib.Omega.{arith}
use lib.ListN.{length, get_or}
use lib.Seq.{ext_get_or}
use Rattle.scanline.specs.declared.Playfield.{Playfield}
use Rattle.xosera.specs.State.{words_from}
use Rattle.xosera.specs.Fields.{h_repeat}
use Rattle.xosera.proofs.Quotients.{quotient}
use Rattle.scanline.specs.Scanline.{pixel_at, across}

from-length : (n at : ℕ) (f : ℕ → ℕ) → length (words_from n at f) ≡ n
from-length zero at f = refl
from-length (suc n) at f = ap suc (from-length n (suc at) f)

from_at : (n at : ℕ) (f : ℕ → ℕ) (x : ℕ) → x < n → get_or (words_from n at f) x 0 ≡ f (at + x)
from_at zero at f x h = absurd (omega arith)
from_at (suc n) at f zero h = ap f (omega arith)
from_at (suc n) at f (suc x) h = from_at n (suc at) f x (omega arith) ∙ ap f (omega arith)

module _ (n : ℕ) (f : ℕ → ℕ) where
  pub across-length : length (across n f) ≡ n
  unfolding across
  across-length = from-length n 0 f

  pub across-at : (x : ℕ) → x < n → get_or (across n f) x 0 ≡ f x
  unfolding across
  across-at x h = from_at n 0 f x h ∙ ap f (omega arith)

-- Words that are each what f gives are the line of f.
pub across-all : (n : ℕ) (l : List ℕ) (f : ℕ → ℕ) → length l ≡ n → ((x : ℕ) → x < n → get_or l x 0 ≡ f x) → l ≡ across n f
across-all n l f h each =
    ext_get_or 0 l (across n f) (h ∙ sym (across-length n f))
    (λ x k. let below : x < n = omega (arith, h, k) in each x below ∙ sym (across-at n f x below))

pub across-same : (n : ℕ) (f g : ℕ → ℕ) → ((x : ℕ) → x < n → f x ≡ g x) → across n f ≡ across n g
across-same n f g same = across-all n (across n f) g (across-length n f) (λ x k. across-at n f x k ∙ same x k)

-- The pixel that is seen r native pixels behind k whole ones.
pub pixel-there : (p : Playfield) (k r x : ℕ) → x ≡ p.left + k * h_repeat p.gfx + r → r < h_repeat p.gfx → pixel_at p x ≡ k
unfolding pixel_at
pixel-there p k r x e h =
    ap (λ (n : ℕ). n / h_repeat p.gfx) (behind p.left (k * h_repeat p.gfx) e) ∙ quotient k (h_repeat p.gfx) r h
  where
    behind : (left m : ℕ) → x ≡ left + m + r → x - left ≡ m + r
    behind left m e = omega arith
