-- A part that is filled, word by word and part by part.
use Rattle.std.proofs.Common.{◌≡◌, ℕ, ◌<◌, ◌≤◌, List, length, get_or, refl, ◌∙◌, arith}
use native.Mathlib.Decide.{dec_lt}
use Rattle.scanline.specs.Scanline.{across}
use Rattle.scanline.proofs.LineLaws.{across-all}
use Rattle.row_pixels.specs.Fills.{Fills}

module _ (f : ℕ → ℕ) where
  pub fills-none : (n : ℕ) (l : List ℕ) → Fills n n f l l
  fills-none n l = record {
    same_length = refl;
    filled = λ x h k. absurd (omega (arith, h, k));
    before-it = λ x h. refl;
    behind-it = λ x h. refl;
  }

  -- One part and the next.
  module _ {a b c : ℕ} {l m n : List ℕ} where
    pub fills-join : a ≤ b → b ≤ c → Fills a b f l m → Fills b c f m n → Fills a c f l n
    fills-join p q one two = record {
      same_length = two.same_length ∙ one.same_length;
      filled = λ x lo hi. side x lo hi (dec_lt x b);
      before-it = λ x h. two.before-it x (omega (arith, h, p)) ∙ one.before-it x h;
      behind-it = λ x h. two.behind-it x h ∙ one.behind-it x (omega (arith, h, q));
    }
      where
        side : (x : ℕ) → a ≤ x → x < c → Dec (x < b) → get_or n x 0 ≡ f x
        side x lo hi (yes h) = two.before-it x h ∙ one.filled x lo h
        side x lo hi (no h) = two.filled x (omega (arith, h)) hi

  -- All words of a line.
  pub fills-all : (n : ℕ) (l m : List ℕ) → length l ≡ n → Fills 0 n f l m → m ≡ across n f
  fills-all n l m h all = across-all n m f (all.same_length ∙ h) (λ x k. all.filled x (omega arith) k)

-- What is the same in the part may be named instead.
pub fills_same : (f g : ℕ → ℕ) {a b : ℕ} {l m : List ℕ} → ((x : ℕ) → a ≤ x → x < b → f x ≡ g x) → Fills a b f l m → Fills a b g l m
fills_same f g same one = record {
  same_length = one.same_length;
  filled = λ x lo hi. one.filled x lo hi ∙ same x lo hi;
  before-it = one.before-it;
  behind-it = one.behind-it;
}
