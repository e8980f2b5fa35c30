-- The refusals in their order: each is given where it applies and those before it do not, and none otherwise.
use mathlib.Core.Path.{◌≡◌, refl, sym, ap, ◌∙◌}
use mathlib.Core.Bool.{Bool, true, false, not}
use mathlib.Core.List.{[], ◌∷◌}
use Prim.Native.Nat.{ℕ, ◌≤◌, ◌<◌}
use native.Mathlib.Omega.{arith}
use borrow.Author.Tests.{eq-eqb, ne_eqb, lt-ltb, le-ltb, ltb-false, eqb-true, not-false}
use Rattle.scanline.specs.declared.Playfield.{Playfield}
use Rattle.xosera.specs.Adapter.{Adapter}
use Rattle.calls.specs.Refusals.{Fit, ◌when◌, first}
use Rattle.calls.proofs.RefusalLaws.{passed, none-fit, fit-passes}
use Rattle.scanline.specs.Scanline.{playfield_a}
use Rattle.scanline.specs.PaintCall.{screen_width, not_paintable, bad_line, other_width, paint_tests, paint_refusal}
use Rattle.scanline.specs.Claims.{PaintRefusals}

-- Each test that follows 1 to 3.
pub line-visible : (line : ℕ) → line ≤ 479 → bad_line line ≡ false
unfolding bad_line
line-visible line h = le-ltb 479 line h

pub line-hidden : (line : ℕ) → 479 < line → bad_line line ≡ true
unfolding bad_line
line-hidden line h = lt-ltb 479 line h

pub width-right : (n : ℕ) → n ≡ screen_width → other_width n ≡ false
unfolding other_width
width-right n e = ap not (eq-eqb n screen_width e)

pub width-wrong : (n : ℕ) → (n ≡ screen_width → ⊥) → other_width n ≡ true
unfolding other_width
width-wrong n d = ap not (ne_eqb n screen_width d)

-- What these tests give, by what each of them says.
pub tests-given : (p : Playfield) (line n : ℕ) {b c d : Bool} → not_paintable p ≡ b → bad_line line ≡ c → other_width n ≡ d
    → first (paint_tests p line n) ≡ first ((11 when b) ∷ (12 when c) ∷ (13 when d) ∷ [])
tests-given p line n e f g = λ i. first ((11 when e i) ∷ (12 when f i) ∷ (13 when g i) ∷ [])

module _ (a : Adapter) (line n : ℕ) (fit : Fit a) where
  given : {b c d : Bool} → not_paintable (playfield_a a.side.video) ≡ b → bad_line line ≡ c → other_width n ≡ d
      → paint_refusal a line n ≡ first ((11 when b) ∷ (12 when c) ∷ (13 when d) ∷ [])
  unfolding paint_refusal
  given e f g = fit-passes a fit _ ∙ tests-given (playfield_a a.side.video) line n e f g

  pub refusals : PaintRefusals a line n
  unfolding first
  refusals = record {
    none = λ h l w. given h (line-visible line l) (width-right n w);
    not-paintable = λ h. given h refl refl;
    no_line = λ h l. given h (line-hidden line l) refl;
    not-the-width = λ h l w. given h (line-visible line l) (width-wrong n w);
  }

-- What it means that none of them applies.
pub none-applies : (p : Playfield) (line n : ℕ) → first (paint_tests p line n) ≡ 0 → (line ≤ 479) × (n ≡ screen_width)
unfolding bad_line other_width
none-applies p line n h =
    let eleven = passed (11 when not_paintable p) _ (omega arith) h in
    let twelve = passed (12 when bad_line line) _ (omega arith) eleven.1 in
    let thirteen = passed (13 when other_width n) _ (omega arith) twelve.1 in
    (ltb-false 479 line twelve.0, eqb-true n screen_width (not-false _ thirteen.0))

pub right-width : (a : Adapter) (line n : ℕ) → paint_refusal a line n ≡ 0 → n ≡ screen_width
unfolding paint_refusal
right-width a line n h = (none-applies _ line n (sym (fit-passes a (none-fit a _ h) _) ∙ h)).1
