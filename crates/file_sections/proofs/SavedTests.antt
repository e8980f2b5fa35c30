-- A test that fails is a fact that a saved adapter's file has; where those of its length hold, contents and state decide.
use mathlib.Core.Path.{◌≡◌, refl, ap, ◌∙◌}
use mathlib.Core.Bool.{true, false, ◌&&◌}
use mathlib.Core.List.{List, [], ◌∷◌}
use Prim.Native.Nat.{ℕ, ◌*◌, ◌-◌, ◌/◌, ◌%◌, ◌≤◌, ◌<◌}
use native.Mathlib.Omega.{arith}
use lib.ListN.{length, get_or, take, drop}
use Rattle.xosera.specs.State.{state_at}
use Rattle.xosera.specs.Memories.{is_vram_length}
use Rattle.xosera.specs.Ranges.{in_range}
use Rattle.xosera.proofs.Branches.{not-passed, clash}
use Rattle.vram.proofs.Lengths.{length-bounds}
use Rattle.saved_file.specs.SavedFile.{contents, held_words, held, same_bytes, is_saved}
use Rattle.saved_file.proofs.SavedLaws.{IsSaved, saved-facts, saved-test}

refused : (f : List ℕ) → (IsSaved f → ⊥) → is_saved f ≡ false
refused f fails = not-passed (is_saved f) (λ h. fails (saved-facts f h))

pub short_file : (f : List ℕ) → length f < 13490 → is_saved f ≡ false
short_file f l = refused f (λ s. absurd (omega (arith, s.size)))

pub odd_file : (f : List ℕ) → ((length f - 13490) % 2 ≡ 0 → ⊥) → is_saved f ≡ false
odd_file f odd = refused f (λ s. odd (omega (arith, s.size)))

pub other_length : (f : List ℕ) → is_vram_length ((length f - 13490) / 2) ≡ false → is_saved f ≡ false
other_length f other =
    let half : (s : IsSaved f) → (length f - 13490) / 2 ≡ length (held f).vram = λ s. omega (arith, s.size) in
    refused f (λ s. clash (ap is_vram_length (half s) ∙ s.fit.vram) other)

pub decided : (f : List ℕ) → ((i : ℕ) → get_or f i 0 < 256) → 13490 ≤ length f → (length f - 13490) % 2 ≡ 0
    → is_vram_length ((length f - 13490) / 2) ≡ true
    → is_saved f
    ≡ (same_bytes (contents (150 ∷ 13312 ∷ (length f - 13490) ∷ [])) (take 28 f) && in_range (state_at (held_words (take 150 (drop 28 f)))))
decided f bytes least even legal =
    let twice : 2 * ((length f - 13490) / 2) ≡ length f - 13490 = omega arith in
    saved-test f ((length f - 13490) / 2) (omega arith) bytes legal ∙ rw twice refl

pub ruleset saved_tests = (short_file, odd_file, other_length, decided, length-bounds)
