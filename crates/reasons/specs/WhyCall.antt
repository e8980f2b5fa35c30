-- What the call is refused with, answers and leaves (document 02, request 5). It is no event of demand 3 and takes no state.
use Rattle.std.specs.Prelude.{◌≡◌, Bool, false, cond, not, ◌||◌, List, [], ◌∷◌, ℕ, eqb, length, Result, Ok, Err}
use Rattle.xosera.specs.declared.BlitRegs.{BlitRegs}
use Rattle.reasons.specs.declared.Why.{Why}
use Rattle.reasons.specs.declared.Why.TheVariants.{NeverReached, HeldBack, Written}
use Rattle.reasons.specs.declared.WhyAnswer.{WhyAnswer}
use Rattle.xosera.specs.declared.Refusal.{Refusal}
use Rattle.xosera.specs.declared.Refusal.TheVariants.{VramLength, NoNibble}
use Rattle.xosera.specs.Told.{refusal_number}
use Rattle.xosera.specs.Memories.{is_vram_length, Pixel, bad_pixel}
use Rattle.calls.specs.Refusals.{◌when◌, first}
use Rattle.blits.specs.Blits.{drawn_by}
use Rattle.reasons.specs.Account.{why_of}

-- 1: "either VRAM, or lengths that differ".
abbrev pub bad_memories : ℕ → ℕ → Bool
bad_memories before work = not (is_vram_length before) || not (is_vram_length work) || not (eqb before work)

-- "Refusals: 1 …, then 15 nibble over 3 or address not below the VRAM length".
unfoldable pub why_refusal : ℕ → ℕ → Pixel → ℕ
why_refusal before work p = first ((1 when bad_memories before work) ∷ (15 when bad_pixel before p) ∷ [])

-- What is answered: the account of the blit; refused, "only that". The claim `told-refusal` says that it is the refusal of that number.
abbrev pub told : BlitRegs → List ℕ → List ℕ → Pixel → Result Why Refusal
told r before work p =
    cond (bad_memories (length before) (length work)) (Err VramLength)
    (cond (bad_pixel (length before) p) (Err NoNibble) (Ok (why_of r before p)))

-- "The second memory ends as the blit leaves it", whatever it held; refused, it is as given.
abbrev pub work_after : BlitRegs → List ℕ → List ℕ → Pixel → List ℕ
work_after r before work p = cond (eqb (why_refusal (length before) (length work) p) 0) (drawn_by r before) work

-- The number and the values of each case (document 01, "Forms for each place"), in the order of the request: 1 never reached, 2 held
-- back, 3 written; 0 where a refusal is all that is answered. What a case does not have is 0 or no.
abbrev pub numbers : Result Why Refusal → WhyAnswer
numbers (Err x) = record { refusal = refusal_number x; fate = 0; first = false; last = false; colour = false; line = 0; word = 0 }
numbers (Ok NeverReached) = record { refusal = 0; fate = 1; first = false; last = false; colour = false; line = 0; word = 0 }
numbers (Ok (HeldBack f l c)) = record { refusal = 0; fate = 2; first = f; last = l; colour = c; line = 0; word = 0 }
numbers (Ok (Written l w)) = record { refusal = 0; fate = 3; first = false; last = false; colour = false; line = l; word = w }

-- Asked about a nibble in the blit of registers r, with the memory before and a second one to work in, the call gives these numbers
-- and leaves the second memory so. The memory before is lent for reading.
pub record Explains (r : BlitRegs) (before : List ℕ) (work : List ℕ) (p : Pixel) (given : WhyAnswer) (after : List ℕ) : Type 0 where
  pub answers : given ≡ numbers (told r before work p)
  pub leaves : after ≡ work_after r before work p
