-- What a save and a load are refused with, answer and leave (document 02, requests 1 and 3). Neither is an event of demand 3.
use Rattle.std.specs.Prelude.{◌≡◌, Bool, cond, not, List, [], ◌∷◌, ◌++◌, ℕ, ltb, eqb, length, drop}
use Rattle.xosera.specs.declared.SaveAnswer.{SaveAnswer}
use Rattle.xosera.specs.declared.LoadAnswer.{LoadAnswer}
use Rattle.xosera.specs.Adapter.{Adapter}
use Rattle.xosera.specs.Beam.{at_rest}
use Rattle.xosera.specs.Events.{Answer, maskless}
use Rattle.calls.specs.Refusals.{◌when◌, lent_tests, first}
use Rattle.saved_file.specs.SavedFile.{saved, held, is_saved}

-- 7: room too short.
unfoldable pub short_room : Adapter → List ℕ → Bool
short_room a room = ltb (length room) (length (saved a))

-- 10: beam and copper not at rest (request 3).
unfoldable pub not_at_rest : Adapter → Bool
not_at_rest a = not (at_rest a.side.beam)

-- 8: not a saved adapter.
unfoldable pub not_saved : List ℕ → Bool
not_saved file = not (is_saved file)

-- 9: its VRAM not as long as the memory lent.
unfoldable pub other_length : Adapter → List ℕ → Bool
other_length a file = not (eqb (length (held file).vram) (length a.vram))

-- "Refusals: 1 to 3, then 7", then 10 (request 3: "after 7"): of a save.
unfoldable pub save_refusal : Adapter → List ℕ → ℕ
save_refusal a room = first (lent_tests a ((7 when short_room a room) ∷ (10 when not_at_rest a) ∷ []))

-- "1 to 3, then …, 8 …, 9": of a load; 1 to 3 are of the state and memories handed in.
unfoldable pub load_refusal : Adapter → List ℕ → ℕ
load_refusal a file = first (lent_tests a ((8 when not_saved file) ∷ (9 when other_length a file) ∷ []))

-- "A save reports the file's length …; a refused save reports 0".
unfoldable pub save_answer : Adapter → List ℕ → Answer
save_answer a room = maskless (save_refusal a room) (cond (eqb (save_refusal a room) 0) (length (saved a)) 0)

-- "… and leaves the room behind it untouched".
unfoldable pub room_after : Adapter → List ℕ → List ℕ
room_after a room = cond (eqb (save_refusal a room) 0) (saved a ++ drop (length (saved a)) room) room

-- A load answers its refusal alone.
unfoldable pub load_answer : Adapter → List ℕ → Answer
load_answer a file = maskless (load_refusal a file) 0

-- "Loading what was saved gives that adapter"; "a refused load gives back the state it was handed".
unfoldable pub loaded : Adapter → List ℕ → Adapter
loaded a file = cond (eqb (load_refusal a file) 0) (held file) a

-- The answer that each returned struct stands for.
abbrev pub of_save : SaveAnswer → Answer
of_save r = maskless r.refusal r.length

abbrev pub of_load : LoadAnswer → Answer
of_load r = maskless r.refusal 0

-- A save of adapter a to a room answers so and leaves the room so. State and memories are lent for reading.
pub record Saves (a : Adapter) (room : List ℕ) (told : Answer) (after : List ℕ) : Type 0 where
  pub answers : told ≡ save_answer a room
  pub leaves : after ≡ room_after a room

-- A load of a file into adapter a answers so and leaves adapter b. The file is lent for reading.
pub record Loads (a : Adapter) (file : List ℕ) (told : Answer) (b : Adapter) : Type 0 where
  pub answers : told ≡ load_answer a file
  pub leaves : b ≡ loaded a file
