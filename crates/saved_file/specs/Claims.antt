-- What requests 1 and 3 say of saved adapters beyond the single call: `SavedAdapters` of the definitions, `SavesAndLoads` of the
-- calls. They are proved in crates/saved_file/proofs/SavedAdapters.antt and crates/saving/proofs/SavesAndLoads.antt.
use Rattle.std.specs.Prelude.{◌≡◌, List, [], ◌∷◌, ℕ, ◌≤◌, ◌<◌, length, take, drop, get_or}
use Rattle.xosera.specs.State.{state_words}
use Rattle.xosera.specs.Adapter.{Adapter, adapter_at}
use Rattle.xosera.specs.Beam.{rest}
use Rattle.xosera.specs.Events.{Answer}
use Rattle.calls.specs.Refusals.{Fit}
use Rattle.saved_file.specs.SavedFile.{contents, saved}
use Rattle.saved_file.specs.SaveLoad.{save_refusal, room_after, load_refusal, loaded, Saves, Loads}

-- All numbers of a list are below a bound.
abbrev pub AllBelow : ℕ → List ℕ → Type 0
AllBelow n l = (i : ℕ) → get_or l i 0 < n

-- All words of an adapter: those of its state and of both memories. Two adapters are the same where these are.
pub record Words : Type 0 where
  pub state : List ℕ
  pub vram : List ℕ
  pub xr : List ℕ

abbrev pub adapter_of : Words → Adapter
adapter_of w = adapter_at w.state w.vram w.xr

-- Beam and copper at rest (request 3).
abbrev pub Resting : Adapter → Type 0
Resting a = a.side.beam ≡ rest

-- Words that an adapter with a file can have: 16 bits each, as many as a state has, none of 1 to 3 applies, and at rest.
pub record Legal (w : Words) : Type 0 where
  pub size : length w.state ≡ state_words
  pub state : AllBelow 65536 w.state
  pub vram : AllBelow 65536 w.vram
  pub xr : AllBelow 65536 w.xr
  pub fit : Fit (adapter_of w)
  pub rests : Resting (adapter_of w)

-- No adapter saves this file.
abbrev pub NoAdapters : List ℕ → Type 0
NoAdapters file = (w : Words) → Legal w → saved (adapter_of w) ≡ file → ⊥

pub record SavedAdapters : Type 0 where
  -- The contents for 256 words of VRAM: kinds 1, 2, 3 from bytes 28, 178 and 13,490 on, 150, 13,312 and 512 bytes long.
  pub contents-for-256 : contents (150 ∷ 13312 ∷ 512 ∷ [])
      ≡ 3 ∷ 1 ∷ 0 ∷ 0 ∷ 0 ∷ 28 ∷ 0 ∷ 0 ∷ 0 ∷ 150 ∷ 2 ∷ 0 ∷ 0 ∷ 0 ∷ 178 ∷ 0 ∷ 0 ∷ 52 ∷ 0 ∷ 3 ∷ 0 ∷ 0 ∷ 52 ∷ 178 ∷ 0 ∷ 0 ∷ 2 ∷ 0 ∷ []
  -- "Loading what was saved gives that adapter", whatever fit adapter with as much VRAM it is loaded into.
  pub saved-loads : (w : Words) (a : Adapter) → Legal w → Fit a → length a.vram ≡ length w.vram
      → (load_refusal a (saved (adapter_of w)) ≡ 0) × (loaded a (saved (adapter_of w)) ≡ adapter_of w)
  -- "One adapter has one file": no two have the same.
  pub same-file : (w u : Words) → Legal w → Legal u → saved (adapter_of w) ≡ saved (adapter_of u) → w ≡ u
  -- A file that a load accepts is the file of the adapter that it gives.
  pub accepted-file : (a : Adapter) (file : List ℕ) → load_refusal a file ≡ 0 → saved (loaded a file) ≡ file
  -- "Any other file is refused": with 8, where none of 1 to 3 applies.
  pub other-file : (a : Adapter) (file : List ℕ) → Fit a → AllBelow 256 file → NoAdapters file → load_refusal a file ≡ 8
  -- What a load leaves is within its ranges, as after every call; a load that is done gives "rest".
  pub loaded-fit : (a : Adapter) (file : List ℕ) → Fit a → Fit (loaded a file)
  pub loaded-rests : (a : Adapter) (file : List ℕ) → load_refusal a file ≡ 0 → Resting (loaded a file)
  -- A room exactly as long is enough.
  pub room-enough : (a : Adapter) (room : List ℕ) → Fit a → Resting a → length (saved a) ≤ length room → save_refusal a room ≡ 0
  -- "A save gives 10, after 7, unless beam and copper are at rest."
  pub off_rest : (a : Adapter) (room : List ℕ) → Fit a → (Resting a → ⊥) → length (saved a) ≤ length room → save_refusal a room ≡ 10
  pub short-first : (a : Adapter) (room : List ℕ) → Fit a → length room < length (saved a) → save_refusal a room ≡ 7
  -- "… and leaves the room behind it untouched"; refusals "change nothing".
  pub room-behind : (a : Adapter) (room : List ℕ) → save_refusal a room ≡ 0
      → drop (length (saved a)) (room_after a room) ≡ drop (length (saved a)) room
  pub refused-save : (a : Adapter) (room : List ℕ) → (save_refusal a room ≡ 0 → ⊥) → room_after a room ≡ room
  pub refused-load : (a : Adapter) (file : List ℕ) → (load_refusal a file ≡ 0 → ⊥) → loaded a file ≡ a

-- A save that is done: its number is the file's length, the file stands in the room, and behind it the room is as it was.
pub record Stored (a : Adapter) (room : List ℕ) (told : Answer) (after : List ℕ) : Type 0 where
  pub long : told.value ≡ length (saved a)
  pub file : take told.value after ≡ saved a
  pub behind : drop told.value after ≡ drop told.value room

pub record SavesAndLoads : Type 0 where
  pub save-stores : (a : Adapter) (room : List ℕ) (told : Answer) (after : List ℕ) → Saves a room told after → told.refusal ≡ 0
      → Stored a room told after
  pub refused-save : (a : Adapter) (room : List ℕ) (told : Answer) (after : List ℕ) → Saves a room told after → (told.refusal ≡ 0 → ⊥)
      → (told.value ≡ 0) × (after ≡ room)
  pub refused-load : (a : Adapter) (file : List ℕ) (told : Answer) (b : Adapter) → Loads a file told b → (told.refusal ≡ 0 → ⊥) → b ≡ a
  -- A load of what was saved is done and leaves the words that were saved.
  pub save-then-load : (w u : Words) (room : List ℕ) (told : Answer) (after : List ℕ) (a : Adapter) (answer : Answer)
      → length w.state ≡ state_words → length u.state ≡ state_words
      → Saves (adapter_of w) room told after → told.refusal ≡ 0
      → Fit a → length a.vram ≡ length w.vram → Loads a (take told.value after) answer (adapter_of u)
      → (answer.refusal ≡ 0) × (u ≡ w)
  -- Two saves that are done and put the same file there are of the same words.
  pub same-file : (w u : Words) (room : List ℕ) (told : Answer) (after : List ℕ) (room' : List ℕ) (told' : Answer) (after' : List ℕ)
      → length w.state ≡ state_words → length u.state ≡ state_words
      → Saves (adapter_of w) room told after → told.refusal ≡ 0 → Saves (adapter_of u) room' told' after' → told'.refusal ≡ 0
      → take told.value after ≡ take told'.value after' → w ≡ u
  -- A save of an adapter that is not at rest, with room enough, is refused with 10 and leaves the room; where it is done, the adapter
  -- is at rest, and so is one that a load gives.
  pub save-off-rest : (a : Adapter) (room : List ℕ) (told : Answer) (after : List ℕ) → Saves a room told after
      → Fit a → (Resting a → ⊥) → length (saved a) ≤ length room → (told.refusal ≡ 10) × (told.value ≡ 0) × (after ≡ room)
  pub saves-rest : (a : Adapter) (room : List ℕ) (told : Answer) (after : List ℕ) → Saves a room told after → told.refusal ≡ 0 → Resting a
  pub gives-rest : (a : Adapter) (file : List ℕ) (told : Answer) (b : Adapter) → Loads a file told b → told.refusal ≡ 0 → Resting b
  -- A load that is done gives the adapter whose file it is, and a save of that is done and puts that file there.
  pub load_gives : (a : Adapter) (file : List ℕ) (told : Answer) (b : Adapter) → Loads a file told b → told.refusal ≡ 0 → saved b ≡ file
  pub load-then-save : (a : Adapter) (file : List ℕ) (told : Answer) (b : Adapter) (room : List ℕ) (answer : Answer) (after : List ℕ)
      → Loads a file told b → told.refusal ≡ 0 → length file ≤ length room → Saves b room answer after
      → (answer.refusal ≡ 0) × (answer.value ≡ length file) × (take answer.value after ≡ file)
  -- A file that no adapter saves is refused with 8, and the load leaves all as it was.
  pub other-file : (a : Adapter) (file : List ℕ) (told : Answer) (b : Adapter) → Loads a file told b → Fit a → AllBelow 256 file
      → NoAdapters file → (told.refusal ≡ 8) × (b ≡ a)
