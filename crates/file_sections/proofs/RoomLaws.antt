-- A room that is filled from its first byte on, part after part.
use mathlib.Core.Path.{◌≡◌, refl, ◌∙◌}
use mathlib.Core.List.{List, ◌++◌, append_assoc}
use Prim.Native.Nat.{ℕ, ◌+◌}
use borrow.Rule.Slice.PartMut.{put_mid}
use lib.ListN.{length, drop}
use lib.Seq.{take_at, drop_at, drop-drop}

-- What comes behind p, where q stood.
pub put_behind : (p q ys : List ℕ) (a k : ℕ) → length p ≡ a → put_mid a k (p ++ q) ys ≡ p ++ (ys ++ drop k q)
put_behind p q ys a k h = rw (take_at p q a h, drop_at p q a h) refl

-- The next part, where the room stood as it was.
pub put_next : (done ys room : List ℕ) (a k : ℕ) → length done ≡ a
    → put_mid a k (done ++ drop a room) ys ≡ (done ++ ys) ++ drop (a + k) room
put_next done ys room a k h = put_behind done (drop a room) ys a k h ∙ rw (drop-drop k a room, append_assoc done ys) refl
