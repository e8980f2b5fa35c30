-- Contents, state, XR memory and VRAM, each behind the one before.
use mathlib.Core.Path.{◌≡◌, refl, sym, ap₂, ◌∙◌}
use mathlib.Core.List.{List, ◌++◌, append_assoc}
use Prim.Native.Nat.{ℕ, ◌+◌, ◌*◌, ◌-◌}
use native.Mathlib.Omega.{arith}
use borrow.Rule.Slice.PartMut.{put_mid}
use lib.ListN.{length, take, drop, length-append}
use lib.Seq.{length-take-le}
use Rattle.saved_file.specs.SavedFile.{bytes_of}
use Rattle.saved_file.proofs.ByteLaws.{bytes-length}
use Rattle.saved_file.proofs.SavedLaws.{contents_for, contents-length, saved-words}
use Rattle.file_sections.proofs.RoomLaws.{put_next}
use Rattle.file_sections.proofs.put_file.Goals as goal

four-parts : (c s x v room : List ℕ) (k : ℕ) {c' s' x' v' : List ℕ} → length c ≡ 28 → length s ≡ 150 → length x ≡ 13312
    → c' ≡ c → s' ≡ s → x' ≡ x → v' ≡ v
    → put_mid 13490 k (put_mid 178 13312 (put_mid 28 150 (c' ++ drop 28 room) s') x') v' ≡ (c ++ (s ++ (x ++ v))) ++ drop (13490 + k) room
four-parts c s x v room k cs ss xs cp sp xp vp =
    let two : length (c ++ s) ≡ 178 = omega (arith, length-append c s) in
    let three : length ((c ++ s) ++ x) ≡ 13490 = omega (arith, length-append (c ++ s) x) in
    rw (
      cp,
      sp,
      xp,
      vp,
      put_next c s room 28 150 cs,
      put_next (c ++ s) x room 178 13312 two,
      put_next ((c ++ s) ++ x) v room 13490 k three,
      append_assoc (c ++ s) x v,
      append_assoc c s (x ++ v),
    ) refl

pub returns : goal.returns
returns c =
    let a = c.args in
    let n = length a.vram.now in
    let ws : List ℕ = take 75 a.s.now in
    let size : 13490 + 2 * n - 13490 ≡ 2 * n = omega arith in
    let state : length (bytes_of ws) ≡ 150 = omega (arith, bytes-length ws, length-take-le 75 a.s.now) in
    let memory : length (bytes_of a.xr.now) ≡ 13312 = omega (arith, bytes-length a.xr.now) in
    let file = saved-words a.s.now a.vram.now a.xr.now (omega arith) (omega arith) in
    four-parts (contents_for n) (bytes_of ws) (bytes_of a.xr.now) (bytes_of a.vram.now) a.room.now (13490 + 2 * n - 13490)
    (contents-length n) state memory
    (c.copy_from_slice.ensures.after ∙ c.contents.ensures) c.put_words.ensures c.put_words-2.ensures c.put_words-3.ensures
    ∙ ap₂ (λ (l : List ℕ) (m : ℕ). l ++ drop (13490 + m) a.room.now) (sym file) size
