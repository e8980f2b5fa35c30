-- The numbers of the code's enums: the main registers, and what a call is refused with (document 01, "What a call can say"; document
-- 02, requests 1, 3, 5 and 6).
use Rattle.std.specs.Prelude.{◌≡◌, ℕ, ◌≤◌, Result, Ok, Err}
use Rattle.xosera.specs.declared.MainRegister.{MainRegister}
use Rattle.xosera.specs.declared.MainRegister.TheVariants.{SysCtrl, IntCtrl, Timer, RdXaddr, WrXaddr, Xdata, RdIncr, RdAddr, WrIncr, WrAddr, Data, Data2, Unused12, Unused13, Unused14, Features}
use Rattle.xosera.specs.declared.Refusal.{Refusal}
use Rattle.xosera.specs.declared.Refusal.TheVariants.{VramLength, XrLength, StateRange, NoRegister, BlitterFull, Reconfigure, RoomShort, NoSavedAdapter, SavedVramLength, NotAtRest, NoBitmap, NoLine, PixelsLength, NoNibble}

-- A main register's number.
abbrev pub main_number : MainRegister → ℕ
main_number SysCtrl = 0
main_number IntCtrl = 1
main_number Timer = 2
main_number RdXaddr = 3
main_number WrXaddr = 4
main_number Xdata = 5
main_number RdIncr = 6
main_number RdAddr = 7
main_number WrIncr = 8
main_number WrAddr = 9
main_number Data = 10
main_number Data2 = 11
main_number Unused12 = 12
main_number Unused13 = 13
main_number Unused14 = 14
main_number Features = 15

-- The register of a number, or refusal 4 over 15.
abbrev pub MainRegisterOf : ℕ → Result MainRegister Refusal → Type 0
MainRegisterOf n (Ok r) = main_number r ≡ n
MainRegisterOf n (Err refused) = (16 ≤ n) × (refused ≡ NoRegister)

-- A refusal's number.
abbrev pub refusal_number : Refusal → ℕ
refusal_number VramLength = 1
refusal_number XrLength = 2
refusal_number StateRange = 3
refusal_number NoRegister = 4
refusal_number BlitterFull = 5
refusal_number Reconfigure = 6
refusal_number RoomShort = 7
refusal_number NoSavedAdapter = 8
refusal_number SavedVramLength = 9
refusal_number NotAtRest = 10
refusal_number NoBitmap = 11
refusal_number NoLine = 12
refusal_number PixelsLength = 13
refusal_number NoNibble = 15

-- What a result says was refused: 0, done, or the refusal's number.
abbrev pub refused : {A : Type 0} → Result A Refusal → ℕ
refused (Ok done) = 0
refused (Err refusal) = refusal_number refusal
