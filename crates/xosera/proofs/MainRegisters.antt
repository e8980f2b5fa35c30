-- A main register's number: below 16, and as the code counts.
use mathlib.Core.Path.{◌≡◌}
use Prim.Native.Nat.{◌<◌}
use native.Mathlib.Omega.{arith}
use denote.Enum.Declared.{tag_of}
use Rattle.xosera.specs.contracts.MainRegister.{the_type}
use Rattle.xosera.specs.declared.MainRegister.{MainRegister}
use Rattle.xosera.specs.Told.{main_number}

pub main-below : (r : MainRegister) → main_number r < 16
main-below r = grind arith

pub main-tag : (r : MainRegister) → tag_of the_type r ≡ main_number r
main-tag r = grind arith
