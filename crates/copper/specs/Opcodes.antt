-- The instruction that each opcode of the code names.
use Rattle.std.specs.Prelude.{Bool, ℕ}
use Rattle.xosera.specs.Adapter.{Side}
use Rattle.xosera.specs.Plan.{Act}
use Rattle.xosera.specs.Copper.{wait, skip, jump, mover, movef, movep, movec, pass}
use Rattle.copper.specs.declared.Opcode.{Opcode}
use Rattle.copper.specs.declared.Opcode.TheVariants.{Wait, Skip, Jump, Mover, Movef, Movep, Movec, Pass}

abbrev pub named : Opcode → Bool → Side → ℕ → ℕ → Act
named Wait = wait
named Skip = skip
named Jump = jump
named Mover = mover
named Movef = movef
named Movep = movep
named Movec = movec
named Pass = pass
