-- The classes of a level, by the bits of a class byte.
use Rattle.std.specs.Prelude.{ℕ, Bool, ◌||◌, cond}
use Rattle.logic.specs.Bit.{bit}
use Rattle.automata_laws.specs.StateClass.{StateClass, sigma₂, pi₂}

-- a class of the second level
abbrev pub second_class : Bool → StateClass
second_class upper = cond upper pi₂ sigma₂

-- the bit of the Sigma class of the first level that has one of its two classes
abbrev pub level : ℕ → ℕ
level byte = cond (bit byte 1 || bit byte 2) 1 4
