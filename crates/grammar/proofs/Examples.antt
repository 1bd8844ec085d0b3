-- The examples of places where a text departs from the grammar: rows of one table, held by one computed test.
use Prim.Native.Nat.{ℕ}
use mathlib.Core.Path.{◌≡◌, refl}
use mathlib.Core.Bool.{Bool, true, ◌&&◌, cond}
use mathlib.Core.List.{List, [], ◌∷◌}
use lib.Dec.{eqb}
use Rattle.grammar.specs.Reader.{settle, mark_of, step, run, reading_of, is_none, departure_from, departure_of}

-- a text, and the place of 19, or 0 where it is a rule
record Example : Type 0 where
  text : List ℕ
  place : ℕ

example : List ℕ → ℕ → Example
example t n = record { text = t; place = n }

placed : List ℕ → ℕ
placed t = cond (is_none (reading_of t)) (departure_of t) 0

right : List Example → Bool
right [] = true
right (e ∷ es) = eqb (placed e.text) e.place && right es

examples : List Example
examples =
    -- p33
    example (112 ∷ 51 ∷ 51 ∷ []) 3
    -- p4 1
    ∷ example (112 ∷ 52 ∷ 32 ∷ 49 ∷ []) 4
    -- trve
    ∷ example (116 ∷ 114 ∷ 118 ∷ 101 ∷ []) 3
    -- tru
    ∷ example (116 ∷ 114 ∷ 117 ∷ []) 4
    -- p1 U p2
    ∷ example (112 ∷ 49 ∷ 32 ∷ 85 ∷ 32 ∷ 112 ∷ 50 ∷ []) 4
    -- (p1 U p2
    ∷ example (40 ∷ 112 ∷ 49 ∷ 32 ∷ 85 ∷ 32 ∷ 112 ∷ 50 ∷ []) 9
    -- (p1)
    ∷ example (40 ∷ 112 ∷ 49 ∷ 41 ∷ []) 4
    -- p1)
    ∷ example (112 ∷ 49 ∷ 41 ∷ []) 3
    -- nothing
    ∷ example ([]) 1
    -- p0
    ∷ example (112 ∷ 48 ∷ []) 2
    -- p01
    ∷ example (112 ∷ 48 ∷ 49 ∷ []) 2
    -- P1
    ∷ example (80 ∷ 49 ∷ []) 1
    -- p 1
    ∷ example (112 ∷ 32 ∷ 49 ∷ []) 2
    -- (p1- >p2)
    ∷ example (40 ∷ 112 ∷ 49 ∷ 45 ∷ 32 ∷ 62 ∷ 112 ∷ 50 ∷ 41 ∷ []) 5
    -- p32
    ∷ example (112 ∷ 51 ∷ 50 ∷ []) 0
    -- !!Xp1
    ∷ example (33 ∷ 33 ∷ 88 ∷ 112 ∷ 49 ∷ []) 0
    --  ( p1 -> false )
    ∷ example (32 ∷ 40 ∷ 32 ∷ 112 ∷ 49 ∷ 32 ∷ 45 ∷ 62 ∷ 32 ∷ 102 ∷ 97 ∷ 108 ∷ 115 ∷ 101 ∷ 32 ∷ 41 ∷ 32 ∷ []) 0
    -- (true U(p10 M p2))
    ∷ example (40 ∷ 116 ∷ 114 ∷ 117 ∷ 101 ∷ 32 ∷ 85 ∷ 40 ∷ 112 ∷ 49 ∷ 48 ∷ 32 ∷ 77 ∷ 32 ∷ 112 ∷ 50 ∷ 41 ∷ 41 ∷ []) 0
    ∷ []

all_right : right examples ≡ true
unfolding example placed right examples settle mark_of step run reading_of departure_from departure_of
all_right = refl
