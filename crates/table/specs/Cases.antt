-- The starred cases of document 01, their tables with the header of document 02, as rows of one table, and what each row says of the definitions.
use Rattle.std.specs.Prelude.{ℕ, ◌<◌, ◌≡◌, Bool, true, false, List, [], ◌∷◌, ◌↔◌, length, get_or, T}
use Rattle.std.proofs.Common.{le_refl, lit<}
use Rattle.logic.specs.Lasso.{Lasso, word}
use Rattle.logic.specs.Semantics.{Holds}
use Rattle.logic.specs.ClassByte.{class_byte}
use Rattle.refusals.specs.Refusals.{Outcome}
use Rattle.std.specs.Prelude.{Ok, Err}
use Rattle.refusals.specs.Refusals.{number_of, place_of, first}
use Rattle.table.specs.Table.{rule}
use Rattle.table.specs.Header.{headed, body, headed_checked}
use Rattle.table.specs.Limits.{house}
use Rattle.table.specs.Steps.{plain_table, normal_table, form_table}
use Rattle.table.specs.Frame.{Step, plain_step, normal_step}

pub data Case : Type 0 where
  -- a plain table, and its form's
  form : List ℕ → List ℕ → Case
  -- a plain table, and its normal form's, whether or not it is its own form
  normal : List ℕ → List ℕ → Case
  -- a written table, and its plain form's
  plain : List ℕ → List ℕ → Case
  -- a written table, and the number and place of its refusal
  refused : List ℕ → ℕ → ℕ → Case
  -- what is handed to a step, and the number and place of its refusal
  refused_by : Step → List ℕ → ℕ → ℕ → Case
  -- a table, and the class byte of its last word
  class : List ℕ → ℕ → Case
  -- a table, a recording, and whether the rule holds at each recorded position
  judged : List ℕ → Lasso → List Bool → Case

-- an outcome is the refusal of that number and place
abbrev pub IsRefusal : Outcome → ℕ → ℕ → Type 0
IsRefusal (Ok tt) n p = ⊥
IsRefusal (Err r) n p = (number_of r ≡ n) × (place_of r ≡ p)

-- what a row says; a table that is not refused is accepted with its header
abbrev pub Right : Case → Type 0
Right (form t u) = (headed_checked true 16383 t ≡ Ok tt) × (headed (form_table (body t)) ≡ u)
Right (normal t u) = (headed_checked true 16383 t ≡ Ok tt) × (headed (normal_table (body t)) ≡ u)
Right (plain t u) = (headed_checked false 64 t ≡ Ok tt) × (headed (plain_table (body t)) ≡ u)
Right (refused t n p) = IsRefusal (headed_checked false 64 t) n p
Right (refused_by s t n p) = IsRefusal (first (s.checks t)) n p
Right (class t b) = (headed_checked true 16383 t ≡ Ok tt) × (class_byte (rule (body t)) ≡ b)
Right (judged t r bs) = (headed_checked false 16383 t ≡ Ok tt) × ((i : ℕ) → i < length bs → Holds (word r) (rule (body t)) i ↔ T (get_or bs i false))

-- a recording of two samples, looped at the second; and one sample for ever; both drive all 32 letters
abbrev pub twice : ℕ → ℕ → Lasso
twice a b = record { samples = a ∷ b ∷ []; start = 1; driven = 32; inside = lit< tt; few = le_refl 32 }

abbrev pub once : ℕ → Lasso
once a = record { samples = a ∷ []; start = 0; driven = 32; inside = lit< tt; few = le_refl 32 }

abbrev pub starred : List Case
starred =
    form (0x001FC001 ∷ 0x30000001 ∷ []) (0x001FC001 ∷ 0x30000001 ∷ [])
    ∷ normal (0x001FC001 ∷ 0x30000001 ∷ []) (0x001FC001 ∷ 0x30000001 ∷ [])
    ∷ normal (0x001E8003 ∷ 0x20000000 ∷ 0x30000001 ∷ 0x80004002 ∷ [])
    (0x00180008 ∷ 0x20000000 ∷ 0x30000001 ∷ 0x80004002 ∷ 0x10000000 ∷ 0x80004003 ∷ 0xA0010005 ∷ 0x5000C006 ∷ 0x6000C007 ∷ [])
    ∷ plain (0x00000003 ∷ 0x30000001 ∷ 0xD0000001 ∷ 0xC0000002 ∷ []) (0x001F0003 ∷ 0x10000000 ∷ 0x40000001 ∷ 0xA0004002 ∷ [])
    ∷ refused (0x00000001 ∷ 0x00000000 ∷ []) 3 1
    ∷ refused (0x00000002 ∷ 0x20000000 ∷ 0x70000000 ∷ []) 5 2
    ∷ judged (0x00000002 ∷ 0x30000001 ∷ 0xE0000001 ∷ []) (twice 0 1) (false ∷ true ∷ [])
    ∷ judged (0x00000002 ∷ 0x30000001 ∷ 0xD0000001 ∷ []) (twice 1 0) (true ∷ false ∷ [])
    ∷ judged (0x001F0003 ∷ 0x30000001 ∷ 0x30000002 ∷ 0x90004002 ∷ []) (once 1) (true ∷ [])
    ∷ judged (0x001E8003 ∷ 0x30000001 ∷ 0x30000002 ∷ 0x80004002 ∷ []) (once 1) (false ∷ [])
    ∷ class (0x00180005 ∷ 0x30000001 ∷ 0x20000000 ∷ 0x80008001 ∷ 0x10000000 ∷ 0xA0010003 ∷ []) 0x60
    ∷ class (0x001E8003 ∷ 0x30000001 ∷ 0x20000000 ∷ 0x80008001 ∷ []) 0x7A
    ∷ class (0x001F8002 ∷ 0x30000001 ∷ 0x70000001 ∷ []) 0x7E
    ∷ class (0x00000006 ∷ 0x30000001 ∷ 0x20000000 ∷ 0x80008001 ∷ 0x10000000 ∷ 0xA0010003 ∷ 0x80008005 ∷ []) 0x00
    -- not starred: a left field that must be 0 is looked at before an operand that is 0; the left operand before the right;
    -- and p2 M p1 fails where p1 holds for ever and p2 never
    ∷ refused (0x00000001 ∷ 0x70004000 ∷ []) 8 1
    ∷ refused (0x00000001 ∷ 0x50004000 ∷ []) 6 1
    ∷ judged (0x001E8003 ∷ 0x30000001 ∷ 0x30000002 ∷ 0xB0008001 ∷ []) (once 1) (false ∷ [])
    ∷ judged (0x001F0003 ∷ 0x30000001 ∷ 0x30000002 ∷ 0xA0008001 ∷ []) (once 1) (true ∷ [])
    -- of document 02, N5 and N8: the form of G p1, without its "false or"; no header, and a count of 0; a count over the limit before one that differs; a count that differs; a
    -- header's class and its kind, after the words and their uses
    ∷ normal (0x001F0003 ∷ 0x10000000 ∷ 0x30000001 ∷ 0xA0004002 ∷ [])
    (0x00140009 ∷ 0x10000000 ∷ 0x30000001 ∷ 0xA0004002 ∷ 0xB000C002 ∷ 0x20000000 ∷ 0xA0004003 ∷ 0x80014006 ∷ 0x50010007 ∷ 0x60010008 ∷ [])
    ∷ refused [] 1 0
    ∷ refused (0x001FC000 ∷ 0x30000001 ∷ []) 1 0
    ∷ refused (0x00000041 ∷ 0x30000001 ∷ []) 2 0
    ∷ refused (0x001FC002 ∷ 0x30000001 ∷ []) 23 0
    ∷ refused (0x00000002 ∷ 0x30000001 ∷ 0x30000002 ∷ []) 10 1
    ∷ refused (0x00000001 ∷ 0x30000001 ∷ []) 24 0
    ∷ refused (0x101FC001 ∷ 0x30000001 ∷ []) 24 0
    ∷ refused (0x001FC002 ∷ 0x30000001 ∷ 0xD0000001 ∷ []) 24 0
    -- of document 02, N6: a limit outside its range, before all else; a table over the written limit, and a plain one over twice that and two; and the
    -- first until-like word over the limit
    ∷ refused_by (plain_step (house 0 8)) [] 25 0
    ∷ refused_by (plain_step (house 257 8)) [] 25 0
    ∷ refused_by (normal_step (house 64 11)) [] 25 0
    ∷ refused_by (plain_step (house 1 0)) (0x00000002 ∷ 0x30000001 ∷ 0xE0000001 ∷ []) 2 0
    ∷ refused_by (normal_step (house 1 10)) (0x001F4005 ∷ 0x30000001 ∷ []) 2 0
    ∷ refused_by (normal_step (house 256 2)) (0x00000006 ∷ 0x30000001 ∷ 0x20000000 ∷ 0x80008001 ∷ 0x10000000 ∷ 0xA0010003 ∷ 0x80008005 ∷ []) 11 6
    -- of document 02, N7: of the two parts with one chosen word that of the outer word, G, comes first
    ∷ normal (0x00180007 ∷ 0x10000000 ∷ 0x40000001 ∷ 0x20000000 ∷ 0x30000002 ∷ 0x8000C004 ∷ 0x60008005 ∷ 0xA0004006 ∷ [])
    (0x00100011
    ∷ 0x10000000 ∷ 0x40000001 ∷ 0xA0004002 ∷ 0x20000000 ∷ 0x30000002 ∷ 0x80010005 ∷ 0x60008006 ∷ 0xB000C007 ∷ 0xA0004003 ∷ 0x80010009
    ∷ 0x5002000A ∷ 0x6002000B ∷ 0x80010006 ∷ 0xA000400D ∷ 0x5001C00E ∷ 0x6003000F ∷ 0x6004000F ∷ [])
    -- of document 02, N8: the forms of G true, which is true, of p1 M false, which is false, and of false W (true M p1)
    ∷ normal (0x001F0003 ∷ 0x10000000 ∷ 0x20000000 ∷ 0xA0004002 ∷ []) (0x001FC001 ∷ 0x20000000 ∷ [])
    ∷ normal (0x001E8003 ∷ 0x30000001 ∷ 0x10000000 ∷ 0xB0004002 ∷ []) (0x001FC001 ∷ 0x10000000 ∷ [])
    ∷ normal (0x00180005 ∷ 0x10000000 ∷ 0x20000000 ∷ 0x30000001 ∷ 0xB0008003 ∷ 0x90004004 ∷ [])
    (0x0010000B ∷ 0x30000001 ∷ 0x10000000 ∷ 0x20000000 ∷ 0x8000C001 ∷ 0xA0008004 ∷ 0x50004005 ∷ 0x60004006 ∷ 0xA0008001 ∷ 0x8000C008 ∷ 0x50018009 ∷ 0x6001C00A ∷ [])
    -- of document 02, N11: F p1 and G p1 are their own forms; of F G F p1, which is not in Delta-2, the form is the normal form
    ∷ form (0x001E8003 ∷ 0x20000000 ∷ 0x30000001 ∷ 0x80004002 ∷ []) (0x001E8003 ∷ 0x20000000 ∷ 0x30000001 ∷ 0x80004002 ∷ [])
    ∷ form (0x001F0003 ∷ 0x10000000 ∷ 0x30000001 ∷ 0xA0004002 ∷ []) (0x001F0003 ∷ 0x10000000 ∷ 0x30000001 ∷ 0xA0004002 ∷ [])
    ∷ form (0x00000006 ∷ 0x30000001 ∷ 0x20000000 ∷ 0x80008001 ∷ 0x10000000 ∷ 0xA0010003 ∷ 0x80008005 ∷ [])
    (0x00180009 ∷ 0x20000000 ∷ 0x30000001 ∷ 0x80004002 ∷ 0x80004003 ∷ 0x10000000 ∷ 0xA0014004 ∷ 0x50010006 ∷ 0x6001C007 ∷ 0x60020007 ∷ [])
    ∷ []
