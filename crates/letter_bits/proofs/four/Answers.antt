-- Four digits, each at its place.
use Rattle.letter_bits.proofs.Packed.{pack-digits}
use Rattle.letter_bits.proofs.four.Goals as goal

pub returns : goal.returns
returns c =
    let a = c.letter_bit in
    pack-digits _ _ _ _ _ _ a.ensures.0 c.letter_bit-2.ensures.0 c.letter_bit-3.ensures.0 c.letter_bit-4.ensures.0
