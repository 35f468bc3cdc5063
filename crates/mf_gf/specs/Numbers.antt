-- Numbers in the fields of a GF file, the highest byte first.
use Rattle.std.specs.Prelude.{ℕ, ℤ, pos, negsuc, ◌≤ℤ◌, List, drop}
use Rattle.std.specs.Int.{cast_unsigned, w32}
use Rattle.byteorder.specs.Endian.{big_bytes, big_number, twos_complement}

-- how many codes there are: a code is one byte
abbrev pub code_count : ℕ
code_count = 256

-- the greatest number of one byte, and so the greatest parameter of paint1 and skip1
abbrev pub greatest_byte : ℕ
greatest_byte = 255

-- the greatest number of two bytes, and so the greatest parameter of paint2 and skip2
abbrev pub greatest_halfword : ℕ
greatest_halfword = 65535

-- the greatest number of four bytes with a sign, and so the greatest place in a file, and number of its bytes
abbrev pub greatest_word : ℕ
greatest_word = 2147483647

-- the number z fits into four bytes with a sign
pub record IsWord (z : ℤ) : Type 0 where
  pub least : negsuc greatest_word ≤ℤ z
  pub greatest : z ≤ℤ pos greatest_word

-- the number of bytes in a field of four bytes
abbrev pub word_size : ℕ
word_size = 4

-- the four bytes of a number, in two's complement
abbrev pub word : ℤ → List ℕ
word z = big_bytes word_size (cast_unsigned w32 z)

-- the number in the four bytes from place i, without a sign and with it
abbrev pub unsigned_at : ℕ → List ℕ → ℕ
unsigned_at i bytes = big_number word_size (drop i bytes)

abbrev pub word_at : ℕ → List ℕ → ℤ
word_at i bytes = twos_complement word_size (unsigned_at i bytes)
