-- The limits of lines and their numbers, and the bytes that have a part in their tokens (here as well as in the code, so that a wrong
-- constant there is not proved).
use Rattle.std.specs.Prelude.{ℕ}

-- the greatest number of bytes of a line
abbrev pub longest_line : ℕ
longest_line = 65536

-- the greatest number of digits of a number
abbrev pub most_digits : ℕ
most_digits = 9

-- the least number that has more digits than that
abbrev pub number_bound : ℕ
number_bound = 1000000000

-- the greatest code of a character
abbrev pub greatest_code : ℕ
greatest_code = 255

-- the tab, one of the two blanks
abbrev pub tab : ℕ
tab = 9

-- the space, the other blank and the first printed byte of ASCII
abbrev pub space : ℕ
space = 32

-- the last printed byte of ASCII, `~`
abbrev pub last_printed : ℕ
last_printed = 126

-- the byte that begins a comment
abbrev pub percent_sign : ℕ
percent_sign = 37

-- the first letter that is a token
abbrev pub letter_a : ℕ
letter_a = 97

-- the last letter that is a token
abbrev pub letter_z : ℕ
letter_z = 122
