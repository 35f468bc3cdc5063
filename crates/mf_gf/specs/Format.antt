-- Opcodes and other numbers of the GF format (gftype.web).
use Rattle.std.specs.Prelude.{ℕ}

-- ---- the opcodes

-- the greatest number of pixels that is its own opcode: paint_0 to paint_63
abbrev pub most_painted : ℕ
most_painted = 63

-- paint1 paints as many pixels as its parameter of one byte says; paint2 follows it, with two bytes
abbrev pub paint1 : ℕ
paint1 = 64

-- boc begins a character; boc1 is shorter
abbrev pub boc : ℕ
boc = 67

abbrev pub boc1 : ℕ
boc1 = 68

-- eoc ends a character
abbrev pub eoc : ℕ
eoc = 69

-- skip0 goes to the left end of the box in the next row, where white is painted next; skip1 first skips as many rows as its parameter of
-- one byte says; skip2 follows it, with two bytes
abbrev pub skip0 : ℕ
skip0 = 70

abbrev pub skip1 : ℕ
skip1 = 71

-- new_row_0 goes to the left end of the box in the next row, where black is painted next; the others follow it, up to new_row_164, and
-- go as many columns further to the right as their offset says
abbrev pub new_row_0 : ℕ
new_row_0 = 74

-- the greatest offset of new_row
abbrev pub most_new_row : ℕ
most_new_row = 164

-- char_loc begins a locator, and char_loc0 a shorter one
abbrev pub char_loc : ℕ
char_loc = 245

abbrev pub char_loc0 : ℕ
char_loc0 = 246

-- pre begins the preamble, post the postamble, and post_post the ending
abbrev pub pre : ℕ
pre = 247

abbrev pub post : ℕ
post = 248

abbrev pub post_post : ℕ
post_post = 249

-- ---- other numbers

-- the identification byte
abbrev pub id_byte : ℕ
id_byte = 131

-- the padding byte, with which a file ends, and how many of them METAFONT writes at most (mf.web); the format allows any number from
-- four on
abbrev pub padding_byte : ℕ
padding_byte = 223

abbrev pub most_padding : ℕ
most_padding = 7

-- the number of bytes in the ending before the padding
abbrev pub ending_size : ℕ
ending_size = 6

-- one pixel in the units of an escapement (mf.web)
abbrev pub unity : ℕ
unity = 65536
