-- The numbers of the font.
use Rattle.std.specs.Prelude.{◌*◌, ◌+◌, ◌/◌, ℕ, pos}
use Rattle.mf_gf.specs.declared.file.FontWords.{FontWords}

-- the integer nearest to a quotient
abbrev pub nearest : ℕ → ℕ → ℕ
nearest n d = (2 * n + d) / (2 * d)

-- the pixels in a point, in 1/65536, at a resolution in dots per inch: a point is 100/7227 inch
abbrev pub pixels_per_point : ℕ → ℕ
pixels_per_point resolution = nearest (resolution * 65536 * 100) 7227

-- the numbers of a font with this design size in points and this resolution in dots per inch
abbrev pub font_words : ℕ → ℕ → FontWords
font_words design_size resolution = record {
  ds = pos (design_size * 1048576);
  cs = 0;
  hppp = pos (pixels_per_point resolution);
  vppp = pos (pixels_per_point resolution);
}
