-- Rows that are spelled one after another.
use Rattle.std.proofs.Common.{◌≡◌, ℕ, zero, suc, ◌+◌, ℤ, pos, ◌+ℤ◌, List, [], ◌∷◌, ◌++◌, Option, None, Some, IfSome, ◌≤ℤ◌, ◌<ℤ◌, ◌-ℤ◌, refl, sym, subst, ap, ◌∙◌, arith, append_assoc, length, ◌≤◌}
use Rattle.std.specs.List.{flat_map}
use Rattle.std.proofs.lemmas.Int.{ints}
use Rattle.std.proofs.lemmas.List.{append-nil}
use Rattle.mf_geom.specs.Coordinates.{IsCoordinate, field_size, last_in_field, least_coordinate}
use Rattle.mf_geom.specs.Field.{IsColumnOrRow}
use Rattle.mf_rows.specs.declared.black_rows.BlackRows.{BlackRows}
use Rattle.mf_rows.specs.declared.run.Run.{Run}
use Rattle.mf_rows.specs.Order.{IsRun}
use Rattle.mf_rows.specs.BlackRows.{black_in, row_in, row_runs, runs_in}
use Rattle.mf_gf.specs.declared.spelling.Spelling.{Spelling}
use Rattle.mf_gf.specs.Rows.{blank_after_rows, repeated, rows_between}
use Rattle.mf_gf.specs.Spelling.{blank_after, distance, lengths, paint, row_lengths, row_start, rows_text}
use Rattle.mf_gf.specs.Spellings.{HasPart, Holds, IsPart}
use Rattle.mf_gf.proofs.EqualRows.{rows_after}
use Rattle.mf_gf.proofs.Writing.{Writes, write_both, write_same}

-- ---- equal rows

repeated-more : (n : ℕ) (bytes : List ℕ) → repeated n bytes ++ bytes ≡ repeated (suc n) bytes
unfolding repeated
repeated-more zero bytes = sym (append-nil bytes)
repeated-more (suc n) bytes = append_assoc bytes (repeated n bytes) bytes ∙ ap (λ more. bytes ++ more) (repeated-more n bytes)

-- bytes after a part
pub part_before : (s t : Spelling) (start end : ℕ) (before part after bytes : List ℕ) → Writes s t bytes → t.room ≡ s.room
    → HasPart s start end before part after → HasPart t start end before part (after ++ bytes)
part_before s t start end before part after bytes writes room has = record {
  held = subst (Holds t) (append_assoc (before ++ part) after bytes) (writes _ has.held);
  from = λ short. has.from (subst (λ n. length before ≤ n) room short);
  to = λ short. has.to (subst (λ n. length (before ++ part) ≤ n) room short);
}

-- bytes that were just written
pub just_written : {s t : Spelling} {before part : List ℕ} → Holds s before → Writes s t part → t.room ≡ s.room → HasPart t s.length t.length before part []
just_written {s} {t} {before} {part} holds writes room = record {
  held = subst (Holds t) (sym (append-nil (before ++ part))) (writes before holds);
  from = λ short. holds.counted (subst (λ n. length before ≤ n) room short);
  to = (writes before holds).counted;
}

-- n rows with the part that was there are spelled again
pub record AreRepeated (s t : Spelling) (offset start end n : ℕ) : Type 0 where
  pub room : t.room ≡ s.room
  pub rows : (before part after : List ℕ) → HasPart s start end before part after
      → HasPart t start end before part (after ++ repeated n (row_start (Some 0) offset ++ part))

pub none_repeated : (s : Spelling) (offset start end : ℕ) → AreRepeated s s offset start end 0
unfolding repeated
none_repeated s offset start end = record {
  room = refl;
  rows = λ before part after has. subst (HasPart s start end before part) (sym (append-nil after)) has;
}

module _ {s t u : Spelling} {offset start end n : ℕ} (so_far : AreRepeated s t offset start end n)
    (writes : Writes t u (row_start (Some 0) offset)) (same : u.room ≡ t.room) where
  abbrev row : List ℕ → List ℕ
  row part = row_start (Some 0) offset ++ part

  begun : (before part after : List ℕ) → HasPart s start end before part after
      → HasPart u start end before part (after ++ repeated n (row part) ++ row_start (Some 0) offset)
  begun before part after has = part_before t u start end before part _ _ writes same (so_far.rows before part after has)

  pub next_part : IsPart s start end → IsPart u start end
  next_part part = (_, _, _, begun _ _ _ part.3)

  pub one_more_repeated : {v : Spelling} → ((before part after : List ℕ) → HasPart u start end before part after → HasPart v start end before part (after ++ part))
      → v.room ≡ u.room → AreRepeated s v offset start end (n + 1)
  one_more_repeated {v} repeats room = record {
    room = room ∙ same ∙ so_far.room;
    rows = λ before part after has.
        let more : n + 1 ≡ suc n = omega arith in
        let rows : after ++ repeated n (row part) ++ row_start (Some 0) offset ++ part ≡ after ++ repeated (suc n) (row part) =
        append_assoc (after ++ repeated n (row part)) (row_start (Some 0) offset) part
        ∙ append_assoc after (repeated n (row part)) (row part) ∙ ap (λ more. after ++ more) (repeated-more n (row part)) in
        rw more (subst (HasPart v start end before part) rows (repeats _ _ _ (begun before part after has)));
  }

-- ---- a row

-- the runs that were passed are spelled
pub record ArePut (s t : Spelling) (before after : BlackRows) (from column : ℤ) : Type 0 where
  pub written : List ℕ
  pub writes : Writes s t written
  pub whole : written ++ flat_map paint (lengths column (runs_in after)) ≡ flat_map paint (lengths from (runs_in before))
  pub room : t.room ≡ s.room
  pub row : row_in after ≡ row_in before
  pub black : black_in after ≡ black_in before
  pub in_range : IsCoordinate column

module _ {s t : Spelling} {before after : BlackRows} {from column : ℤ} (so_far : ArePut s t before after from column) where
  pub one_more_put : {u : Spelling} (next : BlackRows) (r : Run) → runs_in after ≡ r ∷ runs_in next → row_in next ≡ row_in after → black_in next ≡ black_in after
      → IsRun r → Writes t u (paint (distance r.x column) ++ paint r.len) → u.room ≡ t.room → ArePut s u before next from (r.x +ℤ pos r.len)
  unfolding lengths
  one_more_put next r first row black run puts room =
      let stretches = paint (distance r.x column) ++ paint r.len in
      record {
        written = so_far.written ++ stretches;
        writes = write_both so_far.writes puts;
        whole = append_assoc so_far.written stretches _ ∙ ap (λ more. so_far.written ++ more) (append_assoc (paint (distance r.x column)) (paint r.len) _)
            ∙ ap (λ rs. so_far.written ++ flat_map paint (lengths column rs)) (sym first) ∙ so_far.whole;
        room = room ∙ so_far.room;
        row = row ∙ so_far.row;
        black = black ∙ so_far.black;
        in_range = record { least = omega (arith, ints, run.left); greatest = run.right };
      }

  pub all_put : runs_in after ≡ [] → Writes s t (flat_map paint (lengths from (runs_in before)))
  unfolding lengths
  all_put none =
      let all = sym (append-nil so_far.written) ∙ ap (λ rs. so_far.written ++ flat_map paint (lengths column rs)) (sym none) ∙ so_far.whole in
      write_same all so_far.writes

-- ---- all rows

-- the number of rows from row y down to the lowest
abbrev pub rows_left : ℤ → ℕ
rows_left y = rows_between y least_coordinate

-- the rows above the one that a reader has entered are spelled
pub record AreSpelled (s t : Spelling) (left : ℤ) (black : ℤ → ℤ → ℤ) (rows : BlackRows) (blank : Option ℕ) : Type 0 where
  pub written : List ℕ
  pub writes : Writes s t written
  pub whole : written ++ rows_text (row_lengths left black) (row_in rows) (rows_left (row_in rows)) blank
      ≡ rows_text (row_lengths left black) last_in_field field_size None
  pub room : t.room ≡ s.room
  pub is_black : black_in rows ≡ black
  pub row : IsColumnOrRow (row_in rows)
  pub runs : runs_in rows ≡ row_runs black (row_in rows) least_coordinate
  pub few : IfSome blank (λ n. pos n ≤ℤ (last_in_field -ℤ row_in rows))

few_below : (y : ℤ) (blank : Option ℕ) (ls : List ℕ) → y ≤ℤ last_in_field → IfSome blank (λ n. pos n ≤ℤ (last_in_field -ℤ y))
    → IfSome (blank_after blank ls) (λ n. pos n ≤ℤ (last_in_field -ℤ (y -ℤ pos 1)))
unfolding blank_after
few_below y None [] top few = tt
few_below y (Some n) [] top few = omega (arith, ints, few)
few_below y blank (l ∷ ls) top few = omega (arith, ints)

-- the blank rows above the next row lie in the field
few_after : (f : ℤ → List ℕ) (y : ℤ) (m : ℕ) (blank : Option ℕ) → y ≤ℤ last_in_field → IfSome blank (λ n. pos n ≤ℤ (last_in_field -ℤ y))
    → IfSome (blank_after_rows f y m blank) (λ n. pos n ≤ℤ (last_in_field -ℤ (y -ℤ pos m)))
unfolding blank_after_rows
few_after f y zero blank top few =
    let same : y ≡ y -ℤ pos 0 = omega (arith, ints) in
    subst (λ z. IfSome blank (λ n. pos n ≤ℤ (last_in_field -ℤ z))) same few
few_after f y (suc m) blank top few =
    let below : y -ℤ pos 1 -ℤ pos m ≡ y -ℤ pos (suc m) = omega (arith, ints) in
    subst (λ z. IfSome (blank_after_rows f (y -ℤ pos 1) m (blank_after blank (f y))) (λ n. pos n ≤ℤ (last_in_field -ℤ z))) below
    (few_after f (y -ℤ pos 1) m (blank_after blank (f y)) (omega (arith, ints)) (few_below y blank (f y) top few))

pub none_spelled : {s : Spelling} {left : ℤ} {black : ℤ → ℤ → ℤ} {rows : BlackRows} → black_in rows ≡ black → row_in rows ≡ last_in_field
    → runs_in rows ≡ row_runs black last_in_field least_coordinate → AreSpelled s s left black rows None
none_spelled {s} {left} {black} {rows} is_black row runs =
    let all : rows_left last_in_field ≡ field_size = omega (arith, ints) in
    record {
      written = [];
      writes = λ text holds. subst (Holds s) (sym (append-nil text)) holds;
      whole = rw (row, all) refl;
      room = refl;
      is_black = is_black;
      row = record { least = omega (arith, ints, row); greatest = omega (arith, ints, row) };
      runs = rw row runs;
      few = tt;
    }

module _ {s t u : Spelling} {left : ℤ} {black : ℤ → ℤ → ℤ} {rows : BlackRows} {blank : Option ℕ}
    (so_far : AreSpelled s t left black rows blank) (bottom : ℤ) (order : bottom ≤ℤ row_in rows)
    (writes : Writes t u (rows_text (row_lengths left black) (row_in rows) (rows_between (row_in rows) bottom) blank)) where
  abbrev own : ℤ → List ℕ
  own = row_lengths left black

  pub more_spelled : (next : BlackRows) → least_coordinate <ℤ bottom → row_in next ≡ bottom -ℤ pos 1 → black_in next ≡ black
      → runs_in next ≡ row_runs black (row_in next) least_coordinate → u.room ≡ t.room
      → AreSpelled s u left black next (blank_after_rows own (row_in rows) (rows_between (row_in rows) bottom) blank)
  more_spelled next low row is_black runs room =
      let y = row_in rows in
      let m = rows_between y bottom in
      let all : m + rows_left (row_in next) ≡ rows_left y = omega (arith, ints, row, low, order) in
      let below : y -ℤ pos m ≡ row_in next = omega (arith, ints, row, order) in
      let parts = rows_after own y m (rows_left (row_in next)) blank in
      let few = few_after own y m blank so_far.row.greatest so_far.few in
      record {
        written = so_far.written ++ rows_text own y m blank;
        writes = write_both so_far.writes writes;
        whole = append_assoc so_far.written _ _ ∙ ap (λ more. so_far.written ++ more) (sym (rw (all, below) at parts)) ∙ so_far.whole;
        room = room ∙ so_far.room;
        is_black = is_black;
        row = record { least = omega (arith, ints, row, low); greatest = omega (arith, ints, row, order, so_far.row.greatest) };
        runs = runs;
        few = rw below at few;
      }

  pub all_spelled : bottom ≡ least_coordinate → Writes s u (rows_text own last_in_field field_size None)
  all_spelled low = write_same so_far.whole (write_both so_far.writes (rw low at writes))
