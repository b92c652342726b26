-- The table as one pass over the text makes it, byte by byte.
use Rattle.std.specs.Prelude.{ℕ, ◌+◌, ◌-◌, ◌^◌, ◌<◌, ◌==◌, List, [], ◌∷◌, Option, None, Some, if◌then◌else◌}
use Rattle.lis_record_values.specs.Delimiters.{DelimiterBytes}
use Rattle.lis_table.specs.declared.table.LisPart.{LisPart}

-- what begins after a byte that ends this component; none if the byte is no delimiter
abbrev pub next_place : DelimiterBytes → LisPart → ℕ → Option LisPart
next_place d p b =
    if b == d.field then Some (record {
      offset = p.offset + p.len + 1;
      len = 0;
      field = p.field + 1;
      repeat = 0;
      component = 0;
      flags = 0;
    })
    else if b == d.repeat then Some (record {
      offset = p.offset + p.len + 1;
      len = 0;
      field = p.field;
      repeat = p.repeat + 1;
      component = 0;
      flags = 0;
    })
    else if b == d.component then Some (record {
      offset = p.offset + p.len + 1;
      len = 0;
      field = p.field;
      repeat = p.repeat;
      component = p.component + 1;
      flags = 0;
    })
    else None

-- this component with one more byte
abbrev pub longer : DelimiterBytes → LisPart → ℕ → LisPart
longer d p b = record p { len = p.len + 1; flags = if b == d.escape then 1 else p.flags }

-- what comes of a byte: the component goes on, or it ends and the next begins
abbrev pub scanned_by : LisPart → Option LisPart → LisPart → (LisPart → List LisPart) → List LisPart
scanned_by p None longer others = others longer
scanned_by p (Some next) longer others = p ∷ others next

-- the components of a text, the first of which was begun
abbrev pub scanned : DelimiterBytes → LisPart → List ℕ → List LisPart
scanned d p [] = p ∷ []
scanned d p (b ∷ bs) = scanned_by p (next_place d p b) (longer d p b) (λ q. scanned d q bs)

-- the component that was begun, with the bytes of its text before a place
abbrev pub up_to : LisPart → ℕ → LisPart
up_to begun end = record begun { len = end - begun.offset }

-- the numbers of a component fit while so many bytes are left
pub record IsRoomy (p : LisPart) (left : ℕ) : Type 0 where
  pub place : p.offset + p.len + left < 2 ^ 31
  pub field : p.field + left < 2 ^ 31
  pub repeat : p.repeat + left < 2 ^ 31
  pub component : p.component + left < 2 ^ 31
