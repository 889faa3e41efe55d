-- "Rows ready for use".
use Rattle.std.specs.Prelude.{ℕ, ◌+◌, ◌*◌, Bool, false, cond, List, [], ◌∷◌, leb, get_or, replicate}
use Rattle.bits.specs.Format.{basic, fill_in_octets}
use Rattle.board.specs.declared.Settings.{Settings}
use Rattle.board.specs.declared.rows.Row.{Row}

-- none; 1 normal; 2 emergency; 3 short, normal; 4 short, emergency: M, N, T, D and A of each
unfoldable pub table : List ℕ
table =
    0 ∷ 0 ∷ 0 ∷ 0 ∷ 0
    ∷ 278 ∷ 16 ∷ 64 ∷ 256 ∷ 4
    ∷ 278 ∷ 16 ∷ 64 ∷ 256 ∷ 1
    ∷ 278 ∷ 16 ∷ 32 ∷ 256 ∷ 4
    ∷ 278 ∷ 16 ∷ 32 ∷ 256 ∷ 1
    ∷ []

-- where a row starts; a number that is no row's gives the first, which opening refuses
abbrev pub row_start : ℕ → ℕ
row_start number = cond (leb number 4) (number * 5) 0

abbrev pub row_from : ℕ → Row
row_from at =
    record { m = get_or table at 0; n = get_or table (at + 1) 0; t = get_or table (at + 2) 0; d = get_or table (at + 3) 0; a = get_or table (at + 4) 0 }

unfoldable pub row_of : ℕ → Row
row_of number = row_from (row_start number)

-- a row with k slots and the mask all ones, the filter on or off, the other switches off
abbrev pub row_settings : ℕ → ℕ → Bool → Settings
row_settings number k filter =
    record {
      k = k;
      m = (row_of number).m;
      n = (row_of number).n;
      t = (row_of number).t;
      d = (row_of number).d;
      a = (row_of number).a;
      mask = replicate (fill_in_octets basic) 255;
      filter = filter;
      itu = false;
      orn = false;
    }
