-- "size pool N size desc N size records N size output N", "poke pool I V poke desc I V", and the limits: "pool 4,608 octets, desc 40 words,
-- records 49,152 octets, output 512 octets".
use Rattle.std.specs.Prelude.{ℕ, List, [], ◌∷◌, find, Option, Some, None, if◌then◌else◌, nat_lt, nat_le, codes}
use Rattle.std.specs.Str.{bytes_eq}
use Rattle.console_words.specs.Words.{word_of}
use Rattle.console_numbers.specs.Numbers.{◌>>=◌, decimal_of}
use Rattle.console_requests.specs.declared.Area.{Area}
use Rattle.console_requests.specs.declared.Area.TheVariants.{Pool, Descriptors, Records, Output}
use Rattle.console_requests.specs.declared.Request.{Request}
use Rattle.console_requests.specs.declared.Request.TheVariants.{Size, PokePool, PokeDescriptor}

abbrev pub name_of : Area → List ℕ
name_of Pool = codes "pool"
name_of Descriptors = codes "desc"
name_of Records = codes "records"
name_of Output = codes "output"

-- the area that a word names
unfoldable pub area_of : List ℕ → Option Area
area_of word = find (λ area. bytes_eq (name_of area) word) (Pool ∷ Descriptors ∷ Records ∷ Output ∷ [])

-- how many octets or words of an area there are
abbrev pub most_of : Area → ℕ
most_of Pool = 4608
most_of Descriptors = 40
most_of Records = 49152
most_of Output = 512

-- word i of a line as a number
unfoldable pub number_at : List ℕ → ℕ → Option ℕ
number_at line i = word_of line i >>= decimal_of

-- size AREA N
unfoldable pub size_of : List ℕ → Option Request
size_of line = do
  name ← word_of line 1
  area ← area_of name
  size ← number_at line 2
  if nat_le size (most_of area) then Some (Size area size) else None

-- a value for a place of the pool or of the descriptors; the other areas can't be written
abbrev pub poked : Area → ℕ → ℕ → Option Request
poked Pool place value = if nat_lt value 256 then Some (PokePool place value) else None
poked Descriptors place value = Some (PokeDescriptor place value)
poked Records place value = None
poked Output place value = None

-- poke AREA I V
unfoldable pub poke_of : List ℕ → Option Request
poke_of line = do
  name ← word_of line 1
  area ← area_of name
  place ← number_at line 2
  value ← number_at line 3
  if nat_lt place (most_of area) then poked area place value else None
