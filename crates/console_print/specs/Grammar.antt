-- "`help` prints the grammar": what a line may be, and `end`.
use Prim.Native.String.{String}
use Rattle.std.specs.Prelude.{ℕ, List, [], ◌∷◌, ◌++◌, codes}
use Rattle.std.specs.List.{flat_map}
use Rattle.console_print.specs.Lines.{line}

abbrev pub forms : List String
forms =
    "open K M N T D A MASK [filter] [itu] [orn]" ∷ "row R K MASK [filter] [itu] [orn]"
    ∷ "receive HEX" ∷ "command C" ∷ "clear BITS" ∷ "send HEX" ∷ "fill" ∷ "read S" ∷ "hand S" ∷ "wipe"
    ∷ "size pool N" ∷ "size desc N" ∷ "size records N" ∷ "size output N" ∷ "size auto"
    ∷ "poke pool I V" ∷ "poke desc I V" ∷ "show" ∷ "slots" ∷ "help" ∷ []

unfoldable pub help_lines : List ℕ
help_lines = flat_map (λ form. line (codes form ∷ [])) forms ++ line (codes "end" ∷ [])
