-- `areas::area_named` meets its contract: the areas are looked through in their order.
use Rattle.std.proofs.Common.{rules, ◌∙◌, List, [], ◌∷◌}
use Rattle.std.specs.Str.{bytes_eq}
use Rattle.std.proofs.lemmas.Iterator.{YieldsList-from_slice}
use Rattle.std.proofs.lemmas.Iterator.Search.{find_from_yields_List}
use Rattle.console_requests.specs.declared.Area.{Area}
use Rattle.console_requests.specs.declared.Area.TheVariants.{Pool, Descriptors, Records, Output}
use Rattle.console_requests.specs.Areas.{name_of, area_of}
use Rattle.console_requests.proofs.areas.area_named.Goals as goal

abbrev all : List Area
all = Pool ∷ Descriptors ∷ Records ∷ Output ∷ []

pub returns : goal.returns
unfolding area_of
returns c =
    let word = c.args.word.now in
    c.copied.ensures ∙ find_from_yields_List (λ (area : Area). bytes_eq (name_of area) word) _ _ c.find.result c.find.ensures.ran (YieldsList-from_slice all c.iter.ensures.rest) (λ x b q k. search rules)
