-- `grammar::with_octets` meets its contract: as many octets are said as are counted.
use Rattle.std.proofs.Common.{◌∙◌, ap, List, ℕ, Option}
use Rattle.std.specs.Option.{option_map}
use Rattle.console_numbers.specs.Numbers.{◌>>=◌, octets_up_to}
use Rattle.console_requests.specs.declared.Request.{Request}
use Rattle.console_requests.specs.Requests.{with_octets}
use Rattle.console_requests.proofs.Octets.{counted, none_said}
use Rattle.console_requests.proofs.grammar.with_octets.Goals as goal

-- the request of a word that may not be there
abbrev of_word : Request → ℕ → Option (List ℕ) → Option Request
of_word request most word = word >>= λ (hex : List ℕ). option_map (λ (octets : List ℕ). request) (octets_up_to most hex)

pub returns-in_err-octets : goal.returns-in_err-octets
unfolding with_octets
returns-in_err-octets c =
    let a = c.args in
    c.from_residual-in_err-octets.ensures ∙ none_said a.request a.most c.in_ok-word.field-0.now c.in_err-octets.ensures ∙ ap (of_word a.request a.most) c.in_ok-word.ensures

pub returns : goal.returns
unfolding with_octets
returns c =
    let a = c.args in
    c.then_some.ensures ∙ counted a.request a.most c.in_ok-word.field-0.now c.in_ok-octets.octets c.in_ok-octets.ensures ∙ ap (of_word a.request a.most) c.in_ok-word.ensures
