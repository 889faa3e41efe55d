-- What each call answers on the front of each area that is lent, with what stands behind it, which stays.
use Rattle.std.specs.Prelude.{ℕ, List, ◌++◌, take, drop}
use Rattle.board.specs.declared.Settings.{Settings}
use Rattle.board.specs.declared.Link.{Link}
use Rattle.link.specs.Calls.{Outcome, open_answer, hand_answer}
use Rattle.input.specs.Receive.{ReceiveOutcome, receive_answer}
use Rattle.output.specs.Output.{OutputOutcome, send_answer, fill_answer}
use Rattle.console_board.specs.declared.Sizes.{Sizes}
use Rattle.console_board.specs.Lent.{pool_lent, words_lent, all_lent}

-- behind the first p octets of the pool and the first d words of the descriptors
abbrev pub behind : ℕ → ℕ → List ℕ → List ℕ → Outcome → Outcome
behind p d pool descriptors o =
    record { number = o.number; link = o.link; pool = o.pool ++ drop p pool; descriptors = o.descriptors ++ drop d descriptors }

unfoldable pub opened : Link → Sizes → Settings → List ℕ → List ℕ → Outcome
opened l sizes s pool descriptors =
    let p = pool_lent sizes s.k pool in
    let d = words_lent sizes s.k descriptors in
    behind p d pool descriptors (open_answer l s (take p pool) (take d descriptors))

unfoldable pub handed : Link → Sizes → List ℕ → List ℕ → ℕ → Outcome
handed l sizes pool descriptors slot =
    let p = pool_lent sizes l.settings.k pool in
    let d = words_lent sizes l.settings.k descriptors in
    behind p d pool descriptors (hand_answer l (take p pool) (take d descriptors) slot)

abbrev pub behind_records : ℕ → ℕ → ℕ → List ℕ → List ℕ → List ℕ → ReceiveOutcome → ReceiveOutcome
behind_records p d n pool descriptors records o =
    record {
      number = o.number;
      link = o.link;
      count = o.count;
      pool = o.pool ++ drop p pool;
      descriptors = o.descriptors ++ drop d descriptors;
      records = o.records ++ drop n records;
    }

unfoldable pub received : Link → Sizes → List ℕ → List ℕ → List ℕ → List ℕ → ReceiveOutcome
received l sizes octets pool descriptors records =
    let p = pool_lent sizes l.settings.k pool in
    let d = words_lent sizes l.settings.k descriptors in
    let n = all_lent sizes.records records in
    behind_records p d n pool descriptors records (receive_answer l octets (take p pool) (take d descriptors) (take n records))

abbrev pub behind_output : ℕ → List ℕ → OutputOutcome → OutputOutcome
behind_output n output o = record { number = o.number; link = o.link; count = o.count; output = o.output ++ drop n output }

unfoldable pub sent : Link → Sizes → List ℕ → List ℕ → OutputOutcome
sent l sizes content output =
    let n = all_lent sizes.output output in behind_output n output (send_answer l content (take n output))

unfoldable pub filled : Link → Sizes → List ℕ → OutputOutcome
filled l sizes output = let n = all_lent sizes.output output in behind_output n output (fill_answer l (take n output))
