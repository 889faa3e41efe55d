-- What a call gives and what is put behind the text are what the definition of that call's line says.
use Prim.Native.Nat.{ℕ}
use mathlib.Core.Path.{◌≡◌, refl, sym, ap, ◌∙◌}
use mathlib.Core.List.{List, ◌++◌}
use lib.ListN.{take}
use Rattle.std.specs.Prelude.{Result, Ok, Err, IfOk, OnOk, codes}
use Rattle.std.specs.Result.{result_unwrap_or}
use Rattle.std.specs.declared.alloc.AllocError.{AllocError}
use Rattle.board.specs.declared.Settings.{Settings}
use Rattle.board.specs.declared.Link.{Link}
use Rattle.link.specs.declared.Refusal.{Refusal}
use Rattle.link.specs.declared.Counted.{Counted}
use Rattle.link.specs.Answer.{Answer, number_of, answered}
use Rattle.link.specs.Refusals.{read_number}
use Rattle.link.specs.Calls.{Outcome, outcome_of, command_answer, clear_answer, read_part, wipe_answer}
use Rattle.input.specs.Receive as Receive
use Rattle.input.specs.Receive.{ReceiveOutcome}
use Rattle.output.specs.Output.{OutputOutcome, output_of}
use Rattle.console_board.specs.Lent.{pool_lent, words_lent}
use Rattle.console_board.specs.Calls.{opened, handed, received, sent, filled}
use Rattle.console_print.specs.Answers.{done_line, wiped_line, received_lines, made_line, read_line}
use Rattle.console_calls.specs.declared.Board.{Board}
use Rattle.console_calls.specs.Console.{console_of, printed, after_text, counted_or}
use Rattle.console_calls.specs.Answers.{opening, receiving, commanding, clearing, sending, filling, reading, handing, wiping}

-- what a call on link l gives, with the link as it was where it is refused
outcome-is : (l : Link) (r : Result Link Refusal) (pool descriptors : List ℕ)
    → outcome_of l r pool descriptors ≡ record { number = number_of r; link = result_unwrap_or r l; pool = pool; descriptors = descriptors }
outcome-is l (Ok x) pool descriptors = refl
outcome-is l (Err x) pool descriptors = refl

answer-is : (l : Link) (r : Result Link Refusal) → answered l r ≡ record { number = number_of r; link = result_unwrap_or r l }
answer-is l (Ok x) = refl
answer-is l (Err x) = refl

receive-is : (l : Link) (r : Result Counted Refusal) (p d a : List ℕ)
    → Receive.outcome_of l r p d a ≡ record { number = number_of r; link = (counted_or l r).link; count = (counted_or l r).count; pool = p; descriptors = d; records = a }
receive-is l (Ok x) p d a = refl
receive-is l (Err x) p d a = refl

output-is : (l : Link) (r : Result Counted Refusal) (a : List ℕ)
    → output_of l r a ≡ record { number = number_of r; link = (counted_or l r).link; count = (counted_or l r).count; output = a }
output-is l (Ok x) a = refl
output-is l (Err x) a = refl

-- the board with the link that a call gives, and its name and number behind the text
abbrev Said : Board → Result Link Refusal → List ℕ → List ℕ → List ℕ → Board → Type 0
Said b r name t t' after = (after ≡ record { link = result_unwrap_or r b.link; sizes = b.sizes }) × (t' ≡ t ++ done_line name (number_of r))

module _ (b : Board) (pool descriptors p d records output t t' : List ℕ) (r : Result Link Refusal) where
  module _ (name : List ℕ) (o : Outcome) (e : outcome_of b.link r p d ≡ o) (after : Board) (said : Said b r name t t' after) where
    said-is : printed (console_of after p d records output) t'
        ≡ after_text t (printed (record { link = o.link; sizes = b.sizes; pool = o.pool; descriptors = o.descriptors; records = records; output = output }) (done_line name o.number))
    said-is =
        let given = sym (outcome-is b.link r p d) ∙ e in
        let link = ap (λ (x : Board). x.link) said.0 ∙ ap (λ (x : Outcome). x.link) given in
        let sizes = ap (λ (x : Board). x.sizes) said.0 in
        let text = said.1 ∙ ap (λ (x : Outcome). t ++ done_line name x.number) given in
        λ i.
        record {
          console = record { link = link i; sizes = sizes i; pool = (given i).pool; descriptors = (given i).descriptors; records = records; output = output };
          text = text i;
        }

  pub opening_is : (s : Settings) (res : Result Board AllocError) → outcome_of b.link r p d ≡ opened b.link b.sizes s pool descriptors
      → IfOk res (λ after. (after ≡ record { link = result_unwrap_or r b.link; sizes = b.sizes }) × (t' ≡ t ++ done_line (codes "open") (number_of r)))
      → IfOk res (λ after. printed (console_of after p d records output) t' ≡ after_text t (opening (console_of b pool descriptors records output) s))
  unfolding opening
  opening_is s (Ok after) e said = said-is (codes "open") _ e after said
  opening_is s (Err x) e said = said

  pub handing_is : (slot : ℕ) (res : Result Board AllocError) → outcome_of b.link r p d ≡ handed b.link b.sizes pool descriptors slot
      → IfOk res (λ after. (after ≡ record { link = result_unwrap_or r b.link; sizes = b.sizes }) × (t' ≡ t ++ done_line (codes "hand") (number_of r)))
      → IfOk res (λ after. printed (console_of after p d records output) t' ≡ after_text t (handing (console_of b pool descriptors records output) slot))
  unfolding handing
  handing_is slot (Ok after) e said = said-is (codes "hand") _ e after said
  handing_is slot (Err x) e said = said

module _ (b : Board) (pool descriptors records output t t' : List ℕ) (r : Result Link Refusal) where
  module _ (name : List ℕ) (o : Answer) (e : answered b.link r ≡ o) (after : Board) (said : Said b r name t t' after) where
    answer-said : printed (console_of after pool descriptors records output) t'
        ≡ after_text t (printed (record { link = o.link; sizes = b.sizes; pool = pool; descriptors = descriptors; records = records; output = output }) (done_line name o.number))
    answer-said =
        let given = sym (answer-is b.link r) ∙ e in
        let link = ap (λ (x : Board). x.link) said.0 ∙ ap (λ (x : Answer). x.link) given in
        let sizes = ap (λ (x : Board). x.sizes) said.0 in
        let text = said.1 ∙ ap (λ (x : Answer). t ++ done_line name x.number) given in
        λ i.
        record {
          console = record { link = link i; sizes = sizes i; pool = pool; descriptors = descriptors; records = records; output = output };
          text = text i;
        }

  pub commanding_is : (n : ℕ) (res : Result Board AllocError) → answered b.link r ≡ command_answer b.link n
      → IfOk res (λ after. (after ≡ record { link = result_unwrap_or r b.link; sizes = b.sizes }) × (t' ≡ t ++ done_line (codes "command") (number_of r)))
      → IfOk res (λ after. printed (console_of after pool descriptors records output) t' ≡ after_text t (commanding (console_of b pool descriptors records output) n))
  unfolding commanding
  commanding_is n (Ok after) e said = answer-said (codes "command") _ e after said
  commanding_is n (Err x) e said = said

  pub clearing_is : (chosen : ℕ) (res : Result Board AllocError) → answered b.link r ≡ clear_answer b.link chosen
      → IfOk res (λ after. (after ≡ record { link = result_unwrap_or r b.link; sizes = b.sizes }) × (t' ≡ t ++ done_line (codes "clear") (number_of r)))
      → IfOk res (λ after. printed (console_of after pool descriptors records output) t' ≡ after_text t (clearing (console_of b pool descriptors records output) chosen))
  unfolding clearing
  clearing_is chosen (Ok after) e said = answer-said (codes "clear") _ e after said
  clearing_is chosen (Err x) e said = said

module _ (b : Board) (pool descriptors p d records a output t t' octets : List ℕ) (r : Result Counted Refusal) (number : ℕ) (given : Counted) where
  pub receiving_is : Receive.outcome_of b.link r p d a ≡ received b.link b.sizes octets pool descriptors records → number ≡ number_of r → given ≡ counted_or b.link r
      → t' ≡ t ++ received_lines number given.count a
      → printed (console_of (record { link = given.link; sizes = b.sizes }) p d a output) t'
      ≡ after_text t (receiving (console_of b pool descriptors records output) octets)
  unfolding receiving
  receiving_is e en eg et =
      let o = sym (receive-is b.link r p d a) ∙ e in
      let link = ap (λ (x : Counted). x.link) eg ∙ ap (λ (x : ReceiveOutcome). x.link) o in
      let first : received_lines number given.count a ≡ received_lines (number_of r) (counted_or b.link r).count a = λ i. received_lines (en i) (eg i).count a in
      let text = et ∙ ap (λ (x : List ℕ). t ++ x) first ∙ ap (λ (x : ReceiveOutcome). t ++ received_lines x.number x.count x.records) o in
      λ i.
      record {
        console = record { link = link i; sizes = b.sizes; pool = (o i).pool; descriptors = (o i).descriptors; records = (o i).records; output = output };
        text = text i;
      }

module _ (b : Board) (pool descriptors records output a t t' : List ℕ) (r : Result Counted Refusal) (number : ℕ) (given : Counted) (en : number ≡ number_of r) (eg : given ≡ counted_or b.link r) where
  module _ (name : List ℕ) (o : OutputOutcome) (e : output_of b.link r a ≡ o) (et : t' ≡ t ++ made_line name number (take given.count a)) where
    made-is : printed (console_of (record { link = given.link; sizes = b.sizes }) pool descriptors records a) t'
        ≡ after_text t (printed (record { link = o.link; sizes = b.sizes; pool = pool; descriptors = descriptors; records = records; output = o.output }) (made_line name o.number (take o.count o.output)))
    made-is =
        let made = sym (output-is b.link r a) ∙ e in
        let link = ap (λ (x : Counted). x.link) eg ∙ ap (λ (x : OutputOutcome). x.link) made in
        let first : made_line name number (take given.count a) ≡ made_line name (number_of r) (take (counted_or b.link r).count a) = λ i. made_line name (en i) (take (eg i).count a) in
        let text = et ∙ ap (λ (x : List ℕ). t ++ x) first ∙ ap (λ (x : OutputOutcome). t ++ made_line name x.number (take x.count x.output)) made in
        λ i.
        record {
          console = record { link = link i; sizes = b.sizes; pool = pool; descriptors = descriptors; records = records; output = (made i).output };
          text = text i;
        }

  pub sending_is : (content : List ℕ) → output_of b.link r a ≡ sent b.link b.sizes content output → t' ≡ t ++ made_line (codes "send") number (take given.count a)
      → printed (console_of (record { link = given.link; sizes = b.sizes }) pool descriptors records a) t'
      ≡ after_text t (sending (console_of b pool descriptors records output) content)
  unfolding sending
  sending_is content e et = made-is (codes "send") _ e et

  pub filling_is : output_of b.link r a ≡ filled b.link b.sizes output → t' ≡ t ++ made_line (codes "fill") number (take given.count a)
      → printed (console_of (record { link = given.link; sizes = b.sizes }) pool descriptors records a) t'
      ≡ after_text t (filling (console_of b pool descriptors records output))
  unfolding filling
  filling_is e et = made-is (codes "fill") _ e et

pub reading_is : {T : Type 0} (b : Board) (pool descriptors records output t t' unit : List ℕ) (slot number : ℕ) (res : Result T AllocError)
    → number ≡ read_number b.link (take (pool_lent b.sizes b.link.settings.k pool) pool) (take (words_lent b.sizes b.link.settings.k descriptors) descriptors) slot
    → unit ≡ read_part b.link (take (pool_lent b.sizes b.link.settings.k pool) pool) (take (words_lent b.sizes b.link.settings.k descriptors) descriptors) slot
    → OnOk res (t' ≡ t ++ read_line number unit)
    → IfOk res (λ _. printed (console_of b pool descriptors records output) t' ≡ after_text t (reading (console_of b pool descriptors records output) slot))
unfolding reading
reading_is b pool descriptors records output t t' unit slot number (Ok x) en eu et =
    let text = et ∙ (λ i. t ++ read_line (en i) (eu i)) in λ i. printed (console_of b pool descriptors records output) (text i)
reading_is b pool descriptors records output t t' unit slot number (Err x) en eu et = et

pub wiping_is : (b : Board) (pool descriptors p d records output t t' : List ℕ) (l : Link)
    → record { link = l; octets = p; words = d } ≡ wipe_answer pool descriptors → t' ≡ t ++ wiped_line
    → printed (console_of (record { link = l; sizes = b.sizes }) p d records output) t' ≡ after_text t (wiping (console_of b pool descriptors records output))
unfolding wiping
wiping_is b pool descriptors p d records output t t' l e et =
    let same : record { link = l; octets = p; words = d } ≡ wipe_answer pool descriptors = e in
    λ i.
    record {
      console = record { link = (same i).link; sizes = b.sizes; pool = (same i).octets; descriptors = (same i).words; records = records; output = output };
      text = et i;
    }
