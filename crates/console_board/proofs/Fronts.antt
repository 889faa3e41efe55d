-- A call on the fronts of its areas, and what stands behind them: what the code gives is what the definitions say.
use Prim.Native.Nat.{ℕ}
use mathlib.Core.Path.{◌≡◌, refl, sym, ap, ◌∙◌}
use mathlib.Core.List.{List, ◌++◌}
use lib.ListN.{take, drop}
use Rattle.std.specs.Prelude.{Result, Ok, Err}
use Rattle.board.specs.declared.Settings.{Settings}
use Rattle.board.specs.declared.Link.{Link}
use Rattle.link.specs.declared.Refusal.{Refusal}
use Rattle.link.specs.declared.Counted.{Counted}
use Rattle.link.specs.Calls.{outcome_of, open_answer, hand_answer}
use Rattle.input.specs.Receive as Receive
use Rattle.input.specs.Receive.{receive_answer}
use Rattle.output.specs.Output.{output_of, send_answer, fill_answer}
use Rattle.console_board.specs.declared.Sizes.{Sizes}
use Rattle.console_board.specs.Lent.{pool_lent, words_lent, all_lent}
use Rattle.console_board.specs.Calls.{behind, opened, handed, behind_records, received, behind_output, sent, filled}

behind-is : (p d : ℕ) (pool descriptors : List ℕ) (l : Link) (r : Result Link Refusal) (np nd : List ℕ)
    → outcome_of l r (np ++ drop p pool) (nd ++ drop d descriptors) ≡ behind p d pool descriptors (outcome_of l r np nd)
behind-is p d pool descriptors l (Ok x) np nd = refl
behind-is p d pool descriptors l (Err x) np nd = refl

behind-records-is : (p d n : ℕ) (pool descriptors records : List ℕ) (l : Link) (r : Result Counted Refusal) (np nd nr : List ℕ)
    → Receive.outcome_of l r (np ++ drop p pool) (nd ++ drop d descriptors) (nr ++ drop n records)
    ≡ behind_records p d n pool descriptors records (Receive.outcome_of l r np nd nr)
behind-records-is p d n pool descriptors records l (Ok x) np nd nr = refl
behind-records-is p d n pool descriptors records l (Err x) np nd nr = refl

behind-output-is : (n : ℕ) (output : List ℕ) (l : Link) (r : Result Counted Refusal) (after : List ℕ)
    → output_of l r (after ++ drop n output) ≡ behind_output n output (output_of l r after)
behind-output-is n output l (Ok x) after = refl
behind-output-is n output l (Err x) after = refl

module _ (l : Link) (sizes : Sizes) (pool descriptors : List ℕ) (p d : ℕ) where
  pub opened_is : (s : Settings) (r : Result Link Refusal) (np nd : List ℕ) → p ≡ pool_lent sizes s.k pool → d ≡ words_lent sizes s.k descriptors
      → outcome_of l r np nd ≡ open_answer l s (take p pool) (take d descriptors)
      → outcome_of l r (np ++ drop p pool) (nd ++ drop d descriptors) ≡ opened l sizes s pool descriptors
  unfolding opened
  opened_is s r np nd ep ed e = rw (sym ep, sym ed) (behind-is p d pool descriptors l r np nd ∙ ap (behind p d pool descriptors) e)

  pub handed_is : (slot : ℕ) (r : Result Link Refusal) (np nd : List ℕ) → p ≡ pool_lent sizes l.settings.k pool → d ≡ words_lent sizes l.settings.k descriptors
      → outcome_of l r np nd ≡ hand_answer l (take p pool) (take d descriptors) slot
      → outcome_of l r (np ++ drop p pool) (nd ++ drop d descriptors) ≡ handed l sizes pool descriptors slot
  unfolding handed
  handed_is slot r np nd ep ed e = rw (sym ep, sym ed) (behind-is p d pool descriptors l r np nd ∙ ap (behind p d pool descriptors) e)

  pub received_is : (octets records : List ℕ) (n : ℕ) (r : Result Counted Refusal) (np nd nr : List ℕ) → p ≡ pool_lent sizes l.settings.k pool
      → d ≡ words_lent sizes l.settings.k descriptors → n ≡ all_lent sizes.records records
      → Receive.outcome_of l r np nd nr ≡ receive_answer l octets (take p pool) (take d descriptors) (take n records)
      → Receive.outcome_of l r (np ++ drop p pool) (nd ++ drop d descriptors) (nr ++ drop n records) ≡ received l sizes octets pool descriptors records
  unfolding received
  received_is octets records n r np nd nr ep ed en e =
      rw (sym ep, sym ed, sym en)
      (behind-records-is p d n pool descriptors records l r np nd nr ∙ ap (behind_records p d n pool descriptors records) e)

module _ (l : Link) (sizes : Sizes) (output : List ℕ) (n : ℕ) (r : Result Counted Refusal) (after : List ℕ) (en : n ≡ all_lent sizes.output output) where
  pub sent_is : (content : List ℕ) → output_of l r after ≡ send_answer l content (take n output)
      → output_of l r (after ++ drop n output) ≡ sent l sizes content output
  unfolding sent
  sent_is content e = rw (sym en) (behind-output-is n output l r after ∙ ap (behind_output n output) e)

  pub filled_is : output_of l r after ≡ fill_answer l (take n output) → output_of l r (after ++ drop n output) ≡ filled l sizes output
  unfolding filled
  filled_is e = rw (sym en) (behind-output-is n output l r after ∙ ap (behind_output n output) e)
