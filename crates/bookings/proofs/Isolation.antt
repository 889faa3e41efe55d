-- After a wipe the link is the new one and the memory is zero: nothing else of what came before is left.
use Prim.Native.Nat.{ℕ}
use mathlib.Core.Path.{◌≡◌, refl, sym, ap, ◌∙◌}
use mathlib.Core.List.{List, [], ◌∷◌, ◌++◌}
use lib.ListN.{length, replicate}
use Rattle.memory.specs.Lent.{wiped}
use Rattle.board.specs.declared.Link.{Link}
use Rattle.board.specs.Link.{new_link}
use Rattle.link.specs.Held.{Held}
use Rattle.calls.specs.Call.{Call, wipe, link_after}
use Rattle.promises.proofs.Holding.{link-last}
use Rattle.bookings.specs.Isolation.{made, wipe_all, answers_from, answers_to, left_by, Isolation}

new-again : (cs : List Call) (octets words : List ℕ) → link_after (cs ++ (wipe octets words ∷ [])) ≡ new_link
new-again cs octets words = link-last cs (wipe octets words)

abbrev zeroed : ℕ → ℕ → Held
zeroed n k = record { link = new_link; pool = replicate n 0; descriptors = replicate k 0 }

all-zero : (r : Held) → made r wipe_all ≡ zeroed (length r.pool) (length r.descriptors)
unfolding wiped
all-zero r = refl

same-held : (r r' : Held) → length r.pool ≡ length r'.pool → length r.descriptors ≡ length r'.descriptors → made r wipe_all ≡ made r' wipe_all
same-held r r' p d = all-zero r ∙ (λ i. zeroed (p i) (d i)) ∙ sym (all-zero r')

pub isolation : Isolation
isolation =
    record {
      alike = λ cs ds octets words octets' words' later.
          ap (λ (l : Link). answers_from l later) (new-again cs octets words ∙ sym (new-again ds octets' words'));
      same-user = λ r r' hosts p d. (
        ap (λ (x : Held). answers_to x hosts) (same-held r r' p d),
        ap (λ (x : Held). left_by x hosts) (same-held r r' p d),
      );
    }
