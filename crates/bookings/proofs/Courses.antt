-- The course of a list of calls: its front is the history's, and so that of the link.
use mathlib.Core.Path.{◌≡◌, refl, sym, ap, ◌∙◌}
use mathlib.Core.List.{List, [], ◌∷◌, ◌++◌}
use Rattle.bits.proofs.Machines.{run-append}
use Rattle.calls.specs.Call.{Call, link_after}
use Rattle.promises.specs.History.{Front, new_front, Past, past_next, past_after}
use Rattle.promises.proofs.Holding.{front_of, holds_after, by_last, past-last}
use Rattle.bookings.specs.Booking.{new_booking, Course, course_next, course_after}

pub course-last : (cs : List Call) (c : Call) → course_after (cs ++ (c ∷ [])) ≡ course_next (course_after cs) c
unfolding course_after
course-last cs c = run-append course_next cs (c ∷ []) (record { front = new_front; booking = new_booking })

none_yet : (course_after []).front ≡ (past_after []).front
unfolding course_after past_after
none_yet = refl

pub course-front : (cs : List Call) → (course_after cs).front ≡ (past_after cs).front
course-front = by_last (λ cs. (course_after cs).front ≡ (past_after cs).front) none_yet one_more
  where
    one_more : (cs : List Call) (c : Call) → (course_after cs).front ≡ (past_after cs).front
        → (course_after (cs ++ (c ∷ []))).front ≡ (past_after (cs ++ (c ∷ []))).front
    one_more cs c e =
        ap (λ (x : Course). x.front) (course-last cs c) ∙ ap (λ (f : Front). (past_next (record { front = f; history = (past_after cs).history }) c).front) e
        ∙ sym (ap (λ (p : Past). p.front) (past-last cs c))

-- the front of the course is that of the link
pub course-link : (cs : List Call) → (course_after cs).front ≡ front_of (link_after cs)
course-link cs = course-front cs ∙ (holds_after cs).front
