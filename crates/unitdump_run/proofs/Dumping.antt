-- How one read after the other makes up all of the file.
use Prim.Native.Nat.{ℕ}
use mathlib.Core.Path.{◌≡◌, sym, ap, ◌∙◌, subst}
use borrow.Author.Rules.{rules}
use mathlib.Core.List.{List, [], ◌++◌, append-nil}
use Rattle.std.specs.Prelude.{Option, None, Some, Result, Ok, Err, OnOk, IfSome, IsErrOf}
use Rattle.streams.specs.declared.Unfinished.{Unfinished}
use Rattle.streams.specs.declared.Unfinished.TheVariants.{Unwritten}
use Rattle.std.specs.Result.{result_unwrap_or}
use Rattle.board.specs.declared.Link.{Link}
use Rattle.board.specs.Link.{new_link}
use Rattle.link.specs.declared.Refusal.{Refusal}
use Rattle.link.specs.Calls.{Outcome, outcome_of, open_answer}
use Rattle.lineview_board.specs.View.{row_one}
use Rattle.std.specs.Io.KnownBytes.{Consumes, Appends, Keeps, IsAtEnd}
use Rattle.std.proofs.KnownBytes.{Consumes-trans, Appends-trans, Appends-kept}
use Rattle.unitdump_line.specs.Units.{Taken, all_packets, Takes}
use Rattle.unitdump_line.proofs.Taking.{takes-none, takes-more}
use Rattle.unitdump_packets.specs.Packets.{file_header}
use Rattle.unitdump_run.specs.File.{begun_on, begun, file_of, Dumps, DumpsAll, DumpedFile}

abbrev taken_at : Link → List ℕ → List ℕ → Taken
taken_at l pool descriptors = record { held = record { link = l; pool = pool; descriptors = descriptors }; octets = 0 }

-- what the call gives, with the link as it was where it is refused
pub begun-is : (pool descriptors p d : List ℕ) (opened : Link) (r : Result Link Refusal) → outcome_of new_link r p d ≡ open_answer new_link row_one pool descriptors
    → opened ≡ result_unwrap_or r new_link → taken_at opened p d ≡ begun_on pool descriptors
begun-is pool descriptors p d opened (Ok x) e o = rw o (ap (λ (a : Outcome). taken_at a.link a.pool a.descriptors) e)
begun-is pool descriptors p d opened (Err x) e o = rw o (ap (λ (a : Outcome). taken_at a.link a.pool a.descriptors) e)

-- nothing read, nothing written
pub dumps-none : (t : Taken) (a b o : Option (List ℕ)) → Consumes a b [] → Dumps t t a b o o
dumps-none t a b o none = ([], none, takes-none t o)

-- what a read and its packets do after those before them
pub dumps-more : (t₀ t t' : Taken) (a b c o p q : Option (List ℕ)) → Dumps t₀ t a b o p → Dumps t t' b c p q → Dumps t₀ t' a c o q
dumps-more t₀ t t' a b c o p q (xs, first, taken) (ys, second, more) =
    (xs ++ ys, Consumes-trans a b c xs ys first second, takes-more t₀ t t' o p q xs ys taken more)

-- all of it behind the header
pub dumped-file : (t : Taken) (a b o p q : Option (List ℕ)) (header : List ℕ) → t ≡ begun → header ≡ file_header → Appends o p header
    → DumpsAll t a b p q → DumpedFile a b o q
dumped-file t a b o p q header e f first all =
    let (after, dumped) : DumpsAll begun a b p q = rw e at all in
    let (octets, read, takes) = dumped in
    (octets, read, Appends-trans o p q file_header (all_packets begun octets) (rw f at first) takes.0)

-- what was read up to the end of the input is all of it
ended : (a b o q : Option (List ℕ)) → DumpedFile a b o q → IsAtEnd b → IfSome a (λ (octets : List ℕ). Appends o q (file_of octets))
ended None b o q dumped end = tt
ended (Some xs) None o q (octets, read, written) end = absurd read
ended (Some xs) (Some ys) o q (octets, read, written) end =
    subst (λ (zs : List ℕ). Appends o q (file_of zs)) (sym (read ∙ ap (λ (zs : List ℕ). octets ++ zs) end ∙ append-nil octets)) written

pub whole-file : (r : Result Unit Unfinished) (a b o q : Option (List ℕ)) → (¬ IsErrOf r Unwritten → DumpedFile a b o q) → OnOk r (IsAtEnd b)
    → OnOk r (IfSome a (λ (octets : List ℕ). Appends o q (file_of octets)))
whole-file (Ok x) a b o q dumped end = ended a b o q (dumped (λ e. search rules)) end
whole-file (Err x) a b o q dumped end = tt

-- what is flushed stays what it was
pub flushed : {E : Type 0} (r : Result Unit E) (t t' : Taken) (o p q : Option (List ℕ)) (octets : List ℕ) → Takes t t' o p octets → Keeps p q
    → OnOk r (Takes t t' o q octets)
flushed (Ok x) t t' o p q octets (written, taken) kept = (Appends-kept o p q (all_packets t octets) written kept, taken)
flushed (Err x) t t' o p q octets takes kept = tt
