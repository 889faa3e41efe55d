-- What a call answers: its number, 0 or that of its refusal, and the link, which a refusal leaves as it was given.
use Rattle.std.specs.Prelude.{ℕ, Result, Ok, Err}
use Rattle.std.specs.Result.{result_unwrap_or}
use Rattle.board.specs.declared.Link.{Link}
use Rattle.link.specs.declared.Counted.{Counted}
use Rattle.link.specs.declared.Refusal.{Refusal}
use Rattle.link.specs.declared.Refusal.TheVariants.{Malformed, Closed, AlreadyOpen, SettingOutOfRange, WrongMemory, NotZero, LineTooLong, FewRecords, ShortOutput, ContentLength, UnknownCommand, NoSuchSlot, Unreadable}

abbrev pub refusal_number : Refusal → ℕ
refusal_number Malformed = 1
refusal_number Closed = 2
refusal_number AlreadyOpen = 3
refusal_number SettingOutOfRange = 4
refusal_number WrongMemory = 5
refusal_number NotZero = 6
refusal_number LineTooLong = 7
refusal_number FewRecords = 8
refusal_number ShortOutput = 9
refusal_number ContentLength = 10
refusal_number UnknownCommand = 11
refusal_number NoSuchSlot = 12
refusal_number Unreadable = 13

pub record Answer : Type 0 where
  pub number : ℕ
  pub link : Link

-- the number of what a function of the code gives
abbrev pub number_of : {A : Type 0} → Result A Refusal → ℕ
number_of (Ok x) = 0
number_of (Err refusal) = refusal_number refusal

-- the answer of a call on link l
abbrev pub answered : Link → Result Link Refusal → Answer
answered l r = record { number = number_of r; link = result_unwrap_or r l }

-- the link and the count of a call that counts, on link l: a refusal leaves the link as given, and counts nothing
abbrev pub counted_link : Link → Result Counted Refusal → Link
counted_link l (Ok counted) = counted.link
counted_link l (Err refusal) = l

abbrev pub count_of : Result Counted Refusal → ℕ
count_of (Ok counted) = counted.count
count_of (Err refusal) = 0
