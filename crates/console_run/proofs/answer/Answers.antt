-- `console_run::answer` meets its contract: the session begins on the new board.
use Rattle.std.proofs.Common.{ℕ, ◌<◌, List, length, ap₂, replicate, rules}
use Rattle.console_run.specs.declared.Session.{Session}
use Rattle.console_run.specs.Session.{state_of}
use Rattle.console_run.proofs.Sessions.{whole_ok, some-is}
use Rattle.console_run.proofs.answer.Goals as goal

pub returns-clause-whole : goal.returns-clause-whole
returns-clause-whole g c =
    let begins = ap₂ (λ (s : Session) (begun : List ℕ). state_of s begun (replicate 4608 0) (replicate 40 0) (replicate 49152 0) (replicate 512 0)) c.new-session.ensures c.new-begun.ensures.items in
    let room : 0 < length c.answer_all.new.buffer = search rules in
    whole_ok _ _ _ _ _ _ _ room begins c.answer_all.ensures.whole c.answer_all.ensures.end

pub returns-clause-unread : goal.returns-clause-unread
returns-clause-unread g c failed =
    let begins = ap₂ (λ (s : Session) (begun : List ℕ). state_of s begun (replicate 4608 0) (replicate 40 0) (replicate 49152 0) (replicate 512 0)) c.new-session.ensures c.new-begun.ensures.items in
    some-is _ _ _ _ _ begins (c.answer_all.ensures.unread failed)
