-- What a host gets of a call that its link went into: "A refusal returns its number, the link as given and zero for every other number".
use Rattle.std.specs.Prelude.{Result, Ok, Err}
use Rattle.board.specs.declared.Link.{Link}
use Rattle.link.specs.declared.Refusal.{Refusal}
use Rattle.link.specs.declared.Counted.{Counted}
use Rattle.link.specs.Answer.{refusal_number}
use Rattle.host_link.specs.declared.HostLink.{HostLink}
use Rattle.host_link.specs.declared.answers.HostAnswer.{HostAnswer}
use Rattle.host_link.specs.declared.answers.HostCounted.{HostCounted}
use Rattle.host_link.specs.Crossing.{to_host}

abbrev pub host_answered : HostLink → Result Link Refusal → HostAnswer
host_answered h (Ok l) = record { link = to_host l; number = 0 }
host_answered h (Err refusal) = record { link = h; number = refusal_number refusal }

abbrev pub host_counted : HostLink → Result Counted Refusal → HostCounted
host_counted h (Ok counted) = record { count = counted.count; link = to_host counted.link; number = 0 }
host_counted h (Err refusal) = record { count = 0; link = h; number = refusal_number refusal }
