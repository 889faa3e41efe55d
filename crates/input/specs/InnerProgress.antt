-- What the code of receive starts from.
use Rattle.board.specs.declared.Link.{Link}
use Rattle.indications.specs.declared.Progress.{Progress}

-- a link's part of it, with no record written yet
abbrev pub progress_of : Link → Progress
progress_of l = record { units = l.units; supervision = l.supervision; count = 0 }
