-- What `show` writes for a signal that is heard with a borrowed frame.
use Rattle.std.specs.Prelude.{ℕ, List, codes}
use Rattle.lis_frame.specs.declared.scanner.Heard.{Heard}
use Rattle.lis_frame.specs.declared.scanner.Heard.TheVariants as heards
use Rattle.lis_run.specs.Show.{frame_line, bad_line}

-- the line of a signal that is heard with a borrowed frame
abbrev pub heard_line : Heard → List ℕ
heard_line heards.Enq = codes "ENQ\n"
heard_line heards.Eot = codes "EOT\n"
heard_line (heards.Good frame) = frame_line frame
heard_line (heards.Bad fault) = bad_line fault
