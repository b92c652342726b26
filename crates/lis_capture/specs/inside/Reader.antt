-- What a reader of captures keeps after one more line, or after more bytes of a line.
use Rattle.std.specs.Prelude.{◌≡◌, ℕ, ◌+◌, nat_lt, Bool, true, List, ◌++◌, length, Option, None, Some}
use Rattle.std.specs.Prelude.{if◌then◌else◌}
use Rattle.lis_bytes.specs.Capped.{capped}
use Rattle.lis_capture.specs.declared.line.Line.{Line}
use Rattle.lis_capture.specs.declared.reader.LineFound.{LineFound}
use Rattle.lis_capture.specs.declared.reader.LineFound.TheVariants as found
use Rattle.lis_capture.specs.declared.line.CaptureVersion.{CaptureVersion}
use Rattle.lis_capture.specs.declared.line.Line.TheVariants.{Empty}
use Rattle.lis_engine.specs.Output.{Out}
use Rattle.lis_capture.specs.Encoding.{added_encoding}
use Rattle.lis_capture.specs.Line.{line_of, longest_line, version_after}
use Rattle.lis_capture.specs.Reader.{Known, Reading}

-- a line more, by what it says
abbrev pub known_with : Known → Option Line → Known
known_with known None = record known { refused = true; number = capped (known.number + 1) }
known_with known (Some line) =
    record known { version = version_after known.version line; number = capped (known.number + 1); line = line }

abbrev pub found_of : Option Line → LineFound
found_of None = found.Refused
found_of (Some line) = found.Line

-- bytes of a line that doesn't end in them: at most so many that the line isn't too long
abbrev pub is_long : List ℕ → Bool
is_long text = nat_lt longest_line (length text)

abbrev pub holding_more : Reading → List ℕ → Reading
holding_more r text =
    if is_long (r.held ++ text) then record r { known = known_with r.known None }
    else record r { held = r.held ++ text }

abbrev pub found_holding : List ℕ → LineFound
found_holding text = if is_long text then found.Refused else found.Nothing

-- a text that says this line in either version, which leaves the version as an empty line does, was put out
pub record IsCopied (text : List ℕ) (line : Line) (old new : Out) : Type 0 where
  pub is_said : (version : CaptureVersion) → line_of version text ≡ Some line
  pub version_is : (version : CaptureVersion) → version_after version line ≡ version_after version Empty
  pub written : new ≡ record old { waits = old.waits ++ added_encoding line }
