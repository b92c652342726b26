-- The commands by their words.
use Rattle.std.specs.Prelude.{ℕ, Bool, true, false, List, [], ◌∷◌, Option, None, Some, codes, if◌then◌else◌}
use Rattle.std.specs.Str.{bytes_eq}
use Rattle.lis_commands.specs.declared.commands.Command.{Command}
use Rattle.lis_commands.specs.declared.commands.Command.TheVariants.{Show, Check, Results, Replay, Texts, Upgrade}

-- the command of a word that takes no `--long`
abbrev pub alone : List ℕ → Option Command
alone word =
    if bytes_eq word (codes "check") then Some Check
    else if bytes_eq word (codes "results") then Some Results
    else if bytes_eq word (codes "upgrade") then Some Upgrade
    else None

-- the command of a word, with `--long` after it or without; only a command that hears frames takes it
abbrev pub named : List ℕ → Bool → Option Command
named word long =
    if bytes_eq word (codes "show") then Some (Show long)
    else if bytes_eq word (codes "replay") then Some (Replay long)
    else if bytes_eq word (codes "texts") then Some (Texts long)
    else if long then None
    else alone word

-- a program's name, a command, and perhaps `--long`; all other words name nothing
abbrev pub command_of : List (List ℕ) → Option Command
command_of [] = None
command_of (name ∷ []) = None
command_of (name ∷ word ∷ []) = named word false
command_of (name ∷ word ∷ flag ∷ []) = if bytes_eq flag (codes "--long") then named word true else None
command_of (name ∷ word ∷ flag ∷ more ∷ words) = None

-- the most bytes of text in a frame
abbrev pub limit_by : Bool → ℕ
limit_by long = if long then 63993 else 240
