-- What stands in the scripted folder of the tests.
use Rattle.std.specs.Prelude.{ℕ, List, Option, Some, None, if◌then◌else◌}
use Rattle.std.specs.Str.{bytes_eq}
use Rattle.wl_files.specs.Files.{Standing, nothing, file}

-- what one file makes of its place
abbrev pub standing_of : Option (List ℕ) → Standing
standing_of None = nothing
standing_of (Some bytes) = file bytes

-- no file is there but the one of this name
abbrev pub standing_at : List ℕ → Option (List ℕ) → List ℕ → Standing
standing_at mine held name = if bytes_eq name mine then standing_of held else nothing
