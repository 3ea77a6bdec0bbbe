-- What stands at names (this project's profile).
use Rattle.std.specs.Prelude.{◌≡◌, ◌≢◌, ℕ, List, [], Bool, true, false}

-- what is known of a place: nothing is known of it, no file is there, or one that holds these bytes
pub data Standing : Type 0 where
  unknown : Standing
  nothing : Standing
  file : List ℕ → Standing

-- a new file, of which nothing was written: it is empty, where anything is known of it
abbrev pub IsEmpty : Standing → Type 0
IsEmpty unknown = Unit {0}
IsEmpty nothing = ⊥
IsEmpty (file bytes) = bytes ≡ []

-- the same is known of each name
abbrev pub Keeps : (List ℕ → Standing) → (List ℕ → Standing) → Type 0
Keeps old new = (name : List ℕ) → new name ≡ old name

-- a file that holds this was moved to a name, and the other names keep what they had; or nothing changed
abbrev pub Places : (List ℕ → Standing) → (List ℕ → Standing) → List ℕ → Standing → Bool → Type 0
Places old new name held true = (new name ≡ held) × ((other : List ℕ) → other ≢ name → new other ≡ old other)
Places old new name held false = Keeps old new
