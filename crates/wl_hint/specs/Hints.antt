-- What a hint says of an input (this project's profile).
use Rattle.std.specs.Prelude.{◌≡◌, ◌≤◌, ◌++◌, ℕ, List, [], length, take, Option, Some, None, IfSome}
use Rattle.wl_explain.specs.Refusals.{column_number, line_number, place_words}
use Rattle.wl_setup.specs.Shown.{shown}
use Rattle.wl_hint.specs.declared.hint.Hint.{Hint}
use Rattle.wl_hint.specs.declared.hint.TextPlace.{TextPlace}

-- the line and the column of a place of a text
abbrev pub IsPlaceOf : List ℕ → TextPlace → Type 0
IsPlaceOf text place =
    (at : ℕ) × (at ≤ length text) × (place.line ≡ line_number (take at text)) × (place.column ≡ column_number (take at text))

-- a place that a hint names is one of the text; of a text that isn't at hand it names none
abbrev pub PointsInto : Option (List ℕ) → Hint → Type 0
PointsInto (Some text) hint = IfSome hint.place (IsPlaceOf text)
PointsInto None hint = hint.place ≡ None

-- the place, if one is named, and what is said, in which nothing steers a terminal
abbrev pub pointed : Option TextPlace → List ℕ
pointed None = []
pointed (Some place) = place_words place.line place.column

abbrev pub hint_words : Hint → List ℕ
hint_words hint = pointed hint.place ++ shown hint.said
