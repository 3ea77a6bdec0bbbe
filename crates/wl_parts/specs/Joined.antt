-- What parts of a sweep say together, or why they aren't the parts of one sweep (this project's profile).
use Rattle.std.specs.Prelude.{◌≡◌, ◌≢◌, ℕ, ◌+◌, ◌==◌, ◌&&◌, nat_lt, nat_le, Bool, List, [], ◌∷◌, ◌++◌, Option, Some, None, Result, Ok, Err, MatchResult, if◌then◌else◌}
use Rattle.std.specs.List.{count_by}
use Rattle.std.specs.Str.{bytes_eq}
use Rattle.wl_parts.specs.declared.fault.PartsFault.{PartsFault}
use Rattle.wl_parts.specs.declared.fault.PartsFault.TheVariants as fault
use Rattle.wl_parts.specs.declared.found.RowCounts.{RowCounts}
use Rattle.wl_parts.specs.declared.found.FirstMember.{FirstMember}
use Rattle.wl_parts.specs.declared.found.Findings.{Findings}
use Rattle.wl_parts.specs.declared.part.SweepPart.{SweepPart}
use Prim.Native.Nat.{zero, suc}
use Rattle.wl_parts.specs.Lines.{counts_line}
use Rattle.wl_parts.specs.Found.{joined_findings, nothing, total_of}

-- the line of each row that has words
abbrev pub lines_of_rows : List (List ℕ) → List RowCounts → List ℕ
lines_of_rows [] cs = []
lines_of_rows (w ∷ ws) [] = []
lines_of_rows (w ∷ ws) (c ∷ cs) = (w ++ counts_line c) ++ lines_of_rows ws cs

abbrev pub member_line : Option FirstMember → List ℕ
member_line None = []
member_line (Some m) = m.line

-- what a sweep says that found this: the lines of its rows, of all rows and of its members, those of the first members, and what it says last
abbrev pub found_text : List (List ℕ) → List ℕ → List ℕ → Findings → List ℕ
found_text words members tail f =
    lines_of_rows words f.rows ++ (counts_line (total_of f.rows) ++ (members ++ (member_line f.unclean ++ (member_line f.refused ++ tail))))

-- every member is clean
abbrev pub all_clean : Findings → Bool
all_clean f = (total_of f.rows).clean == (total_of f.rows).runs

-- a part is of the same sweep, cut into as many parts, and has one of their numbers
abbrev pub is_beside : SweepPart → SweepPart → Bool
is_beside first p = (bytes_eq p.of first.of && (p.count == first.count)) && (nat_le 1 p.number && nat_le p.number p.count)

-- the first part that is of another sweep, by its place from i on
abbrev pub beside_from : ℕ → SweepPart → List SweepPart → Result (Unit {0}) PartsFault
beside_from i first [] = Ok tt
beside_from i first (p ∷ ps) = if is_beside first p then beside_from (i + 1) first ps else Err (fault.Other i)

-- how many parts have a number
abbrev pub copies : ℕ → List SweepPart → ℕ
copies k ps = count_by (λ (p : SweepPart). p.number == k) ps

-- the first of so many numbers from k on that no part has, or two
abbrev pub numbers_from : ℕ → ℕ → List SweepPart → Result (Unit {0}) PartsFault
numbers_from k zero ps = Ok tt
numbers_from k (suc n) ps =
    if copies k ps == 0 then Err (fault.Missing k) else if nat_lt 1 (copies k ps) then Err (fault.Doubled k) else numbers_from (k + 1) n ps

-- what the part of a number found, if there is one
abbrev pub findings_by : ℕ → List SweepPart → Option Findings
findings_by k [] = None
findings_by k (p ∷ ps) = if p.number == k then Some p.found else findings_by k ps

abbrev pub joined_if : Findings → Option Findings → Findings
joined_if f None = f
joined_if f (Some g) = joined_findings f g

-- what the first so many parts found together
abbrev pub found_together : ℕ → List SweepPart → Findings
found_together zero ps = nothing
found_together (suc n) ps = joined_if (found_together n ps) (findings_by (suc n) ps)

-- what is made of a checked value
abbrev pub checked_then : {T : Type 0} → Result (Unit {0}) PartsFault → Result T PartsFault → Result T PartsFault
checked_then (Ok u) next = next
checked_then (Err e) next = Err e

-- the text of the whole sweep, and whether every member is clean; or the first fault of the parts
abbrev pub joined_of : List SweepPart → Result (List ℕ × Bool) PartsFault
joined_of [] = Err (fault.Missing 1)
joined_of (p ∷ ps) =
    checked_then (beside_from 1 p (p ∷ ps)) (checked_then (numbers_from 1 p.count (p ∷ ps))
    (Ok (found_text p.words p.members p.tail (found_together p.count (p ∷ ps)), all_clean (found_together p.count (p ∷ ps)))))

-- an answer is this one, unless memory was refused
abbrev pub IsJoined : Result (List ℕ × Bool) PartsFault → Result (List ℕ × Bool) PartsFault → Type 0
IsJoined wanted answer = MatchResult answer (λ x. wanted ≡ Ok x) (λ e. e ≢ fault.Memory → wanted ≡ Err e)
