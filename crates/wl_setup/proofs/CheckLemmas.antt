-- The lines of nodes and of pairs, one after another.
use Rattle.std.proofs.Common.{◌≡◌, ℕ, ◌+◌, ◌<◌, ◌≤◌, nat_lt, if◌then◌else◌, Bool, true, false, List, [], ◌∷◌, ◌++◌, length, get_or, drop, refl, append_assoc, add-one}
use Rattle.std.specs.List.{enumerate_from, filter, flat_map}
use Rattle.std.proofs.lemmas.List.{append-nil, drop_all}
use Rattle.std.proofs.lemmas.List.Elements.{filter-append}
use Rattle.std.proofs.lemmas.Grind.{flat_map-append}
use Rattle.wl_node.specs.declared.setup.NodeSetup.{NodeSetup}
use Rattle.wl_topology.specs.Delays.{Cable, row, rows}
use Rattle.wl_setup.specs.Check.{IsNodeLine, AreNodeLines, pair_line, is_upward}
use Rattle.wl_setup.proofs.Loops.{drop-at}

-- the lines of the nodes that are left follow on this text
abbrev pub IsPart : List (List ℕ) → ℕ → List NodeSetup → List ℕ → Type 0
IsPart names i nodes text =
    (rest : List ℕ) → AreNodeLines names (enumerate_from i (drop i nodes)) rest → AreNodeLines names (enumerate_from 0 nodes) (text ++ rest)

-- one more line
pub one_more : (names : List (List ℕ)) (nodes : List NodeSetup) (i : ℕ) (node : NodeSetup) (text line new : List ℕ) → i < length nodes → node ≡ get_or nodes i node
    → IsNodeLine names (i, node) line → new ≡ text ++ line → IsPart names i nodes text → IsPart names (i + 1) nodes new
one_more names nodes i node text line new within is made grown part rest lines =
    let before = rw (drop-at nodes i node within is) at part in
    rw (grown, append_assoc text line rest) (before (line ++ rest) (line, rest, made, lines, refl))

-- no node is left
pub all_done : (names : List (List ℕ)) (nodes : List NodeSetup) (i : ℕ) (text : List ℕ) → length nodes ≤ i → IsPart names i nodes text
    → AreNodeLines names (enumerate_from 0 nodes) text
all_done names nodes i text past part =
    let over = rw (drop_all i nodes past) at part in rw (← append-nil text) (over [] refl)

-- the lines of the upward ones of these pairs
abbrev pub lines_of : Cable → List (ℕ × ℕ) → List ℕ
lines_of cable ps = flat_map (pair_line cable) (filter is_upward ps)

pub lines_of-append : (cable : Cable) (ps qs : List (ℕ × ℕ)) → lines_of cable (ps ++ qs) ≡ lines_of cable ps ++ lines_of cable qs
lines_of-append cable ps qs = rw (filter-append is_upward ps qs) (flat_map-append (pair_line cable) (filter is_upward ps) (filter is_upward qs))

one_line : (cable : Cable) (i j : ℕ) (b : Bool) → is_upward (i, j) ≡ b → lines_of cable ((i, j) ∷ []) ≡ (if b then pair_line cable (i, j) else [])
one_line cable i j true is = rw is (append-nil (pair_line cable (i, j)))
one_line cable i j false is = rw is refl

-- one more pair, with its line where it is upward
pub pair_more : (cable : Cable) (i j : ℕ) (old text line new : List ℕ) → nat_lt i j ≡ true → text ≡ old ++ lines_of cable (row i j)
    → line ≡ pair_line cable (i, j) → new ≡ text ++ line → new ≡ old ++ lines_of cable (row i (j + 1))
pair_more cable i j old text line new upward before made grown =
    rw (grown, before, made, add-one, lines_of-append cable (row i j) ((i, j) ∷ []), one_line cable i j true upward) (append_assoc old (lines_of cable (row i j)) (pair_line cable (i, j)))

pub pair_passed : (cable : Cable) (i j : ℕ) (old text : List ℕ) → nat_lt i j ≡ false → text ≡ old ++ lines_of cable (row i j)
    → text ≡ old ++ lines_of cable (row i (j + 1))
pair_passed cable i j old text not_upward before =
    rw (before, add-one, lines_of-append cable (row i j) ((i, j) ∷ []), one_line cable i j false not_upward, append-nil (lines_of cable (row i j))) refl

-- the pairs of one more node
pub row_more : (cable : Cable) (n i : ℕ) (old text new : List ℕ) → text ≡ old ++ lines_of cable (rows n i)
    → new ≡ text ++ lines_of cable (row i n) → new ≡ old ++ lines_of cable (rows n (i + 1))
row_more cable n i old text new before grown =
    rw (grown, before, add-one, lines_of-append cable (rows n i) (row i n)) (append_assoc old (lines_of cable (rows n i)) (lines_of cable (row i n)))
