-- What a check of a plan prints (this project's profile).
use Rattle.std.specs.Prelude.{◌≡◌, ℕ, ◌≤◌, nat_lt, Bool, List, [], ◌∷◌, ◌++◌, length, codes}
use Rattle.std.specs.List.{enumerate_from, filter, flat_map}
use Rattle.std.specs.Fmt.{decimal}
use Rattle.wl_segments.specs.Lengths.{Lengths, bit_quanta, sample_at, IsTolerated}
use Rattle.wl_topology.specs.Delays.{Cable, propagation_of, row, pairs}
use Rattle.wl_node.specs.declared.setup.NodeSetup.{NodeSetup}
use Rattle.wl_plan.specs.declared.plan.Plan.{Plan}
use Rattle.wl_setup.specs.declared.check.NodeLine.{NodeLine}
use Rattle.wl_setup.specs.declared.check.PairLine.{PairLine}
use Rattle.wl_setup.specs.Names.{name_of}

-- the greatest deviation of both oscillators, in parts per million, that the segments bear
pub record IsGreatestPpm (segments : Lengths) (ppm : ℕ) : Type 0 where
  pub borne : IsTolerated segments ppm
  pub greatest : (more : ℕ) → IsTolerated segments more → more ≤ ppm

-- the line of a node without its newline: its number and name, the quanta of a bit, the place of the sample, the
-- resynchronisation jump width and the deviation
abbrev pub words_of_node : ℕ → List ℕ → ℕ → ℕ → ℕ → ℕ → List ℕ
words_of_node number name quanta sample jump ppm =
    (codes "node " ++ decimal number) ++ (codes " " ++ name) ++ (codes " quanta " ++ decimal quanta)
    ++ (codes " sample " ++ decimal sample) ++ (codes " jump " ++ decimal jump) ++ (codes " ppm " ++ decimal ppm)

abbrev pub node_words : NodeLine → List ℕ
node_words l = words_of_node l.number l.name.now l.quanta l.sample l.jump l.ppm

abbrev pub node_line : ℕ → List ℕ → Lengths → ℕ → List ℕ
node_line number name segments ppm =
    words_of_node number name (bit_quanta segments) (sample_at segments) segments.sjw ppm ++ 10 ∷ []

abbrev pub IsNodeLine : List (List ℕ) → ℕ × NodeSetup → List ℕ → Type 0
IsNodeLine names (i, node) line =
    (ppm : ℕ) × IsGreatestPpm node.segments ppm × (line ≡ node_line i (name_of names i) node.segments ppm)

-- the lines of some numbered nodes, one after another
abbrev pub AreNodeLines : List (List ℕ) → List (ℕ × NodeSetup) → List ℕ → Type 0
AreNodeLines names [] text = text ≡ []
AreNodeLines names (n ∷ more) text = (line : List ℕ) × (rest : List ℕ) × IsNodeLine names n line × AreNodeLines names more rest × (text ≡ line ++ rest)

-- the line of a pair without its newline: the numbers of the nodes, the delay from the first to the second, and that back
abbrev pub words_of_pair : ℕ → ℕ → ℕ → ℕ → List ℕ
words_of_pair i j there back =
    (codes "pair " ++ decimal i) ++ (codes " " ++ decimal j) ++ (codes " delay " ++ decimal there) ++ (codes " back " ++ decimal back)

abbrev pub pair_words : PairLine → List ℕ
pair_words l = words_of_pair l.i l.j l.there l.back

abbrev pub pair_line : Cable → ℕ × ℕ → List ℕ
pair_line cable (i, j) = words_of_pair i j (propagation_of cable i j) (propagation_of cable j i) ++ 10 ∷ []

abbrev pub is_upward : ℕ × ℕ → Bool
is_upward (i, j) = nat_lt i j

-- the lines of node i and the nodes after it
abbrev pub pair_lines_of : Cable → ℕ → List ℕ
pair_lines_of cable i = flat_map (pair_line cable) (filter is_upward (row i (length cable.places)))

-- the lines of the pairs of which the first node is the lesser, by it and then by the second
abbrev pub pair_lines : Cable → List ℕ
pair_lines cable = flat_map (pair_line cable) (filter is_upward (pairs cable))

-- the text of a check: the lines of the nodes, then those of the pairs
abbrev pub IsPlanCheck : Plan → List (List ℕ) → List ℕ → Type 0
IsPlanCheck plan names text =
    (lines : List ℕ) × AreNodeLines names (enumerate_from 0 plan.nodes) lines × (text ≡ lines ++ pair_lines plan.topology)
