-- The place of a name among those of the nodes.
use Rattle.std.proofs.Common.{◌≡◌, ℕ, ◌+◌, ◌<◌, true, false, List, ◌∷◌, length, map, drop, get_or, refl, ap, ◌∙◌, arith}
use Rattle.std.specs.Str.{bytes_eq}
use Rattle.wl_setup.specs.declared.plan_text.NodeText.{NodeText}
use Rattle.wl_setup.specs.Plans.{node_named}
use Rattle.wl_setup.proofs.Loops.{drop-at}

abbrev names_left : List NodeText → ℕ → List (List ℕ)
names_left nodes i = map (λ node. node.name) (drop i nodes)

named_first : (name x : List ℕ) (rest : List (List ℕ)) → bytes_eq name x ≡ true → node_named (x ∷ rest) name ≡ 0
named_first name x rest e = rw e refl

named_second : (name x : List ℕ) (rest : List (List ℕ)) → bytes_eq name x ≡ false → node_named (x ∷ rest) name ≡ 1 + node_named rest name
named_second name x rest e = rw e refl

-- this one has it
pub named_here : (nodes : List NodeText) (i : ℕ) (node : NodeText) (name : List ℕ) (whole : ℕ) → i < length nodes → node ≡ get_or nodes i node
    → bytes_eq name node.name ≡ true → i + node_named (names_left nodes i) name ≡ whole → i ≡ whole
named_here nodes i node name whole within is e part =
    let here : node_named (names_left nodes i) name ≡ 0 =
    ap (λ (left : List NodeText). node_named (map (λ n. n.name) left) name) (drop-at nodes i node within is)
    ∙ named_first name node.name (names_left nodes (i + 1)) e in
    omega arith

-- a later one has it, or none
pub named_later : (nodes : List NodeText) (i : ℕ) (node : NodeText) (name : List ℕ) (whole : ℕ) → i < length nodes → node ≡ get_or nodes i node
    → bytes_eq name node.name ≡ false → i + node_named (names_left nodes i) name ≡ whole → (i + 1) + node_named (names_left nodes (i + 1)) name ≡ whole
named_later nodes i node name whole within is e part =
    let later : node_named (names_left nodes i) name ≡ 1 + node_named (names_left nodes (i + 1)) name =
    ap (λ (left : List NodeText). node_named (map (λ n. n.name) left) name) (drop-at nodes i node within is)
    ∙ named_second name node.name (names_left nodes (i + 1)) e in
    omega arith
