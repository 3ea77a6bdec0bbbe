-- The limits of records (this project's profile), each that of the constant of its name: the wide ones, and those of record texts.
use Rattle.std.specs.Prelude.{◌≡◌, ℕ, refl}
use Rattle.wl_limits.specs.declared.Limits.{Limits}
use Rattle.wl_limits.specs.declared.Limits.TheVariants.{Narrow, Wide}
use Rattle.wl_record_core.specs.declared.limits.TheConstants.{MOST_NODES, MOST_EDGES, TEXT_NODES, TEXT_EDGES, TICK_END}

-- the most nodes of a plan: a node's number is below it
unfoldable pub most_nodes : ℕ
most_nodes = MOST_NODES

-- the most changes of a node that records name: a change's number is below it, a count at most it
unfoldable pub most_edges : ℕ
most_edges = MOST_EDGES

-- the same in record texts
unfoldable pub text_nodes : ℕ
text_nodes = TEXT_NODES

unfoldable pub text_edges : ℕ
text_edges = TEXT_EDGES

-- both by limits
abbrev pub record_nodes : Limits → ℕ
record_nodes Narrow = text_nodes
record_nodes Wide = most_nodes

abbrev pub record_edges : Limits → ℕ
record_edges Narrow = text_edges
record_edges Wide = most_edges

-- every tick in a record is below it
unfoldable pub tick_end : ℕ
tick_end = TICK_END

-- the value of each name, for proofs
pub most_nodes-is : most_nodes ≡ MOST_NODES
unfolding most_nodes
most_nodes-is = refl

pub most_edges-is : most_edges ≡ MOST_EDGES
unfolding most_edges
most_edges-is = refl

pub text_nodes-is : text_nodes ≡ TEXT_NODES
unfolding text_nodes
text_nodes-is = refl

pub text_edges-is : text_edges ≡ TEXT_EDGES
unfolding text_edges
text_edges-is = refl

pub tick_end-is : tick_end ≡ TICK_END
unfolding tick_end
tick_end-is = refl
