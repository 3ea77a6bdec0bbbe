-- The terms of the condition for a sound bus, in units of time. Nodes are i, j, k, and w is a node between others. All of it is this project's;
-- what is taken from public texts is named.
use Rattle.std.specs.Prelude.{ℕ, zero, suc, ◌+◌, ◌-◌, ◌*◌, ◌==◌, ◌&&◌, nat_lt, nat_le, not, min, max, Bool, if◌then◌else◌}
use Rattle.std.specs.Int.{div_ceil}
use Rattle.wl_level.specs.Places.{count_places}
use Rattle.wl_topology.specs.Driven.{any_below}
use Rattle.wl_segments.specs.Lengths.{bit_quanta}
use Rattle.wl_bound.specs.Families.{Bus}
use Rattle.wl_bound.specs.Limits.{frame_edges, sparse_edges}

-- the greatest of the numbers below n that pass a test, by f; 0 if there is none
abbrev pub greatest : ℕ → (ℕ → Bool) → (ℕ → ℕ) → ℕ
greatest zero test f = 0
greatest (suc n) test f = max (greatest n test f) (if test n then f n else 0)

-- the sum of the numbers below n that pass a test, by f
abbrev pub sum_of : ℕ → (ℕ → Bool) → (ℕ → ℕ) → ℕ
sum_of zero test f = 0
sum_of (suc n) test f = sum_of n test f + (if test n then f n else 0)

-- a sender but for one node, and but for two
abbrev pub sends_but : Bus → ℕ → ℕ → Bool
sends_but b i k = b.sends k && not (k == i)

abbrev pub sends_third : Bus → ℕ → ℕ → ℕ → Bool
sends_third b i j k = sends_but b i k && not (k == j)

-- a node but for two
abbrev pub is_third : ℕ → ℕ → ℕ → Bool
is_third i j w = not (w == i) && not (w == j)

-- by how much a bit of node i can last longer than one of node j
unfoldable pub drift : Bus → ℕ → ℕ → ℕ
drift b i j = bit_quanta (b.lengths i) * b.longest i - bit_quanta (b.lengths j) * b.shortest j

-- what one edge puts right at node i (Bosch CAN 2.0 part B, section 10: the resynchronisation jump width)
unfoldable pub jump : Bus → ℕ → ℕ
jump b i = (b.lengths i).sjw * b.shortest i

-- By how much node i can begin a bit ahead of the edge that it follows, since it looks at the line once a quantum: nothing if its own loop takes a
-- quantum and a tick.
unfoldable pub look : Bus → ℕ → ℕ
look b i = b.longest i + b.tick - b.delay i i

-- How late a bit of node j can be at node i after an edge of node k that both follow; k may be i itself.
unfoldable pub trip : Bus → ℕ → ℕ → ℕ → ℕ
trip b i j k =
    if k == i then b.delay i j + b.delay j i + (if nat_lt 2 b.nodes then look b i else 0)
    else b.delay k j + b.delay j i + b.longest i + b.tick - b.delay k i

-- how late a bit of node j can be at node i: over the sender that began, and with the look of a third node, which may move i forward
unfoldable pub way : Bus → ℕ → ℕ → ℕ
way b i j = greatest b.nodes (sends_but b j) (trip b i j) + greatest b.nodes (is_third i j) (look b)

-- By how much the other nodes can get ahead of node j at the changes of their rates. An edge may put right no more than drift, so what is lost adds up.
unfoldable pub ahead : Bus → ℕ → ℕ
ahead b j = sum_of b.nodes (λ w. not (w == j)) b.turns

-- two nodes at least send
unfoldable pub several : Bus → Bool
several b = nat_lt 1 (count_places b.sends b.nodes)

-- how early node i can be for the bits of the sender that wins the arbitration
unfoldable pub early : Bus → ℕ → ℕ
early b i = if several b then greatest b.nodes (sends_but b i) (λ a. way b i a + 10 * drift b a i + ahead b a) else 0

-- what ten bits of drift from a sender take from a jump of node i
unfoldable pub lost : Bus → ℕ → ℕ
lost b i = 10 * greatest b.nodes (sends_but b i) (λ a. drift b a i)

-- How many edges node i takes to catch up with that sender: each takes a jump off, and ten bits of drift at most come on top. If it takes more than the
-- 14 that are ten bits apart, they lie nearer: then 140 bits of drift come on top in all. An edge takes two bits, so a frame has 74 at most.
unfoldable pub edges : Bus → ℕ → ℕ
edges b i =
    if nat_le (early b i) (b.shortest i) then 0
    else if nat_le (early b i - b.shortest i) (sparse_edges * (jump b i - lost b i)) then div_ceil (early b i - b.shortest i) (jump b i - lost b i)
    else if nat_le (jump b i) 0 then frame_edges
    else min frame_edges (div_ceil (early b i - b.shortest i + sparse_edges * lost b i) (jump b i))

-- there and back between two nodes, on the plan's own cable
abbrev pub there_and_back : Bus → ℕ → ℕ → ℕ
there_and_back b i j = (b.delay j i - b.added j i) + (b.delay i j - b.added i j)

-- By how much the edges of sender j can come ahead of those that it follows, while node i follows them: two senders at least pull each other forward
-- by that. If i and j alone send, it is what a quantum and a tick of j take beyond there and back: j follows the edges of i, and i those of j. It counts
-- the plan's own cable alone. So no bus becomes sound by a longer one.
unfoldable pub pull : Bus → ℕ → ℕ → ℕ
pull b i j =
    if b.sends j
    then (if any_below b.nodes (sends_third b i j) then look b j else if b.sends i then b.longest j + b.tick - there_and_back b i j else 0)
    else 0

-- that of it which the jump of node i doesn't put right beyond that of j
unfoldable pub pulled : Bus → ℕ → ℕ → ℕ
pulled b i j = pull b i j - (jump b i - jump b j)

-- in how many of them nodes i and j both catch up with a third
unfoldable pub chase : Bus → ℕ → ℕ → ℕ
chase b i j = if any_below b.nodes (sends_third b i j) then min (edges b i) (edges b j) else 0

-- how much later node j can get for node i with each edge that both follow
unfoldable pub spread : Bus → ℕ → ℕ → ℕ
spread b i j = 10 * drift b j i + ((b.lengths j).sjw * b.longest j - jump b i)

-- how much later j can get for i meanwhile
unfoldable pub apart : Bus → ℕ → ℕ → ℕ
apart b i j = chase b i j * spread b i j

-- how late it can be for i at most, since the edges of a third sender reach it too
unfoldable pub tour : Bus → ℕ → ℕ → ℕ
tour b i j = greatest b.nodes (sends_third b i j) (λ a. way b i a + 10 * drift b a i + ahead b a + b.delay a j + b.delay j i - b.delay a i)

-- a third node that acknowledges what some other than it and j sends
abbrev pub is_answering : Bus → ℕ → ℕ → ℕ → Bool
is_answering b i j a = not (b.listens a) && is_third i j a && any_below b.nodes (sends_third b a j)

-- how late node j can still be for the acknowledgement of node a, if that comes before its own: it jumps once
unfoldable pub behind : Bus → ℕ → ℕ → ℕ
behind b j a = look b a + 10 * drift b j a + edges b j * spread b a j - jump b j

-- how late the end of j's acknowledgement can be at i, if both jump back by that of a third: i all the way, and j as far as its jump goes
unfoldable pub answered : Bus → ℕ → ℕ → ℕ
answered b i j = if several b then greatest b.nodes (is_answering b i j) (λ a. trip b i j a + behind b j a) else 0

-- how late a bit of j can be at i, catching up counted
unfoldable pub late : Bus → ℕ → ℕ → ℕ
late b i j = max (way b i j + min (apart b i j) (tour b i j - way b i j)) (answered b i j)

-- the most that a bit of node j can last longer than one of another node
unfoldable pub strays : Bus → ℕ → ℕ
strays b j = greatest b.nodes (λ w. not (w == j)) (λ w. drift b j w)
