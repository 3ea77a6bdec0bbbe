-- A post, as contracts see it: what it sent, the letters that it received, and how far it has handed them out. This project's profile.
use Rattle.std.specs.Prelude.{◌≡◌, ◌⊎◌, ◌≤◌, ℕ, suc, List, [], ◌∷◌, ◌++◌, length, replicate, slice_get, Some}
use Rattle.std.specs.Arc.{arc_value}
use Rattle.wl_group.specs.GroupValue.{GroupValue, with_records}
use Rattle.wl_mail.specs.declared.letter.Letter.{Letter}

pub record PostValue : Type 0 where
  -- how many letters went to each of the other workers
  pub sent : List ℕ
  -- the letters that it received, the oldest first
  pub kept : List Letter
  -- how many of them it has handed out since it began or was last rewound
  pub handed : ℕ

-- the post of a worker with so many others, before the first letter
abbrev pub initial_post : ℕ → PostValue
initial_post others = record { sent = replicate others 0; kept = []; handed = 0 }

-- the post with these counts of letters sent
abbrev pub with_sent : List ℕ → PostValue → PostValue
with_sent counts p = record { sent = counts; kept = p.kept; handed = p.handed }

-- the post that begins again with the first letter that it received
abbrev pub rewound : PostValue → PostValue
rewound p = record { sent = p.sent; kept = p.kept; handed = 0 }

-- the letters that it received stay, in their order; one more comes only where all were handed out
pub record KeepsLetters (old new : PostValue) : Type 0 where
  pub sent : new.sent ≡ old.sent
  pub kept : (new.kept ≡ old.kept) ⊎ ((length old.kept ≤ old.handed) × ((letter : Letter) × (new.kept ≡ old.kept ++ letter ∷ [])))

-- the next letter's records, and nothing else, were taken by a group of its plan
pub record HandedOut (old new : PostValue) (before after : GroupValue) : Type 0 where
  pub letter : Letter
  pub next : slice_get new.kept old.handed ≡ Some letter
  pub plan_is : arc_value letter.plan ≡ before.plan
  pub taken : after ≡ with_records (arc_value letter.records).items before
  pub counted : new.handed ≡ suc old.handed
