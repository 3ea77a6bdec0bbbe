-- What holds of a family of parties or of members of which one is put at a place, and of true records that are appended. This project's profile.
use Rattle.std.specs.Prelude.{◌≡◌, ℕ, List, ◌++◌}
use Rattle.wl_record_core.specs.declared.record.Record.{Record}
use Rattle.wl_record_core.specs.Truth.{AreTrueOf}
use Rattle.wl_group.specs.Member.{Member}
use Rattle.wl_group.specs.Party.{Party, put}

-- At the place it is the one that was put there, and elsewhere the one that was there.
pub record PutLaws (A : Type 0) : Type 0 where
  pub here : (f : ℕ → A) (i j : ℕ) (a : A) → j ≡ i → put f i a j ≡ a
  pub elsewhere : (f : ℕ → A) (i j : ℕ) (a : A) → ¬ (j ≡ i) → put f i a j ≡ f j

pub record PartyLaws : Type 0 where
  pub parties : PutLaws Party
  pub members : PutLaws Member
  pub true_append : (nodes : ℕ) (table : ℕ → List ℕ) (qs rs : List Record) → AreTrueOf nodes table qs → AreTrueOf nodes table rs → AreTrueOf nodes table (qs ++ rs)
