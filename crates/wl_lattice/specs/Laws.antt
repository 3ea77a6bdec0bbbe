-- What a join is: the laws of a semilattice with a least value, and the order that it makes. This project's profile.
use Rattle.std.specs.Prelude.{◌≡◌}

-- The laws. Neutrality asks that the value is one of the type: of an array, that it has the array's length.
pub record JoinLaws {W : Type 0} (is_word : W → Type 0) (least : W) (joined : W → W → W) : Type 0 where
  pub commutes : (a b : W) → joined a b ≡ joined b a
  pub associates : (a b c : W) → joined (joined a b) c ≡ joined a (joined b c)
  pub idempotent : (a : W) → joined a a ≡ a
  pub neutral : (a : W) → is_word a → joined least a ≡ a
  pub is_word-least : is_word least
  pub is_word-joined : (a b : W) → is_word a → is_word b → is_word (joined a b)

-- a is at most b
abbrev pub IsAtMost : {W : Type 0} → (W → W → W) → W → W → Type 0
IsAtMost joined a b = joined a b ≡ b

-- an order in which two values may stand in neither way
pub record IsPartialOrder {W : Type 0} (R : W → W → Type 0) : Type 0 where
  pub reflexive : (a : W) → R a a
  pub antisymmetric : (a b : W) → R a b → R b a → a ≡ b
  pub transitive : (a b c : W) → R a b → R b c → R a c

-- the joined value is the least of those that are above both
pub record GivesLeastUpperBound {W : Type 0} (R : W → W → Type 0) (joined : W → W → W) : Type 0 where
  pub above_first : (a b : W) → R a (joined a b)
  pub above_second : (a b : W) → R b (joined a b)
  pub below_others : (a b c : W) → R a c → R b c → R (joined a b) c

-- a join makes an order in which it gives least upper bounds, and the least word is below every word
pub record IsJoinOrder {W : Type 0} (is_word : W → Type 0) (least : W) (joined : W → W → W) : Type 0 where
  pub order : IsPartialOrder (IsAtMost joined)
  pub bounds : GivesLeastUpperBound (IsAtMost joined) joined
  pub bottom : (a : W) → is_word a → IsAtMost joined least a
