-- The contents of slots, a word at each key, and how they are joined. This project's profile.
use Rattle.std.specs.Prelude.{◌≡◌, ℕ, unwrap_or}
use Rattle.std.specs.Ordering.{nat_cmp, ordering_then}
use Rattle.std.specs.BTreeMap.{BTreeMap, get}

-- two contents, joined key by key
abbrev pub contents_joined : {K W : Type 0} → (W → W → W) → (K → W) → (K → W) → K → W
contents_joined joined a b q = joined (a q) (b q)

-- a word was joined in at one key, and each other key has its word as before
pub record IsRaised {K W : Type 0} (joined : W → W → W) (old : K → W) (key : K) (word : W) (new : K → W) : Type 0 where
  pub here : new key ≡ joined (old key) word
  pub others : (q : K) → ¬ (q ≡ key) → new q ≡ old q

-- Joining contents key by key is a join again, in which contents of least words alone are neutral.
pub record JoinsContents (K : Type 0) {W : Type 0} (is_word : W → Type 0) (least : W) (joined : W → W → W) : Type 0 where
  pub commutes : (a b : K → W) → contents_joined joined a b ≡ contents_joined joined b a
  pub associates : (a b c : K → W) → contents_joined joined (contents_joined joined a b) c ≡ contents_joined joined a (contents_joined joined b c)
  pub idempotent : (a : K → W) → contents_joined joined a a ≡ a
  pub neutral : (a : K → W) → ((q : K) → is_word (a q)) → contents_joined joined (λ q. least) a ≡ a

-- the word that an ordered map has at a key, by a number and then another; the least word where it has none
abbrev pub word_in_map : {W : Type 0} → W → BTreeMap (ℕ × ℕ) W → ℕ × ℕ → W
word_in_map least m q = unwrap_or (get (λ a b. ordering_then (nat_cmp a.0 b.0) (nat_cmp a.1 b.1)) m q) least
