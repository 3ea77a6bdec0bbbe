-- The frames that have passed a node, beside those that the sender has begun.
use Rattle.std.proofs.Common.{◌≡◌, ◌∙◌, refl, sym, ap, ℕ, suc, ◌+◌, List, [], ◌∷◌, ◌++◌, Bool, true, false, cond, arith, length, append-nil, append_assoc, length-append}
use Rattle.std.specs.Prelude.{count_by, map}
use Rattle.std.proofs.lemmas.List.Sums.{sum_by-append}
use Rattle.wl_frame.specs.Grammar.{Content}
use Rattle.wl_node.specs.declared.setup.NodeSetup.{NodeSetup}
use Rattle.wl_node.specs.declared.setup.Passed.{Passed}
use Rattle.wl_node.specs.History.{is_sent}
use Rattle.wl_buses.specs.BothProofs.Queues.{unsent_after}
use Rattle.wl_buses.proofs.BothProofs.Heads.{IsHandedBy, sent_length, unsent_first}

abbrev pub contents : List Passed → List Content
contents = map (λ p. p.frame)

-- The first n frames of a line, sent or received. If the node with this setup has sent them, the others of its queue are left.
pub record IsPassed (setup : NodeSetup) (line : List Content) (sent : Bool) (n : ℕ) (passed : List Passed) : Type 0 where
  pub rest : List Content
  pub whole : contents passed ++ rest ≡ line
  pub count : count_by is_sent passed ≡ cond sent n 0
  pub long : length passed ≡ n
  pub left : sent ≡ true → length (unsent_after setup passed) + n ≡ length setup.queue

pub none_passed : (setup : NodeSetup) (line : List Content) (sent : Bool) → IsPassed setup line sent 0 []
none_passed setup line sent = record {
  rest = line;
  whole = refl;
  count = none sent;
  long = refl;
  left = λ own. (let e = ap length (unsent_first setup) in omega arith);
}
  where
    none : (sent : Bool) → count_by is_sent [] ≡ cond sent 0 0
    none true = refl
    none false = refl

contents_more : (a b : List Passed) → contents (a ++ b) ≡ contents a ++ contents b
contents_more [] b = refl
contents_more (x ∷ a) b = ap (λ v. x.frame ∷ v) (contents_more a b)

pub contents_long : (passed : List Passed) → length (contents passed) ≡ length passed
contents_long [] = refl
contents_long (x ∷ passed) = ap suc (contents_long passed)

-- so it is of a longer line
pub still_passed : (setup : NodeSetup) (line more : List Content) (sent : Bool) (n : ℕ) (passed : List Passed) → IsPassed setup line sent n passed → IsPassed setup (line ++ more) sent n passed
still_passed setup line more sent n passed is = record {
  rest = is.rest ++ more;
  whole = sym (append_assoc (contents passed) is.rest more) ∙ ap (λ v. v ++ more) is.whole;
  count = is.count;
  long = is.long;
  left = is.left;
}

-- all frames of a line have passed
no_rest : (passed rest line : List Content) → length passed ≡ length line → passed ++ rest ≡ line → passed ≡ line
no_rest passed rest line same whole = by rest whole
  where
    by : (r : List Content) → passed ++ r ≡ line → passed ≡ line
    by [] e = sym (append-nil passed) ∙ e
    by (x ∷ more) e = (let sum = length-append passed (x ∷ more) in let all = ap length e in absurd (omega arith))

-- and then one more
pub one_passed : (setup : NodeSetup) (line : List Content) (frame : Content) (sent : Bool) (n quantum : ℕ) (passed : List Passed) → length line ≡ n → (sent ≡ true → IsHandedBy setup (unsent_after setup passed) frame)
    → IsPassed setup line sent n passed → IsPassed setup (line ++ frame ∷ []) sent (suc n) (passed ++ record { sent = sent; quantum = quantum; frame = frame } ∷ [])
one_passed setup line frame sent n quantum passed all handed is = record {
  rest = [];
  whole =
      append-nil (contents (passed ++ record { sent = sent; quantum = quantum; frame = frame } ∷ [])) ∙ contents_more passed (record { sent = sent; quantum = quantum; frame = frame } ∷ [])
      ∙ ap (λ v. v ++ frame ∷ []) (no_rest (contents passed) is.rest line (contents_long passed ∙ is.long ∙ sym all) is.whole);
  count =
      sum_by-append (λ p. cond (is_sent p) 1 0) passed (record { sent = sent; quantum = quantum; frame = frame } ∷ [])
      ∙ ap (λ k. k + (0 + cond sent 1 0)) is.count ∙ counted sent n;
  long = length-append passed (record { sent = sent; quantum = quantum; frame = frame } ∷ []) ∙ ap (λ k. k + 1) is.long ∙ omega arith;
  left = λ own.
      (let h = handed own in
      let fewer = sent_length setup passed (record { sent = sent; quantum = quantum; frame = frame }) h.0 own h.1 in
      let before = is.left own in
      omega arith);
}
  where
    counted : (sent : Bool) (n : ℕ) → cond sent n 0 + (0 + cond sent 1 0) ≡ cond sent (suc n) 0
    counted true n = omega arith
    counted false n = omega arith
