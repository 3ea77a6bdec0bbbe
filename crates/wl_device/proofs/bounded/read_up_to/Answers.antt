use Rattle.std.proofs.Common.{ap, sym, subst, arith, ◌∙◌, ◌≡◌, ◌+◌, ◌≤◌, ◌<◌, ◌++◌, List, [], ◌∷◌, ℕ, length, take}
use Rattle.wl_device.specs.declared.bounded.Ended.TheVariants as end
use Rattle.wl_device.specs.Devices.{Answer, moved, again}
use Rattle.wl_device.specs.Limits.{most_calls, most_calls-is}
use Rattle.wl_device.specs.Bounded.{ReadsUpTo}
use Rattle.wl_device.proofs.Runs.{SoFar, more_moved, more_again}
use Rattle.wl_device.proofs.BoundedLemmas.{at_end, at_failure, at_last_call, at_full}
use Rattle.wl_device.proofs.bounded.read_up_to.Goals as goal
use Rattle.wl_device.proofs.bounded.read_up_to.Goals.{in-Bytes+in_ok-extend_from_slice-in-Bytes+else-len-most, in-Again}

pub returns-then-len-most : goal.returns-then-len-most
returns-then-len-most g c =
    let gives = g.R.Source.gives in
    let came = take c.in-Bytes.n c.read.new.buffer in
    let items : c.extend_from_slice.new.self.items ≡ c.loop.text.items ++ came = c.in_ok-extend_from_slice-in-Bytes.ensures.items in
    let few : c.loop.counter < most_calls = omega (arith, most_calls-is) in
    let past : c.args.most < length (c.loop.text.items ++ came) =
    omega (arith, ap length items, c.in_ok-extend_from_slice-in-Bytes.ensures.len, c.extend_from_slice.new.self.ok.0, c.len.ensures) in
    let P : List ℕ → Type 0 = λ b. ReadsUpTo gives c.args.reader.now c.args.most b end.Full c.read.new.self in
    subst P (sym items) (at_full gives c.args.most c.loop.invariant.1 few c.loop.invariant.2 came c.read.new.self c.in-Bytes.ensures.gives past)

pub returns-in-End : goal.returns-in-End
returns-in-End g c =
    at_end g.R.Source.gives c.args.most c.loop.invariant.1 (omega (arith, most_calls-is)) c.loop.invariant.2 c.read.new.self c.in-End.ensures.gives

pub returns-in-Failed : goal.returns-in-Failed
returns-in-Failed g c =
    at_failure g.R.Source.gives c.args.most c.loop.invariant.1 (omega (arith, most_calls-is)) c.loop.invariant.2 c.read.new.self c.in-Failed.ensures.gives

pub returns : goal.returns
returns g c = at_last_call g.R.Source.gives c.args.most c.loop.invariant.1 (omega (arith, most_calls-is)) c.loop.invariant.2

pub loop-preserved : goal.loop-preserved
loop-preserved g c =
    let P : List ℕ → Type 0 = λ b. (answers : List Answer) × SoFar g.R.Source.gives c.args.reader.now b (c.loop.counter + 1) c.read.new.self answers × (length b ≤ c.args.most) in
    elim c.match-read.branch [
      | in-Bytes+in_ok-extend_from_slice-in-Bytes+else-len-most w ↦
          let came = take w.in-Bytes.n c.read.new.buffer in
          let items : w.extend_from_slice.new.self.items ≡ c.loop.text.items ++ came = w.in_ok-extend_from_slice-in-Bytes.ensures.items in
          let small : length (c.loop.text.items ++ came) ≤ c.args.most =
          omega (arith, ap length items, w.extend_from_slice.new.self.ok.0, w.len.ensures, w.if-len-most.false) in
          subst P (sym (ap (λ v. v.items) w.text-is ∙ items))
          (c.loop.invariant.0 ++ moved came ∷ [], more_moved g.R.Source.gives c.loop.invariant.1 came c.read.new.self w.in-Bytes.ensures.gives, small)
      | in-Again w ↦
          subst P (sym (ap (λ v. v.items) w.text-is))
          (c.loop.invariant.0 ++ again ∷ [], more_again g.R.Source.gives c.loop.invariant.1 c.read.new.self w.in-Again.ensures.gives, c.loop.invariant.2)
    ]
