use Rattle.std.proofs.Common.{◌≡◌, ◌∙◌, ◌+◌, arith, rules}
use Rattle.wl_noise.specs.Noise.{burst_start}
use Rattle.wl_noise.proofs.Starts.{each_of, ended_after, late_all, one_more, place_here, start_here, state_after}
use Rattle.wl_noise.proofs.noise.bursts.Goals as goal

pub returns-then-end-from : goal.returns-then-end-from
returns-then-end-from c =
    let start : c.loop-k.ended + c.gap_by.result ≡ burst_start c.args.noise c.loop-k.k =
    start_here c.args.noise c.loop-k.k c.loop-k.words c.loop-k.ended c.next_word.result c.next_word.new.self c.gap_by.result
    c.loop-k.invariant.words c.loop-k.invariant.ended c.next_word.ensures c.gap_by.ensures.gap in
    record {
      bursts =
          c.loop-k.invariant.made
          ∙ late_all c.args.noise c.args.end c.loop-k.k c.args.most (omega arith) (omega arith);
      each = each_of c.args.noise c.args.end c.requires.noise c.loop-k.k c.loop-k.all.items c.loop-k.invariant.made;
    }

pub returns : goal.returns
returns c = record { bursts = search rules; each = each_of c.args.noise c.args.end c.requires.noise c.loop-k.k c.loop-k.all.items c.loop-k.invariant.made }

pub loop-k-preserved : goal.loop-k-preserved
loop-k-preserved c =
    let start : c.loop-k.ended + c.gap_by.result ≡ burst_start c.args.noise c.loop-k.k =
    start_here c.args.noise c.loop-k.k c.loop-k.words c.loop-k.ended c.next_word.result c.next_word.new.self c.gap_by.result
    c.loop-k.invariant.words c.loop-k.invariant.ended c.next_word.ensures c.gap_by.ensures.gap in
    record {
      made =
          one_more c.args.noise c.args.end c.loop-k.k _ c.min.result _ c.loop-k.all.items c.push.new.self.items
          c.loop-k.invariant.made start c.min.ensures
          (place_here c.args.noise c.loop-k.k c.loop-k.words c.loop-k.ended c.next_word.result c.next_word.new.self c.gap_by.result
          c.loop-k.invariant.words c.loop-k.invariant.ended c.next_word.ensures c.gap_by.ensures.gap
          c.next_word-in-loop-k.result c.next_word-in-loop-k.new.self c.next_word-in-loop-k.ensures)
          c.if-end-from.false c.in_ok-push.ensures.items;
      words =
          state_after c.args.noise c.loop-k.k c.loop-k.words c.loop-k.ended c.next_word.result c.next_word.new.self c.gap_by.result
          c.loop-k.invariant.words c.loop-k.invariant.ended c.next_word.ensures c.gap_by.ensures.gap
          c.next_word-in-loop-k.result c.next_word-in-loop-k.new.self c.next_word-in-loop-k.ensures;
      ended =
          ended_after c.args.noise c.loop-k.k c.loop-k.words c.loop-k.ended c.next_word.result c.next_word.new.self c.gap_by.result
          c.loop-k.invariant.words c.loop-k.invariant.ended c.next_word.ensures c.gap_by.ensures.gap
          c.next_word-in-loop-k.result c.next_word-in-loop-k.new.self c.next_word-in-loop-k.ensures;
      early = omega arith;
    }
