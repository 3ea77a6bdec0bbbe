use Rattle.std.proofs.Common.{◌∷◌, ◌<◌, [], get_or, length, take, ap, sym, ◌∙◌, arith}
use Rattle.wl_record_core.specs.declared.record.Record.TheVariants.{Edge}
use Rattle.wl_group.specs.GroupValue.{with_records}
use Rattle.wl_mail.proofs.Taken.{with_both, one_longer, changed_more}
use Rattle.wl_mail.proofs.hand_over.take_all.Goals as goal

pub loop-i-preserved : goal.loop-i-preserved
loop-i-preserved c =
    let was = c.loop-i.invariant in
    let rs = c.args.records.now in
    let i = c.loop-i.i in
    let low : i < length rs = let l = c.loop-i-test.true in omega arith in
    let taken = c.in_ok-news.ensures.ok in
    let one = get_or rs i (Edge 0 0 0) ∷ [] in (
      with_both c.taking_is_joining.ensures c.args.group.now c.loop-i.group c.take_one.new.group (take i rs) one was.0 taken
          ∙ ap (λ xs. with_records xs c.args.group.now) (sym (one_longer rs i (Edge 0 0 0) low)),
      changed_more c.joining_is_a_join.ensures c.args.group.now c.loop-i.group c.take_one.new.group (take i rs) one was.0 taken c.loop-i.changed c.in_ok-news.news was.1 c.in_ok-news.ensures.changed,
    )
