use Rattle.std.proofs.Common.{◌≡◌, ◌<◌, ◌∙◌, ap, sym, length, map, arith}
use Rattle.std.proofs.Math.Seq.{map-set_same}
use Rattle.std.proofs.lemmas.List.{map-set, get_or-map}
use Rattle.wl_mail.proofs.Counts.{as_many, still_as_many, counted_more, counted_all}
use Rattle.wl_mail.proofs.senders.Senders.send.Goals as goal

pub returns-in_err-send-clause-some : goal.returns-in_err-send-clause-some
returns-in_err-send-clause-some g c = (
  c.loop-i.i,
  map-set_same (λ sender. sender.letters) c.loop-i.self-inside.all.items c.loop-i.i c.send.new.self c.index_mut.result.now
      (c.in_err-send.ensures.err ∙ ap (λ sender. sender.letters) c.index_mut.ensures.value)
      ∙ c.loop-i.invariant,
)

pub loop-i-preserved : goal.loop-i-preserved
loop-i-preserved g c =
    let items = c.loop-i.self-inside.all.items in
    let i = c.loop-i.i in
    let counts = c.args.self.now in
    let first : length c.self.inside.all.items ≡ length counts = as_many (λ sender. sender.letters) c.self.inside.all.items counts c.self.view_is in
    let now : length items ≡ length counts = still_as_many (λ sender. sender.letters) items i counts c.loop-i.invariant in
    let all : c.len-i-end.result ≡ length counts = let e = c.len-i-end.ensures in let ok = c.self.inside.all.ok in omega arith in
    let inside : i < length items = let low = c.loop-i-test.true in omega arith in
    map-set (λ sender. sender.letters) items i c.send.new.self
    ∙ counted_more counts (map (λ sender. sender.letters) items) i c.send.new.self.letters c.index_mut.result.now.letters c.len-i-end.result
    c.loop-i.invariant c.loop-i-test.true all
    (ap (λ sender. sender.letters) c.index_mut.ensures.value ∙ sym (get_or-map (λ sender. sender.letters) items i c.index_mut.result.now 0 inside)) c.in_ok-send.ensures.ok

pub returns-clause-all : goal.returns-clause-all
returns-clause-all g c =
    let counts = c.args.self.now in
    let first : length c.self.inside.all.items ≡ length counts = as_many (λ sender. sender.letters) c.self.inside.all.items counts c.self.view_is in
    let all : c.len-i-end.result ≡ length counts = let e = c.len-i-end.ensures in let ok = c.self.inside.all.ok in omega arith in
    counted_all counts (map (λ sender. sender.letters) c.loop-i.self-inside.all.items) c.loop-i.i c.len-i-end.result c.loop-i.invariant c.loop-i.auto.i-end c.loop-i-test.false all
