use Rattle.std.proofs.Common.{◌++◌, codes, refl, length}
use Rattle.wl_parts.specs.Text.{bytes_words, each_words, list_words, word_words}
use Rattle.wl_parts.proofs.Answered.{sets_err, sets_within}
use Rattle.wl_parts.proofs.read.sweep.Goals as goal

pub returns-in_err-rest-3 : goal.returns-in_err-rest-3
returns-in_err-rest-3 c = λ p rest fits e.
    let first = c.in_ok-rest.ensures p.of (codes ",\"words\":[" ++ list_words word_words p.words (codes "null],\"members\":" ++ bytes_words p.members (codes ",\"tail\":" ++ bytes_words p.tail rest))) e in
    let second = c.in_ok-count.ensures (length p.words) (each_words word_words p.words (codes "null],\"members\":" ++ bytes_words p.members (codes ",\"tail\":" ++ bytes_words p.tail rest))) fits refl first.1 in
    let third = c.in_ok-rest-2.ensures p.words (codes "null],\"members\":" ++ bytes_words p.members (codes ",\"tail\":" ++ bytes_words p.tail rest)) second.0 second.1 in
    sets_err c.from_residual-in_err-rest-3.result c.in_err-rest-3.field-0.0 _ _ rest c.from_residual-in_err-rest-3.ensures.1
    (c.in_err-rest-3.ensures p.members (codes ",\"tail\":" ++ bytes_words p.tail rest) third.1)

pub returns : goal.returns
returns c = λ p rest fits e.
    let first = c.in_ok-rest.ensures p.of (codes ",\"words\":[" ++ list_words word_words p.words (codes "null],\"members\":" ++ bytes_words p.members (codes ",\"tail\":" ++ bytes_words p.tail rest))) e in
    let second = c.in_ok-count.ensures (length p.words) (each_words word_words p.words (codes "null],\"members\":" ++ bytes_words p.members (codes ",\"tail\":" ++ bytes_words p.tail rest))) fits refl first.1 in
    let third = c.in_ok-rest-2.ensures p.words (codes "null],\"members\":" ++ bytes_words p.members (codes ",\"tail\":" ++ bytes_words p.tail rest)) second.0 second.1 in
    let fourth = c.in_ok-rest-3.ensures p.members (codes ",\"tail\":" ++ bytes_words p.tail rest) third.1 in
    sets_within c.bytes-3.result c.bytes-3.new.read p.tail _ _ rest
    (λ tail i. record {
      of = first.0 i;
      number = c.args.read.now.number;
      count = c.args.read.now.count;
      words = third.0 i;
      members = fourth.0 i;
      tail = tail i;
      found = c.args.read.now.found;
    })
    (c.bytes-3.ensures p.tail rest fourth.1)
